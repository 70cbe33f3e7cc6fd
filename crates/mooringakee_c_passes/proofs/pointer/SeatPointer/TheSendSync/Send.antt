-- A pointer may go to another thread: what it owns is a box of a value that may.
use Rattle.std.specs.Prelude.{Option, Some, None}
use base.Shift.{Keyless}
use mir.Raw.{raw as bare}
use denote.Memory.{lone}
use denote.RawPtr.{Ptr}
use denote.Param.Send.{IsSend, owning_send, sendable}
use Rattle.std.specs.Global.{Global}
use Rattle.std.proofs.Crossing.{crosses, frees}
use Rattle.std_alloc.proofs.SendSync.{lies}
use Rattle.mooringakee_c_passes.proofs.seat.Seat.TheSendSync as inner
use Rattle.mooringakee_c_passes.specs.Held.{held_box}
use Rattle.mooringakee_c_passes.specs.Seats.{IsSeat}
use Rattle.mooringakee_c_passes.proofs.Pointers.{R}
use Rattle.mooringakee_c_passes.specs.contracts.pointer.SeatPointer.{the_row, the_type}

inner_send : IsSend R
inner_send = inner.the_send

held_keyless : (a : Global) (s : Option R.Denot) (p : Ptr) → Keyless (held_box a R IsSeat s p)
unfolding held_box
held_keyless a (Some x) p = λ _. (lies R inner_send p x, frees.frees a (bare (lone R.mir)) p)
held_keyless a None p = tt

pub send : IsSend the_row
send = owning_send the_type (search (sendable, crosses) depth 20) (λ d. held_keyless d.alloc d.seat d.at) (λ k x w. tt)
