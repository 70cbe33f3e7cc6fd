-- What an exchange of a link may name, its agent knows.
use Rattle.std.proofs.Common.{List, None, Option, Some, arith, refl, subst, suc, sym, true, zero, ℕ, ◌+◌, ◌≡◌}
use Rattle.orc_projection.proofs.Shows.{empty_holds}
use Rattle.std.specs.Option.{option_map}
use Rattle.std.specs.Prelude.{nat_lt, not, ◌&&◌}
use Rattle.orc_core.proofs.Within.{and_both, may_parts}
use Rattle.orc_core.specs.Allowed.{may as may_make, may_change, may_place, may_target}
use Rattle.orc_core.specs.Machine.{Machine, record_at}
use Rattle.orc_core.specs.RecordParts.{any_holds, holds, is_empty, names, slot_of}
use Rattle.orc_core.specs.declared.ops.Op.TheVariants.{LinkCas}
use Rattle.orc_core.specs.declared.records.Agent.{Agent}
use Rattle.orc_heap.specs.Acts.{IsKnown, IsTarget}
use Rattle.orc_heap.specs.Heap.{Heap}
use Rattle.orc_heap.specs.Journals.{run_heap}
use Rattle.orc_heap.specs.declared.events.Event.{Event}
use Rattle.orc_machine_board.specs.Laws.Steps.{in_range}
use Rattle.orc_machine_board.specs.Rules.{bounds_in, heap_numbers, run_of}
use Rattle.orc_machine_board.specs.Views.{Keeps}
use Rattle.orc_machine_board.specs.declared.machine.MachineShape.{MachineShape}
use Rattle.orc_projection.proofs.Mirrored.{projection_mirrors}
use Rattle.orc_projection.specs.Mirror.{Mirrors}
use Rattle.orc_projection.specs.PresentIds.{PresentIds}
use Rattle.orc_projection.specs.Projection.{present_ids, project}
use Rattle.orc_shared_words.specs.declared.journal.View.{View}
use Rattle.orc_sound.proofs.Quiet.{held_at}
use Rattle.orc_sound.specs.declared.steps.Step.{Step}
use Rattle.orc_words.specs.Bounds.{Bounds}
use Rattle.orc_words.specs.declared.packed.RowLink.{RowLink}
use Rattle.orc_words.specs.declared.place.Word.{Word}

-- slot 0 is empty, and the new target is null or held
pub record Exchanges (b : Bounds) (d : Agent) (to : RowLink) : Type 0 where
  pub empty : is_empty (slot_of d 0) ≡ true
  pub target : may_target b d to.to ≡ true

pub exchanges : (b : Bounds) (a : ℕ) (d : Agent) (place : Word) (from to : RowLink) → may_make b 0 a (LinkCas place from to) d ≡ true → Exchanges b d to
exchanges b a d place from to h =
    let is = (may_parts b 0 a (LinkCas place from to) d h).fits in
    let there = may_place b place (λ r. any_holds d.slots r && not (names d.fresh r)) in
    let one = and_both (there && is_empty (slot_of d 0) && may_target b d from.to && may_target b d to.to) (may_change d (b.limit + 64) from.to to.to) is in
    let two = and_both (there && is_empty (slot_of d 0) && may_target b d from.to) (may_target b d to.to) one.0 in
    let three = and_both (there && is_empty (slot_of d 0)) (may_target b d from.to) two.0 in
    record { empty = (and_both there (is_empty (slot_of d 0)) three.0).1; target = two.1 }

held_target : (b : Bounds) (d : Agent) (to : Option ℕ) (r : ℕ) → may_target b d to ≡ true → to ≡ Some r → any_holds d.slots r ≡ true
held_target b d to r h e = let held = subst (λ t. may_target b d t ≡ true) e h in (and_both (nat_lt r b.rows) (any_holds d.slots r) held).1

-- what an agent holds while its slot 0 is empty is known to it
holder_knows : (m : Machine) (p : PresentIds) (h : Heap) (a r : ℕ) → Mirrors m p h → is_empty (slot_of (record_at m a) 0) ≡ true
    → any_holds (record_at m a).slots r ≡ true → IsKnown a h (p.node r)
holder_knows m p h a r mirrors empty held = let w = held_at (record_at m a).slots r held in at w.at w.hold
  where
    at : (k : ℕ) → holds (slot_of (record_at m a) k) r ≡ true → IsKnown a h (p.node r)
    at zero hold = absurd (empty_holds (slot_of (record_at m a) 0) r empty hold)
    at (suc k) hold = mirrors.held a (suc k) r (omega arith) hold

is_target : (a : ℕ) (p : PresentIds) (h : Heap) (to : Option ℕ) → ((r : ℕ) → to ≡ Some r → IsKnown a h (p.node r)) → IsTarget a h (option_map p.node to)
is_target a p h None known = tt
is_target a p h (Some r) known = known r refl

pub target_known : {N : Type 0} (k : MachineShape N) (holds : List (Event N) → Type 0) (may : List (Event N) → Event N → Type 0) (v : View (Step N) Agent)
    (a : ℕ) → Keeps k holds may v a → (place : Word) (from to : RowLink)
    → may_make (bounds_in k) 0 a (LinkCas place from to) v.own ≡ true
    → IsTarget a (run_heap (heap_numbers k) (project (bounds_in k) v.seen)) (option_map (present_ids (bounds_in k) v.seen).node to.to)
target_known k holds may v a kept place from to can =
    let b = bounds_in k in
    let m = run_of b v.seen in
    let ids = present_ids b v.seen in
    let h = run_heap (heap_numbers k) (project b v.seen) in
    let mirrors = projection_mirrors b v.seen (in_range k.shape) kept.now.lawful.0 kept.now.lawful.1 in
    let is : Exchanges b (record_at m a) to = subst (λ d. Exchanges b d to) (sym kept.now.mine) (exchanges b a v.own place from to can) in
    is_target a ids h to.to (λ r e. holder_knows m ids h a r mirrors is.empty (held_target b (record_at m a) to.to r is.target e))
