-- The first part of a step: the word that a kind works on, and what it does there. It is a function of the
-- agent's number, the op and the agent's record.
-- Michael and Scott 1996 and Harris 2001 for the links, OrcGC (Correia, Ramalhete and Felber 2021) for the
-- counter words, slots and handovers; the order and conditions are this project's own.
use Rattle.std.specs.Prelude.{ℕ, ◌+◌, ◌*◌, ◌/◌, ◌%◌, ◌^◌, ◌<◌, cond, ◌==◌}
use Rattle.std.specs.Option.{ForSome}
use Rattle.orc_words.specs.declared.packed.TheConstants.{INCREMENT, DECREMENT, RETIRED}
use Rattle.orc_words.specs.declared.place.Word.TheVariants.{Enrolled, Gate, Counter, First, Second, Slot, Handover}
use Rattle.orc_words.specs.Packed.{link_word}
use Rattle.orc_words.specs.Places.{link_at}
use Rattle.orc_core.specs.declared.records.Agent.{Agent}
use Rattle.orc_words.specs.declared.operation.Operation.TheVariants.{Load, Store, Swap, Add, Sub, CompareExchange}
use Rattle.orc_core.specs.declared.actions.Action.{Action}
use Rattle.orc_core.specs.declared.ops.Op.{Op}
use Rattle.orc_core.specs.declared.ops.Op.TheVariants.{Enroll, GateLook, GateTake, Fill, Read, LinkLoad, Publish, Clear, Arm, LinkCas, LinkStore, Inc, Dec, SetRetired, CounterLoad, Unretire, SlotLook, Hand, TakeIn, Free, MoveOn, HandoverLook, DecHeld}
use Rattle.orc_core.specs.RecordParts.{number_of, scanned}

-- the counter word with count 0, no bit and this sequence
abbrev pub clear_word : ℕ → ℕ
clear_word q = q * 16777216 + 4194304

-- a: the agent's number, d: its record
abbrev pub action_of : ℕ → Op → Agent → Action
action_of a Enroll d = record { word = Enrolled; operation = Add 1 }
action_of a (GateLook r) d = record { word = Gate r; operation = Load }
action_of a (GateTake r) d = record { word = Gate r; operation = CompareExchange (2 * number_of d.looked) (2 * (number_of d.looked + 1) + 1) }
action_of a (Fill r which v) d = record { word = cond (which == 0) (First r) (Second r); operation = Store v }
action_of a (Read r which) d = record { word = cond (which == 0) (First r) (Second r); operation = Load }
action_of a (LinkLoad p slot) d = record { word = p; operation = Load }
action_of a (Publish k r) d = record { word = Slot a k; operation = Store (r + 1) }
action_of a (Clear k) d = record { word = Slot a k; operation = Store 0 }
action_of a (Arm r) d = record { word = Slot a 0; operation = Store (r + 1) }
action_of a (LinkCas p f t) d = record { word = p; operation = CompareExchange (link_word f) (link_word t) }
action_of a (LinkStore r l n) d = record { word = link_at n r; operation = Swap (link_word l) }
action_of a (Inc r) d = record { word = Counter r; operation = Add INCREMENT }
action_of a (Dec r) d = record { word = Counter r; operation = Add DECREMENT }
action_of a (SetRetired r q) d = record { word = Counter r; operation = CompareExchange (clear_word q) (clear_word q + RETIRED) }
action_of a (CounterLoad r how) d = record { word = Counter r; operation = Load }
action_of a (Unretire r) d = record { word = Counter r; operation = Sub RETIRED }
action_of a (SlotLook k) d = record { word = Slot (k / 8) (k % 8); operation = Load }
action_of a (Hand k) d = record { word = Handover (k / 8) (k % 8); operation = Swap (scanned d.scan + 1) }
action_of a (TakeIn k) d = record { word = Handover a k; operation = Swap 0 }
action_of a (Free r) d = record { word = Gate r; operation = Sub 1 }
action_of a (MoveOn k r) d = record { word = Slot a k; operation = Store (r + 1) }
action_of a (HandoverLook k) d = record { word = Handover a k; operation = Load }
action_of a (DecHeld r) d = record { word = Counter r; operation = Add DECREMENT }

-- the numbers that an action is made of are in the range of their words
abbrev pub IsPackable : Op → Agent → Type 0
IsPackable (GateTake r) d = number_of d.looked < 2 ^ 40
IsPackable (LinkCas p f t) d = ForSome f.to (λ r. r < 65535) × ForSome t.to (λ r. r < 65535)
IsPackable (LinkStore r l n) d = ForSome l.to (λ r. r < 65535)
IsPackable (SetRetired r q) d = q < 2 ^ 40
IsPackable _ d = Unit {0}
