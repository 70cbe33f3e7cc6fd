-- What is seen of a state while a trace is audited, and what is seen of the steps so far.
use Rattle.std.specs.List.{list_any}
use Rattle.std.specs.Prelude.{Bool, List, None, Option, Some, false, is_none, is_some, length, not, true, ℕ, ◌&&◌, ◌+◌, ◌<◌, ◌==◌, ◌≡◌, ◌≤◌}
use Rattle.orc_words.specs.Bounds.{Bounds}
use Rattle.orc_words.specs.Packed.{bit}
use Rattle.orc_core.specs.Counts.{handovers, is_out}
use Rattle.orc_core.specs.Machine.{Machine, record_at}
use Rattle.orc_core.specs.Sums.{sum_below}
use Rattle.orc_core.specs.declared.ops.Op.{Op}
use Rattle.orc_core.specs.declared.records.Agent.{Agent}
use Rattle.orc_core.specs.declared.records.Doom.{Doom}
use Rattle.orc_core.specs.declared.records.SlotUse.{SlotUse}
use Rattle.orc_core.specs.declared.records.SlotUse.TheVariants.{Empty, Held, Published}
use Rattle.orc_sound.specs.Decisions.{all_below}
use Rattle.orc_trace.specs.Audit.{IsFirstLeak, IsWorst, Leaks}
use Rattle.orc_trace.specs.Reaching.{is_marked}
use Rattle.orc_trace.specs.declared.answers.Leak.{Leak}
use Rattle.orc_trace.specs.declared.auditing.SeenSoFar.{SeenSoFar}

-- the doomed row has its retired bit still
abbrev pub has_bit : Option Doom → Bool
has_bit None = false
has_bit (Some d) = not d.bare

-- the retired rows that wait with an agent outside its work list: in hand, scanned or doomed, and in its handover words
abbrev pub waiting_at : Machine → ℕ → ℕ
waiting_at m a = bit (is_some (record_at m a).hand) + bit (is_some (record_at m a).scan) + bit (has_bit (record_at m a).doom) + handovers m a

-- those of all agents
abbrev pub waiting : Machine → ℕ
waiting m = sum_below m.bounds.agents (waiting_at m)

-- the slot protects a row
abbrev pub slot_holds : SlotUse → Bool
slot_holds Empty = false
slot_holds (Published r) = false
slot_holds (Held r) = true

-- the agent has nothing under way
abbrev pub rests : Agent → Bool
rests d =
    not (list_any slot_holds d.slots) && is_none d.fresh && is_none d.inc && is_none d.dec && is_none d.due && is_none d.hand && is_none d.scan && is_none
    d.doom && (length d.list.items == 0)

-- nor was anything handed to it
abbrev pub rests_at : Machine → ℕ → Bool
rests_at m a = rests (record_at m a) && (handovers m a == 0)

-- the same of all agents
abbrev pub at_rest : Machine → Bool
at_rest m = all_below m.bounds.agents (rests_at m)

-- the row is out and has no mark
abbrev pub is_lost : Machine → List Bool → ℕ → Bool
is_lost m marks r = is_out m r && not (is_marked marks r)

-- the least row that leaks, or none
abbrev pub IsLeastLeak : Machine → Option ℕ → Type 0
IsLeastLeak m None = (r : ℕ) → ¬ Leaks m r
IsLeastLeak m (Some q) = Leaks m q × ((r : ℕ) → r < q → ¬ Leaks m r)

-- a backlog after k steps is the worst so far where it is greater than the one before
pub record WorseOf (backlog k most after new_most new_after : ℕ) : Type 0 where
  pub more : most < backlog → (new_most ≡ backlog) × (new_after ≡ k)
  pub same : backlog ≤ most → (new_most ≡ most) × (new_after ≡ after)

-- the first leak stays; where there was none, it is that of this state, after k steps
abbrev pub LeakOn : Machine → ℕ → Option Leak → Option Leak → Type 0
LeakOn m k (Some l) n = n ≡ Some l
LeakOn m k None None = IsLeastLeak m None
LeakOn m k None (Some l) = (l.after ≡ k) × IsLeastLeak m (Some l.row)

-- what is seen of these steps
pub record SeesSteps (b : Bounds) (steps : List (ℕ × Op)) (s : SeenSoFar) : Type 0 where
  pub number : s.steps ≡ length steps
  pub worst : IsWorst b steps s.most s.after
  pub leak : IsFirstLeak b steps s.leak
