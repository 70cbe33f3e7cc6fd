-- Why a call of a set is refused: facts of a journal and two places in it.
use Rattle.std.specs.List.{list_all}
use Rattle.std.specs.Prelude.{List, drop, if◌then◌else◌, length, take, true, ℕ, [], ◌∷◌, ◌+◌, ◌==◌, ◌≡◌, ◌≢◌, ◌≤◌}
use Rattle.orc_fault.specs.declared.Spent.{Spent as SpentRow}
use Rattle.orc_heap.specs.Moves.{move_with}
use Rattle.orc_heap.specs.declared.events.Event.{Event}
use Rattle.orc_history.specs.Journals.{Within}
use Rattle.orc_history.specs.declared.set.ListRefused.{ListRefused}
use Rattle.orc_history.specs.declared.set.ListRefused.TheVariants.{Again, NoNode, Spent}

-- how many Moves of agents other than this one stand in the events
abbrev pub others_moves : {N : Type 0} → ℕ → List (Event N) → ℕ
others_moves agent [] = 0
others_moves agent (e ∷ es) = (if e.agent == agent then 0 else move_with e.act) + others_moves agent es

-- all turns were used: as many Moves of other agents stand between the two places, so another agent has a step there if there
-- were any
pub record UsesTurns {N S : Type 0} (agent_of : S → ℕ) (events : List S → List (Event N)) (agent turns : ℕ) (journal : List S) (from to : ℕ) : Type 0 where
  pub in_order : from ≤ to
  pub in_journal : to ≤ length journal
  pub moves : others_moves agent (events (take from journal)) + turns ≤ others_moves agent (events (take to journal))
  pub not_alone : 1 ≤ turns → list_all (λ s. agent_of s == agent) (drop from (take to journal)) ≡ true → ⊥

-- between the ends of two journals, the later of which is the longer, the domain read some row's sequence at its limit
abbrev pub HasWorn : {S : Type 0} → (SpentRow → List S → ℕ → ℕ → Type 0) → List S → List S → Type 0
HasWorn worn before after = (why : SpentRow) × Within (length before) (length after) (worn why after)

-- the cause of each refusal, where `Lacks` says that no row could be given, and `Worn` that a row was worn
abbrev pub Cause : {N S : Type 0} → (S → ℕ) → (List S → List (Event N)) → Type 0 → (SpentRow → Type 0) → ℕ → ℕ → ListRefused → List S → ℕ → ℕ → Type 0
Cause agent_of events Lacks Worn agent turns Again journal from to = UsesTurns agent_of events agent turns journal from to
Cause agent_of events Lacks Worn agent turns NoNode journal from to = (turns ≢ 0) × Lacks
Cause agent_of events Lacks Worn agent turns (Spent why) journal from to = (turns ≢ 0) × Worn why
