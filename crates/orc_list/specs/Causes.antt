-- Why a call of the list is refused: facts of a journal and two places in it.
use Rattle.std.specs.List.{list_all}
use Rattle.std.specs.Prelude.{List, drop, length, take, true, ℕ, ◌*◌, ◌+◌, ◌==◌, ◌≡◌, ◌≢◌, ◌≤◌}
use Rattle.orc_fault.specs.declared.Spent.{Spent as SpentRow}
use Rattle.orc_heap.specs.Heap.{HeapNumbers}
use Rattle.orc_heap.specs.Journals.{run_heap}
use Rattle.orc_heap.specs.declared.events.Event.{Event}
use Rattle.orc_history.specs.declared.set.SetEntry.{SetEntry}
use Rattle.orc_history.specs.declared.set.ListRefused.{ListRefused}
use Rattle.orc_history.specs.declared.set.ListRefused.TheVariants.{Again, NoNode, Spent}
use Rattle.orc_chain_rule.specs.ChainDiscipline.{entries_of}
use Rattle.orc_ordered_search.specs.Causes.{others_moves}
use Rattle.orc_chain_rule.specs.Counts.{AreLeftOver, adds_in, entries_of_others, removes_in}
use Rattle.orc_chain_rule.specs.declared.chain.ChainNote.{ChainNote}

-- what agents other than this one entered in the history between the two places
abbrev pub entered_by_others : {S : Type 0} → (List S → List (Event ChainNote)) → ℕ → List S → ℕ → ℕ → List SetEntry
entered_by_others events agent journal from to =
    entries_of_others agent (drop (length (entries_of (events (take from journal)))) (entries_of (events (take to journal))))

-- so many turns cost others' work between the two places: each key that they added there at most one turn, and each that they took
-- out at most two; and each marked node that was still on a chain at the first place at most one, whatever list these are covered by
abbrev pub CostTurns : {S : Type 0} → HeapNumbers → (List S → List (Event ChainNote)) → ℕ → ℕ → List S → ℕ → ℕ → Type 0
CostTurns n events agent turns journal from to = (ids : List ℕ) → AreLeftOver (run_heap n (events (take from journal))) ids
    → turns ≤ adds_in (entered_by_others events agent journal from to) + 2 * removes_in (entered_by_others events agent journal from to) + length ids

-- all turns were used: as many Moves of other agents stand between the two places, so another agent has a step there if there
-- were any; and what others entered there cost the turns
pub record UsesTurns {S : Type 0} (n : HeapNumbers) (agent_of : S → ℕ) (events : List S → List (Event ChainNote)) (agent turns : ℕ) (journal : List S)
    (from to : ℕ) : Type 0 where
  pub in_order : from ≤ to
  pub in_journal : to ≤ length journal
  pub moves : others_moves agent (events (take from journal)) + turns ≤ others_moves agent (events (take to journal))
  pub not_alone : 1 ≤ turns → list_all (λ s. agent_of s == agent) (drop from (take to journal)) ≡ true → ⊥
  pub cost : CostTurns n events agent turns journal from to

-- the cause of each refusal, where `Lacks` says that no row could be given, and `Worn` that a row was worn
abbrev pub Cause : {S : Type 0} → HeapNumbers → (S → ℕ) → (List S → List (Event ChainNote)) → Type 0 → (SpentRow → Type 0) → ℕ → ℕ
    → ListRefused → List S → ℕ → ℕ → Type 0
Cause n agent_of events Lacks Worn agent turns Again journal from to = UsesTurns n agent_of events agent turns journal from to
Cause n agent_of events Lacks Worn agent turns NoNode journal from to = (turns ≢ 0) × Lacks
Cause n agent_of events Lacks Worn agent turns (Spent why) journal from to = (turns ≢ 0) × Worn why
