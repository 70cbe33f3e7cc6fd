-- What the laws of a domain say of the cell's history that a pass has seen.
use Rattle.std.proofs.Common.{◌≡◌, ◌==◌, ◌<◌, ℕ, List, [], ◌∷◌, ◌++◌, ap, subst, sym, true, ◌∙◌}
use Rattle.std.specs.List.{AllByRecursion, list_all}
use mathlib.Core.List.{IsPrefix}
use Rattle.orc_heap.proofs.OwnEntries.{entries_agents, noted-append}
use Rattle.orc_heap.proofs.Steps.{events_grow}
use Rattle.orc_heap.specs.Allowed.{AllAllowed}
use Rattle.orc_heap.specs.Heap.{HeapNumbers}
use Rattle.orc_heap.specs.OwnEvents.{IsBelow}
use Rattle.orc_heap.specs.declared.events.Event.{Event}
use Rattle.orc_pairs_rule.proofs.OwnEntries.{entries_own}
use Rattle.orc_pairs_rule.specs.CellHistory.{IsLegalCell, agent_of_entry}
use Rattle.orc_pairs_rule.specs.PairsDiscipline.{PairsHolds, PairsMay, entries_in, entries_of}
use Rattle.orc_pairs_rule.specs.declared.entry.CellEntry.{CellEntry}
use Rattle.orc_pairs_rule.specs.declared.pairs.PairsNote.{PairsNote}

prefix_entries : (es fs : List (Event PairsNote)) → IsPrefix es fs → IsPrefix (entries_of es) (entries_of fs)
prefix_entries es fs (more, is) = (entries_of more, sym (noted-append entries_in es more) ∙ ap entries_of is)

-- the history of a longer journal goes on
pub history_grows : {S : Type 0} (agent_of : S → ℕ) (events : List S → List (Event PairsNote))
    → ((j : List S) (s : S) → (es : List (Event PairsNote)) × (events (j ++ s ∷ []) ≡ events j ++ es) × (list_all (λ e. e.agent == agent_of s) es ≡ true))
    → (seen more : List S) → IsPrefix (entries_of (events seen)) (entries_of (events (seen ++ more)))
history_grows agent_of events adds seen more = prefix_entries (events seen) (events (seen ++ more)) (events_grow agent_of events adds seen more)

-- whose the entries are
pub entries_below : (n : HeapNumbers) (agents : ℕ) (seen events : List (Event PairsNote)) → AllAllowed (PairsMay n) [] seen → IsBelow agents seen
    → seen ≡ events → AllByRecursion (λ (e : CellEntry). agent_of_entry e < agents) (entries_of events)
entries_below n agents seen events all below is =
    subst (λ z. AllByRecursion (λ (e : CellEntry). agent_of_entry e < agents) (entries_of z)) is
    (entries_agents entries_in agent_of_entry (PairsMay n) (entries_own n) (λ (a : ℕ). a < agents) [] seen all below)

pub entries_legal : (n : HeapNumbers) (seen events : List (Event PairsNote)) → PairsHolds n seen → seen ≡ events → IsLegalCell (entries_of events)
entries_legal n seen events holds is = subst (λ z. IsLegalCell (entries_of z)) is holds.legal
