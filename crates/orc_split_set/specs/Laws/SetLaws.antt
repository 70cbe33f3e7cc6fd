-- Proofs of the laws that a split-ordered set owes to its traits.
use Rattle.std.proofs.Common.{List, [], ap, arith, subst, sym, ℕ, ◌++◌, ◌<◌, ◌==◌, ◌∙◌, ◌∷◌, ◌≡◌}
use Rattle.std.proofs.lemmas.List.{length-append, take-append-le}
use Rattle.std.specs.List.{list_all, AllByRecursion}
use Rattle.std.specs.Prelude.{true}
use mathlib.Core.List.{IsPrefix}
use Rattle.orc_fault.specs.declared.Spent.{Spent as SpentRow}
use Rattle.orc_heap.proofs.OwnEntries.{entries_agents, noted-append}
use Rattle.orc_heap.proofs.Steps.{events_grow}
use Rattle.orc_heap.specs.Allowed.{AllAllowed}
use Rattle.orc_heap.specs.Heap.{HeapNumbers}
use Rattle.orc_heap.specs.OwnEvents.{IsBelow}
use Rattle.orc_heap.specs.declared.events.Event.{Event}
use Rattle.orc_history.specs.SetHistory.{IsLegalSet, agent_of_set_entry}
use Rattle.orc_history.specs.declared.set.ListRefused.{ListRefused}
use Rattle.orc_history.specs.declared.set.ListRefused.TheVariants.{Again, NoNode, Spent}
use Rattle.orc_history.specs.declared.set.SetEntry.{SetEntry}
use Rattle.orc_ordered_search.specs.Causes.{Cause}
use Rattle.orc_split_rule.proofs.OwnEntries.{entries_own}
use Rattle.orc_split_rule.specs.SplitDiscipline.{SplitHolds, SplitMay, entries_in, entries_of}
use Rattle.orc_split_rule.specs.declared.split.SplitNote.{SplitNote}

-- the history is legal
pub seen_legal : (n : HeapNumbers) (seen events : List (Event SplitNote)) → SplitHolds n seen → seen ≡ events → IsLegalSet (entries_of events)
seen_legal n seen events holds is = subst (λ z. IsLegalSet (entries_of z)) is holds.legal

-- the history of a longer journal goes on
pub history_grows : {S : Type 0} (agent_of : S → ℕ) (events : List S → List (Event SplitNote))
    → ((j : List S) (s : S) → (es : List (Event SplitNote)) × (events (j ++ s ∷ []) ≡ events j ++ es) × (list_all (λ e. e.agent == agent_of s) es ≡ true))
    → (seen more : List S) → IsPrefix (entries_of (events seen)) (entries_of (events (seen ++ more)))
history_grows agent_of events adds seen more =
    let (new, is) = events_grow agent_of events adds seen more in
    (entries_of new, sym (noted-append entries_in (events seen) new) ∙ ap entries_of is)

-- a cause stays one
pub cause_stays : {S : Type 0} (agent_of : S → ℕ) (events : List S → List (Event SplitNote))
    (Lacks Later : Type 0) (Worn LaterWorn : SpentRow → Type 0)
    (agent turns : ℕ) (why : ListRefused) (seen more : List S) (from to : ℕ)
    → (Lacks → Later) → ((spent : SpentRow) → Worn spent → LaterWorn spent) → Cause agent_of events Lacks Worn agent turns why seen from to
    → Cause agent_of events Later LaterWorn agent turns why (seen ++ more) from to
cause_stays agent_of events Lacks Later Worn LaterWorn agent turns Again seen more from to stays worn c =
    let take_from = take-append-le from seen more (omega (arith, c.in_order, c.in_journal)) in
    let take_to = take-append-le to seen more c.in_journal in
    record {
      in_order = c.in_order;
      in_journal = omega (arith, c.in_journal, length-append seen more);
      moves = rw (take_from, take_to) c.moves;
      not_alone = λ some. rw take_to (c.not_alone some);
    }
cause_stays agent_of events Lacks Later Worn LaterWorn agent turns NoNode seen more from to stays worn c = (c.0, stays c.1)
cause_stays agent_of events Lacks Later Worn LaterWorn agent turns (Spent spent) seen more from to stays worn c = (c.0, worn spent c.1)

-- whose the entries are
pub entries_below : (n : HeapNumbers) (agents : ℕ) (seen events : List (Event SplitNote)) → AllAllowed (SplitMay n) [] seen → IsBelow agents seen
    → seen ≡ events
    → AllByRecursion (λ (e : SetEntry). agent_of_set_entry e < agents) (entries_of events)
entries_below n agents seen events all below is =
    subst (λ z. AllByRecursion (λ (e : SetEntry). agent_of_set_entry e < agents) (entries_of z)) is
    (entries_agents entries_in agent_of_set_entry (SplitMay n) (entries_own n) (λ (a : ℕ). a < agents) [] seen all below)
