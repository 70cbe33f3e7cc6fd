-- Proofs of the laws that the queue owes to its traits.
use Rattle.std.proofs.Common.{List, [], ap, arith, drop, subst, sym, take, ℕ, ◌++◌, ◌+◌, ◌<◌, ◌==◌, ◌^◌, ◌∙◌, ◌∷◌, ◌≡◌, ◌≤◌}
use Rattle.std.proofs.lemmas.List.{length-append, take-append-drop, take-append-le}
use Rattle.std.specs.List.{list_all, AllByRecursion}
use Rattle.std.specs.Prelude.{true}
use mathlib.Core.List.{IsPrefix}
use Rattle.orc_heap.proofs.Steps.{events_grow}
use Rattle.orc_heap.proofs.Stays.{allowed-left, allowed-right}
use Rattle.orc_heap.specs.Allowed.{AllAllowed}
use Rattle.orc_heap.specs.Heap.{HeapNumbers}
use Rattle.orc_heap.specs.Journals.{run_heap}
use Rattle.orc_heap.specs.OwnEvents.{IsBelow}
use Rattle.orc_heap.specs.declared.events.Event.{Event}
use Rattle.orc_history.proofs.Histories.{puts_in-append}
use Rattle.orc_history.specs.QueueHistory.{IsLegalQueue, agent_of_entry, puts_in}
use Rattle.orc_history.specs.declared.queue.QueueEntry.{QueueEntry}
use Rattle.orc_history.specs.declared.queue.QueueRefused.{QueueRefused}
use Rattle.orc_history.specs.declared.queue.QueueRefused.TheVariants.{Again, NoNode, Positions}
use Rattle.orc_fifo_rule.proofs.Later.{first_later, holds_later, nothing_yet}
use Rattle.orc_heap.proofs.OwnEntries.{entries_agents, noted-append}
use Rattle.orc_fifo_rule.proofs.OwnEntries.{entries_own}
use Rattle.orc_fifo_rule.specs.declared.fifo.FifoNote.{FifoNote}
use Rattle.orc_fifo_rule.specs.QueueDiscipline.{FifoHolds, FifoMay, entries_of, position_of, entries_in}
use Rattle.orc_queue.specs.Causes.{Cause, LacksPosition}
use Rattle.orc_queue.specs.Turns.{HasDummy}

-- the first position is that of the opening
pub first_stays : (n : HeapNumbers) (opening seen : List (Event FifoNote)) → HasDummy n opening → IsPrefix opening seen
    → AllAllowed (FifoMay n) [] seen → position_of (run_heap n seen) 0 ≡ position_of (run_heap n opening) 0
first_stays n opening seen made (more, is) all =
    let whole : AllAllowed (FifoMay n) [] (opening ++ more) = subst (λ z. AllAllowed (FifoMay n) [] z) (sym is) all in
    let begin = holds_later n [] opening (nothing_yet n) (allowed-left (FifoMay n) [] opening more whole) in
    ap (λ z. position_of (run_heap n z) 0) (sym is) ∙ first_later n opening more begin made.begun (allowed-right (FifoMay n) [] opening more whole)

-- the history is legal from there
pub seen_legal : (n : HeapNumbers) (opening seen events : List (Event FifoNote)) → HasDummy n opening → IsPrefix opening seen
    → AllAllowed (FifoMay n) [] seen → FifoHolds n seen → seen ≡ events
    → IsLegalQueue (position_of (run_heap n opening) 0) (entries_of events)
seen_legal n opening seen events made begins all holds is =
    subst (λ z. IsLegalQueue (position_of (run_heap n opening) 0) (entries_of z)) is
    (subst (λ (f : ℕ). IsLegalQueue f (entries_of seen)) (first_stays n opening seen made begins all) holds.legal)

prefix_entries : (es fs : List (Event FifoNote)) → IsPrefix es fs → IsPrefix (entries_of es) (entries_of fs)
prefix_entries es fs (more, is) = (entries_of more, sym (noted-append entries_in es more) ∙ ap entries_of is)

-- the history of a longer journal goes on
pub history_grows : {S : Type 0} (agent_of : S → ℕ) (events : List S → List (Event FifoNote))
    → ((j : List S) (s : S) → (es : List (Event FifoNote)) × (events (j ++ s ∷ []) ≡ events j ++ es) × (list_all (λ e. e.agent == agent_of s) es ≡ true))
    → (seen more : List S) → IsPrefix (entries_of (events seen)) (entries_of (events (seen ++ more)))
history_grows agent_of events adds seen more = prefix_entries (events seen) (events (seen ++ more)) (events_grow agent_of events adds seen more)

-- a cause stays one
pub cause_stays : {S : Type 0} (agent_of : S → ℕ) (events : List S → List (Event FifoNote)) (first : ℕ) (Lacks Later : Type 0) (agent turns : ℕ)
    (why : QueueRefused) (seen more : List S) (from to : ℕ)
    → (Lacks → Later) → Cause agent_of events first Lacks agent turns why seen from to
    → Cause agent_of events first Later agent turns why (seen ++ more) from to
cause_stays agent_of events first Lacks Later agent turns Again seen more from to stays c =
    let take_from = take-append-le from seen more (omega (arith, c.in_order, c.in_journal)) in
    let take_to = take-append-le to seen more c.in_journal in
    record {
      in_order = c.in_order;
      in_journal = omega (arith, c.in_journal, length-append seen more);
      moves = rw (take_from, take_to) c.moves;
      not_alone = λ two. rw take_to (c.not_alone two);
      cost = rw (take_from, take_to) c.cost;
    }
cause_stays agent_of events first Lacks Later agent turns NoNode seen more from to stays c = (c.0, stays c.1)
cause_stays agent_of events first Lacks Later agent turns Positions seen more from to stays c = record {
  some_turn = c.some_turn;
  in_journal = omega (arith, c.in_journal, length-append seen more);
  full = rw (take-append-le to seen more c.in_journal) c.full;
}

-- positions run out only once the Puts have used them up
pub cause_puts : {S : Type 0} (agent_of : S → ℕ) (events : List S → List (Event FifoNote)) (first turns : ℕ)
    → ((j : List S) (s : S) → (es : List (Event FifoNote)) × (events (j ++ s ∷ []) ≡ events j ++ es) × (list_all (λ e. e.agent == agent_of s) es ≡ true))
    → (seen : List S) (to : ℕ) → LacksPosition events first turns seen to → 2 ^ 62 ≤ first + puts_in (entries_of (events seen))
cause_puts agent_of events first turns adds seen to c =
    let (more, is) = history_grows agent_of events adds (take to seen) (drop to seen) in
    let all : entries_of (events seen) ≡ entries_of (events (take to seen)) ++ more = ap (λ z. entries_of (events z)) (sym (take-append-drop to seen))
    ∙ sym is in
    rw all (omega (arith, c.full, puts_in-append (entries_of (events (take to seen))) more))

-- whose the entries are
pub entries_below : (n : HeapNumbers) (agents : ℕ) (seen events : List (Event FifoNote)) → AllAllowed (FifoMay n) [] seen → IsBelow agents seen
    → seen ≡ events → AllByRecursion (λ (e : QueueEntry). agent_of_entry e < agents) (entries_of events)
entries_below n agents seen events all below is =
    subst (λ z. AllByRecursion (λ (e : QueueEntry). agent_of_entry e < agents) (entries_of z)) is
    (entries_agents entries_in agent_of_entry (FifoMay n) (entries_own n) (λ (a : ℕ). a < agents) [] seen all below)
