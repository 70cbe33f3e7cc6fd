-- From what a call did to its clauses on journals.
use Rattle.std.proofs.Common.{List, [], ap, append-nil, append_assoc, arith, length, subst, sym, take, ℕ, ◌++◌, ◌+◌, ◌<◌, ◌∙◌, ◌≡◌, ◌≤◌}
use Rattle.std.proofs.Math.Seq.{take-length}
use Rattle.orc_heap.proofs.Moved.{gives_in-append}
use Rattle.orc_heap.proofs.OwnParts.{from_own-others}
use Rattle.orc_heap.proofs.InJournal.{CallSeen, adds_entries, own_after, seen_new, seen_part}
use Rattle.orc_heap.proofs.Steps.{part_bounds}
use Rattle.orc_heap.specs.Allowed.{events_by}
use Rattle.orc_heap.specs.Heap.{HeapNumbers}
use Rattle.orc_heap.specs.Moves.{from_own, gives_in}
use Rattle.orc_heap.specs.OwnEvents.{Puts}
use Rattle.orc_heap.specs.Seats.{Seat}
use Rattle.orc_heap.specs.declared.events.Event.{Event}
use Rattle.orc_history.specs.Journals.{Adds}
use Rattle.orc_history.specs.Parts.{part_begin}
use Rattle.orc_pairs_rule.proofs.OwnEntries.{entries_own}
use Rattle.orc_pairs_rule.specs.declared.entry.CellEntry.{CellEntry}
use Rattle.orc_pairs_rule.specs.declared.pairs.PairsNote.{PairsNote}
use Rattle.orc_pairs_rule.specs.CellHistory.{agent_of_entry}
use Rattle.orc_pairs_rule.specs.PairsDiscipline.{PairsMay, entries_in, entries_of}
use Rattle.orc_cell.specs.Causes.{UsesTurns}
use Rattle.orc_cell.specs.Publishes.{Piece}
use Rattle.orc_cell.specs.Turns.{others_moves}
use Rattle.orc_cell.proofs.Others.{others-append, others_from_own}

-- it gave at most so many nodes
pub gave_at_most : {most : ℕ} {s t : Seat PairsNote} {es : List CellEntry} → Piece most s es t
    → gives_in (events_by t.agent t.seen) ≤ gives_in (events_by s.agent s.seen) + most
gave_at_most {s = s} {t = t} x =
    rw (own_after s t x.own x.puts) (omega (arith, gives_in-append (events_by s.agent s.seen) x.own, x.gives))

-- it made no event
pub no_event : (s t : Seat PairsNote) → Puts s [] t → events_by t.agent t.seen ≡ events_by s.agent s.seen
no_event s t p = own_after s t [] p ∙ append-nil (events_by s.agent s.seen)

module _ {S : Type 0} {n : HeapNumbers} {agents : ℕ} {agent_of : S → ℕ} {events : List S → List (Event PairsNote)} {s t : Seat PairsNote} {j k : List S}
    (o : CallSeen PairsMay n agents agent_of events s t j k)
  where
    -- the entries
    pub call_adds : (given : ℕ) (es : List CellEntry) → Piece given s es t
        → Adds agent_of_entry (λ (a : ℕ). a < agents) s.agent (entries_of (events j)) es (entries_of (events k))
    call_adds given es x = adds_entries o entries_in agent_of_entry (entries_own n) x.own es x.puts x.entries_are

    -- others' Moves of root 0 from the call's first event on stand in its part of the journal
    pub uses_turns : (turns : ℕ) (own : List (Event PairsNote)) (p : Puts s own t) → turns ≤ others_moves s.agent (from_own s.agent p.part)
        → UsesTurns events s.agent turns k (part_begin agent_of s.agent j k) (length k)
    uses_turns turns own p some =
        let new = seen_new o own p in
        let e = seen_part o own p in
        let bounds = part_bounds agent_of s.agent j k o.grows in
        let from_first : from_own s.agent p.part ≡ from_own s.agent e.part =
        ap (λ z. from_own s.agent z) e.is ∙ from_own-others s.agent e.gap e.part e.others in
        let here : turns ≤ others_moves s.agent (from_own s.agent e.part) = subst (λ z. turns ≤ others_moves s.agent z) from_first some in
        let begin : others_moves s.agent (events (take (part_begin agent_of s.agent j k) k)) ≡ others_moves s.agent (events j ++ e.gap) =
        ap (λ z. others_moves s.agent z) e.begin_events in
        let split : others_moves s.agent (events j ++ p.part) ≡ others_moves s.agent (events j ++ e.gap) + others_moves s.agent e.part =
        ap (λ z. others_moves s.agent (events j ++ z)) e.is
        ∙ (ap (λ z. others_moves s.agent z) (sym (append_assoc (events j) e.gap e.part)) ∙ others-append s.agent (events j ++ e.gap) e.part) in
        let end : others_moves s.agent (events (take (length k) k)) ≡ others_moves s.agent (events j ++ e.gap) + others_moves s.agent e.part =
        ap (λ z. others_moves s.agent (events z)) (take-length k) ∙ (ap (λ z. others_moves s.agent z) new ∙ split) in
        record {
          in_order = bounds.1;
          in_journal = omega arith;
          moves = omega (arith, begin, end, here, others_from_own s.agent e.part);
        }
