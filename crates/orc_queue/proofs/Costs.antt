-- What a call that used all its turns cost the others.
use Rattle.std.proofs.Common.{Bool, Err, List, Ok, Option, Result, [], ap, append_assoc, arith, cond, drop, false, length, refl, subst, sym, take, true, ℕ, ◌*◌, ◌++◌, ◌+◌, ◌==◌, ◌∙◌, ◌∷◌, ◌≡◌, ◌≤◌}
use Rattle.std.proofs.lemmas.List.Elements.{filter-append}
use Rattle.std.proofs.Math.Seq.{drop-append_seam, take-length}
use Rattle.std.specs.List.{list_all}
use Rattle.std.specs.Prelude.{IfErr}
use Rattle.orc_fault.specs.declared.Again.{Again as AgainFault}
use Rattle.orc_heap.proofs.Calls.{part_allowed}
use Rattle.orc_heap.proofs.Moved.{moves_in-append}
use Rattle.orc_heap.proofs.OwnEntries.{noted-append, own_of_events}
use Rattle.orc_heap.proofs.OwnParts.{from_own-others, moves_from_own, own_from}
use Rattle.orc_heap.proofs.Stays.{allowed-left, allowed-right}
use Rattle.orc_heap.proofs.Steps.{PartEvents, part_bounds}
use Rattle.orc_heap.specs.Allowed.{AllAllowed, events_by}
use Rattle.orc_heap.specs.Heap.{HeapNumbers}
use Rattle.orc_heap.specs.Moves.{AllOwn, from_own, moves_in}
use Rattle.orc_heap.specs.Seats.{Seat}
use Rattle.orc_heap.specs.declared.events.Event.{Event}
use Rattle.orc_history.specs.Journals.{own_of}
use Rattle.orc_history.specs.Parts.{InPart, part_begin}
use Rattle.orc_history.specs.QueueHistory.{agent_of_entry, puts_in}
use Rattle.orc_history.specs.declared.queue.QueueEntry.{QueueEntry}
use Rattle.orc_history.specs.declared.queue.QueueRefused.{QueueRefused}
use Rattle.orc_history.specs.declared.queue.QueueRefused.TheVariants.{Again, NoNode, Positions}
use Rattle.orc_fifo_rule.proofs.Later.{holds_later}
use Rattle.orc_fifo_rule.proofs.MoveKinds.{moves_counted, off_counted, off_the_head-append}
use Rattle.orc_fifo_rule.proofs.OwnEntries.{entries_own}
use Rattle.orc_fifo_rule.proofs.Stretches.{swings_bounded}
use Rattle.orc_fifo_rule.specs.Counts.{entries_of_others, off_the_head, tooks_in}
use Rattle.orc_fifo_rule.specs.Laws.Events.{begun_more}
use Rattle.orc_fifo_rule.specs.QueueDiscipline.{FifoHolds, FifoMay, entries_in, entries_of, has_begun}
use Rattle.orc_fifo_rule.specs.declared.fifo.FifoNote.{FifoNote}
use Rattle.orc_queue.specs.Looking.{Known}
use Rattle.orc_queue.specs.Answers.{IsCall, PutAnswers, TakeAnswers, Tires}
use Rattle.orc_queue.specs.Causes.{UsesTurns, entered_by_others}
use Rattle.orc_queue.specs.Turns.{back_moves_in}
use Rattle.orc_queue.proofs.Backs.{none_off}
use Rattle.orc_heap.proofs.InJournal.{CallSeen, seen_new, seen_part}

-- where none is the agent's own, all are others'
all_others : (agent : ℕ) (es : List QueueEntry) → own_of agent_of_entry agent es ≡ [] → entries_of_others agent es ≡ es
all_others agent [] none = refl
all_others agent (e ∷ es) none = cases (agent_of_entry e == agent) refl none (λ h. all_others agent es h)
  where
    cases : (b : Bool) → (agent_of_entry e == agent) ≡ b → cond b (e ∷ own_of agent_of_entry agent es) (own_of agent_of_entry agent es) ≡ []
        → (own_of agent_of_entry agent es ≡ [] → entries_of_others agent es ≡ es) → entries_of_others agent (e ∷ es) ≡ e ∷ es
    cases true is h rest = cc
    cases false is h rest = rw is (ap (λ z. e ∷ z) (rest h))

module _ {S : Type 0} {n : HeapNumbers} {agents : ℕ} {agent_of : S → ℕ} {events : List S → List (Event FifoNote)} {s t : Seat FifoNote} {j k : List S}
    (o : CallSeen FifoMay n agents agent_of events s t j k) (known : Known n s.seen)
  where
    -- a call that entered nothing
    module _ (given turns : ℕ) (c : IsCall given turns s [] t) where
      new : events k ≡ events j ++ c.puts.part
      new = seen_new o c.own c.puts

      e : PartEvents agent_of events o.adds s.agent j k c.puts.part
      e = seen_part o c.own c.puts

      whole : events (take (length k) k) ≡ (events j ++ e.gap) ++ e.part
      whole = ap events (take-length k) ∙ (new ∙ (ap (λ z. events j ++ z) e.is ∙ sym (append_assoc (events j) e.gap e.part)))

      since : from_own s.agent c.puts.part ≡ from_own s.agent e.part
      since = ap (λ z. from_own s.agent z) e.is ∙ from_own-others s.agent e.gap e.part e.others

      allowed : AllAllowed (FifoMay n) s.seen (e.gap ++ e.part)
      allowed = subst (λ z. AllAllowed (FifoMay n) s.seen z) e.is (part_allowed (FifoMay n) s t c.own c.puts o.all)

      part_may : AllAllowed (FifoMay n) (s.seen ++ e.gap) e.part
      part_may = allowed-right (FifoMay n) s.seen e.gap e.part allowed

      holds : FifoHolds n (s.seen ++ e.gap)
      holds = holds_later n s.seen e.gap known.holds (allowed-left (FifoMay n) s.seen e.gap e.part allowed)

      begun : has_begun (s.seen ++ e.gap) ≡ true
      begun = begun_more s.seen e.gap known.dummy.begun

      own : events_by s.agent e.part ≡ c.own
      own = ap (λ z. z ++ events_by s.agent e.part) (sym e.others)
          ∙ (sym (filter-append (λ x. x.agent == s.agent) e.gap e.part) ∙ (ap (λ z. events_by s.agent z) (sym e.is) ∙ c.puts.own_is))

      -- what others entered in its part is all that was entered there
      entered : entered_by_others events s.agent k (part_begin agent_of s.agent j k) (length k) ≡ entries_of e.part
      entered =
          let at = entries_of (events j ++ e.gap) in
          let rest : drop (length (entries_of (events (take (part_begin agent_of s.agent j k) k)))) (entries_of (events (take (length k) k)))
          ≡ entries_of e.part =
          ap (λ z. drop (length (entries_of z)) (entries_of (events (take (length k) k)))) e.begin_events
          ∙ (ap (λ z. drop (length at) (entries_of z)) whole
          ∙ (ap (λ z. drop (length at) z) (noted-append entries_in (events j ++ e.gap) e.part) ∙ drop-append_seam at (entries_of e.part))) in
          let none : own_of agent_of_entry s.agent (entries_of e.part) ≡ [] =
          own_of_events entries_in agent_of_entry (FifoMay n) (entries_own n) s.agent (s.seen ++ e.gap) e.part part_may
          ∙ (ap entries_of own ∙ c.entries_are) in
          ap (λ z. entries_of_others s.agent z) rest ∙ all_others s.agent (entries_of e.part) none

      -- Puts and Tooks cost Moves
      moves_cost : turns ≤ moves_in (from_own s.agent c.puts.part)
          → (let others = entered_by_others events s.agent k (part_begin agent_of s.agent j k) (length k) in turns ≤ 2 * puts_in others + tooks_in others + 1)
      moves_cost moved =
          let enough : turns ≤ moves_in e.part =
          omega (arith, moved, ap (λ (z : List (Event FifoNote)). moves_in z) since, moves_from_own s.agent e.part) in
          subst (λ z. turns ≤ 2 * puts_in z + tooks_in z + 1) (sym entered)
          (omega (arith, enough, moves_counted n (s.seen ++ e.gap) e.part holds begun part_may, swings_bounded n (s.seen ++ e.gap) e.part holds begun part_may))

      -- Puts alone cost those of other places than root 0
      backs_cost : turns ≤ back_moves_in s.agent c.puts.part
          → turns ≤ 2 * puts_in (entered_by_others events s.agent k (part_begin agent_of s.agent j k) (length k)) + 1
      backs_cost back =
          let off : from_own s.agent (off_the_head c.puts.part) ≡ from_own s.agent (off_the_head e.part) =
          ap (λ z. from_own s.agent (off_the_head z)) e.is ∙ (ap (λ z. from_own s.agent z) (off_the_head-append e.gap e.part)
          ∙ from_own-others s.agent (off_the_head e.gap) (off_the_head e.part) (none_off s.agent e.gap e.others)) in
          let enough : turns ≤ moves_in (off_the_head e.part) =
          omega (arith, back, ap (λ (z : List (Event FifoNote)). moves_in z) off, moves_from_own s.agent (off_the_head e.part)) in
          subst (λ z. turns ≤ 2 * puts_in z + 1) (sym entered)
          (omega (arith, enough, off_counted n (s.seen ++ e.gap) e.part holds begun part_may, swings_bounded n (s.seen ++ e.gap) e.part holds begun part_may))

    -- all turns were used
    turns_used : (given turns : ℕ) → Tires given turns s t → InPart agent_of s.agent j k (λ from to. UsesTurns agent_of events s.agent turns k from to)
    turns_used given turns l =
        let c = l.call in
        let e = e given turns c in
        let own = since given turns c in
        let bounds = part_bounds agent_of s.agent j k o.grows in
        let moved : turns ≤ moves_in (from_own s.agent e.part) = subst (λ z. turns ≤ moves_in z) own l.moved in
        record {
          in_order = bounds.1;
          in_journal = omega arith;
          moves = rw (e.begin_events, whole given turns c)
              (omega (arith, moved, moves_from_own s.agent e.part, moves_in-append (events j ++ e.gap) e.part));
          not_alone = λ two alone.
              let part = e.alone
              (subst (λ z. list_all (λ (x : S). agent_of x == s.agent) (drop (part_begin agent_of s.agent j k) z) ≡ true) (take-length k) alone) in
              l.busy two (subst (λ z. AllOwn s.agent z) (sym own) (own_from s.agent e.part part));
          cost = moves_cost given turns c l.moved;
        }

    pub put_again : (job turns : ℕ) (r : Result ℕ QueueRefused) → PutAnswers n job turns s r t → r ≡ Err Again
        → InPart agent_of s.agent j k (λ from to. UsesTurns agent_of events s.agent turns k from to)
    put_again job turns (Ok at) l is = cc
    put_again job turns (Err Again) l is = turns_used _ turns l.tires
    put_again job turns (Err NoNode) l is = cc
    put_again job turns (Err Positions) l is = cc

    pub put_cost : (job turns : ℕ) (r : Result ℕ QueueRefused) → PutAnswers n job turns s r t → r ≡ Err Again
        → turns ≤ 2 * puts_in (entered_by_others events s.agent k (part_begin agent_of s.agent j k) (length k)) + 1
    put_cost job turns (Ok at) l is = cc
    put_cost job turns (Err Again) l is = backs_cost _ turns l.tires.call l.back
    put_cost job turns (Err NoNode) l is = cc
    put_cost job turns (Err Positions) l is = cc

    pub take_again : (turns : ℕ) (r : Result (Option (ℕ × ℕ)) AgainFault) → TakeAnswers turns s r t
        → IfErr r (λ e. InPart agent_of s.agent j k (λ from to. UsesTurns agent_of events s.agent turns k from to))
    take_again turns (Ok got) l = tt
    take_again turns (Err again) l = turns_used _ turns l

    pub take_cost : (turns : ℕ) (r : Result (Option (ℕ × ℕ)) AgainFault) → TakeAnswers turns s r t
        → (let others = entered_by_others events s.agent k (part_begin agent_of s.agent j k) (length k) in
        IfErr r (λ e. turns ≤ 2 * puts_in others + tooks_in others + 1))
    take_cost turns (Ok got) l = tt
    take_cost turns (Err again) l = moves_cost 0 turns l.call l.moved
