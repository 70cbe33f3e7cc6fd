-- From what a call did to its clauses on journals.
use Rattle.std.proofs.Common.{List, Ok, Err, Option, Result, [], ap, append-nil, arith, drop, length, refl, subst, sym, ℕ, ◌*◌, ◌++◌, ◌+◌, ◌<◌, ◌^◌, ◌∙◌, ◌∷◌, ◌≡◌, ◌≢◌, ◌≤◌, ◌⊎◌}
use Rattle.std.proofs.lemmas.List.{length-append}
use Rattle.std.proofs.Math.Seq.{drop-append_seam, take-length}
use Rattle.std.specs.Prelude.{IfErr, IfOk, IsErr, ◌↔◌}
use mathlib.Core.List.{IsPrefix}
use Rattle.orc_heap.proofs.Moved.{gives_in-append}
use Rattle.orc_heap.proofs.OwnParts.{from_own-others, own_from}
use Rattle.orc_heap.proofs.Steps.{events_grow, part_bounds}
use Rattle.orc_heap.proofs.Stays.{allowed-right}
use Rattle.orc_heap.specs.Allowed.{AllAllowed, events_by}
use Rattle.orc_heap.specs.Heap.{HeapNumbers}
use Rattle.orc_heap.specs.Journals.{run_heap}
use Rattle.orc_heap.specs.Moves.{AllOwn, from_own, gives_in}
use Rattle.orc_heap.specs.OwnEvents.{Only}
use Rattle.orc_history.specs.Parts.{InPart, IsAlone, part_begin}
use Rattle.orc_heap.specs.Seats.{Seat}
use Rattle.orc_heap.specs.declared.events.Event.{Event}
use Rattle.orc_history.specs.Journals.{Adds, Within}
use Rattle.orc_history.specs.QueueHistory.{agent_of_entry, entry_of_dequeue, puts_in}
use Rattle.orc_history.specs.declared.queue.QueueEntry.{QueueEntry}
use Rattle.orc_history.specs.declared.queue.QueueEntry.TheVariants.{Put}
use Rattle.orc_history.specs.declared.queue.QueueRefused.{QueueRefused}
use Rattle.orc_history.specs.declared.queue.QueueRefused.TheVariants.{Again, NoNode, Positions}
use Rattle.orc_fault.specs.declared.Again.{Again as AgainFault}
use Rattle.orc_fifo_rule.proofs.OwnEntries.{entries_own}
use Rattle.orc_fifo_rule.specs.declared.fifo.FifoNote.{FifoNote}
use Rattle.orc_fifo_rule.specs.QueueDiscipline.{FifoMay, entries_of, position_of, entries_in}
use Rattle.orc_queue.specs.Looking.{Known}
use Rattle.orc_queue.specs.Answers.{CallFindsFull, IsCall, PutAnswers, StopsShort, TakeAnswers, gives_of}
use Rattle.orc_queue.specs.Causes.{BeforeFirstStep, Cause, FromFirstStep, LacksPosition, UsesTurns}
use Rattle.orc_queue.specs.Turns.{FindsFull, HasDummy, KeepsTail, TailIsLast}
use Rattle.orc_queue.specs.Laws.Histories.{first_stays}
use Rattle.orc_queue.proofs.Answering.{put_settled, take_settled}
use Rattle.orc_queue.proofs.Alone.{tail_settles, alone_runs}
use Rattle.orc_queue.proofs.Lacking.{lacks_within}
use Rattle.orc_queue.proofs.Room.{full_puts}
use Rattle.orc_heap.proofs.InJournal.{CallSeen, adds_entries, own_after, seen_part}

-- the answer and the Look at the end
finds_full : (n : HeapNumbers) (given turns : ℕ) (s t : Seat FifoNote) (es : List QueueEntry) (c : IsCall given turns s es t)
    → FindsFull n s.agent s.seen c.puts.part → CallFindsFull n s t
finds_full n given turns s t es c f =
    subst (λ z. FindsFull n s.agent s.seen z) (sym (ap (λ z. drop (length s.seen) z) c.puts.is ∙ drop-append_seam s.seen c.puts.part)) f

has_room : (n : HeapNumbers) (given turns : ℕ) (s t : Seat FifoNote) (es : List QueueEntry) (c : IsCall given turns s es t)
    → (FindsFull n s.agent s.seen c.puts.part → ⊥) → CallFindsFull n s t → ⊥
has_room n given turns s t es c room f =
    room (subst (λ z. FindsFull n s.agent s.seen z) (ap (λ z. drop (length s.seen) z) c.puts.is ∙ drop-append_seam s.seen c.puts.part) f)

pub put_positions : (n : HeapNumbers) (job turns : ℕ) (s t : Seat FifoNote) (r : Result ℕ QueueRefused) → PutAnswers n job turns s r t
    → (r ≡ Err Positions) ↔ CallFindsFull n s t
put_positions n job turns s t (Ok at) l = ((λ e. cc), (λ f. absurd (has_room n _ turns s t _ l.call l.room f)))
put_positions n job turns s t (Err Again) l = ((λ e. cc), (λ f. absurd (has_room n _ turns s t _ l.tires.call l.room f)))
put_positions n job turns s t (Err NoNode) l = ((λ e. cc), (λ f. absurd (has_room n _ turns s t _ l.call l.room f)))
put_positions n job turns s t (Err Positions) l = ((λ e. finds_full n _ turns s t _ l.call l.full), (λ f. refl))

-- a call of either kind
pub record AnyCall (given turns : ℕ) (s t : Seat FifoNote) : Type 0 where
  pub entries : List QueueEntry
  pub call : IsCall given turns s entries t

put_any : (n : HeapNumbers) (job turns : ℕ) (s t : Seat FifoNote) (r : Result ℕ QueueRefused) → PutAnswers n job turns s r t
    → AnyCall (gives_of turns r) turns s t
put_any n job turns s t (Ok at) l = record { entries = _; call = l.call }
put_any n job turns s t (Err Again) l = record { entries = _; call = l.tires.call }
put_any n job turns s t (Err NoNode) l = record { entries = _; call = l.call }
put_any n job turns s t (Err Positions) l = record { entries = _; call = l.call }

take_any : (turns : ℕ) (s t : Seat FifoNote) (r : Result (Option (ℕ × ℕ)) AgainFault) → TakeAnswers turns s r t → AnyCall 0 turns s t
take_any turns s t (Ok got) l = record { entries = _; call = l.call }
take_any turns s t (Err again) l = record { entries = _; call = l.call }

module _ {given turns : ℕ} {s t : Seat FifoNote} (any : AnyCall given turns s t) where
  own_events : events_by t.agent t.seen ≡ events_by s.agent s.seen ++ any.call.own
  own_events = own_after s t any.call.own any.call.puts

  pub any_gives : gives_in (events_by t.agent t.seen) ≡ gives_in (events_by s.agent s.seen) + given
  any_gives = rw own_events (omega (arith, gives_in-append (events_by s.agent s.seen) any.call.own, any.call.gives))

  pub any_tries : length (events_by t.agent t.seen) ≤ length (events_by s.agent s.seen) + 6 * turns + 3 * given
  any_tries = rw own_events (omega (arith, length-append (events_by s.agent s.seen) any.call.own, any.call.few))

-- a put that stops moves the tail nowhere
pub stop_tail : (given : ℕ) (s t : Seat FifoNote) (es : List QueueEntry) → StopsShort given s es t
    → KeepsTail (drop (length (events_by s.agent s.seen)) (events_by t.agent t.seen))
stop_tail given s t es c =
    let is = own_after s t c.call.own c.call.puts in
    subst (λ z. KeepsTail z)
    (sym (ap (λ z. drop (length (events_by s.agent s.seen)) z) is ∙ drop-append_seam (events_by s.agent s.seen) c.call.own)) c.keeps

-- a call with no turn
any_none : (s t : Seat FifoNote) → AnyCall 0 0 s t → events_by t.agent t.seen ≡ events_by s.agent s.seen
any_none s t any = own_events any ∙ (ap (λ z. events_by s.agent s.seen ++ z) (empty any.call.own any.call.few) ∙ append-nil (events_by s.agent s.seen))
  where
    empty : (es : List (Event FifoNote)) → length es ≤ 0 → es ≡ []
    empty [] none = refl
    empty (e ∷ es) none = absurd (omega (arith, none))

-- no turn
put_no_turns : (n : HeapNumbers) (job turns : ℕ) (s t : Seat FifoNote) (r : Result ℕ QueueRefused) → PutAnswers n job turns s r t → turns ≡ 0
    → (r ≡ Err Again) × (events_by t.agent t.seen ≡ events_by s.agent s.seen)
put_no_turns n job turns s t r l none = (again r l, any_none s t (subst (λ (k : ℕ). AnyCall (gives_of k r) k s t) none (put_any n job turns s t r l)))
  where
    again : (r : Result ℕ QueueRefused) → PutAnswers n job turns s r t → r ≡ Err Again
    again (Ok at) l = absurd (l.some_turn none)
    again (Err Again) l = refl
    again (Err NoNode) l = absurd (l.some_turn none)
    again (Err Positions) l = absurd (l.some_turn none)

take_no_turns : (turns : ℕ) (s t : Seat FifoNote) (r : Result (Option (ℕ × ℕ)) AgainFault) → TakeAnswers turns s r t → turns ≡ 0
    → IsErr r × (events_by t.agent t.seen ≡ events_by s.agent s.seen)
take_no_turns turns s t r l none = (again r l, any_none s t (subst (λ (k : ℕ). AnyCall 0 k s t) none (take_any turns s t r l)))
  where
    again : (r : Result (Option (ℕ × ℕ)) AgainFault) → TakeAnswers turns s r t → IsErr r
    again (Ok got) l = absurd (l.some_turn none)
    again (Err e) l = refl

-- a call and the settling at its end
pub record CallEnds (given turns : ℕ) (s t u : Seat FifoNote) (Answers Refused : Type 0) : Type 0 where
  pub before : AnyCall given turns s t
  pub any : AnyCall given turns s u
  pub answers : Answers
  pub no_turns : turns ≡ 0 → Refused × (events_by u.agent u.seen ≡ events_by s.agent s.seen)

pub put_ends : (n : HeapNumbers) (job turns : ℕ) (s t u : Seat FifoNote) → Only [] t u → (r : Result ℕ QueueRefused) → PutAnswers n job turns s r t
    → CallEnds (gives_of turns r) turns s t u (PutAnswers n job turns s r u) (r ≡ Err Again)
put_ends n job turns s t u o r l =
    let k = put_settled n s t u o job turns r l in
    record { before = put_any n job turns s t r l; any = put_any n job turns s u r k; answers = k; no_turns = put_no_turns n job turns s u r k }

pub take_ends : (n : HeapNumbers) (turns : ℕ) (s t u : Seat FifoNote) → Only [] t u → (r : Result (Option (ℕ × ℕ)) AgainFault) → TakeAnswers turns s r t
    → CallEnds 0 turns s t u (TakeAnswers turns s r u) (IsErr r)
take_ends n turns s t u o r l =
    let k = take_settled n s t u o turns r l in
    record { before = take_any turns s t r l; any = take_any turns s u r k; answers = k; no_turns = take_no_turns turns s u r k }

module _ {S : Type 0} {n : HeapNumbers} {agents : ℕ} {agent_of : S → ℕ} {events : List S → List (Event FifoNote)} {s t : Seat FifoNote} {j k : List S}
    (o : CallSeen FifoMay n agents agent_of events s t j k)
  where
    -- the entries
    pub call_adds : (given turns : ℕ) (es : List QueueEntry) → IsCall given turns s es t
        → Adds agent_of_entry (λ (a : ℕ). a < agents) s.agent (entries_of (events j)) es (entries_of (events k))
    call_adds given turns es c = adds_entries o entries_in agent_of_entry (entries_own n) c.own es c.puts c.entries_are

    pub put_ok : (job turns : ℕ) (r : Result ℕ QueueRefused) → PutAnswers n job turns s r t
        → IfOk r (λ at. Adds agent_of_entry (λ (a : ℕ). a < agents) s.agent (entries_of (events j)) (Put s.agent job at ∷ []) (entries_of (events k)))
    put_ok job turns (Ok at) l = call_adds _ turns (Put s.agent job at ∷ []) l.call
    put_ok job turns (Err why) l = tt

    pub put_err : (job turns : ℕ) (r : Result ℕ QueueRefused) → PutAnswers n job turns s r t
        → IfErr r (λ e. Adds agent_of_entry (λ (a : ℕ). a < agents) s.agent (entries_of (events j)) [] (entries_of (events k)))
    put_err job turns (Ok at) l = tt
    put_err job turns (Err Again) l = call_adds _ turns [] l.tires.call
    put_err job turns (Err NoNode) l = call_adds _ turns [] l.call
    put_err job turns (Err Positions) l = call_adds _ turns [] l.call

    pub take_ok : (turns : ℕ) (r : Result (Option (ℕ × ℕ)) AgainFault) → TakeAnswers turns s r t
        → IfOk r (λ got. Adds agent_of_entry (λ (a : ℕ). a < agents) s.agent (entries_of (events j)) (entry_of_dequeue s.agent got ∷ [])
        (entries_of (events k)))
    take_ok turns (Ok got) l = call_adds _ turns (entry_of_dequeue s.agent got ∷ []) l.call
    take_ok turns (Err again) l = tt

    pub take_err : (turns : ℕ) (r : Result (Option (ℕ × ℕ)) AgainFault) → TakeAnswers turns s r t
        → IfErr r (λ e. Adds agent_of_entry (λ (a : ℕ). a < agents) s.agent (entries_of (events j)) [] (entries_of (events k)))
    take_err turns (Ok got) l = tt
    take_err turns (Err again) l = call_adds _ turns [] l.call

    -- a put that was alone leaves the tail at the last node
    pub put_tail : (job turns : ℕ) (r : Result ℕ QueueRefused) → Known n s.seen → PutAnswers n job turns s r t
        → IfOk r (λ at. IsAlone agent_of s.agent j k → TailIsLast (run_heap n t.seen))
    put_tail job turns (Ok at) known l = λ alone.
        let p = l.call.puts in
        let e = seen_part o l.call.own p in
        let own : from_own s.agent p.part ≡ from_own s.agent e.part = ap (λ z. from_own s.agent z) e.is ∙ from_own-others s.agent e.gap e.part e.others in
        alone_runs n TailIsLast s t l.call.own p known o.all (tail_settles n l.call.own l.helps)
        (subst (λ z. AllOwn s.agent z) (sym own) (own_from s.agent e.part (e.alone alone)))
    put_tail job turns (Err why) known l = tt

    -- the end of the queue was found where no position was left
    full_lacks : (turns : ℕ) (opening : List (Event FifoNote)) → HasDummy n opening → IsPrefix opening t.seen → Known n s.seen → turns ≢ 0 → CallFindsFull n s t
        → LacksPosition events (position_of (run_heap n opening) 0) turns k (length k)
    full_lacks turns opening made begins known some full =
        let (more, is) = o.grows in
        let (new, there) = events_grow agent_of events o.adds j more in
        let seen : t.seen ≡ s.seen ++ new = o.is_t ∙ (ap events (sym is) ∙ (sym there ∙ ap (λ z. z ++ new) (sym o.is_s))) in
        let allowed = allowed-right (FifoMay n) [] s.seen new (subst (λ z. AllAllowed (FifoMay n) [] z) seen o.all) in
        let found : FindsFull n s.agent s.seen new =
        subst (λ z. FindsFull n s.agent s.seen z) (ap (λ z. drop (length s.seen) z) seen ∙ drop-append_seam s.seen new) full in
        let high = subst (λ z. 2 ^ 62 ≤ position_of (run_heap n z) 0 + puts_in (entries_of z)) (sym seen)
        (full_puts n s.agent s.seen new known.holds known.dummy.begun allowed found) in
        record {
          some_turn = some;
          in_journal = omega arith;
          full = rw (take-length k, sym o.is_t, sym (first_stays n opening t.seen made begins o.all)) high;
        }

    -- the licence of a refusal, from the clauses of a put
    pub put_licence : (turns : ℕ) (opening : List (Event FifoNote)) → HasDummy n opening → IsPrefix opening t.seen → Known n s.seen
        → (Lacks : ℕ → ℕ → Type 0) (r : Result ℕ QueueRefused)
        → (turns ≡ 0 → r ≡ Err Again) → (r ≡ Err Again → InPart agent_of s.agent j k (λ from to. UsesTurns agent_of events s.agent turns k from to))
        → (r ≡ Err NoNode → FromFirstStep agent_of s.agent j k Lacks ⊎ BeforeFirstStep agent_of s.agent j k Lacks)
        → ((r ≡ Err Positions) ↔ CallFindsFull n s t)
        → IfErr r (λ e. Within (length j) (length k)
        (λ from to. Cause agent_of events (position_of (run_heap n opening) 0) (Lacks from to) s.agent turns e k from to))
    put_licence turns opening made begins known Lacks (Ok at) none again node full = tt
    put_licence turns opening made begins known Lacks (Err Again) none again node full =
        let bounds = part_bounds agent_of s.agent j k o.grows in
        (part_begin agent_of s.agent j k, length k, bounds.0, bounds.1, omega arith, again refl)
    put_licence turns opening made begins known Lacks (Err NoNode) none again node full =
        let some : turns ≢ 0 = λ zero_turns. let bad : ◌≡◌ {A = Result ℕ QueueRefused} (Err NoNode) (Err Again) = none zero_turns in cc in
        let (from, to, a, b, c, lacks) = lacks_within agent_of s.agent j k Lacks o.grows (node refl) in
        (from, to, a, b, c, (some, lacks))
    put_licence turns opening made begins known Lacks (Err Positions) none again node full =
        let some : turns ≢ 0 = λ zero_turns. let bad : ◌≡◌ {A = Result ℕ QueueRefused} (Err Positions) (Err Again) = none zero_turns in cc in
        let bounds = part_bounds agent_of s.agent j k o.grows in
        (length j, length k, omega arith, omega (arith, bounds), omega arith, full_lacks turns opening made begins known some (full.0 refl))

    pub take_licence : (turns first : ℕ) (Lacks : ℕ → ℕ → Type 0) (r : Result (Option (ℕ × ℕ)) AgainFault)
        → IfErr r (λ e. InPart agent_of s.agent j k (λ from to. UsesTurns agent_of events s.agent turns k from to))
        → IfErr r (λ e. Within (length j) (length k) (λ from to. Cause agent_of events first (Lacks from to) s.agent turns Again k from to))
    take_licence turns first Lacks (Ok got) again = tt
    take_licence turns first Lacks (Err e) again =
        let bounds = part_bounds agent_of s.agent j k o.grows in
        (part_begin agent_of s.agent j k, length k, bounds.0, bounds.1, omega arith, again)
