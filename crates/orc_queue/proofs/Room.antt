-- Whether a call finds that no position is left.
use Rattle.std.proofs.Common.{Bool, List, Some, None, [], ap, append-nil, append_assoc, arith, cond, false, inl, inr, refl, subst, sym, true, ℕ, ◌++◌, ◌<◌, ◌==◌, ◌^◌, ◌∙◌, ◌∷◌, ◌≡◌, ◌≤◌, ◌⊎◌}
use Rattle.std.proofs.lemmas.Bool.{eq-eqb}
use Rattle.std.specs.List.{list_any}
use Rattle.std.specs.Prelude.{is_some, not, ◌||◌}
use Rattle.orc_heap.specs.Acts.{Fits}
use Rattle.orc_heap.specs.Allowed.{AllAllowed, events_by}
use Rattle.orc_heap.specs.Calls.{event_of}
use Rattle.orc_heap.specs.Heap.{HeapNumbers, null, shown}
use Rattle.orc_heap.specs.Journals.{run_heap}
use Rattle.orc_heap.specs.OwnEvents.{Puts}
use Rattle.orc_heap.specs.Seats.{Seat, heap_of}
use Rattle.orc_heap.specs.declared.events.Act.{Act}
use Rattle.orc_heap.specs.declared.events.Act.TheVariants.{Look}
use Rattle.orc_heap.specs.declared.events.Event.{Event}
use Rattle.orc_heap.specs.declared.events.Link.{Link}
use Rattle.orc_heap.specs.declared.events.Place.TheVariants.{Next}
use Rattle.orc_history.proofs.Histories.{puts_in-append}
use Rattle.orc_history.specs.QueueHistory.{puts_in}
use Rattle.orc_fifo_rule.proofs.Later.{first_later, holds_later, named_later, named_next, next_position as position_is_next, position_later}
use Rattle.orc_fifo_rule.proofs.Reading.{link_leads}
use Rattle.orc_fifo_rule.specs.declared.fifo.FifoNote.{FifoNote}
use Rattle.orc_fifo_rule.specs.QueueDiscipline.{FifoHolds, FifoMay, entries_of, has_begun, position_of, entries_in}
use Rattle.orc_fifo_rule.specs.Watches.{WasNamed}
use Rattle.orc_fifo_rule.specs.Laws.Events.{begun_more}
use Rattle.orc_fifo_rule.specs.Laws.Kept.{fifo_keeps}
use Rattle.orc_fifo_rule.specs.Laws.Nodes.{position_next}
use Rattle.orc_queue.specs.Looking.{Known}
use Rattle.orc_queue.specs.Turns.{FindsFull, next_position}
use Rattle.orc_heap.proofs.OwnEntries.{noted-append}
use Rattle.orc_heap.proofs.SingleActs.{has_link}
use Rattle.orc_heap.proofs.Calls.{Puts-stood}

-- the act is a Look that finds the null link of a node
abbrev pub looks_at_end : Act → Bool
looks_at_end (Look (Next id) link) = not (is_some link.to)
looks_at_end act = false

-- of one list of events after another
pub full_either : (n : HeapNumbers) (agent : ℕ) (seen es fs : List (Event FifoNote)) → FindsFull n agent seen (es ++ fs) → FindsFull n agent seen es
    ⊎ FindsFull n agent (seen ++ es) fs
full_either n agent seen [] fs f = inr (rw (append-nil seen) f)
full_either n agent seen (e ∷ es) fs (inl here) = inl (inl here)
full_either n agent seen (e ∷ es) fs (inr later) =
    elim (full_either n agent (seen ++ e ∷ []) es fs later) [
      | inl left ↦ inl (inr left)
      | inr right ↦ inr (subst (λ z. FindsFull n agent z fs) (append_assoc seen (e ∷ []) es) right)
    ]

pub room_both : (n : HeapNumbers) (agent : ℕ) (seen es fs : List (Event FifoNote)) → (FindsFull n agent seen es → ⊥)
    → (FindsFull n agent (seen ++ es) fs → ⊥) → FindsFull n agent seen (es ++ fs) → ⊥
room_both n agent seen es fs a b f = elim (full_either n agent seen es fs f) [ inl x ↦ a x | inr y ↦ b y ]

pub full_right : (n : HeapNumbers) (agent : ℕ) (seen es fs : List (Event FifoNote)) → FindsFull n agent (seen ++ es) fs → FindsFull n agent seen (es ++ fs)
full_right n agent seen [] fs f = rw (append-nil seen) at f
full_right n agent seen (e ∷ es) fs f =
    inr (full_right n agent (seen ++ e ∷ []) es fs (subst (λ z. FindsFull n agent z fs) (sym (append_assoc seen (e ∷ []) es)) f))

pub full_left : (n : HeapNumbers) (agent : ℕ) (seen es fs : List (Event FifoNote)) → FindsFull n agent seen es → FindsFull n agent seen (es ++ fs)
full_left n agent seen (e ∷ es) fs (inl here) = inl here
full_left n agent seen (e ∷ es) fs (inr later) = inr (full_left n agent (seen ++ e ∷ []) es fs later)
full_left n agent seen [] fs f = absurd f

-- where none of the own events is a Look at the end
own_full : (n : HeapNumbers) (agent : ℕ) (seen es : List (Event FifoNote)) → FindsFull n agent seen es
    → list_any (λ e. looks_at_end e.act) (events_by agent es) ≡ true
own_full n agent seen [] f = absurd f
own_full n agent seen (e ∷ es) (inl here) = rw (eq-eqb e.agent agent here.mine) (rw here.at_end refl)
own_full n agent seen (e ∷ es) (inr later) = cases (e.agent == agent) (own_full n agent (seen ++ e ∷ []) es later)
  where
    or_right : (a b : Bool) → b ≡ true → (a || b) ≡ true
    or_right true b k = refl
    or_right false b k = k

    cases : (b : Bool) → list_any (λ x. looks_at_end x.act) (events_by agent es) ≡ true
        → list_any (λ x. looks_at_end x.act) (cond b (e ∷ events_by agent es) (events_by agent es)) ≡ true
    cases true k = or_right (looks_at_end e.act) _ k
    cases false k = k

pub room_unseen : (n : HeapNumbers) (s t : Seat FifoNote) (own : List (Event FifoNote)) (p : Puts s own t)
    → list_any (λ e. looks_at_end e.act) own ≡ false → FindsFull n s.agent s.seen p.part → ⊥
room_unseen n s t own p none f =
    let found : list_any (λ (e : Event FifoNote). looks_at_end e.act) own ≡ true =
    ap (λ z. list_any (λ (e : Event FifoNote). looks_at_end e.act) z) (sym p.own_is) ∙ own_full n s.agent s.seen p.part f in
    let bad : true ≡ false = sym found ∙ none in
    cc

-- each Look at the end, among these own events, is one of this node
abbrev pub EndsOnlyAt : ℕ → List (Event FifoNote) → Type 0
EndsOnlyAt id [] = Unit {0}
EndsOnlyAt id (e ∷ es) = (looks_at_end e.act ≡ true → (link : Link) × (e.act ≡ Look (Next id) link)) × EndsOnlyAt id es

-- that root 1 named, and whose position is low
room_low : (n : HeapNumbers) (agent id : ℕ) (seen es : List (Event FifoNote)) → FifoHolds n seen → has_begun seen ≡ true
    → WasNamed (run_heap n seen) 1 id → AllAllowed (FifoMay n) seen es
    → EndsOnlyAt id (events_by agent es) → position_of (run_heap n seen) id < 2 ^ 62 → FindsFull n agent seen es → ⊥
room_low n agent id seen [] holds begun named all ends low f = f
room_low n agent id seen (e ∷ es) holds begun named all ends low (inl here) =
    let mine : EndsOnlyAt id (e ∷ events_by agent es) = rw (eq-eqb e.agent agent here.mine) at ends in
    let null_end : looks_at_end e.act ≡ true = ap (λ (a : Act). looks_at_end a) here.at_end in
    let (link, act_is) = mine.0 null_end in
    let h = run_heap n seen in
    let at : shown h (Next id) ≡ Some link = subst (λ (a : Act). Fits e.agent a h) act_is all.0.fits in
    let at_end : not (is_some link.to) ≡ true = subst (λ (a : Act). looks_at_end a ≡ true) act_is null_end in
    elim (link_leads n seen id link holds (has_link h id link named.linked at)) [
      | inl none ↦ omega (arith, low, here.full, position_is_next n seen id holds begun named (at ∙ ap (λ (x : Link). Some x) none))
      | inr leads ↦
          let bad : false ≡ true = ap (λ (x : Link). not (is_some x.to)) (sym leads.2) ∙ at_end in
          absurd (cc)
    ]
room_low n agent id seen (e ∷ es) holds begun named all ends low (inr later) =
    let rest : EndsOnlyAt id (events_by agent es) = cases (e.agent == agent) ends in
    room_low n agent id (seen ++ e ∷ []) es (fifo_keeps n seen e holds all.0) (begun_more seen (e ∷ []) begun) (named_next n seen e 1 id all.0 named) all.1 rest
    (omega (arith, low, position_next n seen e id all.0 named.linked)) later
  where
    cases : (b : Bool) → EndsOnlyAt id (cond b (e ∷ events_by agent es) (events_by agent es)) → EndsOnlyAt id (events_by agent es)
    cases true k = k.1
    cases false k = k

pub room_at : (n : HeapNumbers) (s t : Seat FifoNote) (own : List (Event FifoNote)) (id : ℕ) (p : Puts s own t) → Known n s.seen
    → AllAllowed (FifoMay n) s.seen p.part → WasNamed (heap_of n s) 1 id
    → EndsOnlyAt id own → position_of (heap_of n s) id < 2 ^ 62 → FindsFull n s.agent s.seen p.part → ⊥
room_at n s t own id p k all named ends low =
    room_low n s.agent id s.seen p.part k.holds k.dummy.begun named all (subst (λ z. EndsOnlyAt id z) (sym p.own_is) ends) low

-- a Look at the end where the position isn't low
pub full_at : (n : HeapNumbers) (s t : Seat FifoNote) (id : ℕ) (rest : List (Event FifoNote))
    (p : Puts s (event_of s (Look (Next id) null) None ∷ rest) t) → Known n s.seen → AllAllowed (FifoMay n) [] t.seen
    → WasNamed (heap_of n s) 1 id → 2 ^ 62 ≤ position_of (heap_of n s) id → FindsFull n s.agent s.seen p.part
full_at n s t id rest p k all named high =
    let e : Event FifoNote = event_of s (Look (Next id) null) None in
    let m = Puts-stood (FifoMay n) s t [] e rest p all in
    let es = s.seen ++ m.before in
    let holds = holds_later n s.seen m.before k.holds m.first in
    let named_then = named_later n s.seen m.before 1 id named m.first in
    let next = position_is_next n es id holds (begun_more s.seen m.before k.dummy.begun) named_then m.here.fits in
    let same = position_later n s.seen m.before id named.linked m.first in
    subst (λ z. FindsFull n s.agent s.seen z) (sym m.part_is)
    (full_right n s.agent s.seen m.before (e ∷ m.later)
    (inl (record { mine = refl; id = id; linked = named_then.linked; at_end = refl; full = omega (arith, high, next, same) })))

-- then the first position and the Puts of all that was seen make as much
pub full_puts : (n : HeapNumbers) (agent : ℕ) (seen es : List (Event FifoNote)) → FifoHolds n seen → has_begun seen ≡ true
    → AllAllowed (FifoMay n) seen es → FindsFull n agent seen es → 2 ^ 62 ≤ next_position n (seen ++ es)
full_puts n agent seen [] holds begun all f = absurd f
full_puts n agent seen (e ∷ es) holds begun all (inl here) =
    omega (
      arith,
      here.full,
      first_later n seen (e ∷ es) holds begun all,
      ap puts_in (noted-append entries_in seen (e ∷ es)),
      puts_in-append (entries_of seen) (entries_of (e ∷ es)),
    )
full_puts n agent seen (e ∷ es) holds begun all (inr later) =
    subst (λ z. 2 ^ 62 ≤ next_position n z) (append_assoc seen (e ∷ []) es)
    (full_puts n agent (seen ++ e ∷ []) es (fifo_keeps n seen e holds all.0) (begun_more seen (e ∷ []) begun) all.1 later)
