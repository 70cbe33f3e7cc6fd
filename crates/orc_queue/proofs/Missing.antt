-- A put that stops and puts nothing, where no other agent's event is new to its pass: no position is left behind the node that root 1 named.
use Rattle.std.proofs.Common.{List, None, Some, [], ap, append_assoc, arith, inl, inr, refl, subst, sym, ℕ, ◌++◌, ◌^◌, ◌∙◌, ◌∷◌, ◌≡◌, ◌≢◌, ◌≤◌}
use Rattle.std.proofs.lemmas.List.{append_cancel_left}
use Rattle.orc_heap.proofs.Calls.{part_allowed}
use Rattle.orc_heap.proofs.Moments.{look_found, looks_differ}
use Rattle.orc_heap.proofs.Moved.{shown_still}
use Rattle.orc_heap.proofs.OwnParts.{moves_from_own, own_is_all, own_left, own_right}
use Rattle.orc_heap.proofs.Pieces.{new_is, puts_released}
use Rattle.orc_heap.proofs.SingleActs.{link_same, some_same}
use Rattle.orc_heap.specs.Allowed.{AllAllowed, IsLinkedNode}
use Rattle.orc_heap.specs.Calls.{event_of}
use Rattle.orc_heap.specs.Heap.{HeapNumbers, link_to, null, shown}
use Rattle.orc_heap.specs.Journals.{run_heap}
use Rattle.orc_heap.specs.Moves.{AllOwn, IsLinkedPlace, moves_in}
use Rattle.orc_heap.specs.OwnEvents.{Puts}
use Rattle.orc_heap.specs.Seats.{Seat, heap_of}
use Rattle.orc_heap.specs.Slots.{Hold, id_in}
use Rattle.orc_heap.specs.declared.events.Act.TheVariants.{Look}
use Rattle.orc_heap.specs.declared.events.Event.{Event}
use Rattle.orc_heap.specs.declared.events.Place.{Place}
use Rattle.orc_heap.specs.declared.events.Place.TheVariants.{Next, Root}
use Rattle.orc_fifo_rule.proofs.Reading.{look_names}
use Rattle.orc_fifo_rule.specs.QueueDiscipline.{FifoMay, position_of}
use Rattle.orc_fifo_rule.specs.declared.fifo.FifoNote.{FifoNote}
use Rattle.orc_queue.specs.Looking.{FindsTwo, HoldsRoot, Known}
use Rattle.orc_queue.specs.declared.put.PutTurn.{PutTurn}
use Rattle.orc_queue.specs.declared.put.PutTurn.TheVariants.{Full, Over as PutOver, Put as PutDone}
use Rattle.orc_queue.specs.Answers.{IsFullAlone}
use Rattle.orc_queue.specs.Turns.{KeepsTail, LinksBehind, TailIsLast}
use Rattle.orc_queue.proofs.Holding.{found_id}
use Rattle.orc_queue.proofs.Pieces.{position_puts}

-- the last node, which root 1 names, has been linked
last_linked : (n : HeapNumbers) (es : List (Event FifoNote)) → Known n es → (l : TailIsLast (run_heap n es)) → IsLinkedNode (run_heap n es) l.last
last_linked n es k l =
    let (id, is, named) = look_names n es 1 (link_to l.last) k.holds k.dummy.begun (omega arith) l.tail_is in
    subst (λ (i : ℕ). IsLinkedNode (run_heap n es) i) (sym (link_same l.last id is)) named.linked

-- what is new, told by the seats
same_part : (s t : Seat FifoNote) (own part : List (Event FifoNote)) (p : Puts s own t) → t.seen ≡ s.seen ++ part → part ≡ p.part
same_part s t own part p is = append_cancel_left s.seen part p.part (sym is ∙ p.is)

-- a piece of a call without a Move, in which no other agent has an event
module _ (n : HeapNumbers) (s t : Seat FifoNote) (own : List (Event FifoNote)) (p : Puts s own t) (none : moves_in own ≡ 0) (alone : AllOwn s.agent p.part)
  where
    quiet_part : moves_in p.part ≡ 0
    quiet_part = ap (λ (z : List (Event FifoNote)). moves_in z) (sym (own_is_all s.agent p.part alone) ∙ p.own_is) ∙ none

    module _ (all : AllAllowed (FifoMay n) [] t.seen) where
      quiet_shown : (place : Place) → IsLinkedPlace place (heap_of n s) → shown (heap_of n t) place ≡ shown (heap_of n s) place
      quiet_shown place linked =
          ap (λ es. shown (run_heap n es) place) p.is
          ∙ shown_still n (FifoMay n) (λ es e k. k.fits) place s.seen p.part linked (part_allowed (FifoMay n) s t own p all) quiet_part

      -- root 1 still names the last node
      quiet_last : Known n s.seen → TailIsLast (heap_of n s) → TailIsLast (heap_of n t)
      quiet_last k l = record {
        last = l.last;
        tail_is = quiet_shown (Root 1) tt ∙ l.tail_is;
        ends = quiet_shown (Next l.last) (last_linked n s.seen k l) ∙ l.ends;
      }

-- the same before such a piece, and after a release
pub full_over : (n : HeapNumbers) (s a b t : Seat FifoNote) (own more : List (Event FifoNote)) (p : Puts s own a) (q : Puts a more b) → Puts b [] t
    → Known n s.seen → AllAllowed (FifoMay n) [] a.seen → moves_in own ≡ 0 → (AllOwn s.agent p.part → IsFullAlone n a b) → IsFullAlone n s t
unfolding quiet_last
full_over n s a b t own more p q w k all none full = λ part is alone l.
    let r = puts_released a b t more q w in
    let whole : part ≡ p.part ++ r.part = append_cancel_left s.seen part (p.part ++ r.part)
    (sym is ∙ (r.is ∙ (ap (λ z. z ++ r.part) p.is ∙ append_assoc s.seen p.part r.part))) in
    let both = subst (λ z. AllOwn s.agent z) whole alone in
    let first = own_left s.agent p.part r.part both in
    let rest = subst (λ z. AllOwn s.agent z) (new_is a b t more [] more q w r) (own_right s.agent p.part r.part both) in
    let second = subst (λ (x : ℕ). AllOwn x q.part) (sym p.agent) (own_left s.agent q.part w.part rest) in
    let here = full first q.part q.is second (quiet_last n s a own p none first all k l) in
    subst (λ (x : ℕ). 2 ^ 62 ≤ x) (position_puts n s a own p all l.last (last_linked n s.seen k l)) here

-- the node that a look of root 1 holds, root 1 still names
pub root_still : {n : HeapNumbers} {slot : ℕ} {s : Seat FifoNote} {h : Hold} {t : Seat FifoNote} (f : HoldsRoot n 1 slot s h t) → AllOwn s.agent f.puts.part
    → shown (heap_of n t) (Root 1) ≡ Some (link_to (id_in t.slots h))
root_still {n} {slot} {s} {h} {t} f alone =
    let found = look_found n (FifoMay n) (λ es x k. k.fits) s t (Root 1) (link_to f.node.id) None (event_of s (Look (Root 1) f.one) None ∷ []) [] f.puts
    f.after.all tt in
    let quiet = quiet_part n s t _ f.puts refl alone in
    elim found [
      | inl still ↦ subst (λ (i : ℕ). shown (heap_of n t) (Root 1) ≡ Some (link_to i)) (sym (found_id f.node)) still
      | inr some ↦ absurd (omega (arith, some, moves_from_own s.agent f.puts.part, quiet))
    ]

-- no look of root 1 finds two links
pub moved_full : {n : HeapNumbers} {s t : Seat FifoNote} → FindsTwo n (Root 1) s t → IsFullAlone n s t
moved_full {n} {s} {t} f = λ part is alone l.
    let quiet = quiet_part n s t _ f.puts refl (subst (λ z. AllOwn s.agent z) (same_part s t _ part f.puts is) alone) in
    absurd (omega (
      arith,
      looks_differ n (FifoMay n) (λ es x k. k.fits) s t (Root 1) f.one f.two f.puts f.after.all tt f.other,
      moves_from_own s.agent f.puts.part,
      quiet,
    ))

-- the new node wasn't linked behind the node that root 1 names
pub link_full : (n : HeapNumbers) (job tail : ℕ) (h : Hold) (s t : Seat FifoNote) (turn : PutTurn) → LinksBehind n 2 KeepsTail job tail h s turn t
    → ((at : ℕ) → turn ≢ PutDone at) → shown (heap_of n s) (Root 1) ≡ Some (link_to tail) → IsFullAlone n s t
link_full n job tail h s t PutOver w other at = λ part is alone l.
    let same = link_same l.last tail (some_same (sym l.tail_is ∙ at)) in
    let ends = subst (λ (i : ℕ). shown (heap_of n s) (Next i) ≡ Some null) same l.ends in
    let p = w.stops.piece in
    let none : moves_in p.own ≡ 0 = elim w.stops.own_moves [ inl none ↦ none | inr helped ↦ absurd helped ] in
    let quiet = quiet_part n s t p.own p.puts none (subst (λ z. AllOwn s.agent z) (same_part s t p.own part p.puts is) alone) in
    absurd (omega (arith, w.stops.moved ends, quiet))
link_full n job tail h s t (PutDone k) w other at = absurd (other k refl)
link_full n job tail h s t Full w other at = λ part is alone l.
    subst (λ (i : ℕ). 2 ^ 62 ≤ position_of (heap_of n s) i) (sym (link_same l.last tail (some_same (sym l.tail_is ∙ at)))) w.none
