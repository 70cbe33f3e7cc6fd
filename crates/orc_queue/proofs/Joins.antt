-- Two pieces of a call make one.
use Rattle.std.proofs.Common.{List, length, refl, subst, sym, ℕ, ◌++◌, ◌≡◌, ◌≤◌}
use Rattle.orc_heap.proofs.Calls.{Puts-trans}
use Rattle.orc_heap.specs.Moves.{gives_in}
use Rattle.orc_heap.specs.OwnEvents.{Puts}
use Rattle.orc_heap.specs.Seats.{Seat}
use Rattle.orc_heap.specs.declared.events.Event.{Event}
use Rattle.orc_history.specs.declared.queue.QueueEntry.{QueueEntry}
use Rattle.orc_fifo_rule.specs.declared.fifo.FifoNote.{FifoNote}
use Rattle.orc_fifo_rule.specs.QueueDiscipline.{entries_of}
use Rattle.orc_queue.specs.Turns.{FindsFull, Piece}
use Rattle.orc_queue.proofs.Room.{full_left, full_right, room_both}
use Rattle.orc_heap.specs.Heap.{HeapNumbers}
use Rattle.orc_heap.proofs.Pieces.{new_is}

-- a piece whose own events are those of two, one after another, and so is what is new
pub record Join (most : ℕ) (s t : Seat FifoNote) (own : List (Event FifoNote)) (es : List QueueEntry) (first second : List (Event FifoNote)) : Type 0 where
  pub piece : Piece most s es t
  pub own_is : piece.own ≡ own
  pub part_is : piece.puts.part ≡ first ++ second

pub join : (most : ℕ) (s a t : Seat FifoNote) (xs ys : List (Event FifoNote)) (es : List QueueEntry) (p : Puts s xs a) (q : Puts a ys t)
    → t.slots ≡ s.slots → entries_of (xs ++ ys) ≡ es → gives_in (xs ++ ys) ≡ 0
    → length (xs ++ ys) ≤ most → Join most s t (xs ++ ys) es p.part q.part
join most s a t xs ys es p q same entries none few =
    let w = Puts-trans s a t xs ys p q in
    record {
      piece = record { own = xs ++ ys; slots = same; puts = w; entries_are = entries; no_give = none; few = few };
      own_is = refl;
      part_is =
          new_is s a t xs ys (xs ++ ys) p q w;
    }

-- a Look where no position is left, in two pieces of a call and in the whole of them
module _ (n : HeapNumbers) (s a t : Seat FifoNote) (xs ys zs : List (Event FifoNote)) (p : Puts s xs a) (q : Puts a ys t) (w : Puts s zs t) where
  pub room_join : (FindsFull n s.agent s.seen p.part → ⊥) → (FindsFull n a.agent a.seen q.part → ⊥) → FindsFull n s.agent s.seen w.part → ⊥
  room_join first second f =
      let later : FindsFull n s.agent (s.seen ++ p.part) q.part → ⊥ =
      subst (λ z. FindsFull n s.agent z q.part → ⊥) p.is (subst (λ (x : ℕ). FindsFull n x a.seen q.part → ⊥) p.agent second) in
      room_both n s.agent s.seen p.part q.part first later (subst (λ z. FindsFull n s.agent s.seen z) (new_is s a t xs ys zs p q w) f)

  pub full_join_left : FindsFull n s.agent s.seen p.part → FindsFull n s.agent s.seen w.part
  full_join_left f = subst (λ z. FindsFull n s.agent s.seen z) (sym (new_is s a t xs ys zs p q w)) (full_left n s.agent s.seen p.part q.part f)

  pub full_join_right : FindsFull n a.agent a.seen q.part → FindsFull n s.agent s.seen w.part
  full_join_right f =
      let later : FindsFull n s.agent (s.seen ++ p.part) q.part =
      subst (λ z. FindsFull n s.agent z q.part) p.is (subst (λ (x : ℕ). FindsFull n x a.seen q.part) p.agent f) in
      subst (λ z. FindsFull n s.agent s.seen z) (sym (new_is s a t xs ys zs p q w)) (full_right n s.agent s.seen p.part q.part later)
