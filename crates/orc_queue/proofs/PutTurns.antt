-- A turn of a put, and so many.
use Rattle.std.proofs.Common.{List, Some, None, [], ap, append-nil, append_assoc, arith, inl, inr, refl, subst, sym, true, ℕ, ◌*◌, ◌++◌, ◌+◌, ◌<◌, ◌∙◌, ◌∷◌, ◌≡◌, ◌≢◌, ◌≤◌}
use Rattle.std.proofs.lemmas.List.{length-append}
use Rattle.orc_heap.proofs.OwnParts.{moves_from_own-append, own_from_left, own_from_rest, own_from_right}
use Rattle.orc_heap.proofs.Runs.{run_from-append}
use Rattle.orc_heap.proofs.Stays.{allowed-left, allowed-right}
use Rattle.orc_heap.specs.Allowed.{AllAllowed}
use Rattle.orc_heap.specs.Calls.{Releases, event_of}
use Rattle.orc_heap.specs.Heap.{Heap, HeapNumbers, new_heap, null, shown, link_to}
use Rattle.orc_heap.specs.Journals.{run_heap}
use Rattle.orc_heap.specs.Moves.{AllOwn, from_own, moves_in}
use Rattle.orc_heap.specs.OwnEvents.{Puts}
use Rattle.orc_heap.specs.Seats.{IsUntouched, Seat, heap_of}
use Rattle.orc_heap.specs.Slots.{Hold, Holds, id_in}
use Rattle.orc_heap.specs.declared.events.Act.TheVariants.{Look, Move}
use Rattle.orc_heap.specs.declared.events.Event.{Event}
use Rattle.orc_heap.specs.declared.events.Link.{Link}
use Rattle.orc_heap.specs.declared.events.Place.TheVariants.{Next, Root}
use Rattle.orc_history.specs.declared.queue.QueueEntry.TheVariants.{Put}
use Rattle.orc_fifo_rule.proofs.Later.{holds_later}
use Rattle.orc_fifo_rule.specs.declared.fifo.FifoNote.{FifoNote}
use Rattle.orc_fifo_rule.specs.declared.fifo.FifoNote.TheVariants.{Swing}
use Rattle.orc_fifo_rule.specs.QueueDiscipline.{FifoHolds, FifoMay, entries_of, has_begun, entries_in}
use Rattle.orc_fifo_rule.specs.Laws.Events.{begun_more}
use Rattle.orc_queue.specs.Looking.{FindsTwo, HoldsRoot, Known}
use Rattle.orc_queue.specs.declared.put.PutTurn.{PutTurn}
use Rattle.orc_queue.specs.declared.put.PutTurn.TheVariants.{Full, Over as PutOver, Put as PutDone}
use Rattle.orc_queue.specs.Turns.{AreOver, EndsHelping, FindsFull, HoldsNode, IsTurnOver, Piece, PutMissed, PutTires, PutsBehind, PutsTurn, PutsTurns, TailIsLast, back_moves_in}
use Rattle.orc_queue.proofs.Alone.{look_next, look_root, over_helped, over_missed, over_quiet, swing_settles, swing_tail}
use Rattle.orc_queue.proofs.Backs.{backs_left, backs_since_both, backs_then, look_or_back, looks_back}
use Rattle.orc_queue.proofs.Behind.{behind_piece}
use Rattle.orc_queue.proofs.Holding.{found_fresh, found_id, found_other_id, found_released}
use Rattle.orc_queue.proofs.Joins.{full_join_left, full_join_right, join, room_join}
use Rattle.orc_queue.proofs.Pieces.{linked_puts, node_held, node_puts}
use Rattle.orc_queue.proofs.Room.{room_unseen}
use Rattle.orc_heap.proofs.OwnEntries.{noted-append}
use Rattle.orc_heap.proofs.SingleActs.{link_same, null_to, some_same}
use Rattle.orc_heap.proofs.Pieces.{moves_left, one_part, puts_released}
use Rattle.orc_heap.proofs.Moments.{looks_differ}
use Rattle.orc_heap.proofs.Moved.{gives_in-append}

-- two looks at the tail, two at its link, and the Swing
module _ (n : HeapNumbers) (s : Seat FifoNote) (one : Link) (tail next : ℕ) where
  abbrev looks : List (Event FifoNote)
  looks = look_root s 1 one ∷ look_root s 1 (link_to tail) ∷ look_next s tail next ∷ look_next s tail next ∷ []

  abbrev helping : List (Event FifoNote)
  helping = look_root s 1 one ∷ look_root s 1 (link_to tail) ∷ look_next s tail next ∷ look_next s tail next ∷ swing_tail s tail next ∷ []

  helped_settles : (es : List (Event FifoNote)) → FifoHolds n es → has_begun es ≡ true → AllAllowed (FifoMay n) es helping
      → TailIsLast (run_heap n (es ++ helping))
  helped_settles es holds begun all =
      let first = allowed-left (FifoMay n) es looks (swing_tail s tail next ∷ []) all in
      let last = allowed-right (FifoMay n) es looks (swing_tail s tail next ∷ []) all in
      let r = swing_settles n (es ++ looks) s.agent tail next (holds_later n es looks holds first) (begun_more es looks begun) last.0 in
      subst (λ z. TailIsLast (run_heap n z)) (append_assoc es looks (swing_tail s tail next ∷ [])) r

  helped_unsettled : (es : List (Event FifoNote)) → AllAllowed (FifoMay n) es helping → TailIsLast (run_heap n es) → ⊥
  helped_unsettled es all settled =
      let first = look_root s 1 one in
      let second = look_root s 1 (link_to tail) in
      let same : run_heap n ((es ++ first ∷ []) ++ second ∷ []) ≡ run_heap n es =
      ap (λ z. run_heap n z) (append_assoc es (first ∷ []) (second ∷ [])) ∙ run_from-append (new_heap n) es (first ∷ second ∷ []) in
      let link : shown (run_heap n es) (Next tail) ≡ Some (link_to next) =
      subst (λ (h : Heap). shown h (Next tail) ≡ Some (link_to next)) same all.1.1.0.fits in
      let before : run_heap n (es ++ first ∷ []) ≡ run_heap n es = run_from-append (new_heap n) es (first ∷ []) in
      let tail_at : shown (run_heap n es) (Root 1) ≡ Some (link_to tail) = subst (λ (h : Heap). shown h (Root 1) ≡ Some (link_to tail)) before all.1.0.fits in
      let last_is : settled.last ≡ tail = link_same settled.last tail (some_same (sym settled.tail_is ∙ tail_at)) in
      null_to next (some_same (sym (subst (λ (x : ℕ). shown (run_heap n es) (Next x) ≡ Some null) last_is settled.ends) ∙ link))

enough : {i j : ℕ} → 1 ≤ i → i ≤ j → 1 ≤ j
enough p q = omega (arith, p, q)

-- from a look of the tail to its release
module _ (n : HeapNumbers) (one : Link) (job tail : ℕ) (h : Hold) (s a b t : Seat FifoNote) (k : Known n s.seen) (kb : Known n b.seen)
    (all_a : AllAllowed (FifoMay n) [] a.seen) (all_t : AllAllowed (FifoMay n) [] t.seen)
    (p : Puts s (event_of s (Look (Root 1) one) None ∷ event_of s (Look (Root 1) (link_to tail)) None ∷ []) a) (freed : Puts b [] t)
    (slots : t.slots ≡ s.slots) (fresh_a : a.fresh ≡ s.fresh) (fresh_t : t.fresh ≡ b.fresh)
    (held : Holds t.slots h) (same_id : id_in t.slots h ≡ id_in b.slots h)
  where
    first_room : FindsFull n s.agent s.seen p.part → ⊥
    first_room = room_unseen n s a _ p refl

    pub turn_done : (turn : PutTurn) → PutsBehind n job tail h a turn b → PutsTurn n job h s turn t
    turn_done PutOver l =
        let q0 = l.stops.piece in
        let q = puts_released a b t q0.own q0.puts freed in
        let j = join 6 s a t (look_root s 1 one ∷ look_root s 1 (link_to tail) ∷ []) q0.own [] p q slots q0.entries_are (omega (arith, q0.no_give))
        (omega (arith, q0.few)) in
        let fresh = fresh_t ∙ (l.stops.fresh ∙ fresh_a) in
        let moved = λ (at : shown (heap_of n a) (Root 1) ≡ Some (link_to tail)). enough (l.stops.moved at)
        (moves_left a b t q0.own [] q0.own q0.puts freed q) in
        let over : IsTurnOver n TailIsLast s t = elim l.stops.own_moves [
          | inl none ↦ over_missed n TailIsLast 1 tail one s a t k all_a all_t p q0.own q j fresh moved none
          | inr helping ↦
              let next : ℕ = helping.0 in
              let is : q0.own ≡ look_next s tail next ∷ look_next s tail next ∷ swing_tail s tail next ∷ [] =
              helping.1 ∙ ap (λ (x : ℕ). record { agent = x; act = Look (Next tail) (link_to next); note = None }
              ∷ record { agent = x; act = Look (Next tail) (link_to next); note = None }
              ∷ record { agent = x; act = Move (Root 1) (link_to tail) (link_to next); note = Some Swing } ∷ []) p.agent in
              over_helped n TailIsLast 1 tail one s a t k all_a all_t p q0.own q j fresh moved
              (look_next s tail next ∷ look_next s tail next ∷ swing_tail s tail next ∷ []) is (helped_settles n s one tail next)
              (helped_unsettled n s one tail next)
        ] in
        record {
          over = over;
          room = room_join n s a t _ _ over.piece.own p q over.piece.puts first_room
              (room_join n a b t _ _ _ q0.puts freed q l.room (room_unseen n b t [] freed refl));
          node = node_held n b t [] freed all_t job h l.node.second kb l.node held same_id fresh_t refl refl;
          back = elim (look_or_back n (Root 1) refl s a k all_a tt (link_to tail) None (look_root s 1 one ∷ []) [] p) [
            | inl at ↦
                omega (
                  arith,
                  l.back at,
                  backs_left a b t q0.own [] q0.own q0.puts freed q,
                  backs_then s a t (look_root s 1 one)
                      (look_root s 1 (link_to tail) ∷ []) q0.own over.piece.own p q over.piece.puts refl refl,
                )
            | inr some ↦ omega (
              arith,
              some,
              backs_since_both s a t (look_root s 1 one ∷ look_root s 1 (link_to tail) ∷ []) q0.own
                  over.piece.own p q over.piece.puts,
            )
          ];
        }
    turn_done (PutDone at) l =
        let q0 = l.piece in
        let q = puts_released a b t q0.own q0.puts freed in
        let entries : entries_of q0.own ≡ Put s.agent job at ∷ [] = q0.entries_are ∙ ap (λ (x : ℕ). Put x job at ∷ []) p.agent in
        let j = join 6 s a t (look_root s 1 one ∷ look_root s 1 (link_to tail) ∷ []) q0.own (Put s.agent job at ∷ []) p q slots entries
        (omega (arith, q0.no_give)) (omega (arith, q0.few)) in
        record {
          piece = j.piece;
          helps = record {
            before = look_root s 1 one ∷ [];
            tail = tail;
            look = look_root s 1 (link_to tail);
            sees = refl;
            rest = q0.own;
            es_are =
                j.own_is;
            swings = l.helps;
          };
          fresh = fresh_t ∙ l.fresh;
          low = l.low;
          room = room_join n s a t _ _ _ p q j.piece.puts first_room (room_join n a b t _ _ _ q0.puts freed q l.room (room_unseen n b t [] freed refl));
        }
    turn_done Full l =
        let q0 = l.piece in
        let q = puts_released a b t q0.own q0.puts freed in
        let j = join 6 s a t (look_root s 1 one ∷ look_root s 1 (link_to tail) ∷ []) q0.own [] p q slots q0.entries_are (omega (arith, q0.no_give))
        (omega (arith, q0.few)) in
        record {
          piece = j.piece;
          fresh = fresh_t ∙ (l.fresh ∙ fresh_a);
          full = full_join_right n s a t _ _ _ p q j.piece.puts (full_join_left n a b t _ _ _ q0.puts freed q l.full);
        }

-- by what the look of the tail found
pub turn_found : {n : HeapNumbers} (job : ℕ) (node : Hold) {tail : Hold} {s a b t : Seat FifoNote} → HoldsRoot n 1 2 s tail a → Known n b.seen
    → AllAllowed (FifoMay n) [] t.seen → Holds s.slots node
    → ((i : ℕ) → b.fresh ≡ Some i → IsUntouched b.agent (heap_of n b) i) → Releases b tail t → (turn : PutTurn)
    → PutsBehind n job (id_in a.slots tail) node a turn b → PutsTurn n job node s turn t
turn_found {n} job node {tail} {s} {a} {b} {t} f kb all held untouched released turn put =
    let piece = behind_piece n job (id_in a.slots tail) node a b turn put in
    let linked = linked_puts n a b piece.own piece.puts kb.all f.node.id f.node.linked in
    let fresh = found_fresh f.node piece.slots untouched linked released in
    let slots = found_released f.node piece.slots released in
    let same = ap (λ z. id_in z node) slots ∙ sym (ap (λ z. id_in z node) piece.slots ∙ found_other_id f.node node held) in
    turn_done n f.one job f.node.id node s a b t f.before kb f.after.all all f.puts released.puts slots f.fresh fresh
    (subst (λ z. Holds z node) (sym slots) held) same turn (subst (λ (i : ℕ). PutsBehind n job i node a turn b) (found_id f.node) put)

-- the tail moved between two looks
pub turn_moved : {n : HeapNumbers} (job : ℕ) (h : Hold) {s t : Seat FifoNote} → FindsTwo n (Root 1) s t → HoldsNode n job h s → PutMissed n job h s t
turn_moved {n} job h {s} {t} f node =
    let piece : Piece 6 s [] t = record { own = _; slots = f.slots; puts = f.puts; entries_are = refl; no_give = refl; few = omega arith } in
    let over = over_quiet n TailIsLast s t piece f.fresh refl
    (looks_differ n (FifoMay n) (λ es x k. k.fits) s t (Root 1) f.one f.two f.puts f.after.all tt f.other) in
    record {
      over = over;
      room = λ x. room_unseen n s t _ f.puts refl (subst (λ z. FindsFull n s.agent s.seen z) (one_part s t _ _ over.piece.puts f.puts) x);
      node = node_puts n s t _ f.puts f.after.all job h node.second f.before node f.slots f.fresh refl refl;
      back = subst (λ z. 1 ≤ back_moves_in s.agent z) (one_part s t _ _ f.puts over.piece.puts)
          (looks_back n (Root 1) refl s t f.before f.after.all tt f.one f.two f.puts f.other);
    }

-- one turn more
pub over_next : (n : HeapNumbers) (IsSettled : Heap → Type 0) (turns : ℕ) (s t u : Seat FifoNote) → AreOver n IsSettled turns s t
    → IsTurnOver n IsSettled t u → AreOver n IsSettled (turns + 1) s u
over_next n IsSettled turns s t u all one =
    let p = all.piece.puts in
    let q = one.piece.puts in
    let j = join (6 * (turns + 1)) s t u all.piece.own one.piece.own [] p q (one.piece.slots ∙ all.piece.slots)
    (noted-append entries_in all.piece.own one.piece.own ∙ (ap (λ z. z ++ entries_of one.piece.own) all.piece.entries_are ∙ one.piece.entries_are))
    (omega (arith, gives_in-append all.piece.own one.piece.own, all.piece.no_give, one.piece.no_give))
    (omega (arith, length-append all.piece.own one.piece.own, all.piece.few, one.piece.few)) in
    let moved : 1 ≤ moves_in (from_own s.agent q.part) = subst (λ (x : ℕ). 1 ≤ moves_in (from_own x q.part)) p.agent one.moved in
    let settles = subst (λ (x : ℕ). AllOwn x (from_own x q.part) → IsSettled (heap_of n u)) p.agent one.settles in
    let unsettled = subst (λ (x : ℕ). AllOwn x q.part → IsSettled (heap_of n t) → ⊥) p.agent one.unsettled in
    record {
      piece = j.piece;
      fresh = one.fresh ∙ all.fresh;
      moved = rw j.part_is (omega (arith, moves_from_own-append s.agent p.part q.part, all.moved, moved));
      settles = λ some alone. settles (own_from_right s.agent p.part q.part (subst (λ z. AllOwn s.agent (from_own s.agent z)) j.part_is alone));
      busy = λ two alone.
          let whole = subst (λ z. AllOwn s.agent (from_own s.agent z)) j.part_is alone in
          let some : 1 ≤ turns = omega (arith, two) in
          unsettled (own_from_rest s.agent p.part q.part (omega (arith, some, all.moved)) whole) (all.settles some (own_from_left s.agent p.part q.part whole));
    }

-- no turn yet
pub over_none : (n : HeapNumbers) (IsSettled : Heap → Type 0) (s : Seat FifoNote) → AreOver n IsSettled 0 s s
over_none n IsSettled s = record {
  piece = record {
    own = [];
    slots = refl;
    puts = record { part = []; is = sym (append-nil s.seen); agent = refl; own_is = refl };
    entries_are =
        refl;
    no_give = refl;
    few = omega arith;
  };
  fresh = refl;
  moved = omega arith;
  settles = λ some alone. absurd (omega (arith, some));
  busy = λ two alone. omega (arith, two);
}

pub tires_none : (n : HeapNumbers) (job : ℕ) (h : Hold) (s : Seat FifoNote) → HoldsNode n job h s → PutTires n job 0 h s s
tires_none n job h s node =
    let over = over_none n TailIsLast s in
    record {
      over = over;
      room = λ f. room_unseen n s s _ (record { part = []; is = sym (append-nil s.seen); agent = refl; own_is = refl }) refl
          (subst (λ z. FindsFull n s.agent s.seen z)
          (one_part s s _ [] over.piece.puts (record { part = []; is = sym (append-nil s.seen); agent = refl; own_is = refl })) f);
      node = node;
      back = omega arith;
    }

pub tires_next : (n : HeapNumbers) (job turns : ℕ) (h : Hold) (s t u : Seat FifoNote) → PutTires n job turns h s t → PutMissed n job h t u
    → PutTires n job (turns + 1) h s u
tires_next n job turns h s t u all one =
    let over = over_next n TailIsLast turns s t u all.over one.over in
    record {
      over = over;
      room = room_join n s t u _ _ _ all.over.piece.puts one.over.piece.puts over.piece.puts all.room one.room;
      node = one.node;
      back = omega (arith, all.back, one.back, backs_since_both s t u _ _ _ all.over.piece.puts one.over.piece.puts over.piece.puts);
    }

-- the help of the tail after other events
pub ends_helping : (es fs : List (Event FifoNote)) → EndsHelping fs → EndsHelping (es ++ fs)
ends_helping es fs h =
    record {
      before = es ++ h.before;
      tail = h.tail;
      look = h.look;
      sees = h.sees;
      rest = h.rest;
      es_are =
          ap (λ z. es ++ z) h.es_are ∙ sym (append_assoc es h.before (h.look ∷ h.rest));
      swings = h.swings;
    }

-- the turn that answers
pub turns_done : (n : HeapNumbers) (job turns more : ℕ) (h : Hold) (s t u : Seat FifoNote) (turn : PutTurn) → turn ≢ PutOver → turns < more
    → PutTires n job turns h s t → PutsTurn n job h t turn u → PutsTurns n job more h s turn u
turns_done n job turns more h s t u PutOver ne low all one = absurd (ne refl)
turns_done n job turns more h s t u (PutDone at) ne low all one =
    let q = all.over.piece in
    let r = one.piece in
    let entries : entries_of (q.own ++ r.own) ≡ Put s.agent job at ∷ [] = noted-append entries_in q.own r.own
    ∙ (ap (λ z. z ++ entries_of r.own) q.entries_are ∙ (r.entries_are ∙ ap (λ (x : ℕ). Put x job at ∷ []) q.puts.agent)) in
    let j = join (6 * more) s t u q.own r.own (Put s.agent job at ∷ []) q.puts r.puts (r.slots ∙ q.slots) entries
    (omega (arith, gives_in-append q.own r.own, q.no_give, r.no_give)) (omega (arith, length-append q.own r.own, q.few, r.few, low)) in
    record {
      piece = j.piece;
      helps = subst EndsHelping (sym j.own_is) (ends_helping q.own r.own one.helps);
      fresh = one.fresh;
      low = one.low;
      room =
          room_join n s t u _ _ _ q.puts r.puts j.piece.puts all.room one.room;
    }
turns_done n job turns more h s t u Full ne low all one =
    let q = all.over.piece in
    let r = one.piece in
    let entries : entries_of (q.own ++ r.own) ≡ [] = noted-append entries_in q.own r.own ∙ (ap (λ z. z ++ entries_of r.own) q.entries_are ∙ r.entries_are) in
    let j = join (6 * more) s t u q.own r.own [] q.puts r.puts (r.slots ∙ q.slots) entries
    (omega (arith, gives_in-append q.own r.own, q.no_give, r.no_give)) (omega (arith, length-append q.own r.own, q.few, r.few, low)) in
    record { piece = j.piece; fresh = one.fresh ∙ all.over.fresh; full = full_join_right n s t u _ _ _ q.puts r.puts j.piece.puts one.full }
