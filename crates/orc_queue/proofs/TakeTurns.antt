-- A turn of a take, and so many.
use Rattle.std.proofs.Common.{List, Some, None, [], ap, append_assoc, arith, inl, inr, refl, subst, sym, true, ℕ, ◌*◌, ◌++◌, ◌<◌, ◌∙◌, ◌∷◌, ◌≡◌, ◌≢◌, ◌≤◌}
use Rattle.std.proofs.lemmas.List.{length-append}
use Rattle.orc_heap.proofs.OwnParts.{moves_from_own}
use Rattle.orc_heap.proofs.Runs.{run_from-append}
use Rattle.orc_heap.proofs.Stays.{allowed-left, allowed-right}
use Rattle.orc_heap.specs.Allowed.{AllAllowed, IsLinkedNode}
use Rattle.orc_heap.specs.Calls.{Releases, event_of}
use Rattle.orc_heap.specs.Heap.{Heap, HeapNumbers, new_heap, null, shown, link_to}
use Rattle.orc_heap.specs.Journals.{run_heap}
use Rattle.orc_heap.specs.Moves.{moves_in}
use Rattle.orc_heap.specs.OwnEvents.{Puts}
use Rattle.orc_heap.specs.Seats.{IsUntouched, Seat, heap_of}
use Rattle.orc_heap.specs.Slots.{Hold, Holds, id_in}
use Rattle.orc_heap.specs.declared.events.Act.TheVariants.{Look, Move}
use Rattle.orc_heap.specs.declared.events.Event.{Event}
use Rattle.orc_heap.specs.declared.events.Link.{Link}
use Rattle.orc_heap.specs.declared.events.Place.TheVariants.{Next, Root}
use Rattle.orc_history.specs.declared.queue.QueueEntry.TheVariants.{Empty, Took}
use Rattle.orc_fifo_rule.proofs.Later.{holds_later}
use Rattle.orc_fifo_rule.specs.declared.fifo.FifoNote.{FifoNote}
use Rattle.orc_fifo_rule.specs.declared.fifo.FifoNote.TheVariants.{Swing}
use Rattle.orc_fifo_rule.specs.QueueDiscipline.{FifoHolds, FifoMay, entries_of, has_begun, entries_in}
use Rattle.orc_fifo_rule.specs.Laws.Events.{begun_more}
use Rattle.orc_queue.specs.Looking.{FindsTwo, HoldsNext, HoldsRoot, Known}
use Rattle.orc_queue.specs.declared.take.TakeTurn.{TakeTurn}
use Rattle.orc_queue.specs.declared.take.TakeTurn.TheVariants.{Empty as TakeEmpty, Over as TakeOver, Took as TakeDone}
use Rattle.orc_queue.specs.Turns.{AreOver, HelpsHead, IsTurnOver, HasStopped, TailIsPast, TakesBehind, TakesJob, TakesFromHead, TakesNone, TakesTurn, TakesTurns}
use Rattle.orc_queue.proofs.Alone.{look_next, look_root, over_helped, over_missed, over_quiet, swing_past, swing_tail}
use Rattle.orc_queue.proofs.Holding.{found_fresh, found_id, found_other_id, found_released}
use Rattle.orc_queue.proofs.Joins.{join}
use Rattle.orc_queue.proofs.Pieces.{linked_puts}
use Rattle.orc_queue.proofs.Taking.{still_puts}
use Rattle.orc_heap.proofs.OwnEntries.{noted-append}
use Rattle.orc_heap.proofs.SingleActs.{link_same, some_same}
use Rattle.orc_heap.proofs.Pieces.{moves_left, moves_right, puts_released}
use Rattle.orc_heap.proofs.Moments.{look_found, looks_differ}
use Rattle.orc_heap.proofs.Moved.{gives_in-append}

enough : {i j : ℕ} → 1 ≤ i → i ≤ j → 1 ≤ j
enough p q = omega (arith, p, q)

-- the head's link was null
module _ (n : HeapNumbers) (head : ℕ) (s a t : Seat FifoNote) (linked : IsLinkedNode (heap_of n s) head)
    (p : Puts s (event_of s (Look (Next head) null) None ∷ []) a) (all_a : AllAllowed (FifoMay n) [] a.seen)
    (slots : a.slots ≡ s.slots) (fresh : a.fresh ≡ s.fresh)
  where
    pub behind_empty : TakesNone 1 a t → TakesNone 4 s t
    behind_empty l =
        let q = l.piece in
        let j = join 4 s a t (event_of s (Look (Next head) null) None ∷ []) q.own (Empty s.agent ∷ []) p q.puts (q.slots ∙ slots)
        (q.entries_are ∙ ap (λ (x : ℕ). Empty x ∷ []) p.agent) (omega (arith, q.no_give)) (omega (arith, q.few)) in
        record { piece = j.piece; fresh = l.fresh ∙ fresh }

    pub behind_lost : HasStopped n 1 (Next head) null (λ own. ⊥) a t → HasStopped n 4 (Root 0) (link_to head) (HelpsHead s head) s t
    behind_lost l =
        let q = l.piece in
        let j = join 4 s a t (event_of s (Look (Next head) null) None ∷ []) q.own [] p q.puts (q.slots ∙ slots) q.entries_are
        (omega (arith, q.no_give)) (omega (arith, q.few)) in
        let found = look_found n (FifoMay n) (λ es x k. k.fits) s a (Next head) null None [] [] p all_a linked in
        record {
          piece = j.piece;
          fresh = l.fresh ∙ fresh;
          moved = λ at. elim found [
            | inl still ↦ omega (arith, l.moved still, moves_right s a t _ _ _ p q.puts j.piece.puts)
            | inr some ↦ omega (arith, some, moves_from_own s.agent p.part, moves_left s a t _ _ _ p q.puts j.piece.puts)
          ];
          own_moves = inl
              (ap (λ (z : List (Event FifoNote)). moves_in z) j.own_is ∙ elim l.own_moves [ inl none ↦ omega (arith, none) | inr bad ↦ absurd bad ]);
        }

-- the head's link led to a node
module _ (n : HeapNumbers) (head next : ℕ) (s a b t : Seat FifoNote)
    (p : Puts s (event_of s (Look (Next head) (link_to next)) None ∷ event_of s (Look (Next head) (link_to next)) None ∷ []) a)
    (all_a : AllAllowed (FifoMay n) [] a.seen) (freed : Puts b [] t) (slots : t.slots ≡ s.slots) (fresh_a : a.fresh ≡ s.fresh) (fresh_t : t.fresh ≡ b.fresh)
  where
    pub behind_over : TakesFromHead n head next a TakeOver b → HasStopped n 4 (Root 0) (link_to head) (HelpsHead s head) s t
    behind_over l =
        let first : Event FifoNote = event_of s (Look (Next head) (link_to next)) None in
        let q0 = l.piece in
        let q = puts_released a b t q0.own q0.puts freed in
        let j = join 4 s a t (first ∷ first ∷ []) q0.own [] p q slots q0.entries_are (omega (arith, q0.no_give)) (omega (arith, q0.few)) in
        record {
          piece = j.piece;
          fresh = fresh_t ∙ (l.fresh ∙ fresh_a);
          moved = λ at. elim (still_puts n s a _ p all_a 0 (link_to head) at) [
            | inl still ↦ omega (arith, l.moved still, moves_left a b t _ _ _ q0.puts freed q, moves_right s a t _ _ _ p q j.piece.puts)
            | inr some ↦ omega (arith, some, moves_left s a t _ _ _ p q j.piece.puts)
          ];
          own_moves = elim l.own_moves [
            | inl none ↦ inl (ap (λ (z : List (Event FifoNote)). moves_in z) j.own_is ∙ omega (arith, none))
            | inr is ↦ inr (
              next,
              j.own_is ∙ (ap (λ z. first ∷ first ∷ z) is ∙ ap (λ (x : ℕ). first ∷ first ∷ record { agent = x; act = Look (Root 1) (link_to head); note = None }
                  ∷ record { agent = x; act = Move (Root 1) (link_to head) (link_to next); note = Some Swing } ∷ []) p.agent),
            )
          ];
        }

    pub behind_taken : (job at : ℕ) → TakesJob 2 job at a b → TakesJob 4 job at s t
    behind_taken job at l =
        let q0 = l.piece in
        let q = puts_released a b t q0.own q0.puts freed in
        let j = join 4 s a t _ q0.own (Took s.agent job at ∷ []) p q slots (q0.entries_are ∙ ap (λ (x : ℕ). Took x job at ∷ []) p.agent)
        (omega (arith, q0.no_give)) (omega (arith, q0.few)) in
        record { piece = j.piece; fresh = fresh_t ∙ (l.fresh ∙ fresh_a) }

-- the head's link moved between two looks
pub behind_differs : {n : HeapNumbers} (head : ℕ) {s t : Seat FifoNote} → FindsTwo n (Next head) s t → IsLinkedNode (heap_of n s) head
    → HasStopped n 4 (Root 0) (link_to head) (HelpsHead s head) s t
behind_differs {n} head {s} {t} f linked = record {
  piece = record { own = _; slots = f.slots; puts = f.puts; entries_are = refl; no_give = refl; few = omega arith };
  fresh = f.fresh;
  moved = λ at. omega (
    arith,
    moves_from_own s.agent f.puts.part,
    looks_differ n (FifoMay n) (λ es x k. k.fits) s t (Next head) f.one f.two f.puts f.after.all linked f.other,
  );
  own_moves = inl refl;
}

-- what the pass holds after it
pub record TakenPiece (s t : Seat FifoNote) : Type 0 where
  pub own : List (Event FifoNote)
  pub slots : t.slots ≡ s.slots
  pub fresh : t.fresh ≡ s.fresh
  pub puts : Puts s own t

pub next_piece : (n : HeapNumbers) (head next : ℕ) (s t : Seat FifoNote) (turn : TakeTurn) → TakesFromHead n head next s turn t → TakenPiece s t
next_piece n head next s t TakeOver l = record { own = l.piece.own; slots = l.piece.slots; fresh = l.fresh; puts = l.piece.puts }
next_piece n head next s t (TakeDone job at) l = record { own = l.piece.own; slots = l.piece.slots; fresh = l.fresh; puts = l.piece.puts }
next_piece n head next s t TakeEmpty l = absurd l

-- the successor that the pass held is released
module _ (n : HeapNumbers) (s a b t : Seat FifoNote) (slot : ℕ) (head next : Hold) (held : Holds s.slots head)
    (f : HoldsNext n (id_in s.slots head) slot s next a) (all : AllAllowed (FifoMay n) [] b.seen)
    (untouched : (i : ℕ) → b.fresh ≡ Some i → IsUntouched b.agent (heap_of n b) i) (released : Releases b next t)
  where
    told : (turn : TakeTurn) → TakesFromHead n (id_in a.slots head) (id_in a.slots next) a turn b
        → TakesFromHead n (id_in s.slots head) f.node.id a turn b
    told turn l = subst (λ (i : ℕ). TakesFromHead n i f.node.id a turn b) (found_other_id f.node head held)
        (subst (λ (i : ℕ). TakesFromHead n (id_in a.slots head) i a turn b) (found_id f.node) l)

    piece : (turn : TakeTurn) → TakesFromHead n (id_in a.slots head) (id_in a.slots next) a turn b → TakenPiece a b
    piece turn l = next_piece n (id_in a.slots head) (id_in a.slots next) a b turn l

    still_fresh : (turn : TakeTurn) → TakesFromHead n (id_in a.slots head) (id_in a.slots next) a turn b → t.fresh ≡ b.fresh
    still_fresh turn l =
        let p = piece turn l in
        found_fresh f.node p.slots untouched (linked_puts n a b p.own p.puts all f.node.id f.node.linked) released

    back : (turn : TakeTurn) → TakesFromHead n (id_in a.slots head) (id_in a.slots next) a turn b → t.slots ≡ s.slots
    back turn l = found_released f.node (piece turn l).slots released

    pub next_turn : (turn : TakeTurn) → TakesFromHead n (id_in a.slots head) (id_in a.slots next) a turn b → TakesBehind n (id_in s.slots head) s turn t
    next_turn TakeOver l =
        behind_over n (id_in s.slots head) f.node.id s a b t f.puts f.after.all released.puts (back TakeOver l) f.fresh (still_fresh TakeOver l)
        (told TakeOver l)
    next_turn (TakeDone job at) l =
        let turn = TakeDone job at in
        behind_taken n (id_in s.slots head) f.node.id s a b t f.puts f.after.all released.puts (back turn l) f.fresh (still_fresh turn l) job at (told turn l)
    next_turn TakeEmpty l = absurd l

-- and after all that a turn does behind the head
pub behind_kept : (n : HeapNumbers) (head : ℕ) (s t : Seat FifoNote) (turn : TakeTurn) → TakesBehind n head s turn t → TakenPiece s t
behind_kept n head s t TakeOver l = record { own = l.piece.own; slots = l.piece.slots; fresh = l.fresh; puts = l.piece.puts }
behind_kept n head s t (TakeDone job at) l = record { own = l.piece.own; slots = l.piece.slots; fresh = l.fresh; puts = l.piece.puts }
behind_kept n head s t TakeEmpty l = record { own = l.piece.own; slots = l.piece.slots; fresh = l.fresh; puts = l.piece.puts }

-- two looks at the head, two at its link, the test of the tail, and the Swing
module _ (n : HeapNumbers) (s : Seat FifoNote) (one : Link) (head next : ℕ) where
  abbrev helping : List (Event FifoNote)
  helping = look_next s head next ∷ look_next s head next ∷ look_root s 1 (link_to head) ∷ swing_tail s head next ∷ []

  helped_settles : (es : List (Event FifoNote)) → FifoHolds n es → has_begun es ≡ true → AllAllowed (FifoMay n) es (look_root s 0 one ∷ look_root s 0 (link_to head) ∷ helping)
      → TailIsPast (run_heap n (es ++ look_root s 0 one ∷ look_root s 0 (link_to head) ∷ helping))
  helped_settles es holds begun all =
      let looks : List (Event FifoNote) = look_root s 0 one ∷ look_root s 0 (link_to head) ∷ look_next s head next ∷ look_next s head next ∷ look_root s 1 (link_to head) ∷ [] in
      let first = allowed-left (FifoMay n) es looks (swing_tail s head next ∷ []) all in
      let last = allowed-right (FifoMay n) es looks (swing_tail s head next ∷ []) all in
      let same : run_heap n (es ++ looks) ≡ run_heap n es = run_from-append (new_heap n) es looks in
      let before : run_heap n (es ++ look_root s 0 one ∷ []) ≡ run_heap n es = run_from-append (new_heap n) es (look_root s 0 one ∷ []) in
      let at : shown (run_heap n (es ++ looks)) (Root 0) ≡ Some (link_to head) = ap (λ (h : Heap). shown h (Root 0)) (same ∙ sym before) ∙ all.1.0.fits in
      let r = swing_past n (es ++ looks) s.agent head next (holds_later n es looks holds first) (begun_more es looks begun) at last.0 in
      subst (λ z. TailIsPast (run_heap n z)) (append_assoc es looks (swing_tail s head next ∷ [])) r

  helped_unsettled : (es : List (Event FifoNote)) → AllAllowed (FifoMay n) es (look_root s 0 one ∷ look_root s 0 (link_to head) ∷ helping) → TailIsPast (run_heap n es) → ⊥
  helped_unsettled es all settled =
      let looks : List (Event FifoNote) = look_root s 0 one ∷ look_root s 0 (link_to head) ∷ look_next s head next ∷ look_next s head next ∷ [] in
      let last = allowed-right (FifoMay n) es looks (look_root s 1 (link_to head) ∷ swing_tail s head next ∷ []) all in
      let same : run_heap n (es ++ looks) ≡ run_heap n es = run_from-append (new_heap n) es looks in
      let tail_is : shown (run_heap n es) (Root 1) ≡ Some (link_to head) = ap (λ (h : Heap). shown h (Root 1)) (sym same) ∙ last.0.fits in
      let before : run_heap n (es ++ look_root s 0 one ∷ []) ≡ run_heap n es = run_from-append (new_heap n) es (look_root s 0 one ∷ []) in
      let head_at : shown (run_heap n es) (Root 0) ≡ Some (link_to head) = ap (λ (h : Heap). shown h (Root 0)) (sym before) ∙ all.1.0.fits in
      let head_same : settled.head ≡ head = link_same settled.head head (some_same (sym settled.head_is ∙ head_at)) in
      settled.tail_apart (tail_is ∙ ap (λ (x : ℕ). Some (link_to x)) (sym head_same))

-- from a look of the head to its release
module _ (n : HeapNumbers) (one : Link) (head : ℕ) (s a b t : Seat FifoNote) (k : Known n s.seen) (all_a : AllAllowed (FifoMay n) [] a.seen)
    (all_t : AllAllowed (FifoMay n) [] t.seen)
    (p : Puts s (event_of s (Look (Root 0) one) None ∷ event_of s (Look (Root 0) (link_to head)) None ∷ []) a) (freed : Puts b [] t)
    (slots : t.slots ≡ s.slots) (fresh_a : a.fresh ≡ s.fresh) (fresh_t : t.fresh ≡ b.fresh)
  where
    pub turn_taken : (turn : TakeTurn) → TakesBehind n head a turn b → TakesTurn n s turn t
    turn_taken TakeOver l =
        let q0 = l.piece in
        let q = puts_released a b t q0.own q0.puts freed in
        let looks : List (Event FifoNote) = look_root s 0 one ∷ look_root s 0 (link_to head) ∷ [] in
        let j = join 6 s a t looks q0.own [] p q slots q0.entries_are (omega (arith, q0.no_give)) (omega (arith, q0.few)) in
        let fresh = fresh_t ∙ (l.fresh ∙ fresh_a) in
        let moved = λ (at : shown (heap_of n a) (Root 0) ≡ Some (link_to head)). enough (l.moved at) (moves_left a b t q0.own [] q0.own q0.puts freed q) in
        elim l.own_moves [
          | inl none ↦ over_missed n TailIsPast 0 head one s a t k all_a all_t p q0.own q j fresh moved none
          | inr helped ↦
              let next : ℕ = helped.0 in
              let is : q0.own ≡ helping n s one head next =
              helped.1 ∙ ap (λ (x : ℕ). record { agent = x; act = Look (Next head) (link_to next); note = None }
              ∷ record { agent = x; act = Look (Next head) (link_to next); note = None }
              ∷ record { agent = x; act = Look (Root 1) (link_to head); note = None }
              ∷ record { agent = x; act = Move (Root 1) (link_to head) (link_to next); note = Some Swing } ∷ []) p.agent in
              over_helped n TailIsPast 0 head one s a t k all_a all_t p q0.own q j fresh moved (helping n s one head next) is
              (helped_settles n s one head next) (helped_unsettled n s one head next)
        ]
    turn_taken (TakeDone job at) l =
        let q0 = l.piece in
        let q = puts_released a b t q0.own q0.puts freed in
        let j = join 6 s a t _ q0.own (Took s.agent job at ∷ []) p q slots (q0.entries_are ∙ ap (λ (x : ℕ). Took x job at ∷ []) p.agent)
        (omega (arith, q0.no_give)) (omega (arith, q0.few)) in
        record { piece = j.piece; fresh = fresh_t ∙ (l.fresh ∙ fresh_a) }
    turn_taken TakeEmpty l =
        let q0 = l.piece in
        let q = puts_released a b t q0.own q0.puts freed in
        let j = join 6 s a t _ q0.own (Empty s.agent ∷ []) p q slots (q0.entries_are ∙ ap (λ (x : ℕ). Empty x ∷ []) p.agent)
        (omega (arith, q0.no_give)) (omega (arith, q0.few)) in
        record { piece = j.piece; fresh = fresh_t ∙ (l.fresh ∙ fresh_a) }

-- by what the look of the head found
pub turn_found : {n : HeapNumbers} {head : Hold} {s a b t : Seat FifoNote} → HoldsRoot n 0 1 s head a → AllAllowed (FifoMay n) [] b.seen
    → AllAllowed (FifoMay n) [] t.seen → ((i : ℕ) → b.fresh ≡ Some i → IsUntouched b.agent (heap_of n b) i)
    → Releases b head t → (turn : TakeTurn) → TakesBehind n (id_in a.slots head) a turn b → TakesTurn n s turn t
turn_found {n} {head} {s} {a} {b} {t} f all_b all_t untouched released turn took =
    let piece = behind_kept n (id_in a.slots head) a b turn took in
    let linked = linked_puts n a b piece.own piece.puts all_b f.node.id f.node.linked in
    turn_taken n f.one f.node.id s a b t f.before f.after.all all_t f.puts released.puts (found_released f.node piece.slots released) f.fresh
    (found_fresh f.node piece.slots untouched linked released) turn (subst (λ (i : ℕ). TakesBehind n i a turn b) (found_id f.node) took)

-- the head moved between two looks
pub turn_differs : {n : HeapNumbers} {s t : Seat FifoNote} → FindsTwo n (Root 0) s t → IsTurnOver n TailIsPast s t
turn_differs {n} {s} {t} f =
    over_quiet n TailIsPast s t (record { own = _; slots = f.slots; puts = f.puts; entries_are = refl; no_give = refl; few = omega arith }) f.fresh refl
    (looks_differ n (FifoMay n) (λ es x k. k.fits) s t (Root 0) f.one f.two f.puts f.after.all tt f.other)

-- the turn that answers
pub turns_taken : (n : HeapNumbers) (turns more : ℕ) (s t u : Seat FifoNote) (turn : TakeTurn) → turn ≢ TakeOver → turns < more
    → AreOver n TailIsPast turns s t → TakesTurn n t turn u → TakesTurns n more s turn u
turns_taken n turns more s t u TakeOver ne low all one = absurd (ne refl)
turns_taken n turns more s t u (TakeDone job at) ne low all one =
    let q = all.piece in
    let r = one.piece in
    let entries : entries_of (q.own ++ r.own) ≡ Took s.agent job at ∷ [] = noted-append entries_in q.own r.own
    ∙ (ap (λ z. z ++ entries_of r.own) q.entries_are ∙ (r.entries_are ∙ ap (λ (x : ℕ). Took x job at ∷ []) q.puts.agent)) in
    let j = join (6 * more) s t u q.own r.own (Took s.agent job at ∷ []) q.puts r.puts (r.slots ∙ q.slots) entries
    (omega (arith, gives_in-append q.own r.own, q.no_give, r.no_give)) (omega (arith, length-append q.own r.own, q.few, r.few, low)) in
    (λ none. omega (arith, none, low), record { piece = j.piece; fresh = one.fresh ∙ all.fresh })
turns_taken n turns more s t u TakeEmpty ne low all one =
    let q = all.piece in
    let r = one.piece in
    let entries : entries_of (q.own ++ r.own) ≡ Empty s.agent ∷ [] = noted-append entries_in q.own r.own
    ∙ (ap (λ z. z ++ entries_of r.own) q.entries_are ∙ (r.entries_are ∙ ap (λ (x : ℕ). Empty x ∷ []) q.puts.agent)) in
    let j = join (6 * more) s t u q.own r.own (Empty s.agent ∷ []) q.puts r.puts (r.slots ∙ q.slots) entries
    (omega (arith, gives_in-append q.own r.own, q.no_give, r.no_give)) (omega (arith, length-append q.own r.own, q.few, r.few, low)) in
    (λ none. omega (arith, none, low), record { piece = j.piece; fresh = one.fresh ∙ all.fresh })
