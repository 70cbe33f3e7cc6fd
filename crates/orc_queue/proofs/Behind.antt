-- A put, from the node on that the tail named.
use Rattle.std.proofs.Common.{List, Some, None, [], ap, arith, false, inl, inr, refl, subst, sym, true, ℕ, ◌<◌, ◌^◌, ◌∙◌, ◌∷◌, ◌≡◌, ◌≢◌, ◌≤◌}
use Rattle.std.proofs.lemmas.Bool.{ne_eqb}
use Rattle.orc_heap.proofs.OwnParts.{moves_from_own, moves_own}
use Rattle.orc_heap.proofs.Calls.{Puts-trans, part_allowed}
use Rattle.orc_heap.specs.Allowed.{AllAllowed, IsLinkedNode, HasLink}
use Rattle.orc_heap.specs.Calls.{Releases, event_of}
use Rattle.orc_heap.specs.Heap.{HeapNumbers, null, link_to}
use Rattle.orc_heap.specs.Moves.{moves_in}
use Rattle.orc_fifo_rule.specs.Counts.{off_the_head}
use Rattle.orc_heap.specs.OwnEvents.{Puts}
use Rattle.orc_heap.specs.Seats.{IsUntouched, Seat, heap_of}
use Rattle.orc_heap.specs.Slots.{Hold, Holds, id_in}
use Rattle.orc_heap.specs.declared.events.Act.TheVariants.{Look, Miss, Move}
use Rattle.orc_heap.specs.declared.events.Event.{Event}
use Rattle.orc_heap.specs.declared.events.Place.TheVariants.{Next, Root}
use Rattle.orc_history.specs.declared.queue.QueueEntry.TheVariants.{Put}
use Rattle.orc_fifo_rule.proofs.Reading.{successor_job}
use Rattle.orc_fifo_rule.specs.declared.fifo.FifoNote.{FifoNote}
use Rattle.orc_fifo_rule.specs.declared.fifo.FifoNote.TheVariants.{Swing}
use Rattle.orc_fifo_rule.specs.QueueDiscipline.{FifoMay, entries_of, position_of}
use Rattle.orc_fifo_rule.specs.Watches.{WasNamed}
use Rattle.orc_queue.specs.Looking.{FindsTwo, HoldsNext, Known}
use Rattle.orc_queue.specs.declared.put.PutTurn.{PutTurn}
use Rattle.orc_queue.specs.declared.put.PutTurn.TheVariants.{Full, Over as PutOver, Put as PutDone}
use Rattle.orc_queue.specs.Turns.{FindsFull, Helps, HoldsNode, LinksBehind, PutsBehind, SwingsLast, TurnMissed}
use Rattle.orc_queue.proofs.Backs.{backs_left, backs_right, backs_since, look_or_back, looks_back, miss_back, own_back}
use Rattle.orc_queue.proofs.Holding.{found_fresh, found_id, found_other_id, found_released}
use Rattle.orc_queue.proofs.Joins.{full_join_left, join, room_join}
use Rattle.orc_queue.proofs.Looking.{next_found}
use Rattle.orc_queue.proofs.Pieces.{linked_puts, node_puts, position_puts}
use Rattle.orc_queue.proofs.Room.{full_at, room_at}
use Rattle.orc_heap.proofs.Pieces.{linked_not_fresh, moves_left, moves_right, one_part, puts_released}
use Rattle.orc_heap.proofs.Moments.{look_found, looks_differ, miss_moved}

-- a node with a successor has a low position
pub low_where_linked : (n : HeapNumbers) (s : Seat FifoNote) (id next : ℕ) → Known n s.seen → HasLink (heap_of n s) id (link_to next)
    → position_of (heap_of n s) id < 2 ^ 62
low_where_linked n s id next k l = let (job, j) = successor_job n s.seen id next k.holds l in j.holds.low

-- the node that was seen behind it isn't the fresh one
pub fresh_apart : (n : HeapNumbers) (job next : ℕ) (h : Hold) (s a : Seat FifoNote) → HoldsNode n job h s → a.fresh ≡ s.fresh
    → ((i : ℕ) → a.fresh ≡ Some i → IsUntouched a.agent (heap_of n a) i) → IsLinkedNode (heap_of n a) next → next ≢ id_in s.slots h
fresh_apart n job next h s a node fresh untouched linked =
    λ e. linked_not_fresh n a next untouched linked (fresh ∙ (node.fresh ∙ ap (λ (i : ℕ). Some i) (sym e)))

-- over the help of the tail
pub linked_helped : (n : HeapNumbers) (a b : Seat FifoNote) (tail next : ℕ) → Helps tail next a b → AllAllowed (FifoMay n) [] b.seen → (id : ℕ)
    → IsLinkedNode (heap_of n a) id → IsLinkedNode (heap_of n b) id
linked_helped n a b tail next helped all id l = elim helped.either [ inl p ↦ linked_puts n a b _ p all id l | inr m ↦ linked_puts n a b _ m.puts all id l ]

-- the link was null
module _ (n : HeapNumbers) (job tail : ℕ) (h : Hold) (s a t : Seat FifoNote) (k : Known n s.seen) (named : WasNamed (heap_of n s) 1 tail)
    (slots : a.slots ≡ s.slots) (fresh : a.fresh ≡ s.fresh)
    (p : Puts s (event_of s (Look (Next tail) null) None ∷ []) a) (all_a : AllAllowed (FifoMay n) [] a.seen) (all_t : AllAllowed (FifoMay n) [] t.seen)
  where
    -- the node is as it was
    pub node_seen : HoldsNode n job h s → HoldsNode n job h a
    node_seen node = node_puts n s a _ p all_a job h node.second k node slots fresh refl refl

    room_first : position_of (heap_of n a) tail < 2 ^ 62 → FindsFull n s.agent s.seen p.part → ⊥
    room_first low = room_at n s a _ tail p k (part_allowed (FifoMay n) s a _ p all_a) named ((λ e. (null, refl)), tt)
        (omega (arith, low, position_puts n s a _ p all_a tail named.linked))

    pub behind_null : (turn : PutTurn) → LinksBehind n 3 (SwingsLast tail) job tail h a turn t → PutsBehind n job tail h s turn t
    behind_null PutOver l =
        let q = l.stops.piece in
        let j = join 4 s a t (event_of s (Look (Next tail) null) None ∷ []) q.own [] p q.puts (q.slots ∙ slots) q.entries_are
        (omega (arith, q.no_give)) (omega (arith, q.few)) in
        let found = look_found n (FifoMay n) (λ es x k. k.fits) s a (Next tail) null None [] [] p all_a named.linked in
        record {
          stops = record {
            piece = j.piece;
            fresh = l.stops.fresh ∙ fresh;
            moved = λ at. elim found [
              | inl still ↦ omega (arith, l.stops.moved still, moves_right s a t _ _ _ p q.puts j.piece.puts)
              | inr some ↦ omega (arith, some, moves_from_own s.agent p.part, moves_left s a t _ _ _ p q.puts j.piece.puts)
            ];
            own_moves = inl
                (ap (λ (z : List (Event FifoNote)). moves_in z) j.own_is ∙ elim l.stops.own_moves [ inl none ↦ omega (arith, none) | inr bad ↦ absurd bad ]);
          };
          room = room_join n s a t _ _ _ p q.puts j.piece.puts (room_first l.low) l.room;
          node = l.node;
          back = λ at. elim (look_or_back n (Next tail) refl s a k all_a named.linked null None [] [] p) [
            | inl still ↦ omega (arith, l.back still, backs_right s a t _ _ _ p q.puts j.piece.puts)
            | inr some ↦ omega (arith, some, backs_since s.agent p.part, backs_left s a t _ _ _ p q.puts j.piece.puts)
          ];
        }
    behind_null (PutDone at) l =
        let q = l.puts.piece in
        let h = l.puts.helps in
        let entries : entries_of q.own ≡ Put s.agent job at ∷ [] = q.entries_are ∙ ap (λ (x : ℕ). Put x job at ∷ []) p.agent in
        let j = join 4 s a t (event_of s (Look (Next tail) null) None ∷ []) q.own (Put s.agent job at ∷ []) p q.puts (q.slots ∙ slots) entries
        (omega (arith, q.no_give)) (omega (arith, q.few)) in
        record {
          piece = j.piece;
          helps = record {
            before = event_of s (Look (Next tail) null) None ∷ h.before;
            keeps = h.keeps;
            last = h.last;
            es_are =
                j.own_is ∙ ap (λ z. event_of s (Look (Next tail) null) None ∷ z) h.es_are;
            swings = h.swings;
          };
          fresh = l.puts.fresh;
          low = l.puts.low;
          room = room_join n s a t _ _ _ p q.puts j.piece.puts (room_first l.low) l.puts.room;
        }
    behind_null Full l =
        let q = l.piece in
        let j = join 4 s a t (event_of s (Look (Next tail) null) None ∷ []) q.own [] p q.puts (q.slots ∙ slots) q.entries_are
        (omega (arith, q.no_give)) (omega (arith, q.few)) in
        record {
          piece = j.piece;
          fresh = l.fresh ∙ fresh;
          full = full_join_left n s a t _ _ _ p q.puts j.piece.puts
              (full_at n s a tail [] p k all_a named (omega (arith, l.none, position_puts n s a _ p all_a tail named.linked)));
        }

-- the link led to a node: the tail was helped on
module _ (n : HeapNumbers) (job tail next : ℕ) (h : Hold) (s a b t : Seat FifoNote) (k : Known n s.seen) (ka : Known n a.seen)
    (named : WasNamed (heap_of n s) 1 tail) (node : HoldsNode n job h s)
    (p : Puts s (event_of s (Look (Next tail) (link_to next)) None ∷ event_of s (Look (Next tail) (link_to next)) None ∷ []) a)
    (has : HasLink (heap_of n a) tail (link_to next))
    (helped : Helps tail next a b) (freed : Puts b [] t) (slots : t.slots ≡ s.slots) (fresh : t.fresh ≡ s.fresh)
    (all : AllAllowed (FifoMay n) [] t.seen) (other : next ≢ id_in s.slots h)
  where
    low : position_of (heap_of n s) tail < 2 ^ 62
    low = omega (arith, low_where_linked n a tail next ka has, position_puts n s a _ p ka.all tail named.linked)

    not_end : {A : Type 0} → false ≡ true → A
    not_end e = absurd (cc)

    pub behind_held : TurnMissed n job tail h s t
    behind_held = elim helped.either [
      | inl moved ↦
          let act = Move (Root 1) (link_to tail) (link_to next) in
          let move : Event FifoNote = event_of s act (Some Swing) in
          let q : Puts a (move ∷ []) t = subst (λ (x : ℕ). Puts a (record { agent = x; act = act; note = Some Swing } ∷ []) t) p.agent
          (puts_released a b t _ moved freed) in
          let first : Event FifoNote = event_of s (Look (Next tail) (link_to next)) None in
          let j = join 4 s a t (first ∷ first ∷ []) (move ∷ []) [] p q slots refl refl (omega arith) in
          let w : Puts s (first ∷ first ∷ move ∷ []) t = Puts-trans s a t (first ∷ first ∷ []) (move ∷ []) p q in
          let some : 1 ≤ moves_in w.part = omega (arith, moves_own s.agent w.part, ap (λ (z : List (Event FifoNote)). moves_in z) w.own_is) in
          record {
            stops = record {
              piece = j.piece;
              fresh = fresh;
              moved = λ at. subst (λ z. 1 ≤ moves_in z) (one_part s t _ _ w j.piece.puts) some;
              own_moves = inr (next, j.own_is);
            };
            room = subst (λ z. FindsFull n s.agent s.seen z → ⊥) (one_part s t _ _ w j.piece.puts)
                (room_at n s t _ tail w k (part_allowed (FifoMay n) s t _ w all) named ((λ e. not_end e), ((λ e. not_end e), ((λ e. not_end e), tt))) low);
            node = node_puts n s t _ w all job h node.second k node slots fresh (rw (ne_eqb next (id_in s.slots h) other) refl)
                (rw (ne_eqb next (id_in s.slots h) other) refl);
            back = λ at. subst (λ z. 1 ≤ moves_in (off_the_head z)) (one_part s t _ _ w j.piece.puts) (own_back s t (first ∷ first ∷ []) move [] w);
          }
      | inr missed ↦
          let miss : Event FifoNote = event_of a (Miss (Root 1) (link_to tail) missed.found) None in
          let q : Puts a (miss ∷ []) t = puts_released a b t _ missed.puts freed in
          let first : Event FifoNote = event_of s (Look (Next tail) (link_to next)) None in
          let j = join 4 s a t (first ∷ first ∷ []) (miss ∷ []) [] p q slots refl refl (omega arith) in
          let w : Puts s (first ∷ first ∷ miss ∷ []) t = Puts-trans s a t (first ∷ first ∷ []) (miss ∷ []) p q in
          record {
            stops = record {
              piece = j.piece;
              fresh = fresh;
              moved = λ at. subst (λ z. 1 ≤ moves_in z) (one_part s t _ _ w j.piece.puts)
                  (miss_moved n (FifoMay n) (λ es x k. k.fits) s t (Root 1) (link_to tail) missed.found
                  (first ∷ first ∷ []) miss [] w refl all tt missed.other at);
              own_moves = inl (ap (λ (z : List (Event FifoNote)). moves_in z) j.own_is);
            };
            room = subst (λ z. FindsFull n s.agent s.seen z → ⊥) (one_part s t _ _ w j.piece.puts)
                (room_at n s t _ tail w k (part_allowed (FifoMay n) s t _ w all) named ((λ e. not_end e), ((λ e. not_end e), ((λ e. not_end e), tt))) low);
            node = node_puts n s t _ w all job h node.second k node slots fresh refl refl;
            back = λ at. subst (λ z. 1 ≤ moves_in (off_the_head z)) (one_part s t _ _ w j.piece.puts)
                (miss_back n (Root 1) refl s t k all tt (link_to tail) missed.found (first ∷ first ∷ []) miss [] w refl missed.other at);
          }
    ]

-- by what the look of the link found
pub behind_found : {n : HeapNumbers} {job : ℕ} {node : Hold} (tail : Hold) {next : Hold} {s a b t : Seat FifoNote} → HoldsNext n (id_in s.slots tail) 3 s next a
    → AllAllowed (FifoMay n) [] b.seen → AllAllowed (FifoMay n) [] t.seen → WasNamed (heap_of n s) 1 (id_in s.slots tail) → HoldsNode n job node s
    → Holds s.slots tail → ((i : ℕ) → a.fresh ≡ Some i → IsUntouched a.agent (heap_of n a) i)
    → ((i : ℕ) → b.fresh ≡ Some i → IsUntouched b.agent (heap_of n b) i) → Helps (id_in a.slots tail) (id_in a.slots next) a b → Releases b next t
    → TurnMissed n job (id_in s.slots tail) node s t
behind_found {n} {job} {node} tail {next} {s} {a} {b} {t} f all_b all_t named holds held untouched_a untouched_b helped released =
    let id = id_in s.slots tail in
    let x = f.node.id in
    let help = subst (λ (i : ℕ). Helps i x a b) (found_other_id f.node tail held)
    (subst (λ (i : ℕ). Helps (id_in a.slots tail) i a b) (found_id f.node) helped) in
    let fresh = found_fresh f.node helped.slots untouched_b (linked_helped n a b id x help all_b x f.node.linked) released in
    behind_held n job id x node s a b t f.before f.after named holds f.puts f.link help released.puts (found_released f.node helped.slots released)
    (fresh ∙ (helped.fresh ∙ f.fresh)) all_t (fresh_apart n job x node s a holds f.fresh untouched_a f.node.linked)

-- the link moved between two looks
pub behind_moved : {n : HeapNumbers} (job tail : ℕ) (h : Hold) {s t : Seat FifoNote} → FindsTwo n (Next tail) s t → WasNamed (heap_of n s) 1 tail
    → HoldsNode n job h s → TurnMissed n job tail h s t
behind_moved {n} job tail h {s} {t} f named node = record {
  stops = record {
    piece = record { own = _; slots = f.slots; puts = f.puts; entries_are = refl; no_give = refl; few = omega arith };
    fresh = f.fresh;
    moved = λ at. omega (
      arith,
      moves_from_own s.agent f.puts.part,
      looks_differ n (FifoMay n) (λ es x k. k.fits) s t (Next tail) f.one f.two f.puts f.after.all named.linked f.other,
    );
    own_moves = inl refl;
  };
  room = room_at n s t _ tail f.puts f.before (part_allowed (FifoMay n) s t _ f.puts f.after.all) named ((λ e. (f.one, refl)), ((λ e. (f.two, refl)), tt)) low;
  node = node_puts n s t _ f.puts f.after.all job h node.second f.before node f.slots f.fresh refl refl;
  back = λ at. omega
      (arith, backs_since s.agent f.puts.part, looks_back n (Next tail) refl s t f.before f.after.all named.linked f.one f.two f.puts f.other);
}
  where
    has_next : (next : ℕ) × HasLink (heap_of n t) tail (link_to next)
    has_next =
        let first = next_found n s t tail f.one [] _ f.before named.linked f.puts f.after.all in
        let second = next_found n s t tail f.two (event_of s (Look (Next tail) f.one) None ∷ []) [] f.before named.linked f.puts f.after.all in
        elim first.either [
          | inr some ↦ (some.0, some.2)
          | inl none ↦ elim second.either [ inr some ↦ (some.0, some.2) | inl no_link ↦ absurd (f.other (none ∙ sym no_link)) ]
        ]

    low : position_of (heap_of n s) tail < 2 ^ 62
    low = omega (arith, low_where_linked n t tail has_next.0 f.after has_next.1, position_puts n s t _ f.puts f.after.all tail named.linked)

-- what the pass holds after it
pub record BehindPiece (s t : Seat FifoNote) : Type 0 where
  pub own : List (Event FifoNote)
  pub slots : t.slots ≡ s.slots
  pub puts : Puts s own t

pub behind_piece : (n : HeapNumbers) (job tail : ℕ) (h : Hold) (s t : Seat FifoNote) (turn : PutTurn) → PutsBehind n job tail h s turn t → BehindPiece s t
behind_piece n job tail h s t PutOver l = record { own = l.stops.piece.own; slots = l.stops.piece.slots; puts = l.stops.piece.puts }
behind_piece n job tail h s t (PutDone at) l = record { own = l.piece.own; slots = l.piece.slots; puts = l.piece.puts }
behind_piece n job tail h s t Full l = record { own = l.piece.own; slots = l.piece.slots; puts = l.piece.puts }
