-- Turns of a publish.
use Rattle.std.proofs.Common.{List, None, Option, Some, [], ap, append-nil, arith, refl, subst, sym, ℕ, ◌+◌, ◌∙◌, ◌∷◌, ◌≡◌, ◌≢◌, ◌≤◌}
use Rattle.orc_heap.proofs.ByAnswer.{unless_fresh}
use Rattle.orc_heap.proofs.Pieces.{new_is, release_fresh, slot_id, slot_other_id, slot_released}
use Rattle.orc_heap.specs.Allowed.{AllAllowed, IsLinkedNode}
use Rattle.orc_heap.specs.Calls.{Releases, event_of}
use Rattle.orc_heap.specs.Heap.{HeapNumbers, link_to, null, shown}
use Rattle.orc_heap.specs.Moves.{from_own}
use Rattle.orc_heap.specs.OwnEvents.{Puts}
use Rattle.orc_heap.specs.Seats.{HoldsFresh, IsUntouched, Seat, heap_of}
use Rattle.orc_heap.specs.Slots.{Hold, Holds, IsFree, Slots, id_in}
use Rattle.orc_heap.specs.declared.events.Act.TheVariants.{Look}
use Rattle.orc_heap.specs.declared.events.Link.{Link}
use Rattle.orc_heap.specs.declared.events.Place.TheVariants.{Root}
use Rattle.orc_pairs_rule.specs.declared.entry.CellEntry.{CellEntry}
use Rattle.orc_pairs_rule.specs.declared.entry.CellEntry.TheVariants.{Published}
use Rattle.orc_pairs_rule.specs.declared.pairs.PairsNote.{PairsNote}
use Rattle.orc_pairs_rule.specs.PairsDiscipline.{PairsMay}
use Rattle.orc_cell.specs.Publishes.{Answered, HasStaged, IsPrepared, PublishOver, PublishesFrom, PublishesTurns, SideHeld, Piece, given_of}
use Rattle.orc_cell.specs.Turns.{OnlyLooks, FindsOnly, others_moves}
use Rattle.orc_cell.specs.declared.publish.New.{New}
use Rattle.orc_cell.specs.declared.publish.New.TheVariants.{Given, Kept, Zero}
use Rattle.orc_cell.specs.declared.publish.PublishTurn.{PublishTurn}
use Rattle.orc_cell.specs.declared.publish.PublishTurn.TheVariants.{Over, Published as Done, Spent as Worn}
use Rattle.orc_cell.proofs.Looking.{HoldsPair, RootNull}
use Rattle.orc_cell.proofs.Others.{found_or_others, looks_differ_by_others, others_from_own-append, turn_moved}
use Rattle.orc_cell.proofs.Pieces.{Known, pair_puts}
use Rattle.orc_cell.proofs.Readying.{keeps_found, keeps_trans}
use Rattle.orc_cell.proofs.Reading.{moved_more, null_seen, pair_seen}
use Rattle.orc_cell.proofs.Staging.{Answered-trans, Piece-trans, answered_none, finds_staging, finds_piece, found_answered, staging-trans}
use Rattle.orc_cell.proofs.Swinging.{prepared_kept, published_not_null}

-- where a look found null, both parts are staged
pub null_staged : (n : HeapNumbers) (s a : Seat PairsNote) (root : ℕ) (new : New) → RootNull n s a → AllAllowed (PairsMay n) [] a.seen
    → SideHeld n root new s → HasStaged new
null_staged n s a root (Given value h) r all held = tt
null_staged n s a root (Zero h) r all held = tt
null_staged n s a root Kept r all held = published_not_null n s a r.puts all held

-- from null on
pub first_turn : (n : HeapNumbers) (s a t : Seat PairsNote) (left right : Option ℕ) (pair : Hold) (turn : PublishTurn) → RootNull n s a → a.fresh ≡ s.fresh
    → AllAllowed (PairsMay n) [] a.seen → Known n s.seen → IsUntouched s.agent (heap_of n s) (id_in s.slots pair)
    → PublishesFrom n null left right pair a turn t → PublishesTurns n 1 left right pair s turn t
first_turn n s a t left right pair Over r fresh all known node x =
    let w = Answered-trans n 0 0 s a t [] [] (found_answered n s a [] (null_seen n s a r fresh) all) x.answered in
    record {
      over = record {
        answered = w;
        fresh = x.fresh;
        moved = turn_moved s a t _ _ _ r.puts x.answered.piece.puts w.piece.puts (omega arith) (shown (heap_of n a) (Root 0) ≡ Some null)
            (found_or_others n s a null None [] [] r.puts all refl) x.moved;
      };
      halves = keeps_trans n left right pair s a t
          (keeps_found n left right pair s a _ r.puts known all (tt, tt) node (ap (λ z. id_in z pair) r.slots)) x.halves;
    }
first_turn n s a t left right pair (Done u v) r fresh all known node x =
    let by = r.puts.agent in
    let y = subst (λ (i : ℕ). Answered n 0 a (Published i left right u v ∷ []) t) by x.answered in
    record {
      answered = Answered-trans n 0 0 s a t [] (Published s.agent left right u v ∷ []) (found_answered n s a [] (null_seen n s a r fresh) all) y;
      fresh = x.fresh;
    }
first_turn n s a t left right pair (Worn why) r fresh all known node x =
    record { answered = Answered-trans n 0 0 s a t [] [] (found_answered n s a [] (null_seen n s a r fresh) all) x.answered; fresh = x.fresh }

-- from a pair on
module _ (n : HeapNumbers) (s a b t : Seat PairsNote) (old pair : Hold) (free : IsFree s.slots 4) (p : HoldsPair n 4 s old a)
    (fresh_a : a.fresh ≡ s.fresh) (all_a : AllAllowed (PairsMay n) [] a.seen) (all_b : AllAllowed (PairsMay n) [] b.seen)
    (all_t : AllAllowed (PairsMay n) [] t.seen) (held : HoldsFresh s pair)
    (untouched : (i : ℕ) → b.fresh ≡ Some i → IsUntouched b.agent (heap_of n b) i) (w : Releases b old t)
    (known_s : Known n s.seen) (known_b : Known n b.seen) (node : IsUntouched s.agent (heap_of n s) (id_in s.slots pair))
  where
    looked : OnlyLooks s [] a
    looked = pair_seen n 4 s a old p fresh_a

    old_linked : (es : List CellEntry) → Answered n 0 a es b → IsLinkedNode (heap_of n b) (id_in b.slots old)
    old_linked es x =
        let (l, r, parts, has) = p.pair in
        let in_b = pair_puts n a b x.piece.own x.piece.puts all_b p.id l r parts has in
        let id_b : id_in b.slots old ≡ p.id = ap (λ z. id_in z old) x.slots ∙ slot_id s a 4 p.id old free p.in_slot in
        subst (λ (i : ℕ). IsLinkedNode (heap_of n b) i) (sym id_b) (record { node = in_b.node; there = in_b.there; linked = in_b.linked })

    back : (es : List CellEntry) → Answered n 0 a es b → t.slots ≡ s.slots
    back es x = slot_released s a 4 p.id old free p.in_slot b t x.slots w

    last : (es : List CellEntry) → Answered n 0 a es b → OnlyLooks b [] t
    last es x = record { own = []; puts = w.puts; finding = tt; entries_are = refl; fresh = release_fresh n b t old untouched (old_linked es x) w }

    to_b : (es : List CellEntry) → Answered n 0 a es b → Piece 0 s es b
    to_b es x = Piece-trans 0 0 s a b [] es (finds_piece s a [] looked) x.piece

    whole : (es : List CellEntry) → Answered n 0 a es b → Answered n 0 s es t
    whole es x =
        let st = Piece-trans 0 0 s b t es [] (to_b es x) (finds_piece b t [] (last es x)) in
        record {
          piece = record { own = st.own; puts = st.puts; entries_are = st.entries_are ∙ append-nil es; gives = st.gives };
          slots = back es x;
          staging = staging-trans n s b t (to_b es x).puts.agent
              (staging-trans n s a b looked.puts.agent (finds_staging n s a [] looked all_a) x.staging) (finds_staging n b t [] (last es x) all_t);
        }

    fresh_t : (x : Answered n 0 a [] b) → HoldsFresh b pair → HoldsFresh t pair
    fresh_t x f =
        let same : id_in b.slots pair ≡ id_in t.slots pair =
        ap (λ z. id_in z pair) x.slots ∙ (slot_other_id s a 4 p.id old free p.in_slot pair held.held ∙ ap (λ z. id_in z pair) (sym (back [] x))) in
        record {
          held = subst (λ (z : Slots). Holds z pair) (sym (back [] x)) held.held;
          fresh = (last [] x).fresh ∙ (f.fresh ∙ ap (λ (i : ℕ). Some i) same);
        }

    pub next_turn : (left right : Option ℕ) (turn : PublishTurn) → PublishesFrom n (link_to p.id) left right pair a turn b
        → PublishesTurns n 1 left right pair s turn t
    next_turn left right Over x =
        let o = whole [] x.answered in
        let first = to_b [] x.answered in
        let moved = turn_moved s a b _ _ _ p.puts x.answered.piece.puts first.puts (omega arith) (shown (heap_of n a) (Root 0) ≡ Some (link_to p.id))
        (found_or_others n s a (link_to p.id) None (event_of s (Look (Root 0) p.one) None ∷ []) [] p.puts all_a refl) x.moved in
        let same_a : id_in a.slots pair ≡ id_in s.slots pair = slot_other_id s a 4 p.id old free p.in_slot pair held.held in
        let same_t : id_in t.slots pair ≡ id_in b.slots pair =
        ap (λ z. id_in z pair) (back [] x.answered) ∙ sym (ap (λ z. id_in z pair) x.answered.slots ∙ same_a) in
        record {
          over = record { answered = o; fresh = fresh_t x.answered x.fresh; moved = moved_more s b t 1 _ _ _ first.puts w.puts o.piece.puts moved };
          halves = keeps_trans n left right pair s a t (keeps_found n left right pair s a _ p.puts known_s all_a (tt, (tt, tt)) node same_a)
              (keeps_trans n left right pair a b t x.halves
              (keeps_found n left right pair b t [] w.puts known_b all_t tt (untouched (id_in b.slots pair) x.fresh.fresh) same_t));
        }
    next_turn left right (Done u v) x =
        let y = subst (λ (i : ℕ). Answered n 0 a (Published i left right u v ∷ []) b) p.puts.agent x.answered in
        record {
          answered = whole (Published s.agent left right u v ∷ []) y;
          fresh = w.fresh ∙ unless_fresh b.fresh (Some (id_in b.slots old)) x.fresh;
        }
    next_turn left right (Worn why) x = record { answered = whole [] x.answered; fresh = fresh_t x.answered x.fresh }

-- the links of root 0 differed
pub moved_turn : (n : HeapNumbers) (s t : Seat PairsNote) (pair : Hold) (one two : Link) → HoldsFresh s pair
    → (p : Puts s (event_of s (Look (Root 0) one) None ∷ event_of s (Look (Root 0) two) None ∷ []) t) → AllAllowed (PairsMay n) [] t.seen
    → one ≢ two → t.slots ≡ s.slots → t.fresh ≡ s.fresh → PublishOver n 1 pair s t
moved_turn n s t pair one two held p all ne slots fresh =
    let f : FindsOnly s [] t = record { finds = record { own = _; puts = p; finding = (tt, (tt, tt)); entries_are = refl; fresh = fresh }; slots = slots } in
    record {
      answered = record {
        piece = record { own = _; puts = p; entries_are = refl; gives = omega arith };
        slots = slots;
        staging = finds_staging n s t [] f.finds all;
      };
      fresh = record {
        held = subst (λ (z : Slots). Holds z pair) (sym slots) held.held;
        fresh = fresh ∙ (held.fresh ∙ ap (λ z. Some (id_in z pair)) (sym slots));
      };
      moved = looks_differ_by_others n s t one two p all ne;
    }

-- what is prepared stays so over a look that took a node into a slot, or none
pub prepared_found : (n : HeapNumbers) (pair : Hold) (left right : New) (s a : Seat PairsNote) (es : List CellEntry) → OnlyLooks s es a → Known n s.seen
    → AllAllowed (PairsMay n) [] a.seen → ((i : ℕ) → s.fresh ≡ Some i → IsUntouched s.agent (heap_of n s) i)
    → ((h : Hold) → Holds s.slots h → Holds a.slots h × (id_in a.slots h ≡ id_in s.slots h)) → IsPrepared n pair left right s → IsPrepared n pair left right a
prepared_found n pair left right s a es f known all untouched carries x =
    let (held, same) = carries pair x.fresh.held in
    let halves = keeps_found n (given_of left) (given_of right) pair s a f.own f.puts known all f.finding (untouched (id_in s.slots pair) x.fresh.fresh) same in
    let fresh : HoldsFresh a pair = record { held = held; fresh = f.fresh ∙ (x.fresh.fresh ∙ ap (λ (i : ℕ). Some i) (sym same)) } in
    prepared_kept n pair left right s a f.own f.puts all (finds_staging n s a es f all) carries halves fresh x

pub from_slots : (n : HeapNumbers) (from : Link) (left right : Option ℕ) (pair : Hold) (a b : Seat PairsNote) (turn : PublishTurn)
    → PublishesFrom n from left right pair a turn b → b.slots ≡ a.slots
from_slots n from left right pair a b Over x = x.answered.slots
from_slots n from left right pair a b (Done u v) x = x.answered.slots
from_slots n from left right pair a b (Worn why) x = x.answered.slots

-- turns that are over

pub published_none : (n : HeapNumbers) (s : Seat PairsNote) (pair : Hold) → HoldsFresh s pair → PublishOver n 0 pair s s
published_none n s pair held = record { answered = answered_none n 0 s; fresh = held; moved = omega arith }

pub published_next_turn : (n : HeapNumbers) (k : ℕ) (pair : Hold) (s a t : Seat PairsNote) → PublishOver n k pair s a → PublishOver n 1 pair a t
    → PublishOver n (k + 1) pair s t
published_next_turn n k pair s a t x y =
    let w = Answered-trans n 0 0 s a t [] [] x.answered y.answered in
    let agent = x.answered.piece.puts.agent in
    let moved : 1 ≤ others_moves s.agent (from_own s.agent y.answered.piece.puts.part) =
    subst (λ (i : ℕ). 1 ≤ others_moves i (from_own i y.answered.piece.puts.part)) agent y.moved in
    record {
      answered = w;
      fresh = y.fresh;
      moved = rw (new_is s a t _ _ _ x.answered.piece.puts y.answered.piece.puts w.piece.puts)
          (omega (arith, x.moved, moved, others_from_own-append s.agent x.answered.piece.puts.part y.answered.piece.puts.part));
    }

pub published_done : (n : HeapNumbers) (k turns : ℕ) (left right : Option ℕ) (pair : Hold) (s a t : Seat PairsNote) (turn : PublishTurn) → turn ≢ Over
    → PublishOver n k pair s a → PublishesTurns n 1 left right pair a turn t → PublishesTurns n turns left right pair s turn t
published_done n k turns left right pair s a t Over ne x y = absurd (ne refl)
published_done n k turns left right pair s a t (Done u v) ne x y =
    let z = subst (λ (i : ℕ). Answered n 0 a (Published i left right u v ∷ []) t) x.answered.piece.puts.agent y.answered in
    record { answered = Answered-trans n 0 0 s a t [] (Published s.agent left right u v ∷ []) x.answered z; fresh = y.fresh }
published_done n k turns left right pair s a t (Worn why) ne x y =
    record { answered = Answered-trans n 0 0 s a t [] [] x.answered y.answered; fresh = y.fresh }
