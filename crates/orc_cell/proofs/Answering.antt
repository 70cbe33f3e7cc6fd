-- A publish from its Gives to its releases.
use Rattle.std.proofs.Common.{Bool, Err, List, None, Ok, Option, Result, Some, [], ap, append-nil, arith, false, inl, inr, length, refl, subst, sym, true, ℕ, ◌*◌, ◌++◌, ◌+◌, ◌==◌, ◌∙◌, ◌∷◌, ◌≡◌, ◌≢◌, ◌<◌, ◌≤◌}
use Rattle.std.proofs.lemmas.Bool.{eqb-false, eqb-true}
use Rattle.std.specs.List.{slice_set}
use Rattle.std.specs.Prelude.{IfErr}
use mathlib.Core.List.{IsPrefix}
use Rattle.orc_heap.proofs.Parting.{part_of_piece}
use Rattle.orc_heap.specs.declared.links.Links.{Ghosts as LinksOf}
use Rattle.orc_history.specs.Journals.{Within}
use Rattle.orc_history.specs.Parts.{part_begin}
use Rattle.orc_cell.specs.Causes.{CausedIn, CausedInPart, CausedWithin}
use Rattle.orc_heap.proofs.ByAnswer.{Tests-found, Tests-missed, unless_fresh, unless_same}
use Rattle.orc_heap.specs.declared.holds.At.{At}
use Rattle.orc_heap.specs.declared.holds.Want.{Want}
use Rattle.orc_heap.proofs.Calls.{Puts-stood, Puts-trans}
use Rattle.orc_heap.proofs.Moments.{seen_is, since}
use Rattle.orc_heap.proofs.SingleActs.{some_same}
use Rattle.orc_heap.specs.Journals.{run_heap}
use Rattle.orc_heap.specs.declared.events.Act.TheVariants.{Miss}
use Rattle.orc_pairs_rule.proofs.Later.{holds_later}
use Rattle.orc_heap.proofs.Moved.{gives_in-append}
use Rattle.orc_heap.proofs.Slots.{given-back}
use Rattle.orc_heap.proofs.Pieces.{InSlot, new_is, slot_free, slot_holds, slot_id, slot_other, slot_other_id, slot_released}
use Rattle.orc_heap.specs.Allowed.{AllAllowed}
use Rattle.orc_heap.specs.Calls.{Gives, Misses, Releases, Tests, event_of, unless_node}
use Rattle.orc_heap.specs.Heap.{HeapNumbers, link_to, null, shown}
use Rattle.orc_heap.specs.Moves.{from_own}
use Rattle.orc_heap.specs.OwnEvents.{Only, Puts}
use Rattle.orc_heap.specs.Seats.{HoldsFresh, Seat, heap_of}
use Rattle.orc_heap.specs.Slots.{Hold, IsFree, Slots, id_in}
use Rattle.orc_heap.specs.declared.events.Event.{Event}
use Rattle.orc_heap.specs.declared.events.Place.TheVariants.{Root}
use Rattle.orc_pairs_rule.specs.declared.entry.CellEntry.{CellEntry}
use Rattle.orc_pairs_rule.specs.declared.entry.CellEntry.TheVariants.{Published}
use Rattle.orc_pairs_rule.specs.declared.pairs.PairsNote.{PairsNote}
use Rattle.orc_pairs_rule.specs.PairsDiscipline.{HasPart, IsStaging, PairsMay, entries_of}
use Rattle.orc_cell.specs.Answers.{AnswersPiece, AnswersAgain, PublishAnswers}
use Rattle.orc_cell.specs.Publishes.{Answered, IsPublished, KeepsStaging, LetsGo, PublishDone, PublishOver, PublishSpent, PublishesGiven, PublishesTurns, Readies, SideHeld, Staged, Stages, Unstages, nodes_of}
use Rattle.orc_cell.specs.Turns.{FindsOnly, others_moves}
use Rattle.orc_cell.specs.declared.publish.New.{New}
use Rattle.orc_cell.specs.declared.publish.New.TheVariants.{Given, Kept, Zero}
use Rattle.orc_fault.specs.declared.Spent.{Spent as SpentRow}
use Rattle.orc_cell.specs.declared.publish.PublishTurn.{PublishTurn}
use Rattle.orc_cell.specs.declared.publish.PublishTurn.TheVariants.{Over, Published as Done, Spent as Worn}
use Rattle.orc_cell.specs.declared.refused.CellRefused.{CellRefused}
use Rattle.orc_cell.specs.declared.refused.CellRefused.TheVariants.{Again, NoNode, Spent}
use Rattle.orc_cell.proofs.Others.{others_from_own-append}
use Rattle.orc_cell.proofs.Pieces.{Known, finds_none, part_puts}
use Rattle.orc_cell.proofs.Staging.{Answered-trans, Piece-trans, answered_end, answered_more, answered_none, finds_staging, found_answered, root_kept, staging-trans, within_call}
use Rattle.orc_cell.proofs.Swinging.{published_later, published_not_null, published_puts, same_slots, side_kept}

-- a later piece's Moves by others are Moves of the whole
pub moved_after : (s a t : Seat PairsNote) (k : ℕ) (xs ys zs : List (Event PairsNote)) (p : Puts s xs a) (q : Puts a ys t) (w : Puts s zs t)
    → k ≤ others_moves a.agent (from_own a.agent q.part) → k ≤ others_moves s.agent (from_own s.agent w.part)
moved_after s a t k xs ys zs p q w some =
    let here = subst (λ (i : ℕ). k ≤ others_moves i (from_own i q.part)) p.agent some in
    rw (new_is s a t xs ys zs p q w) (omega (arith, here, others_from_own-append s.agent p.part q.part))

pub moved_before : (s a t : Seat PairsNote) (k : ℕ) (xs ys zs : List (Event PairsNote)) (p : Puts s xs a) (q : Puts a ys t) (w : Puts s zs t)
    → k ≤ others_moves s.agent (from_own s.agent p.part) → k ≤ others_moves s.agent (from_own s.agent w.part)
moved_before s a t k xs ys zs p q w some = rw (new_is s a t xs ys zs p q w) (omega (arith, some, others_from_own-append s.agent p.part q.part))

-- the pair was given, and let go
module _ (n : HeapNumbers) (s a : Seat PairsNote) (pair : Hold) (free : IsFree s.slots 3) (given : Gives n 3 0 0 s pair a) (all_a : AllAllowed
    (PairsMay n) [] a.seen)
  where
    in_slot : InSlot s 3 given.id pair a
    in_slot = record { at = given.slot_is; slots = given.slots }

    pub pair_fresh : HoldsFresh a pair
    pair_fresh = record {
      held = slot_holds s a 3 given.id pair free in_slot;
      fresh = given.fresh ∙ ap (λ (i : ℕ). Some i) (sym (slot_id s a 3 given.id pair free in_slot));
    }

    pub given_staging : KeepsStaging n s a
    given_staging = λ root own. root_kept n s a _ root given.puts all_a own refl

    pub side_given : (k : ℕ) (new : New) → ((agent : ℕ) → IsStaging agent (k + 2 * agent)) → SideHeld n (k + 2 * s.agent) new s
        → SideHeld n (k + 2 * a.agent) new a
    side_given k new staging held =
        subst (λ (i : ℕ). SideHeld n (k + 2 * i) new a) (sym given.puts.agent)
        (side_kept n s a (k + 2 * s.agent) new _ given.puts all_a (staging s.agent) given_staging
        (λ h x. (slot_other s a 3 given.id pair free in_slot h x, slot_other_id s a 3 given.id pair free in_slot h x)) held)

    pub slot_given : (slot : ℕ) → slot ≢ 3 → IsFree s.slots slot → IsFree a.slots slot
    slot_given = slot_free s a 3 given.id pair free in_slot

    module _ (b t : Seat PairsNote) (w : Releases b pair t) (all_t : AllAllowed (PairsMay n) [] t.seen) where
      back : b.slots ≡ a.slots → t.slots ≡ s.slots
      back same = slot_released s a 3 given.id pair free in_slot b t same w

      released : (es : List CellEntry) → Answered n 0 a es b → Answered n 1 s es t
      released es x =
          let puts = Puts-trans s b t _ [] (Puts-trans s a b _ _ given.puts x.piece.puts) w.puts in
          record {
            piece = record {
              own = _;
              puts = puts;
              entries_are = all_entries es x;
              gives = omega (arith, x.piece.gives, gives_in-append x.piece.own []);
            };
            slots = back x.slots;
            staging = staging-trans n s b t (x.piece.puts.agent ∙ given.puts.agent) (staging-trans n s a b given.puts.agent given_staging x.staging)
                (λ root own. root_kept n b t [] root w.puts all_t own refl);
          }
        where
          all_entries : (es : List CellEntry) (x : Answered n 0 a es b) → entries_of (x.piece.own ++ []) ≡ es
          all_entries es x = ap entries_of (append-nil x.piece.own) ∙ x.piece.entries_are

      none_fresh : HoldsFresh b pair → t.fresh ≡ None
      none_fresh f = w.fresh ∙ (ap (λ (o : Option ℕ). unless_node o (Some (id_in b.slots pair))) f.fresh ∙ unless_same (id_in b.slots pair))

      pub pair_done : (left right : Option ℕ) (x y : ℕ) → PublishDone n left right x y a b → AnswersPiece n 1 s (Published s.agent left right x y ∷ []) t
      pair_done left right x y d =
          let z = subst (λ (i : ℕ). Answered n 0 a (Published i left right x y ∷ []) b) given.puts.agent d.answered in
          record { answered = released (Published s.agent left right x y ∷ []) z; fresh = w.fresh ∙ unless_fresh b.fresh (Some (id_in b.slots pair)) d.fresh }

      pub pair_spent : PublishSpent n pair a b → AnswersPiece n 1 s [] t
      pair_spent d = record { answered = released [] d.answered; fresh = none_fresh d.fresh }

      pub pair_over : (turns : ℕ) → PublishOver n turns pair a b → AnswersAgain n 1 turns s t
      pair_over turns d =
          let r = released [] d.answered in
          let st = Puts-trans s a b _ _ given.puts d.answered.piece.puts in
          record {
            answers = record { answered = r; fresh = none_fresh d.fresh };
            moved = moved_before s b t turns _ _ _ st w.puts r.piece.puts (moved_after s a b turns _ _ _ given.puts d.answered.piece.puts st d.moved);
          }

-- no pair could be had
pub pair_lacking : (n : HeapNumbers) (most : ℕ) (s t : Seat PairsNote) → 1 ≤ most → s.fresh ≡ None → Only [] s t → AllAllowed (PairsMay n) [] t.seen
    → AnswersPiece n most s [] t
pair_lacking n most s t some none o all = record {
  answered = answered_more n 0 most s t [] (omega (arith, some)) (found_answered n s t [] (finds_none s t o) all);
  fresh = o.fresh ∙ none;
}

-- a part was staged, and let go at the end: the staging roots are as they were
module _ (n : HeapNumbers) (slot root value : ℕ) (s a b t : Seat PairsNote) (h : Hold) (free : IsFree s.slots slot) (own : IsStaging s.agent root)
    (empty : shown (heap_of n s) (Root root) ≡ Some null) (first : Stages n slot root value s h a) (last : Unstages n root h b t)
  where
    pub staged_join : (given : ℕ) (es : List CellEntry) → AnswersPiece n given a es b → AnswersPiece n (given + 1) s es t
    staged_join given es x =
        let y = x.answered in
        let agent_a = first.piece.puts.agent in
        let agent_b = y.piece.puts.agent ∙ agent_a in
        let st = Piece-trans (1 + given) 0 s b t es [] (Piece-trans 1 given s a b [] es first.piece y.piece) last.piece in
        record {
          answered = record {
            piece = record { own = st.own; puts = st.puts; entries_are = st.entries_are ∙ append-nil es; gives = omega (arith, st.gives) };
            slots = last.slots ∙
                (ap (λ (z : Slots). slice_set z h.slot None) y.slots ∙ given-back s.slots a.slots slot first.id h free.empty first.in_slot.at first.in_slot.slots);
            staging = λ r staging. by_root r staging (r == root) refl;
          };
          fresh = last.fresh;
        }
      where
        by_root : (r : ℕ) → IsStaging s.agent r → (same : Bool) → (r == root) ≡ same → shown (heap_of n t) (Root r) ≡ shown (heap_of n s) (Root r)
        by_root r staging true is =
            let one = eqb-true r root is in
            ap (λ (q : ℕ). shown (heap_of n t) (Root q)) one ∙ (last.root_is ∙ (sym empty ∙ ap (λ (q : ℕ). shown (heap_of n s) (Root q)) (sym one)))
        by_root r staging false is =
            let ne = eqb-false r root is in
            let at_a = subst (λ (i : ℕ). IsStaging i r) (sym first.piece.puts.agent) staging in
            let at_b = subst (λ (i : ℕ). IsStaging i r) (sym x.answered.piece.puts.agent) at_a in
            last.others r at_b ne ∙ (x.answered.staging r at_a ∙ first.others r staging ne)

pub given_slots : (n : HeapNumbers) (turns : ℕ) (left right : Option ℕ) (pair : Hold) (a b : Seat PairsNote) (turn : PublishTurn)
    → PublishesGiven n turns left right pair a turn b → b.slots ≡ a.slots
given_slots n turns left right pair a b Over x = x.answered.slots
given_slots n turns left right pair a b (Done u v) x = x.answered.slots
given_slots n turns left right pair a b (Worn why) x = x.answered.slots

-- the cause of a refusal of a piece of a call is one of the call
module _ {L D P S : Type 0} (m : LinksOf L D P S PairsNote) (links : L) where
  pub caused_call : (p q r u : P)
      → ((who : ℕ) (seen more : List S) (from to : ℕ) → m.lacking links who seen from to → m.lacking links who (seen ++ more) from to)
      → ((who : ℕ) (why : SpentRow) (seen more : List S) (from to : ℕ) → m.worn links who why seen from to → m.worn links who why (seen ++ more) from to)
      → (m.seat links q).agent ≡ (m.seat links p).agent → IsPrefix (m.journal p) (m.journal q) → IsPrefix (m.journal r) (m.journal u)
      → (x : Result (ℕ × ℕ) CellRefused) → IfErr x (λ why. CausedIn m links (Within (length (m.journal q)) (length (m.journal r))) q r why)
      → IfErr x (λ why. CausedWithin m links p u why)
  caused_call p q r u lacking_stays worn_stays same one two (Ok now) cause = tt
  caused_call p q r u lacking_stays worn_stays same one two (Err Again) cause = tt
  caused_call p q r u lacking_stays worn_stays same one two (Err NoNode) cause =
      within_call m links p q r u (m.lacking links) lacking_stays same one two cause
  caused_call p q r u lacking_stays worn_stays same one two (Err (Spent why)) cause =
      within_call m links p q r u (λ who. m.worn links who why) (λ who. worn_stays who why) same one two cause

  -- and behind the call's first step it stands in its part
  pub caused_in_part : (p q r : P) → (m.seat links q).agent ≡ (m.seat links p).agent → IsPrefix (m.journal p) (m.journal q)
      → IsPrefix (m.journal q) (m.journal r) → part_begin m.agent_of (m.seat links p).agent (m.journal p) (m.journal q) < length (m.journal q)
      → (x : Result (ℕ × ℕ) CellRefused) → IfErr x (λ why. CausedWithin m links q r why) → IfErr x (λ why. CausedInPart m links p r why)
  caused_in_part p q r same one two begun (Ok now) cause = tt
  caused_in_part p q r same one two begun (Err Again) cause = tt
  caused_in_part p q r same one two begun (Err NoNode) cause =
      let who = (m.seat links p).agent in
      part_of_piece m.agent_of who (λ j. m.lacking links who j) (m.journal p) (m.journal q) (m.journal r) one two begun
      (subst (λ (i : ℕ). Within (length (m.journal q)) (length (m.journal r)) (m.lacking links i (m.journal r))) same cause)
  caused_in_part p q r same one two begun (Err (Spent why)) cause =
      let who = (m.seat links p).agent in
      part_of_piece m.agent_of who (λ j. m.worn links who why j) (m.journal p) (m.journal q) (m.journal r) one two begun
      (subst (λ (i : ℕ). Within (length (m.journal q)) (length (m.journal r)) (m.worn links i why (m.journal r))) same cause)

stages_held : (n : HeapNumbers) (slot root value : ℕ) (s a : Seat PairsNote) (h : Hold) → IsFree s.slots slot → Stages n slot root value s h a
    → Staged n root value h a
stages_held n slot root value s a h free r =
    let is = slot_id s a slot r.id h free r.in_slot in
    record {
      held = slot_holds s a slot r.id h free r.in_slot;
      root_is = r.root_is ∙ ap (λ (i : ℕ). Some (link_to i)) (sym is);
      part = subst (λ (i : ℕ). HasPart (heap_of n a) i value) (sym is) r.part;
    }

other_held : (n : HeapNumbers) (slot root k value v : ℕ) (s a : Seat PairsNote) (h x : Hold) → IsFree s.slots slot → AllAllowed (PairsMay n) [] a.seen
    → IsStaging s.agent k → k ≢ root → Stages n slot root value s h a → Staged n k v x s → Staged n k v x a
other_held n slot root k value v s a h x free all own ne r held =
    let same = slot_other_id s a slot r.id h free r.in_slot x held.held in
    record {
      held = slot_other s a slot r.id h free r.in_slot x held.held;
      root_is = r.others k own ne ∙ (held.root_is ∙ ap (λ (i : ℕ). Some (link_to i)) (sym same));
      part = subst (λ (i : ℕ). HasPart (heap_of n a) i v) (sym same) (part_puts n s a r.piece.own r.piece.puts all (id_in s.slots x) v held.part);
    }

other_stays : (n : HeapNumbers) (slot root k value : ℕ) (s a : Seat PairsNote) (h : Hold) (side : New) → IsFree s.slots slot
    → AllAllowed (PairsMay n) [] a.seen → IsStaging s.agent k → k ≢ root → Stages n slot root value s h a → SideHeld n k side s → SideHeld n k side a
other_stays n slot root k value s a h (Given v x) free all own ne r held = other_held n slot root k value v s a h x free all own ne r held
other_stays n slot root k value s a h (Zero x) free all own ne r held = other_held n slot root k value 0 s a h x free all own ne r held
other_stays n slot root k value s a h Kept free all own ne r held = published_puts n s a r.piece.own r.piece.puts all held

-- a part was made ready, and let go at the end

pub ready_agent : (n : HeapNumbers) (slot root : ℕ) (s a : Seat PairsNote) (new : New) → Readies n slot root s new a → a.agent ≡ s.agent
ready_agent n slot root s a (Given value h) r = r.piece.puts.agent
ready_agent n slot root s a (Zero h) r = r.piece.puts.agent
ready_agent n slot root s a Kept r = r.0.puts.agent

pub ready_fresh : (n : HeapNumbers) (slot root : ℕ) (s a : Seat PairsNote) (new : New) → s.fresh ≡ None → Readies n slot root s new a → a.fresh ≡ None
ready_fresh n slot root s a (Given value h) none r = r.fresh
ready_fresh n slot root s a (Zero h) none r = r.fresh
ready_fresh n slot root s a Kept none r = r.0.fresh ∙ none

pub ready_held : (n : HeapNumbers) (slot root : ℕ) (s a : Seat PairsNote) (new : New) → IsFree s.slots slot → Readies n slot root s new a
    → SideHeld n root new a
ready_held n slot root s a (Given value h) free r = stages_held n slot root value s a h free r
ready_held n slot root s a (Zero h) free r = stages_held n slot root 0 s a h free r
ready_held n slot root s a Kept free r = r.1

pub ready_slot : (n : HeapNumbers) (slot root : ℕ) (s a : Seat PairsNote) (new : New) → IsFree s.slots slot → Readies n slot root s new a
    → (k : ℕ) → k ≢ slot → IsFree s.slots k → IsFree a.slots k
ready_slot n slot root s a (Given value h) free r = slot_free s a slot r.id h free r.in_slot
ready_slot n slot root s a (Zero h) free r = slot_free s a slot r.id h free r.in_slot
ready_slot n slot root s a Kept free r = λ k ne f. subst (λ (z : Slots). IsFree z k) (sym r.0.slots) f

-- the other side stays as it was
pub ready_other : (n : HeapNumbers) (slot root k : ℕ) (s a : Seat PairsNote) (new side : New) → IsFree s.slots slot → AllAllowed (PairsMay n) [] a.seen
    → IsStaging s.agent k → k ≢ root → Readies n slot root s new a → SideHeld n k side s → SideHeld n k side a
ready_other n slot root k s a (Given value h) side free all own ne r held = other_stays n slot root k value s a h side free all own ne r held
ready_other n slot root k s a (Zero h) side free all own ne r held = other_stays n slot root k 0 s a h side free all own ne r held
ready_other n slot root k s a Kept side free all own ne r held =
    let f = (finds_none s a r.0).finds in
    side_kept n s a k side [] r.0.puts all own (finds_staging n s a [] f all) (same_slots s a r.0.slots) held

-- a piece that only looks stood before
found_first : (n : HeapNumbers) (given most : ℕ) (s a t : Seat PairsNote) (es : List CellEntry) → given ≤ most → FindsOnly s [] a
    → AllAllowed (PairsMay n) [] a.seen → Answered n given a es t → Answered n most s es t
found_first n given most s a t es some f all x =
    answered_more n (0 + given) most s t es (omega (arith, some)) (Answered-trans n 0 given s a t [] es (found_answered n s a [] f all) x)

pub go_slots : (n : HeapNumbers) (slot root : ℕ) (s a b t : Seat PairsNote) (new : New) (given : ℕ) (es : List CellEntry) → IsFree s.slots slot
    → IsStaging s.agent root → shown (heap_of n s) (Root root) ≡ Some null → s.fresh ≡ None → Readies n slot root s new a → AnswersPiece n given a es b
    → LetsGo n root new b t → AllAllowed (PairsMay n) [] a.seen → AllAllowed (PairsMay n) [] t.seen → AnswersPiece n (given + nodes_of new) s es t
go_slots n slot root s a b t (Given value h) given es free own empty none r x l all_a all_t =
    staged_join n slot root value s a b t h free own empty r l given es x
go_slots n slot root s a b t (Zero h) given es free own empty none r x l all_a all_t = staged_join n slot root 0 s a b t h free own empty r l given es x
go_slots n slot root s a b t Kept given es free own empty none r x l all_a all_t =
    let last = found_answered n b t [] (finds_none b t l) all_t in
    let first = found_first n given (given + 0) s a b es (omega arith) (finds_none s a r.0) all_a x.answered in
    record { answered = answered_end n (given + 0) s b t es first last; fresh = l.fresh ∙ x.fresh }

ready_puts : (n : HeapNumbers) (slot root : ℕ) (s a : Seat PairsNote) (new : New) → Readies n slot root s new a → (xs : List (Event PairsNote)) × Puts s xs a
ready_puts n slot root s a (Given value h) r = (r.piece.own, r.piece.puts)
ready_puts n slot root s a (Zero h) r = (r.piece.own, r.piece.puts)
ready_puts n slot root s a Kept r = ([], r.0.puts)

gone_puts : (n : HeapNumbers) (root : ℕ) (b t : Seat PairsNote) (new : New) → LetsGo n root new b t → (xs : List (Event PairsNote)) × Puts b xs t
gone_puts n root b t (Given value h) l = (l.piece.own, l.piece.puts)
gone_puts n root b t (Zero h) l = (l.piece.own, l.piece.puts)
gone_puts n root b t Kept l = ([], l.puts)

-- of a publish, whatever it answered

pub any_answered : (n : HeapNumbers) (given turns : ℕ) (left right : Option ℕ) (s t : Seat PairsNote) (r : Result (ℕ × ℕ) CellRefused)
    → PublishAnswers n given turns left right s r t → (es : List CellEntry) × AnswersPiece n given s es t
any_answered n given turns left right s t (Ok now) x = (Published s.agent left right now.0 now.1 ∷ [], x)
any_answered n given turns left right s t (Err Again) x = ([], x.answers)
any_answered n given turns left right s t (Err NoNode) x = ([], x)
any_answered n given turns left right s t (Err (Spent why)) x = ([], x)

answers_fresh : (n : HeapNumbers) (given turns : ℕ) (left right : Option ℕ) (s t : Seat PairsNote) (r : Result (ℕ × ℕ) CellRefused)
    → PublishAnswers n given turns left right s r t → t.fresh ≡ None
answers_fresh n given turns left right s t r x = (any_answered n given turns left right s t r x).1.fresh

side_answered : (n : HeapNumbers) (given turns : ℕ) (left right : Option ℕ) (s t : Seat PairsNote) (r : Result (ℕ × ℕ) CellRefused) (root : ℕ) (new : New)
    → IsStaging s.agent root → AllAllowed (PairsMay n) [] t.seen → PublishAnswers n given turns left right s r t → SideHeld n root new s
    → IsStaging t.agent root × SideHeld n root new t
side_answered n given turns left right s t r root new own all x held =
    let y = (any_answered n given turns left right s t r x).1.answered in (
      subst (λ (i : ℕ). IsStaging i root) (sym y.piece.puts.agent) own,
      side_kept n s t root new y.piece.own y.piece.puts all own y.staging (same_slots s t y.slots) held,
    )

-- a part that was made ready stays ready to be let go, whatever the publish answered
pub ready_answered : (n : HeapNumbers) (slot root given turns : ℕ) (left right : Option ℕ) (s a b : Seat PairsNote) (new : New)
    (r : Result (ℕ × ℕ) CellRefused) → IsFree s.slots slot → IsStaging s.agent root → Readies n slot root s new a → AllAllowed (PairsMay n) [] b.seen
    → PublishAnswers n given turns left right a r b → IsStaging b.agent root × SideHeld n root new b × (b.fresh ≡ None)
ready_answered n slot root given turns left right s a b new r free own rd all x =
    let own_a = subst (λ (i : ℕ). IsStaging i root) (sym (ready_agent n slot root s a new rd)) own in
    let f = side_answered n given turns left right a b r root new own_a all x (ready_held n slot root s a new free rd) in
    (f.0, f.1, answers_fresh n given turns left right a b r x)

pub answers_join : (n : HeapNumbers) (slot root given turns : ℕ) (left right : Option ℕ) (s a b t : Seat PairsNote) (new : New) (r : Result (ℕ × ℕ) CellRefused)
    → IsFree s.slots slot → IsStaging s.agent root → shown (heap_of n s) (Root root) ≡ Some null → s.fresh ≡ None → Readies n slot root s new a
    → PublishAnswers n given turns left right a r b → LetsGo n root new b t → AllAllowed (PairsMay n) [] a.seen → AllAllowed (PairsMay n) [] t.seen
    → PublishAnswers n (given + nodes_of new) turns left right s r t
answers_join n slot root given turns left right s a b t new (Ok now) free own empty none rd x l all_a all_t =
    go_slots n slot root s a b t new given (Published s.agent left right now.0 now.1 ∷ []) free own empty none rd
    (subst (λ (i : ℕ). AnswersPiece n given a (Published i left right now.0 now.1 ∷ []) b) (ready_agent n slot root s a new rd) x) l all_a all_t
answers_join n slot root given turns left right s a b t new (Err NoNode) free own empty none rd x l all_a all_t =
    go_slots n slot root s a b t new given [] free own empty none rd x l all_a all_t
answers_join n slot root given turns left right s a b t new (Err (Spent why)) free own empty none rd x l all_a all_t =
    go_slots n slot root s a b t new given [] free own empty none rd x l all_a all_t
answers_join n slot root given turns left right s a b t new (Err Again) free own empty none rd x l all_a all_t =
    let w = go_slots n slot root s a b t new given [] free own empty none rd x.answers l all_a all_t in
    let first = ready_puts n slot root s a new rd in
    let last = gone_puts n root b t new l in
    let y = x.answers.answered.piece in
    let to_b = Puts-trans s a b first.0 y.own first.1 y.puts in
    record {
      answers = w;
      moved = moved_before s b t turns _ _ _ to_b last.1 w.answered.piece.puts (moved_after s a b turns _ _ _ first.1 y.puts to_b x.moved);
    }

-- the other staging root stays null
pub ready_null : (n : HeapNumbers) (slot root k : ℕ) (s a : Seat PairsNote) (new : New) → AllAllowed (PairsMay n) [] a.seen → IsStaging s.agent k → k ≢ root
    → Readies n slot root s new a → shown (heap_of n s) (Root k) ≡ Some null → shown (heap_of n a) (Root k) ≡ Some null
ready_null n slot root k s a (Given value h) all own ne r at = r.others k own ne ∙ at
ready_null n slot root k s a (Zero h) all own ne r at = r.others k own ne ∙ at
ready_null n slot root k s a Kept all own ne r at = finds_staging n s a [] (finds_none s a r.0).finds all k own ∙ at

pub ready_published : (n : HeapNumbers) (slot root : ℕ) (s a : Seat PairsNote) (new : New) → AllAllowed (PairsMay n) [] a.seen → Readies n slot root s new a
    → IsPublished (heap_of n s) → IsPublished (heap_of n a)
ready_published n slot root s a new all r x = let p = ready_puts n slot root s a new r in published_puts n s a p.0 p.1 all x

-- no pair was published, or one was
pub null_missed : (n : HeapNumbers) (s t : Seat PairsNote) → Known n s.seen → AllAllowed (PairsMay n) [] t.seen → Misses (Root 0) null s t
    → IsPublished (heap_of n t)
null_missed n s t k all x =
    let e : Event PairsNote = event_of s (Miss (Root 0) null x.found) None in
    let m = Puts-stood (PairsMay n) s t [] e [] x.puts all in
    let before = s.seen ++ m.before in
    let holds = holds_later n s.seen m.before m.first k.holds in
    let now : IsPublished (run_heap n before) = elim holds.shows [
      | inl c ↦ absurd (x.other (some_same (sym m.here.fits.0 ∙ c.0)))
      | inr p ↦ (p.id, p.root_is)
    ] in
    subst (λ es. IsPublished (run_heap n es)) (sym (x.puts.is ∙ seen_is m)) (published_later n before (e ∷ m.later) (since m) now)

-- once a pair was published, root 0 isn't found null
pub published_tests : (n : HeapNumbers) (s t : Seat PairsNote) (done : Bool) → AllAllowed (PairsMay n) [] t.seen
    → Tests (At.Root 0) (Want.Null false) None s done t → IsPublished (heap_of n s) → done ≡ false
published_tests n s t false all x was = refl
published_tests n s t true all x was = absurd (published_not_null n s t (Tests-found x refl) all was)

pub answers_after : (n : HeapNumbers) (given most turns : ℕ) (left right : Option ℕ) (s a t : Seat PairsNote) (r : Result (ℕ × ℕ) CellRefused) → given ≤ most
    → FindsOnly s [] a → AllAllowed (PairsMay n) [] a.seen → PublishAnswers n given turns left right a r t → PublishAnswers n most turns left right s r t
answers_after n given most turns left right s a t (Ok now) some f all x =
    let y = subst (λ (i : ℕ). AnswersPiece n given a (Published i left right now.0 now.1 ∷ []) t) f.finds.puts.agent x in
    record {
      answered = found_first n given most s a t (Published s.agent left right now.0 now.1 ∷ []) some f all y.answered;
      fresh = y.fresh;
    }
answers_after n given most turns left right s a t (Err NoNode) some f all x =
    record { answered = found_first n given most s a t [] some f all x.answered; fresh = x.fresh }
answers_after n given most turns left right s a t (Err (Spent why)) some f all x =
    record { answered = found_first n given most s a t [] some f all x.answered; fresh = x.fresh }
answers_after n given most turns left right s a t (Err Again) some f all x =
    let w = found_first n given most s a t [] some f all x.answers.answered in
    record {
      answers = record { answered = w; fresh = x.answers.fresh };
      moved = moved_after s a t turns _ _ _ f.finds.puts x.answers.answered.piece.puts w.piece.puts x.moved;
    }

-- with no turn nothing is done
pub answers_none : (n : HeapNumbers) (most turns : ℕ) (s : Seat PairsNote) → turns ≡ 0 → s.fresh ≡ None → AnswersAgain n most turns s s
answers_none n most turns s zero none = record { answers = record { answered = answered_none n most s; fresh = none }; moved = omega (arith, zero) }

-- a test without a note
pub tests_only : (at : At) (wanted : Want) (s t : Seat PairsNote) (done : Bool) → Tests at wanted None s done t → FindsOnly s [] t
tests_only at wanted s t true x = record {
  finds = record { own = _; puts = Tests-found x refl; finding = (tt, tt); entries_are = refl; fresh = x.fresh };
  slots = x.slots;
}
tests_only at wanted s t false x =
    let m = Tests-missed x refl in
    record { finds = record { own = _; puts = m.puts; finding = (tt, tt); entries_are = refl; fresh = x.fresh }; slots = x.slots }

-- it makes an event
pub tests_puts : (at : At) (wanted : Want) (s t : Seat PairsNote) (done : Bool) → Tests at wanted None s done t
    → (own : List (Event PairsNote)) × Puts s own t × (1 ≤ length own)
tests_puts at wanted s t true x = (_, Tests-found x refl, omega arith)
tests_puts at wanted s t false x = let m = Tests-missed x refl in (_, m.puts, omega arith)

-- the aims at the parts that are given, and then the turns
pub given_turns : (n : HeapNumbers) (turns : ℕ) (left right : Option ℕ) (pair : Hold) (s b t : Seat PairsNote) (turn : PublishTurn) → Answered n 0 s [] b
    → PublishesTurns n turns left right pair b turn t → PublishesGiven n turns left right pair s turn t
given_turns n turns left right pair s b t Over x y =
    let w = Answered-trans n 0 0 s b t [] [] x y.over.answered in
    record {
      answered = w;
      fresh = y.over.fresh;
      moved = moved_after s b t turns _ _ _ x.piece.puts y.over.answered.piece.puts w.piece.puts y.over.moved;
    }
given_turns n turns left right pair s b t (Done u v) x y =
    let z = subst (λ (i : ℕ). Answered n 0 b (Published i left right u v ∷ []) t) x.piece.puts.agent y.answered in
    record { answered = Answered-trans n 0 0 s b t [] (Published s.agent left right u v ∷ []) x z; fresh = y.fresh }
given_turns n turns left right pair s b t (Worn why) x y = record { answered = Answered-trans n 0 0 s b t [] [] x y.answered; fresh = y.fresh }
