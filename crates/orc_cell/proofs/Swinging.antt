-- The swing of root 0 to a new pair whose two halves were aimed.
use Rattle.std.proofs.Common.{Bool, List, None, Option, Some, [], ap, arith, false, inl, inr, refl, subst, sym, true, ℕ, ◌*◌, ◌++◌, ◌+◌, ◌∙◌, ◌∷◌, ◌≡◌, ◌≢◌, ◌≤◌}
use Rattle.std.proofs.lemmas.Bool.{ne_eqb}
use Rattle.std.specs.List.{slice_get}
use Rattle.std.specs.Prelude.{MatchBool, if◌then◌else◌, unwrap_or, ◌||◌}
use Rattle.orc_heap.proofs.Calls.{Puts-stood, part_allowed}
use Rattle.orc_heap.proofs.Changes.{get-change_same}
use Rattle.orc_heap.proofs.Moved.{target_roots}
use Rattle.orc_heap.proofs.Pieces.{new_is}
use Rattle.orc_heap.proofs.Runs.{run_heap-snoc}
use Rattle.orc_heap.proofs.Stays.{stays}
use Rattle.orc_heap.specs.Acts.{as_linked, heap_after, set_link}
use Rattle.orc_pairs_rule.specs.Laws.Kinds.{each_kind}
use Rattle.orc_heap.proofs.SingleActs.{link_same, null_to, root_other, some_same}
use Rattle.orc_heap.proofs.Told.{named_told}
use Rattle.orc_heap.specs.Allowed.{AllAllowed}
use Rattle.orc_heap.proofs.ByAnswer.{unless_same}
use Rattle.orc_heap.specs.Calls.{Misses, event_of, links_made, unless_node}
use Rattle.orc_heap.specs.Heap.{Heap, HeapNumbers, Node, link_to, null, shown}
use Rattle.orc_heap.specs.Journals.{IsLawful, is_once_named, points_to, run_heap}
use Rattle.orc_heap.specs.OwnEvents.{Puts}
use Rattle.orc_heap.specs.Seats.{HoldsFresh, HoldsWant, IsUntouched, Seat, heap_of, link_in}
use Rattle.orc_heap.specs.declared.holds.Want.{Want}
use Rattle.orc_heap.specs.declared.holds.Want.TheVariants.{Node as WantNode, Null as WantNull}
use Rattle.orc_heap.specs.Slots.{Hold, Holds, Slots, id_in}
use Rattle.orc_heap.specs.declared.events.Act.TheVariants.{Look, Move}
use Rattle.orc_heap.specs.declared.events.Event.{Event}
use Rattle.orc_heap.specs.declared.events.Link.{Link}
use Rattle.orc_heap.specs.declared.events.Place.{Place}
use Rattle.orc_heap.specs.declared.events.Place.TheVariants.{Next, Root, Side}
use Rattle.orc_pairs_rule.proofs.Coming.{one_part, publish_own}
use Rattle.orc_pairs_rule.specs.declared.entry.CellEntry.{CellEntry}
use Rattle.orc_pairs_rule.specs.declared.entry.CellEntry.TheVariants.{Published}
use Rattle.orc_pairs_rule.specs.declared.pairs.PairsNote.{PairsNote}
use Rattle.orc_pairs_rule.specs.declared.pairs.PairsNote.TheVariants.{Entry}
use Rattle.orc_pairs_rule.specs.Laws.Shown.{not_root_0, roots_kept}
use Rattle.orc_pairs_rule.specs.PairsDiscipline.{HasPart, IsStaging, PairsMay}
use Rattle.orc_pairs_rule.specs.Watches.{MayFollow, IsKept, IsOwnPair}
use Rattle.orc_cell.specs.Publishes.{Aimed, Answered, ComesAfter, IsFirst, IsNewPart, IsPartOf, IsPrepared, IsPublished, KeepsHalves, KeepsStaging, MayPublish, NotAimed, PublishDone, PublishMissed, PublishSpent, SideHeld, SwingsPair, given_of}
use Rattle.orc_cell.specs.Turns.{IsPairOf, others_moves}
use Rattle.orc_cell.specs.declared.publish.Half.{Half}
use Rattle.orc_cell.specs.declared.publish.Half.TheVariants.{Left, Right}
use Rattle.orc_cell.specs.declared.publish.New.{New}
use Rattle.orc_cell.specs.declared.publish.New.TheVariants.{Given, Kept, Zero}
use Rattle.orc_cell.proofs.Looking.{left_shows, right_shows}
use Rattle.orc_cell.proofs.Others.{missed_by_others, others-append, still_or_others}
use Rattle.orc_cell.proofs.Pieces.{Known, pair_puts, part_puts}
use Rattle.orc_cell.proofs.Readying.{aims_keep, half_ready, keeps_found, keeps_trans}
use Rattle.orc_cell.proofs.Staging.{Answered-trans, root_kept}

-- a node to which nothing links isn't worn

no_links : (es : List (Event PairsNote)) (id : ℕ) → is_once_named es id ≡ false → links_made es id ≡ 0
no_links [] id none = refl
no_links (e ∷ es) id none = cases (points_to e.act id) refl none (λ h. no_links es id h)
  where
    cases : (b : Bool) → points_to e.act id ≡ b → (b || is_once_named es id) ≡ false → (is_once_named es id ≡ false → links_made es id ≡ 0)
        → links_made (e ∷ es) id ≡ 0
    cases true is h rest = cc
    cases false is h rest = rw is (rest h)

pub not_worn : (n : HeapNumbers) (agent : ℕ) (es : List (Event PairsNote)) (id : ℕ) → IsLawful n es → IsUntouched agent (run_heap n es) id
    → 32 ≤ links_made es id → ⊥
not_worn n agent es id lawful u many =
    let none : is_once_named es id ≡ false = sym (named_told n es id u.node lawful u.there) ∙ u.unnamed in
    omega (arith, many, no_links es id none)

-- both halves were aimed

module _ (n : HeapNumbers) (s a b : Seat PairsNote) (pair : Hold) (l r x y : ℕ) (left : Aimed n Left pair l x s a) (right : Aimed n Right pair r y a b)
    (known_b : Known n b.seen) (untouched : (i : ℕ) → b.fresh ≡ Some i → IsUntouched b.agent (heap_of n b) i)
  where
    pub own_pair : IsOwnPair (heap_of n b) b.agent (id_in b.slots pair) l r (record { left = x; right = y })
    own_pair =
        let u = untouched (id_in b.slots pair) right.kept.fresh.fresh in
        let same : u.node ≡ right.kept.node = some_same (sym u.there ∙ right.kept.there) in
        record {
          node = right.kept.node;
          there = right.kept.there;
          mine = ap (λ (z : Node). z.giver) (sym same) ∙ u.mine;
          unnamed = ap (λ (z : Node). z.named) (sym same) ∙ u.unnamed;
          unlinked = ap (λ (z : Node). z.linked) (sym same) ∙ u.unlinked;
          pair = record {
            link_is = right.kept.keeps left.kept.node left.kept.there ∙ left.leads;
            side_is = right.leads;
            left_part = part_puts n a b right.kept.answered.piece.own right.kept.answered.piece.puts known_b.all l x left.has;
            right_part = right.has;
          };
        }

    pub may_publish : (given_left given_right : Option ℕ) (from : Link) → n.links ≡ 2
        → MayFollow (heap_of n b) given_left given_right from l r (record { left = x; right = y })
        → MayPublish n b from (id_in b.slots pair) given_left given_right x y
    may_publish given_left given_right from two follows =
        publish_own n b.agent b.seen known_b.holds given_left given_right from (id_in b.slots pair) l r (record { left = x; right = y }) two own_pair follows

    both_aimed : Answered n 0 s [] b
    both_aimed = Answered-trans n 0 0 s a b [] [] left.kept.answered right.kept.answered

    pub agents : b.agent ≡ s.agent
    agents = right.kept.answered.piece.puts.agent ∙ left.kept.answered.piece.puts.agent

    module _ (t : Seat PairsNote) (from : Link) (given_left given_right : Option ℕ) (done : Bool)
        (w : SwingsPair from (id_in b.slots pair) given_left given_right x y b done t) (all_t : AllAllowed (PairsMay n) [] t.seen)
      where
        was_published : done ≡ true → PublishDone n given_left given_right x y s t
        was_published is =
            let e : Event PairsNote =
            event_of b (Move (Root 0) from (link_to (id_in b.slots pair))) (Some (Entry (Published b.agent given_left given_right x y))) in
            let puts : Puts b (e ∷ []) t = subst (λ (v : Bool). MatchBool v (Puts b (e ∷ []) t) (Misses (Root 0) from b t)) is w.puts in
            let swing : Answered n 0 b (Published s.agent given_left given_right x y ∷ []) t = record {
              piece = record {
                own = e ∷ [];
                puts = puts;
                entries_are = ap (λ (i : ℕ). Published i given_left given_right x y ∷ []) agents;
                gives = omega arith;
              };
              slots = w.slots;
              staging = λ root own. root_kept n b t (e ∷ []) root puts all_t own (rw (ne_eqb 0 root (not_root_0 b.agent root own)) refl);
            } in
            record {
              answered = Answered-trans n 0 0 s b t [] (Published s.agent given_left given_right x y ∷ []) both_aimed swing;
              fresh = w.fresh ∙ ap (λ (v : Bool). if v then None else b.fresh) is;
            }

        was_missed : done ≡ false → (given_left ≢ None → a ≡ s) → (given_right ≢ None → b ≡ a) → PublishMissed n from given_left given_right pair s t
        was_missed is same_left same_right =
            let e : Event PairsNote =
            event_of b (Move (Root 0) from (link_to (id_in b.slots pair))) (Some (Entry (Published b.agent given_left given_right x y))) in
            let m : Misses (Root 0) from b t = subst (λ (v : Bool). MatchBool v (Puts b (e ∷ []) t) (Misses (Root 0) from b t)) is w.puts in
            let fresh_t : t.fresh ≡ b.fresh = w.fresh ∙ ap (λ (v : Bool). if v then None else b.fresh) is in
            let miss : Answered n 0 b [] t = record {
              piece = record { own = _; puts = m.puts; entries_are = refl; gives = omega arith };
              slots = w.slots;
              staging = λ root own. root_kept n b t _ root m.puts all_t own refl;
            } in
            let whole = Answered-trans n 0 0 s b t [] [] both_aimed miss in
            record {
              answered = whole;
              fresh = record {
                held = subst (λ (z : Slots). Holds z pair) (sym w.slots) right.kept.fresh.held;
                fresh = fresh_t ∙ (right.kept.fresh.fresh ∙ ap (λ z. Some (id_in z pair)) (sym w.slots));
              };
              halves = keeps_trans n given_left given_right pair s b t
                  (aims_keep n given_left given_right pair s a b l r x y left right same_left same_right)
                  (keeps_found n given_left given_right pair b t _ m.puts known_b all_t (tt, tt) (untouched (id_in b.slots pair) right.kept.fresh.fresh)
                  (ap (λ z. id_in z pair) w.slots));
              moved = λ at.
                  let count : others_moves s.agent whole.piece.puts.part
                  ≡ others_moves s.agent both_aimed.piece.puts.part + others_moves s.agent m.puts.part =
                  ap (others_moves s.agent) (new_is s b t _ _ _ both_aimed.piece.puts m.puts whole.piece.puts)
                  ∙ others-append s.agent both_aimed.piece.puts.part m.puts.part in
                  elim (still_or_others n s b from both_aimed.piece.own both_aimed.piece.puts known_b.all both_aimed.piece.entries_are at) [
                    | inl still ↦
                        let moved = subst (λ (i : ℕ). 1 ≤ others_moves i m.puts.part) agents (missed_by_others n b t from m.found m.puts all_t m.other still) in
                        omega (arith, count, moved)
                    | inr moved ↦ omega (arith, count, moved)
                  ];
            }

        -- by the swing's answer
        pub swung_turn : (given_left ≢ None → a ≡ s) → (given_right ≢ None → b ≡ a) → (done ≡ true → PublishDone n given_left given_right x y s t)
            × (done ≡ false → PublishMissed n from given_left given_right pair s t)
        swung_turn same_left same_right = (λ is. was_published is, λ is. was_missed is same_left same_right)

pub spent_right : (n : HeapNumbers) (s a b : Seat PairsNote) (pair : Hold) (l x : ℕ) → Aimed n Left pair l x s a → NotAimed n pair a b → PublishSpent n pair s b
spent_right n s a b pair l x left right = record { answered = Answered-trans n 0 0 s a b [] [] left.kept.answered right.answered; fresh = right.fresh }

-- a first pair

first_value : (new : New) (id value : ℕ) → IsFirst new id value → unwrap_or (given_of new) 0 ≡ value
first_value (Given given h) id value is = sym is
first_value (Zero h) id value is = sym is
first_value Kept id value is = absurd is

follows_null : (h : Heap) (left right : New) (l r x y : ℕ) → IsFirst left l x → IsFirst right r y
    → MayFollow h (given_of left) (given_of right) null l r (record { left = x; right = y })
follows_null h left right l r x y one other =
    inl (
      refl,
      ap (λ (v : ℕ). record { left = v; right = unwrap_or (given_of right) 0 }) (first_value left l x one)
          ∙ ap (λ (v : ℕ). record { left = x; right = v }) (first_value right r y other),
    )

-- a pair after another

kept_part : (n : HeapNumbers) (s b : Seat PairsNote) (new : New) (place : Place) (old was id value : ℕ) → shown (heap_of n s) place ≡ Some (link_to old)
    → HasPart (heap_of n b) old was → HasPart (heap_of n b) id value → IsNewPart (heap_of n s) place new id value
    → (unwrap_or (given_of new) was ≡ value) × IsKept (given_of new) old id
kept_part n s b (Given given h) place old was id value at p q is = (sym is, tt)
kept_part n s b (Zero h) place old was id value at p q is =
    let same : old ≡ id = link_same old id (some_same (sym at ∙ is)) in
    (one_part (heap_of n b) id was value (subst (λ (i : ℕ). HasPart (heap_of n b) i was) same p) q, sym same)
kept_part n s b Kept place old was id value at p q is =
    let same : old ≡ id = link_same old id (some_same (sym at ∙ is)) in
    (one_part (heap_of n b) id was value (subst (λ (i : ℕ). HasPart (heap_of n b) i was) same p) q, sym same)

follows_pair : (n : HeapNumbers) (s a b : Seat PairsNote) (pair : Hold) (left right : New) (old l r x y : ℕ) → n.links ≡ 2 → IsPairOf (heap_of n s) old
    → Aimed n Left pair l x s a → Aimed n Right pair r y a b → AllAllowed (PairsMay n) [] a.seen → AllAllowed (PairsMay n) [] b.seen
    → IsNewPart (heap_of n s) (Next old) left l x → IsNewPart (heap_of n a) (Side old) right r y
    → MayFollow (heap_of n b) (given_of left) (given_of right) (link_to old) l r (record { left = x; right = y })
follows_pair n s a b pair left right old l r x y two (l0, r0, was, has) one second all_a all_b is_left is_right =
    let to_a = one.kept.answered.piece in
    let to_b = second.kept.answered.piece in
    let in_a = pair_puts n s a to_a.own to_a.puts all_a old l0 r0 was has in
    let in_b = pair_puts n a b to_b.own to_b.puts all_b old l0 r0 was in_a in
    let x_has = part_puts n a b to_b.own to_b.puts all_b l x one.has in
    let lk = kept_part n s b left (Next old) l0 was.left l x (left_shows n s.seen old l0 r0 was has) in_b.pair.left_part x_has is_left in
    let rk = kept_part n a b right (Side old) r0 was.right r y (right_shows n a.seen old l0 r0 was two in_a) in_b.pair.right_part second.has is_right in
    inr (record {
      id = old;
      old_left = l0;
      old_right = r0;
      old = was;
      from_is = refl;
      has = in_b;
      parts_are = ap (λ (v : ℕ). record { left = v; right = unwrap_or (given_of right) was.right }) lk.0 ∙ ap (λ (v : ℕ). record { left = x; right = v }) rk.0;
      keeps_left = lk.1;
      keeps_right = rk.1;
    })

-- a pair that follows what the link leads to
pub follows_from : (n : HeapNumbers) (s a b : Seat PairsNote) (pair : Hold) (from : Want) (left right : New) (l r x y : ℕ) → n.links ≡ 2
    → ComesAfter n from s left → Aimed n Left pair l x s a → Aimed n Right pair r y a b → AllAllowed (PairsMay n) [] a.seen → AllAllowed (PairsMay n) [] b.seen
    → IsPartOf n Left from s left l x → IsPartOf n Right from a right r y
    → MayFollow (heap_of n b) (given_of left) (given_of right) (link_in b.slots from) l r (record { left = x; right = y })
follows_from n s a b pair (WantNull false) left right l r x y two f one second all_a all_b is_left is_right =
    follows_null (heap_of n b) left right l r x y is_left is_right
follows_from n s a b pair (WantNode h false) left right l r x y two f one second all_a all_b is_left is_right =
    let place = subst (λ (z : Slots). IsNewPart (heap_of n a) (Side (id_in z h.now)) right r y) one.kept.answered.slots is_right in
    let at_s = follows_pair n s a b pair left right (id_in s.slots h.now) l r x y two f.1 one second all_a all_b is_left place in
    subst (λ (z : Slots). MayFollow (heap_of n b) (given_of left) (given_of right) (link_to (id_in z h.now)) l r (record { left = x; right = y }))
    (sym (second.kept.answered.slots ∙ one.kept.answered.slots)) at_s
follows_from n s a b pair (WantNull true) left right l r x y two f one second all_a all_b is_left is_right = absurd f
follows_from n s a b pair (WantNode h true) left right l r x y two f one second all_a all_b is_left is_right = absurd f

-- once a pair was published, root 0 names one
published_next : (n : HeapNumbers) (es : List (Event PairsNote)) (e : Event PairsNote) → IsPublished (run_heap n es) → PairsMay n es e
    → IsPublished (run_heap n (es ++ e ∷ []))
published_next n es e (id, at) may =
    let h = run_heap n es in
    let k = run_heap n (es ++ e ∷ []) in
    let moved = ap (λ g. shown g (Root 0)) (run_heap-snoc n es e) in
    let r = each_kind h e.agent (λ act noted. (i : ℕ) × (shown (heap_after e.agent act h) (Root 0) ≡ Some (link_to i)))
    (λ act m. (id, roots_kept e.agent act h 0 m ∙ at))
    (λ r from to m. (id, root_other e.agent r 0 from to h (not_root_0 e.agent r m.own) ∙ at))
    (λ r from to m. (id, root_other e.agent r 0 from to h (not_root_0 e.agent r m.own) ∙ at))
    (λ r from to by left right x y m.
    let same : shown h (Root r) ≡ Some (link_to id) = subst (λ (q : ℕ). shown h (Root q) ≡ Some (link_to id)) (sym m.root_is) at in (
      m.id,
      subst (λ (q : ℕ). shown (heap_after e.agent (Move (Root r) from to) h) (Root q) ≡ Some (link_to m.id)) m.root_is
          (root_moved_any e.agent r from to (link_to id) h same ∙ ap (λ (z : Link). Some z) m.to_is),
    ))
    (λ place link by x y. (id, at))
    e.act e.note may.may_act in
    (r.0, moved ∙ r.1)
  where
    root_moved_any : (agent r : ℕ) (from to was : Link) (h : Heap) → shown h (Root r) ≡ Some was
        → shown (heap_after agent (Move (Root r) from to) h) (Root r) ≡ Some to
    root_moved_any agent r from to was h at =
        ap (λ (l : List Link). slice_get l r) (target_roots as_linked to.to (set_link (Root r) to h)) ∙ get-change_same (λ (l : Link). to) r h.roots was at

pub published_later : (n : HeapNumbers) (seen more : List (Event PairsNote)) → AllAllowed (PairsMay n) seen more → IsPublished (run_heap n seen)
    → IsPublished (run_heap n (seen ++ more))
published_later n seen more all x =
    stays (PairsMay n) (λ es. IsPublished (run_heap n es)) (λ es e y may. published_next n es e y may) seen more x all

pub published_puts : (n : HeapNumbers) (s t : Seat PairsNote) (own : List (Event PairsNote)) → Puts s own t → AllAllowed (PairsMay n) [] t.seen
    → IsPublished (heap_of n s) → IsPublished (heap_of n t)
published_puts n s t own p all x =
    subst (λ es. IsPublished (run_heap n es)) (sym p.is)
    (stays (PairsMay n) (λ es. IsPublished (run_heap n es)) (λ es e y may. published_next n es e y may) s.seen p.part x
    (part_allowed (PairsMay n) s t own p all))

-- so no look of root 0 finds null
pub published_not_null : (n : HeapNumbers) (s t : Seat PairsNote) → Puts s (event_of s (Look (Root 0) null) None ∷ []) t → AllAllowed (PairsMay n) [] t.seen
    → IsPublished (heap_of n s) → ⊥
published_not_null n s t p all was =
    let m = Puts-stood (PairsMay n) s t [] (event_of s (Look (Root 0) null) None) [] p all in
    let still = published_later n s.seen m.before m.first was in
    null_to still.0 (some_same (sym m.here.fits ∙ still.1))

-- a staged part stays so over a piece of a call
pub side_kept : (n : HeapNumbers) (s t : Seat PairsNote) (root : ℕ) (new : New) (own : List (Event PairsNote)) → Puts s own t
    → AllAllowed (PairsMay n) [] t.seen
    → IsStaging s.agent root → KeepsStaging n s t → ((h : Hold) → Holds s.slots h → Holds t.slots h × (id_in t.slots h ≡ id_in s.slots h))
    → SideHeld n root new s → SideHeld n root new t
side_kept n s t root (Given value h) own p all staging kept carries x =
    let c = carries h x.held in
    record {
      held = c.0;
      root_is = kept root staging ∙ (x.root_is ∙ ap (λ (i : ℕ). Some (link_to i)) (sym c.1));
      part = subst (λ (i : ℕ). HasPart (heap_of n t) i value) (sym c.1) (part_puts n s t own p all (id_in s.slots h) value x.part);
    }
side_kept n s t root (Zero h) own p all staging kept carries x =
    let c = carries h x.held in
    record {
      held = c.0;
      root_is = kept root staging ∙ (x.root_is ∙ ap (λ (i : ℕ). Some (link_to i)) (sym c.1));
      part = subst (λ (i : ℕ). HasPart (heap_of n t) i 0) (sym c.1) (part_puts n s t own p all (id_in s.slots h) 0 x.part);
    }
side_kept n s t root Kept own p all staging kept carries x = published_puts n s t own p all x

pub same_slots : (s t : Seat PairsNote) → t.slots ≡ s.slots → (h : Hold) → Holds s.slots h → Holds t.slots h × (id_in t.slots h ≡ id_in s.slots h)
same_slots s t same h held = (subst (λ (z : Slots). Holds z h) (sym same) held, ap (λ z. id_in z h) same)

-- what is prepared stays so, where the halves stay as they are
pub prepared_kept : (n : HeapNumbers) (pair : Hold) (left right : New) (s a : Seat PairsNote) (own : List (Event PairsNote)) → Puts s own a
    → AllAllowed (PairsMay n) [] a.seen → KeepsStaging n s a
    → ((h : Hold) → Holds s.slots h → Holds a.slots h × (id_in a.slots h ≡ id_in s.slots h)) → KeepsHalves n (given_of left) (given_of right) pair s a
    → HoldsFresh a pair → IsPrepared n pair left right s → IsPrepared n pair left right a
prepared_kept n pair left right s a own p all staging carries k fresh x =
    let ids : (h : Hold) → Holds s.slots h → id_in a.slots h ≡ id_in s.slots h = λ h held. (carries h held).1 in
    let first = 1 + 2 * s.agent in
    let second = 2 + 2 * s.agent in
    record {
      fresh = fresh;
      left_held = subst (λ (i : ℕ). SideHeld n (1 + 2 * i) left a) (sym p.agent) (side_kept n s a first left own p all (inl refl) staging carries x.left_held);
      right_held = subst (λ (i : ℕ). SideHeld n (2 + 2 * i) right a) (sym p.agent) (side_kept n s a second right own p all (inr refl) staging carries x.right_held);
      left_leads = half_ready n Left first left (given_of left) (given_of right) pair s a refl k ids x.left_held x.left_leads;
      right_leads = half_ready n Right second right (given_of left) (given_of right) pair s a refl k ids x.right_held x.right_leads;
    }

-- the pair was the fresh node
pub swung_fresh : (fresh : Option ℕ) (id : ℕ) (done : Bool) → fresh ≡ Some id
    → (if done then unless_node fresh (Some id) else fresh) ≡ (if done then None else fresh)
swung_fresh fresh id done is = ap (λ (o : Option ℕ). if done then o else fresh) (ap (λ (o : Option ℕ). unless_node o (Some id)) is ∙ unless_same id)

-- the pair before stays one
before_kept : (n : HeapNumbers) (s a : Seat PairsNote) (old : ℕ) (es : List CellEntry) → Answered n 0 s es a → AllAllowed (PairsMay n) [] a.seen
    → IsPairOf (heap_of n s) old → IsPairOf (heap_of n a) old
before_kept n s a old es x all (l, r, parts, has) = (l, r, parts, pair_puts n s a x.piece.own x.piece.puts all old l r parts has)

-- what the link leads to stays so, after the other half was aimed
pub follows_kept : (n : HeapNumbers) (s a : Seat PairsNote) (from : Want) (new : New) (es : List CellEntry) → Answered n 0 s es a
    → AllAllowed (PairsMay n) [] a.seen → ComesAfter n from s new → ComesAfter n from a new
follows_kept n s a (WantNull false) new es x all f = f
follows_kept n s a (WantNode h false) new es x all f = (
  subst (λ (z : Slots). Holds z h.now) (sym x.slots) f.0,
  subst (λ (z : Slots). IsPairOf (heap_of n a) (id_in z h.now)) (sym x.slots) (before_kept n s a (id_in s.slots h.now) es x all f.1),
)
follows_kept n s a (WantNull true) new es x all f = absurd f
follows_kept n s a (WantNode h true) new es x all f = absurd f

-- the link's target is held
pub follows_held : (n : HeapNumbers) (s : Seat PairsNote) (from : Want) (new : New) → ComesAfter n from s new → HoldsWant s.slots from
follows_held n s (WantNull false) new f = tt
follows_held n s (WantNode h false) new f = f.0
follows_held n s (WantNull true) new f = absurd f
follows_held n s (WantNode h true) new f = absurd f

-- a part that is given
pub given_part : (n : HeapNumbers) (half : Half) (from : Want) (s : Seat PairsNote) (value : ℕ) (h : Hold) (id : ℕ)
    → IsPartOf n half from s (Given value h) id value
given_part n half (WantNull mark) s value h id = refl
given_part n half (WantNode k mark) s value h id = refl

-- a staged part, after the other half was aimed
pub right_kept : (n : HeapNumbers) (s a : Seat PairsNote) (right : New) (es : List CellEntry) → Answered n 0 s es a → AllAllowed (PairsMay n) [] a.seen
    → SideHeld n (2 + 2 * s.agent) right s → SideHeld n (2 + 2 * a.agent) right a
right_kept n s a right es x all held =
    subst (λ (i : ℕ). SideHeld n (2 + 2 * i) right a) (sym x.piece.puts.agent)
    (side_kept n s a (2 + 2 * s.agent) right x.piece.own x.piece.puts all (inr refl) x.staging (same_slots s a x.slots) held)

-- the same of the left one
pub left_kept : (n : HeapNumbers) (s a : Seat PairsNote) (left : New) (es : List CellEntry) → Answered n 0 s es a → AllAllowed (PairsMay n) [] a.seen
    → SideHeld n (1 + 2 * s.agent) left s → SideHeld n (1 + 2 * a.agent) left a
left_kept n s a left es x all held =
    subst (λ (i : ℕ). SideHeld n (1 + 2 * i) left a) (sym x.piece.puts.agent)
    (side_kept n s a (1 + 2 * s.agent) left x.piece.own x.piece.puts all (inl refl) x.staging (same_slots s a x.slots) held)
