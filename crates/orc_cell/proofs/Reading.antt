-- Turns of a read.
use Rattle.std.proofs.Common.{Bool, List, None, Option, Some, [], ap, append-nil, arith, false, inl, inr, refl, subst, sym, true, ℕ, ◌+◌, ◌∙◌, ◌∷◌, ◌≡◌, ◌≤◌}
use Rattle.std.specs.List.{slice_get}
use Rattle.std.specs.Prelude.{MatchBool}
use Rattle.orc_heap.proofs.Pieces.{new_is, slot_id, slot_released}
use Rattle.orc_heap.proofs.SingleActs.{link_same, some_same}
use Rattle.orc_heap.specs.Allowed.{AllAllowed, IsLinkedNode}
use Rattle.orc_heap.specs.Calls.{Misses, ReadsValue, Releases, event_of}
use Rattle.orc_heap.specs.Heap.{HeapNumbers, Node, link_to, null, shown}
use Rattle.orc_heap.specs.Moves.{from_own}
use Rattle.orc_heap.specs.OwnEvents.{Only, Puts}
use Rattle.orc_heap.specs.Seats.{IsUntouched, Seat, heap_of}
use Rattle.orc_heap.specs.Slots.{Hold, IsFree, id_in}
use Rattle.orc_heap.specs.declared.events.Act.TheVariants.{Look}
use Rattle.orc_heap.specs.declared.events.Event.{Event}
use Rattle.orc_heap.specs.declared.events.Link.{Link}
use Rattle.orc_heap.specs.declared.events.Place.{Place}
use Rattle.orc_heap.specs.declared.events.Place.TheVariants.{Next, Root, Side}
use Rattle.orc_pairs_rule.proofs.Coming.{one_part, seen_pair}
use Rattle.orc_pairs_rule.specs.declared.entry.CellEntry.{CellEntry}
use Rattle.orc_pairs_rule.specs.declared.entry.CellEntry.TheVariants.{Seen}
use Rattle.orc_pairs_rule.specs.declared.pairs.PairsNote.{PairsNote}
use Rattle.orc_pairs_rule.specs.declared.pairs.PairsNote.TheVariants.{Entry}
use Rattle.orc_pairs_rule.specs.CellHistory.{Parts}
use Rattle.orc_pairs_rule.specs.PairsDiscipline.{HasPair, HasPart, PairsMay}
use Rattle.orc_cell.specs.Turns.{Confirms, OnlyLooks, FindsOnly, HoldsPart, IsPairOf, LeadsToPart, IsMovedSince, MaySee, ReadsOver, ReadsPair, ReadsPart, ReadsTurns, others_moves}
use Rattle.orc_cell.proofs.Looking.{HoldsPair, RootNull, left_shows, right_shows}
use Rattle.orc_cell.proofs.Others.{found_or_others, missed_by_others, others-append, others_from_own-append, still_or_others, turn_moved}
use Rattle.orc_cell.proofs.Pieces.{Finds-trans, FindsOnly-trans, Known, finds_none, finds_released, pair_puts, part_puts}

-- the value of a part that is held
pub value_read : (n : HeapNumbers) (b : Seat PairsNote) (i id v value : ℕ) → i ≡ id → HasPart (heap_of n b) id v → ReadsValue (heap_of n b) i 0 value
    → value ≡ v
value_read n b i id v value same p r =
    let one : r.node ≡ p.node = some_same (sym r.there ∙ (ap (λ (k : ℕ). slice_get (heap_of n b).nodes k) same ∙ p.there)) in
    r.is v (ap (λ (z : Node). z.first) one ∙ p.part.value_is)

module _ (n : HeapNumbers) (s a b t : Seat PairsNote) (place : Place) (h : Hold) (value : ℕ) where
  pub part_read : IsFree s.slots 2 → LeadsToPart (heap_of n s) place → HoldsPart n place 2 s h a → AllAllowed (PairsMay n) [] a.seen → Only [] a b
      → AllAllowed (PairsMay n) [] b.seen → ReadsValue (heap_of n b) (id_in a.slots h) 0 value
      → ((i : ℕ) → b.fresh ≡ Some i → IsUntouched b.agent (heap_of n b) i) → Releases b h t → AllAllowed (PairsMay n) [] t.seen
      → ReadsPart n place s value t
  part_read free k held all_a o all_b reads untouched w all_t =
      let is : k.part ≡ held.id = link_same k.part held.id (some_same (sym k.leads ∙ held.leads)) in
      let has_s : HasPart (heap_of n s) held.id k.value = subst (λ (i : ℕ). HasPart (heap_of n s) i k.value) is k.has in
      let has_a = part_puts n s a held.finds.own held.finds.puts all_a held.id k.value has_s in
      let has_b = part_puts n a b [] o.puts all_b held.id k.value has_a in
      let has_t = part_puts n b t [] w.puts all_t held.id k.value has_b in
      let id_a : id_in a.slots h ≡ held.id = slot_id s a 2 held.id h free held.in_slot in
      let id_b : id_in b.slots h ≡ held.id = ap (λ z. id_in z h) o.slots ∙ id_a in
      let value_is : value ≡ k.value = value_read n b (id_in a.slots h) held.id k.value value id_a has_b reads in
      let linked : IsLinkedNode (heap_of n b) (id_in b.slots h) =
      subst (λ (i : ℕ). IsLinkedNode (heap_of n b) i) (sym id_b) (record { node = has_b.node; there = has_b.there; linked = has_b.linked }) in
      record {
        only = finds_released n s a b t h [] held.finds (finds_none a b o) untouched linked w (slot_released s a 2 held.id h free held.in_slot b t o.slots w);
        id = held.id;
        leads = held.leads;
        has = subst (λ (v : ℕ). HasPart (heap_of n t) held.id v) (sym value_is) has_t;
      }

-- both parts of a pair were read
pub record BothRead (n : HeapNumbers) (id left right : ℕ) (b : Seat PairsNote) : Type 0 where
  pub left_id : ℕ
  pub right_id : ℕ
  pub parts : Parts
  pub has : HasPair (heap_of n b) id left_id right_id parts
  pub left_is : left ≡ parts.left
  pub right_is : right ≡ parts.right

pub both_read : (n : HeapNumbers) (s a b : Seat PairsNote) (id left right : ℕ) → n.links ≡ 2 → IsPairOf (heap_of n s) id → ReadsPart n (Next id) s left a
    → ReadsPart n (Side id) a right b → AllAllowed (PairsMay n) [] a.seen → AllAllowed (PairsMay n) [] b.seen → BothRead n id left right b
both_read n s a b id left right two (l, r, parts, has) one other all_a all_b =
    let in_a = pair_puts n s a one.only.finds.own one.only.finds.puts all_a id l r parts has in
    let in_b = pair_puts n a b other.only.finds.own other.only.finds.puts all_b id l r parts in_a in
    let l_is : one.id ≡ l = link_same one.id l (some_same (sym one.leads ∙ left_shows n s.seen id l r parts has)) in
    let r_is : other.id ≡ r = link_same other.id r (some_same (sym other.leads ∙ right_shows n a.seen id l r parts two in_a)) in
    record {
      left_id = l;
      right_id = r;
      parts = parts;
      has = in_b;
      left_is = one_part (heap_of n a) l left parts.left (subst (λ (i : ℕ). HasPart (heap_of n a) i left) l_is one.has) in_a.pair.left_part;
      right_is = one_part (heap_of n b) r right parts.right (subst (λ (i : ℕ). HasPart (heap_of n b) i right) r_is other.has) in_b.pair.right_part;
    }

pub may_see_pair : (n : HeapNumbers) (b : Seat PairsNote) (id left right : ℕ) → Known n b.seen → BothRead n id left right b → MaySee n b (link_to id) left right
may_see_pair n b id left right k r =
    subst (λ (x : ℕ). MaySee n b (link_to id) x right) (sym r.left_is)
    (subst (λ (y : ℕ). MaySee n b (link_to id) r.parts.left y) (sym r.right_is) (seen_pair n b.agent b.seen k.holds id r.left_id r.right_id r.parts r.has))

-- a confirming load

pub confirmed : (s b t : Seat PairsNote) (link : Link) (left right : ℕ) (done : Bool) → done ≡ true → FindsOnly s [] b → Confirms link left right b done t
    → FindsOnly s (Seen s.agent left right ∷ []) t
confirmed s b t link left right done is x c =
    let agent = x.finds.puts.agent in
    let puts = subst (λ (v : Bool). MatchBool v (Puts b (event_of b (Look (Root 0) link) (Some (Entry (Seen b.agent left right))) ∷ []) t)
    (Misses (Root 0) link b t)) is c.puts in
    let last : FindsOnly b (Seen s.agent left right ∷ []) t = record {
      finds = record {
        own = _;
        puts = puts;
        finding = (tt, tt);
        entries_are = ap (λ (i : ℕ). Seen i left right ∷ []) agent;
        fresh = c.fresh;
      };
      slots = c.slots;
    } in
    FindsOnly-trans s b t [] (Seen s.agent left right ∷ []) x last

missed : (link : Link) (left right : ℕ) (b t : Seat PairsNote) (done : Bool) → done ≡ false → Confirms link left right b done t → Misses (Root 0) link b t
missed link left right b t done is c =
    subst (λ (v : Bool). MatchBool v (Puts b (event_of b (Look (Root 0) link) (Some (Entry (Seen b.agent left right))) ∷ []) t)
    (Misses (Root 0) link b t)) is c.puts

miss_only : (b t : Seat PairsNote) (link : Link) → Misses (Root 0) link b t → t.slots ≡ b.slots → t.fresh ≡ b.fresh → FindsOnly b [] t
miss_only b t link m slots fresh = record { finds = record { own = _; puts = m.puts; finding = (tt, tt); entries_are = refl; fresh = fresh }; slots = slots }

-- root 0 shows another link than the pair's
pub left_pair : (n : HeapNumbers) (s b t : Seat PairsNote) (link : Link) (left right : ℕ) (done : Bool) → done ≡ false → FindsOnly s [] b
    → Confirms link left right b done t → AllAllowed (PairsMay n) [] b.seen → AllAllowed (PairsMay n) [] t.seen → IsMovedSince n link s t
left_pair n s b t link left right done is x c all_b all_t =
    let m = missed link left right b t done is c in
    let y = miss_only b t link m c.slots c.fresh in
    let w = FindsOnly-trans s b t [] [] x y in
    let part_is = new_is s b t _ _ _ x.finds.puts m.puts w.finds.puts in
    record {
      only = w;
      moved = λ at.
          let count : others_moves s.agent w.finds.puts.part ≡ others_moves s.agent x.finds.puts.part + others_moves s.agent m.puts.part =
          ap (others_moves s.agent) part_is ∙ others-append s.agent x.finds.puts.part m.puts.part in
          elim (still_or_others n s b link x.finds.own x.finds.puts all_b x.finds.entries_are at) [
            | inl still ↦
                let moved =
                subst (λ (i : ℕ). 1 ≤ others_moves i m.puts.part) x.finds.puts.agent (missed_by_others n b t link m.found m.puts all_t m.other still) in
                omega (arith, count, moved)
            | inr moved ↦ omega (arith, count, moved)
          ];
    }

-- a turn that found null

pub null_seen : (n : HeapNumbers) (s a : Seat PairsNote) → RootNull n s a → a.fresh ≡ s.fresh → FindsOnly s [] a
null_seen n s a r fresh = record { finds = record { own = _; puts = r.puts; finding = (tt, tt); entries_are = refl; fresh = fresh }; slots = r.slots }

pub null_over : (n : HeapNumbers) (s a t : Seat PairsNote) (left right : ℕ) (done : Bool) → done ≡ false → RootNull n s a → a.fresh ≡ s.fresh
    → Confirms null left right a done t → AllAllowed (PairsMay n) [] a.seen → AllAllowed (PairsMay n) [] t.seen → ReadsOver 1 s t
null_over n s a t left right done is r fresh c all_a all_t =
    let m = missed null left right a t done is c in
    let y = miss_only a t null m c.slots c.fresh in
    let w = FindsOnly-trans s a t [] [] (null_seen n s a r fresh) y in
    record {
      only = w;
      moved = turn_moved s a t _ _ _ r.puts m.puts w.finds.puts (omega arith) (shown (heap_of n a) (Root 0) ≡ Some null)
          (found_or_others n s a null None [] [] r.puts all_a refl) (λ still. missed_by_others n a t null m.found m.puts all_t m.other still);
    }

-- one that found a pair

pub pair_seen : (n : HeapNumbers) (slot : ℕ) (s a : Seat PairsNote) (h : Hold) → HoldsPair n slot s h a → a.fresh ≡ s.fresh → OnlyLooks s [] a
pair_seen n slot s a h p fresh = record { own = _; puts = p.puts; finding = (tt, (tt, tt)); entries_are = refl; fresh = fresh }

pub moved_more : (s b t : Seat PairsNote) (k : ℕ) (xs ys zs : List (Event PairsNote)) (p : Puts s xs b) (q : Puts b ys t) (w : Puts s zs t)
    → k ≤ others_moves s.agent (from_own s.agent p.part) → k ≤ others_moves s.agent (from_own s.agent w.part)
moved_more s b t k xs ys zs p q w some =
    rw (new_is s b t xs ys zs p q w) (omega (arith, some, others_from_own-append s.agent p.part q.part))

module _ (n : HeapNumbers) (slot : ℕ) (s a b t : Seat PairsNote) (h : Hold) (free : IsFree s.slots slot) (p : HoldsPair n slot s h a)
    (fresh : a.fresh ≡ s.fresh) (all_a : AllAllowed (PairsMay n) [] a.seen) (all_b : AllAllowed (PairsMay n) [] b.seen)
    (untouched : (i : ℕ) → b.fresh ≡ Some i → IsUntouched b.agent (heap_of n b) i) (w : Releases b h t) where
  pair_linked : {es : List CellEntry} → FindsOnly a es b → IsLinkedNode (heap_of n b) (id_in b.slots h)
  pair_linked q =
      let (l, r, parts, has) = p.pair in
      let in_b = pair_puts n a b q.finds.own q.finds.puts all_b p.id l r parts has in
      let id_b : id_in b.slots h ≡ p.id = ap (λ z. id_in z h) q.slots ∙ slot_id s a slot p.id h free p.in_slot in
      subst (λ (i : ℕ). IsLinkedNode (heap_of n b) i) (sym id_b) (record { node = in_b.node; there = in_b.there; linked = in_b.linked })

  whole : (es : List CellEntry) → FindsOnly a es b → FindsOnly s es t
  whole es q =
      finds_released n s a b t h es (pair_seen n slot s a h p fresh) q untouched (pair_linked q) w
      (slot_released s a slot p.id h free p.in_slot b t q.slots w)

  pub turn_read : (got : Option (ℕ × ℕ)) → ReadsPair n p.id a got b → ReadsTurns 1 s got t
  turn_read None l =
      let o = whole [] l.only in
      let begun = pair_seen n slot s a h p fresh in
      let first = Finds-trans s a b [] [] begun l.only.finds in
      let moved = turn_moved s a b _ _ _ p.puts l.only.finds.puts first.puts (omega arith) (shown (heap_of n a) (Root 0) ≡ Some (link_to p.id))
      (found_or_others n s a (link_to p.id) None (event_of s (Look (Root 0) p.one) None ∷ []) [] p.puts all_a refl) l.moved in
      record { only = o; moved = moved_more s b t 1 _ _ _ first.puts w.puts o.finds.puts moved }
  turn_read (Some got) l =
      let agent = p.puts.agent in
      whole (Seen s.agent got.0 got.1 ∷ []) (subst (λ (i : ℕ). FindsOnly a (Seen i got.0 got.1 ∷ []) b) agent l)

-- turns that are over

pub over_none : (s : Seat PairsNote) → ReadsOver 0 s s
over_none s = record {
  only = record {
    finds = record {
      own = [];
      puts = record { part = []; is = sym (append-nil s.seen); agent = refl; own_is = refl };
      finding = tt;
      entries_are = refl;
      fresh = refl;
    };
    slots = refl;
  };
  moved = omega arith;
}

pub over_next : (k : ℕ) (s a t : Seat PairsNote) → ReadsOver k s a → ReadsTurns 1 a None t → ReadsOver (k + 1) s t
over_next k s a t x y =
    let w = FindsOnly-trans s a t [] [] x.only y.only in
    let agent = x.only.finds.puts.agent in
    let moved : 1 ≤ others_moves s.agent (from_own s.agent y.only.finds.puts.part) =
    subst (λ (i : ℕ). 1 ≤ others_moves i (from_own i y.only.finds.puts.part)) agent y.moved in
    record {
      only = w;
      moved = rw (new_is s a t _ _ _ x.only.finds.puts y.only.finds.puts w.finds.puts)
          (omega (arith, x.moved, moved, others_from_own-append s.agent x.only.finds.puts.part y.only.finds.puts.part));
    }

pub over_read : (k turns : ℕ) (s a t : Seat PairsNote) (got : ℕ × ℕ) → ReadsOver k s a → ReadsTurns 1 a (Some got) t → ReadsTurns turns s (Some got) t
over_read k turns s a t got x y =
    FindsOnly-trans s a t [] (Seen s.agent got.0 got.1 ∷ []) x.only
    (subst (λ (i : ℕ). FindsOnly a (Seen i got.0 got.1 ∷ []) t) x.only.finds.puts.agent y)

pub pair_slots : (n : HeapNumbers) (id : ℕ) (a b : Seat PairsNote) (got : Option (ℕ × ℕ)) → ReadsPair n id a got b → b.slots ≡ a.slots
pair_slots n id a b None l = l.only.slots
pair_slots n id a b (Some got) l = l.slots
