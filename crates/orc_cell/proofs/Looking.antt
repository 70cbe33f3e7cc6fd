-- What a look at root 0, and one at a link of a pair, find.
use Rattle.std.proofs.Common.{Bool, List, None, Option, Some, [], ap, inl, inr, refl, subst, sym, ℕ, ◌++◌, ◌∙◌, ◌∷◌, ◌≡◌, ◌≢◌, ◌⊎◌}
use Rattle.std.specs.List.{slice_set}
use Rattle.orc_heap.proofs.ByAnswer.{LookedHeld, LookedNull}
use Rattle.orc_heap.proofs.Calls.{Puts-stood}
use Rattle.orc_heap.proofs.Moments.{seen_is, since}
use Rattle.orc_heap.proofs.Moved.{shown_node}
use Rattle.orc_pairs_rule.proofs.SecondLinks.{side_shows}
use Rattle.orc_heap.proofs.Pieces.{InSlot}
use Rattle.orc_heap.proofs.SingleActs.{some_same}
use Rattle.orc_heap.specs.Allowed.{AllAllowed}
use Rattle.orc_heap.specs.Calls.{event_of}
use Rattle.orc_heap.specs.Heap.{HeapNumbers, link_to, null, shown}
use Rattle.orc_heap.specs.Journals.{run_heap}
use Rattle.orc_heap.specs.OwnEvents.{Puts}
use Rattle.orc_heap.specs.Seats.{Seat, heap_of}
use Rattle.orc_heap.specs.Slots.{Hold}
use Rattle.orc_heap.specs.declared.events.Act.TheVariants.{Look}
use Rattle.orc_heap.specs.declared.events.Event.{Event}
use Rattle.orc_heap.specs.declared.events.Link.{Link}
use Rattle.orc_heap.specs.declared.events.Place.{Place}
use Rattle.orc_heap.specs.declared.events.Place.TheVariants.{Next, Root, Side}
use Rattle.orc_pairs_rule.proofs.Later.{holds_later, pair_later}
use Rattle.orc_pairs_rule.specs.declared.pairs.PairsNote.{PairsNote}
use Rattle.orc_pairs_rule.specs.CellHistory.{Parts}
use Rattle.orc_pairs_rule.specs.PairsDiscipline.{HasPair, PairsMay, parts_of}
use Rattle.orc_cell.specs.Publishes.{half_at}
use Rattle.orc_cell.specs.Turns.{HoldsPart, IsPairOf, LeadsToPart}
use Rattle.orc_cell.specs.declared.publish.Half.{Half}
use Rattle.orc_cell.specs.declared.publish.Half.TheVariants.{Left, Right}
use Rattle.orc_cell.proofs.Pieces.{Known, place_later}

-- a look at a link of a pair finds its part
pub look_leads : (n : HeapNumbers) (s t : Seat PairsNote) (place : Place) (link : Link) (noted : Option PairsNote) (own rest : List (Event PairsNote))
    → (k : LeadsToPart (heap_of n s) place) → Puts s (own ++ event_of s (Look place link) noted ∷ rest) t → AllAllowed (PairsMay n) [] t.seen
    → link ≡ link_to k.part
look_leads n s t place link noted own rest k p all =
    let e : Event PairsNote = event_of s (Look place link) noted in
    let m = Puts-stood (PairsMay n) s t own e rest p all in
    some_same (sym m.here.fits ∙ place_later n k.id place (link_to k.part) s.seen m.before k.fixed k.linked k.leads m.first)

pub part_not_null : (n : HeapNumbers) (s t : Seat PairsNote) (place : Place) (mark : Bool) → LeadsToPart (heap_of n s) place
    → AllAllowed (PairsMay n) [] t.seen → LookedNull place mark s t → ⊥
part_not_null n s t place mark k all l =
    let is = look_leads n s t place (record { to = None; mark = mark }) None [] [] k l.puts all in
    let bad : None ≡ Some k.part = ap (λ (x : Link). x.to) is in
    cc

pub part_not_moved : (n : HeapNumbers) (s t : Seat PairsNote) (place : Place) (one two : Link) → LeadsToPart (heap_of n s) place
    → AllAllowed (PairsMay n) [] t.seen → one ≢ two → Puts s (event_of s (Look place one) None ∷ event_of s (Look place two) None ∷ []) t → ⊥
part_not_moved n s t place one two k all other p =
    let first = look_leads n s t place one None [] (event_of s (Look place two) None ∷ []) k p all in
    let second = look_leads n s t place two None (event_of s (Look place one) None ∷ []) [] k p all in
    other (first ∙ sym second)

pub part_held : (n : HeapNumbers) (s t : Seat PairsNote) (place : Place) (slot : ℕ) (mark : Bool) (h : Hold) → LeadsToPart (heap_of n s) place
    → AllAllowed (PairsMay n) [] t.seen → t.fresh ≡ s.fresh → LookedHeld place slot mark h s t → HoldsPart n place slot s h t
part_held n s t place slot mark h k all fresh l =
    let is = look_leads n s t place (record { to = Some l.id; mark = mark }) None (event_of s (Look place l.one) None ∷ []) [] k l.puts all in
    let id_is : l.id ≡ k.part = some_same (ap (λ (x : Link). x.to) is) in
    record {
      id = l.id;
      in_slot = record { at = l.at; slots = l.slots };
      leads = k.leads ∙ ap (λ (i : ℕ). Some (link_to i)) (sym id_is);
      finds = record { own = _; puts = l.puts; finding = (tt, (tt, tt)); entries_are = refl; fresh = fresh };
    }

-- the links of a pair lead to its parts
pub left_shows : (n : HeapNumbers) (es : List (Event PairsNote)) (id left right : ℕ) (parts : Parts) → HasPair (run_heap n es) id left right parts
    → shown (run_heap n es) (Next id) ≡ Some (link_to left)
left_shows n es id left right parts has = shown_node (run_heap n es) id has.node has.there ∙ ap (λ (l : Link). Some l) has.pair.link_is

pub right_shows : (n : HeapNumbers) (es : List (Event PairsNote)) (id left right : ℕ) (parts : Parts) → n.links ≡ 2
    → HasPair (run_heap n es) id left right parts → shown (run_heap n es) (Side id) ≡ Some (link_to right)
right_shows n es id left right parts two has =
    side_shows n es id has.node two has.there ∙ ap (λ (l : Link). Some l) has.pair.side_is

pub left_leads : (n : HeapNumbers) (es : List (Event PairsNote)) (id : ℕ) → IsPairOf (run_heap n es) id → LeadsToPart (run_heap n es) (Next id)
left_leads n es id (left, right, parts, has) = record {
  id = id;
  linked = record { node = has.node; there = has.there; linked = has.linked };
  fixed = inl refl;
  part = left;
  leads = left_shows n es id left right parts has;
  value = parts.left;
  has = has.pair.left_part;
}

pub right_leads : (n : HeapNumbers) (es : List (Event PairsNote)) (id : ℕ) → n.links ≡ 2 → IsPairOf (run_heap n es) id
    → LeadsToPart (run_heap n es) (Side id)
right_leads n es id two (left, right, parts, has) = record {
  id = id;
  linked = record { node = has.node; there = has.there; linked = has.linked };
  fixed = inr refl;
  part = right;
  leads = right_shows n es id left right parts two has;
  value = parts.right;
  has = has.pair.right_part;
}

pub part_leads : (n : HeapNumbers) (es : List (Event PairsNote)) (id : ℕ) (half : Half) → n.links ≡ 2 → IsPairOf (run_heap n es) id
    → LeadsToPart (run_heap n es) (half_at half id)
part_leads n es id Left two pair = left_leads n es id pair
part_leads n es id Right two pair = right_leads n es id two pair

-- a look at root 0 found null, or a pair

pub record FindsPair (n : HeapNumbers) (link : Link) (t : Seat PairsNote) : Type 0 where
  pub id : ℕ
  pub is : link ≡ link_to id
  pub pair : IsPairOf (heap_of n t) id

pub root_found : (n : HeapNumbers) (s t : Seat PairsNote) (link : Link) (noted : Option PairsNote) (own rest : List (Event PairsNote)) → Known n s.seen
    → Puts s (own ++ event_of s (Look (Root 0) link) noted ∷ rest) t → AllAllowed (PairsMay n) [] t.seen → (link ≡ null) ⊎ FindsPair n link t
root_found n s t link noted own rest k p all =
    let e : Event PairsNote = event_of s (Look (Root 0) link) noted in
    let m = Puts-stood (PairsMay n) s t own e rest p all in
    let seen = s.seen ++ m.before in
    let holds = holds_later n s.seen m.before m.first k.holds in
    elim holds.shows [
      | inl c ↦ inl (some_same (sym m.here.fits ∙ c.0))
      | inr x ↦
          let later = pair_later n seen (e ∷ m.later) (since m) x.id x.left x.right (parts_of seen) x.has in
          inr (record {
            id = x.id;
            is = some_same (sym m.here.fits ∙ x.root_is);
            pair = (
              x.left,
              x.right,
              parts_of seen,
              subst (λ es. HasPair (run_heap n es) x.id x.left x.right (parts_of seen)) (sym (p.is ∙ seen_is m)) later,
            );
          })
    ]

-- a look of root 0 that found null
pub record RootNull (n : HeapNumbers) (s t : Seat PairsNote) : Type 0 where
  pub slots : t.slots ≡ s.slots
  pub puts : Puts s (event_of s (Look (Root 0) null) None ∷ []) t

pub root_null : (n : HeapNumbers) (s t : Seat PairsNote) (mark : Bool) → Known n s.seen → AllAllowed (PairsMay n) [] t.seen → LookedNull (Root 0) mark s t
    → RootNull n s t
root_null n s t mark k all l =
    let link : Link = record { to = None; mark = mark } in
    elim (root_found n s t link None [] [] k l.puts all) [
      | inl is ↦ record { slots = l.slots; puts = subst (λ (x : Link). Puts s (event_of s (Look (Root 0) x) None ∷ []) t) is l.puts }
      | inr f ↦ let bad : None ≡ Some f.id = ap (λ (x : Link). x.to) f.is in absurd (cc)
    ]

-- one that holds the pair
pub record HoldsPair (n : HeapNumbers) (slot : ℕ) (s : Seat PairsNote) (h : Hold) (t : Seat PairsNote) : Type 0 where
  pub id : ℕ
  pub one : Link
  pub in_slot : InSlot s slot id h t
  pub pair : IsPairOf (heap_of n t) id
  pub puts : Puts s (event_of s (Look (Root 0) one) None ∷ event_of s (Look (Root 0) (link_to id)) None ∷ []) t

pub root_held : (n : HeapNumbers) (s t : Seat PairsNote) (slot : ℕ) (mark : Bool) (h : Hold) → Known n s.seen → AllAllowed (PairsMay n) [] t.seen
    → LookedHeld (Root 0) slot mark h s t → HoldsPair n slot s h t
root_held n s t slot mark h k all l =
    let link : Link = record { to = Some l.id; mark = mark } in
    elim (root_found n s t link None (event_of s (Look (Root 0) l.one) None ∷ []) [] k l.puts all) [
      | inl is ↦ let bad : Some l.id ≡ None = ap (λ (x : Link). x.to) is in absurd (cc)
      | inr f ↦
          let id_is : l.id ≡ f.id = some_same (ap (λ (x : Link). x.to) f.is) in
          record {
            id = f.id;
            one = l.one;
            in_slot = record { at = l.at; slots = subst (λ (i : ℕ). t.slots ≡ slice_set s.slots slot (Some (record { row = h.row; id = i }))) id_is l.slots };
            pair = f.pair;
            puts = subst (λ (x : Link). Puts s (event_of s (Look (Root 0) l.one) None ∷ event_of s (Look (Root 0) x) None ∷ []) t) f.is l.puts;
          }
    ]
