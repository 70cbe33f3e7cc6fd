-- Nodes, anchors and the size after each kind of event.
use Rattle.std.proofs.Common.{None, Option, Some, ap, arith, false, inl, inr, refl, subst, suc, sym, zero, ℕ, ◌*◌, ◌<◌, ◌∙◌, ◌≡◌, ◌≢◌, ◌≤◌, ◌⊎◌}
use Rattle.std.specs.List.{slice_get}
use Rattle.orc_heap.proofs.SingleActs.{some_same}
use Rattle.orc_heap.specs.Allowed.{HasNullSide, IsLinkedNode}
use Rattle.orc_heap.specs.Heap.{Heap, null, shown}
use Rattle.orc_heap.specs.declared.events.Link.{Link}
use Rattle.orc_heap.specs.declared.events.Place.{Place}
use Rattle.orc_heap.specs.declared.events.Place.TheVariants.{Next, Root, Side}
use Rattle.orc_ordered_chains.specs.Chains.{IsChainPlace, LeadsTo}
use Rattle.orc_ordered_chains.proofs.Acts.{IsLinkedIn, IsMoved, IsUnmoved, KeepsValues, chain_place_first, next_same, place_either, rank_before, rank_linked, sides_unmoved}
use Rattle.orc_ordered_chains.proofs.Paths.{leads_same, moved_target}
use Rattle.orc_ordered_chains.proofs.Still.{IsStill}
use Rattle.orc_split_rule.specs.SplitOrder.{split_order}
use Rattle.orc_split_rule.specs.SplitDiscipline.{AreBuckets, HasKey, HasValues, IsDummy, IsOfKind, IsSize, IsSizeNode, MayAnchor, MayGrow, first_in, size_at}
use Rattle.orc_split_rule.specs.Laws.Values.{root_apart, size_apart, value_before, value_linked, value_new, value_second, value_stays}
use native.Mathlib.Nat.{pow-suc}

pub kind_stays : (h k : Heap) → KeepsValues h k → (id : ℕ) → IsOfKind h id → IsOfKind k id
kind_stays h k v id is = elim is [
  | inl key ↦ inl (key.0, value_stays h k v id key.0 1 key.1)
  | inr other ↦ elim other [
    | inl dummy ↦ inr (inl (dummy.0, value_stays h k v id dummy.0 0 dummy.1))
    | inr size ↦ inr (inr (size.0, value_stays h k v id size.0 2 size.1))
  ]
]

-- an act that is no Move
pub buckets_unmoved : (most : ℕ) (h k : Heap) → AreBuckets most h → IsUnmoved h k → AreBuckets most k
buckets_unmoved most h k b u = record {
  kinds = λ id l. kind_stays h k u.values id (b.kinds id (u.old id l));
  plain_roots = λ r link at. b.plain_roots r link (sym (u.shows (Root r) tt) ∙ at);
  plain_dummies = λ id bucket link dummy at.
      let l = u.old id (value_linked k id bucket 0 dummy) in
      b.plain_dummies id bucket link (value_before h k u.values id bucket 0 l dummy) (sym (u.shows (Next id) l) ∙ at);
  anchors = λ bucket id low high leads.
      value_stays h k u.values id bucket 0 (b.anchors bucket id low high (leads_same k h (Root bucket) (Some id) (sym (u.shows (Root bucket) tt)) leads));
  size = λ id some leads.
      let (size, node, is) = b.size id some (leads_same k h (Root most) (Some id) (sym (u.shows (Root most) tt)) leads) in
      (size, value_stays h k u.values id size 2 node, is);
  size_links = λ id size node.
      let l = u.old id (value_linked k id size 2 node) in
      u.shows (Next id) l ∙ b.size_links id size (value_before h k u.values id size 2 l node);
  sides = sides_unmoved h k u b.sides;
}

-- a key node or a dummy that was linked just now, with an unmarked link, and a null second link if it has one
pub record IsLaid (k : Heap) (id : ℕ) : Type 0 where
  pub first : ℕ
  pub second : ℕ
  pub values : HasValues k id first second
  pub low : second < 2
  pub link : Link
  pub at : shown k (Next id) ≡ Some link
  pub plain : link.mark ≡ false
  pub side : HasNullSide k id

laid_kind : (k : Heap) (id : ℕ) → IsLaid k id → IsOfKind k id
laid_kind k id l = cases l.second l.values l.low
  where
    cases : (second : ℕ) → HasValues k id l.first second → second < 2 → IsOfKind k id
    cases zero v low = inr (inl (l.first, v))
    cases (suc zero) v low = inl (l.first, v)
    cases (suc (suc second)) v low = absurd (omega (arith, low))

-- a Move of a place of the chain
module _ (most : ℕ) (h k : Heap) (p : Place) (from to : Link) (b : AreBuckets most h) (m : IsMoved h k p from to) (on : IsChainPlace split_order h p)
    (news : (id : ℕ) → IsLinkedNode k id → IsLinkedNode h id ⊎ IsLaid k id)
    (marks : (to.mark ≡ false) ⊎ ((x : ℕ) × (key : ℕ) × (p ≡ Next x) × HasKey h x key)) where
  moved_link : (q : Place) (link : Link) → q ≡ p → shown k q ≡ Some link → link ≡ to
  moved_link q link same at = some_same (sym at ∙ subst (λ (z : Place). shown k z ≡ Some to) (sym same) m.moved)

  roots_same : (root : ℕ) (to : Option ℕ) → 1 ≤ root → LeadsTo k (Root root) to → LeadsTo h (Root root) to
  roots_same root to low leads = leads_same k h (Root root) to (sym (m.others (Root root) (root_apart h root p low on))) leads

  pub buckets_moved : AreBuckets most k
  buckets_moved = record {
    kinds = λ id l. elim (news id l) [ inl before ↦ kind_stays h k m.values id (b.kinds id before) | inr laid ↦ laid_kind k id laid ];
    plain_roots = λ r link at. elim (place_either (Root r) p) [
      | inl same ↦ elim marks [
        | inl plain ↦ ap (λ (l : Link). l.mark) (moved_link (Root r) link same at) ∙ plain
        | inr bad ↦ (let no : Root r ≡ Next bad.0 = same ∙ bad.2 in absurd (cc))
      ]
      | inr ne ↦ b.plain_roots r link (sym (m.others (Root r) ne) ∙ at)
    ];
    plain_dummies = λ id bucket link dummy at. elim (news id (value_linked k id bucket 0 dummy)) [
      | inl before ↦
          let was = value_before h k m.values id bucket 0 before dummy in
          elim (place_either (Next id) p) [
            | inl same ↦ elim marks [
              | inl plain ↦ ap (λ (l : Link). l.mark) (moved_link (Next id) link same at) ∙ plain
              | inr bad ↦
                  let is : id ≡ bad.0 = next_same id bad.0 (same ∙ bad.2) in
                  let no : 0 ≡ 1 = value_second h bad.0 bucket 0 bad.1 1 (subst (λ (z : ℕ). IsDummy h z bucket) is was) bad.3 in
                  absurd (omega (arith, no))
            ]
            | inr ne ↦ b.plain_dummies id bucket link was (sym (m.others (Next id) ne) ∙ at)
          ]
      | inr laid ↦ ap (λ (l : Link). l.mark) (some_same (sym at ∙ laid.at)) ∙ laid.plain
    ];
    anchors = λ bucket id low high leads.
        value_stays h k m.values id bucket 0 (b.anchors bucket id low high (roots_same bucket (Some id) low leads));
    size = λ id some leads.
        let (size, node, is) = b.size id some (roots_same most (Some id) some leads) in
        (size, value_stays h k m.values id size 2 node, is);
    size_links = λ id size node. elim (news id (value_linked k id size 2 node)) [
      | inl before ↦
          let was = value_before h k m.values id size 2 before node in
          m.others (Next id) (λ same.
          let (rank, own) = subst (λ (z : Place). IsChainPlace split_order h z) (sym same) on in
          size_apart h id size rank was own) ∙ b.size_links id size was
      | inr laid ↦ absurd (omega (arith, laid.low, value_second k id size 2 laid.first laid.second node laid.values))
    ];
    sides = λ id l link at. elim (news id l) [
      | inl before ↦ b.sides id before link (sym (m.others (Side id) (chain_place_first split_order h p id on)) ∙ at)
      | inr laid ↦ laid.side link at
    ];
  }

-- an Anchor
module _ (most : ℕ) (h k : Heap) (root : ℕ) (from to : Link) (b : AreBuckets most h) (m : IsMoved h k (Root root) from to) (a : MayAnchor most h root from to)
  where
    pub anchor_old : (id : ℕ) → IsLinkedNode k id → IsLinkedNode h id
    anchor_old id l = elim (m.old id l) [
      | inl before ↦ before
      | inr is ↦
          let one : a.id ≡ id = some_same (sym (ap (λ (x : Link). x.to) a.to_is) ∙ is) in
          subst (λ (z : ℕ). IsLinkedNode h z) one (value_linked h a.id root 0 a.dummy)
    ]

    pub anchor_still : IsStill split_order h k
    anchor_still = record {
      shows = λ p on. m.others p (λ same. root_apart h root p a.low on (sym same));
      values = m.values;
      before = λ id rank r. rank_before split_order h k m.values id rank (anchor_old id (rank_linked split_order k id rank r)) r;
    }

    pub buckets_anchor : AreBuckets most k
    buckets_anchor = record {
      kinds = λ id l. kind_stays h k m.values id (b.kinds id (anchor_old id l));
      plain_roots = λ r link at. elim (place_either (Root r) (Root root)) [
        | inl same ↦
            ap (λ (l : Link). l.mark) (some_same (sym at ∙ subst (λ (z : Place). shown k z ≡ Some to) (sym same) m.moved))
            ∙ ap (λ (l : Link). l.mark) a.to_is
        | inr ne ↦ b.plain_roots r link (sym (m.others (Root r) ne) ∙ at)
      ];
      plain_dummies = λ id bucket link dummy at.
          b.plain_dummies id bucket link (value_before h k m.values id bucket 0 (anchor_old id (value_linked k id bucket 0 dummy)) dummy)
          (sym (m.others (Next id) (λ same. cc)) ∙ at);
      anchors = λ bucket id low high leads. elim (place_either (Root bucket) (Root root)) [
        | inl same ↦
            let is : bucket ≡ root = cc in
            let here : LeadsTo k (Root root) (Some id) = subst (λ (z : Place). LeadsTo k z (Some id)) same leads in
            let one : a.id ≡ id = moved_target h k (Root root) from to a.id id m a.to_is here in
            subst (λ (z : ℕ). IsDummy k id z) (sym is) (subst (λ (z : ℕ). IsDummy k z root) one (value_stays h k m.values a.id root 0 a.dummy))
        | inr ne ↦
            value_stays h k m.values id bucket 0 (b.anchors bucket id low high (leads_same k h (Root bucket) (Some id) (sym (m.others (Root bucket) ne)) leads))
      ];
      size = λ id some leads.
          let ne : Root most ≢ Root root = λ same. (let is : most ≡ root = cc in omega (arith, a.high, is)) in
          let (size, node, is) = b.size id some (leads_same k h (Root most) (Some id) (sym (m.others (Root most) ne)) leads) in
          (size, value_stays h k m.values id size 2 node, is);
      size_links = λ id size node.
          m.others (Next id) (λ same. cc)
          ∙ b.size_links id size (value_before h k m.values id size 2 (anchor_old id (value_linked k id size 2 node)) node);
      sides = λ id l link at. b.sides id (anchor_old id l) link (sym (m.others (Side id) (λ same. cc)) ∙ at);
    }

-- the size is a power of two, of at most so many buckets
pub size_is : (most : ℕ) (h : Heap) (from : Link) → 1 ≤ most → AreBuckets most h → shown h (Root most) ≡ Some from → IsSize most (size_at h from.to)
size_is most h from some b at = cases from.to refl
  where
    cases : (to : Option ℕ) → from.to ≡ to → IsSize most (size_at h to)
    cases None is = (some, 0, refl)
    cases (Some id) is =
        let (size, node, fits) = b.size id some (record { link = from; at = at; to_is = is }) in
        let first : first_in (slice_get h.nodes id) ≡ size = rw (node.there, node.first_is) refl in
        subst (λ (z : ℕ). IsSize most z) (sym first) fits

-- a Grow
module _ (most : ℕ) (h k : Heap) (from to : Link) (b : AreBuckets most h) (m : IsMoved h k (Root most) from to) (g : MayGrow most h from to)
    (new : IsLinkedIn h k g.id g.node) where
  twice : ℕ
  twice = 2 * size_at h from.to

  new_size : IsSizeNode k g.id twice
  unfolding twice
  new_size = value_new h k g.id g.node twice 2 new g.first_is g.second_is

  grow_old : (id : ℕ) → IsLinkedNode k id → IsLinkedNode h id ⊎ (g.id ≡ id)
  grow_old id l = elim (m.old id l) [
    | inl before ↦ inl before
    | inr is ↦ inr (some_same (sym (ap (λ (x : Link). x.to) g.to_is) ∙ is))
  ]

  pub grow_still : IsStill split_order h k
  grow_still = record {
    shows = λ p on. m.others p (λ same. root_apart h most p g.some on (sym same));
    values = m.values;
    before = λ id rank r. elim (grow_old id (rank_linked split_order k id rank r)) [
      | inl before ↦ rank_before split_order h k m.values id rank before r
      | inr is ↦ absurd (size_apart k id twice rank (subst (λ (z : ℕ). IsSizeNode k z twice) is new_size) r)
    ];
  }

  pub buckets_grow : AreBuckets most k
  unfolding twice
  buckets_grow = record {
    kinds = λ id l. elim (grow_old id l) [
      | inl before ↦ kind_stays h k m.values id (b.kinds id before)
      | inr is ↦ inr (inr (twice, subst (λ (z : ℕ). IsSizeNode k z twice) is new_size))
    ];
    plain_roots = λ r link at. elim (place_either (Root r) (Root most)) [
      | inl same ↦
          ap (λ (l : Link). l.mark) (some_same (sym at ∙ subst (λ (z : Place). shown k z ≡ Some to) (sym same) m.moved)) ∙ ap (λ (l : Link). l.mark) g.to_is
      | inr ne ↦ b.plain_roots r link (sym (m.others (Root r) ne) ∙ at)
    ];
    plain_dummies = λ id bucket link dummy at. elim (grow_old id (value_linked k id bucket 0 dummy)) [
      | inl before ↦ b.plain_dummies id bucket link (value_before h k m.values id bucket 0 before dummy) (sym (m.others (Next id) (λ same. cc)) ∙ at)
      | inr is ↦ absurd (omega (arith, value_second k id bucket 0 twice 2 dummy (subst (λ (z : ℕ). IsSizeNode k z twice) is new_size)))
    ];
    anchors = λ bucket id low high leads.
        let ne : Root bucket ≢ Root most = λ same. (let is : bucket ≡ most = cc in omega (arith, high, is)) in
        value_stays h k m.values id bucket 0 (b.anchors bucket id low high (leads_same k h (Root bucket) (Some id) (sym (m.others (Root bucket) ne)) leads));
    size = λ id some leads.
        let one : g.id ≡ id = moved_target h k (Root most) from to g.id id m g.to_is leads in
        let (low, i, is) = size_is most h from g.some b m.at in
        (twice, subst (λ (z : ℕ). IsSizeNode k z twice) one new_size, (g.most_is, suc i, omega (arith, is, pow-suc 2 i)));
    size_links = λ id size node. elim (grow_old id (value_linked k id size 2 node)) [
      | inl before ↦ m.others (Next id) (λ same. cc) ∙ b.size_links id size (value_before h k m.values id size 2 before node)
      | inr is ↦ subst (λ (z : ℕ). shown k (Next z) ≡ Some null) is (new.shows ∙ ap (λ (x : Link). Some x) g.own_null)
    ];
    sides = λ id l link at.
        let was : shown h (Side id) ≡ Some link = sym (m.others (Side id) (λ same. cc)) ∙ at in
        elim (grow_old id l) [
          | inl before ↦ b.sides id before link was
          | inr is ↦ g.side_null link (subst (λ (z : ℕ). shown h (Side z) ≡ Some link) (sym is) was)
        ];
  }
