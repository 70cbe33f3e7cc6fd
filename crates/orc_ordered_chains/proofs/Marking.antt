-- Chains after a node was marked.
use Rattle.std.proofs.Common.{List, Option, Some, [], ap, false, inl, inr, subst, sym, true, ℕ, ◌∙◌, ◌∷◌, ◌≡◌, ◌≢◌}
use Rattle.orc_heap.specs.Allowed.{IsLinkedNode}
use Rattle.orc_heap.specs.Heap.{Heap, shown}
use Rattle.orc_heap.specs.declared.events.Link.{Link}
use Rattle.orc_heap.specs.declared.events.Place.{Place}
use Rattle.orc_heap.specs.declared.events.Place.TheVariants.{Next, Root}
use Rattle.orc_heap.proofs.SingleActs.{some_same}
use Rattle.orc_ordered_chains.specs.Chains.{AreChains, HasRank, IsLive, IsOnChain, IsPath, LeadsTo, MayMark, Order}
use Rattle.orc_ordered_chains.proofs.Acts.{IsMoved, next_same, place_either, rank_before, rank_linked, rank_stays}
use Rattle.orc_ordered_chains.proofs.Paths.{leads_same}
use Rattle.orc_ordered_chains.proofs.Still.{follows_stays, place_before}

module _ (o : Order) (h k : Heap) (x : ℕ) (from to : Link) (c : AreChains o h) (m : IsMoved h k (Next x) from to) (r : MayMark o h x from to) where
  target_is : to.to ≡ from.to
  target_is = ap (λ (l : Link). l.to) r.to_is

  marked : to.mark ≡ true
  marked = ap (λ (l : Link). l.mark) r.to_is

  pub mark_old : (id : ℕ) → IsLinkedNode k id → IsLinkedNode h id
  mark_old id l = elim (m.old id l) [
    | inl before ↦ before
    | inr is ↦
        let (a, own, f) = c.leads (Next x) id (r.rank, r.has_rank) (record { link = from; at = m.at; to_is = sym target_is ∙ is }) in
        rank_linked o h id a own
  ]

  had : (id rank : ℕ) → HasRank o k id rank → HasRank o h id rank
  had id rank own = rank_before o h k m.values id rank (mark_old id (rank_linked o k id rank own)) own

  leads_after : (q : Place) (t : Option ℕ) → LeadsTo h q t → LeadsTo k q t
  leads_after q t l = elim (place_either q (Next x)) [
    | inl same ↦ record {
      link = to;
      at = subst (λ (z : Place). shown k z ≡ Some to) (sym same) m.moved;
      to_is = target_is ∙ (ap (λ (y : Link). y.to) (some_same (sym m.at ∙ subst (λ (z : Place). shown h z ≡ Some l.link) same l.at)) ∙ l.to_is);
    }
    | inr ne ↦ leads_same h k q t (m.others q ne) l
  ]

  leads_before : (q : Place) (t : Option ℕ) → LeadsTo k q t → LeadsTo h q t
  leads_before q t l = elim (place_either q (Next x)) [
    | inl same ↦ record {
      link = from;
      at = subst (λ (z : Place). shown h z ≡ Some from) (sym same) m.at;
      to_is = sym target_is ∙ (ap (λ (y : Link). y.to) (some_same (sym m.moved ∙ subst (λ (z : Place). shown k z ≡ Some l.link) same l.at)) ∙ l.to_is);
    }
    | inr ne ↦ leads_same k h q t (sym (m.others q ne)) l
  ]

  path_after : (q : Place) (ids : List ℕ) (t : Option ℕ) → IsPath h q ids t → IsPath k q ids t
  path_after q [] t path = leads_after q t path
  path_after q (v ∷ vs) t path = (leads_after q (Some v) path.0, path_after (Next v) vs t path.1)

  pub chain_after : (root id : ℕ) → IsOnChain h root id → IsOnChain k root id
  chain_after root id on = record { over = on.over; path = path_after (Root root) on.over (Some id) on.path }

  path_before : (q : Place) (ids : List ℕ) (t : Option ℕ) → IsPath k q ids t → IsPath h q ids t
  path_before q [] t path = leads_before q t path
  path_before q (v ∷ vs) t path = (leads_before q (Some v) path.0, path_before (Next v) vs t path.1)

  pub chain_before : (root id : ℕ) → IsOnChain k root id → IsOnChain h root id
  chain_before root id on = record { over = on.over; path = path_before (Root root) on.over (Some id) on.path }

  -- an unmarked link after it is another node's, and was there before it
  pub mark_before : (q : Place) (link : Link) → shown k q ≡ Some link → link.mark ≡ false → (q ≢ Next x) × (shown h q ≡ Some link)
  mark_before q link at plain = elim (place_either q (Next x)) [
    | inl same ↦
        let is : link ≡ to = some_same (sym at ∙ subst (λ (z : Place). shown k z ≡ Some to) (sym same) m.moved) in
        let bad : false ≡ true = sym plain ∙ (ap (λ (l : Link). l.mark) is ∙ marked) in
        absurd (cc)
    | inr ne ↦ (ne, sym (m.others q ne) ∙ at)
  ]

  pub chains_mark : AreChains o k
  chains_mark = record {
    leads = λ q id l to_node.
        let (a, own, f) = c.leads q id (place_before o h k q had l) (leads_before q (Some id) to_node) in
        (a, rank_stays o h k m.values id a own, follows_stays o h k m.values q a f);
    kept = λ id a link own at plain.
        let (apart, before) = mark_before (Next id) link at plain in
        chain_after (o.root a) id (c.kept id a link (had id a own) before plain);
  }

  -- another node is live after it where it was live before it
  pub live_mark : (id rank : ℕ) → id ≢ x → IsLive o h id rank → IsLive o k id rank
  live_mark id rank ne y = record {
    has_rank = rank_stays o h k m.values id rank y.has_rank;
    link = y.link;
    at = m.others (Next id) (λ same. ne (next_same id x same)) ∙ y.at;
    unmarked = y.unmarked;
  }

  pub live_before_mark : (id rank : ℕ) → IsLive o k id rank → (id ≢ x) × IsLive o h id rank
  live_before_mark id rank y =
      let (apart, at) = mark_before (Next id) y.link y.at y.unmarked in
      ((λ same. apart (ap (λ (z : ℕ). Next z) same)), record { has_rank = had id rank y.has_rank; link = y.link; at = at; unmarked = y.unmarked })
