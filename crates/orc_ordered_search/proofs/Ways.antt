-- A search that nobody disturbs walks along the chain as it is.
use Rattle.std.proofs.Common.{List, None, Option, Some, [], arith, inl, inr, length, refl, subst, ℕ, ◌+◌, ◌<◌, ◌∷◌, ◌≡◌, ◌≤◌, ◌⊎◌}
use Rattle.orc_heap.proofs.SingleActs.{shown_link, some_same}
use Rattle.orc_heap.specs.Acts.{Fits, heap_after}
use Rattle.orc_heap.specs.Heap.{Heap, shown}
use Rattle.orc_heap.specs.Journals.{IsLawfulFrom}
use Rattle.orc_heap.specs.declared.events.Act.{Act}
use Rattle.orc_heap.specs.declared.events.Act.TheVariants.{Aim, AimSide, Fill, Give, Look, Miss, Move}
use Rattle.orc_heap.specs.declared.events.Event.{Event}
use Rattle.orc_heap.specs.declared.events.Link.{Link}
use Rattle.orc_heap.specs.declared.events.Place.{Place}
use Rattle.orc_heap.specs.declared.events.Place.TheVariants.{Next}
use Rattle.orc_ordered_chains.specs.Chains.{AreChains, HasRank, IsPath, LeadsTo, Order}
use Rattle.orc_ordered_search.specs.Ways.{AllGoOn, AreLoads, GoesOnFrom, IsAmong, IsLoad, IsPast, IsWay, Sees, SeesTo, Stops}
use Rattle.orc_ordered_chains.proofs.Acts.{rank_one}
use Rattle.orc_ordered_chains.proofs.Paths.{below, leads_one, not_marked}

-- where all events are loads, each Look found what the heap shows from the first to the last

pub load_still : (agent : ℕ) (act : Act) (h : Heap) → IsLoad act → heap_after agent act h ≡ h
load_still agent (Look place link) h l = refl
load_still agent (Miss place wanted found) h l = refl
load_still agent Give h l = absurd l
load_still agent (Fill id which value) h l = absurd l
load_still agent (Aim id to) h l = absurd l
load_still agent (AimSide id to) h l = absurd l
load_still agent (Move place from to) h l = absurd l

pub sees_shown : {N : Type 0} (h : Heap) (es : List (Event N)) (place : Place) (link : Link) → AreLoads es → IsLawfulFrom h es → Sees es place link
    → shown h place ≡ Some link
sees_shown h [] place link loads lawful seen = absurd seen
sees_shown h (e ∷ es) place link loads lawful (inl here) = subst (λ (a : Act). Fits e.agent a h) here lawful.0
sees_shown h (e ∷ es) place link loads lawful (inr later) =
    sees_shown h es place link loads.1 (subst (λ (k : Heap). IsLawfulFrom k es) (load_still e.agent e.act h loads.0) lawful.1) later

-- so the way that it found is a path

-- these nodes, the last one first, and then those
abbrev pub onto : List ℕ → List ℕ → List ℕ
onto [] ys = ys
onto (x ∷ xs) ys = onto xs (x ∷ ys)

pub length_onto : (xs ys : List ℕ) → length (onto xs ys) ≡ length xs + length ys
length_onto [] ys = omega arith
length_onto (x ∷ xs) ys = let k = length_onto xs (x ∷ ys) in omega (arith, k)

pub on_onto : (o : Order) (h : Heap) (wanted : ℕ) (xs ys : List ℕ) → AllGoOn o h wanted xs → AllGoOn o h wanted ys → AllGoOn o h wanted (onto xs ys)
on_onto o h wanted [] ys a b = b
on_onto o h wanted (x ∷ xs) ys a b = on_onto o h wanted xs (x ∷ ys) a.1 (a.0, b)

pub among_onto : (xs ys : List ℕ) (y : ℕ) → IsAmong (onto xs ys) y → IsAmong xs y ⊎ IsAmong ys y
among_onto [] ys y is = inr is
among_onto (x ∷ xs) ys y is = elim (among_onto xs (x ∷ ys) y is) [
  | inl before ↦ inl (inr before)
  | inr later ↦ elim later [ inl here ↦ inl (inl here) | inr rest ↦ inr rest ]
]

module _ {N : Type 0} (h : Heap) (es : List (Event N)) (shows : (place : Place) (link : Link) → Sees es place link → shown h place ≡ Some link) where
  leads : (place : Place) (to : Option ℕ) → SeesTo es place to → LeadsTo h place to
  leads place to (link, seen, is) = record { link = link; at = shows place link seen; to_is = is }

  way_onto : (start : Place) (ids : List ℕ) (v : ℕ) (ys : List ℕ) (to : Option ℕ) → IsWay es start ids (Some v) → IsPath h (Next v) ys to
      → IsPath h start (onto ids (v ∷ ys)) to
  way_onto start [] v ys to way path = (leads start (Some v) way, path)
  way_onto start (i ∷ is) v ys to way path = way_onto start is i (v ∷ ys) to way.1 (leads (Next i) (Some v) way.0, path)

  pub way_path : (start : Place) (ids : List ℕ) (to : Option ℕ) → IsWay es start ids to → IsPath h start (onto ids []) to
  way_path start [] to way = leads start to way
  way_path start (i ∷ is) to way = way_onto start is i [] to way.1 (leads (Next i) to way.0)

module _ (o : Order) (h : Heap) (wanted : ℕ) where
  stops_not_on : (id : ℕ) → Stops o h wanted id → GoesOnFrom o h wanted id → ⊥
  stops_not_on id s (inl (link, own, mark)) = not_marked h id s.link link s.at s.unmarked (shown_link h id link own) mark
  stops_not_on id s (inr (rank, own, low)) = omega (arith, s.high, low, rank_one o h id rank s.rank own s.has_rank)

  -- a search comes by no more nodes than stand before the first unmarked node at or past the rank

  pub few_before : (p : Place) (vs zs : List ℕ) (to : Option ℕ) (y : ℕ) → AllGoOn o h wanted vs → IsPath h p vs to → IsPath h p zs (Some y) → Stops o h wanted y
      → length vs ≤ length zs
  few_before p [] zs to y on path to_y stops = omega arith
  few_before p (a ∷ vs) [] to y on path to_y stops =
      let same : a ≡ y = some_same (leads_one h p (Some a) (Some y) path.0 to_y) in
      absurd (stops_not_on y stops (subst (λ (z : ℕ). GoesOnFrom o h wanted z) same on.0))
  few_before p (a ∷ vs) (b ∷ zs) to y on path to_y stops =
      let same : a ≡ b = some_same (leads_one h p (Some a) (Some b) path.0 to_y.0) in
      let k = few_before (Next b) vs zs to y on.1 (subst (λ (z : ℕ). IsPath h (Next z) vs to) same path.1) to_y.1 stops in
      omega (arith, k)

  -- nor more than there are, where there is none such

  pub few_in_all : (p : Place) (vs zs : List ℕ) (to : Option ℕ) → IsPath h p vs to → IsPath h p zs None → length vs ≤ length zs
  few_in_all p [] zs to path to_end = omega arith
  few_in_all p (a ∷ vs) [] to path to_end = let bad : Some a ≡ None = leads_one h p (Some a) None path.0 to_end in cc
  few_in_all p (a ∷ vs) (b ∷ zs) to path to_end =
      let same : a ≡ b = some_same (leads_one h p (Some a) (Some b) path.0 to_end.0) in
      let k = few_in_all (Next b) vs zs to (subst (λ (z : ℕ). IsPath h (Next z) vs to) same path.1) to_end.1 in
      omega (arith, k)

  -- it comes by each node with a lower rank on its way

  pub comes_by : AreChains o h → (p : Place) (zs vs : List ℕ) (y rank : ℕ) (to : Option ℕ) → HasRank o h y rank → rank < wanted → IsPath h p zs (Some y)
      → IsPath h p vs to → IsPast o h wanted to → IsAmong vs y
  comes_by c p [] [] y rank to own low path way past =
      let (high, has, up) = subst (λ (t : Option ℕ). IsPast o h wanted t) (leads_one h p to (Some y) way path) past in
      absurd (omega (arith, low, up, rank_one o h y high rank has own))
  comes_by c p [] (v ∷ vs) y rank to own low path way past = inl (some_same (leads_one h p (Some v) (Some y) way.0 path))
  comes_by c p (z ∷ zs) [] y rank to own low path way past =
      let (high, has, up) = subst (λ (t : Option ℕ). IsPast o h wanted t) (leads_one h p to (Some z) way path.0) past in
      let less = below o h c z zs y high rank has own path.1 in
      absurd (omega (arith, less, up, low))
  comes_by c p (z ∷ zs) (v ∷ vs) y rank to own low path way past =
      let same : z ≡ v = some_same (leads_one h p (Some z) (Some v) path.0 way.0) in
      inr (comes_by c (Next v) zs vs y rank to own low (subst (λ (x : ℕ). IsPath h (Next x) zs (Some y)) same path.1) way.1 past)
