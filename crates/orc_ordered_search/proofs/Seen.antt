-- What Looks among events found.
use Rattle.std.proofs.Common.{List, None, Option, Some, [], arith, filter, inl, inr, length, length-append, not, refl, subst, true, ℕ, ◌++◌, ◌+◌, ◌==◌, ◌∷◌, ◌≡◌, ◌≤◌}
use Rattle.std.proofs.lemmas.Bool.{eq-eqb, eqb-true, or_cases, or_right}
use Rattle.orc_heap.specs.Heap.{Heap}
use Rattle.orc_heap.specs.Seats.{Seat, heap_of}
use Rattle.orc_heap.specs.Slots.{Hold}
use Rattle.orc_heap.specs.declared.events.Event.{Event}
use Rattle.orc_heap.specs.declared.events.Link.{Link}
use Rattle.orc_heap.specs.declared.events.Place.{Place}
use Rattle.orc_heap.specs.declared.events.Place.TheVariants.{Next}
use Rattle.orc_history.specs.SetHistory.{has}
use Rattle.orc_ordered_chains.proofs.Acts.{rank_one}
use Rattle.orc_ordered_chains.proofs.Keys.{filter_less, has_kept}
use Rattle.orc_ordered_chains.specs.Chains.{HasRank, Order, link_over}
use Rattle.orc_ordered_search.specs.Ways.{AreLoads, CoversLooks, EndsRun, IsFew, IsWay, RanksFall, Sees, SeesTo}
use Rattle.orc_ordered_search.specs.Reading.{Reading}
use Rattle.orc_ordered_search.specs.Searches.{Counts, FindsAbsent, FindsPresent, IsUncounted, SeesRun, Visits, node_of}

module _ {N : Type 0} where
  pub sees_left : (es fs : List (Event N)) (place : Place) (link : Link) → Sees es place link → Sees (es ++ fs) place link
  sees_left [] fs place link s = absurd s
  sees_left (e ∷ es) fs place link (inl here) = inl here
  sees_left (e ∷ es) fs place link (inr later) = inr (sees_left es fs place link later)

  pub sees_right : (es fs : List (Event N)) (place : Place) (link : Link) → Sees fs place link → Sees (es ++ fs) place link
  sees_right [] fs place link s = s
  sees_right (e ∷ es) fs place link s = inr (sees_right es fs place link s)

  pub sees_run_left : (es fs : List (Event N)) (link : Link) (over : List ℕ) (to : Option ℕ) → SeesRun es link over to → SeesRun (es ++ fs) link over to
  sees_run_left es fs link [] to r = r
  sees_run_left es fs link (id ∷ ids) to (is, next, seen, mark, rest) =
      (is, next, sees_left es fs (Next id) next seen, mark, sees_run_left es fs next ids to rest)

  pub sees_run_right : (es fs : List (Event N)) (link : Link) (over : List ℕ) (to : Option ℕ) → SeesRun fs link over to → SeesRun (es ++ fs) link over to
  sees_run_right es fs link [] to r = r
  sees_run_right es fs link (id ∷ ids) to (is, next, seen, mark, rest) =
      (is, next, sees_right es fs (Next id) next seen, mark, sees_run_right es fs next ids to rest)

  -- where a run ends
  pub ends_left : (es fs : List (Event N)) (to : Option ℕ) → EndsRun es to → EndsRun (es ++ fs) to
  ends_left es fs None e = tt
  ends_left es fs (Some id) (link, seen, plain) = (link, sees_left es fs (Next id) link seen, plain)

  pub ends_right : (es fs : List (Event N)) (to : Option ℕ) → EndsRun fs to → EndsRun (es ++ fs) to
  ends_right es fs None e = tt
  ends_right es fs (Some id) (link, seen, plain) = (link, sees_right es fs (Next id) link seen, plain)

  pub covers_left : (ids : List ℕ) (es fs : List (Event N)) → CoversLooks ids (es ++ fs) → CoversLooks ids es
  covers_left ids es fs c = λ id link s. c id link (sees_left es fs (Next id) link s)

  pub covers_right : (ids : List ℕ) (es fs : List (Event N)) → CoversLooks ids (es ++ fs) → CoversLooks ids fs
  covers_right ids es fs c = λ id link s. c id link (sees_right es fs (Next id) link s)

  pub sees_to_left : (es fs : List (Event N)) (place : Place) (to : Option ℕ) → SeesTo es place to → SeesTo (es ++ fs) place to
  sees_to_left es fs place to (link, seen, is) = (link, sees_left es fs place link seen, is)

  pub way_left : (es fs : List (Event N)) (start : Place) (ids : List ℕ) (to : Option ℕ) → IsWay es start ids to → IsWay (es ++ fs) start ids to
  way_left es fs start [] to way = sees_to_left es fs start to way
  way_left es fs start (id ∷ ids) to way = (sees_to_left es fs (Next id) to way.0, way_left es fs start ids (Some id) way.1)

  -- loads, one after another
  pub loads-append : (es fs : List (Event N)) → AreLoads es → AreLoads fs → AreLoads (es ++ fs)
  loads-append [] fs a b = b
  loads-append (e ∷ es) fs a b = (a.0, loads-append es fs a.1 b)

  -- what is skipped is skipped in more events, of a later heap
  pub counts_left : (r : Reading N) (es fs : List (Event N)) (h k : Heap) → ((id : ℕ) → IsUncounted r h id → IsUncounted r k id) → (ids : List ℕ) (passed : ℕ)
      → Counts r es h ids passed → Counts r (es ++ fs) k ids passed
  counts_left r es fs h k on [] passed c = tt
  counts_left r es fs h k on (id ∷ ids) passed (before, rest, either) = (
    before,
    counts_left r es fs h k on ids before rest,
    elim either [
      | inl more ↦ inl more
      | inr skip ↦ inr (
        skip.0,
        elim skip.1 [
          | inl marked ↦ inl (marked.0, sees_left es fs (Next id) marked.0 marked.1, marked.2)
          | inr kind ↦ inr (on id kind)
        ],
      )
    ],
  )

-- nodes whose ranks fall differ

module _ (o : Order) (h : Heap) where
  falls_apart : (top bound : ℕ) (xs : List ℕ) (id rank : ℕ) → HasRank o h top bound → RanksFall o h (Some top) xs → HasRank o h id rank → bound ≤ rank
      → has id xs ≡ true → ⊥
  falls_apart top bound [] id rank has_top fall own high e = cc
  falls_apart top bound (x ∷ xs) id rank has_top (low, mine, (up, top_up, less), rest) own high e =
      let is : up ≡ bound = rank_one o h top up bound top_up has_top in
      elim (or_cases (x == id) (has id xs) e) [
        | inl here ↦
            let same : x ≡ id = eqb-true x id here in
            omega (arith, rank_one o h id low rank (subst (λ (z : ℕ). HasRank o h z low) same mine) own, less, is, high)
        | inr later ↦ falls_apart x low xs id rank mine rest own (omega (arith, less, is, high)) later
      ]

  -- so if each of them is one of these, they are no more than these
  fewer : (to : Option ℕ) (xs ids : List ℕ) → RanksFall o h to xs → ((id : ℕ) → has id xs ≡ true → has id ids ≡ true) → length xs ≤ length ids
  fewer to [] ids fall all = omega arith
  fewer to (x ∷ xs) ids (rank, own, above, rest) all =
      let here : has x ids ≡ true = all x (rw (eq-eqb x x refl) refl) in
      let k = fewer (Some x) xs (filter (λ y. not (y == x)) ids) rest (λ id among. has_kept x id ids (all id (in_rest id among))
      (λ same. falls_apart x rank xs x rank own rest own (omega arith) (subst (λ (z : ℕ). has z xs ≡ true) same among))) in
      omega (arith, k, filter_less x ids here)
    where
      in_rest : (id : ℕ) → has id xs ≡ true → has id (x ∷ xs) ≡ true
      in_rest id among = or_right (x == id) (has id xs) among

way_covered : {N : Type 0} (es : List (Event N)) (start : Place) (ids xs : List ℕ) (to : Option ℕ) → IsWay es start xs to → CoversLooks ids es
    → (id : ℕ) → has id xs ≡ true → has id ids ≡ true
way_covered es start ids [] to way c id among = cc
way_covered es start ids (x ∷ xs) to ((link, seen, is), way) c id among = elim (or_cases (x == id) (has id xs) among) [
  | inl here ↦ subst (λ (z : ℕ). has z ids ≡ true) (eqb-true x id here) (c x link seen)
  | inr later ↦ way_covered es start ids xs (Some x) way c id later
]

-- the events of a search are few
pub visits_few : {N : Type 0} (r : Reading N) (start : Place) (wanted passed more : ℕ) (to : Option ℕ) (own : List (Event N)) (t : Seat N)
    → Visits r start wanted passed more to own t → IsFew more own
visits_few r start wanted passed more to own t v = λ ids c.
    omega (arith, v.few, fewer r.order (heap_of r.numbers t) to v.nodes ids v.fall (way_covered own start ids v.nodes to v.way c))

-- a node at whose link it looked last counts as one more of those that it went past
seen_few : {N : Type 0} (r : Reading N) (start : Place) (wanted passed more id rank : ℕ) (own : List (Event N)) (t : Seat N) (link : Link)
    → Visits r start wanted passed (2 + more) (Some id) own t → HasRank r.order (heap_of r.numbers t) id rank → Sees own (Next id) link → IsFew more own
seen_few r start wanted passed more id rank own t link v has_rank seen = λ ids c.
    let covered : (x : ℕ) → has x (id ∷ v.nodes) ≡ true → has x ids ≡ true = λ x among.
    elim (or_cases (id == x) (has x v.nodes) among) [
      | inl here ↦ subst (λ (z : ℕ). has z ids ≡ true) (eqb-true id x here) (c id link seen)
      | inr later ↦ way_covered own start ids v.nodes (Some id) v.way c x later
    ] in
    omega (arith, v.few, fewer r.order (heap_of r.numbers t) None (id ∷ v.nodes) ids (rank, has_rank, tt, v.fall) covered)

pub absent_few : {N : Type 0} (r : Reading N) (start : Place) (wanted passed : ℕ) (left first right : Option Hold) (s t : Seat N)
    → (f : FindsAbsent r start wanted passed left first right s t) → IsFew 2 f.own
absent_few r start wanted passed left first None s t f = visits_few r start wanted passed 2 None f.own t f.visits
absent_few r start wanted passed left first (Some h) s t f =
    seen_few r start wanted passed 2 f.right_id f.above.0 f.own t f.ends.0 f.visits f.above.1 f.ends.1

pub present_few : {N : Type 0} (r : Reading N) (start : Place) (wanted passed : ℕ) (left first : Option Hold) (node : Hold) (next : Option Hold) (s t : Seat N)
    → (f : FindsPresent r start wanted passed left first node next s t) → IsFew 2 f.own
present_few r start wanted passed left first node next s t f =
    seen_few r start wanted passed 2 f.id wanted f.own t (link_over (node_of next f.next_id)) f.visits f.is_of.has_key f.sees

pub few_more : {N : Type 0} (most more : ℕ) (es fs : List (Event N)) → IsFew most es → length fs + most ≤ more → IsFew more (es ++ fs)
few_more most more es fs few low = λ ids c. omega (arith, few ids (covers_left ids es fs c), length-append es fs, low)
