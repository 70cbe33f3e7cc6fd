-- A search that nobody disturbs counts the keys that it goes past.
use Rattle.std.proofs.Common.{Bool, List, Option, Some, [], ap, arith, cond, false, filter, inl, inr, length, not, refl, subst, sym, true, ℕ, ◌++◌, ◌<◌, ◌∙◌, ◌∷◌, ◌≡◌, ◌≢◌, ◌≤◌}
use Rattle.std.proofs.Math.Bool.{and-eq-true_iff}
use Rattle.std.proofs.lemmas.Bool.{eq-eqb, eqb-true, false_from_ne_true, ltb-true, or_cases, or_left, or_right}
use Rattle.std.specs.Prelude.{min, nat_lt, ◌==◌, ◌&&◌}
use Rattle.orc_heap.proofs.Moved.{shown_node}
use Rattle.orc_heap.proofs.SingleActs.{some_same}
use Rattle.orc_heap.specs.Heap.{Heap, HeapNumbers, Node, shown}
use Rattle.orc_heap.specs.Journals.{run_heap}
use Rattle.orc_heap.specs.Seats.{Seat, heap_of}
use Rattle.orc_heap.specs.declared.events.Event.{Event}
use Rattle.orc_heap.specs.declared.events.Link.{Link}
use Rattle.orc_heap.specs.declared.events.Place.{Place}
use Rattle.orc_heap.specs.declared.events.Place.TheVariants.{Next, Root, Side}
use Rattle.orc_history.specs.SetHistory.{IsLegalSetFrom, has, keys_after}
use Rattle.orc_history.specs.declared.set.SetEntry.{SetEntry}
use Rattle.orc_history.specs.declared.set.SetEntry.TheVariants.{Added, Asked, Removed}
use Rattle.orc_ordered_chains.proofs.Keys.{filter_less, has_added, has_kept}
use Rattle.orc_ordered_chains.proofs.Paths.{live_behind, live_on}
use Rattle.orc_ordered_chains.specs.Chains.{AreChains, IsLive, IsPath}
use Rattle.orc_ordered_search.proofs.Alone.{Counted, IsAlone, counted_nodes, walked}
use Rattle.orc_ordered_search.proofs.Ways.{among_onto, comes_by, onto}
use Rattle.orc_ordered_search.specs.Searches.{Skips, Visits}
use Rattle.orc_ordered_search.specs.Ways.{IsPast}
use Rattle.orc_split_rule.specs.Laws.Sets.{present_live}
use Rattle.orc_split_rule.specs.Laws.Values.{dummy_rank, value_first}
use Rattle.orc_split_rule.specs.SplitDiscipline.{HasKey, SplitHolds, entries_of, set_after}
use Rattle.orc_split_rule.specs.SplitOrder.{dummy_place, key_place, split_order}
use Rattle.orc_split_rule.specs.declared.split.SplitNote.{SplitNote}
use Rattle.orc_split_set.specs.Crowds.{BeginsBy, keys_between}
use Rattle.orc_split_set.specs.SplitSearches.{says_key, split_reading}
use Rattle.orc_split_set.proofs.Ordered.{split_ordering}

-- keys of a set, each once

abbrev pub AreApart : List ℕ → Type 0
AreApart [] = Unit {0}
AreApart (k ∷ ks) = (has k ks ≡ false) × AreApart ks

apart_snoc : (key : ℕ) (keys : List ℕ) → has key keys ≡ false → AreApart keys → AreApart (keys ++ key ∷ [])
apart_snoc key [] none apart = (refl, tt)
apart_snoc key (k ∷ keys) none (one, rest) =
    let ne : key ≢ k = λ same. (let bad : true ≡ false = sym (or_left (k == key) (has key keys) (eq-eqb k key (sym same))) ∙ none in cc) in
    let fewer : has key keys ≡ false = false_from_ne_true (has key keys) (λ is.
    let bad : true ≡ false = sym (or_right (k == key) (has key keys) is) ∙ none in cc) in (
      false_from_ne_true (has k (keys ++ key ∷ [])) (λ is. elim (has_added key k keys is) [
        | inl old ↦ (let bad : true ≡ false = sym old ∙ one in cc)
        | inr same ↦ ne same
      ]),
      apart_snoc key keys fewer rest,
    )

has_filtered : (test : ℕ → Bool) (key : ℕ) (keys : List ℕ) → has key (filter test keys) ≡ true → has key keys ≡ true
has_filtered test key [] is = is
has_filtered test key (k ∷ keys) is = step (test k) is (λ h. has_filtered test key keys h)
  where
    step : (b : Bool) → has key (cond b (k ∷ filter test keys) (filter test keys)) ≡ true → (has key (filter test keys) ≡ true → has key keys ≡ true)
        → has key (k ∷ keys) ≡ true
    step true is go = elim (or_cases (k == key) (has key (filter test keys)) is) [
      | inl here ↦ or_left (k == key) (has key keys) here
      | inr later ↦ or_right (k == key) (has key keys) (go later)
    ]
    step false is go = or_right (k == key) (has key keys) (go is)

pub apart_filter : (test : ℕ → Bool) (keys : List ℕ) → AreApart keys → AreApart (filter test keys)
apart_filter test [] apart = tt
apart_filter test (k ∷ keys) (one, rest) = step (test k) (apart_filter test keys rest)
  where
    step : (b : Bool) → AreApart (filter test keys) → AreApart (cond b (k ∷ filter test keys) (filter test keys))
    step true a = (false_from_ne_true (has k (filter test keys)) (λ is. (let bad : true ≡ false = sym (has_filtered test k keys is) ∙ one in cc)), a)
    step false a = a

pub keys_apart : (keys : List ℕ) (es : List SetEntry) → IsLegalSetFrom keys es → AreApart keys → AreApart (keys_after keys es)
keys_apart keys [] legal apart = apart
keys_apart keys (Added by key true ∷ es) legal apart =
    keys_apart (keys ++ key ∷ []) es legal.1 (apart_snoc key keys (not_true (has key keys) (sym legal.0)) apart)
  where
    not_true : (b : Bool) → not b ≡ true → b ≡ false
    not_true true e = cc
    not_true false e = refl
keys_apart keys (Added by key false ∷ es) legal apart = keys_apart keys es legal.1 apart
keys_apart keys (Removed by key true ∷ es) legal apart =
    keys_apart (filter (λ x. not (x == key)) keys) es legal.1 (apart_filter (λ x. not (x == key)) keys apart)
keys_apart keys (Removed by key false ∷ es) legal apart = keys_apart keys es legal.1 apart
keys_apart keys (Asked by key answer ∷ es) legal apart = keys_apart keys es legal.1 apart

-- keys that stand at these places, no two at one, are no more than the places
pub keys_fewer : (At : ℕ → ℕ → Type 0) → ((id a b : ℕ) → At id a → At id b → a ≡ b) → (keys ids : List ℕ) → AreApart keys
    → ((key : ℕ) → has key keys ≡ true → (id : ℕ) × (has id ids ≡ true) × At id key) → length keys ≤ length ids
keys_fewer At one [] ids apart all = omega arith
keys_fewer At one (k ∷ keys) ids (none, rest) all =
    let (id, among, here) = all k (or_left (k == k) (has k keys) (eq-eqb k k refl)) in
    let fewer = keys_fewer At one keys (filter (λ y. not (y == id)) ids) rest (λ key is.
    let (other, there, at) = all key (or_right (k == key) (has key keys) is) in (
      other,
      has_kept id other ids there (λ same.
          let is_k : key ≡ k = one id key k (subst (λ (z : ℕ). At z key) same at) here in
          let bad : true ≡ false = sym (subst (λ (z : ℕ). has z keys ≡ true) is_k is) ∙ none in
          cc),
      at,
    )) in
    omega (arith, fewer, filter_less id ids among)

-- the place at which a search begins leads to each live node behind it: root 0, or the dummy of a bucket
abbrev pub StartsBefore : Heap → Place → ℕ → Type 0
StartsBefore h (Root r) place = r ≡ 0
StartsBefore h (Next id) place = (bucket : ℕ) × IsLive split_order h id (dummy_place bucket) × (dummy_place bucket < place)
StartsBefore h (Side id) place = ⊥

start_leads : (n : HeapNumbers) (es : List (Event SplitNote)) (h : Heap) → SplitHolds n es → (start : Place) (y rank : ℕ)
    → (k : h ≡ run_heap n es) → StartsBefore h start rank → IsLive split_order h y rank → (zs : List ℕ) × IsPath h start zs (Some y)
start_leads n es h holds (Root r) y rank k is live =
    let on = live_on split_order h (subst (λ (z : Heap). AreChains split_order z) (sym k) holds.chains) y rank live in
    (on.over, subst (λ (z : ℕ). IsPath h (Root z) on.over (Some y)) (sym is) on.path)
start_leads n es h holds (Next d) y rank k (bucket, own, less) live =
    live_behind split_order h (subst (λ (z : Heap). AreChains split_order z) (sym k) holds.chains) d y (dummy_place bucket) rank own live less refl
start_leads n es h holds (Side d) y rank k bad live = absurd bad

-- no node with a key whose link is unmarked is skipped
not_skipped : (n : HeapNumbers) (t : Seat SplitNote) (own : List (Event SplitNote)) (s : Seat SplitNote) → IsAlone (split_ordering n) s own t → (id key : ℕ)
    → HasKey (heap_of n t) id key → (link : Link) → shown (heap_of n t) (Next id) ≡ Some link → link.mark ≡ false
    → Skips (split_reading n) own (heap_of n t) id → ⊥
not_skipped n t own s a id key has_key link at plain (inl (seen, sees, mark)) =
    let same : seen ≡ link = some_same (sym (a.shows (Next id) seen sees) ∙ at) in
    let bad : true ≡ false = sym mark ∙ (ap (λ (l : Link). l.mark) same ∙ plain) in
    cc
not_skipped n t own s a id key has_key link at plain (inr (l, uncounted)) =
    let same : l.node ≡ has_key.node = some_same (sym l.there ∙ has_key.there) in
    let second : l.node.second ≡ Some 1 = ap (λ (m : Node). m.second) same ∙ has_key.second_is in
    let bad : true ≡ false = sym (ap says_key second) ∙ uncounted in
    cc

-- what is left by a filter was there, and passes it
in_filter_step : (between : ℕ → Bool) (key k : ℕ) (keys : List ℕ) → (has key (filter between keys) ≡ true → (has key keys ≡ true) × (between key ≡ true))
    → (b : Bool) → between k ≡ b → has key (cond b (k ∷ filter between keys) (filter between keys)) ≡ true
    → (has key (k ∷ keys) ≡ true) × (between key ≡ true)
in_filter_step between key k keys go true is e = elim (or_cases (k == key) (has key (filter between keys)) e) [
  | inl here ↦ (or_left (k == key) (has key keys) here, subst (λ (z : ℕ). between z ≡ true) (eqb-true k key here) is)
  | inr later ↦ (let (one, two) = go later in (or_right (k == key) (has key keys) one, two))
]
in_filter_step between key k keys go false is e = (let (one, two) = go e in (or_right (k == key) (has key keys) one, two))

in_filter : (between : ℕ → Bool) (key : ℕ) (keys : List ℕ) → has key (filter between keys) ≡ true → (has key keys ≡ true) × (between key ≡ true)
in_filter between key [] e = cc
in_filter between key (k ∷ keys) e = in_filter_step between key k keys (λ later. in_filter between key keys later) (between k) refl e

-- keys of the set between the place at which a search begins and the wanted one: as many as these are, up to 9, it counted
pub counts_keys : (n : HeapNumbers) (start : Place) (wanted passed more : ℕ) (to : Option ℕ) (s t : Seat SplitNote) (own : List (Event SplitNote))
    → SplitHolds n t.seen
    → (v : Visits (split_reading n) start wanted passed more to own t) → (a : IsAlone (split_ordering n) s own t) → IsPast split_order (heap_of n t) wanted to
    → (between : ℕ → Bool)
    → ((key : ℕ) → between key ≡ true → StartsBefore (heap_of n t) start (key_place key) × (key_place key < wanted))
    → min (length (filter between (set_after t.seen))) 9 ≤ passed
counts_keys n start wanted passed more to s t own holds v a past between is_between =
    let c = counted_nodes (split_reading n) own (heap_of n t) v.nodes passed v.counted in
    let apart = apart_filter between (set_after t.seen) (keys_apart [] (entries_of t.seen) holds.legal tt) in
    let fewer = keys_fewer (HasKey (heap_of n t)) (λ id x y one two. value_first (heap_of n t) id x 1 y 1 one two) (filter between (set_after t.seen)) c.ids
    apart (at c) in
    omega (arith, fewer, c.few)
  where
    h : Heap
    h = heap_of n t

    at : (c : Counted (split_reading n) own (heap_of n t) v.nodes passed) → (key : ℕ) → has key (filter between (set_after t.seen)) ≡ true
        → (id : ℕ) × (has id c.ids ≡ true) × HasKey (heap_of n t) id key
    at c key among =
        let (low, is) = in_filter between key (set_after t.seen) among in
        let (starts, less) = is_between key is in
        let y = (holds.set key).0 low in
        let live = present_live (heap_of n t) key y in
        let (zs, path) = start_leads n t.seen (heap_of n t) holds start y.id (key_place key) refl starts live in
        let by = comes_by split_order (heap_of n t) wanted holds.chains start zs (onto v.nodes []) y.id (key_place key) to live.has_rank less path
        (walked (split_ordering n) start wanted passed more to s t own v a) past in (
          y.id,
          c.all y.id (elim (among_onto v.nodes [] y.id by) [ inl here ↦ here | inr bad ↦ absurd bad ])
              (not_skipped n t own s a y.id key y.has_key y.link y.at y.unmarked),
          y.has_key,
        )

-- a key that stands between the start of the bucket and the wanted one stands behind the place at which a search by the bucket begins
between_is : (bucket wanted key : ℕ) → (nat_lt (dummy_place bucket) (key_place key) && nat_lt (key_place key) (key_place wanted)) ≡ true
    → (dummy_place bucket < key_place key) × (key_place key < key_place wanted)
between_is bucket wanted key is =
    let both = (and-eq-true_iff (nat_lt (dummy_place bucket) (key_place key)) (nat_lt (key_place key) (key_place wanted))).0 is in
    (ltb-true (dummy_place bucket) (key_place key) both.0, ltb-true (key_place key) (key_place wanted) both.1)

by_before : (n : HeapNumbers) (es : List (Event SplitNote)) → SplitHolds n es → (start : Place) (bucket place : ℕ) → BeginsBy (run_heap n es) start bucket
    → dummy_place bucket < place → StartsBefore (run_heap n es) start place
by_before n es holds (Root r) bucket place is low = is
by_before n es holds (Next id) bucket place (old, d, less) low =
    let h : Heap = run_heap n es in
    let at = shown_node h id d.node d.there in (
      old,
      record { has_rank = dummy_rank h id old d; link = d.node.link; at = at; unmarked = holds.buckets.plain_dummies id old d.node.link d at },
      omega (arith, less, low),
    )
by_before n es holds (Side id) bucket place bad low = bad

-- so a search that nobody disturbed counted the keys of the set that stand there
pub counts_between : (n : HeapNumbers) (start : Place) (bucket key passed more : ℕ) (to : Option ℕ) (s t : Seat SplitNote) (own : List (Event SplitNote))
    → SplitHolds n t.seen → (v : Visits (split_reading n) start (key_place key) passed more to own t) → (a : IsAlone (split_ordering n) s own t)
    → IsPast split_order (heap_of n t) (key_place key) to → BeginsBy (heap_of n t) start bucket
    → min (length (keys_between bucket key (set_after t.seen))) 9 ≤ passed
counts_between n start bucket key passed more to s t own holds v a past by =
    counts_keys n start (key_place key) passed more to s t own holds v a past
    (λ k. nat_lt (dummy_place bucket) (key_place k) && nat_lt (key_place k) (key_place key))
    (λ k is. let (low, high) = between_is bucket key k is in (by_before n t.seen holds start bucket (key_place k) by low, high))
