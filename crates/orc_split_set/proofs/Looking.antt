-- How few loads a pass makes that saw only its own events.
use mathlib.Core.List.{IsPrefix}
use Rattle.std.proofs.Common.{List, None, Option, Some, [], append-nil, append_assoc, ap, arith, inl, inr, length, length-append, subst, suc, sym, zero, refl, ℕ, ◌%◌, ◌*◌, ◌+◌, ◌-◌, ◌++◌, ◌/◌, ◌<◌, ◌^◌, ◌∙◌, ◌∷◌, ◌≡◌, ◌≢◌, ◌≤◌}
use Rattle.std.proofs.Math.Nat.{mod-eq_of_lt}
use Rattle.std.proofs.Math.Pow.{mod-mod-pow}
use Rattle.std.proofs.lemmas.List.{append_cancel_left}
use Rattle.orc_heap.proofs.Calls.{Puts-trans}
use Rattle.orc_heap.proofs.Moments.{look_found}
use Rattle.orc_heap.proofs.Pieces.{puts_released}
use Rattle.orc_heap.specs.Allowed.{AllAllowed}
use Rattle.orc_heap.specs.Calls.{Looks, event_of}
use Rattle.orc_heap.specs.Heap.{Heap, HeapNumbers}
use Rattle.orc_heap.specs.Journals.{run_heap}
use Rattle.orc_heap.specs.OwnEvents.{Puts}
use Rattle.orc_heap.specs.Seats.{Seat, heap_of}
use Rattle.orc_heap.specs.Slots.{Hold, Slots}
use Rattle.orc_heap.specs.declared.events.Act.TheVariants.{Look}
use Rattle.orc_heap.specs.declared.events.Event.{Event}
use Rattle.orc_heap.specs.declared.events.Link.{Link}
use Rattle.orc_heap.specs.declared.events.Place.{Place}
use Rattle.orc_heap.specs.declared.events.Place.TheVariants.{Next, Root}
use Rattle.orc_heap.proofs.SingleActs.{some_same}
use Rattle.orc_ordered_chains.proofs.Acts.{rank_one}
use Rattle.orc_ordered_chains.proofs.Paths.{leads_one}
use Rattle.orc_ordered_chains.specs.Chains.{FollowsOn, IsPath, LeadsTo}
use Rattle.orc_ordered_search.specs.Searches.{FindsAbsent, FindsPresent, Quiet, Visits}
use Rattle.orc_ordered_search.specs.Turns.{AreOver, TakesNode}
use Rattle.orc_ordered_search.specs.Ways.{Stops}
use Rattle.orc_ordered_search.proofs.Ways.{length_onto, onto}
use Rattle.orc_heap.specs.declared.holds.Looked.{Looked}
use Rattle.orc_heap.specs.declared.holds.Looked.TheVariants.{Moved, Stable}
use Rattle.orc_heap.specs.declared.holds.Seen.{Seen}
use Rattle.orc_ordered_search.specs.Ways.{AreLoads}
use Rattle.orc_ordered_search.proofs.Alone.{IsAlone, loads_same, search_few, search_few_in_all, walked}
use Rattle.orc_ordered_search.proofs.Seen.{loads-append}
use Rattle.orc_ordered_search.specs.Steps.{Finds}
use Rattle.orc_ordered_search.specs.declared.walk.Searched.{Searched}
use Rattle.orc_ordered_search.specs.declared.walk.Searched.TheVariants.{Absent, Over, Present}
use Rattle.orc_split_rule.proofs.Later.{may_fits}
use Rattle.orc_split_rule.specs.SplitDiscipline.{IsSize, SplitHolds, SplitMay, size_of}
use Rattle.orc_split_rule.specs.SplitOrder.{bucket_of, key_place, split_order}
use Rattle.orc_ordered_search.specs.Turns.{LoadsOnce}
use Rattle.orc_split_rule.specs.declared.split.SplitNote.{SplitNote}
use Rattle.orc_split_set.specs.Crowds.{SeesOwn}
use Rattle.orc_split_set.specs.Looks.{HasStart, LoadsFew, StepsFew, MayEnd, ReachesIn, StartsAt, node_count, root_loads, search_loads}
use Rattle.orc_split_set.specs.SplitSearches.{SizeRead, split_reading}
use Rattle.orc_split_set.proofs.Crowding.{own_alone, own_heap, own_later, own_no_turns, own_not_moved, own_part, own_read, own_shows, own_sooner, own_unmoved, puts_grow}
use Rattle.orc_split_set.proofs.Ordered.{split_ordering}

-- what the pass put
pub few_of : (most : ℕ) (s t : Seat SplitNote) (own : List (Event SplitNote)) → Puts s own t → AreLoads own → length own ≤ most → LoadsFew most s t
few_of most s t own p loads few = λ k.
    let is : k.part ≡ own = append_cancel_left s.seen k.part p.part (sym k.is ∙ p.is) ∙ (own_part s t own p k).1 in
    (subst (λ z. AreLoads z) (sym is) loads, omega (arith, few, ap (λ z. length z) is))

-- nothing
pub none_new : (s t : Seat SplitNote) → t.seen ≡ s.seen → (k : SeesOwn s t) → k.part ≡ []
none_new s t same k = append_cancel_left s.seen k.part [] (sym k.is ∙ (same ∙ sym (append-nil s.seen)))

pub few_none : (most : ℕ) (s t : Seat SplitNote) → (SeesOwn s t → t.seen ≡ s.seen) → LoadsFew most s t
few_none most s t same = λ k.
    let is = none_new s t (same k) k in
    (subst (λ z. AreLoads z) (sym is) tt, omega (arith, ap (λ z. length z) is))

-- one piece after another
pub few_trans : (one two most : ℕ) (s t u : Seat SplitNote) → IsPrefix s.seen t.seen → IsPrefix t.seen u.seen → t.agent ≡ s.agent → one + two ≤ most
    → LoadsFew one s t → LoadsFew two t u → LoadsFew most s u
few_trans one two most s t u grew grows same low first second = λ k.
    let a = own_sooner s t u grew grows k in
    let b = own_later s t u grew grows same k in
    let (loads, few) = first a in
    let (more, less) = second b in
    let is : k.part ≡ a.part ++ b.part = append_cancel_left s.seen k.part (a.part ++ b.part)
    (sym k.is ∙ (b.is ∙ (ap (λ z. z ++ b.part) a.is ∙ append_assoc s.seen a.part b.part))) in
    (subst (λ z. AreLoads z) (sym is) (loads-append a.part b.part loads more), omega (arith, few, less, low, ap (λ z. length z) is, length-append a.part b.part))

-- loads, and then events of which this is so
abbrev pub JoinsLoads : (List (Event SplitNote) → ℕ → Type 0) → Type 0
JoinsLoads Few = (es fs : List (Event SplitNote)) (one two most : ℕ) → one + two ≤ most → AreLoads es × (length es ≤ one) → Few fs two → Few (es ++ fs) most

pub joins_loads : JoinsLoads (λ es most. AreLoads es × (length es ≤ most))
joins_loads es fs one two most low first second =
    (loads-append es fs first.0 second.0, omega (arith, first.1, second.1, low, length-append es fs))

pub joins_steps : JoinsLoads (λ es most. length es ≤ most)
joins_steps es fs one two most low first second = omega (arith, first.1, second, low, length-append es fs)

pub join_trans : (Few : List (Event SplitNote) → ℕ → Type 0) → JoinsLoads Few → (one two most : ℕ) (s t u : Seat SplitNote) → IsPrefix s.seen t.seen
    → IsPrefix t.seen u.seen → t.agent ≡ s.agent → one + two ≤ most → LoadsFew one s t → ((k : SeesOwn t u) → Few k.part two)
    → (k : SeesOwn s u) → Few k.part most
join_trans Few join one two most s t u grew grows same low first second = λ k.
    let a = own_sooner s t u grew grows k in
    let b = own_later s t u grew grows same k in
    let is : k.part ≡ a.part ++ b.part = append_cancel_left s.seen k.part (a.part ++ b.part)
    (sym k.is ∙ (b.is ∙ (ap (λ z. z ++ b.part) a.is ∙ append_assoc s.seen a.part b.part))) in
    subst (λ z. Few z most) (sym is) (join a.part b.part one two most low (first a) (second b))

-- so many events
pub put_few : (most : ℕ) (s t : Seat SplitNote) (own : List (Event SplitNote)) → Puts s own t → length own ≤ most → StepsFew most s t
put_few most s t own p few = λ k.
    let is : k.part ≡ own = append_cancel_left s.seen k.part p.part (sym k.is ∙ p.is) ∙ (own_part s t own p k).1 in
    omega (arith, few, ap (λ z. length z) is)

-- a node was marked, and one try made to lead its place past it
pub taken_steps : (noted unlinking : SplitNote) (place : Place) (first id : ℕ) (to : Option ℕ) (IsWorn : Type 0) (slots : Slots) (s t : Seat SplitNote)
    → TakesNode noted unlinking place first id to IsWorn slots s t → StepsFew 2 s t
taken_steps noted unlinking place first id to IsWorn slots s t k =
    elim k.tries.either [
      | inl tried ↦ elim tried [
        | inl puts ↦ whole _ puts (omega arith)
        | inr misses ↦ whole _ misses.puts (omega arith)
      ]
      | inr refused ↦ whole [] refused.2 (omega arith)
    ]
  where
    whole : (ys : List (Event SplitNote)) → Puts k.marked ys k.tried → length ys ≤ 1 → StepsFew 2 s t
    whole ys puts low =
        let one = k.marks.puts in
        put_few 2 s t _ (puts_released s k.tried t _ (Puts-trans s k.marked k.tried _ ys one puts) k.gone.puts)
        (omega (arith, low))

-- a look of a root
pub look_loads : (root : ℕ) (s t : Seat SplitNote) (looked : Looked) → Looks (Root root) 2 s looked t → LoadsFew 2 s t
look_loads root s t (Stable seen None) looks =
    let (null, slots, puts) = looks.tells in
    few_of 2 s t _ puts (tt, tt) (omega arith)
look_loads root s t (Stable seen (Some h)) looks =
    let (id, one, more, marked, null, at_slot, slots, puts) = looks.tells in
    few_of 2 s t _ puts (tt, (tt, tt)) (omega arith)
look_loads root s t Moved looks =
    let (one, two, other, slots, puts, some) = looks.tells in
    few_of 2 s t _ puts (tt, (tt, tt)) (omega arith)

pub look_agent : (root : ℕ) (s t : Seat SplitNote) (looked : Looked) → Looks (Root root) 2 s looked t → t.agent ≡ s.agent
look_agent root s t (Stable seen None) looks = looks.tells.2.agent
look_agent root s t (Stable seen (Some h)) looks =
    let (id, one, more, marked, null, at_slot, slots, puts) = looks.tells in
    puts.agent
look_agent root s t Moved looks =
    let (one, two, other, slots, puts, some) = looks.tells in
    puts.agent

pub two_loads : (bucket : ℕ) → 1 ≤ bucket → root_loads bucket ≡ 2
two_loads zero low = absurd (omega (arith, low))
two_loads (suc bucket) low = refl

pub root_few : (bucket root : ℕ) (s t : Seat SplitNote) (looked : Looked) → 1 ≤ bucket → Looks (Root root) 2 s looked t → LoadsFew (root_loads bucket) s t
root_few bucket root s t looked low looks = subst (λ (x : ℕ). LoadsFew x s t) (sym (two_loads bucket low)) (look_loads root s t looked looks)

-- a bucket that has a start: its root isn't seen null
pub start_shown : (n : HeapNumbers) (s u : Seat SplitNote) (bucket : ℕ) (seen : Seen) → 1 ≤ bucket → Looks (Root bucket) 2 s (Stable seen None) u
    → AllAllowed (SplitMay n) [] u.seen → HasStart (heap_of n s) bucket → SeesOwn s u → ⊥
start_shown n s u bucket seen low looks all (inl first) k = omega (arith, first, low)
start_shown n s u bucket seen low looks all (inr (id, l)) k =
    let (null, slots, puts) = looks.tells in
    let link : Link = record { to = None; mark = seen.mark } in
    let e : Event SplitNote = event_of s (Look (Root bucket) link) None in
    elim (look_found n (SplitMay n) (may_fits n) s u (Root bucket) link None [] [] puts all tt) [
      | inl shows ↦
          let same : Some link ≡ Some l.link = sym shows ∙ (own_shows n s u (e ∷ []) bucket puts all refl k ∙ l.at) in
          let bad : None ≡ Some id = ap (λ (o : Option Link). target o) same ∙ l.to_is in
          cc
      | inr moved ↦ absurd (own_unmoved s u (e ∷ []) puts refl moved k)
    ]
  where
    target : Option Link → Option ℕ
    target None = None
    target (Some x) = x.to

-- nor is a link seen that moved meanwhile
pub half_same : (most value size : ℕ) → IsSize most size → 2 ≤ size → bucket_of value size < size / 2 → bucket_of value size ≡ bucket_of value (size / 2)
half_same most value size (low, zero, is) two less = absurd (omega (arith, two, is))
half_same most value size (low, suc i, is) two less =
    let double : 2 ^ suc i ≡ 2 * 2 ^ i = grind (arith) in
    let e : 1 + i ≡ suc i = omega arith in
    let half : size / 2 ≡ 2 ^ i = omega (arith, is, double) in
    let twice : value % 2 ^ suc i % 2 ^ i ≡ value % 2 ^ i = subst (λ (x : ℕ). value % 2 ^ x % 2 ^ i ≡ value % 2 ^ i) e (mod-mod-pow value 1 i) in
    let other : value % size ≡ value % 2 ^ suc i = ap (λ (x : ℕ). value % x) is in
    let one : value % (size / 2) ≡ value % 2 ^ i = ap (λ (x : ℕ). value % x) half in
    let low : value % 2 ^ suc i < 2 ^ i = omega (arith, less, other, half) in
    other ∙ (sym (mod-eq_of_lt low) ∙ (twice ∙ sym one))

-- loads leave the heap as it was
pub few_heap : (n : HeapNumbers) (most : ℕ) (s t : Seat SplitNote) → LoadsFew most s t → SeesOwn s t → heap_of n t ≡ heap_of n s
few_heap n most s t few k = ap (λ z. run_heap n z) k.is ∙ loads_same (split_ordering n) s.seen k.part (few k).0

-- nothing before them
pub few_same : (one two : ℕ) (s t u : Seat SplitNote) → IsPrefix s.seen t.seen → IsPrefix t.seen u.seen → t.agent ≡ s.agent → t.seen ≡ s.seen → one ≡ two
    → LoadsFew one t u → LoadsFew two s u
few_same one two s t u grew grows same seen is few =
    few_trans 0 one two s t u grew grows same (omega (arith, is)) (few_none 0 s t (λ k. seen)) few

-- a read of the size before them
pub read_few : (n : HeapNumbers) (key size : ℕ) (s t u : Seat SplitNote) → SizeRead n size s t → IsPrefix t.seen u.seen
    → (HasStart (heap_of n t) (bucket_of key size) → LoadsFew (root_loads (bucket_of key size)) t u)
    → HasStart (heap_of n s) (bucket_of key (size_of n s.seen)) → LoadsFew (2 + root_loads (bucket_of key (size_of n s.seen))) s u
read_few n key size s t u r grows few has = λ k.
    let grew = puts_grow s t r.own r.quiet.puts in
    let first = own_sooner s t u grew grows k in
    let is = own_read n size s t r first in
    let there = subst (λ (h : Heap). HasStart h (bucket_of key size)) (sym (own_heap n s t r.own r.quiet first))
    (subst (λ (x : ℕ). HasStart (heap_of n s) (bucket_of key x)) (sym is) has) in
    let later = subst (λ (x : ℕ). LoadsFew (root_loads (bucket_of key x)) t u) is (few there) in
    let b = root_loads (bucket_of key (size_of n s.seen)) in
    few_trans 2 b (2 + b) s t u grew grows r.quiet.puts.agent (omega arith) (few_of 2 s t r.own r.quiet.puts r.quiet.loads r.few) later k

-- a release after them
pub few_then : (most : ℕ) (s t u : Seat SplitNote) → IsPrefix s.seen t.seen → t.agent ≡ s.agent → Puts t [] u → LoadsFew most s t → LoadsFew most s u
few_then most s t u grew same gone few = few_trans most 0 most s t u grew (puts_grow t u [] gone) same (omega arith) few (few_of 0 t u [] gone tt (omega arith))

pub look_grows : (root : ℕ) (s t : Seat SplitNote) (looked : Looked) → Looks (Root root) 2 s looked t → IsPrefix s.seen t.seen
look_grows root s t (Stable seen None) looks =
    let (null, slots, puts) = looks.tells in
    puts_grow s t _ puts
look_grows root s t (Stable seen (Some h)) looks =
    let (id, one, more, marked, null, at_slot, slots, puts) = looks.tells in
    puts_grow s t _ puts
look_grows root s t Moved looks =
    let (one, two, other, slots, puts, some) = looks.tells in
    puts_grow s t _ puts

-- one load
pub once_few : (s t : Seat SplitNote) → LoadsOnce s t → LoadsFew 1 s t
once_few s t k = few_of 1 s t (k.event ∷ []) k.puts (k.load, tt) (omega arith)

-- a search ends no later than it may

few_to_end : (h : Heap) (p : Place) (vs zs : List ℕ) (y : ℕ) → IsPath h p vs (Some y) → IsPath h p zs None → length vs + 1 ≤ length zs
few_to_end h p [] [] y way path = let bad : Some y ≡ None = leads_one h p (Some y) None way path in cc
few_to_end h p [] (z ∷ zs) y way path = omega arith
few_to_end h p (v ∷ vs) [] y way path = let bad : Some v ≡ None = leads_one h p (Some v) None way.0 path in cc
few_to_end h p (v ∷ vs) (z ∷ zs) y way path =
    let same : v ≡ z = some_same (leads_one h p (Some v) (Some z) way.0 path.0) in
    let k = few_to_end h (Next z) vs zs y (subst (λ (x : ℕ). IsPath h (Next x) vs (Some y)) same way.1) path.1 in
    omega (arith, k)

-- how many loads it makes besides two for each node that it goes past
abbrev pub more_loads : Option ℕ → ℕ
more_loads None = 2
more_loads (Some id) = 4

pub visits_few : (n : HeapNumbers) (start : Place) (wanted passed more : ℕ) (at to : Option ℕ) (s t : Seat SplitNote) (own : List (Event SplitNote))
    (nodes : List ℕ) → more ≤ more_loads at → Visits (split_reading n) start wanted passed more at own t → IsAlone (split_ordering n) s own t
    → IsPath (heap_of n t) start nodes to → MayEnd (heap_of n t) wanted to → length own ≤ search_loads nodes to
visits_few n start wanted passed more None (Some y) s t own nodes few v a path stops =
    let k = search_few (split_ordering n) start wanted passed more None s t own v a nodes y path stops in
    omega (arith, k, few)
visits_few n start wanted passed more (Some x) (Some y) s t own nodes few v a path stops =
    let k = search_few (split_ordering n) start wanted passed more (Some x) s t own v a nodes y path stops in
    omega (arith, k, few)
visits_few n start wanted passed more None None s t own nodes few v a path stops =
    let k = search_few_in_all (split_ordering n) start wanted passed more None s t own v a nodes path in
    omega (arith, k, few)
visits_few n start wanted passed more (Some x) None s t own nodes few v a path stops =
    let way = walked (split_ordering n) start wanted passed more (Some x) s t own v a in
    let k = few_to_end (heap_of n t) start (onto v.nodes []) nodes x way path in
    omega (arith, v.few, few, k, length_onto v.nodes [])

-- where the search for a key ended, and one load more
module _ (n : HeapNumbers) (start : Place) (key : ℕ) (s t u : Seat SplitNote) (holds : SplitHolds n t.seen) (all : AllAllowed (SplitMay n) [] t.seen)
    (grows : IsPrefix t.seen u.seen) (last : LoadsFew 1 t u) (nodes : List ℕ) (to : Option ℕ) (path : IsPath (heap_of n s) start nodes to)
    (ends : MayEnd (heap_of n s) (key_place key) to) where
  searched : (passed more : ℕ) (at : Option ℕ) (own : List (Event SplitNote)) → Quiet (split_reading n) s own t → more ≤ more_loads at
      → Visits (split_reading n) start (key_place key) passed more at own t → LoadsFew (search_loads nodes to + 1) s u
  searched passed more at own q few v = λ k.
      let grew = puts_grow s t own q.puts in
      let sees = own_sooner s t u grew grows k in
      let heap = own_heap n s t own q sees in
      let short = visits_few n start (key_place key) passed more at to s t own nodes few v (own_alone n s t own q all sees)
      (subst (λ (h : Heap). IsPath h start nodes to) (sym heap) path) (subst (λ (h : Heap). MayEnd h (key_place key) to) (sym heap) ends) in
      few_trans (search_loads nodes to) 1 (search_loads nodes to + 1) s t u grew grows q.puts.agent (omega arith)
      (few_of (search_loads nodes to) s t own q.puts q.loads short) last k

  pub absent_few : (passed : ℕ) (left first right : Option Hold) → FindsAbsent (split_reading n) start (key_place key) passed left first right s t
      → LoadsFew (search_loads nodes to + 1) s u
  absent_few passed left first None f = searched passed 2 None f.own f.behind.quiet (omega arith) f.visits
  absent_few passed left first (Some h) f = searched passed 4 (Some f.right_id) f.own f.behind.quiet (omega arith) f.visits

  pub present_few : (passed : ℕ) (left first : Option Hold) (node : Hold) (next : Option Hold)
      → FindsPresent (split_reading n) start (key_place key) passed left first node next s t → LoadsFew (search_loads nodes to + 1) s u
  present_few passed left first node next f = searched passed 4 (Some f.id) f.own f.behind.quiet (omega arith) f.visits

-- where the key's node was taken out
pub taken_few : (n : HeapNumbers) (start : Place) (key : ℕ) (s t u : Seat SplitNote) → AllAllowed (SplitMay n) [] t.seen
    → IsPrefix t.seen u.seen → (nodes : List ℕ) (to : Option ℕ) → IsPath (heap_of n s) start nodes to → MayEnd (heap_of n s) (key_place key) to
    → (passed : ℕ) (left first : Option Hold) (node : Hold) (next : Option Hold)
    → FindsPresent (split_reading n) start (key_place key) passed left first node next s t → StepsFew 2 t u → StepsFew (search_loads nodes to + 2) s u
taken_few n start key s t u all grows nodes to path ends passed left first node next f last = λ k.
    let q = f.behind.quiet in
    let grew = puts_grow s t f.own q.puts in
    let sees = own_sooner s t u grew grows k in
    let heap = own_heap n s t f.own q sees in
    let short = visits_few n start (key_place key) passed 4 (Some f.id) to s t f.own nodes (omega arith) f.visits (own_alone n s t f.own q all sees)
    (subst (λ (h : Heap). IsPath h start nodes to) (sym heap) path) (subst (λ (h : Heap). MayEnd h (key_place key) to) (sym heap) ends) in
    join_trans (λ es most. length es ≤ most) joins_steps (search_loads nodes to) 2 (search_loads nodes to + 2) s t u grew grows q.puts.agent (omega arith)
    (few_of (search_loads nodes to) s t f.own q.puts q.loads short) last k

-- by what it found
pub found_few : (n : HeapNumbers) (start : Place) (key : ℕ) (s t u : Seat SplitNote) → SplitHolds n t.seen → AllAllowed (SplitMay n) [] t.seen
    → IsPrefix t.seen u.seen → (nodes : List ℕ) (to : Option ℕ) → IsPath (heap_of n s) start nodes to → MayEnd (heap_of n s) (key_place key) to
    → (found : Searched) → Finds (split_reading n) start (key_place key) s found t → (found ≢ Over → LoadsOnce t u)
    → LoadsFew (search_loads nodes to + 1) s u
found_few n start key s t u holds all grows nodes to path ends Over f once = λ k.
    absurd (own_not_moved n s t f.0 (own_sooner s t u (puts_grow s t f.0.own f.0.quiet.puts) grows k))
found_few n start key s t u holds all grows nodes to path ends (Absent left first right passed) f once =
    absent_few n start key s t u holds all grows (once_few t u (once (λ e. cc))) nodes to path ends passed left first right f
found_few n start key s t u holds all grows nodes to path ends (Present left first node next passed) f once =
    present_few n start key s t u holds all grows (once_few t u (once (λ e. cc))) nodes to path ends passed left first node next f

-- a search that begins where the bucket does

module _ (h : Heap) where
  no_start : (b : ℕ) → HasStart h (suc b) → LeadsTo h (Root (suc b)) None → ⊥
  no_start b (inl bad) null = cc
  no_start b (inr (id, leads)) null = let bad : Some id ≡ None = leads_one h (Root (suc b)) (Some id) None leads null in cc

  not_there : (start : Place) (place y : ℕ) → FollowsOn split_order h start place → start ≡ Next y → Stops split_order h place y → ⊥
  not_there start place y below at stops =
      let (low, own, less, root) = subst (λ (p : Place). FollowsOn split_order h p place) at below in
      omega (arith, less, stops.high, rank_one split_order h y low stops.rank own stops.has_rank)

module _ (n : HeapNumbers) (Few : List (Event SplitNote) → ℕ → Type 0) (join : JoinsLoads Few) (more key many : ℕ) (start : Place) (s t u : Seat SplitNote) (grew : IsPrefix s.seen t.seen) (grows : IsPrefix t.seen u.seen)
    (same : t.agent ≡ s.agent) (below : FollowsOn split_order (heap_of n t) start (key_place key))
    (later : (nodes : List ℕ) (to : Option ℕ) → IsPath (heap_of n t) start nodes to → MayEnd (heap_of n t) (key_place key) to
    → (k : SeesOwn t u) → Few k.part (search_loads nodes to + (1 + more))) where
  by_bucket : (b : ℕ) → HasStart (heap_of n t) b → StartsAt (heap_of n t) b start → (nodes : List ℕ) (to : Option ℕ) → IsPath (heap_of n t) (Root b) nodes to
      → MayEnd (heap_of n t) (key_place key) to → many ≡ length nodes + node_count to → LoadsFew (2 + root_loads b) s t
      → (k : SeesOwn s u) → Few k.part (6 + more + 4 * many - root_loads b)
  by_bucket zero has is nodes None path ends count first =
      let few = later nodes None (subst (λ (p : Place). IsPath (heap_of n t) p nodes None) (sym is) path) ends in
      join_trans Few join 2 (search_loads nodes None + (1 + more)) (6 + more + 4 * many - 0) s t u grew grows same (omega (arith, count)) first few
  by_bucket zero has is nodes (Some y) path ends count first =
      let few = later nodes (Some y) (subst (λ (p : Place). IsPath (heap_of n t) p nodes (Some y)) (sym is) path) ends in
      join_trans Few join 2 (search_loads nodes (Some y) + (1 + more)) (6 + more + 4 * many - 0) s t u grew grows same (omega (arith, count)) first few
  by_bucket (suc b) has is [] None path ends count first = absurd (no_start (heap_of n t) b has path)
  by_bucket (suc b) has is [] (Some y) path ends count first = absurd (not_there (heap_of n t) start (key_place key) y below (is y path) ends)
  by_bucket (suc b) has is (d ∷ nodes) None path ends count first =
      let few = later nodes None (subst (λ (p : Place). IsPath (heap_of n t) p nodes None) (sym (is d path.0)) path.1) ends in
      join_trans Few join 4 (search_loads nodes None + (1 + more)) (6 + more + 4 * many - 2) s t u grew grows same (omega (arith, count)) first few
  by_bucket (suc b) has is (d ∷ nodes) (Some y) path ends count first =
      let few = later nodes (Some y) (subst (λ (p : Place). IsPath (heap_of n t) p nodes (Some y)) (sym (is d path.0)) path.1) ends in
      join_trans Few join 4 (search_loads nodes (Some y) + (1 + more)) (6 + more + 4 * many - 2) s t u grew grows same (omega (arith, count)) first few

  pub turn_few : (bucket : ℕ) → LoadsFew (2 + root_loads bucket) s t → HasStart (heap_of n s) bucket
      → (SeesOwn s t → HasStart (heap_of n t) bucket → StartsAt (heap_of n t) bucket start)
      → ReachesIn (heap_of n s) bucket (key_place key) many → (k : SeesOwn s u) → Few k.part (6 + more + 4 * many - root_loads bucket)
  turn_few bucket first has starts r = λ k.
      let sees = own_sooner s t u grew grows k in
      let heap = few_heap n (2 + root_loads bucket) s t first sees in
      let there = subst (λ (h : Heap). HasStart h bucket) (sym heap) has in
      by_bucket bucket there (starts sees there) r.nodes r.to (subst (λ (h : Heap). IsPath h (Root bucket) r.nodes r.to) (sym heap) r.path)
      (subst (λ (h : Heap). MayEnd h (key_place key) r.to) (sym heap) r.ends) r.many_is first k

-- after turns that are over there were none
pub turns_few : (n : HeapNumbers) (Few : List (Event SplitNote) → ℕ → Type 0) → JoinsLoads Few → (given turns one two : ℕ) (s t u : Seat SplitNote)
    (own : List (Event SplitNote)) → AreOver (split_reading n) given turns s own t → IsPrefix t.seen u.seen
    → (t.seen ≡ s.seen → (k : SeesOwn t u) → Few k.part one) → one ≡ two → (k : SeesOwn s u) → Few k.part two
turns_few n Few join given turns one two s t u own o grows few is = λ k.
    let grew = puts_grow s t own o.made.puts in
    let seen = own_no_turns n given turns s t own o (own_sooner s t u grew grows k) in
    join_trans Few join 0 one two s t u grew grows o.made.puts.agent (omega (arith, is)) (few_none 0 s t (λ k. seen)) (few seen) k
