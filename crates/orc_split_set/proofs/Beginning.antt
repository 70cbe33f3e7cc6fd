-- Looks of the other roots: a bucket's root tells where a search may begin, and the last one the size.
use Rattle.std.proofs.Common.{List, None, Some, [], ap, arith, inl, inr, refl, subst, sym, ℕ, ◌++◌, ◌%◌, ◌*◌, ◌+◌, ◌/◌, ◌<◌, ◌∙◌, ◌∷◌, ◌≡◌, ◌≤◌, ◌^◌, suc, zero}
use Rattle.std.proofs.Math.Nat.{mod-lt}
use Rattle.std.proofs.Math.Pow.{mod-mod-pow}
use Rattle.std.specs.List.{slice_get, slice_set}
use Rattle.orc_heap.proofs.Calls.{Puts-stood}
use Rattle.orc_heap.proofs.Hands.{hands_take}
use Rattle.orc_heap.proofs.Moments.{look_found, seen_is, since}
use Rattle.orc_heap.proofs.SingleActs.{some_same}
use Rattle.orc_heap.specs.Allowed.{AllAllowed}
use Rattle.orc_heap.specs.Calls.{Looks, Tells, event_of}
use Rattle.orc_heap.specs.Heap.{Heap, HeapNumbers, shown}
use Rattle.orc_heap.specs.Journals.{run_heap}
use Rattle.orc_heap.specs.OwnEvents.{Puts}
use Rattle.orc_heap.specs.Seats.{Seat, heap_of}
use Rattle.orc_heap.specs.Slots.{Hold, Slots}
use Rattle.orc_heap.specs.Hands.{Hands, hand}
use Rattle.orc_heap.specs.declared.events.Act.TheVariants.{Look}
use Rattle.orc_heap.specs.declared.events.Event.{Event}
use Rattle.orc_heap.specs.declared.events.Link.{Link}
use Rattle.orc_heap.specs.declared.events.Place.{Place}
use Rattle.orc_heap.specs.declared.events.Place.TheVariants.{Next, Root, Side}
use Rattle.orc_heap.specs.declared.holds.Looked.TheVariants.{Moved as LookedMoved, Stable}
use Rattle.orc_heap.specs.declared.holds.Seen.{Seen}
use Rattle.orc_ordered_chains.proofs.Paths.{leads_one}
use Rattle.orc_ordered_chains.specs.Chains.{FollowsOn, LeadsTo}
use Rattle.orc_ordered_search.specs.Searches.{FindsMoved, HasRoom, Quiet}
use Rattle.orc_ordered_search.proofs.Preceding.{finds_after, quiet_trans}
use Rattle.orc_split_rule.proofs.Later.{holds_later, may_fits, values_later}
use Rattle.orc_split_rule.proofs.Reversed.{low_before, low_first}
use Rattle.orc_split_rule.proofs.Sizes.{size_later}
use Rattle.orc_split_rule.specs.Laws.Values.{dummy_rank}
use Rattle.orc_split_rule.specs.SplitDiscipline.{HasValues, IsDummy, IsSize, SplitHolds, SplitMay, greatest, size_of}
use Rattle.orc_split_rule.specs.SplitOrder.{bucket_of, dummy_place, reversed, split_order}
use Rattle.orc_split_rule.specs.declared.split.SplitNote.{SplitNote}
use Rattle.orc_split_set.specs.Beginnings.{BeginsKey, BeginsNear, BeginsByBucket, Held, MayBeginAt, StartsIf, seat_before}
use Rattle.orc_split_set.specs.Crowds.{BeginsBy, SeesOwn}
use Rattle.orc_split_set.specs.Looks.{HasStart, StartsAt}
use Rattle.orc_split_set.specs.NewNodes.{place_for, node_value}
use Rattle.orc_split_set.specs.SplitSearches.{split_reading}
use Rattle.orc_split_set.specs.declared.begin.Begun.{Begun}
use Rattle.orc_split_set.specs.declared.begin.Begun.TheVariants.{From, Moved as BegunMoved}
use Rattle.orc_split_set.specs.declared.node.NewNode.{NewNode}
use Rattle.orc_split_set.specs.declared.node.NewNode.TheVariants.{Dummy, Key}
use Rattle.orc_split_set.proofs.Crowding.{own_later, own_unmoved, puts_grow}
use Rattle.orc_split_set.proofs.RootLooks.{look_moved, null_held, two_looks}

-- what a Look of a root found of a node's values where it stands is so at the end
pub root_tells : (n : HeapNumbers) (s t : Seat SplitNote) (root : ℕ) (link : Link) (before rest : List (Event SplitNote)) (id : ℕ) (P : ℕ → Type 0) (second : ℕ)
    → SplitHolds n s.seen → Puts s (before ++ event_of s (Look (Root root) link) None ∷ rest) t → AllAllowed (SplitMay n) [] t.seen → link.to ≡ Some id
    → ((es : List (Event SplitNote)) → SplitHolds n es → LeadsTo (run_heap n es) (Root root) (Some id)
    → (first : ℕ) × HasValues (run_heap n es) id first second × P first)
    → (first : ℕ) × HasValues (heap_of n t) id first second × P first
root_tells n s t root link before rest id P second holds p all to_is tells =
    let e : Event SplitNote = event_of s (Look (Root root) link) None in
    let m = Puts-stood (SplitMay n) s t before e rest p all in
    let es : List (Event SplitNote) = s.seen ++ m.before in
    let now = holds_later n s.seen m.before holds m.first in
    let (first, values, more) = tells es now (record { link = link; at = may_fits n es e m.here; to_is = to_is }) in
    (first, subst (λ z. HasValues (run_heap n z) id first second) (sym (p.is ∙ seen_is m)) (values_later n es (e ∷ m.later) id first second values (since m)), more)

-- what a Look of the size's root found stands for a size that lies between those before and after
pub size_was : (n : HeapNumbers) (s t : Seat SplitNote) (link : Link) (before rest : List (Event SplitNote)) (size : ℕ) → 1 ≤ greatest n → SplitHolds n s.seen
    → Puts s (before ++ event_of s (Look (Root (greatest n)) link) None ∷ rest) t → AllAllowed (SplitMay n) [] t.seen
    → ((es more : List (Event SplitNote)) → SplitHolds n es → AllAllowed (SplitMay n) es more → es ++ more ≡ t.seen
    → shown (run_heap n es) (Root (greatest n)) ≡ Some link → size_of n es ≡ size)
    → (size_of n s.seen ≤ size) × (size ≤ size_of n t.seen)
size_was n s t link before rest size some holds p all stands =
    let e : Event SplitNote = event_of s (Look (Root (greatest n)) link) None in
    let m = Puts-stood (SplitMay n) s t before e rest p all in
    let es : List (Event SplitNote) = s.seen ++ m.before in
    let now = holds_later n s.seen m.before holds m.first in
    let is : t.seen ≡ es ++ e ∷ m.later = p.is ∙ seen_is m in
    let here = stands es (e ∷ m.later) now (since m) (sym is) (may_fits n es e m.here) in
    let low = size_later n s.seen m.before some holds m.first in
    let high = size_later n es (e ∷ m.later) some now (since m) in
    let after : size_of n (es ++ e ∷ m.later) ≡ size_of n t.seen = ap (λ z. size_of n z) (sym is) in
    (omega (arith, low, here), omega (arith, high, here, after))

-- the dummy of the bucket of a number, where there are so many buckets, lies below the node
below_new : (h : Heap) (id i : ℕ) (new : NewNode) → 0 < 2 ^ i → MayBeginAt new (2 ^ i) → IsDummy h id (node_value new % 2 ^ i)
    → FollowsOn split_order h (Next id) (place_for new)
below_new h id i (Key key) some may d = (dummy_place (key % 2 ^ i), dummy_rank h id (key % 2 ^ i) d, omega (arith, low_first key i), refl)
below_new h id i (Dummy bucket) some may d =
    let less : reversed (bucket % 2 ^ i) < reversed bucket =
    low_before bucket i (λ same. omega (arith, same, may, mod-lt bucket some)) in
    (dummy_place (bucket % 2 ^ i), dummy_rank h id (bucket % 2 ^ i) d, omega (arith, less), refl)

-- a search that begins at root 0 begins where the first bucket does, and one at a node that the bucket's root names where that one does

starts_first : (h : Heap) (bucket : ℕ) → bucket ≡ 0 → StartsAt h bucket (Root 0)
starts_first h bucket is = subst (λ (b : ℕ). StartsAt h b (Root 0)) (sym is) refl

starts_there : (h : Heap) (bucket id : ℕ) → 1 ≤ bucket → LeadsTo h (Root bucket) (Some id) → StartsAt h bucket (Next id)
starts_there h zero id low leads = absurd (omega (arith, low))
starts_there h (suc bucket) id low leads = λ other there. ap (λ (i : ℕ). Next i) (some_same (leads_one h (Root (suc bucket)) (Some id) (Some other) leads there))

-- the pass's loads are the same, by what it held before
quiet_before : (n : HeapNumbers) (s t : Seat SplitNote) (own : List (Event SplitNote)) (p : Puts s own t) → Quiet (split_reading n) s own t
    → Quiet (split_reading n) s own (seat_before s t)
quiet_before n s t own p q = record {
  puts = record { part = q.puts.part; is = q.puts.is; agent = refl; own_is = q.puts.own_is };
  fresh = refl;
  loads = q.loads;
  some = q.some;
  no_entries = q.no_entries;
  no_give = q.no_give;
  no_move = q.no_move;
}

module _ (n : HeapNumbers) (new : NewNode) (s t : Seat SplitNote) (own : List (Event SplitNote)) (q : Quiet (split_reading n) s own t)
    (same : t.slots ≡ s.slots) where
  -- a search from root 0
  pub from_root : (size : ℕ) → (SeesOwn s t → HasStart (heap_of n t) (bucket_of (node_value new) size) → bucket_of (node_value new) size ≡ 0)
      → BeginsByBucket n new size s (From None) t
  from_root size first = record {
    own = own;
    quiet = quiet_before n s t own q.puts q;
    start = Root 0;
    near = (refl, λ sees has. starts_first (heap_of n t) (bucket_of (node_value new) size) (first sees has));
    begins = record {
      begins = record {
        left_id = 0;
        agent = q.puts.agent;
        seen = refl;
        fresh = q.fresh;
        hands = subst (λ (z : Slots). Hands s.slots z (hand None 0 ∷ [])) (sym same)
            (record { same_length = refl; others = λ slot apart. refl; held = (tt, tt) });
        apart = (tt, tt);
        start_is = refl;
        begins = refl;
        below = refl;
      };
      dummy = tt;
    };
  }

  -- a root that was null
  pub root_null : (u : Seat SplitNote) (bucket : ℕ) (seen : Seen) → Looks (Root bucket) 2 t (Stable seen None) u → Held n s u
  root_null u bucket seen looks =
      let k = null_held n t u bucket seen looks in
      record { own = own ++ k.own; quiet = quiet_trans (split_reading n) s t u own k.own q k.quiet; slots = k.slots ∙ same }

  -- a root that moved meanwhile
  pub root_moved : (u : Seat SplitNote) (bucket : ℕ) → Looks (Root bucket) 2 t LookedMoved u → AllAllowed (SplitMay n) [] u.seen
      → FindsMoved (split_reading n) s u
  root_moved u bucket looks all = finds_after (split_reading n) s t u own q same (look_moved n bucket t u looks all)

  -- a root that names a dummy, at whose link the search begins
  pub root_dummy : (u : Seat SplitNote) (bucket i : ℕ) (seen : Seen) (h : Hold) → SplitHolds n t.seen → AllAllowed (SplitMay n) [] u.seen
      → HasRoom t.slots → 1 ≤ bucket → bucket < greatest n → 0 < 2 ^ i → MayBeginAt new (2 ^ i) → bucket ≡ node_value new % 2 ^ i
      → Looks (Root bucket) 2 t (Stable seen (Some h)) u → BeginsByBucket n new (2 ^ i) s (From (Some h)) u
  root_dummy u bucket i seen h holds all room some less many may is looks = by_next looks.tells
    where
      by_next : Tells (Root bucket) 2 t (Stable seen (Some h)) u → BeginsByBucket n new (2 ^ i) s (From (Some h)) u
      by_next (id, one, more, marked, null, at_slot, slots, puts) =
          let link : Link = record { to = Some id; mark = seen.mark } in
          let ys : List (Event SplitNote) = event_of t (Look (Root bucket) one) None ∷ event_of t (Look (Root bucket) link) None ∷ [] in
          let (first, dummy, same_bucket) = root_tells n t u bucket link (event_of t (Look (Root bucket) one) None ∷ []) [] id (λ (x : ℕ). x ≡ bucket) 0 holds
          puts all refl (λ es now leads. (bucket, now.buckets.anchors bucket id some less leads, refl)) in
          let d : IsDummy (heap_of n u) id (node_value new % 2 ^ i) = subst (λ (x : ℕ). IsDummy (heap_of n u) id x) (same_bucket ∙ is) dummy in
          let whole = quiet_trans (split_reading n) s t u own ys q (two_looks n bucket t u one link puts looks.fresh) in
          let free : slice_get s.slots 2 ≡ Some None = subst (λ (z : Slots). slice_get z 2 ≡ Some None) same room.two.empty in
          record {
            own = own ++ ys;
            quiet = quiet_before n s u (own ++ ys) whole.puts whole;
            start = Next id;
            near = (
              (node_value new % 2 ^ i, d, omega arith),
              λ sees has.
                  let found = look_found n (SplitMay n) (may_fits n) t u (Root bucket) link None
                  (event_of t (Look (Root bucket) one) None ∷ []) [] puts all tt in
                  let last = own_later s t u (puts_grow s t own q.puts) (puts_grow t u ys puts) q.puts.agent sees in
                  let leads : LeadsTo (heap_of n u) (Root bucket) (Some id) = elim found [
                    | inl shows ↦ record { link = link; at = shows; to_is = refl }
                    | inr moved ↦ absurd (own_unmoved t u ys puts refl moved last)
                  ] in
                  subst (λ (b : ℕ). StartsAt (heap_of n u) b (Next id)) is (starts_there (heap_of n u) bucket id some leads),
            );
            begins = record {
              begins = record {
                left_id = id;
                agent = puts.agent ∙ q.puts.agent;
                seen = refl;
                fresh = looks.fresh ∙ q.fresh;
                hands = hands_take s.slots s.slots u.slots [] h id (record { same_length = refl; others = λ j a. refl; held = tt }) tt
                    (subst (λ (j : ℕ). slice_get s.slots j ≡ Some None) (sym at_slot) free)
                    (subst (λ (j : ℕ). u.slots ≡ slice_set s.slots j (Some (record { row = h.row; id = id }))) (sym at_slot)
                    (subst (λ (z : Slots). u.slots ≡ slice_set z 2 (Some (record { row = h.row; id = id }))) same slots));
                apart = ((λ e. omega (arith, e, at_slot)), tt);
                start_is = refl;
                begins = (dummy_place (node_value new % 2 ^ i), dummy_rank (heap_of n u) id (node_value new % 2 ^ i) d);
                below = below_new (heap_of n u) id i new many may d;
              };
              dummy = (node_value new % 2 ^ i, d);
            };
          }

-- half as many buckets, a power of two again

pub half_size : (most size i : ℕ) → 2 ≤ size → size ≡ 2 ^ i → size ≤ most → IsSize most (size / 2)
half_size most size zero two is low = absurd (omega (arith, two, is))
half_size most size (suc i) two is low = (omega (arith, low), i, halved)
  where
    double : 2 ^ suc i ≡ 2 * 2 ^ i
    double = grind (arith)

    halved : size / 2 ≡ 2 ^ i
    halved = omega (arith, is, double)

pub half_begins : (new : NewNode) (size : ℕ) → MayBeginAt new size → MayBeginAt new (size / 2)
half_begins (Key key) size may = tt
half_begins (Dummy bucket) size may = omega (arith, may)

-- by the size that was computed
pub root_at : (n : HeapNumbers) (new : NewNode) (s t : Seat SplitNote) (own : List (Event SplitNote)) (q : Quiet (split_reading n) s own t)
    (same : t.slots ≡ s.slots) (u : Seat SplitNote) (value size most : ℕ) (seen : Seen) (h : Hold) → SplitHolds n t.seen → AllAllowed (SplitMay n) [] u.seen
    → HasRoom t.slots → IsSize (greatest n) size → 2 ≤ size → MayBeginAt new size → value ≡ node_value new → most ≡ size → size / 2 ≤ value % most
    → Looks (Root (value % most)) 2 t (Stable seen (Some h)) u → BeginsByBucket n new size s (From (Some h)) u
root_at n new s t own q same u value size most seen h holds all room (low, i, is) two may value_is most_is high looks =
    let many : 0 < 2 ^ i = omega (arith, two, is) in
    let less : value % most < most = mod-lt value (omega (arith, two, most_is)) in
    subst (λ (x : ℕ). BeginsByBucket n new x s (From (Some h)) u) (sym is)
    (root_dummy n new s t own q same u (value % most) i seen h holds all room (omega (arith, two, high)) (omega (arith, less, low, most_is)) many
    (subst (λ (x : ℕ). MayBeginAt new x) is may) (ap (λ (x : ℕ). x % most) value_is ∙ ap (λ (x : ℕ). node_value new % x) (most_is ∙ is)) looks)

-- half as many buckets begin no later
pub half_by : (value size i : ℕ) → 2 ≤ size → size ≡ 2 ^ i → dummy_place (bucket_of value (size / 2)) ≤ dummy_place (bucket_of value size)
half_by value size zero two is = absurd (omega (arith, two, is))
half_by value size (suc i) two is =
    let double : 2 ^ suc i ≡ 2 * 2 ^ i = grind (arith) in
    let e : 1 + i ≡ suc i = omega arith in
    let half : size / 2 ≡ 2 ^ i = omega (arith, is, double) in
    let twice : value % 2 ^ suc i % 2 ^ i ≡ value % 2 ^ i = subst (λ (x : ℕ). value % 2 ^ x % 2 ^ i ≡ value % 2 ^ i) e (mod-mod-pow value 1 i) in
    let low : reversed (value % 2 ^ i) ≤ reversed (value % 2 ^ suc i) =
    subst (λ (x : ℕ). reversed x ≤ reversed (value % 2 ^ suc i)) twice (low_first (value % 2 ^ suc i) i) in
    let one : value % (size / 2) ≡ value % 2 ^ i = ap (λ (x : ℕ). value % x) half in
    let other : value % size ≡ value % 2 ^ suc i = ap (λ (x : ℕ). value % x) is in
    subst (λ (x : ℕ). dummy_place x ≤ dummy_place (value % size)) (sym one)
    (subst (λ (x : ℕ). dummy_place (value % 2 ^ i) ≤ dummy_place x) (sym other) (omega (arith, low)))

by_later : (h : Heap) (start : Place) (bucket other : ℕ) → dummy_place bucket ≤ dummy_place other → BeginsBy h start bucket → BeginsBy h start other
by_later h (Root r) bucket other low is = is
by_later h (Next id) bucket other low (old, d, less) = (old, d, omega (arith, less, low))
by_later h (Side id) bucket other low bad = bad

-- what is so of where a search begins
near_on : (n : HeapNumbers) (new : NewNode) (Near Far : Place → Type 0) → ((start : Place) → Near start → Far start) → (s t : Seat SplitNote) (begun : Begun)
    → BeginsNear n new Near s begun t → BeginsNear n new Far s begun t
near_on n new Near Far go s t BegunMoved f = f
near_on n new Near Far go s t (From left) b =
    record { own = b.own; quiet = b.quiet; start = b.start; begins = b.begins; near = go b.start b.near }

-- where fewer buckets begin no later, and the node's is the same if it has a start
pub begins_later : (n : HeapNumbers) (new : NewNode) (fewer size : ℕ)
    → dummy_place (bucket_of (node_value new) fewer) ≤ dummy_place (bucket_of (node_value new) size) → (s t : Seat SplitNote)
    → (SeesOwn s t → HasStart (heap_of n t) (bucket_of (node_value new) size) → bucket_of (node_value new) size ≡ bucket_of (node_value new) fewer)
    → (begun : Begun) → BeginsByBucket n new fewer s begun t → BeginsByBucket n new size s begun t
begins_later n new fewer size low s t same begun b =
    let h = heap_of n t in
    let one = bucket_of (node_value new) fewer in
    let two = bucket_of (node_value new) size in
    near_on n new (λ start. BeginsBy h start one × StartsIf n s t one start) (λ start. BeginsBy h start two × StartsIf n s t two start)
    (λ start near. (
      by_later h start one two low near.0,
      λ sees has. (let is = same sees has in subst (λ (x : ℕ). StartsAt h x start) (sym is) (near.1 sees (subst (λ (x : ℕ). HasStart h x) is has))),
    )) s t begun b

-- a key's search, where the size that was read is the one before the call, if the pass saw only own events
pub begins_key : (n : HeapNumbers) (key size : ℕ) (s t : Seat SplitNote) (begun : Begun) → (SeesOwn s t → size ≡ size_of n s.seen)
    → BeginsByBucket n (Key key) size s begun t → BeginsKey n key s begun t
begins_key n key size s t begun same b =
    let h = heap_of n t in
    near_on n (Key key) (λ start. BeginsBy h start (bucket_of key size) × StartsIf n s t (bucket_of key size) start)
    (λ start. SeesOwn s t → BeginsBy h start (bucket_of key (size_of n s.seen))
    × (HasStart h (bucket_of key (size_of n s.seen)) → StartsAt h (bucket_of key (size_of n s.seen)) start))
    (λ start near sees. subst (λ (z : ℕ). BeginsBy h start (bucket_of key z) × (HasStart h (bucket_of key z) → StartsAt h (bucket_of key z) start)) (same sees)
    (near.0, λ has. near.1 sees has)) s t begun b
