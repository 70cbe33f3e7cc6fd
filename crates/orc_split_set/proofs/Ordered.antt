-- The discipline of the split-ordered set, as a search needs it.
use Rattle.std.proofs.Common.{Bool, List, None, Option, Some, [], ap, arith, false, refl, subst, suc, sym, true, zero, ℕ, ◌++◌, ◌<◌, ◌==◌, ◌∙◌, ◌≡◌, ◌^◌}
use Rattle.orc_heap.proofs.SingleActs.{some_same}
use Rattle.orc_heap.specs.Allowed.{AllAllowed, IsLinkedNode}
use Rattle.orc_heap.specs.Calls.{ReadsValue}
use Rattle.orc_heap.specs.Heap.{HeapNumbers, Node, shown}
use Rattle.orc_heap.specs.Journals.{run_heap}
use Rattle.orc_heap.specs.OwnEvents.{Puts}
use Rattle.orc_heap.specs.Seats.{Seat, heap_of}
use Rattle.orc_heap.specs.Slots.{Hold}
use Rattle.orc_heap.specs.declared.events.Event.{Event}
use Rattle.orc_heap.specs.declared.events.Link.{Link}
use Rattle.orc_heap.specs.declared.events.Place.{Place}
use Rattle.orc_ordered_chains.specs.Chains.{HasRank}
use Rattle.orc_ordered_search.specs.Reading.{Ordering, ordering_of}
use Rattle.orc_ordered_search.specs.Searches.{IsUncounted, left_place}
use Rattle.orc_ordered_search.specs.Steps.{BeginsPlain, IsNeverMarked, ReadsRank}
use Rattle.orc_ordered_search.proofs.Quiets.{values_on}
use Rattle.orc_split_rule.proofs.Later.{holds_later, values_later}
use Rattle.orc_split_rule.specs.SplitDiscipline.{SplitHolds, SplitMay}
use Rattle.orc_split_rule.specs.SplitOrder.{place_of, split_order}
use Rattle.orc_split_rule.specs.declared.split.SplitNote.{SplitNote}
use Rattle.orc_split_set.specs.Laws.Ordered.{split_ordered}
use Rattle.orc_split_set.specs.SplitSearches.{BeginsAt, IsDummyIfAny, says_key, split_place, split_reading}
use Rattle.orc_split_set.proofs.Reversing.{reversed_fits}

abbrev pub split_ordering : HeapNumbers → Ordering SplitNote
split_ordering n = ordering_of (split_ordered n)

-- a place of such a value is a number of 128 bits
pub rank_fits : (value : ℕ) (has_key : Bool) → value < 2 ^ 64 → split_place value has_key < 2 ^ 128
rank_fits value true less = omega (arith, reversed_fits value less)
rank_fits value false less = omega (arith, reversed_fits value less)

-- values that were read of a node on the chain give its place, and whether it has a key

place_read : (first second : Option ℕ) (place a b : ℕ) → place_of first second ≡ Some place → ((v : ℕ) → first ≡ Some v → a ≡ v)
    → ((v : ℕ) → second ≡ Some v → b ≡ v) → split_place a (b == 1) ≡ place
place_read None second place a b is one two = cc
place_read (Some f) None place a b is one two = cc
place_read (Some f) (Some zero) place a b is one two = rw (one f refl, two 0 refl) (some_same is)
place_read (Some f) (Some (suc zero)) place a b is one two = rw (one f refl, two 1 refl) (some_same is)
place_read (Some f) (Some (suc (suc s))) place a b is one two = cc

kind_read : (first second : Option ℕ) (rank b : ℕ) → place_of first second ≡ Some rank → ((v : ℕ) → second ≡ Some v → b ≡ v) → (b == 1) ≡ false
    → says_key second ≡ false
kind_read first None rank b is two isnt = refl
kind_read first (Some s) rank b is two isnt = subst (λ (x : ℕ). (x == 1) ≡ false) (two s refl) isnt

pub place_reads : (n : HeapNumbers) (id a b : ℕ) (t u v : Seat SplitNote) → IsLinkedNode (heap_of n t) id → Puts t [] u → ReadsValue (heap_of n u) id 0 a
    → Puts u [] v → ReadsValue (heap_of n v) id 1 b → AllAllowed (SplitMay n) [] u.seen → AllAllowed (SplitMay n) [] v.seen
    → ReadsRank (split_reading n) id (split_place a (b == 1)) (b == 1) v
place_reads n id a b t u v linked one read_one two read_two all_u all_v = record { rank = place; kind = kind }
  where
    first_read : (own : IsLinkedNode (heap_of n v) id) (x : ℕ) → own.node.first ≡ Some x → a ≡ x
    first_read own x is =
        let (l, first, second) = (values_on (split_ordering n) t u [] one all_u).stays id linked in
        let (m, again, other) = (values_on (split_ordering n) u v [] two all_v).stays id l in
        let here : read_one.node ≡ l.node = some_same (sym read_one.there ∙ l.there) in
        let there : m.node ≡ own.node = some_same (sym m.there ∙ own.there) in
        read_one.is x (ap (λ (y : Node). y.first) here ∙ (sym again ∙ (ap (λ (y : Node). y.first) there ∙ is)))

    second_read : (own : IsLinkedNode (heap_of n v) id) (x : ℕ) → own.node.second ≡ Some x → b ≡ x
    second_read own x is =
        let here : read_two.node ≡ own.node = some_same (sym read_two.there ∙ own.there) in
        read_two.is x (ap (λ (y : Node). y.second) here ∙ is)

    place : (rank : ℕ) → HasRank split_order (heap_of n v) id rank → split_place a (b == 1) ≡ rank
    place rank own =
        let l : IsLinkedNode (heap_of n v) id = record { node = own.node; there = own.there; linked = own.linked } in
        place_read own.node.first own.node.second rank a b own.rank_is (first_read l) (second_read l)

    kind : (rank : ℕ) → HasRank split_order (heap_of n v) id rank → (b == 1) ≡ false → IsUncounted (split_reading n) (heap_of n v) id
    kind rank own isnt =
        let l : IsLinkedNode (heap_of n v) id = record { node = own.node; there = own.there; linked = own.linked } in
        (l, kind_read own.node.first own.node.second rank b own.rank_is (second_read l) isnt)

-- the link at which a search begins is never marked
never_marked : (n : HeapNumbers) (start : Place) (wanted : ℕ) (left : Option Hold) (s t : Seat SplitNote) → SplitHolds n t.seen
    → BeginsAt n start wanted left s t → IsNeverMarked (split_reading n) (SplitMay n) t.seen start
never_marked n start wanted left s t holds b = λ more all link at.
    let now = holds_later n t.seen more holds all in
    by_left left b.begins.start_is b.dummy more all now link at
  where
    by_left : (left : Option Hold) → start ≡ left_place 0 left b.begins.left_id → IsDummyIfAny (heap_of n t) left b.begins.left_id
        → (more : List (Event SplitNote)) → AllAllowed (SplitMay n) t.seen more → SplitHolds n (t.seen ++ more)
        → (link : Link) → shown (run_heap n (t.seen ++ more)) start ≡ Some link → link.mark ≡ false
    by_left None is d more all now link at =
        now.buckets.plain_roots 0 link (subst (λ (z : Place). shown (run_heap n (t.seen ++ more)) z ≡ Some link) is at)
    by_left (Some h) is (bucket, d) more all now link at =
        now.buckets.plain_dummies b.begins.left_id bucket link (values_later n t.seen more b.begins.left_id bucket 0 d all)
        (subst (λ (z : Place). shown (run_heap n (t.seen ++ more)) z ≡ Some link) is at)

pub begins_plain : (n : HeapNumbers) (start : Place) (wanted : ℕ) (left : Option Hold) (s t : Seat SplitNote) → SplitHolds n t.seen
    → BeginsAt n start wanted left s t → BeginsPlain (split_reading n) (SplitMay n) start wanted left s t
begins_plain n start wanted left s t holds b = record { begins = b.begins; plain = never_marked n start wanted left s t holds b }
