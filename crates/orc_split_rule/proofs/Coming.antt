-- The events of a set's calls are allowed in every later journal.
use Rattle.std.proofs.Common.{List, None, Option, Some, [], ap, false, inl, refl, subst, sym, true, ℕ, ◌*◌, ◌++◌, ◌<◌, ◌∷◌, ◌≡◌, ◌≤◌, slice_get}
use Rattle.std.proofs.lemmas.Bool.{false_from_ne_true}
use Rattle.orc_heap.proofs.Known.{linked_known}
use Rattle.orc_heap.proofs.Moved.{shown_node}
use Rattle.orc_heap.specs.Acts.{IsKnown}
use Rattle.orc_heap.specs.Allowed.{AllAllowed, AllowedLater, Later}
use Rattle.orc_heap.specs.Heap.{Heap, HeapNumbers, Node, link_to, null, shown}
use Rattle.orc_heap.specs.Journals.{event_by, run_heap}
use Rattle.orc_heap.specs.declared.events.Act.TheVariants.{Look, Move}
use Rattle.orc_heap.specs.declared.events.Event.{Event}
use Rattle.orc_heap.specs.declared.events.Link.{Link}
use Rattle.orc_heap.specs.declared.events.Place.{Place}
use Rattle.orc_heap.specs.declared.events.Place.TheVariants.{Next, Root}
use Rattle.orc_history.specs.SetHistory.{has}
use Rattle.orc_history.specs.declared.set.SetEntry.TheVariants.{Added, Asked, Removed}
use Rattle.orc_ordered_chains.specs.Chains.{IsAbove, IsChainPlace, IsOnChain, IsRun, MayLink, link_over}
use Rattle.orc_heap.proofs.Sides.{null_side}
use Rattle.orc_ordered_chains.proofs.Later.{above_later, chain_place_later, follows_later, follows_on_chain, run_later, run_target}
use Rattle.orc_ordered_chains.proofs.Linking.{may_link}
use Rattle.orc_ordered_chains.proofs.Paths.{absent}
use Rattle.orc_split_rule.specs.declared.split.SplitNote.{SplitNote}
use Rattle.orc_split_rule.specs.declared.split.SplitNote.TheVariants.{Anchor, Bucket, Entry, Grow, Unlink}
use Rattle.orc_split_rule.specs.SplitOrder.{dummy_place, key_place, split_order}
use Rattle.orc_split_rule.specs.SplitDiscipline.{HasKey, IsDummy, SplitHolds, SplitMay, greatest, set_after, size_at}
use Rattle.orc_split_rule.specs.Laws.Kept.{marked_next}
use Rattle.orc_split_rule.specs.Laws.Sets.{live_present, present_live}
use Rattle.orc_split_rule.specs.Laws.Values.{dummy_rank, key_rank, value_linked}
use Rattle.orc_split_rule.specs.Watches.{LeavesOut, StandsFor, node_to_link}
use Rattle.orc_split_rule.proofs.Later.{fresh_later, holds_later, may_fits, values_later}

-- a link that leaves out a split place goes on to do so
pub left_out_later : (n : HeapNumbers) (seen more : List (Event SplitNote)) (place : Place) (from : Link) (over : List ℕ) (to : Option ℕ) (rank : ℕ)
    → LeavesOut (run_heap n seen) place from over to rank → AllAllowed (SplitMay n) seen more → LeavesOut (run_heap n (seen ++ more)) place from over to rank
left_out_later n seen more place from over to rank out all = record {
  below = follows_later split_order n (SplitMay n) (may_fits n) (marked_next n) seen more place rank out.below all;
  unmarked = out.unmarked;
  run = run_later split_order n (SplitMay n) (may_fits n) (marked_next n) seen more from over to out.run all;
  above = above_later split_order n (SplitMay n) (may_fits n) (marked_next n) seen more to rank out.above all;
}

-- the key is absent where a place below it, with an unmarked link, leads over a run above it
pub key_absent : (n : HeapNumbers) (es : List (Event SplitNote)) (place : Place) (from : Link) (over : List ℕ) (to : Option ℕ) (key : ℕ) → SplitHolds n es
    → shown (run_heap n es) place ≡ Some from → LeavesOut (run_heap n es) place from over to (key_place key) → has key (set_after es) ≡ false
key_absent n es place from over to key holds at out =
    let h : Heap = run_heap n es in
    let (on, under) = follows_on_chain split_order h holds.chains place from (key_place key) out.below at out.unmarked in
    false_from_ne_true (has key (set_after es)) (λ is.
    let y = (holds.set key).0 is in
    absent split_order h holds.chains place from over to (key_place key) on under at out.run out.above y.id (present_live h key y))

-- and present where its node has an unmarked link
pub key_present : (n : HeapNumbers) (es : List (Event SplitNote)) (id key : ℕ) (link : Link) → SplitHolds n es → HasKey (run_heap n es) id key
    → shown (run_heap n es) (Next id) ≡ Some link → link.mark ≡ false
    → has key (set_after es) ≡ true
key_present n es id key link holds own at plain =
    let h : Heap = run_heap n es in
    (holds.set key).1 (live_present h holds.chains id key own (record { has_rank = key_rank h id key own; link = link; at = at; unmarked = plain }))

-- the agent's fresh node may be linked where the place shows the link
pub link_later : (n : HeapNumbers) (agent : ℕ) (place : Place) (from : Link) (over : List ℕ) (to : Option ℕ) (rank : ℕ) (fresh : ℕ) (node : Node)
    (seen : List (Event SplitNote)) → SplitHolds n seen → LeavesOut (run_heap n seen) place from over to rank
    → slice_get (run_heap n seen).nodes fresh ≡ Some node → node.giver ≡ agent → node.named ≡ false → node.linked ≡ false
    → split_order.rank node.first node.second ≡ Some rank → node.link ≡ link_over to → node.side ≡ null
    → (more : List (Event SplitNote)) → Later (SplitMay n) agent seen more → shown (run_heap n (seen ++ more)) place ≡ Some from
    → (a : MayLink split_order (run_heap n (seen ++ more)) place from (link_to fresh) rank) × (a.node ≡ node)
link_later n agent place from over to rank fresh node seen holds out there mine unnamed unlinked rank_is link_is side_is more later at =
    let es : List (Event SplitNote) = seen ++ more in
    let h : Heap = run_heap n es in
    let now = holds_later n seen more holds later.allowed in
    let still = fresh_later n agent fresh node seen more holds there mine unnamed unlinked later in
    let o = left_out_later n seen more place from over to rank out later.allowed in
    let target : node.link.to ≡ to = ap (λ (l : Link). l.to) link_is in (
      may_link split_order h place from over rank fresh node (follows_on_chain split_order h now.chains place from rank o.below at o.unmarked)
          o.unmarked still unlinked rank_is (ap (λ (l : Link). l.mark) link_is)
          (subst (λ (t : Option ℕ). IsRun h from over t) (sym target) o.run)
          (subst (λ (t : Option ℕ). IsAbove split_order h t rank) (sym target) o.above)
          (null_side h fresh node still side_is),
      refl,
    )

-- the agent's fresh node is known to it
known_fresh : (n : HeapNumbers) (agent fresh : ℕ) (node : Node) (seen more : List (Event SplitNote)) → SplitHolds n seen
    → slice_get (run_heap n seen).nodes fresh ≡ Some node → node.giver ≡ agent → node.named ≡ false → node.linked ≡ false
    → Later (SplitMay n) agent seen more → IsKnown agent (run_heap n (seen ++ more)) fresh
known_fresh n agent fresh node seen more holds there mine unnamed unlinked later = record {
  node = node;
  there = fresh_later n agent fresh node seen more holds there mine unnamed unlinked later;
  known = inl mine;
}

-- an Added true of the agent's fresh node
pub added_allowed : (n : HeapNumbers) (agent : ℕ) (place : Place) (from : Link) (over : List ℕ) (to : Option ℕ) (key fresh : ℕ)
    (seen : List (Event SplitNote)) → SplitHolds n seen → LeavesOut (run_heap n seen) place from over to (key_place key)
    → slice_get (run_heap n seen).nodes fresh ≡ Some (node_to_link agent key 1 to)
    → AllowedLater (SplitMay n) n agent seen place from (event_by agent (Move place from (link_to fresh)) (Some (Entry (Added agent key true))))
added_allowed n agent place from over to key fresh seen holds out there = λ more later at.
    let node : Node = node_to_link agent key 1 to in
    let (a, is) = link_later n agent place from over to (key_place key) fresh node seen holds out there refl refl refl refl refl refl more later at in
    record {
      fits = (at, known_fresh n agent fresh node seen more holds there refl refl refl later);
      may_act = (
        refl,
        record {
          links = a;
          first_is = ap (λ (x : Node). x.first) is;
          second_is = ap (λ (x : Node). x.second) is;
        },
      );
      own = refl;
    }

-- a Bucket of the agent's fresh node
pub bucket_allowed : (n : HeapNumbers) (agent : ℕ) (place : Place) (from : Link) (over : List ℕ) (to : Option ℕ) (bucket fresh : ℕ)
    (seen : List (Event SplitNote)) → SplitHolds n seen → 1 ≤ bucket → bucket < greatest n
    → LeavesOut (run_heap n seen) place from over to (dummy_place bucket)
    → slice_get (run_heap n seen).nodes fresh ≡ Some (node_to_link agent bucket 0 to)
    → AllowedLater (SplitMay n) n agent seen place from (event_by agent (Move place from (link_to fresh)) (Some Bucket))
bucket_allowed n agent place from over to bucket fresh seen holds low high out there = λ more later at.
    let node : Node = node_to_link agent bucket 0 to in
    let (a, is) = link_later n agent place from over to (dummy_place bucket) fresh node seen holds out there refl refl refl refl refl refl more later at in
    record {
      fits = (at, known_fresh n agent fresh node seen more holds there refl refl refl later);
      may_act = record {
        bucket = bucket;
        low = low;
        high = high;
        links = a;
        first_is = ap (λ (x : Node). x.first) is;
        second_is = ap (λ (x : Node). x.second) is;
      };
      own = tt;
    }

-- a Removed true of a once linked node with the key
pub removed_allowed : (n : HeapNumbers) (agent id key : ℕ) (from : Link) (seen : List (Event SplitNote)) → SplitHolds n seen → HasKey (run_heap n seen) id key
    → from.mark ≡ false
    → AllowedLater (SplitMay n) n agent seen (Next id) from
    (event_by agent (Move (Next id) from (record { to = from.to; mark = true })) (Some (Entry (Removed agent key true))))
removed_allowed n agent id key from seen holds own plain = λ more later at.
    let es : List (Event SplitNote) = seen ++ more in
    let now = holds_later n seen more holds later.allowed in
    let k = values_later n seen more id key 1 own later.allowed in
    record {
      fits = (
        at,
        run_target split_order n es agent (Next id) from [] from.to now.lawful now.chains (key_place key, key_rank (run_heap n es) id key k) at refl,
      );
      may_act = (refl, record { has_key = k; plain = plain; to_is = refl });
      own = refl;
    }

-- an Unlink of a run
pub unlink_allowed : (n : HeapNumbers) (agent : ℕ) (place : Place) (from : Link) (first : ℕ) (others : List ℕ) (to : Option ℕ) (seen : List (Event SplitNote))
    → SplitHolds n seen
    → IsChainPlace split_order (run_heap n seen) place → from.mark ≡ false → IsRun (run_heap n seen) from (first ∷ others) to
    → AllowedLater (SplitMay n) n agent seen place from (event_by agent (Move place from (link_over to)) (Some Unlink))
unlink_allowed n agent place from first others to seen holds l plain run = λ more later at.
    let es : List (Event SplitNote) = seen ++ more in
    let now = holds_later n seen more holds later.allowed in
    let linked = chain_place_later split_order n (SplitMay n) (may_fits n) (marked_next n) seen more place l later.allowed in
    let r = run_later split_order n (SplitMay n) (may_fits n) (marked_next n) seen more from (first ∷ others) to run later.allowed in
    record {
      fits = (at, run_target split_order n es agent place from (first ∷ others) to now.lawful now.chains linked at r);
      may_act = record { linked = linked; plain = plain; plain_after = refl; first = first; others = others; run = r };
      own = tt;
    }

-- a once linked dummy is on the chain
pub dummy_on_chain : (n : HeapNumbers) (es : List (Event SplitNote)) (id bucket : ℕ) → SplitHolds n es → IsDummy (run_heap n es) id bucket
    → IsOnChain (run_heap n es) 0 id
dummy_on_chain n es id bucket holds d =
    let h : Heap = run_heap n es in
    let at = shown_node h id d.node d.there in
    holds.chains.kept id (dummy_place bucket) d.node.link (dummy_rank h id bucket d) at (holds.buckets.plain_dummies id bucket d.node.link d at)

-- an Anchor of the dummy of a bucket
pub anchor_allowed : (n : HeapNumbers) (agent id bucket : ℕ) (seen : List (Event SplitNote)) → SplitHolds n seen → 1 ≤ bucket → bucket < greatest n
    → IsDummy (run_heap n seen) id bucket
    → AllowedLater (SplitMay n) n agent seen (Root bucket) null (event_by agent (Move (Root bucket) null (link_to id)) (Some Anchor))
anchor_allowed n agent id bucket seen holds low high dummy = λ more later at.
    let es : List (Event SplitNote) = seen ++ more in
    let now = holds_later n seen more holds later.allowed in
    let d = values_later n seen more id bucket 0 dummy later.allowed in
    record {
      fits = (at, linked_known n es agent id now.lawful (value_linked (run_heap n es) id bucket 0 d));
      may_act = record {
        low = low;
        high = high;
        from_is = refl;
        id = id;
        to_is = refl;
        dummy = d;
        on_chain = dummy_on_chain n es id bucket now d;
      };
      own = tt;
    }

-- a link of the last root stands for the same size
stands_later : (n : HeapNumbers) (seen more : List (Event SplitNote)) (to : Option ℕ) (size : ℕ) → StandsFor (run_heap n seen) to size
    → AllAllowed (SplitMay n) seen more → size_at (run_heap n (seen ++ more)) to ≡ size
stands_later n seen more None size is all = sym is
stands_later n seen more (Some id) size node all =
    let v = values_later n seen more id size 2 node all in
    rw (v.there, v.first_is) refl

-- a Grow to the agent's fresh size node
pub grow_allowed : (n : HeapNumbers) (agent size fresh : ℕ) (from : Link) (seen : List (Event SplitNote)) → SplitHolds n seen → 1 ≤ greatest n
    → from.mark ≡ false → StandsFor (run_heap n seen) from.to size → 2 * size ≤ greatest n
    → slice_get (run_heap n seen).nodes fresh ≡ Some (node_to_link agent (2 * size) 2 None)
    → AllowedLater (SplitMay n) n agent seen (Root (greatest n)) from (event_by agent (Move (Root (greatest n)) from (link_to fresh)) (Some Grow))
grow_allowed n agent size fresh from seen holds some plain stands fits there = λ more later at.
    let es : List (Event SplitNote) = seen ++ more in
    let h : Heap = run_heap n es in
    let node : Node = node_to_link agent (2 * size) 2 None in
    let still = fresh_later n agent fresh node seen more holds there refl refl refl later in
    let is : size_at h from.to ≡ size = stands_later n seen more from.to size stands later.allowed in
    record {
      fits = (at, record { node = node; there = still; known = inl refl });
      may_act = (
        refl,
        record {
          some = some;
          plain = plain;
          id = fresh;
          to_is = refl;
          node = node;
          there = still;
          unlinked = refl;
          first_is = rw is refl;
          second_is = refl;
          own_null = refl;
          side_null = null_side h fresh node still refl;
          most_is = rw is fits;
        },
      );
      own = tt;
    }

-- the answer that a key is absent
absent_later : (n : HeapNumbers) (agent : ℕ) (place : Place) (from : Link) (over : List ℕ) (to : Option ℕ) (key : ℕ) (seen : List (Event SplitNote))
    → SplitHolds n seen → LeavesOut (run_heap n seen) place from over to (key_place key)
    → (more : List (Event SplitNote)) → Later (SplitMay n) agent seen more → shown (run_heap n (seen ++ more)) place ≡ Some from
    → has key (set_after (seen ++ more)) ≡ false
absent_later n agent place from over to key seen holds out more later at =
    key_absent n (seen ++ more) place from over to key (holds_later n seen more holds later.allowed) at
    (left_out_later n seen more place from over to (key_place key) out later.allowed)

pub removed_absent_allowed : (n : HeapNumbers) (agent : ℕ) (place : Place) (from : Link) (over : List ℕ) (to : Option ℕ) (key : ℕ)
    (seen : List (Event SplitNote)) → SplitHolds n seen → LeavesOut (run_heap n seen) place from over to (key_place key)
    → AllowedLater (SplitMay n) n agent seen place from (event_by agent (Look place from) (Some (Entry (Removed agent key false))))
removed_absent_allowed n agent place from over to key seen holds out = λ more later at.
    record { fits = at; may_act = (refl, absent_later n agent place from over to key seen holds out more later at); own = refl }

pub asked_absent_allowed : (n : HeapNumbers) (agent : ℕ) (place : Place) (from : Link) (over : List ℕ) (to : Option ℕ) (key : ℕ)
    (seen : List (Event SplitNote)) → SplitHolds n seen → LeavesOut (run_heap n seen) place from over to (key_place key)
    → AllowedLater (SplitMay n) n agent seen place from (event_by agent (Look place from) (Some (Entry (Asked agent key false))))
asked_absent_allowed n agent place from over to key seen holds out = λ more later at.
    record { fits = at; may_act = sym (absent_later n agent place from over to key seen holds out more later at); own = refl }

-- the answer that a key is present
present_later : (n : HeapNumbers) (agent id key : ℕ) (link : Link) (seen : List (Event SplitNote)) → SplitHolds n seen → HasKey (run_heap n seen) id key
    → link.mark ≡ false → (more : List (Event SplitNote)) → Later (SplitMay n) agent seen more → shown (run_heap n (seen ++ more)) (Next id) ≡ Some link
    → has key (set_after (seen ++ more)) ≡ true
present_later n agent id key link seen holds own plain more later at =
    key_present n (seen ++ more) id key link (holds_later n seen more holds later.allowed) (values_later n seen more id key 1 own later.allowed) at plain

pub added_present_allowed : (n : HeapNumbers) (agent id key : ℕ) (link : Link) (seen : List (Event SplitNote)) → SplitHolds n seen
    → HasKey (run_heap n seen) id key → link.mark ≡ false
    → AllowedLater (SplitMay n) n agent seen (Next id) link (event_by agent (Look (Next id) link) (Some (Entry (Added agent key false))))
added_present_allowed n agent id key link seen holds own plain = λ more later at.
    record { fits = at; may_act = (refl, present_later n agent id key link seen holds own plain more later at); own = refl }

pub asked_present_allowed : (n : HeapNumbers) (agent id key : ℕ) (link : Link) (seen : List (Event SplitNote)) → SplitHolds n seen
    → HasKey (run_heap n seen) id key → link.mark ≡ false
    → AllowedLater (SplitMay n) n agent seen (Next id) link (event_by agent (Look (Next id) link) (Some (Entry (Asked agent key true))))
asked_present_allowed n agent id key link seen holds own plain = λ more later at.
    record { fits = at; may_act = sym (present_later n agent id key link seen holds own plain more later at); own = refl }
