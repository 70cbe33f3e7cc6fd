-- The events of a list's calls are allowed in every later journal.
use Rattle.std.proofs.Common.{List, Option, Some, [], false, inl, refl, sym, true, ℕ, ◌++◌, ◌∷◌, ◌≡◌, slice_get}
use Rattle.std.proofs.lemmas.Bool.{false_from_ne_true}
use Rattle.orc_heap.proofs.Fresh.{node_later}
use Rattle.orc_heap.proofs.Sides.{null_side}
use Rattle.orc_heap.specs.Allowed.{AllowedLater, Later}
use Rattle.orc_heap.specs.Heap.{Heap, HeapNumbers, shown, link_to}
use Rattle.orc_heap.specs.Journals.{event_by, run_heap}
use Rattle.orc_heap.specs.declared.events.Act.TheVariants.{Look, Move}
use Rattle.orc_heap.specs.declared.events.Event.{Event}
use Rattle.orc_heap.specs.declared.events.Link.{Link}
use Rattle.orc_heap.specs.declared.events.Place.{Place}
use Rattle.orc_heap.specs.declared.events.Place.TheVariants.{Next}
use Rattle.orc_history.specs.SetHistory.{has}
use Rattle.orc_history.specs.declared.set.SetEntry.TheVariants.{Added, Asked, Removed}
use Rattle.orc_chain_rule.specs.declared.chain.ChainNote.{ChainNote}
use Rattle.orc_chain_rule.specs.declared.chain.ChainNote.TheVariants.{Entry, Unlink}
use Rattle.orc_ordered_chains.specs.Chains.{IsRun, link_over}
use Rattle.orc_ordered_chains.proofs.Later.{chain_place_later, follows_on_chain, run_target}
use Rattle.orc_ordered_chains.proofs.Linking.{may_link}
use Rattle.orc_ordered_chains.proofs.Paths.{absent}
use Rattle.orc_chain_rule.specs.ChainDiscipline.{ChainHolds, ChainMay, FollowsOn, HasKey, IsAbove, IsChainPlace, chain_order, set_after}
use Rattle.orc_chain_rule.specs.Watches.{node_to_add}
use Rattle.orc_chain_rule.specs.Laws.Kinds.{keyed_place}
use Rattle.orc_chain_rule.specs.Laws.Kept.{chain_keeps, chain_moves_linked, marked_next}
use Rattle.orc_chain_rule.specs.Laws.Sets.{live_present, present_live}
use Rattle.orc_chain_rule.proofs.Later.{above_later, follows_later, holds_later, key_later, may_fits, run_later}

-- the key is absent where a place below it, with an unmarked link, leads over a run above it
pub key_absent : (n : HeapNumbers) (es : List (Event ChainNote)) (place : Place) (from : Link) (over : List ℕ) (to : Option ℕ) (key : ℕ) → ChainHolds n es
    → FollowsOn n.roots (run_heap n es) place key
    → shown (run_heap n es) place ≡ Some from → from.mark ≡ false → IsRun (run_heap n es) from over to → IsAbove (run_heap n es) to key
    → has key (set_after es) ≡ false
key_absent n es place from over to key holds f at plain run above =
    let h : Heap = run_heap n es in
    let c = holds.chains in
    let o = chain_order n.roots in
    let (on, under) = follows_on_chain o h c.ordered place from key f at plain in
    false_from_ne_true (has key (set_after es)) (λ is.
    let y = (c.set key).0 is in
    absent o h c.ordered place from over to key on under at run above y.id (present_live n.roots h key y))

-- and present where its node has an unmarked link
pub key_present : (n : HeapNumbers) (es : List (Event ChainNote)) (id key : ℕ) (link : Link) → ChainHolds n es → HasKey (run_heap n es) id key
    → shown (run_heap n es) (Next id) ≡ Some link → link.mark ≡ false
    → has key (set_after es) ≡ true
key_present n es id key link holds own at plain =
    let c = holds.chains in
    (c.set key).1 (live_present n.roots (run_heap n es) c.ordered id key (record { has_rank = own; link = link; at = at; unmarked = plain }))

-- an Added true of the agent's fresh node
pub added_allowed : (n : HeapNumbers) (agent : ℕ) (place : Place) (from : Link) (over : List ℕ) (to : Option ℕ) (key second fresh : ℕ)
    (seen : List (Event ChainNote)) → ChainHolds n seen
    → FollowsOn n.roots (run_heap n seen) place key → from.mark ≡ false → IsRun (run_heap n seen) from over to → IsAbove (run_heap n seen) to key
    → slice_get (run_heap n seen).nodes fresh ≡ Some (node_to_add agent key second to)
    → AllowedLater (ChainMay n) n agent seen place from (event_by agent (Move place from (link_to fresh)) (Some (Entry (Added agent key true))))
added_allowed n agent place from over to key second fresh seen holds f plain run above there = λ more later at.
    let es : List (Event ChainNote) = seen ++ more in
    let h : Heap = run_heap n es in
    let now = holds_later n seen more holds later.allowed in
    let node =
    node_later n (ChainHolds n) (ChainMay n) (chain_keeps n) (λ es e holds may. may.fits) (chain_moves_linked n) agent fresh
    (node_to_add agent key second to) seen more holds there refl refl refl later in
    let o = chain_order n.roots in
    record {
      fits = (at, record { node = node_to_add agent key second to; there = node; known = inl refl });
      may_act = (
        refl,
        may_link o h place from over key fresh (node_to_add agent key second to)
            (follows_on_chain o h now.chains.ordered place from key (follows_later n seen more n.roots place key f later.allowed) at plain)
            plain node refl refl refl (run_later n seen more from over to run later.allowed) (above_later n seen more to key above later.allowed)
            (null_side h fresh (node_to_add agent key second to) node refl),
      );
      own = refl;
    }

-- a Removed true of a once linked node with the key
pub removed_allowed : (n : HeapNumbers) (agent id key : ℕ) (from : Link) (seen : List (Event ChainNote)) → ChainHolds n seen → HasKey (run_heap n seen) id key
    → from.mark ≡ false
    → AllowedLater (ChainMay n) n agent seen (Next id) from
    (event_by agent (Move (Next id) from (record { to = from.to; mark = true })) (Some (Entry (Removed agent key true))))
removed_allowed n agent id key from seen holds own plain = λ more later at.
    let es : List (Event ChainNote) = seen ++ more in
    let now = holds_later n seen more holds later.allowed in
    let k = key_later n seen more id key own later.allowed in
    record {
      fits = (at, run_target (chain_order n.roots) n es agent (Next id) from [] from.to now.lawful now.chains.ordered (key, k) at refl);
      may_act = (refl, record { has_key = k; plain = plain; to_is = refl });
      own = refl;
    }

-- an Unlink of a run
pub unlink_allowed : (n : HeapNumbers) (agent : ℕ) (place : Place) (from : Link) (first : ℕ) (others : List ℕ) (to : Option ℕ) (seen : List (Event ChainNote))
    → ChainHolds n seen
    → IsChainPlace place (run_heap n seen) → from.mark ≡ false → IsRun (run_heap n seen) from (first ∷ others) to
    → AllowedLater (ChainMay n) n agent seen place from (event_by agent (Move place from (link_over to)) (Some Unlink))
unlink_allowed n agent place from first others to seen holds l plain run = λ more later at.
    let o = chain_order n.roots in
    let es : List (Event ChainNote) = seen ++ more in
    let now = holds_later n seen more holds later.allowed in
    let linked =
    chain_place_later o n (ChainMay n) (may_fits n) (marked_next n) seen more place (keyed_place n.roots (run_heap n seen) (set_after seen) holds.chains place l)
    later.allowed in
    let r = run_later n seen more from (first ∷ others) to run later.allowed in
    record {
      fits = (at, run_target o n es agent place from (first ∷ others) to now.lawful now.chains.ordered linked at r);
      may_act = record { linked = linked; plain = plain; plain_after = refl; first = first; others = others; run = r };
      own = tt;
    }

-- the answer that a key is absent
absent_later : (n : HeapNumbers) (agent : ℕ) (place : Place) (from : Link) (over : List ℕ) (to : Option ℕ) (key : ℕ) (seen : List (Event ChainNote))
    → ChainHolds n seen → FollowsOn n.roots (run_heap n seen) place key → from.mark ≡ false → IsRun (run_heap n seen) from over to
    → IsAbove (run_heap n seen) to key
    → (more : List (Event ChainNote)) → Later (ChainMay n) agent seen more → shown (run_heap n (seen ++ more)) place ≡ Some from
    → has key (set_after (seen ++ more)) ≡ false
absent_later n agent place from over to key seen holds f plain run above more later at =
    key_absent n (seen ++ more) place from over to key (holds_later n seen more holds later.allowed)
    (follows_later n seen more n.roots place key f later.allowed) at plain
    (run_later n seen more from over to run later.allowed)
    (above_later n seen more to key above later.allowed)

pub removed_absent_allowed : (n : HeapNumbers) (agent : ℕ) (place : Place) (from : Link) (over : List ℕ) (to : Option ℕ) (key : ℕ)
    (seen : List (Event ChainNote)) → ChainHolds n seen
    → FollowsOn n.roots (run_heap n seen) place key → from.mark ≡ false → IsRun (run_heap n seen) from over to → IsAbove (run_heap n seen) to key
    → AllowedLater (ChainMay n) n agent seen place from (event_by agent (Look place from) (Some (Entry (Removed agent key false))))
removed_absent_allowed n agent place from over to key seen holds f plain run above = λ more later at.
    record { fits = at; may_act = (refl, absent_later n agent place from over to key seen holds f plain run above more later at); own = refl }

pub asked_absent_allowed : (n : HeapNumbers) (agent : ℕ) (place : Place) (from : Link) (over : List ℕ) (to : Option ℕ) (key : ℕ)
    (seen : List (Event ChainNote)) → ChainHolds n seen
    → FollowsOn n.roots (run_heap n seen) place key → from.mark ≡ false → IsRun (run_heap n seen) from over to → IsAbove (run_heap n seen) to key
    → AllowedLater (ChainMay n) n agent seen place from (event_by agent (Look place from) (Some (Entry (Asked agent key false))))
asked_absent_allowed n agent place from over to key seen holds f plain run above = λ more later at.
    record { fits = at; may_act = sym (absent_later n agent place from over to key seen holds f plain run above more later at); own = refl }

-- the answer that a key is present
present_later : (n : HeapNumbers) (agent id key : ℕ) (link : Link) (seen : List (Event ChainNote)) → ChainHolds n seen → HasKey (run_heap n seen) id key
    → link.mark ≡ false → (more : List (Event ChainNote)) → Later (ChainMay n) agent seen more → shown (run_heap n (seen ++ more)) (Next id) ≡ Some link
    → has key (set_after (seen ++ more)) ≡ true
present_later n agent id key link seen holds own plain more later at =
    key_present n (seen ++ more) id key link (holds_later n seen more holds later.allowed) (key_later n seen more id key own later.allowed) at plain

pub added_present_allowed : (n : HeapNumbers) (agent id key : ℕ) (link : Link) (seen : List (Event ChainNote)) → ChainHolds n seen
    → HasKey (run_heap n seen) id key → link.mark ≡ false
    → AllowedLater (ChainMay n) n agent seen (Next id) link (event_by agent (Look (Next id) link) (Some (Entry (Added agent key false))))
added_present_allowed n agent id key link seen holds own plain = λ more later at.
    record { fits = at; may_act = (refl, present_later n agent id key link seen holds own plain more later at); own = refl }

pub asked_present_allowed : (n : HeapNumbers) (agent id key : ℕ) (link : Link) (seen : List (Event ChainNote)) → ChainHolds n seen
    → HasKey (run_heap n seen) id key → link.mark ≡ false
    → AllowedLater (ChainMay n) n agent seen (Next id) link (event_by agent (Look (Next id) link) (Some (Entry (Asked agent key true))))
asked_present_allowed n agent id key link seen holds own plain = λ more later at.
    record { fits = at; may_act = sym (present_later n agent id key link seen holds own plain more later at); own = refl }
