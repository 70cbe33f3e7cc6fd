-- A bucket's dummy is linked, and the bucket's root stays null.
use mathlib.Core.List.{IsPrefix}
use Rattle.std.proofs.Common.{Bool, Err, List, None, Ok, Option, Result, Some, [], ap, append-nil, append_assoc, arith, false, inl, inr, length, refl, subst, sym, true, ℕ, ◌++◌, ◌<◌, ◌==◌, ◌∙◌, ◌∷◌, ◌≡◌, ◌≤◌, ◌⊎◌}
use Rattle.std.proofs.lemmas.List.{append_cancel_left, length-append}
use Rattle.std.proofs.lemmas.List.Elements.{filter-append}
use Rattle.std.specs.List.{slice_get}
use Rattle.orc_fault.specs.declared.Spent.{Spent as SpentRow}
use Rattle.orc_heap.proofs.Moved.{shown_node}
use Rattle.orc_heap.proofs.OwnParts.{from_own-begun, own_right}
use Rattle.orc_heap.proofs.Calls.{Puts-trans}
use Rattle.orc_heap.proofs.Pieces.{goes_on, own_part_left, puts_released}
use Rattle.orc_heap.proofs.Runs.{run_heap-snoc}
use Rattle.orc_heap.proofs.SingleActs.{some_same}
use Rattle.orc_heap.proofs.Stays.{allowed-left, allowed-right}
use Rattle.orc_heap.specs.Acts.{heap_after}
use Rattle.orc_heap.specs.Allowed.{AllAllowed, IsLinkedNode, events_by}
use Rattle.orc_heap.specs.Calls.{event_of}
use Rattle.orc_heap.specs.Heap.{Heap, HeapNumbers, Node, link_to, shown}
use Rattle.orc_heap.specs.Journals.{run_heap}
use Rattle.orc_heap.specs.Moves.{AllOwn, from_own}
use Rattle.orc_heap.specs.OwnEvents.{Only, Puts}
use Rattle.orc_heap.specs.Seats.{Seat, heap_of}
use Rattle.orc_heap.specs.Slots.{Hold, Holds, Slots, id_in}
use Rattle.orc_heap.specs.declared.events.Act.TheVariants.{Aim, Move}
use Rattle.orc_heap.specs.declared.events.Event.{Event}
use Rattle.orc_heap.specs.declared.events.Link.{Link}
use Rattle.orc_heap.specs.declared.events.Place.{Place}
use Rattle.orc_heap.specs.declared.events.Place.TheVariants.{Root}
use Rattle.orc_history.specs.declared.set.SetEntry.TheVariants.{Asked}
use Rattle.orc_ordered_chains.proofs.Acts.{move_moves}
use Rattle.orc_ordered_chains.proofs.Paths.{absent, leads_same, place_on_chain}
use Rattle.orc_ordered_chains.specs.Chains.{IsOnChain, MayLink}
use Rattle.orc_ordered_search.specs.Entries.{node_to_link}
use Rattle.orc_ordered_search.specs.Inserts.{AddsNode, LinksAndGoes, slots_with, turn_by}
use Rattle.orc_ordered_search.specs.Searches.{AllGone, FindsPresent, LetsGo}
use Rattle.orc_ordered_search.specs.Turns.{made_from}
use Rattle.orc_ordered_search.specs.declared.turn.InsertTurn.{InsertTurn}
use Rattle.orc_ordered_search.specs.declared.turn.InsertTurn.TheVariants.{Answered, NoNode, Over, Spent}
use Rattle.orc_ordered_search.proofs.Inserting.{seen_holds}
use Rattle.orc_ordered_search.proofs.Making.{made_on}
use Rattle.orc_ordered_search.proofs.Parts.{others_alone}
use Rattle.orc_ordered_search.proofs.Quiets.{linked_puts}
use Rattle.orc_ordered_search.proofs.Settling.{Did}
use Rattle.orc_ordered_search.proofs.Since.{made_is, made_still}
use Rattle.orc_split_rule.specs.Laws.Values.{dummy_rank, root_apart}
use Rattle.orc_split_rule.specs.SplitDiscipline.{IsDummy, SplitHolds, SplitMay, greatest}
use Rattle.orc_split_rule.specs.SplitOrder.{dummy_place, split_order}
use Rattle.orc_split_rule.specs.declared.split.SplitNote.{SplitNote}
use Rattle.orc_split_rule.specs.declared.split.SplitNote.TheVariants.{Bucket}
use Rattle.orc_split_set.specs.Crowds.{SeesOwn}
use Rattle.orc_split_set.specs.Rootings.{HasNewDummy, IsRootSet, Roots}
use Rattle.orc_split_set.specs.SplitSearches.{BeginsAt, split_reading}
use Rattle.orc_split_set.specs.Stops.{AddsDummy, HasDummyOnChain, LinksNewDummy, StopTells, StopsUnnamed, linked_by}
use Rattle.orc_split_set.specs.declared.bucket.Rooted.TheVariants.{Moved, NoNode as RootedNoNode}
use Rattle.orc_split_set.proofs.Crowding.{own_later, own_seen, own_sooner, puts_grow}
use Rattle.orc_split_set.proofs.Anchoring.{dummy_stands}
use Rattle.orc_split_set.proofs.Ordered.{split_ordering}
use Rattle.orc_split_set.proofs.Rooting.{dummy_held, found_dummy, let_go_call, missed_roots, refused_roots}
use Rattle.orc_split_set.proofs.Sizes.{values_puts}

-- where a bucket's dummy may be linked, there is none yet, and the bucket's root is null
unset_before : (n : HeapNumbers) (es : List (Event SplitNote)) (bucket : ℕ) (place : Place) (from to : Link) → 1 ≤ bucket → bucket < greatest n
    → SplitHolds n es → MayLink split_order (run_heap n es) place from to (dummy_place bucket) → shown (run_heap n es) place ≡ Some from
    → IsRootSet (run_heap n es) bucket → ⊥
unset_before n es bucket place from to low high holds a at (id, leads) =
    let h : Heap = run_heap n es in
    let dummy = holds.buckets.anchors bucket id low high leads in
    let shows = shown_node h id dummy.node dummy.there in
    absent split_order h holds.chains place from a.over a.node.link.to (dummy_place bucket) a.on_chain a.below at a.run a.above id (record {
      has_rank = dummy_rank h id bucket dummy;
      link = dummy.node.link;
      at = shows;
      unmarked = holds.buckets.plain_dummies id bucket dummy.node.link dummy shows;
    })

-- and stays so where it is linked
unset_after : (n : HeapNumbers) (es : List (Event SplitNote)) (agent bucket id : ℕ) (to : Option ℕ) (place : Place) (from : Link) → 1 ≤ bucket
    → bucket < greatest n → SplitHolds n es → slice_get (run_heap n es).nodes id ≡ Some (node_to_link agent bucket 0 to)
    → SplitMay n es (record { agent = agent; act = Move place from (link_to id); note = Some Bucket })
    → IsRootSet (heap_after agent (Move place from (link_to id)) (run_heap n es)) bucket → ⊥
unset_after n es agent bucket id to place from low high holds there may (x, leads) =
    let h : Heap = run_heap n es in
    let k : Heap = heap_after agent (Move place from (link_to id)) h in
    let b = may.may_act in
    let a = b.links in
    let id_is : id ≡ a.id = some_same (ap (λ (l : Link). l.to) a.to_is) in
    let node_is : node_to_link agent bucket 0 to ≡ a.node = some_same (sym there ∙ (ap (λ (i : ℕ). slice_get h.nodes i) id_is ∙ a.there)) in
    let bucket_is : b.bucket ≡ bucket = some_same (sym b.first_is ∙ sym (ap (λ (m : Node). m.first) node_is)) in
    let moved = move_moves agent place from (link_to id) h may.fits in
    let apart = root_apart h bucket place low (place_on_chain split_order h holds.chains (dummy_place b.bucket) place a.on_chain) in
    let before : IsRootSet h bucket = (x, leads_same k h (Root bucket) (Some x) (sym (moved.others (Root bucket) apart)) leads) in
    unset_before n es bucket place from (link_to id) low high holds
    (subst (λ (z : ℕ). MayLink split_order h place from (link_to id) (dummy_place z)) bucket_is a) moved.at before

-- a dummy that was linked is named by no root, if the pass saw only own events
dummy_unnamed : (n : HeapNumbers) (bucket id : ℕ) (to : Option ℕ) (place : Place) (from : Link) (t u : Seat SplitNote) → 1 ≤ bucket → bucket < greatest n
    → slice_get (heap_of n t).nodes id ≡ Some (node_to_link t.agent bucket 0 to) → SplitHolds n t.seen
    → Puts t (event_of t (Move place from (link_to id)) (Some Bucket) ∷ []) u → AllAllowed (SplitMay n) [] u.seen → SeesOwn t u
    → IsRootSet (heap_of n u) bucket → ⊥
dummy_unnamed n bucket id to place from t u low high node holds p all sees set =
    let e : Event SplitNote = event_of t (Move place from (link_to id)) (Some Bucket) in
    let seen = own_seen t u (e ∷ []) p sees in
    let may = (allowed-right (SplitMay n) [] t.seen (e ∷ []) (subst (λ z. AllAllowed (SplitMay n) [] z) seen all)).0 in
    let here = subst (λ z. IsRootSet (run_heap n z) bucket) seen set in
    unset_after n t.seen t.agent bucket id to place from low high holds node may (subst (λ (h : Heap). IsRootSet h bucket) (run_heap-snoc n t.seen e) here)

-- what was seen since, without an own event, is nothing, if the pass saw only own events
nothing_seen : (t u : Seat SplitNote) → Puts t [] u → SeesOwn t u → u.seen ≡ t.seen
nothing_seen t u p sees = own_seen t u [] p sees ∙ append-nil t.seen

pub still_unnamed : (n : HeapNumbers) (bucket : ℕ) (s t u : Seat SplitNote) → IsPrefix s.seen t.seen → t.agent ≡ s.agent → Puts t [] u
    → (SeesOwn s t → IsRootSet (heap_of n t) bucket → ⊥) → SeesOwn s u → IsRootSet (heap_of n u) bucket → ⊥
still_unnamed n bucket s t u grows same p unnamed sees set =
    let on = puts_grow t u [] p in
    unnamed (own_sooner s t u grows on sees)
    (subst (λ z. IsRootSet (run_heap n z) bucket) (nothing_seen t u p (own_later s t u grows on same sees)) set)

-- a dummy is on the chain
on_chain : (n : HeapNumbers) (es : List (Event SplitNote)) (bucket id : ℕ) → SplitHolds n es → IsDummy (run_heap n es) id bucket → IsOnChain (run_heap n es) 0 id
on_chain n es bucket id holds dummy =
    let h : Heap = run_heap n es in
    let shows = shown_node h id dummy.node dummy.there in
    holds.chains.kept id (dummy_place bucket) dummy.node.link (dummy_rank h id bucket dummy) shows
    (holds.buckets.plain_dummies id bucket dummy.node.link dummy shows)

pub dummy_on_chain : (n : HeapNumbers) (es : List (Event SplitNote)) (bucket : ℕ) → SplitHolds n es → (id : ℕ) × IsDummy (run_heap n es) id bucket
    → HasDummyOnChain (run_heap n es) bucket
dummy_on_chain n es bucket holds (id, dummy) = record { id = id; dummy = dummy; on_chain = on_chain n es bucket id holds dummy }

adds_right : (es fs : List (Event SplitNote)) (id : ℕ) → AddsDummy fs id → AddsDummy (es ++ fs) id
adds_right [] fs id adds = adds
adds_right (e ∷ es) fs id adds = inr (adds_right es fs id adds)

-- it was linked so still, once nothing more was done
new_on : (n : HeapNumbers) (bucket : ℕ) (s t u : Seat SplitNote) (own : List (Event SplitNote)) → Puts s own t → Puts t [] u
    → AllAllowed (SplitMay n) [] u.seen → SplitHolds n u.seen → LinksNewDummy bucket (heap_of n s) (made_from s t) (heap_of n t)
    → LinksNewDummy bucket (heap_of n s) (made_from s u) (heap_of n u)
new_on n bucket s t u own p q all holds k =
    let dummy = values_puts n t u [] k.there.id bucket 0 q all k.there.dummy in
    record {
      there = record { id = k.there.id; dummy = dummy; on_chain = on_chain n u.seen bucket k.there.id holds dummy };
      adds = subst (λ z. AddsDummy z k.there.id) (sym (made_still s t u own p q)) k.adds;
      new = k.new;
    }

-- a dummy that was linked, once all else was let go
module _ (n : HeapNumbers) (bucket id : ℕ) (place : Place) (from : Link) (to : Option ℕ) (slots : Slots) (t u : Seat SplitNote)
    (k : LinksAndGoes (split_reading n) bucket 0 Bucket id place from to slots t u) (all : AllAllowed (SplitMay n) [] u.seen) where
  all_linked : AllAllowed (SplitMay n) [] k.linked.seen
  all_linked = allowed-left (SplitMay n) [] k.linked.seen k.gone.puts.part (subst (λ es. AllAllowed (SplitMay n) [] es) k.gone.puts.is all)

  holds_aimed : SplitHolds n k.links.mid.seen
  holds_aimed = seen_holds (split_ordering n) k.links.mid k.linked _ k.links.moves all_linked

  pub linked_stands : IsDummy (heap_of n u) id bucket
  linked_stands =
      let l = k.links in
      values_puts n k.linked u [] id bucket 0 k.gone.puts all
      (dummy_stands n bucket id to place from l.mid k.linked l.node holds_aimed l.moves all_linked)

  -- nothing had linked it before it was aimed
  unlinked_before : (s : Seat SplitNote) (own : List (Event SplitNote)) → Puts s own t → IsLinkedNode (heap_of n s) id → ⊥
  unlinked_before s own p linked =
      let l = k.links in
      let all_aimed = allowed-left (SplitMay n) [] l.mid.seen l.moves.part (subst (λ es. AllAllowed (SplitMay n) [] es) l.moves.is all_linked) in
      let w = Puts-trans s t l.mid own _ p l.aims in
      let later = linked_puts (split_ordering n) s l.mid _ w all_aimed id linked in
      let same : later.node ≡ node_to_link l.mid.agent bucket 0 to = some_same (sym later.there ∙ l.node) in
      let bad : true ≡ false = sym later.linked ∙ ap (λ (m : Node). m.linked) same in
      cc

  -- a Move of the pass linked it
  pub linked_new : (s : Seat SplitNote) (own : List (Event SplitNote)) → Puts s own t → SplitHolds n u.seen
      → LinksNewDummy bucket (heap_of n s) (made_from s u) (heap_of n u)
  linked_new s own p holds =
      let l = k.links in
      let aim : List (Event SplitNote) = event_of t (Aim id to) None ∷ [] in
      let move : List (Event SplitNote) = event_of l.mid (Move place from (link_to id)) (Some Bucket) ∷ [] in
      let moves : Puts l.mid move u = puts_released l.mid k.linked u move l.moves k.gone.puts in
      let w = Puts-trans s l.mid u (own ++ aim) move (Puts-trans s t l.mid own aim p l.aims) moves in
      let here : AddsDummy move id = inl (place, from, refl, refl) in
      record {
        there = record { id = id; dummy = linked_stands; on_chain = on_chain n u.seen bucket id holds linked_stands };
        adds = subst (λ z. AddsDummy z id) (sym (made_is s u ((own ++ aim) ++ move) w)) (adds_right (own ++ aim) move id here);
        new = unlinked_before s own p;
      }

  pub linked_unnamed : 1 ≤ bucket → bucket < greatest n → SeesOwn t u → IsRootSet (heap_of n u) bucket → ⊥
  linked_unnamed low high sees set =
      let l = k.links in
      let aims = puts_grow t l.mid _ l.aims in
      let moves = puts_grow l.mid k.linked _ l.moves in
      still_unnamed n bucket t k.linked u (goes_on t.seen l.mid.seen k.linked.seen aims moves) (l.moves.agent ∙ l.aims.agent) k.gone.puts
      (λ own. dummy_unnamed n bucket id to place from l.mid k.linked low high l.node holds_aimed l.moves all_linked
      (own_later t l.mid k.linked aims moves l.aims.agent own)) sees set

-- where no other agent's event stands from the first own one on, the pass saw only own events since that one
sees_since : (s t u : Seat SplitNote) (own zs : List (Event SplitNote)) (p : Puts s own t) → 1 ≤ length own → (w : Puts s zs u) → IsPrefix t.seen u.seen
    → AllOwn s.agent (from_own s.agent w.part) → SeesOwn t u
sees_since s t u own zs p some w (rest, is) alone =
    let part_is : w.part ≡ p.part ++ rest = append_cancel_left s.seen w.part (p.part ++ rest)
    (sym w.is ∙ (sym is ∙ (ap (λ z. z ++ rest) p.is ∙ append_assoc s.seen p.part rest))) in
    let begun : from_own s.agent w.part ≡ from_own s.agent p.part ++ rest =
    ap (λ z. from_own s.agent z) part_is ∙ from_own-begun s.agent p.part rest (rw p.own_is some) in
    let all : AllOwn s.agent rest = own_right s.agent (from_own s.agent p.part) rest (subst (λ z. AllOwn s.agent z) begun alone) in
    record { part = rest; is = sym is; own = subst (λ (a : ℕ). AllOwn a rest) (sym p.agent) all }

-- what was seen up to a place has the events before it
begun_on : (s t u : Seat SplitNote) (own zs : List (Event SplitNote)) (p : Puts s own t) → 1 ≤ length own → (w : Puts s zs u) → IsPrefix t.seen u.seen
    → 1 ≤ length (events_by s.agent w.part)
begun_on s t u own zs p some w (rest, is) =
    let part_is : w.part ≡ p.part ++ rest = append_cancel_left s.seen w.part (p.part ++ rest)
    (sym w.is ∙ (sym is ∙ (ap (λ z. z ++ rest) p.is ∙ append_assoc s.seen p.part rest))) in
    let by : events_by s.agent w.part ≡ own ++ events_by s.agent rest = ap (λ z. events_by s.agent z) part_is
    ∙ (filter-append (λ e. e.agent == s.agent) p.part rest ∙ ap (λ z. z ++ events_by s.agent rest) p.own_is) in
    omega (arith, some, length-append own (events_by s.agent rest), ap (λ z. length z) by)

-- the new dummy is let go, by what came of it
pub turn_stops : (n : HeapNumbers) (bucket passed : ℕ) (left first right : Option Hold) (dummy : Hold) (s t u w : Seat SplitNote)
    (h : HasNewDummy n bucket left first right dummy s t) (result : Result Bool SpentRow)
    → AddsNode (split_reading n) bucket 0 [] dummy h.id 1 (slots_with s.slots (Some dummy) h.id) s result u → LetsGo (Some dummy) u w
    → IsPrefix t.seen u.seen → AllAllowed (SplitMay n) [] w.seen → SplitHolds n w.seen
    → (result ≡ Ok true → LinksNewDummy bucket (heap_of n s) (made_from s u) (heap_of n u))
    → (result ≡ Ok true → SeesOwn t u → IsRootSet (heap_of n u) bucket → ⊥) → StopsUnnamed n bucket s (turn_by passed result) w
turn_stops n bucket passed left first right dummy s t u w h (Ok true) a g grows all holds linked unnamed =
    let p = h.adds.puts in
    let on = goes_on t.seen u.seen w.seen grows (puts_grow u w [] g.puts) in
    let call = let_go_call n bucket dummy h.id s u w h.room h.slot_is a.slots_are 1 a.own u (omega arith) a.made refl (inl a.fresh_is) g in
    record {
      own = a.own;
      call = call;
      tells = (
        begun_on s t w h.adds.own a.own p h.adds.some call.made.puts on,
        new_on n bucket s u w a.own a.made.puts g.puts all holds (linked refl),
        (λ alone. still_unnamed n bucket t u w grows (a.made.puts.agent ∙ sym p.agent) g.puts (unnamed refl)
            (sees_since s t w h.adds.own a.own p h.adds.some call.made.puts on alone)),
      );
    }
turn_stops n bucket passed left first right dummy s t u w h (Ok false) a g grows all holds linked unnamed =
    let k = missed_roots n bucket dummy h.id s u w h.room h.slot_is a.slots_are a g in
    record { own = k.own; call = k.call; tells = k.tells }
turn_stops n bucket passed left first right dummy s t u w h (Err why) a g grows all holds linked unnamed =
    let k = refused_roots n bucket dummy h.id s u w h.room h.slot_is a.slots_are why a g in
    record { own = k.own; call = k.call; tells = tt }

-- whatever came of it, the pass still held it
pub turn_held : (n : HeapNumbers) (bucket : ℕ) (left first right : Option Hold) (dummy : Hold) (s t u : Seat SplitNote)
    (h : HasNewDummy n bucket left first right dummy s t) (result : Result Bool SpentRow)
    → AddsNode (split_reading n) bucket 0 [] dummy h.id 1 (slots_with s.slots (Some dummy) h.id) s result u → Holds u.slots dummy
turn_held n bucket left first right dummy s t u h (Ok true) a = (dummy_held n bucket left first right dummy s t u h a.slots_are).0
turn_held n bucket left first right dummy s t u h (Ok false) a = (dummy_held n bucket left first right dummy s t u h a.slots_are).0
turn_held n bucket left first right dummy s t u h (Err why) a = (dummy_held n bucket left first right dummy s t u h a.slots_are).0

-- a search found the dummy
pub found_stops : (n : HeapNumbers) (bucket : ℕ) (start : Place) (passed : ℕ) (left first : Option Hold) (dummy : Hold) (next : Option Hold)
    (s t u : Seat SplitNote) → FindsPresent (split_reading n) start (dummy_place bucket) passed left first dummy next s t → AllGone s.slots t u
    → s.fresh ≡ None → AllAllowed (SplitMay n) [] u.seen → StopsUnnamed n bucket s (Answered false passed) u
found_stops n bucket start passed left first dummy next s t u f g fresh all =
    let q = f.behind.quiet in
    let there = found_dummy n bucket start passed left first dummy next s t f in
    record {
      own = f.own;
      call = record {
        given = 0;
        at_most = omega arith;
        made = made_on (split_reading n) 0 s t u f.own [] (record { puts = q.puts; entries_are = q.no_entries; gives = q.no_give }) g.puts;
        slots = g.slots_are;
        fresh = g.fresh ∙ (q.fresh ∙ fresh);
      };
      tells = (id_in t.slots dummy, values_puts n t u [] (id_in t.slots dummy) bucket 0 g.puts all there.1);
    }

-- the call made no root name a node in these cases either
pub moved_stops : (n : HeapNumbers) (bucket : ℕ) (s t : Seat SplitNote) → Roots n bucket s Moved t → StopsUnnamed n bucket s Over t
moved_stops n bucket s t k = record { own = k.own; call = k.call; tells = k.tells }

pub lacking_stops : (n : HeapNumbers) (bucket : ℕ) (s t : Seat SplitNote) → Roots n bucket s RootedNoNode t → StopsUnnamed n bucket s NoNode t
lacking_stops n bucket s t k = record { own = k.own; call = k.call; tells = tt }

-- a search for a dummy may begin at root 0
pub begins_first : (n : HeapNumbers) (bucket : ℕ) (s : Seat SplitNote) → BeginsAt n (Root 0) (dummy_place bucket) None s s
begins_first n bucket s = record {
  begins = record {
    left_id = 0;
    agent = refl;
    seen = refl;
    fresh = refl;
    hands = record { same_length = refl; others = λ slot apart. refl; held = (tt, tt) };
    apart = (tt, tt);
    start_is = refl;
    begins = refl;
    below = refl;
  };
  dummy = tt;
}

-- what the call tells once it settled
module _ (n : HeapNumbers) (bucket : ℕ) (s t u : Seat SplitNote) (turn : InsertTurn) (k : StopsUnnamed n bucket s turn t) (o : Only [] t u)
    (all : AllAllowed (SplitMay n) [] u.seen) (holds : SplitHolds n u.seen) (zs : List (Event SplitNote)) (w : Puts s zs u) where
  there_later : (id : ℕ) × IsDummy (heap_of n t) id bucket → (id : ℕ) × IsDummy (heap_of n u) id bucket
  there_later (id, dummy) = (id, values_puts n t u [] id bucket 0 o.puts all dummy)

  pub linked_there : linked_by turn ≡ true → LinksNewDummy bucket (heap_of n s) (made_from s u) (heap_of n u)
  linked_there is = by turn is k.tells
    where
      by : (turn : InsertTurn) → linked_by turn ≡ true → StopTells n bucket s k.call.made.puts.part turn t
          → LinksNewDummy bucket (heap_of n s) (made_from s u) (heap_of n u)
      by Over is told = cc
      by (Answered true passed) is (begun, there, unset) = new_on n bucket s t u k.own k.call.made.puts o.puts all holds there
      by (Answered false passed) is told = cc
      by NoNode is told = cc
      by (Spent why) is told = cc

  pub linked_unset : linked_by turn ≡ true → AllOwn s.agent (from_own s.agent w.part) → IsRootSet (heap_of n u) bucket → ⊥
  linked_unset is alone set = by turn is k.tells
    where
      by : (turn : InsertTurn) → linked_by turn ≡ true → StopTells n bucket s k.call.made.puts.part turn t → ⊥
      by Over is told = cc
      by (Answered true passed) is (begun, there, unset) =
          let p = k.call.made.puts in
          let sees = sees_since s t u k.own zs p (subst (λ z. 1 ≤ length z) p.own_is begun) w (puts_grow t u [] o.puts) alone in
          unset (own_part_left s t u k.own [] zs p o.puts w alone) (subst (λ z. IsRootSet (run_heap n z) bucket) (nothing_seen t u o.puts sees) set)
      by (Answered false passed) is told = cc
      by NoNode is told = cc
      by (Spent why) is told = cc

  pub missed_told : linked_by turn ≡ false → AllOwn s.agent (from_own s.agent w.part)
      → ((id : ℕ) × IsDummy (heap_of n u) id bucket) ⊎ ((turn ≡ NoNode) ⊎ ((why : SpentRow) × (turn ≡ Spent why)))
  missed_told is alone = by turn refl is k.tells
    where
      by : (one : InsertTurn) → turn ≡ one → linked_by one ≡ false → StopTells n bucket s k.call.made.puts.part one t
          → ((id : ℕ) × IsDummy (heap_of n u) id bucket) ⊎ ((turn ≡ NoNode) ⊎ ((why : SpentRow) × (turn ≡ Spent why)))
      by Over same is told =
          let p = k.call.made.puts in
          let own = own_part_left s t u k.own [] zs p o.puts w alone in
          absurd (omega (arith, told, others_alone s.agent (from_own s.agent p.part) own))
      by (Answered true passed) same is told = cc
      by (Answered false passed) same is told = inl (there_later told)
      by NoNode same is told = inr (inl same)
      by (Spent why) same is told = inr (inr (why, same))

-- the call entered nothing, and gave one node at the most
pub stopped_did : (n : HeapNumbers) (bucket : ℕ) (s t u : Seat SplitNote) (turn : InsertTurn) → StopsUnnamed n bucket s turn t → Only [] t u
    → Did {E = Unit {0}} (split_reading n) ⊥ 1 1 (λ answer. Asked 0 0 answer) s (Err tt) u
stopped_did n bucket s t u turn k o = record {
  own = k.own;
  given = k.call.given;
  at_most = k.call.at_most;
  entries = [];
  entries_are = refl;
  made = made_on (split_reading n) k.call.given s t u k.own [] k.call.made o.puts;
  over = λ again. absurd again;
  no_turns = λ zero. absurd (omega (arith, zero));
}
