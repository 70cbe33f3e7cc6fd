-- Which events leave the agent's stack as it is.
use Rattle.std.proofs.Common.{Bool, List, [], ap, false, refl, sym, true, ℕ, ◌++◌, ◌∙◌, ◌≡◌}
use Rattle.std.proofs.lemmas.Bool.{eqb-true}
use Rattle.std.specs.List.{list_any, slice_get}
use Rattle.std.specs.Prelude.{None, Option, Some, if◌then◌else◌, ◌==◌}
use Rattle.orc_heap.proofs.Changes.{get-change_other}
use Rattle.orc_heap.proofs.Fresh.{node-after, touched, unless}
use Rattle.orc_heap.proofs.Moved.{target_roots}
use Rattle.orc_heap.proofs.Calls.{part_allowed}
use Rattle.orc_heap.proofs.Runs.{run_heap-snoc}
use Rattle.orc_heap.proofs.Stays.{stays, stays_but}
use Rattle.orc_heap.specs.Acts.{Fits, IsFresh, as_linked, as_named, heap_after}
use Rattle.orc_heap.specs.Allowed.{AllAllowed, events_by}
use Rattle.orc_heap.specs.Heap.{Heap, HeapNumbers, Node, shown}
use Rattle.orc_heap.specs.Journals.{names_node, run_heap}
use Rattle.orc_heap.specs.OwnEvents.{Only, Puts}
use Rattle.orc_heap.specs.Seats.{Seat}
use Rattle.orc_heap.specs.declared.events.Act.{Act}
use Rattle.orc_heap.specs.declared.events.Act.TheVariants.{Aim, AimSide, Fill, Give, Look, Miss, Move}
use Rattle.orc_heap.specs.declared.events.Event.{Event}
use Rattle.orc_heap.specs.declared.events.Link.{Link}
use Rattle.orc_heap.specs.declared.events.Place.TheVariants.{Next, Root, Side}
use Rattle.links_example.specs.OwnRoots.{IsOwnMove, OwnRootsMay}
use Rattle.links_example.specs.Stacks.{HasNode, HasTop, StackStays, stack_node}

either_same : {A : Type 0} (b : Bool) (x y z : A) → x ≡ z → y ≡ z → (if b then x else y) ≡ z
either_same true x y z p q = p
either_same false x y z p q = q

not_fresh : (by agent i id value : ℕ) (below : Option ℕ) (h : Heap) → slice_get h.nodes id ≡ Some (stack_node agent value below) → IsFresh by h i
    → (i == id) ≡ true → ⊥
not_fresh by agent i id value below h there fresh e =
    let both : Some fresh.node ≡ Some (stack_node agent value below) = sym fresh.there ∙ (ap (λ j. slice_get h.nodes j) (eqb-true i id e) ∙ there) in
    let k : fresh.node ≡ stack_node agent value below = cc in
    let t : true ≡ false = sym (ap (λ (x : Node). x.linked) k) ∙ fresh.unlinked in
    cc

node_untouched : (by agent id value : ℕ) (below : Option ℕ) (act : Act) (noted : Option ℕ) (h : Heap) → Fits by act h → IsOwnMove by act noted
    → slice_get h.nodes id ≡ Some (stack_node agent value below) → touched act id (stack_node agent value below) ≡ stack_node agent value below
node_untouched by agent id value below Give noted h fits m there = refl
node_untouched by agent id value below (Fill i which v) noted h fits m there = unless (i == id) _ _ (not_fresh by agent i id value below h there fits.0)
node_untouched by agent id value below (Aim i to) noted h fits m there =
    let same = unless (i == id) (record (stack_node agent value below) { link = record { to = to; mark = false } }) (stack_node agent value below)
    (not_fresh by agent i id value below h there fits.0) in
    either_same (names_node to id) _ _ _ (ap as_named same) same
node_untouched by agent id value below (AimSide i to) noted h fits m there =
    let same = unless (i == id) (record (stack_node agent value below) { side = record { to = to; mark = false } }) (stack_node agent value below)
    (not_fresh by agent i id value below h there fits.0) in
    either_same (names_node to id) _ _ _ (ap as_named same) same
node_untouched by agent id value below (Look place link) noted h fits m there = refl
node_untouched by agent id value below (Move (Root r) from to) noted h fits m there = either_same (names_node to.to id) _ _ _ refl refl
node_untouched by agent id value below (Move (Next i) from to) noted h fits m there = absurd m
node_untouched by agent id value below (Move (Side i) from to) noted h fits m there = absurd m
node_untouched by agent id value below (Miss place wanted found) noted h fits m there = refl

-- a node of a stack stays, whatever happens
pub node_later : (n : HeapNumbers) (agent id value : ℕ) (below : Option ℕ) (seen more : List (Event ℕ)) → AllAllowed (OwnRootsMay n) seen more
    → slice_get (run_heap n seen).nodes id ≡ Some (stack_node agent value below)
    → slice_get (run_heap n (seen ++ more)).nodes id ≡ Some (stack_node agent value below)
node_later n agent id value below seen more all there =
    let P : List (Event ℕ) → Type 0 = λ es. slice_get (run_heap n es).nodes id ≡ Some (stack_node agent value below) in
    let r : P (seen ++ more) = stays (OwnRootsMay n) P (λ es e p m.
    rw (run_heap-snoc n es e)
    (node-after e.agent e.act (run_heap n es) id _ p
    ∙ ap Some (node_untouched e.agent agent id value below e.act e.note (run_heap n es) m.0 m.1 p))) seen more there all in
    r

abbrev pub is_move : Act → Bool
is_move (Move place from to) = true
is_move act = false

root_kept : (by agent : ℕ) (act : Act) (noted : Option ℕ) (h : Heap) → IsOwnMove by act noted → (by ≡ agent → is_move act ≡ false)
    → shown (heap_after by act h) (Root agent) ≡ shown h (Root agent)
root_kept by agent Give noted h m k = refl
root_kept by agent (Fill i which v) noted h m k = refl
root_kept by agent (Aim i to) noted h m k = ap (λ rs. slice_get rs agent) (target_roots as_named to _)
root_kept by agent (AimSide i to) noted h m k = ap (λ rs. slice_get rs agent) (target_roots as_named to _)
root_kept by agent (Look place link) noted h m k = refl
root_kept by agent (Move (Root r) from to) noted h m k =
    ap (λ rs. slice_get rs agent) (target_roots as_linked to.to _)
    ∙ get-change_other (λ (l : Link). to) r agent h.roots (λ e. let t : true ≡ false = k (sym m.0 ∙ sym e) in cc)
root_kept by agent (Move (Next i) from to) noted h m k = absurd m
root_kept by agent (Move (Side i) from to) noted h m k = absurd m
root_kept by agent (Miss place wanted found) noted h m k = refl

-- the agent's root stays, but for Moves of its own
pub top_later : (n : HeapNumbers) (agent : ℕ) (link : Link) (seen more : List (Event ℕ)) → AllAllowed (OwnRootsMay n) seen more
    → list_any (λ e. is_move e.act) (events_by agent more) ≡ false
    → shown (run_heap n seen) (Root agent) ≡ Some link → shown (run_heap n (seen ++ more)) (Root agent) ≡ Some link
top_later n agent link seen more all none there =
    let P : List (Event ℕ) → Type 0 = λ es. shown (run_heap n es) (Root agent) ≡ Some link in
    let r : P (seen ++ more) =
    stays_but (OwnRootsMay n) agent is_move P
    (λ es e p m k. rw (run_heap-snoc n es e) (root_kept e.agent agent e.act e.note (run_heap n es) m.1 k ∙ p)) seen more there all none in
    r

-- a call with no Move leaves the stack
pub top_stays : (n : HeapNumbers) (s t : Seat ℕ) (own : List (Event ℕ)) → AllAllowed (OwnRootsMay n) [] t.seen → Puts s own t
    → list_any (λ e. is_move e.act) own ≡ false
    → (to : Option ℕ) → HasTop n s to → HasTop n t to
top_stays n s t own all p none to top =
    rw (p.is, p.agent) (top_later n s.agent _ s.seen p.part (part_allowed (OwnRootsMay n) s t own p all) (rw p.own_is none) top)

pub nodes_stay : (n : HeapNumbers) (s t : Seat ℕ) (own : List (Event ℕ)) → AllAllowed (OwnRootsMay n) [] t.seen → Puts s own t
    → (id value : ℕ) (below : Option ℕ) → HasNode n s id value below → HasNode n t id value below
nodes_stay n s t own all p id value below there =
    rw (p.is, p.agent) (node_later n s.agent id value below s.seen p.part (part_allowed (OwnRootsMay n) s t own p all) there)

-- and so does an empty stack, over a release or a settling
pub empty_stays : (n : HeapNumbers) (s t : Seat ℕ) → AllAllowed (OwnRootsMay n) [] t.seen → Puts s [] t → HasTop n s None → HasTop n t None
empty_stays n s t all p top = top_stays n s t [] all p refl None top

pub stack_stays : (n : HeapNumbers) (s t : Seat ℕ) (own : List (Event ℕ)) → AllAllowed (OwnRootsMay n) [] t.seen → Only own s t
    → list_any (λ e. is_move e.act) own ≡ false → StackStays n s t
stack_stays n s t own all o none = record {
  agent = o.puts.agent;
  slots = o.slots;
  fresh = o.fresh;
  top = top_stays n s t own all o.puts none;
  nodes = nodes_stay n s t own all o.puts;
}
