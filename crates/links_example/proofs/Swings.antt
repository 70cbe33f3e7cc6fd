-- Swings of the agent's own root.
use Rattle.std.proofs.Common.{List, [], ap, false, refl, subst, sym, ℕ, ◌++◌, ◌∙◌, ◌∷◌, ◌≡◌}
use Rattle.std.specs.List.{slice_get}
use Rattle.std.specs.Prelude.{None, Option, Some}
use Rattle.orc_heap.proofs.ByAnswer.{unless_none}
use Rattle.orc_heap.proofs.Changes.{get-change_same}
use Rattle.orc_heap.proofs.Fresh.{own_node_told, touched_by}
use Rattle.orc_heap.proofs.Untouched.{target_from}
use Rattle.orc_heap.proofs.Moved.{target_roots}
use Rattle.orc_heap.proofs.Calls.{Puts-stood}
use Rattle.orc_heap.proofs.Runs.{run_from-append, run_heap-snoc}
use Rattle.orc_heap.specs.Acts.{IsTarget, as_linked}
use Rattle.orc_heap.specs.Allowed.{AllAllowed, AllowedLater, Later}
use Rattle.orc_heap.specs.Calls.{Misses, event_of, unless_node}
use Rattle.orc_heap.specs.Heap.{HeapNumbers, Node, null, new_heap, shown}
use Rattle.orc_heap.specs.Journals.{run_heap}
use Rattle.orc_heap.specs.OwnEvents.{Puts}
use Rattle.orc_heap.specs.Seats.{Seat, heap_of}
use Rattle.orc_heap.specs.declared.events.Act.TheVariants.{Move}
use Rattle.orc_heap.specs.declared.events.Event.{Event}
use Rattle.orc_heap.specs.declared.events.Link.{Link}
use Rattle.orc_heap.specs.declared.events.Place.TheVariants.{Root}
use Rattle.links_example.specs.Laws.OwnRoots.{own_roots_keeps, own_roots_moves_linked}
use Rattle.links_example.specs.OwnRoots.{OwnRootsHolds, OwnRootsMay}
use Rattle.links_example.specs.Stacks.{Clears, plain_link, stack_node}
use Rattle.links_example.proofs.Stays.{node_later, nodes_stay, top_later}

-- what the agent's root shows now, it shows at the first own event of a call
pub root_then : (n : HeapNumbers) (agent : ℕ) (link : Link) (seen before : List (Event ℕ)) → Later (OwnRootsMay n) agent seen before
    → shown (run_heap n seen) (Root agent) ≡ Some link → shown (run_heap n (seen ++ before)) (Root agent) ≡ Some link
root_then n agent link seen before later there = top_later n agent link seen before later.allowed (rw later.others refl) there

-- the agent's root doesn't change behind its back, so there is no miss
pub no_miss : (n : HeapNumbers) (s t : Seat ℕ) (root : ℕ) (wanted : Link) → root ≡ s.agent → AllAllowed (OwnRootsMay n) [] t.seen
    → shown (heap_of n s) (Root s.agent) ≡ Some wanted → Misses (Root root) wanted s t → ⊥
no_miss n s t root wanted own all there missed =
    let m = subst (λ (a : ℕ). Misses (Root a) wanted s t) own missed in
    let st = Puts-stood (OwnRootsMay n) s t [] _ [] m.puts all in
    let both : Some m.found ≡ Some wanted =
    sym st.here.0.0 ∙ root_then n s.agent wanted s.seen st.before (record { allowed = st.first; others = st.own_before }) there in
    m.other (cc)

moved_roots : (n : HeapNumbers) (agent : ℕ) (from to : Link) (es : List (Event ℕ)) (e : Event ℕ) → e.act ≡ Move (Root agent) from to
    → shown (run_heap n es) (Root agent) ≡ Some from → shown (run_heap n (es ++ e ∷ [])) (Root agent) ≡ Some to
moved_roots n agent from to es e is there =
    rw (run_heap-snoc n es e, is) (ap (λ rs. slice_get rs agent) (target_roots as_linked to.to _)
    ∙ get-change_same (λ (l : Link). to) agent (run_heap n es).roots from there)

-- after its Move the root shows the new link
pub moved_top : (n : HeapNumbers) (s t : Seat ℕ) (from to : Link) (noted : Option ℕ) → AllAllowed (OwnRootsMay n) [] t.seen
    → Puts s (event_of s (Move (Root s.agent) from to) noted ∷ []) t → shown (heap_of n t) (Root s.agent) ≡ Some to
moved_top n s t from to noted all p =
    let st = Puts-stood (OwnRootsMay n) s t [] _ [] p all in
    let after = moved_roots n s.agent from to (s.seen ++ st.before) (event_of s (Move (Root s.agent) from to) noted) refl st.here.0.0 in
    subst (λ es. shown (run_heap n es) (Root s.agent) ≡ Some to) (sym st.is) (top_later n s.agent to _ st.later st.last (rw st.own_later refl) after)

-- so a Move to null clears the stack
pub clears : (n : HeapNumbers) (s t : Seat ℕ) (root : ℕ) (from : Link) (noted : Option ℕ) → root ≡ s.agent → AllAllowed (OwnRootsMay n) [] t.seen
    → t.slots ≡ s.slots → t.fresh ≡ unless_node s.fresh None → Puts s (event_of s (Move (Root root) from (plain_link None)) noted ∷ []) t → Clears n s t
clears n s t root from noted own all slots fresh p = record {
  agent = p.agent;
  slots = slots;
  fresh = fresh ∙ unless_none s.fresh;
  top = rw p.agent (moved_top n s t from (plain_link None) noted all
      (subst (λ (r : ℕ). Puts s (event_of s (Move (Root r) from (plain_link None)) noted ∷ []) t) own p));
  nodes = nodes_stay n s t _ all p;
}

abbrev pub unlinked_node : ℕ → ℕ → Option ℕ → Node
unlinked_node agent value below = record { giver = agent; first = Some value; second = Some 0; link = plain_link below; side = null; named = false; linked = false }

linked_now : (n : HeapNumbers) (agent id value : ℕ) (below : Option ℕ) (from : Link) (es : List (Event ℕ)) (e : Event ℕ)
    → e.act ≡ Move (Root agent) from (plain_link (Some id))
    → slice_get (run_heap n es).nodes id ≡ Some (unlinked_node agent value below)
    → slice_get (run_heap n (es ++ e ∷ [])).nodes id ≡ Some (stack_node agent value below)
linked_now n agent id value below from es e is there =
    rw (run_heap-snoc n es e, is) (get-change_same as_linked id (run_heap n es).nodes (unlinked_node agent value below) there)

-- a fresh node that is linked by the Move is a node of the stack from then on
pub moved_node : (n : HeapNumbers) (s t : Seat ℕ) (id value : ℕ) (below : Option ℕ) (from : Link) (noted : Option ℕ)
    → AllAllowed (OwnRootsMay n) [] t.seen → OwnRootsHolds n s.seen
    → Puts s (event_of s (Move (Root s.agent) from (plain_link (Some id))) noted ∷ []) t
    → slice_get (heap_of n s).nodes id ≡ Some (unlinked_node s.agent value below)
    → slice_get (heap_of n t).nodes id ≡ Some (stack_node s.agent value below)
moved_node n s t id value below from noted all holds p there =
    let x : Node = unlinked_node s.agent value below in
    let st = Puts-stood (OwnRootsMay n) s t [] _ [] p all in
    let k = own_node_told n (OwnRootsHolds n) (OwnRootsMay n) (own_roots_keeps n) (λ es e h m. m.0)
    (own_roots_moves_linked n) s.agent id s.seen st.before x holds st.first
    (record { there = there; own = record { mine = refl; unnamed = refl; unlinked = refl } }) (rw st.own_before refl) in
    let now : slice_get (run_heap n (s.seen ++ st.before)).nodes id ≡ Some x
    = subst (λ es. slice_get (run_heap n (s.seen ++ st.before)).nodes id ≡ Some (touched_by id es x)) st.own_before k.there in
    let after = linked_now n s.agent id value below from (s.seen ++ st.before) (event_of s (Move (Root s.agent) from (plain_link (Some id))) noted) refl now in
    subst (λ es. slice_get (run_heap n es).nodes id ≡ Some (stack_node s.agent value below)) (sym st.is)
    (node_later n s.agent id value below _ st.later st.last after)

-- a Move of the agent's root to null or to a node that it knows is allowed in every later journal
pub move_allowed : (n : HeapNumbers) (s : Seat ℕ) (root : ℕ) (from to : Link) → root ≡ s.agent → to.mark ≡ false → IsTarget s.agent (heap_of n s) to.to
    → AllowedLater (OwnRootsMay n) n s.agent s.seen (Root root) from (event_of s (Move (Root root) from to) (Some root))
move_allowed n s root from to own unmarked target =
    subst (λ (a : ℕ). AllowedLater (OwnRootsMay n) n s.agent s.seen (Root a) from (event_of s (Move (Root a) from to) (Some a))) (sym own)
    (λ more later at.
    let known = target_from s.agent (heap_of n s) more to.to target in
    ((at, rw (run_from-append (new_heap n) s.seen more) known), (refl, unmarked, refl)))
