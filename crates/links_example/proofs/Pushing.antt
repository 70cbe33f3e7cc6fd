-- From a node that is given to one that stands on top of the stack.
use Rattle.std.proofs.Common.{Bool, [], ap, false, refl, subst, sym, true, ℕ, ◌++◌, ◌∙◌, ◌∷◌, ◌≡◌, ◌≢◌}
use Rattle.std.proofs.lemmas.Bool.{eq-eqb, eqb-true}
use Rattle.std.specs.Borrow.{Bor}
use Rattle.std.specs.List.{slice_get, slice_set}
use Rattle.std.specs.Prelude.{None, Option, Some, ◌==◌}
use Rattle.orc_heap.proofs.ByAnswer.{unless_same}
use Rattle.orc_heap.proofs.Fresh.{own_node_told, touched_by}
use Rattle.orc_heap.proofs.Calls.{part_allowed}
use Rattle.orc_heap.proofs.Slots.{given-back, held_apart, holds-other, holds-there, id-other, id-there}
use Rattle.orc_heap.specs.Allowed.{AllAllowed}
use Rattle.orc_heap.specs.Calls.{Gives, Releases, event_of, unless_node}
use Rattle.orc_heap.specs.Heap.{HeapNumbers, Node}
use Rattle.orc_heap.specs.Journals.{names_node, run_heap}
use Rattle.orc_heap.specs.OwnEvents.{Only, Puts}
use Rattle.orc_heap.specs.Seats.{HoldsFresh, HoldsTarget, Seat, target_in, heap_of}
use Rattle.orc_heap.specs.Slots.{Hold, Holds, IsFree, id_in}
use Rattle.orc_heap.specs.declared.events.Act.TheVariants.{Aim, Move}
use Rattle.orc_heap.specs.declared.events.Link.{Link}
use Rattle.orc_heap.specs.declared.events.Place.TheVariants.{Root}
use Rattle.links_example.specs.Laws.OwnRoots.{own_roots_keeps, own_roots_moves_linked}
use Rattle.links_example.specs.OwnRoots.{OwnRootsHolds, OwnRootsMay}
use Rattle.links_example.specs.Stacks.{HasTop, HoldsStackNode, NodesStay, Pushes, StackStays, plain_link, stack_node}
use Rattle.links_example.proofs.Stays.{nodes_stay, top_stays}
use Rattle.links_example.proofs.Swings.{moved_node, moved_top, unlinked_node}

-- a new node of this value and link, which is held and not yet linked; the stack is as it was
pub record Readied (n : HeapNumbers) (below : Option ℕ) (slot value : ℕ) (s : Seat ℕ) (h : Hold) (t : Seat ℕ) : Type 0 where
  pub id : ℕ
  pub slot_is : h.slot ≡ slot
  pub agent : t.agent ≡ s.agent
  pub slots : t.slots ≡ slice_set s.slots slot (Some (record { row = h.row; id = id }))
  pub fresh : t.fresh ≡ Some id
  pub node : slice_get (heap_of n t).nodes id ≡ Some (unlinked_node s.agent value below)
  pub top : (to : Option ℕ) → HasTop n s to → HasTop n t to
  pub nodes : NodesStay n s t

pub given_ready : (n : HeapNumbers) (slot value : ℕ) (s : Seat ℕ) (h : Hold) (t : Seat ℕ) → AllAllowed (OwnRootsMay n) [] t.seen
    → Gives n slot value 0 s h t → Readied n None slot value s h t
given_ready n slot value s h t all g = record {
  id = g.id;
  slot_is = g.slot_is;
  agent = g.puts.agent;
  slots = g.slots;
  fresh = g.fresh;
  node = g.node;
  top = top_stays n s t _ all g.puts refl;
  nodes = nodes_stay n s t _ all g.puts;
}

module _ {n : HeapNumbers} {below : Option ℕ} {slot value : ℕ} {s : Seat ℕ} {h : Hold} {t : Seat ℕ} (free : IsFree s.slots slot)
    (r : Readied n below slot value s h t) where
  pub ready_holds : Holds t.slots h
  ready_holds = holds-there s.slots t.slots slot r.id h free.empty r.slot_is r.slots

  pub ready_id : id_in t.slots h ≡ r.id
  ready_id = id-there s.slots t.slots slot r.id h free.empty r.slot_is r.slots

  pub ready_fresh : HoldsFresh t h
  ready_fresh = record { held = ready_holds; fresh = rw ready_id r.fresh }

  another : (k : Hold) → Holds s.slots k → id_in t.slots k ≡ id_in s.slots k
  another k held = ap (λ z. id_in z k) r.slots ∙ id-other s.slots slot _ k (held_apart s.slots k slot held free)

  -- what was on top stays held, and isn't the new node
  pub ready_target : (top : Option (Bor Hold)) → HoldsTarget s top → HoldsStackNode n s top → HoldsTarget t top
  ready_target None held node = tt
  ready_target (Some k) held node =
      let is = another k.now held.0 in
      let there = r.nodes (id_in s.slots k.now) node.0 node.1 node.2 in (
        subst (λ z. Holds z k.now) (sym r.slots) (holds-other s.slots slot _ k.now (held_apart s.slots k.now slot held.0 free) held.0),
        λ e.
            let same : r.id ≡ id_in s.slots k.now = some_of (sym r.fresh ∙ (e ∙ ap Some is)) in
            let both : Some (unlinked_node s.agent value below) ≡ Some (stack_node t.agent node.0 node.1) =
            sym r.node ∙ (ap (λ i. slice_get (heap_of n t).nodes i) same ∙ there) in
            let linked : false ≡ true = ap is_linked both in
            cc,
      )
    where
      some_of : {a b : ℕ} → Some a ≡ Some b → a ≡ b
      some_of e = cc

      is_linked : Option Node → Bool
      is_linked None = true
      is_linked (Some x) = x.linked

  -- and so is the link to it
  pub ready_same : (top : Option (Bor Hold)) → HoldsTarget s top → target_in t.slots top ≡ target_in s.slots top
  ready_same None held = refl
  ready_same (Some k) held = ap Some (another k.now held.0)

  -- a call that only adds events which are no Moves leaves it so
  pub ready_after : {u : Seat ℕ} → AllAllowed (OwnRootsMay n) [] u.seen → OwnRootsHolds n t.seen → Only [] t u → Readied n below slot value s h u
  ready_after {u} all holds o = record {
    id = r.id;
    slot_is = r.slot_is;
    agent = o.puts.agent ∙ r.agent;
    slots = o.slots ∙ r.slots;
    fresh = o.fresh ∙ r.fresh;
    node = node_told;
    top = λ to k. top_stays n t u [] all o.puts refl to (r.top to k);
    nodes = λ id v b k. nodes_stay n t u [] all o.puts id v b (r.nodes id v b k);
  }
    where
      node_told : slice_get (heap_of n u).nodes r.id ≡ Some (unlinked_node s.agent value below)
      node_told =
          let k = own_node_told n (OwnRootsHolds n) (OwnRootsMay n) (own_roots_keeps n) (λ es e a m. m.0)
          (own_roots_moves_linked n) t.agent r.id t.seen o.puts.part (unlinked_node s.agent value below)
          holds (part_allowed (OwnRootsMay n) t u [] o.puts all)
          (record { there = r.node; own = record { mine = sym r.agent; unnamed = refl; unlinked = refl } }) (rw o.puts.own_is refl) in
          rw o.puts.is
          (subst (λ es. slice_get (run_heap n (t.seen ++ o.puts.part)).nodes r.id ≡ Some (touched_by r.id es (unlinked_node s.agent value below)))
          o.puts.own_is k.there)

  -- a release gives all back
  pub ready_released : {u : Seat ℕ} → AllAllowed (OwnRootsMay n) [] u.seen → s.fresh ≡ None → Releases t h u → StackStays n s u
  ready_released {u} all none w = record {
    agent = w.puts.agent ∙ r.agent;
    slots = w.slots ∙ given-back s.slots t.slots slot r.id h free.empty r.slot_is r.slots;
    fresh = w.fresh
        ∙ (ap (λ f. unless_node f (Some (id_in t.slots h))) r.fresh ∙ (ap (λ i. unless_node (Some r.id) (Some i)) ready_id ∙ (unless_same r.id ∙ sym none)));
    top = λ to k. top_stays n t u [] all w.puts refl to (r.top to k);
    nodes = λ id v b k. nodes_stay n t u [] all w.puts id v b (r.nodes id v b k);
  }

  -- and the Move puts it on top
  pub ready_pushed : (u : Seat ℕ) (root : ℕ) (from : Link) (noted : Option ℕ) → root ≡ t.agent → AllAllowed (OwnRootsMay n) [] u.seen
      → OwnRootsHolds n t.seen → s.fresh ≡ None → u.slots ≡ t.slots → u.fresh ≡ unless_node t.fresh (Some (id_in t.slots h))
      → Puts t (event_of t (Move (Root root) from (plain_link (Some (id_in t.slots h)))) noted ∷ []) u → Pushes n below slot value s h u
  ready_pushed u root from noted own all holds none slots fresh p =
      let q : Puts t (event_of t (Move (Root t.agent) from (plain_link (Some r.id))) noted ∷ []) u =
      subst (λ (z : ℕ × ℕ). Puts t (event_of t (Move (Root z.0) from (plain_link (Some z.1))) noted ∷ []) u) (λ i. (own i, ready_id i)) p in
      let here : slice_get (heap_of n t).nodes r.id ≡ Some (unlinked_node t.agent value below) = rw r.agent r.node in
      record {
        id = r.id;
        slot_is = r.slot_is;
        agent = p.agent ∙ r.agent;
        slots = slots ∙ r.slots;
        fresh = fresh
            ∙ (ap (λ f. unless_node f (Some (id_in t.slots h))) r.fresh
            ∙ (ap (λ i. unless_node (Some r.id) (Some i)) ready_id ∙ (unless_same r.id ∙ sym none)));
        top = rw p.agent (moved_top n t u from (plain_link (Some r.id)) noted all q);
        node = rw p.agent (moved_node n t u r.id value below from noted all holds q here);
        nodes = λ id v b k. nodes_stay n t u _ all p id v b (r.nodes id v b k);
      }

-- the link of the new node is set
pub aimed_ready : (n : HeapNumbers) (slot value : ℕ) (s : Seat ℕ) (h : Hold) (t u : Seat ℕ) (to : Option ℕ) → IsFree s.slots slot
    → (r : Readied n None slot value s h t)
    → AllAllowed (OwnRootsMay n) [] u.seen → OwnRootsHolds n t.seen → (t.fresh ≢ to)
    → Only (event_of t (Aim (id_in t.slots h) to) None ∷ []) t u → Readied n to slot value s h u
aimed_ready n slot value s h t u to free r all holds other o = record {
  id = r.id;
  slot_is = r.slot_is;
  agent = o.puts.agent ∙ r.agent;
  slots = o.slots ∙ r.slots;
  fresh = o.fresh ∙ r.fresh;
  node = node_told;
  top = λ k l. top_stays n t u _ all o.puts refl k (r.top k l);
  nodes = λ id v b k. nodes_stay n t u _ all o.puts id v b (r.nodes id v b k);
}
  where
    same_id : id_in t.slots h ≡ r.id
    same_id = ready_id free r

    not_named : (to : Option ℕ) → (Some r.id ≢ to) → names_node to r.id ≡ false
    not_named None ne = refl
    not_named (Some i) ne = cases (i == r.id) refl
      where
        cases : (b : Bool) → (i == r.id) ≡ b → b ≡ false
        cases true e = absurd (ne (ap Some (sym (eqb-true i r.id e))))
        cases false e = refl

    away : names_node to r.id ≡ false
    away = not_named to (λ e. other (r.fresh ∙ e))

    own_is : Rattle.orc_heap.specs.Allowed.events_by t.agent o.puts.part ≡ event_of t (Aim r.id to) None ∷ []
    own_is = o.puts.own_is ∙ ap (λ i. event_of t (Aim i to) None ∷ []) same_id

    node_told : slice_get (heap_of n u).nodes r.id ≡ Some (unlinked_node s.agent value to)
    node_told =
        let x : Node = unlinked_node s.agent value None in
        let k = own_node_told n (OwnRootsHolds n) (OwnRootsMay n) (own_roots_keeps n) (λ es e a m. m.0)
        (own_roots_moves_linked n) t.agent r.id t.seen o.puts.part x
        holds (part_allowed (OwnRootsMay n) t u _ o.puts all)
        (record { there = r.node; own = record { mine = sym r.agent; unnamed = refl; unlinked = refl } }) (rw (own_is, away) refl) in
        let now : slice_get (run_heap n (t.seen ++ o.puts.part)).nodes r.id ≡ Some (touched_by r.id (event_of t (Aim r.id to) None ∷ []) x)
        = subst (λ es. slice_get (run_heap n (t.seen ++ o.puts.part)).nodes r.id ≡ Some (touched_by r.id es x)) own_is k.there in
        rw o.puts.is (now ∙ rw (away, eq-eqb r.id r.id refl) refl)

-- both in one: a node that was given and whose link was set to what was on top
pub linked_ready : (n : HeapNumbers) (slot value : ℕ) (s : Seat ℕ) (h : Hold) (t u : Seat ℕ) (top : Option (Bor Hold)) → IsFree s.slots slot
    → AllAllowed (OwnRootsMay n) [] t.seen → AllAllowed (OwnRootsMay n) [] u.seen → OwnRootsHolds n t.seen → HoldsTarget s top → HoldsStackNode n s top
    → Gives n slot value 0 s h t → Only (event_of t (Aim (id_in t.slots h) (target_in t.slots top)) None ∷ []) t u
    → Readied n (target_in s.slots top) slot value s h u
linked_ready n slot value s h t u top free all_t all_u holds held node g o =
    let r = given_ready n slot value s h t all_t g in
    let target = ready_target free r top held node in
    subst (λ to. Readied n to slot value s h u) (ready_same free r top held)
    (aimed_ready n slot value s h t u (target_in t.slots top) free r all_u holds (other r.id r.fresh top target) o)
  where
    other : (id : ℕ) → t.fresh ≡ Some id → (top : Option (Bor Hold)) → HoldsTarget t top → t.fresh ≢ target_in t.slots top
    other id fresh None target = λ e. let none : Some id ≡ None = sym fresh ∙ e in cc
    other id fresh (Some k) target = target.1
