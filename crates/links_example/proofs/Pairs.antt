-- Two pushes on an empty stack make a pair.
use Rattle.std.proofs.Common.{refl, subst, ℕ, ◌≡◌}
use Rattle.std.specs.Prelude.{None, Some}
use Rattle.orc_heap.proofs.Slots.{id-there}
use Rattle.orc_heap.specs.Heap.{HeapNumbers}
use Rattle.orc_heap.specs.Seats.{IsIdle, Seat}
use Rattle.orc_heap.specs.Slots.{Hold, id_in}
use Rattle.links_example.specs.Stacks.{HasNode, HasTwo, Pushes}

module _ {n : HeapNumbers} {lower : ℕ} {s : Seat ℕ} {one : Hold} {t : Seat ℕ} (idle : IsIdle s) (p : Pushes n None 1 lower s one t) where
  pub first_id : id_in t.slots one ≡ p.id
  first_id = id-there s.slots t.slots 1 p.id one (rw idle.slots refl) p.slot_is p.slots

  -- the first node, by its hold
  pub first_node : HasNode n t (id_in t.slots one) lower None
  first_node = rw first_id p.node

  pub pair : {upper : ℕ} {two : Hold} {u : Seat ℕ} → Pushes n (Some (id_in t.slots one)) 2 upper t two u → HasTwo n u upper lower
  pair {upper} {two} {u} q = record {
    upper_id = q.id;
    lower_id = p.id;
    top = q.top;
    upper_node = subst (λ i. HasNode n u q.id upper (Some i)) first_id q.node;
    lower_node = q.nodes p.id lower None p.node;
  }
