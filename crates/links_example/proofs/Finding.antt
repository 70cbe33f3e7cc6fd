-- Looks at the links of the agent's stack, which nobody else changes.
use Rattle.std.proofs.Common.{Bool, List, [], ap, false, refl, sym, ℕ, ◌++◌, ◌∙◌, ◌∷◌, ◌≡◌}
use Rattle.std.specs.List.{list_any}
use Rattle.std.specs.Option.{option_map}
use Rattle.std.specs.Prelude.{None, Some}
use Rattle.orc_heap.proofs.ByAnswer.{LookedHeld, LookedNull}
use Rattle.orc_heap.proofs.Calls.{Puts-stood}
use Rattle.orc_heap.specs.Allowed.{AllAllowed, events_by}
use Rattle.orc_heap.specs.Calls.{Looks, event_of}
use Rattle.orc_heap.specs.Heap.{HeapNumbers, Node, shown}
use Rattle.orc_heap.specs.Journals.{run_heap}
use Rattle.orc_heap.specs.OwnEvents.{Puts}
use Rattle.orc_heap.specs.Seats.{Seat}
use Rattle.orc_heap.specs.Slots.{Hold}
use Rattle.orc_heap.specs.declared.events.Act.TheVariants.{Look}
use Rattle.orc_heap.specs.declared.events.Event.{Event}
use Rattle.orc_heap.specs.declared.events.Link.{Link}
use Rattle.orc_heap.specs.declared.events.Place.{Place}
use Rattle.orc_heap.specs.declared.events.Place.TheVariants.{Next, Root, Side}
use Rattle.orc_heap.specs.declared.holds.Looked.TheVariants.{Moved}
use Rattle.links_example.specs.OwnRoots.{OwnRootsMay}
use Rattle.links_example.specs.Stacks.{FindsNode, StackLeadsTo, plain_link}
use Rattle.links_example.proofs.Stays.{is_move, node_later, nodes_stay, top_later, top_stays}

-- a place of the stack leads to the same node after events of which none is a Move of the agent's own
leads_later : (n : HeapNumbers) (s : Seat ℕ) (place : Place) (to : ℕ) (more : List (Event ℕ)) → StackLeadsTo n s place to → AllAllowed (OwnRootsMay n) s.seen more
    → list_any (λ e. is_move e.act) (events_by s.agent more) ≡ false → shown (run_heap n (s.seen ++ more)) place ≡ Some (plain_link (Some to))
leads_later n s (Root r) to more l all none = rw l.0 (top_later n s.agent _ s.seen more all none l.1)
leads_later n s (Next id) to more l all none = ap (option_map (λ (x : Node). x.link)) (node_later n s.agent id l.0 (Some to) s.seen more all l.1)
leads_later n s (Side id) to more l all none = absurd l

-- so each Look of a call finds it
pub look_finds : (n : HeapNumbers) (s t : Seat ℕ) (place : Place) (to : ℕ) (own : List (Event ℕ)) (found : Link) (rest : List (Event ℕ))
    → AllAllowed (OwnRootsMay n) [] t.seen → StackLeadsTo n s place to
    → list_any (λ e. is_move e.act) own ≡ false → Puts s (own ++ event_of s (Look place found) None ∷ rest) t → found ≡ plain_link (Some to)
look_finds n s t place to own found rest all l none p =
    let st = Puts-stood (OwnRootsMay n) s t own _ rest p all in
    let both : Some found ≡ Some (plain_link (Some to)) = sym st.here.0 ∙ leads_later n s place to st.before l st.first (rw st.own_before none) in
    cc

-- a look at the stack finds its node twice alike
pub not_moved : (n : HeapNumbers) (s t : Seat ℕ) (place : Place) (slot to : ℕ) → AllAllowed (OwnRootsMay n) [] t.seen → StackLeadsTo n s place to
    → Looks place slot s Moved t → ⊥
not_moved n s t place slot to all l r =
    let (one, two, other, slots, puts, first) = r.tells in
    let first = look_finds n s t place to [] one _ all l refl puts in
    let second = look_finds n s t place to (event_of s (Look place one) None ∷ []) two [] all l refl puts in
    other (first ∙ sym second)

pub not_null : (n : HeapNumbers) (s t : Seat ℕ) (place : Place) (mark : Bool) (to : ℕ) → AllAllowed (OwnRootsMay n) [] t.seen → StackLeadsTo n s place to
    → LookedNull place mark s t → ⊥
not_null n s t place mark to all l r =
    let e = look_finds n s t place to [] _ [] all l refl r.puts in
    let none : None ≡ Some to = ap (λ (x : Link). x.to) e in
    cc

pub finds : (n : HeapNumbers) (s t : Seat ℕ) (place : Place) (slot : ℕ) (mark : Bool) (h : Hold) → AllAllowed (OwnRootsMay n) [] t.seen
    → t.fresh ≡ s.fresh → LookedHeld place slot mark h s t → FindsNode n place slot s h t
finds n s t place slot mark h all fresh r = record {
  id = r.id;
  is = λ to l. let e : Some r.id ≡ Some to =
      ap (λ (x : Link). x.to) (look_finds n s t place to (event_of s (Look place r.one) None ∷ []) _ [] all l refl r.puts) in cc;
  slot_is = r.at;
  agent = r.puts.agent;
  slots = r.slots;
  fresh = fresh;
  top = top_stays n s t _ all r.puts refl;
  nodes = nodes_stay n s t _ all r.puts;
}
