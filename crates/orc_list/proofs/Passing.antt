-- An insert leads a place past a run of marked nodes: these are on no chain from then on.
use Rattle.std.proofs.Common.{Contains, List, Option, Some, [], ap, arith, inr, refl, subst, suc, sym, true, zero, ℕ, ◌++◌, ◌∷◌, ◌≡◌}
use Rattle.std.specs.List.{slice_get}
use Rattle.std.specs.Option.{option_map}
use Rattle.orc_heap.proofs.Calls.{Puts-stood}
use Rattle.orc_heap.proofs.Fresh.{node_later}
use Rattle.orc_heap.proofs.SingleActs.{linked_node}
use Rattle.orc_heap.specs.Allowed.{AllAllowed, HasLink, IsLinkedNode}
use Rattle.orc_heap.specs.Calls.{event_of}
use Rattle.orc_heap.specs.Heap.{Heap, HeapNumbers, Node, link_to, shown}
use Rattle.orc_heap.specs.Journals.{run_heap}
use Rattle.orc_heap.specs.OwnEvents.{Puts}
use Rattle.orc_heap.specs.Seats.{Seat, heap_of}
use Rattle.orc_heap.specs.declared.events.Act.TheVariants.{Move}
use Rattle.orc_heap.specs.declared.events.Event.{Event}
use Rattle.orc_heap.specs.declared.events.Link.{Link}
use Rattle.orc_heap.specs.declared.events.Place.{Place}
use Rattle.orc_heap.specs.declared.events.Place.TheVariants.{Next}
use Rattle.orc_history.specs.declared.set.SetEntry.TheVariants.{Added}
use Rattle.orc_chain_rule.proofs.Later.{holds_later, linked_later, run_later}
use Rattle.orc_chain_rule.proofs.Leaving.{added_off, off_later}
use Rattle.orc_ordered_chains.specs.Chains.{IsRun, link_over}
use Rattle.orc_chain_rule.specs.ChainDiscipline.{ChainHolds, ChainMay, IsOnNoChain}
use Rattle.orc_chain_rule.specs.Laws.Kept.{chain_keeps, chain_moves_linked}
use Rattle.orc_chain_rule.specs.Watches.{node_to_add}
use Rattle.orc_chain_rule.specs.declared.chain.ChainNote.{ChainNote}
use Rattle.orc_chain_rule.specs.declared.chain.ChainNote.TheVariants.{Entry}
use Rattle.orc_list.specs.Inserts.{AddsKey, LeavesRunOff}
use Rattle.orc_ordered_search.proofs.Quiets.{new_allowed, run_puts}
use Rattle.orc_ordered_search.proofs.Seen.{ends_right, sees_right}
use Rattle.orc_list.proofs.Ordered.{list_ordering}

pub adds_right : (es fs : List (Event ChainNote)) (key : ℕ) (place : Place) (from : Link) → AddsKey fs key place from → AddsKey (es ++ fs) key place from
adds_right [] fs key place from a = a
adds_right (e ∷ es) fs key place from a = inr (adds_right es fs key place from a)

-- each node of a run was once linked
run_linked : (h : Heap) (from : Link) (over : List ℕ) (to : Option ℕ) (id : ℕ) → IsRun h from over to → Contains over id → IsLinkedNode h id
run_linked h from [] to id run (i, low, is) = absurd (omega (arith, low))
run_linked h from (x ∷ xs) to id (leads, next, own, mark, run) (zero, low, is) = linked_node h id next (subst (λ (y : ℕ). HasLink h y next) is own)
run_linked h from (x ∷ xs) to id (leads, next, own, mark, run) (suc i, low, is) = run_linked h next xs to id run (i, omega (arith, low), is)

-- once the fresh node is linked, which leads to where the run does
pub linked_off : (n : HeapNumbers) (key second fresh : ℕ) (to : Option ℕ) (t u : Seat ChainNote) (place : Place) (from : Link) (over : List ℕ)
    → Puts t (event_of t (Move place from (link_to fresh)) (Some (Entry (Added t.agent key true))) ∷ []) u
    → ChainHolds n t.seen → AllAllowed (ChainMay n) [] u.seen → slice_get (heap_of n t).nodes fresh ≡ Some (node_to_add t.agent key second to)
    → IsRun (heap_of n t) from over to → (id : ℕ) → Contains over id → IsOnNoChain (heap_of n u) id
linked_off n key second fresh to t u place from over p holds all node run id among =
    let e : Event ChainNote = event_of t (Move place from (link_to fresh)) (Some (Entry (Added t.agent key true))) in
    let m = Puts-stood (ChainMay n) t u [] e [] p all in
    let es : List (Event ChainNote) = t.seen ++ m.before in
    let now = holds_later n t.seen m.before holds m.first in
    let there = node_later n (ChainHolds n) (ChainMay n) (chain_keeps n) (λ es e holds may. may.fits) (chain_moves_linked n) t.agent fresh
    (node_to_add t.agent key second to) t.seen m.before holds node refl refl refl (record { allowed = m.first; others = m.own_before }) in
    let at : shown (run_heap n es) (Next fresh) ≡ Some (link_over to) = ap (λ (o : Option Node). option_map (λ (x : Node). x.link) o) there in
    let here = run_later n t.seen m.before from over to run m.first in
    let off = added_off n t.agent place from over to key fresh id es now m.here at here among in
    let linked = linked_later n es (e ∷ []) id (run_linked (run_heap n es) from over to id here among) (m.here, tt) in
    subst (λ z. IsOnNoChain (run_heap n z) id) (sym m.is) (off_later n (es ++ e ∷ []) m.later id (chain_keeps n es e now m.here) m.last linked off)

-- it stays so
pub leaves_on : (n : HeapNumbers) (key : ℕ) (own : List (Event ChainNote)) (t u : Seat ChainNote) → Puts t [] u → ChainHolds n t.seen
    → AllAllowed (ChainMay n) [] u.seen → LeavesRunOff key own (heap_of n t) → LeavesRunOff key own (heap_of n u)
leaves_on n key own t u p holds all l = record {
  added = l.added;
  run = run_puts (list_ordering n) t u [] p all l.from l.over l.to l.run;
  off = λ id among. subst (λ z. IsOnNoChain (run_heap n z) id) (sym p.is) (off_later n t.seen p.part id holds (new_allowed (list_ordering n) t u [] p all)
      (run_linked (heap_of n t) l.from l.over l.to id l.run among) (l.off id among));
}

-- earlier events of the call change nothing of it
pub leaves_right : (h : Heap) (key : ℕ) (es fs : List (Event ChainNote)) → LeavesRunOff key fs h → LeavesRunOff key (es ++ fs) h
leaves_right h key es fs l = record {
  added = record {
    place = l.place;
    from = l.from;
    plain = l.plain;
    sees = sees_right es fs l.place l.from l.sees;
    adds = adds_right es fs key l.place l.from l.adds;
    over = l.over;
    to = l.to;
    ends = ends_right es fs l.to l.ends;
  };
  run = l.run;
  off = l.off;
}
