-- Where a key was added, the run that the new node's place led over is off the chain.
use Rattle.std.proofs.Common.{List, None, Option, Some, [], ap, inl, inr, refl, subst, sym, true, ℕ, ◌++◌, ◌∙◌, ◌∷◌, ◌≡◌}
use Rattle.orc_heap.proofs.Calls.{Puts-trans}
use Rattle.orc_heap.proofs.Pieces.{puts_released}
use Rattle.orc_heap.proofs.Stays.{allowed-left}
use Rattle.orc_heap.specs.Allowed.{AllAllowed}
use Rattle.orc_heap.specs.Calls.{event_of}
use Rattle.orc_heap.specs.Heap.{HeapNumbers, link_to}
use Rattle.orc_heap.specs.OwnEvents.{Puts}
use Rattle.orc_heap.specs.Seats.{Seat, heap_of}
use Rattle.orc_heap.specs.declared.events.Act.TheVariants.{Aim, Move}
use Rattle.orc_heap.specs.declared.events.Event.{Event}
use Rattle.orc_heap.specs.declared.events.Place.{Place}
use Rattle.orc_history.specs.declared.set.SetEntry.TheVariants.{Added}
use Rattle.orc_chain_rule.specs.ChainDiscipline.{ChainHolds, ChainMay}
use Rattle.orc_chain_rule.specs.declared.chain.ChainNote.{ChainNote}
use Rattle.orc_chain_rule.specs.declared.chain.ChainNote.TheVariants.{Entry}
use Rattle.orc_ordered_search.specs.Inserts.{AddsFound}
use Rattle.orc_ordered_search.specs.Searches.{left_place, node_of}
use Rattle.orc_ordered_search.specs.Turns.{made_from}
use Rattle.orc_ordered_search.specs.declared.walk.Searched.{Searched}
use Rattle.orc_list.specs.Inserts.{LeavesRunOff}
use Rattle.orc_list.specs.Searches.{list_reading}
use Rattle.orc_ordered_search.proofs.Inserting.{seen_holds}
use Rattle.orc_ordered_search.proofs.Quiets.{run_puts}
use Rattle.orc_ordered_search.proofs.Seen.{ends_left, sees_left}
use Rattle.orc_ordered_search.proofs.Since.{made_is}
use Rattle.orc_list.proofs.Ordered.{list_ordering}
use Rattle.orc_list.proofs.Passing.{adds_right, leaves_on, linked_off}

pub found_leaves : (n : HeapNumbers) (start : Place) (key by : ℕ) (found : Searched) (many : ℕ) (s u : Seat ChainNote) → by ≡ s.agent
    → AddsFound (list_reading n) start key key 0 (Entry (Added by key true)) found many s u → AllAllowed (ChainMay n) [] u.seen
    → LeavesRunOff key (made_from s u) (heap_of n u)
found_leaves n start key by found many s u mine a all =
    let x = list_ordering n in
    let at = a.at in
    let k = a.adds in
    let l = k.links in
    let mid = l.mid in
    let v = k.linked in
    let from = at.leads.from in
    let place : Place = left_place (x.reading.order.root key) a.left at.left_id in
    let to : Option ℕ = node_of a.right at.right_id in
    let all_v : AllAllowed (ChainMay n) [] v.seen = allowed-left (ChainMay n) [] v.seen k.gone.puts.part
    (subst (λ es. AllAllowed (ChainMay n) [] es) k.gone.puts.is all) in
    let agent : by ≡ mid.agent = mine ∙ sym (l.aims.agent ∙ at.puts.agent) in
    let aim : Event ChainNote = event_of a.t (Aim at.id to) None in
    let moved : Event ChainNote = event_of mid (Move place from (link_to at.id)) (Some (Entry (Added by key true))) in
    let ys : List (Event ChainNote) = aim ∷ moved ∷ [] in
    let p = Puts-trans a.t mid v (aim ∷ []) (moved ∷ []) l.aims l.moves in
    let moves = subst (λ (i : ℕ). Puts mid (event_of mid (Move place from (link_to at.id)) (Some (Entry (Added i key true))) ∷ []) v) agent l.moves in
    let holds : ChainHolds n mid.seen = seen_holds x mid v (moved ∷ []) l.moves all_v in
    let run_mid = run_puts x a.t mid (aim ∷ []) l.aims (allowed-left (ChainMay n) [] mid.seen l.moves.part
    (subst (λ es. AllAllowed (ChainMay n) [] es) l.moves.is all_v)) from at.leads.over to at.leads.run in
    let leaves : LeavesRunOff key (at.own ++ ys) (heap_of n v) = record {
      added = record {
        place = place;
        from = from;
        plain = at.leads.plain;
        sees = sees_left at.own ys place from at.leads.sees;
        adds = adds_right at.own ys key place from (inr (inl (link_to at.id, refl, ap (λ (i : ℕ). Some (Entry (Added i key true))) agent)));
        over = at.leads.over;
        to = to;
        ends = ends_left at.own ys to at.ends;
      };
      run = run_puts x a.t v ys p all_v from at.leads.over to at.leads.run;
      off = λ id among. linked_off n key 0 at.id to mid v place from at.leads.over moves holds all_v l.node run_mid id among;
    } in
    let whole = puts_released s v u (at.own ++ ys) (Puts-trans s a.t v at.own ys at.puts p) k.gone.puts in
    subst (λ z. LeavesRunOff key z (heap_of n u)) (sym (made_is s u (at.own ++ ys) whole))
    (leaves_on n key (at.own ++ ys) v u k.gone.puts (seen_holds x v u [] k.gone.puts all) all leaves)
