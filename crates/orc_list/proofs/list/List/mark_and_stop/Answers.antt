-- What the call did.
use Rattle.std.proofs.Common.{Bool, List, [], false, length, subst, sym, true, ℕ, ◌∙◌, ◌∷◌, ◌≡◌, ◌≤◌}
use Rattle.orc_heap.specs.Heap.{HeapNumbers}
use Rattle.orc_heap.specs.Moves.{moves_in}
use Rattle.orc_heap.specs.Seats.{Seat}
use Rattle.orc_heap.specs.declared.events.Event.{Event}
use Rattle.orc_history.specs.declared.set.SetEntry.TheVariants.{Removed}
use Rattle.orc_chain_rule.specs.ChainDiscipline.{entries_of}
use Rattle.orc_chain_rule.specs.declared.chain.ChainNote.{ChainNote}
use Rattle.orc_list.specs.Inserts.{SeesAbsent}
use Rattle.orc_list.specs.Stops.{MarkStops}
use Rattle.orc_list.specs.Turns.{MarksAlone}
use Rattle.orc_ordered_search.proofs.Causes.{call_adds, part_alone}
use Rattle.orc_ordered_search.proofs.Since.{made_is}
use Rattle.orc_list.proofs.Ordered.{list_ordering}
use Rattle.orc_list.proofs.list.List.mark_and_stop.Goals as goal

-- by the answer
marked_entries : (n : HeapNumbers) (key : ℕ) (s u : Seat ChainNote) (r : Bool) → r ≡ true → (k : MarkStops n key s r u) → entries_of k.own ≡ Removed s.agent key true ∷ []
marked_entries n key s u true is k = k.entries_are
marked_entries n key s u false is k = cc

marked_moves : (n : HeapNumbers) (key : ℕ) (s u : Seat ChainNote) (r : Bool) → r ≡ true → (k : MarkStops n key s r u) → MarksAlone key k.own
marked_moves n key s u true is k = k.moves
marked_moves n key s u false is k = cc

unmarked_entries : (n : HeapNumbers) (key : ℕ) (s u : Seat ChainNote) (r : Bool) → r ≡ false → (k : MarkStops n key s r u) → entries_of k.own ≡ []
unmarked_entries n key s u true is k = cc
unmarked_entries n key s u false is k = k.entries_are

unmarked_moves : (n : HeapNumbers) (key : ℕ) (s u : Seat ChainNote) (r : Bool) → r ≡ false → (k : MarkStops n key s r u) → moves_in k.own ≡ 0
unmarked_moves n key s u true is k = cc
unmarked_moves n key s u false is k = k.moves

pub returns : goal.returns
returns g c =
    let d = c.args.self.now.links in
    let n = g.L.Links.numbers d in
    let key = c.args.key in
    let s = g.L.Links.seat d c.args.p.now in
    let u = g.L.Links.seat d c.stop_a_remove.new.p in
    let r = c.stop_a_remove.result in
    let done = c.stop_a_remove.ensures in
    let k = done.stopped in
    let is_s = g.met.L.Links.seen_is _ _ c.requires.pass in
    let is_u = g.met.L.Links.seen_is _ _ done.pass in
    let all = g.met.L.Links.allowed _ _ done.pass in
    let below = (g.met.L.Links.agents_below d c.stop_a_remove.new.p done.pass).1 in
    let adds = call_adds (list_ordering n) (g.L.Links.agents d) g.L.Links.agent_of _ (g.met.L.Links.steps_add d) s u _ _ done.later is_s is_u all below in
    let own = sym (made_is s u k.own k.puts) in
    record {
      pass = done.pass;
      idle = record { slots = k.slots ∙ c.requires.idle.slots; fresh = k.fresh ∙ c.requires.idle.fresh };
      later = done.later;
      agent = k.puts.agent;
      removed = λ is. adds k.own (Removed s.agent key true ∷ []) k.puts (marked_entries n key s u r is k);
      none = λ is. adds k.own [] k.puts (unmarked_entries n key s u r is k);
      marked = λ is. subst (λ (z : List (Event ChainNote)). MarksAlone key z) own (marked_moves n key s u r is k);
      unmoved = λ is. subst (λ (z : List (Event ChainNote)). (1 ≤ length z) × (moves_in z ≡ 0)) own (k.some, unmarked_moves n key s u r is k);
      absent = λ is alone. subst (λ (z : List (Event ChainNote)). SeesAbsent n key z u) own (k.absent is (part_alone (list_ordering n) (g.L.Links.agents d) g.L.Links.agent_of
          _ (g.met.L.Links.steps_add d) s u _ _ done.later is_s is_u all below k.own k.puts alone));
    }
