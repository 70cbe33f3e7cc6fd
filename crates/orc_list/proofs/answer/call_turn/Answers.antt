-- By what the search found.
use Rattle.std.proofs.Common.{[], append-nil}
use Rattle.orc_heap.proofs.Pieces.{goes_on}
use Rattle.orc_heap.specs.declared.events.Place.TheVariants.{Root}
use Rattle.orc_ordered_search.specs.Causes.{HasWorn}
use Rattle.orc_ordered_search.specs.Steps.{Finds}
use Rattle.orc_ordered_search.proofs.Marking.{worn_wider}
use Rattle.orc_list.specs.Searches.{list_reading}
use Rattle.orc_list.proofs.Making.{few_answer}
use Rattle.orc_list.proofs.Removing.{removes_off}
use Rattle.orc_list.proofs.Starting.{root_begins}
use Rattle.orc_list.proofs.Tiring.{takes_wider}
use Rattle.orc_list.proofs.answer.call_turn.Given.{Over}
use Rattle.orc_list.proofs.answer.call_turn.Goals.{After-search_chain-found}
use Rattle.orc_list.proofs.answer.call_turn.Goals as goal

-- the search began at the root
found : (g : Over) (c : After-search_chain-found g) → let d = c.args.links.now in
    Finds (list_reading (g.L.Links.numbers d)) (Root c.args.root) c.args.key (g.L.Links.seat d c.args.p.now) c.search_chain-found.result
    (g.L.Links.seat d c.search_chain-found.new.p)
found g c =
    c.search_chain-found.ensures.found (Root c.args.root) _ c.requires.room
    (root_begins _ c.args.root c.args.key _ c.requires.root.1 (g.met.L.Links.obeys _ _ c.requires.pass))

pub search_chain-found-requires-clause-begins : goal.search_chain-found-requires-clause-begins
search_chain-found-requires-clause-begins g c =
    let s = g.L.Links.seat _ c.args.p.now in
    (Root c.args.root, s, c.requires.room, root_begins _ c.args.root c.args.key s c.requires.root.1 (g.met.L.Links.obeys _ _ c.requires.pass))

pub answer_found-requires-clause-found : goal.answer_found-requires-clause-found
answer_found-requires-clause-found g c =
    (Root c.args.root, g.L.Links.seat c.args.links.now c.args.p.now, found g (goal.at.answer_found-requires-clause-found g c).After-search_chain-found)

pub returns : goal.returns
returns g c =
    let d = c.args.links.now in
    let s = g.L.Links.seat d c.args.p.now in
    let t = g.L.Links.seat d c.search_chain-found.new.p in
    let j = g.L.Links.journal c.args.p.now in
    let k = g.L.Links.journal c.search_chain-found.new.p in
    let l = g.L.Links.journal c.answer_found.new.p in
    let e = c.search_chain-found.ensures in
    let f = c.answer_found.ensures in
    let finds = found g (goal.at.returns g c).After-search_chain-found in
    record {
      pass = f.pass;
      later = goes_on j k l e.later f.later;
      answered = f.answered (Root c.args.root) s finds;
      few = few_answer s (g.L.Links.seat d c.answer_found.new.p) (f.few (Root c.args.root) s finds);
      off = λ call yes. let took = f.taken (Root c.args.root) s finds call yes in
          takes_wider _ c.args.key (HasWorn (g.L.Links.worn d t.agent) k l) _ s _
          (λ w. worn_wider (g.L.Links.worn d) s.agent t.agent j k l l (λ why xs more from to h. g.met.L.Links.worn_stays d s.agent why xs more from to h)
          took.finds.behind.quiet.puts.agent e.later ([], append-nil l) w)
          (removes_off took.finds (HasWorn (g.L.Links.worn d t.agent) k l) _ took.takes (g.met.L.Links.obeys _ _ e.pass)
          (g.met.L.Links.allowed _ _ f.pass));
    }
