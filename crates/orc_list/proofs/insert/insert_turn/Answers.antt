-- By what the search found.
use Rattle.orc_heap.proofs.Parting.{part_of_later}
use Rattle.orc_heap.proofs.Pieces.{goes_on}
use Rattle.orc_heap.specs.Slots.{Slots}
use Rattle.orc_heap.specs.declared.events.Place.TheVariants.{Root}
use Rattle.orc_ordered_search.specs.Inserts.{HasRoomFor, KeepsNode, Sought}
use Rattle.orc_ordered_search.specs.Steps.{Finds}
use Rattle.orc_ordered_search.proofs.Inserting.{has_room}
use Rattle.orc_ordered_search.proofs.Seeking.{found_quiet}
use Rattle.orc_list.specs.Searches.{list_reading}
use Rattle.orc_list.proofs.Adding.{found_leaves}
use Rattle.orc_list.proofs.Making.{few_turn}
use Rattle.orc_list.proofs.Starting.{root_begins}
use Rattle.orc_list.proofs.insert.insert_turn.Given.{Over}
use Rattle.orc_list.proofs.insert.insert_turn.Goals.{After-search_chain-found}
use Rattle.orc_list.proofs.insert.insert_turn.Goals as goal

-- the search began at the root
found : (g : Over) (c : After-search_chain-found g) → let d = c.args.links.now in
    Finds (list_reading (g.L.Links.numbers d)) (Root c.args.root) c.args.key (g.L.Links.seat d c.args.p.now) c.search_chain-found.result
    (g.L.Links.seat d c.search_chain-found.new.p)
found g c =
    let (slots, room, k) = c.requires.keeps in
    c.search_chain-found.ensures.found (Root c.args.root) _ (has_room (list_reading _) c.args.key 0 c.args.node slots _ room k)
    (root_begins _ c.args.root c.args.key _ c.requires.root.1 (g.met.L.Links.obeys _ _ c.requires.pass))

-- the search was one with the node in hand
abbrev sought : (g : Over) (c : After-search_chain-found g) → let d = c.args.links.now in let n = g.L.Links.numbers d in (slots : Slots) → HasRoomFor slots
    → KeepsNode (list_reading n) c.args.key 0 c.args.node slots (g.L.Links.seat d c.args.p.now)
    → Sought (list_reading n) c.args.key c.args.key 0 c.args.node c.search_chain-found.result (g.L.Links.seat d c.search_chain-found.new.p)
sought g c = λ slots room k. record {
  start = Root c.args.root;
  slots = slots;
  begun = g.L.Links.seat c.args.links.now c.args.p.now;
  room = room;
  keeps = k;
  finds = found g c;
}

pub search_chain-found-requires-clause-begins : goal.search_chain-found-requires-clause-begins
search_chain-found-requires-clause-begins g c =
    let s = g.L.Links.seat _ c.args.p.now in
    let (slots, room, k) = c.requires.keeps in (
      Root c.args.root,
      s,
      has_room (list_reading _) c.args.key 0 c.args.node slots _ room k,
      root_begins _ c.args.root c.args.key s c.requires.root.1 (g.met.L.Links.obeys _ _ c.requires.pass),
    )

pub insert_found-requires-clause-sought : goal.insert_found-requires-clause-sought
insert_found-requires-clause-sought g c =
    let (slots, room, k) = c.requires.keeps in
    sought g (goal.at.insert_found-requires-clause-sought g c).After-search_chain-found slots room k

pub returns : goal.returns
returns g c =
    let d = c.args.links.now in
    let s = g.L.Links.seat d c.args.p.now in
    let t = g.L.Links.seat d c.search_chain-found.new.p in
    let u = g.L.Links.seat d c.insert_found.new.p in
    let at = (goal.at.returns g c).After-search_chain-found in
    let (slots, room, k) = c.requires.keeps in
    let a = sought g at slots room k in
    let e = c.search_chain-found.ensures in
    let f = c.insert_found.ensures in
    let (own, q) = found_quiet (list_reading _) (Root c.args.root) c.args.key s c.search_chain-found.result t (found g at) in
    let part = part_of_later g.L.Links g.met.L.Links.steps_add g.met.L.Links.seen_is d _ c.search_chain-found.new.p c.insert_found.new.p own c.requires.pass
    e.pass q.puts q.some e.later f.later in
    record {
      pass = f.pass;
      later = goes_on _ _ _ e.later f.later;
      inserted = λ slots room k. f.inserted (sought g at slots room k);
      few = few_turn s u (f.few a);
      off = λ many is. found_leaves _ (Root c.args.root) c.args.key t.agent c.search_chain-found.result many s u q.puts.agent (f.added a many is)
          (g.met.L.Links.allowed _ _ f.pass);
      absent = λ is. f.absent a is;
      lacking = λ is. part (g.L.Links.lacking d) (f.lacking is);
      worn = λ why is. part (λ agent. g.L.Links.worn d agent why) (f.worn why is);
    }
