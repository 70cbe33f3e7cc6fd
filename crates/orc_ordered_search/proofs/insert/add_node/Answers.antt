-- The node is linked, and all other nodes are let go.
use Rattle.std.proofs.Common.{None}
use Rattle.orc_heap.proofs.Pieces.{goes_on}
use Rattle.orc_ordered_search.specs.Inserts.{NodeToAdd}
use Rattle.orc_ordered_search.specs.Reading.{ordering_of}
use Rattle.orc_ordered_search.specs.Searches.{InHand}
use Rattle.orc_ordered_search.proofs.Adding.{links_few, links_gone, links_hand, links_on}
use Rattle.orc_ordered_search.proofs.Marking.{err_worn}
use Rattle.orc_ordered_search.proofs.insert.add_node.Given.{Over}
use Rattle.orc_ordered_search.proofs.insert.add_node.Goals.{After-link_node-linked}
use Rattle.orc_ordered_search.proofs.insert.add_node.Goals as goal

-- the nodes of the search are in hand on
hands : (g : Over) (c : After-link_node-linked g) → let d = c.args.links.now in let x = ordering_of (g.met.K.Rank.ordered (g.L.Links.numbers d)) in
    (a : NodeToAdd x.reading x.holds x.may c.args.root c.args.note c.args.left c.args.first c.args.right c.args.node.now (g.L.Links.seat d c.args.p.now))
    → InHand x.reading a.slots c.args.left c.args.first c.args.right None (g.L.Links.seat d c.link_node-linked.new.p)
hands g c = λ a.
    let e = c.link_node-linked.ensures in
    links_hand (ordering_of (g.met.K.Rank.ordered _)) a.start a.wanted a.value a.kind c.args.left c.args.first c.args.right c.args.node.now
    a.given a.slots a.begun _ a.at c.args.note _ c.link_node-linked.result (e.linked a)
    (g.met.L.Links.allowed _ _ e.pass)

pub link_node-linked-requires : goal.link_node-linked-requires
link_node-linked-requires g c = record { pass = c.requires.pass; root = c.requires.root; adds = c.requires.adds }

pub let_all_go-requires : goal.let_all_go-requires
let_all_go-requires g c =
    record {
      pass = c.link_node-linked.ensures.pass;
      hands = (c.requires.adds.slots, hands g (goal.at.let_all_go-requires g c).After-link_node-linked c.requires.adds);
    }

pub returns : goal.returns
returns g c =
    record {
      pass = c.let_all_go.ensures.pass;
      later = goes_on _ _ _ c.link_node-linked.ensures.later c.let_all_go.ensures.later;
      added = λ a.
          let e = c.link_node-linked.ensures in
          let f = c.let_all_go.ensures in
          links_on (ordering_of (g.met.K.Rank.ordered _)) a.start a.wanted a.value a.kind c.args.left c.args.first c.args.right c.args.node.now
          a.given a.slots a.begun _ a.at c.args.note _ _
          c.link_node-linked.result (e.linked a) (f.gone a.slots (hands g (goal.at.returns g c).After-link_node-linked a))
          (g.met.L.Links.obeys _ _ e.pass) (g.met.L.Links.allowed _ _ e.pass)
          (g.met.L.Links.allowed _ _ f.pass);
      few = λ a.
          links_few (ordering_of (g.met.K.Rank.ordered _)) a.start a.wanted a.value a.kind c.args.left c.args.first c.args.right c.args.node.now
          a.given a.slots a.begun _ a.at c.args.note _ _
          c.link_node-linked.result (c.link_node-linked.ensures.linked a)
          (c.let_all_go.ensures.gone a.slots (hands g (goal.at.returns g c).After-link_node-linked a));
      linked = λ a is.
          links_gone (ordering_of (g.met.K.Rank.ordered _)) a.start a.wanted a.value a.kind c.args.left c.args.first c.args.right c.args.node.now
          a.given a.slots a.begun _ a.at c.args.note _ _
          c.link_node-linked.result (c.link_node-linked.ensures.linked a)
          (c.let_all_go.ensures.gone a.slots (hands g (goal.at.returns g c).After-link_node-linked a)) is;
      worn = λ why is.
          let d = c.args.links.now in
          let agent = (g.L.Links.seat d c.args.p.now).agent in
          let e = c.link_node-linked.ensures in
          err_worn (g.L.Links.worn d agent) _ _ _ (λ why xs more from to h. g.met.L.Links.worn_stays d agent why xs more from to h) c.let_all_go.ensures.later
          c.link_node-linked.result why is e.worn;
    }
