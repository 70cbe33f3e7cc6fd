-- One search, the mark if it found the key, and then all nodes are let go.
use Rattle.std.proofs.Common.{true}
use Rattle.orc_heap.proofs.Pieces.{goes_on}
use Rattle.orc_heap.specs.declared.events.Place.TheVariants.{Root}
use Rattle.orc_history.specs.declared.set.SetEntry.TheVariants.{Removed}
use Rattle.orc_chain_rule.specs.declared.chain.ChainNote.TheVariants.{Entry}
use Rattle.orc_ordered_search.specs.Searches.{FindsAbsent, FindsPresent}
use Rattle.orc_ordered_search.proofs.Adding.{absent_sees}
use Rattle.orc_ordered_search.proofs.Held.{absent_hand}
use Rattle.orc_ordered_search.proofs.Making.{found_over}
use Rattle.orc_ordered_search.proofs.Removing.{marked_hand, marks_at, reads_node}
use Rattle.orc_list.specs.Searches.{list_reading}
use Rattle.orc_list.proofs.Ordered.{list_ordering}
use Rattle.orc_list.proofs.Removing.{mark_stops, quiet_stops, tires_stops}
use Rattle.orc_list.proofs.Starting.{root_begins}
use Rattle.orc_list.proofs.remove.stop_a_remove.Given.{Over}
use Rattle.orc_list.proofs.remove.stop_a_remove.Goals.{In-Absent, In-Present}
use Rattle.orc_list.proofs.remove.stop_a_remove.Goals as goal

-- what the search found
absent : (g : Over) (c : In-Absent g) → let d = c.args.links.now in let f = c.in-Absent in
    FindsAbsent (list_reading (g.L.Links.numbers d)) (Root c.args.root) c.args.key f.passed f.left f.first f.right (g.L.Links.seat d c.args.p.now)
    (g.L.Links.seat d c.search_chain.new.p)
absent g c =
    c.in-Absent.ensures.found (Root c.args.root) _ c.requires.room
    (root_begins _ c.args.root c.args.key _ c.requires.root.1 (g.met.L.Links.obeys _ _ c.requires.pass))

present : (g : Over) (c : In-Present g) → let d = c.args.links.now in let f = c.in-Present in
    FindsPresent (list_reading (g.L.Links.numbers d)) (Root c.args.root) c.args.key f.passed f.left f.first f.node f.next (g.L.Links.seat d c.args.p.now)
    (g.L.Links.seat d c.search_chain.new.p)
present g c =
    c.in-Present.ensures.found (Root c.args.root) _ c.requires.room
    (root_begins _ c.args.root c.args.key _ c.requires.root.1 (g.met.L.Links.obeys _ _ c.requires.pass))

pub search_chain-requires : goal.search_chain-requires
search_chain-requires g c =
    let r = c.requires in
    let s = g.L.Links.seat _ c.args.p.now in
    record {
      pass = r.pass;
      root = r.root;
      begins = (Root c.args.root, s, r.room, root_begins _ c.args.root c.args.key s r.root.1 (g.met.L.Links.obeys _ _ r.pass));
    }

pub returns-in-Over-clause-pass : goal.returns-in-Over-clause-pass
returns-in-Over-clause-pass g c = c.in-Over.ensures.pass

pub returns-in-Over-clause-later : goal.returns-in-Over-clause-later
returns-in-Over-clause-later g c = c.in-Over.ensures.later

pub returns-in-Over-clause-stopped : goal.returns-in-Over-clause-stopped
returns-in-Over-clause-stopped g c =
    let moved = c.in-Over.ensures.found (Root c.args.root) _ c.requires.room
    (root_begins _ c.args.root c.args.key _ c.requires.root.1 (g.met.L.Links.obeys _ _ c.requires.pass)) in
    tires_stops _ c.args.key _ _ (found_over (list_reading _) _ _ moved.0)

pub let_all_go-requires-clause-hands : goal.let_all_go-requires-clause-hands
let_all_go-requires-clause-hands g c =
    let f = c.in-Absent in
    let found = absent g (goal.at.let_all_go-requires-clause-hands g c).In-Absent in
    (_, absent_hand (list_ordering _) (Root c.args.root) c.args.key f.passed f.left f.first (g.L.Links.seat _ c.args.p.now) _ f.right found)

pub returns-in-Absent-clause-stopped : goal.returns-in-Absent-clause-stopped
returns-in-Absent-clause-stopped g c =
    let s = g.L.Links.seat _ c.args.p.now in
    let f = c.in-Absent in
    let found = absent g (goal.at.returns-in-Absent-clause-stopped g c).In-Absent in
    let e = c.let_all_go.ensures in
    let gone = e.gone s.slots (absent_hand (list_ordering _) (Root c.args.root) c.args.key f.passed f.left f.first s _ f.right found) in
    quiet_stops _ c.args.key s _ _ found.own found.behind.quiet gone.puts gone.slots_are gone.fresh
    (λ w alone. absent_sees (list_ordering _) (Root c.args.root) c.args.key f.passed f.left f.first f.right s _ _ found gone.puts
    (g.met.L.Links.allowed _ _ e.pass))

pub mark_node-marked-requires : goal.mark_node-marked-requires
mark_node-marked-requires g c =
    let r = reads_node (list_ordering _) (present g (goal.at.mark_node-marked-requires g c).In-Present) in
    record { pass = c.in-Present.ensures.pass; node = r.node_held; next = r.next_held; key = r.key; follows = r.follows }

pub let_all_go-requires-in-Present-clause-hands : goal.let_all_go-requires-in-Present-clause-hands
let_all_go-requires-in-Present-clause-hands g c =
    let found = present g (goal.at.let_all_go-requires-in-Present-clause-hands g c).In-Present in
    let e = c.mark_node-marked.ensures in
    let noted = Entry (Removed (g.L.Links.seat _ c.search_chain.new.p).agent c.args.key true) in
    (_, marked_hand (list_ordering _) found noted _ _ (marks_at (list_ordering _) found noted _ _ e.marked) (g.met.L.Links.allowed _ _ e.pass))

pub returns-in-Present-clause-stopped : goal.returns-in-Present-clause-stopped
returns-in-Present-clause-stopped g c =
    let found = present g (goal.at.returns-in-Present-clause-stopped g c).In-Present in
    let e = c.mark_node-marked.ensures in
    let noted = Entry (Removed (g.L.Links.seat _ c.search_chain.new.p).agent c.args.key true) in
    let m = marks_at (list_ordering _) found noted _ _ e.marked in
    let all = g.met.L.Links.allowed _ _ e.pass in
    let gone = c.let_all_go-in-Present.ensures.gone _ (marked_hand (list_ordering _) found noted _ _ m all) in
    mark_stops found c.mark_node-marked.result _ _ m gone all

pub let_all_go-requires-clause-pass : goal.let_all_go-requires-clause-pass
let_all_go-requires-clause-pass g c = c.in-Absent.ensures.pass

pub returns-in-Absent-clause-pass : goal.returns-in-Absent-clause-pass
returns-in-Absent-clause-pass g c = c.let_all_go.ensures.pass

pub returns-in-Absent-clause-later : goal.returns-in-Absent-clause-later
returns-in-Absent-clause-later g c = goes_on _ _ _ c.in-Absent.ensures.later c.let_all_go.ensures.later

pub let_all_go-requires-in-Present-clause-pass : goal.let_all_go-requires-in-Present-clause-pass
let_all_go-requires-in-Present-clause-pass g c = c.mark_node-marked.ensures.pass

pub returns-in-Present-clause-pass : goal.returns-in-Present-clause-pass
returns-in-Present-clause-pass g c = c.let_all_go-in-Present.ensures.pass

pub returns-in-Present-clause-later : goal.returns-in-Present-clause-later
returns-in-Present-clause-later g c =
    goes_on _ _ _ (goes_on _ _ _ c.in-Present.ensures.later c.mark_node-marked.ensures.later) c.let_all_go-in-Present.ensures.later
