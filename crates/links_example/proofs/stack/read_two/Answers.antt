-- The two links of the stack lead to its nodes, whose values are read.
use Rattle.std.proofs.Common.{[], refl, subst, sym, ◌∙◌}
use Rattle.std.specs.Prelude.{Some}
use Rattle.orc_heap.specs.declared.events.Place.TheVariants.{Root}
use Rattle.links_example.proofs.Reading.{FindsTwo, StackStays-trans, found_id, found_kept, found_released, lower_released, pair_read, two_found, upper_holds}
use Rattle.links_example.proofs.Stays.{stack_stays}
use Rattle.links_example.specs.Stacks.{HasNode, StackStays}
use Rattle.links_example.proofs.stack.read_two.Given.{Over}
use Rattle.links_example.proofs.stack.read_two.Goals.{After-look_at-lower, After-value-first, After-value-second}
use Rattle.links_example.proofs.stack.read_two.Goals as goal

-- what the two looks found
found : (g : Over) (c : After-look_at-lower g) → let d = c.args.links.now in
    FindsTwo (g.L.Links.numbers d) (Root c.agent-agent.result) c.look_at-upper.result c.look_at-lower.result (g.L.Links.seat d c.args.p.now)
    (g.L.Links.seat d c.look_at-upper.new.p) (g.L.Links.seat d c.look_at-lower.new.p)
found g c = two_found c.requires.slots.0 c.requires.slots.1 c.look_at-upper.ensures.found c.look_at-lower.ensures.found

-- the stack stays while the one value is read, and the other
first_stays : (g : Over) (c : After-value-first g) → let d = c.args.links.now in
    StackStays (g.L.Links.numbers d) (g.L.Links.seat d c.look_at-lower.new.p) (g.L.Links.seat d c.value-first.new.p)
first_stays g c =
    let e = c.value-first.ensures in
    stack_stays _ _ _ [] (g.met.L.Links.allowed c.args.links.now c.value-first.new.p e.pass) e.nothing refl

both_stay : (g : Over) (c : After-value-second g) → let d = c.args.links.now in
    StackStays (g.L.Links.numbers d) (g.L.Links.seat d c.look_at-lower.new.p) (g.L.Links.seat d c.value-first.new.p)
    → StackStays (g.L.Links.numbers d) (g.L.Links.seat d c.look_at-lower.new.p) (g.L.Links.seat d c.value-second.new.p)
both_stay g c first =
    let e = c.value-second.ensures in
    StackStays-trans _ _ _ _ first (stack_stays _ _ _ [] (g.met.L.Links.allowed c.args.links.now c.value-second.new.p e.pass) e.nothing refl)

pub look_at-lower-requires-clause-stack : goal.look_at-lower-requires-clause-stack
look_at-lower-requires-clause-stack g c =
    let d = c.args.links.now in
    let s = g.L.Links.seat d c.look_at-upper.new.p in
    let f = c.look_at-upper.ensures.found in
    let (a, b, pair) = c.requires.stack in
    let is = found_id {place = Root c.agent-agent.result} c.requires.slots.0 f ∙ f.is pair.upper_id (c.agent-agent.ensures, pair.top) in
    let node = f.nodes pair.upper_id a (Some pair.lower_id) pair.upper_node in
    (pair.lower_id, (a, subst (λ i. HasNode (g.L.Links.numbers d) s i a (Some pair.lower_id)) (sym is) node))

pub value-first-requires-clause-held : goal.value-first-requires-clause-held
value-first-requires-clause-held g c = upper_holds (found g (goal.at.value-first-requires-clause-held g c).After-look_at-lower)

pub value-second-requires-clause-held : goal.value-second-requires-clause-held
value-second-requires-clause-held g c =
    let at = goal.at.value-second-requires-clause-held g c in
    let f = found g at.After-look_at-lower in
    found_kept f.free_lower f.two (first_stays g at.After-value-first).slots

pub release-requires-clause-held : goal.release-requires-clause-held
release-requires-clause-held g c =
    let at = goal.at.release-requires-clause-held g c in
    let f = found g at.After-look_at-lower in
    found_kept f.free_lower f.two (both_stay g at.After-value-second (first_stays g at.After-value-first)).slots

pub release-requires-2-clause-held : goal.release-requires-2-clause-held
release-requires-2-clause-held g c =
    let at = goal.at.release-requires-2-clause-held g c in
    let f = found g at.After-look_at-lower in
    let both = both_stay g at.After-value-second (first_stays g at.After-value-first) in
    let e = c.release.ensures in
    found_kept f.free f.one (lower_released f c.requires.fresh both (g.met.L.Links.allowed c.args.links.now c.release.new.p e.pass) e.released).slots

pub returns : goal.returns
returns g c =
    let at = goal.at.returns g c in
    let f = found g at.After-look_at-lower in
    let first = first_stays g at.After-value-first in
    let both = both_stay g at.After-value-second first in
    let allowed = g.met.L.Links.allowed c.args.links.now in
    let one = c.release.ensures in
    let two = c.release-2.ensures in
    record {
      pass = two.pass;
      stays = found_released f.free f.one (allowed c.release-2.new.p two.pass)
          (lower_released f c.requires.fresh both (allowed c.release.new.p one.pass) one.released) c.requires.fresh two.released;
      read = λ a b pair.
          let is = pair_read f first both a b c.value-first.result c.value-second.result pair (c.agent-agent.ensures, pair.top) c.value-first.ensures.value
          c.value-second.ensures.value in
          rw (is.0, is.1) refl;
    }
