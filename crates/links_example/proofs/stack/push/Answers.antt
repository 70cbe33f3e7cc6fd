-- The new node is linked on top of what was there.
use Rattle.std.proofs.Common.{rules, [], ap, refl, sym, ◌∙◌}
use Rattle.std.specs.Prelude.{None, Some}
use Rattle.orc_heap.proofs.ByAnswer.{Swings-fresh, Swings-missed, Swings-moved}
use Rattle.orc_heap.specs.Seats.{target_in}
use Rattle.orc_heap.specs.Slots.{id_in}
use Rattle.links_example.proofs.Pushing.{Readied, given_ready, linked_ready, ready_after, ready_fresh, ready_holds}
use Rattle.links_example.proofs.Pushing.{ready_pushed, ready_released, ready_same, ready_target}
use Rattle.links_example.proofs.Stays.{stack_stays}
use Rattle.links_example.proofs.Swings.{move_allowed, no_miss}
use Rattle.links_example.specs.Stacks.{plain_link}
use Rattle.links_example.proofs.stack.push.Given.{Over}
use Rattle.links_example.proofs.stack.push.Goals.{In-Err-aim, In-Err-swing, In_default}
use Rattle.links_example.proofs.stack.push.Goals as goal

-- no link was set: the new node is as it was given
unaimed : (g : Over) (c : In-Err-aim g) → let d = c.args.links.now in
    Readied (g.L.Links.numbers d) None c.args.slot c.args.value (g.L.Links.seat d c.args.p.now) c.in-Ok.node (g.L.Links.seat d c.aim.new.p)
unaimed g c =
    let d = c.args.links.now in
    let e = c.in-Ok.ensures in
    let f = c.in-Err-aim.ensures in
    ready_after c.requires.slot (given_ready _ c.args.slot c.args.value _ c.in-Ok.node _ (g.met.L.Links.allowed d c.give.new.p e.pass) e.given)
    (g.met.L.Links.allowed d c.aim.new.p f.pass) (g.met.L.Links.obeys d c.give.new.p e.pass) f.none

-- its link was set to what was on top
aimed : (g : Over) (c : In_default g) → let d = c.args.links.now in let s = g.L.Links.seat d c.args.p.now in
    Readied (g.L.Links.numbers d) (target_in s.slots c.args.top) c.args.slot c.args.value s c.in-Ok.node (g.L.Links.seat d c.aim.new.p)
aimed g c =
    let d = c.args.links.now in
    let e = c.in-Ok.ensures in
    let f = c.in_default.ensures in
    linked_ready _ c.args.slot c.args.value _ c.in-Ok.node _ _ c.args.top c.requires.slot (g.met.L.Links.allowed d c.give.new.p e.pass)
    (g.met.L.Links.allowed d c.aim.new.p f.pass) (g.met.L.Links.obeys d c.give.new.p e.pass) c.requires.held c.requires.node e.given f.aimed

-- and stays so where the swing was refused
unswung : (g : Over) (c : In-Err-swing g) → let d = c.args.links.now in let s = g.L.Links.seat d c.args.p.now in
    Readied (g.L.Links.numbers d) (target_in s.slots c.args.top) c.args.slot c.args.value s c.in-Ok.node (g.L.Links.seat d c.aim.new.p)
    → Readied (g.L.Links.numbers d) (target_in s.slots c.args.top) c.args.slot c.args.value s c.in-Ok.node (g.L.Links.seat d c.swing.new.p)
unswung g c ready =
    let d = c.args.links.now in
    let e = c.in-Err-swing.ensures in
    ready_after c.requires.slot ready (g.met.L.Links.allowed d c.swing.new.p e.pass) (g.met.L.Links.obeys d c.aim.new.p c.in_default.ensures.pass) e.none

pub returns-in-Err-clause-none : goal.returns-in-Err-clause-none
returns-in-Err-clause-none g c =
    let e = c.in-Err.ensures in
    stack_stays _ _ _ [] (g.met.L.Links.allowed c.args.links.now c.give.new.p e.pass) e.none refl

pub aim-requires : goal.aim-requires
aim-requires g c =
    let e = c.in-Ok.ensures in
    let all = g.met.L.Links.allowed c.args.links.now c.give.new.p e.pass in
    let r = given_ready _ c.args.slot c.args.value _ c.in-Ok.node _ all e.given in
    record {
      pass = e.pass;
      allowed = search rules;
      fresh = ready_fresh c.requires.slot r;
      target = ready_target c.requires.slot r c.args.top c.requires.held c.requires.node;
    }

pub release-requires-clause-held : goal.release-requires-clause-held
release-requires-clause-held g c = ready_holds c.requires.slot (unaimed g (goal.at.release-requires-clause-held g c).In-Err-aim)

pub returns-in-Err-aim-clause-none : goal.returns-in-Err-aim-clause-none
returns-in-Err-aim-clause-none g c =
    let e = c.release.ensures in
    ready_released c.requires.slot (unaimed g (goal.at.returns-in-Err-aim-clause-none g c).In-Err-aim)
    (g.met.L.Links.allowed c.args.links.now c.release.new.p e.pass) c.requires.fresh e.released

pub swing-requires : goal.swing-requires
swing-requires g c =
    let r = aimed g (goal.at.swing-requires g c).In_default in
    let d = c.args.links.now in
    let u = g.L.Links.seat d c.aim.new.p in
    let f = c.in_default.ensures in
    let holds = ready_holds c.requires.slot r in
    record {
      pass = f.pass;
      place = search rules;
      linked = search rules;
      links = (c.below-below.ensures.held u (ready_target c.requires.slot r c.args.top c.requires.held c.requires.node), holds);
      allowed = move_allowed (g.L.Links.numbers d) u c.agent-agent.result _ (plain_link (Some (id_in u.slots c.in-Ok.node)))
          (c.agent-agent.ensures ∙ sym r.agent) refl
          (g.met.L.Links.held_is d c.aim.new.p c.in-Ok.node f.pass holds);
    }

pub unreachable-requires : goal.unreachable-requires
unreachable-requires g c =
    let r = aimed g (goal.at.unreachable-requires g c).In_default in
    let d = c.args.links.now in
    let u = g.L.Links.seat d c.aim.new.p in
    let is = c.below-below.ensures.link u.slots ∙ ap plain_link (ready_same c.requires.slot r c.args.top c.requires.held) in
    let e = c.in-Ok-false.ensures in
    no_miss (g.L.Links.numbers d) u _ c.agent-agent.result _ (c.agent-agent.ensures ∙ sym r.agent) (g.met.L.Links.allowed d c.swing.new.p e.pass)
    (r.top _ c.requires.top ∙ ap Some (sym is)) (Swings-missed e.swung c.in-Ok-false.field-0-test)

pub release-requires-in-Err-swing-clause-held : goal.release-requires-in-Err-swing-clause-held
release-requires-in-Err-swing-clause-held g c =
    let at = goal.at.release-requires-in-Err-swing-clause-held g c in
    ready_holds c.requires.slot (unswung g at.In-Err-swing (aimed g at.In_default))

pub returns-in-Ok-true-clause-pushed : goal.returns-in-Ok-true-clause-pushed
returns-in-Ok-true-clause-pushed g c =
    let r = aimed g (goal.at.returns-in-Ok-true-clause-pushed g c).In_default in
    let d = c.args.links.now in
    let e = c.in-Ok-true.ensures in
    ready_pushed c.requires.slot r _ c.agent-agent.result _ _ (c.agent-agent.ensures ∙ sym r.agent) (g.met.L.Links.allowed d c.swing.new.p e.pass)
    (g.met.L.Links.obeys d c.aim.new.p c.in_default.ensures.pass) c.requires.fresh e.swung.slots (Swings-fresh e.swung c.in-Ok-true.field-0-test)
    (Swings-moved e.swung c.in-Ok-true.field-0-test)

pub returns-in-Err-swing-clause-none : goal.returns-in-Err-swing-clause-none
returns-in-Err-swing-clause-none g c =
    let at = goal.at.returns-in-Err-swing-clause-none g c in
    let e = c.release-in-Err-swing.ensures in
    ready_released c.requires.slot (unswung g at.In-Err-swing (aimed g at.In_default))
    (g.met.L.Links.allowed c.args.links.now c.release-in-Err-swing.new.p e.pass) c.requires.fresh e.released
