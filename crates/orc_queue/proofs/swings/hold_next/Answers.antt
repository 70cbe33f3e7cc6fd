-- By what the look found.
use Rattle.orc_heap.proofs.ByAnswer.{Looks-held, Looks-null}
use Rattle.orc_heap.specs.Slots.{id_in}
use Rattle.orc_heap.specs.declared.events.Place.TheVariants.{Next}
use Rattle.orc_queue.proofs.Holding.{pass_known}
use Rattle.orc_queue.proofs.Looking.{found_two, next_held, next_null}
use Rattle.orc_queue.proofs.swings.hold_next.Goals as goal

pub returns-in-Stable-default-None-clause-looked : goal.returns-in-Stable-default-None-clause-looked
returns-in-Stable-default-None-clause-looked g c =
    let e = c.in-Stable-default-None.ensures in
    let known = pass_known g.L.Links g.met.L.Links.opens g.met.L.Links.allowed g.met.L.Links.obeys _ in
    next_null _ _ _ _ _ (known c.args.p.now c.requires.made c.requires.pass) (known c.look.new.p c.requires.made e.pass) e.looked.fresh c.requires.linked
    (Looks-null {place = Next (id_in (g.L.Links.seat _ c.args.p.now).slots c.args.node.now)} e.looked c.in-Stable-default-None.field-1-is)

pub returns-in-Stable-default-Some-clause-looked : goal.returns-in-Stable-default-Some-clause-looked
returns-in-Stable-default-Some-clause-looked g c =
    let e = c.in-Stable-default-Some.ensures in
    let known = pass_known g.L.Links g.met.L.Links.opens g.met.L.Links.allowed g.met.L.Links.obeys _ in
    next_held _ _ _ _ c.args.slot _ _ c.requires.slot (known c.args.p.now c.requires.made c.requires.pass) (known c.look.new.p c.requires.made e.pass)
    e.looked.fresh (Looks-held {place = Next (id_in (g.L.Links.seat _ c.args.p.now).slots c.args.node.now)} e.looked c.in-Stable-default-Some.field-1-is)
    c.requires.linked

pub returns-in-Moved-clause-looked : goal.returns-in-Moved-clause-looked
returns-in-Moved-clause-looked g c =
    let e = c.in-Moved.ensures in
    let known = pass_known g.L.Links g.met.L.Links.opens g.met.L.Links.allowed g.met.L.Links.obeys _ in
    found_two _ _ _ _ c.args.slot (known c.args.p.now c.requires.made c.requires.pass) (known c.look.new.p c.requires.made e.pass) e.looked
