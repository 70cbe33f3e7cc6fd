-- The root is there, and it is never null.
use Rattle.orc_heap.proofs.ByAnswer.{Looks-held, Looks-null}
use Rattle.orc_heap.specs.declared.events.Place.TheVariants.{Root}
use Rattle.orc_queue.proofs.Holding.{found_holds, pass_known}
use Rattle.orc_queue.proofs.Looking.{found_two, root_held, root_named, root_not_null, roots_there}
use Rattle.orc_queue.proofs.swings.hold_root.Goals as goal

pub look-requires-clause-place : goal.look-requires-clause-place
look-requires-clause-place g c =
    let known = pass_known g.L.Links g.met.L.Links.opens g.met.L.Links.allowed g.met.L.Links.obeys _ in
    roots_there _ _ c.args.root (known c.args.p.now c.requires.made c.requires.pass) c.requires.root

pub unreachable-requires : goal.unreachable-requires
unreachable-requires g c =
    let e = c.in-Stable-default-None.ensures in
    let known = pass_known g.L.Links g.met.L.Links.opens g.met.L.Links.allowed g.met.L.Links.obeys _ in
    root_not_null _ _ _ c.args.root _ c.requires.root (known c.args.p.now c.requires.made c.requires.pass) (g.met.L.Links.allowed _ _ e.pass)
    (Looks-null {place = Root c.args.root} e.looked c.in-Stable-default-None.field-1-is)

pub returns-in-Stable-default-Some-clause-looked : goal.returns-in-Stable-default-Some-clause-looked
returns-in-Stable-default-Some-clause-looked g c =
    let e = c.in-Stable-default-Some.ensures in
    let known = pass_known g.L.Links g.met.L.Links.opens g.met.L.Links.allowed g.met.L.Links.obeys _ in
    root_held _ _ _ c.args.root c.args.slot _ _ c.requires.root c.requires.slot (known c.args.p.now c.requires.made c.requires.pass)
    (known c.look.new.p c.requires.made e.pass) e.looked.fresh (Looks-held {place = Root c.args.root} e.looked c.in-Stable-default-Some.field-1-is)

pub returns-in-Moved-clause-looked : goal.returns-in-Moved-clause-looked
returns-in-Moved-clause-looked g c =
    let e = c.in-Moved.ensures in
    let known = pass_known g.L.Links g.met.L.Links.opens g.met.L.Links.allowed g.met.L.Links.obeys _ in
    found_two _ _ _ _ c.args.slot (known c.args.p.now c.requires.made c.requires.pass) (known c.look.new.p c.requires.made e.pass) e.looked

pub returns-in-Stable-default-Some-clause-held : goal.returns-in-Stable-default-Some-clause-held
returns-in-Stable-default-Some-clause-held g c = found_holds (returns-in-Stable-default-Some-clause-looked g c).node

pub returns-in-Stable-default-Some-clause-named : goal.returns-in-Stable-default-Some-clause-named
returns-in-Stable-default-Some-clause-named g c = root_named (returns-in-Stable-default-Some-clause-looked g c)
