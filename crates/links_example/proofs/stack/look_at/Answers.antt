-- The link is the one that the stack had.
use Rattle.orc_heap.proofs.ByAnswer.{Looks-held, Looks-null}
use Rattle.orc_heap.specs.Seats.{place_in}
use Rattle.links_example.proofs.Finding.{finds, not_moved, not_null}
use Rattle.links_example.proofs.stack.look_at.Goals as goal

pub unreachable-requires : goal.unreachable-requires
unreachable-requires g c =
    let d = c.args.links.now in
    let place = place_in (g.L.Links.seat d c.args.p.now).slots c.args.place.now in
    let e = c.in-Stable-default-None.ensures in
    not_null (g.L.Links.numbers d) _ _ place _ c.requires.stack.0 (g.met.L.Links.allowed d c.look.new.p e.pass) c.requires.stack.1
    (Looks-null {place = place} e.looked c.in-Stable-default-None.field-1-is)

pub unreachable-requires-in-Moved : goal.unreachable-requires-in-Moved
unreachable-requires-in-Moved g c =
    let d = c.args.links.now in
    let place = place_in (g.L.Links.seat d c.args.p.now).slots c.args.place.now in
    let e = c.in-Moved.ensures in
    not_moved (g.L.Links.numbers d) _ _ place c.args.slot c.requires.stack.0 (g.met.L.Links.allowed d c.look.new.p e.pass) c.requires.stack.1 e.looked

pub returns-clause-found : goal.returns-clause-found
returns-clause-found g c =
    let d = c.args.links.now in
    let place = place_in (g.L.Links.seat d c.args.p.now).slots c.args.place.now in
    let e = c.in-Stable-default-Some.ensures in
    finds (g.L.Links.numbers d) _ _ place c.args.slot _ c.in-Stable-default-Some.h (g.met.L.Links.allowed d c.look.new.p e.pass) e.looked.fresh
    (Looks-held {place = place} e.looked c.in-Stable-default-Some.field-1-is)
