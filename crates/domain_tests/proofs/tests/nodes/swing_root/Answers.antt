use Rattle.domain_tests.proofs.Swings.{any_swing}
use Rattle.domain_tests.proofs.tests.nodes.swing_root.Goals as goal

pub swing-requires-clause-allowed : goal.swing-requires-clause-allowed
swing-requires-clause-allowed g c =
    let d = c.args.links.now in
    any_swing (g.L.Links.numbers d) (g.L.Links.seat d c.args.p.now) (λ h e. g.met.L.Links.held_is d c.args.p.now h c.requires.pass e) 0
    c.args.from.now c.args.to.now c.requires.to
