-- Two pushes make a pair, which is read and taken away.
use Rattle.std.specs.Prelude.{None}
use Rattle.links_example.proofs.Pairs.{first_node, pair}
use Rattle.links_example.proofs.Stays.{empty_stays}
use Rattle.links_example.proofs.stack.through_a_stack.Goals as goal

pub push-requires-2-clause-node : goal.push-requires-2-clause-node
push-requires-2-clause-node g c = (c.args.lower, None, first_node c.requires.idle c.in_ok-one.ensures.pushed)

pub returns-in-Err-clause-empty : goal.returns-in-Err-clause-empty
returns-in-Err-clause-empty g c =
    let e = c.release.ensures in
    empty_stays _ _ _ (g.met.L.Links.allowed c.args.links.now c.release.new.p e.pass) e.released.puts c.clear.ensures.cleared.top

pub read_two-got-requires-clause-stack : goal.read_two-got-requires-clause-stack
read_two-got-requires-clause-stack g c = (c.args.upper, c.args.lower, pair c.requires.idle c.in_ok-one.ensures.pushed c.in-Ok.ensures.pushed)

pub returns-clause-empty : goal.returns-clause-empty
returns-clause-empty g c =
    let d = c.args.links.now in
    let n = g.L.Links.numbers d in
    let e2 = c.release-2.ensures in
    let e3 = c.release-3.ensures in
    let e4 = c.settle.ensures in
    let two = empty_stays n _ _ (g.met.L.Links.allowed d c.release-2.new.p e2.pass) e2.released.puts c.clear-2.ensures.cleared.top in
    let one = empty_stays n _ _ (g.met.L.Links.allowed d c.release-3.new.p e3.pass) e3.released.puts two in
    empty_stays n _ _ (g.met.L.Links.allowed d c.settle.new.p e4.pass) e4.nothing.puts one

pub returns-clause-read : goal.returns-clause-read
returns-clause-read g c =
    c.read_two-got.ensures.read c.args.upper c.args.lower (pair c.requires.idle c.in_ok-one.ensures.pushed c.in-Ok.ensures.pushed)
