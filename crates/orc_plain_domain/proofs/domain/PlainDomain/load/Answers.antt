use Rattle.std.proofs.Common.{refl, arith}
use Rattle.orc_plain_domain.proofs.OneStep.{link_low, loads, still_loaded}
use Rattle.orc_plain_domain.proofs.domain.PlainDomain.load.Goals as goal

pub unreachable-requires : goal.unreachable-requires
unreachable-requires g c =
    let high = c.in_default.ensures.outside.0 refl in
    let low = link_low c.args.self.now c.args.p.now c.requires.pass c.link_load-word.new.p c.link_load-word.ensures.belongs c.args.at
    c.link_load-word.result (c.link_load-word.ensures.finds refl) in
    omega (arith, high, low)

pub returns-clause-pass : goal.returns-clause-pass
returns-clause-pass g c =
    still_loaded c.args.self.now c.args.p.now c.requires.pass c.link_load-word.new.p c.link_load-word.ensures.belongs c.args.at
    c.link_load-word.result (c.link_load-word.ensures.finds refl)

pub returns-clause-loaded : goal.returns-clause-loaded
returns-clause-loaded g c =
    loads c.args.self.now c.args.p.now c.requires.pass c.link_load-word.new.p c.link_load-word.ensures.belongs c.args.at c.link_load-word.result
    c.in-Some.link c.in-Some.ensures.packed (c.link_load-word.ensures.finds refl) c.link_load-word.ensures.fresh
