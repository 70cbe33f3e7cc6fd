use Rattle.std.proofs.Common.{arith, refl, subst, sym}
use Rattle.std.specs.Option.{IsNone}
use Rattle.std.specs.Prelude.{None}
use Rattle.orc_domain.proofs.Loading.{is_low}
use Rattle.orc_domain.proofs.Ending.{stage_of}
use Rattle.orc_domain.proofs.domain.OrcDomain.load.Goals as goal

pub unreachable-requires : goal.unreachable-requires
unreachable-requires g c =
    let e = c.link_load-word.ensures in
    let s = stage_of c.requires.belongs in
    let t = stage_of e.belongs in
    let low = is_low s t c.args.at None None None c.link_load-word.result e.makes c.requires.allowed tt in
    let none : IsNone c.read_link.result = subst IsNone (sym c.in_default.is) refl in
    let high = c.read_link.ensures.outside.0 none in
    omega (arith, low, high)
