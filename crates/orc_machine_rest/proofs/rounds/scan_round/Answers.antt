use Rattle.std.proofs.Common.{ap, arith, subst, sym, ◌∙◌}
use Rattle.orc_machine_rest.proofs.Passes.{bounds_are}
use Rattle.orc_machine_rest.specs.Passes.{state_of}
use Rattle.orc_rest.proofs.Places.{place_fits}
use Rattle.orc_rest.specs.Records.{PlaceFits}
use Rattle.orc_words.specs.Bounds.{Bounds}
use Rattle.orc_machine_rest.proofs.rounds.scan_round.Goals as goal

pub look_over-requires-clause-place : goal.look_over-requires-clause-place
look_over-requires-clause-place g c =
    let m = state_of c.args.board.now c.args.p.now in
    let same = sym c.kept.ensures.scan ∙ c.in-Some.is in
    let low = subst (PlaceFits m.bounds) same (place_fits m c.args.agent c.requires.pass.reached) in
    let agents = ap (λ (b : Bounds). b.agents) (bounds_are c.args.board.now c.args.p.now) in
    omega (arith, low, agents)
