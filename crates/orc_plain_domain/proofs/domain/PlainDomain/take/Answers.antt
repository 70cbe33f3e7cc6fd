use Rattle.std.proofs.Common.{[]}
use Rattle.orc_plain_domain.proofs.Growing.{still_adds}
use Rattle.orc_plain_domain.proofs.Taking.{odd_out, still_took, took}
use Rattle.orc_plain_domain.proofs.domain.PlainDomain.take.Goals as goal

pub returns-then-gate-eq1-clause-pass : goal.returns-then-gate-eq1-clause-pass
returns-then-gate-eq1-clause-pass g c =
    still_adds c.args.self.now c.args.p.now c.requires.pass c.gate_look-gate.new.p c.gate_look-gate.ensures.belongs [] c.gate_look-gate.ensures.adds

pub returns-then-gate-eq1-clause-took : goal.returns-then-gate-eq1-clause-took
returns-then-gate-eq1-clause-took g c =
    odd_out c.args.self.now c.args.p.now c.requires.pass c.gate_look-gate.new.p c.gate_look-gate.new.p c.gate_look-gate.ensures.belongs c.args.row
    c.gate_look-gate.ensures.adds c.gate_look-gate.ensures.fresh c.gate_look-gate.result c.gate_look-gate.ensures.gate c.if-gate-eq1.true

pub returns-clause-pass : goal.returns-clause-pass
returns-clause-pass g c =
    still_took c.args.self.now c.args.p.now c.requires.pass c.gate_look-gate.new.p c.gate_take.new.p c.gate_take.ensures.belongs c.args.row
    c.gate_look-gate.ensures.adds c.gate_look-gate.ensures.fresh c.gate_take.result c.gate_take.ensures.answer c.gate_take.ensures.won
    c.gate_take.ensures.lost

pub returns-clause-took : goal.returns-clause-took
returns-clause-took g c =
    took c.args.self.now c.args.p.now c.requires.pass c.gate_look-gate.new.p c.gate_take.new.p c.gate_take.ensures.belongs c.args.row
    c.gate_look-gate.ensures.adds c.gate_look-gate.ensures.fresh c.gate_take.result c.gate_take.ensures.answer c.gate_take.ensures.won
    c.gate_take.ensures.lost
