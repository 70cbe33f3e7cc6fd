use Rattle.std.proofs.Common.{◌≡◌, ◌<◌, ◌%◌, arith}
use Rattle.std.proofs.Math.Nat.{mod-lt}
use Rattle.orc_plain_board.specs.Views.{shows}
use Rattle.orc_plain_domain.specs.Passes.{domain_bounds}
use Rattle.orc_plain_domain.proofs.Resting.{count_low, counted_all, counted_one, covers_on}
use Rattle.orc_plain_domain.proofs.domain.PlainDomain.count_given.Goals as goal

pub overflow_add-given : goal.overflow_add-given
overflow_add-given g c =
    let low = count_low c.args.self.now c.args.p.now c.loop-row.p c.rows-row-end.result c.loop-row.row c.loop-row.given c.loop-row.invariant in
    let row = c.loop-row-test.true in
    let rows = c.loop-row.invariant.inside in
    let few = c.args.self.now.board.words.shape.shape.few_rows in
    let bit : c.gate_look-gate.result % 2 < 2 = mod-lt c.gate_look-gate.result (omega arith) in
    omega (arith, low, row, rows, few, bit)

pub loop-row-preserved : goal.loop-row-preserved
loop-row-preserved g c =
    counted_one c.args.self.now c.args.p.now c.loop-row.p c.rows-row-end.result c.loop-row.row c.loop-row.given c.loop-row.invariant
    c.requires.alone c.gate_look-gate.new.p c.gate_look-gate.ensures.belongs c.gate_look-gate.ensures.adds c.gate_look-gate.result c.gate_look-gate.ensures.gate

pub returns-clause-alone : goal.returns-clause-alone
returns-clause-alone g c =
    covers_on (domain_bounds c.args.self.now).agents (shows c.args.self.now.board c.args.p.now.pass) (shows c.args.self.now.board c.loop-row.p.pass)
    c.loop-row.invariant.agent c.loop-row.invariant.absorbed c.requires.alone

pub returns-clause-count : goal.returns-clause-count
returns-clause-count g c =
    let low = c.loop-row-test.false in
    let high = c.loop-row.auto.row-end in
    let end : c.loop-row.row ≡ c.rows-row-end.result = omega (arith, low, high) in
    counted_all c.args.self.now c.args.p.now c.loop-row.p c.rows-row-end.result c.loop-row.row c.loop-row.given c.loop-row.invariant c.requires.pass end
