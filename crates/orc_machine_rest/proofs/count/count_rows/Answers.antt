use Rattle.std.proofs.Common.{arith}
use Rattle.orc_machine_rest.proofs.Counted.{balance_end, counted_one, gate_low, given_end, given_low, journal_end, linked_end, linked_low, still_all}
use Rattle.orc_machine_rest.proofs.count.count_rows.Goals as goal

pub overflow_add-given : goal.overflow_add-given
overflow_add-given g c =
    let i = c.loop-row.invariant in
    let row = c.loop-row-test.true in
    let low = given_low c.args.board.now i c.requires.belongs (omega arith) in
    let one = gate_low c.args.board.now i c.requires.all c.gate_look-gate.ensures.belongs c.gate_look-gate.ensures.made c.requires.belongs row in
    let rows = i.inside in
    let few = c.args.board.now.words.shape.shape.few_rows in
    omega (arith, low, one, row, rows, few)

pub overflow_add-linked : goal.overflow_add-linked
overflow_add-linked g c =
    let row = c.loop-row-test.true in
    let low = linked_low c.args.board.now c.loop-row.invariant in
    let rows = c.loop-row.invariant.inside in
    let few = c.args.board.now.words.shape.shape.few_rows in
    omega (arith, low, row, rows, few)

pub loop-row-preserved : goal.loop-row-preserved
loop-row-preserved g c =
    counted_one c.args.board.now c.loop-row.invariant c.requires.all c.gate_look-gate.ensures.belongs c.gate_look-gate.ensures.made

pub overflow_sub-reused : goal.overflow_sub-reused
overflow_sub-reused g c =
    let e = balance_end c.args.board.now c.loop-row.invariant c.loop-row-test.false c.loop-row.auto.row-end in
    omega arith

pub returns : goal.returns
returns g c =
    let b = c.args.board.now in
    let i = c.loop-row.invariant in
    let low = c.loop-row-test.false in
    let high = c.loop-row.auto.row-end in
    let e = balance_end b i low high in
    record {
      belongs = i.belongs;
      all = still_all b i c.requires.all;
      journal = journal_end b i low high;
      given = given_end b i low high;
      reused = omega arith;
      linked = linked_end b i low high;
      balance = omega arith;
    }
