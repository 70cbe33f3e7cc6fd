use Rattle.std.proofs.Common.{subst, sym, ℕ, ◌∙◌}
use Rattle.orc_machine_board.proofs.Learning.{both_keep, learns}
use Rattle.orc_machine_board.specs.Passes.{LearnsSteps}
use Rattle.orc_machine_board.specs.Views.{view_of}
use Rattle.orc_machine_board.proofs.board.MachineBoard.learn.Goals as goal

pub returns-clause-into : goal.returns-clause-into
returns-clause-into g c = let l = c.learn.ensures in record {
  table = l.table.0 ∙ c.requires.into.table;
  keeps = (both_keep c.requires.into.keeps c.requires.from.keeps l.learned l.agents.0 l.agents.1).0;
}

pub returns-clause-from : goal.returns-clause-from
returns-clause-from g c = let l = c.learn.ensures in record {
  table = l.table.1 ∙ c.requires.from.table;
  keeps = (both_keep c.requires.into.keeps c.requires.from.keeps l.learned l.agents.0 l.agents.1).1;
}

pub returns-clause-learns : goal.returns-clause-learns
returns-clause-learns g c =
    let l = c.learn.ensures in
    let v = c.args.into.now.pass in
    let u = c.args.from.now.pass in
    subst (λ (z : ℕ × ℕ). LearnsSteps (view_of v.agent v.seat.me.0) (view_of u.agent u.seat.me.0) (view_of z.0 c.learn.new.into.seat.me.0)
    (view_of z.1 c.learn.new.from.seat.me.0))
    (λ i. (sym l.agents.0 i, sym l.agents.1 i)) (learns c.requires.into.keeps c.requires.from.keeps l.learned)
