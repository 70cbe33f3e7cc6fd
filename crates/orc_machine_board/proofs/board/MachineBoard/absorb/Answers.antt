use Rattle.std.proofs.Common.{subst, sym, ℕ, ◌∙◌}
use Rattle.orc_core.specs.declared.records.Agent.{Agent}
use Rattle.orc_machine_board.proofs.Learning.{absorb_keeps, absorbs}
use Rattle.orc_machine_board.specs.Passes.{AbsorbsSteps}
use Rattle.orc_machine_board.specs.Rules.{heap_numbers}
use Rattle.orc_machine_board.specs.Views.{Keeps, view_of}
use Rattle.orc_shared_words.specs.declared.journal.View.{View}
use Rattle.orc_sound.specs.declared.steps.Step.{Step}
use Rattle.orc_machine_board.proofs.board.MachineBoard.absorb.Goals as goal

pub returns-clause-into : goal.returns-clause-into
returns-clause-into g c =
    let k = c.args.self.now.words.shape in
    let l = c.learn.ensures in
    let d = g.D.Discipline in
    record {
      table = c.absorb.ensures.table ∙ (l.table.0 ∙ c.requires.into.table);
      keeps = subst (λ (z : View (Step _) Agent × ℕ). Keeps k (d.holds (heap_numbers k)) (d.may (heap_numbers k)) z.0 z.1)
          (λ i. (sym c.absorb.ensures.view i, sym (c.absorb.ensures.agent ∙ l.agents.0) i))
          (absorb_keeps c.requires.into.keeps c.requires.from.keeps l.learned);
    }

pub returns-clause-absorbs : goal.returns-clause-absorbs
returns-clause-absorbs g c =
    let l = c.learn.ensures in
    let v = c.args.into.now.pass in
    let u = c.args.from.pass in
    subst (λ (z : View (Step _) Agent × ℕ). AbsorbsSteps (view_of v.agent v.seat.me.0) (view_of u.agent u.seat.me.0) (view_of z.1 z.0))
    (λ i. (sym c.absorb.ensures.view i, sym (c.absorb.ensures.agent ∙ l.agents.0) i)) (absorbs c.requires.into.keeps c.requires.from.keeps l.learned)
