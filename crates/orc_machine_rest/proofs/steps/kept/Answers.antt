use Rattle.std.proofs.Common.{ap, sym, ◌∙◌}
use Rattle.orc_machine_rest.proofs.Passes.{mine}
use Rattle.orc_core.specs.declared.records.Agent.{Agent}
use Rattle.orc_machine_rest.proofs.steps.kept.Goals as goal

pub returns-clause-hand : goal.returns-clause-hand
returns-clause-hand g c = c.kept.ensures.hand ∙ ap (λ (d : Agent). d.hand) (sym (mine c.args.board.now c.args.agent c.args.p.now c.requires.pass))

pub returns-clause-scan : goal.returns-clause-scan
returns-clause-scan g c = c.kept.ensures.scan ∙ ap (λ (d : Agent). d.scan) (sym (mine c.args.board.now c.args.agent c.args.p.now c.requires.pass))

pub returns-clause-list : goal.returns-clause-list
returns-clause-list g c = c.kept.ensures.list ∙ ap (λ (d : Agent). d.list) (sym (mine c.args.board.now c.args.agent c.args.p.now c.requires.pass))
