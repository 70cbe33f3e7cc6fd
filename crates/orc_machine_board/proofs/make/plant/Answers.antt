use Rattle.std.proofs.Common.{ap, subst, sym, ◌∙◌}
use Rattle.orc_core.specs.Runs.{run}
use Rattle.orc_machine_board.specs.Plays.{PlaysOn}
use Rattle.orc_machine_board.specs.Rules.{seeding}
use Rattle.orc_sound.specs.Journals.{plain}
use Rattle.orc_words.specs.Bounds.{Bounds}
use Rattle.orc_machine_board.proofs.make.plant.Goals as goal

pub play-requires : goal.play-requires
play-requires g c = record { goes = subst (λ s. (b : Bounds) × PlaysOn b c.args.state.now (plain (seeding s))) c.in-Dummy.is c.requires }

pub returns-in-Dummy : goal.returns-in-Dummy
returns-in-Dummy g c = c.play.ensures ∙ ap (λ s. run c.args.state.now (plain (seeding s))) (sym c.in-Dummy.is)
