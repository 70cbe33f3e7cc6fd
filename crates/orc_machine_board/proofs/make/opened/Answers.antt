use Rattle.std.proofs.Common.{ap, length, ◌∙◌}
use Rattle.orc_core.specs.Machine.{Machine}
use Rattle.orc_layout.specs.Layout.{index, lay}
use Rattle.orc_machine_board.proofs.Opening.{long_words, seeded, seeding_goes}
use Rattle.orc_machine_board.specs.Laws.Steps.{in_range}
use Rattle.orc_machine_board.specs.Rules.{machine_opening}
use Rattle.orc_words.specs.Bounds.{bounds_of}
use Rattle.orc_machine_board.proofs.make.opened.Goals as goal

pub plant-requires : goal.plant-requires
plant-requires g c = (bounds_of c.args.shape.now, seeding_goes c.args.shape.now c.args.seed.now c.requires c.enroll_all.new.state c.enroll_all.ensures)

pub laid_words-requires : goal.laid_words-requires
laid_words-requires g c =
    let b = bounds_of c.args.shape.now in record {
      all = ap length (c.as_slice.ensures.value ∙ (c.into_parts-words.ensures.words
          ∙ ap (λ (m : Machine). m.words)
          (c.plant.ensures ∙ seeded c.args.shape.now c.args.seed.now c.requires c.enroll_all.new.state c.enroll_all.ensures)))
          ∙ long_words b (machine_opening b.agents c.args.seed.now) (in_range c.args.shape.now);
    }

pub returns-clause-words : goal.returns-clause-words
returns-clause-words g c = c.in_ok-laid_words.ensures.laid
    ∙ ap (lay (index (bounds_of c.args.shape.now))) (c.as_slice.ensures.value ∙ (c.into_parts-words.ensures.words
    ∙ ap (λ (m : Machine). m.words) (c.plant.ensures ∙ seeded c.args.shape.now c.args.seed.now c.requires c.enroll_all.new.state c.enroll_all.ensures)))

pub returns-clause-agents : goal.returns-clause-agents
returns-clause-agents g c = c.into_parts-words.ensures.agents
    ∙ ap (λ (m : Machine). m.agents) (c.plant.ensures ∙ seeded c.args.shape.now c.args.seed.now c.requires c.enroll_all.new.state c.enroll_all.ensures)
