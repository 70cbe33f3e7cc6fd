use Rattle.std.proofs.Common.{ap, ◌%◌, ◌∙◌}
use Rattle.std.specs.Prelude.{None, replicate}
use Rattle.orc_words.specs.Bounds.{bounds_of}
use Rattle.orc_any_domain.specs.Turns.{first_row}
use Rattle.orc_plain_domain.proofs.make.new_pass.Goals as goal

pub returns : goal.returns
returns g c =
    let b = bounds_of c.args.shape.now in
    let next = c.first_row-next.ensures.row ∙ ap (λ agent. first_row b agent % b.rows) (c.agent.ensures b) in
    λ i. record { pass = c.args.pass; slots = replicate 8 None; next = next i; shape = c.args.shape.now }
