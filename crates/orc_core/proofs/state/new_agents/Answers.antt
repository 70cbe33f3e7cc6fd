use Rattle.std.proofs.Common.{[], ap, arith, ◌∙◌, ◌∷◌, ◌++◌, ◌≡◌, ℕ}
use Rattle.std.proofs.lemmas.List.{replicate_more}
use Rattle.std.specs.Prelude.{replicate}
use Rattle.orc_core.specs.Machine.{nobody}
use Rattle.orc_core.proofs.state.new_agents.Goals as goal

pub loop-number-init : goal.loop-number-init
loop-number-init c = c.in_ok-agents.ensures.items

pub loop-number-preserved : goal.loop-number-preserved
loop-number-preserved c =
    let one : c.in_ok-agent.agent ≡ nobody c.args.shape.now.rows = c.in_ok-agent.ensures ∙ ap nobody c.rows.ensures in
    c.in_ok-push.ensures.items ∙ ((λ i. c.loop-number.invariant i ++ (one i ∷ [])) ∙ replicate_more c.loop-number._number (nobody c.args.shape.now.rows))

pub returns : goal.returns
returns c =
    let all : c.loop-number._number ≡ c.args.shape.now.agents = omega arith in
    c.loop-number.invariant ∙ ap (λ (n : ℕ). replicate n (nobody c.args.shape.now.rows)) all
