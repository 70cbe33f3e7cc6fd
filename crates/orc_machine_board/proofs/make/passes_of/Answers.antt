use Rattle.std.proofs.Common.{refl, rules}
use Rattle.std.proofs.lemmas.Result.{IfOk-weaker}
use Rattle.orc_shared_words.proofs.Made.{made_long, made_same}
use Rattle.orc_machine_board.proofs.make.passes_of.Goals as goal

pub returns-clause-long : goal.returns-clause-long
returns-clause-long g c =
    IfOk-weaker c.each_made.result _ _ (λ l. made_long (λ p. record { pass = p }) c.args.passes.items l.items) (c.each_made.ensures _ (λ x r q k. search rules))

pub returns-clause-same : goal.returns-clause-same
returns-clause-same g c =
    IfOk-weaker c.each_made.result _ _ (λ l e. made_same (λ p. record { pass = p }) c.args.passes.items l.items e (λ p. p.pass) (λ p. refl))
    (c.each_made.ensures _ (λ x r q k. search rules))
