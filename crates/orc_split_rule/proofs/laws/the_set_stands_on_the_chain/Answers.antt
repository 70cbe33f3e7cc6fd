use Rattle.orc_split_rule.proofs.laws.the_set_stands_on_the_chain.Goals as goal

pub returns : goal.returns
returns c = λ n es key holds. holds.set key
