use Rattle.orc_rest.proofs.Given.{given_is_lives, given_told, life_is_taken}
use Rattle.orc_rest.proofs.laws.each_life_is_a_taking.Goals as goal

pub returns : goal.returns
returns c = record { balance = given_told; life = life_is_taken; given = given_is_lives }
