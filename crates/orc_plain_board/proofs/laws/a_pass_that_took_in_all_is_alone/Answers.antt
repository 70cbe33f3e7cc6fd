use Rattle.orc_plain_board.proofs.Known.{alone}
use Rattle.orc_plain_board.proofs.laws.a_pass_that_took_in_all_is_alone.Goals as goal

pub returns : goal.returns
returns g c = λ n agents own s t adds below all. alone agents (g.D.Discipline.may n) own s t adds below all
