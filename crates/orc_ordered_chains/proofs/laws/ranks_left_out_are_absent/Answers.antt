use Rattle.orc_ordered_chains.proofs.Later.{follows_on_chain}
use Rattle.orc_ordered_chains.proofs.Paths.{absent}
use Rattle.orc_ordered_chains.proofs.laws.ranks_left_out_are_absent.Goals as goal

pub returns : goal.returns
returns c = λ o h place from over to id rank chains follows at plain run above y.
    let (on, below) = follows_on_chain o h chains place from rank follows at plain in
    absent o h chains place from over to rank on below at run above id y
