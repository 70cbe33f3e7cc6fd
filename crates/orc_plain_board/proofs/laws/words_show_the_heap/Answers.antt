use Rattle.orc_plain_board.proofs.Known.{words_show}
use Rattle.orc_plain_board.proofs.laws.words_show_the_heap.Goals as goal

pub returns : goal.returns
returns g c = words_show
