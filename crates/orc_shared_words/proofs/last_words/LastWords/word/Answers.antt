use Rattle.std.proofs.Common.{slice_index, ap, sym, ◌∙◌}
use Rattle.orc_shared_words.proofs.Seats.{index_there}
use Rattle.orc_shared_words.proofs.last_words.LastWords.word.Goals as goal

pub returns : goal.returns
returns c = sym (index_there _ c.args.index _ c.word.ensures) ∙ ap (λ l. slice_index l c.args.index) c.self.view_is
