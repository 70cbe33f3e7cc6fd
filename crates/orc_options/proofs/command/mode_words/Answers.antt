use Rattle.std.proofs.Common.{Bor, List, ap, map, ℕ}
use Rattle.orc_options.proofs.command.mode_words.Goals as goal

pub returns : goal.returns
returns c = ap (map (λ (word : Bor (List ℕ)). word.now)) c.as_slice.ensures
