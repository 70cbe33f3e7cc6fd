use Rattle.std.proofs.Common.{arith}
use Rattle.orc_shared_words.proofs.last_words.LastWords.drop.Goals as goal

pub free-requires : goal.free-requires
free-requires c k below = let none = c.self.inside.no_slots in absurd (omega arith)
