use Rattle.std.proofs.Common.{rules}
use Rattle.orc_shared_words.proofs.Passes.{absorbs}
use Rattle.orc_shared_words.proofs.shared_words.SharedWords.absorb.Goals as goal

pub join_seat-requires : goal.join_seat-requires
join_seat-requires g c = (
  search rules,
  search rules,
  search rules,
  c.args.self.now.some,
  absorbs g.M.Machine.rules _ _ _ _ _ _ _ c.args.from.agent c.args.from.named c.requires.same,
)
