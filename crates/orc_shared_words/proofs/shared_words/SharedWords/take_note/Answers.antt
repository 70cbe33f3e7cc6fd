use Rattle.std.proofs.Common.{rules, ap}
use Rattle.orc_shared_words.proofs.Passes.{splits, takes, confirms}
use Rattle.orc_shared_words.proofs.shared_words.SharedWords.take_note.Goals as goal

pub split_seat-noted-requires : goal.split_seat-noted-requires
split_seat-noted-requires g c = (search rules, c.args.self.now.some, splits g.M.Machine.rules _ _ _ _ _)

pub join_seat-requires : goal.join_seat-requires
join_seat-requires g c = (
  search rules,
  search rules,
  search rules,
  c.args.self.now.some,
  takes g.M.Machine.rules _ _ _ _ _ _ _ (ap (λ m. m.0.agent) c.split_seat-noted.ensures.4) (ap (λ m. m.0.taken) c.split_seat-noted.ensures.4),
)

pub load-requires : goal.load-requires
load-requires g c = (search rules, c.args.self.now.some, confirms g.M.Machine.rules _ _ _ _ _ _ _)
