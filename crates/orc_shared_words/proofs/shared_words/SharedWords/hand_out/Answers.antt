use Rattle.std.proofs.Common.{rules, ◌<◌, sym, subst}
use Rattle.orc_shared_words.proofs.Passes.{hands}
use Rattle.orc_shared_words.proofs.shared_words.SharedWords.hand_out.Goals as goal

pub split_seat-seat-requires : goal.split_seat-seat-requires
split_seat-seat-requires g c = (
  search rules,
  c.args.self.now.some,
  hands g.M.Machine.rules _ _ _ _ _ c.args.first.now.agent c.args.number c.args.first.now.named c.requires.free.0
      (subst (λ k. c.args.number < g.M.Machine.rules.agents k) (sym c.args.self.now.shaped) c.requires.free.1),
)
