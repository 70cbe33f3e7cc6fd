-- The passes that were given back are all passes of the domain.
use Rattle.std.proofs.Common.{refl, ◌∙◌}
use Rattle.mooringakee_c_passes.proofs.ending.end.Goals as goal

pub drain_passes-requires-clause-all : goal.drain_passes-requires-clause-all
drain_passes-requires-clause-all g c = record {
  many = c.in_ok-passes.ensures.many ∙ c.requires.many;
  belong = λ k p low. (c.in_ok-passes.ensures.each c.args.domain.now c.requires.each k p low).0;
  order = c.if-not-are_in_order.ensures refl;
}

pub drain_passes-requires-clause-idle : goal.drain_passes-requires-clause-idle
drain_passes-requires-clause-idle g c k p low = (c.in_ok-passes.ensures.each c.args.domain.now c.requires.each k p low).1
