-- Each pass is one of the domain, idle, and in order.
use Rattle.std.proofs.Common.{ap, sym, ◌∙◌}
use Rattle.orc_words.specs.Bounds.{Bounds}
use Rattle.orc_plain_domain.proofs.as_domain.PlainDomainDomain.make.Goals as goal

pub make-requires-clause-holds : goal.make-requires-clause-holds
make-requires-clause-holds g c = c.requires.holds

pub make-requires-clause-seed : goal.make-requires-clause-seed
make-requires-clause-seed g c = c.requires.seed

pub returns-clause-bounds : goal.returns-clause-bounds
returns-clause-bounds g c = c.in_ok-made.ensures.bounds

pub returns-clause-opening : goal.returns-clause-opening
returns-clause-opening g c = c.in_ok-made.ensures.opening

pub returns-clause-idle : goal.returns-clause-idle
returns-clause-idle g c = record {
  each = λ i p low. (c.in_ok-made.ensures.belongs i p low, c.in_ok-made.ensures.idle i p low);
  order = c.in_ok-made.ensures.agents;
  many = c.in_ok-made.ensures.passes ∙ sym (ap (λ (b : Bounds). b.agents) c.in_ok-made.ensures.bounds);
}

pub returns-clause-new : goal.returns-clause-new
returns-clause-new g c = c.in_ok-made.ensures.seen
