use Rattle.std.proofs.Common.{slice_index_or, subst, sym, ◌∙◌}
use mathlib.Core.List.{IsPrefix}
use Rattle.orc_plain_domain.specs.Passes.{journal_of}
use Rattle.orc_plain_domain.proofs.as_domain.PlainDomainDomain.end.Goals as goal

pub returns : goal.returns
returns g c = record {
  domain_is = c.rest.ensures.domain;
  shown = c.rest.ensures.shown;
  heard = λ i p low. subst (IsPrefix (journal_of (slice_index_or c.args.passes.items i p))) (sym c.rest.ensures.journal) (c.drain_passes.ensures.heard i p low);
  journal = λ seen same. c.rest.ensures.journal ∙ c.drain_passes.ensures.quiet seen same;
}
