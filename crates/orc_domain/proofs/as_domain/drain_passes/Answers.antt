-- The passes are all passes of their domain, and idle, and each has been heard.
use Rattle.std.proofs.Common.{All, rules, subst, sym}
use Rattle.std.proofs.lemmas.List.{places, with_items_is}
use mathlib.Core.List.{IsPrefix}
use Rattle.orc_domain.proofs.Resting.{all_passes}
use Rattle.orc_domain.specs.Ends.{AddsNoEvents, AreAll, AreIdle, whole_journal}
use Rattle.orc_domain.specs.Passes.{journal_of}
use Rattle.orc_domain.proofs.as_domain.drain_passes.Goals as goal

pub drain_all-requires-clause-all : goal.drain_all-requires-clause-all
drain_all-requires-clause-all g c = subst (AreAll c.args.domain.now) (sym c.as_mut_slice.ensures.value)
    (all_passes c.args.domain.now c.args.passes.now.items c.requires.many c.requires.each c.requires.order)

pub drain_all-requires-clause-idle : goal.drain_all-requires-clause-idle
drain_all-requires-clause-idle g c =
    subst (AreIdle c.args.domain.now) (sym c.as_mut_slice.ensures.value) (λ i p low. (c.requires.each i p low).1)

pub returns : goal.returns
returns g c =
    let d = c.args.domain.now in
    let new = c.drain_all.new.passes in
    let value = c.as_mut_slice.ensures.value in
    rw (with_items_is c.args.passes.now new (search (rules, places))) (record {
      all = c.drain_all.ensures.all;
      own = c.drain_all.ensures.own;
      rest = c.drain_all.ensures.rest;
      later = subst (λ ps. IsPrefix (whole_journal ps) (whole_journal new)) value c.drain_all.ensures.later;
      heard = subst (λ ps. All (λ p. IsPrefix (journal_of p) (whole_journal new)) ps) value c.drain_all.ensures.heard;
      quiet = subst (λ ps. AddsNoEvents d ps new) value c.drain_all.ensures.quiet;
    })
