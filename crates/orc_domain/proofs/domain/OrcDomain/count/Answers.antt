use Rattle.std.proofs.Common.{subst, sym}
use Rattle.std.specs.List.{AllByRecursion}
use Rattle.orc_any_domain.proofs.Lists.{first_removed}
use Rattle.orc_domain.proofs.Resting.{covered, looked, others_of, some_passes, still_rests}
use Rattle.orc_domain.specs.Passes.{IsPassOf, domain_bounds}
use Rattle.orc_domain.proofs.domain.OrcDomain.count.Goals as goal

pub take_in_steps-requires-clause-others : goal.take_in_steps-requires-clause-others
take_in_steps-requires-clause-others g c =
    subst (AllByRecursion (λ p. IsPassOf c.args.self.now p)) (sym c.remove-first.ensures.items)
    (others_of c.args.self.now c.args.passes.items c.remove-first.result _
    (first_removed c.args.passes.items c.remove-first.result c.remove-first.ensures.value
    (some_passes c.args.self.now c.args.passes.items c.requires.all)) c.requires.all)

pub count_rows-counts-requires-clause-all : goal.count_rows-counts-requires-clause-all
count_rows-counts-requires-clause-all g c =
    covered c.args.self.now c.args.passes.items c.remove-first.result _
    (first_removed c.args.passes.items c.remove-first.result c.remove-first.ensures.value
    (some_passes c.args.self.now c.args.passes.items c.requires.all)) c.requires.all c.take_in_steps.new.into c.take_in_steps.ensures.into
    _ c.remove-first.ensures.items c.take_in_steps.ensures.taken

pub returns-clause-journal : goal.returns-clause-journal
returns-clause-journal g c =
    looked c.args.self.now c.args.passes.items c.remove-first.result _
    (first_removed c.args.passes.items c.remove-first.result c.remove-first.ensures.value
    (some_passes c.args.self.now c.args.passes.items c.requires.all)) c.requires.all c.take_in_steps.new.into c.take_in_steps.ensures.into
    _ c.remove-first.ensures.items c.take_in_steps.ensures.taken c.requires.own _ (domain_bounds c.args.self.now).rows c.count_rows-counts.ensures.journal

pub returns-clause-rest : goal.returns-clause-rest
returns-clause-rest g c =
    still_rests c.args.self.now c.args.passes.items c.remove-first.result _
    (first_removed c.args.passes.items c.remove-first.result c.remove-first.ensures.value
    (some_passes c.args.self.now c.args.passes.items c.requires.all)) c.requires.all c.take_in_steps.new.into c.take_in_steps.ensures.into
    _ c.remove-first.ensures.items c.take_in_steps.ensures.taken c.requires.own c.requires.rest _ (domain_bounds c.args.self.now).rows
    c.count_rows-counts.ensures.journal
