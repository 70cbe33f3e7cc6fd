use Rattle.std.proofs.Common.{◌∙◌, sym, subst}
use Rattle.std.specs.List.{AllByRecursion}
use Rattle.orc_plain_domain.proofs.Draining.{others_of}
use Rattle.orc_any_domain.proofs.Lists.{first_removed}
use Rattle.orc_plain_domain.proofs.Resting.{covers, nothing_new, some_passes, taken_of}
use Rattle.orc_plain_domain.specs.Passes.{IsPassOf}
use Rattle.orc_plain_domain.proofs.domain.PlainDomain.rest.Goals as goal

pub take_in_events-requires-clause-others : goal.take_in_events-requires-clause-others
take_in_events-requires-clause-others g c =
    subst (AllByRecursion (λ p. IsPassOf c.args.self p)) (sym c.remove-first.ensures.items)
    (others_of c.args.self c.args.passes.items c.remove-first.result _
    (first_removed c.args.passes.items c.remove-first.result c.remove-first.ensures.value
    (some_passes c.args.self c.args.passes.items c.requires.all)) c.requires.all)

pub count_given-given-requires-clause-alone : goal.count_given-given-requires-clause-alone
count_given-given-requires-clause-alone g c =
    covers c.args.self c.args.passes.items c.remove-first.result _
    (first_removed c.args.passes.items c.remove-first.result c.remove-first.ensures.value
    (some_passes c.args.self c.args.passes.items c.requires.all)) c.requires.all
    c.take_in_events.new.into c.take_in_events.ensures.into
    (taken_of c.args.self c.remove-first.result c.take_in_events.new.into _ _ c.remove-first.ensures.items c.take_in_events.ensures.taken)

pub returns-clause-journal : goal.returns-clause-journal
returns-clause-journal g c =
    c.count_given-given.ensures.seen ∙ nothing_new c.args.self c.args.passes.items c.remove-first.result _
    (first_removed c.args.passes.items c.remove-first.result c.remove-first.ensures.value
    (some_passes c.args.self c.args.passes.items c.requires.all)) c.requires.all
    c.take_in_events.new.into c.take_in_events.ensures.into
    (taken_of c.args.self c.remove-first.result c.take_in_events.new.into _ _ c.remove-first.ensures.items c.take_in_events.ensures.taken) c.requires.own
