use Rattle.std.proofs.Common.{None, Some, ◌∙◌, ◌≡◌}
use Rattle.orc_machine_board.specs.Views.{shows}
use Rattle.orc_domain.proofs.Counting.{becomes_self, try_can, tries, without_due}
use Rattle.orc_domain.proofs.Ending.{stage_of}
use Rattle.orc_domain.specs.Passes.{domain_bounds}
use Rattle.orc_domain.proofs.domain.OrcDomain.try_due.Goals as goal

pub set_retired-requires-clause-allowed : goal.set_retired-requires-clause-allowed
set_retired-requires-clause-allowed g c =
    let s = stage_of c.requires.belongs in
    let seen = c.in-Some.seen in
    let due : s.view.record_is.due ≡ Some seen = c.requires.pending ∙ c.in-Some.is in
    try_can s seen c.requires.enrolled due (c.requires.due seen due).0

pub returns-in-Some-clause-becomes : goal.returns-in-Some-clause-becomes
returns-in-Some-clause-becomes g c =
    let s = stage_of c.requires.belongs in
    let t = stage_of c.set_retired.ensures.belongs in
    let seen = c.in-Some.seen in
    let due : s.view.record_is.due ≡ Some seen = c.requires.pending ∙ c.in-Some.is in
    tries s t seen c.set_retired.result c.set_retired.ensures.made (c.requires.due seen due).1

pub returns-in_default-clause-becomes : goal.returns-in_default-clause-becomes
returns-in_default-clause-becomes g c =
    let s = shows c.args.p.now in
    becomes_self (domain_bounds c.args.self.now) (record s.record_is { due = None }) s
    (without_due s.record_is (c.requires.pending ∙ c.in_default.is))

pub set_retired-requires-clause-belongs : goal.set_retired-requires-clause-belongs
set_retired-requires-clause-belongs g c = c.requires.belongs

pub returns-in-Some-clause-belongs : goal.returns-in-Some-clause-belongs
returns-in-Some-clause-belongs g c = c.set_retired.ensures.belongs

pub returns-in_default-clause-belongs : goal.returns-in_default-clause-belongs
returns-in_default-clause-belongs g c = c.requires.belongs
