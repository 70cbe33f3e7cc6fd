use Rattle.std.proofs.Common.{List, ap, ◌∙◌}
use Rattle.orc_core.specs.RecordParts.{any_holds}
use Rattle.orc_core.specs.declared.records.SlotUse.{SlotUse}
use Rattle.orc_machine_board.specs.Views.{shows}
use Rattle.orc_domain.proofs.Counting.{down_too, none_down}
use Rattle.orc_domain.specs.Passes.{domain_bounds}
use Rattle.orc_domain.proofs.domain.OrcDomain.complete_held.Goals as goal

pub returns-in-Some-clause-becomes : goal.returns-in-Some-clause-becomes
returns-in-Some-clause-becomes g c =
    down_too (domain_bounds c.args.self.now) (shows c.args.p.now) (shows c.count_new.new.p) c.count_new.ensures.becomes (shows c.count_down_held.new.p)
    c.count_down_held.ensures.becomes

pub returns-in_default-clause-becomes : goal.returns-in_default-clause-becomes
returns-in_default-clause-becomes g c =
    none_down (domain_bounds c.args.self.now) (shows c.args.p.now) (shows c.count_new.new.p) c.count_new.ensures.becomes (c.requires.down ∙ c.in_default.is)

pub count_down_held-requires-clause-dec : goal.count_down_held-requires-clause-dec
count_down_held-requires-clause-dec g c = c.count_new.ensures.becomes.same.dec ∙ (c.requires.down ∙ c.in-Some.is)

pub count_down_held-requires-clause-held : goal.count_down_held-requires-clause-held
count_down_held-requires-clause-held g c =
    ap (λ (l : List SlotUse). any_holds l c.in-Some.row) c.count_new.ensures.becomes.same.slots
    ∙ c.requires.held c.in-Some.row c.in-Some.is
