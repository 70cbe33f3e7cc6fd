use Rattle.std.proofs.Common.{ap, sym, ◌∙◌}
use Rattle.orc_core.specs.RecordParts.{names}
use Rattle.orc_domain.proofs.Retiring.{check_can, retire_can, retires}
use Rattle.orc_domain.proofs.Ending.{stage_of}
use Rattle.orc_domain.proofs.Stages.{Between}
use Rattle.orc_domain.proofs.domain.OrcDomain.give_up.Goals as goal

pub counter_load-counter-requires-clause-allowed : goal.counter_load-counter-requires-clause-allowed
counter_load-counter-requires-clause-allowed g c =
    let s = stage_of c.requires.belongs in
    let start : Between s = record { ready = c.requires.ready; untouched = c.requires.untouched } in
    let fresh = ap (λ f. names f c.args.row) (sym c.kept.ensures.fresh) ∙ (sym c.is_fresh.ensures ∙ c.if-not-is_fresh.false) in
    check_can s start c.args.row fresh

pub set_retired-requires-clause-allowed : goal.set_retired-requires-clause-allowed
set_retired-requires-clause-allowed g c =
    let s = stage_of c.requires.belongs in
    let start : Between s = record { ready = c.requires.ready; untouched = c.requires.untouched } in
    let t = stage_of c.counter_load-counter.ensures.belongs in
    let fresh = ap (λ f. names f c.args.row) (sym c.kept.ensures.fresh) ∙ (sym c.is_fresh.ensures ∙ c.if-not-is_fresh.false) in
    retire_can s start c.args.row fresh t c.counter_load-counter.result c.counter_load-counter.ensures.made

pub returns-clause-retired : goal.returns-clause-retired
returns-clause-retired g c fresh =
    let s = stage_of c.requires.belongs in
    let start : Between s = record { ready = c.requires.ready; untouched = c.requires.untouched } in
    let t = stage_of c.counter_load-counter.ensures.belongs in
    let u = stage_of c.set_retired.ensures.belongs in
    retires s start c.args.row fresh t c.counter_load-counter.result c.counter_load-counter.ensures.made u c.set_retired.result c.set_retired.ensures.made
