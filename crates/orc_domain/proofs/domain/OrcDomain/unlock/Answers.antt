use Rattle.std.proofs.Common.{subst, sym, true, ◌≡◌}
use Rattle.orc_core.specs.Allowed.{may}
use Rattle.orc_core.specs.declared.ops.Op.TheVariants.{TakeIn}
use Rattle.orc_machine_board.specs.Views.{shows}
use Rattle.orc_domain.proofs.Setting.{may_take_in, unlocks}
use Rattle.orc_domain.proofs.Ending.{stage_of}
use Rattle.orc_domain.specs.Passes.{domain_bounds}
use Rattle.orc_domain.proofs.domain.OrcDomain.unlock.Goals as goal

pub take_in-requires-clause-allowed : goal.take_in-requires-clause-allowed
take_in-requires-clause-allowed g c =
    let b = domain_bounds c.args.self.now in
    subst (λ a. may b 0 a (TakeIn c.args.slot) (shows c.clear.new.p).record_is ≡ true) (sym c.clear.ensures.made.agent)
    (may_take_in b (shows c.args.p.now).agent c.args.slot (shows c.args.p.now).record_is (shows c.clear.new.p).record_is
    c.requires.calm c.requires.allowed c.clear.ensures.made.record_is)

pub returns-clause-unlocks : goal.returns-clause-unlocks
returns-clause-unlocks g c =
    let s = stage_of c.requires.belongs in
    let t = stage_of c.clear.ensures.belongs in
    let u = stage_of c.take_in.ensures.belongs in
    unlocks s t u c.args.slot c.clear.result c.take_in.result c.clear.ensures.made c.take_in.ensures.made
