use Rattle.std.proofs.Common.{ap, sym, subst, ◌+◌, ◌∙◌, ◌≡◌}
use Rattle.orc_core.specs.RecordParts.{is_empty, slot_of}
use Rattle.orc_machine_board.specs.Views.{Belongs, shows}
use Rattle.orc_domain.proofs.Ending.{stage_of}
use Rattle.orc_domain.proofs.TakingIn.{TookIn, took_none, took_one, took_past}
use Rattle.orc_domain.specs.Passes.{domain_bounds}
use Rattle.orc_domain.proofs.domain.OrcDomain.take_in_free.Goals.{else-is_empty, then-is_empty}
use Rattle.orc_domain.proofs.domain.OrcDomain.take_in_free.Goals as goal

pub loop-slot-init : goal.loop-slot-init
loop-slot-init g c = (c.requires.belongs, took_none (domain_bounds c.args.self.now) (shows c.args.p.now))

pub loop-slot-preserved : goal.loop-slot-preserved
loop-slot-preserved g c =
    let slot = c.loop-slot.slot in
    let i = c.loop-slot.invariant in
    let s = stage_of c.requires.belongs in
    let t = stage_of i.0 in
    let is : c.is_empty.result ≡ is_empty (slot_of t.view.record_is slot) =
    c.is_empty.ensures ∙ (ap is_empty c.slot.ensures ∙ c.kept.ensures.empty slot) in
    elim c.if-is_empty.branch [
      | then-is_empty w ↦
          let u = stage_of w.take_in.ensures.belongs in
          subst (λ p. Belongs c.args.self.now.board p × TookIn (domain_bounds c.args.self.now) (slot + 1) s.view (shows p)) (sym w.p-is)
          (w.take_in.ensures.belongs, took_one s t u slot w.take_in.result i.1 w.take_in.ensures.made)
      | else-is_empty w ↦
          subst (λ p. Belongs c.args.self.now.board p × TookIn (domain_bounds c.args.self.now) (slot + 1) s.view (shows p)) (sym w.p-is)
          (i.0, took_past (domain_bounds c.args.self.now) slot s.view t.view i.1 (sym is ∙ w.if-is_empty.false))
    ]
