use Rattle.orc_machine_board.specs.Views.{Belongs, shows}
use Rattle.orc_domain.proofs.TakingIn.{TookIn}
use Rattle.orc_domain.specs.Passes.{domain_bounds}
use Rattle.orc_domain.proofs.domain.OrcDomain.take_in_free.Given as goal

-- beside the empty ones of the slots so far was taken in
abbrev pub invariant-loop-slot : goal.invariant-loop-slot
invariant-loop-slot g l = Belongs l.self.board l.p × TookIn (domain_bounds l.self) l.slot (shows l.fn.p) (shows l.p)
