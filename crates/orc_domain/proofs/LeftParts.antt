-- What a step leaves of a record.
use Rattle.std.proofs.Common.{subst, sym, ◌≡◌}
use Rattle.orc_core.specs.declared.records.Agent.{Agent}
use Rattle.orc_domain.specs.Calls.{SameParts}

-- a record that a step left, where its parts are these
pub same_by : (d e f : Agent) → f ≡ e → SameParts d e → SameParts d f
same_by d e f is p = subst (SameParts d) (sym is) p
