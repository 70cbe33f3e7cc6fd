-- That one record keeps what another does is a fact.
use Rattle.std.proofs.Common.{◌≡◌}
use Rattle.orc_core.specs.declared.records.Agent.{Agent}
use Rattle.orc_machine_board.specs.Kept.{kept_of}
use denote.Struct.Props.{props}

pub kept_once : (d e : Agent) → IsProp (kept_of d ≡ kept_of e)
kept_once d e = hlevel props
