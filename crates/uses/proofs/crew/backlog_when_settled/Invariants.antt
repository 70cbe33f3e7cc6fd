use Rattle.std.proofs.Common.{All, length, ◌≡◌}
use Rattle.orc_any_domain.specs.Domains.{IsIdlePass}
use Rattle.uses.proofs.crew.backlog_when_settled.Given as goal

-- each pass can go on, and is idle
abbrev pub invariant-loop-place : goal.invariant-loop-place
invariant-loop-place g l = All (IsIdlePass g.L.Links l.links) l.passes × (length l.passes ≡ length l.fn.passes)
