use Rattle.std.proofs.Common.{◌≡◌}
use Rattle.std.specs.Prelude.{◌==◌}
use Rattle.std.specs.List.{list_any}
use Rattle.orc_core.specs.Machine.{record_at}
use Rattle.orc_sound.proofs.Found.{found_below}
use Rattle.orc_sound.proofs.counting.is_listed.Given as goal

abbrev pub invariant-loop-agent : goal.invariant-loop-agent
invariant-loop-agent l = l.found ≡ found_below l.agent (λ a. list_any (λ q. q == l.row) (record_at l.state a).list.items)
