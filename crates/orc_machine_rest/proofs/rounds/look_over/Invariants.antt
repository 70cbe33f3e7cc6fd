use Rattle.std.specs.Prelude.{None, length, ◌+◌, ◌≡◌, ◌≤◌, ◌⊎◌}
use Rattle.orc_machine_rest.specs.Parts.{OpensTurn}
use Rattle.orc_machine_rest.specs.Passes.{IsPassOf, agent_record}
use Rattle.orc_machine_board.specs.Passes.{steps_of}
use Rattle.orc_machine_board.specs.Views.{board_bounds, shows}
use Rattle.orc_rest.specs.Records.{IsScanOf, IsStill}
use Rattle.orc_machine_rest.proofs.rounds.look_over.Given as goal

-- the scan has come to this place, by a look at each slot before it
abbrev pub invariant-loop-k : goal.invariant-loop-k
invariant-loop-k g l = record {
  pass : IsPassOf l.board l.agent l.p;
  opens : (shows l.p ≡ shows l.fn.p) ⊎ OpensTurn (board_bounds l.board) l.agent 0 (shows l.fn.p) (shows l.p);
  still : IsStill (agent_record l.board l.agent l.p);
  doom : (agent_record l.board l.agent l.p).doom ≡ None;
  scan : IsScanOf l.row l.k (agent_record l.board l.agent l.p).scan;
  few : length (steps_of l.agent (shows l.p).journal) + l.first ≤ length (steps_of l.agent (shows l.fn.p).journal) + l.k;
}
