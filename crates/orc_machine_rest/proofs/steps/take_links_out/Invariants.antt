use Rattle.std.specs.Prelude.{None, ◌*◌, ◌≡◌}
use Rattle.orc_machine_rest.specs.OwnSteps.{AtMostMore}
use Rattle.orc_machine_rest.specs.Parts.{Goes}
use Rattle.orc_machine_rest.specs.Passes.{IsPassOf, agent_record}
use Rattle.orc_machine_board.specs.Views.{board_bounds, shows}
use Rattle.orc_rest.specs.Records.{IsDoomOf, IsStill}
use Rattle.orc_machine_rest.proofs.steps.take_links_out.Given as goal

-- the links below this number are out
abbrev pub invariant-loop-number : goal.invariant-loop-number
invariant-loop-number g l = record {
  pass : IsPassOf l.board l.agent l.p;
  goes : Goes (board_bounds l.board) l.agent 0 (shows l.fn.p) (shows l.p);
  still : IsStill (agent_record l.board l.agent l.p);
  scan : (agent_record l.board l.agent l.p).scan ≡ None;
  doom : IsDoomOf l.row l.number (agent_record l.board l.agent l.p).doom;
  few : AtMostMore l.agent (6 * l.number) (shows l.fn.p).journal (shows l.p).journal;
}
