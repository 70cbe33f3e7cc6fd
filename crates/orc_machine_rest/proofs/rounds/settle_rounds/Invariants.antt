use Rattle.std.specs.Prelude.{◌*◌}
use Rattle.orc_machine_rest.specs.OwnSteps.{AtMostMore, steps_a_round}
use Rattle.orc_machine_rest.specs.Parts.{Goes}
use Rattle.orc_machine_rest.specs.Passes.{IsPassOf, agent_record}
use Rattle.orc_machine_board.specs.Views.{board_bounds, shows}
use Rattle.orc_rest.specs.Records.{IsBetweenRounds}
use Rattle.orc_machine_rest.proofs.rounds.settle_rounds.Given as goal

-- so many rounds were made
abbrev pub invariant-loop-turn : goal.invariant-loop-turn
invariant-loop-turn g l = record {
  pass : IsPassOf l.board l.agent l.p;
  goes : Goes (board_bounds l.board) l.agent l._turn (shows l.fn.p) (shows l.p);
  between : IsBetweenRounds (agent_record l.board l.agent l.p);
  few : AtMostMore l.agent (l._turn * steps_a_round (board_bounds l.board)) (shows l.fn.p).journal (shows l.p).journal;
}
