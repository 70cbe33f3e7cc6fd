use Rattle.orc_report.proofs.ReportedReplies.{board_lines}
use Rattle.orc_report.proofs.report.push_queue.Goals as goal

pub push_board-requires : goal.push_board-requires
push_board-requires c =
    rw (c.as_slice.ensures.value, c.in_ok-board.ensures, c.in_ok-given.ensures) (board_lines c.args.rush _ _ c.requires.lines)
