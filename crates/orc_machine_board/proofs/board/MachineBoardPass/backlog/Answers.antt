use Rattle.std.proofs.Common.{ap, arith, sym, ◌∙◌, ◌≤◌}
use Rattle.orc_machine_board.proofs.Making.{room_of}
use Rattle.orc_machine_board.specs.Kept.{Kept}
use Rattle.orc_machine_board.specs.Rules.{bounds_in}
use Rattle.orc_machine_board.proofs.board.MachineBoardPass.backlog.Given.{Over}
use Rattle.orc_machine_board.proofs.board.MachineBoardPass.backlog.Goals.{After-len-listed}
use Rattle.orc_machine_board.proofs.board.MachineBoardPass.backlog.Goals as goal

-- the work list has room for all rows, and no more
short : (g : Over) (c : After-len-listed g) → c.len-listed.result ≤ (bounds_in c.requires.belongs.0.words.shape).rows
short g c =
    let room = ap (λ (z : Kept). z.list.room) (sym c.args.self.now.pass.mine) ∙ room_of c.requires.belongs.1.keeps in
    omega (arith, room, c.len-listed.ensures.room)

pub overflow_add-result : goal.overflow_add-result
overflow_add-result g c =
    omega (arith, short g (goal.at.overflow_add-result g c).After-len-listed, c.requires.belongs.0.words.shape.shape.few_rows)

pub overflow_cast-listed : goal.overflow_cast-listed
overflow_cast-listed g c =
    omega (arith, short g (goal.at.overflow_cast-listed g c).After-len-listed, c.requires.belongs.0.words.shape.shape.few_rows)
