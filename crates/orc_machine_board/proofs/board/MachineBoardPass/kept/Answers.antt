use Rattle.std.proofs.Common.{ap, sym}
use Rattle.orc_machine_board.proofs.Keeping.{same_empty}
use Rattle.orc_machine_board.specs.Kept.{Kept}
use Rattle.orc_machine_board.proofs.board.MachineBoardPass.kept.Goals as goal

pub returns-clause-fresh : goal.returns-clause-fresh
returns-clause-fresh g c = ap (λ (k : Kept). k.fresh) (sym c.args.self.now.pass.mine)

pub returns-clause-hand : goal.returns-clause-hand
returns-clause-hand g c = ap (λ (k : Kept). k.hand) (sym c.args.self.now.pass.mine)

pub returns-clause-scan : goal.returns-clause-scan
returns-clause-scan g c = ap (λ (k : Kept). k.scan) (sym c.args.self.now.pass.mine)

pub returns-clause-list : goal.returns-clause-list
returns-clause-list g c = ap (λ (k : Kept). k.list) (sym c.args.self.now.pass.mine)

pub returns-clause-empty : goal.returns-clause-empty
returns-clause-empty g c = λ slot. same_empty c.args.self.now.pass.own c.args.self.now.pass.seat.me.0.own slot (sym c.args.self.now.pass.mine)
