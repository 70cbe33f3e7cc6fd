use Rattle.std.proofs.Common.{subst}
use Rattle.orc_machine_board.specs.Kept.{IsInUse}
use Rattle.orc_machine_board.proofs.Keeping.{armed_kept, load_kept, moved_kept, published_kept}
use Rattle.orc_machine_board.proofs.kept.keep_parts.Goals as goal

pub returns-in-LinkLoad : goal.returns-in-LinkLoad
returns-in-LinkLoad c = rw c.in-LinkLoad.is (load_kept c.in-LinkLoad.place c.in-LinkLoad.slot c.args.own.now c.args.read)

pub returns-in-Publish : goal.returns-in-Publish
returns-in-Publish c = rw c.in-Publish.is (published_kept c.in-Publish.slot c.in-Publish.row 0 c.args.own.now c.args.read)

pub returns-in-MoveOn : goal.returns-in-MoveOn
returns-in-MoveOn c =
    rw c.in-MoveOn.is (moved_kept c.in-MoveOn.slot c.in-MoveOn.row c.args.own.now c.args.read
    (subst (λ op. IsInUse op c.args.own.now) c.in-MoveOn.is c.requires.in_use))

pub returns-in-Arm : goal.returns-in-Arm
returns-in-Arm c = rw c.in-Arm.is (armed_kept c.in-Arm.row 0 c.args.own.now c.args.read)
