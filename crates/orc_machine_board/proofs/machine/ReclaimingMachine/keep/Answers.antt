use Rattle.orc_core.proofs.Within.{may_packable}
use Rattle.std.proofs.Common.{sym, ◌∙◌}
use Rattle.orc_words.specs.Bounds.{bounds_of}
use Rattle.orc_machine_board.proofs.Keeping.{kept_next, same_in_use, same_packable, same_recordable, same_room}
use Rattle.orc_machine_board.proofs.Recordable.{may_in_use, may_recordable}
use Rattle.orc_machine_board.proofs.machine.ReclaimingMachine.keep.Goals as goal

pub keep_parts-requires-clause-packable : goal.keep_parts-requires-clause-packable
keep_parts-requires-clause-packable g c =
    let s = c.args.shape.now.shape in
    let q = c.requires.room in
    same_packable c.args.op.now.op q.0 c.args.own.now q.2 (may_packable (bounds_of s) 0 c.args.agent c.args.op.now.op q.0 q.3.may s.few_rows s.low_limit)

pub keep_parts-requires-clause-recordable : goal.keep_parts-requires-clause-recordable
keep_parts-requires-clause-recordable g c =
    let s = c.args.shape.now.shape in
    let q = c.requires.room in
    same_recordable c.args.op.now.op q.0 c.args.own.now q.2 (may_recordable (bounds_of s) 0 c.args.agent c.args.op.now.op q.0 q.3.may s.few_agents s.few_links)

pub keep_parts-requires-clause-in_use : goal.keep_parts-requires-clause-in_use
keep_parts-requires-clause-in_use g c =
    let op = c.args.op.now.op in
    let q = c.requires.room in
    same_in_use op q.0 c.args.own.now q.2 (may_in_use (bounds_of c.args.shape.now.shape) 0 c.args.agent op q.0 q.3.may)

pub keep_parts-requires-clause-room : goal.keep_parts-requires-clause-room
keep_parts-requires-clause-room g c =
    let q = c.requires.room in
    same_room c.args.agent c.args.op.now.op q.0 c.args.own.now c.args.n q.1 q.2 q.4 q.5

pub returns : goal.returns
returns g c = record {
  after = λ d found tie allowed answer room.
      kept_next c.args.agent c.args.op.now.op d c.args.own.now c.args.n found tie answer ∙ sym c.keep_parts.ensures;
}
