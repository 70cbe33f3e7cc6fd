-- What is allowed is within the shape.
use Rattle.std.proofs.Common.{arith}
use Rattle.std.specs.Prelude.{slice_index}
use Rattle.orc_words.specs.Bounds.{bounds_of}
use Rattle.orc_core.proofs.Within.{may_packable, may_recordable, may_within, may_below}
use Rattle.orc_core.proofs.state.make_step.Goals as goal

pub action_of-action-requires : goal.action_of-action-requires
action_of-action-requires c =
    may_packable (bounds_of c.args.shape.now) (slice_index c.args.words.now 0) c.args.number c.args.op.now c.args.agent.now c.requires.allowed
    (omega arith) (omega arith)

pub place_of-place-requires : goal.place_of-place-requires
place_of-place-requires c =
    rw c.action_of-action.ensures
    (may_within (bounds_of c.args.shape.now) (slice_index c.args.words.now 0) c.args.number c.args.op.now c.args.agent.now c.requires.allowed)

pub bounds-words-place : goal.bounds-words-place
bounds-words-place c =
    rw (c.place_of-place.ensures.place, c.action_of-action.ensures, c.requires.long)
    (may_below (bounds_of c.args.shape.now) (slice_index c.args.words.now 0) c.args.number c.args.op.now c.args.agent.now c.requires.allowed)

pub bounds-words-place-2 : goal.bounds-words-place-2
bounds-words-place-2 c =
    rw (c.place_of-place.ensures.place, c.action_of-action.ensures, c.requires.long)
    (may_below (bounds_of c.args.shape.now) (slice_index c.args.words.now 0) c.args.number c.args.op.now c.args.agent.now c.requires.allowed)

pub advance-requires-clause-packable : goal.advance-requires-clause-packable
advance-requires-clause-packable c =
    may_packable (bounds_of c.args.shape.now) (slice_index c.args.words.now 0) c.args.number c.args.op.now c.args.agent.now c.requires.allowed
    (omega arith) (omega arith)

pub advance-requires-clause-recordable : goal.advance-requires-clause-recordable
advance-requires-clause-recordable c =
    may_recordable (bounds_of c.args.shape.now) (slice_index c.args.words.now 0) c.args.number c.args.op.now c.args.agent.now c.requires.allowed
    (omega arith) (omega arith)
