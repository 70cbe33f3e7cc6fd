-- Each call leaves the pass usable.
use Rattle.uses.proofs.mark_in_list.add_and_take_out.Goals.{then-key-ne0, else-key-ne0}
use Rattle.uses.proofs.mark_in_list.add_and_take_out.Goals as goal

pub set_answers-requires : goal.set_answers-requires
set_answers-requires g c = c.loop-key.invariant.0

pub set_answers-requires-then-key-ne0 : goal.set_answers-requires-then-key-ne0
set_answers-requires-then-key-ne0 g c = c.loop-key.invariant.1

pub set_answers-absent-requires : goal.set_answers-absent-requires
set_answers-absent-requires g c = c.set_answers.ensures.usable

pub loop-key-preserved : goal.loop-key-preserved
loop-key-preserved g c = elim c.if-key-ne0.branch [
  | then-key-ne0 w ↦ (rw w.one-is w.set_answers-absent.ensures.usable, rw w.two-is w.set_answers-then-key-ne0.ensures.usable)
  | else-key-ne0 w ↦ (rw w.one-is c.set_answers.ensures.usable, rw w.two-is c.loop-key.invariant.1)
]
