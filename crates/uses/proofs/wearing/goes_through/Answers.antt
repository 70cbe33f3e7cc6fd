-- Each call leaves the pass usable.
use Rattle.uses.proofs.wearing.goes_through.Goals as goal

pub queue_answers-put-requires : goal.queue_answers-put-requires
queue_answers-put-requires g c = c.requires

pub queue_answers-refused-requires : goal.queue_answers-refused-requires
queue_answers-refused-requires g c = c.queue_answers-put.ensures

pub queue_answers-taken-requires : goal.queue_answers-taken-requires
queue_answers-taken-requires g c = c.queue_answers-refused.ensures

pub returns-then-refused : goal.returns-then-refused
returns-then-refused g c = c.queue_answers-taken.ensures

pub returns-else-refused : goal.returns-else-refused
returns-else-refused g c = c.queue_answers-taken.ensures
