-- With one more queue ahead the row is still what the function takes.
use Rattle.std.proofs.Common.{rules, ◌≡◌, ◌∷◌, ◌++◌, length, take, drop}
use Rattle.orc_stages_run.proofs.Rows.{all_ahead, fresh_ahead, written_over}
use Rattle.orc_stages_run.proofs.making.+add_queues.Goals as goal

pub add_queues-requires : goal.add_queues-requires
add_queues-requires g t c κs within =
    let queue = c.in_ok-queue.queue in
    let old = c.args.row.desks.items in
    let new = c.add_queue.new.desks in
    let taken : c.as_mut_slice.result.now ≡ old = c.as_mut_slice.ensures.value in
    let many : length new ≡ length old = search rules in
    let back : take c.args.row.desks.len (new ++ drop (length new) old) ≡ new = written_over _ new old (search rules) many in
    let is : c.insert.new.self.items ≡ queue ∷ c.args.row.queues.items = search rules in
    let all : length (take c.args.row.desks.len (new ++ drop (length new) old)) ≡ c.args.agents = search rules in
    let fresh = fresh_ahead _ queue c.args.row.queues.items c.insert.new.self.items old c.as_mut_slice.result.now new _ taken is back
    c.in_ok-add_queue.ensures.fresh c.requires.fresh in
    let known = all_ahead _ queue _ c.insert.new.self.items is (c.in_ok-queue.ensures.agents, c.in_ok-queue.ensures.first) c.requires.known in
    let made = all_ahead _ queue _ c.insert.new.self.items is c.in_ok-queue.ensures.made c.requires.made in
    search rules
