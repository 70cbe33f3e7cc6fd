-- What the call did, and the settling after it.
use Rattle.std.proofs.Common.{arith}
use Rattle.orc_heap.proofs.Pieces.{goes_on}
use Rattle.orc_heap.proofs.InJournal.{call_seen, settling_alone}
use Rattle.orc_fifo_rule.specs.QueueDiscipline.{FifoMay}
use Rattle.orc_queue.proofs.Causes.{any_gives, any_tries, take_ends, take_err, take_ok}
use Rattle.orc_queue.proofs.Costs.{take_again, take_cost}
use Rattle.orc_queue.proofs.Holding.{pass_known}
use Rattle.orc_queue.proofs.queue.Queue.take.Goals as goal

pub returns : goal.returns
returns g c =
    let d = c.args.self.now.links in
    let turns = c.args.turns in
    let r = c.take_job-answer.result in
    let done = c.take_job-answer.ensures in
    let settle = c.settle.ensures in
    let ends = take_ends (g.L.Links.numbers d) turns (g.L.Links.seat d c.args.p.now) _ (g.L.Links.seat d c.settle.new.p) settle.nothing r done.answered in
    let seen = call_seen FifoMay g.L.Links d c.args.p.now c.settle.new.p (g.met.L.Links.seen_is d) (g.met.L.Links.allowed d)
    (g.met.L.Links.agents_below d c.settle.new.p settle.pass).1 (g.met.L.Links.steps_add d) c.requires.pass settle.pass
    (goes_on _ _ _ done.later settle.later) in
    let known = pass_known g.L.Links g.met.L.Links.opens g.met.L.Links.allowed g.met.L.Links.obeys d c.args.p.now c.args.self.now.made c.requires.pass in
    record {
      pass = settle.pass;
      idle = ends.any.call.idle;
      agent = ends.any.call.puts.agent;
      later = goes_on _ _ _ done.later settle.later;
      took = take_ok seen turns r ends.answers;
      none = take_err seen turns r ends.answers;
      no_turns = λ zero. (ends.no_turns zero).0;
      no_event = λ zero. (ends.no_turns zero).1;
      again = take_again seen known turns r ends.answers;
      cost = take_cost seen known turns r ends.answers;
      gives = any_gives ends.any;
      tries = omega (arith, any_tries ends.any);
      settled = λ alone. settle.settled
          (settling_alone g.L.Links d c.args.p.now c.take_job-answer.new.p c.settle.new.p done.later settle.later ends.before.call.puts.agent alone);
    }
