-- What the call did, and the settling after it.
use Rattle.std.proofs.Common.{arith}
use Rattle.orc_heap.proofs.Pieces.{goes_on}
use Rattle.orc_heap.proofs.InJournal.{call_seen, settling_alone}
use Rattle.orc_fifo_rule.specs.QueueDiscipline.{FifoMay}
use Rattle.orc_queue.proofs.Causes.{any_gives, any_tries, put_ends, put_err, put_ok, put_positions, put_tail}
use Rattle.orc_queue.proofs.Costs.{put_again, put_cost}
use Rattle.orc_queue.proofs.Holding.{pass_known}
use Rattle.orc_queue.proofs.Lacking.{lacks_row}
use Rattle.orc_queue.proofs.queue.Queue.put.Goals as goal

pub returns : goal.returns
returns g c =
    let d = c.args.self.now.links in
    let job = c.args.job in
    let turns = c.args.turns in
    let r = c.put_job-answer.result in
    let done = c.put_job-answer.ensures in
    let settle = c.settle.ensures in
    let ends = put_ends (g.L.Links.numbers d) job turns (g.L.Links.seat d c.args.p.now) _ (g.L.Links.seat d c.settle.new.p) settle.nothing r done.answered in
    let pass = c.requires.pass in
    let seen = call_seen FifoMay g.L.Links d c.args.p.now c.settle.new.p (g.met.L.Links.seen_is d) (g.met.L.Links.allowed d)
    (g.met.L.Links.agents_below d c.settle.new.p settle.pass).1 (g.met.L.Links.steps_add d) pass settle.pass (goes_on _ _ _ done.later settle.later) in
    let known = pass_known g.L.Links g.met.L.Links.opens g.met.L.Links.allowed g.met.L.Links.obeys d c.args.p.now c.args.self.now.made pass in
    let agent = (g.L.Links.seat d c.args.p.now).agent in
    record {
      pass = settle.pass;
      idle = ends.any.call.idle;
      agent = ends.any.call.puts.agent;
      later = goes_on _ _ _ done.later settle.later;
      put = put_ok seen job turns r ends.answers;
      none = put_err seen job turns r ends.answers;
      no_turns = λ zero. (ends.no_turns zero).0;
      no_event = λ zero. (ends.no_turns zero).1;
      again = put_again seen known job turns r ends.answers;
      cost = put_cost seen known job turns r ends.answers;
      no_node = λ is. lacks_row g.L.Links.agent_of agent (g.L.Links.lacking d agent) (g.met.L.Links.lacking_stays d agent) _ _ _ done.later settle.later
          (done.lacking is);
      positions = put_positions (g.L.Links.numbers d) job turns (g.L.Links.seat d c.args.p.now) (g.L.Links.seat d c.settle.new.p) r ends.answers;
      gives = any_gives ends.any;
      tries = omega (arith, any_tries ends.any);
      tail = put_tail seen job turns r known ends.answers;
      settled = λ alone. settle.settled
          (settling_alone g.L.Links d c.args.p.now c.put_job-answer.new.p c.settle.new.p done.later settle.later ends.before.call.puts.agent alone);
    }
