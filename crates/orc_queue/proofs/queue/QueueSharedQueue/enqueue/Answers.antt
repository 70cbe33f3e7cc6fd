-- The causes as licences.
use Rattle.orc_heap.proofs.InJournal.{call_seen}
use Rattle.orc_fifo_rule.specs.QueueDiscipline.{FifoMay}
use Rattle.orc_queue.proofs.Causes.{put_licence}
use Rattle.orc_queue.proofs.Holding.{pass_known}
use Rattle.orc_queue.proofs.queue.QueueSharedQueue.enqueue.Goals as goal

pub returns-clause-licence : goal.returns-clause-licence
returns-clause-licence g c =
    let d = c.args.self.now.links in
    let e = c.put.ensures in
    let made = c.args.self.now.made in
    let seen = call_seen FifoMay g.L.Links d c.args.p.now c.put.new.p (g.met.L.Links.seen_is d) (g.met.L.Links.allowed d)
    (g.met.L.Links.agents_below d c.put.new.p e.pass).1 (g.met.L.Links.steps_add d) c.requires.0 e.pass e.later in
    let known = pass_known g.L.Links g.met.L.Links.opens g.met.L.Links.allowed g.met.L.Links.obeys d c.args.p.now made c.requires.0 in
    put_licence seen c.args.turns (g.L.Links.opening d) made (g.met.L.Links.opens d c.put.new.p e.pass) known (g.L.Links.lacking d (g.L.Links.seat d c.args.p.now).agent (g.L.Links.journal c.put.new.p)) c.put.result
    e.no_turns e.again e.no_node e.positions
