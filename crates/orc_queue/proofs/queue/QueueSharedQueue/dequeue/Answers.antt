-- The cause as a licence.
use Rattle.orc_heap.proofs.InJournal.{call_seen}
use Rattle.orc_heap.specs.Journals.{run_heap}
use Rattle.orc_fifo_rule.specs.QueueDiscipline.{FifoMay, position_of}
use Rattle.orc_queue.proofs.Causes.{take_licence}
use Rattle.orc_queue.proofs.queue.QueueSharedQueue.dequeue.Goals as goal

pub returns-clause-licence : goal.returns-clause-licence
returns-clause-licence g c =
    let d = c.args.self.now.links in
    let e = c.take.ensures in
    let seen = call_seen FifoMay g.L.Links d c.args.p.now c.take.new.p (g.met.L.Links.seen_is d) (g.met.L.Links.allowed d)
    (g.met.L.Links.agents_below d c.take.new.p e.pass).1 (g.met.L.Links.steps_add d) c.requires.0 e.pass e.later in
    take_licence seen c.args.turns (position_of (run_heap (g.L.Links.numbers d) (g.L.Links.opening d)) 0) (g.L.Links.lacking d (g.L.Links.seat d c.args.p.now).agent (g.L.Links.journal c.take.new.p)) c.take.result e.again
