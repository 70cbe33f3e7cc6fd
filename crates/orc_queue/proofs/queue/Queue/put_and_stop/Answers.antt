-- What the call did.
use Rattle.std.proofs.Common.{[], append-nil, arith, inl, inr}
use Rattle.orc_history.specs.Parts.{InPart}
use Rattle.orc_fifo_rule.specs.QueueDiscipline.{FifoMay}
use Rattle.orc_heap.proofs.InJournal.{call_seen}
use Rattle.orc_queue.proofs.Causes.{AnyCall, any_gives, any_tries, stop_tail}
use Rattle.orc_queue.proofs.Lacking.{lacks_row}
use Rattle.orc_queue.proofs.Stopping.{stop_none, stop_some, stopped_by}
use Rattle.orc_queue.proofs.queue.Queue.put_and_stop.Goals as goal

pub returns : goal.returns
returns g c =
    let d = c.args.self.now.links in
    let s = g.L.Links.seat d c.args.p.now in
    let t = g.L.Links.seat d c.stop_a_put.new.p in
    let j = g.L.Links.journal c.args.p.now in
    let k = g.L.Links.journal c.stop_a_put.new.p in
    let r = c.stop_a_put.result in
    let done = c.stop_a_put.ensures in
    let pass = c.requires.pass in
    let by = g.L.Links.agent_of in
    let lacks = InPart by s.agent j k (g.L.Links.lacking d s.agent k) in
    let seen = call_seen FifoMay g.L.Links d c.args.p.now c.stop_a_put.new.p (g.met.L.Links.seen_is d) (g.met.L.Links.allowed d)
    (g.met.L.Links.agents_below d c.stop_a_put.new.p done.pass).1 (g.met.L.Links.steps_add d) pass done.pass done.later in
    let w = stopped_by c.args.job lacks s t r done.stopped in
    let any : AnyCall w.given 1 s t = record { entries = w.entries; call = w.short.call } in
    let gives = any_gives any in
    let row = lacks_row by s.agent (g.L.Links.lacking d s.agent) (g.met.L.Links.lacking_stays d s.agent) j k k done.later ([], append-nil k) in
    record {
      pass = done.pass;
      idle = w.short.call.idle;
      agent = w.short.call.puts.agent;
      later = done.later;
      put = stop_some seen c.args.job lacks r done.stopped;
      none = stop_none seen c.args.job lacks r done.stopped;
      missed = λ is. elim (done.missed is) [ inl lacking ↦ inl (row lacking) | inr full ↦ inr full ];
      gives = elim w.had [
        | inl one ↦ inl (omega (arith, gives, one))
        | inr none ↦ inr (none.1, row none.2)
      ];
      tries = elim w.had [
        | inl one ↦ omega (arith, any_tries any, one)
        | inr none ↦ omega (arith, any_tries any, none.0)
      ];
      tail = stop_tail w.given s t w.entries w.short;
    }
