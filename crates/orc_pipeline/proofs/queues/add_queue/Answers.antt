use Rattle.std.proofs.Common.{ℕ, List, ◌≡◌, ◌+◌, ◌∷◌, ◌∙◌, arith}
use Rattle.std.proofs.lemmas.Result.{IfOk-weaker}
use Rattle.orc_pipeline.specs.Run.{AreFresh, StandAhead}
use Rattle.orc_pipeline.proofs.Ahead.{fresh_ahead}
use Rattle.orc_pipeline.proofs.queues.add_queue.Goals as goal

pub returns-clause-fresh : goal.returns-clause-fresh
returns-clause-fresh g c =
    let q = g.Q.SharedQueue in
    let queue = c.args.queue.now in
    let zero_more : (i : ℕ) → i ≡ 0 + i = λ i. omega arith in
    IfOk-weaker c.put_ahead.result (λ done. StandAhead c.args.passes.items c.args.desks.now c.put_ahead.new.desks)
    (λ done. (queues : List g.row.Q.Denot) → AreFresh q queues 0 c.args.desks.now → AreFresh q (queue ∷ queues) 0 c.put_ahead.new.desks)
    (λ done ahead queues fresh.
    fresh_ahead q queue queues 0 c.args.passes.items c.args.desks.now c.put_ahead.new.desks c.requires.usable c.requires.fresh
    (λ i p low. c.requires.agents i p low ∙ zero_more i) ahead fresh) c.put_ahead.ensures.ahead
