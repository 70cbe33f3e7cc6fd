-- What the turn came to, and the settling after it.
use Rattle.std.proofs.Common.{Err, arith, inl, inr, sym, ◌∙◌}
use Rattle.orc_heap.proofs.Pieces.{goes_on}
use Rattle.orc_history.specs.declared.set.SetEntry.TheVariants.{Asked}
use Rattle.orc_ordered_search.proofs.Settling.{idle_settled}
use Rattle.orc_split_set.specs.declared.bucket.Rooted.TheVariants.{NoNode, Spent}
use Rattle.orc_split_set.proofs.Called.{called}
use Rattle.orc_split_set.proofs.Calling.{call_idle}
use Rattle.orc_split_set.proofs.Telling.{told_on}
use Rattle.orc_split_set.proofs.Stopping.{dummy_on_chain, linked_there, linked_unset, missed_told, stopped_did}
use Rattle.orc_split_set.proofs.set.SplitSet.link_dummy_and_stop.Goals as goal

pub stop_a_bucket-turn-requires-clause-bucket : goal.stop_a_bucket-turn-requires-clause-bucket
stop_a_bucket-turn-requires-clause-bucket g c =
    let roots = c.args.self.now.rooted in
    (c.requires.bucket.0, omega (arith, c.requires.bucket.1, roots.1))

pub returns : goal.returns
returns g c =
    let d = c.args.self.now.links in
    let p = c.args.p.now in
    let q = c.settle.new.p in
    let s = g.L.Links.seat d p in
    let u = g.L.Links.seat d q in
    let turn = c.stop_a_bucket-turn.result in
    let done = c.stop_a_bucket-turn.ensures in
    let settle = c.settle.ensures in
    let k = done.stopped in
    let grows = goes_on _ _ _ done.later settle.later in
    let all = g.met.L.Links.allowed _ _ settle.pass in
    let holds = g.met.L.Links.obeys _ _ settle.pass in
    let call = called g.L.Links g.met.L.Links.steps_add g.met.L.Links.seen_is g.met.L.Links.allowed g.met.L.Links.agents_below d p q c.requires.usable.0
    settle.pass grows 1 1 (λ answer. Asked 0 0 answer) (Err tt) (stopped_did _ _ s _ u turn k settle.nothing) in
    let on = told_on g.L.Links g.met.L.Links.lacking_stays g.met.L.Links.worn_stays d p c.stop_a_bucket-turn.new.p q done.later settle.later in
    let linked = c.has_linked.ensures in
    record {
      usable = (settle.pass, idle_settled _ u (call_idle k.call c.requires.usable.1) settle.nothing);
      agent = call.puts.agent;
      later = grows;
      linked = λ is. (linked_there _ _ s _ u turn k settle.nothing all holds call.own call.puts (sym linked ∙ is)).there;
      own = λ is. linked_there _ _ s _ u turn k settle.nothing all holds call.own call.puts (sym linked ∙ is);
      unnamed = λ is undisturbed. linked_unset _ _ s _ u turn k settle.nothing all holds call.own call.puts (sym linked ∙ is) (call.alone undisturbed);
      missed = λ is undisturbed. elim (missed_told _ _ s _ u turn k settle.nothing all holds call.own call.puts (sym linked ∙ is) (call.alone undisturbed)) [
        | inl there ↦ inl (dummy_on_chain _ u.seen _ holds there)
        | inr none ↦ inr (elim none [
          | inl lacks ↦ inl (on NoNode (done.lacking lacks))
          | inr spent ↦ inr (spent.0, on (Spent spent.0) (done.worn spent.0 spent.1))
        ])
      ];
      none = call.none;
      gives = call.gives;
    }
