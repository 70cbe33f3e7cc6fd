-- What the call did, and the settling after it.
use Rattle.std.proofs.Common.{[], arith}
use Rattle.orc_heap.proofs.Pieces.{goes_on}
use Rattle.orc_heap.proofs.InJournal.{settling_alone}
use Rattle.orc_history.specs.declared.set.SetEntry.TheVariants.{Asked}
use Rattle.orc_ordered_search.proofs.Settling.{idle_settled}
use Rattle.orc_split_set.proofs.Sizing.{made_most, none_of, size_again, size_did, size_had, size_keeps}
use Rattle.orc_split_set.proofs.Called.{called}
use Rattle.orc_split_set.proofs.set.SplitSet.size.Goals as goal

pub returns : goal.returns
returns g c =
    let d = c.args.self.now.links in
    let p = c.args.p.now in
    let s = g.L.Links.seat d p in
    let answer = c.size_turns-answer.result in
    let done = c.size_turns-answer.ensures in
    let settle = c.settle.ensures in
    let did = size_did _ s _ _ settle.nothing _ answer done.read in
    let keeps = size_keeps _ _ s _ answer done.read c.requires.usable.1 in
    let grows = goes_on _ _ _ done.later settle.later in
    let call = called g.L.Links g.met.L.Links.steps_add g.met.L.Links.seen_is g.met.L.Links.allowed g.met.L.Links.agents_below d p c.settle.new.p c.requires.usable.0
    settle.pass grows 0 c.args.turns (λ answer. Asked s.agent 0 answer) none_of did in
    record {
      usable = (settle.pass, idle_settled _ _ keeps.0 settle.nothing);
      agent = call.puts.agent;
      later = grows;
      size = size_had _ s _ _ settle.nothing (g.met.L.Links.allowed _ _ settle.pass) _ (omega (arith, c.args.self.now.rooted.0, c.args.self.now.rooted.1)) answer
          done.read;
      none = call.none;
      no_turns = λ zero. (did.no_turns zero).0;
      no_event = call.no_event;
      again = size_again answer _ call.again;
      tries = omega (arith, done.tries, made_most 0 _ _ [] settle.nothing.puts (omega arith));
      gives = call.gives;
      settled = λ alone. settle.settled (settling_alone g.L.Links d p c.size_turns-answer.new.p c.settle.new.p done.later settle.later keeps.1 alone);
    }
