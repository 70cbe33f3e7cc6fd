-- What the turns did, and the settling after them.
use Rattle.std.proofs.Common.{arith, Bool, Err, ◌*◌, Result, subst, sym, ◌∙◌, ◌≡◌}
use Rattle.orc_heap.specs.Moves.{gives_in}
use Rattle.orc_ordered_search.specs.Turns.{made_from}
use Rattle.orc_heap.proofs.Pieces.{goes_on}
use Rattle.orc_heap.proofs.InJournal.{settling_alone}
use Rattle.orc_history.specs.declared.set.ListRefused.TheVariants.{Again}
use Rattle.orc_history.specs.declared.set.ListRefused.{ListRefused}
use Rattle.orc_history.specs.declared.set.SetEntry.{SetEntry}
use Rattle.orc_history.specs.declared.set.SetEntry.TheVariants.{Added}
use Rattle.orc_ordered_search.proofs.Settling.{Did, idle_settled, insert_did, insert_keeps, insert_puts}
use Rattle.orc_ordered_search.specs.Inserts.{answer_by}
use Rattle.orc_ordered_search.proofs.Inserting.{turn_lacks, turn_worn}
use Rattle.orc_split_set.specs.SplitSearches.{split_reading}
use Rattle.orc_split_set.specs.declared.bucket.Rooted.TheVariants.{NoNode, Spent}
use Rattle.orc_ordered_search.proofs.Absent.{absent_still}
use Rattle.orc_split_rule.specs.SplitOrder.{key_place}
use Rattle.orc_split_set.proofs.Ordered.{split_ordering}
use Rattle.orc_split_set.proofs.Called.{called}
use Rattle.orc_split_set.proofs.FewEvents.{few_levels, few_still, few_wider, insert_gives}
use Rattle.orc_split_set.proofs.Passes.{seen_on}
use Rattle.orc_split_set.proofs.Telling.{told_on}
use Rattle.orc_split_set.proofs.set.SplitSet.insert_and_stop.Goals as goal

pub returns : goal.returns
returns g c =
    let d = c.args.self.now.links in
    let p = c.args.p.now in
    let s = g.L.Links.seat d p in
    let u = g.L.Links.seat d c.settle.new.p in
    let turn = c.insert_key-turn.result in
    let is_answer : c.answer_of.result ≡ answer_by turn = c.answer_of.ensures in
    let done = c.insert_key-turn.ensures in
    let settle = c.settle.ensures in
    let entry : Bool → SetEntry = λ answer. Added s.agent c.args.key answer in
    let did = subst (λ (x : Result Bool ListRefused). Did (split_reading (g.L.Links.numbers d)) (x ≡ Err Again) 1 c.args.turns entry s x u) (sym is_answer)
    (insert_did _ s _ u settle.nothing entry _ (answer_by turn) done.inserted) in
    let keeps = insert_keeps _ entry _ s _ (answer_by turn) done.inserted c.requires.usable.1 in
    let put = insert_puts (split_reading _) entry c.args.turns s _ (answer_by turn) done.inserted in
    let grows = goes_on _ _ _ done.later settle.later in
    let call = called g.L.Links g.met.L.Links.steps_add g.met.L.Links.seen_is g.met.L.Links.allowed g.met.L.Links.agents_below d p c.settle.new.p
    c.requires.usable.0 settle.pass grows 1 _ entry _ did in
    let on = told_on g.L.Links g.met.L.Links.lacking_stays g.met.L.Links.worn_stays d p c.insert_key-turn.new.p c.settle.new.p done.later settle.later in
    record {
      usable = (settle.pass, idle_settled _ _ keeps.0 settle.nothing);
      agent = call.puts.agent;
      later = grows;
      added = call.entered;
      none = call.none;
      no_turns = λ zero. (did.no_turns zero).0;
      no_event = call.no_event;
      again = call.again;
      tries =
          let t = g.L.Links.seat d c.insert_key-turn.new.p in
          let on = seen_on g.L.Links g.met.L.Links.steps_add g.met.L.Links.seen_is d p c.insert_key-turn.new.p c.requires.usable.0 done.pass done.later in
          let gives = insert_gives (split_reading (g.L.Links.numbers d)) entry c.args.turns s t (answer_by turn) done.inserted in
          (few_still 22 c.args.turns 3 s t u on settle.nothing.puts (few_wider 22 c.args.turns c.args.turns (3 * gives_in (made_from s t)) 3 s t (omega arith) (omega (arith, gives))
          (done.tries 8 (few_levels _ c.args.self.now.sized)))).1;
      no_node = λ is. on NoNode (done.lacking (turn_lacks turn (sym is_answer ∙ is)));
      absent = λ is. absent_still (split_ordering (g.L.Links.numbers d)) (key_place c.args.key) s (g.L.Links.seat d c.insert_key-turn.new.p) u put.0 put.1 settle.nothing.puts
          (g.met.L.Links.allowed d c.settle.new.p settle.pass) (done.absent (turn_lacks turn (sym is_answer ∙ is)));
      spent = λ why is. on (Spent why) (done.worn why (turn_worn turn why (sym is_answer ∙ is)));
      gives = call.gives;
      settled = λ alone. settle.settled (settling_alone g.L.Links d p c.insert_key-turn.new.p c.settle.new.p done.later settle.later keeps.1 alone);
    }
