-- What the call did, and the settling after it.
use Rattle.std.proofs.Common.{Bool, [], append-nil, refl, subst, sym, true}
use Rattle.orc_heap.proofs.InJournal.{settling_alone}
use Rattle.orc_heap.proofs.Pieces.{goes_on}
use Rattle.orc_history.specs.declared.set.SetEntry.{SetEntry}
use Rattle.orc_ordered_search.proofs.Causes.{did_enter, did_give, did_not_enter, did_nothing, if_err, own_call, part_alone}
use Rattle.orc_ordered_search.proofs.Settling.{answers_did, answers_keeps, answers_puts, answers_some, idle_settled}
use Rattle.orc_list.specs.Searches.{list_reading}
use Rattle.orc_list.proofs.Causes.{did_few, none_of_err, turns_used}
use Rattle.orc_list.proofs.Making.{made_on}
use Rattle.orc_list.proofs.Ordered.{list_ordering}
use Rattle.orc_heap.specs.OwnEvents.{Puts}
use Rattle.orc_ordered_search.specs.Entries.{entry_by}
use Rattle.orc_ordered_search.specs.Turns.{made_from}
use Rattle.orc_ordered_search.proofs.Marking.{worn_wider}
use Rattle.orc_list.proofs.Tiring.{takes_settled, takes_wider}
use Rattle.orc_list.proofs.list.List.answer.Goals as goal

pub returns : goal.returns
returns g c =
    let d = c.args.self.now.links in
    let x = list_ordering _ in
    let s = g.L.Links.seat d c.args.p.now in
    let u = g.L.Links.seat d c.settle.new.p in
    let r = c.call_turns-answer.result in
    let done = c.call_turns-answer.ensures in
    let settle = c.settle.ensures in
    let entry : Bool → SetEntry = λ answer. entry_by c.args.call s.agent c.args.key answer in
    let did = answers_did (list_reading _) s _ u settle.nothing entry _ r done.answered in
    let keeps = answers_keeps (list_reading _) entry _ s _ r done.answered c.requires.idle in
    let j = g.L.Links.journal c.args.p.now in
    let k = g.L.Links.journal c.call_turns-answer.new.p in
    let m = g.L.Links.journal c.settle.new.p in
    let grows = goes_on j k m done.later settle.later in
    let is_s = g.met.L.Links.seen_is _ _ c.requires.pass in
    let is_u = g.met.L.Links.seen_is _ _ settle.pass in
    let all = g.met.L.Links.allowed _ _ settle.pass in
    let below = (g.met.L.Links.agents_below d c.settle.new.p settle.pass).1 in
    let agents = g.L.Links.agents d in
    let adds = g.met.L.Links.steps_add d in
    let used = turns_used _ agents _ _ adds s u j m grows is_s is_u all below 0 _ entry r did (none_of_err entry r) in
    let (own, puts) = answers_puts (list_reading _) entry _ s _ r done.answered in
    let gives = did_give (list_reading _) 0 _ entry s u r did in
    let whole : Puts s (made_from s u) u = subst (λ z. Puts s z u) (sym (own_call (list_reading _) 0 _ entry s u r did)) did.made.puts in
    record {
      pass = settle.pass;
      idle = idle_settled _ u keeps.0 settle.nothing;
      agent = did.made.puts.agent;
      later = grows;
      entered = did_enter x agents _ _ adds s u j m grows is_s is_u all below 0 _ entry r did;
      none = did_not_enter x agents _ _ adds s u j m grows is_s is_u all below 0 _ entry r did;
      no_turns = λ zero. (did.no_turns zero).0;
      no_event = did_nothing (list_reading _) 0 _ entry s u r did;
      again = if_err r _ used;
      cost = if_err r _ (λ is. (used is).cost);
      gives = gives;
      tries = did_few _ 0 s u (made_on _ s _ u own puts settle.nothing.puts done.few) gives;
      off_the_chain = λ takes is alone. takes_wider _ c.args.key _ _ s u (λ w. worn_wider (g.L.Links.worn d) s.agent s.agent j j k m
          (λ why xs more from to h. g.met.L.Links.worn_stays d s.agent why xs more from to h) refl ([], append-nil j) settle.later w)
          (takes_settled _ c.args.key _ s _ u own (answers_some (list_reading _) entry _ s _ r done.answered true is) puts settle.nothing.puts (done.off takes is)) whole
          (part_alone x agents _ _ adds s u j m grows is_s is_u all below (made_from s u) whole alone);
      settled = λ alone. settle.settled (settling_alone g.L.Links d c.args.p.now c.call_turns-answer.new.p c.settle.new.p done.later settle.later keeps.1 alone);
    }
