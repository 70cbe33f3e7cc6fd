-- What the call did, and the settling after it.
use Rattle.std.proofs.Common.{Bool}
use Rattle.orc_heap.proofs.InJournal.{settling_alone}
use Rattle.orc_heap.proofs.Pieces.{goes_on}
use Rattle.orc_history.specs.declared.set.SetEntry.{SetEntry}
use Rattle.orc_history.specs.declared.set.SetEntry.TheVariants.{Added}
use Rattle.orc_ordered_search.proofs.Absent.{absent_still}
use Rattle.orc_ordered_search.proofs.Causes.{did_enter, did_give, did_not_enter, did_nothing}
use Rattle.orc_ordered_search.proofs.Settling.{idle_settled, insert_did, insert_keeps, insert_puts}
use Rattle.orc_list.specs.Searches.{list_reading}
use Rattle.orc_list.proofs.Causes.{did_few, none_of_again, turns_used}
use Rattle.orc_list.proofs.Making.{made_on}
use Rattle.orc_list.proofs.Ordered.{list_ordering}
use Rattle.orc_ordered_search.proofs.Parts.{within_goes_on}
use Rattle.orc_list.proofs.Inserting.{leaves_still}
use Rattle.orc_list.proofs.list.List.insert.Goals as goal

pub returns : goal.returns
returns g c =
    let d = c.args.self.now.links in
    let n = g.L.Links.numbers d in
    let x = list_ordering n in
    let s = g.L.Links.seat d c.args.p.now in
    let t = g.L.Links.seat d c.insert_key-answer.new.p in
    let u = g.L.Links.seat d c.settle.new.p in
    let r = c.insert_key-answer.result in
    let turns = c.args.turns in
    let done = c.insert_key-answer.ensures in
    let settle = c.settle.ensures in
    let entry : Bool → SetEntry = λ answer. Added s.agent c.args.key answer in
    let did = insert_did (list_reading n) s t u settle.nothing entry turns r done.inserted in
    let keeps = insert_keeps (list_reading n) entry turns s t r done.inserted c.requires.idle in
    let j = g.L.Links.journal c.args.p.now in
    let k = g.L.Links.journal c.insert_key-answer.new.p in
    let m = g.L.Links.journal c.settle.new.p in
    let grows = goes_on j k m done.later settle.later in
    let is_s = g.met.L.Links.seen_is d c.args.p.now c.requires.pass in
    let is_u = g.met.L.Links.seen_is d c.settle.new.p settle.pass in
    let all = g.met.L.Links.allowed d c.settle.new.p settle.pass in
    let below = (g.met.L.Links.agents_below d c.settle.new.p settle.pass).1 in
    let agents = g.L.Links.agents d in
    let by = g.L.Links.agent_of in
    let events = g.L.Links.events d in
    let adds = g.met.L.Links.steps_add d in
    let used = turns_used n agents by events adds s u j m grows is_s is_u all below 1 turns entry r did (none_of_again entry r) in
    let (own, puts) = insert_puts (list_reading n) entry turns s t r done.inserted in
    let gives = did_give (list_reading n) 1 turns entry s u r did in
    record {
      pass = settle.pass;
      idle = idle_settled t u keeps.0 settle.nothing;
      agent = did.made.puts.agent;
      later = grows;
      added = did_enter x agents by events adds s u j m grows is_s is_u all below 1 turns entry r did;
      none = did_not_enter x agents by events adds s u j m grows is_s is_u all below 1 turns entry r did;
      no_turns = λ zero. (did.no_turns zero).0;
      no_event = did_nothing (list_reading n) 1 turns entry s u r did;
      again = used;
      cost = λ is. (used is).cost;
      gives = gives;
      tries = did_few turns 1 s u (made_on turns s t u own puts settle.nothing.puts done.few) gives;
      no_node = λ is. within_goes_on by s.agent (g.L.Links.lacking d s.agent) (g.met.L.Links.lacking_stays d s.agent) j k m done.later settle.later
          (done.lacking is);
      absent = λ is. absent_still x c.args.key s t u own puts settle.nothing.puts all (done.absent is);
      off_the_chain = λ is. leaves_still n c.args.key s t u own puts settle.nothing.puts (g.met.L.Links.obeys d c.insert_key-answer.new.p done.pass) all
          (done.off is);
      spent = λ why is. within_goes_on by s.agent (g.L.Links.worn d s.agent why) (g.met.L.Links.worn_stays d s.agent why) j k m done.later settle.later
          (done.worn why is);
      settled = λ alone. settle.settled (settling_alone g.L.Links d c.args.p.now c.insert_key-answer.new.p c.settle.new.p done.later settle.later keeps.1 alone);
    }
