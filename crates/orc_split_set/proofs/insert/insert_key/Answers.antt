-- The node in hand is let go after the turns.
use Rattle.std.proofs.Common.{subst, ◌*◌, ◌+◌}
use Rattle.orc_history.specs.declared.set.SetEntry.TheVariants.{Added}
use Rattle.orc_ordered_search.specs.Inserts.{InsertsTurns}
use Rattle.orc_ordered_search.specs.declared.turn.InsertTurn.{InsertTurn}
use Rattle.orc_ordered_search.proofs.Inserting.{ends_held, ends_of, idle_room, turns_answer}
use Rattle.orc_heap.proofs.Pieces.{goes_on}
use Rattle.orc_heap.proofs.Parting.{part_goes_on}
use Rattle.orc_split_set.specs.SplitSearches.{split_reading}
use Rattle.orc_ordered_search.proofs.Absent.{absent_still}
use Rattle.orc_split_rule.specs.SplitOrder.{key_place}
use Rattle.orc_split_set.proofs.Ordered.{split_ordering}
use Rattle.orc_split_set.proofs.Crowding.{own_sooner, seen_grows}
use Rattle.orc_split_set.proofs.Passes.{seen_on}
use Rattle.orc_split_set.proofs.FewEvents.{few_still_giving}
use Rattle.orc_split_set.proofs.insert.insert_key.Goals as goal

pub insert_turns-turn-requires-clause-room : goal.insert_turns-turn-requires-clause-room
insert_turns-turn-requires-clause-room g c = idle_room (g.L.Links.seat c.args.links.now c.args.p.now) c.requires.idle

pub let_go-requires-clause-held : goal.let_go-requires-clause-held
let_go-requires-clause-held g c =
    let s = g.L.Links.seat _ c.args.p.now in
    let kept = c.insert_turns-turn.result.1 in
    ends_held kept s _ (ends_of (split_reading _) c.args.key 1 (λ answer. Added s.agent c.args.key answer) c.args.turns kept s _
    c.insert_turns-turn.result.0 c.insert_turns-turn.ensures.inserted) (idle_room s c.requires.idle)

pub returns-clause-inserted : goal.returns-clause-inserted
returns-clause-inserted g c =
    let s = g.L.Links.seat _ c.args.p.now in
    turns_answer (split_reading _) c.args.turns c.insert_turns-turn.result.1 s _ _ (idle_room s c.requires.idle) c.let_go.ensures.let_go c.args.key 1
    (λ answer. Added s.agent c.args.key answer) c.insert_turns-turn.result.0 c.insert_turns-turn.ensures.inserted

pub returns-clause-lacking : goal.returns-clause-lacking
returns-clause-lacking g c = λ is.
    let d = c.args.links.now in
    let s = g.L.Links.seat d c.args.p.now in
    let e = c.insert_turns-turn.ensures in
    part_goes_on g.L.Links.agent_of s.agent (g.L.Links.lacking d s.agent) _ _
    _ (λ xs more from to h. g.met.L.Links.lacking_stays d s.agent xs more from to h)
    e.later c.let_go.ensures.later (e.lacking is)

pub returns-clause-worn : goal.returns-clause-worn
returns-clause-worn g c = λ why is.
    let d = c.args.links.now in
    let s = g.L.Links.seat d c.args.p.now in
    let e = c.insert_turns-turn.ensures in
    part_goes_on g.L.Links.agent_of s.agent (g.L.Links.worn d s.agent why) _ _
    _ (λ xs more from to h. g.met.L.Links.worn_stays d s.agent why xs more from to h)
    e.later c.let_go.ensures.later (e.worn why is)

pub returns-clause-counted : goal.returns-clause-counted
returns-clause-counted g c = λ many is sees.
    let d = c.args.links.now in
    let s = g.L.Links.seat d c.args.p.now in
    let t = g.L.Links.seat d c.insert_turns-turn.new.p in
    let u = g.L.Links.seat d c.let_go.new.p in
    let e = c.insert_turns-turn.ensures in
    let f = c.let_go.ensures in
    let is_t = g.met.L.Links.seen_is d c.insert_turns-turn.new.p e.pass in
    let events = g.L.Links.events d in
    let j = g.L.Links.journal c.args.p.now in
    let k = g.L.Links.journal c.insert_turns-turn.new.p in
    let grew = seen_grows events g.L.Links.agent_of (g.met.L.Links.steps_add d) j k s t e.later (g.met.L.Links.seen_is d c.args.p.now c.requires.pass) is_t in
    let grows = seen_grows events g.L.Links.agent_of (g.met.L.Links.steps_add d) k (g.L.Links.journal c.let_go.new.p) t u f.later is_t
    (g.met.L.Links.seen_is d c.let_go.new.p f.pass) in
    e.counted many is (own_sooner s t u grew grows sees)

pub returns-clause-absent : goal.returns-clause-absent
returns-clause-absent g c = λ is.
    let d = c.args.links.now in
    let n = g.L.Links.numbers d in
    let s = g.L.Links.seat d c.args.p.now in
    let t = g.L.Links.seat d c.insert_turns-turn.new.p in
    let e = c.insert_turns-turn.ensures in
    let f = c.let_go.ensures in
    let ends = subst (λ (turn : InsertTurn). InsertsTurns (split_reading n) c.args.key 1 (λ answer. Added s.agent c.args.key answer) c.args.turns s turn
    c.insert_turns-turn.result.1 t) is e.inserted in
    absent_still (split_ordering n) (key_place c.args.key) s t (g.L.Links.seat d c.let_go.new.p) ends.1.0 ends.1.1.made.puts f.let_go.puts (g.met.L.Links.allowed d c.let_go.new.p f.pass)
    (e.absent is)

pub returns-clause-tries : goal.returns-clause-tries
returns-clause-tries g c = λ k low.
    let t = g.L.Links.seat c.args.links.now c.insert_turns-turn.new.p in
    let u = g.L.Links.seat c.args.links.now c.let_go.new.p in
    let s = g.L.Links.seat c.args.links.now c.args.p.now in
    let e = c.insert_turns-turn.ensures in
    few_still_giving (6 + 2 * k) c.args.turns s t u
    (seen_on g.L.Links g.met.L.Links.steps_add g.met.L.Links.seen_is c.args.links.now c.args.p.now c.insert_turns-turn.new.p c.requires.pass e.pass e.later) c.let_go.ensures.let_go.puts (e.tries k low)

pub let_go-requires-clause-pass : goal.let_go-requires-clause-pass
let_go-requires-clause-pass g c = c.insert_turns-turn.ensures.pass

pub returns-clause-pass : goal.returns-clause-pass
returns-clause-pass g c = c.let_go.ensures.pass

pub returns-clause-later : goal.returns-clause-later
returns-clause-later g c = goes_on _ _ _ c.insert_turns-turn.ensures.later c.let_go.ensures.later
