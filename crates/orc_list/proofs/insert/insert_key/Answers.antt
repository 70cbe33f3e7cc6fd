-- By how the turns ended; the node in hand is let go.
use Rattle.std.proofs.Common.{List, Result, Bool, subst, sym, ◌∙◌}
use Rattle.orc_heap.proofs.Parting.{part_goes_on}
use Rattle.orc_heap.proofs.Pieces.{goes_on}
use Rattle.orc_heap.specs.OwnEvents.{Puts}
use Rattle.orc_heap.specs.declared.events.Event.{Event}
use Rattle.orc_history.specs.declared.set.ListRefused.{ListRefused}
use Rattle.orc_history.specs.declared.set.SetEntry.TheVariants.{Added}
use Rattle.orc_chain_rule.specs.declared.chain.ChainNote.{ChainNote}
use Rattle.orc_ordered_search.specs.Inserts.{InsertAnswers}
use Rattle.orc_ordered_search.proofs.Inserting.{ends_held, ends_of, idle_room, turn_added, turn_lacks, turn_worn, turns_answer}
use Rattle.orc_list.specs.Searches.{list_reading}
use Rattle.orc_list.proofs.Inserting.{leaves_still, turns_puts}
use Rattle.orc_ordered_search.proofs.Absent.{absent_still}
use Rattle.orc_list.proofs.Ordered.{list_ordering}
use Rattle.orc_list.proofs.Making.{made_on}
use Rattle.orc_list.proofs.insert.insert_key.Given.{Over}
use Rattle.orc_list.proofs.insert.insert_key.Goals.{After-insert_turns-turn}
use Rattle.orc_list.proofs.insert.insert_key.Goals as goal

-- what the turns made
made : (g : Over) (c : After-insert_turns-turn g) → let d = c.args.links.now in
    (own : List (Event ChainNote)) × Puts (g.L.Links.seat d c.args.p.now) own (g.L.Links.seat d c.insert_turns-turn.new.p)
made g c =
    let s = g.L.Links.seat _ c.args.p.now in
    turns_puts _ c.args.key c.args.turns (λ yes. Added s.agent c.args.key yes) c.insert_turns-turn.result.1 s
    _ c.insert_turns-turn.result.0 c.insert_turns-turn.ensures.inserted

pub insert_turns-turn-requires : goal.insert_turns-turn-requires
insert_turns-turn-requires g c =
    let r = c.requires in
    record { pass = r.pass; root = r.root; room = idle_room (g.L.Links.seat c.args.links.now c.args.p.now) r.idle; fresh = r.idle.fresh }

pub let_go-requires-clause-pass : goal.let_go-requires-clause-pass
let_go-requires-clause-pass g c = c.insert_turns-turn.ensures.pass

pub let_go-requires-clause-held : goal.let_go-requires-clause-held
let_go-requires-clause-held g c =
    let s = g.L.Links.seat _ c.args.p.now in
    let kept = c.insert_turns-turn.result.1 in
    let ends = ends_of (list_reading _) c.args.key 0 (λ yes. Added s.agent c.args.key yes) c.args.turns kept s _
    c.insert_turns-turn.result.0 c.insert_turns-turn.ensures.inserted in
    ends_held kept s _ ends (idle_room s c.requires.idle)

pub returns-clause-inserted : goal.returns-clause-inserted
returns-clause-inserted g c =
    let r = list_reading _ in
    let s = g.L.Links.seat _ c.args.p.now in
    let u = g.L.Links.seat _ c.let_go.new.p in
    subst (λ (x : Result Bool ListRefused). InsertAnswers r (λ yes. Added s.agent c.args.key yes) c.args.turns s x u) (sym c.answer_of.ensures)
    (turns_answer r c.args.turns c.insert_turns-turn.result.1 s _ u (idle_room s c.requires.idle) c.let_go.ensures.let_go c.args.key 0
    (λ yes. Added s.agent c.args.key yes) c.insert_turns-turn.result.0 c.insert_turns-turn.ensures.inserted)

pub returns-clause-few : goal.returns-clause-few
returns-clause-few g c =
    let (own, puts) = made g (goal.at.returns-clause-few g c).After-insert_turns-turn in
    made_on c.args.turns _ _ _ own puts
    c.let_go.ensures.let_go.puts c.insert_turns-turn.ensures.few

pub returns-clause-off : goal.returns-clause-off
returns-clause-off g c = λ yes.
    let (own, puts) = made g (goal.at.returns-clause-off g c).After-insert_turns-turn in
    let e = c.insert_turns-turn.ensures in
    let h = c.let_go.ensures in
    let (passed, is) = turn_added c.insert_turns-turn.result.0 (sym c.answer_of.ensures ∙ yes) in
    leaves_still _ c.args.key _ _
    _ own puts h.let_go.puts (g.met.L.Links.obeys _ _ e.pass)
    (g.met.L.Links.allowed _ _ h.pass) (e.off passed is)

pub returns-clause-absent : goal.returns-clause-absent
returns-clause-absent g c = λ is.
    let (own, puts) = made g (goal.at.returns-clause-absent g c).After-insert_turns-turn in
    absent_still (list_ordering _) c.args.key _ _
    _ own puts c.let_go.ensures.let_go.puts (g.met.L.Links.allowed _ _ c.let_go.ensures.pass)
    (c.insert_turns-turn.ensures.absent (turn_lacks c.insert_turns-turn.result.0 (sym c.answer_of.ensures ∙ is)))

pub returns-clause-lacking : goal.returns-clause-lacking
returns-clause-lacking g c = λ is.
    let d = c.args.links.now in
    let s = g.L.Links.seat d c.args.p.now in
    let e = c.insert_turns-turn.ensures in
    part_goes_on g.L.Links.agent_of s.agent (g.L.Links.lacking d s.agent) _ _
    _ (λ xs more from to h. g.met.L.Links.lacking_stays d s.agent xs more from to h)
    e.later c.let_go.ensures.later (e.lacking (turn_lacks c.insert_turns-turn.result.0 (sym c.answer_of.ensures ∙ is)))

pub returns-clause-worn : goal.returns-clause-worn
returns-clause-worn g c = λ why is.
    let d = c.args.links.now in
    let s = g.L.Links.seat d c.args.p.now in
    let e = c.insert_turns-turn.ensures in
    part_goes_on g.L.Links.agent_of s.agent (g.L.Links.worn d s.agent why) _ _
    _ (λ xs more from to h. g.met.L.Links.worn_stays d s.agent why xs more from to h)
    e.later c.let_go.ensures.later (e.worn why (turn_worn c.insert_turns-turn.result.0 why (sym c.answer_of.ensures ∙ is)))

pub returns-clause-pass : goal.returns-clause-pass
returns-clause-pass g c = c.let_go.ensures.pass

pub returns-clause-later : goal.returns-clause-later
returns-clause-later g c = goes_on _ _ _ c.insert_turns-turn.ensures.later c.let_go.ensures.later
