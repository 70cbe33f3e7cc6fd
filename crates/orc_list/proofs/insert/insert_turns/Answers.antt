-- One turn after another, until one answers.
use Rattle.std.proofs.Common.{List, [], append-nil, arith, subst, true, ℕ, None, ◌+◌, ◌≡◌}
use Rattle.orc_fault.specs.declared.Spent.{Spent as SpentRow}
use Rattle.orc_heap.proofs.Parting.{part_of_next}
use Rattle.orc_heap.proofs.Pieces.{goes_on}
use Rattle.orc_heap.specs.OwnEvents.{Puts}
use Rattle.orc_heap.specs.declared.events.Event.{Event}
use Rattle.orc_history.specs.declared.set.SetEntry.TheVariants.{Added}
use Rattle.orc_chain_rule.specs.declared.chain.ChainNote.{ChainNote}
use Rattle.orc_ordered_search.specs.Inserts.{Inserts, InsertsOn}
use Rattle.orc_ordered_search.specs.declared.turn.InsertTurn.{InsertTurn}
use Rattle.orc_ordered_search.specs.declared.turn.InsertTurn.TheVariants.{Answered, NoNode, Over, Spent}
use Rattle.orc_ordered_search.proofs.Inserting.{inserts_done, inserts_next, inserts_none}
use Rattle.orc_list.specs.Searches.{list_reading}
use Rattle.orc_list.specs.Turns.{MadeFew}
use Rattle.orc_list.proofs.Inserting.{inserts_puts, leaves_next}
use Rattle.orc_ordered_search.proofs.Absent.{absent_next}
use Rattle.orc_list.proofs.Ordered.{list_ordering}
use Rattle.orc_list.proofs.Making.{made_most, made_next, made_none}
use Rattle.orc_list.proofs.insert.insert_turns.Given.{Over as Generics}
use Rattle.orc_list.proofs.insert.insert_turns.Goals.{In_default}
use Rattle.orc_list.proofs.insert.insert_turns.Goals as goal

-- turns that are over neither added the key nor were refused

over_adds : (many : ℕ) → Over ≡ Answered true many → ⊥
over_adds many is = cc

over_lacks : Over ≡ NoNode → ⊥
over_lacks is = cc

over_wears : (why : SpentRow) → Over ≡ Spent why → ⊥
over_wears why is = cc

pub loop-init : goal.loop-init
loop-init g c =
    let d = c.args.links.now in
    record {
      pass = c.requires.pass;
      later = ([], append-nil _);
      on = inserts_none (list_reading (g.L.Links.numbers d)) c.args.key 0 (g.L.Links.seat d c.args.p.now) c.requires.fresh;
      few = made_none (g.L.Links.seat d c.args.p.now);
    }

pub insert_turn-turn-requires : goal.insert_turn-turn-requires
insert_turn-turn-requires g c =
    let i = c.loop.invariant in
    record { pass = i.pass; root = c.requires.root; keeps = ((g.L.Links.seat _ c.args.p.now).slots, c.requires.room, i.on.keeps) }

pub loop-preserved : goal.loop-preserved
loop-preserved g c =
    let n = g.L.Links.numbers _ in
    let s = g.L.Links.seat _ c.args.p.now in
    let t = g.L.Links.seat _ c.loop.p in
    let u = g.L.Links.seat _ c.insert_turn-turn.new.p in
    let i = c.loop.invariant in
    let e = c.insert_turn-turn.ensures in
    let kept = c.insert_turn-turn.result.1 in
    let over = subst (λ (turn : InsertTurn). Inserts (list_reading n) c.args.key 0 (λ yes. Added t.agent c.args.key yes) 1 s.slots c.loop.node t turn kept u)
    c.in-Over.is (e.inserted s.slots c.requires.room i.on.keeps) in
    record {
      pass = e.pass;
      later = goes_on _ _ _ i.later e.later;
      on = inserts_next (list_reading n) c.args.key 0 c.loop.counter c.loop.node kept s t u i.on over;
      few = made_next c.loop.counter s t u i.on.own over.own i.on.over.made.puts over.over.made.puts i.few e.few;
    }

-- what the last turn made
last : (g : Generics) (c : In_default g) → let d = c.args.links.now in
    (own : List (Event ChainNote)) × Puts (g.L.Links.seat d c.loop.p) own (g.L.Links.seat d c.insert_turn-turn.new.p)
last g c =
    let t = g.L.Links.seat _ c.loop.p in
    let s = g.L.Links.seat _ c.args.p.now in
    inserts_puts _ c.args.key 1 (λ yes. Added t.agent c.args.key yes) s.slots c.loop.node c.insert_turn-turn.result.1 t
    _ c.insert_turn-turn.result.0
    (c.insert_turn-turn.ensures.inserted s.slots c.requires.room c.loop.invariant.on.keeps)

pub returns-in_default-clause-inserted : goal.returns-in_default-clause-inserted
returns-in_default-clause-inserted g c =
    let r = list_reading _ in
    let s = g.L.Links.seat _ c.args.p.now in
    let t = g.L.Links.seat _ c.loop.p in
    let u = g.L.Links.seat _ c.insert_turn-turn.new.p in
    let i = c.loop.invariant in
    let kept = c.insert_turn-turn.result.1 in
    let turn = c.insert_turn-turn.result.0 in
    let here = subst (λ (x : ℕ). Inserts r c.args.key 0 (λ yes. Added x c.args.key yes) 1 s.slots c.loop.node t turn kept u) i.on.over.made.puts.agent
    (c.insert_turn-turn.ensures.inserted s.slots c.requires.room i.on.keeps) in
    inserts_done r c.args.key 0 c.loop.counter c.loop.node kept s t u i.on (λ yes. Added s.agent c.args.key yes) c.args.turns turn here c.in_default.not-Over
    (omega (arith, c.loop-test.true))

pub returns-in_default-clause-few : goal.returns-in_default-clause-few
returns-in_default-clause-few g c =
    let d = c.args.links.now in
    let s = g.L.Links.seat d c.args.p.now in
    let t = g.L.Links.seat d c.loop.p in
    let u = g.L.Links.seat d c.insert_turn-turn.new.p in
    let i = c.loop.invariant in
    let (own, puts) = last g (goal.at.returns-in_default-clause-few g c).In_default in
    made_most (c.loop.counter + 1) c.args.turns s u
    (made_next c.loop.counter s t u i.on.own own i.on.over.made.puts puts i.few c.insert_turn-turn.ensures.few) (omega (arith, c.loop-test.true))

pub returns-in_default-clause-off : goal.returns-in_default-clause-off
returns-in_default-clause-off g c = λ many is.
    let i = c.loop.invariant in
    let (own, puts) = last g (goal.at.returns-in_default-clause-off g c).In_default in
    leaves_next _ c.args.key _ _ _
    i.on.own i.on.over.made.puts own puts (c.insert_turn-turn.ensures.off many is)

pub returns-in_default-clause-absent : goal.returns-in_default-clause-absent
returns-in_default-clause-absent g c = λ is.
    let i = c.loop.invariant in
    let (own, puts) = last g (goal.at.returns-in_default-clause-absent g c).In_default in
    absent_next (list_ordering _) c.args.key _ _ _
    i.on.own i.on.over.made.puts own puts (c.insert_turn-turn.ensures.absent is)

pub returns-in_default-clause-lacking : goal.returns-in_default-clause-lacking
returns-in_default-clause-lacking g c = λ is.
    let i = c.loop.invariant in
    let e = c.insert_turn-turn.ensures in
    part_of_next g.L.Links _ c.args.p.now c.loop.p c.insert_turn-turn.new.p i.on.over.made.puts.agent i.later e.later (g.L.Links.lacking _) (e.lacking is)

pub returns-in_default-clause-worn : goal.returns-in_default-clause-worn
returns-in_default-clause-worn g c = λ why is.
    let d = c.args.links.now in
    let i = c.loop.invariant in
    let e = c.insert_turn-turn.ensures in
    part_of_next g.L.Links d c.args.p.now c.loop.p c.insert_turn-turn.new.p i.on.over.made.puts.agent i.later e.later (λ agent. g.L.Links.worn d agent why)
    (e.worn why is)

pub returns-clause-inserted : goal.returns-clause-inserted
returns-clause-inserted g c =
    let d = c.args.links.now in
    let s = g.L.Links.seat d c.args.p.now in
    let all : c.loop.counter ≡ c.args.turns = omega (arith, c.loop-test.false, c.loop.auto.counter-end) in
    subst (λ (k : ℕ). InsertsOn (list_reading (g.L.Links.numbers d)) c.args.key 0 k s.slots None c.loop.node s (g.L.Links.seat d c.loop.p)) all
    c.loop.invariant.on

pub returns-clause-few : goal.returns-clause-few
returns-clause-few g c =
    let d = c.args.links.now in
    let all : c.loop.counter ≡ c.args.turns = omega (arith, c.loop-test.false, c.loop.auto.counter-end) in
    subst (λ (k : ℕ). MadeFew k (g.L.Links.seat d c.args.p.now) (g.L.Links.seat d c.loop.p)) all c.loop.invariant.few

pub returns-in_default-clause-pass : goal.returns-in_default-clause-pass
returns-in_default-clause-pass g c = c.insert_turn-turn.ensures.pass

pub returns-in_default-clause-later : goal.returns-in_default-clause-later
returns-in_default-clause-later g c = goes_on _ _ _ c.loop.invariant.later c.insert_turn-turn.ensures.later

pub returns-clause-pass : goal.returns-clause-pass
returns-clause-pass g c = c.loop.invariant.pass

pub returns-clause-later : goal.returns-clause-later
returns-clause-later g c = c.loop.invariant.later

pub returns-clause-off : goal.returns-clause-off
returns-clause-off g c = λ many is. absurd (over_adds many is)

pub returns-clause-absent : goal.returns-clause-absent
returns-clause-absent g c = λ is. absurd (over_lacks is)

pub returns-clause-lacking : goal.returns-clause-lacking
returns-clause-lacking g c = λ is. absurd (over_lacks is)

pub returns-clause-worn : goal.returns-clause-worn
returns-clause-worn g c = λ why is. absurd (over_wears why is)
