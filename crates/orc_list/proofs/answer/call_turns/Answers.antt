-- One turn after another, until one answers.
use Rattle.std.proofs.Common.{Bool, Err, Ok, Result, [], append-nil, arith, subst, sym, true, Some, ℕ, ◌≡◌, ◌+◌}
use Rattle.orc_heap.proofs.Pieces.{goes_on}
use Rattle.orc_heap.specs.Slots.{Slots}
use Rattle.orc_ordered_search.specs.Causes.{HasWorn}
use Rattle.orc_ordered_search.specs.Entries.{entry_by}
use Rattle.orc_ordered_search.specs.Searches.{HasRoom}
use Rattle.orc_ordered_search.specs.Turns.{AnswersTurn, Tires}
use Rattle.orc_ordered_search.proofs.Marking.{worn_wider}
use Rattle.orc_ordered_search.proofs.Tiring.{tires_answer, tires_next, tires_none}
use Rattle.orc_list.specs.Searches.{list_reading}
use Rattle.orc_list.specs.Turns.{MadeFew}
use Rattle.orc_list.proofs.Making.{made_most, made_next, made_none, ok_some}
use Rattle.orc_list.proofs.Tiring.{takes_next}
use Rattle.orc_list.proofs.answer.call_turns.Goals as goal

-- turns that are over gave no answer
err_yes : {E : Type 0} (e : E) → ◌≡◌ {A = Result Bool E} (Err e) (Ok true) → ⊥
err_yes e is = cc

pub loop-init : goal.loop-init
loop-init g c =
    let d = c.args.links.now in
    let s = g.L.Links.seat d c.args.p.now in
    record { pass = c.requires.pass; later = ([], append-nil _); tires = tires_none (list_reading (g.L.Links.numbers d)) s; few = made_none s }

pub loop-preserved : goal.loop-preserved
loop-preserved g c =
    let i = c.loop.invariant in
    let e = c.in_default.ensures in
    record {
      pass = e.pass;
      later = goes_on _ _ _ i.later e.later;
      tires = tires_next (list_reading _) c.loop.counter _ _ _ i.tires e.answered;
      few = made_next c.loop.counter _ _ _ i.tires.own e.answered.own i.tires.over.made.puts e.answered.over.made.puts i.few e.few;
    }

pub call_turn-requires : goal.call_turn-requires
call_turn-requires g c =
    let i = c.loop.invariant in
    record { pass = i.pass; root = c.requires.root; room = subst (λ (z : Slots). HasRoom z) (sym i.tires.slots) c.requires.room }

pub returns-in-Some-clause-pass : goal.returns-in-Some-clause-pass
returns-in-Some-clause-pass g c = c.in-Some.ensures.pass

pub returns-in-Some-clause-later : goal.returns-in-Some-clause-later
returns-in-Some-clause-later g c = goes_on _ _ _ c.loop.invariant.later c.in-Some.ensures.later

pub returns-in-Some-clause-answered : goal.returns-in-Some-clause-answered
returns-in-Some-clause-answered g c =
    let r = list_reading _ in
    let s = g.L.Links.seat _ c.args.p.now in
    let t = g.L.Links.seat _ c.loop.p in
    let u = g.L.Links.seat _ c.call_turn.new.p in
    let i = c.loop.invariant in
    let answer = c.in-Some.answer in
    let here = subst (λ (x : ℕ). AnswersTurn r (λ yes. entry_by c.args.call x c.args.key yes) t (Some answer) u) i.tires.over.made.puts.agent
    c.in-Some.ensures.answered in
    ((λ zero. omega (arith, zero, c.loop-test.true)), tires_answer r c.loop.counter s t u (entry_by c.args.call s.agent c.args.key answer) i.tires here)

pub returns-in-Some-clause-few : goal.returns-in-Some-clause-few
returns-in-Some-clause-few g c =
    let d = c.args.links.now in
    let s = g.L.Links.seat d c.args.p.now in
    let t = g.L.Links.seat d c.loop.p in
    let u = g.L.Links.seat d c.call_turn.new.p in
    let i = c.loop.invariant in
    let e = c.in-Some.ensures in
    made_most (c.loop.counter + 1) c.args.turns s u
    (made_next c.loop.counter s t u i.tires.own e.answered.own i.tires.over.made.puts e.answered.made.puts i.few e.few) (omega (arith, c.loop-test.true))

pub returns-in-Some-clause-off : goal.returns-in-Some-clause-off
returns-in-Some-clause-off g c = λ call yes.
    let d = c.args.links.now in
    let s = g.L.Links.seat d c.args.p.now in
    let t = g.L.Links.seat d c.loop.p in
    let i = c.loop.invariant in
    let e = c.in-Some.ensures in
    let j = g.L.Links.journal c.args.p.now in
    let k = g.L.Links.journal c.loop.p in
    let l = g.L.Links.journal c.call_turn.new.p in
    takes_next _ c.args.key (HasWorn (g.L.Links.worn d t.agent) k l) _ s t _ i.tires.own e.answered.own i.tires.over.made.puts
    e.answered.made.puts (λ w. worn_wider (g.L.Links.worn d) s.agent t.agent j k l l
    (λ why xs more from to h. g.met.L.Links.worn_stays d s.agent why xs more from to h) i.tires.over.made.puts.agent i.later ([], append-nil l) w)
    (e.off call (ok_some c.in-Some.answer yes))

pub returns-clause-answered : goal.returns-clause-answered
returns-clause-answered g c =
    let d = c.args.links.now in
    let all : c.loop.counter ≡ c.args.turns = omega (arith, c.loop-test.false, c.loop.auto.counter-end) in
    subst (λ (k : ℕ). Tires (list_reading (g.L.Links.numbers d)) k (g.L.Links.seat d c.args.p.now) (g.L.Links.seat d c.loop.p)) all c.loop.invariant.tires

pub returns-clause-few : goal.returns-clause-few
returns-clause-few g c =
    let d = c.args.links.now in
    let all : c.loop.counter ≡ c.args.turns = omega (arith, c.loop-test.false, c.loop.auto.counter-end) in
    subst (λ (k : ℕ). MadeFew k (g.L.Links.seat d c.args.p.now) (g.L.Links.seat d c.loop.p)) all c.loop.invariant.few

pub returns-clause-pass : goal.returns-clause-pass
returns-clause-pass g c = c.loop.invariant.pass

pub returns-clause-later : goal.returns-clause-later
returns-clause-later g c = c.loop.invariant.later

pub returns-clause-off : goal.returns-clause-off
returns-clause-off g c = λ call yes. absurd (err_yes _ yes)
