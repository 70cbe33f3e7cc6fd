-- One turn after another, until one answers.
use Rattle.std.proofs.Common.{[], append-nil, arith, subst, ℕ, None, ◌*◌, ◌+◌, ◌≡◌}
use Rattle.orc_heap.specs.Moves.{gives_in}
use Rattle.orc_ordered_search.specs.Turns.{made_from}
use Rattle.orc_heap.proofs.Pieces.{goes_on}
use Rattle.orc_history.specs.declared.set.SetEntry.TheVariants.{Added}
use Rattle.orc_ordered_search.specs.Inserts.{Inserts, InsertsOn}
use Rattle.orc_ordered_search.specs.declared.turn.InsertTurn.{InsertTurn}
use Rattle.orc_ordered_search.proofs.Inserting.{inserts_done, inserts_next, inserts_none}
use Rattle.orc_heap.proofs.Parting.{part_of_next}
use Rattle.orc_split_set.specs.SplitSearches.{split_reading}
use Rattle.orc_ordered_search.proofs.Absent.{absent_next}
use Rattle.orc_split_rule.specs.SplitOrder.{key_place}
use Rattle.orc_split_set.proofs.Ordered.{split_ordering}
use Rattle.orc_split_set.proofs.Crowding.{seen_grows, turns_count}
use Rattle.orc_split_set.proofs.Passes.{seen_on}
use Rattle.orc_split_set.proofs.FewEvents.{few_giving, few_start, few_wider}
use Rattle.orc_split_set.proofs.insert.insert_turns.Goals as goal

pub loop-init : goal.loop-init
loop-init g c =
    let s = g.L.Links.seat c.args.links.now c.args.p.now in
    record {
      pass = c.requires.pass;
      later = ([], append-nil _);
      on = inserts_none (split_reading _) c.args.key 1 _
          c.requires.fresh;
      few = λ k low. few_wider (6 + 2 * k) 0 0 0 (3 * gives_in (made_from s s)) s s (omega arith) (omega arith) (few_start (6 + 2 * k) s);
    }

pub loop-preserved : goal.loop-preserved
loop-preserved g c =
    let n = g.L.Links.numbers _ in
    let s = g.L.Links.seat _ c.args.p.now in
    let t = g.L.Links.seat _ c.loop.p in
    let u = g.L.Links.seat _ c.insert_turn-turn.new.p in
    let i = c.loop.invariant in
    let e = c.insert_turn-turn.ensures in
    let kept = c.insert_turn-turn.result.1 in
    let on = seen_on g.L.Links g.met.L.Links.steps_add g.met.L.Links.seen_is c.args.links.now in
    let over = subst (λ (turn : InsertTurn). Inserts (split_reading n) c.args.key 1 (λ answer. Added t.agent c.args.key answer) 1 s.slots c.loop.node t turn kept u) c.in-Over.is
    (e.inserted s.slots c.requires.room i.on.keeps) in
    record {
      pass = e.pass;
      later = goes_on _ _ _ i.later e.later;
      on = inserts_next (split_reading n) c.args.key 1 c.loop.counter c.loop.node kept s t u i.on over;
      few = λ k low. few_giving (6 + 2 * k) c.loop.counter 1 s t u (on c.args.p.now c.loop.p c.requires.pass i.pass i.later)
          (on c.loop.p c.insert_turn-turn.new.p i.pass e.pass e.later) (i.few k low) (e.tries k low);
    }

pub insert_turn-turn-requires : goal.insert_turn-turn-requires
insert_turn-turn-requires g c =
    record {
      keeps = ((g.L.Links.seat _ c.args.p.now).slots, c.requires.room, c.loop.invariant.on.keeps);
      pass = c.loop.invariant.pass;
      most = c.requires.most;
    }

pub returns-in_default : goal.returns-in_default
returns-in_default g c =
    record {
      inserted = let n = g.L.Links.numbers _ in
          let s = g.L.Links.seat _ c.args.p.now in
          let t = g.L.Links.seat _ c.loop.p in
          let u = g.L.Links.seat _ c.insert_turn-turn.new.p in
          let i = c.loop.invariant in
          let e = c.insert_turn-turn.ensures in
          let kept = c.insert_turn-turn.result.1 in
          let turn = c.insert_turn-turn.result.0 in
          let last = e.inserted s.slots c.requires.room i.on.keeps in
          let here = subst (λ (x : ℕ). Inserts (split_reading n) c.args.key 1 (λ answer. Added x c.args.key answer) 1 s.slots c.loop.node t turn kept u)
          i.on.over.made.puts.agent last in
          inserts_done (split_reading n) c.args.key 1 c.loop.counter c.loop.node kept s t u i.on (λ answer. Added s.agent c.args.key answer) c.args.turns turn here
          c.in_default.not-Over (omega (arith, c.loop-test.true));
      lacking = λ is.
          let i = c.loop.invariant in
          let e = c.insert_turn-turn.ensures in
          part_of_next g.L.Links _ c.args.p.now c.loop.p c.insert_turn-turn.new.p i.on.over.made.puts.agent i.later e.later (g.L.Links.lacking _) (e.lacking is);
      worn = λ why is.
          let d = c.args.links.now in
          let i = c.loop.invariant in
          let e = c.insert_turn-turn.ensures in
          part_of_next g.L.Links d c.args.p.now c.loop.p c.insert_turn-turn.new.p i.on.over.made.puts.agent i.later e.later (λ agent. g.L.Links.worn d agent why)
          (e.worn why is);
      counted = λ many is.
          let d = c.args.links.now in
          let n = g.L.Links.numbers d in
          let s = g.L.Links.seat d c.args.p.now in
          let t = g.L.Links.seat d c.loop.p in
          let u = g.L.Links.seat d c.insert_turn-turn.new.p in
          let i = c.loop.invariant in
          let e = c.insert_turn-turn.ensures in
          let grows = seen_grows (g.L.Links.events d) g.L.Links.agent_of (g.met.L.Links.steps_add d) (g.L.Links.journal c.loop.p)
          (g.L.Links.journal c.insert_turn-turn.new.p) t u e.later (g.met.L.Links.seen_is d c.loop.p i.pass)
          (g.met.L.Links.seen_is d c.insert_turn-turn.new.p e.pass) in
          turns_count n c.args.key many i.on.given c.loop.counter s t u i.on.own i.on.over grows (e.counted many is);
      absent = λ is.
          let d = c.args.links.now in
          let n = g.L.Links.numbers d in
          let s = g.L.Links.seat d c.args.p.now in
          let t = g.L.Links.seat d c.loop.p in
          let u = g.L.Links.seat d c.insert_turn-turn.new.p in
          let i = c.loop.invariant in
          let e = c.insert_turn-turn.ensures in
          let ends = subst (λ (turn : InsertTurn). Inserts (split_reading n) c.args.key 1 (λ answer. Added t.agent c.args.key answer) 1 s.slots c.loop.node t turn
          c.insert_turn-turn.result.1 u) is (e.inserted s.slots c.requires.room i.on.keeps) in
          absent_next (split_ordering n) (key_place c.args.key) s t u i.on.own i.on.over.made.puts ends.0 ends.1.made.puts (e.absent is);
      tries = λ k low.
          let s = g.L.Links.seat c.args.links.now c.args.p.now in
          let t = g.L.Links.seat c.args.links.now c.loop.p in
          let u = g.L.Links.seat c.args.links.now c.insert_turn-turn.new.p in
          let i = c.loop.invariant in
          let e = c.insert_turn-turn.ensures in
          let on = seen_on g.L.Links g.met.L.Links.steps_add g.met.L.Links.seen_is c.args.links.now in
          few_wider (6 + 2 * k) (c.loop.counter + 1) c.args.turns (3 * gives_in (made_from s u)) (3 * gives_in (made_from s u)) s u (omega (arith, c.loop-test.true)) (omega arith)
          (few_giving (6 + 2 * k) c.loop.counter 1 s t u (on c.args.p.now c.loop.p c.requires.pass i.pass i.later)
          (on c.loop.p c.insert_turn-turn.new.p i.pass e.pass e.later) (i.few k low) (e.tries k low));
      pass = c.insert_turn-turn.ensures.pass;
      later = goes_on _ _ _ c.loop.invariant.later c.insert_turn-turn.ensures.later;
    }

pub returns : goal.returns
returns g c =
    record {
      inserted = let d = c.args.links.now in
          let s = g.L.Links.seat d c.args.p.now in
          let all : c.loop.counter ≡ c.args.turns = omega (arith, c.loop-test.false, c.loop.auto.counter-end) in
          subst (λ (k : ℕ). InsertsOn (split_reading (g.L.Links.numbers d)) c.args.key 1 k s.slots None c.loop.node s (g.L.Links.seat d c.loop.p)) all c.loop.invariant.on;
      tries = λ k low.
          let s = g.L.Links.seat c.args.links.now c.args.p.now in
          let t = g.L.Links.seat c.args.links.now c.loop.p in
          few_wider (6 + 2 * k) c.loop.counter c.args.turns (3 * gives_in (made_from s t)) (3 * gives_in (made_from s t)) s t (omega (arith, c.loop.auto.counter-end)) (omega arith) (c.loop.invariant.few k low);
      pass = c.loop.invariant.pass;
      later = c.loop.invariant.later;
      counted = λ many is. cc;
      absent = λ is. cc;
      lacking = λ is. cc;
      worn = λ why is. cc;
    }
