-- One turn after another, until one answers.
use Rattle.std.proofs.Common.{Bool, Ok, Result, [], append-nil, arith, false, length, true, refl, subst, sym, Some, ℕ, ◌*◌, ◌+◌, ◌-◌, ◌≡◌, ◌≤◌}
use Rattle.orc_heap.proofs.Pieces.{goes_on}
use Rattle.orc_heap.specs.Slots.{Slots}
use Rattle.orc_ordered_search.specs.Entries.{entry_by}
use Rattle.orc_ordered_search.specs.Searches.{HasRoom}
use Rattle.orc_ordered_search.specs.Turns.{AnswersTurn, Tires}
use Rattle.orc_ordered_search.proofs.Tiring.{tires_answer, tires_next, tires_none}
use Rattle.orc_heap.specs.Journals.{run_heap}
use Rattle.orc_split_rule.specs.SplitDiscipline.{size_of}
use Rattle.orc_split_rule.specs.SplitOrder.{bucket_of, key_place}
use Rattle.orc_split_set.specs.Looks.{HasStart, LoadsFew, ReachesIn, StepsFew, bucket_now, root_loads}
use Rattle.orc_split_set.specs.SplitSearches.{split_reading}
use Rattle.orc_split_set.proofs.Crowding.{own_no_turns, seen_grows}
use Rattle.orc_split_set.proofs.Looking.{few_none, joins_loads, joins_steps, turns_few}
use Rattle.orc_ordered_search.specs.Ways.{AreLoads}
use Rattle.orc_fault.specs.declared.Again.{Again}
use Rattle.orc_split_set.proofs.Passes.{seen_on}
use Rattle.orc_split_set.proofs.FewEvents.{few_parts, few_start, few_wider}
use Rattle.orc_split_set.proofs.answer.call_turns.Goals as goal

pub loop-init : goal.loop-init
loop-init g c =
    record { pass = c.requires.pass; later = ([], append-nil _); tires = tires_none (split_reading _) _; few = λ k low. few_start (6 + 2 * k) (g.L.Links.seat c.args.links.now c.args.p.now) }

pub loop-preserved : goal.loop-preserved
loop-preserved g c =
    let s = g.L.Links.seat c.args.links.now c.args.p.now in
    let t = g.L.Links.seat c.args.links.now c.loop.p in
    let u = g.L.Links.seat c.args.links.now c.call_turn.new.p in
    let i = c.loop.invariant in
    let e = c.in_default.ensures in
    let on = seen_on g.L.Links g.met.L.Links.steps_add g.met.L.Links.seen_is c.args.links.now in
    record {
      pass = e.pass;
      later = goes_on _ _ _ i.later e.later;
      tires = tires_next (split_reading _) c.loop.counter _ _ _ i.tires
          e.answered;
      few = λ k low. few_parts (6 + 2 * k) c.loop.counter 1 0 0 s t u (on c.args.p.now c.loop.p c.requires.pass i.pass i.later)
          (on c.loop.p c.call_turn.new.p i.pass e.pass e.later) (i.few k low) (e.tries k low);
    }

-- what answered true in its last turn
ok_some : (answer : Bool) → ◌≡◌ {A = Result Bool Again} (Ok answer) (Ok true) → Some answer ≡ Some true
ok_some true e = refl
ok_some false e = cc

pub call_turn-requires : goal.call_turn-requires
call_turn-requires g c =
    record {
      room = subst (λ (z : Slots). HasRoom z) (sym c.loop.invariant.tires.slots) c.requires.room;
      pass = c.loop.invariant.pass;
      most = c.requires.most;
    }

pub returns : goal.returns
returns g c =
    record {
      answered = let d = c.args.links.now in
          let all : c.loop.counter ≡ c.args.turns = omega (arith, c.loop-test.false, c.loop.auto.counter-end) in
          subst (λ (k : ℕ). Tires (split_reading (g.L.Links.numbers d)) k (g.L.Links.seat d c.args.p.now) (g.L.Links.seat d c.loop.p)) all c.loop.invariant.tires;
      few = λ asks has many r.
          let n = g.L.Links.numbers _ in
          let s = g.L.Links.seat _ c.args.p.now in
          let t = g.L.Links.seat _ c.loop.p in
          let i = c.loop.invariant in
          few_none (6 + 4 * many - root_loads (bucket_now n c.args.key s)) s t (λ sees. own_no_turns n 0 c.loop.counter s t i.tires.own i.tires.over sees);
      tries = λ k low.
          let s = g.L.Links.seat c.args.links.now c.args.p.now in
          let t = g.L.Links.seat c.args.links.now c.loop.p in
          few_wider (6 + 2 * k) c.loop.counter c.args.turns 0 0 s t (omega (arith, c.loop.auto.counter-end)) (omega arith) (c.loop.invariant.few k low);
      taken = λ removes yes. cc;
      pass = c.loop.invariant.pass;
      later = c.loop.invariant.later;
    }

pub returns-in-Some : goal.returns-in-Some
returns-in-Some g c =
    record {
      answered = let n = g.L.Links.numbers _ in
          let s = g.L.Links.seat _ c.args.p.now in
          let t = g.L.Links.seat _ c.loop.p in
          let u = g.L.Links.seat _ c.call_turn.new.p in
          let i = c.loop.invariant in
          let answer = c.in-Some.answer in
          let last = c.in-Some.ensures.answered in
          let here = subst (λ (x : ℕ). AnswersTurn (split_reading n) (λ yes. entry_by c.args.call x c.args.key yes) t (Some answer) u) i.tires.over.made.puts.agent last in
          ((λ zero. omega (arith, zero, c.loop-test.true)), tires_answer (split_reading n) c.loop.counter s t u (entry_by c.args.call s.agent c.args.key answer) i.tires here);
      few = λ asks has many r.
          let d = c.args.links.now in
          let n = g.L.Links.numbers d in
          let s = g.L.Links.seat d c.args.p.now in
          let t = g.L.Links.seat d c.loop.p in
          let u = g.L.Links.seat d c.call_turn.new.p in
          let i = c.loop.invariant in
          let e = c.in-Some.ensures in
          let grows = seen_grows (g.L.Links.events d) g.L.Links.agent_of (g.met.L.Links.steps_add d) (g.L.Links.journal c.loop.p)
          (g.L.Links.journal c.call_turn.new.p) t u e.later (g.met.L.Links.seen_is d c.loop.p i.pass) (g.met.L.Links.seen_is d c.call_turn.new.p e.pass) in
          let key = c.args.key in
          let most = 6 + 4 * many - root_loads (bucket_now n key s) in
          turns_few n (λ es most. AreLoads es × (length es ≤ most)) joins_loads 0 c.loop.counter most most s t u i.tires.own i.tires.over grows
          (λ seen. subst (λ z. HasStart (run_heap n z) (bucket_of key (size_of n z)) → (m : ℕ)
          → ReachesIn (run_heap n z) (bucket_of key (size_of n z)) (key_place key) m
          → LoadsFew (6 + 4 * m - root_loads (bucket_of key (size_of n z))) t u) seen (e.few asks) has many r) refl;
      tries = λ k low.
          let s = g.L.Links.seat c.args.links.now c.args.p.now in
          let t = g.L.Links.seat c.args.links.now c.loop.p in
          let u = g.L.Links.seat c.args.links.now c.call_turn.new.p in
          let i = c.loop.invariant in
          let e = c.in-Some.ensures in
          let on = seen_on g.L.Links g.met.L.Links.steps_add g.met.L.Links.seen_is c.args.links.now in
          few_wider (6 + 2 * k) (c.loop.counter + 1) c.args.turns 0 0 s u (omega (arith, c.loop-test.true)) (omega arith)
          (few_parts (6 + 2 * k) c.loop.counter 1 0 0 s t u (on c.args.p.now c.loop.p c.requires.pass i.pass i.later)
          (on c.loop.p c.call_turn.new.p i.pass e.pass e.later) (i.few k low) (e.tries k low));
      taken = λ removes yes has many r.
          let d = c.args.links.now in
          let n = g.L.Links.numbers d in
          let s = g.L.Links.seat d c.args.p.now in
          let t = g.L.Links.seat d c.loop.p in
          let u = g.L.Links.seat d c.call_turn.new.p in
          let i = c.loop.invariant in
          let e = c.in-Some.ensures in
          let grows = seen_grows (g.L.Links.events d) g.L.Links.agent_of (g.met.L.Links.steps_add d) (g.L.Links.journal c.loop.p)
          (g.L.Links.journal c.call_turn.new.p) t u e.later (g.met.L.Links.seen_is d c.loop.p i.pass) (g.met.L.Links.seen_is d c.call_turn.new.p e.pass) in
          let key = c.args.key in
          let most = 7 + 4 * many - root_loads (bucket_now n key s) in
          turns_few n (λ es most. length es ≤ most) joins_steps 0 c.loop.counter most most s t u i.tires.own i.tires.over grows
          (λ seen. subst (λ z. HasStart (run_heap n z) (bucket_of key (size_of n z)) → (m : ℕ)
          → ReachesIn (run_heap n z) (bucket_of key (size_of n z)) (key_place key) m
          → StepsFew (7 + 4 * m - root_loads (bucket_of key (size_of n z))) t u) seen (e.taken removes (ok_some c.in-Some.answer yes)) has many r) refl;
      pass = c.in-Some.ensures.pass;
      later = goes_on _ _ _ c.loop.invariant.later c.in-Some.ensures.later;
    }
