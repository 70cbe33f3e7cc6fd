-- The left part is made ready, and let go at the end.
use Rattle.std.proofs.Common.{ap, arith, inl, inr, subst, sym, ℕ, ◌*◌, ◌+◌, ◌∙◌, ◌≢◌}
use Rattle.orc_heap.proofs.Pieces.{goes_on}
use Rattle.orc_cell.specs.Publishes.{SideHeld, given_of, nodes_for}
use Rattle.orc_cell.proofs.Answering.{answers_join, caused_call, pair_lacking, ready_agent, ready_fresh, ready_held, ready_null, ready_published, ready_slot, ready_answered}
use Rattle.orc_cell.proofs.Counting.{made}
use Rattle.orc_cell.proofs.with_pair.publish_both.Goals as goal

pub ready-requires-clause-staging : goal.ready-requires-clause-staging
ready-requires-clause-staging g c = inl c.requires.roots.0

pub publish_right-answer-requires : goal.publish_right-answer-requires
publish_right-answer-requires g c =
    let e = c.in-Ok.ensures in
    let all = g.met.L.Links.allowed _ _ e.pass in
    let free = c.requires.slots.0 in
    let n = g.L.Links.numbers _ in
    let a = g.L.Links.seat _ c.ready.new.p in
    let agent = ready_agent n 1 c.args.roots.0 _ a c.in-Ok.part e.ready in
    let ne : c.args.roots.1 ≢ c.args.roots.0 = λ z. omega (arith, z, c.requires.roots.0, c.requires.roots.1) in
    let slot = ready_slot n 1 c.args.roots.0 _ a c.in-Ok.part free e.ready in
    record {
      pass = e.pass;
      made = c.requires.made;
      no_fresh = ready_fresh n 1 c.args.roots.0 _ a c.in-Ok.part c.requires.no_fresh e.ready;
      root = c.requires.roots.1 ∙ ap (λ (i : ℕ). 2 + 2 * i) (sym agent);
      there = c.requires.there.1;
      null = ready_null n 1 c.args.roots.0 c.args.roots.1 _ a c.in-Ok.part all (inr c.requires.roots.1) ne e.ready c.requires.null.1;
      left = subst (λ (i : ℕ). SideHeld n i c.in-Ok.part a) (c.requires.roots.0 ∙ ap (λ (i : ℕ). 1 + 2 * i) (sym agent))
          (ready_held n 1 c.args.roots.0 _ a c.in-Ok.part free e.ready);
      published = λ none full. ready_published n 1 c.args.roots.0 _ a c.in-Ok.part all e.ready (c.requires.right_published none full);
      slots = (
        slot 2 (λ k. omega (arith, k)) c.requires.slots.1,
        slot 3 (λ k. omega (arith, k)) c.requires.slots.2,
        slot 4 (λ k. omega (arith, k)) c.requires.slots.3,
        slot 5 (λ k. omega (arith, k)) c.requires.slots.4,
      );
    }

pub let_go-requires : goal.let_go-requires
let_go-requires g c =
    let x = c.publish_right-answer.ensures in
    let (own, held, fresh) = ready_answered _ 1 c.args.roots.0 (1 + nodes_for c.args.right.0 c.args.right.1) c.args.turns _ _ _
    _ _ c.in-Ok.part c.publish_right-answer.result c.requires.slots.0 (inl c.requires.roots.0)
    c.in-Ok.ensures.ready (g.met.L.Links.allowed _ _ x.pass) x.answered in
    record { pass = x.pass; there = c.requires.there.0; staging = own; held = held; no_fresh = fresh }

pub returns-in-Err-clause-answered : goal.returns-in-Err-clause-answered
returns-in-Err-clause-answered g c =
    pair_lacking _ _ _ _ (omega arith) c.requires.no_fresh c.in-Err.ensures.none
    (g.met.L.Links.allowed _ _ c.in-Err.ensures.pass)

pub returns-in-Err-clause-tries : goal.returns-in-Err-clause-tries
returns-in-Err-clause-tries g c = omega (arith, made c.in-Err.ensures.none.puts)

pub returns-in-Err-clause-pass : goal.returns-in-Err-clause-pass
returns-in-Err-clause-pass g c = c.in-Err.ensures.pass

pub returns-in-Err-clause-later : goal.returns-in-Err-clause-later
returns-in-Err-clause-later g c = c.in-Err.ensures.later

pub returns : goal.returns
returns g c =
    record {
      answered = let e = c.in-Ok.ensures in
          rw (← e.count, ← e.given) (answers_join (g.L.Links.numbers _) 1 c.args.roots.0 (1 + nodes_for c.args.right.0 c.args.right.1) c.args.turns
          (given_of c.in-Ok.part) c.args.right.0 (g.L.Links.seat _ c.args.p.now) _ _ (g.L.Links.seat _ c.let_go.new.p) c.in-Ok.part
          c.publish_right-answer.result c.requires.slots.0 (inl c.requires.roots.0) c.requires.null.0 c.requires.no_fresh e.ready
          c.publish_right-answer.ensures.answered c.let_go.ensures.gone (g.met.L.Links.allowed _ _ e.pass)
          (g.met.L.Links.allowed _ _ c.let_go.ensures.pass));
      refused = caused_call g.L.Links _ c.args.p.now c.ready.new.p c.publish_right-answer.new.p c.let_go.new.p (g.met.L.Links.lacking_stays _) (g.met.L.Links.worn_stays _)
          (ready_agent _ 1 c.args.roots.0 _ _ c.in-Ok.part c.in-Ok.ensures.ready) c.in-Ok.ensures.later c.let_go.ensures.later c.publish_right-answer.result
          c.publish_right-answer.ensures.refused;
      tries = rw (← c.in-Ok.ensures.given) (omega (arith, c.in-Ok.ensures.tries, c.publish_right-answer.ensures.tries, c.let_go.ensures.tries));
      pass = c.let_go.ensures.pass;
      later = goes_on _ _ _ c.in-Ok.ensures.later (goes_on _ _ _ c.publish_right-answer.ensures.later c.let_go.ensures.later);
    }
