-- The pair is given, published and let go.
use Rattle.std.proofs.Common.{arith, inl, inr, refl, subst, sym}
use Rattle.orc_heap.proofs.Pieces.{goes_on}
use Rattle.orc_heap.specs.Slots.{Holds, Slots}
use Rattle.orc_fault.specs.declared.NoNode.{NoNode}
use Rattle.orc_cell.specs.Publishes.{given_of}
use Rattle.orc_cell.proofs.Answering.{pair_done, pair_fresh, pair_lacking, pair_over, pair_spent, side_given, slot_given, given_slots}
use Rattle.orc_cell.proofs.Staging.{err_of, err_within, within_call}
use Rattle.orc_cell.proofs.Counting.{made}
use Rattle.orc_cell.proofs.with_pair.publish_pair.Goals as goal

pub publish_given-turn-requires : goal.publish_given-turn-requires
publish_given-turn-requires g c =
    let e = c.in-Ok.ensures in
    let all = g.met.L.Links.allowed _ _ e.pass in
    let free = c.requires.slots.0 in
    record {
      pass = e.pass;
      made = c.requires.made;
      fresh = pair_fresh _ _ _ _ free e.given all;
      left = side_given _ _ _ _ free e.given all 1 c.args.left.now (λ i. inl refl) c.requires.left;
      right = side_given _ _ _ _ free e.given all 2 c.args.right.now (λ i. inr refl) c.requires.right;
      slots = (
        slot_given _ _ _ _ free e.given all 4 (λ k. omega (arith, k)) c.requires.slots.1,
        slot_given _ _ _ _ free e.given all 5 (λ k. omega (arith, k)) c.requires.slots.2,
      );
    }

pub returns-in-Published-clause-answered : goal.returns-in-Published-clause-answered
returns-in-Published-clause-answered g c =
    let e = c.in-Ok.ensures in
    pair_done _ _ _ _ c.requires.slots.0 e.given (g.met.L.Links.allowed _ _ e.pass) _ _ c.release.ensures.released
    (g.met.L.Links.allowed _ _ c.release.ensures.pass) (given_of c.args.left.now) (given_of c.args.right.now) c.in-Published.x
    c.in-Published.y c.in-Published.ensures.published

pub returns-in-Over-clause-answered : goal.returns-in-Over-clause-answered
returns-in-Over-clause-answered g c =
    let e = c.in-Ok.ensures in
    pair_over _ _ _ _ c.requires.slots.0 e.given (g.met.L.Links.allowed _ _ e.pass) _ _ c.release.ensures.released
    (g.met.L.Links.allowed _ _ c.release.ensures.pass) c.args.turns c.in-Over.ensures.published

pub returns-in-Published-clause-tries : goal.returns-in-Published-clause-tries
returns-in-Published-clause-tries g c =
    omega (arith, made c.in-Ok.ensures.given.puts, c.publish_given-turn.ensures.tries, made c.release.ensures.released.puts)

pub returns-in-Over-clause-tries : goal.returns-in-Over-clause-tries
returns-in-Over-clause-tries g c =
    omega (arith, made c.in-Ok.ensures.given.puts, c.publish_given-turn.ensures.tries, made c.release.ensures.released.puts)

pub release-requires : goal.release-requires
release-requires g c =
    record {
      held = let e = c.in-Ok.ensures in
          let f = pair_fresh _ _ _ _ c.requires.slots.0 e.given (g.met.L.Links.allowed _ _ e.pass) in
          let same = given_slots _ _ _ _ _ _ _ c.publish_given-turn.result c.publish_given-turn.ensures.published in
          subst (λ (z : Slots). Holds z c.in-Ok.pair) (sym same) f.held;
      pass = c.publish_given-turn.ensures.pass;
    }

pub returns-in-Err : goal.returns-in-Err
returns-in-Err g c =
    record {
      answered = pair_lacking _ 1 _ _ (omega arith) c.requires.no_fresh c.in-Err.ensures.none
          (g.met.L.Links.allowed _ _ c.in-Err.ensures.pass);
      refused = let d = c.args.links.now in
          let Fact = λ (e : NoNode). g.L.Links.lacking d (g.L.Links.seat d c.args.p.now).agent (g.L.Links.journal c.give.new.p) in
          err_of _ c.in-Err.is (err_within g.L.Links d c.args.p.now c.give.new.p c.give.result Fact c.give.ensures.later c.give.ensures.lacking);
      tries = omega (arith, made c.in-Err.ensures.none.puts);
      pass = c.in-Err.ensures.pass;
      later = c.in-Err.ensures.later;
    }

pub returns-in-Published-clause-pass : goal.returns-in-Published-clause-pass
returns-in-Published-clause-pass g c = c.release.ensures.pass

pub returns-in-Published-clause-later : goal.returns-in-Published-clause-later
returns-in-Published-clause-later g c = goes_on _ _ _ c.in-Ok.ensures.later (goes_on _ _ _ c.publish_given-turn.ensures.later c.release.ensures.later)

pub returns-in-Over-clause-pass : goal.returns-in-Over-clause-pass
returns-in-Over-clause-pass g c = c.release.ensures.pass

pub returns-in-Over-clause-later : goal.returns-in-Over-clause-later
returns-in-Over-clause-later g c = goes_on _ _ _ c.in-Ok.ensures.later (goes_on _ _ _ c.publish_given-turn.ensures.later c.release.ensures.later)

pub returns-in-Spent : goal.returns-in-Spent
returns-in-Spent g c =
    record {
      answered = let e = c.in-Ok.ensures in
          pair_spent _ _ _ _ c.requires.slots.0 e.given (g.met.L.Links.allowed _ _ e.pass) _ _ c.release.ensures.released
          (g.met.L.Links.allowed _ _ c.release.ensures.pass) c.in-Spent.ensures.published;
      refused = let d = c.args.links.now in
          let why = c.in-Spent.spent in
          within_call g.L.Links d c.args.p.now c.give.new.p c.publish_given-turn.new.p c.release.new.p (λ who. g.L.Links.worn d who why)
          (λ who. g.met.L.Links.worn_stays d who why) c.in-Ok.ensures.given.puts.agent c.in-Ok.ensures.later c.release.ensures.later
          (c.publish_given-turn.ensures.worn why c.in-Spent.is);
      tries = omega (arith, made c.in-Ok.ensures.given.puts, c.publish_given-turn.ensures.tries, made c.release.ensures.released.puts);
      pass = c.release.ensures.pass;
      later = goes_on _ _ _ c.in-Ok.ensures.later (goes_on _ _ _ c.publish_given-turn.ensures.later c.release.ensures.later);
    }
