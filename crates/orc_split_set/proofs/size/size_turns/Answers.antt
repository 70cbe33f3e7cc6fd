-- One turn after another, until one answers.
use Rattle.std.proofs.Common.{[], append-nil, arith, subst, sym, ℕ, ◌≡◌, ◌≤◌}
use Rattle.orc_heap.proofs.Pieces.{goes_on}
use Rattle.orc_heap.specs.Slots.{Slots}
use Rattle.orc_ordered_search.specs.Searches.{HasRoom}
use Rattle.orc_ordered_search.specs.Turns.{Tires}
use Rattle.orc_ordered_search.proofs.Making.{found_over}
use Rattle.orc_ordered_search.proofs.Tiring.{tires_next, tires_none}
use Rattle.orc_split_set.specs.SplitSearches.{split_reading}
use Rattle.orc_split_set.proofs.Sizes.{size_found}
use Rattle.orc_split_set.proofs.size.size_turns.Goals as goal

pub loop-init : goal.loop-init
loop-init g c =
    record { pass = c.requires.pass; later = ([], append-nil _); tires = tires_none (split_reading _) _; tries = omega arith }

pub loop-preserved : goal.loop-preserved
loop-preserved g c =
    let r = split_reading _ in
    let i = c.loop.invariant in
    let e = c.in_default.ensures in
    record {
      pass = e.pass;
      later = goes_on _ _ _ i.later e.later;
      tires = tires_next r c.loop.counter _ _ _ i.tires (found_over r _ _ e.read);
      tries = omega (arith, i.tries, e.tries);
    }

pub read_size-requires : goal.read_size-requires
read_size-requires g c =
    record {
      room = subst (λ (z : Slots). HasRoom z) (sym c.loop.invariant.tires.slots) c.requires.room;
      pass = c.loop.invariant.pass;
      most = c.requires.most;
    }

pub returns : goal.returns
returns g c =
    record {
      tries = omega (arith, c.loop.invariant.tries, c.loop.auto.counter-end);
      read = let d = c.args.links.now in
          let all : c.loop.counter ≡ c.args.turns = omega (arith, c.loop-test.false, c.loop.auto.counter-end) in
          subst (λ (k : ℕ). Tires (split_reading (g.L.Links.numbers d)) k (g.L.Links.seat d c.args.p.now) (g.L.Links.seat d c.loop.p)) all c.loop.invariant.tires;
      pass = c.loop.invariant.pass;
      later = c.loop.invariant.later;
    }

pub returns-in-Some : goal.returns-in-Some
returns-in-Some g c =
    record {
      read = let all = g.met.L.Links.allowed _ _ c.loop.invariant.pass in
          let some = subst (λ (k : ℕ). 1 ≤ k) c.requires.most.0 c.requires.most.1 in
          ((λ zero. omega (arith, zero, c.loop-test.true)), size_found _ c.loop.counter c.in-Some.size _ _ _ some all c.loop.invariant.tires c.in-Some.ensures.read);
      tries = omega (arith, c.loop.invariant.tries, c.in-Some.ensures.tries, c.loop-test.true);
      pass = c.in-Some.ensures.pass;
      later = goes_on _ _ _ c.loop.invariant.later c.in-Some.ensures.later;
    }
