-- One turn after another, until one answers.
use Rattle.std.proofs.Common.{[], append-nil, arith, subst, sym, ℕ, ◌∙◌, ◌≡◌}
use Rattle.orc_heap.proofs.Pieces.{goes_on}
use Rattle.orc_heap.specs.Slots.{IsFree, Slots}
use Rattle.orc_cell.specs.Turns.{ReadsOver}
use Rattle.orc_cell.proofs.Pieces.{only_none}
use Rattle.orc_cell.proofs.Reading.{over_next, over_none, over_read}
use Rattle.orc_cell.proofs.read.read_turns.Goals as goal

pub loop-init : goal.loop-init
loop-init g c =
    record { pass = c.requires.pass; later = ([], append-nil _); over = over_none _; still = λ zero. only_none _; tries = omega arith }

pub read_turn-requires : goal.read_turn-requires
read_turn-requires g c =
    let slots = c.loop.invariant.over.only.slots in
    record {
      pass = c.loop.invariant.pass;
      made = c.requires.made;
      slots = (
        subst (λ (z : Slots). IsFree z 1) (sym slots) c.requires.slots.0,
        subst (λ (z : Slots). IsFree z 2) (sym slots) c.requires.slots.1,
      );
    }

pub loop-preserved : goal.loop-preserved
loop-preserved g c =
    let i = c.loop.invariant in
    let e = c.in-None.ensures in
    let over = over_next c.loop.counter _ _ _ i.over e.read in
    record {
      pass = e.pass;
      later = goes_on _ _ _ i.later e.later;
      over = over;
      still = λ zero. absurd (omega (arith, zero));
      tries = omega (arith, i.tries, e.tries);
    }

pub returns-in-Some : goal.returns-in-Some
returns-in-Some g c =
    let i = c.loop.invariant in
    let e = c.in-Some.ensures in
    let some = c.loop-test.true in
    record {
      pass = e.pass;
      later = goes_on _ _ _ i.later e.later;
      tries = omega (arith, i.tries, e.tries, some);
      read = over_read c.loop.counter c.args.turns _ _ _ c.in-Some.parts i.over e.read;
      no_turns = λ zero. absurd (omega (arith, zero, some));
      nothing = λ zero. absurd (omega (arith, zero, some));
    }

pub returns-clause-read : goal.returns-clause-read
returns-clause-read g c =
    let d = c.args.links.now in
    let all : c.loop.counter ≡ c.args.turns = omega (arith, c.loop-test.false, c.loop.auto.counter-end) in
    subst (λ (k : ℕ). ReadsOver k (g.L.Links.seat d c.args.p.now) (g.L.Links.seat d c.loop.p)) all c.loop.invariant.over

pub returns-clause-nothing : goal.returns-clause-nothing
returns-clause-nothing g c =
    let all : c.loop.counter ≡ c.args.turns = omega (arith, c.loop-test.false, c.loop.auto.counter-end) in
    λ zero. c.loop.invariant.still (all ∙ zero)
