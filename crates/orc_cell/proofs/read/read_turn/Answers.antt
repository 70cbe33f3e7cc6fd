-- What the look of root 0 found, and what came of it.
use Rattle.std.proofs.Common.{arith, refl, subst, sym}
use Rattle.orc_heap.proofs.Pieces.{goes_on}
use Rattle.orc_heap.proofs.ByAnswer.{Looks-held, Looks-null}
use Rattle.orc_heap.proofs.Pieces.{slot_free, slot_holds, slot_id}
use Rattle.orc_heap.specs.Heap.{null}
use Rattle.orc_heap.specs.Seats.{heap_of}
use Rattle.orc_heap.specs.Slots.{Holds, Slots}
use Rattle.orc_heap.specs.declared.events.Place.TheVariants.{Root}
use Rattle.orc_pairs_rule.proofs.Coming.{seen_null}
use Rattle.orc_cell.specs.Turns.{IsPairOf, ReadsPair}
use Rattle.orc_cell.proofs.Looking.{HoldsPair, RootNull, root_held, root_null}
use Rattle.orc_cell.proofs.Others.{looks_differ_by_others}
use Rattle.orc_cell.proofs.Pieces.{pass_known}
use Rattle.orc_cell.proofs.Reading.{confirmed, null_over, null_seen, pair_slots, turn_read}
use Rattle.orc_cell.proofs.read.read_turn.Given.{Over}
use Rattle.orc_cell.proofs.read.read_turn.Goals.{In-Stable-default-None, In-Stable-default-Some}
use Rattle.orc_cell.proofs.Counting.{looked_few, made}
use Rattle.orc_cell.proofs.read.read_turn.Goals as goal

pub look-requires-clause-place : goal.look-requires-clause-place
look-requires-clause-place g c = omega (arith, c.requires.made.roots)

-- it found a pair
found : (g : Over) (c : In-Stable-default-Some g) → let d = c.args.links.now in
    HoldsPair (g.L.Links.numbers d) 1 (g.L.Links.seat d c.args.p.now) c.in-Stable-default-Some.pair (g.L.Links.seat d c.look.new.p)
found g c =
    let e = c.in-Stable-default-Some.ensures in
    let known = pass_known g.L.Links g.met.L.Links.obeys g.met.L.Links.allowed _ _ c.requires.pass in
    root_held _ _ _ 1 _ _ known (g.met.L.Links.allowed _ _ e.pass) (Looks-held {place = Root 0} e.looked c.in-Stable-default-Some.field-1-is)

-- it found null
ended : (g : Over) (c : In-Stable-default-None g) → let d = c.args.links.now in
    RootNull (g.L.Links.numbers d) (g.L.Links.seat d c.args.p.now) (g.L.Links.seat d c.look.new.p)
ended g c =
    let e = c.in-Stable-default-None.ensures in
    let known = pass_known g.L.Links g.met.L.Links.obeys g.met.L.Links.allowed _ _ c.requires.pass in
    root_null _ _ _ _ known (g.met.L.Links.allowed _ _ e.pass) (Looks-null {place = Root 0} e.looked c.in-Stable-default-None.field-1-is)

pub read_pair-parts-requires : goal.read_pair-parts-requires
read_pair-parts-requires g c =
    let f = found g (goal.at.read_pair-parts-requires g c).In-Stable-default-Some in
    let d = c.args.links.now in
    let s = g.L.Links.seat d c.args.p.now in
    let a = g.L.Links.seat d c.look.new.p in
    let h = c.in-Stable-default-Some.pair in
    record {
      pass = c.in-Stable-default-Some.ensures.pass;
      made = c.requires.made;
      held = slot_holds s a 1 f.id h c.requires.slots.0 f.in_slot;
      slot = slot_free s a 1 f.id h c.requires.slots.0 f.in_slot 2 (λ k. omega (arith, k)) c.requires.slots.1;
      pair = subst (IsPairOf (heap_of (g.L.Links.numbers d) a)) (sym (slot_id s a 1 f.id h c.requires.slots.0 f.in_slot)) f.pair;
    }

pub confirm-requires-clause-allowed : goal.confirm-requires-clause-allowed
confirm-requires-clause-allowed g c =
    let a = g.L.Links.seat _ c.look.new.p in
    seen_null _ a.agent a.seen (g.met.L.Links.obeys _ _ c.in-Stable-default-None.ensures.pass)

pub release-requires : goal.release-requires
release-requires g c =
    record {
      held = let f = found g (goal.at.release-requires g c).In-Stable-default-Some in
          let h = c.in-Stable-default-Some.pair in
          subst (λ (z : Slots). Holds z h) (sym (pair_slots _ _ _ _ c.read_pair-parts.result c.read_pair-parts.ensures.read))
          (slot_holds _ _ 1 f.id h c.requires.slots.0 f.in_slot);
      pass = c.read_pair-parts.ensures.pass;
    }

pub confirm-requires-clause-pass : goal.confirm-requires-clause-pass
confirm-requires-clause-pass g c = c.in-Stable-default-None.ensures.pass

pub returns-in-Stable-default-Some : goal.returns-in-Stable-default-Some
returns-in-Stable-default-Some g c =
    record {
      read = let f = found g (goal.at.returns-in-Stable-default-Some g c).In-Stable-default-Some in
          let d = c.args.links.now in
          let free = c.requires.slots.0 in
          let h = c.in-Stable-default-Some.pair in
          let a = g.L.Links.seat d c.look.new.p in
          let b = g.L.Links.seat d c.read_pair-parts.new.p in
          let e = c.read_pair-parts.ensures in
          let read = subst (λ i. ReadsPair (g.L.Links.numbers d) i a c.read_pair-parts.result b) (slot_id _ _ 1 f.id h free f.in_slot) e.read in
          turn_read _ 1 _ a b _ h free f c.in-Stable-default-Some.ensures.looked.fresh
          (g.met.L.Links.allowed d c.look.new.p c.in-Stable-default-Some.ensures.pass) (g.met.L.Links.allowed d c.read_pair-parts.new.p e.pass)
          (λ i is. g.met.L.Links.fresh_is d c.read_pair-parts.new.p i e.pass is) c.release.ensures.released c.read_pair-parts.result read;
      tries = omega (arith, looked_few c.in-Stable-default-Some.ensures.looked, c.read_pair-parts.ensures.tries, made c.release.ensures.released.puts);
      pass = c.release.ensures.pass;
      later = goes_on _ _ _ c.in-Stable-default-Some.ensures.later (goes_on _ _ _ c.read_pair-parts.ensures.later c.release.ensures.later);
    }

pub returns-then-confirm : goal.returns-then-confirm
returns-then-confirm g c =
    record {
      read = let r = ended g (goal.at.returns-then-confirm g c).In-Stable-default-None in
          confirmed _ _ _ null 0 0 _ c.if-confirm.true (null_seen _ _ _ r c.in-Stable-default-None.ensures.looked.fresh) c.confirm.ensures.confirmed;
      tries = omega (arith, looked_few c.in-Stable-default-None.ensures.looked, c.confirm.ensures.tries);
      pass = c.confirm.ensures.pass;
      later = goes_on _ _ _ c.in-Stable-default-None.ensures.later c.confirm.ensures.later;
    }

pub returns-else-confirm : goal.returns-else-confirm
returns-else-confirm g c =
    record {
      read = let r = ended g (goal.at.returns-else-confirm g c).In-Stable-default-None in
          null_over _ _ _ _ 0 0 _ c.if-confirm.false r c.in-Stable-default-None.ensures.looked.fresh c.confirm.ensures.confirmed
          (g.met.L.Links.allowed _ _ c.in-Stable-default-None.ensures.pass) (g.met.L.Links.allowed _ _ c.confirm.ensures.pass);
      tries = omega (arith, looked_few c.in-Stable-default-None.ensures.looked, c.confirm.ensures.tries);
      pass = c.confirm.ensures.pass;
      later = goes_on _ _ _ c.in-Stable-default-None.ensures.later c.confirm.ensures.later;
    }

pub returns-in-Moved : goal.returns-in-Moved
returns-in-Moved g c =
    record {
      read = let e = c.in-Moved.ensures in
          let r = e.looked.tells in
          record {
            only = record {
              finds = record { own = _; puts = r.4; finding = (tt, (tt, tt)); entries_are = refl; fresh = e.looked.fresh };
              slots = r.3;
            };
            moved = looks_differ_by_others _ _ _ r.0 r.1 r.4 (g.met.L.Links.allowed _ _ e.pass) r.2;
          };
      tries = omega (arith, looked_few c.in-Moved.ensures.looked);
      pass = c.in-Moved.ensures.pass;
      later = c.in-Moved.ensures.later;
    }
