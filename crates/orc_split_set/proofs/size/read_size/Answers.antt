-- By what the look of the size's root found.
use Rattle.std.proofs.Common.{Option, Some, [], ap, arith, subst, sym, ℕ, ◌≡◌, ◌≤◌}
use Rattle.orc_heap.proofs.Pieces.{goes_on}
use Rattle.orc_heap.proofs.Slots.{holds-there}
use Rattle.orc_heap.specs.Calls.{Looks}
use Rattle.orc_heap.specs.Seats.{Seat}
use Rattle.orc_heap.specs.Slots.{Hold, Holds, Slots}
use Rattle.orc_heap.specs.declared.events.Place.TheVariants.{Root}
use Rattle.orc_heap.specs.declared.holds.Looked.TheVariants.{Stable}
use Rattle.orc_heap.specs.declared.holds.Seen.{Seen}
use Rattle.orc_ordered_search.specs.Searches.{HasRoom}
use Rattle.orc_split_rule.specs.declared.split.SplitNote.{SplitNote}
use Rattle.orc_ordered_search.proofs.Ranking.{looks_from}
use Rattle.orc_split_set.proofs.RootLooks.{look_moved}
use Rattle.orc_split_set.proofs.Sizing.{made_most}
use Rattle.orc_split_set.proofs.Sizes.{looks_none, looks_some, size_given, size_one}
use Rattle.orc_split_set.proofs.size.read_size.Goals as goal

pub overflow_cast-result : goal.overflow_cast-result
overflow_cast-result g c =
    let d = c.args.links.now in
    let x = c.in-Stable-default-Some in
    let some = subst (λ (k : ℕ). 1 ≤ k) c.requires.most.0 c.requires.most.1 in
    let looks = looks_from (Root c.args.most) (Root _) 2 _ _ _ (ap Root c.requires.most.0)
    (looks_some c.args.most 2 x.field-0 x.field-1 x.node _ _ x.field-1-is x.ensures.looked) in
    let k = size_given _ _ x.node c.value-size.result _ _ _ _ (g.met.L.Links.obeys _ _ c.requires.pass)
    (g.met.L.Links.allowed _ _ x.ensures.pass) (g.met.L.Links.allowed _ _ c.value-size.ensures.pass)
    (g.met.L.Links.allowed _ _ c.release.ensures.pass) c.requires.room some looks c.value-size.ensures.nothing c.value-size.ensures.value
    c.release.ensures.released (λ i h. g.met.L.Links.fresh_is d c.value-size.new.p i c.value-size.ensures.pass h) in
    record { fits = omega (arith, k.is_size.0, c.requires.most.0, c.ranges.most.fits) }

pub look-requires : goal.look-requires
look-requires g c = record {
  pass = c.requires.pass;
  place = omega (arith, c.requires.most.0, c.requires.most.1);
  slot = c.requires.room.two;
}

-- what the look found is in slot 2
found_holds : (root : ℕ) (seen : Seen) (o : Option Hold) (h : Hold) (s t : Seat SplitNote) → o ≡ Some h → HasRoom s.slots
    → Looks (Root root) 2 s (Stable seen o) t → Holds t.slots h
found_holds root seen o h s t is room looked =
    let (id, one, more, marked, null, at_slot, slots, puts) = (looks_some root 2 seen o h s t is looked).tells in
    holds-there s.slots t.slots 2 id h room.two.empty at_slot slots

pub value-size-requires : goal.value-size-requires
value-size-requires g c =
    let x = c.in-Stable-default-Some in
    record {
      pass = x.ensures.pass;
      held = found_holds c.args.most x.field-0 x.field-1 x.node _ _ x.field-1-is c.requires.room x.ensures.looked;
      which = omega arith;
    }

pub release-requires : goal.release-requires
release-requires g c =
    let x = c.in-Stable-default-Some in
    record {
      pass = c.value-size.ensures.pass;
      held = subst (λ (z : Slots). Holds z x.node) (sym c.value-size.ensures.nothing.slots)
          (found_holds c.args.most x.field-0 x.field-1 x.node _ _ x.field-1-is c.requires.room x.ensures.looked);
    }

pub returns-in-Stable-default-Some : goal.returns-in-Stable-default-Some
returns-in-Stable-default-Some g c =
    record {
      read = let d = c.args.links.now in
          let x = c.in-Stable-default-Some in
          let some = subst (λ (k : ℕ). 1 ≤ k) c.requires.most.0 c.requires.most.1 in
          let looks = looks_from (Root c.args.most) (Root _) 2 _ _ _ (ap Root c.requires.most.0)
          (looks_some c.args.most 2 x.field-0 x.field-1 x.node _ _ x.field-1-is x.ensures.looked) in
          size_given _ _ x.node c.value-size.result _ _ _ _ (g.met.L.Links.obeys _ _ c.requires.pass)
          (g.met.L.Links.allowed _ _ x.ensures.pass) (g.met.L.Links.allowed _ _ c.value-size.ensures.pass)
          (g.met.L.Links.allowed _ _ c.release.ensures.pass) c.requires.room some looks c.value-size.ensures.nothing c.value-size.ensures.value
          c.release.ensures.released (λ i h. g.met.L.Links.fresh_is d c.value-size.new.p i c.value-size.ensures.pass h);
      tries = let s = g.L.Links.seat c.args.links.now c.args.p.now in
          let x = c.in-Stable-default-Some in
          let looks = looks_some c.args.most 2 x.field-0 x.field-1 x.node s _ x.field-1-is x.ensures.looked in
          let (id, one, more, marked, null, at_slot, slots, puts) = looks.tells in
          omega (
            arith,
            made_most 2 s _ _ puts (omega arith),
            made_most 0 _ _ [] c.value-size.ensures.nothing.puts (omega arith),
            made_most 0 _ _ [] c.release.ensures.released.puts (omega arith),
          );
      pass = c.release.ensures.pass;
      later = goes_on _ _ _ c.in-Stable-default-Some.ensures.later (goes_on _ _ _ c.value-size.ensures.later c.release.ensures.later);
    }

pub returns-in-Stable-default-None : goal.returns-in-Stable-default-None
returns-in-Stable-default-None g c =
    record {
      read = let x = c.in-Stable-default-None in
          let some = subst (λ (k : ℕ). 1 ≤ k) c.requires.most.0 c.requires.most.1 in
          let looks = looks_from (Root c.args.most) (Root _) 2 _ _ _ (ap Root c.requires.most.0)
          (looks_none c.args.most 2 x.field-0 x.field-1 _ _ x.field-1-is x.ensures.looked) in
          size_one _ _ _ _ some (g.met.L.Links.obeys _ _ c.requires.pass) (g.met.L.Links.allowed _ _ x.ensures.pass) looks;
      tries = let x = c.in-Stable-default-None in
          let looks = looks_none c.args.most 2 x.field-0 x.field-1 _ _ x.field-1-is x.ensures.looked in
          let (null, slots, puts) = looks.tells in
          made_most 2 _ _ _ puts (omega arith);
      pass = c.in-Stable-default-None.ensures.pass;
      later = c.in-Stable-default-None.ensures.later;
    }

pub returns-in-Moved : goal.returns-in-Moved
returns-in-Moved g c =
    record {
      read = look_moved _ c.args.most _ _ c.in-Moved.ensures.looked
          (g.met.L.Links.allowed _ _ c.in-Moved.ensures.pass);
      tries = let (one, two, other, slots, puts, some) = c.in-Moved.ensures.looked.tells in
          made_most 2 _ _ _ puts (omega arith);
      pass = c.in-Moved.ensures.pass;
      later = c.in-Moved.ensures.later;
    }
