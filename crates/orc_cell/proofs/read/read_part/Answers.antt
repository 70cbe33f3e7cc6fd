-- The part is held, read and released.
use Rattle.std.proofs.Common.{arith, subst, sym}
use Rattle.orc_heap.proofs.Pieces.{goes_on}
use Rattle.orc_heap.specs.Slots.{Holds, Slots}
use Rattle.orc_cell.proofs.Counting.{made}
use Rattle.orc_cell.proofs.Reading.{part_read}
use Rattle.orc_cell.proofs.read.read_part.Goals as goal

pub hold_part-part-requires : goal.hold_part-part-requires
hold_part-part-requires g c =
    let r = c.requires in
    record { pass = r.pass; place = r.place; slot = r.slot; leads = r.leads }

pub value-value-requires : goal.value-value-requires
value-value-requires g c =
    let h = c.hold_part-part.ensures in
    record { pass = h.pass; held = h.holds; which = omega arith }

pub release-requires : goal.release-requires
release-requires g c =
    let v = c.value-value.ensures in
    record { pass = v.pass; held = subst (λ (z : Slots). Holds z c.hold_part-part.result) (sym v.nothing.slots) c.hold_part-part.ensures.holds }

pub returns : goal.returns
returns g c =
    let d = c.args.links.now in
    let h = c.hold_part-part.ensures in
    let v = c.value-value.ensures in
    let w = c.release.ensures in
    record {
      pass = w.pass;
      later = goes_on _ _ _ h.later (goes_on _ _ _ v.later w.later);
      tries = omega (arith, h.tries, made v.nothing.puts, made w.released.puts);
      read = part_read _ _ _ _ _ _ _ _ c.requires.slot c.requires.leads h.held (g.met.L.Links.allowed _ _ h.pass) v.nothing
          (g.met.L.Links.allowed _ _ v.pass) v.value (λ i is. g.met.L.Links.fresh_is d c.value-value.new.p i v.pass is) w.released
          (g.met.L.Links.allowed _ _ w.pass);
    }
