-- A staged part is once linked, so it isn't the fresh node.
use Rattle.std.proofs.Common.{refl}
use Rattle.orc_heap.specs.Slots.{id_in}
use Rattle.orc_cell.proofs.Aiming.{staged_aimed, staged_not_fresh, staged_refused}
use Rattle.orc_cell.proofs.Pieces.{pass_known}
use Rattle.orc_cell.proofs.Staging.{err_of, ok_of}
use Rattle.orc_cell.proofs.publish.aim_staged.Goals as goal

pub aim_half-requires : goal.aim_half-requires
aim_half-requires g c =
    let d = c.args.links.now in
    let r = c.requires in
    record {
      pass = r.pass;
      made = r.made;
      fresh = r.fresh;
      part = r.staged.held;
      other = staged_not_fresh _ _ _ _ _ r.staged (λ i is. g.met.L.Links.fresh_is d c.args.p.now i r.pass is);
    }

pub returns-in-Ok : goal.returns-in-Ok
returns-in-Ok g c =
    let d = c.args.links.now in
    let r = c.requires in
    let e = c.aim_half.ensures in
    let known = pass_known g.L.Links g.met.L.Links.obeys g.met.L.Links.allowed d c.args.p.now r.pass in
    record {
      pass = e.pass;
      later = e.later;
      tries = e.tries;
      aimed = (
        id_in (g.L.Links.seat d c.args.p.now).slots c.args.part.now,
        refl,
        staged_aimed _ c.args.half _ _ c.args.part.now c.args.pair.now _ c.args.value r.staged r.fresh known
            (g.met.L.Links.allowed d c.aim_half.new.p e.pass) (λ i is. g.met.L.Links.fresh_is d c.args.p.now i r.pass is) (ok_of _ c.in-Ok.is e.aimed),
      );
      worn = tt;
    }

pub returns-in-Err : goal.returns-in-Err
returns-in-Err g c =
    let e = c.aim_half.ensures in
    record {
      pass = e.pass;
      later = e.later;
      tries = e.tries;
      aimed = staged_refused _ _ _ c.args.pair.now c.requires.fresh (g.met.L.Links.allowed _ _ e.pass) (err_of _ c.in-Err.is e.none);
      worn = err_of _ c.in-Err.is e.worn;
    }
