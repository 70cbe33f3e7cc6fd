-- The part is held while the new pair is aimed at it.
use Rattle.std.proofs.Common.{arith, subst, sym, ◌∙◌}
use Rattle.std.specs.Prelude.{IfErr, IfOk}
use Rattle.orc_heap.proofs.Pieces.{goes_on}
use Rattle.orc_heap.specs.Slots.{Holds, Slots, id_in}
use Rattle.orc_cell.specs.Publishes.{Aimed, NotAimed}
use Rattle.orc_cell.proofs.Aiming.{aimed_slots, holds_b, kept_aims, part_b, part_not_fresh}
use Rattle.orc_cell.proofs.Looking.{part_leads}
use Rattle.orc_cell.proofs.Pieces.{pass_known}
use Rattle.orc_cell.proofs.Staging.{ok_of, err_of, within_call}
use Rattle.orc_cell.proofs.publish.aim_kept.Given.{Over}
use Rattle.orc_cell.proofs.publish.aim_kept.Goals.{After-release}
use Rattle.orc_cell.proofs.Counting.{made}
use Rattle.orc_cell.proofs.publish.aim_kept.Goals as goal

pub aim_half-aimed-requires : goal.aim_half-aimed-requires
aim_half-aimed-requires g c =
    let d = c.args.links.now in
    let n = g.L.Links.numbers d in
    let s = g.L.Links.seat d c.args.p.now in
    let y = c.value-value.new.p in
    let leads = part_leads n s.seen (id_in s.slots c.args.old.now) c.args.half c.requires.made.two c.requires.before in
    let hp = c.hold_half-part.ensures in
    let vp = c.value-value.ensures in
    let known = pass_known g.L.Links g.met.L.Links.obeys g.met.L.Links.allowed d in
    let known_a = known c.hold_half-part.new.p hp.pass in
    let known_b = known y vp.pass in
    record {
      pass = vp.pass;
      made = c.requires.made;
      fresh = holds_b n _ _ _ _ _ c.args.pair.now c.requires.slot leads c.requires.fresh hp.held vp.nothing known_a known_b
          (λ i is. g.met.L.Links.fresh_is d y i vp.pass is);
      part = part_b n _ _ _ _ _ c.args.pair.now c.requires.slot leads c.requires.fresh hp.held vp.nothing known_a known_b
          (λ i is. g.met.L.Links.fresh_is d y i vp.pass is);
      other = part_not_fresh n _ _ _ _ _ c.args.pair.now c.requires.slot leads c.requires.fresh hp.held vp.nothing known_a known_b
          (λ i is. g.met.L.Links.fresh_is d y i vp.pass is);
    }

-- what came of the aim
came : (g : Over) (c : After-release g) → let d = c.args.links.now in let n = g.L.Links.numbers d in let s = g.L.Links.seat d c.args.p.now in
    let t = g.L.Links.seat d c.release.new.p in let r = c.aim_half-aimed.result in
    IfOk r (λ _. Aimed n c.args.half c.args.pair.now c.hold_half-part.ensures.held.id c.value-value.result s t)
    × IfErr r (λ _. NotAimed n c.args.pair.now s t)
came g c =
    let s = g.L.Links.seat _ c.args.p.now in
    let leads = part_leads _ s.seen (id_in s.slots c.args.old.now) c.args.half c.requires.made.two c.requires.before in
    let hp = c.hold_half-part.ensures in
    let vp = c.value-value.ensures in
    let ap = c.aim_half-aimed.ensures in
    let known = pass_known g.L.Links g.met.L.Links.obeys g.met.L.Links.allowed _ in
    let untouched = g.met.L.Links.fresh_is _ in
    kept_aims _ _ _ _ _ _ c.args.pair.now c.requires.slot leads c.requires.fresh hp.held vp.nothing
    (known c.hold_half-part.new.p hp.pass) (known c.value-value.new.p vp.pass) (λ i is. untouched c.value-value.new.p i vp.pass is) c.args.half _ _
    c.value-value.result (known c.args.p.now c.requires.pass) (known c.aim_half-aimed.new.p ap.pass)
    (g.met.L.Links.allowed _ _ c.release.ensures.pass) (λ i is. untouched c.args.p.now i c.requires.pass is)
    (λ i is. untouched c.hold_half-part.new.p i hp.pass is) (λ i is. untouched c.aim_half-aimed.new.p i ap.pass is) c.release.ensures.released
    c.aim_half-aimed.result ap.aimed ap.none vp.value

pub returns-in-Ok-clause-aimed : goal.returns-in-Ok-clause-aimed
returns-in-Ok-clause-aimed g c =
    let held = c.hold_half-part.ensures.held in
    (held.id, held.leads, ok_of _ c.in-Ok.is (came g (goal.at.returns-in-Ok-clause-aimed g c).After-release).0)

pub returns-in-Ok-clause-tries : goal.returns-in-Ok-clause-tries
returns-in-Ok-clause-tries g c =
    omega (
      arith,
      c.hold_half-part.ensures.tries,
      made c.value-value.ensures.nothing.puts,
      c.aim_half-aimed.ensures.tries,
      made c.release.ensures.released.puts,
    )

pub value-value-requires-clause-pass : goal.value-value-requires-clause-pass
value-value-requires-clause-pass g c = c.hold_half-part.ensures.pass

pub release-requires : goal.release-requires
release-requires g c =
    record {
      held = let slots = aimed_slots _ _ _ _ c.aim_half-aimed.result c.aim_half-aimed.ensures.aimed c.aim_half-aimed.ensures.none in
          subst (λ (z : Slots). Holds z c.hold_half-part.result) (sym (slots ∙ c.value-value.ensures.nothing.slots)) c.hold_half-part.ensures.holds;
      pass = c.aim_half-aimed.ensures.pass;
    }

pub returns-in-Ok-clause-pass : goal.returns-in-Ok-clause-pass
returns-in-Ok-clause-pass g c = c.release.ensures.pass

pub returns-in-Ok-clause-later : goal.returns-in-Ok-clause-later
returns-in-Ok-clause-later g c =
    goes_on _ _ _ c.hold_half-part.ensures.later (goes_on _ _ _ c.value-value.ensures.later (goes_on _ _ _ c.aim_half-aimed.ensures.later c.release.ensures.later))

pub returns-in-Err : goal.returns-in-Err
returns-in-Err g c =
    record {
      aimed = err_of _ c.in-Err.is (came g (goal.at.returns-in-Err g c).After-release).1;
      worn = let d = c.args.links.now in
          let why = c.in-Err.spent in
          let hp = c.hold_half-part.ensures in
          let vp = c.value-value.ensures in
          within_call g.L.Links d c.args.p.now c.value-value.new.p c.aim_half-aimed.new.p c.release.new.p (λ who. g.L.Links.worn d who why) (λ who. g.met.L.Links.worn_stays d who why)
          (vp.nothing.puts.agent ∙ hp.held.finds.puts.agent) (goes_on _ _ _ hp.later vp.later) c.release.ensures.later
          (err_of _ c.in-Err.is c.aim_half-aimed.ensures.worn);
      tries = omega (
        arith,
        c.hold_half-part.ensures.tries,
        made c.value-value.ensures.nothing.puts,
        c.aim_half-aimed.ensures.tries,
        made c.release.ensures.released.puts,
      );
      pass = c.release.ensures.pass;
      later = goes_on _ _ _ c.hold_half-part.ensures.later (goes_on _ _ _ c.value-value.ensures.later (goes_on _ _ _ c.aim_half-aimed.ensures.later c.release.ensures.later));
    }
