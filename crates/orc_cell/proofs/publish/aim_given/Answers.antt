-- A given part is staged, so it isn't the fresh node.
use Rattle.std.proofs.Common.{subst, sym}
use Rattle.orc_cell.specs.Publishes.{AimsGiven, IsHalfReady, SideHeld, staging_root}
use Rattle.orc_cell.specs.declared.publish.New.{New}
use Rattle.orc_cell.proofs.Aiming.{staged_not_fresh}
use Rattle.orc_cell.proofs.Pieces.{pass_known}
use Rattle.orc_cell.proofs.Readying.{given_aimed, none_given}
use Rattle.orc_cell.proofs.publish.aim_given.Goals as goal

pub aim_half-requires-clause-part : goal.aim_half-requires-clause-part
aim_half-requires-clause-part g c =
    let d = c.args.links.now in
    let s = g.L.Links.seat d c.args.p.now in
    (subst (λ (x : New). SideHeld (g.L.Links.numbers d) (staging_root c.args.half s.agent) x s) c.in-Given.is c.requires.new).held

pub aim_half-requires-clause-other : goal.aim_half-requires-clause-other
aim_half-requires-clause-other g c =
    let d = c.args.links.now in
    let s = g.L.Links.seat d c.args.p.now in
    let staged = subst (λ (x : New). SideHeld (g.L.Links.numbers d) (staging_root c.args.half s.agent) x s) c.in-Given.is c.requires.new in
    staged_not_fresh _ _ _ _ _ staged (λ i is. g.met.L.Links.fresh_is d c.args.p.now i c.requires.pass is)

pub returns-in-Given-clause-aimed : goal.returns-in-Given-clause-aimed
returns-in-Given-clause-aimed g c =
    let d = c.args.links.now in
    let half = c.args.half in
    let pair = c.args.pair.now in
    let e = c.aim_half.ensures in
    let n = g.L.Links.numbers d in
    let s = g.L.Links.seat d c.args.p.now in
    let t = g.L.Links.seat d c.aim_half.new.p in
    let staged = subst (λ (x : New). SideHeld n (staging_root half s.agent) x s) c.in-Given.is c.requires.new in
    let known = pass_known g.L.Links g.met.L.Links.obeys g.met.L.Links.allowed d c.args.p.now c.requires.pass in
    subst (λ (x : New). AimsGiven n half pair x s c.aim_half.result t) (sym c.in-Given.is)
    (given_aimed n half s t _ pair _ _ c.aim_half.result staged c.requires.fresh known (g.met.L.Links.allowed d c.aim_half.new.p e.pass)
    (λ i is. g.met.L.Links.fresh_is d c.args.p.now i c.requires.pass is) e.aimed e.none)

pub returns-in-Zero-clause-aimed : goal.returns-in-Zero-clause-aimed
returns-in-Zero-clause-aimed g c =
    let d = c.args.links.now in
    let ready = subst (λ (x : New). IsHalfReady (g.L.Links.numbers d) c.args.half c.args.pair.now x (g.L.Links.seat d c.args.p.now)) (sym c.in-Zero.is) tt in
    none_given _ c.args.half _ _ c.args.new.now c.requires.fresh (g.met.L.Links.fresh_is d c.args.p.now _ c.requires.pass c.requires.fresh.fresh) ready

pub returns-in-Kept-clause-aimed : goal.returns-in-Kept-clause-aimed
returns-in-Kept-clause-aimed g c =
    let d = c.args.links.now in
    let ready = subst (λ (x : New). IsHalfReady (g.L.Links.numbers d) c.args.half c.args.pair.now x (g.L.Links.seat d c.args.p.now)) (sym c.in-Kept.is) tt in
    none_given _ c.args.half _ _ c.args.new.now c.requires.fresh (g.met.L.Links.fresh_is d c.args.p.now _ c.requires.pass c.requires.fresh.fresh) ready
