-- By what is known of the part, and of the link.
use Rattle.std.proofs.Common.{Ok, [], ap, append-nil, refl, subst, sym}
use Rattle.orc_heap.specs.Seats.{HoldsWant}
use Rattle.orc_heap.specs.declared.holds.Want.{Want}
use Rattle.orc_cell.specs.Publishes.{Aims, ComesAfter, IsHalfReady, IsPartOf, SideHeld, given_of, staging_root}
use Rattle.orc_cell.specs.declared.publish.New.{New}
use Rattle.orc_cell.specs.declared.publish.New.TheVariants.{Kept}
use Rattle.orc_cell.proofs.Ending.{LeadsToPair, follows_pair, kept_few, kept_follows, none_few, staged_few}
use Rattle.orc_cell.proofs.Readying.{ready_aimed}
use Rattle.orc_cell.proofs.Swinging.{follows_held, given_part}
use Rattle.orc_cell.proofs.publish.aim_part.Goals as goal

pub returns-in-Given : goal.returns-in-Given
returns-in-Given g c =
    let n = g.L.Links.numbers _ in
    let s = g.L.Links.seat _ c.args.p.now in
    let half = c.args.half in
    let pair = c.args.pair.now in
    let from = c.args.from.now in
    let staged = subst (λ (x : New). SideHeld n (staging_root half s.agent) x s) c.in-Given.is c.requires.new in
    let ready = subst (λ (x : New). IsHalfReady n half pair x s) c.in-Given.is c.requires.ready in
    record {
      pass = c.requires.pass;
      later = ([], append-nil _);
      tries = none_few _ _;
      aimed = subst (λ (x : New). Aims n half pair (IsPartOf n half from s x) s (Ok c.in-Given.value) s) (sym c.in-Given.is)
          (_, given_part n half from s c.in-Given.value _ _, ready_aimed n half s _ pair _ c.in-Given.value staged c.requires.fresh ready);
      same = λ some. refl;
      worn = tt;
    }

pub aim_staged-requires : goal.aim_staged-requires
aim_staged-requires g c =
    let n = g.L.Links.numbers c.args.links.now in
    let s = g.L.Links.seat _ c.args.p.now in
    record {
      pass = c.requires.pass;
      made = c.requires.made;
      fresh = c.requires.fresh;
      staged = subst (λ (x : New). SideHeld n (staging_root c.args.half s.agent) x s) c.in-Zero.is c.requires.new;
    }

pub returns-in-Null : goal.returns-in-Null
returns-in-Null g c =
    let e = c.aim_staged.ensures in
    let none = ap given_of c.in-Zero.is in
    record {
      pass = e.pass;
      later = e.later;
      tries = staged_few _ _ _ none e.tries;
      aimed = rw (c.in-Zero.is, c.in-Null.is) e.aimed;
      same = λ some. absurd (some none);
      worn = e.worn;
    }

pub aim_kept-requires : goal.aim_kept-requires
aim_kept-requires g c =
    let r = c.requires in
    let n = g.L.Links.numbers c.args.links.now in
    let s = g.L.Links.seat _ c.args.p.now in
    record {
      pass = r.pass;
      made = r.made;
      fresh = r.fresh;
      old = subst (λ (x : Want). HoldsWant s.slots x) c.in-Node.is (follows_held n s c.args.from.now c.args.new.now r.follows);
      slot = r.slot;
      before = subst (λ (x : Want). LeadsToPair n s x) c.in-Node.is (follows_pair n s c.args.from.now c.args.new.now r.follows);
    }

pub returns-in-Node : goal.returns-in-Node
returns-in-Node g c =
    let e = c.aim_kept.ensures in
    let none = ap given_of c.in-Zero.is in
    record {
      pass = e.pass;
      later = e.later;
      tries = kept_few _ _ _ none e.tries;
      aimed = rw (c.in-Zero.is, c.in-Node.is) e.aimed;
      same = λ some. absurd (some none);
      worn = e.worn;
    }

pub aim_kept-requires-in-Node-from : goal.aim_kept-requires-in-Node-from
aim_kept-requires-in-Node-from g c =
    let r = c.requires in
    let n = g.L.Links.numbers c.args.links.now in
    let s = g.L.Links.seat _ c.args.p.now in
    record {
      pass = r.pass;
      made = r.made;
      fresh = r.fresh;
      old = subst (λ (x : Want). HoldsWant s.slots x) c.in-Node-from.is (follows_held n s c.args.from.now c.args.new.now r.follows);
      slot = r.slot;
      before = subst (λ (x : Want). LeadsToPair n s x) c.in-Node-from.is (follows_pair n s c.args.from.now c.args.new.now r.follows);
    }

pub unreachable-requires : goal.unreachable-requires
unreachable-requires g c =
    let n = g.L.Links.numbers c.args.links.now in
    let s = g.L.Links.seat _ c.args.p.now in
    kept_follows n s _ (subst (λ (x : Want). ComesAfter n x s Kept) c.in-Null-from.is
    (subst (λ (x : New). ComesAfter n c.args.from.now s x) c.in-Kept.is c.requires.follows))

pub returns-in-Node-from : goal.returns-in-Node-from
returns-in-Node-from g c =
    let e = c.aim_kept-in-Node-from.ensures in
    let none = ap given_of c.in-Kept.is in
    record {
      pass = e.pass;
      later = e.later;
      tries = kept_few _ _ _ none e.tries;
      aimed = rw (c.in-Kept.is, c.in-Node-from.is) e.aimed;
      same = λ some. absurd (some none);
      worn = e.worn;
    }
