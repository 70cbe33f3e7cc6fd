-- Both halves are aimed, and then root 0 is swung.
use Rattle.std.proofs.Common.{[], ap, append-nil, false, length, subst, sym, true, ◌∙◌, ◌≡◌}
use Rattle.orc_fault.specs.declared.Spent.{Spent as SpentRow}
use Rattle.orc_heap.proofs.Pieces.{goes_on}
use Rattle.orc_heap.specs.Seats.{link_in}
use Rattle.orc_heap.specs.Slots.{IsFree, Slots, id_in}
use Rattle.orc_heap.specs.declared.events.Link.{Link}
use Rattle.orc_cell.specs.Publishes.{PublishDone, PublishMissed, SwingsPair, given_of}
use Rattle.orc_cell.specs.declared.publish.Half.TheVariants.{Left}
use Rattle.orc_history.specs.Journals.{Within}
use Rattle.orc_cell.proofs.Ending.{done_spent, one_few, over_spent, three_few, turn_spent, two_few}
use Rattle.orc_cell.proofs.Pieces.{pass_known}
use Rattle.orc_cell.proofs.Readying.{other_stays_ready}
use Rattle.orc_cell.proofs.Staging.{within_call}
use Rattle.orc_cell.proofs.Swinging.{follows_from, follows_held, follows_kept, may_publish, right_kept, spent_right, swung_turn}
use Rattle.orc_cell.proofs.publish.publish_from.Given.{Over}
use Rattle.orc_cell.proofs.publish.publish_from.Goals.{After-swing_pair}
use Rattle.orc_cell.proofs.publish.publish_from.Goals as goal

pub aim_part-requires : goal.aim_part-requires
aim_part-requires g c =
    let r = c.requires in
    record {
      pass = r.pass;
      made = r.made;
      fresh = r.prepared.fresh;
      new = r.prepared.left_held;
      ready = r.prepared.left_leads;
      follows = r.follows.0;
      slot = r.slot;
    }

pub aim_part-requires-2 : goal.aim_part-requires-2
aim_part-requires-2 g c =
    let r = c.requires in
    let e = c.in-Ok.ensures in
    let kept = e.aimed.2.kept in
    let all = g.met.L.Links.allowed _ _ e.pass in
    record {
      pass = e.pass;
      made = r.made;
      fresh = kept.fresh;
      new = right_kept _ _ _ c.args.right.now [] kept.answered all r.prepared.right_held;
      ready = other_stays_ready _ Left _ _ c.args.pair.now c.args.right.now kept r.prepared.right_leads;
      follows = follows_kept _ _ _ c.args.from.now c.args.right.now [] kept.answered all r.follows.1;
      slot = subst (λ (z : Slots). IsFree z 5) (sym kept.answered.slots) r.slot;
    }

pub returns-in-Err : goal.returns-in-Err
returns-in-Err g c =
    let e = c.in-Err.ensures in
    let d = c.args.links.now in
    record {
      pass = e.pass;
      later = e.later;
      tries = one_few _ _ _ _ 1 e.tries;
      published = record { answered = e.aimed.answered; fresh = e.aimed.fresh };
      worn = λ why is. turn_spent (λ (x : SpentRow). Within (length (g.L.Links.journal c.args.p.now)) (length (g.L.Links.journal c.aim_part.new.p))
          (g.L.Links.worn d (g.L.Links.seat d c.args.p.now).agent x (g.L.Links.journal c.aim_part.new.p))) is e.worn;
    }

pub returns-in-Err-aim_part : goal.returns-in-Err-aim_part
returns-in-Err-aim_part g c =
    let d = c.args.links.now in
    let e = c.in-Ok.ensures in
    let f = c.in-Err-aim_part.ensures in
    record {
      pass = f.pass;
      later = goes_on _ _ _ e.later f.later;
      tries = two_few _ _ _ _ _ 1 e.tries f.tries;
      published = spent_right _ _ _ _ c.args.pair.now _ _ e.aimed.2 f.aimed;
      worn = λ why is.
          let there = turn_spent (λ (x : SpentRow). Within (length (g.L.Links.journal c.aim_part.new.p)) (length (g.L.Links.journal c.aim_part-2.new.p))
          (g.L.Links.worn d (g.L.Links.seat d c.aim_part.new.p).agent x (g.L.Links.journal c.aim_part-2.new.p))) is f.worn in
          within_call g.L.Links d c.args.p.now c.aim_part.new.p c.aim_part-2.new.p c.aim_part-2.new.p (λ who. g.L.Links.worn d who why)
          (λ who. g.met.L.Links.worn_stays d who why) e.aimed.2.kept.answered.piece.puts.agent e.later ([], append-nil _) there;
    }

pub swing_pair-requires-clause-pass : goal.swing_pair-requires-clause-pass
swing_pair-requires-clause-pass g c = c.in-Ok-aim_part.ensures.pass

pub swing_pair-requires-clause-made : goal.swing_pair-requires-clause-made
swing_pair-requires-clause-made g c = c.requires.made

pub swing_pair-requires-clause-fresh : goal.swing_pair-requires-clause-fresh
swing_pair-requires-clause-fresh g c = c.in-Ok-aim_part.ensures.aimed.2.kept.fresh

pub swing_pair-requires-clause-from : goal.swing_pair-requires-clause-from
swing_pair-requires-clause-from g c =
    let e = c.in-Ok.ensures in
    let f = c.in-Ok-aim_part.ensures in
    let one = follows_kept _ _ _ c.args.from.now c.args.right.now [] e.aimed.2.kept.answered (g.met.L.Links.allowed _ _ e.pass) c.requires.follows.1 in
    follows_held _ _ c.args.from.now c.args.right.now
    (follows_kept _ _ _ c.args.from.now c.args.right.now [] f.aimed.2.kept.answered (g.met.L.Links.allowed _ _ f.pass) one)

pub swing_pair-requires-clause-allowed : goal.swing_pair-requires-clause-allowed
swing_pair-requires-clause-allowed g c =
    let d = c.args.links.now in
    let n = g.L.Links.numbers d in
    let a = g.L.Links.seat d c.aim_part.new.p in
    let b = g.L.Links.seat d c.aim_part-2.new.p in
    let pair = c.args.pair.now in
    let from = c.args.from.now in
    let left = c.in-Ok.ensures in
    let right = c.in-Ok-aim_part.ensures in
    let known_b = pass_known g.L.Links g.met.L.Links.obeys g.met.L.Links.allowed d c.aim_part-2.new.p right.pass in
    let follows = follows_from n _ a b pair from c.args.left.now c.args.right.now left.aimed.0 right.aimed.0 c.in-Ok.x c.in-Ok-aim_part.y
    c.requires.made.two c.requires.follows.0 left.aimed.2 right.aimed.2 (g.met.L.Links.allowed _ _ left.pass) known_b.all left.aimed.1 right.aimed.1 in
    may_publish n _ a b pair left.aimed.0 right.aimed.0 c.in-Ok.x c.in-Ok-aim_part.y left.aimed.2 right.aimed.2 known_b
    (λ i is. g.met.L.Links.fresh_is d c.aim_part-2.new.p i right.pass is) (given_of c.args.left.now) (given_of c.args.right.now)
    (link_in b.slots from) c.requires.made.two follows

-- what came of the swing
came : (g : Over) (c : After-swing_pair g) → let d = c.args.links.now in let n = g.L.Links.numbers d in let s = g.L.Links.seat d c.args.p.now in
    let t = g.L.Links.seat d c.swing_pair.new.p in let left = given_of c.args.left.now in let right = given_of c.args.right.now in
    (c.swing_pair.result ≡ true → PublishDone n left right c.in-Ok.x c.in-Ok-aim_part.y s t)
    × (c.swing_pair.result ≡ false → PublishMissed n (link_in s.slots c.args.from.now) left right c.args.pair.now s t)
came g c =
    let d = c.args.links.now in
    let b = g.L.Links.seat d c.aim_part-2.new.p in
    let t = g.L.Links.seat d c.swing_pair.new.p in
    let left = c.in-Ok.ensures in
    let right = c.in-Ok-aim_part.ensures in
    let known_b = pass_known g.L.Links g.met.L.Links.obeys g.met.L.Links.allowed d c.aim_part-2.new.p right.pass in
    let link = ap (λ (z : Slots). link_in z c.args.from.now) (right.aimed.2.kept.answered.slots ∙ left.aimed.2.kept.answered.slots) in
    let swung = subst (λ (z : Link). SwingsPair z (id_in b.slots c.args.pair.now) (given_of c.args.left.now) (given_of c.args.right.now) c.in-Ok.x
    c.in-Ok-aim_part.y b c.swing_pair.result t) link c.swing_pair.ensures.swung in
    swung_turn _ _ _ b c.args.pair.now left.aimed.0 right.aimed.0 c.in-Ok.x c.in-Ok-aim_part.y left.aimed.2 right.aimed.2 known_b
    (λ i is. g.met.L.Links.fresh_is d c.aim_part-2.new.p i right.pass is) t _ _ _ _ swung (g.met.L.Links.allowed _ _ c.swing_pair.ensures.pass)
    left.same right.same

pub returns-then-swing_pair : goal.returns-then-swing_pair
returns-then-swing_pair g c =
    let e = c.in-Ok.ensures in
    let f = c.in-Ok-aim_part.ensures in
    let w = c.swing_pair.ensures in
    record {
      pass = w.pass;
      later = goes_on _ _ _ e.later (goes_on _ _ _ f.later w.later);
      tries = three_few _ _ _ _ _ _ 1 e.tries f.tries w.tries;
      published = (came g (goal.at.returns-then-swing_pair g c).After-swing_pair).0 c.if-swing_pair.true;
      worn = λ why is. absurd (done_spent _ _ why is);
    }

pub returns-else-swing_pair : goal.returns-else-swing_pair
returns-else-swing_pair g c =
    let e = c.in-Ok.ensures in
    let f = c.in-Ok-aim_part.ensures in
    let w = c.swing_pair.ensures in
    record {
      pass = w.pass;
      later = goes_on _ _ _ e.later (goes_on _ _ _ f.later w.later);
      tries = three_few _ _ _ _ _ _ 1 e.tries f.tries w.tries;
      published = (came g (goal.at.returns-else-swing_pair g c).After-swing_pair).1 c.if-swing_pair.false;
      worn = λ why is. absurd (over_spent why is);
    }
