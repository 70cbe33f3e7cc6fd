-- Both halves whose parts are given are aimed, and then the turns.
use Rattle.std.proofs.Common.{[], append-nil, length, subst, sym}
use Rattle.orc_fault.specs.declared.Spent.{Spent as SpentRow}
use Rattle.orc_heap.proofs.Pieces.{goes_on}
use Rattle.orc_heap.specs.Slots.{IsFree, Slots}
use Rattle.orc_cell.specs.Publishes.{given_of}
use Rattle.orc_cell.specs.declared.publish.Half.TheVariants.{Right}
use Rattle.orc_history.specs.Journals.{Within}
use Rattle.orc_cell.proofs.Answering.{given_turns}
use Rattle.orc_cell.proofs.Ending.{one_few, three_few, turn_spent, two_few}
use Rattle.orc_cell.proofs.Readying.{other_stays_ready}
use Rattle.orc_cell.proofs.Staging.{Answered-trans, within_call}
use Rattle.orc_cell.proofs.Swinging.{left_kept, right_kept}
use Rattle.orc_cell.proofs.publish.publish_given.Goals as goal

pub aim_given-requires : goal.aim_given-requires
aim_given-requires g c =
    let r = c.requires in
    record { pass = r.pass; made = r.made; fresh = r.fresh; new = r.left }

pub aim_given-requires-2 : goal.aim_given-requires-2
aim_given-requires-2 g c =
    let e = c.in-Ok.ensures in
    let kept = e.aimed.kept in
    record {
      pass = e.pass;
      made = c.requires.made;
      fresh = kept.fresh;
      new = right_kept _ _ _ c.args.right.now [] kept.answered (g.met.L.Links.allowed _ _ e.pass) c.requires.right;
    }

pub returns-in-Err : goal.returns-in-Err
returns-in-Err g c =
    let d = c.args.links.now in
    let e = c.in-Err.ensures in
    record {
      pass = e.pass;
      later = e.later;
      tries = one_few _ _ _ _ _ e.tries;
      published = record { answered = e.aimed.answered; fresh = e.aimed.fresh };
      worn = λ why is. turn_spent (λ (x : SpentRow). Within (length (g.L.Links.journal c.args.p.now)) (length (g.L.Links.journal c.aim_given.new.p))
          (g.L.Links.worn d (g.L.Links.seat d c.args.p.now).agent x (g.L.Links.journal c.aim_given.new.p))) is e.worn;
    }

pub returns-in-Err-aim_given : goal.returns-in-Err-aim_given
returns-in-Err-aim_given g c =
    let d = c.args.links.now in
    let e = c.in-Ok.ensures in
    let f = c.in-Err-aim_given.ensures in
    let kept = e.aimed.kept.answered in
    record {
      pass = f.pass;
      later = goes_on _ _ _ e.later f.later;
      tries = two_few _ _ _ _ _ _ e.tries f.tries;
      published = record { answered = Answered-trans _ 0 0 _ _ _ [] [] kept f.aimed.answered; fresh = f.aimed.fresh };
      worn = λ why is.
          let there = turn_spent (λ (x : SpentRow). Within (length (g.L.Links.journal c.aim_given.new.p)) (length (g.L.Links.journal c.aim_given-2.new.p))
          (g.L.Links.worn d (g.L.Links.seat d c.aim_given.new.p).agent x (g.L.Links.journal c.aim_given-2.new.p))) is f.worn in
          within_call g.L.Links d c.args.p.now c.aim_given.new.p c.aim_given-2.new.p c.aim_given-2.new.p (λ who. g.L.Links.worn d who why)
          (λ who. g.met.L.Links.worn_stays d who why) kept.piece.puts.agent e.later ([], append-nil _) there;
    }

pub publish_turns-requires : goal.publish_turns-requires
publish_turns-requires g c =
    let one = c.in-Ok.ensures.aimed in
    let two = c.in-Ok-aim_given.ensures.aimed in
    let all = g.met.L.Links.allowed _ _ c.in-Ok-aim_given.ensures.pass in
    let both = Answered-trans _ 0 0 _ _ _ [] [] one.kept.answered two.kept.answered in
    record {
      pass = c.in-Ok-aim_given.ensures.pass;
      made = c.requires.made;
      prepared = record {
        fresh = two.kept.fresh;
        left_held = left_kept _ _ _ c.args.left.now [] both all c.requires.left;
        right_held = right_kept _ _ _ c.args.right.now [] both all c.requires.right;
        left_leads = other_stays_ready _ Right _ _ c.args.pair.now c.args.left.now two.kept one.ready;
        right_leads = two.ready;
      };
      slots = (
        subst (λ (z : Slots). IsFree z 4) (sym both.slots) c.requires.slots.0,
        subst (λ (z : Slots). IsFree z 5) (sym both.slots) c.requires.slots.1,
      );
    }

pub returns : goal.returns
returns g c =
    let d = c.args.links.now in
    let e = c.in-Ok.ensures in
    let f = c.in-Ok-aim_given.ensures in
    let w = c.publish_turns.ensures in
    let both = Answered-trans _ 0 0 _ _ _ [] [] e.aimed.kept.answered f.aimed.kept.answered in
    record {
      pass = w.pass;
      later = goes_on _ _ _ e.later (goes_on _ _ _ f.later w.later);
      tries = three_few _ _ _ _ _ _ _ e.tries f.tries w.tries;
      published = given_turns _ c.args.turns (given_of c.args.left.now) (given_of c.args.right.now) c.args.pair.now _ _ _
          c.publish_turns.result both w.published;
      worn = λ why is.
          within_call g.L.Links d c.args.p.now c.aim_given-2.new.p c.publish_turns.new.p c.publish_turns.new.p (λ who. g.L.Links.worn d who why)
          (λ who. g.met.L.Links.worn_stays d who why) both.piece.puts.agent (goes_on _ _ _ e.later f.later) ([], append-nil _) (w.worn why is);
    }
