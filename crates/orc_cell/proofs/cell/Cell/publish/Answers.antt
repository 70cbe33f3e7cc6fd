-- What the call did, and the settling after it.
use Rattle.std.proofs.Common.{[], ap, arith, inl, inr, ℕ, ◌*◌, ◌+◌, ◌∙◌}
use Rattle.orc_heap.proofs.Calls.{Puts-trans}
use Rattle.orc_heap.proofs.Parting.{part_goes_on}
use Rattle.orc_heap.proofs.Pieces.{goes_on}
use Rattle.orc_heap.proofs.InJournal.{call_seen, settling_alone}
use Rattle.orc_pairs_rule.specs.PairsDiscipline.{PairsMay}
use Rattle.orc_cell.proofs.Answering.{any_answered}
use Rattle.orc_cell.proofs.Journals.{gave_at_most, no_event}
use Rattle.orc_cell.proofs.Settled.{idle_after, publish_again, publish_ends, publish_err, publish_ok, staging_after}
use Rattle.orc_cell.proofs.Staging.{err_of}
use Rattle.orc_cell.proofs.Counting.{made}
use Rattle.orc_cell.proofs.cell.Cell.publish.Goals as goal

pub staging_roots-roots-requires : goal.staging_roots-roots-requires
staging_roots-roots-requires g c =
    let d = c.args.self.now.links in
    let made = c.args.self.now.made in
    let below = (g.met.L.Links.agents_below d c.args.p.now c.requires.usable.pass).0 in
    omega (arith, made.roots, made.few, below, c.agent-agent.ensures)

pub publish_parts-answer-requires : goal.publish_parts-answer-requires
publish_parts-answer-requires g c =
    let d = c.args.self.now.links in
    let made = c.args.self.now.made in
    let usable = c.requires.usable in
    let below = (g.met.L.Links.agents_below d c.args.p.now usable.pass).0 in
    let is = c.agent-agent.ensures in
    let roots = c.staging_roots-roots.ensures in
    let left = roots.0 ∙ ap (λ (i : ℕ). 1 + 2 * i) is in
    let right = roots.1 ∙ ap (λ (i : ℕ). 2 + 2 * i) is in
    record {
      pass = usable.pass;
      made = made;
      idle = usable.idle;
      given = c.requires.given;
      roots = (left, right);
      there = (omega (arith, left, made.roots, below), omega (arith, right, made.roots, below));
      null = (usable.staging c.staging_roots-roots.result.0 (inl left), usable.staging c.staging_roots-roots.result.1 (inr right));
    }

pub settle-requires : goal.settle-requires
settle-requires g c =
    let d = c.args.self.now.links in
    let done = c.publish_parts-answer.ensures in
    let any = any_answered _ 3 c.args.turns c.args.left c.args.right _
    _ c.publish_parts-answer.result done.answered in
    record { pass = done.pass; idle = idle_after c.requires.usable.idle any.1 }

pub returns : goal.returns
returns g c =
    let d = c.args.self.now.links in
    let r = c.publish_parts-answer.result in
    let done = c.publish_parts-answer.ensures in
    let settle = c.settle.ensures in
    let usable = c.requires.usable in
    let ends = publish_ends _ 3 _ _ _ _ _ _ settle.nothing
    (g.met.L.Links.allowed _ _ settle.pass) r done.answered in
    let seen = call_seen PairsMay g.L.Links d c.args.p.now c.settle.new.p (g.met.L.Links.seen_is d) (g.met.L.Links.allowed d)
    (g.met.L.Links.agents_below d c.settle.new.p settle.pass).1 (g.met.L.Links.steps_add d) usable.pass settle.pass
    (goes_on _ _ _ done.later settle.later) in
    let agent = (g.L.Links.seat d c.args.p.now).agent in
    record {
      usable = record { pass = settle.pass; idle = idle_after usable.idle ends.after; staging = staging_after ends.after usable.staging };
      agent = ends.after.answered.piece.puts.agent;
      later = goes_on _ _ _ done.later settle.later;
      published = publish_ok seen 3 _ _ _ r ends.answers;
      none = publish_err seen 3 _ _ _ r ends.answers;
      no_turns = done.no_turns;
      no_event = λ zero. no_event _ _ (Puts-trans _ _ _ [] [] (done.nothing zero).puts settle.nothing.puts);
      again = publish_again seen 3 _ _ _ r ends.answers;
      no_node = λ is. part_goes_on g.L.Links.agent_of agent (g.L.Links.lacking d agent) _ _ _ (g.met.L.Links.lacking_stays d agent) done.later settle.later
          (err_of _ is done.refused);
      spent = λ why is. part_goes_on g.L.Links.agent_of agent (g.L.Links.worn d agent why) _ _ _ (g.met.L.Links.worn_stays d agent why) done.later
          settle.later (err_of _ is done.refused);
      gives = gave_at_most ends.after.answered.piece;
      shared = λ was. gave_at_most
          (publish_ends _ _ _ _ _ _ _ _ settle.nothing (g.met.L.Links.allowed _ _ settle.pass) r (done.shared was)).after.answered.piece;
      tries = omega (arith, done.tries, made settle.nothing.puts);
      settled = λ alone. settle.settled
          (settling_alone g.L.Links d c.args.p.now c.publish_parts-answer.new.p c.settle.new.p done.later settle.later ends.before alone);
    }
