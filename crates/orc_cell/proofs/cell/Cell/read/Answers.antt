-- What the call did, and the settling after it.
use Rattle.std.proofs.Common.{[], ap, arith}
use Rattle.std.specs.List.{slice_get}
use Rattle.orc_heap.proofs.Calls.{Puts-trans}
use Rattle.orc_heap.proofs.Pieces.{goes_on}
use Rattle.orc_heap.proofs.InJournal.{call_seen, settling_alone}
use Rattle.orc_heap.specs.Slots.{Slots}
use Rattle.orc_pairs_rule.specs.PairsDiscipline.{PairsMay}
use Rattle.orc_cell.proofs.Journals.{gave_at_most, no_event}
use Rattle.orc_cell.proofs.Settled.{idle_after, read_again, read_answers, read_ends, read_err, read_ok, staging_after}
use Rattle.orc_cell.proofs.Counting.{made}
use Rattle.orc_cell.proofs.cell.Cell.read.Goals as goal

pub read_turns-answer-requires : goal.read_turns-answer-requires
read_turns-answer-requires g c =
    let slots = c.requires.usable.idle.slots in
    record {
      pass = c.requires.usable.pass;
      made = c.args.self.now.made;
      slots = (
        record { above = omega arith; below = omega arith; empty = ap (λ (z : Slots). slice_get z 1) slots },
        record { above = omega arith; below = omega arith; empty = ap (λ (z : Slots). slice_get z 2) slots },
      );
    }

pub settle-requires : goal.settle-requires
settle-requires g c =
    let d = c.args.self.now.links in
    let done = c.read_turns-answer.ensures in
    let idle = c.requires.usable.idle in
    let any = read_answers _ c.args.turns _ _
    c.read_turns-answer.result done.read idle.fresh (g.met.L.Links.allowed _ _ done.pass) in
    record { pass = done.pass; idle = idle_after idle any.1 }

pub returns : goal.returns
returns g c =
    let d = c.args.self.now.links in
    let r = c.read_turns-answer.result in
    let done = c.read_turns-answer.ensures in
    let settle = c.settle.ensures in
    let usable = c.requires.usable in
    let ends = read_ends _ _ _ _ _ settle.nothing
    (g.met.L.Links.allowed _ _ settle.pass) usable.idle.fresh r done.read in
    let seen = call_seen PairsMay g.L.Links d c.args.p.now c.settle.new.p (g.met.L.Links.seen_is d) (g.met.L.Links.allowed d)
    (g.met.L.Links.agents_below d c.settle.new.p settle.pass).1 (g.met.L.Links.steps_add d) usable.pass settle.pass
    (goes_on _ _ _ done.later settle.later) in
    record {
      usable = record { pass = settle.pass; idle = idle_after usable.idle ends.after; staging = staging_after ends.after usable.staging };
      agent = ends.after.answered.piece.puts.agent;
      later = goes_on _ _ _ done.later settle.later;
      seen = read_ok seen _ r ends.answers;
      none = read_err seen _ r ends.answers;
      no_turns = done.no_turns;
      no_event = λ zero. no_event _ _ (Puts-trans _ _ _ [] [] (done.nothing zero).puts settle.nothing.puts);
      again = read_again seen _ r ends.answers;
      gives = gave_at_most ends.after.answered.piece;
      tries = omega (arith, done.tries, made settle.nothing.puts);
      settled = λ alone. settle.settled
          (settling_alone g.L.Links d c.args.p.now c.read_turns-answer.new.p c.settle.new.p done.later settle.later ends.before alone);
    }
