use Rattle.std.proofs.Common.{rules, take, drop, sym, arith}
use Rattle.std.proofs.Math.Seq.{take-add}
use Rattle.std.proofs.lemmas.Result.{err_from_is_err_and}
use Rattle.std.proofs.lemmas.List.{append-nil, length-drop, take-append-drop, take_rest}
use Rattle.orc_feed.proofs.Streams.{appends-keeps, appends-more}
use Rattle.orc_feed.proofs.all.write_all.Goals as goal

pub returns-in_err-count-clause-err : goal.returns-in_err-count-clause-err
returns-in_err-count-clause-err g c =
    let p = err_from_is_err_and c.from_residual.result c.from_residual.ensures.1 in
    rw p.1 (
      take c.loop-at.at c.args.text.now,
      drop c.loop-at.at c.args.text.now,
      sym (take-append-drop _ _),
      appends-keeps _ _ _ _ c.loop-at.invariant.bytes c.in_err-count.ensures.bytes,
    )

pub returns-then-count-eq0-clause-err : goal.returns-then-count-eq0-clause-err
returns-then-count-eq0-clause-err g c =
    let none = rw c.if-count-eq0.true at c.in_ok-count.ensures.bytes in (
      take c.loop-at.at c.args.text.now,
      drop c.loop-at.at c.args.text.now,
      sym (take-append-drop _ _),
      rw append-nil at (appends-more _ _ _ _ _ c.loop-at.invariant.bytes none),
    )

pub loop-at-preserved : goal.loop-at-preserved
loop-at-preserved g c =
    let bound = rw take_rest at c.in_ok-count.ensures.bound in
    record {
      room = omega (arith, length-drop c.loop-at.at c.args.text.now, bound);
      faults = search rules;
      bytes = rw (take-add c.loop-at.at c.in_ok-count.count c.args.text.now)
          (appends-more _ _ _ _ _ c.loop-at.invariant.bytes (rw take_rest at c.in_ok-count.ensures.bytes));
    }
