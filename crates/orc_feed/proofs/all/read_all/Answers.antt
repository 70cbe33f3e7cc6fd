use Rattle.std.proofs.Common.{rules, ◌≡◌, ◌≤◌, ◌++◌, ◌∙◌, ap, length, take, arith}
use Rattle.std.proofs.lemmas.Result.{err_from_is_err_and}
use Rattle.std.proofs.lemmas.List.{append-nil, length-append, length-take, take-append-le}
use Rattle.std.proofs.lemmas.Grind.{common_steps}
use Rattle.orc_feed.proofs.Streams.{consumes-keeps, consumes-more, took_whole}
use Rattle.orc_feed.specs.Faults.{one_more}
use Rattle.orc_feed.proofs.all.read_all.Goals as goal

pub returns-in_default-clause-most : goal.returns-in_default-clause-most
returns-in_default-clause-most g c = (
  c.loop-chunk.all.items,
  consumes-keeps _ _ _ _ c.loop-chunk.invariant.bytes c.in_default.ensures.bytes,
  c.loop-chunk.invariant.room,
)

pub returns-in_default-clause-failed : goal.returns-in_default-clause-failed
returns-in_default-clause-failed g c _ = c.in_default.ensures.counted.failed ∙ ap one_more c.loop-chunk.invariant.faults

pub returns-then-at_end-clause-bytes : goal.returns-then-at_end-clause-bytes
returns-then-at_end-clause-bytes g c =
    let none = rw c.if-at_end.true at c.in-Ok.ensures.bytes.0 in
    rw append-nil at (consumes-more _ _ _ _ _ c.loop-chunk.invariant.bytes none)

pub returns-then-at_end-clause-all : goal.returns-then-at_end-clause-all
returns-then-at_end-clause-all g c few = c.in-Ok.ensures.bytes.1 c.if-at_end.true (search rules)

pub returns-then-at_end-clause-most : goal.returns-then-at_end-clause-most
returns-then-at_end-clause-most g c = (c.loop-chunk.all.items, returns-then-at_end-clause-bytes g c, c.loop-chunk.invariant.room)

pub returns-then-at_end-clause-whole : goal.returns-then-at_end-clause-whole
returns-then-at_end-clause-whole g c bytes is =
    took_whole c.args.limit bytes _ _ (rw is at (returns-then-at_end-clause-bytes g c)) (returns-then-at_end-clause-all g c)

pub returns-clause-all : goal.returns-clause-all
returns-clause-all g c few = absurd (omega (arith, c.len.ensures, c.loop-chunk-test.false, few))

pub returns-clause-most : goal.returns-clause-most
returns-clause-most g c = (c.loop-chunk.all.items, c.loop-chunk.invariant.bytes, c.loop-chunk.invariant.room)

pub returns-clause-whole : goal.returns-clause-whole
returns-clause-whole g c bytes is =
    took_whole c.args.limit bytes _ _ (rw is at c.loop-chunk.invariant.bytes) (returns-clause-all g c)

pub returns-in_err-extend_from_slice : goal.returns-in_err-extend_from_slice
returns-in_err-extend_from_slice g c =
    let p = err_from_is_err_and c.from_residual.result c.from_residual.ensures.1 in
    let before = c.loop-chunk.all.items in
    let piece = take c.in-Ok.count c.read.new.to in
    rw p.1 (record {
      bytes = tt;
      all = tt;
      bound = tt;
      whole = λ _ _. tt;
      most = (
        before ++ piece,
        consumes-more _ _ _ _ _ c.loop-chunk.invariant.bytes c.in-Ok.ensures.bytes.0,
        grind (arith, common_steps, length-append before piece, length-take c.in-Ok.count c.read.new.to, c.in-Ok.ensures.bound, c.loop-chunk.invariant.room),
      );
      answered = tt;
      memory = λ _. c.in-Ok.ensures.counted.answered ∙ c.loop-chunk.invariant.faults;
      failed = λ is. let refused = p.2 in search rules;
    })

pub returns-then-at_end-clause-answered : goal.returns-then-at_end-clause-answered
returns-then-at_end-clause-answered g c = c.in-Ok.ensures.counted.answered ∙ c.loop-chunk.invariant.faults

pub loop-chunk-preserved : goal.loop-chunk-preserved
loop-chunk-preserved g c =
    let before = c.loop-chunk.all.items in
    let piece = take c.in-Ok.count c.read.new.to in
    let there : c.in-Ok.count ≤ length c.read.new.to = c.in-Ok.ensures.bound.0 in
    let items : c.extend_from_slice.new.self.items ≡ before ++ piece = rw take-append-le at c.in_ok-extend_from_slice.ensures.items in
    record {
      room = rw items (grind (
        arith,
        common_steps,
        length-append before piece,
        length-take c.in-Ok.count c.read.new.to,
        c.in-Ok.ensures.bound,
        c.loop-chunk.invariant.room,
      ));
      faults = c.in-Ok.ensures.counted.answered ∙ c.loop-chunk.invariant.faults;
      bytes = rw items (consumes-more _ _ _ _ _ c.loop-chunk.invariant.bytes c.in-Ok.ensures.bytes.0);
    }
