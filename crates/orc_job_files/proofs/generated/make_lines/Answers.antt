use Rattle.std.proofs.Common.{◌≡◌, ◌-◌, ◌+◌, arith}
use Rattle.orc_job_files.proofs.GeneratedLines.{all-made, generated-good, lines-one_more}
use Rattle.orc_job_files.proofs.generated.make_lines.Goals as goal

pub loop-id-preserved : goal.loop-id-preserved
loop-id-preserved c =
    let below = c.loop-id-test.true in
    let left : c.args.lines - c.loop-id.id ≡ (c.args.lines - (c.loop-id.id + 1)) + 1 = omega (arith, below) in
    rw (c.in_ok-push.ensures.ok, c.in_ok-line.ensures.0, c.in_ok-line.ensures.1)
    (lines-one_more c.loop-id.made _ (c.args.lines - c.loop-id.id) (c.args.lines - (c.loop-id.id + 1)) c.loop-id.id c.loop-id.state left c.loop-id.invariant)

pub returns-clause-good : goal.returns-clause-good
returns-clause-good c =
    let over = c.loop-id-test.false in
    let none : c.args.lines - c.loop-id.id ≡ 0 = omega (arith, over) in
    rw (all-made c.loop-id.made (c.args.lines - c.loop-id.id) c.loop-id.id c.loop-id.state c.args.seed c.args.lines none c.loop-id.invariant)
    (generated-good c.args.seed c.args.lines c.requires.lines.1)
