use Rattle.std.proofs.Common.{sym, arith}
use Rattle.orc_job_files.proofs.records.take_record.Goals as goal

pub returns-in-Err-Cause : goal.returns-in-Err-Cause
returns-in-Err-Cause g c = record {
  ok = tt;
  err = (sym c.len-place.ensures, c.if-place-ge-MOST_RECORDS.false, rw c.in-Err-Cause.field-0-is at c.in-Err-Cause.ensures.err);
}

pub returns-in-Ok-push : goal.returns-in-Ok-push
returns-in-Ok-push g c = record {
  ok = record {
    line = c.in-Ok.line;
    spelled = c.in-Ok.ensures.ok.0;
    is = c.in-Ok.ensures.ok.1;
    room = omega (arith, c.len-place.ensures, c.if-place-ge-MOST_RECORDS.false);
    joined = c.in-Ok-push.ensures.ok;
  };
  err = tt;
}
