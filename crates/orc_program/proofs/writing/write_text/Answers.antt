use Rattle.std.proofs.Common.{inl, inr, refl, sym}
use Rattle.orc_program.proofs.writing.write_text.Goals as goal

pub returns-in-Ok : goal.returns-in-Ok
returns-in-Ok g c = record {
  statuses = inl refl;
  written = λ _. c.in-Ok.ensures.ok;
  cut_short = λ five. absurd (c.requires five);
  fault = λ five. absurd (c.requires five);
  no_fault = λ _. c.in-Ok.ensures.counted.answered;
}

pub returns-in-Err : goal.returns-in-Err
returns-in-Err g c = record {
  statuses = inr refl;
  written = λ five. absurd (c.requires (sym five));
  cut_short = λ _. c.in-Err.ensures.err;
  fault = λ _. c.in-Err.ensures.counted.failed;
  no_fault = λ other. absurd (other refl);
}
