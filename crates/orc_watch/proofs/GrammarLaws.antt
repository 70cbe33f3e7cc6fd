-- The laws of the lines of a watch file.
use Rattle.orc_job_files.proofs.FileLaws.{AreDetermined}
use Rattle.orc_watch.specs.WatchGrammar.{HasCause, IsLine, record_of}
use Rattle.orc_watch.specs.Laws.WatchLines.{known_by_record, line_has_no_cause, record_has_one_cause}

pub laws : AreDetermined record_of IsLine HasCause
laws = record {
  same_line = known_by_record;
  no_cause = line_has_no_cause;
  one_cause = record_has_one_cause;
}
