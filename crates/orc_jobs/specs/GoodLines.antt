-- Lines that one job file can hold.
use Rattle.std.specs.Prelude.{◌≤◌, All, List, length}
use Rattle.std.specs.List.{sum_by}
use Rattle.orc_jobs.specs.Line.{IsLine, text_size}
use Rattle.orc_jobs.specs.declared.line.Line.{Line}
use Rattle.orc_jobs.specs.declared.lines.TheConstants.{MOST_BYTES}

-- no more than 65,535 lines, each one that a record can stand for, with no more bytes of text in all than a job file has
pub record AreGood (lines : List Line) : Type 0 where
  pub few : length lines ≤ 65535
  pub each : All IsLine lines
  pub small : sum_by text_size lines ≤ MOST_BYTES
