use Rattle.std.proofs.Common.{true, ◌≡◌, ◌<◌, ◌≤◌, All, List, ℕ, Some, length, map}
use Rattle.csv.specs.Reading.{Reached, Ready, is_flexible, default_config, source_of, strip_bom}
use Rattle.csv.specs.declared.parser.State.TheVariants as st
use Rattle.csv.specs.declared.reader.Trim.TheVariants as trim
use Rattle.orc_job_files.proofs.records.read_each.Given as goal

abbrev pub invariant-loop-row : goal.invariant-loop-row
invariant-loop-row g l = record {
  trim : l.row-iterator.rdr.trim ≡ trim.None;
  ready : Ready l.row-iterator.rdr;
  left : 0 < l.row-iterator.left;
  config : l.row-iterator.rdr.config ≡ default_config;
  bytes : List ℕ;
  source : source_of (λ s. Some s.now) l.row-iterator.rdr ≡ Some bytes;
  reached : Reached default_config st.StartRecord (strip_bom l.fn.bytes) (map g.L.FromRecord.spelling l.lines) l.row-iterator.rdr.state bytes;
  each : All g.L.FromRecord.is_line l.lines;
  few : length l.lines ≤ 65535;
  flexible : is_flexible l.row-iterator.rdr ≡ true;
}
