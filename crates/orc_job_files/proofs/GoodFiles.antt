-- The lines of a file are good.
use Rattle.std.proofs.Common.{◌≤◌, List, [], ◌∷◌, ℕ, arith, ap, length, map}
use Rattle.std.specs.List.{sum_by}
use Rattle.std.proofs.lemmas.List.Sums.{sum_by-cons}
use Rattle.orc_job_files.proofs.RecordSizes.{size_of, sizes_of, sizes-records_of}
use Rattle.orc_job_files.specs.JobGrammar.{IsFileOf, record_of}
use Rattle.orc_jobs.specs.GoodLines.{AreGood}
use Rattle.orc_jobs.specs.Line.{text_size}
use Rattle.orc_jobs.specs.declared.line.Line.{Line}
use Rattle.orc_jobs.specs.declared.line.Line.TheVariants as line
use Rattle.orc_jobs.specs.declared.lines.TheConstants.{MOST_BYTES}

-- the text of a line is a field of its record
text-in-record : (l : Line) → text_size l ≤ size_of (record_of l)
text-in-record (line.Post id op text) = omega arith
text-in-record (line.Rush id op text) = omega arith
text-in-record (line.Drop id) = omega arith

-- the texts of lines are fields of their records
texts-in-records : (lines : List Line) → sum_by text_size lines ≤ sizes_of (map record_of lines)
texts-in-records [] = omega arith
texts-in-records (l ∷ ls) = let rest = texts-in-records ls in omega (arith, rest, text-in-record l, sum_by-cons text_size l ls)

-- the lines of a file that is not too long are good
pub good_file : (lines : List Line) (bytes : List ℕ) → length bytes ≤ MOST_BYTES → IsFileOf lines bytes → AreGood lines
good_file lines bytes short file =
    let sizes = sizes-records_of bytes in
    let records = ap sizes_of file.records in
    record {
      few = file.few;
      each = file.each;
      small = omega (arith, short, sizes, records, texts-in-records lines);
    }
