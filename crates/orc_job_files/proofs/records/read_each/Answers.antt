use Rattle.std.proofs.Common.{true, false, Bor, List, ℕ, ◌≡◌, ◌∙◌, sym, refl, inl, inr, map, Some, ◌∷◌, ◌++◌, [], arith}
use Rattle.std.proofs.lemmas.Result.{err_from_is_err_and}
use Rattle.std.proofs.lemmas.List.{length-append, map-append}
use Rattle.std.proofs.lemmas.List.Elements.{All-nil, All-push}
use Rattle.std.specs.declared.option.Option.{Option}
use Rattle.csv.specs.Reading.{ExplainsRead, NotLengths, Reached, default_config, strip_bom}
use Rattle.csv.specs.declared.reader.Reader.{Reader}
use Rattle.csv.specs.declared.error.ErrorKind.{ErrorKind}
use Rattle.csv.specs.declared.error.ErrorKind.TheVariants as kind
use Rattle.csv.specs.Records.{fields_of}
use Rattle.csv.specs.declared.parser.State.TheVariants as st
use Rattle.csv.proofs.ReadFacts.{rows-more}
use Rattle.orc_job_files.specs.OneRecord.{RefusesFile, RefusesRecord}
use Rattle.orc_job_files.specs.RecordFiles.{BeginsWith}
use Rattle.orc_job_files.specs.declared.records.FileRefused.{FileRefused}
use Rattle.orc_job_files.specs.declared.records.FileRefused.TheVariants as fault
use Rattle.orc_job_files.proofs.LineRecords.{line-and-more, lines-end}
use Rattle.orc_job_files.proofs.records.read_each.Goals as goal

-- a file is refused as its next record is
refused-here : {L C : Type 0} (record_of : L → List (List ℕ)) (IsLine : L → Type 0) (HasCause : List (List ℕ) → C → Type 0) (bytes : List ℕ) (front : List L)
    (fields : List (List ℕ)) (rest : List (List (List ℕ))) (f : FileRefused C) → BeginsWith record_of IsLine bytes front (fields ∷ rest)
    → RefusesRecord HasCause front fields f → RefusesFile record_of IsLine HasCause bytes f
refused-here record_of IsLine HasCause bytes front fields rest (fault.Malformed at why) begins r = (front, fields, rest, begins, r.0, r.1, r.2)
refused-here record_of IsLine HasCause bytes front fields rest fault.TooMany begins r = (front, fields, rest, begins, r)
refused-here record_of IsLine HasCause bytes front fields rest fault.NoMemory begins r = tt

pub loop-row-init : goal.loop-row-init
unfolding Reached
loop-row-init g c =
    let fr = c.from_reader-reader.ensures in
    let e = c.has_headers.ensures in
    let f = c.flexible.ensures in
    let start = c.into_iter-row-iterator.ensures.into_iter_gives ∙ refl in
    let rdr = c.into_byte_records-row-items.ensures.rdr in
    let left = c.into_byte_records-row-items.ensures.left in
    rw (start, rdr, c.new-lines.ensures) (record {
      trim = rw (f, e) at fr.trim ∙ c.new.ensures.trim;
      ready = inr (inr (rw (f, e) at fr.has_headers, fr.headers));
      left = left;
      config = rw (f, e) at fr.config ∙ c.new.ensures.config;
      bytes = strip_bom c.args.bytes.now;
      source = fr.source;
      reached = (sym fr.state, refl);
      each = All-nil g.L.FromRecord.is_line;
      few = omega arith;
      flexible = rw f at fr.flexible;
    })

pub returns-in_err-take_record-clause-err : goal.returns-in_err-take_record-clause-err
returns-in_err-take_record-clause-err g c =
    let inv = c.loop-row.invariant in
    let s = rw (c.in-Some.is, c.in-Ok.is) at ((c.next.ensures.steps inv.left inv.trim).0 inv.ready) in
    let m = line-and-more (λ (s : Bor (List ℕ)). Some s.now) c.loop-row.row-iterator.rdr c.next.new.self.rdr
    (fields_of c.in-Ok.row) c.args.bytes.now (map g.L.FromRecord.spelling c.loop-row.lines) inv.bytes inv.config inv.source inv.reached s.0 in
    let p = err_from_is_err_and c.from_residual.result c.from_residual.ensures.1 in
    rw (p.1, p.2)
    (refused-here g.L.FromRecord.spelling g.L.FromRecord.is_line g.L.FromRecord.has_cause c.args.bytes.now c.loop-row.lines (fields_of c.in-Ok.row) m.0 c.in_err-take_record.field-0.0
    (record { records = m.1; each = inv.each }) c.in_err-take_record.ensures.err)

pub loop-row-preserved : goal.loop-row-preserved
loop-row-preserved g c =
    let inv = c.loop-row.invariant in
    let s = rw (c.in-Some.is, c.in-Ok.is) at ((c.next.ensures.steps inv.left inv.trim).0 inv.ready) in
    let m = rows-more (λ (s : Bor (List ℕ)). Some s.now) c.loop-row.row-iterator.rdr c.next.new.self.rdr
    (fields_of c.in-Ok.row) default_config st.StartRecord (strip_bom c.args.bytes.now) inv.bytes (map g.L.FromRecord.spelling c.loop-row.lines) inv.config inv.source inv.reached s.0 in
    let took = c.in_ok-take_record.ensures.ok in
    let room = took.room in
    let rows : map g.L.FromRecord.spelling c.take_record.new.lines ≡ map g.L.FromRecord.spelling c.loop-row.lines ++ (fields_of c.in-Ok.row ∷ []) =
    rw (took.joined, map-append g.L.FromRecord.spelling c.loop-row.lines (took.line ∷ []), took.spelled) refl in
    record {
      trim = s.0.3 ∙ inv.trim;
      ready = inl s.1;
      left = s.2;
      config = s.0.2 ∙ inv.config;
      bytes = m.0;
      source = m.1;
      reached = rw rows m.2;
      each = rw took.joined (All-push g.L.FromRecord.is_line c.loop-row.lines took.line inv.each took.is);
      few = rw took.joined (omega (arith, room, length-append c.loop-row.lines (took.line ∷ [])));
      flexible = rw (c.in-Some.is, c.in-Ok.is) at ((c.next.ensures.steps inv.left inv.trim).3) ∙ inv.flexible;
    }

pub returns-clause-ok : goal.returns-clause-ok
returns-clause-ok g c =
    let inv = c.loop-row.invariant in
    let s = rw c.in-None.is at ((c.next.ensures.steps inv.left inv.trim).0 inv.ready) in
    record {
      records = lines-end (λ (s : Bor (List ℕ)). Some s.now) c.loop-row.row-iterator.rdr c.next.new.self.rdr [] c.args.bytes.now (map g.L.FromRecord.spelling c.loop-row.lines)
          inv.bytes inv.config inv.source inv.reached s;
      each = inv.each;
      few = inv.few;
    }

explained : {R : Type 0} (rem : R → Option (List ℕ)) (a b : Reader R) (k : ErrorKind) → a.flexible ≡ true → ExplainsRead rem a b false k → NotLengths k
explained rem a b (kind.Io e) y h = tt
explained rem a b kind.OutOfMemory y h = tt
explained rem a b (kind.UnequalLengths pos expected len) y h = absurd (let bad : true ≡ false = sym y ∙ h.0 in cc bad)
explained rem a b (kind.Utf8 pos err) y h = tt
explained rem a b (kind.Serialize why) y h = tt
explained rem a b (kind.Deserialize pos err) y h = tt

pub fault_of-requires : goal.fault_of-requires
fault_of-requires g c =
    let inv = c.loop-row.invariant in
    let s = rw (c.in-Some.is, c.in-Err.is) at ((c.next.ensures.steps inv.left inv.trim).0 inv.ready) in
    explained (λ (s : Bor (List ℕ)). Some s.now) c.loop-row.row-iterator.rdr c.next.new.self.rdr c.in-Err.error.kind inv.flexible s
