-- The records that a reader has given are the first ones of all.
use Rattle.std.proofs.Common.{◌≡◌, ◌∙◌, ◌++◌, true, false, List, [], ◌∷◌, ℕ, append_assoc}
use Rattle.std.specs.declared.option.Option.{Option}
use Rattle.std.specs.declared.option.Option.TheVariants.{Some}
use Rattle.csv.specs.Reading.{ReadRecord, Reached, default_config, source_of, strip_bom}
use Rattle.csv.specs.declared.reader.Reader.{Reader}
use Rattle.csv.specs.declared.parser.State.TheVariants as st
use Rattle.csv.proofs.ReadFacts.{rows-end, rows-more}
use Rattle.orc_job_files.proofs.CsvRecords.{all-records, first-records}
use Rattle.orc_job_files.specs.RecordFiles.{records_of}

-- one more record after those of some lines
pub line-and-more : {R : Type 0} (rem : R → Option (List ℕ)) (a b : Reader R) (f : List (List ℕ)) (bytes : List ℕ) (rows : List (List (List ℕ))) (y : List ℕ)
    → a.config ≡ default_config → source_of rem a ≡ Some y → Reached default_config st.StartRecord (strip_bom bytes) rows a.state y
    → ReadRecord rem a b true f
    → (rest : List (List (List ℕ))) × (records_of bytes ≡ rows ++ (f ∷ rest))
line-and-more rem a b f bytes rows y config source reached read =
    let m = rows-more rem a b f default_config st.StartRecord (strip_bom bytes) y rows config source reached read in
    let all = first-records (strip_bom bytes) (rows ++ (f ∷ [])) b.state m.0 m.2 in
    (all.0, all.1 ∙ append_assoc rows (f ∷ []) all.0)

-- no more record after those of some lines
pub lines-end : {R : Type 0} (rem : R → Option (List ℕ)) (a b : Reader R) (f : List (List ℕ)) (bytes : List ℕ) (rows : List (List (List ℕ))) (y : List ℕ)
    → a.config ≡ default_config → source_of rem a ≡ Some y → Reached default_config st.StartRecord (strip_bom bytes) rows a.state y
    → ReadRecord rem a b false f
    → records_of bytes ≡ rows
lines-end rem a b f bytes rows y config source reached read =
    all-records (strip_bom bytes) rows a.state y reached (rows-end rem a b f default_config y config source read)
