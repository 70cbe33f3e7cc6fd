-- Files of records each of which is the spelling of a line: of which lines bytes are the file, and what is first amiss with other bytes.
-- The records are those of RFC 4180 as the crate `csv` reads them, with no header row, of any lengths, and all else at its defaults.
use Rattle.std.specs.Prelude.{◌≡◌, ◌<◌, ◌≤◌, ◌∷◌, ◌++◌, All, List, [], ℕ, length, map, slice_index_or}
use Rattle.csv.specs.Reading.{default_config, records, strip_bom}

-- every record of the bytes without a byte order mark, each the list of its fields
abbrev pub records_of : List ℕ → List (List (List ℕ))
records_of bytes = records default_config (strip_bom bytes)

-- a field of a record, or nothing past its end
abbrev pub field : List (List ℕ) → ℕ → List ℕ
field fields place = slice_index_or fields place []

-- the cause of a record: the first in their order that applies
pub record HasFirst {C : Type 0} (Applies : C → List (List ℕ) → Type 0) (rank_of : C → ℕ) (fields : List (List ℕ)) (why : C) : Type 0 where
  pub applies : Applies why fields
  pub first : (earlier : C) → rank_of earlier < rank_of why → ¬ Applies earlier fields

-- of lines, how each is spelled, and which one a record may stand for
module _ {L : Type 0} (record_of : L → List (List ℕ)) (IsLine : L → Type 0) where
  -- the bytes are the file of these lines
  pub record IsFile (lines : List L) (bytes : List ℕ) : Type 0 where
    pub records : records_of bytes ≡ map record_of lines
    pub each : All IsLine lines
    pub few : length lines ≤ 65535

  -- the records of the bytes are these lines and then these others
  pub record BeginsWith (bytes : List ℕ) (front : List L) (rest : List (List (List ℕ))) : Type 0 where
    pub records : records_of bytes ≡ map record_of front ++ rest
    pub each : All IsLine front

  -- some lines, and then a record with this cause within the first 65,535
  abbrev pub IsMalformed : {C : Type 0} → (List (List ℕ) → C → Type 0) → List ℕ → ℕ → C → Type 0
  IsMalformed HasCause bytes at why = (front : List L) × (bad : List (List ℕ)) × (rest : List (List (List ℕ)))
      × BeginsWith bytes front (bad ∷ rest) × (length front ≡ at) × (at < 65535) × HasCause bad why

  -- 65,535 lines, and then any record
  abbrev pub HasTooMany : List ℕ → Type 0
  HasTooMany bytes = (front : List L) × (more : List (List ℕ)) × (rest : List (List (List ℕ)))
      × BeginsWith bytes front (more ∷ rest) × (length front ≡ 65535)

  -- the line that a record is the spelling of joins the lines, of which there was room for one more
  pub record TakesRecord (old new : List L) (fields : List (List ℕ)) : Type 0 where
    pub line : L
    pub spelled : fields ≡ record_of line
    pub is : IsLine line
    pub room : length old < 65535
    pub joined : new ≡ old ++ line ∷ []
