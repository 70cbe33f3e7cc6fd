-- The retired bit of a row, and the one place that has the row while it is retired.
use Rattle.std.specs.List.{count_by}
use Rattle.std.specs.Prelude.{Bool, List, None, Option, Some, false, is_some, not, ℕ, ◌&&◌, ◌+◌, ◌<◌, ◌==◌, ◌≡◌, ◌≤◌}
use Rattle.orc_words.specs.Packed.{bit}
use Rattle.orc_words.specs.declared.place.Word.TheVariants.{Handover}
use Rattle.orc_core.specs.Counts.{is_retired}
use Rattle.orc_core.specs.Machine.{Machine, record_at, word_in}
use Rattle.orc_core.specs.RecordParts.{names, scans}
use Rattle.orc_core.specs.Sums.{count_below, sum_below}
use Rattle.orc_core.specs.declared.records.Agent.{Agent}
use Rattle.orc_core.specs.declared.records.Doom.{Doom}

-- the work list entries that are the row
abbrev pub listings : List ℕ → ℕ → ℕ
listings rows r = count_by (λ q. q == r) rows

-- the doom is the row, with its bit still set
abbrev pub dooming : Option Doom → ℕ → Bool
dooming None r = false
dooming (Some d) r = (d.row == r) && not d.bare

-- the places of a record that have the row: its hand, its scan, its doom unless that is bare, and its work list
abbrev pub places_of : Agent → ℕ → ℕ
places_of d r = bit (names d.hand r) + bit (scans d.scan r) + bit (dooming d.doom r) + listings d.list.items r

-- the places of all records, and the handover words, that have the row
abbrev pub tokens : Machine → ℕ → ℕ
tokens m r = sum_below m.bounds.agents (λ a. places_of (record_at m a) r)
    + sum_below m.bounds.agents (λ a. count_below 8 (λ k. word_in m (Handover a k) == r + 1))

-- an agent has at most one of hand, scan and doom
abbrev pub HasOnePart : Agent → Type 0
HasOnePart d = bit (is_some d.hand) + bit (is_some d.scan) + bit (is_some d.doom) ≤ 1

-- a row has its retired bit exactly where one place has it to see to
pub record RetirementToken (m : Machine) : Type 0 where
  -- one place has the row where its bit is set, and none where it is clear
  pub one : (r : ℕ) → r < m.bounds.rows → tokens m r ≡ bit (is_retired m r)
  pub part : (a : ℕ) → a < m.bounds.agents → HasOnePart (record_at m a)
