-- What the words of a command line say.
use Rattle.std.specs.Prelude.{◌≡◌, ◌≢◌, ◌≤◌, Bool, false, List, [], ℕ, Option, Some, None, codes, if◌then◌else◌}
use Rattle.std.specs.Str.{bytes_eq}
use Rattle.std.specs.Str.Parse.{digits_value, without_leading_plus}
use Rattle.clap.specs.ValueTests.{is_unsigned_in}
use Rattle.clap.specs.Words.{App, Row, Text, first_of, matches_of, one_of}
use Rattle.clap.specs.Faults.{fault_of}
use Rattle.orc_options.specs.Options.{IsCommand}
use Rattle.orc_options.specs.Ranges.{Range}
use Rattle.orc_options.specs.Ranges as ranges
use Rattle.orc_options.specs.declared.settings.Mode.{Mode}
use Rattle.orc_options.specs.declared.settings.Mode.TheVariants as mode
use Rattle.orc_options.specs.declared.settings.SetKind.{SetKind}
use Rattle.orc_options.specs.declared.settings.SetKind.TheVariants as kind
use Rattle.orc_options.specs.declared.settings.Settings.{Settings}

-- the number that an option's text is, which is one of the range; the least of them, where it were none
abbrev pub number_in : Range → Option Text → ℕ
number_in range None = range.low
number_in range (Some text) =
    if is_unsigned_in range.low range.high text then digits_value 10 (without_leading_plus text) else range.low

-- the mode that the option's word names
abbrev pub mode_in : Option Text → Mode
mode_in None = mode.Run
mode_in (Some text) =
    if bytes_eq text (codes "make") then mode.Make
    else
    (if bytes_eq text (codes "trial") then mode.Trial
    else (if bytes_eq text (codes "replay") then mode.Replay else (if bytes_eq text (codes "audit") then mode.Audit
    else (if bytes_eq text (codes "watch") then mode.Watch else (if bytes_eq text (codes "stages") then mode.Stages else mode.Run)))))

-- the set that the option's word names
abbrev pub set_in : Option Text → SetKind
set_in None = kind.List
set_in (Some text) = if bytes_eq text (codes "split") then kind.Split else kind.List

-- whether the option's word is yes
abbrev pub yes_in : Option Text → Bool
yes_in None = false
yes_in (Some text) = bytes_eq text (codes "yes")

-- the settings that the matches give
abbrev pub settings_in : List Row → Settings
settings_in rows = record {
  mode = mode_in (first_of (codes "mode") rows);
  posters = number_in ranges.posters (one_of (codes "posters") rows);
  takers = number_in ranges.takers (one_of (codes "takers") rows);
  stages = number_in ranges.stages (one_of (codes "stages") rows);
  rows = number_in ranges.rows (one_of (codes "rows") rows);
  set = set_in (first_of (codes "set") rows);
  buckets = number_in ranges.buckets (one_of (codes "buckets") rows);
  rest = yes_in (first_of (codes "rest") rows);
  seed = number_in ranges.seed (one_of (codes "seed") rows);
  lines = number_in ranges.lines (one_of (codes "lines") rows);
}

-- each number lies in the range of its option
pub record AreInRange (s : Settings) : Type 0 where
  pub some_posters : ranges.posters.low ≤ s.posters
  pub few_posters : s.posters ≤ ranges.posters.high
  pub few_takers : s.takers ≤ ranges.takers.high
  pub some_stages : ranges.stages.low ≤ s.stages
  pub few_stages : s.stages ≤ ranges.stages.high
  pub some_rows : ranges.rows.low ≤ s.rows
  pub few_rows : s.rows ≤ ranges.rows.high
  pub some_buckets : ranges.buckets.low ≤ s.buckets
  pub few_buckets : s.buckets ≤ ranges.buckets.high
  pub some_seed : ranges.seed.low ≤ s.seed
  pub few_seed : s.seed ≤ ranges.seed.high
  pub some_lines : ranges.lines.low ≤ s.lines
  pub few_lines : s.lines ≤ ranges.lines.high

-- `clap` takes the words, and its matches give these settings
pub record GivesSettings (words : List Text) (s : Settings) : Type 0 where
  pub app : App
  pub is_command : IsCommand app
  pub taken : fault_of app words ≡ []
  pub settings : s ≡ settings_in (matches_of app words)

-- `clap` refuses the words, for another cause than memory
pub record RefusesWords (words : List Text) : Type 0 where
  pub app : App
  pub is_command : IsCommand app
  pub refused : fault_of app words ≢ []

-- the words ask for this mode
abbrev pub AskFor : List Text → Mode → Type 0
AskFor words m = (s : Settings) × GivesSettings words s × (s.mode ≡ m)
