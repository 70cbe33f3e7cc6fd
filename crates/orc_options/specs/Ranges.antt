-- What the options with numbers take.
use Rattle.std.specs.Prelude.{codes, ℕ}
use Rattle.clap.specs.Words.{Text}
use Rattle.orc_options.specs.declared.ranges.NumberRange.{NumberRange}

-- the numbers that an option takes, and the text that stands for it where it isn't given
pub record Range : Type 0 where
  pub low : ℕ
  pub high : ℕ
  pub default : Text

-- what the program holds of an option
abbrev pub range_of : NumberRange → Range
range_of r = record { low = r.low; high = r.high; default = r.default.now }

abbrev pub posters : Range
posters = record { low = 1; high = 8; default = codes "1" }

abbrev pub takers : Range
takers = record { low = 0; high = 7; default = codes "0" }

abbrev pub stages : Range
stages = record { low = 1; high = 6; default = codes "2" }

abbrev pub rows : Range
rows = record { low = 8; high = 65535; default = codes "65535" }

abbrev pub buckets : Range
buckets = record { low = 1; high = 256; default = codes "16" }

abbrev pub seed : Range
seed = record { low = 1; high = 4294967295; default = codes "1" }

abbrev pub lines : Range
lines = record { low = 1; high = 60000; default = codes "20000" }
