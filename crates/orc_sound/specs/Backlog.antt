-- The retired rows that are in no work list.
use Rattle.std.specs.List.{list_any}
use Rattle.std.specs.Prelude.{Bool, not, ℕ, ◌&&◌, ◌==◌}
use Rattle.orc_core.specs.Counts.{is_retired}
use Rattle.orc_core.specs.Machine.{Machine, record_at}
use Rattle.orc_core.specs.Sums.{count_below, some_below}

-- some work list has the row
abbrev pub is_listed : Machine → ℕ → Bool
is_listed m r = some_below m.bounds.agents (λ a. list_any (λ q. q == r) (record_at m a).list.items)

-- how many retired rows are in no work list
abbrev pub backlog : Machine → ℕ
backlog m = count_below m.bounds.rows (λ r. is_retired m r && not (is_listed m r))
