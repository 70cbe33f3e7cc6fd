-- When a domain has no row left.
use Rattle.std.specs.Prelude.{◌≡◌, ℕ, ◌≤◌, List, length, take}
use Rattle.orc_heap.specs.Moves.{gives_in}
use Rattle.orc_heap.specs.declared.events.Event.{Event}

-- as many Gives as there are rows stand among the first events of the journal
pub record IsLacking {N : Type 0} (rows : ℕ) (journal : List (Event N)) (first : ℕ) : Type 0 where
  pub within : first ≤ length journal
  pub given : gives_in (take first journal) ≡ rows
