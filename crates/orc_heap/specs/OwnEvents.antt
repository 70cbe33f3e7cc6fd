-- What a call adds to what its pass has seen: events of its own, and others' events among them.
use Rattle.std.specs.List.{AllByRecursion}
use Rattle.std.specs.Prelude.{List, ℕ, ◌++◌, ◌<◌, ◌≡◌}
use Rattle.orc_heap.specs.Allowed.{events_by}
use Rattle.orc_heap.specs.Seats.{Seat}
use Rattle.orc_heap.specs.declared.events.Event.{Event}

-- the pass has seen more, and its own events in what is new are these, in this order
pub record Puts {N : Type 0} (s : Seat N) (own : List (Event N)) (t : Seat N) : Type 0 where
  pub part : List (Event N)
  pub is : t.seen ≡ s.seen ++ part
  pub agent : t.agent ≡ s.agent
  pub own_is : events_by s.agent part ≡ own

-- and nothing else that the pass shows has changed
pub record Only {N : Type 0} (own : List (Event N)) (s t : Seat N) : Type 0 where
  pub slots : t.slots ≡ s.slots
  pub fresh : t.fresh ≡ s.fresh
  pub puts : Puts s own t

-- each event is of an agent below this number
abbrev pub IsBelow : {N : Type 0} → ℕ → List (Event N) → Type 0
IsBelow {N} agents es = AllByRecursion (λ (e : Event N). e.agent < agents) es
