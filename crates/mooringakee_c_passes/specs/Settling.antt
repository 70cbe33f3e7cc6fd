-- What settling answers, what a pass has left to work through, and what is told when passes are given up.
use Rattle.std.specs.Prelude.{None, Option, Some, [], ℕ, ◌≡◌}
use Rattle.orc_any_domain.specs.declared.domain.RowCounts.{RowCounts}
use Rattle.mooringakee_c_passes.specs.Ending.{TellsRows}
use Rattle.mooringakee_c_passes.specs.Kinds.{queue, set, split, calls_view}
use Rattle.mooringakee_c_passes.specs.Places.{SettlesQuietly, TookInAt, WasAloneAt, backlog_of}
use Rattle.mooringakee_c_passes.specs.Seats.{IsSeat}
use Rattle.mooringakee_c_passes.specs.Views.{GoesOn}
use Rattle.mooringakee_c_passes.specs.declared.answer.Answer.{Answer}
use Rattle.mooringakee_c_passes.specs.declared.answer.Answer.TheVariants.{Done, NoPass}
use Rattle.mooringakee_c_passes.specs.declared.seat.Seat.{Seat}
use Rattle.mooringakee_c_passes.specs.declared.seat.Seat.TheVariants.{Queue, Set, Split}

-- how many retired rows the pass has to work through
abbrev pub backlog_at : Seat → ℕ
backlog_at (Queue s) = backlog_of s.pass
backlog_at (Set s) = backlog_of s.pass
backlog_at (Split s) = backlog_of s.pass

-- no other agent made a step meanwhile
abbrev pub WasAlone : Seat → Seat → Type 0
WasAlone (Queue old) (Queue new) = WasAloneAt old.container.value.queue.links.domain old.pass new.pass
WasAlone (Set old) (Set new) = WasAloneAt old.container.value.set.list.links.domain old.pass new.pass
WasAlone (Split old) (Split new) = WasAloneAt old.container.value.set.links.domain old.pass new.pass
WasAlone _ _ = ⊥

-- the container is the same, and the place's agent entered nothing
abbrev pub StaysWithoutEntry : Seat → Seat → Type 0
StaysWithoutEntry (Queue old) (Queue new) = (new.container ≡ old.container)
    × GoesOn (calls_view queue old.container.value.queue.links.domain old.turns old.pass) [] (calls_view queue new.container.value.queue.links.domain new.turns new.pass)
StaysWithoutEntry (Set old) (Set new) = (new.container ≡ old.container)
    × GoesOn (calls_view set old.container.value.set.list.links.domain old.turns old.pass) [] (calls_view set new.container.value.set.list.links.domain new.turns new.pass)
StaysWithoutEntry (Split old) (Split new) = (new.container ≡ old.container)
    × GoesOn (calls_view split old.container.value.set.links.domain old.turns old.pass) [] (calls_view split new.container.value.set.links.domain new.turns new.pass)
StaysWithoutEntry _ _ = ⊥

-- the place's agent took in what was handed over to it
abbrev pub TookIn : Seat → Seat → Type 0
TookIn (Queue old) (Queue new) = TookInAt old.container.value.queue.links.domain old.pass new.pass
TookIn (Set old) (Set new) = TookInAt old.container.value.set.list.links.domain old.pass new.pass
TookIn (Split old) (Split new) = TookInAt old.container.value.set.links.domain old.pass new.pass
TookIn _ _ = ⊥

-- what was handed over was taken in, and nothing is left, or some rows, which is so only where other agents made steps meanwhile
abbrev pub SettlesPass : Seat → Answer → Seat → Type 0
SettlesPass old answer new = SettlesQuietly (StaysWithoutEntry old new × TookIn old new) (WasAlone old new) (backlog_at new) answer

-- a question how many rows are left
abbrev pub CountsBacklog : ℕ → Seat → Answer → Seat → Type 0
CountsBacklog count old Done new = (new ≡ old) × (count ≡ backlog_at old)
CountsBacklog count old _ new = ⊥

-- the pass is given up once it has settled, from a place that could be used
abbrev pub GivesPassUp : Option Seat → Answer → Option Seat → Type 0
GivesPassUp (Some old) answer None = (last : Seat) × IsSeat last × SettlesPass old answer last
GivesPassUp None NoPass None = Unit {0}
GivesPassUp _ _ _ = ⊥

-- the container came to rest, and these are the counts of its rows
abbrev pub TellsCounts : Seat → RowCounts → Type 0
TellsCounts (Queue s) counts = TellsRows s.container.value.queue.links.domain s.places.value counts
TellsCounts (Set s) counts = TellsRows s.container.value.set.list.links.domain s.places.value counts
TellsCounts (Split s) counts = TellsRows s.container.value.set.links.domain s.places.value counts
