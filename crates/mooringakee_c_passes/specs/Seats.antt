-- An agent's place at a container of any kind, and what a call through a pass answers.
use Rattle.std.specs.Prelude.{None, Option, Some, ◌≡◌}
use Rattle.mooringakee_c_passes.specs.Kinds.{BeginsAtZero, queue, set, split, calls_view}
use Rattle.mooringakee_c_passes.specs.Places.{IsUsablePlace}
use Rattle.mooringakee_c_passes.specs.QueueCalls.{QueueCallView}
use Rattle.mooringakee_c_passes.specs.SetCalls.{SetCallView}
use Rattle.mooringakee_c_passes.specs.SplitCalls.{SplitView, split_view}
use Rattle.mooringakee_c_passes.specs.declared.answer.Answer.{Answer}
use Rattle.mooringakee_c_passes.specs.declared.answer.Answer.TheVariants.{Kind, NoPass}
use Rattle.mooringakee_c_passes.specs.declared.seat.Seat.{Seat}
use Rattle.mooringakee_c_passes.specs.declared.seat.Seat.TheVariants.{Queue, Set, Split}

-- it can be used, and positions of a queue begin with 0
abbrev pub IsSeat : Seat → Type 0
IsSeat (Queue s) = IsUsablePlace s.container.value.queue.links.domain s × BeginsAtZero s.container.value.queue.links.domain
IsSeat (Set s) = IsUsablePlace s.container.value.set.list.links.domain s
IsSeat (Split s) = IsUsablePlace s.container.value.set.links.domain s

-- a call at a queue: the queue is the same, and a place at a set of any kind stays as it is
abbrev pub AtQueue : (QueueCallView → Answer → QueueCallView → Type 0) → Seat → Answer → Seat → Type 0
AtQueue call (Queue old) answer (Queue new) = (new.container ≡ old.container)
    × call (calls_view queue old.container.value.queue.links.domain old.turns old.pass) answer (calls_view queue new.container.value.queue.links.domain new.turns new.pass)
AtQueue call (Set old) Kind (Set new) = new ≡ old
AtQueue call (Split old) Kind (Split new) = new ≡ old
AtQueue call _ _ _ = ⊥

-- a call at a set of any kind: the set is the same, and a place at a queue stays as it is
abbrev pub AtSet : (SetCallView → Answer → SetCallView → Type 0) → Seat → Answer → Seat → Type 0
AtSet call (Set old) answer (Set new) = (new.container ≡ old.container)
    × call (calls_view set old.container.value.set.list.links.domain old.turns old.pass) answer (calls_view set new.container.value.set.list.links.domain new.turns new.pass)
AtSet call (Split old) answer (Split new) = (new.container ≡ old.container)
    × call (calls_view split old.container.value.set.links.domain old.turns old.pass) answer (calls_view split new.container.value.set.links.domain new.turns new.pass)
AtSet call (Queue old) Kind (Queue new) = new ≡ old
AtSet call _ _ _ = ⊥

-- a call at a split-ordered set: the set is the same, and a place at another container stays as it is
abbrev pub AtSplit : (SplitView → Answer → SplitView → Type 0) → Seat → Answer → Seat → Type 0
AtSplit call (Split old) answer (Split new) = (new.container ≡ old.container)
    × call (split_view old.container.value.set.links.domain old.turns old.pass) answer (split_view new.container.value.set.links.domain new.turns new.pass)
AtSplit call (Queue old) Kind (Queue new) = new ≡ old
AtSplit call (Set old) Kind (Set new) = new ≡ old
AtSplit call _ _ _ = ⊥

-- a call through a pass, which stands for a place, or is none
abbrev pub Through : (Seat → Answer → Seat → Type 0) → Option Seat → Answer → Option Seat → Type 0
Through call (Some old) answer (Some new) = call old answer new
Through call None NoPass None = Unit {0}
Through call _ _ _ = ⊥

-- what a pointer stands for is this place, and it can be used
abbrev pub IsPlaceOf : Option Seat → Seat → Type 0
IsPlaceOf seat s = (seat ≡ Some s) × IsSeat s
