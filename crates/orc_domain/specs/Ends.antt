-- What all passes of a domain have seen together.
use Rattle.std.specs.Prelude.{All, List, length, ◌≡◌, ◌≤◌, ℕ}
use Rattle.orc_machine_rest.specs.Ends.{FirstSawAll, first_journal}
use Rattle.orc_core.specs.declared.records.Agent.{Agent}
use Rattle.orc_heap.specs.Seats.{IsIdle}
use Rattle.orc_heap.specs.declared.discipline.Discipline as discipline
use Rattle.orc_machine_board.specs.Passes.{backlog_in}
use Rattle.orc_machine_board.specs.Views.{shows}
use Rattle.orc_machine_board.specs.declared.machine.MachineShape.{MachineShape}
use Rattle.orc_machine_board.specs.declared.machine.Reclaiming.{Reclaiming}
use Rattle.orc_machine_board.specs.declared.machine.Request.{Request}
use Rattle.orc_projection.specs.Projection.{project}
use Rattle.orc_domain.specs.Passes.{IsPassOf, domain_bounds, journal_of, seat_of}
use Rattle.orc_domain.specs.declared.domain.OrcDomain.{OrcDomain}
use Rattle.orc_domain.specs.declared.domain.OrcPass.{OrcPass}
use Rattle.orc_shared_words.specs.Lists.{EachAt}
use Rattle.orc_shared_words.specs.declared.machine.Machine as machine
use Rattle.orc_sound.specs.declared.steps.Step.{Step}

module _ {D N : Type 0} {d : discipline.Ghosts D N} {m : machine.Ghosts Reclaiming N (MachineShape N) Request (Step N) Agent Agent} where
  -- these are all passes of the domain, in order of agent
  pub record AreAll (domain : OrcDomain D N) (passes : List (OrcPass D N d m)) : Type 0 where
    pub many : length passes ≡ (domain_bounds domain).agents
    pub belong : All (λ p. IsPassOf domain p) passes
    pub order : EachAt (λ i p. (shows p.pass).agent ≡ i) passes

  -- what the first pass has seen
  abbrev pub whole_journal : List (OrcPass D N d m) → List (Step N)
  whole_journal passes = first_journal (λ p. shows p.pass) passes

  -- the steps of each agent in it are exactly those that its own pass has seen
  abbrev pub SawAll : List (OrcPass D N d m) → Type 0
  SawAll passes = FirstSawAll (λ p. shows p.pass) passes

  -- all passes are idle
  abbrev pub AreIdle : OrcDomain D N → List (OrcPass D N d m) → Type 0
  AreIdle domain passes = All (λ p. IsIdle (seat_of domain p)) passes

  -- none has a retired row to work through
  abbrev pub HaveNoBacklog : List (OrcPass D N d m) → Type 0
  HaveNoBacklog passes = All (λ p. backlog_in (shows p.pass).record_is ≡ 0) passes

  -- all have seen what the first has seen
  abbrev pub SawOneList : List (OrcPass D N d m) → Type 0
  SawOneList passes = All (λ p. journal_of p ≡ whole_journal passes) passes

  -- the first has seen no more events now than the most that one of the passes had seen
  abbrev pub IsNoLonger : OrcDomain D N → (before after : List (OrcPass D N d m)) → Type 0
  IsNoLonger domain before after = (most : ℕ) → All (λ p. length (seat_of domain p).seen ≤ most) before
      → length (project (domain_bounds domain) (whole_journal after)) ≤ most

  -- where all passes had seen one list, the first has seen no event more
  abbrev pub AddsNoEvents : OrcDomain D N → (before after : List (OrcPass D N d m)) → Type 0
  AddsNoEvents domain before after = (j : List (Step N)) → All (λ p. journal_of p ≡ j) before
      → project (domain_bounds domain) (whole_journal after) ≡ project (domain_bounds domain) j
