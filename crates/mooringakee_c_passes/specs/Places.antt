-- An agent's place at a container over a domain: when it can be used, what it has left to work through, and how it settles.
use Rattle.std.specs.Prelude.{List, [], slice_index_or, ℕ, ◌≡◌}
use Rattle.given_back.specs.Places.{tags}
use Rattle.given_back.specs.declared.places.GivenBack.{GivenBack}
use Rattle.orc_core.specs.declared.records.Agent.{Agent}
use Rattle.orc_domain.specs.Passes.{domain_bounds, journal_of, seat_of}
use Rattle.orc_domain.specs.declared.domain.OrcDomain.{OrcDomain}
use Rattle.orc_domain.specs.declared.domain.OrcPass.{OrcPass}
use Rattle.orc_heap.specs.OwnEvents.{Only}
use Rattle.orc_heap.specs.declared.discipline.Discipline as discipline
use Rattle.orc_history.specs.Parts.{IsAlone}
use Rattle.orc_machine_board.specs.Passes.{backlog_in}
use Rattle.orc_machine_board.specs.Rules.{run_of}
use Rattle.orc_machine_board.specs.Views.{shows}
use Rattle.orc_machine_board.specs.declared.machine.MachineShape.{MachineShape}
use Rattle.orc_machine_board.specs.declared.machine.Reclaiming.{Reclaiming}
use Rattle.orc_machine_board.specs.declared.machine.Request.{Request}
use Rattle.orc_machine_rest.specs.OwnSteps.{TakesInAll}
use Rattle.orc_rest.specs.Turns.{NoneHanded}
use Rattle.orc_shared_words.specs.declared.machine.Machine as machine
use Rattle.orc_sound.specs.declared.steps.Step.{Step}
use Rattle.mooringakee_c_passes.specs.Kinds.{ContainerKind, calls_in}
use Rattle.mooringakee_c_passes.specs.Usable.{CanBeUsed}
use Rattle.mooringakee_c_passes.specs.declared.answer.Answer.{Answer}
use Rattle.mooringakee_c_passes.specs.declared.answer.Answer.TheVariants.{Done, Kept}
use Rattle.mooringakee_c_passes.specs.declared.place.AgentPlace.{AgentPlace}
use Rattle.mooringakee_c_passes.specs.declared.seat.Seat.{Seat}

-- the seat of the i-th of these passes: its place is at this container, and has these places to give passes back to
pub record GetsPlace {C G P : Type 0} (seats : AgentPlace C G P → Seat → Type 0) (container : C) (places : G) (passes : List P) (turns i : ℕ)
    (seat : Seat) : Type 0 where
  pub place : AgentPlace C G P
  pub is : seats place seat
  pub container_is : place.container.value ≡ container
  pub places_are : place.places.value ≡ places
  pub pass_is : (p : P) → slice_index_or passes i p ≡ place.pass
  pub turns_are : place.turns ≡ turns

-- nothing is left, or some rows, which is so only where other agents made steps meanwhile; and the rest is quiet
abbrev pub SettlesQuietly : (Quiet Alone : Type 0) → ℕ → Answer → Type 0
SettlesQuietly Quiet Alone left Done = Quiet × (left ≡ 0)
SettlesQuietly Quiet Alone left Kept = Quiet × (¬ Alone)
SettlesQuietly Quiet Alone left _ = ⊥

module _ {D N : Type 0} {d : discipline.Ghosts D N} {m : machine.Ghosts Reclaiming N (MachineShape N) Request (Step N) Agent Agent} where
  -- how many retired rows a pass has to work through: those in its work list, and one that it has in hand or scanned
  abbrev pub backlog_of : OrcPass D N d m → ℕ
  backlog_of p = backlog_in (shows p.pass).record_is

  -- no other agent made a step meanwhile
  abbrev pub WasAloneAt : OrcDomain D N → (old new : OrcPass D N d m) → Type 0
  WasAloneAt domain old new = IsAlone (λ step. step.agent) (seat_of domain old).agent (journal_of old) (journal_of new)

  -- the agent took in what was handed over to it beside each of its slots; and nothing is left there where no other agent made a step
  -- meanwhile
  pub record TookInAt (domain : OrcDomain D N) (old new : OrcPass D N d m) : Type 0 where
    pub each : TakesInAll (seat_of domain old).agent (journal_of old) (journal_of new)
    pub none_left : WasAloneAt domain old new → NoneHanded (seat_of domain old).agent (run_of (domain_bounds domain) (journal_of new))

  module _ {C T K : Type 0} where
    -- the place can be used over this domain
    abbrev pub IsUsablePlace : OrcDomain D N
        → AgentPlace C (GivenBack T K (OrcDomain D N)) (OrcPass D N d m) → Type 0
    IsUsablePlace domain s = CanBeUsed domain (tags s.places.value) s.pass

    -- the place is the same, and its pass made no event
    pub record StaysWithoutEvent (domain : OrcDomain D N)
        (old new : AgentPlace C (GivenBack T K (OrcDomain D N)) (OrcPass D N d m)) : Type 0 where
      pub container : new.container ≡ old.container
      pub turns : new.turns ≡ old.turns
      pub nothing : Only [] (seat_of domain old.pass) (seat_of domain new.pass)

    -- settling: the place is the same, and its pass made no event, and took in what was handed over to its agent
    abbrev pub SettlesPlace : OrcDomain D N → AgentPlace C (GivenBack T K (OrcDomain D N)) (OrcPass D N d m)
        → Answer → AgentPlace C (GivenBack T K (OrcDomain D N)) (OrcPass D N d m) → Type 0
    SettlesPlace domain old answer new =
        SettlesQuietly (StaysWithoutEvent domain old new × TookInAt domain old.pass new.pass) (WasAloneAt domain old.pass new.pass) (backlog_of new.pass) answer

    -- the agent's place at a new container over this domain, by the domain that its own container stands on
    pub record IsNewPlace {E W : Type 0} (kind : ContainerKind D N E W) (domain : OrcDomain D N) (turns agent : ℕ) (own : OrcDomain D N)
        (s : AgentPlace C (GivenBack T K (OrcDomain D N)) (OrcPass D N d m)) : Type 0 where
      pub usable : IsUsablePlace own s
      pub domain_is : own ≡ domain
      pub turns_are : s.turns ≡ turns
      pub agent_is : (seat_of own s.pass).agent ≡ agent
      pub none : calls_in kind own (journal_of s.pass) ≡ []
