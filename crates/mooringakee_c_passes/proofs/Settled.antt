-- A place that settled stays one at which nothing was entered, and took in what was handed over.
use Rattle.std.proofs.Common.{List, [], subst, sym, ℕ, ◌≡◌}
use Rattle.std.specs.List.{AllByRecursion}
use Rattle.given_back.specs.declared.places.GivenBack.{GivenBack}
use Rattle.orc_core.specs.declared.records.Agent.{Agent}
use Rattle.orc_domain.specs.Passes.{IsPassOf, journal_of}
use Rattle.orc_domain.specs.declared.domain.OrcDomain.{OrcDomain}
use Rattle.orc_domain.specs.declared.domain.OrcPass.{OrcPass}
use Rattle.orc_heap.specs.Heap.{HeapNumbers}
use Rattle.orc_heap.specs.declared.discipline.Discipline as discipline
use Rattle.orc_heap.specs.declared.events.Event.{Event}
use Rattle.orc_machine_board.specs.declared.machine.MachineShape.{MachineShape}
use Rattle.orc_machine_board.specs.declared.machine.Reclaiming.{Reclaiming}
use Rattle.orc_machine_board.specs.declared.machine.Request.{Request}
use Rattle.orc_shared_words.specs.declared.machine.Machine as machine
use Rattle.orc_sound.specs.declared.steps.Step.{Step}
use Rattle.mooringakee_c_passes.specs.Kinds.{ContainerKind, calls_in, calls_view}
use Rattle.mooringakee_c_passes.specs.Places.{StaysWithoutEvent, SettlesQuietly, SettlesPlace, TookInAt, WasAloneAt, backlog_of}
use Rattle.mooringakee_c_passes.specs.Views.{GoesOn}
use Rattle.mooringakee_c_passes.specs.declared.answer.Answer.{Answer}
use Rattle.mooringakee_c_passes.specs.declared.answer.Answer.TheVariants.{Again, Done, Empty, Full, Kept, Kind as OtherKind, Live, NoMemory, NoPass, Others, Positions, Shape, Spent}
use Rattle.mooringakee_c_passes.specs.declared.place.AgentPlace.{AgentPlace}
use Rattle.mooringakee_c_passes.proofs.Entering.{quiet}

settles_so : (Quiet Stays Alone : Type 0) (left : ℕ) (answer : Answer) → (Quiet → Stays) → SettlesQuietly Quiet Alone left answer
    → SettlesQuietly Stays Alone left answer
settles_so Quiet Stays Alone left Done leads h = (leads h.0, h.1)
settles_so Quiet Stays Alone left Kept leads h = (leads h.0, h.1)
settles_so Quiet Stays Alone left Again leads h = h
settles_so Quiet Stays Alone left Empty leads h = h
settles_so Quiet Stays Alone left Full leads h = h
settles_so Quiet Stays Alone left OtherKind leads h = h
settles_so Quiet Stays Alone left Live leads h = h
settles_so Quiet Stays Alone left NoMemory leads h = h
settles_so Quiet Stays Alone left NoPass leads h = h
settles_so Quiet Stays Alone left Others leads h = h
settles_so Quiet Stays Alone left Positions leads h = h
settles_so Quiet Stays Alone left Shape leads h = h
settles_so Quiet Stays Alone left Spent leads h = h

module _ {D N E W C T K : Type 0} {d : discipline.Ghosts D N} {m : machine.Ghosts Reclaiming N (MachineShape N) Request (Step N) Agent Agent}
    (kind : ContainerKind D N E W)
    (own : (n : HeapNumbers) (es : List (Event N)) (e : Event N) → d.may n es e → AllByRecursion (λ (x : E). kind.agent_of x ≡ e.agent) (kind.entries_in e.note))
    (old new : AgentPlace C (GivenBack T K (OrcDomain D N)) (OrcPass D N d m)) (domain_of : C → OrcDomain D N)
    (legal : kind.IsLegal (calls_in kind (domain_of old.container.value) (journal_of new.pass))) (belongs : IsPassOf (domain_of old.container.value) new.pass)
  where
    -- the container is the same, and nothing was entered
    abbrev Stays : Type 0
    Stays = (new.container ≡ old.container) × GoesOn (calls_view kind (domain_of old.container.value) old.turns old.pass) []
        (calls_view kind (domain_of new.container.value) new.turns new.pass)

    stays : StaysWithoutEvent (domain_of old.container.value) old new → Stays
    stays q = (
      q.container,
      subst (λ v. GoesOn (calls_view kind (domain_of old.container.value) old.turns old.pass) [] v)
          (λ j. calls_view kind (domain_of (sym q.container j).value) (sym q.turns j) new.pass)
          (quiet kind own (domain_of old.container.value) old.turns old.pass new.pass legal belongs q.nothing),
    )

    pub settled : (answer : Answer) → SettlesPlace (domain_of old.container.value) old answer new
        → SettlesQuietly (Stays × TookInAt (domain_of old.container.value) old.pass new.pass)
        (WasAloneAt (domain_of old.container.value) old.pass new.pass) (backlog_of new.pass) answer
    settled answer h = settles_so _ _ _ (backlog_of new.pass) answer (λ q. (stays q.0, q.1)) h
