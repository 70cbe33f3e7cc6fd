-- What a call at a container entered, as its domain tells it, told of the same domain by its owner's name.
use Rattle.std.proofs.Common.{List, [], length, refl, subst, sym, ℕ, ◌<◌, ◌≡◌}
use Rattle.std.specs.List.{AllByRecursion}
use Rattle.orc_core.specs.declared.records.Agent.{Agent}
use Rattle.orc_domain.specs.Laws.Passes.{all_below}
use Rattle.orc_domain.specs.Passes.{IsPassOf, domain_bounds, domain_numbers, journal_of, seat_of}
use Rattle.orc_domain.specs.declared.domain.OrcDomain.{OrcDomain}
use Rattle.orc_domain.specs.declared.domain.OrcPass.{OrcPass}
use Rattle.orc_heap.specs.Heap.{HeapNumbers}
use Rattle.orc_heap.specs.OwnEvents.{Only}
use Rattle.orc_heap.specs.declared.discipline.Discipline as discipline
use Rattle.orc_heap.specs.declared.events.Event.{Event}
use Rattle.orc_history.specs.Journals.{Adds, Within}
use Rattle.orc_machine_board.specs.declared.machine.MachineShape.{MachineShape}
use Rattle.orc_machine_board.specs.declared.machine.Reclaiming.{Reclaiming}
use Rattle.orc_machine_board.specs.declared.machine.Request.{Request}
use Rattle.orc_shared_words.specs.declared.machine.Machine as machine
use Rattle.orc_sound.specs.declared.steps.Step.{Step}
use Rattle.mooringakee_c_passes.specs.Kinds.{ContainerKind, calls_in, calls_view}
use Rattle.mooringakee_c_passes.specs.Views.{GoesOn, RefusesCall}
use Rattle.mooringakee_c_passes.proofs.Quiet.{enters_none}

module _ {D N E W : Type 0} {d : discipline.Ghosts D N} {m : machine.Ghosts Reclaiming N (MachineShape N) Request (Step N) Agent Agent}
    (kind : ContainerKind D N E W) (x y : OrcDomain D N) (is : x ≡ y) (turns : ℕ) (old new : OrcPass D N d m)
    (legal : kind.IsLegal (calls_in kind x (journal_of new))) (agent : (seat_of x new).agent ≡ (seat_of x old).agent)
  where
    -- the call's own entries are these
    abbrev AddsOwn : List E → Type 0
    AddsOwn own = Adds kind.agent_of (λ (by : ℕ). by < (domain_bounds x).agents) (seat_of x old).agent (calls_in kind x (journal_of old)) own
        (calls_in kind x (journal_of new))

    at_this : (own : List E) → AddsOwn own → GoesOn (calls_view kind x turns old) own (calls_view kind x turns new)
    at_this own adds = record { turns = refl; agent = agent; entered = adds; legal = legal }

    pub entered : (own : List E) → AddsOwn own → GoesOn (calls_view kind y turns old) own (calls_view kind y turns new)
    entered own adds = subst (λ (z : OrcDomain D N). GoesOn (calls_view kind z turns old) own (calls_view kind z turns new)) is (at_this own adds)

    pub refused : (why : W) → AddsOwn []
        → Within (length (journal_of old)) (length (journal_of new)) (kind.cause x (seat_of x old).agent turns why (journal_of new))
        → RefusesCall (calls_view kind y turns old) why (calls_view kind y turns new)
    refused why adds because = subst (λ (z : OrcDomain D N). RefusesCall (calls_view kind z turns old) why (calls_view kind z turns new)) is (record {
      none = at_this [] adds;
      cause = subst (λ (n : ℕ). Within (length (journal_of old)) (length (journal_of new)) (kind.cause x n turns why (journal_of new))) (sym agent) because;
    })

module _ {D N E W : Type 0} {d : discipline.Ghosts D N} {m : machine.Ghosts Reclaiming N (MachineShape N) Request (Step N) Agent Agent}
    (kind : ContainerKind D N E W)
    (own : (n : HeapNumbers) (es : List (Event N)) (e : Event N) → d.may n es e → AllByRecursion (λ (x : E). kind.agent_of x ≡ e.agent) (kind.entries_in e.note))
    (x : OrcDomain D N) (turns : ℕ) (old new : OrcPass D N d m)
  where
    -- a pass that makes no event enters nothing
    pub quiet : kind.IsLegal (calls_in kind x (journal_of new)) → IsPassOf x new → Only [] (seat_of x old) (seat_of x new)
        → GoesOn (calls_view kind x turns old) [] (calls_view kind x turns new)
    quiet legal belongs only =
        entered kind x x refl turns old new legal only.puts.agent []
        (enters_none kind.entries_in kind.agent_of (d.may (domain_numbers x)) (own (domain_numbers x)) (domain_bounds x).agents (seat_of x old)
        (seat_of x new) only belongs.board.keeps.now.each (all_below x new belongs).1)
