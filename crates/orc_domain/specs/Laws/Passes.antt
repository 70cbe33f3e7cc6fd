-- Laws of the passes of a domain.
use Rattle.std.specs.List.{AllByRecursion}
use Rattle.std.specs.Prelude.{List, [], ℕ, ◌<◌, ◌∷◌}
use mathlib.Core.List.{IsPrefix}
use Rattle.orc_core.specs.declared.records.Agent.{Agent}
use Rattle.orc_heap.specs.Acts.{IsKnown}
use Rattle.orc_heap.specs.Journals.{run_heap}
use Rattle.orc_heap.specs.OwnEvents.{IsBelow}
use Rattle.orc_heap.specs.Slots.{Hold, Holds, id_in}
use Rattle.orc_heap.specs.declared.discipline.Discipline as discipline
use Rattle.orc_machine_board.specs.Laws.Steps.{in_range}
use Rattle.orc_machine_board.specs.declared.machine.MachineShape.{MachineShape}
use Rattle.orc_machine_board.specs.declared.machine.Reclaiming.{Reclaiming}
use Rattle.orc_machine_board.specs.declared.machine.Request.{Request}
use Rattle.orc_domain.specs.Laws.Holding.{known_held}
use Rattle.orc_domain.specs.Laws.Opened.{below_all, opens_so}
use Rattle.orc_domain.specs.Passes.{IsPassOf, domain_bounds, domain_numbers, domain_opening, journal_of, seat_of}
use Rattle.orc_domain.specs.declared.domain.OrcDomain.{OrcDomain}
use Rattle.orc_domain.specs.declared.domain.OrcPass.{OrcPass}
use Rattle.orc_shared_words.specs.Runs.{AgentsBelow}
use Rattle.orc_shared_words.specs.declared.machine.Machine as machine
use Rattle.orc_sound.specs.declared.steps.Step.{Step}

each_below : {N : Type 0} (n : ℕ) (j : List (Step N)) → AgentsBelow (λ (s : Step N). s.agent) n j → AllByRecursion (λ (s : Step N). s.agent < n) j
each_below n [] h = tt
each_below n (s ∷ ss) h = (h.0, each_below n ss h.1)

module _ {D N : Type 0} {d : discipline.Ghosts D N} {m : machine.Ghosts Reclaiming N (MachineShape N) Request (Step N) Agent Agent}
    (domain : OrcDomain D N) (p : OrcPass D N d m) (h : IsPassOf domain p)
  where
    pub begins_so : IsPrefix (domain_opening domain) (seat_of domain p).seen
    begins_so =
        let k = domain.board.words.shape in
        let now = h.board.keeps.now in
        opens_so (domain_bounds domain) k.seed p.pass.pass.seat.me.0.seen (in_range k.shape) now.lawful.0 now.opened

    pub all_below : ((seat_of domain p).agent < (domain_bounds domain).agents) × IsBelow (domain_bounds domain).agents (seat_of domain p).seen
    all_below = (h.board.keeps.number, below_all (domain_bounds domain) p.pass.pass.seat.me.0.seen h.board.keeps.now.below)

    pub all_of_agents : AllByRecursion (λ (s : Step N). s.agent < (domain_bounds domain).agents) (journal_of p)
    all_of_agents = each_below (domain_bounds domain).agents (journal_of p) h.board.keeps.now.below

    pub held_known : (hold : Hold) → Holds (seat_of domain p).slots hold
        → IsKnown (seat_of domain p).agent (run_heap (domain_numbers domain) (seat_of domain p).seen) (id_in (seat_of domain p).slots hold)
    held_known =
        let now = h.board.keeps.now in
        known_held (domain_bounds domain) (journal_of p) p.pass.pass.agent p.pass.pass.seat.me.0.own (in_range domain.board.words.shape.shape) now.lawful.0
        now.lawful.1 now.mine h.ready
