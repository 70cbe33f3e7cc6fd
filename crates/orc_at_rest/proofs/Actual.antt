-- What is known of the journal of a domain at rest.
use Rattle.std.proofs.Common.{List, [], ap, refl, subst, sym, ℕ, ◌∙◌, ◌≡◌}
use mathlib.Core.List.{IsPrefix}
use Rattle.orc_words.specs.Bounds.{Bounds}
use Rattle.orc_core.specs.Machine.{new_machine}
use Rattle.orc_core.specs.declared.records.Agent.{Agent}
use Rattle.orc_sound.proofs.Journals.{plain_lawful}
use Rattle.orc_sound.specs.Journals.{IsLawfulJournal, plain}
use Rattle.orc_sound.specs.declared.steps.Step.{Step}
use Rattle.orc_heap.specs.Allowed.{AllAllowed, Rises}
use Rattle.orc_heap.specs.Heap.{HeapNumbers}
use Rattle.orc_heap.specs.Journals.{run_heap}
use Rattle.orc_heap.specs.declared.discipline.Discipline as discipline
use Rattle.orc_heap.specs.declared.events.Event.{Event}
use Rattle.orc_heap.specs.declared.seed.Seed.{Seed}
use Rattle.orc_projection.specs.Mirror.{numbers_of}
use Rattle.orc_projection.specs.Projection.{project}
use Rattle.orc_rest.proofs.Given.{given_told}
use Rattle.orc_rest.proofs.Resting.{reached_list, reached_row, row_reached}
use Rattle.orc_rest.specs.Rest.{EndsAtRest, IsAtRest}
use Rattle.orc_shared_words.specs.Runs.{AgentsBelow}
use Rattle.orc_shared_words.specs.declared.machine.Machine as machine
use Rattle.orc_machine_board.specs.Laws.Steps.{in_range}
use Rattle.orc_machine_board.specs.Rules.{machine_opening, run_of}
use Rattle.orc_machine_board.specs.Views.{board_seed}
use Rattle.orc_machine_board.specs.declared.machine.MachineShape.{MachineShape}
use Rattle.orc_machine_board.specs.declared.machine.Reclaiming.{Reclaiming}
use Rattle.orc_machine_board.specs.declared.machine.Request.{Request}
use Rattle.orc_domain.specs.Passes.{domain_bounds}
use Rattle.orc_domain.specs.Rest.{IsRestOf, IsShown, rest_domain, rest_journal}
use Rattle.orc_domain.specs.declared.at_rest.OrcRest.{OrcRest}
use Rattle.orc_domain.specs.declared.domain.OrcDomain.{OrcDomain}
use Rattle.orc_domain.specs.declared.domain.OrcPass.{OrcPass}
use Rattle.orc_at_rest.proofs.Reusing.{reuses_safely}
use Rattle.orc_at_rest.specs.Journals.{HasJournal}
use Rattle.orc_at_rest.specs.Reuse.{LeaksNothing, ReusesSafely}

module _ {D N : Type 0} {d : discipline.Ghosts D N} {m : machine.Ghosts Reclaiming N (MachineShape N) Request (Step N) Agent Agent}
    (r : OrcRest D N d m) (shown : IsShown r) (b : Bounds) (sizes : domain_bounds (rest_domain r) ≡ b)
  where
    -- the journal of a domain of these sizes and this seed
    has_journal : (seed : Seed N) → board_seed (rest_domain r).board ≡ seed → HasJournal d.may b seed r
    has_journal seed seeds =
        let now = shown.belongs.keeps.now in
        record {
          sizes = sizes;
          shown = shown;
          lawful = subst (λ (c : Bounds). IsLawfulJournal (new_machine c) (rest_journal r)) sizes now.lawful.0;
          unmarked = now.lawful.1;
          begins = subst (λ (s : Seed N). IsPrefix (machine_opening b.agents s) (rest_journal r)) seeds
              (subst (λ (c : Bounds). IsPrefix (machine_opening c.agents (board_seed (rest_domain r).board)) (rest_journal r)) sizes now.opened);
          allowed = subst (λ (c : Bounds). AllAllowed (d.may (numbers_of c)) [] (project c (rest_journal r))) sizes now.each;
          agents_below = subst (λ (c : Bounds). AgentsBelow (λ (s : Step N). s.agent) c.agents (rest_journal r)) sizes now.below;
        }

    rows_reused : ReusesSafely b (rest_journal r)
    rows_reused = subst (λ (c : Bounds). ReusesSafely c (rest_journal r)) sizes
        (reuses_safely (domain_bounds (rest_domain r)) (rest_journal r) (in_range (rest_domain r).board.words.shape.shape) shown.belongs.keeps.now.lawful.0)

    -- where links rise, and the table is at rest
    module _ (rank : HeapNumbers → List (Event N) → ℕ → ℕ)
        (rises : (n : HeapNumbers) (seen : List (Event N)) → d.holds n seen → Rises (rank n seen) (run_heap n seen))
        (rest : IsAtRest (run_of (domain_bounds (rest_domain r)) (rest_journal r)))
      where
        abbrev c : Bounds
        c = domain_bounds (rest_domain r)

        ends : EndsAtRest (d.holds (numbers_of c)) (d.may (numbers_of c)) c (rest_journal r)
        ends =
            let now = shown.belongs.keeps.now in
            record {
              shape = in_range (rest_domain r).board.words.shape.shape;
              lawful = now.lawful.0;
              unmarked = now.lawful.1;
              starts = shown.belongs.keeps.began;
              allowed = now.each;
              rest = rest;
            }

        leaks_nothing : LeaksNothing b (rest_journal r)
        leaks_nothing =
            let n = numbers_of c in
            let list = reached_list (d.holds n) (d.may n) (rank n) n (d.keeps n) (d.moves_linked n) (rises n) c (rest_journal r) refl ends in
            subst (λ (x : Bounds). LeaksNothing x (rest_journal r)) sizes record {
              rest = rest;
              balance = given_told c (plain (rest_journal r)) ends.shape (plain_lawful (new_machine c) (rest_journal r) ends.lawful);
              reached = row_reached (d.holds n) (d.may n) (rank n) n (d.keeps n) (d.moves_linked n) (rises n) c (rest_journal r) refl ends;
              one_row = reached_row (d.holds n) (d.may n) (rank n) n (d.keeps n) (d.moves_linked n) (rises n) c (rest_journal r) refl ends;
              ids = list.0;
              ids_are = list.1;
              linked = list.2;
            }

-- what is left of a domain of these sizes, which had these passes
module _ {D N : Type 0} {d : discipline.Ghosts D N} {m : machine.Ghosts Reclaiming N (MachineShape N) Request (Step N) Agent Agent}
    (r : OrcRest D N d m) (domain : OrcDomain D N) (passes : List (OrcPass D N d m)) (left : IsRestOf domain passes r)
    (b : Bounds) (sizes : domain_bounds domain ≡ b)
  where
    same_sizes : domain_bounds (rest_domain r) ≡ b
    same_sizes = ap (λ (x : OrcDomain D N). domain_bounds x) left.domain_is ∙ sizes

    pub left_journal : (seed : Seed N) → board_seed domain.board ≡ seed → HasJournal d.may b seed r
    left_journal seed seeds = has_journal r left.shown b same_sizes seed (ap (λ (x : OrcDomain D N). board_seed x.board) left.domain_is ∙ seeds)

    pub left_reuse : ReusesSafely b (rest_journal r)
    left_reuse = rows_reused r left.shown b same_sizes

    pub left_rest : (rank : HeapNumbers → List (Event N) → ℕ → ℕ)
        → ((n : HeapNumbers) (seen : List (Event N)) → d.holds n seen → Rises (rank n seen) (run_heap n seen)) → LeaksNothing b (rest_journal r)
    left_rest rank rises =
        leaks_nothing r left.shown b same_sizes rank rises
        (subst (λ (x : OrcDomain D N). IsAtRest (run_of (domain_bounds x) (rest_journal r))) (sym left.domain_is) left.at_rest)
