-- A pass learns from the one before it, and drains.
use Rattle.std.proofs.Common.{List, [], arith, subst, suc, sym, ℕ, ◌∙◌, ◌∷◌, ◌≡◌, ◌≢◌}
use Rattle.std.proofs.lemmas.List.Elements.{All-from_recursion, recursion_from_All}
use Rattle.std.specs.List.{AllByRecursion}
use Rattle.std.specs.Prelude.{slice_index_or}
use mathlib.Core.List.{IsPrefix}
use Rattle.orc_any_domain.proofs.Rounds.{Shares, first_hears, same_trans, second_hears, shares_all, shares_steps}
use Rattle.orc_any_domain.specs.Learning.{Hears}
use Rattle.orc_machine_rest.specs.Drains.{Drains}
use Rattle.orc_core.specs.Machine.{record_at}
use Rattle.orc_core.specs.declared.records.Agent.{Agent}
use Rattle.orc_heap.proofs.Pieces.{goes_on}
use Rattle.orc_heap.specs.Calls.{Learns}
use Rattle.orc_heap.specs.OwnEvents.{Only}
use Rattle.orc_heap.specs.Seats.{IsIdle, Seat}
use Rattle.orc_heap.specs.declared.discipline.Discipline as discipline
use Rattle.orc_machine_board.specs.Passes.{steps_of}
use Rattle.orc_machine_board.specs.Rules.{run_of}
use Rattle.orc_machine_board.specs.Views.{shows}
use Rattle.orc_machine_board.specs.declared.machine.MachineShape.{MachineShape}
use Rattle.orc_machine_board.specs.declared.machine.Reclaiming.{Reclaiming}
use Rattle.orc_machine_board.specs.declared.machine.Request.{Request}
use Rattle.orc_domain.proofs.Settling.{settle_can}
use Rattle.orc_domain.proofs.Ending.{between_of, stage_of}
use Rattle.orc_domain.specs.Drains.{AreNumbered, DrainInTurn, DrainsNext, DrainsPart}
use Rattle.orc_domain.specs.Passes.{IsPassOf, domain_bounds, journal_of, seat_of}
use Rattle.orc_domain.specs.declared.domain.OrcDomain.{OrcDomain}
use Rattle.orc_domain.specs.declared.domain.OrcPass.{OrcPass}
use Rattle.orc_rest.specs.Records.{IsBetweenRounds}
use Rattle.orc_shared_words.specs.declared.machine.Machine as machine
use Rattle.orc_sound.specs.declared.steps.Step.{Step}

abbrev by : {N : Type 0} → Step N → ℕ
by s = s.agent

module _ {D N : Type 0} where
  abbrev Pass : (d : discipline.Ghosts D N) → machine.Ghosts Reclaiming N (MachineShape N) Request (Step N) Agent Agent → Type 0
  Pass d m = OrcPass D N d m

module _ {D N : Type 0} {d : discipline.Ghosts D N} {m : machine.Ghosts Reclaiming N (MachineShape N) Request (Step N) Agent Agent}
    (domain : OrcDomain D N)
  where
    abbrev seat : Pass d m → Seat N
    seat p = seat_of domain p

    abbrev journal : Pass d m → List (Step N)
    journal p = journal_of p

    pub mine : (p : Pass d m) → IsPassOf domain p → record_at (run_of (domain_bounds domain) (journal p)) (seat p).agent ≡ (shows p.pass).record_is
    mine p h = h.board.keeps.now.mine

    -- a pass that is idle is between rounds
    pub between_rounds : (p : Pass d m) → IsPassOf domain p → IsIdle (seat p)
        → IsBetweenRounds (record_at (run_of (domain_bounds domain) (journal p)) (seat p).agent)
    between_rounds p h idle = subst IsBetweenRounds (sym (mine p h))
        (settle_can (stage_of h.board) (between_of h) idle)

    -- a pass that was v, then learned, drained, and learned once more
    module _ (j : List (Step N)) (v p q w : Pass d m) (is_v : IsPassOf domain v) (idle_v : IsIdle (seat v)) (is_q : IsPassOf domain q)
        (idle_q : IsIdle (seat q)) (hears : Hears seat by journal v p) (at : journal p ≡ j)
        (drains : Drains (domain_bounds domain) (seat p).agent (shows p.pass) (shows q.pass))
        (only : Only [] (seat p) (seat q)) (later : Hears seat by journal q w) (same : journal w ≡ journal q)
      where
        part : DrainsPart (domain_bounds domain) (seat p).agent (journal p) (journal q)
        part = record {
          part = drains.adds.part;
          is = drains.adds.journal;
          drained = drains.drained;
          steps = drains.adds.steps_are;
          quiet = drains.adds.quiet;
          between = subst (λ a. IsBetweenRounds (record_at (run_of (domain_bounds domain) (journal q)) a)) only.puts.agent (between_rounds q is_q idle_q);
        }

        pub drains_next : DrainsNext seat journal (domain_bounds domain) j v w
        drains_next = record {
          same = same_trans seat v p w hears.same (same_trans seat p q w
              (record { agent = only.puts.agent; slots = only.slots; fresh = only.fresh }) later.same);
          began = between_rounds v is_v idle_v;
          own = subst (λ z. steps_of (seat v).agent z ≡ steps_of (seat v).agent (journal v)) at hears.own;
          drains = subst (λ z. DrainsPart (domain_bounds domain) (seat v).agent j z) (sym same)
              (subst (λ z. DrainsPart (domain_bounds domain) (seat v).agent z (journal q)) at
              (subst (λ a. DrainsPart (domain_bounds domain) a (journal p) (journal q)) hears.same.agent part));
        }

    -- the next pass, which is v, learns from the one before it, which is u
    module _ (u v : Pass d m) (vs all : List (Pass d m)) (is : all ≡ v ∷ vs) (numbered : AreNumbered seat (suc (seat u).agent) all)
      where
        numbers : AreNumbered seat (suc (seat u).agent) (v ∷ vs)
        numbers = subst (AreNumbered seat (suc (seat u).agent)) is numbered

        pub next_differs : (seat v).agent ≢ (seat u).agent
        next_differs same = let e = numbers.0 in omega (arith, e, same)

        module _ (idle : AllByRecursion (λ p. IsIdle (seat p)) all) (seen : AllByRecursion (λ p. IsPrefix (journal p) (journal u)) all) (x y : Pass d m)
            (l : Learns (λ (s : Step N). s.agent) (seat v) (seat u) (seat x) (seat y) (journal v) (journal u) (journal x) (journal y))
          where
            idle_all : AllByRecursion (λ p. IsIdle (seat p)) (v ∷ vs)
            idle_all = subst (AllByRecursion (λ p. IsIdle (seat p))) is idle

            seen_all : AllByRecursion (λ p. IsPrefix (journal p) (journal u)) (v ∷ vs)
            seen_all = subst (AllByRecursion (λ p. IsPrefix (journal p) (journal u))) is seen

            shares : Shares seat by journal v u x y
            shares = shares_steps seat by journal v u x y l

            hears : Hears seat by journal v x
            hears = first_hears seat by journal v u x y shares

            at : journal x ≡ journal u
            at = shares_all seat by journal v u x y shares seen_all.0

            pub others_idle : AllByRecursion (λ p. IsIdle (seat p)) vs
            others_idle = idle_all.1

            pub next_idle : IsIdle (seat x)
            next_idle = record { slots = hears.same.slots ∙ idle_all.0.slots; fresh = hears.same.fresh ∙ idle_all.0.fresh }

            pub list_stays : journal y ≡ journal u
            list_stays = sym l.one_journal ∙ at

            pub before_hears : Hears seat by journal u y
            before_hears = second_hears seat by journal v u x y shares

            module _ (q : Pass d m) (drains : Drains (domain_bounds domain) (seat x).agent (shows x.pass) (shows q.pass))
                (only : Only [] (seat x) (seat q)) where
              pub next_numbered : AreNumbered seat (suc (seat q).agent) vs
              next_numbered = subst (λ n. AreNumbered seat (suc n) vs) (sym (only.puts.agent ∙ (hears.same.agent ∙ numbers.0))) numbers.1

              pub next_seen : AllByRecursion (λ p. IsPrefix (journal p) (journal q)) vs
              next_seen = recursion_from_All (λ p. IsPrefix (journal p) (journal q)) vs (λ i p k.
                  goes_on (journal (slice_index_or vs i p)) (journal u) (journal q)
                  (All-from_recursion (λ z. IsPrefix (journal z) (journal u)) vs seen_all.1 i p k)
                  (subst (λ z. IsPrefix z (journal q)) at (drains.adds.part, sym drains.adds.journal)))

              pub turns_next : IsPassOf domain v → IsPassOf domain q → IsIdle (seat q) → (w : Pass d m) (ws : List (Pass d m)) → Hears seat by journal q w
                  → journal w ≡ journal q → DrainInTurn seat journal (domain_bounds domain) (journal q) vs ws
                  → DrainInTurn seat journal (domain_bounds domain) (journal u) all (w ∷ ws)
              turns_next is_v is_q idle_q w ws later same turns = subst (λ z. DrainInTurn seat journal (domain_bounds domain) (journal u) z (w ∷ ws)) (sym is) (
                drains_next (journal u) v x q w is_v idle_all.0 is_q idle_q hears at drains only later same,
                subst (λ z. DrainInTurn seat journal (domain_bounds domain) z vs ws) (sym same) turns,
              )
