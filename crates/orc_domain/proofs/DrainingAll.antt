-- All passes of a domain learn, drain one after another, and learn again.
use Rattle.std.proofs.Common.{All, List, [], ap, arith, length, refl, subst, suc, sym, ℕ, ◌++◌, ◌+◌, ◌<◌, ◌≤◌, ◌∙◌, ◌∷◌, ◌≡◌, ◌≢◌}
use Rattle.std.proofs.lemmas.List.Elements.{All-from_recursion, recursion_from_All}
use Rattle.std.specs.List.{AllByRecursion}
use Rattle.std.specs.Prelude.{cond, is_some, slice_index_or, ◌||◌}
use mathlib.Core.List.{IsPrefix}
use Rattle.orc_machine_rest.specs.Drains.{Drains}
use Rattle.orc_core.specs.Machine.{record_at}
use Rattle.orc_core.specs.declared.records.Agent.{Agent}
use Rattle.orc_any_domain.proofs.Lists.{pairwise_all, pairwise_join, pairwise_long, pairwise_map}
use Rattle.orc_any_domain.proofs.Rounds.{idle_all, one_of_all, same_trans}
use Rattle.orc_any_domain.specs.Learning.{Hears, HearsAll, HoldsSame, LearnsAll}
use Rattle.orc_history.specs.Lists.{Pairwise}
use Rattle.orc_heap.proofs.Pieces.{goes_on}
use Rattle.orc_heap.specs.OwnEvents.{Only}
use Rattle.orc_heap.specs.Seats.{IsIdle, Seat}
use Rattle.orc_heap.specs.declared.discipline.Discipline as discipline
use Rattle.orc_heap.specs.declared.events.Event.{Event}
use Rattle.orc_machine_board.specs.Laws.Steps.{bounds_run, in_range}
use Rattle.orc_machine_board.specs.Passes.{steps_of}
use Rattle.orc_machine_board.specs.Rules.{run_of}
use Rattle.orc_machine_board.specs.Views.{shows}
use Rattle.orc_machine_board.specs.declared.machine.MachineShape.{MachineShape}
use Rattle.orc_machine_board.specs.declared.machine.Reclaiming.{Reclaiming}
use Rattle.orc_machine_board.specs.declared.machine.Request.{Request}
use Rattle.orc_projection.specs.Projection.{project}
use Rattle.orc_domain.proofs.Numbered.{agents_differ, number_at, numbered_all, numbered_by}
use Rattle.orc_domain.proofs.InTurn.{goes_further, nothing_more, rests, turns_same}
use Rattle.orc_domain.proofs.NextDrain.{drains_next, mine}
use Rattle.orc_domain.specs.Drains.{AreNumbered, DrainInTurn}
use Rattle.orc_domain.specs.Ends.{AddsNoEvents, AreAll, AreIdle, HaveNoBacklog, IsNoLonger, SawAll, SawOneList, whole_journal}
use Rattle.orc_domain.specs.Passes.{IsPassOf, domain_bounds, journal_of, seat_of}
use Rattle.orc_domain.specs.declared.domain.OrcDomain.{OrcDomain}
use Rattle.orc_domain.specs.declared.domain.OrcPass.{OrcPass}
use Rattle.orc_rest.specs.Rest.{IsAtRest, IsResting}
use Rattle.orc_rest.specs.Turns.{IsReachedState}
use Rattle.orc_shared_words.specs.declared.machine.Machine as machine
use Rattle.orc_sound.proofs.Journals.{plain_lawful}
use Rattle.orc_sound.specs.Journals.{plain}
use Rattle.orc_sound.specs.declared.steps.Step.{Step}
use Rattle.orc_words.specs.Bounds.{Bounds}

abbrev by : {N : Type 0} → Step N → ℕ
by s = s.agent

module _ {D N : Type 0} where
  abbrev Pass : (d : discipline.Ghosts D N) → machine.Ghosts Reclaiming N (MachineShape N) Request (Step N) Agent Agent → Type 0
  Pass d m = OrcPass D N d m

-- what is true once all passes have learned, drained one after another and learned again
pub record Drained {D N : Type 0} {d : discipline.Ghosts D N} {m : machine.Ghosts Reclaiming N (MachineShape N) Request (Step N) Agent Agent}
    (domain : OrcDomain D N) (ps qs : List (Pass d m)) : Type 0 where
  pub all : AreAll domain qs
  pub idle : AreIdle domain qs
  pub settled : HaveNoBacklog qs
  pub one_list : SawOneList qs
  pub own : SawAll qs
  pub rest : IsAtRest (run_of (domain_bounds domain) (whole_journal qs))
  pub longest : IsNoLonger domain ps qs
  pub quiet : AddsNoEvents domain ps qs
  pub later : IsPrefix (whole_journal ps) (whole_journal qs)
  pub heard : All (λ p. IsPrefix (journal_of p) (whole_journal qs)) ps

module _ {D N : Type 0} {d : discipline.Ghosts D N} {m : machine.Ghosts Reclaiming N (MachineShape N) Request (Step N) Agent Agent}
    (domain : OrcDomain D N)
  where
    abbrev seat : Pass d m → Seat N
    seat p = seat_of domain p

    module _ (ps : List (Pass d m)) (w : Pass d m) (ws : List (Pass d m)) (is : ps ≡ w ∷ ws) (all : AreAll domain ps) (idle : AreIdle domain ps)
      where
        same_all : AreAll domain (w ∷ ws)
        same_all = subst (AreAll domain) is all

        numbered : AreNumbered seat 0 (w ∷ ws)
        numbered = numbered_by seat 0 (w ∷ ws) (λ i p l. let e = same_all.order i p l in omega (arith, e))

        idle_first : AllByRecursion (λ p. IsIdle (seat p)) (w ∷ ws)
        idle_first = recursion_from_All (λ p. IsIdle (seat p)) (w ∷ ws) (subst (AreIdle domain) is idle)

        differ : (v : Pass d m) (vs : List (Pass d m)) → AreNumbered seat 0 (v ∷ vs) → AllByRecursion (λ p. (seat v).agent ≢ (seat p).agent) vs
        differ v vs k = let e = k.0 in agents_differ seat (seat v).agent 1 vs (omega (arith, e)) k.1

        pub first_differs : AllByRecursion (λ p. (seat w).agent ≢ (seat p).agent) ws
        first_differs = differ w ws numbered

        module _ (w2 : Pass d m) (ys : List (Pass d m)) (l2 : LearnsAll seat by journal_of w w2 ws ys) where
          heard : Pairwise (HearsAll seat by journal_of (journal_of w2)) (w ∷ ws) (w2 ∷ ys)
          heard = l2.each

          same2 : Pairwise (HoldsSame seat) (w ∷ ws) (w2 ∷ ys)
          same2 = pairwise_map (HearsAll seat by journal_of (journal_of w2)) (HoldsSame seat) (λ p q h. h.hears.same)
              (w ∷ ws) (w2 ∷ ys) heard

          numbered2 : AreNumbered seat 0 (w2 ∷ ys)
          numbered2 = numbered_all seat 0 (w ∷ ws) (w2 ∷ ys) same2 numbered

          pub idle2 : AllByRecursion (λ p. IsIdle (seat p)) (w2 ∷ ys)
          idle2 = idle_all seat (w ∷ ws) (w2 ∷ ys) same2 idle_first

          one_list : AllByRecursion (λ p. journal_of p ≡ journal_of w2) (w2 ∷ ys)
          one_list = pairwise_all (HearsAll seat by journal_of (journal_of w2)) (λ p. IsIdle (seat p)) (λ q. journal_of q ≡ journal_of w2)
              (λ p q h _. h.seen) (w ∷ ws) (w2 ∷ ys) heard idle_first

          long2 : length (w2 ∷ ys) ≡ (domain_bounds domain).agents
          long2 = pairwise_long (HoldsSame seat) (w ∷ ws) (w2 ∷ ys) same2 ∙ same_all.many

          module _ (is2 : IsPassOf domain w2) (w3 : Pass d m) (is3 : IsPassOf domain w3) (idle3 : IsIdle (seat w3))
              (drains : Drains (domain_bounds domain) (seat w2).agent (shows w2.pass) (shows w3.pass)) (only : Only [] (seat w2) (seat w3))
            where
              pub numbered_others : AreNumbered seat (suc (seat w3).agent) ys
              numbered_others = subst (λ n. AreNumbered seat (suc n) ys) (sym (only.puts.agent ∙ numbered2.0)) numbered2.1

              more3 : IsPrefix (journal_of w2) (journal_of w3)
              more3 = (drains.adds.part, sym drains.adds.journal)

              pub seen_others : AllByRecursion (λ p. IsPrefix (journal_of p) (journal_of w3)) ys
              seen_others = recursion_from_All (λ p. IsPrefix (journal_of p) (journal_of w3)) ys (λ i p l.
                  subst (λ z. IsPrefix z (journal_of w3)) (sym (All-from_recursion (λ q. journal_of q ≡ journal_of w2) ys one_list.1 i p l)) more3)

              module _ (w4 : Pass d m) (zs : List (Pass d m)) (later : Hears seat by journal_of w3 w4) (same : journal_of w4 ≡ journal_of w3)
                  (turns : DrainInTurn seat journal_of (domain_bounds domain) (journal_of w3) ys zs)
                where
                  all_turns : DrainInTurn seat journal_of (domain_bounds domain) (journal_of w2) (w2 ∷ ys) (w4 ∷ zs)
                  all_turns = (
                    drains_next domain (journal_of w2) w2 w2 w3 w4 is2 idle2.0 is3 idle3
                        (record { same = record { agent = refl; slots = refl; fresh = refl }; more = ([], nil (journal_of w2)); own = refl }) refl drains only
                        later same,
                    subst (λ z. DrainInTurn seat journal_of (domain_bounds domain) z ys zs) (sym same) turns,
                  )
                    where
                      nil : (l : List (Step N)) → l ++ [] ≡ l
                      nil [] = refl
                      nil (x ∷ l) = ap (λ z. x ∷ z) (nil l)

                  same4 : Pairwise (HoldsSame seat) (w2 ∷ ys) (w4 ∷ zs)
                  same4 = turns_same seat journal_of (domain_bounds domain) (journal_of w2) (w2 ∷ ys) (w4 ∷ zs) all_turns

                  numbered4 : AreNumbered seat 0 (w4 ∷ zs)
                  numbered4 = numbered_all seat 0 (w2 ∷ ys) (w4 ∷ zs) same4 numbered2

                  pub third_differs : AllByRecursion (λ p. (seat w4).agent ≢ (seat p).agent) zs
                  third_differs = differ w4 zs numbered4

                  module _ (w6 : Pass d m) (ts : List (Pass d m)) (l6 : LearnsAll seat by journal_of w4 w6 zs ts) (is6 : IsPassOf domain w6)
                      (others6 : AllByRecursion (λ p. IsPassOf domain p) ts)
                    where
                      abbrev f : List (Step N)
                      f = journal_of w6

                      hear : Pairwise (HearsAll seat by journal_of f) (w4 ∷ zs) (w6 ∷ ts)
                      hear = l6.each

                      within : (top : List (Step N)) → AllByRecursion (λ p. IsPrefix (journal_of p) top) (w4 ∷ zs) → IsPrefix f top
                      within top = one_of_all seat by journal_of (λ z. IsPrefix z top) (w4 ∷ zs) f l6.longest

                      same6 : Pairwise (HoldsSame seat) (w ∷ ws) (w6 ∷ ts)
                      same6 = pairwise_join (HoldsSame seat) (HoldsSame seat) (HoldsSame seat) (same_trans seat)
                          (w ∷ ws) (w4 ∷ zs) (w6 ∷ ts)
                          (pairwise_join (HoldsSame seat) (HoldsSame seat) (HoldsSame seat) (same_trans seat)
                          (w ∷ ws) (w2 ∷ ys) (w4 ∷ zs) same2 same4)
                          (pairwise_map (HearsAll seat by journal_of f) (HoldsSame seat) (λ p q h. h.hears.same)
                          (w4 ∷ zs) (w6 ∷ ts) hear)

                      numbered6 : AreNumbered seat 0 (w6 ∷ ts)
                      numbered6 = numbered_all seat 0 (w ∷ ws) (w6 ∷ ts) same6 numbered

                      long6 : length (w6 ∷ ts) ≡ (domain_bounds domain).agents
                      long6 = pairwise_long (HoldsSame seat) (w ∷ ws) (w6 ∷ ts) same6 ∙ same_all.many

                      passes6 : All (λ p. IsPassOf domain p) (w6 ∷ ts)
                      passes6 = All-from_recursion (λ p. IsPassOf domain p) (w6 ∷ ts) (is6, others6)

                      one_after : SawOneList (w6 ∷ ts)
                      one_after = All-from_recursion (λ p. journal_of p ≡ f) (w6 ∷ ts)
                          (pairwise_all (HearsAll seat by journal_of f) (λ p. IsIdle (seat p)) (λ q. journal_of q ≡ f)
                          (λ p q h _. h.seen) (w4 ∷ zs) (w6 ∷ ts) hear (idle_all seat (w2 ∷ ys) (w4 ∷ zs) same4 idle2))

                      reached : IsReachedState (run_of (domain_bounds domain) (journal_of w2))
                      reached = record {
                        bounds = domain_bounds domain;
                        steps = plain (journal_of w2);
                        shape = in_range domain.board.words.shape.shape;
                        lawful = plain_lawful _ (journal_of w2) is2.board.keeps.now.lawful.0;
                        is = refl;
                      }

                      some : 0 < (domain_bounds domain).agents
                      some = let e = long2 in omega (arith, e)

                      rest_after : IsAtRest (run_of (domain_bounds domain) f)
                      rest_after = rests seat journal_of domain.board.words.shape (journal_of w2) (w2 ∷ ys) (w4 ∷ zs) all_turns numbered2 one_list
                          (domain_bounds domain).agents long2 w2 (w6 ∷ ts) f hear within some is6.board.keeps.now.below reached
                          (ap (λ (x : Bounds). x.agents) (bounds_run (domain_bounds domain) (journal_of w2)))

                      nothing_after : project (domain_bounds domain) f ≡ project (domain_bounds domain) (journal_of w2)
                      nothing_after = nothing_more seat journal_of domain.board.words.shape (journal_of w2) (w2 ∷ ys) (w4 ∷ zs) all_turns numbered2 one_list
                          (domain_bounds domain).agents long2 w2 (w6 ∷ ts) f hear within some is6.board.keeps.now.below

                      settled_after : HaveNoBacklog (w6 ∷ ts)
                      settled_after i p l =
                          let q = slice_index_or (w6 ∷ ts) i p in
                          let g = passes6 i p l in
                          let low : (seat q).agent < (run_of (domain_bounds domain) f).bounds.agents = subst (λ (x : Bounds). (seat q).agent < x.agents)
                          (sym (bounds_run (domain_bounds domain) f)) g.board.keeps.number in
                          let r = subst IsResting (ap (λ z. record_at (run_of (domain_bounds domain) z) (seat q).agent) (sym (one_after i p l)) ∙ mine domain q g)
                          (rest_after.agents (seat q).agent low) in
                          λ k. length (r.list k) + cond (is_some (r.hand k) || is_some (r.scan k)) 1 0

                      further : IsPrefix (journal_of w2) f
                      further = goes_further seat journal_of domain.board.words.shape (journal_of w2) (w2 ∷ ys) (w4 ∷ zs) all_turns numbered2 one_list
                          (domain_bounds domain).agents long2 w2 (w6 ∷ ts) f hear within some is6.board.keeps.now.below

                      heard_each : (vs qs : List (Pass d m)) → Pairwise (HearsAll seat by journal_of (journal_of w2)) vs qs
                          → AllByRecursion (λ p. IsPrefix (journal_of p) f) vs
                      heard_each [] [] h = tt
                      heard_each (v ∷ vs) (q ∷ qs) h = (
                        goes_on (journal_of v) (journal_of w2) f (subst (IsPrefix (journal_of v)) h.0.seen h.0.hears.more) further,
                        heard_each vs qs h.1,
                      )
                      heard_each [] (q ∷ qs) h = absurd h
                      heard_each (v ∷ vs) [] h = absurd h

                      first_more : IsPrefix (journal_of w) f
                      first_more = goes_on (journal_of w) (journal_of w2) f heard.0.hears.more further

                      -- what is true of each list that a pass had seen is true of the one that all saw
                      one_of : (P : List (Step N) → Type 0) → All (λ p. P (journal_of p)) (w ∷ ws) → P (journal_of w2)
                      one_of P h = one_of_all seat by journal_of P (w ∷ ws) (journal_of w2) l2.longest (recursion_from_All (λ p. P (journal_of p)) (w ∷ ws) h)

                      pub drained : Drained domain ps (w6 ∷ ts)
                      drained = record {
                        all = record {
                          many = long6;
                          belong = passes6;
                          order = λ i p l. let e = number_at seat 0 (w6 ∷ ts) numbered6 i p l in omega (arith, e);
                        };
                        idle = All-from_recursion (λ p. IsIdle (seat p)) (w6 ∷ ts) (idle_all seat (w ∷ ws) (w6 ∷ ts) same6 idle_first);
                        settled = settled_after;
                        one_list = one_after;
                        own = λ i p l. ap (steps_of (seat (slice_index_or (w6 ∷ ts) i p)).agent) (sym (one_after i p l));
                        rest = rest_after;
                        longest = λ most h. subst (λ (z : List (Event N)). length z ≤ most) (sym nothing_after)
                            (one_of (λ z. length (project (domain_bounds domain) z) ≤ most) (subst (λ z. All (λ p. length (seat p).seen ≤ most) z) is h));
                        quiet = λ j h. nothing_after ∙ ap (project (domain_bounds domain))
                            (one_of (λ z. z ≡ j) (subst (λ z. All (λ p. journal_of p ≡ j) z) is h));
                        later = subst (λ z. IsPrefix (whole_journal z) f) (sym is) first_more;
                        heard = subst (All (λ p. IsPrefix (journal_of p) f)) (sym is)
                            (All-from_recursion (λ p. IsPrefix (journal_of p) f) (w ∷ ws) (heard_each (w ∷ ws) (w2 ∷ ys) heard));
                      }
