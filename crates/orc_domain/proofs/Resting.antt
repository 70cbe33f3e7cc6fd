-- A pass takes in all others of its domain.
use Rattle.std.proofs.Common.{All, List, [], arith, drop, length, subst, sym, ℕ, ◌<◌, ◌∙◌, ◌∷◌, ◌≡◌, ◌++◌}
use Rattle.std.proofs.lemmas.List.Elements.{recursion_from_All}
use Rattle.std.specs.List.{AllByRecursion}
use Rattle.orc_machine_rest.proofs.TakingIn.{takes_more, takes_none, covers, first_number, nothing_new}
use Rattle.orc_machine_rest.specs.Ends.{TakesInSteps}
use Rattle.orc_core.specs.declared.records.Agent.{Agent}
use Rattle.orc_heap.specs.Seats.{IsIdle}
use Rattle.orc_heap.specs.declared.discipline.Discipline as discipline
use Rattle.orc_machine_board.specs.Passes.{AbsorbsSteps, TookInAll}
use Rattle.orc_machine_board.specs.Views.{Belongs, MachineView, shows}
use Rattle.orc_machine_board.specs.declared.board.MachineBoardPass.{MachineBoardPass}
use Rattle.orc_machine_board.specs.declared.machine.MachineShape.{MachineShape}
use Rattle.orc_machine_board.specs.declared.machine.Reclaiming.{Reclaiming}
use Rattle.orc_machine_board.specs.declared.machine.Request.{Request}
use Rattle.orc_domain.specs.Ends.{AreAll, SawAll, whole_journal}
use Rattle.orc_domain.specs.Passes.{IsPassOf, domain_bounds, seat_of}
use Rattle.orc_domain.specs.declared.domain.OrcDomain.{OrcDomain}
use Rattle.orc_domain.specs.declared.domain.OrcPass.{OrcPass}
use Rattle.orc_shared_words.specs.Lists.{EachAt}
use Rattle.orc_shared_words.specs.declared.machine.Machine as machine
use Rattle.orc_sound.specs.declared.steps.Step.{Step}
use Rattle.orc_machine_rest.proofs.Resting.{still_at_rest}
use Rattle.orc_machine_rest.specs.Looks.{gate_looks}
use Rattle.orc_machine_board.specs.Rules.{run_of}
use Rattle.orc_machine_board.specs.Laws.Steps.{in_range}
use Rattle.orc_rest.specs.Rest.{IsAtRest}

module _ {D N : Type 0} {d : discipline.Ghosts D N} {m : machine.Ghosts Reclaiming N (MachineShape N) Request (Step N) Agent Agent}
    (domain : OrcDomain D N)
  where
    abbrev view : OrcPass D N d m → MachineView N
    view p = shows p.pass

    -- what is still to be taken in
    pub record Taking (p q : MachineBoardPass D N d m)
        (all rest : List (OrcPass D N d m)) : Type 0 where
      pub belongs : Belongs domain.board q
      pub others : AllByRecursion (λ w. IsPassOf domain w) rest
      pub to_go : (u : MachineView N) → TakesInSteps view (shows q) u rest → TakesInSteps view (shows p) u all

    pub taking_next : (p q : MachineBoardPass D N d m)
        (all rest : List (OrcPass D N d m)) → Taking p q all rest
        → (w : OrcPass D N d m) → rest ≡ w ∷ drop 1 rest
        → (left : List (OrcPass D N d m)) → left ≡ drop 1 rest
        → (r : MachineBoardPass D N d m) → Belongs domain.board r
        → AbsorbsSteps (shows q) (view w) (shows r) → Taking p r all left
    taking_next p q all rest t w is left e r x a = subst (Taking p r all) (sym e) (record {
      belongs = x;
      others = (subst (AllByRecursion (λ w. IsPassOf domain w)) is t.others).1;
      to_go = λ u k. t.to_go u (takes_more view (shows q) (shows r) u w (drop 1 rest) rest is a k);
    })

    pub next_belongs : (p q : MachineBoardPass D N d m)
        (all rest : List (OrcPass D N d m)) → Taking p q all rest
        → (w : OrcPass D N d m) → rest ≡ w ∷ drop 1 rest → Belongs domain.board w.pass
    next_belongs p q all rest t w is = (subst (AllByRecursion (λ w. IsPassOf domain w)) is t.others).0.board

    pub taking_done : (p q : MachineBoardPass D N d m)
        (all rest : List (OrcPass D N d m)) → Taking p q all rest → rest ≡ []
        → TakesInSteps view (shows p) (shows q) all
    taking_done p q all rest t is = t.to_go (shows q) (takes_none view (shows q) rest is)

    -- passes that are each idle are all passes of the domain
    pub all_passes : (ps : List (OrcPass D N d m)) → length ps ≡ (domain_bounds domain).agents
        → All (λ p. IsPassOf domain p × IsIdle (seat_of domain p)) ps → EachAt (λ i p. (shows p.pass).agent ≡ i) ps → AreAll domain ps
    all_passes ps many each order = record { many = many; belong = λ i p low. (each i p low).0; order = order }

    pub some_passes : (ps : List (OrcPass D N d m)) → AreAll domain ps → 0 < length ps
    some_passes ps all = let many = all.many in let some = domain.board.words.shape.shape.some_agents in omega (arith, many, some)

    module _ (ps : List (OrcPass D N d m)) (w : OrcPass D N d m)
        (ws : List (OrcPass D N d m)) (is : ps ≡ w ∷ ws) (all : AreAll domain ps) where
      pub first_of : IsPassOf domain w
      first_of = (subst (AreAll domain) is all).belong 0 w (omega arith)

      pub others_of : AllByRecursion (λ p. IsPassOf domain p) ws
      others_of = (recursion_from_All (λ p. IsPassOf domain p) (w ∷ ws) (subst (AreAll domain) is all).belong).1

      -- the first has taken in all others
      module _ (q : MachineBoardPass D N d m) (x : Belongs domain.board q)
          (left : List (OrcPass D N d m)) (e : left ≡ ws) (t : TakesInSteps view (view w) (shows q) left) where
        taken : TakesInSteps view (view w) (shows q) ws
        taken = subst (TakesInSteps view (view w) (shows q)) e t

        pub covered : TookInAll (domain_bounds domain) (shows q)
        covered = covers view (domain_bounds domain) ps w ws is all.many all.order (shows q) taken

        number : (shows q).agent ≡ 0
        number = t.agent ∙ first_number view (domain_bounds domain) ps w ws is all.many all.order (shows q) taken

        nothing : SawAll ps → (shows q).journal ≡ whole_journal ps
        nothing own = nothing_new view (domain_bounds domain) ps w ws is all.many all.order (shows q) taken own x.keeps.now.below

        -- and then it looks at the gates
        pub looked : SawAll ps → (j : List (Step N)) (n : ℕ) → j ≡ (shows q).journal ++ gate_looks (shows q).agent n
            → j ≡ whole_journal ps ++ gate_looks 0 n
        looked own j n is = is ∙ (λ i. nothing own i ++ gate_looks (number i) n)

        pub still_rests : SawAll ps → IsAtRest (run_of (domain_bounds domain) (whole_journal ps)) → (j : List (Step N)) (n : ℕ)
            → j ≡ (shows q).journal ++ gate_looks (shows q).agent n → IsAtRest (run_of (domain_bounds domain) j)
        still_rests own rest j n is = subst (λ k. IsAtRest (run_of (domain_bounds domain) k)) (sym (looked own j n is))
            (still_at_rest (domain_bounds domain) (whole_journal ps) 0 n (in_range domain.board.words.shape.shape) rest)
