-- A pass takes in others, one after another.
use Rattle.std.proofs.Common.{List, [], ap, append-nil, arith, inl, inr, length, refl, subst, suc, sym, zero, ℕ, ◌++◌, ◌+◌, ◌<◌, ◌∙◌, ◌∷◌, ◌≡◌}
use Rattle.std.proofs.lemmas.List.{append_cancel_left}
use Rattle.std.proofs.lemmas.List.Elements.{All-from_recursion}
use Rattle.std.specs.Prelude.{slice_index_or}
use mathlib.Core.List.{IsPrefix}
use Rattle.orc_machine_rest.specs.Ends.{FirstSawAll, HasOwnSteps, TakesInSteps, first_journal}
use Rattle.orc_heap.proofs.Pieces.{goes_on}
use Rattle.orc_machine_board.specs.Passes.{AbsorbsSteps, TookInAll, steps_of}
use Rattle.orc_machine_board.specs.Views.{MachineView}
use Rattle.orc_heap.proofs.Prefixes.{prefix_same}
use Rattle.orc_shared_words.proofs.Runs.{below-tail, none_left, own_of-append}
use Rattle.orc_shared_words.proofs.Seats.{among_behind}
use Rattle.orc_shared_words.specs.Lists.{Among, EachAt, IsLonger}
use Rattle.orc_shared_words.specs.Runs.{AgentsBelow}
use Rattle.orc_sound.specs.declared.steps.Step.{Step}
use Rattle.orc_words.specs.Bounds.{Bounds}

first_more : {A : Type 0} (xs ys zs : List A) → IsLonger xs ys zs → IsPrefix xs zs
first_more xs ys zs (inl l) = prefix_same xs zs l.1
first_more xs ys zs (inr l) = subst (IsPrefix xs) (sym l.1) l.0

module _ {N W : Type 0} (view : W → MachineView N) where
  pub takes_none : (s : MachineView N) (all : List W) → all ≡ [] → TakesInSteps view s s all
  takes_none s all e = subst (TakesInSteps view s s) (sym e) (record {
    agent = refl;
    record_is = refl;
    more = prefix_same s.journal s.journal refl;
    own = refl;
    before = λ a h. (h, refl);
    taken = tt;
  })

  pub takes_more : (s t u : MachineView N) (w : W) (ws all : List W) → all ≡ w ∷ ws → AbsorbsSteps s (view w) t → TakesInSteps view t u ws
      → TakesInSteps view s u all
  takes_more s t u w ws all e a r =
      let kept : (b : ℕ) → Among b s.absorbed → Among b t.absorbed =
      λ b h. subst (Among b) (sym a.absorbed) (inr (among_behind b (view w).absorbed s.absorbed h)) in
      let mine : Among (view w).agent t.absorbed = subst (Among (view w).agent) (sym a.absorbed) (inl refl) in
      let last = r.before (view w).agent mine in
      subst (TakesInSteps view s u) (sym e) (record {
        agent = r.agent ∙ a.agent;
        record_is = r.record_is ∙ a.record_is;
        more = goes_on s.journal t.journal u.journal (first_more s.journal (view w).journal t.journal a.longer) r.more;
        own = subst (λ z. steps_of z u.journal ≡ steps_of z t.journal) a.agent r.own ∙ a.own;
        before = λ b h. let k = r.before b (kept b h) in (k.0, k.1 ∙ a.retired b h);
        taken = ((last.0, last.1 ∙ a.taken (view w).agent (inl refl)), r.taken);
      })

  -- all passes are these, in order of agent
  module _ (b : Bounds) (ps : List W) (w : W) (ws : List W) (is : ps ≡ w ∷ ws) (many : length ps ≡ b.agents) (order : EachAt (λ i p. (view p).agent ≡ i) ps)
      (t : MachineView N) (k : TakesInSteps view (view w) t ws)
    where
      long : length ws + 1 ≡ b.agents
      long = let e = ap (λ (xs : List W). length xs) is in omega arith

      in_order : EachAt (λ i p. (view p).agent ≡ i) (w ∷ ws)
      in_order = subst (EachAt (λ i p. (view p).agent ≡ i)) is order

      pub first_number : (view w).agent ≡ 0
      first_number = in_order 0 w (omega arith)

      -- what the last pass has of each agent
      taken_at : (i : ℕ) → i < length ws → Among (suc i) t.absorbed × (steps_of (suc i) t.journal ≡ steps_of (suc i) (view (slice_index_or ws i w)).journal)
      taken_at i l =
          let a = All-from_recursion (λ p. Among (view p).agent t.absorbed × HasOwnSteps t.journal (view p)) ws k.taken i w l in
          subst (λ z. Among z t.absorbed × (steps_of z t.journal ≡ steps_of z (view (slice_index_or ws i w)).journal))
          (in_order (suc i) w (omega (arith, l))) a

      pub covers : TookInAll b t
      covers zero l = inl (sym (k.agent ∙ first_number))
      covers (suc i) l = let e = long in inr (taken_at i (omega (arith, l, e))).0

      module _ (own : FirstSawAll view ps) (low : AgentsBelow (λ (s : Step N). s.agent) b.agents t.journal) where
        own_at : (i : ℕ) → i < length ws → steps_of (suc i) (view w).journal ≡ steps_of (suc i) (view (slice_index_or ws i w)).journal
        own_at i l = subst (λ z. steps_of z (view w).journal ≡ steps_of z (view (slice_index_or ws i w)).journal) (in_order (suc i) w (omega (arith, l)))
            (subst (FirstSawAll view) is own (suc i) w (omega (arith, l)))

        none_new : (a : ℕ) → a < b.agents → steps_of a t.journal ≡ steps_of a (view w).journal
        none_new zero l = subst (λ z. steps_of z t.journal ≡ steps_of z (view w).journal) first_number k.own
        none_new (suc i) l = let e = long in let h : i < length ws = omega (arith, l, e) in (taken_at i h).1 ∙ sym (own_at i h)

        -- the first had seen all
        pub nothing_new : t.journal ≡ first_journal view ps
        nothing_new =
            let by : Step N → ℕ = λ s. s.agent in
            let j = (view w).journal in
            let none : k.more.0 ≡ [] = none_left by b.agents k.more.0 (below-tail by b.agents j k.more.0 (subst (AgentsBelow by b.agents) (sym k.more.1) low))
            (λ a l. append_cancel_left (steps_of a j) (steps_of a k.more.0) []
            (sym (own_of-append by a j k.more.0) ∙ (ap (steps_of a) k.more.1 ∙ (none_new a l ∙ sym (append-nil (steps_of a j)))))) in
            sym k.more.1 ∙ (ap (λ z. j ++ z) none ∙ (append-nil j ∙ ap (first_journal view) (sym is)))
