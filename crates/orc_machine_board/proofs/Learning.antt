-- Passes that learned from each other, or took in one another, are passes still.
use Rattle.std.proofs.Common.{List, Some, ap, inl, inr, refl, subst, sym, ℕ, ◌++◌, ◌∙◌, ◌∷◌, ◌≡◌, ⊎_elim}
use Rattle.orc_core.specs.declared.records.Agent.{Agent}
use Rattle.orc_heap.specs.declared.events.Event.{Event}
use Rattle.orc_machine_board.specs.Laws.Steps.{counted_obeys}
use Rattle.orc_machine_board.specs.Passes.{AbsorbsSteps, LearnsSteps, SameButSteps, steps_of}
use Rattle.orc_machine_board.specs.Rules.{counted_rules}
use Rattle.orc_machine_board.specs.Views.{Keeps, view_of}
use Rattle.orc_machine_board.specs.declared.machine.MachineShape.{MachineShape}
use Rattle.orc_shared_words.proofs.LaterJournals.{absorbing_later, learned_later}
use Rattle.orc_shared_words.specs.Learning.{LearnedBoth, SameButSeen}
use Rattle.orc_shared_words.specs.Views.{absorbing, agent_of}
use Rattle.orc_shared_words.specs.declared.journal.View.{View}
use Rattle.orc_sound.specs.declared.steps.Step.{Step}

module _ {N : Type 0} {k : MachineShape N} {holds : List (Event N) → Type 0} {may : List (Event N) → Event N → Type 0} {v u w x : View (Step N) Agent}
    {a b : ℕ}
    (one : Keeps k holds may v a) (two : Keeps k holds may u b) (l : LearnedBoth (λ (s : Step N). s.agent) v u w x) where
  same_but : (y z : View (Step N) Agent) (c : ℕ) → y.agent ≡ Some c → SameButSeen (λ (s : Step N). s.agent) y z → SameButSteps (view_of c y) (view_of c z)
  same_but y z c is same = record {
    agent = refl;
    record_is = same.mine;
    absorbed = same.also;
    own = same.steps c (inl is);
    retired = λ o there. same.steps o (inr there);
  }

  pub learns : LearnsSteps (view_of a v) (view_of b u) (view_of a w) (view_of b x)
  learns = record { longer = l.longer; both = l.both; into = same_but v w a one.is l.into; from = same_but u x b two.is l.from }

  pub both_keep : {c e : ℕ} → c ≡ a → e ≡ b → Keeps k holds may w c × Keeps k holds may x e
  both_keep is_a is_b =
      let later = learned_later counted_rules k holds may (counted_obeys k) v u w x a b one.is two.is l one.now two.now in (
        subst (λ z. Keeps k holds may w z) (sym is_a) (record { is = l.into.agent ∙ one.is; number = one.number; began = one.began; now = later.0 }),
        subst (λ z. Keeps k holds may x z) (sym is_b) (record { is = l.from.agent ∙ two.is; number = two.number; began = two.began; now = later.1 }),
      )

  -- the pass that then takes in the other
  pub absorb_keeps : Keeps k holds may (absorbing w x) a
  absorb_keeps =
      let t = (both_keep {c = a} {e = b} refl refl).0 in
      record { is = t.is; number = t.number; began = t.began; now = absorbing_later counted_rules k holds may w x a t.now }

  pub absorbs : AbsorbsSteps (view_of a v) (view_of b u) (view_of a (absorbing w x))
  absorbs = record {
    longer = l.longer;
    agent = refl;
    record_is = l.into.mine;
    absorbed = λ i. (ap agent_of (l.from.agent ∙ two.is) i) ∷ (l.from.also i ++ l.into.also i);
    own = l.into.steps a (inl one.is);
    retired = λ o there. l.into.steps o (inr there);
    taken = λ o who.
        ap (steps_of o) (sym l.both)
        ∙ l.from.steps o (⊎_elim (λ e. inl (two.is ∙ ap (λ (z : ℕ). Some z) (sym e))) (λ there. inr there) who);
  }
