-- A new pass.
use Rattle.std.proofs.Common.{◌≡◌, ◌<◌, ℕ, [], Option, Some, None, refl, sym, subst}
use Rattle.orc_words.specs.Bounds.{bounds_of}
use Rattle.orc_heap.specs.Allowed.{AllAllowed}
use Rattle.orc_heap.specs.declared.discipline.Discipline as discipline
use Rattle.orc_shared_words.specs.Ends.{OpensLawfully}
use Rattle.orc_shared_words.specs.Runs.{AgentsBelow}
use Rattle.orc_shared_words.specs.declared.journal.View.{View}
use Rattle.orc_heap.proofs.Prefixes.{prefix_same}
use Rattle.orc_plain_board.specs.Machine.{AllowedFrom, numbers, project}
use Rattle.orc_plain_board.specs.Rules.{opening_steps, plain_rules}
use Rattle.orc_plain_board.specs.Views.{Keeps}
use Rattle.orc_plain_board.specs.declared.machine.PlainStep.{PlainStep}
use Rattle.orc_plain_board.specs.declared.shape.PlainShape.{PlainShape}

module _ {D N : Type 0} (d : discipline.Ghosts D N) where
  opened_keeps : (q : PlainShape N) → OpensLawfully plain_rules q (d.holds (numbers (bounds_of q.shape))) (d.may (numbers (bounds_of q.shape)))
      → d.holds (numbers (bounds_of q.shape)) []
      → (v : View (PlainStep N) (Unit {0})) (a : ℕ) → v.agent ≡ Some a → a < (bounds_of q.shape).agents → v.seen ≡ opening_steps q.seed
      → Keeps q (d.holds (numbers (bounds_of q.shape))) (d.may (numbers (bounds_of q.shape))) v a None
  opened_keeps q opens began v a is below seen = record {
    is = is;
    number = below;
    began = began;
    now = record {
      lawful = subst (AllowedFrom (bounds_of q.shape)) (sym seen) opens.lawful;
      opened = prefix_same (opening_steps q.seed) v.seen seen;
      below = subst (AgentsBelow (λ (s : PlainStep N). s.agent) (bounds_of q.shape).agents) (sym seen) opens.below;
      each = subst (λ j. AllAllowed (d.may (numbers (bounds_of q.shape))) [] (project (bounds_of q.shape) j)) (sym seen) opens.each;
      kept = subst (λ j. d.holds (numbers (bounds_of q.shape)) (project (bounds_of q.shape) j)) (sym seen) opens.kept;
      mine = refl;
      retired = λ b there. refl;
    };
    untouched = tt;
  }

  -- a pass that has seen the opening, of a board of this shape
  pub new_keeps : (q r : PlainShape N) → r ≡ q → OpensLawfully plain_rules q (d.holds (numbers (bounds_of q.shape))) (d.may (numbers (bounds_of q.shape)))
      → d.holds (numbers (bounds_of q.shape)) []
      → (v : View (PlainStep N) (Unit {0})) (a : ℕ) → v.agent ≡ Some a → a < (bounds_of q.shape).agents → v.seen ≡ opening_steps q.seed
      → (fresh : Option ℕ) → fresh ≡ None → Keeps r (d.holds (numbers (bounds_of r.shape))) (d.may (numbers (bounds_of r.shape))) v a fresh
  new_keeps q r same opens began v a is below seen fresh none =
      subst (λ (z : PlainShape N × Option ℕ). Keeps z.0 (d.holds (numbers (bounds_of z.0.shape))) (d.may (numbers (bounds_of z.0.shape))) v a z.1)
      (λ i. (sym same i, sym none i)) (opened_keeps q opens began v a is below seen)
