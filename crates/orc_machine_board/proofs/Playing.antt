-- One step of those that go on.
use Rattle.std.proofs.Common.{List, [], append_assoc, ap, arith, drop, length, refl, subst, suc, sym, true, zero, ℕ, ◌+◌, ◌++◌, ◌<◌, ◌∙◌, ◌∷◌, ◌≡◌, ◌≤◌}
use Rattle.std.specs.Prelude.{slice_index_or}
use Rattle.std.proofs.Math.Seq.{drop-cons}
use Rattle.orc_core.proofs.Steps.{IsLawful-append, run-append}
use Rattle.orc_core.specs.Machine.{LeavesRoom, Machine, is_allowed, new_machine, step}
use Rattle.orc_core.specs.Runs.{IsLawful, run}
use Rattle.orc_core.specs.declared.ops.Op.{Op}
use Rattle.orc_machine_board.specs.Plays.{PlaysOn}
use Rattle.orc_sound.proofs.ForRuns.{room_left}
use Rattle.orc_words.specs.Bounds.{Bounds}

pub drop_next : {A : Type 0} (xs : List A) (i : ℕ) (d : A) → i < length xs → drop i xs ≡ slice_index_or xs i d ∷ drop (i + 1) xs
drop_next xs i d lt = let e : suc i ≡ i + 1 = omega arith in subst (λ j. drop i xs ≡ slice_index_or xs i d ∷ drop j xs) e (drop-cons xs i d lt)

pub drop_none : {A : Type 0} (xs : List A) (i : ℕ) → length xs ≤ i → drop i xs ≡ []
drop_none [] zero le = refl
drop_none [] (suc i) le = refl
drop_none (x ∷ xs) zero le = absurd (omega arith)
drop_none (x ∷ xs) (suc i) le = drop_none xs i (omega arith)

module _ (b : Bounds) (m : Machine) (a : ℕ) (op : Op) (rest : List (ℕ × Op)) (g : PlaysOn b m ((a, op) ∷ rest)) where
  parts : IsLawful (new_machine b) g.before × IsLawful (run (new_machine b) g.before) ((a, op) ∷ rest)
  parts = (IsLawful-append (new_machine b) g.before ((a, op) ∷ rest)).0 g.lawful

  pub goes_allowed : is_allowed m a op ≡ true
  goes_allowed = subst (λ (z : Machine). is_allowed z a op ≡ true) (sym g.is) parts.1.0

  pub goes_room : LeavesRoom m a op
  goes_room = subst (λ (z : Machine). LeavesRoom z a op) (sym g.is) (room_left b g.before a op g.shape parts.0)

  pub goes_on : PlaysOn b (step m a op) rest
  goes_on = record {
    shape = g.shape;
    before = g.before ++ (a, op) ∷ [];
    is = ap (λ (z : Machine). step z a op) g.is ∙ sym (run-append (new_machine b) g.before ((a, op) ∷ []));
    lawful = subst (IsLawful (new_machine b)) (sym (append_assoc g.before ((a, op) ∷ []) rest)) g.lawful;
  }
