-- Where no row could be given, each row was taken before, so as many nodes as there are rows had been given.
use Rattle.std.proofs.Common.{List, Some, [], ap, arith, refl, subst, suc, sym, take, true, zero, ℕ, ⊎_elim, ◌++◌, ◌<◌, ◌∙◌, ◌≡◌, ◌∷◌, ◌≤◌}
use Rattle.std.specs.Prelude.{slice_get}
use Rattle.orc_core.specs.Counts.{is_out}
use Rattle.orc_core.specs.Machine.{new_machine, word_in}
use Rattle.orc_any_domain.proofs.Counting.{listed_all, nodes_given}
use Rattle.orc_heap.proofs.Changes.{get-grown}
use Rattle.orc_heap.specs.Moves.{gives_in}
use Rattle.orc_machine_board.specs.Laws.Steps.{bounds_run}
use Rattle.orc_machine_board.specs.Rules.{run_of}
use Rattle.orc_projection.proofs.Mirrored.{projection_mirrors}
use Rattle.orc_projection.proofs.OneRow.{row_of_node, taken-append, taken_count}
use Rattle.orc_projection.specs.Mirror.{numbers_of}
use Rattle.orc_projection.specs.Projection.{present_ids, project}
use Rattle.orc_projection.specs.Taken.{rows_taken}
use Rattle.orc_domain.specs.Laws.Gates.{OutIn, counter_between, gate_between}
use Rattle.orc_domain.specs.Causes.{IsLacking, IsTaken}
use Rattle.orc_sound.proofs.Journals.{IsLawfulJournal-append}
use Rattle.orc_sound.proofs.NewState.{counter_first, zero_first}
use Rattle.orc_sound.proofs.Shown.{word_shown}
use Rattle.orc_sound.specs.Journals.{IsLawfulJournal}
use Rattle.orc_sound.specs.declared.steps.Step.{Step}
use Rattle.orc_any_domain.specs.Rows.{IsListed}
use Rattle.orc_words.specs.Bounds.{Bounds, IsShape}
use Rattle.orc_words.specs.declared.place.Word.TheVariants.{Counter, Gate}

module _ {N : Type 0} where
  -- a row that was taken stays among the rows that were
  taken_later : (b : Bounds) (early late : List (Step N)) (r : ℕ) → IsListed (rows_taken b early) r → IsListed (rows_taken b (early ++ late)) r
  taken_later b early late r o = (
    o.0,
    subst (λ rows. slice_get rows o.0 ≡ Some r) (sym (taken-append (new_machine b) early late))
        (get-grown o.0 (rows_taken b early) _ r o.1),
  )

  -- a row that is out was taken
  out_taken : (b : Bounds) (j : List (Step N)) (r : ℕ) → IsShape b → IsLawfulJournal (new_machine b) j → r < b.rows → is_out (run_of b j) r ≡ true
      → IsListed (rows_taken b j) r
  out_taken b j r shape l h o = ((present_ids b j).node r, row_of_node b j r shape l (subst (λ (c : Bounds). r < c.rows) (sym (bounds_run b j)) h, o))

  once_out : (b : Bounds) (j : List (Step N)) (r : ℕ) → IsShape b → IsLawfulJournal (new_machine b) j → r < b.rows → OutIn b [] j r → IsListed (rows_taken b j) r
  once_out b j r shape l h o =
      let lawful = ((IsLawfulJournal-append (new_machine b) o.early o.late).0 (subst (IsLawfulJournal (new_machine b)) o.is l)).0 in
      subst (λ z. IsListed (rows_taken b z) r) (sym o.is) (taken_later b o.early o.late r (out_taken b o.early r shape lawful h o.out))

  -- so was one whose life or sequence is at the limit
  pub was_taken : (b : Bounds) (j : List (Step N)) (r : ℕ) → IsShape b → IsLawfulJournal (new_machine b) j → r < b.rows → IsTaken b (run_of b j) r
      → IsListed (rows_taken b j) r
  was_taken b j r shape l h t = ⊎_elim (λ o. out_taken b j r shape l h o)
      (λ s. ⊎_elim
      (λ life. ⊎_elim
      (λ same.
      let new : word_in (run_of b j) (Gate r) ≡ 0 = same ∙ (sym (word_shown (new_machine b) (Gate r) h) ∙ zero_first b (Gate r) refl) in
      let some = shape.limit.0 in
      absurd (omega (arith, life, new, some)))
      (once_out b j r shape l h)
      (gate_between b [] j r shape l h))
      (λ count. ⊎_elim
      (λ same.
      let new : word_in (run_of b j) (Counter r) ≡ 4194304 = same ∙ (sym (word_shown (new_machine b) (Counter r) h) ∙ counter_first b r h) in
      let some = shape.limit.0 in
      absurd (omega (arith, count, new, some)))
      (once_out b j r shape l h)
      (counter_between b [] j r shape l h))
      s.spent)
      t

take_split : {A : Type 0} (n m : ℕ) (xs : List A) → n ≤ m → (ys : List A) × (take m xs ≡ take n xs ++ ys)
take_split zero m xs h = (take m xs, refl)
take_split (suc n) zero xs h = absurd (omega (arith, h))
take_split (suc n) (suc m) [] h = ([], refl)
take_split (suc n) (suc m) (x ∷ xs) h = let rest = take_split n m xs (omega (arith, h)) in (rest.0, ap (λ l. x ∷ l) rest.1)

module _ {N : Type 0} where
  pub lacking_all : (b : Bounds) (agent : ℕ) (j : List (Step N)) (from to : ℕ) → IsLacking b agent j from to → b.rows ≤ gives_in (project b (take to j))
  lacking_all b agent j from to l =
      let all = take to j in
      let rows = rows_taken b all in
      let steps = l.steps in
      let taken : (r : ℕ) → r < b.rows → IsListed rows r = λ r h.
      let place = l.place r h in
      let cut = take_split place to j (l.last r h) in
      let lawful = ((IsLawfulJournal-append (new_machine b) (take place j) cut.0).0 (subst (IsLawfulJournal (new_machine b)) cut.1 steps.lawful)).0 in
      subst (λ z. IsListed (rows_taken b z) r) (sym cut.1)
      (taken_later b (take place j) cut.0 r (was_taken b (take place j) r steps.shape lawful h (l.taken r h))) in
      let many = listed_all rows b.rows taken in
      let count = taken_count b all steps.shape steps.lawful in
      let mirror = projection_mirrors b all steps.shape steps.lawful steps.unmarked in
      let given = mirror.given in
      let gives = nodes_given (numbers_of b) (project b all) in
      omega (arith, many, count, given, gives)
