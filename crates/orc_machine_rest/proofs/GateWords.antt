-- A look at a gate changes no word, and the counts that gates tell are those of the journal.
use Rattle.std.proofs.Common.{List, None, [], ap, arith, refl, subst, sym, true, ℕ, ◌%◌}
use Rattle.std.proofs.Common.{◌*◌, ◌+◌, ◌++◌, ◌/◌, ◌<◌, ◌∙◌, ◌∷◌, ◌≡◌, ◌≤◌, ◌^◌, Bool, false, ◌≢◌}
use Rattle.std.proofs.lemmas.Bool.{eqb-true, eqb-false, lt-ltb}
use Rattle.std.proofs.lemmas.List.{set-get_or}
use Rattle.std.specs.Prelude.{slice_index, ◌==◌}
use Rattle.orc_core.specs.Allowed.{may}
use Rattle.orc_core.specs.Counts.{is_out}
use Rattle.orc_core.specs.Machine.{Machine, new_machine, step, word_in}
use Rattle.orc_core.specs.Sums.{count_below, sum_below}
use Rattle.orc_core.specs.declared.ops.Op.TheVariants.{GateLook}
use Rattle.orc_core.specs.declared.records.Agent.{Agent}
use Rattle.orc_machine_rest.specs.Looks.{MayLookAtGates}
use Rattle.orc_machine_board.specs.Laws.Steps.{bounds_run, run_next}
use Rattle.orc_machine_board.specs.Rules.{does, run_of}
use Rattle.orc_rest.proofs.Given.{given_is_lives, given_told}
use Rattle.orc_rest.specs.Reuse.{given, reused, rows_out}
use Rattle.orc_sound.proofs.ForRuns.{run_sound}
use Rattle.orc_sound.proofs.Journals.{plain_lawful}
use Rattle.orc_sound.proofs.Sums.{sum_mono, sum_same, sum_times, sum_le}
use Rattle.orc_sound.specs.Journals.{IsLawfulJournal, plain}
use Rattle.orc_sound.specs.declared.steps.Step.{Step}
use Rattle.orc_words.specs.Bounds.{Bounds, IsShape}
use Rattle.orc_words.specs.Packed.{bit}
use Rattle.orc_words.specs.declared.place.Word.TheVariants.{Gate}
use Rattle.orc_words.specs.Places.{place}

-- the life of a row, and 1 where it is out, as its gate tells after the journal
abbrev pub life_at : {N : Type 0} → Bounds → List (Step N) → ℕ → ℕ
life_at b j r = word_in (run_of b j) (Gate r) / 2

abbrev pub out_at : {N : Type 0} → Bounds → List (Step N) → ℕ → ℕ
out_at b j r = word_in (run_of b j) (Gate r) % 2

pub look_keeps : (m : Machine) (a r : ℕ) → (step m a (GateLook r)).words ≡ m.words
look_keeps m a r = set-get_or m.words _ 0

pub looked_words : {N : Type 0} (b : Bounds) (j : List (Step N)) (a r : ℕ) → (run_of b (j ++ does a (GateLook r) None ∷ [])).words ≡ (run_of b j).words
looked_words b j a r = ap (λ (m : Machine). m.words) (run_next b j (does a (GateLook r) None)) ∙ look_keeps (run_of b j) a r

-- journals that leave the same words tell the same of each gate
pub same_gate : {N : Type 0} (b : Bounds) (j k : List (Step N)) (r : ℕ) → (run_of b k).words ≡ (run_of b j).words
    → word_in (run_of b k) (Gate r) ≡ word_in (run_of b j) (Gate r)
same_gate b j k r e = λ i. slice_index (e i) (place ((bounds_run b k ∙ sym (bounds_run b j)) i) (Gate r))

pub may_look : (b : Bounds) (a r : ℕ) (d : Agent) → a < b.agents → r < b.rows → MayLookAtGates d → may b 0 a (GateLook r) d ≡ true
may_look b a r d h l m = rw (lt-ltb a b.agents h, m.enrolled, m.due, m.inc, m.dec, lt-ltb r b.rows l) refl

out_bit : (w : ℕ) → bit (w % 2 == 1) ≡ w % 2
out_bit w = cases (w % 2 == 1) refl
  where
    cases : (t : Bool) → (w % 2 == 1) ≡ t → bit t ≡ w % 2
    cases true e = sym (eqb-true (w % 2) 1 e)
    cases false e = let n : w % 2 ≢ 1 = eqb-false (w % 2) 1 e in omega arith

pub given_by_gates : {N : Type 0} (b : Bounds) (j : List (Step N)) → IsShape b → IsLawfulJournal (new_machine b) j
    → given (new_machine b) (plain j) ≡ sum_below b.rows (life_at b j)
given_by_gates b j shape l = given_is_lives b (plain j) shape (plain_lawful (new_machine b) j l)

pub out_by_gates : {N : Type 0} (b : Bounds) (j : List (Step N)) → rows_out (run_of b j) ≡ sum_below b.rows (out_at b j)
out_by_gates b j =
    let m = run_of b j in
    ap (λ (c : Bounds). count_below c.rows (is_out m)) (bounds_run b j)
    ∙ sum_same b.rows (λ r. bit (is_out m r)) (out_at b j) (λ r h. out_bit (word_in m (Gate r)))

pub balanced : {N : Type 0} (b : Bounds) (j : List (Step N)) → IsShape b → IsLawfulJournal (new_machine b) j
    → given (new_machine b) (plain j) ≡ reused (plain j) + rows_out (run_of b j)
balanced b j shape l = given_told b (plain j) shape (plain_lawful (new_machine b) j l)

pub life_low : {N : Type 0} (b : Bounds) (j : List (Step N)) (r : ℕ) → IsShape b → IsLawfulJournal (new_machine b) j → r < b.rows → life_at b j r ≤ 2 ^ 39
life_low b j r shape l h =
    (run_sound b (plain j) shape (plain_lawful (new_machine b) j l)).ranges.life r (subst (λ (c : Bounds). r < c.rows) (sym (bounds_run b j)) h)

-- sums over the first rows are small
pub lives_low : {N : Type 0} (b : Bounds) (j : List (Step N)) (n : ℕ) → IsShape b → IsLawfulJournal (new_machine b) j → n ≤ b.rows
    → sum_below n (life_at b j) ≤ 2 ^ 39 * n
lives_low b j n shape l h =
    let each = sum_mono n (life_at b j) (λ r. 2 ^ 39) (λ r k. life_low b j r shape l (omega arith)) in
    let all = sum_times n (2 ^ 39) in
    omega arith

pub outs_low : {N : Type 0} (b : Bounds) (j : List (Step N)) (n : ℕ) → sum_below n (out_at b j) ≤ n
outs_low b j n = sum_le n (out_at b j) (λ r. small (word_in (run_of b j) (Gate r)))
  where
    small : (w : ℕ) → w % 2 ≤ 1
    small w = omega arith
