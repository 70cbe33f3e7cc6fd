-- A row whose gate or counter has changed was out in between.
use Rattle.std.proofs.Common.{List, [], ap, append_assoc, append-nil, arith, eq-eqb, inl, inr, refl, subst, sym, true, ℕ, ⊎_elim, ◌++◌, ◌<◌, ◌∙◌, ◌≡◌, ◌∷◌, ◌⊎◌}
use Rattle.std.specs.Prelude.{◌%◌, ◌==◌}
use Rattle.orc_core.specs.Counts.{is_out}
use Rattle.orc_core.specs.Machine.{Machine, is_allowed, new_machine, step, word_in}
use Rattle.orc_core.specs.Runs.{run}
use Rattle.orc_core.specs.declared.ops.Op.{Op}
use Rattle.orc_sound.proofs.Journals.{IsLawfulJournal-append}
use Rattle.orc_machine_board.specs.Laws.Steps.{bounds_run, run_next}
use Rattle.orc_machine_board.specs.Rules.{run_of}
use Rattle.orc_sound.proofs.AllFits.{AllFits, allowed_step, run_fits}
use Rattle.orc_sound.proofs.Bridge.{world_step}
use Rattle.orc_sound.proofs.ForRuns.{run_full}
use Rattle.orc_sound.proofs.Full.{Full}
use Rattle.orc_sound.proofs.Journals.{plain_lawful}
use Rattle.orc_sound.proofs.Lives.{GateChange, gate_change}
use Rattle.orc_sound.proofs.Shown.{word_shown}
use Rattle.orc_domain.specs.Laws.Counters.{counter_change}
use Rattle.orc_sound.proofs.World.{World, step_world, world_of}
use Rattle.orc_words.specs.Places.{IsWithin}
use Rattle.orc_words.specs.declared.place.Word.{Word}
use Rattle.orc_sound.specs.Journals.{IsLawfulJournal, plain}
use Rattle.orc_sound.specs.declared.steps.Step.{Step}
use Rattle.orc_words.specs.Bounds.{Bounds, IsShape}
use Rattle.orc_words.specs.declared.place.Word.TheVariants.{Counter, Gate}

-- the word stays, or the row is out before the step or after it
abbrev WordStep : Word → Machine → Machine → ℕ → Type 0
WordStep w m n r = (word_in n w ≡ word_in m w) ⊎ (is_out m r ≡ true) ⊎ (is_out n r ≡ true)

odd_out : (w : ℕ) → w % 2 ≡ 1 → (w % 2 == 1) ≡ true
odd_out w h = eq-eqb (w % 2) 1 h

gate_out : (b : Bounds) (v w : ℕ) → GateChange b v w → (w ≡ v) ⊎ ((v % 2 == 1) ≡ true) ⊎ ((w % 2 == 1) ≡ true)
gate_out b v w c =
    ⊎_elim
    (λ same. inl same)
    (λ c. ⊎_elim
    (λ t. let i = t.0 in let j = t.1 in inr (inr (odd_out w (omega arith))))
    (λ f. let i = f.0 in inr (inl (odd_out v i)))
    c)
    c

module _ (m : Machine) (a : ℕ) (op : Op) (r : ℕ) (full : Full m) (fits : AllFits m.bounds (world_of m)) (can : is_allowed m a op ≡ true)
    (low : r < m.bounds.rows) where
  -- a word of the row before and after the step, as functions and as read
  shown_before : (w : Word) → IsWithin m.bounds w → (world_of m).memory w ≡ word_in m w
  shown_before w within = word_shown m w within

  shown_after : (w : Word) → IsWithin m.bounds w → (step_world (world_of m) a op).memory w ≡ word_in (step m a op) w
  shown_after w within = ap (λ (z : World). z.memory w) (sym (world_step m a op full.words full.agents can)) ∙ word_shown (step m a op) w within

  gate_step : WordStep (Gate r) m (step m a op) r
  gate_step =
      let c = gate_change m.bounds (world_of m) a op r (allowed_step m a op full fits can) fits.lives in
      gate_out m.bounds (word_in m (Gate r)) (word_in (step m a op) (Gate r))
      (subst (λ (z : ℕ × ℕ). GateChange m.bounds z.0 z.1) (λ i. (shown_before (Gate r) low i, shown_after (Gate r) low i)) c)

  counter_step : WordStep (Counter r) m (step m a op) r
  counter_step = ⊎_elim
      (λ same. inl (sym (shown_after (Counter r) low) ∙ (same ∙ shown_before (Counter r) low)))
      (λ o. inr (inl (odd_out (word_in m (Gate r)) (subst (λ v. v % 2 ≡ 1) (shown_before (Gate r) low) o))))
      (counter_change m.bounds (world_of m) a op r (allowed_step m a op full fits can))

module _ {N : Type 0} where
  pub lawful_last : (m : Machine) (j : List (Step N)) (s : Step N) → IsLawfulJournal m (j ++ s ∷ []) → is_allowed (run m (plain j)) s.agent s.op ≡ true
  lawful_last m [] s l = l.0
  lawful_last m (x ∷ xs) s l = lawful_last (step m x.agent x.op) xs s l.2

  -- one more step of a lawful journal does so
  next_step : (w : Word) (r : ℕ) → ((m : Machine) (a : ℕ) (op : Op) → Full m → AllFits m.bounds (world_of m) → is_allowed m a op ≡ true → r < m.bounds.rows
      → WordStep w m (step m a op) r)
      → (b : Bounds) (j : List (Step N)) (s : Step N) → IsShape b → IsLawfulJournal (new_machine b) (j ++ s ∷ []) → r < b.rows
      → WordStep w (run_of b j) (run_of b (j ++ s ∷ [])) r
  next_step w r law b j s shape l h =
      let before = plain_lawful (new_machine b) j (((IsLawfulJournal-append (new_machine b) j (s ∷ [])).0 l).0) in
      subst (λ (m : Machine). WordStep w (run_of b j) m r) (sym (run_next b j s))
      (law (run_of b j) s.agent s.op (run_full b (plain j) shape) (run_fits b (plain j) shape before) (lawful_last (new_machine b) j s l)
      (subst (λ (c : Bounds). r < c.rows) (sym (bounds_run b j)) h))

  next_gate : (b : Bounds) (j : List (Step N)) (s : Step N) (r : ℕ) → IsShape b → IsLawfulJournal (new_machine b) (j ++ s ∷ []) → r < b.rows
      → WordStep (Gate r) (run_of b j) (run_of b (j ++ s ∷ [])) r
  next_gate b j s r shape l h = next_step (Gate r) r (λ m a op. gate_step m a op r) b j s shape l h

  next_counter : (b : Bounds) (j : List (Step N)) (s : Step N) (r : ℕ) → IsShape b → IsLawfulJournal (new_machine b) (j ++ s ∷ []) → r < b.rows
      → WordStep (Counter r) (run_of b j) (run_of b (j ++ s ∷ [])) r
  next_counter b j s r shape l h = next_step (Counter r) r (λ m a op. counter_step m a op r) b j s shape l h

  -- the row is out after some of these steps
  pub record OutIn (b : Bounds) (j more : List (Step N)) (r : ℕ) : Type 0 where
    pub early : List (Step N)
    pub late : List (Step N)
    pub is : more ≡ early ++ late
    pub out : is_out (run_of b (j ++ early)) r ≡ true

  -- over any lawful steps the word is the same at the end, or the row was out
  word_between : (w : Word) (b : Bounds) (r : ℕ) → ((j : List (Step N)) (s : Step N) → IsLawfulJournal (new_machine b) (j ++ s ∷ [])
      → WordStep w (run_of b j) (run_of b (j ++ s ∷ [])) r)
      → (j more : List (Step N)) → IsLawfulJournal (new_machine b) (j ++ more)
      → (word_in (run_of b (j ++ more)) w ≡ word_in (run_of b j) w) ⊎ OutIn b j more r
  word_between w b r law j [] l = inl (ap (λ z. word_in (run_of b z) w) (append-nil j))
  word_between w b r law j (s ∷ ss) l =
      let again : j ++ s ∷ ss ≡ (j ++ s ∷ []) ++ ss = sym (append_assoc j (s ∷ []) ss) in
      let lawful = subst (IsLawfulJournal (new_machine b)) again l in
      let rest = word_between w b r law (j ++ s ∷ []) ss lawful in
      ⊎_elim
      (λ same. ⊎_elim
      (λ kept. inl (ap (λ z. word_in (run_of b z) w) again ∙ (kept ∙ same)))
      (λ (o : OutIn b (j ++ s ∷ []) ss r). inr (record {
        early = s ∷ o.early;
        late = o.late;
        is = ap (λ z. s ∷ z) o.is;
        out = subst (λ z. is_out (run_of b z) r ≡ true) (append_assoc j (s ∷ []) o.early) o.out;
      }))
      rest)
      (λ c. ⊎_elim
      (λ now. inr (record { early = []; late = s ∷ ss; is = refl; out = subst (λ z. is_out (run_of b z) r ≡ true) (sym (append-nil j)) now }))
      (λ later. inr (record { early = s ∷ []; late = ss; is = refl; out = later }))
      c)
      (law j s ((IsLawfulJournal-append (new_machine b) (j ++ s ∷ []) ss).0 lawful).0)

  pub gate_between : (b : Bounds) (j more : List (Step N)) (r : ℕ) → IsShape b → IsLawfulJournal (new_machine b) (j ++ more) → r < b.rows
      → (word_in (run_of b (j ++ more)) (Gate r) ≡ word_in (run_of b j) (Gate r)) ⊎ OutIn b j more r
  gate_between b j more r shape l h = word_between (Gate r) b r (λ x s lawful. next_gate b x s r shape lawful h) j more l

  pub counter_between : (b : Bounds) (j more : List (Step N)) (r : ℕ) → IsShape b → IsLawfulJournal (new_machine b) (j ++ more) → r < b.rows
      → (word_in (run_of b (j ++ more)) (Counter r) ≡ word_in (run_of b j) (Counter r)) ⊎ OutIn b j more r
  counter_between b j more r shape l h = word_between (Counter r) b r (λ x s lawful. next_counter b x s r shape lawful h) j more l
