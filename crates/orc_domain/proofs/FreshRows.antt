-- The counter word of a fresh row that nothing links: count 0, no retired bit, and its sequence stays.
use Rattle.std.proofs.Common.{Bool, List, None, Some, [], ap, append_assoc, append-nil, arith, false, refl, subst, sym, true, ℕ, ⊎_elim, ◌*◌, ◌++◌, ◌+◌, ◌<◌, ◌^◌, ◌∙◌, ◌≡◌, ◌≢◌, ◌∷◌}
use Rattle.std.proofs.lemmas.Bool.{ltb-true}
use Rattle.std.specs.Prelude.{nat_lt, ◌&&◌, ◌/◌, ◌==◌, ◌||◌}
use native.Mathlib.Decide.{ℕ_discrete}
use mathlib.Core.Logic.{dite}
use Rattle.orc_core.specs.Actions.{clear_word}
use Rattle.orc_core.specs.Counts.{links_to}
use Rattle.orc_core.specs.Machine.{new_machine, record_at, step, word_in}
use Rattle.orc_core.specs.RecordParts.{any_holds, names}
use Rattle.orc_core.specs.declared.ops.CounterUse.TheVariants.{Check}
use Rattle.orc_core.specs.declared.ops.Op.TheVariants.{CounterLoad}
use Rattle.orc_core.specs.declared.records.Agent.{Agent}
use Rattle.orc_heap.specs.Heap.{Node}
use Rattle.orc_heap.specs.Journals.{run_heap}
use Rattle.orc_heap.specs.Seats.{IsUntouched}
use Rattle.orc_history.specs.Journals.{own_of}
use Rattle.orc_machine_board.proofs.Holds.{record_stays}
use Rattle.orc_machine_board.specs.Laws.Steps.{bounds_run, run_next}
use Rattle.orc_machine_board.specs.Rules.{run_of}
use Rattle.orc_projection.proofs.Mirrored.{projection_mirrors}
use Rattle.orc_projection.specs.Mirror.{IsNamed, numbers_of}
use Rattle.orc_projection.specs.Projection.{StoresUnmarked, present_ids, project}
use Rattle.orc_domain.specs.Laws.Counters.{CounterSource, counter_source, uses_fresh, write_same}
use Rattle.orc_domain.specs.Laws.Gates.{lawful_last}
use Rattle.orc_domain.proofs.Protecting.{true_false}
use Rattle.orc_shared_words.proofs.Runs.{by_other, by_own, cons_nil}
use Rattle.orc_sound.proofs.AllFits.{AllFits, allowed_step, low_sequences, run_fits}
use Rattle.orc_sound.proofs.Bridge.{world_step}
use Rattle.orc_sound.proofs.Facts.{Counted, decs, incs, out, to_row}
use Rattle.orc_sound.proofs.ForRuns.{run_full}
use Rattle.orc_sound.proofs.Fresh.{not_one}
use Rattle.orc_sound.proofs.Journals.{IsLawfulJournal-append, plain_lawful}
use Rattle.orc_sound.proofs.Outs.{null_row}
use Rattle.orc_sound.proofs.Shown.{word_shown}
use Rattle.orc_sound.proofs.Sums.{sum_zero}
use Rattle.orc_sound.proofs.World.{World, step_world, world_of}
use Rattle.orc_sound.specs.Journals.{IsLawfulJournal, plain}
use Rattle.orc_sound.specs.Linked.{IsOut, uses}
use Rattle.orc_sound.specs.declared.steps.Step.{Step}
use Rattle.orc_words.specs.Bounds.{Bounds, IsShape}
use Rattle.orc_words.specs.Packed.{bit, count_bits, retired_bit, sequence_of}
use Rattle.orc_words.specs.declared.place.Word.{Word}
use Rattle.orc_words.specs.declared.place.Word.TheVariants.{Counter, Gate, Next, Root, Side}

is_clear_word : (w : ℕ) → count_bits w ≡ 4194304 → retired_bit w ≡ 0 → w ≡ clear_word (sequence_of w)
is_clear_word w c r = omega (arith, c, r)

unused : (d : Agent) (r : ℕ) → uses d r ≡ false → (names d.inc r ≡ false) × (names d.dec r ≡ false)
unused d r h = parts (any_holds d.slots r || names d.fresh r) (names d.inc r) (names d.dec r) _ h
  where
    parts : (x y z w : Bool) → (((x || y) || z) || w) ≡ false → (y ≡ false) × (z ≡ false)
    parts false false false w h = (refl, refl)
    parts true y z w h = cc
    parts false true z w h = cc
    parts false false true w h = cc

module _ {N : Type 0} (b : Bounds) (a r : ℕ) (shape : IsShape b) (low : r < b.rows) where
  -- the agent has the row fresh, and nothing pending
  pub record FreshAt (j : List (Step N)) : Type 0 where
    pub lawful : IsLawfulJournal (new_machine b) j
    pub fresh : names (record_at (run_of b j) a).fresh r ≡ true

  fits_at : (j : List (Step N)) → IsLawfulJournal (new_machine b) j → AllFits (run_of b j).bounds (world_of (run_of b j))
  fits_at j l = run_fits b (plain j) shape (plain_lawful (new_machine b) j l)

  row_low : (j : List (Step N)) → r < (run_of b j).bounds.rows
  row_low j = subst (λ (c : Bounds). r < c.rows) (sym (bounds_run b j)) low

  -- a link was made to each row that is a target, and none to its node, so it isn't the target of this word
  names_other : (j : List (Step N)) (w : Word) → IsUntouched a (run_heap (numbers_of b) (project b j)) ((present_ids b j).node r)
      → (world_of (run_of b j)).memory w ≡ word_in (run_of b j) w
      → (links_to (word_in (run_of b j) w) r ≡ true → IsNamed (run_heap (numbers_of b) (project b j)) ((present_ids b j).node r))
      → to_row ((world_of (run_of b j)).memory w) r ≡ 0
  names_other j w u word named =
      not_one ((world_of (run_of b j)).memory w / 2 == r + 1) (λ one.
      let n = named (bit_true (links_to (word_in (run_of b j) w) r) (subst (λ x. bit (x / 2 == r + 1) ≡ 1) word one)) in
      let node : Some n.node ≡ Some u.node = sym n.there ∙ u.there in
      let one_node : n.node ≡ u.node = cc in
      true_false n.node.named n.named (ap (λ (y : Node). y.named) one_node ∙ u.unnamed))
    where
      bit_true : (t : Bool) → bit t ≡ 1 → t ≡ true
      bit_true true e = refl
      bit_true false e = absurd (omega (arith, e))

  -- so is its own second link, which is null where the shape has none
  side_names_other : (j : List (Step N)) → Counted (run_of b j).bounds (world_of (run_of b j))
      → IsUntouched a (run_heap (numbers_of b) (project b j)) ((present_ids b j).node r)
      → (1 < (run_of b j).bounds.links → links_to (word_in (run_of b j) (Side r)) r ≡ true
      → IsNamed (run_heap (numbers_of b) (project b j)) ((present_ids b j).node r))
      → to_row ((world_of (run_of b j)).memory (Side r)) r ≡ 0
  side_names_other j counted u named = cases (nat_lt 1 (run_of b j).bounds.links) refl
    where
      hidden : (t : Bool) → (t && false) ≡ false
      hidden true = refl
      hidden false = refl

      cases : (t : Bool) → nat_lt 1 (run_of b j).bounds.links ≡ t → to_row ((world_of (run_of b j)).memory (Side r)) r ≡ 0
      cases true e =
          let two = ltb-true 1 (run_of b j).bounds.links e in
          names_other j (Side r) u (word_shown (run_of b j) (Side r) (row_low j, two)) (named two)
      cases false e =
          null_row ((world_of (run_of b j)).memory (Side r)) r
          (counted.outside (Side r) (ap (λ t. nat_lt r (run_of b j).bounds.rows && t) e ∙ hidden (nat_lt r (run_of b j).bounds.rows)))

  -- where nothing links it, and its agent has no change pending, its word is clear
  pub fresh_clear : (j : List (Step N)) → FreshAt j → StoresUnmarked j → (record_at (run_of b j) a).inc ≡ None → (record_at (run_of b j) a).dec ≡ None
      → IsOut (run_of b j) r → IsUntouched a (run_heap (numbers_of b) (project b j)) ((present_ids b j).node r)
      → let w = word_in (run_of b j) (Counter r) in w ≡ clear_word (sequence_of w)
  fresh_clear j f unmarked inc dec o u =
      let m = run_of b j in
      let z = world_of m in
      let all = fits_at j f.lawful in
      let counted = all.counted in
      let others : (x : ℕ) → x ≢ a → uses (z.seats x) r ≡ false = λ x ne. counted.fresh_alone a x r f.fresh ne in
      let no_inc : incs m.bounds z.seats r ≡ 0 = sum_zero m.bounds.agents (λ x. bit (names (z.seats x).inc r)) (λ x. dite (ℕ_discrete x a)
      (λ same. ap bit (ap (λ y. names (record_at m y).inc r) same ∙ ap (λ o. names o r) inc))
      (λ ne. ap bit (unused (z.seats x) r (others x ne)).0)) in
      let no_dec : decs m.bounds z.seats r ≡ 0 = sum_zero m.bounds.agents (λ x. bit (names (z.seats x).dec r)) (λ x. dite (ℕ_discrete x a)
      (λ same. ap bit (ap (λ y. names (record_at m y).dec r) same ∙ ap (λ o. names o r) dec))
      (λ ne. ap bit (unused (z.seats x) r (others x ne)).1)) in
      let mirror = projection_mirrors b j shape f.lawful unmarked in
      let self = names_other j (Next r) u (word_shown m (Next r) (row_low j)) (mirror.next_named r r o) in
      let side = side_names_other j counted u (λ two. mirror.side_named r r two o) in
      let roots = sum_zero m.bounds.roots (λ i. to_row (z.memory (Root i)) r) (λ i. counted.fresh_root a i r f.fresh) in
      let nexts = sum_zero m.bounds.rows (λ i. out (z.memory (Gate i)) * to_row (z.memory (Next i)) r) (λ i.
      let none : to_row (z.memory (Next i)) r ≡ 0 = dite (ℕ_discrete i r) (λ same. subst (λ y. to_row (z.memory (Next y)) r ≡ 0) (sym same) self)
      (λ ne. counted.fresh_links a 0 i r f.fresh ne) in
      times_zero (out (z.memory (Gate i))) _ none) in
      let sides = sum_zero m.bounds.rows (λ i. out (z.memory (Gate i)) * to_row (z.memory (Side i)) r) (λ i.
      let none : to_row (z.memory (Side i)) r ≡ 0 = dite (ℕ_discrete i r) (λ same. subst (λ y. to_row (z.memory (Side y)) r ≡ 0) (sym same) side)
      (λ ne. counted.fresh_links a 1 i r f.fresh ne) in
      times_zero (out (z.memory (Gate i))) _ none) in
      let balance = counted.balance r (row_low j) in
      let count : count_bits (z.memory (Counter r)) ≡ 4194304 = omega (arith, balance, no_inc, no_dec, roots, nexts, sides) in
      let word : z.memory (Counter r) ≡ word_in m (Counter r) = word_shown m (Counter r) (row_low j) in
      subst (λ w. w ≡ clear_word (sequence_of w)) word (is_clear_word (z.memory (Counter r)) count (counted.fresh_bit a r f.fresh))
    where
      times_zero : (x y : ℕ) → y ≡ 0 → x * y ≡ 0
      times_zero x y e = ap (λ z. x * z) e ∙ omega arith

  -- a step of another agent leaves it
  fresh_next : (j : List (Step N)) (s : Step N) → IsLawfulJournal (new_machine b) (j ++ s ∷ []) → s.agent ≢ a
      → names (record_at (run_of b j) a).fresh r ≡ true
      → word_in (run_of b (j ++ s ∷ [])) (Counter r) ≡ word_in (run_of b j) (Counter r)
  fresh_next j s l ne fresh =
      let m = run_of b j in
      let z = world_of m in
      let front = ((IsLawfulJournal-append (new_machine b) j (s ∷ [])).0 l).0 in
      let all = fits_at j front in
      let full = run_full b (plain j) shape in
      let can = lawful_last (new_machine b) j s l in
      let source : CounterSource m.bounds z s.agent s.op r = counter_source m.bounds z s.agent s.op r (allowed_step m s.agent s.op full all can) in
      let kept : (step_world z s.agent s.op).memory (Counter r) ≡ z.memory (Counter r) = ⊎_elim (λ same. same)
      (λ other. ⊎_elim
      (λ used. absurd (true_false (uses (z.seats s.agent) r) used (all.counted.fresh_alone a s.agent r fresh ne)))
      (λ doomed. absurd (true_false (uses (z.seats a) r) (uses_fresh (z.seats a) r fresh) ((all.doomed.gone s.agent r doomed).unused a)))
      other)
      source in
      let before : z.memory (Counter r) ≡ word_in m (Counter r) = word_shown m (Counter r) (row_low j) in
      let after : (step_world z s.agent s.op).memory (Counter r) ≡ word_in (step m s.agent s.op) (Counter r) =
      ap (λ (y : World). y.memory (Counter r)) (sym (world_step m s.agent s.op full.words full.agents can))
      ∙ word_shown (step m s.agent s.op) (Counter r) (row_low j) in
      ap (λ y. word_in y (Counter r)) (run_next b j s) ∙ (sym after ∙ (kept ∙ before))

  -- so do steps of others
  pub fresh_between : (j more : List (Step N)) → IsLawfulJournal (new_machine b) (j ++ more) → own_of (λ (x : Step N). x.agent) a more ≡ []
      → names (record_at (run_of b j) a).fresh r ≡ true → word_in (run_of b (j ++ more)) (Counter r) ≡ word_in (run_of b j) (Counter r)
  fresh_between j [] l none fresh = ap (λ y. word_in (run_of b y) (Counter r)) (append-nil j)
  fresh_between j (s ∷ ss) l none fresh =
      let ne : s.agent ≢ a = λ e. cons_nil s (own_of (λ (x : Step N). x.agent) a ss) (sym (by_own (λ (x : Step N). x.agent) a s ss e) ∙ none) in
      let rest : own_of (λ (x : Step N). x.agent) a ss ≡ [] = sym (by_other (λ (x : Step N). x.agent) a s ss ne) ∙ none in
      let one : own_of (λ (x : Step N). x.agent) a (s ∷ []) ≡ [] = by_other (λ (x : Step N). x.agent) a s [] ne in
      let again : j ++ s ∷ ss ≡ (j ++ s ∷ []) ++ ss = sym (append_assoc j (s ∷ []) ss) in
      let lawful = subst (IsLawfulJournal (new_machine b)) again l in
      let first = ((IsLawfulJournal-append (new_machine b) (j ++ s ∷ []) ss).0 lawful).0 in
      let still = subst (λ (e : Agent). names e.fresh r ≡ true) (sym (record_stays b j (s ∷ []) a one)) fresh in
      ap (λ y. word_in (run_of b y) (Counter r)) again ∙ (fresh_between (j ++ s ∷ []) ss lawful rest still ∙ fresh_next j s first ne fresh)

  -- and its agent's own load of the word
  pub load_keeps : (j : List (Step N)) (s : Step N) → IsLawfulJournal (new_machine b) (j ++ s ∷ []) → s.op ≡ CounterLoad r Check
      → word_in (run_of b (j ++ s ∷ [])) (Counter r) ≡ word_in (run_of b j) (Counter r)
  load_keeps j s l is =
      let m = run_of b j in
      let z = world_of m in
      let full = run_full b (plain j) shape in
      let can = lawful_last (new_machine b) j s l in
      let kept : (step_world z s.agent s.op).memory (Counter r) ≡ z.memory (Counter r) =
      ap (λ op. (step_world z s.agent op).memory (Counter r)) is ∙ write_same z.memory (Counter r) (Counter r) in
      let before : z.memory (Counter r) ≡ word_in m (Counter r) = word_shown m (Counter r) (row_low j) in
      let after : (step_world z s.agent s.op).memory (Counter r) ≡ word_in (step m s.agent s.op) (Counter r) =
      ap (λ (y : World). y.memory (Counter r)) (sym (world_step m s.agent s.op full.words full.agents can))
      ∙ word_shown (step m s.agent s.op) (Counter r) (row_low j) in
      ap (λ y. word_in y (Counter r)) (run_next b j s) ∙ (sym after ∙ (kept ∙ before))

  pub low_sequence : (j : List (Step N)) → IsLawfulJournal (new_machine b) j → sequence_of (word_in (run_of b j) (Counter r)) < 2 ^ 39 + 2 ^ 19
  low_sequence j l =
      let m = run_of b j in
      let word : (world_of m).memory (Counter r) ≡ word_in m (Counter r) = word_shown m (Counter r) (row_low j) in
      subst (λ w. sequence_of w < 2 ^ 39 + 2 ^ 19) word (low_sequences m.bounds (world_of m) (subst IsShape (sym (bounds_run b j)) shape) (fits_at j l) r)
