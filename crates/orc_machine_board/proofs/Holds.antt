-- A row keeps its node while an agent holds it, or has it fresh.
use Rattle.std.proofs.Common.{Bool, List, [], ap, append-nil, append_assoc, arith, eqb-true, false, ne_eqb, refl, subst, sym, true, ℕ, ◌++◌, ◌<◌, ◌∙◌, ◌≡◌, ◌≢◌, ◌∷◌}
use Rattle.std.specs.Prelude.{if◌then◌else◌, ◌%◌, ◌*◌, ◌==◌, ◌||◌}
use Rattle.orc_core.specs.Counts.{is_out}
use Rattle.orc_core.specs.Machine.{Machine, new_machine, record_at, word_in, word_read}
use Rattle.orc_core.specs.RecordParts.{any_holds, names, number_of}
use Rattle.orc_core.specs.declared.ops.Op.{Op}
use Rattle.orc_core.specs.declared.ops.Op.TheVariants.{GateTake}
use Rattle.orc_core.specs.declared.records.Agent.{Agent}
use Rattle.orc_history.specs.Journals.{own_of}
use Rattle.orc_projection.proofs.Mirrored.{ids-append}
use Rattle.orc_projection.specs.PresentIds.{PresentIds, no_ids, with_taken}
use Rattle.orc_projection.specs.Projection.{ids_after, is_taken, present_ids}
use Rattle.orc_machine_board.specs.Holding.{HasRow}
use Rattle.orc_machine_board.specs.Laws.Steps.{bounds_run, other_record, run_next}
use Rattle.orc_machine_board.specs.Rules.{run_of}
use Rattle.orc_shared_words.proofs.Runs.{by_other, by_own, cons_nil}
use Rattle.orc_sound.proofs.ForRuns.{run_sound}
use Rattle.orc_sound.proofs.Journals.{IsLawfulJournal-append, plain_lawful}
use Rattle.orc_sound.specs.Journals.{IsLawfulJournal, plain}
use Rattle.orc_sound.specs.Linked.{IsOut}
use Rattle.orc_sound.specs.declared.steps.Step.{Step}
use Rattle.orc_words.specs.Bounds.{Bounds, IsShape}
use Rattle.orc_words.specs.declared.place.Word.TheVariants.{Gate}

-- a row that wasn't free keeps its node in a step
node_after : (p : PresentIds) (d : Agent) (w : ℕ) (op : Op) (r : ℕ) → ((q : ℕ) → op ≡ GateTake q → is_taken d w ≡ true → r ≢ q)
    → (ids_after p d w op).node r ≡ p.node r
node_after p d w (GateTake q) r other = choice (is_taken d w) refl
  where
    choice : (t : Bool) → is_taken d w ≡ t → (if t then with_taken q p else p).node r ≡ p.node r
    choice true e = ap (λ (t : Bool). if t then p.given else p.node r) (ne_eqb r q (other q refl e))
    choice false e = refl
node_after p d w op r other = refl

-- a gate that is taken was that of a free row
was_free : (d : Agent) (w : ℕ) → is_taken d w ≡ true → (w % 2 == 1) ≡ true → ⊥
was_free d w taken out = let e : w ≡ 2 * number_of d.looked = eqb-true w (2 * number_of d.looked) taken in let o : w % 2 ≡ 1 = eqb-true
    (w % 2) 1 out in omega arith

pub out_stays : (m : Machine) (p : PresentIds) (x : ℕ) (op : Op) (r : ℕ) → is_out m r ≡ true
    → (ids_after p (record_at m x) (word_read m x op) op).node r ≡ p.node r
out_stays m p x op r out = node_after p (record_at m x) (word_read m x op) op r (λ q e taken same.
    was_free (record_at m x) (word_in m (Gate r))
    (subst (λ z. is_taken (record_at m x) (word_in m (Gate z)) ≡ true) (sym same)
    (subst (λ z. is_taken (record_at m x) (word_read m x z) ≡ true) e taken)) out)

pub one_of : (x y : Bool) (A : Type 0) → (x || y) ≡ true → (x ≡ true → A) → (y ≡ true → A) → A
one_of true y A h f g = f refl
one_of false y A h f g = g h

module _ {N : Type 0} where
  -- what an agent holds, or has fresh, is out
  pub has_out : (b : Bounds) (j : List (Step N)) (a r : ℕ) → IsShape b → IsLawfulJournal (new_machine b) j → a < b.agents
      → HasRow (record_at (run_of b j) a) r → IsOut (run_of b j) r
  has_out b j a r shape l lt has =
      let m = run_of b j in
      let sound = run_sound b (plain j) shape (plain_lawful (new_machine b) j l) in
      let below : a < m.bounds.agents = subst (λ (c : Bounds). a < c.agents) (sym (bounds_run b j)) lt in
      one_of (any_holds (record_at m a).slots r) (names (record_at m a).fresh r) (IsOut m r) has (sound.slots.held a r below) (sound.fresh.out a r below)

  by : Step N → ℕ
  by s = s.agent

  others_first : (a : ℕ) (s : Step N) (ss : List (Step N)) → own_of (λ (x : Step N). x.agent) a (s ∷ ss) ≡ []
      → (s.agent ≢ a) × (own_of (λ (x : Step N). x.agent) a ss ≡ [])
  others_first a s ss e =
      let ne : s.agent ≢ a = λ q. cons_nil s (own_of (λ (x : Step N). x.agent) a ss) (sym (by_own (λ (x : Step N). x.agent) a s ss q) ∙ e) in
      (ne, sym (by_other (λ (x : Step N). x.agent) a s ss ne) ∙ e)

  -- steps of others leave the record
  pub record_stays : (b : Bounds) (j more : List (Step N)) (a : ℕ) → own_of (λ (x : Step N). x.agent) a more ≡ []
      → record_at (run_of b (j ++ more)) a ≡ record_at (run_of b j) a
  record_stays b j [] a e = ap (λ l. record_at (run_of b l) a) (append-nil j)
  record_stays b j (s ∷ ss) a e =
      let first = others_first a s ss e in
      ap (λ l. record_at (run_of b l) a) (sym (append_assoc j (s ∷ []) ss))
      ∙ (record_stays b (j ++ s ∷ []) ss a first.1
      ∙ (ap (λ m. record_at m a) (run_next b j s) ∙ other_record (run_of b j) s.agent a s.op (λ q. first.0 (sym q))))

  -- and so the node of a row that the agent has
  pub node_stays : (b : Bounds) (j more : List (Step N)) (a r : ℕ) → IsShape b → IsLawfulJournal (new_machine b) (j ++ more) → a < b.agents
      → own_of (λ (x : Step N). x.agent) a more ≡ [] → HasRow (record_at (run_of b j) a) r
      → (present_ids b (j ++ more)).node r ≡ (present_ids b j).node r
  node_stays b j [] a r shape l lt e has = ap (λ l. (present_ids b l).node r) (append-nil j)
  node_stays b j (s ∷ ss) a r shape l lt e has =
      let first = others_first a s ss e in
      let again : j ++ s ∷ ss ≡ (j ++ s ∷ []) ++ ss = sym (append_assoc j (s ∷ []) ss) in
      let there : HasRow (record_at (run_of b (j ++ s ∷ [])) a) r = subst (λ d. HasRow d r)
      (sym (ap (λ m. record_at m a) (run_next b j s) ∙ other_record (run_of b j) s.agent a s.op (λ q. first.0 (sym q)))) has in
      let lawful = subst (IsLawfulJournal (new_machine b)) again l in
      let out = has_out b j a r shape ((IsLawfulJournal-append (new_machine b) j (s ∷ ss)).0 l).0 lt has in
      ap (λ t. (present_ids b t).node r) again
      ∙ (node_stays b (j ++ s ∷ []) ss a r shape lawful lt first.1 there
      ∙ (ap (λ (p : PresentIds). p.node r) (ids-append (new_machine b) no_ids j (s ∷ [])) ∙ out_stays (run_of b j) (present_ids b j) s.agent s.op r out.1))
