-- Looks at gates leave a table at rest.
use Rattle.std.proofs.Common.{Bool, List, None, [], ap, append-nil, append_assoc, false, get_or-set_other, get_or-set_same, length}
use Rattle.std.proofs.Common.{refl, subst, suc, sym, true, zero, ℕ, ◌++◌, ◌<◌, ◌∙◌, ◌∷◌, ◌≡◌}
use Rattle.std.proofs.lemmas.Bool.{eq-eqb, eqb-true, false≢true}
use Rattle.std.specs.Prelude.{slice_index, ◌==◌}
use Rattle.orc_machine_rest.proofs.GateWords.{look_keeps}
use Rattle.orc_machine_rest.specs.Looks.{gate_looks}
use Rattle.orc_core.specs.After.{after}
use Rattle.orc_core.specs.Machine.{Machine, nobody, record_at, step, word_read}
use Rattle.orc_core.specs.declared.ops.Op.TheVariants.{GateLook}
use Rattle.orc_core.specs.declared.records.Agent.{Agent}
use Rattle.orc_machine_board.specs.Laws.Steps.{bounds_run, long_run, run_next}
use Rattle.orc_machine_board.specs.Rules.{does, run_of}
use Rattle.orc_rest.specs.Rest.{IsAtRest, IsResting}
use Rattle.orc_sound.specs.declared.steps.Step.{Step}
use Rattle.orc_words.specs.Bounds.{Bounds, IsShape}
use Rattle.orc_words.specs.Places.{place}
use Rattle.orc_words.specs.declared.place.Word.TheVariants.{Handover}

looked_rests : (r w : ℕ) (d : Agent) → IsResting d → IsResting (after (GateLook r) d w)
looked_rests r w d q =
    record { holds = q.holds; fresh = q.fresh; inc = q.inc; dec = q.dec; due = q.due; hand = q.hand; scan = q.scan; doom = q.doom; list = q.list }

look_rests : (m : Machine) (a r : ℕ) → length m.agents ≡ m.bounds.agents → IsAtRest m → IsAtRest (step m a (GateLook r))
look_rests m a r long q = record {
  agents = λ x h. by_agent x h (x == a) refl;
  handovers = λ x k h i. ap (λ ws. slice_index ws (place m.bounds (Handover x k))) (look_keeps m a r) ∙ q.handovers x k h i;
}
  where
    by_agent : (x : ℕ) → x < m.bounds.agents → (t : Bool) → (x == a) ≡ t → IsResting (record_at (step m a (GateLook r)) x)
    by_agent x h false e =
        subst IsResting (sym (get_or-set_other m.agents a x _ (nobody m.bounds.rows) (λ p. false≢true (sym e ∙ eq-eqb x a p)))) (q.agents x h)
    by_agent x h true e =
        let same : x ≡ a = eqb-true x a e in
        let there : a < length m.agents = rw (long, ← same) h in
        subst (λ y. IsResting (record_at (step m a (GateLook r)) y)) (sym same)
        (subst IsResting (sym (get_or-set_same m.agents a _ (nobody m.bounds.rows) there))
        (looked_rests r (word_read m a (GateLook r)) (record_at m a) (q.agents a (rw (← same) h))))

pub still_at_rest : {N : Type 0} (b : Bounds) (j : List (Step N)) (a n : ℕ) → IsShape b → IsAtRest (run_of b j) → IsAtRest (run_of b (j ++ gate_looks a n))
still_at_rest b j a zero shape q = subst (λ k. IsAtRest (run_of b k)) (sym (append-nil j)) q
still_at_rest b j a (suc n) shape q =
    let k = j ++ gate_looks a n in
    let before = still_at_rest b j a n shape q in
    let long = long_run b k shape ∙ ap (λ (c : Bounds). c.agents) (sym (bounds_run b k)) in
    subst (λ l. IsAtRest (run_of b l)) (append_assoc j (gate_looks a n) (does a (GateLook n) None ∷ []))
    (subst IsAtRest (sym (run_next b k (does a (GateLook n) None))) (look_rests (run_of b k) a n long before))
