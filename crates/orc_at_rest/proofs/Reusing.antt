-- A lawful journal uses its rows again safely, and leaks none at rest.
use Rattle.std.proofs.Common.{List, subst, sym, true, ℕ, ◌++◌, ◌+◌, ◌∷◌, ◌≡◌}
use Rattle.orc_words.specs.Bounds.{Bounds, IsShape}
use Rattle.orc_core.specs.Machine.{Machine, answer, is_allowed, new_machine, step}
use Rattle.orc_core.specs.Runs.{IsLawful, run}
use Rattle.orc_core.specs.declared.ops.Op.{Op}
use Rattle.orc_core.specs.declared.ops.Op.TheVariants.{Free, GateTake}
use Rattle.orc_sound.proofs.ForRuns.{freed_between, freed_unreachable}
use Rattle.orc_sound.proofs.Journals.{IsLawfulJournal-append, plain_lawful, run_plain-append}
use Rattle.orc_sound.specs.Journals.{IsLawfulJournal, plain}
use Rattle.orc_sound.specs.Lifetimes.{times_freed, times_taken}
use Rattle.orc_sound.specs.Linked.{IsOut, IsUnreachable}
use Rattle.orc_sound.specs.declared.steps.Step.{Step}
use Rattle.orc_machine_board.specs.Rules.{run_of}
use Rattle.orc_at_rest.specs.Reuse.{ReusesSafely, TakesRow}

module _ {N : Type 0} (b : Bounds) (journal : List (Step N)) (shape : IsShape b) (lawful : IsLawfulJournal (new_machine b) journal) where
  frees : (before after : List (Step N)) (s : Step N) (r : ℕ) → journal ≡ before ++ s ∷ after → s.op ≡ Free r
      → IsOut (run_of b before) r × IsUnreachable (run_of b before) r
  frees before after s r is op =
      let parts = (IsLawfulJournal-append (new_machine b) before (s ∷ after)).0 (subst (IsLawfulJournal (new_machine b)) is lawful) in
      freed_unreachable b (plain before) s.agent r shape (plain_lawful (new_machine b) before parts.0)
      (subst (λ (o : Op). is_allowed (run_of b before) s.agent o ≡ true) op parts.1.0)

  once : (before between after : List (Step N)) (s t : Step N) (r : ℕ) → journal ≡ before ++ s ∷ (between ++ t ∷ after)
      → TakesRow b journal (run_of b before) s r → TakesRow b journal (run_of b (before ++ s ∷ between)) t r
      → times_freed (plain between) r ≡ times_taken (step (run_of b before) s.agent s.op) (plain between) r + 1
  once before between after s t r is one two =
      let m = run_of b before in
      let parts = (IsLawfulJournal-append (new_machine b) before (s ∷ (between ++ t ∷ after))).0 (subst (IsLawfulJournal (new_machine b)) is lawful) in
      let rest = (IsLawfulJournal-append (step m s.agent s.op) between (t ∷ after)).0 parts.1.2 in
      let there : run_of b (before ++ s ∷ between) ≡ run (step m s.agent s.op) (plain between) = run_plain-append (new_machine b) before (s ∷ between) in
      let there_too : run_of b (before ++ s ∷ between) ≡ run (step m s.agent (GateTake r)) (plain between) =
      subst (λ (o : Op). run_of b (before ++ s ∷ between) ≡ run (step m s.agent o) (plain between)) one.op there in
      subst (λ (o : Op). times_freed (plain between) r ≡ times_taken (step m s.agent o) (plain between) r + 1) (sym one.op)
      (freed_between b (plain before) (plain between) s.agent t.agent r shape (plain_lawful (new_machine b) before parts.0)
      (subst (λ (o : Op). is_allowed m s.agent o ≡ true) one.op parts.1.0)
      (subst (λ (o : Op). answer m s.agent o ≡ 1) one.op one.done)
      (subst (λ (o : Op). IsLawful (step m s.agent o) (plain between)) one.op (plain_lawful (step m s.agent s.op) between rest.0))
      (subst (λ (o : Op). is_allowed (run (step m s.agent (GateTake r)) (plain between)) t.agent o ≡ true) two.op
      (subst (λ (o : Op). is_allowed (run (step m s.agent o) (plain between)) t.agent t.op ≡ true) one.op rest.1.0))
      (subst (λ (o : Op). answer (run (step m s.agent (GateTake r)) (plain between)) t.agent o ≡ 1) two.op
      (subst (λ (n : Machine). answer n t.agent t.op ≡ 1) there_too two.done)))

  pub reuses_safely : ReusesSafely b journal
  reuses_safely = record { unreachable = frees; once = once }
