-- A queue is put ahead of those of a row, and its passes at their desks.
use Rattle.std.proofs.Common.{◌≡◌, ℕ, List, [], ◌∷◌, ◌++◌, length, take, drop, ap, sym, ◌∙◌, subst, arith, append-nil}
use Rattle.std.proofs.Math.ListN.{drop_of_length-le}
use Rattle.std.proofs.lemmas.List.{take_all}
use Rattle.std.specs.List.{AllByRecursion}
use Rattle.orc_history.specs.declared.queue.SharedQueue.{Ghosts as QueueOf}
use Rattle.orc_pipeline.specs.Run.{AreFresh}
use Rattle.orc_stages.specs.declared.replies.StageDesk.{StageDesk}

-- of a list that was written over as a whole nothing is left
pub written_over : {X : Type 0} (n : ℕ) (new old : List X) → n ≡ length old → length new ≡ length old → take n (new ++ drop (length new) old) ≡ new
written_over n new old many same =
    ap (λ xs. take n (new ++ xs)) (drop_of_length-le old (omega (arith, same))) ∙ (ap (take n) (append-nil new) ∙ take_all n new (omega (arith, many, same)))

-- what holds of the first, and of the others
pub all_ahead : {X : Type 0} (P : X → Type 0) (x : X) (xs after : List X) → after ≡ x ∷ xs → P x → AllByRecursion P xs → AllByRecursion P after
all_ahead {X} P x xs after is here h = subst (λ (ys : List X). AllByRecursion P ys) (sym is) (here, h)

module _ {Q P A : Type 0} (q : QueueOf Q P A) where
  -- desks without a pass are fresh where there is no queue
  pub fresh_none : (qs : List Q) (ds : List (StageDesk P)) → qs ≡ [] → AreFresh q [] 0 ds → AreFresh q qs 0 ds
  fresh_none qs ds none h = subst (λ (xs : List Q). AreFresh q xs 0 ds) (sym none) h

  -- desks that got the passes of a queue are fresh with it ahead
  pub fresh_ahead : (queue : Q) (qs after : List Q) (old given new ds : List (StageDesk P)) → given ≡ old → after ≡ queue ∷ qs → ds ≡ new
      → ((xs : List Q) → AreFresh q xs 0 given → AreFresh q (queue ∷ xs) 0 new) → AreFresh q qs 0 old → AreFresh q after 0 ds
  fresh_ahead queue qs after old given new ds taken is back more h =
      subst (λ (xs : List Q). AreFresh q xs 0 ds) (sym is)
      (subst (λ (es : List (StageDesk P)). AreFresh q (queue ∷ qs) 0 es) (sym back)
      (more qs (subst (λ (es : List (StageDesk P)). AreFresh q qs 0 es) (sym taken) h)))
