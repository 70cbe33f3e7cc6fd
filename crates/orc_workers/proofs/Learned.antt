-- What a desk learns is nothing of its own.
use Rattle.std.proofs.Common.{◌≡◌, ◌≢◌, ℕ, List, [], ◌∷◌, ◌++◌, filter, Bool, refl, ap, sym, ◌∙◌, subst, append_assoc}
use mathlib.Core.List.{IsPrefix}
use Rattle.orc_history.specs.Journals.{own_of}
use Rattle.std.specs.List.{AllByRecursion}
use Rattle.orc_history.specs.declared.queue.QueueEntry.{QueueEntry}
use Rattle.orc_history.specs.declared.queue.QueueEntry.TheVariants.{Empty}
use Rattle.orc_history.specs.declared.queue.QueueRefused.{QueueRefused}
use Rattle.orc_history.specs.declared.set.SetEntry.{SetEntry}
use Rattle.orc_history.specs.declared.set.ListRefused.{ListRefused}
use Rattle.orc_history.specs.QueueHistory.{agent_of_entry, IsLegalFrom, IsLegalQueue, waiting_after}
use Rattle.orc_history.specs.SetHistory.{agent_of_set_entry}
use Rattle.orc_board.specs.Stretches.{View, of_queue, of_set, Stands, empty_row, beside, all_beside, is_own_move}
use Rattle.orc_board.specs.Follows.{ZeroLast, LastIsEmpty}
use Rattle.orc_board.proofs.ListFacts.{AllByRecursion-append, AllByRecursion-right}
use Rattle.orc_board.proofs.CallStretches.{own_moves, is_move}
use Rattle.orc_board.proofs.Ends.{empty_at}
use Rattle.orc_team.proofs.Learned.{Grows, learned_stretch, none_of}

quiet_moves : (agent : ℕ) (es : List QueueEntry) → own_of agent_of_entry agent es ≡ [] → filter (is_own_move agent) es ≡ []
quiet_moves agent es none = own_moves agent es ∙ ap (filter is_move) none

-- nothing happened but what others did
pub quiet : {A B : Type 0} (qs : Bool → View A QueueEntry QueueRefused) (s : View B SetEntry ListRefused) (C : ℕ → Type 0) (agent : ℕ)
    (j k : Bool → List A) (m n : List B)
    → ((b : Bool) → Grows (qs b).history) → Grows s.history → ((b : Bool) → IsPrefix (j b) (k b)) → IsPrefix m n
    → ((b : Bool) → own_of agent_of_entry agent ((qs b).history (k b)) ≡ own_of agent_of_entry agent ((qs b).history (j b)))
    → own_of agent_of_set_entry agent (s.history n) ≡ own_of agent_of_set_entry agent (s.history m)
    → ((b : Bool) → AllByRecursion (λ e. C (agent_of_entry e)) ((qs b).history (k b))) → AllByRecursion (λ e. C (agent_of_set_entry e)) (s.history n)
    → Stands (all_beside qs C) (beside s C) agent empty_row j m k n
quiet qs s C agent j k m n gq gs pq ps oq os bq bs = record {
  queues = λ b. record { stretch = learned_stretch of_queue (qs b) C agent (j b) (k b) (quiet_moves agent) (gq b) (pq b) (oq b) (bq b); licence = tt };
  set = record { stretch = learned_stretch of_set s C agent m n (λ es none. none) gs ps os bs; licence = tt };
}

-- an agent's last Empty stays its last
pub still_last : (agent : ℕ) (before part after : List QueueEntry) → LastIsEmpty agent before → after ≡ before ++ part
    → own_of agent_of_entry agent part ≡ [] → LastIsEmpty agent after
still_last agent before part after e is none = record {
  front = e.front;
  back = e.back ++ part;
  is = is ∙ (ap (λ z. z ++ part) e.is ∙ append_assoc e.front (Empty agent ∷ e.back) part);
  others = AllByRecursion-append (λ x. agent_of_entry x ≢ agent) e.back part e.others (none_of agent_of_entry agent part none);
}

-- what stands behind an entry of agent 0, where these stand last
behind_zero : {E : Type 0} (by : E → ℕ) (e : E) (front back xs ys : List E) → front ++ e ∷ back ≡ xs ++ ys → by e ≡ 0 → AllByRecursion (λ x. by x ≢ 0) xs
    → AllByRecursion (λ x. by x ≡ 0) ys → AllByRecursion (λ x. by x ≡ 0) back
behind_zero by e front back [] ys is zero_is others zeros =
    let all : AllByRecursion (λ x. by x ≡ 0) (front ++ e ∷ back) = subst (AllByRecursion (λ x. by x ≡ 0)) (sym is) zeros in
    (AllByRecursion-right (λ x. by x ≡ 0) front (e ∷ back) all).1
behind_zero by e [] back (x ∷ xs) ys is zero_is others zeros =
    let same : e ≡ x = cc in
    absurd (others.0 (ap by (sym same) ∙ zero_is))
behind_zero by e (f ∷ front) back (x ∷ xs) ys is zero_is others zeros =
    let tails : front ++ e ∷ back ≡ xs ++ ys = cc in
    behind_zero by e front back xs ys tails zero_is others.1 zeros

none_left : {E : Type 0} (by : E → ℕ) (es : List E) → AllByRecursion (λ x. by x ≡ 0) es → AllByRecursion (λ x. by x ≢ 0) es → es ≡ []
none_left by [] a b = refl
none_left by (e ∷ es) a b = absurd (b.0 a.0)

-- the queue is empty where the last entry of taker 0 is an Empty
pub zero_ended : (es : List QueueEntry) → IsLegalQueue 0 es → ZeroLast agent_of_entry es → LastIsEmpty 0 es → waiting_after [] es ≡ []
zero_ended es legal last e =
    let zeros : AllByRecursion (λ x. agent_of_entry x ≡ 0) e.back =
    behind_zero agent_of_entry (Empty 0) e.front e.back last.front last.back (sym e.is ∙ last.is) refl last.others last.zeros in
    let none : e.back ≡ [] = none_left agent_of_entry e.back zeros e.others in
    let is : es ≡ e.front ++ Empty 0 ∷ [] = e.is ∙ ap (λ u. e.front ++ Empty 0 ∷ u) none in
    rw is (empty_at 0 [] 0 e.front (subst (IsLegalFrom 0 []) is legal))
