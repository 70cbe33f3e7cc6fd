-- The events that a pass made from one seat to another.
use Rattle.std.proofs.Common.{List, [], ap, arith, drop, length, subst, sym, ℕ, ◌++◌, ◌∙◌, ◌≡◌, ◌≤◌}
use Rattle.std.proofs.Math.Seq.{drop-append_seam}
use Rattle.orc_heap.proofs.Calls.{Puts-trans}
use Rattle.orc_heap.proofs.InJournal.{own_after}
use Rattle.orc_heap.proofs.Pieces.{puts_released}
use Rattle.orc_heap.specs.Allowed.{events_by}
use Rattle.orc_heap.specs.OwnEvents.{Puts}
use Rattle.orc_heap.specs.Seats.{Seat}
use Rattle.orc_heap.specs.declared.events.Event.{Event}
use Rattle.orc_ordered_search.specs.Turns.{made_from}
use Rattle.orc_ordered_search.specs.Ways.{IsFew}

pub made_is : {N : Type 0} (s t : Seat N) (own : List (Event N)) → Puts s own t → made_from s t ≡ own
made_is s t own p = ap (λ z. drop (length (events_by s.agent s.seen)) z) (own_after s t own p) ∙ drop-append_seam (events_by s.agent s.seen) own

pub few_made : {N : Type 0} (most more : ℕ) (s t : Seat N) (own : List (Event N)) → Puts s own t → IsFew most own → most ≤ more → IsFew more (made_from s t)
few_made most more s t own p few low = subst (λ z. IsFew more z) (sym (made_is s t own p)) (λ ids covers. omega (arith, few ids covers, low))

-- in one piece and in the next
pub made_trans : {N : Type 0} (s t u : Seat N) (own ys : List (Event N)) → Puts s own t → Puts t ys u → made_from s u ≡ made_from s t ++ made_from t u
made_trans s t u own ys p q = made_is s u (own ++ ys) (Puts-trans s t u own ys p q)
    ∙ (ap (λ z. z ++ ys) (sym (made_is s t own p)) ∙ ap (λ z. made_from s t ++ z) (sym (made_is t u ys q)))

-- and none in that
pub made_still : {N : Type 0} (s t u : Seat N) (own : List (Event N)) → Puts s own t → Puts t [] u → made_from s u ≡ made_from s t
made_still s t u own p q = made_is s u own (puts_released s t u own p q) ∙ sym (made_is s t own p)
