-- From what an answer rests on to the turn of a call.
use Rattle.std.proofs.Common.{Bool, None, Option, Some, ap, arith, false, inl, inr, refl, subst, sym, true, ℕ, ◌∙◌, ◌≡◌}
use Rattle.std.specs.Prelude.{if◌then◌else◌}
use Rattle.orc_heap.specs.Seats.{Seat}
use Rattle.orc_history.specs.declared.set.SetEntry.{SetEntry}
use Rattle.orc_history.specs.declared.set.SetEntry.TheVariants.{Asked, Removed}
use Rattle.orc_ordered_search.specs.Entries.{IsAbsence, entry_by}
use Rattle.orc_ordered_search.specs.Reading.{Reading}
use Rattle.orc_ordered_search.specs.Turns.{AnswersTurn, Enters, EntersFew, made_from}
use Rattle.orc_ordered_search.specs.Ways.{IsFew}
use Rattle.orc_ordered_search.specs.declared.call.Call.{Call}
use Rattle.orc_ordered_search.specs.declared.call.Call.TheVariants.{Ask, Remove}
use Rattle.orc_ordered_search.proofs.Since.{few_made}

-- each call may answer that the key is absent
pub absence_of : (call : Call) (agent by key : ℕ) (entry : SetEntry) → entry ≡ entry_by call by key false → by ≡ agent → IsAbsence agent key entry
absence_of Ask agent by key entry is same = inr (is ∙ ap (λ (i : ℕ). Asked i key false) same)
absence_of Remove agent by key entry is same = inl (is ∙ ap (λ (i : ℕ). Removed i key false) same)

pub enters_any : {N : Type 0} (r : Reading N) (entry : SetEntry) (s u : Seat N) (done : Bool) → EntersFew r entry s done u → Enters r entry s done u
enters_any r entry s u true e = e.0
enters_any r entry s u false e = e.0

pub enters_few : {N : Type 0} (r : Reading N) (entry : SetEntry) (s u : Seat N) (done : Bool) → EntersFew r entry s done u → IsFew 4 (made_from s u)
enters_few r entry s u true (a, few) = few_made 3 4 s u a.own a.made.puts few (omega arith)
enters_few r entry s u false (a, few) = few_made 3 4 s u a.own a.over.made.puts few (omega arith)

-- what this agent entered
pub entry_is : (call other : Call) (by agent key : ℕ) (answer : Bool) → call ≡ other → by ≡ agent
    → entry_by other by key answer ≡ entry_by call agent key answer
entry_is call other by agent key answer is same =
    ap (λ (i : ℕ). entry_by other i key answer) same ∙ ap (λ (c : Call). entry_by c agent key answer) (sym is)

-- an answer, if it was entered
pub enters_turn : {N : Type 0} (r : Reading N) (call : Call) (agent key : ℕ) (entry : SetEntry) (s u : Seat N) (done value : Bool) (answer : Option Bool)
    → entry ≡ entry_by call agent key value → answer ≡ (if done then Some value else None) → Enters r entry s done u
    → AnswersTurn r (λ yes. entry_by call agent key yes) s answer u
enters_turn r call agent key entry s u true value answer is told e = rw told (subst (λ (x : SetEntry). Enters r x s true u) is e)
enters_turn r call agent key entry s u false value answer is told e = rw told e

pub answers_true : (done value : Bool) (answer : Option Bool) → answer ≡ (if done then Some value else None) → answer ≡ Some true → (done ≡ true) × (value ≡ true)
answers_true true value answer is told = let e : ◌≡◌ {A = Option Bool} (Some value) (Some true) = sym is ∙ told in (refl, cc)
answers_true false value answer is told = let e : ◌≡◌ {A = Option Bool} None (Some true) = sym is ∙ told in cc
