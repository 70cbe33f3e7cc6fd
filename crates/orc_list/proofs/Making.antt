-- Few events, one turn after another.
use Rattle.std.proofs.Common.{Bool, List, Ok, Result, Some, [], false, true, append-nil, arith, length, length-append, refl, subst, sym, ℕ, ◌*◌, ◌++◌, ◌+◌, ◌≡◌, ◌≤◌}
use Rattle.std.proofs.Math.Nat.{suc-mul}
use Rattle.orc_fault.specs.declared.Again.{Again}
use Rattle.orc_heap.proofs.Moved.{gives_in-append}
use Rattle.orc_heap.specs.Moves.{gives_in}
use Rattle.orc_heap.specs.OwnEvents.{Puts}
use Rattle.orc_heap.specs.Seats.{Seat}
use Rattle.orc_heap.specs.declared.events.Event.{Event}
use Rattle.orc_chain_rule.specs.declared.chain.ChainNote.{ChainNote}
use Rattle.orc_ordered_search.specs.Turns.{made_from}
use Rattle.orc_ordered_search.specs.Ways.{IsFew}
use Rattle.orc_list.specs.Turns.{AreFew, MadeFew}
use Rattle.orc_ordered_search.proofs.Seen.{covers_left, covers_right}
use Rattle.orc_ordered_search.proofs.Since.{made_is, made_still, made_trans}

few_next : (turns more one two : ℕ) (es fs : List (Event ChainNote)) → AreFew turns one es → AreFew 1 two fs → one + two ≤ more
    → AreFew (turns + 1) more (es ++ fs)
few_next turns more one two es fs a b low = λ ids c.
    let x = 2 * length ids + 4 in
    let first : length es ≤ turns * x + one = a ids (covers_left ids es fs c) in
    let second : length fs ≤ 1 * x + two = b ids (covers_right ids es fs c) in
    let both : (turns + 1) * x ≡ turns * x + x = grows turns x in
    omega (arith, first, second, both, length-append es fs, low)
  where
    grows : (k y : ℕ) → (k + 1) * y ≡ k * y + y
    grows k y = grind (arith, suc-mul)

-- what a turn made
pub few_turn : (s t : Seat ChainNote) → IsFew (4 + 3 * gives_in (made_from s t)) (made_from s t) → MadeFew 1 s t
few_turn s t few = λ ids c. omega (arith, few ids c)

pub few_answer : (s t : Seat ChainNote) → IsFew 4 (made_from s t) → MadeFew 1 s t
few_answer s t few = λ ids c. omega (arith, few ids c)

-- no turn, one more, as many at the most, and no event more
pub made_none : (s : Seat ChainNote) → MadeFew 0 s s
made_none s =
    let none : Puts s [] s = record { part = []; is = sym (append-nil s.seen); agent = refl; own_is = refl } in
    subst (λ z. AreFew 0 (3 * gives_in z) z) (sym (made_is s s [] none)) (λ ids c. omega arith)

pub made_next : (turns : ℕ) (s t u : Seat ChainNote) (own ys : List (Event ChainNote)) → Puts s own t → Puts t ys u → MadeFew turns s t → MadeFew 1 t u
    → MadeFew (turns + 1) s u
made_next turns s t u own ys p q a b =
    let es = made_from s t in
    let fs = made_from t u in
    subst (λ z. AreFew (turns + 1) (3 * gives_in z) z) (sym (made_trans s t u own ys p q))
    (few_next turns (3 * gives_in (es ++ fs)) (3 * gives_in es) (3 * gives_in fs) es fs a b (omega (arith, gives_in-append es fs)))

pub made_most : (turns most : ℕ) (s t : Seat ChainNote) → MadeFew turns s t → turns ≤ most → MadeFew most s t
made_most turns most s t a low = λ ids c. omega (arith, a ids c, grows (2 * length ids + 4))
  where
    grows : (y : ℕ) → turns * y ≤ most * y
    grows y = grind (arith)

pub made_on : (turns : ℕ) (s t u : Seat ChainNote) (own : List (Event ChainNote)) → Puts s own t → Puts t [] u → MadeFew turns s t → MadeFew turns s u
made_on turns s t u own p q a = subst (λ z. AreFew turns (3 * gives_in z) z) (sym (made_still s t u own p q)) a

-- what answered true in its last turn
pub ok_some : (answer : Bool) → ◌≡◌ {A = Result Bool Again} (Ok answer) (Ok true) → Some answer ≡ Some true
ok_some true e = refl
ok_some false e = cc
