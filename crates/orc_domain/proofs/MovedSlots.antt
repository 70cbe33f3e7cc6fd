-- Slots that moved on are taken in from, where slots that are cleared are.
use Rattle.std.proofs.Common.{List, [], ap, inl, inr, subst, ℕ, ⊎_elim, ◌++◌, ◌∙◌, ◌≡◌, ◌∷◌, ◌⊎◌}
use mathlib.Core.Logic.{dite}
use native.Mathlib.Decide.{ℕ_discrete}
use Rattle.orc_core.specs.declared.ops.Op.{Op}
use Rattle.orc_core.specs.declared.ops.Op.TheVariants.{Clear, MoveOn, TakeIn}
use Rattle.orc_machine_rest.specs.OwnSteps.{FirstIs, TakesInCleared}
use Rattle.orc_domain.specs.OwnSteps.{ClearsNo, EndsTakenIn, TakesInMoved}

-- so do the later ones of these ops
takes_in_later : (xs ys : List Op) → TakesInCleared (xs ++ ys) → TakesInCleared ys
takes_in_later [] ys h = h
takes_in_later (Clear slot ∷ xs) ys h = takes_in_later xs ys h.1
takes_in_later (x ∷ xs) ys h = takes_in_later xs ys h

-- one op more, before them
further : (slot : ℕ) (op : Op) (ops : List Op) → EndsTakenIn slot ops → EndsTakenIn slot (op ∷ ops)
further slot op ops y = record { earlier = op ∷ y.earlier; later = y.later; is = ap (λ l. op ∷ l) y.is; last = y.last }

-- the last Clear of the slot
the_last : (slot k : ℕ) (ops : List Op) → k ≡ slot → FirstIs (TakeIn k) ops → ClearsNo slot ops → EndsTakenIn slot (Clear k ∷ ops)
the_last slot k [] e h none = absurd h
the_last slot k (op ∷ ops) e h none = record {
  earlier = [];
  later = ops;
  is = λ i. Clear (e i) ∷ (h ∙ ap TakeIn e) i ∷ ops;
  last = none.1;
}

ends : (slot : ℕ) (ops : List Op) → TakesInCleared ops → ClearsNo slot ops ⊎ EndsTakenIn slot ops
ends slot [] h = inl tt
ends slot (Clear k ∷ ops) h = ⊎_elim
    (λ none. dite (ℕ_discrete k slot) (λ e. inr (the_last slot k ops e h.0 none)) (λ ne. inl ((λ e. ne (let same : k ≡ slot = cc in same)), none)))
    (λ y. inr (further slot (Clear k) ops y)) (ends slot ops h.1)
ends slot (op ∷ ops) h = ⊎_elim (λ none. inl ((λ e. cc), none)) (λ y. inr (further slot op ops y)) (ends slot ops h)

pub moved_taken_in : (ops : List Op) → TakesInCleared ops → TakesInMoved ops
moved_taken_in ops h earlier later slot row is = ends slot later (takes_in_later earlier (MoveOn slot row ∷ later) (subst TakesInCleared is h))
