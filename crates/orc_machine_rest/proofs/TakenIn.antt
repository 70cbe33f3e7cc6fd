-- What an agent has done, and beside which slots it has taken in, as its journal goes on.
use Rattle.std.proofs.Common.{List, [], ap, append-nil, append_assoc, refl, subst, sym, ℕ, ◌++◌, ◌∙◌, ◌∷◌}
use mathlib.Core.List.{IsPrefix}
use Rattle.orc_machine_rest.proofs.Joins.{ops-append}
use Rattle.orc_machine_rest.specs.OwnSteps.{HasDone, HasTakenIn, ops_of}
use Rattle.orc_core.specs.declared.ops.Op.{Op}
use Rattle.orc_core.specs.declared.ops.Op.TheVariants.{TakeIn}
use Rattle.orc_sound.specs.declared.steps.Step.{Step}

module _ {N : Type 0} where
  pub done_none : (a : ℕ) (j : List (Step N)) → HasDone a [] j j
  done_none a j = record { part = []; is = sym (append-nil j); own = refl }

  pub done_then : (a : ℕ) (x y z : List (Step N)) (ops more : List Op) → HasDone a ops x y → HasDone a more y z → HasDone a (ops ++ more) x z
  done_then a x y z ops more p q = record {
    part = p.part ++ q.part;
    is = q.is ∙ (ap (λ l. l ++ q.part) p.is ∙ append_assoc x p.part q.part);
    own = ops-append a p.part q.part ∙ (λ i. p.own i ++ q.own i);
  }

  pub done_later : (a : ℕ) (x y : List (Step N)) (ops : List Op) → HasDone a ops x y → IsPrefix x y
  done_later a x y ops p = (p.part, sym p.is)

  -- the agent's ops in what is new
  pub done_some : (a : ℕ) (x y : List (Step N)) (p : IsPrefix x y) → HasDone a (ops_of a p.0) x y
  done_some a x y p = record { part = p.0; is = sym p.1; own = refl }

  pub taken_then : (a slot : ℕ) (x y z : List (Step N)) → HasTakenIn a slot x y → IsPrefix y z → HasTakenIn a slot x z
  taken_then a slot x y z t p = record {
    earlier = t.earlier;
    later = t.later ++ ops_of a p.0;
    done = subst (λ ops. HasDone a ops x z) (append_assoc t.earlier (TakeIn slot ∷ t.later) (ops_of a p.0))
        (done_then a x y z (t.earlier ++ TakeIn slot ∷ t.later) (ops_of a p.0) t.done (done_some a y z p));
  }

  pub taken_since : (a slot : ℕ) (x y z : List (Step N)) → IsPrefix x y → HasTakenIn a slot y z → HasTakenIn a slot x z
  taken_since a slot x y z p t = record {
    earlier = ops_of a p.0 ++ t.earlier;
    later = t.later;
    done = subst (λ ops. HasDone a ops x z) (sym (append_assoc (ops_of a p.0) t.earlier (TakeIn slot ∷ t.later)))
        (done_then a x y z (ops_of a p.0) (t.earlier ++ TakeIn slot ∷ t.later) (done_some a x y p) t.done);
  }
