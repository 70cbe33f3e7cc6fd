-- One turn after another, for a call that keeps no node.
use Rattle.std.proofs.Common.{[], refl, ℕ, ◌++◌, ◌+◌, ◌∙◌, ◌∷◌}
use Rattle.orc_heap.specs.Seats.{Seat}
use Rattle.orc_history.specs.declared.set.SetEntry.{SetEntry}
use Rattle.orc_ordered_search.specs.Reading.{Reading}
use Rattle.orc_ordered_search.specs.Turns.{Answers, Tires}
use Rattle.orc_ordered_search.proofs.Making.{made_next, over_next, over_none}
use Rattle.orc_ordered_search.proofs.Seen.{loads-append}

pub tires_none : {N : Type 0} (r : Reading N) (s : Seat N) → Tires r 0 s s
tires_none r s = record { own = []; over = over_none r s; loads = tt; slots = refl; fresh = refl }

pub tires_next : {N : Type 0} (r : Reading N) (turns : ℕ) (s t u : Seat N) → Tires r turns s t → Tires r 1 t u → Tires r (turns + 1) s u
tires_next r turns s t u w f = record {
  own = w.own ++ f.own;
  over = over_next r 0 0 turns s t u w.own f.own w.over f.over;
  loads = loads-append w.own f.own w.loads f.loads;
  slots = f.slots ∙ w.slots;
  fresh = f.fresh ∙ w.fresh;
}

pub tires_answer : {N : Type 0} (r : Reading N) (turns : ℕ) (s t u : Seat N) (entry : SetEntry) → Tires r turns s t → Answers r t entry u → Answers r s entry u
tires_answer r turns s t u entry w a = record {
  own = w.own ++ a.own;
  made = made_next r 0 0 turns s t u w.own a.own (entry ∷ []) w.over a.made;
  slots = a.slots ∙ w.slots;
  fresh = a.fresh ∙ w.fresh;
}
