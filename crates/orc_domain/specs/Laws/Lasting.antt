-- The causes of refusals stay so as the journal goes on.
use Rattle.std.proofs.Common.{List, ap, arith, length-append, subst, sym, ℕ, ◌++◌, ◌∙◌}
use Rattle.std.proofs.lemmas.List.{take-append-le}
use Rattle.orc_core.specs.Machine.{word_in}
use Rattle.orc_fault.specs.declared.Spent.{Spent}
use Rattle.orc_heap.proofs.Changes.{get-grown, get_lt}
use Rattle.orc_heap.specs.Allowed.{events_by}
use Rattle.orc_heap.specs.Moves.{gives_in}
use Rattle.orc_machine_board.specs.Rules.{run_of}
use Rattle.orc_projection.specs.Projection.{project}
use Rattle.orc_domain.specs.Causes.{IsLacking, IsOfDomain, IsTaken, IsWornIn}
use Rattle.orc_sound.specs.declared.steps.Step.{Step}
use Rattle.orc_words.specs.Bounds.{Bounds}
use Rattle.orc_words.specs.Packed.{sequence_of}
use Rattle.orc_words.specs.declared.place.Word.TheVariants.{Counter}

module _ {N : Type 0} (b : Bounds) (agent : ℕ) where
  pub lacking_later : (j more : List (Step N)) (from to : ℕ) → IsLacking b agent j from to → IsLacking b agent (j ++ more) from to
  lacking_later j more from to l =
      let within = l.within in
      let ordered = l.ordered in
      let long = length-append j more in
      record {
        ordered = ordered;
        within = omega (arith, within, long);
        steps = subst (IsOfDomain b) (sym (take-append-le to j more within)) l.steps;
        none = ap (λ z. gives_in (events_by agent (project b z))) (take-append-le to j more within)
            ∙ (l.none ∙ ap (λ z. gives_in (events_by agent (project b z))) (sym (take-append-le from j more (omega (arith, within, ordered)))));
        place = l.place;
        first = l.first;
        last = l.last;
        taken = λ r h.
            let last = l.last r h in
            subst (λ z. IsTaken b (run_of b z) r) (sym (take-append-le (l.place r h) j more (omega (arith, within, last)))) (l.taken r h);
      }

  pub worn_later : (why : Spent) (j more : List (Step N)) (from to : ℕ) → IsWornIn b agent why j from to → IsWornIn b agent why (j ++ more) from to
  worn_later why j more from to w =
      let low = get_lt j w.place w.step w.there in
      record {
        place = w.place;
        first = w.first;
        last = w.last;
        step = w.step;
        there = get-grown w.place j more w.step w.there;
        its = w.its;
        op = w.op;
        read = w.read ∙ ap (λ z. sequence_of (word_in (run_of b z) (Counter why.row))) (sym (take-append-le w.place j more (omega (arith, low))));
        high = w.high;
      }
