use Rattle.std.proofs.Common.{List, None, [], ap, refl, sym, ℕ, ◌∙◌, ◌∷◌, ◌≡◌}
use Rattle.std.specs.Prelude.{slice_get}
use Rattle.orc_core.specs.Listed.{Listed}
use Rattle.orc_machine_rest.proofs.rounds.next_work.Goals as goal

-- a list without a first entry is empty
no_first : (xs : List ℕ) → slice_get xs 0 ≡ None → xs ≡ []
no_first [] e = refl
no_first (x ∷ xs) e = cc

pub returns-in-None-None-clause-none : goal.returns-in-None-None-clause-none
returns-in-None-None-clause-none g c e = record {
  list = ap (λ (l : Listed). l.items) (sym c.kept-record.ensures.list) ∙ no_first c.kept-record.result.now.list.items (sym c.first.ensures ∙ e);
  hand = sym c.kept-record.ensures.hand ∙ c.in-None-None.is-1;
  scan = sym c.kept-record.ensures.scan ∙ c.in-None-None.is-0;
}
