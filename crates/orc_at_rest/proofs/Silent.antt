-- A journal that goes on without an entry.
use Rattle.std.proofs.Common.{List, append-nil, refl, sym, ℕ, [], ◌∙◌, ◌≡◌}
use mathlib.Core.List.{IsPrefix}
use Rattle.orc_board.proofs.Shares.{Did-just}
use Rattle.orc_board.specs.Stretches.{Did, Kind, View, nothing}

-- from the journal j to k the history doesn't grow
pub record Silent {A E : Type 0} (history : List A → List E) (j k : List A) : Type 0 where
  pub later : IsPrefix j k
  pub same : history k ≡ history j

-- there a worker does nothing
pub did_nothing : {A E W : Type 0} (kind : Kind E) (x : View A E W) (worker : ℕ) (j k : List A) → Silent x.history j k → Did kind x worker nothing j k
did_nothing kind x worker j k silent = Did-just kind x worker [] j k record {
  later = silent.later;
  part = [];
  is = silent.same ∙ sym (append-nil (x.history j));
  own_is = refl;
  others = tt;
}
