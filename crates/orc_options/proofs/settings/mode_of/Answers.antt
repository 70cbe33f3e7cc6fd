-- The word is told apart from those before it.
use Rattle.std.proofs.Common.{◌≡◌, codes, false, inl, inr, refl, true, List, Some, ℕ}
use Rattle.std.proofs.lemmas.Bool.{cases_Bool}
use Rattle.std.specs.Str.{bytes_eq}
use lib.Pointwise.{bytes_decides}
use Rattle.orc_options.proofs.settings.mode_of.Goals as goal

-- equal bytes are found to be equal
same : (a b : List ℕ) → a ≡ b → bytes_eq a b ≡ true
same a b is = (bytes_decides a b).1 is

-- other bytes are found to be other
other : (a b : List ℕ) → (a ≡ b → ⊥) → bytes_eq a b ≡ false
other a b apart = elim (cases_Bool (bytes_eq a b)) [
  | inl found ↦ absurd (apart ((bytes_decides a b).0 found))
  | inr missed ↦ missed
]

pub returns-in-Some-make : goal.returns-in-Some-make
returns-in-Some-make c =
    let word = c.in-Some-make.field-0 in
    let is : c.args.word ≡ Some word = c.in-Some-make.is in
    rw (is, same word.now (codes "make") (rw is at c.in-Some-make.is-make)) refl

pub returns-in-Some-trial : goal.returns-in-Some-trial
returns-in-Some-trial c =
    let word = c.in-Some-trial.field-0 in
    let is : c.args.word ≡ Some word = c.in-Some-trial.is in
    rw (is, other word.now (codes "make") (rw is at c.in-Some-trial.not-make), same word.now (codes "trial") (rw is at c.in-Some-trial.is-trial)) refl

pub returns-in-Some-replay : goal.returns-in-Some-replay
returns-in-Some-replay c =
    let word = c.in-Some-replay.field-0 in
    let is : c.args.word ≡ Some word = c.in-Some-replay.is in
    rw (is, other word.now (codes "make") (rw is at c.in-Some-replay.not-make), other word.now (codes "trial") (rw is at c.in-Some-replay.not-trial), same word.now (codes "replay") (rw is at c.in-Some-replay.is-replay)) refl

pub returns-in-Some-audit : goal.returns-in-Some-audit
returns-in-Some-audit c =
    let word = c.in-Some-audit.field-0 in
    let is : c.args.word ≡ Some word = c.in-Some-audit.is in
    rw (is, other word.now (codes "make") (rw is at c.in-Some-audit.not-make), other word.now (codes "trial") (rw is at c.in-Some-audit.not-trial), other word.now (codes "replay") (rw is at c.in-Some-audit.not-replay), same word.now (codes "audit") (rw is at c.in-Some-audit.is-audit)) refl

pub returns-in-Some-watch : goal.returns-in-Some-watch
returns-in-Some-watch c =
    let word = c.in-Some-watch.field-0 in
    let is : c.args.word ≡ Some word = c.in-Some-watch.is in
    rw (is, other word.now (codes "make") (rw is at c.in-Some-watch.not-make), other word.now (codes "trial") (rw is at c.in-Some-watch.not-trial), other word.now (codes "replay") (rw is at c.in-Some-watch.not-replay), other word.now (codes "audit") (rw is at c.in-Some-watch.not-audit), same word.now (codes "watch") (rw is at c.in-Some-watch.is-watch)) refl

pub returns-in-Some-stages : goal.returns-in-Some-stages
returns-in-Some-stages c =
    let word = c.in-Some-stages.field-0 in
    let is : c.args.word ≡ Some word = c.in-Some-stages.is in
    rw (is, other word.now (codes "make") (rw is at c.in-Some-stages.not-make), other word.now (codes "trial") (rw is at c.in-Some-stages.not-trial), other word.now (codes "replay") (rw is at c.in-Some-stages.not-replay), other word.now (codes "audit") (rw is at c.in-Some-stages.not-audit), other word.now (codes "watch") (rw is at c.in-Some-stages.not-watch), same word.now (codes "stages") (rw is at c.in-Some-stages.is-stages)) refl
