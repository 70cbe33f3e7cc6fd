-- The least row that leaks.
use Rattle.std.proofs.Common.{Bool, List, false, sym, true, ℕ, ◌<◌, ◌∙◌, ◌≡◌, refl}
use Rattle.std.proofs.lemmas.Bool.{false≢true}
use Rattle.std.specs.Prelude.{IfNone, IfSome, None, Option, Some}
use Rattle.orc_core.proofs.Within.{and_both}
use Rattle.orc_core.specs.Machine.{Machine}
use Rattle.orc_sound.proofs.Decided.{not_is}
use Rattle.orc_trace.proofs.Resting.{is_rest, rest_is}
use Rattle.orc_trace.specs.Audit.{Leaks}
use Rattle.orc_trace.specs.Reaching.{MarksReached, is_marked}
use Rattle.orc_trace.specs.Watched.{IsLeastLeak, at_rest, is_lost}

lost : (m : Machine) (marks : List Bool) (r : ℕ) → MarksReached m marks → Leaks m r → is_lost m marks r ≡ true
lost m marks r h leak = cases (is_marked marks r) refl
  where
    cases : (t : Bool) → is_marked marks r ≡ t → is_lost m marks r ≡ true
    cases true e = absurd (leak.lost (h.only r e))
    cases false e = rw (leak.out.1, e) refl

pub none_leaks : (m : Machine) → at_rest m ≡ false → (r : ℕ) → ¬ Leaks m r
none_leaks m e r leak = false≢true (sym e ∙ is_rest m leak.rest)

pub least_leak : (m : Machine) (marks : List Bool) (o : Option ℕ) → at_rest m ≡ true → MarksReached m marks
    → IfSome o (λ q. (q < m.bounds.rows) × (is_lost m marks q ≡ true) × ((r : ℕ) → r < q → is_lost m marks r ≡ false))
    → IfNone o ((r : ℕ) → r < m.bounds.rows → is_lost m marks r ≡ false) → IsLeastLeak m o
least_leak m marks None rest h some none = λ r leak. false≢true (sym (none r leak.out.0) ∙ lost m marks r h leak)
least_leak m marks (Some q) rest h some none =
    let parts = and_both _ _ some.1 in (
      record {
        rest = rest_is m rest;
        out = (some.0, parts.0);
        lost = λ linked. false≢true (sym (not_is _ parts.1) ∙ h.all q some.0 linked);
      },
      λ r l leak. false≢true (sym (some.2 r l) ∙ lost m marks r h leak),
    )
