use Rattle.std.proofs.Common.{inl, inr, sym, ◌∙◌, ◌≡◌}
use Rattle.std.specs.Prelude.{Some}
use Rattle.orc_heap.proofs.Moved.{shown_or_moved_there}
use Rattle.orc_heap.proofs.laws.a_changed_link_was_moved.Goals as goal

pub returns : goal.returns
returns g c = λ h place one two es lawful l at later other.
    elim (shown_or_moved_there h place es lawful l) [
      | inl same ↦ let both : Some one ≡ Some two = sym at ∙ (sym same ∙ later) in absurd (other (cc))
      | inr moved ↦ moved
    ]
