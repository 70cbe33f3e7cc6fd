-- The words of the kinds differ.
use Rattle.std.proofs.Common.{◌≡◌, ◌≢◌, ◌∙◌, ℕ, ◌+◌, ◌*◌, ◌<◌, ◌==◌, List, [], ◌∷◌, refl, sym, ap, lit<, get_or}
use Rattle.std.specs.List.{position_or_len}
use Rattle.orc_trace_text.specs.Reading.{kind_word}
use Rattle.orc_trace_text.specs.declared.kind.StepKind.{StepKind}
use Rattle.orc_trace_text.specs.declared.kind.StepKind.TheVariants as kind
use Rattle.orc_trace_text.specs.declared.kind.TheConstants.{KINDS}

-- a number that tells the words apart
abbrev key : List ℕ → ℕ
key [] = 0
key (c ∷ cs) = c + 256 * key cs

-- where the kind of a word stands among all
abbrev pub index_of : List ℕ → ℕ
index_of word = position_or_len (λ k. key (kind_word k) == key word) KINDS

pub kind-at_index : (k : StepKind) → (index_of (kind_word k) < 26) × (get_or KINDS (index_of (kind_word k)) kind.Enroll ≡ k)
kind-at_index kind.Enroll = (lit< tt, refl)
kind-at_index kind.Look = (lit< tt, refl)
kind-at_index kind.Take = (lit< tt, refl)
kind-at_index kind.Fill = (lit< tt, refl)
kind-at_index kind.Read = (lit< tt, refl)
kind-at_index kind.Load = (lit< tt, refl)
kind-at_index kind.Publish = (lit< tt, refl)
kind-at_index kind.Clear = (lit< tt, refl)
kind-at_index kind.Arm = (lit< tt, refl)
kind-at_index kind.Cas = (lit< tt, refl)
kind-at_index kind.Store = (lit< tt, refl)
kind-at_index kind.Side = (lit< tt, refl)
kind-at_index kind.Inc = (lit< tt, refl)
kind-at_index kind.Dec = (lit< tt, refl)
kind-at_index kind.Set = (lit< tt, refl)
kind-at_index kind.Count = (lit< tt, refl)
kind-at_index kind.Start = (lit< tt, refl)
kind-at_index kind.End = (lit< tt, refl)
kind-at_index kind.Unretire = (lit< tt, refl)
kind-at_index kind.Slot = (lit< tt, refl)
kind-at_index kind.Hand = (lit< tt, refl)
kind-at_index kind.TakeIn = (lit< tt, refl)
kind-at_index kind.Free = (lit< tt, refl)
kind-at_index kind.MoveOn = (lit< tt, refl)
kind-at_index kind.Handover = (lit< tt, refl)
kind-at_index kind.DecHeld = (lit< tt, refl)

pub kind_word-injective : (j k : StepKind) → kind_word j ≡ kind_word k → j ≡ k
kind_word-injective j k e =
    sym (kind-at_index j).1 ∙ ap (λ (w : List ℕ). get_or KINDS (index_of w) kind.Enroll) e ∙ (kind-at_index k).1

-- a word that none of the kinds before the end has is the word of none
pub no-kind : (word : List ℕ) → ((i : ℕ) → i < 26 → word ≢ kind_word (get_or KINDS i kind.Enroll)) → (k : StepKind) → word ≢ kind_word k
no-kind word none k e =
    let at = kind-at_index k in
    none (index_of (kind_word k)) at.0 (e ∙ ap kind_word (sym at.1))
