-- The number of an option.
use Rattle.std.proofs.Common.{◌≡◌, ◌∙◌, ◌<◌, ◌≤◌, ◌^◌, true, false, List, ℕ, Result, Ok, Err, inl, inr, refl, arith, sym}
use Rattle.std.proofs.lemmas.Bool.{cases_Bool}
use Rattle.std.specs.declared.option.Option.{Option}
use Rattle.std.specs.declared.option.Option.TheVariants.{None, Some}
use Rattle.std.specs.Str.Parse.{ParsesUnsigned}
use Rattle.clap.specs.Matches.{ReadsOne}
use Rattle.clap.specs.Values.{IsUnsignedIn}
use Rattle.clap.specs.ValueTests.{is_unsigned_in}
use Rattle.clap.proofs.ValueTestLemmas.{Accepts-accepts, accepts-Accepts}
use Rattle.clap.specs.declared.builder.value_parser.ValueParser.TheVariants as vp
use Rattle.orc_options.specs.Ranges.{Range}
use Rattle.orc_options.specs.Settings.{number_in}

-- a number in the range is that of its text
pub number_found : {E : Type 0} (G : List ℕ → Result ℕ E → Type 0) → ((t : List ℕ) (r : Result ℕ E) → G t r → ParsesUnsigned 32 10 t r)
    → (range : Range) (n : ℕ) (o : Option (List ℕ)) (r : Option ℕ) → r ≡ Some n → range.low ≤ n → n ≤ range.high → n < 2 ^ 32
    → (o ≡ None → r ≡ None) → ((t : List ℕ) → o ≡ Some t → ReadsOne G t r) → n ≡ number_in range o
number_found G parses range n None r e lo hi small none some = let bad : ◌≡◌ {A = Option ℕ} None (Some n) = sym (none refl) ∙ e in cc bad
number_found G parses range n (Some t) r e lo hi small none some =
    let p = parses t (Ok n) (rw e at (some t refl)) in
    let fits : IsUnsignedIn range.low range.high t = (p.0.0, rw (← p.1) (omega arith), rw (← p.1) lo, rw (← p.1) hi) in
    let passes : is_unsigned_in range.low range.high t ≡ true = Accepts-accepts false (vp.Unsigned range.low range.high) t fits in
    rw passes p.1

pub number_none : {E : Type 0} (G : List ℕ → Result ℕ E → Type 0) → ((t : List ℕ) (r : Result ℕ E) → G t r → ParsesUnsigned 32 10 t r)
    → (range : Range) (o : Option (List ℕ)) (r : Option ℕ) → r ≡ None → range.high < 2 ^ 32
    → ((t : List ℕ) → o ≡ Some t → ReadsOne G t r) → range.low ≡ number_in range o
number_none G parses range None r e small some = refl
number_none G parses range (Some t) r e small some =
    let got = rw e at (some t refl) in
    let p = parses t (Err got.0) got.1 in
    elim (cases_Bool (is_unsigned_in range.low range.high t)) [
      | inl passes ↦
          let fits = accepts-Accepts false (vp.Unsigned range.low range.high) t passes in
          absurd (p (fits.0, omega (arith, fits.3)))
      | inr fails ↦ rw fails refl
    ]
