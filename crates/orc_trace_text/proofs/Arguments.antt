-- The texts of numbers, places and links: that they are visible, and that they differ.
use Rattle.std.proofs.Common.{◌≡◌, ◌∙◌, ℕ, ◌^◌, ◌<◌, ◌≤◌, ◌==◌, inl, inr, Bool, true, false, List, [], ◌∷◌, Option, Some, None, refl, sym, ap, ap₂, arith, codes, length}
use Rattle.std.specs.Fmt.{decimal}
use Rattle.std.specs.Option.{ForSome}
use Rattle.std.proofs.lemmas.Fmt.{decimal_injective}
use Rattle.std.proofs.lemmas.List.Elements.{All-cons, All-nil}
use Rattle.orc_decimal.proofs.Numerals.{decimal_no_byte}
use Rattle.orc_words.specs.declared.packed.RowLink.{RowLink}
use Rattle.orc_words.specs.declared.place.Word.{Word}
use Rattle.orc_words.specs.declared.place.Word.TheVariants.{Root, Next, Side}
use Rattle.orc_words.specs.Bounds.{Bounds, IsShape}
use Rattle.orc_trace_text.specs.TraceText.{IsLink, IsPlace, link_text, mark_text, place_text, target_text}
use Rattle.orc_trace_text.proofs.Visible.{IsVisible, visible-append, visible-decimal}
use Rattle.orc_trace_text.proofs.Words.{Lacks, cut-none, cut-unique, differs}
use Rattle.orc_trace_text.specs.Reading.{Cuts}

pub number-same : (end m n : ℕ) → end ≤ 2 ^ 64 → m < end → n < end → decimal m ≡ decimal n → m ≡ n
number-same end m n wide h k e = decimal_injective m n (omega arith) (omega arith) e

-- ---- places

pub visible-place : (b : Bounds) (p : Word) → IsShape b → IsPlace b p → IsVisible (place_text p)
visible-place b (Root i) s h = let few = s.roots in visible-append (codes "r") (decimal i) refl (visible-decimal i (omega arith))
visible-place b (Next r) s h = let few = s.rows in visible-append (codes "n") (decimal r) refl (visible-decimal r (omega arith))
visible-place b (Side r) s h = let few = s.rows in let below = h.0 in visible-append (codes "s") (decimal r) refl (visible-decimal r (omega arith))
visible-place b p s h = absurd h

-- texts that begin with different letters
letters : (c d : ℕ) (x y : List ℕ) → (c == d) ≡ false → c ∷ x ≡ d ∷ y → ⊥
letters c d x y other e = differs c d other (cc e)

pub place-same : (b : Bounds) (p q : Word) → IsShape b → IsPlace b p → IsPlace b q → place_text p ≡ place_text q → p ≡ q
place-same b (Root i) (Root j) s h k e = let few = s.roots in ap Root (decimal_injective i j (omega arith) (omega arith) (cc e))
place-same b (Root i) (Next r) s h k e = absurd (letters 114 110 (decimal i) (decimal r) refl e)
place-same b (Root i) (Side r) s h k e = absurd (letters 114 115 (decimal i) (decimal r) refl e)
place-same b (Next r) (Root i) s h k e = absurd (letters 110 114 (decimal r) (decimal i) refl e)
place-same b (Next r) (Next q) s h k e = let few = s.rows in ap Next (decimal_injective r q (omega arith) (omega arith) (cc e))
place-same b (Next r) (Side q) s h k e = absurd (letters 110 115 (decimal r) (decimal q) refl e)
place-same b (Side r) (Root i) s h k e = absurd (letters 115 114 (decimal r) (decimal i) refl e)
place-same b (Side r) (Next q) s h k e = absurd (letters 115 110 (decimal r) (decimal q) refl e)
place-same b (Side r) (Side q) s h k e =
    let few = s.rows in
    let low = h.0 in
    let also = k.0 in
    ap Side (decimal_injective r q (omega arith) (omega arith) (cc e))
place-same b (Root i) q s h k e = absurd k
place-same b (Next r) q s h k e = absurd k
place-same b (Side r) q s h k e = absurd k
place-same b p q s h k e = absurd h

-- ---- links

abbrev pub IsTarget : Bounds → Option ℕ → Type 0
IsTarget b to = ForSome to (λ r. r < b.rows)

row_below : (b : Bounds) (r : ℕ) → IsTarget b (Some r) → r < b.rows
row_below b r h = h r refl

-- the letter of the mark stands in no target
pub Lacks-target : (b : Bounds) (to : Option ℕ) → IsShape b → IsTarget b to → Lacks 109 (target_text to)
Lacks-target b None s h = All-cons (λ c. (c == 109) ≡ false) 45 [] refl (All-nil (λ c. (c == 109) ≡ false))
Lacks-target b (Some r) s h = let few = s.rows in let below = row_below b r h in decimal_no_byte 109 r (inr (omega arith)) (omega arith)

dash-alone : (b : Bounds) (r : ℕ) → IsShape b → IsTarget b (Some r) → decimal r ≡ codes "-" → ⊥
dash-alone b r s h e =
    let few = s.rows in
    let below = row_below b r h in
    cut-none 45 (decimal r) [] [] (decimal_no_byte 45 r (inl (omega arith)) (omega arith)) e

pub target-same : (b : Bounds) (p q : Option ℕ) → IsShape b → IsTarget b p → IsTarget b q → target_text p ≡ target_text q → p ≡ q
target-same b None None s h k e = refl
target-same b None (Some q) s h k e = absurd (dash-alone b q s k (sym e))
target-same b (Some p) None s h k e = absurd (dash-alone b p s h e)
target-same b (Some p) (Some q) s h k e =
    let few = s.rows in
    let low = row_below b p h in
    let also = row_below b q k in
    ap (λ (n : ℕ). Some n) (decimal_injective p q (omega arith) (omega arith) e)

visible-target : (b : Bounds) (to : Option ℕ) → IsShape b → IsTarget b to → IsVisible (target_text to)
visible-target b None s h = refl
visible-target b (Some r) s h = let few = s.rows in let below = row_below b r h in visible-decimal r (omega arith)

visible-marked : (m : Bool) (t : List ℕ) → IsVisible t → IsVisible (mark_text m t)
visible-marked true t h = visible-append t (codes "m") h refl
visible-marked false t h = h

pub visible-link : (b : Bounds) (l : RowLink) → IsShape b → IsLink b l → IsVisible (link_text l)
visible-link b l s h = visible-marked l.mark (target_text l.to) (visible-target b l.to s h)

pub marks-same : (m n : Bool) (t u : List ℕ) → Lacks 109 t → Lacks 109 u → mark_text m t ≡ mark_text n u → (m ≡ n) × (t ≡ u)
marks-same true true t u h k e = (refl, (cut-unique 109 t u [] [] h k e).0)
marks-same true false t u h k e = absurd (cut-none 109 u t [] k (sym e))
marks-same false true t u h k e = absurd (cut-none 109 t u [] h e)
marks-same false false t u h k e = (refl, e)

pub link-same : (b : Bounds) (l k : RowLink) → IsShape b → IsLink b l → IsLink b k → link_text l ≡ link_text k → l ≡ k
link-same b l k s h i e =
    let parts = marks-same l.mark k.mark (target_text l.to) (target_text k.to) (Lacks-target b l.to s h) (Lacks-target b k.to s i) e in
    let to = target-same b l.to k.to s h i parts.1 in
    let make : Option ℕ → Bool → RowLink = λ t m. record { to = t; mark = m } in
    ap₂ make to parts.0

-- what stands behind the target
abbrev pub behind : Bool → Option (List ℕ)
behind true = Some []
behind false = None

marks-cut : (m : Bool) (t text front : List ℕ) (rest : Option (List ℕ)) → Lacks 109 t → text ≡ mark_text m t → Cuts 109 text front rest
    → (front ≡ t) × (rest ≡ behind m)
marks-cut true t text front None h e cut = absurd (cut-none 109 front t [] cut.1 (sym cut.0 ∙ e))
marks-cut true t text front (Some more) h e cut =
    let parts = cut-unique 109 front t more [] cut.1 h (sym cut.0 ∙ e) in
    (parts.0, ap (λ (r : List ℕ). Some r) parts.1)
marks-cut false t text front None h e cut = (sym cut.0 ∙ e, refl)
marks-cut false t text front (Some more) h e cut = absurd (cut-none 109 t front more h (sym e ∙ cut.0))

-- the text of a link, cut at its first `m`
pub link-cut : (b : Bounds) (l : RowLink) (text front : List ℕ) (rest : Option (List ℕ)) → IsShape b → IsLink b l → text ≡ link_text l
    → Cuts 109 text front rest
    → (front ≡ target_text l.to) × (rest ≡ behind l.mark)
link-cut b l text front rest s h e cut = marks-cut l.mark (target_text l.to) text front rest (Lacks-target b l.to s h) e cut

pub behind-empty : (m : Bool) (rest : List ℕ) → Some rest ≡ behind m → (length rest == 0) ≡ false → ⊥
behind-empty true [] e h = cc h
behind-empty true (x ∷ xs) e h = cc e
behind-empty false rest e h = cc e
