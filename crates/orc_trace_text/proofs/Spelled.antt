-- What the word of a kind and the words behind it spell.
use Rattle.std.proofs.Common.{◌≡◌, ◌∙◌, ℕ, zero, suc, ◌*◌, ◌^◌, ◌<◌, ◌≤◌, ◌⊎◌, inl, inr, List, [], ◌∷◌, Some, None, refl, sym, ap, ap₂, subst, arith}
use Rattle.std.specs.Fmt.{decimal}
use Rattle.orc_words.specs.declared.packed.RowLink.{RowLink}
use Rattle.orc_words.specs.declared.place.Word.{Word}
use Rattle.orc_words.specs.Bounds.{Bounds, IsShape}
use Rattle.orc_core.specs.declared.ops.CounterUse.TheVariants as how
use Rattle.orc_core.specs.declared.ops.Op.{Op}
use Rattle.orc_core.specs.declared.ops.Op.TheVariants as op
use Rattle.orc_trace_text.specs.Reading.{Spells, kind_word}
use Rattle.orc_trace_text.specs.TraceText.{IsLink, IsPlace, IsReadableOp, IsWide, link_text, place_text, words_of}
use Rattle.orc_trace_text.specs.declared.kind.StepKind.{StepKind}
use Rattle.orc_trace_text.specs.declared.kind.StepKind.TheVariants as kind
use Rattle.orc_trace_text.proofs.Arguments.{link-same, number-same, place-same}
use Rattle.orc_trace_text.proofs.KindWords.{kind_word-injective}

-- the kind whose word an op has
abbrev pub kind_for : Op → StepKind
kind_for op.Enroll = kind.Enroll
kind_for (op.GateLook r) = kind.Look
kind_for (op.GateTake r) = kind.Take
kind_for (op.Fill r which v) = kind.Fill
kind_for (op.Read r which) = kind.Read
kind_for (op.LinkLoad p slot) = kind.Load
kind_for (op.Publish k r) = kind.Publish
kind_for (op.Clear k) = kind.Clear
kind_for (op.Arm r) = kind.Arm
kind_for (op.LinkCas p f t) = kind.Cas
kind_for (op.LinkStore r l zero) = kind.Store
kind_for (op.LinkStore r l (suc n)) = kind.Side
kind_for (op.Inc r) = kind.Inc
kind_for (op.Dec r) = kind.Dec
kind_for (op.SetRetired r q) = kind.Set
kind_for (op.CounterLoad r how.Check) = kind.Count
kind_for (op.CounterLoad r how.Start) = kind.Start
kind_for (op.CounterLoad r how.End) = kind.End
kind_for (op.Unretire r) = kind.Unretire
kind_for (op.SlotLook k) = kind.Slot
kind_for (op.Hand k) = kind.Hand
kind_for (op.TakeIn k) = kind.TakeIn
kind_for (op.Free r) = kind.Free
kind_for (op.MoveOn k r) = kind.MoveOn
kind_for (op.HandoverLook k) = kind.Handover
kind_for (op.DecHeld r) = kind.DecHeld

-- ---- the words behind a kind's own, by what they are

abbrev pub OfNumber : ℕ → (ℕ → Op) → List (List ℕ) → Op → Type 0
OfNumber end make ws o = (n : ℕ) × (n < end) × (ws ≡ decimal n ∷ []) × (o ≡ make n)

abbrev pub OfNumbers : ℕ → ℕ → (ℕ → ℕ → Op) → List (List ℕ) → Op → Type 0
OfNumbers end last make ws o = (m : ℕ) × (n : ℕ) × (m < end) × (n < last) × (ws ≡ decimal m ∷ decimal n ∷ []) × (o ≡ make m n)

abbrev pub OfFill : Bounds → List (List ℕ) → Op → Type 0
OfFill b ws o = (r : ℕ) × (which : ℕ) × (v : ℕ) × (r < b.rows) × (which < 2) × IsWide v × (ws ≡ decimal r ∷ decimal which ∷ decimal v ∷ [])
    × (o ≡ op.Fill r which v)

abbrev pub OfLoad : Bounds → List (List ℕ) → Op → Type 0
OfLoad b ws o =
    (p : Word) × IsPlace b p
    × (((ws ≡ place_text p ∷ []) × (o ≡ op.LinkLoad p None)) ⊎ ((k : ℕ) × (k < 8) × (ws ≡ place_text p ∷ decimal k ∷ []) × (o ≡ op.LinkLoad p (Some k))))

abbrev pub OfCas : Bounds → List (List ℕ) → Op → Type 0
OfCas b ws o = (p : Word) × (f : RowLink) × (t : RowLink) × IsPlace b p × IsLink b f × IsLink b t
    × (ws ≡ place_text p ∷ link_text f ∷ link_text t ∷ []) × (o ≡ op.LinkCas p f t)

-- a store of the link of this number
abbrev pub OfStore : Bounds → ℕ → List (List ℕ) → Op → Type 0
OfStore b n ws o = (r : ℕ) × (l : RowLink) × (r < b.rows) × (n < b.links) × IsLink b l × (ws ≡ decimal r ∷ link_text l ∷ []) × (o ≡ op.LinkStore r l n)

abbrev pub Spelled : Bounds → StepKind → List (List ℕ) → Op → Type 0
Spelled b kind.Enroll ws o = (ws ≡ []) × (o ≡ op.Enroll)
Spelled b kind.Look ws o = OfNumber b.rows (λ r. op.GateLook r) ws o
Spelled b kind.Take ws o = OfNumber b.rows (λ r. op.GateTake r) ws o
Spelled b kind.Fill ws o = OfFill b ws o
Spelled b kind.Read ws o = OfNumbers b.rows 2 (λ r which. op.Read r which) ws o
Spelled b kind.Load ws o = OfLoad b ws o
Spelled b kind.Publish ws o = OfNumbers 8 b.rows (λ k r. op.Publish k r) ws o
Spelled b kind.Clear ws o = OfNumber 8 (λ k. op.Clear k) ws o
Spelled b kind.Arm ws o = OfNumber b.rows (λ r. op.Arm r) ws o
Spelled b kind.Cas ws o = OfCas b ws o
Spelled b kind.Store ws o = OfStore b 0 ws o
Spelled b kind.Side ws o = (n : ℕ) × OfStore b (suc n) ws o
Spelled b kind.Inc ws o = OfNumber b.rows (λ r. op.Inc r) ws o
Spelled b kind.Dec ws o = OfNumber b.rows (λ r. op.Dec r) ws o
Spelled b kind.Set ws o = OfNumbers b.rows (2 ^ 64) (λ r q. op.SetRetired r q) ws o
Spelled b kind.Count ws o = OfNumber b.rows (λ r. op.CounterLoad r how.Check) ws o
Spelled b kind.Start ws o = OfNumber b.rows (λ r. op.CounterLoad r how.Start) ws o
Spelled b kind.End ws o = OfNumber b.rows (λ r. op.CounterLoad r how.End) ws o
Spelled b kind.Unretire ws o = OfNumber b.rows (λ r. op.Unretire r) ws o
Spelled b kind.Slot ws o = OfNumber (8 * b.agents) (λ k. op.SlotLook k) ws o
Spelled b kind.Hand ws o = OfNumber (8 * b.agents) (λ k. op.Hand k) ws o
Spelled b kind.TakeIn ws o = OfNumber 8 (λ k. op.TakeIn k) ws o
Spelled b kind.Free ws o = OfNumber b.rows (λ r. op.Free r) ws o
Spelled b kind.MoveOn ws o = OfNumbers 8 b.rows (λ k r. op.MoveOn k r) ws o
Spelled b kind.Handover ws o = OfNumber 8 (λ k. op.HandoverLook k) ws o
Spelled b kind.DecHeld ws o = OfNumber b.rows (λ r. op.DecHeld r) ws o

-- each op that can be read is so spelled
pub own : (b : Bounds) (o : Op) → IsReadableOp b o → (ws : List (List ℕ)) × (words_of o ≡ kind_word (kind_for o) ∷ ws) × Spelled b (kind_for o) ws o
own b op.Enroll h = (_, refl, (refl, refl))
own b (op.GateLook r) h = (_, refl, (r, h, refl, refl))
own b (op.GateTake r) h = (_, refl, (r, h, refl, refl))
own b (op.Fill r which v) h = (_, refl, (r, which, v, h.0, h.1, h.2, refl, refl))
own b (op.Read r which) h = (_, refl, (r, which, h.0, h.1, refl, refl))
own b (op.LinkLoad p None) h = (_, refl, (p, h, inl (refl, refl)))
own b (op.LinkLoad p (Some k)) h = (_, refl, (p, h.0, inr (k, h.1, refl, refl)))
own b (op.Publish k r) h = (_, refl, (k, r, h.0, h.1, refl, refl))
own b (op.Clear k) h = (_, refl, (k, h, refl, refl))
own b (op.Arm r) h = (_, refl, (r, h, refl, refl))
own b (op.LinkCas p f t) h = (_, refl, (p, f, t, h.0, h.1, h.2, refl, refl))
own b (op.LinkStore r l zero) h = (_, refl, (r, l, h.0, h.1, h.2, refl, refl))
own b (op.LinkStore r l (suc n)) h = (_, refl, (n, (r, l, h.0, h.1, h.2, refl, refl)))
own b (op.Inc r) h = (_, refl, (r, h, refl, refl))
own b (op.Dec r) h = (_, refl, (r, h, refl, refl))
own b (op.SetRetired r q) h = (_, refl, (r, q, h.0, h.1, refl, refl))
own b (op.CounterLoad r how.Check) h = (_, refl, (r, h, refl, refl))
own b (op.CounterLoad r how.Start) h = (_, refl, (r, h, refl, refl))
own b (op.CounterLoad r how.End) h = (_, refl, (r, h, refl, refl))
own b (op.Unretire r) h = (_, refl, (r, h, refl, refl))
own b (op.SlotLook k) h = (_, refl, (k, h, refl, refl))
own b (op.Hand k) h = (_, refl, (k, h, refl, refl))
own b (op.TakeIn k) h = (_, refl, (k, h, refl, refl))
own b (op.Free r) h = (_, refl, (r, h, refl, refl))
own b (op.MoveOn k r) h = (_, refl, (k, r, h.0, h.1, refl, refl))
own b (op.HandoverLook k) h = (_, refl, (k, h, refl, refl))
own b (op.DecHeld r) h = (_, refl, (r, h, refl, refl))

-- an op that is spelled by the word of a kind has the numbers, places and links of that kind
pub spelled : (b : Bounds) (k : StepKind) (ws : List (List ℕ)) (o : Op) → Spells b k ws o → Spelled b k ws o
spelled b k ws o h =
    let mine = own b o h.0 in
    let same : kind_word (kind_for o) ∷ mine.0 ≡ kind_word k ∷ ws = sym mine.1 ∙ h.1 in
    let kinds : kind_for o ≡ k = kind_word-injective (kind_for o) k (cc same) in
    let words : mine.0 ≡ ws = cc same in
    subst (λ (j : StepKind). Spelled b j ws o) kinds (subst (λ (w : List (List ℕ)). Spelled b (kind_for o) w o) words mine.2)

-- ---- the same words spell one op

one-number : (end : ℕ) (make : ℕ → Op) (ws : List (List ℕ)) (o p : Op) → end ≤ 2 ^ 64 → OfNumber end make ws o → OfNumber end make ws p → o ≡ p
one-number end make ws o p wide h k =
    let same : decimal h.0 ∷ [] ≡ decimal k.0 ∷ [] = sym h.2 ∙ k.2 in
    h.3 ∙ ap make (number-same end h.0 k.0 wide h.1 k.1 (cc same)) ∙ sym k.3

two-numbers : (end last : ℕ) (make : ℕ → ℕ → Op) (ws : List (List ℕ)) (o p : Op) → end ≤ 2 ^ 64 → last ≤ 2 ^ 64 → OfNumbers end last make ws o
    → OfNumbers end last make ws p → o ≡ p
two-numbers end last make ws o p wide also h k =
    let same : decimal h.0 ∷ decimal h.1 ∷ [] ≡ decimal k.0 ∷ decimal k.1 ∷ [] = sym h.4 ∙ k.4 in
    h.5 ∙ ap₂ make (number-same end h.0 k.0 wide h.2 k.2 (cc same)) (number-same last h.1 k.1 also h.3 k.3 (cc same)) ∙ sym k.5

one-fill : (b : Bounds) (ws : List (List ℕ)) (o p : Op) → IsShape b → OfFill b ws o → OfFill b ws p → o ≡ p
one-fill b ws o p s h k =
    let few = s.rows in
    let same : decimal h.0 ∷ decimal h.1 ∷ decimal h.2 ∷ [] ≡ decimal k.0 ∷ decimal k.1 ∷ decimal k.2 ∷ [] = sym h.6 ∙ k.6 in
    let row : h.0 ≡ k.0 = number-same b.rows h.0 k.0 (omega arith) h.3 k.3 (cc same) in
    let which : h.1 ≡ k.1 = number-same 2 h.1 k.1 (omega arith) h.4 k.4 (cc same) in
    let value : h.2 ≡ k.2 = number-same (2 ^ 64) h.2 k.2 (omega arith) h.5 k.5 (cc same) in
    h.7 ∙ rw (row, which, value) refl ∙ sym k.7

one-load : (b : Bounds) (ws : List (List ℕ)) (o p : Op) → IsShape b → OfLoad b ws o → OfLoad b ws p → o ≡ p
one-load b ws o p s (q, at, inl h) (q', at', inl k) =
    let same : place_text q ∷ [] ≡ place_text q' ∷ [] = sym h.0 ∙ k.0 in
    h.1 ∙ ap (λ (w : Word). op.LinkLoad w None) (place-same b q q' s at at' (cc same)) ∙ sym k.1
one-load b ws o p s (q, at, inl h) (q', at', inr k) = let bad : place_text q ∷ [] ≡ place_text q' ∷ decimal k.0 ∷ [] = sym h.0 ∙ k.2 in cc bad
one-load b ws o p s (q, at, inr h) (q', at', inl k) = let bad : place_text q ∷ decimal h.0 ∷ [] ≡ place_text q' ∷ [] = sym h.2 ∙ k.0 in cc bad
one-load b ws o p s (q, at, inr h) (q', at', inr k) =
    let same : place_text q ∷ decimal h.0 ∷ [] ≡ place_text q' ∷ decimal k.0 ∷ [] = sym h.2 ∙ k.2 in
    h.3 ∙ ap₂ (λ (w : Word) (n : ℕ). op.LinkLoad w (Some n)) (place-same b q q' s at at' (cc same))
    (number-same 8 h.0 k.0 (omega arith) h.1 k.1 (cc same)) ∙ sym k.3

one-cas : (b : Bounds) (ws : List (List ℕ)) (o p : Op) → IsShape b → OfCas b ws o → OfCas b ws p → o ≡ p
one-cas b ws o p s h k =
    let same : place_text h.0 ∷ link_text h.1 ∷ link_text h.2 ∷ [] ≡ place_text k.0 ∷ link_text k.1 ∷ link_text k.2 ∷ [] = sym h.6 ∙ k.6 in
    let place : h.0 ≡ k.0 = place-same b h.0 k.0 s h.3 k.3 (cc same) in
    let old : h.1 ≡ k.1 = link-same b h.1 k.1 s h.4 k.4 (cc same) in
    let new : h.2 ≡ k.2 = link-same b h.2 k.2 s h.5 k.5 (cc same) in
    h.7 ∙ (cc (place, old, new)) ∙ sym k.7

one-store : (b : Bounds) (m n : ℕ) (ws : List (List ℕ)) (o p : Op) → IsShape b → m ≡ n → OfStore b m ws o → OfStore b n ws p → o ≡ p
one-store b m n ws o p s number h k =
    let few = s.rows in
    let same : decimal h.0 ∷ link_text h.1 ∷ [] ≡ decimal k.0 ∷ link_text k.1 ∷ [] = sym h.5 ∙ k.5 in
    let row : h.0 ≡ k.0 = number-same b.rows h.0 k.0 (omega arith) h.2 k.2 (cc same) in
    let link : h.1 ≡ k.1 = link-same b h.1 k.1 s h.4 k.4 (cc same) in
    h.6 ∙ (cc (row, number, link)) ∙ sym k.6

one-op : (b : Bounds) (k : StepKind) (ws : List (List ℕ)) (o p : Op) → IsShape b → Spelled b k ws o → Spelled b k ws p → o ≡ p
one-op b kind.Enroll ws o p s h i = h.1 ∙ sym i.1
one-op b kind.Look ws o p s h i = let few = s.rows in one-number b.rows (λ r. op.GateLook r) ws o p (omega arith) h i
one-op b kind.Take ws o p s h i = let few = s.rows in one-number b.rows (λ r. op.GateTake r) ws o p (omega arith) h i
one-op b kind.Fill ws o p s h i = one-fill b ws o p s h i
one-op b kind.Read ws o p s h i = let few = s.rows in two-numbers b.rows 2 (λ r which. op.Read r which) ws o p (omega arith) (omega arith) h i
one-op b kind.Load ws o p s h i = one-load b ws o p s h i
one-op b kind.Publish ws o p s h i = let few = s.rows in two-numbers 8 b.rows (λ k r. op.Publish k r) ws o p (omega arith) (omega arith) h i
one-op b kind.Clear ws o p s h i = one-number 8 (λ k. op.Clear k) ws o p (omega arith) h i
one-op b kind.Arm ws o p s h i = let few = s.rows in one-number b.rows (λ r. op.Arm r) ws o p (omega arith) h i
one-op b kind.Cas ws o p s h i = one-cas b ws o p s h i
one-op b kind.Store ws o p s h i = one-store b 0 0 ws o p s refl h i
one-op b kind.Side ws o p s h i =
    let two = s.links in
    let first = h.1.3 in
    let other = i.1.3 in
    one-store b (suc h.0) (suc i.0) ws o p s (omega arith) h.1 i.1
one-op b kind.Inc ws o p s h i = let few = s.rows in one-number b.rows (λ r. op.Inc r) ws o p (omega arith) h i
one-op b kind.Dec ws o p s h i = let few = s.rows in one-number b.rows (λ r. op.Dec r) ws o p (omega arith) h i
one-op b kind.Set ws o p s h i = let few = s.rows in two-numbers b.rows (2 ^ 64) (λ r q. op.SetRetired r q) ws o p (omega arith) (omega arith) h i
one-op b kind.Count ws o p s h i = let few = s.rows in one-number b.rows (λ r. op.CounterLoad r how.Check) ws o p (omega arith) h i
one-op b kind.Start ws o p s h i = let few = s.rows in one-number b.rows (λ r. op.CounterLoad r how.Start) ws o p (omega arith) h i
one-op b kind.End ws o p s h i = let few = s.rows in one-number b.rows (λ r. op.CounterLoad r how.End) ws o p (omega arith) h i
one-op b kind.Unretire ws o p s h i = let few = s.rows in one-number b.rows (λ r. op.Unretire r) ws o p (omega arith) h i
one-op b kind.Slot ws o p s h i = let few = s.agents in one-number (8 * b.agents) (λ k. op.SlotLook k) ws o p (omega arith) h i
one-op b kind.Hand ws o p s h i = let few = s.agents in one-number (8 * b.agents) (λ k. op.Hand k) ws o p (omega arith) h i
one-op b kind.TakeIn ws o p s h i = one-number 8 (λ k. op.TakeIn k) ws o p (omega arith) h i
one-op b kind.Free ws o p s h i = let few = s.rows in one-number b.rows (λ r. op.Free r) ws o p (omega arith) h i
one-op b kind.MoveOn ws o p s h i = let few = s.rows in two-numbers 8 b.rows (λ k r. op.MoveOn k r) ws o p (omega arith) (omega arith) h i
one-op b kind.Handover ws o p s h i = one-number 8 (λ k. op.HandoverLook k) ws o p (omega arith) h i
one-op b kind.DecHeld ws o p s h i = let few = s.rows in one-number b.rows (λ r. op.DecHeld r) ws o p (omega arith) h i

pub words_of-injective : (b : Bounds) (o p : Op) → IsShape b → IsReadableOp b o → IsReadableOp b p → words_of o ≡ words_of p → o ≡ p
words_of-injective b o p s h k e =
    let mine = own b p k in
    one-op b (kind_for p) mine.0 o p s (spelled b (kind_for p) mine.0 o (h, e ∙ mine.1)) mine.2
