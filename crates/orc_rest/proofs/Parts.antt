-- The part of a call begins with the agent's own first step: what others did before it counts for nothing. Turns that are told so.
use Rattle.std.proofs.Common.{List, [], ap, refl, sym, ℕ, ⊎_elim, ◌++◌, ◌∙◌, ◌∷◌, ◌≡◌, ◌⊎◌}
use Rattle.orc_core.specs.declared.ops.CounterUse.TheVariants.{Check, End, Start}
use Rattle.orc_core.specs.declared.ops.Op.{Op}
use Rattle.orc_core.specs.declared.ops.Op.TheVariants.{CounterLoad, Hand}
use Rattle.orc_core.specs.declared.records.Agent.{Agent}
use Rattle.orc_rest.specs.Rounds.{IsNoHand}
use Rattle.orc_rest.specs.Turns.{AllOf, NoneOf}
use Rattle.orc_rest.specs.Work.{IsSettlingStep}
use Rattle.orc_words.specs.declared.place.Word.{Word}

-- some step is the agent's
abbrev pub HasOwn : ℕ → List (ℕ × Op) → Type 0
HasOwn a [] = ⊥
HasOwn a (s ∷ ss) = (s.0 ≡ a) ⊎ HasOwn a ss

-- others stand in the first of two lists, if that has a step of the agent
pub split_first : (a : ℕ) (ts us o p : List (ℕ × Op)) → ts ++ us ≡ o ++ p → NoneOf a o → HasOwn a ts → (q : List (ℕ × Op)) × (ts ≡ o ++ q) × (p ≡ q ++ us)
split_first a ts us [] p e n h = (ts, refl, sym e)
split_first a [] us (x ∷ o) p e n h = absurd h
split_first a (t ∷ ts) us (x ∷ o) p e n h =
    let head : t ≡ x = cc in
    let tail : ts ++ us ≡ o ++ p = cc in
    let later = ⊎_elim (λ k. absurd (n.0 (ap (λ (s : ℕ × Op). s.0) (sym head) ∙ k))) (λ k. k) h in
    let r = split_first a ts us o p tail n.1 later in
    (r.0, (λ i. head i ∷ r.1 i), r.2)

-- one step of the agent after others: they all stand before it
pub split_last : (a : ℕ) (xs o p : List (ℕ × Op)) (s : ℕ × Op) → s.0 ≡ a → xs ++ s ∷ [] ≡ o ++ p → NoneOf a xs → NoneOf a o → AllOf a p → o ≡ xs
split_last a [] [] p s h e n k l = refl
split_last a [] (y ∷ o) p s h e n k l = let head : s ≡ y = cc in absurd (k.0 (ap (λ (z : ℕ × Op). z.0) (sym head) ∙ h))
split_last a (x ∷ xs) [] p s h e n k l = absurd (n.0 (first p e l))
  where
    first : (p : List (ℕ × Op)) → x ∷ (xs ++ s ∷ []) ≡ p → AllOf a p → x.0 ≡ a
    first [] e l = cc
    first (z ∷ zs) e l = let head : x ≡ z = cc in ap (λ (w : ℕ × Op). w.0) head ∙ l.0
split_last a (x ∷ xs) (y ∷ o) p s h e n k l =
    let head : x ≡ y = cc in
    let tail : xs ++ s ∷ [] ≡ o ++ p = cc in
    let r = split_last a xs o p s h tail n.1 k.1 l in
    (λ i. sym head i ∷ r i)

pub settles_at : (f g : Word → ℕ) (op : Op) (d : Agent) → IsNoHand op → IsSettlingStep f op d → IsSettlingStep g op d
settles_at f g (Hand k) d n s = absurd n
settles_at f g (CounterLoad q Start) d n s = s
settles_at f g (CounterLoad q End) d n s = s
settles_at f g (CounterLoad q Check) d n s = s
settles_at f g op d n s = s
