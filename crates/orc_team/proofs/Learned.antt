-- What passes learn is nothing of their own.
use Rattle.std.proofs.Common.{◌≡◌, ◌≢◌, ◌==◌, ℕ, ◌≤◌, List, [], ◌∷◌, ◌++◌, filter, Bool, true, false, cond, inl, inr, refl, ap, sym, ◌∙◌, subst, append-nil}
use mathlib.Core.List.{IsPrefix}
use Rattle.std.proofs.lemmas.List.{append_cancel_left}
use Rattle.std.proofs.lemmas.List.Elements.{filter-append}
use Rattle.std.specs.List.{AllByRecursion}
use Rattle.orc_history.specs.Journals.{own_of}
use Rattle.orc_board.specs.Stretches.{Kind, MayStand, Stretch, View, beside}
use Rattle.orc_board.specs.Follows.{ZeroLast}
use Rattle.orc_board.proofs.ListFacts.{AllByRecursion-map, AllByRecursion-right, eq-false, zero_or}

-- the history of a longer journal goes on
abbrev pub Grows : {A E : Type 0} → (List A → List E) → Type 0
Grows {A} history = (seen more : List A) → IsPrefix (history seen) (history (seen ++ more))

-- what is new between two journals
pub record Since {A E : Type 0} (history : List A → List E) (j k : List A) : Type 0 where
  pub part : List E
  pub is : history k ≡ history j ++ part

pub since : {A E : Type 0} (history : List A → List E) → Grows history → (j k : List A) → IsPrefix j k → Since history j k
since {A} history grows j k (more, is) =
    let (part, part_is) = subst (λ (z : List A). IsPrefix (history j) (history z)) is (grows j more) in
    record { part = part; is = sym part_is }

no_front : {E : Type 0} (xs ys : List E) → xs ++ ys ≡ [] → xs ≡ []
no_front [] ys e = refl
no_front (x ∷ xs) ys e = let n : ⊥ = cc in absurd n

pub none_at_start : {A E : Type 0} (history : List A → List E) → Grows history → (j : List A) → history j ≡ [] → history [] ≡ []
none_at_start history grows j none =
    let (part, is) = grows [] j in
    no_front (history []) part (is ∙ none)

-- an agent that has as many entries as before has none in what is new
pub none_since : {E : Type 0} (by : E → ℕ) (a : ℕ) (before part after : List E) → after ≡ before ++ part → own_of by a after ≡ own_of by a before
    → own_of by a part ≡ []
none_since by a before part after is own =
    append_cancel_left (own_of by a before) (own_of by a part) []
    (sym (filter-append (λ e. by e == a) before part) ∙ (ap (own_of by a) (sym is) ∙ (own ∙ sym (append-nil (own_of by a before)))))

-- what a pass learned is what others did
pub learned_stretch : {A E W : Type 0} (kind : Kind E) (x : View A E W) (C : ℕ → Type 0) (agent : ℕ) (j k : List A)
    → ((es : List E) → own_of kind.agent_of agent es ≡ [] → filter (kind.is_own agent) es ≡ [])
    → Grows x.history → IsPrefix j k
    → own_of kind.agent_of agent (x.history k) ≡ own_of kind.agent_of agent (x.history j) → AllByRecursion (λ e. C (kind.agent_of e)) (x.history k)
    → Stretch kind (beside x C) agent [] j k
learned_stretch kind x C agent j k quiet grows later own below =
    let s = since x.history grows j k later in
    record {
      later = later;
      part = s.part;
      is = s.is;
      own_is = quiet s.part (none_since kind.agent_of agent (x.history j) s.part (x.history k) s.is own);
      others = AllByRecursion-map (λ e. C (kind.agent_of e)) (MayStand kind (beside x C) agent) (λ e h. inr h) s.part
          (AllByRecursion-right (λ e. C (kind.agent_of e)) (x.history j) s.part (subst (AllByRecursion (λ e. C (kind.agent_of e))) s.is below));
    }

-- a list without an agent's entries
pub none_of : {E : Type 0} (by : E → ℕ) (a : ℕ) (es : List E) → own_of by a es ≡ [] → AllByRecursion (λ e. by e ≢ a) es
none_of by a [] h = tt
none_of {E} by a (e ∷ es) h =
    let cases : (b : Bool) → (by e == a) ≡ b → cond b (e ∷ own_of by a es) (own_of by a es) ≡ [] → AllByRecursion (λ x. by x ≢ a) (e ∷ es) =
    elim [ true ↦ λ is k. (let n : ⊥ = cc in absurd n) | false ↦ λ is k. (eq-false (by e) a is, none_of by a es k) ] in
    cases (by e == a) refl h

rest_of : {E : Type 0} (by : E → ℕ) (a : ℕ) (e : E) (es : List E) → own_of by a (e ∷ es) ≡ [] → own_of by a es ≡ []
rest_of {E} by a e es h =
    let cases : (b : Bool) → cond b (e ∷ own_of by a es) (own_of by a es) ≡ [] → own_of by a es ≡ [] =
    elim [ true ↦ λ k. (let n : ⊥ = cc in absurd n) | false ↦ λ k. k ] in
    cases (by e == a) h

-- a list of agents up to N without entries of 1 to N
only_zero : {E : Type 0} (by : E → ℕ) (N : ℕ) (es : List E) → AllByRecursion (λ e. by e ≤ N) es → ((a : ℕ) → 1 ≤ a → a ≤ N → own_of by a es ≡ [])
    → AllByRecursion (λ e. by e ≡ 0) es
only_zero by N [] below h = tt
only_zero {E} by N (e ∷ es) below h = (
  (elim (zero_or (by e)) as (λ _. by e ≡ 0) [
    | inl z ↦ z
    | inr g ↦ absurd ((none_of by (by e) (e ∷ es) (h (by e) g below.0)).0 refl)
  ]),
  only_zero by N es below.1 (λ a g l. rest_of by a e es (h a g l)),
)

-- what the caller's pass had seen before it worked has no entries of agent 0, and what came then has none of others
pub zero_last : {E : Type 0} (by : E → ℕ) (N : ℕ) (before part after : List E) → after ≡ before ++ part → own_of by 0 before ≡ []
    → AllByRecursion (λ e. by e ≤ N) after → ((a : ℕ) → 1 ≤ a → a ≤ N → own_of by a after ≡ own_of by a before) → ZeroLast by after
zero_last by N before part after is none below others = record {
  front = before;
  back = part;
  is = is;
  others = none_of by 0 before none;
  zeros = only_zero by N part (AllByRecursion-right (λ e. by e ≤ N) before part (subst (AllByRecursion (λ e. by e ≤ N)) is below))
      (λ a g l. none_since by a before part after is (others a g l));
}
