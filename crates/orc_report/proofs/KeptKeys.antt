-- Keys of a set that is legal: what holds where one was never added, or never removed.
use Rattle.std.proofs.Common.{◌≡◌, ◌≢◌, ◌∙◌, ◌++◌, ◌||◌, ◌∷◌, ◌==◌, List, [], ℕ, Bool, true, false, not, filter, ap, inl, inr, sym, refl}
use Rattle.std.specs.List.{AllByRecursion}
use Rattle.std.proofs.lemmas.Bool.{cases_Bool}
use Rattle.std.proofs.lemmas.List.Folds.{list_any-append}
use Rattle.std.proofs.lemmas.Map.Views.{any-filter_same}
use Rattle.orc_history.specs.declared.set.SetEntry.{SetEntry}
use Rattle.orc_history.specs.declared.set.SetEntry.TheVariants.{Added, Removed, Asked}
use Rattle.orc_history.specs.SetHistory.{IsLegalSetFrom, has, keys_after, with_key, without_key}
use Rattle.orc_board.proofs.ListFacts.{eq-no, eq-true, eq-yes}

-- the key isn't added, not found there, not removed, not missed
abbrev pub NotAdded : ℕ → SetEntry → Type 0
NotAdded i (Added a id true) = id ≢ i
NotAdded i (Added a id false) = Unit {0}
NotAdded i (Removed a id answer) = Unit {0}
NotAdded i (Asked a id answer) = Unit {0}

abbrev pub NotBusy : ℕ → SetEntry → Type 0
NotBusy i (Added a id true) = Unit {0}
NotBusy i (Added a id false) = id ≢ i
NotBusy i (Removed a id answer) = Unit {0}
NotBusy i (Asked a id answer) = Unit {0}

abbrev pub NotRemoved : ℕ → SetEntry → Type 0
NotRemoved i (Added a id answer) = Unit {0}
NotRemoved i (Removed a id true) = id ≢ i
NotRemoved i (Removed a id false) = Unit {0}
NotRemoved i (Asked a id answer) = Unit {0}

abbrev pub NotMissed : ℕ → SetEntry → Type 0
NotMissed i (Added a id answer) = Unit {0}
NotMissed i (Removed a id true) = Unit {0}
NotMissed i (Removed a id false) = id ≢ i
NotMissed i (Asked a id answer) = Unit {0}

-- another key comes or goes
has-more : (i id : ℕ) (keys : List ℕ) → has i (keys ++ id ∷ []) ≡ (has i keys || ((id == i) || false))
has-more i id keys = list_any-append (λ k. k == i) keys (id ∷ [])

has-other : (i id : ℕ) (keys : List ℕ) → id ≢ i → has i (keys ++ id ∷ []) ≡ has i keys
has-other i id keys ne = has-more i id keys ∙ went (has i keys)
  where
    went : (b : Bool) → (b || ((id == i) || false)) ≡ b
    went true = refl
    went false = rw (eq-no id i ne) refl

has-same : (i id : ℕ) (keys : List ℕ) → id ≡ i → has i (keys ++ id ∷ []) ≡ true
has-same i id keys e = has-more i id keys ∙ went (has i keys)
  where
    went : (b : Bool) → (b || ((id == i) || false)) ≡ true
    went true = refl
    went false = rw (eq-yes id i e) refl

has-stays : (i id : ℕ) (keys : List ℕ) → has i keys ≡ true → has i (keys ++ id ∷ []) ≡ true
has-stays i id keys h = has-more i id keys ∙ rw h refl

has-without : (i id : ℕ) (keys : List ℕ) → id ≢ i → has i (filter (λ k. not (k == id)) keys) ≡ has i keys
has-without i id keys ne =
    any-filter_same (λ k. k == i) (λ k. not (k == id)) true (λ k e. ap not (eq-no k id (λ is. ne (sym is ∙ eq-true k i e)))) keys

has-none : (i id : ℕ) (keys : List ℕ) → has i keys ≡ false → has i (filter (λ k. not (k == id)) keys) ≡ false
has-none i id [] h = refl
has-none i id (k ∷ keys) h = elim (cases_Bool (k == i)) [
  | inl e ↦ absurd (never (rw e at h))
  | inr e ↦
      let rest : has i keys ≡ false = rw e at h in
      elim (cases_Bool (k == id)) as (λ _. has i (filter (λ x. not (x == id)) (k ∷ keys)) ≡ false) [
        | inl f ↦ rw f (has-none i id keys rest)
        | inr f ↦ rw (f, e) (has-none i id keys rest)
      ]
]
  where
    never : true ≡ false → ⊥
    never e = cc e

-- a key that is never added is never there
pub never-busy : (i : ℕ) (keys : List ℕ) (es : List SetEntry) → IsLegalSetFrom keys es → has i keys ≡ false → AllByRecursion (NotAdded i) es
    → AllByRecursion (NotBusy i) es
never-busy i keys [] legal h none = tt
never-busy i keys (Added a id true ∷ es) legal h none =
    (tt, never-busy i (keys ++ id ∷ []) es legal.1 (has-other i id keys none.0 ∙ h) none.1)
never-busy i keys (Added a id false ∷ es) legal h none =
    ((λ e. let there : false ≡ not (has id keys) = legal.0 in busy (there ∙ ap not (ap (λ k. has k keys) e ∙ h))), never-busy i keys es legal.1 h none.1)
  where
    busy : false ≡ true → ⊥
    busy e = cc e
never-busy i keys (Removed a id true ∷ es) legal h none =
    (tt, never-busy i (filter (λ k. not (k == id)) keys) es legal.1 (has-none i id keys h) none.1)
never-busy i keys (Removed a id false ∷ es) legal h none = (tt, never-busy i keys es legal.1 h none.1)
never-busy i keys (Asked a id answer ∷ es) legal h none = (tt, never-busy i keys es legal.1 h none.1)

-- a key that is there, and is never removed, is never missed
pub never-missed : (i : ℕ) (keys : List ℕ) (es : List SetEntry) → IsLegalSetFrom keys es → has i keys ≡ true → AllByRecursion (NotRemoved i) es
    → AllByRecursion (NotMissed i) es
never-missed i keys [] legal h none = tt
never-missed i keys (Added a id true ∷ es) legal h none =
    (tt, never-missed i (keys ++ id ∷ []) es legal.1 (has-stays i id keys h) none.1)
never-missed i keys (Added a id false ∷ es) legal h none = (tt, never-missed i keys es legal.1 h none.1)
never-missed i keys (Removed a id true ∷ es) legal h none =
    (tt, never-missed i (filter (λ k. not (k == id)) keys) es legal.1 (has-without i id keys none.0 ∙ h) none.1)
never-missed i keys (Removed a id false ∷ es) legal h none =
    ((λ e. let gone : false ≡ has id keys = legal.0 in missed (gone ∙ (ap (λ k. has k keys) e ∙ h))), never-missed i keys es legal.1 h none.1)
  where
    missed : false ≡ true → ⊥
    missed e = cc e
never-missed i keys (Asked a id answer ∷ es) legal h none = (tt, never-missed i keys es legal.1 h none.1)

-- a key that isn't there in the end, and was never removed, was never added
pub never-added : (i : ℕ) (keys : List ℕ) (es : List SetEntry) → has i (keys_after keys es) ≡ false → AllByRecursion (NotRemoved i) es
    → (has i keys ≡ false) × AllByRecursion (NotAdded i) es
never-added i keys [] h none = (h, tt)
never-added i keys (Added a id true ∷ es) h none =
    let (absent, rest) = never-added i (keys ++ id ∷ []) es h none.1 in
    let other : id ≢ i = λ e. never (sym (has-same i id keys e) ∙ absent) in
    (sym (has-other i id keys other) ∙ absent, (other, rest))
  where
    never : true ≡ false → ⊥
    never e = cc e
never-added i keys (Added a id false ∷ es) h none = let (absent, rest) = never-added i keys es h none.1 in (absent, (tt, rest))
never-added i keys (Removed a id true ∷ es) h none =
    let (absent, rest) = never-added i (filter (λ k. not (k == id)) keys) es h none.1 in
    (sym (has-without i id keys none.0) ∙ absent, (tt, rest))
never-added i keys (Removed a id false ∷ es) h none = let (absent, rest) = never-added i keys es h none.1 in (absent, (tt, rest))
never-added i keys (Asked a id answer ∷ es) h none = let (absent, rest) = never-added i keys es h none.1 in (absent, (tt, rest))

-- the second part of a legal history is legal behind the first
pub legal-behind : (keys : List ℕ) (xs ys : List SetEntry) → IsLegalSetFrom keys (xs ++ ys) → IsLegalSetFrom (keys_after keys xs) ys
legal-behind keys [] ys legal = legal
legal-behind keys (Added a id answer ∷ xs) ys legal = legal-behind (with_key id answer keys) xs ys legal.1
legal-behind keys (Removed a id answer ∷ xs) ys legal = legal-behind (without_key id answer keys) xs ys legal.1
legal-behind keys (Asked a id answer ∷ xs) ys legal = legal-behind keys xs ys legal.1
