-- Items at their numbers in order.
use Rattle.std.proofs.Common.{◌≡◌, ◌+◌, ◌<◌, ◌≤◌, ℕ, suc, List, [], ◌∷◌, ◌++◌, arith, inl, inr, length, map, refl, subst, sym, ◌∙◌}
use Rattle.std.specs.List.{AllByRecursion, remove}
use Rattle.orc_board.proofs.ListFacts.{le-cases}
use Rattle.orc_history.specs.Lists.{Pairwise}
use Rattle.orc_team.specs.Seats.{AreNumbered, EachNumbered, seated}
use Rattle.orc_team.specs.declared.team.Worker.{Worker}

module _ {X : Type 0} (P : ℕ → X → Type 0) where
  -- one item more
  pub EachFrom-snoc : (k : ℕ) (xs : List X) (x : X) → EachNumbered P k xs → P (k + length xs) x → EachNumbered P k (xs ++ x ∷ [])
  EachFrom-snoc k [] x h p = (subst (λ (n : ℕ). P n x) (omega arith) p, tt)
  EachFrom-snoc k (y ∷ xs) x h p = (h.0, EachFrom-snoc (suc k) xs x h.1 (subst (λ (n : ℕ). P n x) (omega arith) p))

  EachFrom-before : (k : ℕ) (xs : List X) (x : X) → EachNumbered P k (xs ++ x ∷ []) → EachNumbered P k xs × P (k + length xs) x
  EachFrom-before k [] x h = (tt, subst (λ (n : ℕ). P n x) (omega arith) h.0)
  EachFrom-before k (y ∷ xs) x h =
      let rest = EachFrom-before (suc k) xs x h.1 in
      ((h.0, rest.0), subst (λ (n : ℕ). P n x) (omega arith) rest.1)

  -- all items but the last, and the last
  pub EachFrom-to_last : (k : ℕ) (xs all : List X) (x : X) → all ≡ xs ++ x ∷ [] → EachNumbered P k all → EachNumbered P k xs × P (k + length xs) x
  EachFrom-to_last k xs all x is h = EachFrom-before k xs x (subst (λ (ys : List X). EachNumbered P k ys) is h)

  -- all items but the first
  pub EachFrom-rest : (k : ℕ) (all rest : List X) → rest ≡ remove all 0 → EachNumbered P k all → EachNumbered P (suc k) rest
  EachFrom-rest k [] rest e h = subst (λ (ys : List X). EachNumbered P (suc k) ys) (sym e) tt
  EachFrom-rest k (x ∷ xs) rest e h = subst (λ (ys : List X). EachNumbered P (suc k) ys) (sym e) h.1

-- one fact gives another at each number
pub EachFrom-map : {X : Type 0} (P Q : ℕ → X → Type 0) → ((k : ℕ) (x : X) → P k x → Q k x) → (k : ℕ) (xs : List X) → EachNumbered P k xs → EachNumbered Q k xs
EachFrom-map P Q f k [] h = tt
EachFrom-map P Q f k (x ∷ xs) h = (f k x h.0, EachFrom-map P Q f (suc k) xs h.1)

-- of the images of items
pub All-of_map : {W X : Type 0} (f : W → X) (P : X → Type 0) (ws : List W) → AllByRecursion (λ w. P (f w)) ws → AllByRecursion P (map f ws)
All-of_map f P [] h = tt
All-of_map f P (w ∷ ws) h = (h.0, All-of_map f P ws h.1)

module _ {D T : Type 0} where
  -- what keeps its number keeps its place
  pub numbered_next : (R : Worker D T → Worker D T → Type 0) (k : ℕ) (ws vs : List (Worker D T)) → ((w v : Worker D T) → R w v → v.agent ≡ w.agent)
      → AreNumbered k ws → Pairwise R ws vs → AreNumbered k vs
  numbered_next R k [] [] f a p = tt
  numbered_next R k [] (v ∷ vs) f a p = absurd p
  numbered_next R k (w ∷ ws) [] f a p = absurd p
  numbered_next R k (w ∷ ws) (v ∷ vs) f a p = (f w v p.0 ∙ a.0, numbered_next R (suc k) ws vs f a.1 p.1)

  -- what holds of the numbers of all workers holds of each number in their range
  pub each_number : (F : ℕ → Type 0) (k : ℕ) (ws : List (Worker D T)) → AreNumbered k ws → AllByRecursion (λ (w : Worker D T). F w.agent) ws
      → (a : ℕ) → k ≤ a → a < k + length ws → F a
  each_number F k [] num h a low high = absurd (omega (arith, low, high))
  each_number F k (w ∷ ws) num h a low high =
      elim (le-cases a k) as (λ _. F a) [
        | inl less ↦ let e : w.agent ≡ a = omega (arith, num.0, low, less) in subst F e h.0
        | inr more ↦ each_number F (suc k) ws num.1 h.1 a (omega (arith, more)) (omega (arith, high))
      ]

  -- seated workers have the numbers of their places
  pub seated_numbered : (k : ℕ) (ds : List D) (rs : List T) → AreNumbered k (seated k ds rs)
  seated_numbered k [] rs = tt
  seated_numbered k (d ∷ ds) [] = tt
  seated_numbered k (d ∷ ds) (r ∷ rs) = (refl, seated_numbered (suc k) ds rs)

  -- what each desk and each room give at its number holds of the workers that are seated there
  pub seated_all : (P : ℕ → D → Type 0) (Q : ℕ → T → Type 0) (F : Worker D T → Type 0) (low high k : ℕ) (ds : List D) (rs : List T)
      → ((n : ℕ) (d : D) (r : T) → low ≤ n → n < high → P n d → Q n r → F (record { agent = n; desk = d; replies = r }))
      → low ≤ k → k + length ds ≤ high → EachNumbered P k ds → EachNumbered Q k rs → AllByRecursion F (seated k ds rs)
  seated_all P Q F low high k [] rs f a b p q = tt
  seated_all P Q F low high k (d ∷ ds) [] f a b p q = tt
  seated_all P Q F low high k (d ∷ ds) (r ∷ rs) f a b p q =
      (f k d r a (omega (arith, b)) p.0 q.0, seated_all P Q F low high (suc k) ds rs f (omega (arith, a)) (omega (arith, b)) p.1 q.1)

  -- the desks of workers that are what their numbers say
  pub desks_from : (P : ℕ → D → Type 0) (k : ℕ) (ws : List (Worker D T)) → AreNumbered k ws → AllByRecursion (λ (w : Worker D T). P w.agent w.desk) ws
      → EachNumbered P k (map (λ (w : Worker D T). w.desk) ws)
  desks_from P k [] num h = tt
  desks_from P k (w ∷ ws) num h = (subst (λ (n : ℕ). P n w.desk) num.0 h.0, desks_from P (suc k) ws num.1 h.1)
