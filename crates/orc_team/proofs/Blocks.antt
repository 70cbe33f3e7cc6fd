-- Lists that are put together from one block for each key.
use Rattle.std.proofs.Common.{◌≡◌, ◌≢◌, ◌==◌, ℕ, zero, suc, Some, slice_get, ◌+◌, ◌≤◌, ◌<◌, List, [], ◌∷◌, ◌++◌, length, filter, inl, inr, refl, ap, sym, ◌∙◌, subst, arith, append-nil, append_assoc}
use Rattle.std.proofs.lemmas.List.Elements.{filter-append}
use Rattle.std.specs.List.{AllByRecursion}
use Rattle.orc_board.specs.Follows.{grouped_by_key}
use Rattle.orc_team.specs.Seats.{AreNumbered, all_of}
use Rattle.orc_team.specs.declared.team.Worker.{Worker}
use Rattle.orc_board.proofs.ListFacts.{AllByRecursion-append, AllByRecursion-map, filter-all, filter-none, le-cases}

-- the blocks below n, one after another
abbrev pub blocks : {X : Type 0} → (ℕ → List X) → ℕ → List X
blocks block zero = []
blocks block (suc n) = blocks block n ++ block n

-- each block has the items of its own key
abbrev pub AreKeyed : {X : Type 0} → (X → ℕ) → (ℕ → List X) → Type 0
AreKeyed key block = (a : ℕ) → AllByRecursion (λ x. key x ≡ a) (block a)

other_block : {X : Type 0} (key : X → ℕ) (a n : ℕ) (xs : List X) → n ≢ a → AllByRecursion (λ x. key x ≡ n) xs → filter (λ x. key x == a) xs ≡ []
other_block key a n xs other h = filter-none key a xs (AllByRecursion-map (λ x. key x ≡ n) (λ x. key x ≢ a) (λ x e k. other (sym e ∙ k)) xs h)

none_above : {X : Type 0} (key : X → ℕ) (block : ℕ → List X) → AreKeyed key block → (a n : ℕ) → n ≤ a → filter (λ x. key x == a) (blocks block n) ≡ []
none_above key block keyed a zero h = refl
none_above key block keyed a (suc n) h =
    let other : n ≢ a = λ e. omega (arith, h, e) in
    filter-append (λ x. key x == a) (blocks block n) (block n)
    ∙ (ap (λ z. z ++ filter (λ x. key x == a) (block n)) (none_above key block keyed a n (omega (arith, h))) ∙ other_block key a n (block n) other (keyed n))

-- the items with a key are its block
pub block_of : {X : Type 0} (key : X → ℕ) (block : ℕ → List X) → AreKeyed key block → (a n : ℕ) → a < n → filter (λ x. key x == a) (blocks block n) ≡ block a
block_of key block keyed a zero h = absurd (omega (arith, h))
block_of {X} key block keyed a (suc n) h =
    filter-append (λ x. key x == a) (blocks block n) (block n)
    ∙ (elim (le-cases n a) as (λ _. filter (λ x. key x == a) (blocks block n) ++ filter (λ x. key x == a) (block n) ≡ block a) [
      | inl low ↦
          let e : n ≡ a = omega (arith, low, h) in
          let all : filter (λ x. key x == n) (block n) ≡ block n = filter-all key n (block n) (keyed n) in
          ap (λ z. z ++ filter (λ x. key x == a) (block n)) (none_above key block keyed a n low)
          ∙ subst (λ (b : ℕ). filter (λ x. key x == b) (block n) ≡ block b) e all
      | inr less ↦
          let other : n ≢ a = λ e. omega (arith, less, e) in
          ap (λ z. filter (λ x. key x == a) (blocks block n) ++ z) (other_block key a n (block n) other (keyed n))
          ∙ (append-nil (filter (λ x. key x == a) (blocks block n)) ∙ block_of key block keyed a n less)
    ])

in_order : {X : Type 0} (key : X → ℕ) (block : ℕ → List X) → AreKeyed key block → (m n : ℕ) → m ≤ n → grouped_by_key key m (blocks block n) ≡ blocks block m
in_order key block keyed zero n h = refl
in_order key block keyed (suc m) n h =
    let low : m < n = omega (arith, h) in
    ap (λ z. z ++ filter (λ x. key x == m) (blocks block n)) (in_order key block keyed m n (omega (arith, h)))
    ∙ ap (λ z. blocks block m ++ z) (block_of key block keyed m n low)

-- and they stand in the order of their keys
pub blocks_by_key : {X : Type 0} (key : X → ℕ) (block : ℕ → List X) → AreKeyed key block → (n : ℕ) → blocks block n ≡ grouped_by_key key n (blocks block n)
blocks_by_key key block keyed n = sym (in_order key block keyed n n (omega arith))

pub blocks_add : {X : Type 0} (block : ℕ → List X) (m n : ℕ) → blocks block (m + n) ≡ blocks block m ++ blocks (λ i. block (m + i)) n
blocks_add block m zero = let e : m + 0 ≡ m = omega arith in rw e (sym (append-nil (blocks block m)))
blocks_add block m (suc n) =
    let e : m + suc n ≡ suc (m + n) = omega arith in
    rw e (ap (λ z. z ++ block (m + n)) (blocks_add block m n) ∙ append_assoc (blocks block m) (blocks (λ i. block (m + i)) n) (block (m + n)))

pub blocks_none : {X : Type 0} (block : ℕ → List X) (n : ℕ) → ((a : ℕ) → a < n → block a ≡ []) → blocks block n ≡ []
blocks_none block zero h = refl
blocks_none block (suc n) h = ap (λ z. z ++ block n) (blocks_none block n (λ a l. h a (omega (arith, l)))) ∙ h n (omega arith)

-- of a list, the items of the one at a place
abbrev pub nth_of : {W X : Type 0} → (W → List X) → List W → ℕ → List X
nth_of items [] i = []
nth_of items (w ∷ ws) zero = items w
nth_of items (w ∷ ws) (suc i) = nth_of items ws i

pub blocks_cons : {X : Type 0} (xs : List X) (block next : ℕ → List X) → block 0 ≡ xs → ((i : ℕ) → block (suc i) ≡ next i) → (n : ℕ)
    → blocks block (suc n) ≡ xs ++ blocks next n
blocks_cons xs block next first rest zero = first ∙ sym (append-nil xs)
blocks_cons xs block next first rest (suc n) =
    ap (λ z. z ++ block (suc n)) (blocks_cons xs block next first rest n)
    ∙ (append_assoc xs (blocks next n) (block (suc n)) ∙ ap (λ z. xs ++ (blocks next n ++ z)) (rest n))

pub all_blocks : {W X : Type 0} (items : W → List X) (ws : List W) → all_of items ws ≡ blocks (nth_of items ws) (length ws)
all_blocks items [] = refl
all_blocks items (w ∷ ws) =
    ap (λ z. items w ++ z) (all_blocks items ws) ∙ sym (blocks_cons (items w) (nth_of items (w ∷ ws)) (nth_of items ws) refl (λ i. refl) (length ws))

pub all_of-snoc : {W X : Type 0} (items : W → List X) (ws : List W) (w : W) → all_of items (ws ++ w ∷ []) ≡ all_of items ws ++ items w
all_of-snoc items [] w = append-nil (items w)
all_of-snoc items (v ∷ ws) w = ap (λ z. items v ++ z) (all_of-snoc items ws w) ∙ sym (append_assoc (items v) (all_of items ws) (items w))

pub nth_out : {W X : Type 0} (items : W → List X) (ws : List W) (i : ℕ) → length ws ≤ i → nth_of items ws i ≡ []
nth_out items [] i h = refl
nth_out items (w ∷ ws) zero h = absurd (omega (arith, h))
nth_out items (w ∷ ws) (suc i) h = nth_out items ws i (omega (arith, h))

pub nth_is : {W X : Type 0} (items : W → List X) (ws : List W) (i : ℕ) (w : W) → slice_get ws i ≡ Some w → nth_of items ws i ≡ items w
nth_is items [] i w e = let n : ⊥ = cc in absurd n
nth_is items (v ∷ ws) zero w e = let same : v ≡ w = cc in ap items same
nth_is items (v ∷ ws) (suc i) w e = nth_is items ws i w e

-- what holds of each block below n holds of them together
pub every_block : {X : Type 0} (P : X → Type 0) (block : ℕ → List X) (n : ℕ) → ((a : ℕ) → a < n → AllByRecursion P (block a)) → AllByRecursion P (blocks block n)
every_block P block zero h = tt
every_block P block (suc n) h = AllByRecursion-append P (blocks block n) (block n) (every_block P block n (λ a l. h a (omega (arith, l)))) (h n (omega arith))

-- the worker at a place
pub record At {D T : Type 0} (F : Worker D T → Type 0) (k i : ℕ) (ws : List (Worker D T)) : Type 0 where
  pub worker : Worker D T
  pub is : slice_get ws i ≡ Some worker
  pub agent_is : worker.agent ≡ k + i
  pub holds : F worker

pub find : {D T : Type 0} (F : Worker D T → Type 0) (k i : ℕ) (ws : List (Worker D T)) → AreNumbered k ws → AllByRecursion F ws → i < length ws → At F k i ws
find F k i [] num h low = absurd (omega (arith, low))
find F k zero (w ∷ ws) num h low = record { worker = w; is = refl; agent_is = omega (arith, num.0); holds = h.0 }
find F k (suc i) (w ∷ ws) num h low =
    let rest = find F (suc k) i ws num.1 h.1 (omega (arith, low)) in
    record { worker = rest.worker; is = rest.is; agent_is = omega (arith, rest.agent_is); holds = rest.holds }
