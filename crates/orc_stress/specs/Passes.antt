-- Passes between calls.
use Rattle.std.specs.Prelude.{All, List, [], length, slice_index_or, ℕ, ◌<◌, ◌∷◌, ◌≡◌}

module _ {P : Type 0} (ready : P → Type 0) (agent : P → ℕ) where
  -- the pass is ready for a call, and of the same agent as before
  pub record Stays (old new : P) : Type 0 where
    pub is_ready : ready new
    pub same : agent new ≡ agent old

  -- so is each of these
  abbrev pub AllStay : List P → List P → Type 0
  AllStay [] [] = Unit {0}
  AllStay (x ∷ xs) (y ∷ ys) = Stays x y × AllStay xs ys
  AllStay [] (y ∷ ys) = ⊥
  AllStay (x ∷ xs) [] = ⊥

  -- these are the passes that were those
  pub record Stay (old new : List P) : Type 0 where
    pub all : AllStay old new

  -- these are the passes of the first agents, in order, and each is ready
  pub record AreReady (passes : List P) : Type 0 where
    pub each : All ready passes
    pub order : (i : ℕ) (p : P) → i < length passes → agent (slice_index_or passes i p) ≡ i
