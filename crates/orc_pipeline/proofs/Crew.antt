-- The workers of a run at their places.
use Rattle.std.proofs.Common.{◌≡◌, ℕ, zero, suc, ◌+◌, ◌<◌, List, [], ◌∷◌, ◌++◌, Some, length, refl, ap, slice_get, sym, ◌∙◌, arith}
use Rattle.orc_board.specs.declared.replies.PostReply.{PostReply}
use Rattle.orc_history.specs.Lists.{Pairwise}
use Rattle.orc_team.proofs.Blocks.{nth_of}
use Rattle.orc_stages.specs.declared.replies.StageReply.{StageReply}
use Rattle.orc_stages.specs.Desks.{StageWorker}
use Rattle.orc_stages.specs.Caller.{AllMovedFor, spare_at}

abbrev pub posts_at : {P : Type 0} → List (StageWorker P) → ℕ → List PostReply
posts_at {P = P} ws i = nth_of (λ (w : StageWorker P). w.replies.posts.items) ws i

abbrev pub moves_at : {P : Type 0} → List (StageWorker P) → ℕ → List StageReply
moves_at {P = P} ws i = nth_of (λ (w : StageWorker P). w.replies.takes.items) ws i

-- the room of the worker at a place
pub spare_is : {P : Type 0} (ws : List (StageWorker P)) (i : ℕ) (w : StageWorker P) → slice_get ws i ≡ Some w → spare_at ws i ≡ w.replies.takes.spare
spare_is [] i w e = let n : ⊥ = cc in absurd n
spare_is {P} (v ∷ ws) zero w e = let same : v ≡ w = cc in ap (λ (u : StageWorker P). u.replies.takes.spare) same
spare_is (v ∷ ws) (suc i) w e = spare_is ws i w e

-- items that stay the same, place by place
pub nth_next : {W X : Type 0} (items : W → List X) (R : W → W → Type 0) (ws vs : List W) → ((w v : W) → R w v → items v ≡ items w) → Pairwise R ws vs → (i : ℕ)
    → nth_of items vs i ≡ nth_of items ws i
nth_next items R [] [] f p i = refl
nth_next items R [] (v ∷ vs) f p i = absurd p
nth_next items R (w ∷ ws) [] f p i = absurd p
nth_next items R (w ∷ ws) (v ∷ vs) f p zero = f w v p.0
nth_next items R (w ∷ ws) (v ∷ vs) f p (suc i) = nth_next items R ws vs f p.1 i

-- of two lists, one after another
pub nth_front : {W X : Type 0} (items : W → List X) (xs ys : List W) (i : ℕ) → i < length xs → nth_of items (xs ++ ys) i ≡ nth_of items xs i
nth_front items [] ys i low = absurd (omega (arith, low))
nth_front items (x ∷ xs) ys zero low = refl
nth_front items (x ∷ xs) ys (suc i) low = nth_front items xs ys i (omega (arith, low))

pub nth_behind : {W X : Type 0} (items : W → List X) (xs ys : List W) (i : ℕ) → nth_of items (xs ++ ys) (length xs + i) ≡ nth_of items ys i
nth_behind items [] ys i =
    let same : 0 + i ≡ i = omega arith in
    ap (nth_of items ys) same
nth_behind items (x ∷ xs) ys i =
    let next : suc (length xs) + i ≡ suc (length xs + i) = omega arith in
    ap (nth_of items ((x ∷ xs) ++ ys)) next ∙ nth_behind items xs ys i

pub spare_behind : {P : Type 0} (xs ys : List (StageWorker P)) (i : ℕ) → spare_at (xs ++ ys) (length xs + i) ≡ spare_at ys i
spare_behind [] ys i =
    let same : 0 + i ≡ i = omega arith in
    ap (spare_at ys) same
spare_behind (x ∷ xs) ys i =
    let next : suc (length xs) + i ≡ suc (length xs + i) = omega arith in
    ap (spare_at ((x ∷ xs) ++ ys)) next ∙ spare_behind xs ys i

-- what the caller moved for a worker
record MovedAt {P : Type 0} (more : List StageReply) (ws vs : List (StageWorker P)) (i : ℕ) : Type 0 where
  moves : moves_at vs i ≡ moves_at ws i ++ more
  spare : length (moves_at vs i) + spare_at vs i ≡ length (moves_at ws i) + spare_at ws i

moved_at : {P : Type 0} (more : ℕ → List StageReply) (ws vs : List (StageWorker P)) → AllMovedFor more ws vs → (i : ℕ) → i < length ws → MovedAt (more i) ws vs i
moved_at more [] vs m i low = absurd (omega (arith, low))
moved_at more (w ∷ ws) [] m i low = absurd m
moved_at more (w ∷ ws) (v ∷ vs) m zero low = record { moves = m.0.moves_are; spare = m.0.spare }
moved_at more (w ∷ ws) (v ∷ vs) m (suc i) low =
    let rest = moved_at (λ n. more (suc n)) ws vs m.1 i (omega (arith, low)) in
    record { moves = rest.moves; spare = rest.spare }

-- at most the moves have changed
pub record SameDesk {P : Type 0} (w v : StageWorker P) : Type 0 where
  pub agent_is : v.agent ≡ w.agent
  pub desk_is : v.desk ≡ w.desk
  pub posts_are : v.replies.posts ≡ w.replies.posts

moved_desks : {P : Type 0} (more : ℕ → List StageReply) (ws vs : List (StageWorker P)) → AllMovedFor more ws vs → Pairwise SameDesk ws vs
moved_desks more [] [] m = tt
moved_desks more [] (v ∷ vs) m = absurd m
moved_desks more (w ∷ ws) [] m = absurd m
moved_desks more (w ∷ ws) (v ∷ vs) m =
    (record { agent_is = m.0.agent_is; desk_is = m.0.desk_is; posts_are = m.0.posts_are }, moved_desks (λ n. more (suc n)) ws vs m.1)

same_desks : {P : Type 0} (front ws vs : List (StageWorker P)) → Pairwise SameDesk ws vs → Pairwise SameDesk (front ++ ws) (front ++ vs)
same_desks [] ws vs p = p
same_desks (w ∷ front) ws vs p = (record { agent_is = refl; desk_is = refl; posts_are = refl }, same_desks front ws vs p)

-- what the caller moved for all but the first of these workers
pub record Moved {P : Type 0} (more : ℕ → List StageReply) (posters stages : ℕ) (ws vs : List (StageWorker P)) : Type 0 where
  pub desks : Pairwise SameDesk ws vs
  pub kept : (i : ℕ) → i < posters → moves_at vs i ≡ moves_at ws i
  pub moves : (i : ℕ) → i < stages → moves_at vs (posters + i) ≡ moves_at ws (posters + i) ++ more i
  pub spare : (i : ℕ) → i < stages
      → length (moves_at vs (posters + i)) + spare_at vs (posters + i) ≡ length (moves_at ws (posters + i)) + spare_at ws (posters + i)

moved_behind : {P : Type 0} (more : ℕ → List StageReply) (front before after : List (StageWorker P)) → AllMovedFor more before after
    → Moved more (length front) (length before) (front ++ before) (front ++ after)
moved_behind {P} more front before after m =
    let moves : StageWorker P → List StageReply = λ w. w.replies.takes.items in
    record {
      desks = same_desks front before after (moved_desks more before after m);
      kept = λ i low. nth_front moves front after i low ∙ sym (nth_front moves front before i low);
      moves = λ i low.
          nth_behind moves front after i ∙ ((moved_at more before after m i low).moves ∙ ap (λ z. z ++ more i) (sym (nth_behind moves front before i)));
      spare = λ i low.
          omega (
            arith,
            ap length (nth_behind moves front after i),
            spare_behind front after i,
            (moved_at more before after m i low).spare,
            ap length (nth_behind moves front before i),
            spare_behind front before i,
          );
    }

pub moved_for : {P : Type 0} (more : ℕ → List StageReply) (posters stages : ℕ) (front before after ws vs : List (StageWorker P)) → ws ≡ front ++ before
    → vs ≡ front ++ after → length front ≡ posters → length before ≡ stages → AllMovedFor more before after → Moved more posters stages ws vs
moved_for more posters stages front before after ws vs a b c d m = rw (a, b, sym c, sym d) (moved_behind more front before after m)
