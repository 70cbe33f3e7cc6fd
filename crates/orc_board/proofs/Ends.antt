-- Whose the replies of a poster's rows are, and what an Empty at the end of a legal history tells.
use Rattle.std.proofs.Common.{◌≡◌, ℕ, ◌+◌, List, [], ◌∷◌, ◌++◌}
use Rattle.std.specs.List.{AllByRecursion}
use Rattle.orc_history.specs.declared.queue.QueueEntry.{QueueEntry}
use Rattle.orc_history.specs.declared.queue.QueueEntry.TheVariants.{Put, Took, Empty}
use Rattle.orc_history.specs.QueueHistory.{IsLegalFrom, waiting_after}
use Rattle.orc_jobs.specs.declared.line.Line.{Line}
use Rattle.orc_board.specs.declared.replies.PostReply.{PostReply}
use Rattle.orc_board.specs.Stretches.{Row}
use Rattle.orc_history.specs.Lists.{Pairwise}
use Rattle.orc_board.specs.Follows.{PosterRow}

pub posters_of : (lines : List Line) (poster : ℕ) (rs : List PostReply) (rows : List Row) → Pairwise (PosterRow lines poster) rs rows
    → AllByRecursion (λ (r : PostReply). r.poster ≡ poster) rs
posters_of lines poster [] rows z = tt
posters_of lines poster (r ∷ rs) [] z = absurd z
posters_of lines poster (r ∷ rs) (row ∷ rows) z = (z.0.poster_is, posters_of lines poster rs rows z.1)

-- where a legal history ends in an Empty, nothing waits
pub empty_at : (n : ℕ) (w : List (ℕ × ℕ)) (agent : ℕ) (es : List QueueEntry) → IsLegalFrom n w (es ++ Empty agent ∷ [])
    → waiting_after w (es ++ Empty agent ∷ []) ≡ []
empty_at n w agent [] legal = legal.0
empty_at n w agent (Put by job at ∷ es) legal = empty_at (n + 1) (w ++ (job, at) ∷ []) agent es legal.1
empty_at n w agent (Took by job at ∷ es) (rest, is, legal) = rw is (empty_at n rest agent es legal)
empty_at n w agent (Empty by ∷ es) legal = empty_at n w agent es legal.1
