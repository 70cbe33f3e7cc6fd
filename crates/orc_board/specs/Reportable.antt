-- What the report asks of replies.
use Rattle.std.specs.Prelude.{ℕ, List, [], ◌∷◌, ◌++◌, length, map, filter, Bool, true, false, not, ◌==◌}
use Rattle.std.specs.List.{range_with_len, IsDistinct, AllByRecursion}
use Rattle.std.specs.List.Sorted.{IsPermutation}
use Rattle.orc_jobs.specs.declared.line.Line.{Line}
use Rattle.orc_board.specs.declared.replies.PostReply.{PostReply}
use Rattle.orc_board.specs.declared.replies.PostWord.{PostWord}
use Rattle.orc_board.specs.declared.replies.PostWord.TheVariants as word
use Rattle.orc_board.specs.declared.replies.TakeReply.{TakeReply}
use Rattle.orc_board.specs.Table.{IsJob, HasValue}

-- the line and the position, where line i was posted, or rushed
abbrev pub posted_by : Bool → ℕ → PostWord → List (ℕ × ℕ)
posted_by false i (word.Posted at) = (i, at) ∷ []
posted_by true i (word.Rushed at) = (i, at) ∷ []
posted_by rush i what = []

-- the lines that were posted, or rushed, with their positions
abbrev pub posted_of : Bool → List PostReply → List (ℕ × ℕ)
posted_of rush [] = []
posted_of rush (r ∷ rs) = posted_by rush r.line r.what ++ posted_of rush rs

-- the line that a take reply claims, with its position
abbrev pub claim_of : TakeReply → ℕ × ℕ
claim_of r = (r.line, r.at)

-- the takes with rush, or without
abbrev pub is_side : Bool → Bool → Bool
is_side false b = not b
is_side true b = b

abbrev pub takes_with : Bool → List TakeReply → List TakeReply
takes_with rush takes = filter (λ (r : TakeReply). is_side rush r.rush) takes

-- the claimed line posts a job on the queue that gave it, and a Done has its value
pub record IsClaim (lines : List Line) (r : TakeReply) : Type 0 where
  pub id : ℕ
  pub job : IsJob lines r.rush r.line id
  pub value : HasValue lines r.line r.what

-- what is asked of each queue
pub record AreReportableOf (rush : Bool) (posts : List PostReply) (takes : List TakeReply) : Type 0 where
  -- the positions of the replies that tell one are 0 to n - 1, each once
  pub positions : IsPermutation (range_with_len 0 (length (posted_of rush posts))) (map (λ (x : ℕ × ℕ). x.1) (posted_of rush posts))
  -- these replies are on different lines
  pub different : IsDistinct (λ x y. x == y) (map (λ (x : ℕ × ℕ). x.0) (posted_of rush posts))
  -- each of these positions stands in exactly one take reply of that queue, with the line of the reply that tells it, and there is no other
  pub claims : IsPermutation (posted_of rush posts) (map claim_of (takes_with rush takes))

-- the same of both, and each take is a claim of a line
pub record AreReportable (lines : List Line) (posts : List PostReply) (takes : List TakeReply) : Type 0 where
  pub queues : (rush : Bool) → AreReportableOf rush posts takes
  pub claimed : AllByRecursion (IsClaim lines) takes
