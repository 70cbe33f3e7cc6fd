-- Replies follow three journals: the workers' own entries are those that their replies stand for, and there are no others.
use Rattle.std.specs.Prelude.{◌≡◌, ◌≢◌, ℕ, suc, ◌+◌, ◌%◌, ◌<◌, ◌≤◌, List, [], ◌∷◌, ◌++◌, length, map, filter, ◌==◌, Bool, true, cond, Some, None, slice_get}
use Rattle.std.specs.List.{range_with_len, AllByRecursion}
use Rattle.std.proofs.Common.{zero}
use mathlib.Core.List.{Sublist}
use Rattle.orc_history.specs.Lists.{Pairwise}
use Rattle.orc_history.specs.declared.queue.QueueEntry.{QueueEntry}
use Rattle.orc_history.specs.declared.queue.QueueEntry.TheVariants.{Empty, Took}
use Rattle.orc_history.specs.declared.queue.QueueRefused.{QueueRefused}
use Rattle.orc_history.specs.declared.set.SetEntry.{SetEntry}
use Rattle.orc_history.specs.declared.set.ListRefused.{ListRefused}
use Rattle.orc_history.specs.QueueHistory.{agent_of_entry}
use Rattle.orc_history.specs.SetHistory.{agent_of_set_entry}
use Rattle.orc_jobs.specs.declared.line.Line.{Line}
use Rattle.orc_jobs.specs.Line.{jobs_in}
use Rattle.orc_board.specs.declared.replies.PostReply.{PostReply}
use Rattle.orc_board.specs.declared.replies.PostWord.TheVariants as word
use Rattle.orc_board.specs.declared.replies.TakeReply.{TakeReply}
use Rattle.orc_board.specs.Stretches.{View, Row, Works, Replied, beside, all_beside}
use Rattle.orc_board.specs.Table.{PostRow, TakeRow, ClaimRow, TakenRow}

-- journals of the queues in which nothing was done
abbrev pub none : {A : Type 0} → Bool → List A
none rush = []

-- the row is one of this poster's reply to its line
pub record PosterRow (lines : List Line) (poster : ℕ) (r : PostReply) (row : Row) : Type 0 where
  pub poster_is : r.poster ≡ poster
  pub line : Line
  pub is : slice_get lines r.line ≡ Some line
  pub table : PostRow poster r.line line r.what row

-- the row is one of this taker's reply, after the jobs that were passed over for it
pub record TakerRow (lines : List Line) (taker agent : ℕ) (r : TakeReply) (row : Row) : Type 0 where
  pub taker_is : r.taker ≡ taker
  pub table : TakeRow lines agent r.rush r.line r.at r.what row

-- the same where no job was passed over
pub record TookRow (lines : List Line) (taker agent : ℕ) (r : TakeReply) (row : Row) : Type 0 where
  pub taker_is : r.taker ≡ taker
  pub table : ClaimRow lines agent (λ rush. []) r.rush r.line r.at r.what row

-- what a poster did between these journals is what these replies stand for, in their order
pub record Posting {A B : Type 0} (qs : Bool → View A QueueEntry QueueRefused) (s : View B SetEntry ListRefused) (lines : List Line) (poster : ℕ)
    (replies : List PostReply) (j : Bool → List A) (m : List B) (k : Bool → List A) (n : List B) : Type 0 where
  pub rows : List Row
  pub table : Pairwise (PosterRow lines poster) replies rows
  pub works : Works qs s poster rows j m k n

-- what a take with this reply was answered by the rush queue: the job, or that it was empty
abbrev pub rush_answer : ℕ → TakeReply → QueueEntry
rush_answer agent r = cond r.rush (Took agent r.line r.at) (Empty agent)

-- between these journals of the rush queue stand its answers to this agent for each of these replies, in their order; there may be more
pub record AskedRush {A : Type 0} (history : List A → List QueueEntry) (agent : ℕ) (replies : List TakeReply) (j k : List A) : Type 0 where
  pub part : List QueueEntry
  pub is : history k ≡ history j ++ part
  pub answers : Sublist (map (rush_answer agent) replies) part

-- what a taker did between these journals is what these replies stand for, with jobs that it passed over; and it asked the rush queue for each
pub record Taking {A B : Type 0} (qs : Bool → View A QueueEntry QueueRefused) (s : View B SetEntry ListRefused) (lines : List Line) (taker agent : ℕ)
    (replies : List TakeReply) (j : Bool → List A) (m : List B) (k : Bool → List A) (n : List B) : Type 0 where
  pub rows : List Row
  pub table : Pairwise (TakerRow lines taker agent) replies rows
  pub works : Works qs s agent rows j m k n
  pub asked_rush : AskedRush (qs true).history agent replies (j true) (k true)

-- the same, and at last the jobs that it passed over before it found nothing
pub record TakingRest {A B : Type 0} (qs : Bool → View A QueueEntry QueueRefused) (s : View B SetEntry ListRefused) (lines : List Line) (taker agent : ℕ)
    (replies : List TakeReply) (j : Bool → List A) (m : List B) (k : Bool → List A) (n : List B) : Type 0 where
  pub queues : Bool → List A
  pub set : List B
  pub taking : Taking qs s lines taker agent replies j m queues set
  pub last : Replied qs s (TakenRow lines agent None) agent queues set k n

-- what a taker did between these journals is what these replies stand for, in their order; it passed over no job, and asked the rush
-- queue for each
pub record Claiming {A B : Type 0} (qs : Bool → View A QueueEntry QueueRefused) (s : View B SetEntry ListRefused) (lines : List Line) (taker agent : ℕ)
    (replies : List TakeReply) (j : Bool → List A) (m : List B) (k : Bool → List A) (n : List B) : Type 0 where
  pub rows : List Row
  pub table : Pairwise (TookRow lines taker agent) replies rows
  pub works : Works qs s agent rows j m k n
  pub asked_rush : AskedRush (qs true).history agent replies (j true) (k true)

-- the records below n that belong to this poster, in file order: record i belongs to poster 1 + (i mod P)
abbrev pub own_records : ℕ → ℕ → ℕ → List ℕ
own_records posters poster n = filter (λ i. i % posters + 1 == poster) (range_with_len 0 n)

-- the agent of a taker: 0 of taker 0, P + t of taker t
abbrev pub taker_agent : ℕ → ℕ → ℕ
taker_agent posters zero = 0
taker_agent posters (suc t) = posters + suc t

-- the agents of a run
abbrev pub IsWorker : ℕ → ℕ → ℕ → Type 0
IsWorker posters takers agent = agent ≤ posters + takers

-- the items with key 0, then those with key 1 and so on, of the keys below n
abbrev pub grouped_by_key : {X : Type 0} → (X → ℕ) → ℕ → List X → List X
grouped_by_key key zero xs = []
grouped_by_key key (suc n) xs = grouped_by_key key n xs ++ filter (λ x. key x == n) xs

-- the replies of this poster, and of this taker, in their order
abbrev pub posts_of : ℕ → List PostReply → List PostReply
posts_of poster posts = filter (λ (r : PostReply). r.poster == poster) posts

abbrev pub takes_of : ℕ → List TakeReply → List TakeReply
takes_of taker takes = filter (λ (r : TakeReply). r.taker == taker) takes

-- the replies of posters 1 to P, of each one for each of its records in file order; then those of takers 0 to T
pub record AreInOrder (lines : List Line) (posters takers : ℕ) (posts : List PostReply) (takes : List TakeReply) : Type 0 where
  pub by_poster : posts ≡ grouped_by_key (λ (r : PostReply). r.poster) (suc posters) posts
  pub none_of_zero : AllByRecursion (λ (r : PostReply). 1 ≤ r.poster) posts
  pub in_file_order : (p : ℕ) → 1 ≤ p → p ≤ posters → map (λ (r : PostReply). r.line) (posts_of p posts) ≡ own_records posters p (length lines)
  pub by_taker : takes ≡ grouped_by_key (λ (r : TakeReply). r.taker) (suc takers) takes

-- all entries of agent 0 stand after all entries of others
pub record ZeroLast {E : Type 0} (agent_of : E → ℕ) (history : List E) : Type 0 where
  pub front : List E
  pub back : List E
  pub is : history ≡ front ++ back
  pub others : AllByRecursion (λ e. agent_of e ≢ 0) front
  pub zeros : AllByRecursion (λ e. agent_of e ≡ 0) back

-- the last entry of this agent is an Empty
pub record LastIsEmpty (agent : ℕ) (history : List QueueEntry) : Type 0 where
  pub front : List QueueEntry
  pub back : List QueueEntry
  pub is : history ≡ front ++ Empty agent ∷ back
  pub others : AllByRecursion (λ e. agent_of_entry e ≢ agent) back

-- each worker did what its replies stand for, beside no agent but the workers; agent 0 comes last; and a taker from 1 on that has
-- fewer replies than there are Posts and Rushes found each queue empty after its last Took there
pub record WorkersFollow {A B : Type 0} (qs : Bool → View A QueueEntry QueueRefused) (s : View B SetEntry ListRefused) (lines : List Line) (posters takers : ℕ)
    (posts : List PostReply) (takes : List TakeReply) (k : Bool → List A) (n : List B) : Type 0 where
  pub posting : (p : ℕ) → 1 ≤ p → p ≤ posters
      → Posting (all_beside qs (IsWorker posters takers)) (beside s (IsWorker posters takers)) lines p (posts_of p posts) none [] k n
  pub claiming : (t : ℕ) → t ≤ takers
      → Claiming (all_beside qs (IsWorker posters takers)) (beside s (IsWorker posters takers)) lines t (taker_agent posters t) (takes_of t takes) none [] k n
  pub order : AreInOrder lines posters takers posts takes
  pub queues_zero_last : (rush : Bool) → ZeroLast agent_of_entry ((qs rush).history (k rush))
  pub set_zero_last : ZeroLast agent_of_set_entry (s.history n)
  pub found_empty : (t : ℕ) → 1 ≤ t → t ≤ takers → length (takes_of t takes) < jobs_in lines
      → (rush : Bool) → LastIsEmpty (posters + t) ((qs rush).history (k rush))

-- the replies follow the three journals, and no position ran out
pub record Follows {A B : Type 0} (qs : Bool → View A QueueEntry QueueRefused) (s : View B SetEntry ListRefused) (lines : List Line) (posters takers : ℕ)
    (posts : List PostReply) (takes : List TakeReply) (k : Bool → List A) (n : List B) : Type 0 where
  pub workers : WorkersFollow qs s lines posters takers posts takes k n
  pub no_positions : AllByRecursion (λ (r : PostReply). r.what ≢ word.Positions) posts
