-- Where few jobs are put, no reply is Positions.
use Rattle.std.proofs.Common.{◌≡◌, ◌≢◌, ℕ, ◌≤◌, ◌<◌, ◌^◌, Bool, true, false, List, [], ◌∷◌, length, Option, Some, refl, ap, subst, arith}
use Rattle.std.specs.List.{AllByRecursion}
use Rattle.orc_history.specs.declared.queue.QueueEntry.{QueueEntry}
use Rattle.orc_history.specs.declared.queue.QueueEntry.TheVariants.{Put, Took, Empty}
use Rattle.orc_history.specs.declared.queue.QueueRefused.{QueueRefused}
use Rattle.orc_history.specs.declared.queue.QueueRefused.TheVariants as queue_refused
use Rattle.orc_history.specs.QueueHistory.{puts_in}
use Rattle.orc_history.proofs.Histories.{puts_in-append}
use Rattle.orc_jobs.specs.declared.line.Line.{Line}
use Rattle.orc_jobs.specs.declared.line.Line.TheVariants as line
use Rattle.orc_board.specs.declared.replies.PostReply.{PostReply}
use Rattle.orc_board.specs.declared.replies.PostWord.{PostWord}
use Rattle.orc_board.specs.declared.replies.PostWord.TheVariants as word
use Rattle.orc_board.specs.Stretches.{View, Row, Share, Licensed, DidAll, of_queue}
use Rattle.orc_board.specs.Table.{PostRow}
use Rattle.orc_history.specs.Lists.{Pairwise}
use Rattle.orc_board.specs.Follows.{PosterRow}
use Rattle.orc_board.proofs.PairLists.{puts_of}
use Rattle.orc_board.proofs.Shares.{DidAll-stretch}

pub puts_counted : (es : List QueueEntry) → puts_in es ≡ length (puts_of es)
puts_counted [] = refl
puts_counted (Put by job at ∷ es) = omega (arith, puts_counted es)
puts_counted (Took by job at ∷ es) = puts_counted es
puts_counted (Empty by ∷ es) = puts_counted es

-- positions run out only after 2 ^ 62 Puts
abbrev pub ManyPuts : {A : Type 0} → View A QueueEntry QueueRefused → Type 0
ManyPuts {A} q = (agent : ℕ) (seen : List A) (from to : ℕ) → q.licence agent queue_refused.Positions seen from to → 2 ^ 62 ≤ puts_in (q.history seen)

abbrev pub NoPlace : Bool → ℕ → Row → Type 0
NoPlace rush puts row = (row.queues rush).refused ≡ Some queue_refused.Positions → 2 ^ 62 ≤ puts

no_place : {A : Type 0} (q : View A QueueEntry QueueRefused) → ManyPuts q → (agent : ℕ) (why : Option QueueRefused) (j k : List A) → Licensed q agent why j k
    → why ≡ Some queue_refused.Positions → 2 ^ 62 ≤ puts_in (q.history k)
no_place {A} q many agent why j k h e =
    let told : Licensed q agent (Some queue_refused.Positions) j k = subst (λ (w : Option QueueRefused). Licensed q agent w j k) e h in
    many agent k told.0 told.1 told.5

pub DidAll-places : {A : Type 0} (q : View A QueueEntry QueueRefused) (rush : Bool) → ManyPuts q
    → (agent : ℕ) (rows : List Row) (j k : List A)
    → DidAll of_queue q agent (λ (row : Row). row.queues rush) rows j k → AllByRecursion (NoPlace rush (puts_in (q.history k))) rows
DidAll-places q rush many agent [] j k c = tt
DidAll-places q rush many agent (row ∷ rows) j k (i, one, c) =
    let rest = DidAll-stretch of_queue q agent (λ (r : Row). r.queues rush) rows i k c in (
      (λ e.
          let here : 2 ^ 62 ≤ puts_in (q.history i) = no_place q many agent (row.queues rush).refused j i one.licence e in
          omega (arith, here, ap puts_in rest.is, puts_in-append (q.history i) rest.part)),
      DidAll-places q rush many agent rows i k c,
    )

-- which queue refused
told_positions : (agent i : ℕ) (l : Line) (row : Row) → PostRow agent i l word.Positions row
    → (rush : Bool) × ((row.queues rush).refused ≡ Some queue_refused.Positions)
told_positions agent i (line.Post id op text) row h = (false, ap (λ (x : Share QueueEntry QueueRefused). x.refused) h.part.0)
told_positions agent i (line.Rush id op text) row h = (true, ap (λ (x : Share QueueEntry QueueRefused). x.refused) h.part.0)
told_positions agent i (line.Drop id) row h = absurd h.part

pub no_positions : (lines : List Line) (poster : ℕ) (puts : Bool → ℕ) → ((rush : Bool) → puts rush < 2 ^ 62) → (rs : List PostReply) (rows : List Row)
    → Pairwise (PosterRow lines poster) rs rows → ((rush : Bool) → AllByRecursion (NoPlace rush (puts rush)) rows)
    → AllByRecursion (λ (r : PostReply). r.what ≢ word.Positions) rs
no_positions lines poster puts few [] rows z h = tt
no_positions lines poster puts few (r ∷ rs) [] z h = absurd z
no_positions lines poster puts few (r ∷ rs) (row ∷ rows) z h = (
  (λ e.
      let table : PostRow poster r.line z.0.line word.Positions row = subst (λ (w : PostWord). PostRow poster r.line z.0.line w row) e z.0.table in
      let told = told_positions poster r.line z.0.line row table in
      let many : 2 ^ 62 ≤ puts told.0 = (h told.0).0 told.1 in
      omega (arith, many, few told.0)),
  no_positions lines poster puts few rs rows z.1 (λ rush. (h rush).1),
)
