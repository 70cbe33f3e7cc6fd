-- What the replies of posters and stages say of the jobs that were put and taken.
use Rattle.std.proofs.Common.{◌≡◌, ℕ, ◌≤◌, arith, List, [], ◌∷◌, ◌++◌, length, length-append, Bool, true, false, cond, inl, inr, Option, Some, None, refl, ap, sym, ◌∙◌, subst, append_assoc, slice_get}
use Rattle.std.specs.List.{AllByRecursion}
use Rattle.orc_history.specs.declared.queue.QueueEntry.{QueueEntry}
use Rattle.orc_jobs.specs.declared.line.Line.{Line}
use Rattle.orc_jobs.specs.declared.line.Line.TheVariants as line
use Rattle.orc_board.specs.declared.replies.PostReply.{PostReply}
use Rattle.orc_board.specs.declared.replies.PostWord.{PostWord}
use Rattle.orc_board.specs.declared.replies.PostWord.TheVariants as word
use Rattle.orc_history.specs.Lists.{Pairwise}
use Rattle.orc_board.proofs.ListFacts.{AllByRecursion-append}
use Rattle.orc_stages.specs.declared.replies.StageReply.{StageReply}
use Rattle.orc_stages.specs.Stage.{QueueShare, StageRow, froms, tos, IsItem, ItemPart, PostPart, IsPostShare, PutOf, MoveTable, jobs_of, own_of_shares}
use Rattle.orc_pipeline.specs.Pipeline.{kept_replies, kept_one, lines_of}
use Rattle.orc_stages.proofs.Shares.{jobs_of-append}

-- what a row puts
put_jobs : (agent : ℕ) (l : Line) (stage job : ℕ) (value : Option ℕ) (to : QueueShare) → PutOf agent l stage job value to → (b : Bool)
    → jobs_of b to.own ≡ cond b (kept_one job value) []
put_jobs agent l stage job None to p true = rw p.1 refl
put_jobs agent l stage job None to p false = rw p.1 refl
put_jobs agent l stage job (Some value) to p true = rw p.1 refl
put_jobs agent l stage job (Some value) to p false = rw p.1 refl

-- of a table the Puts are those of the replies that found a place, and there are no Tooks
pub to_jobs : (lines : List Line) (stage agent : ℕ) (rs : List StageReply) (rows : List StageRow) → MoveTable lines stage agent rs rows → (b : Bool)
    → jobs_of b (own_of_shares (tos rows)) ≡ cond b (kept_replies rs) []
to_jobs lines stage agent rs [] t true = sym (ap kept_replies t)
to_jobs lines stage agent rs [] t false = refl
to_jobs lines stage agent rs (row ∷ rows) t b = elim t as (λ _. jobs_of b (own_of_shares (tos (row ∷ rows))) ≡ cond b (kept_replies rs) []) [
  | inl skip ↦ rw skip.0.to (to_jobs lines stage agent rs rows skip.1 b)
  | inr one ↦
      let here = put_jobs agent one.3.item.line stage one.0.line one.0.value row.to one.3.to in
      let more = to_jobs lines stage agent one.1 rows one.4 in
      let both : (c : Bool) → cond c (kept_one one.0.line one.0.value) [] ++ cond c (kept_replies one.1) [] ≡ cond c (kept_replies rs) [] =
      elim [ true ↦ sym (ap kept_replies one.2) | false ↦ refl ] in
      jobs_of-append b row.to.own (own_of_shares (tos rows))
      ∙ (ap (λ z. z ++ jobs_of b (own_of_shares (tos rows))) (here b)
      ∙ (ap (λ z. cond b (kept_one one.0.line one.0.value) [] ++ z) (more b) ∙ both b))
]

-- and where all taken jobs are numbers of lines that post one, the Tooks are those of the replies
pub from_jobs : (lines : List Line) (stage agent : ℕ) (rs : List StageReply) (rows : List StageRow) → MoveTable lines stage agent rs rows
    → AllByRecursion (IsItem lines) (jobs_of false (own_of_shares (froms rows))) → jobs_of false (own_of_shares (froms rows)) ≡ lines_of rs
from_jobs lines stage agent rs [] t items = sym (ap lines_of t)
from_jobs lines stage agent rs (row ∷ rows) t items =
    elim t as (λ _. jobs_of false (own_of_shares (froms (row ∷ rows))) ≡ lines_of rs) [
      | inl skip ↦
          let bad : AllByRecursion (IsItem lines) (skip.0.job ∷ jobs_of false (own_of_shares (froms rows))) =
          subst (λ (x : QueueShare). AllByRecursion (IsItem lines) (jobs_of false (x.own ++ own_of_shares (froms rows)))) skip.0.from items in
          absurd (skip.0.no_item.none bad.0.line bad.0.is bad.0.posts)
      | inr one ↦
          let here : AllByRecursion (IsItem lines) (one.0.line ∷ jobs_of false (own_of_shares (froms rows))) =
          subst (λ (x : QueueShare). AllByRecursion (IsItem lines) (jobs_of false (x.own ++ own_of_shares (froms rows)))) one.3.from items in
          rw one.3.from (ap (λ z. one.0.line ∷ z) (from_jobs lines stage agent one.1 rows one.4 here.1) ∙ sym (ap lines_of one.2))
    ]

-- a stage puts nothing into the queue that it takes from
pub from_puts : (lines : List Line) (stage agent : ℕ) (rs : List StageReply) (rows : List StageRow) → MoveTable lines stage agent rs rows
    → jobs_of true (own_of_shares (froms rows)) ≡ []
from_puts lines stage agent rs [] t = refl
from_puts lines stage agent rs (row ∷ rows) t = elim t as (λ _. jobs_of true (own_of_shares (froms (row ∷ rows))) ≡ []) [
  | inl skip ↦ rw skip.0.from (from_puts lines stage agent rs rows skip.1)
  | inr one ↦ rw one.3.from (from_puts lines stage agent one.1 rows one.4)
]

kept_cons : (lines : List Line) (job : ℕ) (value : Option ℕ) (rest : List ℕ) → IsItem lines job → AllByRecursion (IsItem lines) rest
    → AllByRecursion (IsItem lines) (kept_one job value ++ rest)
kept_cons lines job None rest item h = h
kept_cons lines job (Some value) rest item h = (item, h)

-- what a stage put are items
pub kept_items : (lines : List Line) (stage agent : ℕ) (rs : List StageReply) (rows : List StageRow) → MoveTable lines stage agent rs rows
    → AllByRecursion (IsItem lines) (kept_replies rs)
kept_items lines stage agent rs [] t = rw t tt
kept_items lines stage agent rs (row ∷ rows) t = elim t as (λ _. AllByRecursion (IsItem lines) (kept_replies rs)) [
  | inl skip ↦ kept_items lines stage agent rs rows skip.1
  | inr one ↦
      subst (λ (z : List StageReply). AllByRecursion (IsItem lines) (kept_replies z)) (sym one.2)
      (kept_cons lines one.0.line one.0.value (kept_replies one.1) one.3.item (kept_items lines stage agent one.1 rows one.4))
]

pub kept-append : (xs ys : List StageReply) → kept_replies (xs ++ ys) ≡ kept_replies xs ++ kept_replies ys
kept-append [] ys = refl
kept-append (r ∷ xs) ys = ap (λ z. kept_one r.line r.value ++ z) (kept-append xs ys) ∙ sym (append_assoc (kept_one r.line r.value) (kept_replies xs) (kept_replies ys))

kept_one_few : (job : ℕ) (value : Option ℕ) → length (kept_one job value) ≤ 1
kept_one_few job None = omega arith
kept_one_few job (Some value) = omega arith

pub kept_few : (rs : List StageReply) → length (kept_replies rs) ≤ length rs
kept_few [] = omega arith
kept_few (r ∷ rs) = omega (arith, kept_few rs, kept_one_few r.line r.value, length-append (kept_one r.line r.value) (kept_replies rs))

-- what the share of a poster's reply says
pub record PostSays (lines : List Line) (job : ℕ) (own : List QueueEntry) : Type 0 where
  pub no_tooks : jobs_of false own ≡ []
  pub items : AllByRecursion (IsItem lines) (jobs_of true own)
  pub few : length (jobs_of true own) ≤ 1

item_says : (lines : List Line) (agent job : ℕ) (w : PostWord) (share : QueueShare) → IsItem lines job → ItemPart agent job w share
    → PostSays lines job share.own
item_says lines agent job (word.Posted at) share item h = rw h (record { no_tooks = refl; items = (item, tt); few = omega arith })
item_says lines agent job (word.Rushed at) share item h = absurd h
item_says lines agent job word.Busy share item h = absurd h
item_says lines agent job word.NoNode share item h = rw h (record { no_tooks = refl; items = tt; few = omega arith })
item_says lines agent job word.Positions share item h = rw h (record { no_tooks = refl; items = tt; few = omega arith })
item_says lines agent job word.Spent share item h = absurd h
item_says lines agent job word.Dropped share item h = absurd h
item_says lines agent job word.Unknown share item h = absurd h
item_says lines agent job word.Skipped share item h = absurd h

post_says : (lines : List Line) (agent job : ℕ) (l : Line) (w : PostWord) (share : QueueShare) → slice_get lines job ≡ Some l → PostPart agent job l w share
    → PostSays lines job share.own
post_says lines agent job (line.Post id op text) w share is h =
    item_says lines agent job w share (record { line = line.Post id op text; is = is; posts = tt }) h
post_says lines agent job (line.Rush id op text) w share is h =
    item_says lines agent job w share (record { line = line.Rush id op text; is = is; posts = tt }) h
post_says lines agent job (line.Drop id) w share is h = rw h.1 (record { no_tooks = refl; items = tt; few = omega arith })

-- what the shares of all replies of a poster say
pub record PostsSay (lines : List Line) (replies : ℕ) (own : List QueueEntry) : Type 0 where
  pub no_tooks : jobs_of false own ≡ []
  pub items : AllByRecursion (IsItem lines) (jobs_of true own)
  pub few : length (jobs_of true own) ≤ replies

pub posts_say : (lines : List Line) (poster : ℕ) (rs : List PostReply) (shares : List QueueShare) → Pairwise (IsPostShare lines poster) rs shares
    → PostsSay lines (length rs) (own_of_shares shares)
posts_say lines poster [] [] h = record { no_tooks = refl; items = tt; few = omega arith }
posts_say lines poster [] (s ∷ shares) h = absurd h
posts_say lines poster (r ∷ rs) [] h = absurd h
posts_say lines poster (r ∷ rs) (s ∷ shares) h =
    let one = post_says lines poster r.line h.0.line r.what s h.0.is h.0.part in
    let rest = posts_say lines poster rs shares h.1 in
    record {
      no_tooks = jobs_of-append false s.own (own_of_shares shares) ∙ (ap (λ z. z ++ jobs_of false (own_of_shares shares)) one.no_tooks ∙ rest.no_tooks);
      items = subst (AllByRecursion (IsItem lines)) (sym (jobs_of-append true s.own (own_of_shares shares)))
          (AllByRecursion-append (IsItem lines) (jobs_of true s.own) (jobs_of true (own_of_shares shares)) one.items rest.items);
      few = omega (
        arith,
        one.few,
        rest.few,
        ap length (jobs_of-append true s.own (own_of_shares shares)),
        length-append (jobs_of true s.own) (jobs_of true (own_of_shares shares)),
      );
    }
