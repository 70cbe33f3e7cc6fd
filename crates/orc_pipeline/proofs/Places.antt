-- Where few jobs are put, no position is refused: a job that found no place found no node.
use Rattle.std.proofs.Common.{◌≡◌, ◌≢◌, ℕ, ◌≤◌, ◌<◌, ◌^◌, List, [], ◌∷◌, Option, Some, None, inl, inr, ap, sym, ◌∙◌, subst, arith}
use Rattle.std.specs.List.{AllByRecursion}
use Rattle.orc_history.specs.declared.queue.QueueEntry.{QueueEntry}
use Rattle.orc_history.specs.declared.queue.QueueRefused.{QueueRefused}
use Rattle.orc_history.specs.declared.queue.QueueRefused.TheVariants as queue_refused
use Rattle.orc_history.specs.QueueHistory.{puts_in}
use Rattle.orc_history.proofs.Histories.{puts_in-append}
use Rattle.orc_jobs.specs.declared.line.Line.{Line}
use Rattle.orc_jobs.specs.declared.line.Line.TheVariants as line
use Rattle.orc_board.specs.declared.replies.PostReply.{PostReply}
use Rattle.orc_board.specs.declared.replies.PostWord.{PostWord}
use Rattle.orc_board.specs.declared.replies.PostWord.TheVariants as word
use Rattle.orc_board.specs.Stretches.{View, Stretch, Did, Licensed, of_queue, refusal, nothing}
use Rattle.orc_history.specs.Lists.{Pairwise}
use Rattle.orc_board.proofs.Shares.{DidAll-before}
use Rattle.orc_board.proofs.Positions.{ManyPuts}
use Rattle.orc_stages.specs.declared.replies.StageReply.{StageReply}
use Rattle.orc_stages.specs.Stage.{QueueShare, DidShares, StageRow, tos, PutOf, PostPart, IsPostShare, MoveTable, own_of_shares}
use Rattle.orc_pipeline.specs.Pipeline.{PlacePart, Placing}
use Rattle.orc_stages.proofs.Shares.{self, shares_stretch}

-- a share that isn't refused for want of positions
abbrev pub HasPosition : QueueShare → Type 0
HasPosition share = share.refused ≢ Some queue_refused.Positions

puts_later : {A : Type 0} (y : View A QueueEntry QueueRefused) (agent : ℕ) (own : List QueueEntry) (j k : List A) → Stretch of_queue y agent own j k
    → puts_in (y.history j) ≤ puts_in (y.history k)
puts_later y agent own j k t = omega (arith, ap puts_in t.is, puts_in-append (y.history j) t.part)

no_refusal : {A : Type 0} (y : View A QueueEntry QueueRefused) → ManyPuts y → (agent : ℕ) (why : Option QueueRefused) (j k : List A) → Licensed y agent why j k
    → puts_in (y.history k) < 2 ^ 62 → why ≢ Some queue_refused.Positions
no_refusal {A} y many agent why j k h few e =
    let told : Licensed y agent (Some queue_refused.Positions) j k = subst (λ (w : Option QueueRefused). Licensed y agent w j k) e h in
    let much : 2 ^ 62 ≤ puts_in (y.history k) = many agent k told.0 told.1 told.5 in
    omega (arith, much, few)

pub have_positions : {A : Type 0} (y : View A QueueEntry QueueRefused) → ManyPuts y → (agent : ℕ) (shares : List QueueShare) (j k : List A)
    → DidShares y agent shares j k → puts_in (y.history k) < 2 ^ 62 → AllByRecursion HasPosition shares
have_positions y many agent [] j k c few = tt
have_positions y many agent (share ∷ shares) j k (i, one, c) few =
    let before : puts_in (y.history i) ≤ puts_in (y.history k) = puts_later y agent (own_of_shares shares) i k (shares_stretch y agent shares i k c) in (
      no_refusal y many agent share.refused j i one.licence (omega (arith, before, few)),
      have_positions y many agent shares i k c few,
    )

-- no poster was told so
told_positions : (agent i : ℕ) (l : Line) (share : QueueShare) → PostPart agent i l word.Positions share → share.refused ≡ Some queue_refused.Positions
told_positions agent i (line.Post id op text) share h = ap (λ (x : QueueShare). x.refused) h
told_positions agent i (line.Rush id op text) share h = ap (λ (x : QueueShare). x.refused) h
told_positions agent i (line.Drop id) share h = let n : ⊥ = cc in absurd n

pub no_positions : (lines : List Line) (poster : ℕ) (rs : List PostReply) (shares : List QueueShare) → Pairwise (IsPostShare lines poster) rs shares
    → AllByRecursion HasPosition shares → AllByRecursion (λ (r : PostReply). r.what ≢ word.Positions) rs
no_positions lines poster [] shares t h = tt
no_positions lines poster (r ∷ rs) [] t h = absurd t
no_positions lines poster (r ∷ rs) (share ∷ shares) t h = (
  (λ e. h.0 (told_positions poster r.line t.0.line share (subst (λ (w : PostWord). PostPart poster r.line t.0.line w share) e t.0.part))),
  no_positions lines poster rs shares t.1 h.1,
)

place_part : (agent : ℕ) (l : Line) (stage job : ℕ) (value : Option ℕ) (share : QueueShare) → PutOf agent l stage job value share → HasPosition share
    → PlacePart agent l stage job value share
place_part agent l stage job (Some value) share p has = p
place_part agent l stage job None share (why, is, place) has = elim place as (λ _. share ≡ refusal queue_refused.NoNode) [
  | inl e ↦ is ∙ ap (λ (w : QueueRefused). refusal w) e
  | inr e ↦ absurd (has (ap (λ (x : QueueShare). x.refused) is ∙ ap (λ (w : QueueRefused). Some w) e))
]

no_share : {A : Type 0} (y : View A QueueEntry QueueRefused) (agent : ℕ) (share : QueueShare) (j k : List A) → share ≡ nothing → Did of_queue y agent share j k
    → Stretch of_queue y agent [] j k
no_share y agent share j k e d = subst (λ (x : QueueShare). Stretch of_queue y agent x.own j k) e d.stretch

-- what a stage put, without the jobs that it passed over
pub placing : {A : Type 0} (y : View A QueueEntry QueueRefused) (lines : List Line) (stage agent : ℕ) (rs : List StageReply) (rows : List StageRow) (j k : List A)
    → MoveTable lines stage agent rs rows → DidShares y agent (tos rows) j k → AllByRecursion HasPosition (tos rows)
    → Placing y lines stage agent rs j k
placing y lines stage agent rs [] j k t c h = record { shares = []; table = rw t tt; did = c }
placing y lines stage agent rs (row ∷ rows) j k t (i, one, c) h = elim t as (λ _. Placing y lines stage agent rs j k) [
  | inl skip ↦
      let rest = placing y lines stage agent rs rows i k skip.1 c h.1 in
      record {
        shares = rest.shares;
        table = rest.table;
        did = DidAll-before of_queue y agent self rest.shares j i k (no_share y agent row.to j i skip.0.to one) rest.did;
      }
  | inr w ↦
      let rest = placing y lines stage agent w.1 rows i k w.4 c h.1 in
      subst (λ (z : List StageReply). Placing y lines stage agent z j k) (sym w.2) (record {
        shares = row.to ∷ rest.shares;
        table = (
          record {
            stage_is = w.3.stage_is;
            item = w.3.item;
            part = place_part agent w.3.item.line stage w.0.line w.0.value row.to w.3.to h.0;
          },
          rest.table,
        );
        did = (i, one, rest.did);
      })
]
