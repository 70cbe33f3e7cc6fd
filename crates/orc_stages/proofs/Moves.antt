-- What a stage does grows reply by reply.
use Rattle.std.proofs.Common.{◌≡◌, ℕ, List, [], ◌∷◌, ◌++◌, Option, Some, None, inl, inr, refl, ap, sym, ◌∙◌, subst, append-nil, slice_get}
use Rattle.std.proofs.lemmas.List.{map-append}
use Rattle.orc_history.specs.declared.queue.QueueEntry.{QueueEntry}
use Rattle.orc_history.specs.declared.queue.QueueEntry.TheVariants.{Put, Took, Empty}
use Rattle.orc_history.specs.declared.queue.QueueRefused.{QueueRefused}
use Rattle.orc_history.specs.declared.queue.QueueRefused.TheVariants as queue_refused
use Rattle.orc_history.specs.QueueHistory.{entry_of_dequeue}
use Rattle.orc_jobs.specs.declared.line.Line.{Line}
use Rattle.orc_board.specs.Stretches.{View, Stretch, of_queue, just, nothing}
use Rattle.orc_board.specs.Table.{EndsWith, took_of}
use Rattle.orc_board.proofs.Shares.{Did-just, Did-nothing}
use Rattle.orc_stages.specs.declared.replies.StageReply.{StageReply}
use Rattle.orc_stages.specs.Stage.{QueueShare, DidShares, StageRow, froms, tos, IsItem, IsNoItem, IsStageValue, IsNoPlace, PutInto, MoveTable, Moving}
use Rattle.orc_stages.proofs.Shares.{shares_append, shares_none, shares_one, shares_last, took_now, took_none}

table_append : (lines : List Line) (stage agent : ℕ) (rs ss : List StageReply) (rows more : List StageRow)
    → MoveTable lines stage agent rs rows → MoveTable lines stage agent ss more → MoveTable lines stage agent (rs ++ ss) (rows ++ more)
table_append lines stage agent rs ss [] more t u = rw t u
table_append lines stage agent rs ss (row ∷ rows) more t u = elim t as (λ _. MoveTable lines stage agent (rs ++ ss) ((row ∷ rows) ++ more)) [
  | inl skip ↦ inl (skip.0, table_append lines stage agent rs ss rows more skip.1 u)
  | inr one ↦
      inr (one.0, one.1 ++ ss, ap (λ (z : List StageReply). z ++ ss) one.2, one.3, table_append lines stage agent one.1 ss rows more one.4 u)
]

pub moving_none : {A : Type 0} (x y : View A QueueEntry QueueRefused) (lines : List Line) (stage agent : ℕ) (replies : List StageReply) (j m : List A)
    → replies ≡ [] → Moving x y lines stage agent replies j m j m
moving_none x y lines stage agent replies j m e =
    record { rows = []; table = e; from = shares_none x agent j; to = shares_none y agent m }

pub moving_append : {A : Type 0} (x y : View A QueueEntry QueueRefused) (lines : List Line) (stage agent now : ℕ) (rs ss : List StageReply)
    (j m k n k2 n2 : List A)
    → Moving x y lines stage agent rs j m k n → now ≡ agent → Moving x y lines stage now ss k n k2 n2 → Moving x y lines stage agent (rs ++ ss) j m k2 n2
moving_append x y lines stage agent now rs ss j m k n k2 n2 a e b0 =
    let b : Moving x y lines stage agent ss k n k2 n2 = subst (λ (z : ℕ). Moving x y lines stage z ss k n k2 n2) e b0 in
    record {
      rows = a.rows ++ b.rows;
      table = table_append lines stage agent rs ss a.rows b.rows a.table b.table;
      from = subst (λ (z : List QueueShare). DidShares x agent z j k2) (sym (map-append (λ (row : StageRow). row.from) a.rows b.rows))
          (shares_append x agent (froms a.rows) (froms b.rows) j k k2 a.from b.from);
      to = subst (λ (z : List QueueShare). DidShares y agent z m n2) (sym (map-append (λ (row : StageRow). row.to) a.rows b.rows))
          (shares_append y agent (tos a.rows) (tos b.rows) m n n2 a.to b.to);
    }

-- a job that was passed over
pub moving_skip : {A : Type 0} (x y : View A QueueEntry QueueRefused) (lines : List Line) (stage agent job at now : ℕ) (got : Option (ℕ × ℕ))
    (j m k n k2 : List A)
    → Moving x y lines stage agent [] j m k n → now ≡ agent → got ≡ Some (job, at) → Stretch of_queue x now (took_of now got) k k2 → IsNoItem lines job
    → Moving x y lines stage agent [] j m k2 n
moving_skip x y lines stage agent job at now got j m k n k2 a e is took none =
    let row : StageRow = record { from = just (Took agent job at ∷ []); to = nothing } in
    moving_append x y lines stage agent agent [] [] j m k n k2 n a refl (record {
      rows = row ∷ [];
      table = inl (record { job = job; at = at; no_item = none; from = refl; to = refl }, refl);
      from = shares_one x agent row.from k k2 (took_now x agent job at now got k k2 e is took);
      to = shares_one y agent row.to n n (Did-nothing of_queue y agent n);
    })

-- nothing more was found
pub moving_end : {A : Type 0} (x y : View A QueueEntry QueueRefused) (lines : List Line) (stage agent now : ℕ) (got : Option (ℕ × ℕ)) (j m k n k2 : List A)
    → Moving x y lines stage agent [] j m k n → now ≡ agent → got ≡ None → Stretch of_queue x now (took_of now got) k k2
    → Moving x y lines stage agent [] j m k2 n
moving_end x y lines stage agent now got j m k n k2 a e is took =
    record { rows = a.rows; table = a.table; from = took_none x agent now got (froms a.rows) j k k2 a.from e is took; to = a.to }

-- what comes last stays last where the moving began earlier
pub moving_last : {A : Type 0} (x y : View A QueueEntry QueueRefused) (lines : List Line) (stage agent now : ℕ) (rs : List StageReply) (j m k n k2 : List A)
    → Moving x y lines stage agent rs j m k n → now ≡ agent → EndsWith x now (Empty now) k k2 → EndsWith x agent (Empty agent) j k2
moving_last x y lines stage agent now rs j m k n k2 a e ends = shares_last x agent now (froms a.rows) j k k2 a.from e ends

-- a refusal that isn't for want of turns
pub no_place : (why : QueueRefused) → (why ≡ queue_refused.Again → ⊥) → IsNoPlace why
no_place queue_refused.Again other = absurd (other refl)
no_place queue_refused.NoNode other = inl refl
no_place queue_refused.Positions other = inr refl

-- the reply to a job that was taken and put
pub moving_item : {A : Type 0} (x y : View A QueueEntry QueueRefused) (lines : List Line) (stage agent job at qa pa : ℕ) (got : Option (ℕ × ℕ))
    (r : StageReply) (j m k n k2 n2 : List A)
    → Moving x y lines stage agent [] j m k n → qa ≡ agent → pa ≡ agent → got ≡ Some (job, at) → Stretch of_queue x qa (took_of qa got) k k2
    → PutInto y lines stage pa job r.value n n2 → r.stage ≡ stage → r.line ≡ job
    → Moving x y lines stage agent (r ∷ []) j m k2 n2
moving_item x y lines stage agent job at qa pa got r j m k n k2 n2 a e f is took put0 stage_is line_is =
    let put : PutInto y lines stage agent r.line r.value n n2 =
    subst (λ (z : ℕ). PutInto y lines stage agent z r.value n n2) (sym line_is) (subst (λ (z : ℕ). PutInto y lines stage z job r.value n n2) f put0) in
    let found : got ≡ Some (r.line, at) = is ∙ ap (λ (z : ℕ). Some (z, at)) (sym line_is) in
    let row : StageRow = record { from = just (Took agent r.line at ∷ []); to = put.to } in
    moving_append x y lines stage agent agent [] (r ∷ []) j m k n k2 n2 a refl (record {
      rows = row ∷ [];
      table = inr (r, [], refl, record { stage_is = stage_is; item = put.item; at = at; from = refl; to = put.put }, refl);
      from = shares_one x agent row.from k k2 (took_now x agent r.line at qa got k k2 e found took);
      to = shares_one y agent row.to n n2 put.did;
    })

-- no reply more
pub moving_more : {A : Type 0} (x y : View A QueueEntry QueueRefused) (lines : List Line) (stage agent now : ℕ) (rs : List StageReply)
    (j m k n k2 n2 : List A)
    → Moving x y lines stage agent rs j m k n → now ≡ agent → Moving x y lines stage now [] k n k2 n2 → Moving x y lines stage agent rs j m k2 n2
moving_more x y lines stage agent now rs j m k n k2 n2 a e b =
    subst (λ (z : List StageReply). Moving x y lines stage agent z j m k2 n2) (append-nil rs)
    (moving_append x y lines stage agent now rs [] j m k n k2 n2 a e b)

-- the queue was found empty
pub moving_found_none : {A : Type 0} (x y : View A QueueEntry QueueRefused) (lines : List Line) (stage agent now : ℕ) (rs : List StageReply)
    (got : Option (ℕ × ℕ)) (j m k n k2 : List A)
    → Moving x y lines stage agent rs j m k n → now ≡ agent → got ≡ None → EndsWith x now (entry_of_dequeue now got) k k2
    → EndsWith x agent (Empty agent) j k2
moving_found_none x y lines stage agent now rs got j m k n k2 a e is ends =
    moving_last x y lines stage agent now rs j m k n k2 a e (subst (λ (o : Option (ℕ × ℕ)). EndsWith x now (entry_of_dequeue now o) k k2) is ends)

same_line : (o : Option Line) (a b : Line) → o ≡ Some a → o ≡ Some b → a ≡ b
same_line o a b p q = cc

-- a job that was put, with the value of its line
pub put_done : {A : Type 0} (y : View A QueueEntry QueueRefused) (lines : List Line) (stage agent job at value : ℕ) (l : Line) (m n : List A)
    → IsItem lines job → slice_get lines job ≡ Some l → IsStageValue l stage value → Stretch of_queue y agent (Put agent job at ∷ []) m n
    → PutInto y lines stage agent job (Some value) m n
put_done y lines stage agent job at value l m n item is worth put = record {
  item = item;
  to = just (Put agent job at ∷ []);
  put = (at, refl, subst (λ (z : Line). IsStageValue z stage value) (same_line (slice_get lines job) l item.line is item.is) worth);
  did = Did-just of_queue y agent (Put agent job at ∷ []) m n put;
}
