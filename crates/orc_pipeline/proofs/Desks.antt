-- What posters and stages do at desks.
use Rattle.std.proofs.Common.{◌≡◌, ◌≢◌, ℕ, zero, suc, arith, ◌+◌, ◌<◌, ◌≤◌, length, map, List, [], ◌∷◌, refl, ap, subst}
use Rattle.orc_history.specs.declared.queue.QueueEntry.TheVariants.{Empty}
use Rattle.orc_history.specs.declared.queue.SharedQueue.{Ghosts as QueueOf}
use Rattle.orc_jobs.specs.declared.line.Line.{Line}
use Rattle.orc_jobs.specs.Line.{jobs_in}
use Rattle.orc_board.specs.declared.replies.PostReply.{PostReply}
use Rattle.orc_board.specs.Stretches.{queue_view}
use Rattle.orc_board.specs.Table.{EndsWith}
use Rattle.orc_board.specs.Follows.{LastIsEmpty, own_records}
use Rattle.orc_workers.proofs.Resting.{ends_last}
use Rattle.orc_stages.specs.declared.replies.StageReply.{StageReply}
use Rattle.orc_stages.specs.Stage.{QueueShare, DidShares, Posting, Moving, froms, tos}
use Rattle.orc_stages.specs.Desks.{view_at, seen_at}
use Rattle.orc_pipeline.specs.Desks.{StageActs, PosterDid, StageDid}
use Rattle.orc_pipeline.specs.Team.{ToldByReplies}
use Rattle.orc_stages.proofs.{Lists.{ahead, nowhere}, Shares.{shares_none}}

first_acted : {Q P A : Type 0} (q : QueueOf Q P A) (queue : Q) (queues : List Q) (agent : ℕ) (p p2 : P) (ps : List P) (shares : List QueueShare)
    → DidShares (queue_view q queue) agent shares (q.journal p) (q.journal p2) → (i : ℕ)
    → DidShares (view_at q (queue ∷ queues) i) agent (ahead shares nowhere i) (seen_at q (p ∷ ps) i) (seen_at q (p2 ∷ ps) i)
first_acted q queue queues agent p p2 ps shares c zero = c
first_acted q queue queues agent p p2 ps shares c (suc i) = shares_none (view_at q queues i) agent (seen_at q ps i)

none_behind : (shares : List QueueShare) (i : ℕ) → i ≢ 0 → ahead shares nowhere i ≡ []
none_behind shares zero other = absurd (other refl)
none_behind shares (suc i) other = refl

pub poster_did : {Q P A : Type 0} (q : QueueOf Q P A) (queue : Q) (queues all : List Q) (lines : List Line) (posters agent : ℕ) (p p2 : P) (ps old : List P)
    (posts : List PostReply)
    → all ≡ queue ∷ queues → old ≡ p ∷ ps → Posting (queue_view q queue) lines agent posts (q.journal p) (q.journal p2)
    → map (λ (r : PostReply). r.line) posts ≡ own_records posters agent (length lines)
    → PosterDid q all lines posters agent old (p2 ∷ ps) posts
poster_did q queue queues all lines posters agent p p2 ps old posts a b d order = rw (a, b) (record {
  acts = ahead d.shares nowhere;
  acted = first_acted q queue queues agent p p2 ps d.shares d.did;
  wrote = record { table = d.table; others = none_behind d.shares; in_file_order = order };
})

two_acted : {Q P A : Type 0} (q : QueueOf Q P A) (queue next : Q) (queues : List Q) (agent : ℕ) (p r p2 r2 : P) (ps : List P) (from to : List QueueShare)
    → DidShares (queue_view q queue) agent from (q.journal p) (q.journal p2) → DidShares (queue_view q next) agent to (q.journal r) (q.journal r2) → (i : ℕ)
    → DidShares (view_at q (queue ∷ next ∷ queues) i) agent (ahead from (ahead to nowhere) i) (seen_at q (p ∷ r ∷ ps) i) (seen_at q (p2 ∷ r2 ∷ ps) i)
two_acted q queue next queues agent p r p2 r2 ps from to c d zero = c
two_acted q queue next queues agent p r p2 r2 ps from to c d (suc zero) = d
two_acted q queue next queues agent p r p2 r2 ps from to c d (suc (suc i)) = shares_none (view_at q queues i) agent (seen_at q ps i)

none_but_two : (from to : List QueueShare) (i : ℕ) → i ≢ 0 → i ≢ 1 → ahead from (ahead to nowhere) i ≡ []
none_but_two from to zero a b = absurd (a refl)
none_but_two from to (suc zero) a b = absurd (b refl)
none_but_two from to (suc (suc i)) a b = refl

-- between the first two queues
pub stage_first : {Q P A : Type 0} (q : QueueOf Q P A) (queue next : Q) (queues more : List Q) (lines : List Line) (stage agent now : ℕ) (p r p2 r2 : P)
    (ps old : List P) (moves : List StageReply)
    → more ≡ next ∷ queues → old ≡ r ∷ ps → now ≡ agent
    → Moving (queue_view q queue) (queue_view q next) lines stage now moves (q.journal p) (q.journal r) (q.journal p2) (q.journal r2)
    → length moves ≤ jobs_in lines
    → (length moves < jobs_in lines → EndsWith (queue_view q queue) now (Empty now) (q.journal p) (q.journal p2))
    → StageDid q (queue ∷ more) lines 0 stage agent (p ∷ old) (p2 ∷ r2 ∷ ps) moves
stage_first q queue next queues more lines stage agent now p r p2 r2 ps old moves a b e m0 few last0 =
    let m : Moving (queue_view q queue) (queue_view q next) lines stage agent moves (q.journal p) (q.journal r) (q.journal p2) (q.journal r2) =
    subst (λ (x : ℕ). Moving (queue_view q queue) (queue_view q next) lines stage x moves (q.journal p) (q.journal r) (q.journal p2) (q.journal r2)) e m0 in
    let last : length moves < jobs_in lines → EndsWith (queue_view q queue) agent (Empty agent) (q.journal p) (q.journal p2) = λ less.
    subst (λ (x : ℕ). EndsWith (queue_view q queue) x (Empty x) (q.journal p) (q.journal p2)) e (last0 less) in
    rw (a, b) (record {
      acts = ahead (froms m.rows) (ahead (tos m.rows) nowhere);
      acted = two_acted q queue next queues agent p r p2 r2 ps (froms m.rows) (tos m.rows) m.from m.to;
      wrote = record { rows = m.rows; table = m.table; from = refl; to = refl; others = none_but_two (froms m.rows) (tos m.rows) };
      few = few;
      last = last;
    })

behind_acted : {Q P A : Type 0} (q : QueueOf Q P A) (queue : Q) (queues : List Q) (agent : ℕ) (p : P) (ps ps2 : List P) (acts : ℕ → List QueueShare)
    → ((i : ℕ) → DidShares (view_at q queues i) agent (acts i) (seen_at q ps i) (seen_at q ps2 i)) → (i : ℕ)
    → DidShares (view_at q (queue ∷ queues) i) agent (ahead [] acts i) (seen_at q (p ∷ ps) i) (seen_at q (p ∷ ps2) i)
behind_acted q queue queues agent p ps ps2 acts c zero = shares_none (queue_view q queue) agent (q.journal p)
behind_acted q queue queues agent p ps ps2 acts c (suc i) = c i

none_beside : (place : ℕ) (acts : ℕ → List QueueShare) → ((i : ℕ) → i ≢ place → i ≢ suc place → acts i ≡ []) → (i : ℕ) → i ≢ suc place
    → i ≢ suc (suc place) → ahead [] acts i ≡ []
none_beside place acts f zero a b = refl
none_beside place acts f (suc i) a b = f i (λ e. a (ap suc e)) (λ e. b (ap suc e))

-- behind one queue more
pub stage_behind : {Q P A : Type 0} (q : QueueOf Q P A) (queue : Q) (queues all : List Q) (lines : List Line) (place skip stage agent : ℕ) (p : P)
    (ps ps2 old : List P) (moves : List StageReply)
    → all ≡ queue ∷ queues → old ≡ p ∷ ps → skip ≡ suc place → StageDid q queues lines place stage agent ps ps2 moves
    → StageDid q all lines skip stage agent old (p ∷ ps2) moves
stage_behind q queue queues all lines place skip stage agent p ps ps2 old moves a b at d = rw (a, b, at) (record {
  acts = ahead [] d.acts;
  acted = behind_acted q queue queues agent p ps ps2 d.acts d.acted;
  wrote = record {
    rows = d.wrote.rows;
    table = d.wrote.table;
    from = d.wrote.from;
    to = d.wrote.to;
    others = none_beside place d.acts d.wrote.others;
  };
  few = d.few;
  last = d.last;
})

-- what the worker of a stage did, as all workers tell it
pub stage_told : {Q P A : Type 0} (q : QueueOf Q P A) (queues : List Q) (lines : List Line) (posters place stage agent : ℕ) (old new : List P)
    (posts : List PostReply) (moves : List StageReply)
    → StageDid q queues lines place stage agent old new moves → stage ≡ suc place → agent ≡ posters + suc place → posts ≡ []
    → ToldByReplies (view_at q queues) lines posters agent posts moves (seen_at q old) (seen_at q new)
stage_told q queues lines posters place stage agent old new posts moves d is at none = record {
  acts = d.acts;
  acted = d.acted;
  posted = λ low. absurd (omega (arith, low, at));
  moved = λ other there.
      let same : place ≡ other = omega (arith, at, there) in (
        subst (λ (z : ℕ). StageActs lines z (suc z) agent moves d.acts) same (subst (λ (z : ℕ). StageActs lines place z agent moves d.acts) is d.wrote),
        none,
      );
  found_empty = λ other there less.
      let same : place ≡ other = omega (arith, at, there) in
      let last : LastIsEmpty agent ((view_at q queues place).history (seen_at q new place)) =
      ends_last (view_at q queues place) agent (seen_at q old place) (seen_at q new place) (d.last less) in
      subst (λ (z : ℕ). LastIsEmpty agent ((view_at q queues z).history (seen_at q new z))) same last;
}
