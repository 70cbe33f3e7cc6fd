-- What the caller moves, stage by stage.
use Rattle.std.proofs.Common.{◌≡◌, ◌≢◌, ℕ, zero, suc, ◌+◌, ◌<◌, arith, List, [], ◌∷◌, ◌++◌, length, refl, ap, subst}
use Rattle.orc_history.specs.declared.queue.QueueEntry.TheVariants.{Empty}
use Rattle.orc_history.specs.declared.queue.SharedQueue.{Ghosts as QueueOf}
use Rattle.orc_jobs.specs.declared.line.Line.{Line}
use Rattle.orc_board.specs.ListWithRoom.{ListWithRoom}
use Rattle.orc_board.specs.Stretches.{queue_view}
use Rattle.orc_board.specs.Table.{EndsWith}
use Rattle.orc_stages.specs.declared.replies.StageReply.{StageReply}
use Rattle.orc_stages.specs.Stage.{QueueShare, DidShares, StageRow, froms, tos, MoveTable, Moving, TookAlone}
use Rattle.orc_stages.specs.Calls.{MovesMore}
use Rattle.orc_stages.specs.Desks.{StageWorker, ArePasses, view_at, seen_at}
use Rattle.orc_stages.specs.Caller.{spare_at, CallerMoved, MovedBetween}
use Rattle.orc_stages.proofs.Shares.{shares_append, shares_none, shares_last}
use Rattle.orc_stages.proofs.Lists.{ahead, nowhere, no_items}

pub between : {Q P A : Type 0} (q : QueueOf Q P A) (queue next : Q) (queues more : List Q) (lines : List Line) (stage agent : ℕ) (p r p2 r2 : P)
    (ps old : List P) (before after : ListWithRoom StageReply)
    → more ≡ next ∷ queues → old ≡ r ∷ ps → q.agent_of queue p ≡ agent
    → MovesMore q queue next lines stage p r p2 r2 before.items after.items
    → length after.items + after.spare ≡ length before.items + before.spare
    → (after.spare ≢ 0 → EndsWith (queue_view q queue) (q.agent_of queue p) (Empty (q.agent_of queue p)) (q.journal p) (q.journal p2))
    → MovedBetween q queue more lines stage agent p old p2 (r2 ∷ ps) before after
between q queue next queues more lines stage agent p r p2 r2 ps old before after a b e m spare last0 =
    let moves : Moving (queue_view q queue) (queue_view q next) lines stage agent m.more (q.journal p) (q.journal r) (q.journal p2) (q.journal r2) =
    subst (λ (x : ℕ). Moving (queue_view q queue) (queue_view q next) lines stage x m.more (q.journal p) (q.journal r) (q.journal p2) (q.journal r2)) e m.moves in
    let last : after.spare ≢ 0 → EndsWith (queue_view q queue) agent (Empty agent) (q.journal p) (q.journal p2) = λ room.
    subst (λ (x : ℕ). EndsWith (queue_view q queue) x (Empty x) (q.journal p) (q.journal p2)) e (last0 room) in
    rw (a, b) (record {
      new = m.more;
      is = m.is;
      spare = spare;
      rows = moves.rows;
      table = moves.table;
      from = moves.from;
      to = moves.to;
      others = λ i. refl;
      last = last;
    })

out_acted : {Q P A : Type 0} (q : QueueOf Q P A) (queue : Q) (queues : List Q) (agent : ℕ) (p p2 : P) (ps : List P) (shares : List QueueShare)
    → DidShares (queue_view q queue) agent shares (q.journal p) (q.journal p2) → (i : ℕ)
    → DidShares (view_at q (queue ∷ queues) i) agent (nowhere i ++ ahead shares nowhere i) (seen_at q (p ∷ ps) i) (seen_at q (p2 ∷ ps) i)
out_acted q queue queues agent p p2 ps shares c zero = c
out_acted q queue queues agent p p2 ps shares c (suc i) = shares_none (view_at q queues i) agent (seen_at q ps i)

-- no stage is left
pub caller_last : {Q P A : Type 0} (q : QueueOf Q P A) (queue : Q) (queues all : List Q) (lines : List Line) (stage agent now : ℕ) (p p2 : P) (ps old : List P)
    (ws vs : List (StageWorker P)) (outs : ListWithRoom ℕ)
    → all ≡ queue ∷ queues → old ≡ p ∷ ps → length ws ≡ 0 → vs ≡ ws → now ≡ agent
    → TookAlone (queue_view q queue) now outs.items (q.journal p) (q.journal p2)
    → (outs.spare ≢ 0 → EndsWith (queue_view q queue) now (Empty now) (q.journal p) (q.journal p2))
    → CallerMoved q all lines stage agent old (p2 ∷ ps) ws vs outs
caller_last q queue queues all lines stage agent now p p2 ps old ws vs outs a b none d e t0 last0 =
    let t : TookAlone (queue_view q queue) agent outs.items (q.journal p) (q.journal p2) =
    subst (λ (x : ℕ). TookAlone (queue_view q queue) x outs.items (q.journal p) (q.journal p2)) e t0 in
    let last : outs.spare ≢ 0 → EndsWith (queue_view q queue) agent (Empty agent) (q.journal p) (q.journal p2) = λ room.
    subst (λ (x : ℕ). EndsWith (queue_view q queue) x (Empty x) (q.journal p) (q.journal p2)) e (last0 room) in
    let c : ws ≡ [] = no_items ws (omega (arith, none)) in
    rw (a, b, d, c) (record {
      more = λ i. [];
      moved = tt;
      gave = nowhere;
      took = ahead t.shares nowhere;
      acts = record {
        rows = λ i. [];
        table = λ i low. absurd (omega (arith, low));
        none_first = refl;
        from = λ i low. absurd (omega (arith, low));
        to = λ i low. absurd (omega (arith, low));
        tooks = t.tooks;
        puts = t.puts;
      };
      acted = out_acted q queue queues agent p p2 ps t.shares t.did;
      ended = λ i low. absurd (omega (arith, low));
      outs_ended = last;
    })

plus_zero : (n : ℕ) → n ≡ n + 0
plus_zero n = omega arith

plus_one : (n i : ℕ) → n + 1 + i ≡ n + suc i
plus_one n i = omega arith

less_of : (i n : ℕ) → suc i < suc n → i < n
less_of i n low = omega (arith, low)

-- one stage, and then the others
module _ {Q P A : Type 0} (q : QueueOf Q P A) (queue : Q) (more : List Q) (lines : List Line) (stage agent : ℕ) (p p2 : P) (rest mid new : List P)
    (w v : StageWorker P) (ws vs : List (StageWorker P)) (outs : ListWithRoom ℕ) (kept : v ≡ record { agent = w.agent; desk = w.desk; replies = record { posts = w.replies.posts; takes = v.replies.takes } })
    (one : MovedBetween q queue more lines stage agent p rest p2 mid w.replies.takes v.replies.takes)
    (tail : CallerMoved q more lines (stage + 1) agent mid new ws vs outs) where
  abbrev all_gave : ℕ → List QueueShare
  all_gave = ahead [] (ahead (tos one.rows) (λ i. tail.gave (suc i)))

  abbrev all_took : ℕ → List QueueShare
  all_took = ahead (froms one.rows) tail.took

  step_acted : (i : ℕ) → DidShares (view_at q (queue ∷ more) i) agent (all_gave i ++ all_took i) (seen_at q (p ∷ rest) i) (seen_at q (p2 ∷ new) i)
  step_acted zero = one.from
  step_acted (suc zero) =
      let then : DidShares (view_at q more 0) agent (tail.took 0) (seen_at q mid 0) (seen_at q new 0) =
      subst (λ (z : List QueueShare). DidShares (view_at q more 0) agent (z ++ tail.took 0) (seen_at q mid 0) (seen_at q new 0)) tail.acts.none_first
      (tail.acted 0) in
      shares_append (view_at q more 0) agent (tos one.rows) (tail.took 0) (seen_at q rest 0) (seen_at q mid 0) (seen_at q new 0) one.to then
  step_acted (suc (suc i)) =
      subst (λ (j : List A). DidShares (view_at q more (suc i)) agent (tail.gave (suc i) ++ tail.took (suc i)) j (seen_at q new (suc i))) (one.others i)
      (tail.acted (suc i))

  -- what comes last behind the first stage
  later_last : (i : ℕ) → EndsWith (view_at q more i) agent (Empty agent) (seen_at q mid i) (seen_at q new i)
      → EndsWith (view_at q more i) agent (Empty agent) (seen_at q rest i) (seen_at q new i)
  later_last zero e = shares_last (view_at q more 0) agent agent (tos one.rows) (seen_at q rest 0) (seen_at q mid 0) (seen_at q new 0) one.to refl e
  later_last (suc i) e =
      subst (λ (j : List A). EndsWith (view_at q more (suc i)) agent (Empty agent) j (seen_at q new (suc i))) (one.others i) e

  abbrev all_rows : ℕ → List StageRow
  all_rows = ahead one.rows tail.acts.rows

  step_table : (i : ℕ) → i < suc (length ws) → MoveTable lines (stage + i) agent (ahead one.new tail.more i) (all_rows i)
  step_table zero low = subst (λ (n : ℕ). MoveTable lines n agent one.new one.rows) (plus_zero stage) one.table
  step_table (suc i) low =
      subst (λ (n : ℕ). MoveTable lines n agent (tail.more i) (tail.acts.rows i)) (plus_one stage i) (tail.acts.table i (less_of i (length ws) low))

  step_from : (i : ℕ) → i < suc (length ws) → all_took i ≡ froms (all_rows i)
  step_from zero low = refl
  step_from (suc i) low = tail.acts.from i (less_of i (length ws) low)

  step_to : (i : ℕ) → i < suc (length ws) → all_gave (suc i) ≡ tos (all_rows i)
  step_to zero low = refl
  step_to (suc i) low = tail.acts.to i (less_of i (length ws) low)

  step_ended : (i : ℕ) → i < suc (length ws) → spare_at (v ∷ vs) i ≢ 0
      → EndsWith (view_at q (queue ∷ more) i) agent (Empty agent) (seen_at q (p ∷ rest) i) (seen_at q (p2 ∷ new) i)
  step_ended zero low room = one.last room
  step_ended (suc i) low room = later_last i (tail.ended i (less_of i (length ws) low) room)

  caller_step : CallerMoved q (queue ∷ more) lines stage agent (p ∷ rest) (p2 ∷ new) (w ∷ ws) (v ∷ vs) outs
  caller_step = record {
    more = ahead one.new tail.more;
    moved = (
      record {
        agent_is = ap (λ (u : StageWorker P). u.agent) kept;
        desk_is = ap (λ (u : StageWorker P). u.desk) kept;
        posts_are = ap (λ (u : StageWorker P). u.replies.posts) kept;
        moves_are = one.is;
        spare = one.spare;
      },
      tail.moved,
    );
    gave = all_gave;
    took = all_took;
    acts = record {
      rows = all_rows;
      table = step_table;
      none_first = refl;
      from = step_from;
      to = step_to;
      tooks = tail.acts.tooks;
      puts = tail.acts.puts;
    };
    acted = step_acted;
    ended = step_ended;
    outs_ended = λ room. later_last (length ws) (tail.outs_ended room);
  }

pub caller_of : {Q P A : Type 0} (q : QueueOf Q P A) (queue : Q) (more queues : List Q) (lines : List Line) (stage agent : ℕ) (p p2 : P)
    (rest mid new old : List P) (w v : StageWorker P) (ws vs olds : List (StageWorker P)) (outs : ListWithRoom ℕ)
    → queues ≡ queue ∷ more → old ≡ p ∷ rest → olds ≡ w ∷ ws → v ≡ record { agent = w.agent; desk = w.desk; replies = record { posts = w.replies.posts; takes = v.replies.takes } }
    → MovedBetween q queue more lines stage agent p rest p2 mid w.replies.takes v.replies.takes
    → CallerMoved q more lines (stage + 1) agent mid new ws vs outs
    → CallerMoved q queues lines stage agent old (p2 ∷ new) olds (v ∷ vs) outs
caller_of q queue more queues lines stage agent p p2 rest mid new old w v ws vs olds outs a b c kept one tail =
    rw (a, b, c) (caller_step q queue more lines stage agent p p2 rest mid new w v ws vs outs kept one tail)

-- the agent of the first pass
pub first_agent : {Q P A : Type 0} (q : QueueOf Q P A) (agent : ℕ) (queue : Q) (queues all : List Q) (p : P) (ps old : List P)
    → all ≡ queue ∷ queues → old ≡ p ∷ ps → ArePasses q agent all old → q.agent_of queue p ≡ agent
first_agent {Q} {P} q agent queue queues all p ps old is b h =
    let one : ArePasses q agent (queue ∷ queues) old = subst (λ (xs : List Q). ArePasses q agent xs old) is h in
    let two : ArePasses q agent (queue ∷ queues) (p ∷ ps) = subst (λ (xs : List P). ArePasses q agent (queue ∷ queues) xs) b one in
    two.1
