-- Rooms and desks of workers.
use Rattle.std.proofs.Common.{◌≡◌, ◌≢◌, ℕ, ◌+◌, ◌<◌, ◌≤◌, List, [], ◌∷◌, length, sym, ◌∙◌, subst, arith}
use Rattle.orc_history.specs.declared.queue.SharedQueue.{Ghosts as QueueOf}
use Rattle.orc_jobs.specs.declared.line.Line.{Line}
use Rattle.orc_jobs.specs.declared.line.Line.TheVariants as line
use Rattle.orc_jobs.specs.Line.{jobs_in}
use Rattle.orc_jobs.specs.GoodLines.{AreGood}
use Rattle.orc_board.specs.Follows.{own_records}
use Rattle.orc_board.proofs.PairLists.{records_fewer}
use Rattle.orc_team.specs.Seats.{IsEmptyRoom}
use Rattle.orc_team.specs.declared.rooms.Room.{Room}
use Rattle.orc_stages.specs.declared.replies.StageDesk.{StageDesk}
use Rattle.orc_stages.specs.declared.replies.StageReply.{StageReply}
use Rattle.orc_stages.specs.Desks.{ArePasses}
use Rattle.orc_pipeline.specs.Desks.{HasAgent}
use Rattle.orc_pipeline.specs.Team.{IsReady}
use Rattle.orc_pipeline.specs.Run.{Begins, IsNewDesk}

-- there are no more jobs than lines
jobs_fewer : (lines : List Line) → jobs_in lines ≤ length lines
jobs_fewer [] = omega arith
jobs_fewer (line.Post id op text ∷ ls) = omega (arith, jobs_fewer ls)
jobs_fewer (line.Rush id op text ∷ ls) = omega (arith, jobs_fewer ls)
jobs_fewer (line.Drop id ∷ ls) = omega (arith, jobs_fewer ls)

-- one who sits at a fresh desk with room of its own stands ready
pub ready_at : {Q P A : Type 0} (q : QueueOf Q P A) (queues : List Q) (lines : List Line) (posters many k : ℕ) (d : StageDesk P) (r : Room StageReply)
    → AreGood lines → 2 ≤ length queues → length queues ≤ 7 → many ≡ length lines → 1 ≤ k → k < posters + length queues → IsNewDesk q queues k d
    → IsEmptyRoom posters many many k r
    → IsReady q queues lines posters (record { agent = k; desk = d; replies = r }) × Begins q queues lines posters (record { agent = k; desk = d; replies = r })
ready_at q queues lines posters many k d r good two seven m low less new room =
    let fewer : length (own_records posters k (length lines)) ≤ length lines = records_fewer posters k (length lines) in (
      record {
        good = good;
        no_caller = low;
        in_run = less;
        few = (two, seven);
        passes = new.passes;
        no_posts = room.no_posts;
        no_moves = room.no_takes;
        post_room = λ h. let spare : r.posts.spare ≡ many = room.post_room h in omega (arith, fewer, spare, m);
        move_room = λ h. let spare : r.takes.spare ≡ many = room.take_room h in omega (arith, jobs_fewer lines, spare, m);
      },
      record {
        new = new.new;
        room = λ h. let spare : r.takes.spare ≡ many = room.take_room h in omega (arith, spare, m);
        none = room.no_takes;
      },
    )

-- a desk of a pipeline has a pass of the first queue
pub some_pass : {Q P A : Type 0} (q : QueueOf Q P A) (queue : Q) (more queues : List Q) (by : ℕ) (ps : List P) → queues ≡ queue ∷ more
    → ArePasses q by queues ps → length ps ≢ 0
some_pass {Q} {P} q queue more queues by [] is h = λ e.
    subst (λ (qs : List Q). ArePasses q by qs []) is h
some_pass q queue more queues by (p ∷ ps) is h = λ e. omega (arith, e)

-- which is its agent's
pub is_agent : {Q P A : Type 0} (q : QueueOf Q P A) (queue : Q) (more queues : List Q) (agent by : ℕ) (ps : List P) → queues ≡ queue ∷ more
    → HasAgent q queue agent ps → ArePasses q by queues ps → agent ≡ by
is_agent q queue more queues agent by [] is has h = absurd has
is_agent {Q} {P} q queue more queues agent by (p ∷ ps) is has h =
    let here = subst (λ (qs : List Q). ArePasses q by qs (p ∷ ps)) is h in
    sym has ∙ here.1
