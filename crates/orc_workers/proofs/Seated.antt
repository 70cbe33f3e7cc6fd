-- Rooms and desks of workers.
use Rattle.std.proofs.Common.{◌≡◌, ℕ, zero, suc, ◌+◌, ◌≤◌, List, [], ◌∷◌, length, take, Some, ap, arith}
use Rattle.std.specs.List.{slice_get}
use Rattle.orc_history.specs.declared.queue.SharedQueue.{Ghosts as QueueOf}
use Rattle.orc_history.specs.declared.set.SharedSet.{Ghosts as SetOf}
use Rattle.orc_jobs.specs.declared.line.Line.{Line}
use Rattle.orc_jobs.specs.declared.line.Line.TheVariants as line
use Rattle.orc_jobs.specs.Line.{jobs_in}
use Rattle.orc_jobs.specs.GoodLines.{AreGood}
use Rattle.orc_board.specs.declared.desk.Desk.{Desk}
use Rattle.orc_board.specs.declared.replies.TakeReply.{TakeReply}
use Rattle.orc_board.specs.Follows.{own_records}
use Rattle.orc_board.proofs.PairLists.{records_fewer}
use Rattle.orc_team.specs.Seats.{IsEmptyRoom}
use Rattle.orc_team.specs.declared.rooms.Room.{Room}
use Rattle.orc_workers.specs.CameBack.{IsNew}
use Rattle.orc_workers.specs.Desks.{IsFreshDesk}
use Rattle.orc_workers.specs.Team.{IsReady}

-- one more line counted
pub posts_step : (xs : List Line) (i : ℕ) (l : Line) → slice_get xs i ≡ Some l → jobs_in (take (suc i) xs) ≡ jobs_in (take i xs) + jobs_in (l ∷ [])
posts_step [] i l e = let n : ⊥ = cc in absurd n
posts_step (x ∷ xs) zero l e = let same : x ≡ l = cc in omega (arith, ap (λ (y : Line). jobs_in (y ∷ [])) same)
posts_step (line.Post id op text ∷ xs) (suc i) l e = omega (arith, posts_step xs i l e)
posts_step (line.Rush id op text ∷ xs) (suc i) l e = omega (arith, posts_step xs i l e)
posts_step (line.Drop id ∷ xs) (suc i) l e = posts_step xs i l e

pub step_known : (xs : List Line) (i n m : ℕ) (l : Line) → slice_get xs i ≡ Some l → n ≡ jobs_in (take i xs) → m ≡ jobs_in (l ∷ [])
    → n + m ≡ jobs_in (take (i + 1) xs)
step_known xs i n m l e a b =
    let next : i + 1 ≡ suc i = omega arith in
    rw next (omega (arith, a, b, posts_step xs i l e))

-- one who sits at a fresh desk with room of its own stands ready
pub ready_at : {Q S P R A B : Type 0} (q : QueueOf Q P A) (s : SetOf S R B) (queue rush : Q) (set : S) (lines : List Line) (posters many few k : ℕ)
    (d : Desk P R) (r : Room TakeReply)
    → AreGood lines → many ≡ length lines → few ≡ jobs_in lines → 1 ≤ k → IsFreshDesk q s queue rush set k d → IsEmptyRoom posters many few k r
    → IsReady q s queue rush set lines posters (record { agent = k; desk = d; replies = r }) × IsNew q s queue rush set (record { agent = k; desk = d; replies = r })
ready_at q s queue rush set lines posters many few k d r good m n low new room =
    let fewer : length (own_records posters k (length lines)) ≤ length lines = records_fewer posters k (length lines) in (
      record {
        good = good;
        no_caller = low;
        desk = new.is_desk;
        no_posts = room.no_posts;
        no_takes = room.no_takes;
        post_room = λ h. let spare : r.posts.spare ≡ many = room.post_room h in omega (arith, fewer, spare, m);
        take_room = λ h. let spare : r.takes.spare ≡ few = room.take_room h in omega (arith, spare, n);
      },
      record { queues_new = new.queues_new; set_new = new.set_new },
    )
