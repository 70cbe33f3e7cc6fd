-- What all workers and the caller have come to, once the caller's passes have learned from all others twice.
use Rattle.std.proofs.Common.{◌≡◌, ◌≢◌, ℕ, zero, suc, ◌+◌, ◌≤◌, ◌<◌, List, ◌++◌, length, ◌⊎◌, inl, inr, refl, ap, sym, ◌∙◌, subst, arith, length-append}
use Rattle.std.specs.List.{AllByRecursion}
use mathlib.Core.List.{IsPrefix}
use Rattle.orc_history.specs.Journals.{own_of}
use Rattle.orc_history.specs.QueueHistory.{agent_of_entry}
use Rattle.orc_history.specs.declared.queue.QueueEntry.{QueueEntry}
use Rattle.orc_history.specs.declared.queue.QueueEntry.TheVariants.{Empty}
use Rattle.orc_history.specs.declared.queue.QueueRefused.{QueueRefused}
use Rattle.orc_history.specs.declared.queue.SharedQueue.{Ghosts as QueueOf}
use Rattle.orc_jobs.specs.declared.line.Line.{Line}
use Rattle.orc_board.specs.ListWithRoom.{ListWithRoom}
use Rattle.orc_board.specs.declared.replies.PostReply.{PostReply}
use Rattle.orc_board.specs.Stretches.{View}
use Rattle.orc_board.specs.Table.{EndsWith}
use Rattle.orc_history.specs.Lists.{Pairwise}
use Rattle.orc_board.specs.Follows.{LastIsEmpty, IsWorker}
use Rattle.orc_board.proofs.Shares.{prefix_trans}
use Rattle.orc_board.proofs.ListFacts.{AllByRecursion-map}
use Rattle.orc_team.proofs.Blocks.{find, nth_is}
use Rattle.orc_team.proofs.CameBack.{Kept, Learnt, kept_all, learnt_all, seen_after}
use Rattle.orc_team.proofs.Learned.{none_at_start, none_since, since, zero_last}
use Rattle.orc_team.proofs.Numbered.{All-of_map, desks_from, each_number, numbered_next}
use Rattle.orc_team.proofs.Teams.{AllByRecursion-next, AllByRecursion-second, Pairwise-length}
use Rattle.orc_team.specs.Learning.{IsOther, LearnsAll, SameWorker}
use Rattle.orc_team.specs.Seats.{AreNumbered}
use Rattle.orc_team.specs.Site.{Site}
use Rattle.orc_workers.proofs.CameBack.{all_below, crowd_in_run}
use Rattle.orc_workers.proofs.Learned.{still_last}
use Rattle.orc_workers.proofs.Resting.{ends_last}
use Rattle.orc_stages.specs.declared.replies.StageDesk.{StageDesk}
use Rattle.orc_stages.specs.declared.replies.StageReply.{StageReply}
use Rattle.orc_team.specs.declared.rooms.Room.{Room}
use Rattle.orc_stages.specs.Desks.{StageWorker, ArePasses, view_at, seen_at}
use Rattle.orc_pipeline.specs.Learning.{AreKnown, stage_site}
use Rattle.orc_pipeline.specs.Team.{DidWork, ToldByReplies}
use Rattle.orc_stages.specs.Caller.{CallerActs, CallerMoved, spare_at}
use Rattle.orc_pipeline.specs.Ran.{CallerRan, in_run, unseen}
use Rattle.orc_pipeline.specs.Run.{AllCameBack, Begins, CallerMovedFor, HasRoomForMoves, IsNew}
use Rattle.orc_stages.proofs.Shares.{shares_stretch}
use Rattle.orc_pipeline.proofs.Told.{Laws, OthersDid, others_first, shares_among, shares_after, shares_until, told_first, told_until}
use Rattle.orc_pipeline.proofs.Crew.{Moved, SameDesk, moved_for, moves_at, nth_next, posts_at, spare_behind, spare_is}

-- journals of the queues whose entries are of the agents of the run
abbrev pub AllBelow : {Q P A : Type 0} → QueueOf Q P A → List Q → ℕ → ℕ → (ℕ → List A) → Type 0
AllBelow q queues posters stages k = (i : ℕ) → AllByRecursion (λ e. IsWorker posters stages (agent_of_entry e)) ((view_at q queues i).history (k i))

-- a worker as its own passes tell of it, and with the room that it has
record Tells {Q P A : Type 0} (q : QueueOf Q P A) (queues : List Q) (lines : List Line) (posters stages : ℕ) (w : StageWorker P) : Type 0 where
  told : ToldByReplies (in_run (view_at q queues) posters stages) lines posters w.agent w.replies.posts.items w.replies.takes.items unseen (seen_at q w.desk.passes.items)
  room : HasRoomForMoves posters lines w

-- a worker as journals tell of it that all have seen
record IsTold {Q P A : Type 0} (q : QueueOf Q P A) (queues : List Q) (lines : List Line) (posters stages : ℕ) (k : ℕ → List A) (w : StageWorker P) : Type 0 where
  told : ToldByReplies (in_run (view_at q queues) posters stages) lines posters w.agent w.replies.posts.items w.replies.takes.items unseen k
  room : HasRoomForMoves posters lines w
  seen : (i : ℕ) → seen_at q w.desk.passes.items i ≡ k i

module _ {Q P A : Type 0} (q : QueueOf Q P A) (queues : List Q) (lines : List Line) (posters stages : ℕ) (laws : Laws (view_at q queues) (IsWorker posters stages))
  where
    abbrev V : ℕ → View A QueueEntry QueueRefused
    V = view_at q queues

    worked : (w v : StageWorker P) → Begins q queues lines posters w → DidWork q queues lines posters w v → Tells q queues lines posters stages v
    worked w v b d = record {
      told = told_first V lines posters stages v.agent v.replies.posts.items v.replies.takes.items (seen_at q w.desk.passes.items) (seen_at q v.desk.passes.items) laws b.new d.told;
      room = λ high.
          let room : length lines ≤ length w.replies.takes.items + w.replies.takes.spare = b.room (omega (arith, high, d.agent_is)) in
          omega (arith, room, d.spare, ap length b.none);
    }

    -- what learning leaves
    has_room : (w v : StageWorker P) → SameWorker w v → HasRoomForMoves posters lines w → HasRoomForMoves posters lines v
    has_room w v s room = λ high.
        let before : length lines ≤ length w.replies.takes.items + w.replies.takes.spare = room (omega (arith, high, s.agent_is)) in
        omega (arith, before, ap (λ (r : Room StageReply). length r.takes.items + r.takes.spare) s.replies_are)

    others_then : (k : ℕ → List A) → AllBelow q queues posters stages k → (w v : StageWorker P) → Learnt (stage_site q queues) k w v → (i : ℕ)
        → OthersDid (V i) (IsWorker posters stages) w.agent (seen_at q w.desk.passes.items i) (k i)
    others_then k below w v l i = record { later = (l.whole i).begins; own = (l.whole i).own_is; below = below i }

    learned : (k : ℕ → List A) → AllBelow q queues posters stages k → (w v : StageWorker P) → Tells q queues lines posters stages w → Learnt (stage_site q queues) k w v
        → IsTold q queues lines posters stages k v
    learned k below w v t l =
        let X : ℕ → View A QueueEntry QueueRefused = in_run V posters stages in
        let now : ToldByReplies X lines posters w.agent w.replies.posts.items w.replies.takes.items unseen k =
        told_until V lines posters stages w.agent w.replies.posts.items w.replies.takes.items (seen_at q w.desk.passes.items) k laws (others_then k below w v l) t.told in
        let a : ToldByReplies X lines posters v.agent w.replies.posts.items w.replies.takes.items unseen k =
        subst (λ (x : ℕ). ToldByReplies X lines posters x w.replies.posts.items w.replies.takes.items unseen k) (sym l.same.agent_is) now in
        record {
          told = subst (λ (x : Room StageReply). ToldByReplies X lines posters v.agent x.posts.items x.takes.items unseen k) (sym l.same.replies_are) a;
          room = has_room w v l.same t.room;
          seen = λ i. (l.whole i).is;
        }

    seen_still : (k : ℕ → List A) (w v : StageWorker P) → IsTold q queues lines posters stages k w → SameDesk w v → (i : ℕ) → seen_at q v.desk.passes.items i ≡ k i
    seen_still k w v t s i = ap (λ d. seen_at q d.passes.items i) s.desk_is ∙ t.seen i

    -- the caller's desk e0 at first, e1 after it learned, e2 after the caller moved what was left, and e3 after it learned again; the
    -- workers ws at first, vs after their work, us after the caller learned, ts after it moved, and zs after it learned again
    module _ (e0 e1 e2 e3 : StageDesk P) (outs : ListWithRoom ℕ) (ws vs us ts zs : List (StageWorker P)) (below1 : AllBelow q queues posters stages (seen_at q e1.passes.items))
        (below3 : AllBelow q queues posters stages (seen_at q e3.passes.items)) (new : IsNew q queues e0.passes.items) (num : AreNumbered 1 ws) (many : length ws ≡ posters + stages)
        (begins : AllByRecursion (Begins q queues lines posters) ws) (did : Pairwise (DidWork q queues lines posters) ws vs)
        (learn1 : LearnsAll (stage_site q queues) 0 e0 e1 vs us) (same1 : Pairwise SameWorker vs us) (moved : CallerMovedFor q queues lines posters e1.passes.items e2.passes.items us ts outs)
        (enough : length lines ≤ length outs.items + outs.spare) (learn3 : LearnsAll (stage_site q queues) 0 e2 e3 ts zs) (same3 : Pairwise SameWorker ts zs)
        (passes : ArePasses q 0 queues e3.passes.items) (known : AreKnown q queues (suc (posters + stages)) e3.passes.items) (others : AllByRecursion (IsOther (stage_site q queues) 0) zs) where
      abbrev C : ℕ → Type 0
      C = IsWorker posters stages

      abbrev site : Site (StageDesk P)
      site = stage_site q queues

      one : Pairwise (Learnt site (seen_at q e1.passes.items)) vs us
      one = learnt_all site 0 e0 e1 vs us learn1 same1

      two : Pairwise (Learnt site (seen_at q e3.passes.items)) ts zs
      two = learnt_all site 0 e2 e3 ts zs learn3 same3

      told : AllByRecursion (IsTold q queues lines posters stages (seen_at q e1.passes.items)) us
      told =
          AllByRecursion-next (Tells q queues lines posters stages) (IsTold q queues lines posters stages (seen_at q e1.passes.items)) (Learnt site (seen_at q e1.passes.items)) vs us
          (λ w v t l. learned (seen_at q e1.passes.items) below1 w v t l)
          (AllByRecursion-next (Begins q queues lines posters) (Tells q queues lines posters stages) (DidWork q queues lines posters) ws vs worked begins did) one

      num_vs : AreNumbered 1 vs
      num_vs = numbered_next (DidWork q queues lines posters) 1 ws vs (λ w v d. d.agent_is) num did

      num_us : AreNumbered 1 us
      num_us = numbered_next SameWorker 1 vs us (λ w v d. d.agent_is) num_vs same1

      long_us : length us ≡ posters + stages
      long_us = Pairwise-length SameWorker vs us same1 ∙ (Pairwise-length (DidWork q queues lines posters) ws vs did ∙ many)

      before_many : length moved.before ≡ stages
      before_many = omega (arith, long_us, ap length moved.is_before, length-append moved.front moved.before, moved.many)

      abbrev m : CallerMoved q queues lines 1 0 e1.passes.items e2.passes.items moved.before moved.after outs
      m = moved.moved

      moves : Moved m.more posters stages us ts
      moves = moved_for m.more posters stages moved.front moved.before moved.after us ts moved.is_before moved.is_after moved.many before_many m.moved

      num_ts : AreNumbered 1 ts
      num_ts = numbered_next SameDesk 1 us ts (λ w v d. d.agent_is) num_us moves.desks

      num_zs : AreNumbered 1 zs
      num_zs = numbered_next SameWorker 1 ts zs (λ w v d. d.agent_is) num_ts same3

      long_ts : length ts ≡ posters + stages
      long_ts = Pairwise-length SameDesk us ts moves.desks ∙ long_us

      long_zs : length zs ≡ posters + stages
      long_zs = Pairwise-length SameWorker ts zs same3 ∙ long_ts

      seen_ts : AllByRecursion (λ (w : StageWorker P). (i : ℕ) → seen_at q w.desk.passes.items i ≡ seen_at q e1.passes.items i) ts
      seen_ts =
          AllByRecursion-next (IsTold q queues lines posters stages (seen_at q e1.passes.items)) (λ (w : StageWorker P). (i : ℕ) → seen_at q w.desk.passes.items i ≡ seen_at q e1.passes.items i)
          SameDesk us ts (λ w v t s. seen_still (seen_at q e1.passes.items) w v t s) told moves.desks

      kept : AllByRecursion (λ (w : StageWorker P). Kept site (seen_at q e1.passes.items) (seen_at q e3.passes.items) w.agent) ts
      kept = kept_all site (seen_at q e1.passes.items) (seen_at q e3.passes.items) ts zs seen_ts two

      own_kept : (a : ℕ) → 1 ≤ a → a ≤ posters + stages → (i : ℕ)
          → own_of agent_of_entry a ((V i).history (seen_at q e3.passes.items i)) ≡ own_of agent_of_entry a ((V i).history (seen_at q e1.passes.items i))
      own_kept a low high i = each_number (Kept site (seen_at q e1.passes.items) (seen_at q e3.passes.items)) 1 ts num_ts kept a low (omega (arith, high, long_ts)) i

      caller_later : (i : ℕ) → IsPrefix (seen_at q e1.passes.items i) (seen_at q e2.passes.items i)
      caller_later i = (shares_stretch (V i) 0 (m.gave i ++ m.took i) (seen_at q e1.passes.items i) (seen_at q e2.passes.items i) (m.acted i)).later

      all_later : (i : ℕ) → IsPrefix (seen_at q e1.passes.items i) (seen_at q e3.passes.items i)
      all_later i = prefix_trans (seen_at q e1.passes.items i) (seen_at q e2.passes.items i) (seen_at q e3.passes.items i) (caller_later i) (learn3 i).grows

      told_at : (i : ℕ) → i < posters + stages
          → ToldByReplies (in_run V posters stages) lines posters (suc i) (posts_at zs i) (moves_at us i) unseen (seen_at q e3.passes.items)
      told_at i low =
          let X : ℕ → View A QueueEntry QueueRefused = in_run V posters stages in
          let w = find (IsTold q queues lines posters stages (seen_at q e1.passes.items)) 1 i us num_us told (omega (arith, low, long_us)) in
          let is : w.worker.agent ≡ suc i = w.agent_is ∙ omega arith in
          let posts_is : posts_at us i ≡ w.worker.replies.posts.items = nth_is (λ (x : StageWorker P). x.replies.posts.items) us i w.worker w.is in
          let moves_is : moves_at us i ≡ w.worker.replies.takes.items = nth_is (λ (x : StageWorker P). x.replies.takes.items) us i w.worker w.is in
          let posts : posts_at zs i ≡ w.worker.replies.posts.items =
          nth_next (λ (x : StageWorker P). x.replies.posts.items) SameWorker ts zs (λ x y s. ap (λ (r : Room StageReply). r.posts.items) s.replies_are) same3 i
          ∙ (nth_next (λ (x : StageWorker P). x.replies.posts.items) SameDesk us ts (λ x y s. ap (λ (r : ListWithRoom PostReply). r.items) s.posts_are) moves.desks i ∙ posts_is) in
          let here : ToldByReplies X lines posters (suc i) w.worker.replies.posts.items w.worker.replies.takes.items unseen (seen_at q e1.passes.items) =
          subst (λ (x : ℕ). ToldByReplies X lines posters x w.worker.replies.posts.items w.worker.replies.takes.items unseen (seen_at q e1.passes.items)) is w.holds.told in
          let more : ToldByReplies X lines posters (suc i) w.worker.replies.posts.items w.worker.replies.takes.items unseen (seen_at q e3.passes.items) =
          told_until V lines posters stages (suc i) w.worker.replies.posts.items w.worker.replies.takes.items (seen_at q e1.passes.items) (seen_at q e3.passes.items) laws
          (λ n. record { later = all_later n; own = own_kept (suc i) (omega arith) (omega (arith, low)) n; below = below3 n }) here in
          rw (posts, moves_is) more

      moves_zs : (i : ℕ) → moves_at zs i ≡ moves_at ts i
      moves_zs i = nth_next (λ (x : StageWorker P). x.replies.takes.items) SameWorker ts zs (λ x y s. ap (λ (r : Room StageReply). r.takes.items) s.replies_are) same3 i

      caller_ran : CallerRan (in_run V posters stages) lines stages m.more outs.items (seen_at q e3.passes.items)
      caller_ran = record {
        gave = m.gave;
        took = m.took;
        acts = subst (λ (n : ℕ). CallerActs lines 1 n 0 m.more outs.items m.gave m.took) before_many m.acts;
        acted =
            shares_until V C 0 (λ i. m.gave i ++ m.took i) unseen (seen_at q e2.passes.items) (seen_at q e3.passes.items) laws
            (λ i. record { later = (learn3 i).grows; own = (learn3 i).own_is; below = below3 i })
            (shares_after V C 0 (λ i. m.gave i ++ m.took i) unseen (seen_at q e1.passes.items) (seen_at q e2.passes.items) laws
            (λ i. others_first (V i) C 0 (seen_at q e0.passes.items i) (seen_at q e1.passes.items i) (laws.none i) (new i)
            (record { later = (learn1 i).grows; own = (learn1 i).own_is; below = below1 i }))
            (shares_among V C 0 (λ i. m.gave i ++ m.took i) (seen_at q e1.passes.items) (seen_at q e2.passes.items) laws m.acted));
      }

      -- what came last for the caller comes last still
      last_still : (i : ℕ) → EndsWith (V i) 0 (Empty 0) (seen_at q e1.passes.items i) (seen_at q e2.passes.items i) → LastIsEmpty 0 ((V i).history (seen_at q e3.passes.items i))
      last_still i e =
          let end = since (V i).history (laws.grows i) (seen_at q e2.passes.items i) (seen_at q e3.passes.items i) (learn3 i).grows in
          still_last 0 ((V i).history (seen_at q e2.passes.items i)) end.part ((V i).history (seen_at q e3.passes.items i)) (ends_last (V i) 0 (seen_at q e1.passes.items i) (seen_at q e2.passes.items i) e) end.is
          (none_since agent_of_entry 0 ((V i).history (seen_at q e2.passes.items i)) end.part ((V i).history (seen_at q e3.passes.items i)) end.is (learn3 i).own_is)

      end_or : (i room : ℕ) → (room ≢ 0 → EndsWith (V i) 0 (Empty 0) (seen_at q e1.passes.items i) (seen_at q e2.passes.items i)) → (taken : ℕ) → length lines ≤ taken + room
          → LastIsEmpty 0 ((V i).history (seen_at q e3.passes.items i)) ⊎ (length lines ≤ taken)
      end_or i zero f taken few = inr (omega (arith, few))
      end_or i (suc room) f taken few = inl (last_still i (f (λ z. absurd (omega (arith, z)))))

      room_at : (i : ℕ) → i < stages → length lines ≤ length (moves_at us (posters + i)) + spare_at us (posters + i)
      room_at i low =
          let w = find (IsTold q queues lines posters stages (seen_at q e1.passes.items)) 1 (posters + i) us num_us told (omega (arith, low, long_us)) in
          let some : length lines ≤ length w.worker.replies.takes.items + w.worker.replies.takes.spare = w.holds.room (omega (arith, w.agent_is)) in
          omega (
            arith,
            some,
            ap length (nth_is (λ (x : StageWorker P). x.replies.takes.items) us (posters + i) w.worker w.is),
            spare_is us (posters + i) w.worker w.is,
          )

      ended : (i : ℕ) → i < stages
          → LastIsEmpty 0 ((V i).history (seen_at q e3.passes.items i)) ⊎ (length lines ≤ length (moves_at us (posters + i) ++ m.more i))
      ended i low =
          let spare : spare_at ts (posters + i) ≡ spare_at moved.after i =
          subst (λ (xs : List (StageWorker P)). spare_at xs (posters + i) ≡ spare_at moved.after i) (sym moved.is_after)
          (subst (λ (n : ℕ). spare_at (moved.front ++ moved.after) (n + i) ≡ spare_at moved.after i) moved.many (spare_behind moved.front moved.after i)) in
          end_or i (spare_at moved.after i) (m.ended i (omega (arith, low, before_many))) (length (moves_at us (posters + i) ++ m.more i))
          (omega (arith, room_at i low, moves.spare i low, ap length (moves.moves i low), spare))

      outs_ended : LastIsEmpty 0 ((V stages).history (seen_at q e3.passes.items stages)) ⊎ (length lines ≤ length outs.items)
      outs_ended =
          end_or stages outs.spare
          (subst (λ (n : ℕ). outs.spare ≢ 0 → EndsWith (V n) 0 (Empty 0) (seen_at q e1.passes.items n) (seen_at q e2.passes.items n)) before_many m.outs_ended) (length outs.items) enough

      pub came_back : AllCameBack q queues lines posters stages e3.passes.items zs outs.items
      came_back = record {
        caller = passes;
        known = known;
        none_first = laws.none;
        numbered = num_zs;
        many = long_zs;
        idle = desks_from (λ by (desk : StageDesk P). ArePasses q by queues desk.passes.items) 1 zs num_zs
            (AllByRecursion-map (IsOther site 0) (λ w. ArePasses q w.agent queues w.desk.passes.items) (λ w o. o.is_desk) zs others);
        seen = All-of_map (λ (w : StageWorker P). w.desk) (λ desk. (i : ℕ) → seen_at q desk.passes.items i ≡ seen_at q e3.passes.items i) zs
            (seen_after site (seen_at q e3.passes.items) ts zs two);
        work = λ i. moves_at us i;
        own = m.more;
        told = λ i low. told_at i (omega (arith, low, long_zs));
        of_posters = λ i low. moves_zs i ∙ moves.kept i low;
        of_stages = λ i low. moves_zs (posters + i) ∙ moves.moves i low;
        moved = caller_ran;
        zero_last = λ i.
            let new_i = since (V i).history (laws.grows i) (seen_at q e1.passes.items i) (seen_at q e3.passes.items i) (all_later i) in
            zero_last agent_of_entry (posters + stages) ((V i).history (seen_at q e1.passes.items i)) new_i.part ((V i).history (seen_at q e3.passes.items i)) new_i.is
            ((learn1 i).own_is ∙ ap (own_of agent_of_entry 0) (new i)) (below3 i) (λ a low high. own_kept a low high i);
        ended = ended;
        outs_ended = outs_ended;
      }

-- what the laws of queues for the agents of a run give
pub laws_of : {Q P A : Type 0} (q : QueueOf Q P A) (queues : List Q) (posters stages : ℕ) (d0 d1 : List P) → AreKnown q queues (suc (posters + stages)) d1
    → IsNew q queues d0 → Laws (view_at q queues) (IsWorker posters stages)
laws_of q queues posters stages d0 d1 known new = record {
  grows = λ i. (known i).grows;
  few = λ i. crowd_in_run (view_at q queues i).crowd (suc (posters + stages)) posters stages (omega arith) (known i).crowd;
  none = λ i. none_at_start (view_at q queues i).history (known i).grows (seen_at q d0 i) (new i);
}

pub below_of : {Q P A : Type 0} (q : QueueOf Q P A) (queues : List Q) (posters stages : ℕ) (d : List P) → AreKnown q queues (suc (posters + stages)) d
    → AllBelow q queues posters stages (seen_at q d)
below_of q queues posters stages d known i = all_below agent_of_entry (suc (posters + stages)) posters stages _ (omega arith) (known i).below

-- workers are other agents than the caller, after their work, and after the caller moved for them
pub others_after : {Q P A : Type 0} (q : QueueOf Q P A) (queues : List Q) (lines : List Line) (posters : ℕ) (ws vs : List (StageWorker P))
    → Pairwise (DidWork q queues lines posters) ws vs → AllByRecursion (IsOther (stage_site q queues) 0) vs
others_after q queues lines posters ws vs did =
    AllByRecursion-second (IsOther (stage_site q queues) 0) (DidWork q queues lines posters) ws vs
    (λ w v d. record { is_desk = d.passes; other = λ e. absurd (omega (arith, e, d.no_caller)) }) did

other_still : {Q P A : Type 0} (q : QueueOf Q P A) (queues : List Q) (w v : StageWorker P) → IsOther (stage_site q queues) 0 w → SameDesk w v → IsOther (stage_site q queues) 0 v
other_still {P = P} q queues w v o s = record {
  is_desk = subst (λ (a : ℕ). ArePasses q a queues v.desk.passes.items) (sym s.agent_is)
      (subst (λ (d : StageDesk P). ArePasses q w.agent queues d.passes.items) (sym s.desk_is) o.is_desk);
  other = λ e. o.other (e ∙ s.agent_is);
}

pub others_moved : {Q P A : Type 0} (q : QueueOf Q P A) (queues : List Q) (lines : List Line) (posters : ℕ) (old new : List P) (ws vs : List (StageWorker P))
    (outs : ListWithRoom ℕ)
    → CallerMovedFor q queues lines posters old new ws vs outs → AllByRecursion (IsOther (stage_site q queues) 0) ws → AllByRecursion (IsOther (stage_site q queues) 0) vs
others_moved q queues lines posters old new ws vs outs m o =
    let desks = (moved_for m.moved.more (length m.front) (length m.before) m.front m.before m.after ws vs m.is_before m.is_after refl refl m.moved.moved).desks in
    AllByRecursion-next (IsOther (stage_site q queues) 0) (IsOther (stage_site q queues) 0) SameDesk ws vs (other_still q queues) o desks
