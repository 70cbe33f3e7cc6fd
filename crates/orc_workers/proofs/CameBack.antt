-- What all workers and the caller have come to, once the caller's passes have learned from all others twice.
use Rattle.std.proofs.Common.{◌≡◌, ◌≢◌, ℕ, zero, suc, ◌+◌, ◌-◌, ◌≤◌, ◌<◌, List, [], ◌∷◌, ◌++◌, length, Bool, true, false, Option, Some, None, ◌⊎◌, inl, inr, refl, ap, sym, ◌∙◌, subst, arith, append-nil}
use mathlib.Core.List.{IsPrefix}
use mathlib.Core.Path.{fun_ext}
use Rattle.orc_history.specs.Journals.{own_of}
use Rattle.std.specs.List.{AllByRecursion}
use Rattle.orc_history.specs.declared.queue.QueueEntry.{QueueEntry}
use Rattle.orc_history.specs.declared.queue.QueueRefused.{QueueRefused}
use Rattle.orc_history.specs.declared.queue.SharedQueue.{Ghosts as QueueOf}
use Rattle.orc_history.specs.declared.set.SetEntry.{SetEntry}
use Rattle.orc_history.specs.declared.set.ListRefused.{ListRefused}
use Rattle.orc_history.specs.declared.set.SharedSet.{Ghosts as SetOf}
use Rattle.orc_history.specs.QueueHistory.{agent_of_entry}
use Rattle.orc_history.specs.SetHistory.{agent_of_set_entry}
use Rattle.orc_jobs.specs.declared.line.Line.{Line}
use Rattle.orc_board.specs.declared.replies.PostReply.{PostReply}
use Rattle.orc_board.specs.declared.replies.TakeReply.{TakeReply}
use Rattle.orc_board.specs.declared.desk.Desk.{Desk}
use Rattle.orc_team.proofs.CameBack.{Journals, Kept, Learnt, kept_all, learnt_all, seen_after}
use Rattle.orc_team.proofs.Learned.{Grows, none_since, since, zero_last}
use Rattle.orc_team.proofs.Numbered.{All-of_map, desks_from, each_number, numbered_next}
use Rattle.orc_team.proofs.Teams.{AllByRecursion-next, AllByRecursion-second, Pairwise-length, for_both}
use Rattle.orc_team.specs.Learning.{IsOther, LearnsAll, SameWorker}
use Rattle.orc_team.specs.Seats.{AreNumbered}
use Rattle.orc_team.specs.Site.{Site}
use Rattle.orc_team.specs.declared.rooms.Room.{Room}
use Rattle.orc_board.specs.Desk.{IsDesk, seen_in}
use Rattle.orc_board.specs.Stretches.{View, queue_views, set_view, beside, all_beside, pick, just, of_queue, of_set, Stands, empty_row}
use Rattle.orc_board.specs.Table.{TakeEnds}
use Rattle.orc_history.specs.Lists.{Pairwise}
use Rattle.orc_board.specs.Follows.{TakingRest, LastIsEmpty, IsWorker, none}
use Rattle.orc_workers.specs.Team.{BoardWorker, DidWork, DidPost, DidTake}
use Rattle.orc_workers.specs.Learning.{LawsTell, board_site}
use Rattle.orc_workers.specs.CameBack.{IsNew, IsTold, AllCameBack}
use Rattle.orc_board.proofs.ListFacts.{AllByRecursion-map}
use Rattle.orc_board.proofs.Shares.{Did-just, Works-more, Stands-after, prefix_trans}
use Rattle.orc_board.proofs.Wholes.{Works-before, Works-beside, Stands-beside, Below}
use Rattle.orc_board.proofs.Workers.{asked_earlier}
use Rattle.orc_workers.proofs.Resting.{Stands-both, skip_row, resting_stretch, resting_set, ends_last}
use Rattle.orc_workers.proofs.Learned.{quiet, still_last}

-- the journals at the start, whose histories are empty
start : {A B : Type 0} (qs : Bool → View A QueueEntry QueueRefused) (s : View B SetEntry ListRefused) (agent : ℕ) (j : Bool → List A) (m : List B)
    → ((b : Bool) → (qs b).history [] ≡ []) → s.history [] ≡ [] → ((b : Bool) → (qs b).history (j b) ≡ []) → s.history m ≡ []
    → Stands qs s agent empty_row none [] j m
start qs s agent j m a b c d = record {
  queues = λ x. Did-just of_queue (qs x) agent [] [] (j x)
      (record { later = (j x, refl); part = []; is = c x ∙ sym (ap (λ z. z ++ []) (a x)); own_is = refl; others = tt });
  set = Did-just of_set s agent [] [] m (record { later = (m, refl); part = []; is = d ∙ sym (ap (λ z. z ++ []) b); own_is = refl; others = tt });
}

-- a taker's stretches beside more agents, and from an earlier beginning
rest_from : {A B : Type 0} (qs : Bool → View A QueueEntry QueueRefused) (s : View B SetEntry ListRefused) (C : ℕ → Type 0) (lines : List Line)
    (taker agent : ℕ) (takes : List TakeReply) (i j k : Bool → List A) (l m n : List B)
    → ((b : Bool) → Below (qs b).crowd C) → Below s.crowd C → Stands (all_beside qs C) (beside s C) agent empty_row i l j m
    → TakingRest qs s lines taker agent takes j m k n
    → TakingRest (all_beside qs C) (beside s C) lines taker agent takes i l k n
rest_from qs s C lines taker agent takes i j k l m n f h before t = record {
  queues = t.queues;
  set = t.set;
  taking = record {
    rows = t.taking.rows;
    table = t.taking.table;
    works = Works-before (all_beside qs C) (beside s C) agent before
        (Works-beside qs s C f h agent t.taking.works);
    asked_rush = asked_earlier ((all_beside qs C) true) agent takes [] (i true) (j true) (t.queues true) (before.queues true).stretch t.taking.asked_rush;
  };
  last = record { row = t.last.row; is = t.last.is; stands = Stands-beside qs s C f h agent t.last.row t.queues k t.set n t.last.stands };
}

-- and with more that others did
rest_more : {A B : Type 0} (qs : Bool → View A QueueEntry QueueRefused) (s : View B SetEntry ListRefused) (lines : List Line) (taker agent : ℕ)
    (takes : List TakeReply) (j k k2 : Bool → List A) (m n n2 : List B)
    → TakingRest qs s lines taker agent takes j m k n → Stands qs s agent empty_row k n k2 n2 → TakingRest qs s lines taker agent takes j m k2 n2
rest_more qs s lines taker agent takes j k k2 m n n2 t more =
    let skipped : Bool → List QueueEntry = t.last.is.skipped in
    record {
      queues = t.queues;
      set = t.set;
      taking = t.taking;
      last = record {
        row = skip_row skipped;
        is = record { skipped = skipped; skips = t.last.is.skips; queues = λ b. refl; set = refl };
        stands = Stands-both qs s agent t.last.row empty_row (skip_row skipped) skipped (λ b. []) [] [] t.queues k k2 t.set n n2 t.last.is.queues t.last.is.set
            (λ b. refl) refl (λ b. ap (λ (u : List QueueEntry). just u) (sym (append-nil (skipped b)))) refl t.last.stands more;
      };
    }

-- what is known of the containers
pub record Laws {A B : Type 0} (qs : Bool → View A QueueEntry QueueRefused) (s : View B SetEntry ListRefused) (C : ℕ → Type 0) : Type 0 where
  pub queues_grow : (b : Bool) → Grows (qs b).history
  pub set_grows : Grows s.history
  pub queues_few : (b : Bool) → Below (qs b).crowd C
  pub set_few : Below s.crowd C
  pub queues_none : (b : Bool) → (qs b).history [] ≡ []
  pub set_none : s.history [] ≡ []

-- of three journals: their entries are of the agents of the run
pub record AllBelow {A B : Type 0} (qs : Bool → View A QueueEntry QueueRefused) (s : View B SetEntry ListRefused) (C : ℕ → Type 0) (k : Bool → List A)
    (n : List B) : Type 0 where
  pub queues_below : (b : Bool) → AllByRecursion (λ e. C (agent_of_entry e)) ((qs b).history (k b))
  pub set_below : AllByRecursion (λ e. C (agent_of_set_entry e)) (s.history n)

-- told from the beginning
told_first : {A B : Type 0} (qs : Bool → View A QueueEntry QueueRefused) (s : View B SetEntry ListRefused) (C : ℕ → Type 0) (lines : List Line)
    (posters agent : ℕ) (posts : List PostReply) (takes : List TakeReply) (j k : Bool → List A) (m n : List B)
    → Laws qs s C → ((b : Bool) → (qs b).history (j b) ≡ []) → s.history m ≡ []
    → (agent ≤ posters → DidPost qs s lines posters agent posts takes j m k n)
    → (posters < agent → DidTake qs s lines posters agent posts takes j m k n)
    → IsTold (all_beside qs C) (beside s C) lines posters k n agent posts takes
told_first qs s C lines posters agent posts takes j k m n laws new new2 posted took =
    let before : Stands (all_beside qs C) (beside s C) agent empty_row none [] j m =
    start (all_beside qs C) (beside s C) agent j m laws.queues_none laws.set_none new new2 in
    record {
      posted = λ h.
          let d = posted h in
          record {
            posting = record {
              rows = d.posting.rows;
              table = d.posting.table;
              works = Works-before (all_beside qs C) (beside s C) agent before (Works-beside qs s C laws.queues_few laws.set_few agent d.posting.works);
            };
            in_file_order = d.in_file_order;
            no_takes = d.no_takes;
          };
      took = λ h.
          let d = took h in
          record {
            taking = rest_from qs s C lines (agent - posters) agent takes none j k [] m n laws.queues_few laws.set_few before d.taking;
            found_empty = d.found_empty;
            no_posts = d.no_posts;
          };
    }

-- and so where its passes have learned
told_more : {A B : Type 0} (qs : Bool → View A QueueEntry QueueRefused) (s : View B SetEntry ListRefused) (C : ℕ → Type 0) (lines : List Line)
    (posters agent : ℕ) (posts : List PostReply) (takes : List TakeReply) (j k : Bool → List A) (m n : List B)
    → Laws qs s C → AllBelow qs s C k n → ((b : Bool) → IsPrefix (j b) (k b)) → IsPrefix m n
    → ((b : Bool) → own_of agent_of_entry agent ((qs b).history (k b)) ≡ own_of agent_of_entry agent ((qs b).history (j b)))
    → own_of agent_of_set_entry agent (s.history n) ≡ own_of agent_of_set_entry agent (s.history m)
    → IsTold (all_beside qs C) (beside s C) lines posters j m agent posts takes
    → IsTold (all_beside qs C) (beside s C) lines posters k n agent posts takes
told_more qs s C lines posters agent posts takes j k m n laws below later later2 own own2 told =
    let more : Stands (all_beside qs C) (beside s C) agent empty_row j m k n =
    quiet qs s C agent j k m n laws.queues_grow laws.set_grows later later2 own own2 below.queues_below below.set_below in
    record {
      posted = λ h.
          let d = told.posted h in
          record {
            posting = record { rows = d.posting.rows; table = d.posting.table; works = Works-more (all_beside qs C) (beside s C) agent d.posting.works more };
            in_file_order = d.in_file_order;
            no_takes = d.no_takes;
          };
      took = λ h.
          let d = told.took h in
          record {
            taking = rest_more (all_beside qs C) (beside s C) lines (agent - posters) agent takes none j k [] m n d.taking more;
            found_empty = λ less b.
                let new = since (qs b).history (laws.queues_grow b) (j b) (k b) (later b) in
                still_last agent ((qs b).history (j b)) new.part ((qs b).history (k b)) (d.found_empty less b) new.is
                (none_since agent_of_entry agent ((qs b).history (j b)) new.part ((qs b).history (k b)) new.is (own b));
            no_posts = d.no_posts;
          };
    }

-- the journals that two passes of queues, and one of a set, show
abbrev pub shown : {P R A : Type 0} → (P → List A) → Desk P R → Bool → List A
shown jq desk b = jq (pick desk.queue desk.rush b)

-- a worker as its own passes tell of it
pub record Tells {P R A B : Type 0} (qs : Bool → View A QueueEntry QueueRefused) (s : View B SetEntry ListRefused) (jq : P → List A) (js : R
    → List B) (lines : List Line) (posters : ℕ) (w : BoardWorker P R) : Type 0 where
  pub told : IsTold qs s lines posters (shown jq w.desk) (js w.desk.set) w.agent w.replies.posts.items w.replies.takes.items

tells_more : {Q S P R A B : Type 0} (q : QueueOf Q P A) (s : SetOf S R B) (queue rush : Q) (set : S) (C : ℕ → Type 0) (lines : List Line) (posters : ℕ)
    (k : Journals (board_site q s queue rush set)) (w v : BoardWorker P R)
    → Laws (queue_views q queue rush) (set_view s set) C → AllBelow (queue_views q queue rush) (set_view s set) C (λ b. k (Some b)) (k None)
    → Tells (all_beside (queue_views q queue rush) C) (beside (set_view s set) C) q.journal s.journal lines posters w
    → Learnt (board_site q s queue rush set) k w v
    → Tells (all_beside (queue_views q queue rush) C) (beside (set_view s set) C) q.journal s.journal lines posters v
tells_more {A = A} {B = B} q s queue rush set C lines posters k w v laws below t l =
    let qc : Bool → View A QueueEntry QueueRefused = all_beside (queue_views q queue rush) C in
    let sc : View B SetEntry ListRefused = beside (set_view s set) C in
    let kq : Bool → List A = λ b. k (Some b) in
    let ks : List B = k None in
    let ids = l.whole None in
    let now : IsTold qc sc lines posters kq ks w.agent w.replies.posts.items w.replies.takes.items =
    told_more (queue_views q queue rush) (set_view s set) C lines posters w.agent w.replies.posts.items w.replies.takes.items (seen_in q w.desk) kq
    (s.journal w.desk.set) ks laws below (λ b. (l.whole (Some b)).begins) ids.begins (λ b. (l.whole (Some b)).own_is) ids.own_is t.told in
    let a : IsTold qc sc lines posters (seen_in q v.desk) ks w.agent w.replies.posts.items w.replies.takes.items =
    subst (λ (x : Bool → List A). IsTold qc sc lines posters x ks w.agent w.replies.posts.items w.replies.takes.items)
    (fun_ext (λ b. sym (l.whole (Some b)).is)) now in
    let b : IsTold qc sc lines posters (seen_in q v.desk) (s.journal v.desk.set) w.agent w.replies.posts.items w.replies.takes.items =
    subst (λ (x : List B). IsTold qc sc lines posters (seen_in q v.desk) x w.agent w.replies.posts.items w.replies.takes.items) (sym ids.is) a in
    let d : IsTold qc sc lines posters (seen_in q v.desk) (s.journal v.desk.set) v.agent w.replies.posts.items w.replies.takes.items =
    subst (λ (x : ℕ). IsTold qc sc lines posters (seen_in q v.desk) (s.journal v.desk.set) x w.replies.posts.items w.replies.takes.items)
    (sym l.same.agent_is) b in
    record {
      told = subst (λ (x : Room TakeReply). IsTold qc sc lines posters (seen_in q v.desk) (s.journal v.desk.set) v.agent x.posts.items x.takes.items)
          (sym l.same.replies_are) d;
    }

pub others_after : {Q S P R A B : Type 0} (q : QueueOf Q P A) (s : SetOf S R B) (queue rush : Q) (set : S) (lines : List Line) (posters : ℕ)
    (ws vs : List (BoardWorker P R))
    → Pairwise (DidWork q s queue rush set lines posters) ws vs → AllByRecursion (IsOther (board_site q s queue rush set) 0) vs
others_after q s queue rush set lines posters ws vs did =
    AllByRecursion-second (IsOther (board_site q s queue rush set) 0) (DidWork q s queue rush set lines posters) ws vs
    (λ w v d. record { is_desk = d.desk; other = λ e. absurd (omega (arith, e, d.no_caller)) }) did

tells_first : {Q S P R A B : Type 0} (q : QueueOf Q P A) (s : SetOf S R B) (queue rush : Q) (set : S) (C : ℕ → Type 0) (lines : List Line) (posters : ℕ)
    (ws vs : List (BoardWorker P R))
    → Laws (queue_views q queue rush) (set_view s set) C → AllByRecursion (IsNew q s queue rush set) ws
    → Pairwise (DidWork q s queue rush set lines posters) ws vs
    → AllByRecursion (Tells (all_beside (queue_views q queue rush) C) (beside (set_view s set) C) q.journal s.journal lines posters) vs
tells_first q s queue rush set C lines posters [] [] laws new p = tt
tells_first q s queue rush set C lines posters [] (v ∷ vs) laws new p = absurd p
tells_first q s queue rush set C lines posters (w ∷ ws) [] laws new p = absurd p
tells_first q s queue rush set C lines posters (w ∷ ws) (v ∷ vs) laws new p = (
  record {
    told = told_first (queue_views q queue rush) (set_view s set) C lines posters v.agent v.replies.posts.items v.replies.takes.items (seen_in q w.desk)
        (seen_in q v.desk) (s.journal w.desk.set) (s.journal v.desk.set)
        laws new.0.queues_new new.0.set_new p.0.posted p.0.took;
  },
  tells_first q s queue rush set C lines posters ws vs laws new.1 p.1,
)

told_of : {Q S P R A B : Type 0} (q : QueueOf Q P A) (s : SetOf S R B) (qc : Bool → View A QueueEntry QueueRefused) (sc : View B SetEntry ListRefused)
    (lines : List Line) (posters : ℕ) (k : Bool → List A) (n : List B) (ts : List (BoardWorker P R))
    → AllByRecursion (Tells qc sc q.journal s.journal lines posters) ts
    → AllByRecursion (λ (w : BoardWorker P R). ((b : Bool) → seen_in q w.desk b ≡ k b) × (s.journal w.desk.set ≡ n)) ts
    → AllByRecursion (λ (w : BoardWorker P R). IsTold qc sc lines posters k n w.agent w.replies.posts.items w.replies.takes.items) ts
told_of q s qc sc lines posters k n [] t at = tt
told_of {A = A} {B = B} q s qc sc lines posters k n (v ∷ vs) t at = (
  subst (λ (x : Bool → List A). IsTold qc sc lines posters x n v.agent v.replies.posts.items v.replies.takes.items) (fun_ext at.0.0)
      (subst (λ (x : List B). IsTold qc sc lines posters (seen_in q v.desk) x v.agent v.replies.posts.items v.replies.takes.items) at.0.1 t.0.told),
  told_of q s qc sc lines posters k n vs t.1 at.1,
)

-- the whole: d0 to d3 are the caller's desk at first, after it learned, after it took, and after it learned again
pub came_back : {Q S P R A B : Type 0} (q : QueueOf Q P A) (s : SetOf S R B) (queue rush : Q) (set : S) (lines : List Line) (posters takers : ℕ)
    (d0 d1 d2 d3 : Desk P R) (takes : List TakeReply) (ws vs us ts : List (BoardWorker P R))
    → Laws (queue_views q queue rush) (set_view s set) (IsWorker posters takers)
    → AllBelow (queue_views q queue rush) (set_view s set) (IsWorker posters takers) (seen_in q d1) (s.journal d1.set)
    → AllBelow (queue_views q queue rush) (set_view s set) (IsWorker posters takers) (seen_in q d3) (s.journal d3.set)
    → ((b : Bool) → q.history (pick queue rush b) (seen_in q d0 b) ≡ []) → s.history set (s.journal d0.set) ≡ []
    → AreNumbered 1 ws → length ws ≡ posters + takers
    → AllByRecursion (IsNew q s queue rush set) ws
    → Pairwise (DidWork q s queue rush set lines posters) ws vs
    → LearnsAll (board_site q s queue rush set) 0 d0 d1 vs us
    → Pairwise SameWorker vs us
    → TakingRest (queue_views q queue rush) (set_view s set) lines 0 0 takes (seen_in q d1) (s.journal d1.set) (seen_in q d2) (s.journal d2.set)
    → ((b : Bool) → LastIsEmpty 0 (q.history (pick queue rush b) (seen_in q d2 b))) ⊎ (length lines ≤ length takes)
    → LearnsAll (board_site q s queue rush set) 0 d2 d3 us ts
    → Pairwise SameWorker us ts
    → IsDesk q s queue rush set 0 d3
    → LawsTell q s queue rush set (suc (posters + takers)) (suc (posters + takers)) (suc (posters + takers)) d3
    → AllByRecursion (IsOther (board_site q s queue rush set) 0) ts
    → AllCameBack q s queue rush set lines posters takers d3 takes ts
came_back {P = P} {R = R} {A = A} {B = B} q s queue rush set lines posters takers d0 d1 d2 d3 takes ws vs us ts laws below1 below3 new new2 num many fresh
    did l1 same1 took last l2 same2 desk known others =
    let C : ℕ → Type 0 = IsWorker posters takers in
    let qv : Bool → View A QueueEntry QueueRefused = queue_views q queue rush in
    let sv : View B SetEntry ListRefused = set_view s set in
    let x1 : Bool → List A = seen_in q d1 in
    let x2 : Bool → List A = seen_in q d2 in
    let x3 : Bool → List A = seen_in q d3 in
    let y1 : List B = s.journal d1.set in
    let y3 : List B = s.journal d3.set in
    let site : Site (Desk P R) = board_site q s queue rush set in
    let k1 : Journals site = λ c. site.journal c d1 in
    let k3 : Journals site = λ c. site.journal c d3 in
    let l1s = l1 None in
    let l2s = l2 None in
    let one : Pairwise (Learnt site k1) vs us = learnt_all site 0 d0 d1 vs us l1 same1 in
    let two : Pairwise (Learnt site k3) us ts = learnt_all site 0 d2 d3 us ts l2 same2 in
    let T : BoardWorker P R → Type 0 = Tells (all_beside qv C) (beside sv C) q.journal s.journal lines posters in
    let t1 : AllByRecursion T vs = tells_first q s queue rush set C lines posters ws vs laws fresh did in
    let t2 : AllByRecursion T us =
    AllByRecursion-next T T (Learnt site k1) vs us (λ w v t l. tells_more q s queue rush set C lines posters k1 w v laws below1 t l) t1 one in
    let t3 : AllByRecursion T ts =
    AllByRecursion-next T T (Learnt site k3) us ts (λ w v t l. tells_more q s queue rush set C lines posters k3 w v laws below3 t l) t2 two in
    let at3 : AllByRecursion (λ (w : BoardWorker P R). ((b : Bool) → seen_in q w.desk b ≡ x3 b) × (s.journal w.desk.set ≡ y3)) ts =
    AllByRecursion-map (λ w. (c : site.Container) → site.journal c w.desk ≡ k3 c)
    (λ w. ((b : Bool) → seen_in q w.desk b ≡ x3 b) × (s.journal w.desk.set ≡ y3)) (λ w f. ((λ b. f (Some b)), f None)) ts (seen_after site k3 us ts two) in
    let num1 : AreNumbered 1 vs = numbered_next (DidWork q s queue rush set lines posters) 1 ws vs (λ w v d. d.agent_is) num did in
    let num2 : AreNumbered 1 us = numbered_next SameWorker 1 vs us (λ w v d. d.agent_is) num1 same1 in
    let num3 : AreNumbered 1 ts = numbered_next SameWorker 1 us ts (λ w v d. d.agent_is) num2 same2 in
    let long : length us ≡ posters + takers = Pairwise-length SameWorker vs us same1 ∙ (Pairwise-length (DidWork q s queue rush set lines posters) ws vs did ∙ many) in
    let kept : AllByRecursion (λ (w : BoardWorker P R). Kept site k1 k3 w.agent) us = kept_all site k1 k3 us ts (seen_after site k1 vs us one) two in
    let F : ℕ → Type 0 = Kept site k1 k3 in
    let each : (a : ℕ) → 1 ≤ a → a ≤ posters + takers → F a = λ a low high. each_number F 1 us num2 kept a low (omega (arith, high, long)) in
    let taking1 : TakingRest (all_beside qv C) (beside sv C) lines 0 0 takes none [] x2 (s.journal d2.set) =
    rest_from qv sv C lines 0 0 takes none x1 x2 [] y1 (s.journal d2.set) laws.queues_few laws.set_few
    (Stands-after (all_beside qv C) (beside sv C) 0 empty_row none (seen_in q d0) x1 [] (s.journal d0.set) y1
    (start (all_beside qv C) (beside sv C) 0 (seen_in q d0) (s.journal d0.set) laws.queues_none laws.set_none new new2)
    (quiet qv sv C 0 (seen_in q d0) x1 (s.journal d0.set) y1 laws.queues_grow laws.set_grows (λ b. (l1 (Some b)).grows) l1s.grows (λ b. (l1 (Some b)).own_is) l1s.own_is
    below1.queues_below below1.set_below))
    took in
    let more : Stands (all_beside qv C) (beside sv C) 0 empty_row x2 (s.journal d2.set) x3 y3 =
    quiet qv sv C 0 x2 x3 (s.journal d2.set) y3 laws.queues_grow laws.set_grows (λ b. (l2 (Some b)).grows) l2s.grows (λ b. (l2 (Some b)).own_is) l2s.own_is
    below3.queues_below below3.set_below in
    let taking : TakingRest (all_beside qv C) (beside sv C) lines 0 0 takes none [] x3 y3 =
    rest_more (all_beside qv C) (beside sv C) lines 0 0 takes none x2 x3 [] (s.journal d2.set) y3 taking1 more in
    let all_q : (b : Bool) → IsPrefix (x1 b) (x3 b) = λ b.
    prefix_trans (x1 b) (x2 b) (x3 b) (resting_stretch qv sv b lines 0 0 takes x1 x2 y1 (s.journal d2.set) took).later (l2 (Some b)).grows in
    let all_s : IsPrefix y1 y3 =
    prefix_trans y1 (s.journal d2.set) y3 (resting_set qv sv lines 0 0 takes x1 x2 y1 (s.journal d2.set) took) l2s.grows in
    let new_s = since sv.history laws.set_grows y1 y3 all_s in
    record {
      caller = desk;
      known = known;
      none_first = laws.queues_none;
      numbered = num3;
      many = Pairwise-length SameWorker us ts same2 ∙ long;
      idle = desks_from (IsDesk q s queue rush set) 1 ts num3
          (AllByRecursion-map (IsOther site 0) (λ w. IsDesk q s queue rush set w.agent w.desk) (λ w o. o.is_desk) ts others);
      seen = All-of_map (λ (w : BoardWorker P R). w.desk) (λ desk. ((b : Bool) → seen_in q desk b ≡ x3 b) × (s.journal desk.set ≡ y3)) ts at3;
      told = told_of q s (all_beside qv C) (beside sv C) lines posters x3 y3 ts t3 at3;
      taking = taking;
      queues_zero_last = λ b.
          let new_q = since (qv b).history (laws.queues_grow b) (x1 b) (x3 b) (all_q b) in
          zero_last agent_of_entry (posters + takers) ((qv b).history (x1 b)) new_q.part ((qv b).history (x3 b)) new_q.is
          ((l1 (Some b)).own_is ∙ ap (own_of agent_of_entry 0) (new b)) (below3.queues_below b) (λ a low high. each a low high (Some b));
      set_zero_last = zero_last agent_of_set_entry (posters + takers) (sv.history y1) new_s.part (sv.history y3) new_s.is
          (l1s.own_is ∙ ap (own_of agent_of_set_entry 0) new2) below3.set_below (λ a low high. each a low high None);
      last = elim last as (λ _. ((b : Bool) → LastIsEmpty 0 ((qv b).history (x3 b))) ⊎ (length lines ≤ length takes)) [
        | inl e ↦ inl (λ b.
            let end = since (qv b).history (laws.queues_grow b) (x2 b) (x3 b) (l2 (Some b)).grows in
            still_last 0 ((qv b).history (x2 b)) end.part ((qv b).history (x3 b)) (e b) end.is
            (none_since agent_of_entry 0 ((qv b).history (x2 b)) end.part ((qv b).history (x3 b)) end.is (l2 (Some b)).own_is))
        | inr full ↦ inr full
      ];
    }

-- the caller found both queues empty, or has as many replies as there are lines
pub rest_last : {A : Type 0} (qs : Bool → View A QueueEntry QueueRefused) (agent lines taken spare room : ℕ) (j k : Bool → List A) → agent ≡ 0
    → (spare ≢ 0 → TakeEnds qs agent None j k) → lines ≤ room → taken + spare ≡ room
    → ((b : Bool) → LastIsEmpty 0 ((qs b).history (k b))) ⊎ (lines ≤ taken)
rest_last qs agent lines taken zero room j k e empty few is = inr (omega (arith, few, is))
rest_last qs agent lines taken (suc spare) room j k e empty few is = inl (λ b.
    subst (λ (a : ℕ). LastIsEmpty a ((qs b).history (k b))) e (ends_last (qs b) agent (j b) (k b) (empty (λ z. let no : ⊥ = cc in absurd no) b)))

-- agents below the number of agents are those of the run
pub all_below : {E : Type 0} (by : E → ℕ) (agents posters takers : ℕ) (es : List E) → agents ≡ 1 + (posters + takers)
    → AllByRecursion (λ e. by e < agents) es → AllByRecursion (λ e. IsWorker posters takers (by e)) es
all_below by agents posters takers es is h =
    AllByRecursion-map (λ e. by e < agents) (λ e. IsWorker posters takers (by e)) (λ e low. omega (arith, is, low)) es h

pub crowd_in_run : (crowd : ℕ → Type 0) (agents posters takers : ℕ) → agents ≡ 1 + (posters + takers) → ((a : ℕ) → crowd a → a < agents)
    → Below crowd (IsWorker posters takers)
crowd_in_run crowd agents posters takers is f a h = omega (arith, is, f a h)

-- what is said of each of the two queues and of the set holds of each container
pub for_each : (P : Option Bool → Type 0) → P (Some false) → P (Some true) → P None → (c : Option Bool) → P c
for_each P f t n (Some false) = f
for_each P f t n (Some true) = t
for_each P f t n None = n

-- all that an idle desk has seen is of agents of the run
pub below_of : {Q S P R A B : Type 0} (q : QueueOf Q P A) (s : SetOf S R B) (queue rush : Q) (set : S) (posters takers a b c : ℕ) (desk : Desk P R)
    → a ≡ 1 + (posters + takers) → b ≡ 1 + (posters + takers) → c ≡ 1 + (posters + takers) → LawsTell q s queue rush set a b c desk
    → AllBelow (queue_views q queue rush) (set_view s set) (IsWorker posters takers) (seen_in q desk) (s.journal desk.set)
below_of q s queue rush set posters takers a b c desk x y z known = record {
  queues_below = for_both (λ r. AllByRecursion (λ e. IsWorker posters takers (agent_of_entry e)) (q.history (pick queue rush r) (seen_in q desk r)))
      (all_below agent_of_entry a posters takers _ x (known.queues_below false)) (all_below agent_of_entry b posters takers _ y (known.queues_below true));
  set_below = all_below agent_of_set_entry c posters takers _ z known.set_below;
}

pub known_as : {Q S P R A B : Type 0} (q : QueueOf Q P A) (s : SetOf S R B) (queue rush : Q) (set : S) (a b c x : ℕ) (desk : Desk P R)
    → a ≡ x → b ≡ x → c ≡ x → LawsTell q s queue rush set a b c desk → LawsTell q s queue rush set x x x desk
known_as q s queue rush set a b c x desk e f h k =
    subst (λ (n : ℕ). LawsTell q s queue rush set n x x desk) e
    (subst (λ (n : ℕ). LawsTell q s queue rush set a n x desk) f (subst (λ (n : ℕ). LawsTell q s queue rush set a b n desk) h k))
