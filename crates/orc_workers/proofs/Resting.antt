-- What a taker's answers stand for grows answer by answer, also after answers that found nothing.
use Rattle.orc_history.specs.QueueHistory.{agent_of_entry}
use Rattle.std.proofs.Common.{◌≡◌, ◌≢◌, ℕ, ◌-◌, ◌<◌, length, Bool, true, List, [], ◌∷◌, ◌++◌, Some, None, refl, ap, sym, ◌∙◌, subst, append_assoc}
use Rattle.orc_history.specs.declared.queue.QueueEntry.{QueueEntry}
use Rattle.orc_history.specs.declared.queue.QueueEntry.TheVariants.{Took, Empty}
use Rattle.orc_history.specs.declared.queue.QueueRefused.{QueueRefused}
use Rattle.orc_history.specs.declared.set.SetEntry.{SetEntry}
use Rattle.orc_history.specs.declared.set.SetEntry.TheVariants.{Removed}
use Rattle.orc_history.specs.declared.set.ListRefused.{ListRefused}
use Rattle.orc_jobs.specs.declared.line.Line.{Line}
use Rattle.orc_board.specs.declared.replies.TakeReply.{TakeReply}
use Rattle.orc_board.specs.Stretches.{View, Row, Share, Did, Stretch, Stands, Replied, just, nothing, of_queue, of_set}
use Rattle.orc_board.specs.Table.{IsSkip, TakeRow, TakenRow, EndsWith, TakeEnds, in_its, claim_answer, taken_of}
use Rattle.orc_board.specs.Follows.{TakingRest, TakerRow, LastIsEmpty}
use Rattle.orc_board.specs.declared.replies.PostReply.{PostReply}
use Rattle.orc_jobs.specs.Line.{jobs_in}
use Rattle.orc_workers.specs.Team.{DidTake}
use Rattle.orc_board.proofs.ListFacts.{AllByRecursion-append, AllByRecursion-map}
use Rattle.orc_board.proofs.Shares.{Did-just, Stretch-trans, Works-row, Stands-empty, prefix_trans}
use mathlib.Core.List.{IsPrefix}
use Rattle.orc_board.proofs.CallStretches.{ends_later}
use Rattle.orc_board.proofs.Wholes.{queue_of_rows, Works-queue, Works-set}
use Rattle.orc_board.proofs.Workers.{asked_later, asked_more, rush_ends, taking_none, taking_full, Pairwise-snoc}

-- two rows without refusals, one after another
pub Stands-both : {A B : Type 0} (qs : Bool → View A QueueEntry QueueRefused) (s : View B SetEntry ListRefused) (agent : ℕ)
    (first second both : Row) (xs ys : Bool → List QueueEntry) (us vs : List SetEntry) (i j k : Bool → List A) (l m n : List B)
    → ((b : Bool) → first.queues b ≡ just (xs b)) → first.set ≡ just us → ((b : Bool) → second.queues b ≡ just (ys b)) → second.set ≡ just vs
    → ((b : Bool) → both.queues b ≡ just (xs b ++ ys b)) → both.set ≡ just (us ++ vs)
    → Stands qs s agent first i l j m → Stands qs s agent second j m k n → Stands qs s agent both i l k n
Stands-both qs s agent first second both xs ys us vs i j k l m n fq fs gq gs hq hs a b = record {
  queues = λ x.
      rw (hq x)
      (let one : Did of_queue (qs x) agent (just (xs x)) (i x) (j x) = subst (λ (z : Share QueueEntry QueueRefused). Did of_queue (qs x) agent z (i x) (j x)) (fq x) (a.queues x) in
      let two : Did of_queue (qs x) agent (just (ys x)) (j x) (k x) = subst (λ (z : Share QueueEntry QueueRefused). Did of_queue (qs x) agent z (j x) (k x)) (gq x) (b.queues x) in
      Did-just of_queue (qs x) agent (xs x ++ ys x) (i x) (k x) (Stretch-trans of_queue (qs x) agent (xs x) (ys x) (i x) (j x) (k x) one.stretch two.stretch));
  set =
      rw hs
      (let one : Did of_set s agent (just us) l m = subst (λ (z : Share SetEntry ListRefused). Did of_set s agent z l m) fs a.set in
      let two : Did of_set s agent (just vs) m n = subst (λ (z : Share SetEntry ListRefused). Did of_set s agent z m n) gs b.set in
      Did-just of_set s agent (us ++ vs) l n (Stretch-trans of_set s agent us vs l m n one.stretch two.stretch));
}

abbrev pub skip_row : (Bool → List QueueEntry) → Row
skip_row skipped = record { queues = λ b. just (skipped b); set = nothing }

pub resting_none : {A B : Type 0} (qs : Bool → View A QueueEntry QueueRefused) (s : View B SetEntry ListRefused) (lines : List Line) (taker agent : ℕ)
    (replies : List TakeReply) (j : Bool → List A) (m : List B)
    → replies ≡ [] → TakingRest qs s lines taker agent replies j m j m
resting_none qs s lines taker agent replies j m e = taking_full qs s lines taker agent replies j j m m (taking_none qs s lines taker agent replies j m e)

-- a claim more; the jobs that were passed over since the last one stand before it
pub resting_more : {A B : Type 0} (qs : Bool → View A QueueEntry QueueRefused) (s : View B SetEntry ListRefused) (lines : List Line) (taker agent now : ℕ)
    (replies : List TakeReply) (r : TakeReply) (j k k2 : Bool → List A) (m n n2 : List B)
    → TakingRest qs s lines taker agent replies j m k n → now ≡ agent → r.taker ≡ taker
    → TakeEnds qs now (taken_of (Some r)) k k2 → Replied qs s (TakenRow lines now (Some r)) now k n k2 n2
    → TakingRest qs s lines taker agent (replies ++ r ∷ []) j m k2 n2
resting_more qs s lines taker agent now replies r j k k2 m n n2 p e same ends replied =
    let last : TakeEnds qs agent (taken_of (Some r)) k k2 = subst (λ (x : ℕ). TakeEnds qs x (taken_of (Some r)) k k2) e ends in
    let done : Replied qs s (TakenRow lines agent (Some r)) agent k n k2 n2 = subst (λ (x : ℕ). Replied qs s (TakenRow lines x (Some r)) x k n k2 n2) e replied in
    let before : Bool → List QueueEntry = p.last.is.skipped in
    let took : Bool → List QueueEntry = in_its r.rush (Took agent r.line r.at ∷ []) in
    let own : Bool → List QueueEntry = λ b. done.is.skipped b ++ took b in
    let gone : List SetEntry = Removed agent done.is.claim.id (claim_answer r.what) ∷ [] in
    let row : Row = record { queues = λ b. just (before b ++ own b); set = just gone } in
    let all : Stands qs s agent row p.queues p.set k2 n2 =
    Stands-both qs s agent p.last.row done.row row before own [] gone p.queues k k2 p.set n n2 p.last.is.queues p.last.is.set done.is.claim.queues
    done.is.claim.set (λ b. refl) refl p.last.stands done.stands in
    let table : TakeRow lines agent r.rush r.line r.at r.what row = record {
      skipped = λ b. before b ++ done.is.skipped b;
      skips = λ b. AllByRecursion-append (IsSkip lines b agent) (before b) (done.is.skipped b) (p.last.is.skips b) (done.is.skips b);
      claim = record {
        id = done.is.claim.id;
        job = done.is.claim.job;
        value = done.is.claim.value;
        queues = λ b. ap (λ (u : List QueueEntry). just u) (sym (append_assoc (before b) (done.is.skipped b) (took b)));
        set = refl;
      };
    } in
    record {
      queues = k2;
      set = n2;
      taking = record {
        rows = p.taking.rows ++ row ∷ [];
        table = Pairwise-snoc (TakerRow lines taker agent) replies p.taking.rows r row p.taking.table (record { taker_is = same; table = table });
        works = Works-row qs s agent p.taking.works all;
        asked_rush = asked_more (qs true) agent replies r (j true) (k true) (k2 true)
            (asked_later (qs true) agent replies (p.last.row.queues true).own (j true) (p.queues true) (k true) p.taking.asked_rush
            (p.last.stands.queues true).stretch)
            (rush_ends qs agent r k k2 last);
      };
      last = record {
        row = skip_row (λ b. []);
        is = record { skipped = λ b. []; skips = λ b. tt; queues = λ b. refl; set = refl };
        stands = Stands-empty qs s agent k2 n2;
      };
    }

-- an answer that found nothing
pub resting_none_more : {A B : Type 0} (qs : Bool → View A QueueEntry QueueRefused) (s : View B SetEntry ListRefused) (lines : List Line) (taker agent now : ℕ)
    (replies : List TakeReply) (j k k2 : Bool → List A) (m n n2 : List B)
    → TakingRest qs s lines taker agent replies j m k n → now ≡ agent
    → Replied qs s (TakenRow lines now None) now k n k2 n2 → TakingRest qs s lines taker agent replies j m k2 n2
resting_none_more qs s lines taker agent now replies j k k2 m n n2 p e replied =
    let done : Replied qs s (TakenRow lines agent None) agent k n k2 n2 = subst (λ (x : ℕ). Replied qs s (TakenRow lines x None) x k n k2 n2) e replied in
    let before : Bool → List QueueEntry = p.last.is.skipped in
    let all : Bool → List QueueEntry = λ b. before b ++ done.is.skipped b in
    record {
      queues = p.queues;
      set = p.set;
      taking = p.taking;
      last = record {
        row = skip_row all;
        is = record {
          skipped = all;
          skips = λ b. AllByRecursion-append (IsSkip lines b agent) (before b) (done.is.skipped b) (p.last.is.skips b) (done.is.skips b);
          queues = λ b. refl;
          set = refl;
        };
        stands = Stands-both qs s agent p.last.row done.row (skip_row all) before done.is.skipped [] [] p.queues k k2 p.set n n2 p.last.is.queues p.last.is.set
            done.is.queues done.is.set (λ b. refl) refl p.last.stands done.stands;
      };
    }

-- all own entries of a taker in one of the queues
pub resting_stretch : {A B : Type 0} (qs : Bool → View A QueueEntry QueueRefused) (s : View B SetEntry ListRefused) (rush : Bool) (lines : List Line)
    (taker agent : ℕ) (replies : List TakeReply) (j k : Bool → List A) (m n : List B)
    → (t : TakingRest qs s lines taker agent replies j m k n)
    → Stretch of_queue (qs rush) agent (queue_of_rows rush t.taking.rows ++ (t.last.row.queues rush).own) (j rush) (k rush)
resting_stretch qs s rush lines taker agent replies j k m n t =
    Stretch-trans of_queue (qs rush) agent (queue_of_rows rush t.taking.rows) (t.last.row.queues rush).own (j rush) (t.queues rush) (k rush)
    (Works-queue qs s rush agent t.taking.works) (t.last.stands.queues rush).stretch

pub resting_last : {A B : Type 0} (qs : Bool → View A QueueEntry QueueRefused) (s : View B SetEntry ListRefused) (lines : List Line) (taker agent now : ℕ)
    (replies : List TakeReply) (j k k2 : Bool → List A) (m n : List B)
    → TakingRest qs s lines taker agent replies j m k n → now ≡ agent → TakeEnds qs now None k k2 → TakeEnds qs agent None j k2
resting_last qs s lines taker agent now replies j k k2 m n p e ends = λ b.
    ends_later (qs b) agent (Empty agent) (queue_of_rows b p.taking.rows ++ (p.last.row.queues b).own) (j b) (k b) (k2 b)
    (resting_stretch qs s b lines taker agent replies j k m n p)
    (subst (λ (x : ℕ). EndsWith (qs b) x (Empty x) (k b) (k2 b)) e (ends b))

-- what comes last stays last where nobody asks when it came
pub ends_last : {A : Type 0} (q : View A QueueEntry QueueRefused) (agent : ℕ) (j k : List A) → EndsWith q agent (Empty agent) j k
    → LastIsEmpty agent (q.history k)
ends_last q agent j k e = record {
  front = q.history j ++ e.front;
  back = e.back;
  is = e.is ∙ sym (append_assoc (q.history j) e.front (Empty agent ∷ e.back));
  others = AllByRecursion-map (λ x. (agent_of_entry x ≢ agent) × q.crowd (agent_of_entry x)) (λ x. agent_of_entry x ≢ agent) (λ x h. h.0) e.back e.others;
}

-- what a taker did, where its agent is known by another name
pub did_take : {A B : Type 0} (qs : Bool → View A QueueEntry QueueRefused) (s : View B SetEntry ListRefused) (lines : List Line) (posters agent now : ℕ)
    (posts : List PostReply) (takes : List TakeReply) (j k : Bool → List A) (m n : List B)
    → now ≡ agent → posts ≡ []
    → TakingRest qs s lines (agent - posters) now takes j m k n → (length takes < jobs_in lines → TakeEnds qs now None j k)
    → DidTake qs s lines posters agent posts takes j m k n
did_take qs s lines posters agent now posts takes j k m n same none t ends = record {
  taking = subst (λ (x : ℕ). TakingRest qs s lines (agent - posters) x takes j m k n) same t;
  found_empty = λ less b. ends_last (qs b) agent (j b) (k b) (subst (λ (x : ℕ). EndsWith (qs b) x (Empty x) (j b) (k b)) same (ends less b));
  no_posts = none;
}

pub resting_set : {A B : Type 0} (qs : Bool → View A QueueEntry QueueRefused) (s : View B SetEntry ListRefused) (lines : List Line) (taker agent : ℕ)
    (replies : List TakeReply) (j k : Bool → List A) (m n : List B)
    → TakingRest qs s lines taker agent replies j m k n → IsPrefix m n
resting_set qs s lines taker agent replies j k m n t = prefix_trans m t.set n (Works-set qs s agent t.taking.works).later t.last.stands.set.stretch.later
