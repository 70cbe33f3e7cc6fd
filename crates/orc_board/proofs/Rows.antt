-- The rows of the replies of one call.
use Rattle.std.proofs.Common.{◌≡◌, ℕ, List, [], ◌∷◌, ◌++◌, Bool, true, false, not, Option, Some, None, refl, sym, subst, append-nil}
use Rattle.std.specs.List.{AllByRecursion}
use Rattle.orc_history.specs.declared.queue.QueueEntry.{QueueEntry}
use Rattle.orc_history.specs.declared.queue.QueueEntry.TheVariants.{Put, Took, Empty}
use Rattle.orc_history.specs.declared.queue.QueueRefused.{QueueRefused}
use Rattle.orc_history.specs.declared.set.SetEntry.{SetEntry}
use Rattle.orc_history.specs.declared.set.SetEntry.TheVariants.{Added, Removed}
use Rattle.orc_history.specs.declared.set.ListRefused.{ListRefused}
use Rattle.orc_jobs.specs.declared.line.Job.{Job}
use Rattle.orc_jobs.specs.declared.line.Line.{Line}
use Rattle.orc_jobs.specs.declared.line.Line.TheVariants as line
use Rattle.orc_jobs.specs.Line.{job_line}
use Rattle.orc_board.specs.declared.replies.PostWord.{PostWord}
use Rattle.orc_board.specs.declared.replies.TakeReply.{TakeReply}
use Rattle.orc_board.specs.Stretches.{View, of_queue, of_set, Stretch, Share, Did, just, nothing, refusal, Replied}
use Rattle.orc_history.specs.QueueHistory.{entry_of_dequeue}
use Rattle.orc_board.specs.Table.{IsJob, IsNoJob, IsSkip, AreSkips, Closes, EndsWith, TakenRow, TakeEnds, took_of, TookLast, taken_of, Next, Opened, Dropped, JobPart, JobRow, DropPart, DropRow, PostRow, IsWordOf, IsPlacedAt, claim_answer, in_its}
use Rattle.orc_board.proofs.Shares.{Stretch-trans, Stretch-refl, Did-just, Did-nothing}
use Rattle.orc_board.proofs.CallStretches.{ends_later}
use Rattle.orc_board.proofs.ListFacts.{AllByRecursion-append}

-- an insert with this answer
pub inserted : {B : Type 0} (s : View B SetEntry ListRefused) (agent id : ℕ) (told answer : Bool) (sa : ℕ) (m n : List B)
    → sa ≡ agent → told ≡ answer → Stretch of_set s sa (Added sa id told ∷ []) m n → Did of_set s agent (just (Added agent id answer ∷ [])) m n
inserted s agent id told answer sa m n e is added =
    Did-just of_set s agent (Added agent id answer ∷ []) m n
    (subst (λ (x : ℕ). Stretch of_set s x (Added x id answer ∷ []) m n) e (subst (λ (b : Bool). Stretch of_set s sa (Added sa id b ∷ []) m n) is added))

-- an id that was opened and closed again
pub opened_closed : {B : Type 0} (s : View B SetEntry ListRefused) (agent id : ℕ) (added gone : Bool) (sa sb : ℕ) (m l n : List B)
    → sa ≡ agent → sb ≡ agent → added ≡ true
    → Stretch of_set s sa (Added sa id added ∷ []) m l → Stretch of_set s sb (Removed sb id gone ∷ []) l n
    → Did of_set s agent (just (Added agent id true ∷ Removed agent id gone ∷ [])) m n
opened_closed s agent id added gone sa sb m l n f h yes_is one two =
    let first : Stretch of_set s agent (Added agent id true ∷ []) m l = (inserted s agent id added true sa m l f yes_is one).stretch in
    let second : Stretch of_set s agent (Removed agent id gone ∷ []) l n = subst (λ (x : ℕ). Stretch of_set s x (Removed x id gone ∷ []) l n) h two in
    Did-just of_set s agent (Added agent id true ∷ Removed agent id gone ∷ []) m n
    (Stretch-trans of_set s agent (Added agent id true ∷ []) (Removed agent id gone ∷ []) m l n first second)

-- a put that was refused, and one at a position
pub put_refused : {A : Type 0} (q : View A QueueEntry QueueRefused) (agent : ℕ) (why told : QueueRefused) (qa : ℕ) (j k : List A)
    → qa ≡ agent → told ≡ why → Did of_queue q qa (refusal told) j k → Did of_queue q agent (refusal why) j k
put_refused q agent why told qa j k e is refused =
    subst (λ (x : ℕ). Did of_queue q x (refusal why) j k) e (subst (λ (w : QueueRefused). Did of_queue q qa (refusal w) j k) is refused)

-- an insert that was refused
pub insert_refused : {B : Type 0} (s : View B SetEntry ListRefused) (agent : ℕ) (why told : ListRefused) (sa : ℕ) (m n : List B)
    → sa ≡ agent → told ≡ why → Did of_set s sa (refusal told) m n → Did of_set s agent (refusal why) m n
insert_refused s agent why told sa m n e is refused =
    subst (λ (x : ℕ). Did of_set s x (refusal why) m n) e (subst (λ (w : ListRefused). Did of_set s sa (refusal w) m n) is refused)

-- an id that was closed, or wasn't open
pub dropped : {B : Type 0} (s : View B SetEntry ListRefused) (agent id : ℕ) (told answer : Bool) (sa : ℕ) (m n : List B)
    → sa ≡ agent → told ≡ answer → Stretch of_set s sa (Removed sa id told ∷ []) m n → Did of_set s agent (just (Removed agent id answer ∷ [])) m n
dropped s agent id told answer sa m n e is removed =
    Did-just of_set s agent (Removed agent id answer ∷ []) m n
    (subst (λ (x : ℕ). Stretch of_set s x (Removed x id answer ∷ []) m n) e (subst (λ (b : Bool). Stretch of_set s sa (Removed sa id b ∷ []) m n) is removed))

-- a share in the queue that is meant, and none in the other
abbrev pub only : Bool → Share QueueEntry QueueRefused → Bool → Share QueueEntry QueueRefused
only false share false = share
only false share true = nothing
only true share false = nothing
only true share true = share

-- what a call did in one queue and in the set, as a row of all three containers
pub opened_row : {A B : Type 0} (qs : Bool → View A QueueEntry QueueRefused) (s : View B SetEntry ListRefused) (rush : Bool) (agent i id : ℕ) (w : PostWord)
    (j k : Bool → List A) (m n : List B)
    → IsWordOf rush w → k (not rush) ≡ j (not rush) → Opened (qs rush) s (JobPart agent i id w) agent (j rush) m (k rush) n
    → Replied qs s (JobRow rush agent i id w) agent j m k n
opened_row {A} qs s false agent i id w j k m n is_word same o = record {
  row = record { queues = only false o.queue; set = o.set };
  is = record { word = is_word; part = o.is; other = refl };
  stands = record {
    queues = elim [ false ↦ o.in_queue | true ↦ subst (λ (z : List A). Did of_queue (qs true) agent nothing (j true) z) (sym same) (Did-nothing of_queue (qs true) agent (j true)) ];
    set = o.in_set;
  };
}
opened_row {A} qs s true agent i id w j k m n is_word same o = record {
  row = record { queues = only true o.queue; set = o.set };
  is = record { word = is_word; part = o.is; other = refl };
  stands = record {
    queues = elim [ false ↦ subst (λ (z : List A). Did of_queue (qs false) agent nothing (j false) z) (sym same) (Did-nothing of_queue (qs false) agent (j false)) | true ↦ o.in_queue ];
    set = o.in_set;
  };
}

pub dropped_row : {A B : Type 0} (qs : Bool → View A QueueEntry QueueRefused) (s : View B SetEntry ListRefused) (now agent id : ℕ) (w : PostWord)
    (j : Bool → List A) (m n : List B)
    → now ≡ agent → Dropped s (DropPart now id w) now m n → Replied qs s (DropRow agent id w) agent j m j n
dropped_row qs s now agent id w j m n e dropped =
    let o : Dropped s (DropPart agent id w) agent m n = subst (λ (a : ℕ). Dropped s (DropPart a id w) a m n) e dropped in
    record {
      row = record { queues = λ x. nothing; set = o.set };
      is = record { part = o.is; none = λ x. refl };
      stands = record { queues = λ x. Did-nothing of_queue (qs x) agent (j x); set = o.in_set };
    }

-- so far only jobs that no line posts there were taken
pub record Passed {A : Type 0} (qs : Bool → View A QueueEntry QueueRefused) (lines : List Line) (agent : ℕ) (j k : Bool → List A) : Type 0 where
  pub skipped : Bool → List QueueEntry
  pub skips : AreSkips lines agent skipped
  pub stretch : (x : Bool) → Stretch of_queue (qs x) agent (skipped x) (j x) (k x)

pub passed_none : {A : Type 0} (qs : Bool → View A QueueEntry QueueRefused) (lines : List Line) (agent : ℕ) (j : Bool → List A) → Passed qs lines agent j j
passed_none qs lines agent j = record { skipped = λ x. []; skips = λ x. tt; stretch = λ x. Stretch-refl of_queue (qs x) agent (j x) }

-- what was taken next, of this agent
pub next_now : {A : Type 0} (qs : Bool → View A QueueEntry QueueRefused) (agent qa : ℕ) (got told : Option (Bool × ℕ × ℕ)) (j k : Bool → List A)
    → qa ≡ agent → got ≡ told → Next qs qa got j k → Next qs agent told j k
next_now qs agent qa got told j k e is next =
    subst (λ (x : ℕ). Next qs x told j k) e (subst (λ (o : Option (Bool × ℕ × ℕ)). Next qs qa o j k) is next)

one_skip : (lines : List Line) (agent job at : ℕ) (rush x : Bool) → IsNoJob lines rush job
    → AllByRecursion (IsSkip lines x agent) (in_its rush (Took agent job at ∷ []) x)
one_skip lines agent job at false false none = (record { job = job; at = at; is = refl; none = none }, tt)
one_skip lines agent job at false true none = tt
one_skip lines agent job at true false none = tt
one_skip lines agent job at true true none = (record { job = job; at = at; is = refl; none = none }, tt)

pub passed_more : {A : Type 0} (qs : Bool → View A QueueEntry QueueRefused) (lines : List Line) (agent : ℕ) (rush : Bool) (job at qa : ℕ)
    (got : Option (Bool × ℕ × ℕ)) (i j k : Bool → List A)
    → Passed qs lines agent i j → qa ≡ agent → got ≡ Some (rush, job, at) → Next qs qa got j k → IsNoJob lines rush job → Passed qs lines agent i k
passed_more qs lines agent rush job at qa got i j k p e is took none =
    let next = next_now qs agent qa got (Some (rush, job, at)) j k e is took in
    record {
      skipped = λ x. p.skipped x ++ in_its rush (Took agent job at ∷ []) x;
      skips = λ x.
          AllByRecursion-append (IsSkip lines x agent) (p.skipped x) (in_its rush (Took agent job at ∷ []) x) (p.skips x) (one_skip lines agent job at rush x none);
      stretch = λ x.
          Stretch-trans of_queue (qs x) agent (p.skipped x) (in_its rush (Took agent job at ∷ []) x) (i x) (j x) (k x) (p.stretch x) (next.stretches x);
    }

-- both queues were empty
pub taken_none : {A B : Type 0} (qs : Bool → View A QueueEntry QueueRefused) (s : View B SetEntry ListRefused) (lines : List Line) (agent qa : ℕ)
    (got : Option (Bool × ℕ × ℕ)) (i j k : Bool → List A) (m n : List B)
    → Passed qs lines agent i j → qa ≡ agent → got ≡ None → Next qs qa got j k → n ≡ m
    → Replied qs s (TakenRow lines agent None) agent i m k n
taken_none {B = B} qs s lines agent qa got i j k m n p e is took same =
    let next = next_now qs agent qa got None j k e is took in
    record {
      row = record { queues = λ x. just (p.skipped x); set = nothing };
      is = record { skipped = p.skipped; skips = p.skips; queues = λ x. refl; set = refl };
      stands = record {
        queues = λ x. Did-just of_queue (qs x) agent (p.skipped x) (i x) (k x)
            (subst (λ (own : List QueueEntry). Stretch of_queue (qs x) agent own (i x) (k x)) (append-nil (p.skipped x))
            (Stretch-trans of_queue (qs x) agent (p.skipped x) [] (i x) (j x) (k x) (p.stretch x) (next.stretches x)));
        set = subst (λ (z : List B). Did of_set s agent nothing m z) (sym same) (Did-nothing of_set s agent m);
      };
    }

-- a line's job was taken, and its id closed
pub taken_some : {A B : Type 0} (qs : Bool → View A QueueEntry QueueRefused) (s : View B SetEntry ListRefused) (lines : List Line) (agent qa sa id : ℕ)
    (rush : Bool) (job at : ℕ) (got : Option (Bool × ℕ × ℕ)) (r : TakeReply) (i j k : Bool → List A) (l m n : List B)
    → Passed qs lines agent i j → qa ≡ agent → sa ≡ agent → got ≡ Some (rush, job, at) → Next qs qa got j k → l ≡ m
    → r.at ≡ at → r.line ≡ job → r.rush ≡ rush → IsJob lines rush job id → Closes s lines sa id r.line r.what l n
    → Replied qs s (TakenRow lines agent (Some r)) agent i m k n
taken_some {B = B} qs s lines agent qa sa id rush job at got r i j k l m n p e f is took same at_is line_is rush_is posts closes =
    let told : got ≡ Some (r.rush, r.line, r.at) = rw (at_is, line_is, rush_is) is in
    let next = next_now qs agent qa got (Some (r.rush, r.line, r.at)) j k e told took in
    let own : Bool → List QueueEntry = in_its r.rush (Took agent r.line r.at ∷ []) in
    record {
      row = record { queues = λ x. just (p.skipped x ++ own x); set = just (Removed agent id (claim_answer r.what) ∷ []) };
      is = record {
        skipped = p.skipped;
        skips = p.skips;
        claim = record { id = id; job = rw (line_is, rush_is) posts; value = closes.value; queues = λ x. refl; set = refl };
      };
      stands = record {
        queues = λ x. Did-just of_queue (qs x) agent (p.skipped x ++ own x) (i x) (k x)
            (Stretch-trans of_queue (qs x) agent (p.skipped x) (own x) (i x) (j x) (k x) (p.stretch x) (next.stretches x));
        set = Did-just of_set s agent (Removed agent id (claim_answer r.what) ∷ []) m n
            (subst (λ (z : List B). Stretch of_set s agent (Removed agent id (claim_answer r.what) ∷ []) z n) same
            (subst (λ (x : ℕ). Stretch of_set s x (Removed x id (claim_answer r.what) ∷ []) l n) f closes.set));
      };
    }

-- the agent's last entries after a take
pub none_last : {A : Type 0} (qs : Bool → View A QueueEntry QueueRefused) (lines : List Line) (agent qa : ℕ) (got : Option (Bool × ℕ × ℕ))
    (i j k : Bool → List A)
    → Passed qs lines agent i j → qa ≡ agent → got ≡ None → Next qs qa got j k → TakeEnds qs agent None i k
none_last qs lines agent qa got i j k p e is took =
    let next = next_now qs agent qa got None j k e is took in
    λ x. ends_later (qs x) agent (Empty agent) (p.skipped x) (i x) (j x) (k x) (p.stretch x) (next.last x)

pub some_last : {A : Type 0} (qs : Bool → View A QueueEntry QueueRefused) (lines : List Line) (agent qa : ℕ) (rush : Bool) (job at : ℕ)
    (got : Option (Bool × ℕ × ℕ)) (r : TakeReply) (i j k : Bool → List A)
    → Passed qs lines agent i j → qa ≡ agent → got ≡ Some (rush, job, at) → Next qs qa got j k
    → r.at ≡ at → r.line ≡ job → r.rush ≡ rush → TakeEnds qs agent (taken_of (Some r)) i k
some_last qs lines agent qa rush job at got r i j k p e is took at_is line_is rush_is =
    let told : got ≡ Some (r.rush, r.line, r.at) = rw (at_is, line_is, rush_is) is in
    let last : TookLast qs agent r.rush r.line r.at j k = (next_now qs agent qa got (Some (r.rush, r.line, r.at)) j k e told took).last in
    record {
      took = ends_later (qs r.rush) agent (Took agent r.line r.at) (p.skipped r.rush) (i r.rush) (j r.rush) (k r.rush) (p.stretch r.rush) last.took;
      rush_first = λ h. ends_later (qs true) agent (Empty agent) (p.skipped true) (i true) (j true) (k true) (p.stretch true) (last.rush_first h);
    }

-- what a dequeue answered, of this agent
asked_now : {A : Type 0} (q : View A QueueEntry QueueRefused) (agent other : ℕ) (told got : Option (ℕ × ℕ)) (j k : List A) → other ≡ agent → got ≡ told
    → Stretch of_queue q other (took_of other got) j k → EndsWith q other (entry_of_dequeue other got) j k
    → Stretch of_queue q agent (took_of agent told) j k × EndsWith q agent (entry_of_dequeue agent told) j k
asked_now q agent other told got j k e is took last = (
  subst (λ (x : ℕ). Stretch of_queue q x (took_of x told) j k) e (subst (λ (o : Option (ℕ × ℕ)). Stretch of_queue q other (took_of other o) j k) is took),
  subst (λ (x : ℕ). EndsWith q x (entry_of_dequeue x told) j k) e (subst (λ (o : Option (ℕ × ℕ)). EndsWith q other (entry_of_dequeue other o) j k) is last),
)

module _ {A : Type 0} (qs : Bool → View A QueueEntry QueueRefused) (agent other : ℕ) (hurried : Option (ℕ × ℕ)) (j k : Bool → List A)
    (same : other ≡ agent) (took : Stretch of_queue (qs true) other (took_of other hurried) (j true) (k true))
    (last : EndsWith (qs true) other (entry_of_dequeue other hurried) (j true) (k true)) where
  -- the rush queue gave a job, and the queue wasn't asked
  pub next_of_rush : (job at : ℕ) → hurried ≡ Some (job, at) → k false ≡ j false → Next qs agent (Some (true, job, at)) j k
  next_of_rush job at is still =
      let asked = asked_now (qs true) agent other (Some (job, at)) hurried (j true) (k true) same is took last in
      record {
        stretches = elim [
          | false ↦ subst (λ (z : List A). Stretch of_queue (qs false) agent [] (j false) z) (sym still) (Stretch-refl of_queue (qs false) agent (j false))
          | true ↦ asked.0
        ];
        last = record { took = asked.1; rush_first = λ no. cc };
      }

  module _ (found : Option (ℕ × ℕ)) (empty : hurried ≡ None) (took_too : Stretch of_queue (qs false) agent (took_of agent found) (j false) (k false))
      (last_too : EndsWith (qs false) agent (entry_of_dequeue agent found) (j false) (k false)) where
    -- the rush queue was empty, and the queue gave a job
    pub next_of_queue : (job at : ℕ) → found ≡ Some (job, at) → Next qs agent (Some (false, job, at)) j k
    next_of_queue job at is =
        let asked = asked_now (qs true) agent other None hurried (j true) (k true) same empty took last in
        let given = asked_now (qs false) agent agent (Some (job, at)) found (j false) (k false) refl is took_too last_too in
        record { stretches = elim [ false ↦ given.0 | true ↦ asked.0 ]; last = record { took = given.1; rush_first = λ no. asked.1 } }

    -- both queues were empty
    pub next_of_none : found ≡ None → Next qs agent None j k
    next_of_none is =
        let asked = asked_now (qs true) agent other None hurried (j true) (k true) same empty took last in
        let given = asked_now (qs false) agent agent None found (j false) (k false) refl is took_too last_too in
        record { stretches = elim [ false ↦ given.0 | true ↦ asked.0 ]; last = elim [ false ↦ given.1 | true ↦ asked.1 ] }

-- a job that was put
pub placed_part : (agent i id at : ℕ) (rush : Bool) (w : PostWord) → IsPlacedAt rush at w
    → JobPart agent i id w (just (Put agent i at ∷ [])) (just (Added agent id true ∷ []))
placed_part agent i id at false w is = rw is (refl, refl)
placed_part agent i id at true w is = rw is (refl, refl)

-- a put with this answer
pub placed : {A : Type 0} (q : View A QueueEntry QueueRefused) (agent i at qa : ℕ) (j k : List A) → qa ≡ agent
    → Stretch of_queue q qa (Put qa i at ∷ []) j k → Did of_queue q agent (just (Put agent i at ∷ [])) j k
placed q agent i at qa j k e put =
    Did-just of_queue q agent (Put agent i at ∷ []) j k (subst (λ (x : ℕ). Stretch of_queue q x (Put x i at ∷ []) j k) e put)

-- a row of a line that posts a job, and of one that drops an id
pub job_line_row : {A B : Type 0} (qs : Bool → View A QueueEntry QueueRefused) (s : View B SetEntry ListRefused) (l : Line) (rush : Bool) (agent i id : ℕ)
    (op : Job) (text : List ℕ) (w : PostWord) (j k : Bool → List A) (m n : List B)
    → l ≡ job_line rush id op text → Replied qs s (JobRow rush agent i id w) agent j m k n → Replied qs s (PostRow agent i l w) agent j m k n
job_line_row qs s l false agent i id op text w j k m n is r = rw is r
job_line_row qs s l true agent i id op text w j k m n is r = rw is r

pub drop_line_row : {A B : Type 0} (qs : Bool → View A QueueEntry QueueRefused) (s : View B SetEntry ListRefused) (l : Line) (agent i id : ℕ)
    (w : PostWord) (j k : Bool → List A) (m n : List B)
    → l ≡ line.Drop id → Replied qs s (DropRow agent id w) agent j m k n → Replied qs s (PostRow agent i l w) agent j m k n
drop_line_row qs s l agent i id w j k m n is r = rw is r
