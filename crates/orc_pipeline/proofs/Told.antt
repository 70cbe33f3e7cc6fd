-- What an agent did, told from the beginning of all journals, beside all agents of the run, and past what others did later.
use Rattle.std.proofs.Common.{◌≡◌, ℕ, List, [], ◌++◌, true, refl, ap, sym, ◌∙◌}
use Rattle.std.specs.List.{AllByRecursion}
use mathlib.Core.List.{IsPrefix}
use Rattle.orc_history.specs.Journals.{own_of}
use Rattle.orc_history.specs.QueueHistory.{agent_of_entry}
use Rattle.orc_history.specs.declared.queue.QueueEntry.{QueueEntry}
use Rattle.orc_history.specs.declared.queue.QueueRefused.{QueueRefused}
use Rattle.orc_history.specs.declared.set.SetEntry.{SetEntry}
use Rattle.orc_history.specs.declared.set.ListRefused.{ListRefused}
use Rattle.orc_jobs.specs.declared.line.Line.{Line}
use Rattle.orc_board.specs.declared.replies.PostReply.{PostReply}
use Rattle.orc_board.specs.Stretches.{View, Stretch, Did, of_queue, nothing, beside}
use Rattle.orc_board.specs.Follows.{IsWorker}
use Rattle.orc_board.proofs.Shares.{DidAll-before, DidAll-more}
use Rattle.orc_board.proofs.Wholes.{Below, DidAll-beside}
use Rattle.orc_team.proofs.Learned.{Grows, none_since, since}
use Rattle.orc_workers.proofs.Learned.{quiet, still_last}
use Rattle.orc_stages.specs.declared.replies.StageReply.{StageReply}
use Rattle.orc_stages.specs.Stage.{QueueShare}
use Rattle.orc_stages.specs.Desks.{Acts}
use Rattle.orc_pipeline.specs.Team.{ToldByReplies}
use Rattle.orc_pipeline.specs.Ran.{in_run, unseen}
use Rattle.orc_stages.proofs.Shares.{self}

-- a set beside a queue of which nothing is known, and in which nothing happens
abbrev no_set : View ℕ SetEntry ListRefused
no_set = record { history = λ j. []; licence = λ agent why j from to. ⊥; crowd = λ agent. ⊥ }

-- from the beginning to a journal whose history is empty
from_start : {A : Type 0} (x : View A QueueEntry QueueRefused) (agent : ℕ) (j : List A) → x.history [] ≡ [] → x.history j ≡ []
    → Stretch of_queue x agent [] [] j
from_start x agent j none new =
    record { later = (j, refl); part = []; is = new ∙ sym (ap (λ z. z ++ []) none); own_is = refl; others = tt }

-- what the laws of the queues of a run give
pub record Laws {A : Type 0} (x : ℕ → View A QueueEntry QueueRefused) (C : ℕ → Type 0) : Type 0 where
  pub grows : (i : ℕ) → Grows (x i).history
  pub few : (i : ℕ) → Below (x i).crowd C
  pub none : (i : ℕ) → (x i).history [] ≡ []

-- from the journal j of a queue to the journal k only others of the run did something
pub record OthersDid {A : Type 0} (x : View A QueueEntry QueueRefused) (C : ℕ → Type 0) (agent : ℕ) (j k : List A) : Type 0 where
  pub later : IsPrefix j k
  pub own : own_of agent_of_entry agent (x.history k) ≡ own_of agent_of_entry agent (x.history j)
  pub below : AllByRecursion (λ e. C (agent_of_entry e)) (x.history k)

others_did : {A : Type 0} (x : View A QueueEntry QueueRefused) (C : ℕ → Type 0) (agent : ℕ) (j k : List A) → Grows x.history → OthersDid x C agent j k
    → Did of_queue (beside x C) agent nothing j k
others_did x C agent j k grows o =
    (quiet (λ rush. x) no_set C agent (λ rush. j) (λ rush. k) [] [] (λ rush. grows) (λ seen more. ([], refl)) (λ rush. o.later) ([], refl) (λ rush. o.own) refl
    (λ rush. o.below) tt).queues true

-- shares from the beginning
pub shares_first : {A : Type 0} (x : ℕ → View A QueueEntry QueueRefused) (C : ℕ → Type 0) (agent : ℕ) (acts : ℕ → List QueueShare) (j k : ℕ → List A)
    → Laws x C → ((i : ℕ) → (x i).history (j i) ≡ []) → Acts x agent acts j k → Acts (λ i. beside (x i) C) agent acts unseen k
shares_first x C agent acts j k laws new c = λ i.
    DidAll-before of_queue (beside (x i) C) agent self (acts i) [] (j i) (k i) (from_start (beside (x i) C) agent (j i) (laws.none i) (new i))
    (DidAll-beside of_queue (x i) C (laws.few i) agent self (acts i) (j i) (k i) (c i))

-- behind what others did first
pub shares_after : {A : Type 0} (x : ℕ → View A QueueEntry QueueRefused) (C : ℕ → Type 0) (agent : ℕ) (acts : ℕ → List QueueShare) (j k l : ℕ → List A)
    → Laws x C → ((i : ℕ) → OthersDid (x i) C agent (j i) (k i)) → Acts (λ i. beside (x i) C) agent acts k l → Acts (λ i. beside (x i) C) agent acts j l
shares_after x C agent acts j k l laws o c = λ i.
    DidAll-before of_queue (beside (x i) C) agent self (acts i) (j i) (k i) (l i) (others_did (x i) C agent (j i) (k i) (laws.grows i) (o i)).stretch (c i)

-- beside more agents
pub shares_among : {A : Type 0} (x : ℕ → View A QueueEntry QueueRefused) (C : ℕ → Type 0) (agent : ℕ) (acts : ℕ → List QueueShare) (j k : ℕ → List A)
    → Laws x C → Acts x agent acts j k → Acts (λ i. beside (x i) C) agent acts j k
shares_among x C agent acts j k laws c = λ i. DidAll-beside of_queue (x i) C (laws.few i) agent self (acts i) (j i) (k i) (c i)

-- past what others did later
pub shares_until : {A : Type 0} (x : ℕ → View A QueueEntry QueueRefused) (C : ℕ → Type 0) (agent : ℕ) (acts : ℕ → List QueueShare) (j k l : ℕ → List A)
    → Laws x C → ((i : ℕ) → OthersDid (x i) C agent (k i) (l i)) → Acts (λ i. beside (x i) C) agent acts j k → Acts (λ i. beside (x i) C) agent acts j l
shares_until x C agent acts j k l laws o c = λ i.
    DidAll-more of_queue (beside (x i) C) agent self (acts i) (j i) (k i) (l i) (c i) (others_did (x i) C agent (k i) (l i) (laws.grows i) (o i))

-- from a beginning of histories that are empty to that of all journals
pub others_first : {A : Type 0} (x : View A QueueEntry QueueRefused) (C : ℕ → Type 0) (agent : ℕ) (j k : List A) → x.history [] ≡ [] → x.history j ≡ []
    → OthersDid x C agent j k → OthersDid x C agent [] k
others_first x C agent j k none new o = record {
  later = (k, refl);
  own = o.own ∙ (ap (own_of agent_of_entry agent) new ∙ sym (ap (own_of agent_of_entry agent) none));
  below = o.below;
}

-- a worker, from its beginning
pub told_first : {A : Type 0} (x : ℕ → View A QueueEntry QueueRefused) (lines : List Line) (posters stages agent : ℕ) (posts : List PostReply)
    (moves : List StageReply) (j k : ℕ → List A)
    → Laws x (IsWorker posters stages) → ((i : ℕ) → (x i).history (j i) ≡ []) → ToldByReplies x lines posters agent posts moves j k
    → ToldByReplies (in_run x posters stages) lines posters agent posts moves unseen k
told_first x lines posters stages agent posts moves j k laws new told = record {
  acts = told.acts;
  acted = shares_first x (IsWorker posters stages) agent told.acts j k laws new told.acted;
  posted = told.posted;
  moved = told.moved;
  found_empty = told.found_empty;
}

-- a worker's last Empty is still its last once it has learned
pub told_until : {A : Type 0} (x : ℕ → View A QueueEntry QueueRefused) (lines : List Line) (posters stages agent : ℕ) (posts : List PostReply)
    (moves : List StageReply) (k l : ℕ → List A)
    → Laws x (IsWorker posters stages) → ((i : ℕ) → OthersDid (x i) (IsWorker posters stages) agent (k i) (l i))
    → ToldByReplies (in_run x posters stages) lines posters agent posts moves unseen k → ToldByReplies (in_run x posters stages) lines posters agent posts moves unseen l
told_until x lines posters stages agent posts moves k l laws o told = record {
  acts = told.acts;
  acted = shares_until x (IsWorker posters stages) agent told.acts unseen k l laws o told.acted;
  posted = told.posted;
  moved = told.moved;
  found_empty = λ place at less.
      let new = since (x place).history (laws.grows place) (k place) (l place) (o place).later in
      still_last agent ((x place).history (k place)) new.part ((x place).history (l place)) (told.found_empty place at less) new.is
      (none_since agent_of_entry agent ((x place).history (k place)) new.part ((x place).history (l place)) new.is (o place).own);
}
