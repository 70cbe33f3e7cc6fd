-- The passes of the first of some queues are taken from their desks, and its domain is brought to rest.
use Rattle.std.proofs.Common.{All, ◌≡◌, ℕ, suc, List, [], ◌∷◌, ◌++◌, length, ap, sym, ◌∙◌, subst, arith, append-nil, append_assoc}
use Rattle.std.proofs.lemmas.List.Elements.{All-from_recursion}
use Rattle.std.specs.List.{AllByRecursion}
use Rattle.orc_heap.specs.declared.links.Links.{Ghosts as LinksOf}
use Rattle.orc_history.specs.declared.queue.SharedQueue.{Ghosts as QueueOf}
use Rattle.orc_fifo_rule.specs.declared.fifo.FifoNote.{FifoNote}
use Rattle.orc_pipeline.specs.Run.{AreIdle, HaveSeen, StandAhead, TookFirst}
use Rattle.orc_stages.specs.declared.replies.StageDesk.{StageDesk}
use Rattle.orc_pipeline.proofs.Taken.{ahead_many, taken_passes, taken_seen}
use Rattle.orc_at_rest.proofs.Passes.{ArePasses}
use Rattle.orc_at_rest.specs.Domains.{IsLeftOf}
use Rattle.orc_stages_run.specs.Queues.{AreLeft, LeavesMore}

module _ {Q P A : Type 0} (q : QueueOf Q P A) (queue : Q) (rest all : List Q) (before ps : List P) (old new : List (StageDesk P)) (is : all ≡ queue ∷ rest)
    (none : before ≡ []) (t : TookFirst before old ps new)
  where
    ahead : StandAhead ps new old
    ahead = subst (λ (xs : List P). StandAhead xs new old) (sym (t.is ∙ ap (λ xs. xs ++ t.taken) none)) t.ahead

    -- the passes of the first queue, in order of agent; and the desks are idle ones of the others
    pub passes_of : AreIdle q all 0 old → ArePasses (λ p. q.usable queue p) (q.agent_of queue) (length old) ps
    passes_of idle =
        let h = taken_passes q queue rest 0 ps new old ahead (subst (λ (qs : List Q). AreIdle q qs 0 old) is idle) in
        record {
          usable = All-from_recursion (λ p. q.usable queue p) ps h.0.usable;
          numbered = λ i p low. let at = h.0.numbered i p low in omega (arith, at);
          many = (ahead_many ps new old ahead).0;
        }

    pub idle_after : AreIdle q all 0 old → AreIdle q rest 0 new
    idle_after idle = (taken_passes q queue rest 0 ps new old ahead (subst (λ (qs : List Q). AreIdle q qs 0 old) is idle)).1

    pub as_many : length new ≡ length old
    as_many = (ahead_many ps new old ahead).1

    pub saw_first : (k : ℕ → List A) → HaveSeen q k old → All (λ p. q.journal p ≡ k 0) ps
    saw_first k seen = All-from_recursion (λ p. q.journal p ≡ k 0) ps (taken_seen q k ps new old ahead seen).0

    pub saw_others : (k : ℕ → List A) → HaveSeen q k old → HaveSeen q (λ i. k (suc i)) new
    saw_others k seen = (taken_seen q k ps new old ahead seen).1

-- what holds of the first of some things, and of the others
pub of_first : {X : Type 0} (P : X → Type 0) (all rest : List X) (x : X) → all ≡ x ∷ rest → AllByRecursion P all → P x
of_first {X} P all rest x is h = (subst (λ (xs : List X). AllByRecursion P xs) is h).0

pub of_others : {X : Type 0} (P : X → Type 0) (all rest : List X) (x : X) → all ≡ x ∷ rest → AllByRecursion P all → AllByRecursion P rest
of_others {X} P all rest x is h = (subst (λ (xs : List X). AllByRecursion P xs) is h).1

-- where there are as many agents as before, each queue is for as many
pub as_few : {Q : Type 0} (agents_in : Q → ℕ) (n m : ℕ) (qs : List Q) → m ≡ n → AllByRecursion (λ q. n ≡ agents_in q) qs → AllByRecursion (λ q. m ≡ agents_in q) qs
as_few agents_in n m qs is h = subst (λ (x : ℕ). AllByRecursion (λ q. x ≡ agents_in q) qs) (sym is) h

module _ {Q L D P S R : Type 0} (domain_of : Q → L) (members : LinksOf L D P S FifoNote) (rests : L → List P → R → Type 0) where
  nothing_more : (queues : List Q) (k : ℕ → List S) (rs : List R) → length queues ≡ 0 → LeavesMore domain_of members rests queues k rs rs
  nothing_more [] k rs none = record { more = []; is = sym (append-nil rs); left = tt }
  nothing_more (q ∷ qs) k rs none = absurd (omega (arith, none))

  -- of no queue nothing is left
  pub none_more : (queues : List Q) (k : ℕ → List S) (rs after : List R) → length queues ≡ 0 → after ≡ rs → LeavesMore domain_of members rests queues k rs after
  none_more queues k rs after none same =
      subst (λ (xs : List R). LeavesMore domain_of members rests queues k rs xs) (sym same) (nothing_more queues k rs none)

  -- what is left of the first queue, and then of the others
  pub one_more : (q : Q) (rest all : List Q) (k : ℕ → List S) (r : R) (before mid after : List R) → all ≡ q ∷ rest → mid ≡ before ++ r ∷ []
      → IsLeftOf members rests (domain_of q) (k 0) r → LeavesMore domain_of members rests rest (λ i. k (suc i)) mid after
      → LeavesMore domain_of members rests all k before after
  one_more q rest all k r before mid after is m left h = record {
    more = r ∷ h.more;
    is = h.is ∙ (ap (λ xs. xs ++ h.more) m ∙ append_assoc before (r ∷ []) h.more);
    left =
        let both : AreLeft domain_of members rests (q ∷ rest) k (r ∷ h.more) = (left, h.left) in
        subst (λ (qs : List Q). AreLeft domain_of members rests qs k (r ∷ h.more)) (sym is) both;
  }

  -- what was put behind nothing is all
  pub all_left : (queues : List Q) (k : ℕ → List S) (before rs : List R) → before ≡ [] → LeavesMore domain_of members rests queues k before rs
      → AreLeft domain_of members rests queues k rs
  all_left queues k before rs none h =
      subst (λ (xs : List R). AreLeft domain_of members rests queues k xs) (sym (h.is ∙ ap (λ xs. xs ++ h.more) none)) h.left
