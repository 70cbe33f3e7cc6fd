-- Desks that get the passes of one queue more.
use Rattle.std.proofs.Common.{◌≡◌, ℕ, zero, suc, ◌+◌, ◌<◌, List, [], ◌∷◌, ◌++◌, length, refl, sym, ◌∙◌, subst, arith, slice_index_or}
use Rattle.orc_history.specs.declared.queue.SharedQueue.{Ghosts as QueueOf}
use Rattle.orc_stages.specs.declared.replies.StageDesk.{StageDesk}
use Rattle.orc_stages.specs.Desks.{ArePasses}
use Rattle.orc_pipeline.specs.Run.{AreFresh, IsNewDesk, IsNew, StandAhead}

new_ahead : {Q P A : Type 0} (q : QueueOf Q P A) (queue : Q) (queues : List Q) (p : P) (ps : List P) → q.history queue (q.journal p) ≡ [] → IsNew q queues ps
    → IsNew q (queue ∷ queues) (p ∷ ps)
new_ahead q queue queues p ps new news zero = new
new_ahead q queue queues p ps new news (suc i) = news i

fresh_desk : {Q P A : Type 0} (q : QueueOf Q P A) (queue : Q) (queues : List Q) (agent : ℕ) (p : P) (d e : StageDesk P) → q.usable queue p
    → q.agent_of queue p ≡ agent → q.history queue (q.journal p) ≡ [] → e.passes.items ≡ p ∷ d.passes.items → IsNewDesk q queues agent d
    → IsNewDesk q (queue ∷ queues) agent e
fresh_desk {P = P} q queue queues agent p d e usable at new is f = record {
  passes = subst (λ (ps : List P). ArePasses q agent (queue ∷ queues) ps) (sym is) (usable, at, f.passes);
  new = subst (λ (ps : List P). IsNew q (queue ∷ queues) ps) (sym is) (new_ahead q queue queues p d.passes.items new f.new);
}

pub fresh_ahead : {Q P A : Type 0} (q : QueueOf Q P A) (queue : Q) (queues : List Q) (agent : ℕ) (ps : List P) (ds es : List (StageDesk P))
    → ((i : ℕ) (p : P) → i < length ps → q.usable queue (slice_index_or ps i p))
    → ((i : ℕ) (p : P) → i < length ps → q.history queue (q.journal (slice_index_or ps i p)) ≡ [])
    → ((i : ℕ) (p : P) → i < length ps → q.agent_of queue (slice_index_or ps i p) ≡ agent + i)
    → StandAhead ps ds es → AreFresh q queues agent ds → AreFresh q (queue ∷ queues) agent es
fresh_ahead q queue queues agent [] [] [] usable new at h f = tt
fresh_ahead q queue queues agent [] [] (e ∷ es) usable new at h f = absurd h
fresh_ahead q queue queues agent [] (d ∷ ds) es usable new at h f = absurd h
fresh_ahead q queue queues agent (p ∷ ps) [] es usable new at h f = absurd h
fresh_ahead q queue queues agent (p ∷ ps) (d ∷ ds) [] usable new at h f = absurd h
fresh_ahead q queue queues agent (p ∷ ps) (d ∷ ds) (e ∷ es) usable new at h f =
    let here : q.agent_of queue p ≡ agent = at 0 p (omega arith) ∙ omega arith in (
      fresh_desk q queue queues agent p d e (usable 0 p (omega arith)) here (new 0 p (omega arith)) h.0 f.0,
      fresh_ahead q queue queues (suc agent) ps ds es (λ i x low. usable (suc i) x (omega (arith, low))) (λ i x low. new (suc i) x (omega (arith, low)))
          (λ i x low. at (suc i) x (omega (arith, low)) ∙ omega arith) h.1 f.1,
    )

-- one desk more without a pass
empty_more : {Q P A : Type 0} (q : QueueOf Q P A) (k : ℕ) (ds : List (StageDesk P)) (d : StageDesk P) → d.passes.items ≡ [] → AreFresh q [] k ds
    → AreFresh q [] k (ds ++ d ∷ [])
empty_more {P = P} q k [] d none f =
    (record { passes = subst (λ (ps : List P). ArePasses q k [] ps) (sym none) tt; new = λ i. refl }, tt)
empty_more q k (e ∷ ds) d none f = (f.0, empty_more q (suc k) ds d none f.1)

pub empty_one : {Q P A : Type 0} (q : QueueOf Q P A) (ds all : List (StageDesk P)) (d : StageDesk P) → all ≡ ds ++ d ∷ [] → d.passes.items ≡ []
    → AreFresh q [] 0 ds → AreFresh q [] 0 all
empty_one {P = P} q ds all d is none f = subst (λ (xs : List (StageDesk P)). AreFresh q [] 0 xs) (sym is) (empty_more q 0 ds d none f)
