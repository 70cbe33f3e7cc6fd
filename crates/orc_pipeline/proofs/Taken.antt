-- Desks that give up the passes of their first queue.
use Rattle.std.proofs.Common.{◌≡◌, ℕ, zero, suc, ◌+◌, ◌<◌, List, [], ◌∷◌, length, refl, ap, sym, ◌∙◌, subst, arith, slice_index_or}
use Rattle.std.specs.List.{AllByRecursion, remove}
use Rattle.orc_history.specs.declared.queue.SharedQueue.{Ghosts as QueueOf}
use Rattle.orc_stages.specs.declared.replies.StageDesk.{StageDesk}
use Rattle.orc_stages.specs.Desks.{ArePasses, seen_at}
use Rattle.orc_pipeline.specs.Run.{AreIdle, HasPass, HaveSeen, StandAhead}

-- what stood at place 0, ahead of what is left
pub first_and_rest : {X : Type 0} (all rest : List X) (x : X) → 0 < length all → x ≡ slice_index_or all 0 x → rest ≡ remove all 0 → all ≡ x ∷ rest
first_and_rest [] rest x some value is = absurd (omega (arith, some))
first_and_rest (y ∷ ys) rest x some value is = ap (λ z. z ∷ ys) (sym value) ∙ ap (λ zs. x ∷ zs) (sym is)

some_pass : {Q P A : Type 0} (q : QueueOf Q P A) (queue : Q) (queues : List Q) (agent : ℕ) (ps : List P) → ArePasses q agent (queue ∷ queues) ps → 0 < length ps
some_pass q queue queues agent [] h = absurd h
some_pass q queue queues agent (p ∷ ps) h = omega arith

-- idle desks of some queue have a pass
pub idle_passes : {Q P A : Type 0} (q : QueueOf Q P A) (queue : Q) (queues : List Q) (agent : ℕ) (ds : List (StageDesk P))
    → AreIdle q (queue ∷ queues) agent ds → AllByRecursion HasPass ds
idle_passes q queue queues agent [] h = tt
idle_passes q queue queues agent (d ∷ ds) h = (some_pass q queue queues agent d.passes.items h.0, idle_passes q queue queues (suc agent) ds h.1)

-- as many passes as desks, and no desk is lost
pub ahead_many : {P : Type 0} (ps : List P) (new old : List (StageDesk P)) → StandAhead ps new old → (length ps ≡ length old) × (length new ≡ length old)
ahead_many [] [] [] h = (refl, refl)
ahead_many [] [] (d ∷ ds) h = absurd h
ahead_many [] (e ∷ es) ds h = absurd h
ahead_many (p ∷ ps) [] ds h = absurd h
ahead_many (p ∷ ps) (e ∷ es) [] h = absurd h
ahead_many (p ∷ ps) (e ∷ es) (d ∷ ds) h = let more = ahead_many ps es ds h.1 in (omega (arith, more.0), omega (arith, more.1))

module _ {Q P A : Type 0} (q : QueueOf Q P A) (queue : Q) (queues : List Q) where
  -- idle passes of the queue, numbered from this agent
  pub record ArePassesOf (agent : ℕ) (ps : List P) : Type 0 where
    pub usable : AllByRecursion (λ p. q.usable queue p) ps
    pub numbered : (i : ℕ) (p : P) → i < length ps → q.agent_of queue (slice_index_or ps i p) ≡ agent + i

  one_more : (agent : ℕ) (p : P) (ps : List P) → q.usable queue p → q.agent_of queue p ≡ agent → ArePassesOf (suc agent) ps → ArePassesOf agent (p ∷ ps)
  one_more agent p ps usable at h = record {
    usable = (usable, h.usable);
    numbered = λ i. elim i as (λ n. (x : P) → n < length (p ∷ ps) → q.agent_of queue (slice_index_or (p ∷ ps) n x) ≡ agent + n) [
      | zero ↦ λ x low. at ∙ omega arith
      | suc n ↦ λ x low. h.numbered n x (omega (arith, low)) ∙ omega arith
    ];
  }

  -- those that were taken are passes of the first queue, and the desks have those of the others
  pub taken_passes : (agent : ℕ) (ps : List P) (new old : List (StageDesk P)) → StandAhead ps new old → AreIdle q (queue ∷ queues) agent old
      → ArePassesOf agent ps × AreIdle q queues agent new
  taken_passes agent [] [] [] h idle = (record { usable = tt; numbered = λ i p low. absurd (omega (arith, low)) }, tt)
  taken_passes agent [] [] (d ∷ ds) h idle = absurd h
  taken_passes agent [] (e ∷ es) ds h idle = absurd h
  taken_passes agent (p ∷ ps) [] ds h idle = absurd h
  taken_passes agent (p ∷ ps) (e ∷ es) [] h idle = absurd h
  taken_passes agent (p ∷ ps) (e ∷ es) (d ∷ ds) h idle =
      let here : ArePasses q agent (queue ∷ queues) (p ∷ e.passes.items) = subst (λ (xs : List P). ArePasses q agent (queue ∷ queues) xs) h.0 idle.0 in
      let more = taken_passes (suc agent) ps es ds h.1 idle.1 in
      (one_more agent p ps here.0 here.1 more.0, (here.2, more.1))

-- they have seen the journal of the first place, and the passes that are left those of the others
pub taken_seen : {Q P A : Type 0} (q : QueueOf Q P A) (k : ℕ → List A) (ps : List P) (new old : List (StageDesk P)) → StandAhead ps new old
    → HaveSeen q k old → AllByRecursion (λ p. q.journal p ≡ k 0) ps × HaveSeen q (λ i. k (suc i)) new
taken_seen q k [] [] [] h s = (tt, tt)
taken_seen q k [] [] (d ∷ ds) h s = absurd h
taken_seen q k [] (e ∷ es) ds h s = absurd h
taken_seen q k (p ∷ ps) [] ds h s = absurd h
taken_seen q k (p ∷ ps) (e ∷ es) [] h s = absurd h
taken_seen {P = P} q k (p ∷ ps) (e ∷ es) (d ∷ ds) h s =
    let here : (i : ℕ) → seen_at q (p ∷ e.passes.items) i ≡ k i = subst (λ (xs : List P). (i : ℕ) → seen_at q xs i ≡ k i) h.0 s.0 in
    let more = taken_seen q k ps es ds h.1 s.1 in
    ((here 0, more.0), (λ i. here (suc i), more.1))
