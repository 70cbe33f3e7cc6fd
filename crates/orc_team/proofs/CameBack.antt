-- What the workers of a team have come to, once a desk has learned from all of theirs twice over.
use Rattle.std.proofs.Common.{◌≡◌, ℕ, List, [], ◌∷◌, ap, ◌∙◌}
use Rattle.std.specs.List.{AllByRecursion}
use Rattle.orc_history.specs.Lists.{Pairwise}
use Rattle.orc_team.specs.Learning.{HasSeenAll, LearnsAll, SameWorker, own_in}
use Rattle.orc_team.specs.Site.{Site}
use Rattle.orc_team.specs.declared.team.Worker.{Worker}

-- a journal for each container
abbrev pub Journals : {D : Type 0} → Site D → Type 0
Journals s = (c : s.Container) → List (s.Step c)

-- between two journals an agent has no new entry of its own
abbrev pub Kept : {D : Type 0} → (s : Site D) → Journals s → Journals s → ℕ → Type 0
Kept s k1 k2 a = (c : s.Container) → own_in s c a (k2 c) ≡ own_in s c a (k1 c)

module _ {D T : Type 0} (s : Site D) where
  -- what learning twice over has made of a worker
  pub record Learnt (k : Journals s) (w v : Worker D T) : Type 0 where
    pub whole : (c : s.Container) → HasSeenAll (λ (x : Worker D T). x.agent) (λ (x : Worker D T). s.journal c x.desk) (own_in s c) (k c) w v
    pub same : SameWorker w v

  learnt_each : (k : Journals s) (ws vs : List (Worker D T))
      → ((c : s.Container) → Pairwise (HasSeenAll (λ (x : Worker D T). x.agent) (λ (x : Worker D T). s.journal c x.desk) (own_in s c) (k c)) ws vs)
      → Pairwise SameWorker ws vs → Pairwise (Learnt k) ws vs
  learnt_each k [] [] a b = tt
  learnt_each k [] (v ∷ vs) a b = absurd b
  learnt_each k (w ∷ ws) [] a b = absurd b
  learnt_each k (w ∷ ws) (v ∷ vs) a b = (record { whole = λ c. (a c).0; same = b.0 }, learnt_each k ws vs (λ c. (a c).1) b.1)

  pub learnt_all : (me : ℕ) (old new : D) (ws vs : List (Worker D T)) → LearnsAll s me old new ws vs → Pairwise SameWorker ws vs
      → Pairwise (Learnt (λ c. s.journal c new)) ws vs
  learnt_all me old new ws vs l same = learnt_each (λ c. s.journal c new) ws vs (λ c. (l c).each) same

  -- all have then seen the same journals
  pub seen_after : (k : Journals s) (us ts : List (Worker D T)) → Pairwise (Learnt k) us ts
      → AllByRecursion (λ (w : Worker D T). (c : s.Container) → s.journal c w.desk ≡ k c) ts
  seen_after k [] [] l = tt
  seen_after k [] (t ∷ ts) l = absurd l
  seen_after k (u ∷ us) [] l = absurd l
  seen_after k (u ∷ us) (t ∷ ts) l = ((λ c. (l.0.whole c).is), seen_after k us ts l.1)

  -- those who learn once more have no new entries of their own
  pub kept_all : (k l : Journals s) (us ts : List (Worker D T)) → AllByRecursion (λ (w : Worker D T). (c : s.Container) → s.journal c w.desk ≡ k c) us
      → Pairwise (Learnt l) us ts → AllByRecursion (λ (w : Worker D T). Kept s k l w.agent) us
  kept_all k l [] [] a p = tt
  kept_all k l [] (t ∷ ts) a p = absurd p
  kept_all k l (u ∷ us) [] a p = absurd p
  kept_all k l (u ∷ us) (t ∷ ts) a p = ((λ c. (p.0.whole c).own_is ∙ ap (λ j. own_in s c u.agent j) (a.0 c)), kept_all k l us ts a.1 p.1)
