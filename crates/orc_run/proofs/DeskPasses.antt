-- What holds of the desks of a run holds of their passes.
use Rattle.std.proofs.Common.{All, ◌≡◌, Bool, true, false, ℕ, zero, suc, ◌+◌, ◌<◌, List, [], ◌∷◌, ◌++◌, length, map, slice_index_or, sym, ap, ◌∙◌, subst, arith}
use Rattle.std.proofs.lemmas.List.{length-map}
use Rattle.std.proofs.lemmas.List.Elements.{All-from_recursion}
use Rattle.std.specs.List.{AllByRecursion}
use Rattle.orc_history.specs.declared.queue.SharedQueue.{Ghosts as QueueOf}
use Rattle.orc_history.specs.declared.set.SharedSet.{Ghosts as SetOf}
use Rattle.orc_board.specs.declared.desk.Desk.{Desk}
use Rattle.orc_board.specs.Desk.{IsDesk, seen_in}
use Rattle.orc_board.specs.Stretches.{pick}
use Rattle.orc_at_rest.proofs.Passes.{ArePasses}
use Rattle.orc_workers.specs.Desks.{AreIdle, HaveSeenTheSame, queue_seen, set_seen}

-- what was put behind none is all
alone : {X : Type 0} (none ps qs : List X) → none ≡ [] → qs ≡ none ++ ps → qs ≡ ps
alone none ps qs nobody is = is ∙ ap (λ xs. xs ++ ps) nobody

-- a desk's pass of the queue, or of the rush queue
abbrev pub pass_at : {P R : Type 0} → Bool → Desk P R → P
pass_at rush desk = pick desk.queue desk.rush rush

module _ {Q S P R A B : Type 0} (q : QueueOf Q P A) (s : SetOf S R B) (queue rush : Q) (set : S) where
  -- of each queue
  usable_at : (b : Bool) (agent : ℕ) (desk : Desk P R) → IsDesk q s queue rush set agent desk → q.usable (pick queue rush b) (pass_at b desk)
  usable_at false agent desk h = h.queue_pass
  usable_at true agent desk h = h.rush_pass

  agent_at : (b : Bool) (agent : ℕ) (desk : Desk P R) → IsDesk q s queue rush set agent desk → q.agent_of (pick queue rush b) (pass_at b desk) ≡ agent
  agent_at false agent desk h = h.queue_agent
  agent_at true agent desk h = h.rush_agent

  -- the passes of a container are idle passes of it, in order of agent
  module _ {X : Type 0} (pass : Desk P R → X) (usable : X → Type 0) (agent_of : X → ℕ)
      (is_usable : (agent : ℕ) (desk : Desk P R) → IsDesk q s queue rush set agent desk → usable (pass desk))
      (is_agent : (agent : ℕ) (desk : Desk P R) → IsDesk q s queue rush set agent desk → agent_of (pass desk) ≡ agent)
    where
      all_usable : (agent : ℕ) (desks : List (Desk P R)) → AreIdle q s queue rush set agent desks → AllByRecursion usable (map pass desks)
      all_usable agent [] h = tt
      all_usable agent (desk ∷ desks) h = (is_usable agent desk h.0, all_usable (suc agent) desks h.1)

      all_numbered : (agent : ℕ) (desks : List (Desk P R)) → AreIdle q s queue rush set agent desks → (i : ℕ) (p : X) → i < length (map pass desks)
          → agent_of (slice_index_or (map pass desks) i p) ≡ agent + i
      all_numbered agent [] h i p low = absurd (omega (arith, low))
      all_numbered agent (desk ∷ desks) h zero p low = let is = is_agent agent desk h.0 in omega (arith, is)
      all_numbered agent (desk ∷ desks) h (suc i) p low = let is = all_numbered (suc agent) desks h.1 i p (omega (arith, low)) in omega (arith, is)

      -- the passes of all desks, which were put behind none
      passes_there : (desks : List (Desk P R)) → AreIdle q s queue rush set 0 desks → (none qs : List X) → none ≡ [] → qs ≡ none ++ map pass desks
          → ArePasses usable agent_of (length desks) qs
      passes_there desks h none qs nobody is = subst (λ (xs : List X). ArePasses usable agent_of (length desks) xs) (sym (alone none _ qs nobody is)) record {
        usable = All-from_recursion usable (map pass desks) (all_usable 0 desks h);
        numbered = λ i p low. let is = all_numbered 0 desks h i p low in omega (arith, is);
        many = length-map desks pass;
      }

  pub queue_passes : (b : Bool) (desks : List (Desk P R)) → AreIdle q s queue rush set 0 desks → (none qs : List P) → none ≡ []
      → qs ≡ none ++ map (pass_at b) desks → ArePasses (λ p. q.usable (pick queue rush b) p) (q.agent_of (pick queue rush b)) (length desks) qs
  queue_passes b = passes_there (pass_at b) (λ p. q.usable (pick queue rush b) p) (q.agent_of (pick queue rush b)) (usable_at b) (agent_at b)

  pub set_passes : (desks : List (Desk P R)) → AreIdle q s queue rush set 0 desks → (none qs : List R) → none ≡ []
      → qs ≡ none ++ map (λ (desk : Desk P R). desk.set) desks → ArePasses (λ p. s.usable set p) (s.agent_of set) (length desks) qs
  set_passes = passes_there (λ (desk : Desk P R). desk.set) (λ p. s.usable set p) (s.agent_of set) (λ agent desk d. d.set_pass) (λ agent desk d. d.set_agent)

of_each : {D X : Type 0} (pass : D → X) (T : D → Type 0) (P : X → Type 0) → ((desk : D) → T desk → P (pass desk)) → (desks : List D)
    → AllByRecursion T desks → AllByRecursion P (map pass desks)
of_each pass T P f [] h = tt
of_each pass T P f (desk ∷ desks) h = (f desk h.0, of_each pass T P f desks h.1)

-- what holds of each desk holds of its pass, where these were put behind none
of_passes : {D X : Type 0} (pass : D → X) (T : D → Type 0) (P : X → Type 0) → ((desk : D) → T desk → P (pass desk)) → (desks : List D)
    → AllByRecursion T desks → (none qs : List X) → none ≡ [] → qs ≡ none ++ map pass desks → All P qs
of_passes {D} {X} pass T P f desks h none qs nobody is =
    subst (λ (xs : List X). All P xs) (sym (alone none _ qs nobody is)) (All-from_recursion P (map pass desks) (of_each pass T P f desks h))

-- all passes of a queue, and of the set, have seen the same
module _ {Q S P R A B : Type 0} (q : QueueOf Q P A) (s : SetOf S R B) (queue rush : Q) (set : S) (desks : List (Desk P R))
    (idle : AreIdle q s queue rush set 0 desks) (same : HaveSeenTheSame q s desks)
  where
    abbrev SawTheSame : Desk P R → Type 0
    SawTheSame desk = ((b : Bool) → seen_in q desk b ≡ queue_seen q desks b) × (s.journal desk.set ≡ set_seen s desks)

    pub queue_saw : (b : Bool) → (none qs : List P) → none ≡ [] → qs ≡ none ++ map (pass_at b) desks → All (λ p. q.journal p ≡ queue_seen q desks b) qs
    queue_saw false = of_passes (pass_at false) SawTheSame (λ p. q.journal p ≡ queue_seen q desks false) (λ desk h. h.0 false) desks same
    queue_saw true = of_passes (pass_at true) SawTheSame (λ p. q.journal p ≡ queue_seen q desks true) (λ desk h. h.0 true) desks same

    pub set_saw : (none qs : List R) → none ≡ [] → qs ≡ none ++ map (λ (desk : Desk P R). desk.set) desks → All (λ p. s.journal p ≡ set_seen s desks) qs
    set_saw = of_passes (λ (desk : Desk P R). desk.set) SawTheSame (λ p. s.journal p ≡ set_seen s desks) (λ desk h. h.1) desks same
