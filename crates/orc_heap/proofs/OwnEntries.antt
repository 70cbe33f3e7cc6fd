-- Whose the entries of allowed events are.
use Rattle.std.proofs.Common.{Bool, List, Option, [], ap, append-nil, append_assoc, cond, false, refl, sym, true, ℕ, ◌++◌, ◌==◌, ◌∙◌, ◌∷◌, ◌≡◌, ◌≢◌, ◌⊎◌}
use Rattle.std.proofs.lemmas.Bool.{eq-eqb, eqb-false, eqb-true, ne_eqb}
use Rattle.std.proofs.lemmas.List.Elements.{filter-append}
use Rattle.std.specs.List.{AllByRecursion}
use Rattle.orc_heap.specs.Allowed.{AllAllowed, events_by}
use Rattle.orc_heap.specs.Journals.{noted_entries}
use Rattle.orc_heap.specs.declared.events.Event.{Event}
use Rattle.orc_history.specs.Journals.{Adds, own_of}

module _ {N E : Type 0} (entries_in : Option N → List E) where
  pub noted-append : (es fs : List (Event N)) → noted_entries entries_in (es ++ fs) ≡ noted_entries entries_in es ++ noted_entries entries_in fs
  noted-append [] fs = refl
  noted-append (e ∷ es) fs =
      ap (λ z. entries_in e.note ++ z) (noted-append es fs) ∙ sym (append_assoc (entries_in e.note) (noted_entries entries_in es) (noted_entries entries_in fs))

  pub noted-snoc : (es : List (Event N)) (e : Event N) → noted_entries entries_in (es ++ e ∷ []) ≡ noted_entries entries_in es ++ entries_in e.note
  noted-snoc es e = noted-append es (e ∷ []) ∙ ap (λ z. noted_entries entries_in es ++ z) (append-nil (entries_in e.note))

  -- each entry of an allowed event is of the event's agent
  module _ (agent_of : E → ℕ) (may : List (Event N) → Event N → Type 0)
      (own : (es : List (Event N)) (e : Event N) → may es e → AllByRecursion (λ (x : E). agent_of x ≡ e.agent) (entries_in e.note))
    where
      own_all : (agent : ℕ) (xs : List E) → AllByRecursion (λ (x : E). agent_of x ≡ agent) xs → own_of agent_of agent xs ≡ xs
      own_all agent [] all = refl
      own_all agent (x ∷ xs) all = rw (eq-eqb (agent_of x) agent all.0) (ap (λ z. x ∷ z) (own_all agent xs all.1))

      own_none : (agent by : ℕ) (xs : List E) → by ≢ agent → AllByRecursion (λ (x : E). agent_of x ≡ by) xs → own_of agent_of agent xs ≡ []
      own_none agent by [] other all = refl
      own_none agent by (x ∷ xs) other all = rw (ne_eqb (agent_of x) agent (λ e. other (sym all.0 ∙ e))) (own_none agent by xs other all.1)

      -- the agent's own entries of an event are those of its own event
      own_of_event : (agent : ℕ) (e : Event N) (mine : List (Event N)) → AllByRecursion (λ (x : E). agent_of x ≡ e.agent) (entries_in e.note)
          → own_of agent_of agent (entries_in e.note) ++ noted_entries entries_in mine ≡ noted_entries entries_in (cond (e.agent == agent) (e ∷ mine) mine)
      own_of_event agent e mine all = cases (e.agent == agent) refl
        where
          cases : (b : Bool) → (e.agent == agent) ≡ b → own_of agent_of agent (entries_in e.note)
              ++ noted_entries entries_in mine ≡ noted_entries entries_in (cond b (e ∷ mine) mine)
          cases true is =
              let by : e.agent ≡ agent = eqb-true e.agent agent is in
              ap (λ z. z ++ noted_entries entries_in mine) (own_all agent (entries_in e.note) (rw by at all))
          cases false is = ap (λ z. z ++ noted_entries entries_in mine) (own_none agent e.agent (entries_in e.note) (eqb-false e.agent agent is) all)

      -- the agent's own entries of allowed events are those of its own events
      pub own_of_events : (agent : ℕ) (seen es : List (Event N)) → AllAllowed may seen es
          → own_of agent_of agent (noted_entries entries_in es) ≡ noted_entries entries_in (events_by agent es)
      own_of_events agent seen [] all = refl
      own_of_events agent seen (e ∷ es) all =
          filter-append (λ (x : E). agent_of x == agent) (entries_in e.note) (noted_entries entries_in es)
          ∙ (ap (λ z. own_of agent_of agent (entries_in e.note) ++ z) (own_of_events agent (seen ++ e ∷ []) es all.1)
          ∙ own_of_event agent e (events_by agent es) (own seen e all.0))

      of_event : (P : ℕ → Type 0) (by : ℕ) (rest : List E) → P by → AllByRecursion (λ (x : E). P (agent_of x)) rest
          → (xs : List E) → AllByRecursion (λ (x : E). agent_of x ≡ by) xs → AllByRecursion (λ (x : E). P (agent_of x)) (xs ++ rest)
      of_event P by rest here later [] mine = later
      of_event P by rest here later (x ∷ xs) mine = (rw mine.0 here, of_event P by rest here later xs mine.1)

      -- a fact of the agents of the events is one of the agents of the entries
      pub entries_agents : (P : ℕ → Type 0) (seen es : List (Event N)) → AllAllowed may seen es → AllByRecursion (λ (e : Event N). P e.agent) es
          → AllByRecursion (λ (x : E). P (agent_of x)) (noted_entries entries_in es)
      entries_agents P seen [] all agents = tt
      entries_agents P seen (e ∷ es) all agents =
          of_event P e.agent (noted_entries entries_in es) agents.0 (entries_agents P (seen ++ e ∷ []) es all.1 agents.1) (entries_in e.note) (own seen e all.0)

      -- what allowed events add to the history
      pub entries_added : (crowd : ℕ → Type 0) (agent : ℕ) (seen more : List (Event N)) → AllAllowed may seen more
          → AllByRecursion (λ (e : Event N). (e.agent ≡ agent) ⊎ crowd e.agent) more
          → Adds agent_of crowd agent (noted_entries entries_in seen) (noted_entries entries_in (events_by agent more))
          (noted_entries entries_in (seen ++ more))
      entries_added crowd agent seen more all agents = record {
        part = noted_entries entries_in more;
        is = noted-append seen more;
        own_is = own_of_events agent seen more all;
        others = entries_agents (λ (a : ℕ). (a ≡ agent) ⊎ crowd a) seen more all agents;
      }
