-- What a pass has seen before and after a call stands in its domain's journal.
use Rattle.std.proofs.Common.{List, Option, [], ap, inr, subst, sym, true, ℕ, ◌++◌, ◌<◌, ◌==◌, ◌∙◌, ◌∷◌, ◌≡◌, ◌⊎◌}
use Rattle.std.proofs.lemmas.List.Elements.{filter-append}
use Rattle.std.specs.List.{AllByRecursion, list_all}
use mathlib.Core.List.{IsPrefix}
use Rattle.orc_heap.proofs.Calls.{part_allowed}
use Rattle.orc_heap.proofs.OwnEntries.{entries_added, own_of_events}
use Rattle.orc_heap.proofs.Steps.{PartEvents, alone_later, part_events}
use Rattle.orc_heap.specs.Allowed.{AllAllowed, events_by}
use Rattle.orc_heap.specs.Calls.{Learns}
use Rattle.orc_heap.specs.Domains.{IsCallAlone}
use Rattle.orc_heap.specs.Heap.{HeapNumbers}
use Rattle.orc_heap.specs.Journals.{noted_entries}
use Rattle.orc_heap.specs.OwnEvents.{IsBelow, Puts}
use Rattle.orc_heap.specs.Seats.{Seat}
use Rattle.orc_heap.specs.declared.events.Event.{Event}
use Rattle.orc_heap.specs.declared.links.Links.{Ghosts as LinksOf}
use Rattle.orc_history.specs.Journals.{Adds, LearnsEntries, own_of}
use Rattle.orc_history.specs.Parts.{IsAlone}

module _ {N : Type 0} where
  below_right : (agents : ℕ) (es fs : List (Event N)) → IsBelow agents (es ++ fs) → IsBelow agents fs
  below_right agents [] fs b = b
  below_right agents (e ∷ es) fs b = below_right agents es fs b.1

  of_crowd : (agent agents : ℕ) (es : List (Event N)) → IsBelow agents es
      → AllByRecursion (λ (e : Event N). (e.agent ≡ agent) ⊎ (e.agent < agents)) es
  of_crowd agent agents [] b = tt
  of_crowd agent agents (e ∷ es) b = (inr b.0, of_crowd agent agents es b.1)

  -- what a pass's own events are after a call
  pub own_after : (s t : Seat N) (own : List (Event N)) → Puts s own t → events_by t.agent t.seen ≡ events_by s.agent s.seen ++ own
  own_after s t own p =
      ap (λ (a : ℕ). events_by a t.seen) p.agent
      ∙ (ap (λ z. events_by s.agent z) p.is ∙ (filter-append (λ e. e.agent == s.agent) s.seen p.part ∙ ap (λ z. events_by s.agent s.seen ++ z) p.own_is))

-- what a pass has seen before and after a call is in its domain's journal
pub record CallSeen {N S : Type 0} (may : HeapNumbers → List (Event N) → Event N → Type 0) (n : HeapNumbers) (agents : ℕ) (agent_of : S → ℕ)
    (events : List S → List (Event N)) (s t : Seat N) (j k : List S) : Type 0 where
  pub adds : (j : List S) (x : S) → (es : List (Event N)) × (events (j ++ x ∷ []) ≡ events j ++ es) × (list_all (λ e. e.agent == agent_of x) es ≡ true)
  pub grows : IsPrefix j k
  pub is_s : s.seen ≡ events j
  pub is_t : t.seen ≡ events k
  pub all : AllAllowed (may n) [] t.seen
  pub below : IsBelow agents t.seen

module _ {N S : Type 0} {may : HeapNumbers → List (Event N) → Event N → Type 0} {n : HeapNumbers} {agents : ℕ} {agent_of : S → ℕ}
    {events : List S → List (Event N)} {s t : Seat N} {j k : List S} (o : CallSeen may n agents agent_of events s t j k)
  where
    -- the events that are newly seen
    pub seen_new : (own : List (Event N)) (p : Puts s own t) → events k ≡ events j ++ p.part
    seen_new own p = sym o.is_t ∙ (p.is ∙ ap (λ z. z ++ p.part) o.is_s)

    -- and what the call's part of the journal says of them
    pub seen_part : (own : List (Event N)) (p : Puts s own t) → PartEvents agent_of events o.adds s.agent j k p.part
    seen_part own p = part_events agent_of events o.adds s.agent j k p.part o.grows (seen_new own p)

    -- the entries that the call adds
    pub adds_entries : {E : Type 0} (entries_in : Option N → List E) (agent_of_entry : E → ℕ)
        → ((es : List (Event N)) (e : Event N) → may n es e → AllByRecursion (λ (x : E). agent_of_entry x ≡ e.agent) (entries_in e.note))
        → (own : List (Event N)) (entries : List E) → Puts s own t → noted_entries entries_in own ≡ entries
        → Adds agent_of_entry (λ (a : ℕ). a < agents) s.agent (noted_entries entries_in (events j)) entries (noted_entries entries_in (events k))
    adds_entries {E} entries_in agent_of_entry whose own entries p entries_are =
        let others = of_crowd s.agent agents p.part (below_right agents s.seen p.part (subst (λ z. IsBelow agents z) p.is o.below)) in
        let a = entries_added entries_in agent_of_entry (may n) whose (λ (x : ℕ). x < agents) s.agent s.seen p.part
        (part_allowed (may n) s t own p o.all) others in
        let mine : noted_entries entries_in (events_by s.agent p.part) ≡ entries = ap (λ z. noted_entries entries_in z) p.own_is ∙ entries_are in
        subst (λ z. Adds agent_of_entry (λ (x : ℕ). x < agents) s.agent (noted_entries entries_in (events j)) entries (noted_entries entries_in z))
        (sym p.is ∙ o.is_t)
        (subst (λ z. Adds agent_of_entry (λ (x : ℕ). x < agents) s.agent (noted_entries entries_in z) entries (noted_entries entries_in (s.seen ++ p.part)))
        o.is_s
        (subst (λ z. Adds agent_of_entry (λ (x : ℕ). x < agents) s.agent (noted_entries entries_in s.seen) z (noted_entries entries_in (s.seen ++ p.part)))
        mine a))

-- by the laws of the domain
pub call_seen : {L D P S N : Type 0} (may : HeapNumbers → List (Event N) → Event N → Type 0) (m : LinksOf L D P S N) (links : L) (p q : P)
    → ((p : P) → m.belongs links p → (m.seat links p).seen ≡ m.events links (m.journal p))
    → ((p : P) → m.belongs links p → AllAllowed (may (m.numbers links)) [] (m.seat links p).seen) → IsBelow (m.agents links) (m.seat links q).seen
    → ((j : List S) (x : S) → (es : List (Event N)) × (m.events links (j ++ x ∷ []) ≡ m.events links j ++ es)
    × (list_all (λ e. e.agent == m.agent_of x) es ≡ true))
    → m.belongs links p → m.belongs links q → IsPrefix (m.journal p) (m.journal q)
    → CallSeen may (m.numbers links) (m.agents links) m.agent_of (m.events links) (m.seat links p) (m.seat links q) (m.journal p) (m.journal q)
call_seen may m links p q seen_is allowed below adds before after grows = record {
  adds = adds;
  grows = grows;
  is_s = seen_is p before;
  is_t = seen_is q after;
  all = allowed q after;
  below = below;
}

-- a call that was alone was so in the settling at its end
pub settling_alone : {L D P S N : Type 0} (m : LinksOf L D P S N) (links : L) (p q r : P) → IsPrefix (m.journal p) (m.journal q)
    → IsPrefix (m.journal q) (m.journal r) → (m.seat links q).agent ≡ (m.seat links p).agent → IsCallAlone m links p r → IsCallAlone m links q r
settling_alone m links p q r first second agent alone =
    subst (λ (x : ℕ). IsAlone m.agent_of x (m.journal q) (m.journal r)) (sym agent)
    (alone_later m.agent_of (m.seat links p).agent (m.journal p) (m.journal q) (m.journal r) first second alone)

-- the entries of each of two agents in what both have seen, where their passes have learned from each other
pub learned_entries : {L D P S N E : Type 0} (m : LinksOf L D P S N) (entries_in : Option N → List E) (agent_of_entry : E → ℕ)
    (may : HeapNumbers → List (Event N) → Event N → Type 0)
    → ((n : HeapNumbers) (es : List (Event N)) (e : Event N) → may n es e → AllByRecursion (λ (x : E). agent_of_entry x ≡ e.agent) (entries_in e.note))
    → (links : L) (p1 p2 q1 q2 : P)
    → Learns m.agent_of (m.seat links p1) (m.seat links p2) (m.seat links q1) (m.seat links q2) (m.journal p1) (m.journal p2) (m.journal q1) (m.journal q2)
    → ((p : P) → m.belongs links p → (m.seat links p).seen ≡ m.events links (m.journal p))
    → ((p : P) → m.belongs links p → AllAllowed (may (m.numbers links)) [] (m.seat links p).seen)
    → m.belongs links p1 → m.belongs links p2 → m.belongs links q1
    → LearnsEntries (λ j. noted_entries entries_in (m.events links j)) agent_of_entry (m.seat links p1).agent (m.seat links p2).agent
    (m.journal p1) (m.journal p2) (m.journal q1) (m.journal q2)
learned_entries {P = P} m entries_in agent_of_entry may whose links p1 p2 q1 q2 l seen_is allowed first second now = record {
  one = l.one_journal;
  longer = l.longer.of_both;
  own1 = own (m.seat links p1).agent p1 first l.events.0;
  own2 = own (m.seat links p2).agent p2 second l.events.1;
}
  where
    own_is : (agent : ℕ) (p : P) → m.belongs links p
        → own_of agent_of_entry agent (noted_entries entries_in (m.events links (m.journal p))) ≡ noted_entries entries_in (events_by agent (m.seat links p).seen)
    own_is agent p there =
        ap (λ z. own_of agent_of_entry agent (noted_entries entries_in z)) (sym (seen_is p there))
        ∙ own_of_events entries_in agent_of_entry (may (m.numbers links)) (whose (m.numbers links)) agent [] (m.seat links p).seen (allowed p there)

    own : (agent : ℕ) (p : P) → m.belongs links p → events_by agent (m.seat links q1).seen ≡ events_by agent (m.seat links p).seen
        → own_of agent_of_entry agent (noted_entries entries_in (m.events links (m.journal q1)))
        ≡ own_of agent_of_entry agent (noted_entries entries_in (m.events links (m.journal p)))
    own agent p there same = own_is agent q1 now ∙ (ap (λ z. noted_entries entries_in z) same ∙ sym (own_is agent p there))
