-- A pass that makes no event enters nothing.
use Rattle.std.proofs.Common.{List, Option, [], ◌∷◌, ap, inr, subst, sym, ℕ, ◌++◌, ◌<◌, ◌≡◌, ◌⊎◌}
use Rattle.std.specs.List.{AllByRecursion}
use Rattle.orc_heap.proofs.Calls.{part_allowed}
use Rattle.orc_heap.proofs.OwnEntries.{entries_added}
use Rattle.orc_heap.specs.Allowed.{AllAllowed}
use Rattle.orc_heap.specs.Journals.{noted_entries}
use Rattle.orc_heap.specs.OwnEvents.{IsBelow, Only}
use Rattle.orc_heap.specs.Seats.{Seat}
use Rattle.orc_heap.specs.declared.events.Event.{Event}
use Rattle.orc_history.specs.Journals.{Adds}

of_crowd : {N : Type 0} (agent agents : ℕ) (seen more : List (Event N)) → IsBelow agents (seen ++ more)
    → AllByRecursion (λ (e : Event N). (e.agent ≡ agent) ⊎ (e.agent < agents)) more
of_crowd agent agents [] [] below = tt
of_crowd agent agents [] (e ∷ es) below = (inr below.0, of_crowd agent agents [] es below.1)
of_crowd agent agents (e ∷ es) more below = of_crowd agent agents es more below.1

module _ {N E : Type 0} (entries_in : Option N → List E) (agent_of : E → ℕ) (may : List (Event N) → Event N → Type 0)
    (own : (es : List (Event N)) (e : Event N) → may es e → AllByRecursion (λ (x : E). agent_of x ≡ e.agent) (entries_in e.note))
    (agents : ℕ) (s t : Seat N)
  where
    pub enters_none : Only [] s t → AllAllowed may [] t.seen → IsBelow agents t.seen
        → Adds agent_of (λ (by : ℕ). by < agents) s.agent (noted_entries entries_in s.seen) [] (noted_entries entries_in t.seen)
    enters_none only all below =
        let p = only.puts in
        let more = entries_added entries_in agent_of may own (λ (by : ℕ). by < agents) s.agent s.seen p.part (part_allowed may s t [] p all)
        (of_crowd s.agent agents s.seen p.part (subst (λ z. IsBelow agents z) p.is below)) in
        subst (λ z. Adds agent_of (λ (by : ℕ). by < agents) s.agent (noted_entries entries_in s.seen) [] (noted_entries entries_in z)) (sym p.is)
        (subst (λ z. Adds agent_of (λ (by : ℕ). by < agents) s.agent (noted_entries entries_in s.seen) z (noted_entries entries_in (s.seen ++ p.part)))
        (ap (λ z. noted_entries entries_in z) p.own_is) more)
