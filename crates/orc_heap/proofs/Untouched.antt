-- What stays true of nodes over events that fit, whatever else these do: what an agent may name it may name later, and its
-- untouched nodes stay so over acts of others, and over acts of its own that make no link to them.
use Rattle.std.proofs.Common.{List, None, Option, Some, [], ap, false, ne_eqb, refl, ℕ, ◌∷◌, ◌≡◌, ◌≢◌}
use Rattle.std.proofs.lemmas.Bool.{false_from_ne_true}
use Rattle.orc_heap.proofs.Fresh.{node-after, not_reached, stays_own, touched}
use Rattle.orc_heap.proofs.Known.{known-after}
use Rattle.orc_heap.proofs.Stays.{other_first}
use Rattle.orc_heap.specs.Acts.{Fits, IsTarget, heap_after}
use Rattle.orc_heap.specs.Allowed.{events_by}
use Rattle.orc_heap.specs.Heap.{Heap}
use Rattle.orc_heap.specs.Journals.{IsLawfulFrom, names_node, points_to, run_from}
use Rattle.orc_heap.specs.Seats.{IsUntouched}
use Rattle.orc_heap.specs.declared.events.Act.{Act}
use Rattle.orc_heap.specs.declared.events.Act.TheVariants.{Aim, Fill, Give, Look, Miss, Move, AimSide}
use Rattle.orc_heap.specs.declared.events.Event.{Event}

-- what an agent may name it may name later
target_after : (agent by : ℕ) (h : Heap) (act : Act) (to : Option ℕ) → IsTarget agent h to → IsTarget agent (heap_after by act h) to
target_after agent by h act None known = tt
target_after agent by h act (Some id) known = known-after agent by act h id known

pub target_from : {N : Type 0} (agent : ℕ) (h : Heap) (es : List (Event N)) (to : Option ℕ) → IsTarget agent h to → IsTarget agent (run_from h es) to
target_from agent h [] to known = known
target_from agent h (e ∷ es) to known = target_from agent (heap_after e.agent e.act h) es to (target_after agent e.agent h e.act to known)

-- a target that isn't this node names another
pub names_other : (to : Option ℕ) (id : ℕ) → to ≢ Some id → names_node to id ≡ false
names_other None id other = refl
names_other (Some i) id other = ne_eqb i id (λ e. other (ap Some e))

-- an act that makes no link to an untouched node leaves it so
pub untouched_after : (agent by : ℕ) (h : Heap) (act : Act) (id : ℕ) → points_to act id ≡ false → IsUntouched agent h id
    → IsUntouched agent (heap_after by act h) id
untouched_after agent by h act id away u =
    let own = stays_own agent act id u.node away (record { mine = u.mine; unnamed = u.unnamed; unlinked = u.unlinked }) in
    record { node = touched act id u.node; there = node-after by act h id u.node u.there; mine = own.mine; unnamed = own.unnamed; unlinked = own.unlinked }

-- another agent's act that fits makes no link to it
others_away : (agent by : ℕ) (h : Heap) (act : Act) (id : ℕ) → by ≢ agent → Fits by act h → IsUntouched agent h id → points_to act id ≡ false
others_away agent by h act id other fits u = away act fits
  where
    none_names : (to : Option ℕ) → IsTarget by h to → names_node to id ≡ false
    none_names to known =
        false_from_ne_true (names_node to id)
        (not_reached agent by h to id u.node other u.there (record { mine = u.mine; unnamed = u.unnamed; unlinked = u.unlinked }) known)

    away : (act : Act) → Fits by act h → points_to act id ≡ false
    away Give fits = refl
    away (Fill i which value) fits = refl
    away (Aim i to) fits = none_names to fits.1
    away (AimSide i to) fits = none_names to fits.1
    away (Look place link) fits = refl
    away (Move place from to) fits = none_names to.to fits.1
    away (Miss place wanted found) fits = refl

-- over other agents' events that fit, an untouched node stays so
pub untouched_from : {N : Type 0} (agent : ℕ) (h : Heap) (es : List (Event N)) (id : ℕ) → events_by agent es ≡ [] → IsLawfulFrom h es
    → IsUntouched agent h id → IsUntouched agent (run_from h es) id
untouched_from agent h [] id none fits u = u
untouched_from agent h (e ∷ es) id none fits u =
    let o = other_first agent e es none in
    untouched_from agent (heap_after e.agent e.act h) es id o.1 fits.1
    (untouched_after agent e.agent h e.act id (others_away agent e.agent h e.act id o.0 fits.0 u) u)
