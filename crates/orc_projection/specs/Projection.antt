-- The heap events that the steps of a journal stand for. The heap is that of Michael and Scott 1996 and Harris 2001, with
-- new memory for every node.
use Rattle.std.specs.Option.{option_map}
use Rattle.std.specs.Prelude.{Bool, List, None, Option, Some, [], false, if◌then◌else◌, ℕ, ◌*◌, ◌++◌, ◌==◌, ◌∷◌, ◌≡◌}
use Rattle.orc_core.specs.Machine.{Machine, new_machine, record_at, step, word_read}
use Rattle.orc_core.specs.RecordParts.{names, number_of}
use Rattle.orc_core.specs.declared.ops.Op.{Op}
use Rattle.orc_core.specs.declared.ops.Op.TheVariants.{Fill as FillStep, GateTake, LinkCas, LinkLoad, LinkStore}
use Rattle.orc_core.specs.declared.records.Agent.{Agent}
use Rattle.orc_heap.specs.Acts.{aim_act}
use Rattle.orc_heap.specs.declared.events.Act.{Act}
use Rattle.orc_heap.specs.declared.events.Act.TheVariants.{Fill, Give, Look, Miss, Move}
use Rattle.orc_heap.specs.declared.events.Event.{Event}
use Rattle.orc_heap.specs.declared.events.Place.{Place}
use Rattle.orc_projection.specs.PresentIds.{PresentIds, no_ids, node_link, node_place, with_taken}
use Rattle.orc_sound.specs.declared.steps.Step.{Step}
use Rattle.orc_words.specs.Bounds.{Bounds}
use Rattle.orc_words.specs.Packed.{link_of, link_word}
use Rattle.orc_words.specs.declared.packed.RowLink.{RowLink}

-- a load of the link word w: a Look, or a Miss where another link was wanted
abbrev pub load_act : PresentIds → ℕ → Option RowLink → Place → Act
load_act p w None place = Look place (node_link p (link_of w))
load_act p w (Some wanted) place =
    if w == link_word wanted then Look place (node_link p (link_of w)) else Miss place (node_link p wanted) (node_link p (link_of w))

-- a compare_exchange that found the link word w: a Move if it succeeded, else a Miss
abbrev pub exchange_act : PresentIds → ℕ → RowLink → RowLink → Place → Act
exchange_act p w from to place =
    if w == link_word from then Move place (node_link p from) (node_link p to) else Miss place (node_link p from) (node_link p (link_of w))

-- the row was free in the life that the agent saw, and is taken
abbrev pub is_taken : Agent → ℕ → Bool
is_taken d w = w == 2 * number_of d.looked

-- the act of a step by an agent with record d that read the word w, and wanted that link. A link that is stored in a row that
-- isn't fresh is taken out of a doomed row, which nobody can reach
abbrev pub act_of : PresentIds → Agent → ℕ → Op → Option RowLink → Option Act
act_of p d w (GateTake r) want = if is_taken d w then Some Give else None
act_of p d w (FillStep r which value) want = Some (Fill (p.node r) which value)
act_of p d w (LinkLoad place slot) want = option_map (load_act p w want) (node_place p place)
act_of p d w (LinkCas place from to) want = option_map (exchange_act p w from to) (node_place p place)
act_of p d w (LinkStore r link n) want = if names d.fresh r then Some (aim_act n (p.node r) (option_map p.node link.to)) else None
act_of p d w op want = None

-- the present ids after the step
abbrev pub ids_after : PresentIds → Agent → ℕ → Op → PresentIds
ids_after p d w (GateTake r) = if is_taken d w then with_taken r p else p
ids_after p d w op = p

-- a note stands on a Look or a Move alone
abbrev pub note_on : {N : Type 0} → Act → Option N → Option N
note_on (Look place link) note = note
note_on (Move place from to) note = note
note_on act _ = None

-- the events of a step with this act, or with none
abbrev pub events_of : {N : Type 0} → Step N → Option Act → List (Event N)
events_of s None = []
events_of s (Some act) = record { agent = s.agent; act = act; note = note_on act s.note } ∷ []

-- the events of these steps, made one after another from this state and these present ids on
abbrev pub project_from : {N : Type 0} → Machine → PresentIds → List (Step N) → List (Event N)
project_from m p [] = []
project_from m p (s ∷ ss) =
    events_of s (act_of p (record_at m s.agent) (word_read m s.agent s.op) s.op s.want)
    ++ project_from (step m s.agent s.op) (ids_after p (record_at m s.agent) (word_read m s.agent s.op) s.op) ss

-- and the present ids after them
abbrev pub ids_from : {N : Type 0} → Machine → PresentIds → List (Step N) → PresentIds
ids_from m p [] = p
ids_from m p (s ∷ ss) = ids_from (step m s.agent s.op) (ids_after p (record_at m s.agent) (word_read m s.agent s.op) s.op) ss

-- from a new state on
abbrev pub project : {N : Type 0} → Bounds → List (Step N) → List (Event N)
project b steps = project_from (new_machine b) no_ids steps

-- the present ids after these steps, from a new state on
abbrev pub present_ids : {N : Type 0} → Bounds → List (Step N) → PresentIds
present_ids b steps = ids_from (new_machine b) no_ids steps

-- the step stores no mark
abbrev pub IsPlainOp : Op → Type 0
IsPlainOp (LinkStore r link n) = link.mark ≡ false
IsPlainOp op = Unit {0}

-- no step stores a marked link
abbrev pub StoresUnmarked : {N : Type 0} → List (Step N) → Type 0
StoresUnmarked [] = Unit {0}
StoresUnmarked (s ∷ ss) = IsPlainOp s.op × StoresUnmarked ss
