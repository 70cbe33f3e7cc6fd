-- What a step does to what a pass shows.
use Rattle.std.proofs.Common.{Bool, List, None, Option, Some, [], ap, append_assoc, eq-eqb, refl, subst, suc, sym, true, zero, ℕ, ◌++◌, ◌∙◌, ◌≡◌, ◌∷◌}
use Rattle.std.proofs.lemmas.Bool.{or_right}
use Rattle.std.specs.Option.{option_map}
use Rattle.std.specs.Prelude.{if◌then◌else◌, map, slice_get, slice_set}
use Rattle.orc_core.specs.Allowed.{forced, in_order}
use Rattle.orc_core.specs.Machine.{new_machine, record_at, word_read}
use Rattle.orc_core.specs.RecordParts.{any_holds, holds, names}
use Rattle.orc_core.specs.declared.ops.Op.{Op}
use Rattle.orc_core.specs.declared.records.Agent.{Agent}
use Rattle.orc_core.specs.declared.records.Reading.{Reading}
use Rattle.orc_core.specs.declared.records.SlotUse.{SlotUse}
use Rattle.orc_core.specs.declared.records.SlotUse.TheVariants.{Empty, Held, Published}
use Rattle.orc_heap.proofs.Calls.{Puts-trans}
use Rattle.orc_heap.specs.Allowed.{events_by}
use Rattle.orc_heap.specs.OwnEvents.{Only, Puts}
use Rattle.orc_heap.specs.Seats.{Seat}
use Rattle.orc_heap.specs.Slots.{SlotNode}
use Rattle.orc_heap.specs.declared.discipline.Discipline as discipline
use Rattle.orc_heap.specs.declared.events.Act.{Act}
use Rattle.orc_heap.specs.declared.events.Event.{Event}
use Rattle.orc_machine_board.proofs.Holds.{node_stays, out_stays}
use Rattle.orc_machine_board.proofs.Licences.{has_either, signed}
use Rattle.orc_machine_board.specs.Holding.{HasRow}
use Rattle.orc_machine_board.specs.Laws.Steps.{counted_obeys, in_range}
use Rattle.orc_machine_board.specs.Licences.{ids_of}
use Rattle.orc_machine_board.specs.Rules.{bounds_in, counted_rules, events_after, run_of, step_of}
use Rattle.orc_machine_board.specs.Views.{Makes}
use Rattle.orc_machine_board.specs.declared.machine.MachineShape.{MachineShape}
use Rattle.orc_machine_board.specs.declared.machine.Request.{Request}
use Rattle.orc_projection.proofs.Mirrored.{ids-append}
use Rattle.orc_projection.specs.PresentIds.{PresentIds, no_ids}
use Rattle.orc_projection.specs.Projection.{act_of, events_of, present_ids, project}
use Rattle.orc_domain.proofs.Stages.{Stage, before_lawful, before_out, seat}
use Rattle.orc_domain.specs.Seats.{IsCalm, IsBetweenCalls, SetsSlot, slot_by}
use Rattle.orc_shared_words.proofs.Events.{others_add}
use Rattle.orc_shared_words.proofs.Runs.{own_of-append}
use Rattle.orc_sound.specs.declared.steps.Step.{Step}

pub slot_holds : (slots : List SlotUse) (k r : ℕ) → slice_get slots k ≡ Some (Held r) → any_holds slots r ≡ true
slot_holds [] k r e = cc
slot_holds (s ∷ ss) zero r e = let same : s ≡ Held r = cc in has_either (holds s r) (any_holds ss r) (ap (λ z. holds z r) same ∙ eq-eqb r r refl)
slot_holds (s ∷ ss) (suc k) r e = or_right (holds s r) (any_holds ss r) (slot_holds ss k r e)

-- slots show the same nodes where the held rows keep theirs
same_slot : (p q : PresentIds) (s : SlotUse) → ((r : ℕ) → holds s r ≡ true → q.node r ≡ p.node r) → slot_by q s ≡ slot_by p s
same_slot p q Empty h = refl
same_slot p q (Published r) h = refl
same_slot p q (Held r) h = ap (λ id. Some (record { row = r; id = id })) (h r (eq-eqb r r refl))

pub same_slots : (p q : PresentIds) (slots : List SlotUse) → ((r : ℕ) → any_holds slots r ≡ true → q.node r ≡ p.node r)
    → map (slot_by q) slots ≡ map (slot_by p) slots
same_slots p q [] h = refl
same_slots p q (s ∷ ss) h = λ i.
    same_slot p q s (λ r e. h r (has_either (holds s r) (any_holds ss r) e)) i ∷ same_slots p q ss (λ r e. h r (or_right (holds s r) (any_holds ss r) e)) i

pub same_fresh : (p q : PresentIds) (fresh : Option ℕ) → ((r : ℕ) → names fresh r ≡ true → q.node r ≡ p.node r)
    → option_map q.node fresh ≡ option_map p.node fresh
same_fresh p q None h = refl
same_fresh p q (Some r) h = ap Some (h r (eq-eqb r r refl))

map-set : {A B : Type 0} (f : A → B) (xs : List A) (k : ℕ) (x : A) → map f (slice_set xs k x) ≡ slice_set (map f xs) k (f x)
map-set f [] k x = refl
map-set f (y ∷ ys) zero x = refl
map-set f (y ∷ ys) (suc k) x = ap (λ l. f y ∷ l) (map-set f ys k x)

-- where nothing is pending, a step of any kind may come
pub calm_forced : (d : Agent) (op : Op) → IsCalm d → forced d op ≡ true
calm_forced d op h = ap (λ (z : Option Reading × Option ℕ × Option ℕ). in_order z.0 z.1 z.2 op) (λ i. (h.due i, h.inc i, h.dec i))

pub ready_calm : (d : Agent) → IsBetweenCalls d → IsCalm d
ready_calm d h = record { enrolled = h.enrolled; due = h.due; inc = h.inc; dec = h.dec }

module _ {N : Type 0} where
  pub by-append : (a : ℕ) (es fs : List (Event N)) → events_by a es ≡ [] → events_by a (es ++ fs) ≡ events_by a fs
  by-append a es fs e = own_of-append (λ (z : Event N). z.agent) a es fs ∙ ap (λ l. l ++ events_by a fs) e

  own_events : (s : Step N) (o : Option Act) → events_by s.agent (events_of s o) ≡ events_of s o
  own_events s None = refl
  own_events s (Some act) = ap (λ (t : Bool). if t then events_of s (Some act) else []) (eq-eqb s.agent s.agent refl)

  pub set_then : (s t u : Seat N) (own more : List (Event N)) (slot : ℕ) (x : Option SlotNode) → SetsSlot own slot x s t → Only more t u
      → SetsSlot (own ++ more) slot x s u
  set_then s t u own more slot x p q = record { slots = q.slots ∙ p.slots; fresh = q.fresh ∙ p.fresh; puts = Puts-trans s t u own more p.puts q.puts }

module _ {D N : Type 0} {d : discipline.Ghosts D N} {k : MachineShape N} (q : Request) (note : Option N) (s t : Stage d k) (n : ℕ)
    (m : Makes (bounds_in k) q note s.view n t.view) where
  abbrev j : List (Step N)
  j = s.view.journal ++ m.met

  abbrev x : Step N
  x = step_of s.view.agent q note

  -- the events of the step
  abbrev pub step_events : List (Event N)
  step_events = events_after (bounds_in k) j x

  pub puts : Puts (seat s) step_events (seat t)
  puts =
      let b = bounds_in k in
      let more = others_add counted_rules k (counted_obeys k) (signed b) s.view.agent s.view.journal m.met m.others in
      let all : project b t.view.journal ≡ project b s.view.journal ++ (more.0 ++ step_events) =
      ap (project b) m.journal ∙ ((counted_obeys k).project_next j x
      ∙ (ap (λ l. l ++ step_events) more.2 ∙ append_assoc (project b s.view.journal) more.0 step_events)) in
      record {
        part = more.0 ++ step_events;
        is = all;
        agent = m.agent;
        own_is = by-append s.view.agent more.0 step_events more.1
            ∙ own_events x (act_of (present_ids b j) (record_at (run_of b j) s.view.agent) (word_read (run_of b j) s.view.agent q.op) q.op q.want);
      }

  -- what the agent has keeps its node until the step
  pub before_keep : (r : ℕ) → HasRow s.view.record_is r → (present_ids (bounds_in k) j).node r ≡ (ids_of (bounds_in k) s.view).node r
  before_keep r has = node_stays (bounds_in k) s.view.journal m.met s.view.agent r (in_range k.shape) (before_lawful q note s t n m) s.number m.others
      (subst (λ d. HasRow d r) (sym s.mine) has)

  -- and over it
  pub ids_keep : (r : ℕ) → HasRow s.view.record_is r → (ids_of (bounds_in k) t.view).node r ≡ (ids_of (bounds_in k) s.view).node r
  ids_keep r has =
      let b = bounds_in k in
      let out = before_out q note s t n m r has in
      ap (λ l. (present_ids b l).node r) m.journal
      ∙ (ap (λ (p : PresentIds). p.node r) (ids-append (new_machine b) no_ids j (x ∷ []))
      ∙ (out_stays (run_of b j) (present_ids b j) s.view.agent q.op r out.1 ∙ before_keep r has))

  pub slots_keep : map (slot_by (ids_of (bounds_in k) t.view)) s.view.record_is.slots ≡ (seat s).slots
  slots_keep = let e = s.view.record_is in
      same_slots (ids_of (bounds_in k) s.view) (ids_of (bounds_in k) t.view) e.slots (λ y h. ids_keep y (has_either (any_holds e.slots y) (names e.fresh y) h))

  pub fresh_keep : option_map (ids_of (bounds_in k) t.view).node s.view.record_is.fresh ≡ (seat s).fresh
  fresh_keep = let e = s.view.record_is in
      same_fresh (ids_of (bounds_in k) s.view) (ids_of (bounds_in k) t.view) e.fresh (λ y h. ids_keep y (or_right (any_holds e.slots y) (names e.fresh y) h))

  -- a step that leaves the slots and the fresh row
  pub only : t.view.record_is.slots ≡ s.view.record_is.slots → t.view.record_is.fresh ≡ s.view.record_is.fresh → Only step_events (seat s) (seat t)
  only slots fresh = record {
    slots = ap (map (slot_by (ids_of (bounds_in k) t.view))) slots ∙ slots_keep;
    fresh = ap (option_map (ids_of (bounds_in k) t.view).node) fresh ∙ fresh_keep;
    puts = puts;
  }

  -- a step that changes one slot
  pub sets : (slot : ℕ) (y : SlotUse) → t.view.record_is.slots ≡ slice_set s.view.record_is.slots slot y → t.view.record_is.fresh ≡ s.view.record_is.fresh
      → SetsSlot step_events slot (slot_by (ids_of (bounds_in k) t.view) y) (seat s) (seat t)
  sets slot y slots fresh =
      let r = ids_of (bounds_in k) t.view in
      record {
        slots = ap (map (slot_by r)) slots ∙ (map-set (slot_by r) s.view.record_is.slots slot y ∙ ap (λ l. slice_set l slot (slot_by r y)) slots_keep);
        fresh = ap (option_map r.node) fresh ∙ fresh_keep;
        puts = puts;
      }
