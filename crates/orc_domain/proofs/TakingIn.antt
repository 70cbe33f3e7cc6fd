-- What was handed over beside empty slots is taken in.
use Rattle.std.proofs.Common.{List, None, [], ap, arith, false, refl, subst, sym, true, ℕ, ◌+◌, ◌<◌, ◌∙◌, ◌≡◌, ◌∷◌}
use Rattle.std.proofs.Math.Decide.{dec_lt}
use Rattle.std.proofs.lemmas.Bool.{false≢true}
use Rattle.std.proofs.lemmas.List.{length-map}
use Rattle.std.specs.Prelude.{map, slice_index_or}
use mathlib.Core.List.{IsPrefix}
use mathlib.Core.Logic.{dite}
use Rattle.orc_heap.proofs.Changes.{get_lt}
use Rattle.orc_core.specs.RecordParts.{is_empty, slot_of}
use Rattle.orc_core.specs.declared.ops.Op.TheVariants.{TakeIn}
use Rattle.orc_core.specs.declared.records.SlotUse.{SlotUse}
use Rattle.orc_core.specs.declared.records.SlotUse.TheVariants.{Empty}
use Rattle.orc_heap.specs.declared.discipline.Discipline as discipline
use Rattle.orc_machine_board.specs.Kinds.{asks}
use Rattle.orc_machine_board.specs.Licences.{ids_of}
use Rattle.orc_machine_board.specs.Rules.{bounds_in}
use Rattle.orc_machine_board.specs.Views.{MachineView}
use Rattle.orc_machine_board.specs.declared.machine.MachineShape.{MachineShape}
use Rattle.orc_domain.proofs.Protecting.{empty_slot}
use Rattle.orc_domain.proofs.Searching.{idle_none, idle_trans, idles}
use Rattle.orc_machine_rest.proofs.TakenIn.{done_some, done_then, taken_since, taken_then}
use Rattle.orc_domain.proofs.Stages.{Stage, Steps, done_one, seat}
use Rattle.orc_domain.specs.Calls.{SameParts}
use Rattle.orc_machine_rest.specs.OwnSteps.{HasDone, HasTakenIn, ops_of}
use Rattle.orc_domain.specs.OwnSteps.{TakesInFree}
use Rattle.orc_domain.specs.Searches.{Idles}
use Rattle.orc_domain.specs.Seats.{IsBetweenCalls, slot_by}
use Rattle.orc_sound.specs.declared.steps.Step.{Step}
use Rattle.orc_words.specs.Bounds.{Bounds}

module _ {N : Type 0} where
  taken_last : (a slot : ℕ) (x y z : List (Step N)) → IsPrefix x y → HasDone a (TakeIn slot ∷ []) y z → HasTakenIn a slot x z
  taken_last a slot x y z p d = record {
    earlier = ops_of a p.0;
    later = [];
    done = done_then a x y z (ops_of a p.0) (TakeIn slot ∷ []) (done_some a x y p) d;
  }

  -- beside the empty ones of this many slots was taken in
  pub record TookIn (b : Bounds) (count : ℕ) (s t : MachineView N) : Type 0 where
    pub idle : Idles b s t
    pub taken : (k : ℕ) → k < count → is_empty (slot_of s.record_is k) ≡ true → HasTakenIn s.agent k s.journal t.journal

  pub took_none : (b : Bounds) (s : MachineView N) → TookIn b 0 s s
  took_none b s = record { idle = idle_none b s; taken = λ k h. absurd (omega arith) }

  -- the slot isn't empty
  pub took_past : (b : Bounds) (count : ℕ) (s t : MachineView N) → TookIn b count s t → is_empty (slot_of t.record_is count) ≡ false
      → TookIn b (count + 1) s t
  took_past b count s t p full = record {
    idle = p.idle;
    taken = λ k h e. dite (dec_lt k count)
        (λ lt. p.taken k lt e)
        (λ ge.
        let same : k ≡ count = omega (arith, h, ge) in
        absurd (false≢true (sym full ∙ (ap (λ (l : List SlotUse). is_empty (slice_index_or l count Empty)) p.idle.same.slots
        ∙ (ap (λ z. is_empty (slot_of s.record_is z)) (sym same) ∙ e)))));
  }

module _ {D N : Type 0} {d : discipline.Ghosts D N} {k : MachineShape N} where
  pub took_one : (s t u : Stage d k) (count n : ℕ) → TookIn (bounds_in k) count s.view t.view → Steps (TakeIn count) t n u
      → TookIn (bounds_in k) (count + 1) s.view u.view
  took_one s t u count n p m =
      let q = asks (TakeIn count) in
      let same : SameParts t.view.record_is u.view.record_is = subst (SameParts t.view.record_is) (sym m.record_is)
      (record { enrolled = refl; slots = refl; fresh = refl; due = refl; inc = refl; dec = refl; doom = refl; scan = refl }) in
      let step = idles q t u n m tt refl same in
      let its : HasDone s.view.agent (TakeIn count ∷ []) t.view.journal u.view.journal = subst (λ a. HasDone a (TakeIn count ∷ []) t.view.journal u.view.journal)
      p.idle.only.puts.agent (done_one q None t u n m) in
      record {
        idle = idle_trans (bounds_in k) s.view t.view u.view p.idle step;
        taken = λ j h e. dite (dec_lt j count)
            (λ lt. taken_then s.view.agent j s.view.journal t.view.journal u.view.journal (p.taken j lt e) (step.more, sym step.journal))
            (λ ge.
            let is : count ≡ j = omega (arith, h, ge) in
            subst (λ z. HasTakenIn s.view.agent z s.view.journal u.view.journal) is
            (taken_last s.view.agent count s.view.journal t.view.journal u.view.journal (p.idle.more, sym p.idle.journal) its));
      }

  -- beside each slot in which a pass holds nothing, since the others hold their rows
  pub takes_free : (s t u : Stage d k) → IsBetweenCalls s.view.record_is → Idles (bounds_in k) s.view t.view
      → ((slot : ℕ) → slot < 8 → is_empty (slot_of t.view.record_is slot) ≡ true → HasTakenIn t.view.agent slot t.view.journal u.view.journal)
      → TakesInFree (seat s) s.view.journal u.view.journal
  takes_free s t u ready idle taken slot free =
      let ids = ids_of (bounds_in k) s.view in
      let slots = s.view.record_is.slots in
      let low = get_lt (map (slot_by ids) slots) slot None free in
      let long = length-map slots (slot_by ids) in
      let eight = ready.eight in
      let empty : is_empty (slot_of t.view.record_is slot) ≡ true = ap (λ (l : List SlotUse). is_empty (slice_index_or l slot Empty)) idle.same.slots
      ∙ ap is_empty (empty_slot ids slots slot (ready.published slot) free) in
      taken_since s.view.agent slot s.view.journal t.view.journal u.view.journal (idle.more, sym idle.journal)
      (subst (λ a. HasTakenIn a slot t.view.journal u.view.journal) idle.only.puts.agent (taken slot (omega (arith, low, long, eight)) empty))
