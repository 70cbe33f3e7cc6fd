-- What a caller names for a change of a link, as the machine and the board ask for it.
use Rattle.std.proofs.Common.{Bool, List, None, Option, Some, [], ap, false, refl, subst, sym, true, ℕ, ◌++◌, ◌+◌, ◌<◌, ◌∙◌, ◌≡◌, ◌≢◌, ◌∷◌}
use Rattle.std.proofs.lemmas.Bool.{lt-ltb, or_right}
use Rattle.std.specs.Borrow.{Bor}
use Rattle.std.specs.Option.{option_map}
use Rattle.std.specs.Prelude.{not, ◌&&◌}
use Rattle.orc_core.specs.Allowed.{may_change, may_place, may_target}
use Rattle.orc_core.specs.Machine.{word_in}
use Rattle.orc_core.specs.RecordParts.{any_holds, is_empty, names, slot_of}
use Rattle.orc_core.specs.declared.ops.Op.TheVariants.{LinkCas, LinkStore}
use Rattle.orc_any_domain.specs.Aims.{MayAimAt, aim_at}
use Rattle.orc_any_domain.specs.Names.{row_link, target_link, word_at}
use Rattle.orc_heap.specs.Acts.{aim_act}
use Rattle.orc_heap.specs.Allowed.{AllowedLater, AllowedWhereFits}
use Rattle.orc_heap.specs.Calls.{MayMove}
use Rattle.orc_heap.specs.Heap.{Node}
use Rattle.orc_heap.specs.Journals.{event_by}
use Rattle.orc_heap.specs.OwnEvents.{Only}
use Rattle.orc_heap.specs.Seats.{HoldsPlace, HoldsTarget, HoldsWant, IsNotFresh, link_in, place_in, target_in}
use Rattle.orc_heap.specs.Slots.{Hold, Holds, id_in}
use Rattle.orc_heap.specs.declared.discipline.Discipline as discipline
use Rattle.orc_heap.specs.declared.events.Act.TheVariants.{Move}
use Rattle.orc_heap.specs.declared.events.Link.{Link}
use Rattle.orc_heap.specs.declared.events.Place.{Place}
use Rattle.orc_heap.specs.declared.holds.At.{At}
use Rattle.orc_heap.specs.declared.holds.At.TheVariants.{Node as AtNode, Root as AtRoot, Side as AtSide}
use Rattle.orc_heap.specs.declared.holds.Want.{Want}
use Rattle.orc_heap.specs.declared.holds.Want.TheVariants.{Node as WantNode, Null as WantNull}
use Rattle.orc_machine_board.proofs.Licences.{has_either}
use Rattle.orc_machine_board.specs.Holding.{HasRow}
use Rattle.orc_machine_board.specs.Kinds.{MayDo}
use Rattle.orc_machine_board.specs.Laws.Steps.{in_range}
use Rattle.orc_machine_board.specs.Licences.{AimAllowed, MoveAllowed, ids_of}
use Rattle.orc_machine_board.specs.Rules.{bounds_in, heap_numbers, run_of, without_mark}
use Rattle.orc_machine_board.specs.Views.{Makes}
use Rattle.orc_machine_board.specs.declared.machine.MachineShape.{MachineShape}
use Rattle.orc_machine_board.specs.declared.machine.Request.{Request}
use Rattle.orc_projection.proofs.Links.{names-some}
use Rattle.orc_domain.proofs.Filling.{has_is_out}
use Rattle.orc_domain.proofs.Held.{above_one, has_low, hold_has, hold_low, hold_slot, link_named, mirrors, place_named}
use Rattle.orc_domain.proofs.Protecting.{either_way, target_named, true_false}
use Rattle.orc_domain.proofs.Seats.{calm_forced, ready_calm, slot_holds}
use Rattle.orc_domain.proofs.Stages.{Between, Stage, before_lawful, before_out, before_unmarked, seat}
use Rattle.orc_domain.proofs.Untouched.{untouched_before}
use Rattle.orc_domain.specs.Changes.{Stores}
use Rattle.orc_domain.specs.Seats.{IsBetweenCalls}
use Rattle.orc_sound.specs.declared.steps.Step.{Step}
use Rattle.orc_words.specs.Bounds.{Bounds}
use Rattle.orc_words.specs.Packed.{link_of}
use Rattle.orc_words.specs.declared.place.Word.{Word}

module _ {D N : Type 0} {d : discipline.Ghosts D N} {k : MachineShape N} (s : Stage d k) where
  -- a node that is held and isn't fresh lies in another row than the fresh one
  pub not_fresh : (h : Hold) → Holds (seat s).slots h → (seat s).fresh ≢ Some (id_in (seat s).slots h) → names s.view.record_is.fresh h.row ≡ false
  not_fresh h held ne = either_way (names s.view.record_is.fresh h.row) (λ e.
      ne (ap (option_map (ids_of (bounds_in k) s.view).node) (names-some s.view.record_is.fresh h.row e) ∙ ap Some (sym (hold_slot s h held).1)))

  -- a link to another row is one to another node
  pub link_other : (from : Want) (h : Hold) → HoldsWant (seat s).slots from → Holds (seat s).slots h → (row_link from).to ≢ Some h.row
      → (link_in (seat s).slots from).to ≢ Some (id_in (seat s).slots h)
  link_other (WantNull mark) h from held ne e = cc
  link_other (WantNode f mark) h from held ne e =
      let ids : id_in (seat s).slots f.now ≡ id_in (seat s).slots h = cc in
      let same = (mirrors s).apart f.now.row h.row (has_is_out s f.now.row (hold_has s f.now from)) (has_is_out s h.row (hold_has s h held))
      (sym (hold_slot s f.now from).1 ∙ (ids ∙ (hold_slot s h held).1)) in
      ne (ap Some same)

  -- what is held may be a target
  pub hold_target : (h : Hold) → Holds (seat s).slots h → may_target (bounds_in k) s.view.record_is (Some h.row) ≡ true
  hold_target h held =
      let low = lt-ltb h.row (bounds_in k).rows (hold_low s h held) in
      let has = slot_holds s.view.record_is.slots h.slot h.row (hold_slot s h held).0 in
      λ i. low i && has i

  pub want_target : (w : Want) → HoldsWant (seat s).slots w → may_target (bounds_in k) s.view.record_is (row_link w).to ≡ true
  want_target (WantNull mark) held = refl
  want_target (WantNode h mark) held = hold_target h.now held

  -- the link of a place that isn't in the fresh node may be changed
  pub cas_place : (at : At) → HoldsPlace (heap_numbers k) (seat s).slots at → IsNotFresh (seat s) at
      → may_place (bounds_in k) (word_at at) (λ r. any_holds s.view.record_is.slots r && not (names s.view.record_is.fresh r)) ≡ true
  cas_place (AtRoot r) there other = lt-ltb r (bounds_in k).roots there
  cas_place (AtNode h) there other =
      let low = lt-ltb h.now.row (bounds_in k).rows (hold_low s h.now there) in
      let has = slot_holds s.view.record_is.slots h.now.slot h.now.row (hold_slot s h.now there).0 in
      let older : not (names s.view.record_is.fresh h.now.row) ≡ true = ap not (not_fresh h.now there other) in
      λ i. low i && (has i && older i)
  cas_place (AtSide h) there other =
      let low = lt-ltb h.now.row (bounds_in k).rows (hold_low s h.now there.0) in
      let two = lt-ltb 1 (bounds_in k).links (above_one (bounds_in k).links there.1) in
      let has = slot_holds s.view.record_is.slots h.now.slot h.now.row (hold_slot s h.now there.0).0 in
      let older : not (names s.view.record_is.fresh h.now.row) ≡ true = ap not (not_fresh h.now there.0 other) in
      λ i. (low i && two i) && (has i && older i)

  pub cas_can : (at : At) (from to : Want) → IsBetweenCalls s.view.record_is → HoldsPlace (heap_numbers k) (seat s).slots at → IsNotFresh (seat s) at
      → HoldsWant (seat s).slots from → HoldsWant (seat s).slots to
      → may_change s.view.record_is ((bounds_in k).limit + 64) (row_link from).to (row_link to).to ≡ true
      → MayDo (bounds_in k) s.view (LinkCas (word_at at) (row_link from) (row_link to))
  cas_can at from to ready there other hf ht change =
      let e = s.view.record_is in
      let agent = lt-ltb s.view.agent (bounds_in k).agents s.number in
      let on = ready.enrolled in
      let first = calm_forced e (LinkCas (word_at at) (row_link from) (row_link to)) (ready_calm e ready) in
      let place = cas_place at there other in
      let empty : is_empty (slot_of e 0) ≡ true = ap is_empty ready.zero in
      let old = want_target from hf in
      let new = want_target to ht in
      λ i. ((agent i && on i) && first i) && ((((place i && empty i) && old i) && new i) && change i)

  pub move_allowed : (at : At) (from to : Want) (note : Option N) → HoldsPlace (heap_numbers k) (seat s).slots at → HoldsWant (seat s).slots from
      → HoldsWant (seat s).slots to → MayMove (d.may (heap_numbers k)) (heap_numbers k) (seat s) at from to note
      → MoveAllowed (d.may (heap_numbers k)) (bounds_in k) s.view (word_at at) (row_link from) (row_link to) note
  move_allowed at from to note there hf ht allowed place is =
      let p = ids_of (bounds_in k) s.view in
      let slots = s.view.record_is.slots in
      let one : Some (place_in (seat s).slots at) ≡ Some place = sym (place_named p (heap_numbers k) slots at there) ∙ is in
      let same : place_in (seat s).slots at ≡ place = cc in
      let old = link_named p slots from hf in
      let new = link_named p slots to ht in
      subst (λ (z : Place × Link × Link). AllowedLater (d.may (heap_numbers k)) (heap_numbers k) s.view.agent (seat s).seen z.0 z.1
      (event_by s.view.agent (Move z.0 z.1 z.2) note))
      (λ i. (same i, sym old i, sym new i)) allowed

  -- each link of the fresh row may be set
  pub store_can : (r number : ℕ) (to : Option ℕ) → number < (bounds_in k).links → IsBetweenCalls s.view.record_is → names s.view.record_is.fresh r ≡ true
      → may_target (bounds_in k) s.view.record_is to ≡ true → may_change s.view.record_is ((bounds_in k).limit + 64) None to ≡ true
      → MayDo (bounds_in k) s.view (LinkStore r (without_mark to) number)
  store_can r number to there ready fresh target change =
      let e = s.view.record_is in
      let agent = lt-ltb s.view.agent (bounds_in k).agents s.number in
      let on = ready.enrolled in
      let first = calm_forced e (LinkStore r (without_mark to) number) (ready_calm e ready) in
      let row = lt-ltb r (bounds_in k).rows (has_low s r (or_right (any_holds e.slots r) (names e.fresh r) fresh)) in
      let link = lt-ltb number (bounds_in k).links there in
      let empty : is_empty (slot_of e 0) ≡ true = ap is_empty ready.zero in
      let its = has_either ((names e.fresh r && may_target (bounds_in k) e to) && may_change e ((bounds_in k).limit + 64) None to) _
      (λ i. (fresh i && target i) && change i) in
      λ i. ((agent i && on i) && first i) && (((row i && link i) && empty i) && its i)

  target_id : (to : Option (Bor Hold)) → HoldsTarget (seat s) to
      → target_in (seat s).slots to ≡ option_map (ids_of (bounds_in k) s.view).node (target_link to).to
  target_id None held = refl
  target_id (Some h) held = ap Some (hold_slot s h.now held.0).1

  pub aim_allowed : (number : ℕ) (h : Hold) (to : Option (Bor Hold)) → Holds (seat s).slots h → HoldsTarget (seat s) to
      → MayAimAt (d.may (heap_numbers k)) (heap_numbers k) (seat s) number h to
      → AimAllowed (d.may (heap_numbers k)) (bounds_in k) s.view h.row number (target_link to).to
  aim_allowed number h to held target allowed =
      let id = (hold_slot s h held).1 in
      let its = target_id to target in
      subst (λ (z : ℕ × Option ℕ). AllowedWhereFits (d.may (heap_numbers k)) (heap_numbers k) s.view.agent (seat s).seen
      (event_by s.view.agent (aim_act number z.0 z.1) None))
      (λ i. (id i, its i)) allowed

  -- a store in the fresh row is the Aim or AimSide that a caller asks for
  pub aims : (number : ℕ) (h : Hold) (to : Option (Bor Hold)) → Holds (seat s).slots h → HoldsTarget (seat s) to → (u : Stage d k)
      → Stores (bounds_in k) h.row number (target_link to).to s.view u.view → Only (aim_at (seat s) number h to ∷ []) (seat s) (seat u)
  aims number h to held target u stored =
      let id = (hold_slot s h held).1 in
      let its = target_id to target in
      subst (λ (z : ℕ × Option ℕ). Only (event_by s.view.agent (aim_act number z.0 z.1) None ∷ []) (seat s) (seat u)) (λ i. (sym id i, sym its i)) stored

-- the old target of a link that is changed isn't the fresh row: no link was made to that
module _ {D N : Type 0} {d : discipline.Ghosts D N} {k : MachineShape N} (q : Request) (note : Option N) (s t : Stage d k) (n : ℕ)
    (m : Makes (bounds_in k) q note s.view n t.view) (between : Between s) where
  abbrev b : Bounds
  b = bounds_in k

  abbrev j : List (Step N)
  j = s.view.journal ++ m.met

  pub old_other : (w : Word) (p : ℕ → Bool) → ((r : ℕ) → p r ≡ true → HasRow s.view.record_is r) → may_place b w p ≡ true
      → (r : ℕ) → (link_of (word_in (run_of b j) w)).to ≡ Some r → names s.view.record_is.fresh r ≡ false
  old_other w p has place r to = either_way (names s.view.record_is.fresh r) (λ fresh.
      let u = untouched_before q note s t n m between r fresh in
      let named = target_named b j (in_range k.shape) (before_lawful q note s t n m) (before_unmarked q note s t n m) p
      (λ x e. before_out q note s t n m x (has x e)) w place r to in
      let node : Some named.node ≡ Some u.node = sym named.there ∙ u.there in
      let one_node : named.node ≡ u.node = cc in
      true_false named.node.named named.named (ap (λ (y : Node). y.named) one_node ∙ u.unnamed))
