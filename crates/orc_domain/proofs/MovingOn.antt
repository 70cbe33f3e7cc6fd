-- A look by which a hold moves on: a load, a step by which the hold's slot names the target in place of its row, and a load with
-- that slot; and then, where the two differ, the slot is cleared.
use Rattle.std.proofs.Common.{Bool, List, None, Some, [], ap, arith, false, refl, subst, suc, sym, true, zero, ℕ, ◌<◌, ◌∙◌, ◌≡◌, ◌≢◌, ◌∷◌}
use Rattle.std.proofs.lemmas.Bool.{lt-ltb}
use Rattle.std.specs.Prelude.{not, slice_index_or, slice_set, ◌&&◌, ◌||◌}
use Rattle.orc_core.specs.Allowed.{may, may_place}
use Rattle.orc_core.specs.RecordParts.{any_holds, holds_fresh, is_empty, names, slot_of}
use Rattle.orc_core.specs.declared.ops.Op.TheVariants.{Clear, MoveOn}
use Rattle.orc_core.specs.declared.records.Agent.{Agent}
use Rattle.orc_core.specs.declared.records.SlotUse.{SlotUse}
use Rattle.orc_core.specs.declared.records.SlotUse.TheVariants.{Empty, Held, Published}
use Rattle.orc_any_domain.specs.Names.{word_at}
use Rattle.orc_heap.proofs.Slots.{get-set_other}
use Rattle.orc_heap.specs.Calls.{MovesOn}
use Rattle.orc_heap.specs.Journals.{event_by}
use Rattle.orc_heap.specs.OwnEvents.{Puts}
use Rattle.orc_heap.specs.Seats.{HoldsPlace, IsOutside, place_in}
use Rattle.orc_heap.specs.Slots.{Hold, Holds, id_in}
use Rattle.orc_heap.specs.declared.discipline.Discipline as discipline
use Rattle.orc_heap.specs.declared.events.Act.TheVariants.{Look}
use Rattle.orc_heap.specs.declared.holds.At.{At}
use Rattle.orc_heap.specs.declared.holds.At.TheVariants.{Node as AtNode, Root as AtRoot, Side as AtSide}
use Rattle.orc_heap.specs.declared.holds.LookedOn.TheVariants.{Moved, On}
use Rattle.orc_machine_board.proofs.Licences.{has_either}
use Rattle.orc_machine_board.specs.Kinds.{MayDo}
use Rattle.orc_machine_board.specs.Licences.{ids_of}
use Rattle.orc_machine_board.specs.Rules.{bounds_in, heap_numbers}
use Rattle.orc_machine_board.specs.declared.machine.MachineShape.{MachineShape}
use Rattle.orc_projection.specs.PresentIds.{node_link}
use Rattle.orc_domain.proofs.Following.{Again, Loaded, Named, calm3, clear_can, follows, freed_same, held_ends, held_puts, held_shown, leaves5, lets_go, links_apart, loaded_same, low, move_names, not_null, own}
use Rattle.orc_domain.proofs.Held.{above_one, hold_low, hold_slot}
use Rattle.orc_domain.proofs.Looking.{Starts, loaded}
use Rattle.orc_domain.proofs.Protecting.{still_ready}
use Rattle.orc_domain.proofs.Releasing.{emptied_ready, slot_has, slot_linked, slot_low}
use Rattle.orc_domain.proofs.Seats.{calm_forced, ready_calm, slot_holds}
use Rattle.orc_domain.proofs.Ending.{Ends}
use Rattle.orc_domain.proofs.Stages.{Stage, Steps, seat}
use Rattle.orc_domain.proofs.Untouched.{still_between}
use Rattle.orc_domain.specs.Calls.{Unlocks}
use Rattle.orc_domain.specs.Seats.{IsCalm}
use Rattle.orc_words.specs.Bounds.{Bounds}
use Rattle.orc_words.specs.declared.packed.RowLink.{RowLink}
use Rattle.orc_words.specs.declared.place.Word.{Word}

-- a calm agent may move a slot on that names a row, unless it holds the fresh row
move_may : (b : Bounds) (a k r : ℕ) (e : Agent) → a < b.agents → 0 < k → k < 8 → r < b.rows → IsCalm e → is_empty (slot_of e k) ≡ false
    → holds_fresh e.fresh (slot_of e k) ≡ false → may b 0 a (MoveOn k r) e ≡ true
move_may b a k r e h above eight inside calm full free =
    let agent = lt-ltb a b.agents h in
    let on = calm.enrolled in
    let first = calm_forced e (MoveOn k r) calm in
    let zero = lt-ltb 0 k above in
    let low = lt-ltb k 8 eight in
    let row = lt-ltb r b.rows inside in
    let one : not (is_empty (slot_of e k)) ≡ true = ap not full in
    let two : not (holds_fresh e.fresh (slot_of e k)) ≡ true = ap not free in
    λ i. ((agent i && on i) && first i) && ((((zero i && low i) && row i) && one i) && two i)

-- a hold, of a node that isn't fresh, whose slot is this one, and that doesn't protect the place
pub record Leaves {D N : Type 0} {d : discipline.Ghosts D N} {k : MachineShape N} (s : Stage d k) (at : At) (from : Hold) (slot : ℕ) : Type 0 where
  pub held : Holds (seat s).slots from
  pub linked : (seat s).fresh ≢ Some (id_in (seat s).slots from)
  pub outside : IsOutside from at
  pub is : slot ≡ from.slot

module _ {D N : Type 0} {d : discipline.Ghosts D N} {k : MachineShape N} {s t : Stage d k} {at : At} {w : Word} {spare : ℕ} {one : RowLink}
    {from : Hold} {slot : ℕ} (f : Starts s at w spare one t) (v : Leaves s at from slot) where
  abbrev b : Bounds
  b = bounds_in k

  has : slot_of s.view.record_is slot ≡ Held from.row
  has = ap (slot_of s.view.record_is) v.is ∙ slot_has s f.begun.between from v.held v.linked

  below : slot < 8
  below = subst (λ n. n < 8) (sym v.is) (slot_low s f.begun.between from v.held v.linked)

  -- slot 0 is empty
  above : 0 < slot
  above = went slot refl
    where
      went : (n : ℕ) → slot ≡ n → 0 < n
      went zero is = let e : Empty ≡ Held from.row = sym f.begun.between.ready.zero ∙ (ap (slot_of s.view.record_is) (sym is) ∙ has) in cc
      went (suc n) is = omega arith

  -- what another slot holds is held still
  has_still : (r : ℕ) (h : Hold) → Holds (seat s).slots h → h.slot ≢ slot
      → (any_holds (slice_set s.view.record_is.slots slot (Published r)) h.row || names s.view.record_is.fresh h.row) ≡ true
  has_still r h e apart = has_either (any_holds (slice_set s.view.record_is.slots slot (Published r)) h.row) (names s.view.record_is.fresh h.row)
      (slot_holds (slice_set s.view.record_is.slots slot (Published r)) h.slot h.row
      (get-set_other s.view.record_is.slots slot h.slot (Published r) apart ∙ (hold_slot s h e).0))

  -- the place may be read once the slot names another row
  still_may : (r : ℕ) (at : At) → HoldsPlace (heap_numbers k) (seat s).slots at → IsOutside from at
      → may_place b (word_at at) (λ q. any_holds (slice_set s.view.record_is.slots slot (Published r)) q || names s.view.record_is.fresh q) ≡ true
  still_may r (AtRoot i) h o = lt-ltb i b.roots h
  still_may r (AtNode h) e o =
      let low = lt-ltb h.now.row b.rows (hold_low s h.now e) in
      let kept = has_still r h.now e (λ is. o (is ∙ v.is)) in
      λ i. low i && kept i
  still_may r (AtSide h) e o =
      let low = lt-ltb h.now.row b.rows (hold_low s h.now e.0) in
      let two = lt-ltb 1 b.links (above_one b.links e.1) in
      let kept = has_still r h.now e.0 (λ is. o (is ∙ v.is)) in
      λ i. (low i && two i) && kept i

  -- the first load found an unmarked link to a row
  module _ {r : ℕ} (to : one.to ≡ Some r) where
    pub move_can : MayDo b t.view (MoveOn slot r)
    move_can =
        let same = loaded_same (loaded f) in
        let at : slot_of t.view.record_is slot ≡ Held from.row = ap (λ (z : List SlotUse). slice_index_or z slot Empty) same.slots ∙ has in
        move_may b t.view.agent slot r t.view.record_is t.number above below (low (loaded f) to)
        (ready_calm t.view.record_is (still_ready s.view.record_is t.view.record_is same f.begun.between.ready)) (ap is_empty at)
        ((λ i. holds_fresh (same.fresh i) (at i)) ∙ slot_linked s f.begun.between from v.held v.linked)

    pub moved : (u : Stage d k) (n : ℕ) → Steps (MoveOn slot r) t n u → Named s t w slot r u
    moved u n made = record {
      above = above;
      below = below;
      op = MoveOn slot r;
      its = move_names slot r;
      number = n;
      made = made;
      still = subst (λ z. may_place b z (λ q. any_holds (slice_set s.view.record_is.slots slot (Published r)) q || names s.view.record_is.fresh q) ≡ true)
          (sym f.begun.word) (still_may r at f.begun.place v.outside);
    }

-- a look on by which a hold moves on: its slot named the target of the unmarked link that the first load found, and a second load found this link
pub record MovesSlot {D N : Type 0} {d : discipline.Ghosts D N} {k : MachineShape N} (s t : Stage d k) (at : At) (w : Word) (spare : ℕ) (one : RowLink)
    (from : Hold) (slot r : ℕ) (u : Stage d k) (two : RowLink) (y : Stage d k) : Type 0 where
  pub starts : Starts s at w spare one t
  pub leaves : Leaves s at from slot
  pub to : one.to ≡ Some r
  pub bare : one.mark ≡ false
  pub number : ℕ
  pub made : Steps (MoveOn slot r) t number u
  pub again : Again u w slot two y

module _ {D N : Type 0} {d : discipline.Ghosts D N} {k : MachineShape N} {s t : Stage d k} {at : At} {w : Word} {spare : ℕ} {one : RowLink}
    {from : Hold} {slot r : ℕ} {u : Stage d k} {two : RowLink} {y : Stage d k} (e : MovesSlot s t at w spare one from slot r u two y) where
  l : Loaded s (place_in (seat s).slots at) w one t
  l = loaded e.starts

  m : Named s t w slot r u
  m = moved e.starts e.leaves e.to u e.number e.made

  pub move_calm : IsCalm y.view.record_is
  move_calm = calm3 l e.to m e.again

  pub move_clear_can : MayDo (bounds_in k) y.view (Clear slot)
  move_clear_can = clear_can l e.to m e.again

  -- the same link twice: the slot holds its target
  module _ (same : two ≡ one) where
    pub move_held : (h : Hold) → h ≡ record { row = r; slot = slot } → MovesOn (place_in (seat s).slots at) spare (seat s) from (On h) (seat y)
    move_held h is =
        let x = place_in (seat s).slots at in
        let b = bounds_in k in
        subst (λ (z : Hold). MovesOn x spare (seat s) from (On z) (seat y)) (sym is) record {
          fresh = (follows l e.to m e.again).fresh;
          tells = (
            (ids_of b y.view).node r,
            node_link (ids_of b t.view) one,
            not_null l e.to m e.again,
            e.bare,
            e.leaves.is,
            (follows l e.to m e.again).slots ∙ (λ i. slice_set (seat s).slots (e.leaves.is i) (held_shown l e.to m e.again same i)),
            subst (λ (z : Bool). Puts (seat s) (event_by s.view.agent (Look x (node_link (ids_of b t.view) one)) None ∷ event_by s.view.agent
                (Look x (record { to = Some ((ids_of b y.view).node r); mark = z })) None ∷ []) (seat y)) e.bare (held_puts l e.to m e.again same),
          );
        }

    pub move_ends : Ends s y
    move_ends = held_ends l e.to m e.again same

  -- two links: the slot is cleared
  module _ (other : two ≢ one) (z : Stage d k) (un : Unlocks (bounds_in k) slot y.view z.view) where
    pub move_off : MovesOn (place_in (seat s).slots at) spare (seat s) from Moved (seat z)
    move_off = record {
      fresh = (lets_go l e.to m e.again z un).fresh;
      tells = (
        node_link (ids_of (bounds_in k) t.view) one,
        node_link (ids_of (bounds_in k) y.view) two,
        links_apart l e.to m e.again other,
        (lets_go l e.to m e.again z un).slots ∙ ap (λ j. slice_set (seat s).slots j None) e.leaves.is,
        (lets_go l e.to m e.again z un).puts,
        not_null l e.to m e.again,
        e.bare,
      );
    }

    pub off_ends : Ends s z
    off_ends = record {
      between = still_between s z (own l e.to m e.again) e.starts.begun.between (lets_go l e.to m e.again z un).puts (lets_go l e.to m e.again z un).fresh
          (λ id. refl) (emptied_ready s.view.record_is z.view.record_is slot e.starts.begun.between.ready (freed_same l e.to m e.again z un));
      leaves = leaves5 l e.to m e.again z un;
    }
