-- What a change of a link leaves pending is counted, step by step.
use Rattle.std.proofs.Common.{Bool, List, None, Option, Some, [], ap, arith, cond, eq-eqb, false, get_or-set_same, inr, length, refl, subst, sym, true, ℕ, ◌<◌, ◌^◌, ◌∙◌, ◌≡◌, ◌∷◌}
use Rattle.std.proofs.lemmas.Bool.{lt-ltb, or_right}
use Rattle.std.specs.Prelude.{map, nat_lt, not, slice_get, slice_index_or, slice_set, ◌&&◌, ◌==◌, ◌||◌}
use Rattle.orc_core.specs.Allowed.{in_order, may}
use Rattle.orc_core.specs.RecordParts.{any_holds, holds, holds_fresh, is_due, is_empty, names, saw, scan_empty, scans, slot_of}
use Rattle.orc_core.specs.declared.ops.Op.{Op}
use Rattle.orc_core.specs.declared.ops.Op.TheVariants.{Arm, Clear, Dec, DecHeld, Inc, SetRetired, TakeIn}
use Rattle.orc_core.specs.declared.records.Agent.{Agent}
use Rattle.orc_core.specs.declared.records.Reading.{Reading}
use Rattle.orc_core.specs.declared.records.SlotUse.{SlotUse}
use Rattle.orc_core.specs.declared.records.SlotUse.TheVariants.{Empty, Held}
use Rattle.orc_heap.proofs.Calls.{Only-trans, Puts-trans}
use Rattle.orc_heap.specs.OwnEvents.{Only}
use Rattle.orc_heap.specs.Seats.{Seat}
use Rattle.orc_heap.specs.Slots.{SlotNode}
use Rattle.orc_heap.specs.declared.discipline.Discipline as discipline
use Rattle.orc_machine_board.specs.Kinds.{asks}
use Rattle.orc_machine_board.specs.Licences.{ids_of}
use Rattle.orc_machine_board.specs.Laws.Steps.{bounds_run, in_range}
use Rattle.orc_machine_board.specs.Rules.{bounds_in, run_of}
use Rattle.orc_machine_board.specs.Views.{MachineView}
use Rattle.orc_machine_board.specs.declared.machine.MachineShape.{MachineShape}
use Rattle.orc_projection.specs.PresentIds.{PresentIds}
use Rattle.orc_domain.proofs.LeftParts.{same_by}
use Rattle.orc_domain.proofs.Protecting.{same_self, same_then}
use Rattle.orc_domain.proofs.Searching.{idle_none}
use Rattle.orc_domain.proofs.Seats.{only, sets, step_events}
use Rattle.orc_domain.proofs.Setting.{clear_may, set_same, set_twice}
use Rattle.orc_domain.proofs.Stages.{Stage, Steps, leaves_by, leaves_none, leaves_then, seat}
use Rattle.orc_machine_board.proofs.Licences.{has_either}
use Rattle.orc_domain.specs.Calls.{SameParts, Unlocks}
use Rattle.orc_domain.specs.Changes.{Becomes, IsCountable}
use Rattle.orc_machine_rest.specs.OwnSteps.{LeavesNothing, TakesInCleared}
use Rattle.orc_domain.specs.Seats.{IsCalm, SetsSlot, seat_by, slot_by}
use Rattle.orc_sound.proofs.ForRuns.{run_sound}
use Rattle.orc_sound.proofs.Journals.{plain_lawful}
use Rattle.orc_sound.specs.Journals.{plain}
use Rattle.orc_sound.specs.Linked.{changes}
use Rattle.orc_words.specs.Bounds.{Bounds}

module _ {N : Type 0} where
  -- two parts, one after the other
  pub becomes_then : (b : Bounds) (d e f : Agent) (s t u : MachineView N) → Becomes b d s t → Becomes b e t u → SameParts f e → Becomes b f s u
  becomes_then b d e f s t u p q same = record {
    only = Only-trans (seat_by b s) (seat_by b t) (seat_by b u) [] [] p.only q.only;
    same = same_then f e u.record_is same q.same;
    leaves = leaves_then s.agent s.journal t.journal u.journal p.leaves (subst (λ a. LeavesNothing a t.journal u.journal) p.only.puts.agent q.leaves);
  }

  pub becomes_self : (b : Bounds) (d : Agent) (s : MachineView N) → SameParts d s.record_is → Becomes b d s s
  becomes_self b d s same = record { only = (idle_none b s).only; same = same; leaves = leaves_none s.agent s.journal }

named_self : (r : ℕ) → (r == r) ≡ true
named_self r = eq-eqb r r refl

kept_fresh : (t : Bool) (o : Option ℕ) (r : ℕ) → names o r ≡ false → cond t (cond (names o r) None o) o ≡ o
kept_fresh true o r h = ap (λ t. cond t None o) h
kept_fresh false o r h = refl

-- a slot that was set and emptied again
empty_seat : (p : PresentIds) (ss : List SlotUse) → length ss ≡ 8 → slice_index_or ss 0 Empty ≡ Empty → slice_get (map (slot_by p) ss) 0 ≡ Some None
empty_seat p [] long e = absurd (omega arith)
empty_seat p (s ∷ ss) long e = ap (λ z. Some (slot_by p z)) e

slot_again : {N : Type 0} (s t u v : Seat N) (x : Option SlotNode) → slice_get s.slots 0 ≡ Some None → SetsSlot [] 0 x s t → Only [] t u
    → SetsSlot [] 0 None u v → Only [] s v
slot_again s t u v x empty p q r = record {
  slots = r.slots ∙ (ap (λ l. slice_set l 0 None) (q.slots ∙ p.slots) ∙ (set_twice s.slots 0 x None ∙ set_same s.slots 0 None empty));
  fresh = r.fresh ∙ (q.fresh ∙ p.fresh);
  puts = Puts-trans s t v [] [] p.puts (Puts-trans t u v [] [] q.puts r.puts);
}

set_back : (ss : List SlotUse) (x : SlotUse) → slice_index_or ss 0 Empty ≡ Empty → slice_set (slice_set ss 0 x) 0 Empty ≡ ss
set_back [] x e = refl
set_back (s ∷ ss) x e = ap (λ z. z ∷ ss) (sym e)

module _ {D N : Type 0} {d : discipline.Ghosts D N} {k : MachineShape N} (s : Stage d k) where
  -- a row of which a change is pending or due is one of the table's
  pending_low : (r : ℕ) → changes s.view.record_is r ≡ true → r < (bounds_in k).rows
  pending_low r h =
      let b = bounds_in k in
      let j = s.view.journal in
      let sound = run_sound b (plain j) (in_range k.shape) (plain_lawful _ j s.lawful) in
      let agent : s.view.agent < (run_of b j).bounds.agents = subst (λ (c : Bounds). s.view.agent < c.agents) (sym (bounds_run b j)) s.number in
      let out = sound.balance.out s.view.agent r agent (subst (λ (e : Agent). changes e r ≡ true) (sym s.mine) h) in
      subst (λ (c : Bounds). r < c.rows) (bounds_run b j) out.0

  inc_low : (r : ℕ) → s.view.record_is.inc ≡ Some r → r < (bounds_in k).rows
  inc_low r e =
      let x = s.view.record_is in
      let its : names x.inc r ≡ true = ap (λ o. names o r) e ∙ named_self r in
      pending_low r (has_either (names x.inc r || names x.dec r) (saw x.due r) (has_either (names x.inc r) (names x.dec r) its))

  dec_low : (r : ℕ) → s.view.record_is.dec ≡ Some r → r < (bounds_in k).rows
  dec_low r e =
      let x = s.view.record_is in
      let its : names x.dec r ≡ true = ap (λ o. names o r) e ∙ named_self r in
      pending_low r (has_either (names x.inc r || names x.dec r) (saw x.due r) (or_right (names x.inc r) (names x.dec r) its))

  due_low : (r : Reading) → s.view.record_is.due ≡ Some r → r.row < (bounds_in k).rows
  due_low r e =
      let x = s.view.record_is in
      let its : saw x.due r.row ≡ true = ap (λ o. saw o r.row) e ∙ named_self r.row in
      pending_low r.row (or_right (names x.inc r.row || names x.dec r.row) (saw x.due r.row) its)

  pub inc_can : (r : ℕ) → IsCountable s.view.record_is → s.view.record_is.inc ≡ Some r → may (bounds_in k) 0 s.view.agent (Inc r) s.view.record_is ≡ true
  inc_can r c inc =
      let x = s.view.record_is in
      let agent = lt-ltb s.view.agent (bounds_in k).agents s.number in
      let on = c.enrolled in
      let row = lt-ltb r (bounds_in k).rows (inc_low r inc) in
      let first : in_order x.due x.inc x.dec (Inc r) ≡ true = (λ i. in_order (c.due i) (inc i) x.dec (Inc r)) ∙ named_self r in
      let its : names x.inc r ≡ true = ap (λ o. names o r) inc ∙ named_self r in
      λ i. ((agent i && on i) && first i) && (row i && its i)

  pub try_can : (r : Reading) → s.view.record_is.enrolled ≡ true → s.view.record_is.due ≡ Some r → r.number < 2 ^ 40
      → may (bounds_in k) 0 s.view.agent (SetRetired r.row r.number) s.view.record_is ≡ true
  try_can r on due small =
      let x = s.view.record_is in
      let agent = lt-ltb s.view.agent (bounds_in k).agents s.number in
      let row = lt-ltb r.row (bounds_in k).rows (due_low r due) in
      let number : nat_lt r.number 1099511627776 ≡ true = lt-ltb r.number 1099511627776 (omega (arith, small)) in
      let twice : ((r.row == r.row) && (r.number == r.number)) ≡ true = λ i. named_self r.row i && named_self r.number i in
      let first : in_order x.due x.inc x.dec (SetRetired r.row r.number) ≡ true = (λ i. in_order (due i) x.inc x.dec (SetRetired r.row r.number)) ∙ twice in
      let its : (is_due x.due r.row r.number || names x.fresh r.row) ≡ true = ap (λ o. is_due o r.row r.number || names x.fresh r.row) due
      ∙ ap (λ t. t || names x.fresh r.row) twice in
      λ i. ((agent i && on i) && first i) && ((row i && number i) && its i)

  pub arm_can : (r : ℕ) → IsCountable s.view.record_is → s.view.record_is.inc ≡ None → s.view.record_is.dec ≡ Some r
      → may (bounds_in k) 0 s.view.agent (Arm r) s.view.record_is ≡ true
  arm_can r c inc dec =
      let x = s.view.record_is in
      let agent = lt-ltb s.view.agent (bounds_in k).agents s.number in
      let on = c.enrolled in
      let row = lt-ltb r (bounds_in k).rows (dec_low r dec) in
      let first : in_order x.due x.inc x.dec (Arm r) ≡ true = (λ i. in_order (c.due i) (inc i) (dec i) (Arm r)) ∙ named_self r in
      let free : is_empty (slot_of x 0) ≡ true = ap is_empty c.zero in
      let scanned = scans x.scan r && not (scan_empty x.scan) in
      let its : (names x.dec r || scanned) ≡ true = ap (λ o. names o r || scanned) dec ∙ ap (λ t. t || scanned) (named_self r) in
      λ i. ((agent i && on i) && first i) && ((row i && free i) && its i)

  pub dec_held_can : (r : ℕ) → IsCountable s.view.record_is → s.view.record_is.inc ≡ None → s.view.record_is.dec ≡ Some r
      → any_holds s.view.record_is.slots r ≡ true → may (bounds_in k) 0 s.view.agent (DecHeld r) s.view.record_is ≡ true
  dec_held_can r c inc dec held =
      let x = s.view.record_is in
      let agent = lt-ltb s.view.agent (bounds_in k).agents s.number in
      let on = c.enrolled in
      let row = lt-ltb r (bounds_in k).rows (dec_low r dec) in
      let first : in_order x.due x.inc x.dec (DecHeld r) ≡ true = (λ i. in_order (c.due i) (inc i) (dec i) (DecHeld r)) ∙ named_self r in
      let its : names x.dec r ≡ true = ap (λ o. names o r) dec ∙ named_self r in
      λ i. ((agent i && on i) && first i) && ((row i && its i) && held i)

  -- the bit of the due row was tried
  pub tries : (t : Stage d k) (r : Reading) (n : ℕ) → Steps (SetRetired r.row r.number) s n t → names s.view.record_is.fresh r.row ≡ false
      → Becomes (bounds_in k) (record s.view.record_is { due = None }) s.view t.view
  tries t r n m other =
      let kept = kept_fresh _ s.view.record_is.fresh r.row other in
      let fresh : t.view.record_is.fresh ≡ s.view.record_is.fresh = ap (λ (e : Agent). e.fresh) m.record_is ∙ kept in
      record {
        only = only (asks (SetRetired r.row r.number)) None s t n m (ap (λ (e : Agent). e.slots) m.record_is) fresh;
        same = same_by (record s.view.record_is { due = None }) _ t.view.record_is m.record_is
            (record { enrolled = refl; slots = refl; fresh = kept; due = refl; inc = refl; dec = refl; doom = refl; scan = refl });
        leaves = leaves_by (asks (SetRetired r.row r.number)) None s t n m tt;
      }

-- a step without an event that leaves slots and fresh row
module _ {D N : Type 0} {d : discipline.Ghosts D N} {k : MachineShape N} (s t : Stage d k) (op : Op) (n : ℕ) (m : Steps op s n t) where
  stepped : step_events (asks op) None s t n m ≡ [] → t.view.record_is.slots ≡ s.view.record_is.slots → t.view.record_is.fresh ≡ s.view.record_is.fresh
      → TakesInCleared (op ∷ []) → Becomes (bounds_in k) t.view.record_is s.view t.view
  stepped silent slots fresh in_order = record {
    only = subst (λ es. Only es (seat s) (seat t)) silent (only (asks op) None s t n m slots fresh);
    same = same_self t.view.record_is;
    leaves = leaves_by (asks op) None s t n m in_order;
  }

  -- the step left the record e, and the try that follows leaves f
  tried_after : (e f : Agent) (u : Stage d k) → t.view.record_is ≡ e → e.slots ≡ s.view.record_is.slots → e.fresh ≡ s.view.record_is.fresh
      → step_events (asks op) None s t n m ≡ [] → TakesInCleared (op ∷ []) → SameParts f (record e { due = None })
      → Becomes (bounds_in k) (record t.view.record_is { due = None }) t.view u.view → Becomes (bounds_in k) f s.view u.view
  tried_after e f u is slots fresh silent in_order same z =
      becomes_then (bounds_in k) t.view.record_is (record t.view.record_is { due = None }) f s.view t.view u.view
      (stepped silent (ap (λ (x : Agent). x.slots) is ∙ slots) (ap (λ (x : Agent). x.fresh) is ∙ fresh) in_order) z
      (subst (λ (x : Agent). SameParts f (record x { due = None })) (sym is) same)

-- the increment, and the try that may follow
module _ {D N : Type 0} {d : discipline.Ghosts D N} {k : MachineShape N} (s t : Stage d k) (r n : ℕ) (c : IsCountable s.view.record_is)
    (inc : s.view.record_is.inc ≡ Some r) (m : Steps (Inc r) s n t) where
  pub counts_up : (u : Stage d k) → Becomes (bounds_in k) (record t.view.record_is { due = None }) t.view u.view
      → Becomes (bounds_in k) (record s.view.record_is { inc = None }) s.view u.view
  counts_up u z = tried_after s t (Inc r) n m _ (record s.view.record_is { inc = None }) u m.record_is refl refl refl tt
      (record { enrolled = refl; slots = refl; fresh = refl; due = sym c.due; inc = refl; dec = refl; doom = refl; scan = refl }) z

-- the decrement under a hold, and the try that may follow
module _ {D N : Type 0} {d : discipline.Ghosts D N} {k : MachineShape N} (s t : Stage d k) (r n : ℕ) (c : IsCountable s.view.record_is)
    (m : Steps (DecHeld r) s n t) where
  pub counts_down_held : (u : Stage d k) → Becomes (bounds_in k) (record t.view.record_is { due = None }) t.view u.view
      → Becomes (bounds_in k) (record s.view.record_is { dec = None }) s.view u.view
  counts_down_held u z = tried_after s t (DecHeld r) n m _ (record s.view.record_is { dec = None }) u m.record_is refl refl refl tt
      (record { enrolled = refl; slots = refl; fresh = refl; due = sym c.due; inc = refl; dec = refl; doom = refl; scan = refl }) z

held_other : (o : Option ℕ) (r : ℕ) → names o r ≡ false → holds_fresh o (Held r) ≡ false
held_other None r h = refl
held_other (Some f) r h = grind arith

-- the arming, the decrement, the try that may follow, and the clearing of slot 0
module _ {D N : Type 0} {d : discipline.Ghosts D N} {k : MachineShape N} (s t : Stage d k) (r n : ℕ) (c : IsCountable s.view.record_is)
    (inc : s.view.record_is.inc ≡ None) (dec : s.view.record_is.dec ≡ Some r) (m : Steps (Arm r) s n t) where
  armed : slot_of t.view.record_is 0 ≡ Held r
  armed =
      let long : 0 < length s.view.record_is.slots = let l = c.eight in omega (arith, l) in
      ap (λ (e : Agent). slot_of e 0) m.record_is ∙ get_or-set_same s.view.record_is.slots 0 (Held r) Empty long

  pub dec_can : may (bounds_in k) 0 t.view.agent (Dec r) t.view.record_is ≡ true
  dec_can =
      let x = t.view.record_is in
      let agent = lt-ltb t.view.agent (bounds_in k).agents t.number in
      let on = ap (λ (e : Agent). e.enrolled) m.record_is ∙ c.enrolled in
      let no_due : x.due ≡ None = ap (λ (e : Agent). e.due) m.record_is ∙ c.due in
      let no_inc : x.inc ≡ None = ap (λ (e : Agent). e.inc) m.record_is ∙ inc in
      let its_dec : x.dec ≡ Some r = ap (λ (e : Agent). e.dec) m.record_is ∙ dec in
      let row = lt-ltb r (bounds_in k).rows (dec_low t r its_dec) in
      let first : in_order x.due x.inc x.dec (Dec r) ≡ true = (λ i. in_order (no_due i) (no_inc i) (its_dec i) (Dec r)) ∙ named_self r in
      let its : names x.dec r ≡ true = ap (λ o. names o r) its_dec ∙ named_self r in
      let here : holds (slot_of x 0) r ≡ true = ap (λ y. holds y r) armed ∙ named_self r in
      λ i. ((agent i && on i) && first i) && ((row i && its i) && here i)

  module _ (u : Stage d k) (o : ℕ) (m2 : Steps (Dec r) t o u) where
    down_enrolled : u.view.record_is.enrolled ≡ true
    down_enrolled = ap (λ (e : Agent). e.enrolled) m2.record_is ∙ (ap (λ (e : Agent). e.enrolled) m.record_is ∙ c.enrolled)

    not_fresh : names u.view.record_is.fresh r ≡ false
    not_fresh = ap (λ (e : Agent). names e.fresh r) m2.record_is ∙ (ap (λ (e : Agent). names e.fresh r) m.record_is ∙ c.others r (inr dec))

    module _ (v : Stage d k) (z : Becomes (bounds_in k) (record u.view.record_is { due = None }) u.view v.view) where
      down_calm : IsCalm v.view.record_is
      down_calm = record {
        enrolled = z.same.enrolled ∙ down_enrolled;
        due = z.same.due;
        inc = z.same.inc ∙ (ap (λ (e : Agent). e.inc) m2.record_is ∙ (ap (λ (e : Agent). e.inc) m.record_is ∙ inc));
        dec = z.same.dec ∙ ap (λ (e : Agent). e.dec) m2.record_is;
      }

      slots_there : v.view.record_is.slots ≡ slice_set s.view.record_is.slots 0 (Held r)
      slots_there = z.same.slots ∙ (ap (λ (e : Agent). e.slots) m2.record_is ∙ ap (λ (e : Agent). e.slots) m.record_is)

      pub down_clear : may (bounds_in k) 0 v.view.agent (Clear 0) v.view.record_is ≡ true
      down_clear =
          let at : slot_of v.view.record_is 0 ≡ Held r = ap (λ (l : List SlotUse). slice_index_or l 0 Empty)
          (z.same.slots ∙ ap (λ (e : Agent). e.slots) m2.record_is) ∙ armed in
          let other : holds_fresh v.view.record_is.fresh (Held r) ≡ false = held_other v.view.record_is.fresh r
          (ap (λ f. names f r) z.same.fresh ∙ not_fresh) in
          clear_may (bounds_in k) v.view.agent 0 v.view.record_is v.number (omega arith) down_calm (ap is_empty at)
          (ap (holds_fresh v.view.record_is.fresh) at ∙ other)

      pub counts_down : (w : Stage d k) → Unlocks (bounds_in k) 0 v.view w.view → Becomes (bounds_in k) (record s.view.record_is { dec = None }) s.view w.view
      counts_down w un =
          let b = bounds_in k in
          let x = s.view.record_is in
          let in_slot = sets (asks (Arm r)) None s t n m 0 (Held r) (ap (λ (e : Agent). e.slots) m.record_is) (ap (λ (e : Agent). e.fresh) m.record_is) in
          let counted = only (asks (Dec r)) None t u o m2 (ap (λ (e : Agent). e.slots) m2.record_is) (ap (λ (e : Agent). e.fresh) m2.record_is) in
          let to_t = leaves_by (asks (Arm r)) None s t n m tt in
          let to_u = subst (λ a. LeavesNothing a t.view.journal u.view.journal) m.agent (leaves_by (asks (Dec r)) None t u o m2 tt) in
          let two = m2.agent ∙ m.agent in
          let to_v = subst (λ a. LeavesNothing a u.view.journal v.view.journal) two z.leaves in
          let last : LeavesNothing v.view.agent v.view.journal w.view.journal =
          record { ops = Clear 0 ∷ TakeIn 0 ∷ []; done = un.done; taken_in = (refl, tt) } in
          let to_w = subst (λ a. LeavesNothing a v.view.journal w.view.journal) (z.only.puts.agent ∙ two) last in
          record {
            only = slot_again (seat s) (seat t) (seat v) (seat w) _ (empty_seat (ids_of b s.view) x.slots c.eight c.zero) in_slot
                (Only-trans (seat t) (seat u) (seat v) [] [] counted z.only) un.sets;
            same = record {
              enrolled = un.same.enrolled ∙ (z.same.enrolled ∙ (ap (λ (e : Agent). e.enrolled) m2.record_is ∙ ap (λ (e : Agent). e.enrolled) m.record_is));
              slots = un.same.slots ∙ (ap (λ l. slice_set l 0 Empty) slots_there ∙ set_back x.slots (Held r) c.zero);
              fresh = un.same.fresh ∙ (z.same.fresh ∙ (ap (λ (e : Agent). e.fresh) m2.record_is ∙ ap (λ (e : Agent). e.fresh) m.record_is));
              due = un.same.due ∙ (z.same.due ∙ sym c.due);
              inc = un.same.inc ∙ (z.same.inc ∙ (ap (λ (e : Agent). e.inc) m2.record_is ∙ ap (λ (e : Agent). e.inc) m.record_is));
              dec = un.same.dec ∙ (z.same.dec ∙ ap (λ (e : Agent). e.dec) m2.record_is);
              doom = un.same.doom ∙ (z.same.doom ∙ (ap (λ (e : Agent). e.doom) m2.record_is ∙ ap (λ (e : Agent). e.doom) m.record_is));
              scan = un.same.scan ∙ (z.same.scan ∙ (ap (λ (e : Agent). e.scan) m2.record_is ∙ ap (λ (e : Agent). e.scan) m.record_is));
            };
            leaves = leaves_then s.view.agent s.view.journal t.view.journal w.view.journal to_t
                (leaves_then s.view.agent t.view.journal u.view.journal w.view.journal to_u
                (leaves_then s.view.agent u.view.journal v.view.journal w.view.journal to_v to_w));
          }

-- a record without a pending decrement
without_dec : (d e : Agent) → SameParts d e → SameParts (record d { dec = None }) (record e { dec = None })
without_dec d e p = record { enrolled = p.enrolled; slots = p.slots; fresh = p.fresh; due = p.due; inc = p.inc; dec = refl; doom = p.doom; scan = p.scan }

pub without_due : (d : Agent) → d.due ≡ None → SameParts (record d { due = None }) d
without_due d e = record { enrolled = refl; slots = refl; fresh = refl; due = e; inc = refl; dec = refl; doom = refl; scan = refl }

pub without_inc : (d : Agent) → d.inc ≡ None → SameParts (record d { inc = None }) d
without_inc d e = record { enrolled = refl; slots = refl; fresh = refl; due = refl; inc = e; dec = refl; doom = refl; scan = refl }

-- with neither pending
without_both : (d e : Agent) → SameParts (record d { inc = None }) e → e.dec ≡ None → SameParts (record d { inc = None; dec = None }) e
without_both d e p none = record { enrolled = p.enrolled; slots = p.slots; fresh = p.fresh; due = p.due; inc = p.inc; dec = none; doom = p.doom; scan = p.scan }

module _ {N : Type 0} (b : Bounds) (s t : MachineView N) where
  -- the new target was counted; then there is no old one, or it was counted, too
  module _ (first : Becomes b (record s.record_is { inc = None }) s t) where
    pub none_down : s.record_is.dec ≡ None → Becomes b (record s.record_is { inc = None; dec = None }) s t
    none_down none = record { only = first.only; same = without_both s.record_is t.record_is first.same (first.same.dec ∙ none); leaves = first.leaves }

    pub down_too : (u : MachineView N) → Becomes b (record t.record_is { dec = None }) t u → Becomes b (record s.record_is { inc = None; dec = None }) s u
    down_too u second = becomes_then b (record s.record_is { inc = None }) (record t.record_is { dec = None }) (record s.record_is { inc = None; dec = None }) s t u
        first second (without_dec (record s.record_is { inc = None }) t.record_is first.same)
