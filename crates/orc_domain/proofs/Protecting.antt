-- What a look needs: a link's target is named, and a slot that was published may be read again and cleared.
use Rattle.std.proofs.Common.{Bool, List, None, Option, Some, [], ap, arith, eq-eqb, false, get_or-set_same, length, refl, subst, suc, sym, true, zero, ℕ, ◌+◌, ◌<◌, ◌∙◌, ◌≡◌, ◌≤◌, ◌∷◌}
use Rattle.std.proofs.lemmas.Bool.{false≢true, lt-ltb, ltb-true}
use Rattle.std.specs.Prelude.{cond, map, nat_lt, slice_get, slice_index_or, slice_set, ◌/◌, ◌==◌, ◌&&◌, ◌||◌}
use Rattle.orc_core.proofs.Within.{and_both}
use Rattle.orc_core.specs.After.{promoted}
use Rattle.orc_core.specs.Allowed.{may, may_place}
use Rattle.orc_core.specs.Counts.{links_to}
use Rattle.orc_core.specs.Machine.{new_machine, word_in}
use Rattle.orc_core.specs.RecordParts.{any_holds, holds, holds_fresh, is_empty, is_published, names, scan_found, slot_of}
use Rattle.orc_core.specs.declared.ops.Op.TheVariants.{LinkLoad, Publish}
use Rattle.orc_core.specs.declared.records.Agent.{Agent}
use Rattle.orc_core.specs.declared.records.SlotUse.{SlotUse}
use Rattle.orc_core.specs.declared.records.SlotUse.TheVariants.{Empty, Held, Published}
use Rattle.orc_heap.specs.Journals.{run_heap}
use Rattle.orc_machine_board.specs.Laws.Steps.{bounds_run}
use Rattle.orc_machine_board.specs.Rules.{run_of}
use Rattle.orc_projection.proofs.Mirrored.{projection_mirrors}
use Rattle.orc_projection.specs.Mirror.{IsNamed, numbers_of}
use Rattle.orc_projection.specs.PresentIds.{PresentIds}
use Rattle.orc_projection.specs.Projection.{StoresUnmarked, present_ids, project}
use Rattle.orc_domain.proofs.Seats.{calm_forced}
use Rattle.orc_domain.proofs.Setting.{set_length}
use Rattle.orc_domain.specs.Calls.{SameParts}
use Rattle.orc_domain.specs.Seats.{IsCalm, IsBetweenCalls, slot_by}
use Rattle.orc_sound.specs.Journals.{IsLawfulJournal}
use Rattle.orc_sound.specs.Linked.{IsOut}
use Rattle.orc_sound.specs.declared.steps.Step.{Step}
use Rattle.orc_words.specs.Bounds.{Bounds, IsShape}
use Rattle.orc_words.specs.Packed.{bit, link_of, link_word, name_word, named}
use Rattle.orc_words.specs.declared.packed.RowLink.{RowLink}
use Rattle.orc_words.specs.declared.place.Word.{Word}
use Rattle.orc_words.specs.declared.place.Word.TheVariants.{Next, Root, Side}

pub same_self : (d : Agent) → SameParts d d
same_self d = record { enrolled = refl; slots = refl; fresh = refl; due = refl; inc = refl; dec = refl; doom = refl; scan = refl }

pub same_then : (d e f : Agent) → SameParts d e → SameParts e f → SameParts d f
same_then d e f p q = record {
  enrolled = q.enrolled ∙ p.enrolled;
  slots = q.slots ∙ p.slots;
  fresh = q.fresh ∙ p.fresh;
  due = q.due ∙ p.due;
  inc = q.inc ∙ p.inc;
  dec = q.dec ∙ p.dec;
  doom = q.doom ∙ p.doom;
  scan = q.scan ∙ p.scan;
}

pub still_ready : (d e : Agent) → SameParts d e → IsBetweenCalls d → IsBetweenCalls e
still_ready d e p r = record {
  enrolled = p.enrolled ∙ r.enrolled;
  eight = ap length p.slots ∙ r.eight;
  due = p.due ∙ r.due;
  inc = p.inc ∙ r.inc;
  dec = p.dec ∙ r.dec;
  zero = ap (λ (z : List SlotUse). slice_index_or z 0 Empty) p.slots ∙ r.zero;
  published = λ k. ap (λ (z : List SlotUse). is_published (slice_index_or z k Empty)) p.slots ∙ r.published k;
  doom = p.doom ∙ r.doom;
  found = ap scan_found p.scan ∙ r.found;
}

-- a slot in which the pass shows nothing is empty, where none is only published
pub empty_slot : (p : PresentIds) (slots : List SlotUse) (k : ℕ) → is_published (slice_index_or slots k Empty) ≡ false
    → slice_get (map (slot_by p) slots) k ≡ Some None
    → slice_index_or slots k Empty ≡ Empty
empty_slot p [] k h e = refl
empty_slot p (Empty ∷ ss) zero h e = refl
empty_slot p (Published r ∷ ss) zero h e = absurd (false≢true (sym h))
empty_slot p (Held r ∷ ss) zero h e = cc
empty_slot p (s ∷ ss) (suc k) h e = empty_slot p ss k h e

-- a slot that is held from now on
set_published : (slots : List SlotUse) (k j r : ℕ) → is_published (slice_index_or slots j Empty) ≡ false
    → is_published (slice_index_or (slice_set slots k (Held r)) j Empty) ≡ false
set_published [] k j r h = h
set_published (s ∷ ss) zero zero r h = refl
set_published (s ∷ ss) zero (suc j) r h = h
set_published (s ∷ ss) (suc k) zero r h = h
set_published (s ∷ ss) (suc k) (suc j) r h = set_published ss k j r h

set_first : (slots : List SlotUse) (k r : ℕ) → 0 < k → slice_index_or (slice_set slots k (Held r)) 0 Empty ≡ slice_index_or slots 0 Empty
set_first [] k r h = refl
set_first (s ∷ ss) zero r h = absurd (omega arith)
set_first (s ∷ ss) (suc k) r h = refl

-- a row that is held in another slot leaves the record ready
pub held_ready : (d e : Agent) (slot r : ℕ) → 0 < slot → IsBetweenCalls d → SameParts (record d { slots = slice_set d.slots slot (Held r) }) e → IsBetweenCalls e
held_ready d e slot r above h s = still_ready (record d { slots = slice_set d.slots slot (Held r) }) e s record {
  enrolled = h.enrolled;
  eight = set_length d.slots slot (Held r) ∙ h.eight;
  due = h.due;
  inc = h.inc;
  dec = h.dec;
  zero = set_first d.slots slot r above ∙ h.zero;
  published = λ j. set_published d.slots slot j r (h.published j);
  doom = h.doom;
  found = h.found;
}

pub publish_may : (b : Bounds) (a : ℕ) (d : Agent) (k r : ℕ) → a < b.agents → IsCalm d → r < b.rows → 0 < k → k < 8 → slot_of d k ≡ Empty
    → may b 0 a (Publish k r) d ≡ true
publish_may b a d k r h calm low above below empty =
    let agent = lt-ltb a b.agents h in
    let on = calm.enrolled in
    let first = calm_forced d (Publish k r) calm in
    let row = lt-ltb r b.rows low in
    let zero = lt-ltb 0 k above in
    let eight = lt-ltb k 8 below in
    let free : is_empty (slot_of d k) ≡ true = ap is_empty empty in
    λ i. ((agent i && on i) && first i) && (((zero i && eight i) && row i) && free i)

pub same_place_ok : (b : Bounds) (w : Word) (p q : ℕ → Bool) → ((r : ℕ) → q r ≡ p r) → may_place b w p ≡ true → may_place b w q ≡ true
same_place_ok b (Root i) p q same h = h
same_place_ok b (Next j) p q same h = ap (λ z. nat_lt j b.rows && z) (same j) ∙ h
same_place_ok b (Side j) p q same h = ap (λ z. (nat_lt j b.rows && nat_lt 1 b.links) && z) (same j) ∙ h
same_place_ok b w p q same h = absurd (false≢true h)

-- a link that was read may be read again, with a slot in which its target was published
pub reload_may : (b : Bounds) (a : ℕ) (d e : Agent) (w : Word) (k r : ℕ) → a < b.agents → k < 8 → IsBetweenCalls d
    → may_place b w (λ q. any_holds (slice_set d.slots k (Published r)) q || names d.fresh q) ≡ true
    → SameParts (record d { slots = slice_set d.slots k (Published r) }) e → may b 0 a (LinkLoad w (Some k)) e ≡ true
reload_may b a d e w k r h eight ready place same =
    let agent = lt-ltb a b.agents h in
    let on = same.enrolled ∙ ready.enrolled in
    let calm : IsCalm e = record { enrolled = on; due = same.due ∙ ready.due; inc = same.inc ∙ ready.inc; dec = same.dec ∙ ready.dec } in
    let first = calm_forced e (LinkLoad w (Some k)) calm in
    let low = lt-ltb k 8 eight in
    let long : k < length d.slots = subst (λ n. k < n) (sym ready.eight) eight in
    let its : is_published (slot_of e k) ≡ true = ap (λ (z : List SlotUse). is_published (slice_index_or z k Empty)) same.slots
    ∙ ap is_published (get_or-set_same d.slots k (Published r) Empty long) in
    let there = same_place_ok b w (λ q. any_holds (slice_set d.slots k (Published r)) q || names d.fresh q) (λ q. any_holds e.slots q || names e.fresh q)
    (λ q i. any_holds (same.slots i) q || names (same.fresh i) q) place in
    λ i. ((agent i && on i) && first i) && ((there i && low i) && its i)

-- the row that a link word names
pub word_row : (l : RowLink) (r : ℕ) → l.to ≡ Some r → (link_word l / 2 == r + 1) ≡ true
word_row l r e =
    let name : name_word l.to ≡ r + 1 = ap name_word e in
    let low = bit_low l.mark in
    eq-eqb (link_word l / 2) (r + 1) (omega arith)
  where
    bit_low : (m : Bool) → bit m ≤ 1
    bit_low true = omega arith
    bit_low false = omega arith

-- a slot that was published, read again, may be emptied unless it holds the fresh row
pub promoted_full : (v r : ℕ) → is_empty (promoted (Published r) v) ≡ false
promoted_full v r = cases (v / 2 == r + 1)
  where
    cases : (t : Bool) → is_empty (cond t (Held r) (Published r)) ≡ false
    cases true = refl
    cases false = refl

pub promoted_fresh : (fresh : Option ℕ) (v r : ℕ) → names fresh r ≡ false → holds_fresh fresh (promoted (Published r) v) ≡ false
promoted_fresh None v r h = refl
promoted_fresh (Some f) v r h = cases (v / 2 == r + 1)
  where
    other : (r == f) ≡ false
    other = grind arith

    cases : (t : Bool) → holds (cond t (Held r) (Published r)) f ≡ false
    cases true = other
    cases false = refl

pub either_way : (b : Bool) → (b ≡ true → ⊥) → b ≡ false
either_way true h = absurd (h refl)
either_way false h = refl

pub true_false : (b : Bool) → b ≡ true → b ≡ false → ⊥
true_false true e f = false≢true (sym f)
true_false false e f = false≢true e

named_to : (w r : ℕ) → named (w / 2) ≡ Some r → links_to w r ≡ true
named_to w r e = grind arith

-- a link was made to each target
pub target_named : {N : Type 0} (b : Bounds) (j : List (Step N)) → IsShape b → IsLawfulJournal (new_machine b) j → StoresUnmarked j → (p : ℕ → Bool)
    → ((q : ℕ) → p q ≡ true → IsOut (run_of b j) q) → (w : Word) → may_place b w p ≡ true → (r : ℕ) → (link_of (word_in (run_of b j) w)).to ≡ Some r
    → IsNamed (run_heap (numbers_of b) (project b j)) ((present_ids b j).node r)
target_named b j shape l plain p h (Root i) e r to =
    let mirror = projection_mirrors b j shape l plain in
    let low : i < (run_of b j).bounds.roots = subst (λ (c : Bounds). i < c.roots) (sym (bounds_run b j)) (ltb-true i b.roots e) in
    mirror.root_named i r low (named_to (word_in (run_of b j) (Root i)) r to)
target_named b j shape l plain p h (Next q) e r to =
    let mirror = projection_mirrors b j shape l plain in
    mirror.next_named q r (h q (and_both (nat_lt q b.rows) (p q) e).1) (named_to (word_in (run_of b j) (Next q)) r to)
target_named b j shape l plain p h (Side q) e r to =
    let mirror = projection_mirrors b j shape l plain in
    let both = and_both (nat_lt q b.rows && nat_lt 1 b.links) (p q) e in
    let two : 1 < (run_of b j).bounds.links =
    subst (λ (c : Bounds). 1 < c.links) (sym (bounds_run b j)) (ltb-true 1 b.links (and_both (nat_lt q b.rows) (nat_lt 1 b.links) both.0).1) in
    mirror.side_named q r two (h q both.1) (named_to (word_in (run_of b j) (Side q)) r to)
target_named b j shape l plain p h w e r to = absurd (false≢true e)
