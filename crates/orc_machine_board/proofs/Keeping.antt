-- What a pass keeps of its record is enough for its actions, and for what it keeps after them.
use Rattle.std.proofs.Common.{List, None, Option, Some, [], ap, cond, false, length, refl, subst, suc, sym, true, zero, ℕ, ◌+◌, ◌*◌, ◌<◌, ◌∙◌, ◌∷◌, ◌≡◌, ◌≤◌}
use Rattle.std.specs.Option.{ForSome}
use Rattle.std.specs.Prelude.{Bool, map, slice_index_or, slice_set, ◌==◌, ◌%◌, ◌/◌, ◌^◌}
use Rattle.orc_core.specs.Actions.{IsPackable, action_of, clear_word}
use Rattle.orc_core.specs.After.{IsRecordable, after, hand_by, list_by, promoted, promoted_at, scan_by, scan_on}
use Rattle.orc_core.specs.Listed.{listed_more, listed_name}
use Rattle.orc_core.specs.RecordParts.{is_empty, names, number_of, same_target, scanned, slot_of}
use Rattle.orc_core.specs.declared.ops.Op.{Op}
use Rattle.orc_core.specs.declared.ops.Op.TheVariants.{Arm, Clear, CounterLoad, Dec, Enroll, Fill, Free, GateLook, GateTake, Hand, Inc, LinkCas, LinkLoad, LinkStore, Publish, Read, SetRetired, SlotLook, TakeIn, Unretire, MoveOn, HandoverLook, DecHeld}
use Rattle.orc_core.specs.declared.records.Agent.{Agent}
use Rattle.orc_core.specs.declared.records.SlotUse.{SlotUse}
use Rattle.orc_core.specs.declared.records.SlotUse.TheVariants.{Empty, Held, Published}
use Rattle.orc_machine_board.specs.Kept.{IsInUse, Kept, kept_of}
use Rattle.orc_shared_words.specs.Operations.{returned_by}
use Rattle.orc_words.specs.Packed.{link_word, named}
use Rattle.orc_words.specs.declared.operation.Operation.TheVariants.{CompareExchange, Swap}
use Rattle.orc_words.specs.declared.place.Word.{Word}
use Rattle.orc_words.specs.declared.place.Word.TheVariants.{Gate, Handover}

-- a list that is changed at one place, seen through a map
pub map-set : {A B : Type 0} (f : A → B) (xs : List A) (k : ℕ) (x : A) → map f (slice_set xs k x) ≡ slice_set (map f xs) k (f x)
map-set f [] k x = refl
map-set f (y ∷ xs) zero x = refl
map-set f (y ∷ xs) (suc k) x = ap (λ l. f y ∷ l) (map-set f xs k x)

-- a slot that is Held or Published names a row
published_full : (b : Bool) (r : ℕ) → is_empty (cond b (Held r) (Published r)) ≡ false
published_full true r = refl
published_full false r = refl

-- a slot that is promoted names a row, as before
promoted_empty : (s : SlotUse) (w : ℕ) → is_empty (promoted s w) ≡ is_empty s
promoted_empty Empty w = refl
promoted_empty (Held r) w = refl
promoted_empty (Published r) w = published_full (w / 2 == r + 1) r

set_promoted : (slots : List SlotUse) (k w : ℕ) → map is_empty (slice_set slots k (promoted (slice_index_or slots k Empty) w)) ≡ map is_empty slots
set_promoted [] k w = refl
set_promoted (s ∷ slots) zero w = ap (λ e. e ∷ map is_empty slots) (promoted_empty s w)
set_promoted (s ∷ slots) (suc k) w = ap (λ l. is_empty s ∷ l) (set_promoted slots k w)

promoted_slots : (slot : Option ℕ) (slots : List SlotUse) (w : ℕ) → map is_empty (promoted_at slot slots w) ≡ map is_empty slots
promoted_slots None slots w = refl
promoted_slots (Some k) slots w = set_promoted slots k w

-- what is kept after a step, by what was kept before it
abbrev kept_after : Op → Kept → ℕ → Kept
kept_after (GateLook r) k w = record k { looked = cond (w % 2 == 0) (Some (record { row = r; number = w / 2 })) None }
kept_after (GateTake r) k w = record k { fresh = cond (w == 2 * number_of k.looked) (Some r) k.fresh; looked = None }
kept_after (Publish s r) k w = record k { empty = slice_set k.empty s false }
kept_after (MoveOn s r) k w = record k { empty = slice_set k.empty s false }
kept_after (Clear s) k w = record k { empty = slice_set k.empty s true }
kept_after (Arm r) k w = record k { empty = slice_set k.empty 0 false }
kept_after (LinkCas p f t) k w = record k {
  fresh = cond (w == link_word f) (cond (same_target f.to t.to) k.fresh (cond (same_target k.fresh t.to) None k.fresh)) k.fresh;
}
kept_after (SetRetired r q) k w = record k {
  fresh = cond (w == clear_word q) (cond (names k.fresh r) None k.fresh) k.fresh;
  list = cond (w == clear_word q) (listed_more k.list r) k.list;
}
kept_after (CounterLoad r how) k w = record k { hand = hand_by how k.hand; list = list_by how r k.hand k.list; scan = scan_by how r w k.scan }
kept_after (Unretire r) k w = record k { scan = None }
kept_after (SlotLook s) k w = record k { scan = scan_on k.scan w }
kept_after (Hand s) k w = record k { scan = None; hand = named w }
kept_after (TakeIn s) k w = record k { list = listed_name k.list (named w) }
kept_after op k w = k

step_kept : (op : Op) (d : Agent) (w : ℕ) → kept_of (after op d w) ≡ kept_after op (kept_of d) w
step_kept Enroll d w = refl
step_kept (GateLook r) d w = refl
step_kept (GateTake r) d w = refl
step_kept (Fill r which v) d w = refl
step_kept (Read r which) d w = refl
step_kept (LinkLoad p slot) d w = ap (λ l. record (kept_of d) { empty = l }) (promoted_slots slot d.slots w)
step_kept (Publish k r) d w = ap (λ l. record (kept_of d) { empty = l }) (map-set is_empty d.slots k (cond (names d.fresh r) (Held r) (Published r))
    ∙ ap (slice_set (map is_empty d.slots) k) (published_full (names d.fresh r) r))
step_kept (MoveOn k r) d w = ap (λ l. record (kept_of d) { empty = l }) (map-set is_empty d.slots k (cond (names d.fresh r) (Held r) (Published r))
    ∙ ap (slice_set (map is_empty d.slots) k) (published_full (names d.fresh r) r))
step_kept (Clear k) d w = ap (λ l. record (kept_of d) { empty = l }) (map-set is_empty d.slots k Empty)
step_kept (Arm r) d w = ap (λ l. record (kept_of d) { empty = l }) (map-set is_empty d.slots 0 (Held r))
step_kept (LinkCas p f t) d w = refl
step_kept (LinkStore r l n) d w = refl
step_kept (Inc r) d w = refl
step_kept (Dec r) d w = refl
step_kept (SetRetired r q) d w = refl
step_kept (CounterLoad r how) d w = refl
step_kept (Unretire r) d w = refl
step_kept (SlotLook k) d w = refl
step_kept (Hand k) d w = refl
step_kept (TakeIn k) d w = refl
step_kept (Free r) d w = refl
step_kept (HandoverLook k) d w = refl
step_kept (DecHeld r) d w = refl

-- a load of a link keeps all
pub load_kept : (place : Word) (slot : Option ℕ) (d : Agent) (w : ℕ) → kept_of d ≡ kept_of (after (LinkLoad place slot) d w)
load_kept place slot d w = sym (step_kept (LinkLoad place slot) d w)

-- a slot that comes to name a row is kept alike, whichever row it names
pub published_kept : (k r q : ℕ) (d : Agent) (w : ℕ) → kept_of (record d { slots = slice_set d.slots k (Held q) }) ≡ kept_of (after (Publish k r) d w)
published_kept k r q d w = ap (λ l. record (kept_of d) { empty = l }) (map-set is_empty d.slots k (Held q)) ∙ sym (step_kept (Publish k r) d w)

-- a slot that names a row is kept so
set_used : (slots : List SlotUse) (k : ℕ) → is_empty (slice_index_or slots k Empty) ≡ false → map is_empty slots ≡ slice_set (map is_empty slots) k false
set_used [] k e = refl
set_used (s ∷ slots) zero e = ap (λ b. b ∷ map is_empty slots) e
set_used (s ∷ slots) (suc k) e = ap (λ l. is_empty s ∷ l) (set_used slots k e)

-- a slot that moves on is kept as it was
pub moved_kept : (k r : ℕ) (d : Agent) (w : ℕ) → is_empty (slot_of d k) ≡ false → kept_of d ≡ kept_of (after (MoveOn k r) d w)
moved_kept k r d w e = ap (λ l. record (kept_of d) { empty = l }) (set_used d.slots k e) ∙ sym (step_kept (MoveOn k r) d w)

pub armed_kept : (r q : ℕ) (d : Agent) (w : ℕ) → kept_of (record d { slots = slice_set d.slots 0 (Held q) }) ≡ kept_of (after (Arm r) d w)
armed_kept r q d w = ap (λ l. record (kept_of d) { empty = l }) (map-set is_empty d.slots 0 (Held q)) ∙ sym (step_kept (Arm r) d w)

pub same_after : (op : Op) (d e : Agent) (w : ℕ) → kept_of d ≡ kept_of e → kept_of (after op d w) ≡ kept_of (after op e w)
same_after op d e w h = step_kept op d w ∙ (ap (λ k. kept_after op k w) h ∙ sym (step_kept op e w))

pub same_action : (a : ℕ) (op : Op) (d e : Agent) → kept_of d ≡ kept_of e → action_of a op d ≡ action_of a op e
same_action a Enroll d e h = refl
same_action a (GateLook r) d e h = refl
same_action a (GateTake r) d e h =
    ap (λ (k : Kept). record { word = Gate r; operation = CompareExchange (2 * number_of k.looked) (2 * (number_of k.looked + 1) + 1) }) h
same_action a (Fill r which v) d e h = refl
same_action a (Read r which) d e h = refl
same_action a (LinkLoad p slot) d e h = refl
same_action a (Publish k r) d e h = refl
same_action a (Clear k) d e h = refl
same_action a (Arm r) d e h = refl
same_action a (LinkCas p f t) d e h = refl
same_action a (LinkStore r l n) d e h = refl
same_action a (Inc r) d e h = refl
same_action a (Dec r) d e h = refl
same_action a (SetRetired r q) d e h = refl
same_action a (CounterLoad r how) d e h = refl
same_action a (Unretire r) d e h = refl
same_action a (SlotLook k) d e h = refl
same_action a (Hand k) d e h = ap (λ (q : Kept). record { word = Handover (k / 8) (k % 8); operation = Swap (scanned q.scan + 1) }) h
same_action a (TakeIn k) d e h = refl
same_action a (Free r) d e h = refl
same_action a (MoveOn k r) d e h = refl
same_action a (HandoverLook k) d e h = refl
same_action a (DecHeld r) d e h = refl

pub same_packable : (op : Op) (d e : Agent) → kept_of d ≡ kept_of e → IsPackable op d → IsPackable op e
same_packable (GateTake r) d e h p = subst (λ (k : Kept). number_of k.looked < 2 ^ 40) h p
same_packable (LinkCas at f t) d e h p = p
same_packable (LinkStore r l n) d e h p = p
same_packable (SetRetired r q) d e h p = p
same_packable op d e h p = tt

pub same_recordable : (op : Op) (d e : Agent) → kept_of d ≡ kept_of e → IsRecordable op d → IsRecordable op e
same_recordable (LinkLoad p slot) d e h r = r
same_recordable (Publish k q) d e h r = r
same_recordable (Clear k) d e h r = r
same_recordable (MoveOn k q) d e h r = r
same_recordable (LinkStore q l n) d e h r = r
same_recordable (SlotLook k) d e h r = subst (λ (q : Kept). ForSome q.scan (λ s. s.place < 2 ^ 31)) h r
same_recordable op d e h r = tt

-- whether a slot is empty
empty_at : (slots : List SlotUse) (k : ℕ) → is_empty (slice_index_or slots k Empty) ≡ slice_index_or (map is_empty slots) k true
empty_at [] k = refl
empty_at (s ∷ slots) zero = refl
empty_at (s ∷ slots) (suc k) = empty_at slots k

pub same_empty : (d e : Agent) (k : ℕ) → kept_of d ≡ kept_of e → is_empty (slot_of d k) ≡ is_empty (slot_of e k)
same_empty d e k h = empty_at d.slots k ∙ (ap (λ (q : Kept). slice_index_or q.empty k true) h ∙ sym (empty_at e.slots k))

pub same_in_use : (op : Op) (d e : Agent) → kept_of d ≡ kept_of e → IsInUse op d → IsInUse op e
same_in_use (MoveOn k r) d e h u = sym (same_empty d e k h) ∙ u
same_in_use op d e h u = tt

-- what a step returned tells the word that it found, as far as the record goes
pub read_back : (a : ℕ) (op : Op) (d : Agent) (n w : ℕ) → n ≡ returned_by (action_of a op d).operation w → after op d n ≡ after op d w
read_back a Enroll d n w h = refl
read_back a (GateLook r) d n w h = ap (after (GateLook r) d) h
read_back a (GateTake r) d n w h = ap (after (GateTake r) d) h
read_back a (Fill r which v) d n w h = refl
read_back a (Read r which) d n w h = refl
read_back a (LinkLoad p slot) d n w h = ap (after (LinkLoad p slot) d) h
read_back a (Publish k r) d n w h = refl
read_back a (Clear k) d n w h = refl
read_back a (Arm r) d n w h = refl
read_back a (LinkCas p f t) d n w h = ap (after (LinkCas p f t) d) h
read_back a (LinkStore r l k) d n w h = ap (after (LinkStore r l k) d) h
read_back a (Inc r) d n w h = ap (after (Inc r) d) h
read_back a (Dec r) d n w h = ap (after (Dec r) d) h
read_back a (SetRetired r q) d n w h = ap (after (SetRetired r q) d) h
read_back a (CounterLoad r how) d n w h = ap (after (CounterLoad r how) d) h
read_back a (Unretire r) d n w h = ap (after (Unretire r) d) h
read_back a (SlotLook k) d n w h = ap (after (SlotLook k) d) h
read_back a (Hand k) d n w h = ap (after (Hand k) d) h
read_back a (TakeIn k) d n w h = ap (after (TakeIn k) d) h
read_back a (Free r) d n w h = refl
read_back a (MoveOn k r) d n w h = refl
read_back a (HandoverLook k) d n w h = refl
read_back a (DecHeld r) d n w h = ap (after (DecHeld r) d) h

-- what is kept after a step that returned this number, where it found that word
pub kept_next : (a : ℕ) (op : Op) (d e : Agent) (n w : ℕ) → kept_of d ≡ kept_of e → n ≡ returned_by (action_of a op d).operation w
    → kept_of (after op d w) ≡ kept_of (after op e n)
kept_next a op d e n w h r = ap kept_of (sym (read_back a op d n w r)) ∙ same_after op d e n h

-- there is room in the one list as in the other
pub same_room : (a : ℕ) (op : Op) (d e : Agent) (n w : ℕ) → kept_of d ≡ kept_of e → n ≡ returned_by (action_of a op d).operation w
    → length (after op d w).list.items ≤ d.list.room → length (after op e n).list.items ≤ e.list.room
same_room a op d e n w h r room =
    subst (λ (k : Kept). length (after op e n).list.items ≤ k.list.room) h
    (subst (λ (k : Kept). length k.list.items ≤ d.list.room) (kept_next a op d e n w h r) room)
