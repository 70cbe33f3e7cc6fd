-- What the kinds that save steps do, told by the others.
use Rattle.std.proofs.Common.{◌≡◌, ℕ, ◌+◌, ◌<◌, Bool, true, false, List, [], ◌∷◌, suc, zero, cond, ap, ap₂, get_or-set_same, refl, sym, ◌∙◌}
use Rattle.std.proofs.lemmas.Bool.{lt-ltb}
use Rattle.std.proofs.lemmas.List.{set-get_or}
use Rattle.std.specs.Prelude.{nat_lt, not, ◌&&◌, ◌||◌, slice_index_or, slice_set}
use Rattle.orc_words.specs.Bounds.{Bounds}
use Rattle.orc_words.specs.Places.{place}
use Rattle.orc_words.specs.declared.place.Word.TheVariants.{Enrolled, Handover, Slot}
use Rattle.orc_core.specs.After.{after}
use Rattle.orc_core.specs.Allowed.{fits, forced, may, stands}
use Rattle.orc_core.specs.Machine.{IsWhole, Machine, answer, is_allowed, nobody, record_at, step, word_in}
use Rattle.orc_core.specs.RecordParts.{any_holds, holds, holds_fresh, is_empty, names, slot_of}
use Rattle.orc_core.specs.declared.ops.Op.{Op}
use Rattle.orc_core.specs.declared.ops.Op.TheVariants.{Clear, Dec, DecHeld, HandoverLook, MoveOn, Publish, TakeIn}
use Rattle.orc_core.specs.declared.records.Agent.{Agent}
use Rattle.orc_core.specs.declared.records.SlotUse.{SlotUse}
use Rattle.orc_core.specs.declared.records.SlotUse.TheVariants.{Empty, Held, Published}
use Rattle.orc_core.proofs.Order.{alike, decrements_alike}
use Rattle.orc_core.proofs.Within.{and_both, may_parts}

set_twice : {A : Type 0} (xs : List A) (i : ℕ) (x y : A) → slice_set (slice_set xs i x) i y ≡ slice_set xs i y
set_twice [] i x y = refl
set_twice (z ∷ zs) zero x y = refl
set_twice (z ∷ zs) (suc i) x y = ap (λ l. z ∷ l) (set_twice zs i x y)

emptied : (ss : List SlotUse) (k : ℕ) → slice_index_or (slice_set ss k Empty) k Empty ≡ Empty
emptied [] k = refl
emptied (s ∷ ss) zero = refl
emptied (s ∷ ss) (suc k) = emptied ss k

-- what is allowed, by its parts
may_of : (b : Bounds) (e a : ℕ) (op : Op) (d : Agent) → a < b.agents → stands op d ≡ true → forced d op ≡ true → fits b e a op d ≡ true
    → may b e a op d ≡ true
may_of b e a op d h s o f = rw (lt-ltb a b.agents h, s, o, f) refl

clear_fits : (b : Bounds) (e a k r : ℕ) (d : Agent) → fits b e a (MoveOn k r) d ≡ true → fits b e a (Clear k) d ≡ true
clear_fits b e a k r d f =
    let s = slot_of d k in
    let parts = and_both (nat_lt 0 k && nat_lt k 8 && nat_lt r b.rows && not (is_empty s)) (not (holds_fresh d.fresh s)) f in
    let used = and_both (nat_lt 0 k && nat_lt k 8 && nat_lt r b.rows) (not (is_empty s)) parts.0 in
    let low = and_both (nat_lt 0 k && nat_lt k 8) (nat_lt r b.rows) used.0 in
    let few = and_both (nat_lt 0 k) (nat_lt k 8) low.0 in
    λ i. (few.1 i && used.1 i) && parts.1 i

publish_fits : (b : Bounds) (e a k r : ℕ) (d : Agent) → fits b e a (MoveOn k r) d ≡ true → fits b e a (Publish k r) (after (Clear k) d 0) ≡ true
publish_fits b e a k r d f =
    let s = slot_of d k in
    let parts = and_both (nat_lt 0 k && nat_lt k 8 && nat_lt r b.rows && not (is_empty s)) (not (holds_fresh d.fresh s)) f in
    let used = and_both (nat_lt 0 k && nat_lt k 8 && nat_lt r b.rows) (not (is_empty s)) parts.0 in
    λ i. used.0 i && is_empty (emptied d.slots k i)

cleared : (m : Machine) (a k r : ℕ) → IsWhole m → is_allowed m a (MoveOn k r) ≡ true
    → record_at (step m a (Clear k)) a ≡ after (Clear k) (record_at m a) 0
cleared m a k r whole h = get_or-set_same m.agents a (after (Clear k) (record_at m a) 0) (nobody m.bounds.rows)
    (rw whole.agents (may_parts m.bounds (word_in m Enrolled) a (MoveOn k r) (record_at m a) h).agent)

pub move_allowed : (m : Machine) (a k r : ℕ) → IsWhole m → is_allowed m a (MoveOn k r) ≡ true
    → (is_allowed m a (Clear k) ≡ true) × (is_allowed (step m a (Clear k)) a (Publish k r) ≡ true)
move_allowed m a k r whole h =
    let d = record_at m a in
    let p = may_parts m.bounds (word_in m Enrolled) a (MoveOn k r) d h in (
      may_of m.bounds (word_in m Enrolled) a (Clear k) d p.agent p.stands (alike d.due d.inc d.dec (Clear k) (MoveOn k r) refl refl ∙ p.forced)
          (clear_fits m.bounds (word_in m Enrolled) a k r d p.fits),
      rw (cleared m a k r whole h) (may_of m.bounds (word_in (step m a (Clear k)) Enrolled) a (Publish k r) (after (Clear k) d 0) p.agent p.stands
          (alike d.due d.inc d.dec (Publish k r) (MoveOn k r) refl refl ∙ p.forced)
          (publish_fits m.bounds (word_in (step m a (Clear k)) Enrolled) a k r d p.fits)),
    )

pub moved_on : (m : Machine) (a k r : ℕ) → IsWhole m → is_allowed m a (MoveOn k r) ≡ true
    → step m a (MoveOn k r) ≡ step (step m a (Clear k)) a (Publish k r)
moved_on m a k r whole h =
    let d = record_at m a in
    let same : after (Publish k r) (after (Clear k) d 0) 0 ≡ after (MoveOn k r) d 0 = ap (λ (s : List SlotUse). record d { slots = s })
    (set_twice d.slots k Empty (cond (names d.fresh r) (Held r) (Published r))) in
    let agents = set_twice m.agents a (after (Clear k) d 0) (after (Publish k r) (record_at (step m a (Clear k)) a) 0)
    ∙ ap (λ (x : Agent). slice_set m.agents a (after (Publish k r) x 0)) (cleared m a k r whole h) ∙ ap (λ (x : Agent). slice_set m.agents a x) same in
    let words = set_twice m.words (place m.bounds (Slot a k)) 0 (r + 1) in
    sym (ap₂ (λ (ws : List ℕ) (ds : List Agent). record { bounds = m.bounds; words = ws; agents = ds }) words agents)

pub look_allowed : (m : Machine) (a k : ℕ) → is_allowed m a (HandoverLook k) ≡ is_allowed m a (TakeIn k)
look_allowed m a k = let d = record_at m a in rw (alike d.due d.inc d.dec (HandoverLook k) (TakeIn k) refl refl) refl

machine_is : (m : Machine) (words : List ℕ) (agents : List Agent) → words ≡ m.words → agents ≡ m.agents
    → record { bounds = m.bounds; words = words; agents = agents } ≡ m
machine_is m words agents w d = rw (w, d) refl

pub looked : (m : Machine) (a k : ℕ) → step m a (HandoverLook k) ≡ m
looked m a k = machine_is m _ _ (set-get_or m.words (place m.bounds (Handover a k)) 0) (set-get_or m.agents a (nobody m.bounds.rows))

pub took_nothing : (m : Machine) (a k : ℕ) → answer m a (HandoverLook k) ≡ 0 → (step m a (TakeIn k) ≡ m) × (answer m a (TakeIn k) ≡ 0)
took_nothing m a k none =
    let at = place m.bounds (Handover a k) in
    let d = record_at m a in (
      machine_is m _ _ (ap (λ (v : ℕ). slice_set m.words at v) (sym none) ∙ set-get_or m.words at 0)
          (ap (λ (v : ℕ). slice_set m.agents a (after (TakeIn k) d v)) none ∙ set-get_or m.agents a (nobody m.bounds.rows)),
      none,
    )

any_at : (ss : List SlotUse) (k r : ℕ) → holds (slice_index_or ss k Empty) r ≡ true → any_holds ss r ≡ true
any_at [] k r h = h
any_at (s ∷ ss) zero r h = rw h refl
any_at (s ∷ ss) (suc k) r h = or_true (holds s r) (any_at ss k r h)
  where
    or_true : (x : Bool) → {y : Bool} → y ≡ true → (x || y) ≡ true
    or_true true h = refl
    or_true false h = h

held_fits : (b : Bounds) (e a r : ℕ) (d : Agent) → fits b e a (Dec r) d ≡ true → fits b e a (DecHeld r) d ≡ true
held_fits b e a r d f =
    let parts = and_both (nat_lt r b.rows && names d.dec r) (holds (slot_of d 0) r) f in
    let some = any_at d.slots 0 r parts.1 in
    λ i. parts.0 i && some i

pub held_allowed : (m : Machine) (a r : ℕ) → is_allowed m a (Dec r) ≡ true → is_allowed m a (DecHeld r) ≡ true
held_allowed m a r h =
    let d = record_at m a in
    let e = word_in m Enrolled in
    let p = may_parts m.bounds e a (Dec r) d h in
    may_of m.bounds e a (DecHeld r) d p.agent p.stands (decrements_alike d.due d.inc d.dec r ∙ p.forced) (held_fits m.bounds e a r d p.fits)
