-- What is allowed is within the shape.
use Rattle.std.proofs.Common.{◌≡◌, ℕ, ◌+◌, ◌^◌, ◌<◌, ◌≤◌, Bool, true, false, suc, zero, [], ◌∷◌, length, length-append, cond, ltb, arith, refl}
use Rattle.std.proofs.lemmas.List.{get_or_past, get_or-replicate}
use Rattle.std.proofs.Math.ListN.{length-replicate}
use Rattle.orc_core.specs.Machine.{EachWithRoom, LeavesRoom, Machine, has_room, nobody, record_at, word_read}
use Rattle.orc_core.specs.Listed.{Listed, listed_more, listed_name}
use Rattle.orc_words.specs.Packed.{named}
use Rattle.std.proofs.lemmas.Grind.{common_steps}
use Rattle.std.specs.Prelude.{replicate, Option, Some, None, ◌&&◌, ◌==◌}
use Rattle.std.proofs.lemmas.Bool.{ltb-true, lt-ltb, false≢true}
use Rattle.orc_words.specs.Bounds.{Bounds}
use Rattle.orc_words.specs.Places.{IsWithin, place, places}
use Rattle.orc_words.proofs.Positions.{place_below}
use Rattle.orc_words.specs.declared.place.Word.TheVariants.{Root, Next, Side}
use Rattle.orc_core.specs.declared.records.Agent.{Agent}
use Rattle.orc_core.specs.declared.ops.CounterUse.TheVariants.{Check, Start, End}
use Rattle.orc_core.specs.declared.ops.Op.{Op}
use Rattle.orc_core.specs.declared.ops.Op.TheVariants.{Enroll, GateLook, GateTake, Fill, Read, LinkLoad, Publish, Clear, Arm, LinkCas, LinkStore, Inc, Dec, SetRetired, CounterLoad, Unretire, SlotLook, Hand, TakeIn, Free, MoveOn, HandoverLook, DecHeld}
use Rattle.orc_core.specs.Actions.{action_of, clear_word, IsPackable}
use Rattle.orc_core.specs.After.{IsRecordable, after}
use Rattle.orc_core.specs.Allowed.{may, fits, stands, forced}

pub and_both : (a b : Bool) → (a && b) ≡ true → (a ≡ true) × (b ≡ true)
and_both true true h = (refl, refl)
and_both true false h = (refl, h)
and_both false b h = absurd (false≢true h)

-- the parts of what is allowed
pub record IsAllowed (b : Bounds) (e a : ℕ) (op : Op) (d : Agent) : Type 0 where
  pub agent : a < b.agents
  pub stands : stands op d ≡ true
  pub forced : forced d op ≡ true
  pub fits : fits b e a op d ≡ true

pub may_parts : (b : Bounds) (e a : ℕ) (op : Op) (d : Agent) → may b e a op d ≡ true → IsAllowed b e a op d
may_parts b e a op d h =
    let p : ((ltb a b.agents && stands op d) && forced d op ≡ true) × (fits b e a op d ≡ true) = and_both _ _ h in
    let q : (ltb a b.agents && stands op d ≡ true) × (forced d op ≡ true) = and_both _ _ p.0 in
    let r : (ltb a b.agents ≡ true) × (stands op d ≡ true) = and_both _ _ q.0 in
    record { agent = ltb-true _ _ r.0; stands = r.1; forced = q.1; fits = p.1 }

pub fits_within : (b : Bounds) (e a : ℕ) (op : Op) (d : Agent) → a < b.agents → fits b e a op d ≡ true → IsWithin b (action_of a op d).word
fits_within b e a Enroll d n h = tt
fits_within b e a (GateLook r) d n h = grind arith
fits_within b e a (GateTake r) d n h = grind arith
fits_within b e a (Fill r which v) d n h = grind arith
fits_within b e a (Read r which) d n h = grind arith
fits_within b e a (LinkLoad (Root i) None) d n h = grind arith
fits_within b e a (LinkLoad (Next i) None) d n h = grind arith
fits_within b e a (LinkLoad (Side i) None) d n h = grind arith
fits_within b e a (LinkLoad w None) d n h = grind arith
fits_within b e a (LinkLoad (Root i) (Some k)) d n h = grind arith
fits_within b e a (LinkLoad (Next i) (Some k)) d n h = grind arith
fits_within b e a (LinkLoad (Side i) (Some k)) d n h = grind arith
fits_within b e a (LinkLoad w (Some k)) d n h = grind arith
fits_within b e a (Publish k r) d n h = grind arith
fits_within b e a (Clear k) d n h = grind arith
fits_within b e a (Arm r) d n h = grind arith
fits_within b e a (LinkCas (Root i) f t) d n h = grind arith
fits_within b e a (LinkCas (Next i) f t) d n h = grind arith
fits_within b e a (LinkCas (Side i) f t) d n h = grind arith
fits_within b e a (LinkCas w f t) d n h = grind arith
fits_within b e a (LinkStore r l zero) d n h = grind arith
fits_within b e a (LinkStore r l (suc k)) d n h =
    let p : (ltb r b.rows ≡ true) × (ltb (suc k) b.links ≡ true) = and_both _ _ (and_both _ _ (and_both _ _ h).0).0 in
    let i = ltb-true (suc k) b.links p.1 in
    (ltb-true r b.rows p.0, omega arith)
fits_within b e a (Inc r) d n h = grind arith
fits_within b e a (Dec r) d n h = grind arith
fits_within b e a (SetRetired r q) d n h = grind arith
fits_within b e a (CounterLoad r Check) d n h = grind arith
fits_within b e a (CounterLoad r Start) d n h = grind arith
fits_within b e a (CounterLoad r End) d n h = grind arith
fits_within b e a (Unretire r) d n h = grind arith
fits_within b e a (SlotLook k) d n h = grind arith
fits_within b e a (Hand k) d n h = grind arith
fits_within b e a (TakeIn k) d n h = grind arith
fits_within b e a (Free r) d n h = grind arith
fits_within b e a (MoveOn k r) d n h = grind arith
fits_within b e a (HandoverLook k) d n h = grind arith
fits_within b e a (DecHeld r) d n h = grind arith

pub fits_packable : (b : Bounds) (e a : ℕ) (op : Op) (d : Agent) → fits b e a op d ≡ true → b.rows ≤ 65535 → b.limit ≤ 2 ^ 39 → IsPackable op d
fits_packable b e a Enroll d h s l = tt
fits_packable b e a (GateTake r) d h s l = grind arith
fits_packable b e a (LinkCas p f t) d h s l = grind arith
fits_packable b e a (LinkStore r k n) d h s l = grind arith
fits_packable b e a (SetRetired r q) d h s l = grind arith
fits_packable b e a op d h s l = grind arith

pub may_packable : (b : Bounds) (e a : ℕ) (op : Op) (d : Agent) → may b e a op d ≡ true → b.rows ≤ 65535 → b.limit ≤ 2 ^ 39 → IsPackable op d
may_packable b e a op d h s l = fits_packable b e a op d (may_parts b e a op d h).fits s l

pub fits_recordable : (b : Bounds) (e a : ℕ) (op : Op) (d : Agent) → fits b e a op d ≡ true → b.agents ≤ 16 → b.links ≤ 2 → IsRecordable op d
fits_recordable b e a (LinkLoad p None) d h s l = grind arith
fits_recordable b e a (LinkLoad p (Some k)) d h s l = grind arith
fits_recordable b e a (LinkStore r k n) d h s l = grind arith
fits_recordable b e a (SlotLook k) d h s l = grind arith
fits_recordable b e a op d h s l = grind arith

pub may_recordable : (b : Bounds) (e a : ℕ) (op : Op) (d : Agent) → may b e a op d ≡ true → b.agents ≤ 16 → b.links ≤ 2 → IsRecordable op d
may_recordable b e a op d h s l = fits_recordable b e a op d (may_parts b e a op d h).fits s l

pub may_within : (b : Bounds) (e a : ℕ) (op : Op) (d : Agent) → may b e a op d ≡ true → IsWithin b (action_of a op d).word
may_within b e a op d h = let p = may_parts b e a op d h in fits_within b e a op d p.agent p.fits

pub may_below : (b : Bounds) (e a : ℕ) (op : Op) (d : Agent) → may b e a op d ≡ true → place b (action_of a op d).word < places b
may_below b e a op d h = place_below b _ (may_within b e a op d h)

pub room_of_nobody : (n room : ℕ) → EachWithRoom room (replicate n (nobody room))
room_of_nobody n room a h = rw (get_or-replicate n a (nobody room) (nobody room) (rw (length-replicate n (nobody room)) at h))

-- a step adds at most one row to its agent's work list
list_more : (op : Op) (d : Agent) (w : ℕ) → length (after op d w).list.items ≤ length d.list.items + 1
list_more (SetRetired r q) d w = at_test (w == clear_word q) d.list r
  where
    at_test : (t : Bool) (l : Listed) (r : ℕ) → length (cond t (listed_more l r) l).items ≤ length l.items + 1
    at_test true l r = rw (length-append l.items (r ∷ [])) (omega arith)
    at_test false l r = omega arith
list_more (CounterLoad r Check) d w = omega arith
list_more (CounterLoad r Start) d w = grind (arith, common_steps)
list_more (CounterLoad r End) d w = omega arith
list_more (TakeIn k) d w = named_more (named w) d.list
  where
    named_more : (n : Option ℕ) (l : Listed) → length (listed_name l n).items ≤ length l.items + 1
    named_more None l = omega arith
    named_more (Some r) l = rw (length-append l.items (r ∷ [])) (omega arith)
list_more op d w = omega arith

pub leaves_room : (m : Machine) (a : ℕ) (op : Op) → has_room m a ≡ true → LeavesRoom m a op
leaves_room m a op h allowed = let more = list_more op (record_at m a) (word_read m a op) in let free = ltb-true _ _ h in omega arith

pub outside_has_room : (m : Machine) (a : ℕ) → length m.agents ≤ a → 0 < m.bounds.rows → has_room m a ≡ true
outside_has_room m a past rows = rw (get_or_past m.agents a (nobody m.bounds.rows) past) (lt-ltb 0 m.bounds.rows rows)
