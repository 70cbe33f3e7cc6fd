-- A scan that is in time stays quiet, whatever step comes.
use Rattle.std.proofs.Common.{Bool, List, [], ap, arith, cond, false, inl, inr, refl, suc, sym, true, zero, ℕ, ⊎_elim, ◌%◌, ◌*◌, ◌+◌, ◌/◌, ◌<◌, ◌∙◌, ◌∷◌, ◌≡◌, ◌≢◌, ◌≤◌, ◌⊎◌}
use Rattle.std.proofs.lemmas.Bool.{eq-eqb, eqb-false, eqb-true, false≢true, ltb-true}
use Rattle.std.specs.Prelude.{None, Some, not, slice_index_or, slice_set, ◌&&◌, ◌==◌, ◌||◌}
use Rattle.orc_words.specs.Bounds.{Bounds}
use Rattle.orc_words.specs.Packed.{bit, count_bits}
use Rattle.orc_words.specs.declared.place.Word.{Word}
use Rattle.orc_words.specs.declared.place.Word.TheVariants.{Counter, Enrolled, Gate, Next, Root, Slot, Side}
use Rattle.orc_core.proofs.Order.{nothing_pending}
use Rattle.orc_core.proofs.Within.{and_both}
use Rattle.orc_core.specs.Actions.{action_of}
use Rattle.orc_core.specs.After.{after, promoted}
use Rattle.orc_core.specs.Allowed.{fits, forced, may_place}
use Rattle.orc_core.specs.RecordParts.{any_holds, holds, names, scan_empty, scans, slot_of}
use Rattle.orc_core.specs.Sums.{sum_below}
use Rattle.orc_core.specs.declared.ops.CounterUse.TheVariants.{Check, End, Start}
use Rattle.orc_core.specs.declared.ops.Op.{Op}
use Rattle.orc_core.specs.declared.ops.Op.TheVariants.{Arm, Clear, CounterLoad, Dec, Inc, LinkLoad, Publish, SetRetired, MoveOn, DecHeld}
use Rattle.orc_core.specs.declared.records.Agent.{Agent}
use Rattle.orc_core.specs.declared.records.SlotUse.{SlotUse}
use Rattle.orc_core.specs.declared.records.SlotUse.TheVariants.{Empty, Held, Published}
use Rattle.orc_sound.proofs.Balances.{OutPlace}
use Rattle.orc_sound.proofs.Change.{incs_seat}
use Rattle.orc_sound.proofs.Facts.{Balanced, incs, linked_in, out, to_row}
use Rattle.orc_sound.proofs.Fresh.{two_names}
use Rattle.orc_sound.proofs.Pending.{arm_waits, dec_held_waits, dec_waits, no_name}
use Rattle.orc_sound.proofs.Seats.{both_ways, seat_other, seat_same}
use Rattle.orc_sound.proofs.Sources.{NewHold, inc_source, links, promoted_holds}
use Rattle.orc_sound.proofs.Sums.{sum_member}
use Rattle.orc_sound.proofs.Uses.{links_held, links_holds}
use Rattle.orc_sound.proofs.World.{World, seat, step_world}
use Rattle.orc_sound.specs.Linked.{held}

-- an agent with a pending increment of r holds r in a slot from k on
pub record Pinned (s : Bounds) (z : World) (r k : ℕ) : Type 0 where
  pub who : ℕ
  pub slot : ℕ
  pub agent : who < s.agents
  pub inc : names (z.seats who).inc r ≡ true
  pub hold : holds (slot_of (z.seats who) slot) r ≡ true
  pub late : k ≤ 8 * who + slot

-- no increment of r is pending, and each hold of r is in a slot from k on
pub record Loose (s : Bounds) (z : World) (r k : ℕ) : Type 0 where
  pub no_inc : incs s z.seats r ≡ 0
  pub late : (x j : ℕ) → x < s.agents → holds (slot_of (z.seats x) j) r ≡ true → k ≤ 8 * x + j

-- the step changes r's sequence
abbrev pub counts_row : Op → ℕ → Bool
counts_row (Inc q) r = q == r
counts_row (Dec q) r = q == r
counts_row (DecHeld q) r = q == r
counts_row _ r = false

slot_set : (ss : List SlotUse) (k j r : ℕ) (x : SlotUse) → holds (slice_index_or (slice_set ss k x) j Empty) r ≡ true
    → (holds (slice_index_or ss j Empty) r ≡ true) ⊎ ((j ≡ k) × (holds x r ≡ true))
slot_set [] k j r x h = inl h
slot_set (s ∷ ss) zero zero r x h = inr (refl, h)
slot_set (s ∷ ss) zero (suc j) r x h = inl h
slot_set (s ∷ ss) (suc k) zero r x h = inl h
slot_set (s ∷ ss) (suc k) (suc j) r x h = ⊎_elim (λ o. inl o) (λ n. inr (ap suc n.0, n.1)) (slot_set ss k j r x h)

pub slot_source : (b : Bounds) (e a : ℕ) (op : Op) (d : Agent) (v j r : ℕ) → fits b e a op d ≡ true → holds (slot_of (after op d v) j) r ≡ true
    → (holds (slot_of d j) r ≡ true) ⊎ NewHold op d v r
slot_source b e a (LinkLoad p None) d v j r f h = inl h
slot_source b e a (LinkLoad p (Some k)) d v j r f h =
    ⊎_elim (λ o. inl o) (λ n. ⊎_elim (λ o. inl (rw n.0 o)) (λ w. inr w) (promoted_holds (slot_of d k) v r n.1))
    (slot_set d.slots k j r (promoted (slot_of d k) v) h)
slot_source b e a (Publish k q) d v j r f h = grind (arith, slot_set d.slots k j r (cond (names d.fresh q) (Held q) (Published q)) h)
slot_source b e a (MoveOn k q) d v j r f h = grind (arith, slot_set d.slots k j r (cond (names d.fresh q) (Held q) (Published q)) h)
slot_source b e a (Clear k) d v j r f h = grind (arith, slot_set d.slots k j r Empty h)
slot_source b e a (Arm q) d v j r f h = grind (arith, slot_set d.slots 0 j r (Held q) h)
slot_source b e a op d v j r f h = inl h

-- an agent with a pending increment can make only it, or the SetRetired of a due row
pending_stays : (b : Bounds) (e a : ℕ) (op : Op) (d : Agent) (v j r : ℕ) → forced d op ≡ true → fits b e a op d ≡ true → counts_row op r ≡ false
    → names d.inc r ≡ true → ((after op d v).inc ≡ d.inc) × (slot_of (after op d v) j ≡ slot_of d j)
pending_stays b e a (SetRetired q n) d v j r o f c h = (refl, refl)
pending_stays b e a (Inc q) d v j r o f c h = absurd (both_ways (q == r) (eq-eqb q r (two_names d.inc q r (and_both _ _ f).1 h)) c)
pending_stays b e a (Dec q) d v j r o f c h = absurd (no_name d.inc r (dec_waits d.due d.inc d.dec q o).1 h)
pending_stays b e a (DecHeld q) d v j r o f c h = absurd (no_name d.inc r (dec_held_waits d.due d.inc d.dec q o).1 h)
pending_stays b e a (Arm q) d v j r o f c h = absurd (no_name d.inc r (arm_waits d.due d.inc d.dec q o).1 h)
pending_stays b e a op d v j r o f c h = absurd (no_name d.inc r (nothing_pending d.due d.inc d.dec op refl o).1 h)

-- what the step by y stands among
pub record Around (b : Bounds) (z : World) (y : ℕ) (op : Op) (r : ℕ) : Type 0 where
  pub agent : y < b.agents
  pub forced : forced (z.seats y) op ≡ true
  pub fits : fits b (z.memory Enrolled) y op (z.seats y) ≡ true
  pub balance : Balanced b z r
  pub count : count_bits (z.memory (Counter r)) ≡ 4194304
  pub not_fresh : names (z.seats y).fresh r ≡ false
  pub other_scan : scans (z.seats y).scan r ≡ true → scan_empty (z.seats y).scan ≡ true
  pub places_out : (p : Word) → may_place b p (λ j. any_holds (z.seats y).slots j || names (z.seats y).fresh j) ≡ true → OutPlace z.memory p

next_one : (g l : ℕ) → g ≡ 1 → l ≡ 1 → g * l ≡ 1
next_one g l h k = rw (h, k)

linked_some : (b : Bounds) (m : Word → ℕ) (p : Word) (t : ℕ → Bool) (r : ℕ) → may_place b p t ≡ true → OutPlace m p → to_row (m p) r ≡ 1 → 0 < linked_in b m r
linked_some b m (Root i) t r w o h = let e = sum_member b.roots i (λ j. to_row (m (Root j)) r) (ltb-true _ _ w) in omega arith
linked_some b m (Next i) t r w o h = let e = sum_member b.rows i (λ j. out (m (Gate j)) * to_row (m (Next j)) r) (ltb-true _ _ (and_both _ _ w).0) in
    let f = next_one (out (m (Gate i))) (to_row (m (Next i)) r) o h in omega arith
linked_some b m (Side i) t r w o h = let e = sum_member b.rows i (λ j. out (m (Gate j)) * to_row (m (Side j)) r) (ltb-true _ _ (and_both _ _ (and_both _ _ w).0).0) in
    let f = next_one (out (m (Gate i))) (to_row (m (Side i)) r) o h in omega arith
linked_some b m p t r w o h = absurd o

arm_cases : (u w x : Bool) → (u || (w && not x)) ≡ true → (u ≡ true) ⊎ ((w ≡ true) × (x ≡ false))
arm_cases true w x h = inl refl
arm_cases false true false h = inr (refl, refl)
arm_cases false true true h = absurd (false≢true h)
arm_cases false false x h = absurd (false≢true h)

no_arm : (b : Bounds) (z : World) (y q r k : ℕ) → Around b z y (Arm q) r → Loose b z r k → r ≡ q → ⊥
no_arm b z y q r k c l n =
    ⊎_elim
    (λ (d : names (z.seats y).dec q ≡ true). let m = sum_member b.agents y (λ x. bit (names (z.seats x).dec r)) c.agent in
    let g : names (z.seats y).dec r ≡ true = rw n d in let o : bit (names (z.seats y).dec r) ≡ 1 = ap bit g in let h = c.balance in
    let i = c.count in let j = l.no_inc in omega arith)
    (λ s. false≢true (sym s.1 ∙ c.other_scan (rw n s.0)))
    (arm_cases _ _ _ (and_both _ _ c.fits).1)

no_new_hold : (b : Bounds) (z : World) (y : ℕ) (op : Op) (r k : ℕ) → Around b z y op r → Loose b z r k
    → NewHold op (z.seats y) (z.memory (action_of y op (z.seats y)).word) r → ⊥
no_new_hold b z y (LinkLoad p None) r k c l n = let g = linked_some b z.memory p _ r c.fits (c.places_out p c.fits) n in let h = c.balance in
    let i = c.count in let j = l.no_inc in omega arith
no_new_hold b z y (LinkLoad p (Some q)) r k c l n = let f = (and_both _ _ (and_both _ _ c.fits).0).0 in
    let g = linked_some b z.memory p _ r f (c.places_out p f) n in let h = c.balance in let i = c.count in let j = l.no_inc in omega arith
no_new_hold b z y (Publish q x) r k c l n = false≢true (sym c.not_fresh ∙ n)
no_new_hold b z y (MoveOn q x) r k c l n = false≢true (sym c.not_fresh ∙ n)
no_new_hold b z y (Arm q) r k c l n = no_arm b z y q r k c l n.0
no_new_hold b z y (CounterLoad q Check) r k c l n = n
no_new_hold b z y (CounterLoad q Start) r k c l n = n
no_new_hold b z y (CounterLoad q End) r k c l n = n
no_new_hold b z y op r k c l n = n

-- at some slot the row is held
pub record HeldAt (ss : List SlotUse) (r : ℕ) : Type 0 where
  pub at : ℕ
  pub hold : holds (slice_index_or ss at Empty) r ≡ true

held_next : (s : SlotUse) (ss : List SlotUse) (r : ℕ) (t : Bool) → holds s r ≡ t → (t || any_holds ss r) ≡ true
    → (any_holds ss r ≡ true → HeldAt ss r) → HeldAt (s ∷ ss) r
held_next s ss r true e g f = record { at = 0; hold = e }
held_next s ss r false e g f = let w = f g in record { at = suc w.at; hold = w.hold }

pub held_at : (ss : List SlotUse) (r : ℕ) → any_holds ss r ≡ true → HeldAt ss r
held_at [] r h = absurd (false≢true h)
held_at (s ∷ ss) r h = held_next s ss r (holds s r) refl h (held_at ss r)

pub seat_either : (P : Agent → Type 0) (seats : ℕ → Agent) (a x : ℕ) (d : Agent) → P (seat seats a d x) → ((x ≡ a) × P d) ⊎ P (seats x)
seat_either P seats a x d h = cases (x == a) refl h
  where
    cases : (t : Bool) → (x == a) ≡ t → P (cond t d (seats x)) → ((x ≡ a) × P d) ⊎ P (seats x)
    cases true e h = inl (eqb-true x a e, h)
    cases false e h = inr h

-- the pinned scan stays pinned
pinned_stays : (b : Bounds) (z : World) (y : ℕ) (op : Op) (r k : ℕ) → Around b z y op r → counts_row op r ≡ false → (p : Pinned b z r k) → (t : Bool)
    → (p.who == y) ≡ t → Pinned b (step_world z y op) r k
pinned_stays b z y op r k c n p true t =
    let w = eqb-true p.who y t in
    let mine : names (z.seats y).inc r ≡ true = rw (← w) p.inc in
    let s = pending_stays b (z.memory Enrolled) y op (z.seats y) (z.memory (action_of y op (z.seats y)).word) p.slot r c.forced c.fits n mine in
    record {
      who = y;
      slot = p.slot;
      agent = c.agent;
      inc = rw (seat_same z.seats y _, s.0) mine;
      hold = rw (seat_same z.seats y _, s.1, ← w) p.hold;
      late = rw (← w) p.late;
    }
pinned_stays b z y op r k c n p false t =
    let o : p.who ≢ y = λ q. false≢true (sym t ∙ eq-eqb p.who y q) in
    record {
      who = p.who;
      slot = p.slot;
      agent = p.agent;
      inc = rw (seat_other z.seats y p.who _ o) p.inc;
      hold =
          rw (seat_other z.seats y p.who _ o) p.hold;
      late = p.late;
    }

no_inc_here : (b : Bounds) (z : World) (y r k : ℕ) → y < b.agents → Loose b z r k → names (z.seats y).inc r ≡ true → ⊥
no_inc_here b z y r k h l i =
    let m = sum_member b.agents y (λ x. bit (names (z.seats x).inc r)) h in
    let o : bit (names (z.seats y).inc r) ≡ 1 = ap bit i in
    let j = l.no_inc in omega arith

still_none : (i j n o : ℕ) → j + o ≡ i + n → n ≡ 0 → i ≡ 0 → j ≡ 0
still_none i j n o e h k = omega arith

-- a scan with no pending increment goes on so, or is pinned by the step
loose_stays : (b : Bounds) (z : World) (y : ℕ) (op : Op) (r k : ℕ) → Around b z y op r → Loose b z r k → (t : Bool)
    → names (after op (z.seats y) (z.memory (action_of y op (z.seats y)).word)).inc r ≡ t → Pinned b (step_world z y op) r k ⊎ Loose b (step_world z y op) r k
loose_stays b z y op r k c l true t =
    let v = z.memory (action_of y op (z.seats y)).word in
    let new : links op r ≡ true = ⊎_elim (λ old. absurd (no_inc_here b z y r k c.agent l old)) (λ n. n) (inc_source op (z.seats y) v r t) in
    let w = held_at (after op (z.seats y) v).slots r (links_holds op (z.seats y) v r new (links_held b (z.memory Enrolled) y op (z.seats y) r c.fits new)) in
    let was = ⊎_elim (λ o. o) (λ n. absurd (no_new_hold b z y op r k c l n)) (slot_source b (z.memory Enrolled) y op (z.seats y) v w.at r c.fits w.hold) in
    inl (record {
      who = y;
      slot = w.at;
      agent = c.agent;
      inc = rw (seat_same z.seats y (after op (z.seats y) v)) t;
      hold =
          rw (seat_same z.seats y (after op (z.seats y) v)) w.hold;
      late = l.late y w.at c.agent was;
    })
loose_stays b z y op r k c l false t =
    inr (record {
      no_inc = still_none (incs b z.seats r) (incs b (step_world z y op).seats r) _ _
          (incs_seat b z.seats y (after op (z.seats y) (z.memory (action_of y op (z.seats y)).word)) r c.agent) (ap bit t) l.no_inc;
      late = λ x j h g. ⊎_elim (λ new. ⊎_elim (λ old. rw new.0 (l.late y j c.agent old)) (λ n. absurd (no_new_hold b z y op r k c l n))
          (slot_source b (z.memory Enrolled) y op (z.seats y) _ j r c.fits new.1)) (λ old. l.late x j h old)
          (seat_either (λ d. holds (slot_of d j) r ≡ true) z.seats y x _ g);
    })

-- whatever step comes that does not count r, a quiet scan stays quiet
pub quiet_stays : (b : Bounds) (z : World) (y : ℕ) (op : Op) (r k : ℕ) → Around b z y op r → counts_row op r ≡ false → Pinned b z r k ⊎ Loose b z r k
    → Pinned b (step_world z y op) r k ⊎ Loose b (step_world z y op) r k
quiet_stays b z y op r k c n (inl p) = inl (pinned_stays b z y op r k c n p (p.who == y) refl)
quiet_stays b z y op r k c n (inr l) = loose_stays b z y op r k c l (names (after op (z.seats y) (z.memory (action_of y op (z.seats y)).word)).inc r) refl

later : (z : World) (r k x j : ℕ) → (j < 8) × (z.memory (Slot x j) ≡ r + 1) → z.memory (Slot (k / 8) (k % 8)) ≢ r + 1 → k ≤ 8 * x + j → k + 1 ≤ 8 * x + j
later z r k x j w n h = cases (k == 8 * x + j) refl
  where
    cases : (t : Bool) → (k == 8 * x + j) ≡ t → k + 1 ≤ 8 * x + j
    cases true e = let p = eqb-true k (8 * x + j) e in let l = w.0 in let a : k / 8 ≡ x = omega arith in let b : k % 8 ≡ j = omega arith in
        absurd (n (rw (a, b) w.1))
    cases false e = let p = eqb-false k (8 * x + j) e in let d : k ≢ 8 * x + j = p in omega arith

-- a slot that does not name r is passed over
pub passed_over : (s : Bounds) (z : World) (r k : ℕ) → ((x j : ℕ) → holds (slot_of (z.seats x) j) r ≡ true → (j < 8) × (z.memory (Slot x j) ≡ r + 1))
    → z.memory (Slot (k / 8) (k % 8)) ≢ r + 1 → Pinned s z r k ⊎ Loose s z r k → Pinned s z r (k + 1) ⊎ Loose s z r (k + 1)
passed_over s z r k words n (inl p) =
    inl (record {
      who = p.who;
      slot = p.slot;
      agent = p.agent;
      inc = p.inc;
      hold = p.hold;
      late =
          later z r k p.who p.slot (words p.who p.slot p.hold) n p.late;
    })
passed_over s z r k words n (inr l) = inr (record { no_inc = l.no_inc; late = λ x j a h. later z r k x j (words x j h) n (l.late x j a h) })

-- the sum is 0, or a number below n adds to it
find : (n : ℕ) (t : ℕ → Bool) → (sum_below n (λ i. bit (t i)) ≡ 0) ⊎ ((i : ℕ) × (i < n) × (t i ≡ true))
find zero t = inl refl
find (suc n) t = find_next n t (t n) refl (find n t)
  where
    find_next : (n : ℕ) (t : ℕ → Bool) (u : Bool) → t n ≡ u → (sum_below n (λ i. bit (t i)) ≡ 0) ⊎ ((i : ℕ) × (i < n) × (t i ≡ true))
        → (sum_below n (λ i. bit (t i)) + bit (t n) ≡ 0) ⊎ ((i : ℕ) × (i < suc n) × (t i ≡ true))
    find_next n t true e h = inr (n, omega arith, e)
    find_next n t false e (inl z) = inl (rw e (omega arith))
    find_next n t false e (inr w) = let l = w.1 in inr (w.0, omega arith, w.2)

-- a scan that begins at count 0 is quiet
pub begins_quiet : (s : Bounds) (z : World) (r : ℕ) → ((x : ℕ) → names (z.seats x).inc r ≡ true → any_holds (z.seats x).slots r ≡ true)
    → Pinned s z r 0 ⊎ Loose s z r 0
begins_quiet s z r held =
    ⊎_elim
    (λ none. inr (record { no_inc = none; late = λ x j a h. omega arith }))
    (λ w. let p = held_at (z.seats w.0).slots r (held w.0 w.2) in
    inl (record { who = w.0; slot = p.at; agent = w.1; inc = w.2; hold = p.hold; late = omega arith }))
    (find s.agents (λ x. names (z.seats x).inc r))

pub not_pinned_at_end : (s : Bounds) (z : World) (r : ℕ) → ((x j : ℕ) → holds (slot_of (z.seats x) j) r ≡ true → j < 8) → Pinned s z r (8 * s.agents) → ⊥
not_pinned_at_end s z r small p = let j = small p.who p.slot p.hold in let a = p.agent in let l = p.late in omega arith
