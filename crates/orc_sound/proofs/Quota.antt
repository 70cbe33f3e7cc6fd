-- A row's sequence stays below a bound: what may still be counted on it falls as it rises.
use Rattle.std.proofs.Common.{Bool, ap, arith, cond, false, inl, inr, refl, true, ℕ, ⊎_elim, ◌%◌, ◌*◌, ◌+◌, ◌/◌, ◌<◌, ◌^◌, ◌≡◌, ◌≤◌, ◌⊎◌, zero, suc}
use Rattle.std.proofs.lemmas.Bool.{eqb-true, false≢true, ltb-true}
use Rattle.std.specs.Prelude.{None, Option, Some, is_none, nat_lt, not, ◌&&◌, ◌==◌, ◌||◌}
use Rattle.orc_words.specs.Bounds.{Bounds, IsShape}
use Rattle.orc_words.specs.Packed.{bit, link_word, named, sequence_of}
use Rattle.orc_words.specs.Places.{IsWithin}
use Rattle.orc_words.specs.declared.packed.RowLink.{RowLink}
use Rattle.orc_words.specs.declared.place.Word.{Word}
use Rattle.orc_words.specs.declared.place.Word.TheVariants.{Counter, Enrolled, First, Gate, Handover, Next, Root, Second, Slot, Side}
use Rattle.orc_core.proofs.Within.{and_both}
use Rattle.orc_words.specs.Operations.{word_after}
use Rattle.orc_core.specs.Actions.{action_of, clear_word}
use Rattle.orc_core.specs.After.{after}
use Rattle.orc_core.specs.Allowed.{fits, may_change, may_target}
use Rattle.orc_core.specs.RecordParts.{checked_below, doom_at, is_empty, names, same_target, slot_of}
use Rattle.orc_core.specs.Sums.{sum_below}
use Rattle.orc_core.specs.declared.ops.CounterUse.TheVariants.{Check, End, Start}
use Rattle.orc_core.specs.declared.ops.Op.{Op}
use Rattle.orc_core.specs.declared.ops.Op.TheVariants.{CounterLoad, Dec, Fill, Free, GateLook, GateTake, Inc, LinkCas, LinkStore, Read, SetRetired, Unretire, DecHeld}
use Rattle.orc_core.specs.declared.records.Agent.{Agent}
use Rattle.orc_sound.proofs.Bits.{bit_le, dec_bounds, dec_held_bounds, inc_bounds, link_le, unretire_one}
use Rattle.orc_sound.proofs.Change.{decs_seat, incs_seat, link_part, linked_write}
use Rattle.orc_sound.proofs.CountedStep.{balance_kept, step_within}
use Rattle.orc_sound.proofs.CounterWords.{clear_sequence, dec_sequence, inc_sequence}
use Rattle.orc_sound.proofs.Facts.{Counted, LawfulStep, decs, incs, linked_in, out, to_row}
use Rattle.orc_sound.proofs.Outs.{cas_place_out}
use Rattle.orc_sound.proofs.Seats.{either}
use Rattle.orc_sound.proofs.Sources.{write_same}
use Rattle.orc_sound.proofs.Sums.{sum_le, sum_put}
use Rattle.orc_sound.proofs.World.{World, record_by, seat, step_world, write}

abbrev pub checks : Bounds → (ℕ → Agent) → ℕ → ℕ → ℕ
checks s d r n = sum_below s.agents (λ a. bit (checked_below (d a).checked r n))

pub checks_seat : (s : Bounds) (d : ℕ → Agent) (a : ℕ) (e : Agent) (r n : ℕ) → a < s.agents
    → checks s (seat d a e) r n + bit (checked_below (d a).checked r n) ≡ checks s d r n + bit (checked_below e.checked r n)
checks_seat s d a e r n h = sum_put s.agents a (λ _ x. bit (checked_below x.checked r n)) d e h

abbrev pub sequence_part : Word → ℕ → ℕ → ℕ
sequence_part (Counter q) v r = cond (q == r) (sequence_of v) 0
sequence_part _ v r = 0

pub sequence_write : (m : Word → ℕ) (w : Word) (v r : ℕ) → sequence_of (write m w v (Counter r))
    + sequence_part w (m w) r ≡ sequence_of (m (Counter r)) + sequence_part w v r
sequence_write m Enrolled v r = refl
sequence_write m (Root i) v r = refl
sequence_write m (Gate q) v r = refl
sequence_write m (Counter q) v r = grind arith
sequence_write m (First q) v r = refl
sequence_write m (Second q) v r = refl
sequence_write m (Next q) v r = refl
sequence_write m (Side q) v r = refl
sequence_write m (Slot a k) v r = refl
sequence_write m (Handover a k) v r = refl

-- a new increment is paid for by a check
abbrev Pays : Agent → Agent → ℕ → ℕ → Type 0
Pays d e r n = bit (checked_below e.checked r n) + bit (names e.inc r) ≤ bit (checked_below d.checked r n) + bit (names d.inc r)

change_pays : (b : Bounds) (d : Agent) (f t : Option ℕ) (r n : ℕ) (s : Bool) → same_target f t ≡ s → may_change d n f t ≡ true
    → bit (names (cond s d.inc t) r) ≤ bit (checked_below d.checked r n) + bit (names d.inc r)
change_pays b d f t r n true e h = omega arith
change_pays b d f None r n false e h = omega arith
change_pays b d None (Some q) r n false e h = grind arith
change_pays b d (Some p) (Some q) r n false e h = grind arith

cas_pays : (b : Bounds) (d : Agent) (f t : Option ℕ) (r n : ℕ) (w : Bool) → may_change d n f t ≡ true
    → 0 + bit (names (cond w (cond (same_target f t) d.inc t) d.inc) r) ≤ bit (checked_below d.checked r n) + bit (names d.inc r)
cas_pays b d f t r n true h = let e = change_pays b d f t r n (same_target f t) refl h in omega arith
cas_pays b d f t r n false h = omega arith

store_pays : (b : Bounds) (d : Agent) (t : Option ℕ) (r n : ℕ) (w : Bool) → may_change d n None t ≡ true
    → 0 + bit (names (cond w d.inc t) r) ≤ bit (checked_below d.checked r n) + bit (names d.inc r)
store_pays b d t r n true h = omega arith
store_pays b d None r n false h = omega arith
store_pays b d (Some q) r n false h = grind arith

none_may : (d : Agent) (n : ℕ) (o : Option ℕ) → is_none o ≡ true → may_change d n None o ≡ true
none_may d n None h = refl
none_may d n (Some x) h = absurd (false≢true h)

change_or_null : (n y e f t c u s k : Bool) → (n && y && e && ((f && t && c) || (u && s && k))) ≡ true → (c ≡ true) ⊎ (s ≡ true)
change_or_null n y e true t c u s k h = ⊎_elim (λ g. inl (and_both t c g).1) (λ g. inr (and_both u s (and_both (u && s) k g).0).1)
    (either (t && c) (u && s && k) (and_both (n && y && e) ((t && c) || (u && s && k)) h).1)
change_or_null n y e false t c u s k h = inr (and_both u s (and_both (u && s) k (and_both (n && y && e) (u && s && k) h).1).0).1

store_may : (b : Bounds) (e a q nr : ℕ) (l : RowLink) (d : Agent) → fits b e a (LinkStore q l nr) d ≡ true → may_change d (b.limit + 64) None l.to ≡ true
store_may b e a q nr l d f =
    ⊎_elim (λ c. c) (λ s. none_may d (b.limit + 64) l.to s)
    (change_or_null (nat_lt q b.rows) (nat_lt nr b.links) (is_empty (slot_of d 0)) (names d.fresh q) (may_target b d l.to) (may_change d (b.limit + 64) None l.to)
    (doom_at d.doom q nr) (is_none l.to) (not l.mark) f)

pub pays : (b : Bounds) (e a : ℕ) (op : Op) (d : Agent) (v r : ℕ) → fits b e a op d ≡ true → ((q : ℕ) → op ≡ CounterLoad q Check → ⊥)
    → Pays d (after op d v) r (b.limit + 64)
pays b e a (GateLook q) d v r f n = omega arith
pays b e a (GateTake q) d v r f n = omega arith
pays b e a (LinkCas p x t) d v r f n = cas_pays b d x.to t.to r (b.limit + 64) (v == link_word x) (and_both _ _ f).1
pays b e a (LinkStore q l nr) d v r f n = store_pays b d l.to r (b.limit + 64) (same_target (named (v / 2)) l.to) (store_may b e a q nr l d f)
pays b e a (Inc q) d v r f n = omega arith
pays b e a (CounterLoad q Check) d v r f n = absurd (n q refl)
pays b e a (CounterLoad q Start) d v r f n = omega arith
pays b e a (CounterLoad q End) d v r f n = omega arith
pays b e a op d v r f n = omega arith

-- what may still be counted on the row, with what was counted
abbrev pub quota : Bounds → World → ℕ → ℕ
quota b z r = sequence_of (z.memory (Counter r)) + 2 * checks b z.seats r (b.limit + 64) + incs b z.seats r + linked_in b z.memory r + decs b z.seats r

-- the change at one word and one record
abbrev LocalQuota : (Word → ℕ) → Word → ℕ → ℕ → Agent → Agent → ℕ → ℕ → Type 0
LocalQuota m w v x d e r n = sequence_part w x r + 2 * bit (checked_below e.checked r n) + bit (names e.inc r) + link_part m w x r
    + bit (names e.dec r) ≤ sequence_part w v r + 2 * bit (checked_below d.checked r n) + bit (names d.inc r) + link_part m w v r + bit (names d.dec r)

pub quota_falls : (b : Bounds) (z : World) (a : ℕ) (w : Word) (x : ℕ) (e : Agent) (r : ℕ) → IsWithin b w → a < b.agents
    → LocalQuota z.memory w (z.memory w) x (z.seats a) e r (b.limit + 64)
    → quota b (record { memory = write z.memory w x; seats = seat z.seats a e }) r ≤ quota b z r
quota_falls b z a w x e r within agent local =
    let c = sequence_write z.memory w x r in
    let l = linked_write b z.memory w x r within in
    let i = incs_seat b z.seats a e r agent in
    let d = decs_seat b z.seats a e r agent in
    let k = checks_seat b z.seats a e r (b.limit + 64) agent in
    omega arith

dec_quota : (q r s x k j : ℕ) (i : Option ℕ) → x ≡ s + 1 → names i q ≡ true → cond (q == r) x 0 + 2 * k + j + 0 + 0 ≤ cond (q == r) s 0 + 2 * k + j
    + 0 + bit (names i r)
dec_quota q r s x k j None e h = absurd (false≢true h)
dec_quota q r s x k j (Some i) e h = grind arith

pub set_sequence : (v q r n : ℕ) → cond (q == r) (sequence_of (cond (v == clear_word n) (clear_word n + 8388608) v)) 0 ≡ cond (q == r) (sequence_of v) 0
set_sequence v q r n = grind arith

inc_quota : (q r s x k d : ℕ) (i : Option ℕ) → x ≡ s + 1 → names i q ≡ true → cond (q == r) x 0 + 2 * k + 0 + 0 + d ≤ cond (q == r) s 0 + 2 * k
    + bit (names i r) + 0 + d
inc_quota q r s x k d None e h = absurd (false≢true h)
inc_quota q r s x k d (Some j) e h = grind arith

pub quota_local : (b : Bounds) (z : World) (a : ℕ) (op : Op) (r : ℕ) → LawfulStep b z a op
    → ((q : ℕ) → sequence_of (z.memory (Counter q)) < 2 ^ 39 + 2 ^ 19) → r < b.rows → ((q : ℕ) → op ≡ CounterLoad q Check → ⊥)
    → LocalQuota z.memory (action_of a op (z.seats a)).word (z.memory (action_of a op (z.seats a)).word)
    (word_after (action_of a op (z.seats a)).operation (z.memory (action_of a op (z.seats a)).word)) (z.seats a)
    (after op (z.seats a) (z.memory (action_of a op (z.seats a)).word)) r (b.limit + 64)
quota_local b z a (Inc q) r p lo h n =
    let c = inc_sequence _ (lo q) (inc_bounds b z a q p) in
    inc_quota q r (sequence_of (z.memory (Counter q))) _ (bit (checked_below (z.seats a).checked r (b.limit + 64))) (bit (names (z.seats a).dec r))
    (z.seats a).inc c (and_both _ _ p.fits).1
quota_local b z a (Dec q) r p lo h n =
    let c = dec_sequence _ (lo q) (dec_bounds b z a q p) in
    dec_quota q r (sequence_of (z.memory (Counter q))) _ (bit (checked_below (z.seats a).checked r (b.limit + 64))) (bit (names (z.seats a).inc r))
    (z.seats a).dec c (and_both _ _ (and_both _ _ p.fits).0).1
quota_local b z a (DecHeld q) r p lo h n =
    let c = dec_sequence _ (lo q) (dec_held_bounds b z a q p) in
    dec_quota q r (sequence_of (z.memory (Counter q))) _ (bit (checked_below (z.seats a).checked r (b.limit + 64))) (bit (names (z.seats a).inc r))
    (z.seats a).dec c (and_both _ _ (and_both _ _ p.fits).0).1
quota_local b z a (CounterLoad q Check) r p lo h n = absurd (n q refl)
quota_local b z a (SetRetired q k) r p lo h n = let s = set_sequence (z.memory (Counter q)) q r k in omega arith
quota_local b z a (Unretire q) r p lo h n = let s : sequence_of ((z.memory (Counter q) + 18446744073701163008) % 18446744073709551616) ≡ sequence_of
    (z.memory (Counter q)) = clear_sequence _ (lo q) (unretire_one b z a q p) in rw s (omega arith)
quota_local b z a (LinkCas (Root i) x t) r p lo h n = let k = balance_kept b z a (LinkCas (Root i) x t) r p h in
    let y = pays b (z.memory Enrolled) a (LinkCas (Root i) x t) (z.seats a) (z.memory (action_of a (LinkCas (Root i) x t) (z.seats a)).word) r p.fits
    n in omega arith
quota_local b z a (LinkCas (Next i) x t) r p lo h n = let k = balance_kept b z a (LinkCas (Next i) x t) r p h in
    let y = pays b (z.memory Enrolled) a (LinkCas (Next i) x t) (z.seats a) (z.memory (action_of a (LinkCas (Next i) x t) (z.seats a)).word) r p.fits
    n in omega arith
quota_local b z a (LinkCas (Side i) x t) r p lo h n = let k = balance_kept b z a (LinkCas (Side i) x t) r p h in
    let y = pays b (z.memory Enrolled) a (LinkCas (Side i) x t) (z.seats a) (z.memory (action_of a (LinkCas (Side i) x t) (z.seats a)).word) r p.fits
    n in omega arith
quota_local b z a (LinkCas w x t) r p lo h n = absurd (cas_place_out b z a w x t p)
quota_local b z a (LinkStore q l zero) r p lo h n = let k = balance_kept b z a (LinkStore q l zero) r p h in
    let y = pays b (z.memory Enrolled) a (LinkStore q l zero) (z.seats a) (z.memory (action_of a (LinkStore q l zero) (z.seats a)).word) r p.fits n in omega arith
quota_local b z a (LinkStore q l (suc ln)) r p lo h n = let k = balance_kept b z a (LinkStore q l (suc ln)) r p h in
    let y = pays b (z.memory Enrolled) a (LinkStore q l (suc ln)) (z.seats a) (z.memory (action_of a (LinkStore q l (suc ln)) (z.seats a)).word) r p.fits n in omega arith
quota_local b z a (Fill q w v) r p lo h n = grind arith
quota_local b z a (Read q w) r p lo h n = grind arith
quota_local b z a (GateTake q) r p lo h n = let k = balance_kept b z a (GateTake q) r p h in
    let y = pays b (z.memory Enrolled) a (GateTake q) (z.seats a) (z.memory (action_of a (GateTake q) (z.seats a)).word) r p.fits n in omega arith
quota_local b z a (Free q) r p lo h n = let k = balance_kept b z a (Free q) r p h in
    let y = pays b (z.memory Enrolled) a (Free q) (z.seats a) (z.memory (action_of a (Free q) (z.seats a)).word) r p.fits n in omega arith
quota_local b z a op r p lo h n = let y = pays b (z.memory Enrolled) a op (z.seats a) (z.memory (action_of a op (z.seats a)).word) r p.fits n in omega arith

-- how far a row's quota may go: the last sequence at which a link may be made, each link word once, and the
-- changes and checks of all agents
abbrev pub sequence_room : Bounds → ℕ
sequence_room b = b.limit + 63 + b.roots + 2 * b.rows + 4 * b.agents

linked_le : (b : Bounds) (m : Word → ℕ) (r : ℕ) → linked_in b m r ≤ b.roots + 2 * b.rows
linked_le b m r =
    let l = sum_le b.roots (λ j. to_row (m (Root j)) r) (λ j. bit_le _) in
    let n = sum_le b.rows (λ j. out (m (Gate j)) * to_row (m (Next j)) r) (λ j. link_le _ _ r) in
    let o = sum_le b.rows (λ j. out (m (Gate j)) * to_row (m (Side j)) r) (λ j. link_le _ _ r) in
    omega arith

-- a check below the limit finds a small sequence, and one above it counts for nothing
check_step : (b : Bounds) (z : World) (a q r : ℕ) → LawfulStep b z a (CounterLoad q Check) → quota b z r ≤ sequence_room b
    → quota b (step_world z a (CounterLoad q Check)) r ≤ sequence_room b
check_step b z a q r p h = cases (q == r) (nat_lt (sequence_of (z.memory (Counter q))) (b.limit + 64)) refl refl
  where
    same : (step_world z a (CounterLoad q Check)).memory (Counter r) ≡ z.memory (Counter r)
    same = write_same z.memory (Counter q) (Counter r)

    changed : checks b (step_world z a (CounterLoad q Check)).seats r (b.limit + 64)
        + bit (checked_below (z.seats a).checked r (b.limit + 64)) ≡ checks b z.seats r (b.limit + 64)
        + bit ((q == r) && nat_lt (sequence_of (z.memory (Counter q))) (b.limit + 64))
    changed = checks_seat b z.seats a (record_by z a (CounterLoad q Check)) r (b.limit + 64) p.agent

    incs_same : incs b (step_world z a (CounterLoad q Check)).seats r + bit (names (z.seats a).inc r) ≡ incs b z.seats r + bit (names (z.seats a).inc r)
    incs_same = incs_seat b z.seats a (record_by z a (CounterLoad q Check)) r p.agent

    decs_same : decs b (step_world z a (CounterLoad q Check)).seats r + bit (names (z.seats a).dec r) ≡ decs b z.seats r + bit (names (z.seats a).dec r)
    decs_same = decs_seat b z.seats a (record_by z a (CounterLoad q Check)) r p.agent

    sequence_same : sequence_of ((step_world z a (CounterLoad q Check)).memory (Counter r)) ≡ sequence_of (z.memory (Counter r))
    sequence_same = ap sequence_of same

    linked_same : linked_in b (step_world z a (CounterLoad q Check)).memory r ≡ linked_in b z.memory r
    linked_same = refl

    uncounted_check : bit ((q == r) && nat_lt (sequence_of (z.memory (Counter q))) (b.limit + 64)) ≡ 0
        → quota b (step_world z a (CounterLoad q Check)) r ≤ sequence_room b
    uncounted_check k = let c = changed in let i = incs_same in let d = decs_same in let s = sequence_same in let l = linked_same in omega arith

    cases : (t u : Bool) → (q == r) ≡ t → nat_lt (sequence_of (z.memory (Counter q))) (b.limit + 64) ≡ u
        → quota b (step_world z a (CounterLoad q Check)) r ≤ sequence_room b
    cases false u e f = uncounted_check (rw e)
    cases true false e f = uncounted_check (rw (e, f))
    cases true true e f =
        let n = ltb-true (sequence_of (z.memory (Counter q))) (b.limit + 64) f in
        let k = ap (λ x. sequence_of (z.memory (Counter x))) (eqb-true q r e) in
        let s = sequence_same in
        let l = linked_le b z.memory r in
        let c = sum_le b.agents (λ x. bit (checked_below ((step_world z a (CounterLoad q Check)).seats x).checked r (b.limit + 64))) (λ x. bit_le _) in
        let i = sum_le b.agents (λ x. bit (names ((step_world z a (CounterLoad q Check)).seats x).inc r)) (λ x. bit_le _) in
        let d = sum_le b.agents (λ x. bit (names ((step_world z a (CounterLoad q Check)).seats x).dec r)) (λ x. bit_le _) in
        let m = linked_same in
        omega arith

fell : (b : Bounds) (z : World) (a : ℕ) (op : Op) (r : ℕ) → LawfulStep b z a op → ((q : ℕ) → sequence_of (z.memory (Counter q)) < 2 ^ 39 + 2 ^ 19)
    → r < b.rows → quota b z r ≤ sequence_room b → ((q : ℕ) → op ≡ CounterLoad q Check → ⊥) → quota b (step_world z a op) r ≤ sequence_room b
fell b z a op r p lo h k n = let f = quota_falls b z a (action_of a op (z.seats a)).word _ (record_by z a op) r (step_within b z a op p) p.agent
    (quota_local b z a op r p lo h n) in omega arith

-- the quota of each row stays within its room
pub quota_step : (b : Bounds) (z : World) (a : ℕ) (op : Op) (r : ℕ) → LawfulStep b z a op
    → ((q : ℕ) → sequence_of (z.memory (Counter q)) < 2 ^ 39 + 2 ^ 19) → r < b.rows → quota b z r ≤ sequence_room b
    → quota b (step_world z a op) r ≤ sequence_room b
quota_step b z a (CounterLoad q Check) r p lo h k = check_step b z a q r p k
quota_step b z a (CounterLoad q Start) r p lo h k = fell b z a (CounterLoad q Start) r p lo h k (λ x e. cc)
quota_step b z a (CounterLoad q End) r p lo h k = fell b z a (CounterLoad q End) r p lo h k (λ x e. cc)
quota_step b z a op r p lo h k = fell b z a op r p lo h k (λ x e. cc)

-- so no sequence comes near the end of its bits
pub quota_low : (b : Bounds) (z : World) → IsShape b → Counted b z → ((r : ℕ) → r < b.rows → quota b z r ≤ sequence_room b) → (q : ℕ)
    → sequence_of (z.memory (Counter q)) < 2 ^ 39 + 2 ^ 19
quota_low b z shape s h q = cases (nat_lt q b.rows) refl
  where
    zero_sequence : (w : ℕ) → w ≡ 0 → sequence_of w < 2 ^ 39 + 2 ^ 19
    zero_sequence w e = rw e (omega arith)

    cases : (t : Bool) → nat_lt q b.rows ≡ t → sequence_of (z.memory (Counter q)) < 2 ^ 39 + 2 ^ 19
    cases true e = let k = h q (ltb-true q b.rows e) in let l = shape.limit.1 in let r = shape.rows.1 in let o = shape.roots.1 in
        let a = shape.agents.1 in omega arith
    cases false e = zero_sequence (z.memory (Counter q)) (s.outside (Counter q) e)
