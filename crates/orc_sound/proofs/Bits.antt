-- The counts of a counter word are far inside its bits, and what the retired bit comes from.
use Rattle.std.proofs.Common.{Bool, arith, cond, false, inl, inr, refl, sym, true, ℕ, ⊎_elim, ◌*◌, ◌+◌, ◌<◌, ◌∙◌, ◌≡◌, ◌≤◌, ◌⊎◌, zero, suc}
use Rattle.std.proofs.lemmas.Bool.{eq-eqb, eqb-true, false≢true, ltb-true}
use Rattle.std.specs.Prelude.{None, Option, Some, ◌&&◌, ◌==◌, ◌||◌}
use Rattle.orc_words.specs.Bounds.{Bounds, IsShape}
use Rattle.orc_words.specs.Packed.{bit, count_bits, retired_bit}
use Rattle.orc_words.specs.declared.place.Word.{Word}
use Rattle.orc_words.specs.declared.place.Word.TheVariants.{Counter, Enrolled, First, Gate, Next, Root, Second, Side}
use Rattle.orc_core.proofs.Within.{and_both}
use Rattle.orc_core.specs.Actions.{clear_word}
use Rattle.orc_core.specs.Allowed.{fits}
use Rattle.orc_core.specs.RecordParts.{doom_cut, names, scans}
use Rattle.orc_core.specs.declared.ops.Op.{Op}
use Rattle.orc_core.specs.declared.ops.Op.TheVariants.{CounterLoad, Dec, Fill, Inc, LinkCas, LinkLoad, Read, SetRetired, Unretire, LinkStore, DecHeld}
use Rattle.orc_core.specs.declared.records.Agent.{Agent}
use Rattle.orc_core.specs.declared.records.Doom.{Doom}
use Rattle.orc_sound.proofs.CounterWords.{dec_bit, inc_bit}
use Rattle.orc_sound.proofs.Facts.{Counted, LawfulStep, out, to_row}
use Rattle.orc_sound.proofs.Sources.{write_same}
use Rattle.orc_sound.proofs.Sums.{sum_le, sum_member}
use Rattle.orc_sound.proofs.World.{World, read_by, step_world, write}
use Rattle.orc_sound.specs.RetirementToken.{dooming, places_of}

pub bit_le : (b : Bool) → bit b ≤ 1
bit_le true = omega arith
bit_le false = omega arith

pub link_le : (g l r : ℕ) → out g * to_row l r ≤ 1
link_le g l r = grind (arith, bit_le)

pub count_bounds : (b : Bounds) (z : World) (r : ℕ) → IsShape b → Counted b z → r < b.rows → (0 < count_bits (z.memory (Counter r)))
    × (count_bits (z.memory (Counter r)) + 1 < 8388608)
count_bounds b z r shape s h =
    let i = sum_le b.agents (λ a. bit (names (z.seats a).inc r)) (λ a. bit_le _) in
    let d = sum_le b.agents (λ a. bit (names (z.seats a).dec r)) (λ a. bit_le _) in
    let l = sum_le b.roots (λ j. to_row (z.memory (Root j)) r) (λ j. bit_le _) in
    let n = sum_le b.rows (λ j. out (z.memory (Gate j)) * to_row (z.memory (Next j)) r) (λ j. link_le _ _ r) in
    let o = sum_le b.rows (λ j. out (z.memory (Gate j)) * to_row (z.memory (Side j)) r) (λ j. link_le _ _ r) in
    let e = s.balance r h in
    let f = shape.rows.1 in let g = shape.roots.1 in let k = shape.agents.1 in
    (omega arith, omega arith)

-- a row that a scan, a hand, a doom or a list has is retired
pub retired_one : (b : Bounds) (z : World) (a r : ℕ) → Counted b z → a < b.agents → r < b.rows → 0 < places_of (z.seats a) r
    → retired_bit (z.memory (Counter r)) ≡ 1
retired_one b z a r s ha hr h =
    let m = sum_member b.agents a (λ x. places_of (z.seats x) r) ha in
    let t = s.token r hr in
    omega arith

pub scan_places : (d : Agent) (r : ℕ) → scans d.scan r ≡ true → 0 < places_of d r
scan_places d r h = grind arith

cut_dooms : (links : ℕ) (o : Option Doom) (r : ℕ) → doom_cut links o r ≡ true → dooming o r ≡ true
cut_dooms links None r h = absurd (false≢true h)
cut_dooms links (Some x) r h = grind arith

doom_places : (links : ℕ) (d : Agent) (r : ℕ) → doom_cut links d.doom r ≡ true → 0 < places_of d r
doom_places links d r h = let k = cut_dooms links d.doom r h in grind arith

scan_or_cut : (u w x y : Bool) → ((u && w && x) || y) ≡ true → (u ≡ true) ⊎ (y ≡ true)
scan_or_cut true w x y h = inl refl
scan_or_cut false w x y h = inr h

-- a bit that is cleared is that of the scan, or of the doom that is cut
pub unretire_cases : (b : Bounds) (e a q : ℕ) (d : Agent) → fits b e a (Unretire q) d ≡ true → (scans d.scan q ≡ true) ⊎ (doom_cut b.links d.doom q ≡ true)
unretire_cases b e a q d f = scan_or_cut _ _ _ _ (and_both _ _ f).1

pub unretire_one : (b : Bounds) (z : World) (a q : ℕ) → LawfulStep b z a (Unretire q) → retired_bit (z.memory (Counter q)) ≡ 1
unretire_one b z a q p =
    retired_one b z a q p.counted p.agent (ltb-true _ _ (and_both _ _ p.fits).0)
    (⊎_elim (λ s. scan_places (z.seats a) q s) (λ c. doom_places b.links (z.seats a) q c) (unretire_cases b (z.memory Enrolled) a q (z.seats a) p.fits))

pub inc_bounds : (b : Bounds) (z : World) (a q : ℕ) → LawfulStep b z a (Inc q) → count_bits (z.memory (Counter q)) + 1 < 8388608
inc_bounds b z a q p = (count_bounds b z q p.shape p.counted (ltb-true _ _ (and_both _ _ p.fits).0)).1

pub dec_bounds : (b : Bounds) (z : World) (a q : ℕ) → LawfulStep b z a (Dec q) → 0 < count_bits (z.memory (Counter q))
dec_bounds b z a q p = (count_bounds b z q p.shape p.counted (ltb-true _ _ (and_both _ _ (and_both _ _ p.fits).0).0)).0

pub dec_held_bounds : (b : Bounds) (z : World) (a q : ℕ) → LawfulStep b z a (DecHeld q) → 0 < count_bits (z.memory (Counter q))
dec_held_bounds b z a q p = (count_bounds b z q p.shape p.counted (ltb-true _ _ (and_both _ _ (and_both _ _ p.fits).0).0)).0

write_cases : (P : Type 0) (m : Word → ℕ) (q x r : ℕ) → (r ≡ q → retired_bit x ≡ 1 → P) → (retired_bit (m (Counter r)) ≡ 1 → P)
    → retired_bit (write m (Counter q) x (Counter r)) ≡ 1 → P
write_cases P m q x r new old h = cases (r == q) refl h
  where
    cases : (t : Bool) → (r == q) ≡ t → retired_bit (cond t x (m (Counter r))) ≡ 1 → P
    cases true e k = new (eqb-true r q e) k
    cases false e k = old k

fill_bit : (m : Word → ℕ) (q w v r : ℕ) → retired_bit (write m (cond (w == 0) (First q) (Second q)) v (Counter r)) ≡ 1 → retired_bit (m (Counter r)) ≡ 1
fill_bit m q w v r h = grind arith

-- a bit is set where a SetRetired won
abbrev pub raises : Op → ℕ → ℕ → Bool
raises (SetRetired q n) v r = (q == r) && (v == clear_word n)
raises _ v r = false

try_bit : (m : Word → ℕ) (q n r : ℕ) → r ≡ q → retired_bit (cond (m (Counter q) == clear_word n) (clear_word n + 8388608) (m (Counter q))) ≡ 1
    → (retired_bit (m (Counter r)) ≡ 1) ⊎ (raises (SetRetired q n) (m (Counter q)) r ≡ true)
try_bit m q n r e h = cases (m (Counter q) == clear_word n) refl h
  where
    cases : (t : Bool) → (m (Counter q) == clear_word n) ≡ t → retired_bit (cond t (clear_word n + 8388608) (m (Counter q))) ≡ 1
        → (retired_bit (m (Counter r)) ≡ 1) ⊎ (raises (SetRetired q n) (m (Counter q)) r ≡ true)
    cases true t k = inr (rw (t, eq-eqb q r (sym e)))
    cases false t k = inl (rw e k)

pub bit_before : (b : Bounds) (z : World) (a : ℕ) (op : Op) (r : ℕ) → LawfulStep b z a op → retired_bit ((step_world z a op).memory (Counter r)) ≡ 1
    → (retired_bit (z.memory (Counter r)) ≡ 1) ⊎ (raises op (read_by z a op) r ≡ true)
bit_before b z a (Inc q) r p h = write_cases _ z.memory q _ r (λ k t. inl (rw k (sym (inc_bit _ (inc_bounds b z a q p)) ∙ t))) (λ k. inl k) h
bit_before b z a (Dec q) r p h = write_cases _ z.memory q _ r (λ k t. inl (rw k (sym (dec_bit _ (dec_bounds b z a q p)) ∙ t))) (λ k. inl k) h
bit_before b z a (DecHeld q) r p h = write_cases _ z.memory q _ r (λ k t. inl (rw k (sym (dec_bit _ (dec_held_bounds b z a q p)) ∙ t))) (λ k. inl k) h
bit_before b z a (SetRetired q n) r p h = write_cases _ z.memory q _ r (λ k t. try_bit z.memory q n r k t) (λ k. inl k) h
bit_before b z a (Unretire q) r p h = write_cases _ z.memory q _ r (λ k t. inl (rw k (unretire_one b z a q p))) (λ k. inl k) h
bit_before b z a (CounterLoad q how) r p h = inl (rw (write_same z.memory (Counter q) (Counter r)) at h)
bit_before b z a (LinkLoad w k) r p h = inl (rw (write_same z.memory w (Counter r)) at h)
bit_before b z a (LinkCas (Root i) x t) r p h = inl h
bit_before b z a (LinkCas (Next i) x t) r p h = inl h
bit_before b z a (LinkCas (Side i) x t) r p h = inl h
bit_before b z a (LinkCas w x t) r p h = let f = p.fits in grind arith
bit_before b z a (Fill q w v) r p h = inl (fill_bit z.memory q w v r h)
bit_before b z a (Read q w) r p h = inl (rw (write_same z.memory (cond (w == 0) (First q) (Second q)) (Counter r)) at h)
bit_before b z a (LinkStore lq ll zero) r p h = inl h
bit_before b z a (LinkStore lq ll (suc ln)) r p h = inl h
bit_before b z a op r p h = inl h
