-- Each kind keeps the balance, by its word and its record alone.
use Rattle.std.proofs.Common.{Bool, ap, arith, cond, false, refl, true, ℕ, ◌%◌, ◌+◌, ◌/◌, ◌<◌, ◌≡◌, zero, suc}
use Rattle.std.proofs.lemmas.Bool.{eqb-true}
use Rattle.std.specs.Prelude.{None, Option, Some, ◌==◌}
use Rattle.orc_words.specs.Packed.{bit, count_bits, link_word, named}
use Rattle.orc_words.specs.declared.packed.RowLink.{RowLink}
use Rattle.orc_words.specs.declared.place.Word.{Word}
use Rattle.orc_words.specs.declared.place.Word.TheVariants.{Counter, Gate, Next, Root, Side}
use Rattle.orc_words.specs.Operations.{word_after}
use Rattle.orc_core.specs.Actions.{action_of}
use Rattle.orc_core.specs.After.{after}
use Rattle.orc_core.specs.RecordParts.{names, same_target}
use Rattle.orc_core.specs.declared.ops.Op.{Op}
use Rattle.orc_core.specs.declared.ops.Op.TheVariants.{Dec, Fill, Free, GateTake, Inc, LinkCas, LinkStore, SetRetired, Unretire}
use Rattle.orc_core.specs.declared.records.Agent.{Agent}
use Rattle.orc_sound.proofs.Change.{Local}
use Rattle.orc_sound.proofs.Facts.{out, to_row}

-- the local balance of a kind
abbrev pub Kept : (Word → ℕ) → ℕ → Op → Agent → ℕ → Type 0
Kept m a op d r = Local m (action_of a op d).word (m (action_of a op d).word) (word_after (action_of a op d).operation (m (action_of a op d).word)) d
    (after op d (m (action_of a op d).word)) r

pub fill_kept : (m : Word → ℕ) (a q which v : ℕ) (d : Agent) (r : ℕ) → Kept m a (Fill q which v) d r
fill_kept m a q which v d r = grind arith

pub inc_kept : (m : Word → ℕ) (a q : ℕ) (d : Agent) (r : ℕ) → names d.inc q ≡ true
    → count_bits ((m (Counter q) + 16777217) % 18446744073709551616) ≡ count_bits (m (Counter q)) + 1 → Kept m a (Inc q) d r
inc_kept m a q d r mine more = grind arith

pub dec_kept : (m : Word → ℕ) (a q : ℕ) (d : Agent) (r : ℕ) → names d.dec q ≡ true → count_bits ((m (Counter q) + 16777215) % 18446744073709551616)
    + 1 ≡ count_bits (m (Counter q)) → Kept m a (Dec q) d r
dec_kept m a q d r mine less = grind arith

-- a free row's links are null
pub gate_take_kept : (m : Word → ℕ) (a q : ℕ) (d : Agent) (r : ℕ) → (out (m (Gate q)) ≡ 0 → m (Next q) / 2 ≡ 0) → (out (m (Gate q)) ≡ 0 → m (Side q) / 2 ≡ 0)
    → Kept m a (GateTake q) d r
gate_take_kept m a q d r null side = grind arith

pub free_kept : (m : Word → ℕ) (a q : ℕ) (d : Agent) (r : ℕ) → m (Next q) / 2 ≡ 0 → m (Side q) / 2 ≡ 0 → Kept m a (Free q) d r
free_kept m a q d r null side = grind arith

-- a bit that is set or cleared leaves the count
pub set_retired_kept : (m : Word → ℕ) (a q n : ℕ) (d : Agent) (r : ℕ) → Kept m a (SetRetired q n) d r
set_retired_kept m a q n d r = grind arith

pub unretire_kept : (m : Word → ℕ) (a q : ℕ) (d : Agent) (r : ℕ)
    → count_bits ((m (Counter q) + 18446744073701163008) % 18446744073709551616) ≡ count_bits (m (Counter q)) → Kept m a (Unretire q) d r
unretire_kept m a q d r same = grind arith

-- the place is a root, or a link word of a row that is out
abbrev pub OutPlace : (Word → ℕ) → Word → Type 0
OutPlace m (Root i) = Unit {0}
OutPlace m (Next q) = out (m (Gate q)) ≡ 1
OutPlace m (Side q) = out (m (Gate q)) ≡ 1
OutPlace m _ = ⊥

pub to_row-link : (l : RowLink) (r : ℕ) → to_row (link_word l) r ≡ bit (names l.to r)
to_row-link l r = grind arith

pub same_names : (a b : Option ℕ) (r : ℕ) → same_target a b ≡ true → names a r ≡ names b r
same_names None None r h = refl
same_names (Some x) (Some y) r h = grind arith
same_names None (Some y) r h = grind arith
same_names (Some x) None r h = grind arith

cas_cases : (v : ℕ) (f t : RowLink) (r : ℕ) (b s : Bool) → (b ≡ true → v ≡ link_word f) → (s ≡ true → names f.to r ≡ names t.to r)
    → bit (names (cond b (cond s None t.to) None) r) + to_row v r + 0 ≡ 0 + to_row (cond b (link_word t) v) r + bit (names (cond b (cond s None f.to) None) r)
cas_cases v f t r false s e n = omega arith
cas_cases v f t r true true e n = rw (e refl) (omega (arith, to_row-link f r, to_row-link t r, ap bit (n refl)))
cas_cases v f t r true false e n = rw (e refl) (omega (arith, to_row-link f r, to_row-link t r))

pub to_row-named : (w r : ℕ) → r < 65535 → to_row w r ≡ bit (names (named (w / 2)) r)
to_row-named w r h = grind arith

store_cases : (v : ℕ) (l : RowLink) (r : ℕ) (s : Bool) → r < 65535 → (s ≡ true → names (named (v / 2)) r ≡ names l.to r)
    → bit (names (cond s None l.to) r) + to_row v r + 0 ≡ 0 + to_row (link_word l) r + bit (names (cond s None (named (v / 2))) r)
store_cases v l r true h n = omega (arith, to_row-named v r h, to_row-link l r, ap bit (n refl))
store_cases v l r false h n = omega (arith, to_row-named v r h, to_row-link l r)

store_core : (v : ℕ) (l : RowLink) (i j : Option ℕ) (r : ℕ) → r < 65535 → i ≡ None → j ≡ None
    → bit (names (cond (same_target (named (v / 2)) l.to) i l.to) r) + to_row v r + bit (names j r) ≡ bit (names i r) + to_row (link_word l) r
    + bit (names (cond (same_target (named (v / 2)) l.to) j (named (v / 2))) r)
store_core v l i j r h ni nj = rw (ni, nj) (store_cases v l r (same_target (named (v / 2)) l.to) h (same_names (named (v / 2)) l.to r))

pub store_kept : (m : Word → ℕ) (a q nr : ℕ) (l : RowLink) (d : Agent) (r : ℕ) → r < 65535 → out (m (Gate q)) ≡ 1 → d.inc ≡ None → d.dec ≡ None
    → Kept m a (LinkStore q l nr) d r
store_kept m a q zero l d r b h ni nd = rw h (omega (arith, store_core (m (Next q)) l d.inc d.dec r b ni nd))
store_kept m a q (suc k) l d r b h ni nd = rw h (omega (arith, store_core (m (Side q)) l d.inc d.dec r b ni nd))

-- a link word that was from and is to
cas_core : (v : ℕ) (f t : RowLink) (i j : Option ℕ) (r : ℕ) → i ≡ None → j ≡ None
    → bit (names (cond (v == link_word f) (cond (same_target f.to t.to) i t.to) i) r) + to_row v r + bit (names j r) ≡ bit (names i r)
    + to_row (cond (v == link_word f) (link_word t) v) r + bit (names (cond (v == link_word f) (cond (same_target f.to t.to) j f.to) j) r)
cas_core v f t i j r ni nj = rw (ni, nj) (cas_cases v f t r (v == link_word f) (same_target f.to t.to) (eqb-true v (link_word f)) (same_names f.to t.to r))

pub cas_kept : (m : Word → ℕ) (a : ℕ) (p : Word) (f t : RowLink) (d : Agent) (r : ℕ) → OutPlace m p → d.inc ≡ None → d.dec ≡ None → Kept m a (LinkCas p f t) d r
cas_kept m a (Root i) f t d r h ni nd = omega (arith, cas_core (m (Root i)) f t d.inc d.dec r ni nd)
cas_kept m a (Next q) f t d r h ni nd = rw h (omega (arith, cas_core (m (Next q)) f t d.inc d.dec r ni nd))
cas_kept m a (Side q) f t d r h ni nd = rw h (omega (arith, cas_core (m (Side q)) f t d.inc d.dec r ni nd))
cas_kept m a p f t d r h ni nd = absurd h
