-- A row that is out has a reason to be out.
use Rattle.std.proofs.Common.{Bool, ap, arith, cond, false, inl, inr, refl, sym, true, ℕ, ⊎_elim, ◌%◌, ◌*◌, ◌+◌, ◌/◌, ◌<◌, ◌∙◌, ◌≡◌, ◌≢◌, ◌≤◌, ◌⊎◌, zero, suc}
use Rattle.std.proofs.lemmas.Bool.{eq-eqb, eqb-false, eqb-true, false≢true, ne_eqb}
use Rattle.std.specs.Prelude.{None, Option, Some, is_none, is_some, not, ◌&&◌, ◌==◌, ◌||◌}
use Rattle.orc_words.specs.Bounds.{Bounds}
use Rattle.orc_words.specs.Packed.{bit, count_bits, link_word, named, retired_bit, sequence_of}
use Rattle.orc_words.specs.declared.place.Word.{Word}
use Rattle.orc_words.specs.declared.place.Word.TheVariants.{Counter, First, Gate, Next, Root, Second, Side}
use Rattle.orc_core.proofs.Order.{nothing_pending}
use Rattle.orc_core.proofs.Within.{and_both}
use Rattle.orc_words.specs.Operations.{word_after}
use Rattle.orc_core.specs.Actions.{action_of, clear_word}
use Rattle.orc_core.specs.After.{after, bared, cut_of, due_after}
use Rattle.orc_core.specs.Allowed.{fits, forced}
use Rattle.orc_core.specs.RecordParts.{doom_bare, doom_cut, holds, is_due, kept, names, number_of, same_target, scan_empty, scans, slot_of}
use Rattle.orc_core.specs.Sums.{sum_below}
use Rattle.orc_core.specs.declared.ops.CounterUse.TheVariants.{Check, End, Start}
use Rattle.orc_core.specs.declared.ops.Op.{Op}
use Rattle.orc_core.specs.declared.ops.Op.TheVariants.{CounterLoad, Dec, Fill, Free, GateLook, GateTake, Inc, LinkCas, LinkLoad, LinkStore, Read, SetRetired, Unretire, DecHeld}
use Rattle.orc_core.specs.declared.records.Agent.{Agent}
use Rattle.orc_core.specs.declared.records.Doom.{Doom}
use Rattle.orc_core.specs.declared.records.Reading.{Reading}
use Rattle.orc_sound.proofs.Balances.{same_names}
use Rattle.orc_sound.proofs.DoomedStep.{cut_bare, fill_counter}
use Rattle.orc_sound.proofs.Facts.{out}
use Rattle.orc_sound.proofs.Pending.{dec_held_waits, dec_waits, inc_waits, try_waits}
use Rattle.orc_sound.proofs.Sources.{write_same}
use Rattle.orc_sound.proofs.Sums.{sum_member, sum_put}
use Rattle.orc_sound.proofs.World.{World, seat, write}

abbrev pub reasons : Agent → ℕ → ℕ → ℕ
reasons d w r = bit (names d.fresh r) + bit (names d.inc r) + bit (is_due d.due r (sequence_of w)) + bit (doom_bare d.doom r)

abbrev pub shows : ℕ → ℕ
shows w = bit (not (count_bits w == 4194304)) + retired_bit w

abbrev pub HasReason : Bounds → World → ℕ → Type 0
HasReason s z r = out (z.memory (Gate r)) ≤ shows (z.memory (Counter r)) + sum_below s.agents (λ a. reasons (z.seats a) (z.memory (Counter r)) r)

-- the step itself gives a reason, or the row is not out, or nothing that counts fell
abbrev pub Reason : (Word → ℕ) → (Word → ℕ) → Agent → Agent → ℕ → Type 0
Reason m n d e r = (0 < shows (n (Counter r)) + reasons e (n (Counter r)) r)
    ⊎ ((n (Counter r) ≡ m (Counter r)) × (out (n (Gate r)) ≤ out (m (Gate r))) × (reasons d (m (Counter r)) r ≤ reasons e (m (Counter r)) r))
    ⊎ (out (n (Gate r)) ≡ 0)

is_none_of : {A : Type 0} (o : Option A) → o ≡ None → is_none o ≡ true
is_none_of None h = refl
is_none_of (Some x) h = cc

out_le : (w : ℕ) → out w ≤ 1
out_le w = omega arith

pub no_leak_step : (s : Bounds) (z : World) (n : Word → ℕ) (a : ℕ) (e : Agent) (r : ℕ) → a < s.agents → Reason z.memory n (z.seats a) e r
    → HasReason s z r → HasReason s (record { memory = n; seats = seat z.seats a e }) r
no_leak_step s z n a e r h (inl own) l =
    let g = sum_member s.agents a (λ x. reasons (seat z.seats a e x) (n (Counter r)) r) h in
    let i : reasons (seat z.seats a e a) (n (Counter r)) r ≡ reasons e (n (Counter r)) r = rw (eq-eqb a a refl) in
    let o = out_le (n (Gate r)) in
    omega arith
no_leak_step s z n a e r h (inr (inr k)) l = omega arith
no_leak_step s z n a e r h (inr (inl k)) l =
    let p = sum_put s.agents a (λ _ x. reasons x (z.memory (Counter r)) r) z.seats e h in
    rw k.0 (let o = k.1 in let q = k.2 in omega arith)

-- a counted word is at a count other than 0, or has the bit, or is due
counted : (w r : ℕ) (due : Option Reading) → 0 < shows w + bit (is_due (due_after r w due) r (sequence_of w))
counted w r due = cases (count_bits w == 4194304) (retired_bit w == 0) refl refl
  where
    cases : (t u : Bool) → (count_bits w == 4194304) ≡ t → (retired_bit w == 0) ≡ u → 0 < bit (not (count_bits w == 4194304)) + retired_bit w
        + bit (is_due (cond ((count_bits w == 4194304) && (retired_bit w == 0)) (Some (record { row = r; number = sequence_of w })) due) r (sequence_of w))
    cases true true e f = rw (e, f, eq-eqb r r refl, eq-eqb (sequence_of w) (sequence_of w) refl) (omega arith)
    cases true false e f = let g = eqb-false (retired_bit w) 0 f in let h : retired_bit w ≢ 0 = g in omega arith
    cases false u e f = rw e (omega arith)

abbrev pub Keeps : (Word → ℕ) → ℕ → Op → Agent → ℕ → Type 0
Keeps m a op d r = Reason m (write m (action_of a op d).word (word_after (action_of a op d).operation (m (action_of a op d).word))) d
    (after op d (m (action_of a op d).word)) r

fill_gate : (m : Word → ℕ) (q w v r : ℕ) → out (write m (cond (w == 0) (First q) (Second q)) v (Gate r)) ≤ out (m (Gate r))
fill_gate m q w v r = grind arith

same_due : (q r x : ℕ) (o : Option Reading) (s : ℕ) → is_none o ≡ true → (q == r) ≡ false → bit (is_due o r s) ≤ bit (is_due (due_after q x o) r s)
same_due q r x None s h n = omega arith
same_due q r x (Some k) s h n = absurd (false≢true h)

others : (o : Option ℕ) (q r : ℕ) → names o q ≡ true → (q == r) ≡ false → bit (names o r) ≡ 0
others None q r h n = refl
others (Some k) q r h n = rw (eqb-true k q h, n)

inc_reason : (m : Word → ℕ) (d : Agent) (q r x : ℕ) (t : Bool) → (r == q) ≡ t → names d.inc q ≡ true → is_none d.due ≡ true
    → (0 < shows (cond t x (m (Counter r)))
    + (bit (names d.fresh r) + 0 + bit (is_due (due_after q x d.due) r (sequence_of (cond t x (m (Counter r))))) + bit (doom_bare d.doom r)))
    ⊎ ((cond t x (m (Counter r)) ≡ m (Counter r))
    × (reasons d (m (Counter r)) r ≤ bit (names d.fresh r) + 0 + bit (is_due (due_after q x d.due) r (sequence_of (m (Counter r)))) + bit (doom_bare d.doom r)))
inc_reason m d q r x true e i u = let k = counted x r d.due in inl (rw (← eqb-true r q e) (omega arith))
inc_reason m d q r x false e i u = let n : (q == r) ≡ false = ne_eqb q r (λ p. eqb-false r q e (sym p)) in let o = others d.inc q r i n in
    let s = same_due q r x d.due (sequence_of (m (Counter r))) u n in inr (refl, omega arith)

dec_reason : (m : Word → ℕ) (d : Agent) (q r x : ℕ) (t : Bool) → (r == q) ≡ t → is_none d.due ≡ true
    → (0 < shows (cond t x (m (Counter r)))
    + (bit (names d.fresh r) + bit (names d.inc r) + bit (is_due (due_after q x d.due) r (sequence_of (cond t x (m (Counter r)))))
    + bit (doom_bare d.doom r)))
    ⊎ ((cond t x (m (Counter r)) ≡ m (Counter r))
    × (reasons d (m (Counter r)) r ≤ bit (names d.fresh r) + bit (names d.inc r) + bit (is_due (due_after q x d.due) r (sequence_of (m (Counter r))))
    + bit (doom_bare d.doom r)))
dec_reason m d q r x true e u = let k = counted x r d.due in inl (rw (← eqb-true r q e) (omega arith))
dec_reason m d q r x false e u = let n : (q == r) ≡ false = ne_eqb q r (λ p. eqb-false r q e (sym p)) in
    let s = same_due q r x d.due (sequence_of (m (Counter r))) u n in inr (refl, omega arith)

pub none_names : (o : Option ℕ) (r : ℕ) → is_none o ≡ true → bit (names o r) ≡ 0
none_names None r h = refl
none_names (Some k) r h = absurd (false≢true h)

take_reason : (m : Word → ℕ) (d : Agent) (q r x : ℕ) (t u : Bool) → (r == q) ≡ u → is_none d.fresh ≡ true
    → (0 < shows (m (Counter r))
    + (bit (names (cond t (Some q) d.fresh) r) + bit (names d.inc r) + bit (is_due d.due r (sequence_of (m (Counter r)))) + bit (doom_bare d.doom r)))
    ⊎ ((m (Counter r) ≡ m (Counter r)) × (out (cond u (cond t x (m (Gate q))) (m (Gate r))) ≤ out (m (Gate r)))
    × (reasons d (m (Counter r)) r ≤ bit (names (cond t (Some q) d.fresh) r) + bit (names d.inc r)
    + bit (is_due d.due r (sequence_of (m (Counter r)))) + bit (doom_bare d.doom r))) ⊎ (out (cond u (cond t x (m (Gate q))) (m (Gate r))) ≡ 0)
take_reason m d q r x true true e n = inl (rw (eqb-true r q e, eq-eqb q q refl) (omega arith))
take_reason m d q r x true false e n = let k = none_names d.fresh r n in inr (inl (refl, omega arith, omega arith))
take_reason m d q r x false true e n = inr (inl (refl, rw (eqb-true r q e) (omega arith), omega arith))
take_reason m d q r x false false e n = inr (inl (refl, omega arith, omega arith))

cas_reason : (d : Agent) (f t : Option ℕ) (r w : ℕ) (a s n : Bool) → (n ≡ true → names d.fresh r ≡ names t r) → is_none d.inc ≡ true
    → reasons d w r ≤ bit (names (cond a (cond s d.fresh (cond n None d.fresh)) d.fresh) r) + bit (names (cond a (cond s d.inc t) d.inc) r)
    + bit (is_due d.due r (sequence_of w)) + bit (doom_bare d.doom r)
cas_reason d f t r w true false true h i = let k = none_names d.inc r i in let g = ap bit (h refl) in omega arith
cas_reason d f t r w true false false h i = let k = none_names d.inc r i in omega arith
cas_reason d f t r w true true n h i = omega arith
cas_reason d f t r w false s n h i = omega arith

store_reason : (d : Agent) (q nr : ℕ) (t : Option ℕ) (r w : ℕ) (s : Bool) → is_none d.inc ≡ true → reasons d w r ≤ bit (names d.fresh r)
    + bit (names (cond s d.inc t) r) + bit (is_due d.due r (sequence_of w)) + bit (doom_bare (cut_of d.doom q nr) r)
store_reason d q nr t r w true i = let c = ap bit (cut_bare d.doom q nr r) in omega arith
store_reason d q nr t r w false i = let c = ap bit (cut_bare d.doom q nr r) in let k = none_names d.inc r i in omega arith

bare_others : (o : Option Doom) (q r : ℕ) → doom_bare o q ≡ true → (q == r) ≡ false → bit (doom_bare o r) ≡ 0
bare_others None q r h n = refl
bare_others (Some x) q r h n = rw (eqb-true x.row q (and_both _ _ h).0, n)

gate_down : (g : ℕ) → out g ≡ 1 → g < 18446744073709551616 → out ((g + 18446744073709551615) % 18446744073709551616) ≡ 0
gate_down g h l = omega arith

free_reason : (m : Word → ℕ) (d : Agent) (q r : ℕ) (t : Bool) → (r == q) ≡ t → doom_bare d.doom q ≡ true → out (m (Gate q)) ≡ 1
    → m (Gate q) < 18446744073709551616
    → ((m (Counter r) ≡ m (Counter r)) × (out (cond t ((m (Gate q) + 18446744073709551615) % 18446744073709551616) (m (Gate r))) ≤ out (m (Gate r)))
    × (reasons d (m (Counter r)) r ≤ bit (names d.fresh r) + bit (names d.inc r) + bit (is_due d.due r (sequence_of (m (Counter r)))) + 0))
    ⊎ (out (cond t ((m (Gate q) + 18446744073709551615) % 18446744073709551616) (m (Gate r))) ≡ 0)
free_reason m d q r true e h o l = inr (gate_down (m (Gate q)) o l)
free_reason m d q r false e h o l = let n : (q == r) ≡ false = ne_eqb q r (λ p. eqb-false r q e (sym p)) in let k = bare_others d.doom q r h n in
    inl (refl, omega arith, omega arith)

end_reason : (d : Agent) (q r w : ℕ) (t : Bool) → d.doom ≡ None → reasons d w r ≤ bit (names d.fresh r) + bit (names d.inc r)
    + bit (is_due d.due r (sequence_of w)) + bit (doom_bare (cond t (Some (record { row = q; cuts = 0; bare = false })) d.doom) r)
end_reason d q r w t h = rw h (omega arith)

bare_more : (o : Option Doom) (r : ℕ) → bit (doom_bare o r) ≤ bit (doom_bare (bared o) r)
bare_more None r = omega arith
bare_more (Some x) r = grind arith

cut_bared : (links : ℕ) (o : Option Doom) (q : ℕ) → doom_cut links o q ≡ true → doom_bare (bared o) q ≡ true
cut_bared links None q h = h
cut_bared links (Some x) q h = grind arith

due_if : (t : Bool) (q r x s : ℕ) (o : Option Reading) → is_none o ≡ true → (q == r) ≡ false
    → bit (is_due o r s) ≤ bit (is_due (cond t (due_after q x o) o) r s)
due_if true q r x s o h n = same_due q r x o s h n
due_if false q r x s o h n = omega arith

shows_other : (v n : ℕ) → (v == clear_word n) ≡ false → sequence_of v ≡ n → 0 < shows v
shows_other v n h e = cases (count_bits v == 4194304) refl
  where
    cases : (t : Bool) → (count_bits v == 4194304) ≡ t → 0 < bit (not (count_bits v == 4194304)) + retired_bit v
    cases false c = rw c (omega arith)
    cases true c = let k = eqb-true (count_bits v) 4194304 c in let g = eqb-false v (clear_word n) h in let d : v ≢ clear_word n = g in omega arith

-- the due of a row at another sequence, or of another row, is no reason
due_here : (o : Option Reading) (q n r s : ℕ) → (is_due o q n ≡ true) ⊎ (is_none o ≡ true) → (is_due o r s ≡ true) → (q ≡ r) × (s ≡ n)
due_here None q n r s h k = absurd (false≢true k)
due_here (Some x) q n r s (inr h) k = absurd (false≢true h)
due_here (Some x) q n r s (inl h) k = let a = and_both _ _ h in let c = and_both _ _ k in
    (sym (eqb-true x.row q a.0) ∙ eqb-true x.row r c.0, sym (eqb-true x.number s c.1) ∙ eqb-true x.number n a.1)

fresh_kept : (o : Option ℕ) (q r : ℕ) (a : Bool) → (q == r) ≡ false → bit (names o r) ≤ bit (names (cond a (cond (names o q) None o) o) r)
fresh_kept o q r false n = omega arith
fresh_kept o q r true n = cases (names o q) refl
  where
    cases : (t : Bool) → names o q ≡ t → bit (names o r) ≤ bit (names (cond t None o) r)
    cases true h = let k = others o q r h n in omega arith
    cases false h = omega arith

set_reason : (m : Word → ℕ) (d : Agent) (q n r : ℕ) (a t : Bool) → (m (Counter q) == clear_word n) ≡ a → (r == q) ≡ t → (is_due d.due q n ≡ true)
    ⊎ (is_none d.due ≡ true)
    → (0 < shows (cond t (cond a (clear_word n + 8388608) (m (Counter q))) (m (Counter r)))
    + (bit (names (cond a (cond (names d.fresh q) None d.fresh) d.fresh) r) + bit (names d.inc r) + 0 + bit (doom_bare d.doom r)))
    ⊎ ((cond t (cond a (clear_word n + 8388608) (m (Counter q))) (m (Counter r)) ≡ m (Counter r))
    × (reasons d (m (Counter r)) r ≤ bit (names (cond a (cond (names d.fresh q) None d.fresh) d.fresh) r) + bit (names d.inc r) + 0 + bit (doom_bare d.doom r)))
set_reason m d q n r true true w e u = let k : retired_bit (clear_word n + 8388608) ≡ 1 = omega arith in inl (omega arith)
set_reason m d q n r false true w e u = cases (is_due d.due r (sequence_of (m (Counter r)))) refl
  where
    cases : (v : Bool) → is_due d.due r (sequence_of (m (Counter r))) ≡ v
        → (0 < shows (m (Counter q)) + (bit (names d.fresh r) + bit (names d.inc r) + 0 + bit (doom_bare d.doom r)))
        ⊎ ((m (Counter q) ≡ m (Counter r)) × (reasons d (m (Counter r)) r ≤ bit (names d.fresh r) + bit (names d.inc r) + 0 + bit (doom_bare d.doom r)))
    cases true h = let p = due_here d.due q n r (sequence_of (m (Counter r))) u h in
        let s = shows_other (m (Counter q)) n w (rw (ap (λ x. m (Counter x)) p.0) p.1) in inl (omega arith)
    cases false h = let g = ap bit h in inr (ap (λ x. m (Counter x)) (sym (eqb-true r q e)), omega arith)
set_reason m d q n r a false w e u =
    let no : (q == r) ≡ false = ne_eqb q r (λ p. eqb-false r q e (sym p)) in
    let k = fresh_kept d.fresh q r a no in
    inr (refl, cases (is_due d.due r (sequence_of (m (Counter r)))) refl k)
  where
    cases : (v : Bool) → is_due d.due r (sequence_of (m (Counter r))) ≡ v
        → bit (names d.fresh r) ≤ bit (names (cond a (cond (names d.fresh q) None d.fresh) d.fresh) r)
        → reasons d (m (Counter r)) r ≤ bit (names (cond a (cond (names d.fresh q) None d.fresh) d.fresh) r) + bit (names d.inc r) + 0
        + bit (doom_bare d.doom r)
    cases true h k = absurd (eqb-false r q e (sym (due_here d.due q n r (sequence_of (m (Counter r))) u h).0))
    cases false h k = let g = ap bit h in omega arith

no_scan_cut : (b : Bounds) (d : Agent) (q : ℕ) → is_some d.scan ≡ false
    → ((scans d.scan q && not (scan_empty d.scan) && holds (slot_of d 0) q) || doom_cut b.links d.doom q) ≡ true → doom_cut b.links d.doom q ≡ true
no_scan_cut b d q n h = grind arith

unretire_reason : (m : Word → ℕ) (links : ℕ) (d : Agent) (q r x : ℕ) (t s : Bool) → (r == q) ≡ t → (s ≡ false → doom_cut links d.doom q ≡ true) → is_none d.due ≡ true
    → (0 < shows (cond t x (m (Counter r)))
    + (bit (names d.fresh r) + bit (names d.inc r) + bit (is_due (cond s (due_after q x d.due) d.due) r (sequence_of (cond t x (m (Counter r)))))
    + bit (doom_bare (bared d.doom) r)))
    ⊎ ((cond t x (m (Counter r)) ≡ m (Counter r))
    × (reasons d (m (Counter r)) r ≤ bit (names d.fresh r) + bit (names d.inc r)
    + bit (is_due (cond s (due_after q x d.due) d.due) r (sequence_of (m (Counter r)))) + bit (doom_bare (bared d.doom) r)))
unretire_reason m links d q r x true true e c u = let k = counted x r d.due in inl (rw (← eqb-true r q e) (omega arith))
unretire_reason m links d q r x true false e c u = let k : doom_bare (bared d.doom) r ≡ true = rw (eqb-true r q e) (cut_bared links d.doom q (c refl)) in
    let g = ap bit k in inl (omega arith)
unretire_reason m links d q r x false s e c u = let n : (q == r) ≡ false = ne_eqb q r (λ p. eqb-false r q e (sym p)) in
    let k = due_if s q r x (sequence_of (m (Counter r))) d.due u n in let g = bare_more d.doom r in inr (refl, omega arith)

pub reason : (b : Bounds) (e a : ℕ) (op : Op) (d : Agent) (m : Word → ℕ) (r : ℕ) → fits b e a op d ≡ true → forced d op ≡ true
    → ((q : ℕ) → op ≡ CounterLoad q End → d.doom ≡ None) → ((q : ℕ) → op ≡ Free q → (out (m (Gate q)) ≡ 1) × (m (Gate q) < 18446744073709551616))
    → Keeps m a op d r
reason b e a (GateLook q) d m r f u z g = inr (inl (refl, rw (write_same m (Gate q) (Gate r)) (omega arith), omega arith))
reason b e a (GateTake q) d m r f u z g =
    take_reason m d q r _ (m (Gate q) == 2 * number_of d.looked) (r == q) refl (and_both _ _ (and_both _ _ (and_both _ _ (and_both _ _ f).0).0).0).1
reason b e a (LinkLoad p k) d m r f u z g = inr (inl (write_same m p (Counter r), rw (write_same m p (Gate r)) (omega arith), omega arith))
reason b e a (LinkCas (Root i) x t) d m r f u z g =
    inr (inl (
      refl,
      omega arith,
      cas_reason d x.to t.to r (m (Counter r)) (m (Root i) == link_word x) (same_target x.to t.to)
          (same_target d.fresh t.to) (same_names d.fresh t.to r) (is_none_of d.inc (nothing_pending d.due d.inc d.dec (LinkCas (Root i) x t) refl u).1),
    ))
reason b e a (LinkCas (Next i) x t) d m r f u z g =
    inr (inl (
      refl,
      omega arith,
      cas_reason d x.to t.to r (m (Counter r)) (m (Next i) == link_word x) (same_target x.to t.to)
          (same_target d.fresh t.to) (same_names d.fresh t.to r) (is_none_of d.inc (nothing_pending d.due d.inc d.dec (LinkCas (Next i) x t) refl u).1),
    ))
reason b e a (LinkCas (Side i) x t) d m r f u z g =
    inr (inl (
      refl,
      omega arith,
      cas_reason d x.to t.to r (m (Counter r)) (m (Side i) == link_word x) (same_target x.to t.to)
          (same_target d.fresh t.to) (same_names d.fresh t.to r) (is_none_of d.inc (nothing_pending d.due d.inc d.dec (LinkCas (Side i) x t) refl u).1),
    ))
reason b e a (LinkCas p x t) d m r f u z g = grind arith
reason b e a (LinkStore q l zero) d m r f u z g =
    inr (inl (
      refl,
      omega arith,
      store_reason d q zero l.to r (m (Counter r)) (same_target (named (m (Next q) / 2)) l.to)
          (is_none_of d.inc (nothing_pending d.due d.inc d.dec (LinkStore q l zero) refl u).1),
    ))
reason b e a (LinkStore q l (suc ln)) d m r f u z g =
    inr (inl (
      refl,
      omega arith,
      store_reason d q (suc ln) l.to r (m (Counter r)) (same_target (named (m (Side q) / 2)) l.to)
          (is_none_of d.inc (nothing_pending d.due d.inc d.dec (LinkStore q l (suc ln)) refl u).1),
    ))
reason b e a (Inc q) d m r f u z g =
    ⊎_elim (λ k. inl k) (λ k. inr (inl (k.0, omega arith, k.1)))
    (inc_reason m d q r ((m (Counter q) + 16777217) % 18446744073709551616) (r == q) refl (and_both _ _ f).1
    (is_none_of d.due (inc_waits d.due d.inc d.dec q u)))
reason b e a (Dec q) d m r f u z g =
    ⊎_elim (λ k. inl k) (λ k. inr (inl (k.0, omega arith, k.1)))
    (dec_reason m d q r ((m (Counter q) + 16777215) % 18446744073709551616) (r == q) refl (is_none_of d.due (dec_waits d.due d.inc d.dec q u).0))
reason b e a (DecHeld q) d m r f u z g =
    ⊎_elim (λ k. inl k) (λ k. inr (inl (k.0, omega arith, k.1)))
    (dec_reason m d q r ((m (Counter q) + 16777215) % 18446744073709551616) (r == q) refl (is_none_of d.due (dec_held_waits d.due d.inc d.dec q u).0))
reason b e a (SetRetired q n) d m r f u z g =
    ⊎_elim (λ k. inl k) (λ k. inr (inl (k.0, omega arith, k.1)))
    (set_reason m d q n r (m (Counter q) == clear_word n) (r == q) refl refl
    (⊎_elim (λ k. inl k) (λ k. inr (is_none_of d.due k.0)) (try_waits d.due d.inc d.dec q n u)))
reason b e a (CounterLoad q Check) d m r f u z g = inr (inl (write_same m (Counter q) (Counter r), omega arith, omega arith))
reason b e a (CounterLoad q Start) d m r f u z g = inr (inl (write_same m (Counter q) (Counter r), omega arith, omega arith))
reason b e a (CounterLoad q End) d m r f u z g =
    inr (inl (write_same m (Counter q) (Counter r), omega arith, end_reason d q r (m (Counter r)) (m (Counter q) == kept d.scan) (z q refl)))
reason b e a (Unretire q) d m r f u z g =
    ⊎_elim (λ k. inl k) (λ k. inr (inl (k.0, omega arith, k.1)))
    (unretire_reason m b.links d q r ((m (Counter q) + 18446744073701163008) % 18446744073709551616) (r == q) (is_some d.scan) refl
    (λ n. no_scan_cut b d q n (and_both _ _ f).1) (is_none_of d.due (nothing_pending d.due d.inc d.dec (Unretire q) refl u).0))
reason b e a (Fill q w v) d m r f u z g = inr (inl (fill_counter m q w v r, fill_gate m q w v r, omega arith))
reason b e a (Read q w) d m r f u z g =
    inr (inl (
      write_same m (cond (w == 0) (First q) (Second q)) (Counter r),
      rw (write_same m (cond (w == 0) (First q) (Second q)) (Gate r))
          (omega arith),
      omega arith,
    ))
reason b e a (Free q) d m r f u z g = inr (free_reason m d q r (r == q) refl (and_both _ _ f).1 (g q refl).0 (g q refl).1)
reason b e a op d m r f u z g = inr (inl (refl, omega arith, omega arith))
