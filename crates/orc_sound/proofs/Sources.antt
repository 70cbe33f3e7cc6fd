-- Where what a record newly has comes from, field by field.
use Rattle.std.proofs.Common.{Bool, List, [], ap, arith, cond, false, inl, inr, refl, suc, sym, true, zero, ℕ, ◌*◌, ◌/◌, ◌∷◌, ◌≡◌, ◌⊎◌, ◌<◌}
use Rattle.std.proofs.lemmas.Bool.{eqb-true, false≢true}
use Rattle.std.specs.Prelude.{None, Option, Some, is_some, slice_index_or, slice_set, ◌&&◌, ◌==◌}
use Rattle.orc_words.specs.Bounds.{Bounds}
use Rattle.orc_words.specs.Packed.{bit, link_word, named}
use Rattle.orc_words.specs.declared.packed.RowLink.{RowLink}
use Rattle.orc_words.specs.declared.place.Word.{Word}
use Rattle.orc_words.specs.declared.place.Word.TheVariants.{Gate, Next, Root, Side}
use Rattle.orc_words.specs.Operations.{word_after}
use Rattle.orc_core.specs.Actions.{action_of}
use Rattle.orc_core.specs.After.{after, promoted}
use Rattle.orc_core.specs.Allowed.{fits}
use Rattle.orc_core.specs.RecordParts.{any_holds, holds, names, number_of, saw, scans, slot_of}
use Rattle.orc_core.specs.declared.ops.Op.{Op}
use Rattle.orc_core.specs.declared.ops.Op.TheVariants.{Arm, Clear, Dec, Fill, Free, GateLook, GateTake, Inc, LinkCas, LinkLoad, LinkStore, Publish, Read, SetRetired, Unretire, MoveOn, DecHeld}
use Rattle.orc_core.specs.declared.records.Agent.{Agent}
use Rattle.orc_core.specs.declared.records.Scan.{Scan}
use Rattle.orc_core.specs.declared.records.SlotUse.{SlotUse}
use Rattle.orc_core.specs.declared.records.SlotUse.TheVariants.{Empty, Held, Published}
use Rattle.orc_sound.specs.Lifetimes.{frees}
use Rattle.orc_sound.proofs.Balances.{to_row-link}
use Rattle.orc_sound.proofs.Bridge.{same_word-true}
use Rattle.orc_sound.proofs.Facts.{out, to_row}
use Rattle.orc_sound.proofs.World.{same_word, write}
use Rattle.orc_words.specs.Places.{link_at}

pub any_holds_set : (ss : List SlotUse) (k : ℕ) (x : SlotUse) (r : ℕ) → any_holds (slice_set ss k x) r ≡ true → (any_holds ss r ≡ true) ⊎ (holds x r ≡ true)
any_holds_set [] k x r h = inl h
any_holds_set (s ∷ ss) zero x r h = grind arith
any_holds_set (s ∷ ss) (suc k) x r h = grind (arith, any_holds_set ss k x r)

pub any_holds_at : (ss : List SlotUse) (k r : ℕ) → holds (slice_index_or ss k Empty) r ≡ true → any_holds ss r ≡ true
any_holds_at [] k r h = h
any_holds_at (s ∷ ss) zero r h = grind arith
any_holds_at (s ∷ ss) (suc k) r h = grind (arith, any_holds_at ss k r)

pub promoted_holds : (s : SlotUse) (v r : ℕ) → holds (promoted s v) r ≡ true → (holds s r ≡ true) ⊎ (to_row v r ≡ 1)
promoted_holds Empty v r h = inl h
promoted_holds (Held q) v r h = inl h
promoted_holds (Published q) v r h = grind arith

-- what a new hold comes from: the link that was read, the fresh row, the pending decrement or the scan
abbrev pub NewHold : Op → Agent → ℕ → ℕ → Type 0
NewHold (LinkLoad p k) d v r = to_row v r ≡ 1
NewHold (Publish k q) d v r = names d.fresh r ≡ true
NewHold (MoveOn k q) d v r = names d.fresh r ≡ true
NewHold (Arm q) d v r = (r ≡ q) × ((names d.dec q ≡ true) ⊎ (scans d.scan q ≡ true))
NewHold _ d v r = ⊥

pub holds_source : (b : Bounds) (e a : ℕ) (op : Op) (d : Agent) (v r : ℕ) → fits b e a op d ≡ true → any_holds (after op d v).slots r ≡ true
    → (any_holds d.slots r ≡ true) ⊎ NewHold op d v r
holds_source b e a (LinkLoad p None) d v r f h = inl h
holds_source b e a (LinkLoad p (Some k)) d v r f h =
    grind (arith, any_holds_set d.slots k (promoted (slot_of d k) v) r h, promoted_holds (slot_of d k) v r, any_holds_at d.slots k r)
holds_source b e a (Publish k q) d v r f h = grind (arith, any_holds_set d.slots k (cond (names d.fresh q) (Held q) (Published q)) r h)
holds_source b e a (MoveOn k q) d v r f h = grind (arith, any_holds_set d.slots k (cond (names d.fresh q) (Held q) (Published q)) r h)
holds_source b e a (Clear k) d v r f h = grind (arith, any_holds_set d.slots k Empty r h)
holds_source b e a (Arm q) d v r f h = grind (arith, any_holds_set d.slots 0 (Held q) r h)
holds_source b e a op d v r f h = inl h

-- a fresh row is new where a GateTake won it
abbrev pub takes : Op → Agent → ℕ → ℕ → Bool
takes (GateTake q) d v r = (q == r) && (v == 2 * number_of d.looked)
takes _ d v r = false

pub fresh_source : (op : Op) (d : Agent) (v r : ℕ) → names (after op d v).fresh r ≡ true → (names d.fresh r ≡ true) ⊎ (takes op d v r ≡ true)
fresh_source (GateTake q) d v r h = grind arith
fresh_source (LinkCas p f t) d v r h = grind arith
fresh_source (SetRetired q n) d v r h = grind arith
fresh_source op d v r h = inl h

-- a pending increment is new where a link was made to the row
abbrev pub links : Op → ℕ → Bool
links (LinkCas p f t) r = names t.to r
links (LinkStore q l nr) r = names l.to r
links _ r = false

pub inc_source : (op : Op) (d : Agent) (v r : ℕ) → names (after op d v).inc r ≡ true → (names d.inc r ≡ true) ⊎ (links op r ≡ true)
inc_source (LinkCas p f t) d v r h = grind arith
inc_source (LinkStore q l nr) d v r h = grind arith
inc_source (Inc q) d v r h = grind arith
inc_source op d v r h = inl h

-- a pending decrement is new where a link to the row was replaced
abbrev pub unlinks : Op → ℕ → ℕ → Bool
unlinks (LinkCas p f t) v r = names f.to r
unlinks (LinkStore q l nr) v r = names (named (v / 2)) r
unlinks _ v r = false

pub dec_source : (op : Op) (d : Agent) (v r : ℕ) → names (after op d v).dec r ≡ true → (names d.dec r ≡ true) ⊎ (unlinks op v r ≡ true)
dec_source (LinkCas p f t) d v r h = grind arith
dec_source (LinkStore q l nr) d v r h = grind arith
dec_source (Dec q) d v r h = grind arith
dec_source (DecHeld q) d v r h = grind arith
dec_source op d v r h = inl h

-- a word that is written with what it holds
pub write_same : (m : Word → ℕ) (w x : Word) → write m w (m w) x ≡ m x
write_same m w x = cases m w x (same_word x w) refl
  where
    cases : (m : Word → ℕ) (w x : Word) (b : Bool) → same_word x w ≡ b → cond b (m w) (m x) ≡ m x
    cases m w x true e = ap m (sym (same_word-true x w e))
    cases m w x false e = refl

-- the gates that are out stay out, but at Free
pub out_stays : (m : Word → ℕ) (b : Bounds) (e a : ℕ) (op : Op) (d : Agent) (r : ℕ) → fits b e a op d ≡ true → frees op r ≡ false
    → out (m (Gate r)) ≡ 1 → out (write m (action_of a op d).word (word_after (action_of a op d).operation (m (action_of a op d).word)) (Gate r)) ≡ 1
out_stays m b e a (GateLook q) d r f n h = rw (write_same m (Gate q) (Gate r)) h
out_stays m b e a (GateTake q) d r f n h = grind arith
out_stays m b e a (LinkLoad p k) d r f n h = rw (write_same m p (Gate r)) h
out_stays m b e a (LinkCas (Root i) x t) d r f n h = h
out_stays m b e a (LinkCas (Next i) x t) d r f n h = h
out_stays m b e a (LinkCas (Side i) x t) d r f n h = h
out_stays m b e a (LinkCas p x t) d r f n h = grind arith
out_stays m b e a (Free q) d r f n h = grind arith
out_stays m b e a (Fill q w v) d r f n h = grind arith
out_stays m b e a (Read q w) d r f n h = grind arith
out_stays m b e a (LinkStore lq ll zero) d r f n h = h
out_stays m b e a (LinkStore lq ll (suc ln)) d r f n h = h
out_stays m b e a op d r f n h = h

-- a row is due anew where a counter came to count 0 with no bit
abbrev pub counts : Op → Option Scan → ℕ → Bool
counts (Inc q) s r = q == r
counts (Dec q) s r = q == r
counts (DecHeld q) s r = q == r
counts (Unretire q) s r = (q == r) && is_some s
counts _ s r = false

pub due_source : (op : Op) (d : Agent) (v r : ℕ) → saw (after op d v).due r ≡ true → (saw d.due r ≡ true) ⊎ (counts op d.scan r ≡ true)
due_source (Inc q) d v r h = grind arith
due_source (Dec q) d v r h = grind arith
due_source (DecHeld q) d v r h = grind arith
due_source (Unretire q) d v r h = grind arith
due_source (SetRetired q n) d v r h = grind arith
due_source op d v r h = inl h

-- a root's link is new where a LinkCas put its target there
abbrev pub puts : Op → Word → ℕ → Bool
puts (LinkCas p f t) w r = same_word w p && names t.to r
puts (LinkStore q l nr) w r = same_word w (link_at nr q) && names l.to r
puts _ w r = false

pub one-true : (b : Bool) → bit b ≡ 1 → b ≡ true
one-true true h = refl
one-true false h = grind arith

link_source : (v w : ℕ) (t : RowLink) (r : ℕ) (a b : Bool) → (a ≡ true → w ≡ v) → to_row (cond a (cond b (link_word t) v) w) r ≡ 1 → (to_row w r ≡ 1)
    ⊎ ((a && names t.to r) ≡ true)
link_source v w t r false b e h = inl h
link_source v w t r true false e h = inl (rw (e refl) h)
link_source v w t r true true e h = inr (one-true (names t.to r) (rw to_row-link at h))

pub root_source : (b : Bounds) (e a : ℕ) (op : Op) (d : Agent) (m : Word → ℕ) (i r : ℕ) → fits b e a op d ≡ true
    → to_row (write m (action_of a op d).word (word_after (action_of a op d).operation (m (action_of a op d).word)) (Root i)) r ≡ 1
    → (to_row (m (Root i)) r ≡ 1) ⊎ (puts op (Root i) r ≡ true)
root_source b e a (LinkLoad p k) d m i r f h = inl (rw (write_same m p (Root i)) at h)
root_source b e a (LinkCas (Root j) x t) d m i r f h =
    link_source (m (Root j)) (m (Root i)) t r (i == j) (m (Root j) == link_word x) (λ p. ap (λ n. m (Root n)) (eqb-true i j p)) h
root_source b e a (LinkCas (Next j) x t) d m i r f h = inl h
root_source b e a (LinkCas (Side j) x t) d m i r f h = inl h
root_source b e a (LinkCas p x t) d m i r f h = grind arith
root_source b e a (Fill q w v) d m i r f h = grind arith
root_source b e a (Read q w) d m i r f h = grind arith
root_source b e a (LinkStore lq ll zero) d m i r f h = inl h
root_source b e a (LinkStore lq ll (suc ln)) d m i r f h = inl h
root_source b e a op d m i r f h = inl h

next_source : (b : Bounds) (e a : ℕ) (op : Op) (d : Agent) (m : Word → ℕ) (i r : ℕ) → fits b e a op d ≡ true
    → to_row (write m (action_of a op d).word (word_after (action_of a op d).operation (m (action_of a op d).word)) (Next i)) r ≡ 1
    → (to_row (m (Next i)) r ≡ 1) ⊎ (puts op (Next i) r ≡ true)
next_source b e a (LinkLoad p k) d m i r f h = inl (rw (write_same m p (Next i)) at h)
next_source b e a (LinkCas p x t) d m i r f h =
    link_source (m p) (m (Next i)) t r (same_word (Next i) p) (m p == link_word x) (λ e. ap m (same_word-true (Next i) p e)) h
next_source b e a (LinkStore j l k) d m i r f h =
    link_source (m (link_at k j)) (m (Next i)) l r (same_word (Next i) (link_at k j)) true (λ e. ap m (same_word-true (Next i) (link_at k j) e)) h
next_source b e a (Fill q w v) d m i r f h = grind arith
next_source b e a (Read q w) d m i r f h = grind arith
next_source b e a op d m i r f h = inl h

side_source : (b : Bounds) (e a : ℕ) (op : Op) (d : Agent) (m : Word → ℕ) (i r : ℕ) → fits b e a op d ≡ true
    → to_row (write m (action_of a op d).word (word_after (action_of a op d).operation (m (action_of a op d).word)) (Side i)) r ≡ 1
    → (to_row (m (Side i)) r ≡ 1) ⊎ (puts op (Side i) r ≡ true)
side_source b e a (LinkLoad p k) d m i r f h = inl (rw (write_same m p (Side i)) at h)
side_source b e a (LinkCas p x t) d m i r f h =
    link_source (m p) (m (Side i)) t r (same_word (Side i) p) (m p == link_word x) (λ e. ap m (same_word-true (Side i) p e)) h
side_source b e a (LinkStore j l k) d m i r f h =
    link_source (m (link_at k j)) (m (Side i)) l r (same_word (Side i) (link_at k j)) true (λ e. ap m (same_word-true (Side i) (link_at k j) e)) h
side_source b e a (Fill q w v) d m i r f h = grind arith
side_source b e a (Read q w) d m i r f h = grind arith
side_source b e a op d m i r f h = inl h

-- a row's link is new where a LinkCas or a LinkStore put its target there
pub links_source : (b : Bounds) (e a : ℕ) (op : Op) (d : Agent) (m : Word → ℕ) (n i r : ℕ) → fits b e a op d ≡ true
    → to_row (write m (action_of a op d).word (word_after (action_of a op d).operation (m (action_of a op d).word)) (link_at n i)) r ≡ 1
    → (to_row (m (link_at n i)) r ≡ 1) ⊎ (puts op (link_at n i) r ≡ true)
links_source b e a op d m zero i r f h = next_source b e a op d m i r f h
links_source b e a op d m (suc k) i r f h = side_source b e a op d m i r f h

-- a gate is out anew where a GateTake won it
pub gate_source : (b : Bounds) (e a : ℕ) (op : Op) (d : Agent) (m : Word → ℕ) (r : ℕ) → fits b e a op d ≡ true → frees op r ≡ false
    → out (write m (action_of a op d).word (word_after (action_of a op d).operation (m (action_of a op d).word)) (Gate r)) ≡ 1
    → (out (m (Gate r)) ≡ 1) ⊎ (takes op d (m (action_of a op d).word) r ≡ true)
gate_source b e a (GateLook q) d m r f n h = inl (rw (write_same m (Gate q) (Gate r)) at h)
gate_source b e a (GateTake q) d m r f n h = grind arith
gate_source b e a (LinkLoad p k) d m r f n h = inl (rw (write_same m p (Gate r)) at h)
gate_source b e a (LinkCas (Root i) x t) d m r f n h = inl h
gate_source b e a (LinkCas (Next i) x t) d m r f n h = inl h
gate_source b e a (LinkCas (Side i) x t) d m r f n h = inl h
gate_source b e a (LinkCas p x t) d m r f n h = grind arith
gate_source b e a (Free q) d m r f n h = grind arith
gate_source b e a (Fill q w v) d m r f n h = grind arith
gate_source b e a (Read q w) d m r f n h = grind arith
gate_source b e a (LinkStore lq ll zero) d m r f n h = inl h
gate_source b e a (LinkStore lq ll (suc ln)) d m r f n h = inl h
gate_source b e a op d m r f n h = inl h

-- the kind changes this link word
abbrev pub changes_link : Op → Word → Bool
changes_link (LinkCas p f t) w = same_word w p
changes_link (LinkStore q l k) w = same_word w (link_at k q)
changes_link _ w = false

next_stays : (b : Bounds) (e a : ℕ) (op : Op) (d : Agent) (m : Word → ℕ) (i : ℕ) → fits b e a op d ≡ true → changes_link op (Next i) ≡ false
    → write m (action_of a op d).word (word_after (action_of a op d).operation (m (action_of a op d).word)) (Next i) ≡ m (Next i)
next_stays b e a (LinkLoad p k) d m i f n = write_same m p (Next i)
next_stays b e a (LinkCas p x t) d m i f n = rw n
next_stays b e a (LinkStore j l k) d m i f n = rw n
next_stays b e a (Fill q w v) d m i f n = grind arith
next_stays b e a (Read q w) d m i f n = grind arith
next_stays b e a op d m i f n = refl

side_stays : (b : Bounds) (e a : ℕ) (op : Op) (d : Agent) (m : Word → ℕ) (i : ℕ) → fits b e a op d ≡ true → changes_link op (Side i) ≡ false
    → write m (action_of a op d).word (word_after (action_of a op d).operation (m (action_of a op d).word)) (Side i) ≡ m (Side i)
side_stays b e a (LinkLoad p k) d m i f n = write_same m p (Side i)
side_stays b e a (LinkCas p x t) d m i f n = rw n
side_stays b e a (LinkStore j l k) d m i f n = rw n
side_stays b e a (Fill q w v) d m i f n = grind arith
side_stays b e a (Read q w) d m i f n = grind arith
side_stays b e a op d m i f n = refl

pub links_stay : (b : Bounds) (e a : ℕ) (op : Op) (d : Agent) (m : Word → ℕ) (n i : ℕ) → fits b e a op d ≡ true → changes_link op (link_at n i) ≡ false
    → write m (action_of a op d).word (word_after (action_of a op d).operation (m (action_of a op d).word)) (link_at n i) ≡ m (link_at n i)
links_stay b e a op d m zero i f n = next_stays b e a op d m i f n
links_stay b e a op d m (suc k) i f n = side_stays b e a op d m i f n

-- equal link words are of one row, and of one number below two
pub same_link : (n i k j : ℕ) → same_word (link_at n i) (link_at k j) ≡ true → i ≡ j
same_link zero i zero j h = eqb-true i j h
same_link zero i (suc k) j h = absurd (false≢true h)
same_link (suc n) i zero j h = absurd (false≢true h)
same_link (suc n) i (suc k) j h = eqb-true i j h

pub same_number : (n i k j : ℕ) → same_word (link_at n i) (link_at k j) ≡ true → n < k → k < 2 → ⊥
same_number zero i zero j h l s = omega arith
same_number zero i (suc k) j h l s = false≢true h
same_number (suc n) i k j h l s = omega arith
