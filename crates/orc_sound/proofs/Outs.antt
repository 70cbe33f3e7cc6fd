-- What is used, retired or linked_in is out, and a free row's link words are 0.
use Rattle.std.proofs.Common.{Bool, arith, false, inl, refl, subst, true, ℕ, ⊎_elim, ◌*◌, ◌<◌, ◌≡◌, ◌⊎◌, zero, suc, sym}
use Rattle.std.proofs.lemmas.Bool.{eqb-true, false≢true, ltb-true}
use Rattle.std.specs.Prelude.{None, Option, Some, nat_lt, not, ◌&&◌, ◌||◌}
use Rattle.orc_words.specs.Bounds.{Bounds, IsShape}
use Rattle.orc_words.specs.Packed.{retired_bit}
use Rattle.orc_words.specs.declared.packed.RowLink.{RowLink}
use Rattle.orc_words.specs.declared.place.Word.{Word}
use Rattle.orc_words.specs.declared.place.Word.TheVariants.{Counter, Enrolled, Gate, Next, Root, Side}
use Rattle.orc_core.proofs.Within.{and_both}
use Rattle.orc_words.specs.Operations.{word_after}
use Rattle.orc_core.specs.Actions.{action_of}
use Rattle.orc_core.specs.Allowed.{fits, may_place}
use Rattle.orc_core.specs.RecordParts.{any_holds, doom_bare, doom_at, names, scans}
use Rattle.orc_core.specs.declared.ops.Op.{Op}
use Rattle.orc_core.specs.declared.ops.Op.TheVariants.{Arm, Free, GateTake, LinkCas, LinkLoad, LinkStore, SetRetired}
use Rattle.orc_core.specs.declared.records.Agent.{Agent}
use Rattle.orc_core.specs.declared.records.Doom.{Doom}
use Rattle.orc_sound.proofs.Balances.{OutPlace}
use Rattle.orc_sound.proofs.Bits.{bit_before, raises, retired_one, scan_places}
use Rattle.orc_sound.proofs.Facts.{Counted, Doomed, Gone, LawfulStep, linked_in, out, to_row}
use Rattle.orc_sound.proofs.Seats.{both_ways, not_true, seat_split}
use Rattle.orc_sound.proofs.Sources.{changes_link, gate_source, links, links_source, links_stay, out_stays, puts, root_source, takes, same_link}
use Rattle.orc_sound.specs.Lifetimes.{frees}
use Rattle.orc_sound.proofs.Sums.{sum_member}
use Rattle.orc_sound.proofs.Uses.{NewUse, due_uses, fresh_uses, held_uses, links_held, use_source}
use Rattle.orc_sound.proofs.World.{World, read_by, record_by, step_world, write}
use Rattle.orc_sound.specs.Doomed.{cuts_past, dooms, dooms_cut}
use Rattle.orc_sound.specs.Linked.{uses}
use Rattle.orc_words.specs.Places.{link_at}
use Rattle.orc_sound.proofs.Bridge.{same_word-true}

-- what is known of a row that a step frees
pub record Freed (b : Bounds) (z : World) (r : ℕ) : Type 0 where
  pub gone : Gone b z r
  pub clear : retired_bit (z.memory (Counter r)) ≡ 0
  pub null : (n : ℕ) → z.memory (link_at n r) ≡ 0

pub bare_dooms : (o : Option Doom) (r : ℕ) → doom_bare o r ≡ true → dooms o r ≡ true
bare_dooms None r h = h
bare_dooms (Some d) r h = (and_both _ _ h).0

pub uncut_dooms : (o : Option Doom) (r n : ℕ) → doom_at o r n ≡ true → dooms o r ≡ true
uncut_dooms None r n h = h
uncut_dooms (Some d) r n h = (and_both _ _ h).0

cut_past : (links : ℕ) (o : Option Doom) (r n : ℕ) → dooms_cut links o r ≡ true → n < links → cuts_past o r n ≡ true
cut_past links None r n h l = h
cut_past links (Some d) r n h l = grind arith

-- a row of which all links were cut has none
all_null : (b : Bounds) (z : World) (a q : ℕ) → IsShape b → Counted b z → Doomed b z → dooms_cut b.links (z.seats a).doom q ≡ true → (n : ℕ) → z.memory (link_at n q) ≡ 0
all_null b z a q shape s d h zero = d.null a q 0 (cut_past b.links (z.seats a).doom q 0 h (let l = shape.links.0 in omega arith))
all_null b z a q shape s d h (suc k) = cases (nat_lt 1 b.links) refl
  where
    cases : (t : Bool) → nat_lt 1 b.links ≡ t → z.memory (Side q) ≡ 0
    cases true e = d.null a q 1 (cut_past b.links (z.seats a).doom q 1 h (ltb-true 1 b.links e))
    cases false e = s.outside (Side q) (no_side (nat_lt q b.rows) e)
      where
        no_side : (u : Bool) → nat_lt 1 b.links ≡ false → (u && nat_lt 1 b.links) ≡ false
        no_side true e = e
        no_side false e = refl

pub freed_row : (b : Bounds) (z : World) (a q : ℕ) → LawfulStep b z a (Free q) → Freed b z q
freed_row b z a q p =
    let k = (and_both _ _ p.fits).1 in
    record { gone = p.doomed.gone a q (bare_dooms _ q k); clear = p.doomed.clear a q k; null = all_null b z a q p.shape p.counted p.doomed (p.doomed.cut a q k) }

pub freed : (b : Bounds) (z : World) (a : ℕ) (op : Op) (r : ℕ) → LawfulStep b z a op → frees op r ≡ true → Freed b z r
freed b z a (Free q) r p h = subst (λ x. Freed b z x) (eqb-true q r h) (freed_row b z a q p)
freed b z a op r p h = absurd (false≢true h)

pub unfreed : (b : Bounds) (z : World) (a : ℕ) (op : Op) (r : ℕ) → LawfulStep b z a op → (Freed b z r → ⊥) → frees op r ≡ false
unfreed b z a op r p n = not_true (frees op r) (λ h. n (freed b z a op r p h))

pub stays_out : (b : Bounds) (z : World) (a : ℕ) (op : Op) (r : ℕ) → LawfulStep b z a op → (Freed b z r → ⊥) → out (z.memory (Gate r)) ≡ 1
    → out ((step_world z a op).memory (Gate r)) ≡ 1
stays_out b z a op r p n h = out_stays z.memory b (z.memory Enrolled) a op (z.seats a) r p.fits (unfreed b z a op r p n) h

pub used_stays : (b : Bounds) (z : World) (a : ℕ) (op : Op) (x r : ℕ) → LawfulStep b z a op → uses (z.seats x) r ≡ true → out ((step_world z a op).memory (Gate r)) ≡ 1
used_stays b z a op x r p h = stays_out b z a op r p (λ f. both_ways _ h (f.gone.unused x)) (p.counted.used_out x r h)

pub held_or_fresh : (d : Agent) (j : ℕ) → (any_holds d.slots j || names d.fresh j) ≡ true → uses d j ≡ true
held_or_fresh d j h = grind arith

-- the place that may be read is a root, or a link word of a row that the agent uses
pub place_used : (b : Bounds) (n j : ℕ) (d : Agent) → may_place b (link_at n j) (λ r. any_holds d.slots r || names d.fresh r) ≡ true → uses d j ≡ true
place_used b zero j d h = held_or_fresh d j (and_both _ _ h).1
place_used b (suc k) j d h = held_or_fresh d j (and_both _ _ h).1

pub place_out : (b : Bounds) (p : Word) (t : ℕ → Bool) (m : Word → ℕ) → may_place b p t ≡ true → ((j : ℕ) → t j ≡ true → out (m (Gate j)) ≡ 1) → OutPlace m p
place_out b (Root i) t m h g = tt
place_out b (Next j) t m h g = g j (and_both _ _ h).1
place_out b (Side j) t m h g = g j (and_both _ _ h).1
place_out b p t m h g = absurd (false≢true h)

pub read_out : (b : Bounds) (z : World) (a : ℕ) (p : Word) → Counted b z
    → may_place b p (λ r. any_holds (z.seats a).slots r || names (z.seats a).fresh r) ≡ true → OutPlace z.memory p
read_out b z a p s h = place_out b p _ z.memory h (λ j k. s.used_out a j (held_or_fresh (z.seats a) j k))

pub target_out : (b : Bounds) (z : World) (p : Word) (r : ℕ) → Counted b z → OutPlace z.memory p → to_row (z.memory p) r ≡ 1 → out (z.memory (Gate r)) ≡ 1
target_out b z (Root i) r s o h = s.roots_out i r h
target_out b z (Next j) r s o h = s.links_out 0 j r o h
target_out b z (Side j) r s o h = s.links_out 1 j r o h
target_out b z p r s o h = absurd o

pub load_place : (b : Bounds) (e a : ℕ) (p : Word) (k : Option ℕ) (d : Agent) → fits b e a (LinkLoad p k) d ≡ true
    → may_place b p (λ r. any_holds d.slots r || names d.fresh r) ≡ true
load_place b e a p None d h = h
load_place b e a p (Some k) d h = (and_both _ _ (and_both _ _ h).0).0

-- the row whose link is stored is fresh, or doomed with its link in
pub store_cases : (b : Bounds) (e a q nr : ℕ) (l : RowLink) (d : Agent) → fits b e a (LinkStore q l nr) d ≡ true → (names d.fresh q ≡ true)
    ⊎ (doom_at d.doom q nr ≡ true)
store_cases b e a q nr l d f = grind arith

pub store_row_out : (b : Bounds) (z : World) (a q nr : ℕ) (l : RowLink) → LawfulStep b z a (LinkStore q l nr) → out (z.memory (Gate q)) ≡ 1
store_row_out b z a q nr l p =
    ⊎_elim
    (λ f. p.counted.used_out a q (fresh_uses (z.seats a) q f))
    (λ c. (p.doomed.gone a q (uncut_dooms _ q nr c)).is_out)
    (store_cases b (z.memory Enrolled) a q nr l (z.seats a) p.fits)

pub takes_free : (op : Op) (d : Agent) (m : Word → ℕ) (a r : ℕ) → takes op d (m (action_of a op d).word) r ≡ true → out (m (Gate r)) ≡ 0
takes_free (GateTake q) d m a r h = grind arith
takes_free op d m a r h = absurd (false≢true h)

pub taken_out : (op : Op) (d : Agent) (m : Word → ℕ) (a r : ℕ) → takes op d (m (action_of a op d).word) r ≡ true
    → out (write m (action_of a op d).word (word_after (action_of a op d).operation (m (action_of a op d).word)) (Gate r)) ≡ 1
taken_out (GateTake q) d m a r h = grind arith
taken_out op d m a r h = absurd (false≢true h)

pub arm_retired : (b : Bounds) (z : World) (a q : ℕ) → LawfulStep b z a (Arm q) → scans (z.seats a).scan q ≡ true → retired_bit (z.memory (Counter q)) ≡ 1
arm_retired b z a q p h = retired_one b z a q p.counted p.agent (ltb-true _ _ (and_both _ _ (and_both _ _ p.fits).0).0) (scan_places (z.seats a) q h)

new_use_out : (b : Bounds) (z : World) (a : ℕ) (op : Op) (r : ℕ) → LawfulStep b z a op → NewUse op (z.seats a) (read_by z a op) r
    → out ((step_world z a op).memory (Gate r)) ≡ 1
new_use_out b z a (LinkLoad w k) r p h =
    out_stays z.memory b (z.memory Enrolled) a (LinkLoad w k) (z.seats a) r p.fits refl
    (target_out b z w r p.counted (read_out b z a w p.counted (load_place b (z.memory Enrolled) a w k (z.seats a) p.fits)) h)
new_use_out b z a (LinkStore q l zero) r p h = p.counted.links_out 0 q r (store_row_out b z a q 0 l p) h
new_use_out b z a (LinkStore q l (suc k)) r p h = p.counted.links_out (suc k) q r (store_row_out b z a q (suc k) l p) h
new_use_out b z a (Arm q) r p h = rw h.0 (p.counted.bit_out q (arm_retired b z a q p h.1))
new_use_out b z a (GateTake q) r p h = taken_out (GateTake q) (z.seats a) z.memory a r h
new_use_out b z a op r p h = absurd h

pub uses_before : (b : Bounds) (z : World) (a : ℕ) (op : Op) (r : ℕ) → LawfulStep b z a op → uses (record_by z a op) r ≡ true → (uses (z.seats a) r ≡ true) ⊎ NewUse op (z.seats a) (read_by z a op) r
uses_before b z a op r p h = use_source b (z.memory Enrolled) a op (z.seats a) (read_by z a op) r p.fits (p.counted.one_part a) (p.counted.inc_held a r) h

pub used_out_step : (b : Bounds) (z : World) (a : ℕ) (op : Op) → LawfulStep b z a op → (x r : ℕ) → uses ((step_world z a op).seats x) r ≡ true → out ((step_world z a op).memory (Gate r)) ≡ 1
used_out_step b z a op p x r h =
    ⊎_elim
    (λ s. ⊎_elim (λ old. used_stays b z a op a r p old) (λ new. new_use_out b z a op r p new) (uses_before b z a op r p s.1))
    (λ s. used_stays b z a op x r p s.1)
    (seat_split (λ d. uses d r ≡ true) z.seats a x _ h)

raises_used : (b : Bounds) (e a : ℕ) (op : Op) (d : Agent) (v r : ℕ) → fits b e a op d ≡ true → raises op v r ≡ true → uses d r ≡ true
raises_used b e a (SetRetired q n) d v r f h = grind (arith, due_uses d q, fresh_uses d q)
raises_used b e a op d v r f h = absurd (false≢true h)

-- who sets a bit uses the row
pub raiser_uses : (b : Bounds) (z : World) (a : ℕ) (op : Op) (r : ℕ) → LawfulStep b z a op → raises op (read_by z a op) r ≡ true → uses (z.seats a) r ≡ true
raiser_uses b z a op r p h = raises_used b (z.memory Enrolled) a op (z.seats a) (read_by z a op) r p.fits h

pub zero_one : {n : ℕ} → n ≡ 0 → n ≡ 1 → ⊥
zero_one h k = omega arith

pub bit_out_step : (b : Bounds) (z : World) (a : ℕ) (op : Op) → LawfulStep b z a op → (r : ℕ)
    → retired_bit ((step_world z a op).memory (Counter r)) ≡ 1 → out ((step_world z a op).memory (Gate r)) ≡ 1
bit_out_step b z a op p r h =
    ⊎_elim
    (λ old. stays_out b z a op r p (λ f. zero_one f.clear old) (p.counted.bit_out r old))
    (λ new. used_stays b z a op a r p (raiser_uses b z a op r p new))
    (bit_before b z a op r p h)

pub puts_links : (op : Op) (w : Word) (r : ℕ) → puts op w r ≡ true → links op r ≡ true
puts_links (LinkCas p x t) w r h = (and_both _ _ h).1
puts_links (LinkStore q l nr) w r h = (and_both _ _ h).1
puts_links op w r h = absurd (false≢true h)

-- who makes a link to a row uses it
pub putter_uses : (b : Bounds) (z : World) (a : ℕ) (op : Op) (w : Word) (r : ℕ) → LawfulStep b z a op → puts op w r ≡ true → uses (z.seats a) r ≡ true
putter_uses b z a op w r p h = held_uses (z.seats a) r (links_held b (z.memory Enrolled) a op (z.seats a) r p.fits (puts_links op w r h))

pub null_row : (w r : ℕ) → w ≡ 0 → to_row w r ≡ 0
null_row w r h = grind arith

-- a link within the shape is one of those that are counted
pub linked_root : (b : Bounds) (z : World) (i r : ℕ) → Counted b z → to_row (z.memory (Root i)) r ≡ 1 → 0 < linked_in b z.memory r
linked_root b z i r s h = cases (nat_lt i b.roots) refl
  where
    cases : (t : Bool) → nat_lt i b.roots ≡ t → 0 < linked_in b z.memory r
    cases true e = let m = sum_member b.roots i (λ j. to_row (z.memory (Root j)) r) (ltb-true i b.roots e) in omega arith
    cases false e = absurd (zero_one (null_row _ r (s.outside (Root i) e)) h)

pub linked_link : (b : Bounds) (z : World) (n j r : ℕ) → Counted b z → out (z.memory (Gate j)) ≡ 1 → to_row (z.memory (link_at n j)) r ≡ 1 → 0 < linked_in b z.memory r
linked_link b z zero j r s o h = cases (nat_lt j b.rows) refl
  where
    cases : (t : Bool) → nat_lt j b.rows ≡ t → 0 < linked_in b z.memory r
    cases true e = let m = sum_member b.rows j (λ i. out (z.memory (Gate i)) * to_row (z.memory (Next i)) r) (ltb-true j b.rows e) in
        let f : out (z.memory (Gate j)) * to_row (z.memory (Next j)) r ≡ 1 = rw (o, h) in omega arith
    cases false e = absurd (zero_one (null_row _ r (s.outside (Next j) e)) h)
linked_link b z (suc k) j r s o h = cases (nat_lt j b.rows) refl
  where
    cases : (t : Bool) → nat_lt j b.rows ≡ t → 0 < linked_in b z.memory r
    cases true e = let m = sum_member b.rows j (λ i. out (z.memory (Gate i)) * to_row (z.memory (Side i)) r) (ltb-true j b.rows e) in
        let f : out (z.memory (Gate j)) * to_row (z.memory (Side j)) r ≡ 1 = rw (o, h) in omega arith
    cases false e = absurd (zero_one (null_row _ r (s.outside (Side j) (rw e))) h)

pub none_linked : {n : ℕ} → n ≡ 0 → 0 < n → ⊥
none_linked h k = omega arith

pub roots_out_step : (b : Bounds) (z : World) (a : ℕ) (op : Op) → LawfulStep b z a op → (i r : ℕ) → to_row ((step_world z a op).memory (Root i)) r ≡ 1
    → out ((step_world z a op).memory (Gate r)) ≡ 1
roots_out_step b z a op p i r h =
    ⊎_elim
    (λ old. stays_out b z a op r p (λ f. none_linked f.gone.unlinked (linked_root b z i r p.counted old)) (p.counted.roots_out i r old))
    (λ new. used_stays b z a op a r p (putter_uses b z a op (Root i) r p new))
    (root_source b (z.memory Enrolled) a op (z.seats a) z.memory i r p.fits h)

taken_null : (b : Bounds) (z : World) (a : ℕ) (op : Op) (n j : ℕ) → Counted b z → takes op (z.seats a) (read_by z a op) j ≡ true → z.memory (link_at n j) ≡ 0
taken_null b z a op n j s h = s.free_null n j (takes_free op (z.seats a) z.memory a j h)

-- a gate that is out was out, or was taken
gate_before : (b : Bounds) (z : World) (a : ℕ) (op : Op) (j : ℕ) → LawfulStep b z a op → out ((step_world z a op).memory (Gate j)) ≡ 1
    → (out (z.memory (Gate j)) ≡ 1) ⊎ (takes op (z.seats a) (read_by z a op) j ≡ true)
gate_before b z a op j p h = cases (frees op j) refl
  where
    cases : (t : Bool) → frees op j ≡ t → (out (z.memory (Gate j)) ≡ 1) ⊎ (takes op (z.seats a) (read_by z a op) j ≡ true)
    cases true e = inl (freed b z a op j p e).gone.is_out
    cases false e = gate_source b (z.memory Enrolled) a op (z.seats a) z.memory j p.fits e h

pub links_out_step : (b : Bounds) (z : World) (a : ℕ) (op : Op) → LawfulStep b z a op → (n j r : ℕ) → out ((step_world z a op).memory (Gate j)) ≡ 1
    → to_row ((step_world z a op).memory (link_at n j)) r ≡ 1 → out ((step_world z a op).memory (Gate r)) ≡ 1
links_out_step b z a op p n j r o h =
    ⊎_elim
    (λ old. ⊎_elim
    (λ was. stays_out b z a op r p (λ f. none_linked f.gone.unlinked (linked_link b z n j r p.counted was old)) (p.counted.links_out n j r was old))
    (λ got. absurd (zero_one (null_row _ r (taken_null b z a op n j p.counted got)) old))
    (gate_before b z a op j p o))
    (λ new. used_stays b z a op a r p (putter_uses b z a op (link_at n j) r p new))
    (links_source b (z.memory Enrolled) a op (z.seats a) z.memory n j r p.fits h)

pub cas_place : (b : Bounds) (e a : ℕ) (p : Word) (x t : RowLink) (d : Agent) → fits b e a (LinkCas p x t) d ≡ true
    → may_place b p (λ r. any_holds d.slots r && not (names d.fresh r)) ≡ true
cas_place b e a p x t d f = (and_both _ _ (and_both _ _ (and_both _ _ (and_both _ _ f).0).0).0).0

pub cas_place_out : (b : Bounds) (z : World) (a : ℕ) (p : Word) (x t : RowLink) → LawfulStep b z a (LinkCas p x t) → OutPlace z.memory p
cas_place_out b z a p x t s =
    place_out b p _ z.memory (cas_place b (z.memory Enrolled) a p x t (z.seats a) s.fits)
    (λ j h. s.counted.used_out a j (held_uses (z.seats a) j (and_both _ _ h).0))

link_row_out : (m : Word → ℕ) (n j : ℕ) → OutPlace m (link_at n j) → out (m (Gate j)) ≡ 1
link_row_out m zero j h = h
link_row_out m (suc k) j h = h

changed_out : (b : Bounds) (z : World) (a : ℕ) (op : Op) (n j : ℕ) → LawfulStep b z a op → changes_link op (link_at n j) ≡ true
    → (frees op j ≡ false) × (out (z.memory (Gate j)) ≡ 1)
changed_out b z a (LinkCas w x t) n j p h =
    (refl, link_row_out z.memory n j (subst (OutPlace z.memory) (sym (same_word-true (link_at n j) w h)) (cas_place_out b z a w x t p)))
changed_out b z a (LinkStore q l nr) n j p h = (refl, rw (same_link n j nr q h) (store_row_out b z a q nr l p))
changed_out b z a op n j p h = absurd (false≢true h)

bit_zero : (w x : ℕ) → (out w ≡ 1 → out x ≡ 1) → out x ≡ 0 → out w ≡ 0
bit_zero w x g h = grind arith

pub free_null_step : (b : Bounds) (z : World) (a : ℕ) (op : Op) → LawfulStep b z a op → (n j : ℕ) → out ((step_world z a op).memory (Gate j)) ≡ 0
    → (step_world z a op).memory (link_at n j) ≡ 0
free_null_step b z a op p n j h = cases (changes_link op (link_at n j)) (frees op j) refl refl
  where
    cases : (t u : Bool) → changes_link op (link_at n j) ≡ t → frees op j ≡ u → (step_world z a op).memory (link_at n j) ≡ 0
    cases true u t e = let c = changed_out b z a op n j p t in absurd (zero_one h (out_stays z.memory b (z.memory Enrolled) a op (z.seats a) j p.fits c.0 c.1))
    cases false true t e = rw (links_stay b (z.memory Enrolled) a op (z.seats a) z.memory n j p.fits t) ((freed b z a op j p e).null n)
    cases false false t e =
        rw (links_stay b (z.memory Enrolled) a op (z.seats a) z.memory n j p.fits t)
        (p.counted.free_null n j
        (bit_zero (z.memory (Gate j)) ((step_world z a op).memory (Gate j)) (out_stays z.memory b (z.memory Enrolled) a op (z.seats a) j p.fits e) h))
