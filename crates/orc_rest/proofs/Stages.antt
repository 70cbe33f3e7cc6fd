-- The steps of settling, one after another, by the record alone.
use Rattle.std.proofs.Common.{Bool, List, [], ap, arith, cond, false, get_or-set_other, get_or-set_same, length, refl, subst, sym, true, ℕ, ◌%◌, ◌++◌}
use Rattle.std.proofs.Common.{◌+◌, ◌/◌, ◌<◌, ◌∙◌, ◌∷◌, ◌≡◌}
use Rattle.std.proofs.lemmas.Bool.{eq-eqb, lt-ltb}
use Rattle.std.proofs.lemmas.List.{length-set}
use Rattle.std.specs.Prelude.{None, Option, Some, slice_index_or, slice_set}
use Rattle.orc_core.proofs.Steps.{every_run_whole, its_word, run-append}
use Rattle.orc_core.specs.After.{after}
use Rattle.orc_core.specs.Allowed.{fits, forced, stands}
use Rattle.orc_core.specs.Machine.{IsWhole, Machine, is_allowed, new_machine, nobody, record_at, step, word_in, word_read}
use Rattle.orc_core.specs.RecordParts.{holds_fresh, is_empty, names, scans, slot_of}
use Rattle.orc_core.specs.Runs.{IsLawful, run}
use Rattle.orc_core.specs.declared.ops.Op.{Op}
use Rattle.orc_core.specs.declared.ops.Op.TheVariants.{Clear, SetRetired, SlotLook, TakeIn}
use Rattle.orc_core.specs.declared.records.Agent.{Agent}
use Rattle.orc_core.specs.declared.records.Reading.{Reading}
use Rattle.orc_core.specs.declared.records.SlotUse.{SlotUse}
use Rattle.orc_core.specs.declared.records.SlotUse.TheVariants.{Empty}
use Rattle.orc_rest.proofs.Turns.{lawful_left, made_turn, no_turn, reached_on, turn_join}
use Rattle.orc_rest.specs.Records.{DueFits, IsSettling, IsStill, SameTasks}
use Rattle.orc_rest.specs.Rounds.{AfterStep, LookedAt, Went}
use Rattle.orc_rest.specs.Turns.{IsReachedState, MadeAfterOthers, NoneOf}
use Rattle.orc_rest.specs.Work.{IsSettlingStep, drop_of}
use Rattle.orc_sound.proofs.AllFits.{run_bounds, run_fits}
use Rattle.orc_sound.proofs.DoomedStep.{out_below}
use Rattle.orc_sound.proofs.Uses.{dec_uses}
use Rattle.orc_sound.proofs.World.{world_of}
use Rattle.orc_words.specs.Bounds.{Bounds}
use Rattle.orc_words.specs.declared.place.Word.TheVariants.{Enrolled, Slot}

pub whole : (m : Machine) → IsReachedState m → IsWhole m
whole m r = subst IsWhole (sym r.is) (every_run_whole r.bounds r.steps r.shape)

pub others_keep : (m : Machine) (a : ℕ) (xs : List (ℕ × Op)) → NoneOf a xs → record_at (run m xs) a ≡ record_at m a
others_keep m a [] n = refl
others_keep m a (x ∷ xs) n = others_keep (step m x.0 x.1) a xs n.1 ∙ kept
  where
    kept : slice_index_or (slice_set m.agents x.0 (after x.1 (record_at m x.0) (word_read m x.0 x.1))) a (nobody m.bounds.rows) ≡ slice_index_or m.agents a
        (nobody m.bounds.rows)
    kept = get_or-set_other m.agents x.0 a (after x.1 (record_at m x.0) (word_read m x.0 x.1)) (nobody m.bounds.rows) (λ e. n.0 (sym e))

pub made_record : (m n : Machine) (a : ℕ) (op : Op) → IsReachedState m → a < m.bounds.agents → MadeAfterOthers a op m n → AfterStep a op m n
made_record m n a op r h k =
    let mid = run m k.others in
    let reached = reached_on m mid k.others r (lawful_left m k.others ((a, op) ∷ []) k.lawful) refl in
    let w = whole mid reached in
    let b : mid.bounds ≡ m.bounds = run_bounds m k.others in
    let l : a < length mid.agents = rw w.agents (subst (λ (c : Bounds). a < c.agents) (sym b) h) in
    let kept = others_keep m a k.others k.apart in
    record {
      word = word_read mid a op;
      is = ap (λ x. record_at x a) (k.is ∙ run-append m k.others ((a, op) ∷ []))
          ∙ (get_or-set_same mid.agents a (after op (record_at mid a) (word_read mid a op)) (nobody mid.bounds.rows) l
          ∙ ap (λ d. after op d (word_read mid a op)) kept);
    }

abbrev pub made_went : (m n : Machine) (a : ℕ) (op : Op) → IsReachedState m → is_allowed m a op ≡ true → IsSettlingStep (word_in m) op (record_at m a)
    → MadeAfterOthers a op m n → Went a (drop_of op (record_at m a)) m n
made_went m n a op r h s k = record {
  turn = made_turn m n a op r h s k;
  reached = reached_on m n (k.others ++ (a, op) ∷ []) r k.lawful k.is;
  bounds = ap (λ (x : Machine). x.bounds) k.is ∙ run_bounds m (k.others ++ (a, op) ∷ []);
}

abbrev pub went_join : (a x y : ℕ) (m n k : Machine) → Went a x m n → Went a y n k → Went a (x + y) m k
went_join a x y m n k t u = record { turn = turn_join a x y m n k t.turn u.turn; reached = u.reached; bounds = u.bounds ∙ t.bounds }

pub allowed : (m : Machine) (a : ℕ) (op : Op) → a < m.bounds.agents → stands op (record_at m a) ≡ true → forced (record_at m a) op ≡ true
    → fits m.bounds (word_in m Enrolled) a op (record_at m a) ≡ true → is_allowed m a op ≡ true
allowed m a op h s f t = rw (lt-ltb a m.bounds.agents h, s, f, t) refl

-- slot 0 is cleared
not_held_fresh : (d : Agent) (s : SlotUse) → d.fresh ≡ None → holds_fresh d.fresh s ≡ false
not_held_fresh d s e = rw e refl

pub clear_allowed : (m : Machine) (a : ℕ) → a < m.bounds.agents → IsSettling (record_at m a) → is_empty (slot_of (record_at m a) 0) ≡ false
    → (record_at m a).dec ≡ None → (record_at m a).due ≡ None → is_allowed m a (Clear 0) ≡ true
clear_allowed m a h c u d e = allowed m a (Clear 0) h c.enrolled (rw (e, c.inc, d) refl)
    (rw (u, not_held_fresh (record_at m a) (slot_of (record_at m a) 0) c.fresh) refl)

calm_set : (d : Agent) (s : SlotUse) → IsSettling d → IsSettling (record d { slots = slice_set d.slots 0 s })
calm_set d s c = record {
  enrolled = c.enrolled;
  slots = λ k p. get_or-set_other d.slots 0 k s Empty (λ e. omega arith) ∙ c.slots k p;
  eight = length-set d.slots 0 s ∙ c.eight;
  fresh = c.fresh;
  inc = c.inc;
}

-- what a step of the agent leaves: where it went, and what its record is then
pub record Left (a drop : ℕ) (m n : Machine) (P : Agent → Type 0) : Type 0 where
  pub went : Went a drop m n
  pub so : P (record_at n a)

pub left_by : (a drop : ℕ) (m n : Machine) (P : Agent → Type 0) → Went a drop m n → (op : Op) → (k : AfterStep a op m n)
    → P (after op (record_at m a) k.word) → Left a drop m n P
left_by a drop m n P w op k p = record { went = w; so = subst P (sym k.is) p }

pub record StillKept (d e : Agent) : Type 0 where
  pub still : IsStill e
  pub kept : SameTasks d e

pub clear_made : (m n : Machine) (a : ℕ) → IsReachedState m → a < m.bounds.agents → IsSettling (record_at m a)
    → is_empty (slot_of (record_at m a) 0) ≡ false → (record_at m a).dec ≡ None → (record_at m a).due ≡ None → MadeAfterOthers a (Clear 0) m n
    → Left a 0 m n (StillKept (record_at m a))
clear_made m n a r h c u d e k =
    let go = clear_allowed m a h c u d e in
    let l : 0 < length (record_at m a).slots = rw c.eight (omega arith) in
    left_by a 0 m n (StillKept (record_at m a)) (made_went m n a (Clear 0) r go tt k) (Clear 0) (made_record m n a (Clear 0) r h k)
    (record {
      still = record { calm = calm_set (record_at m a) Empty c; zero = get_or-set_same (record_at m a).slots 0 Empty Empty l; dec = d; due = e };
      kept = record { hand = refl; scan = refl; doom = refl };
    })

pub take_allowed : (m : Machine) (a : ℕ) → a < m.bounds.agents → IsStill (record_at m a) → is_allowed m a (TakeIn 0) ≡ true
take_allowed m a h s = allowed m a (TakeIn 0) h s.calm.enrolled (rw (s.due, s.calm.inc, s.dec) refl) (rw s.zero refl)

pub take_made : (m n : Machine) (a : ℕ) → IsReachedState m → a < m.bounds.agents → IsStill (record_at m a) → MadeAfterOthers a (TakeIn 0) m n
    → Left a 0 m n (StillKept (record_at m a))
take_made m n a r h s k =
    left_by a 0 m n (StillKept (record_at m a)) (made_went m n a (TakeIn 0) r (take_allowed m a h s) refl k) (TakeIn 0) (made_record m n a (TakeIn 0) r h k)
    (record {
      still = record {
        calm = record { enrolled = s.calm.enrolled; slots = s.calm.slots; eight = s.calm.eight; fresh = s.calm.fresh; inc = s.calm.inc };
        zero = s.zero;
        dec = s.dec;
        due = s.due;
      };
      kept = record { hand = refl; scan = refl; doom = refl };
    })

-- one step: it is allowed, and what it leaves
abbrev pub Steps : ℕ → ℕ → Op → Machine → (Agent → Type 0) → Type 0
Steps a drop op m P = (is_allowed m a op ≡ true) × ((n : Machine) → IsReachedState m → MadeAfterOthers a op m n → Left a drop m n P)

steps : (a : ℕ) (op : Op) (m : Machine) (P : Agent → Type 0) → a < m.bounds.agents → stands op (record_at m a) ≡ true → forced (record_at m a) op ≡ true
    → fits m.bounds (word_in m Enrolled) a op (record_at m a) ≡ true → IsSettlingStep (word_in m) op (record_at m a)
    → ((w : ℕ) → P (after op (record_at m a) w)) → Steps a (drop_of op (record_at m a)) op m P
steps a op m P h s f t g p =
    let go = allowed m a op h s f t in
    (go, λ n r k. let w = made_record m n a op r h k in left_by a (drop_of op (record_at m a)) m n P (made_went m n a op r go g k) op w (p w.word))

pub first_cleared : (m : Machine) (a : ℕ) → a < m.bounds.agents → IsSettling (record_at m a) → is_empty (slot_of (record_at m a) 0) ≡ false
    → (record_at m a).dec ≡ None → (record_at m a).due ≡ None → Steps a 0 (Clear 0) m (StillKept (record_at m a))
first_cleared m a h c u d e = (clear_allowed m a h c u d e, λ n r k. clear_made m n a r h c u d e k)

pub kept_join : (d e f : Agent) → SameTasks d e → StillKept e f → StillKept d f
kept_join d e f k s = record { still = s.still; kept = record { hand = s.kept.hand ∙ k.hand; scan = s.kept.scan ∙ k.scan; doom = s.kept.doom ∙ k.doom } }

-- the bit of a due row
due_fits : (m : Machine) (a : ℕ) → a < m.bounds.agents → IsSettling (record_at m a) → (record_at m a).dec ≡ None → (s : Reading)
    → (record_at m a).due ≡ Some s → DueFits m.bounds (record_at m a).due → is_allowed m a (SetRetired s.row s.number) ≡ true
due_fits m a h c d s e f =
    let g : DueFits m.bounds (Some s) = subst (DueFits m.bounds) e f in
    allowed m a (SetRetired s.row s.number) h c.enrolled (rw (e, eq-eqb s.row s.row refl, eq-eqb s.number s.number refl) refl)
    (rw (lt-ltb s.row m.bounds.rows g.0, lt-ltb s.number 1099511627776 g.1, e, eq-eqb s.row s.row refl, eq-eqb s.number s.number refl) refl)

pub due_allowed : (m : Machine) (a : ℕ) → a < m.bounds.agents → IsSettling (record_at m a) → (record_at m a).dec ≡ None → (s : Reading)
    → (record_at m a).due ≡ Some s → DueFits m.bounds (record_at m a).due → is_allowed m a (SetRetired s.row s.number) ≡ true
due_allowed m a h c d s e f = due_fits m a h c d s e f

no_fresh : (o : Option ℕ) (q : ℕ) (t : Bool) → o ≡ None → cond t (cond (names o q) None o) o ≡ None
no_fresh o q t e = rw e (nothing t)
  where
    nothing : (t : Bool) → (let x : Option ℕ = cond t None None in x) ≡ None
    nothing true = refl
    nothing false = refl

abbrev pub went_none : (a : ℕ) (m : Machine) → IsReachedState m → Went a 0 m m
went_none a m r = record { turn = no_turn a m; reached = r; bounds = refl }

-- what is read of a slot is what it shows
pub allowed_last : (m : Machine) (xs : List (ℕ × Op)) (a : ℕ) (op : Op) → IsLawful m (xs ++ (a, op) ∷ []) → is_allowed (run m xs) a op ≡ true
allowed_last m [] a op l = l.0
allowed_last m (x ∷ xs) a op l = allowed_last (step m x.0 x.1) xs a op l.1

pub made_look : (m n : Machine) (a k : ℕ) → IsReachedState m → a < m.bounds.agents → MadeAfterOthers a (SlotLook k) m n → LookedAt a k m n
made_look m n a k r h d =
    let mid = run m d.others in
    let reached = reached_on m mid d.others r (lawful_left m d.others ((a, SlotLook k) ∷ []) d.lawful) refl in
    let w = whole mid reached in
    let b : mid.bounds ≡ m.bounds = run_bounds m d.others in
    let l : a < length mid.agents = rw w.agents (subst (λ (c : Bounds). a < c.agents) (sym b) h) in
    let kept = others_keep m a d.others d.apart in
    let at : n ≡ step mid a (SlotLook k) = d.is ∙ run-append m d.others ((a, SlotLook k) ∷ []) in
    record {
      word = word_read mid a (SlotLook k);
      is = ap (λ x. record_at x a) at ∙ (get_or-set_same mid.agents a (after (SlotLook k) (record_at mid a) (word_read mid a (SlotLook k)))
          (nobody mid.bounds.rows) l ∙ ap (λ d. after (SlotLook k) d (word_read mid a (SlotLook k))) kept);
      shows = ap (λ x. word_in x (Slot (k / 8) (k % 8))) at ∙ its_word mid a (SlotLook k) w (allowed_last m d.others a (SlotLook k) d.lawful);
    }

-- rows that are scanned, and rows with a decrement pending, are the table's
pub scanned_row : (m : Machine) (a r : ℕ) → IsReachedState m → scans (record_at m a).scan r ≡ true → r < m.bounds.rows
scanned_row m a r k = subst (λ x. scans (record_at x a).scan r ≡ true → r < x.bounds.rows) (sym k.is)
    (((run_fits k.bounds k.steps k.shape k.lawful).scans a).row r)

pub dec_row : (m : Machine) (a r : ℕ) → IsReachedState m → (record_at m a).dec ≡ Some r → r < m.bounds.rows
dec_row m a r k e = subst (λ x. names (record_at x a).dec r ≡ true → r < x.bounds.rows) (sym k.is) below (named (record_at m a).dec e)
  where
    named : (o : Option ℕ) → o ≡ Some r → names o r ≡ true
    named None h = cc
    named (Some q) h = eq-eqb q r (cc)

    below : names (record_at (run (new_machine k.bounds) k.steps) a).dec r ≡ true → r < (run (new_machine k.bounds) k.steps).bounds.rows
    below h = let f = (run_fits k.bounds k.steps k.shape k.lawful).counted in out_below (run (new_machine k.bounds) k.steps).bounds
        (world_of (run (new_machine k.bounds) k.steps)) r f (f.used_out a r (dec_uses (record_at (run (new_machine k.bounds) k.steps) a) r h))
