-- What the order of pending changes says of each kind.
use Rattle.std.proofs.Common.{arith, false, inl, inr, refl, true, ℕ, ◌≡◌, ◌⊎◌}
use Rattle.std.proofs.lemmas.Bool.{false≢true}
use Rattle.std.specs.Prelude.{None, Option, Some}
use Rattle.orc_core.proofs.Order.{nothing_pending}
use Rattle.orc_core.specs.After.{after}
use Rattle.orc_core.specs.Allowed.{forced, in_order}
use Rattle.orc_core.specs.RecordParts.{is_due, names, saw}
use Rattle.orc_core.specs.declared.ops.Op.{Op}
use Rattle.orc_core.specs.declared.ops.Op.TheVariants.{Arm, Dec, Inc, LinkCas, LinkStore, SetRetired, Unretire, DecHeld}
use Rattle.orc_core.specs.declared.records.Agent.{Agent}
use Rattle.orc_core.specs.declared.records.Reading.{Reading}

-- an increment is made where no row is due
pub inc_waits : (due : Option Reading) (inc dec : Option ℕ) (q : ℕ) → in_order due inc dec (Inc q) ≡ true → due ≡ None
inc_waits None inc dec q h = refl
inc_waits (Some s) inc dec q h = absurd (false≢true h)

-- a decrement, and its arming, wait for the increment too
pub dec_waits : (due : Option Reading) (inc dec : Option ℕ) (q : ℕ) → in_order due inc dec (Dec q) ≡ true → (due ≡ None) × (inc ≡ None)
dec_waits None None dec q h = (refl, refl)
dec_waits None (Some r) dec q h = absurd (false≢true h)
dec_waits (Some s) inc dec q h = absurd (false≢true h)

pub dec_held_waits : (due : Option Reading) (inc dec : Option ℕ) (q : ℕ) → in_order due inc dec (DecHeld q) ≡ true → (due ≡ None) × (inc ≡ None)
dec_held_waits None None dec q h = (refl, refl)
dec_held_waits None (Some r) dec q h = absurd (false≢true h)
dec_held_waits (Some s) inc dec q h = absurd (false≢true h)

pub arm_waits : (due : Option Reading) (inc dec : Option ℕ) (q : ℕ) → in_order due inc dec (Arm q) ≡ true → (due ≡ None) × (inc ≡ None)
arm_waits None None dec q h = (refl, refl)
arm_waits None (Some r) dec q h = absurd (false≢true h)
arm_waits (Some s) inc dec q h = absurd (false≢true h)

-- a bit is tried for the due row, or with nothing pending
pub try_waits : (due : Option Reading) (inc dec : Option ℕ) (q n : ℕ) → in_order due inc dec (SetRetired q n) ≡ true → (is_due due q n ≡ true)
    ⊎ ((due ≡ None) × (inc ≡ None) × (dec ≡ None))
try_waits (Some s) inc dec q n h = inl (grind arith)
try_waits None (Some r) dec q n h = absurd (false≢true h)
try_waits None None (Some r) q n h = absurd (false≢true h)
try_waits None None None q n h = inr (refl, refl, refl)

pub no_name : (o : Option ℕ) (r : ℕ) → o ≡ None → names o r ≡ true → ⊥
no_name None r h k = false≢true k
no_name (Some x) r h k = cc

pub not_seen : (o : Option Reading) (r : ℕ) → o ≡ None → saw o r ≡ true → ⊥
not_seen None r h k = false≢true k
not_seen (Some x) r h k = cc

-- an agent with a pending increment keeps its slots
pub inc_slots : (op : Op) (d : Agent) (v r : ℕ) → forced d op ≡ true → names d.inc r ≡ true → (after op d v).slots ≡ d.slots
inc_slots (SetRetired q n) d v r o h = refl
inc_slots (Inc q) d v r o h = refl
inc_slots (Dec q) d v r o h = refl
inc_slots (DecHeld q) d v r o h = refl
inc_slots (Arm q) d v r o h = absurd (no_name d.inc r (arm_waits d.due d.inc d.dec q o).1 h)
inc_slots op d v r o h = absurd (no_name d.inc r (nothing_pending d.due d.inc d.dec op refl o).1 h)

-- an agent with a due row can only try its bit
pub due_ends : (op : Op) (d : Agent) (v r : ℕ) → forced d op ≡ true → saw d.due r ≡ true → saw (after op d v).due r ≡ false
due_ends (SetRetired q n) d v r o h = refl
due_ends (Inc q) d v r o h = absurd (not_seen d.due r (inc_waits d.due d.inc d.dec q o) h)
due_ends (Dec q) d v r o h = absurd (not_seen d.due r (dec_waits d.due d.inc d.dec q o).0 h)
due_ends (DecHeld q) d v r o h = absurd (not_seen d.due r (dec_held_waits d.due d.inc d.dec q o).0 h)
due_ends (Arm q) d v r o h = absurd (not_seen d.due r (arm_waits d.due d.inc d.dec q o).0 h)
due_ends op d v r o h = absurd (not_seen d.due r (nothing_pending d.due d.inc d.dec op refl o).0 h)

-- an agent with a due row has no increment pending
abbrev pub OneChange : Agent → Type 0
OneChange d = (d.due ≡ None) ⊎ (d.inc ≡ None)

pub one_change : (op : Op) (d : Agent) (v : ℕ) → forced d op ≡ true → OneChange d → OneChange (after op d v)
one_change (Inc q) d v f o = inr refl
one_change (Dec q) d v f o = inr (dec_waits d.due d.inc d.dec q f).1
one_change (DecHeld q) d v f o = inr (dec_held_waits d.due d.inc d.dec q f).1
one_change (Unretire q) d v f o = inr (nothing_pending d.due d.inc d.dec (Unretire q) refl f).1
one_change (SetRetired q n) d v f o = inl refl
one_change (LinkCas w x t) d v f o = inl (nothing_pending d.due d.inc d.dec (LinkCas w x t) refl f).0
one_change (LinkStore q l nr) d v f o = inl (nothing_pending d.due d.inc d.dec (LinkStore q l nr) refl f).0
one_change op d v f o = o
