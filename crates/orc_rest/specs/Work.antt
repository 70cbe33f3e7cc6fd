-- The work that is left to an agent that settles while no other agent steps.
use Rattle.std.specs.Prelude.{None, Option, Some, cond, is_some, length, not, true, ℕ, ◌%◌, ◌&&◌, ◌*◌, ◌+◌, ◌-◌, ◌/◌, ◌==◌, ◌≡◌}
use Rattle.orc_words.specs.Bounds.{Bounds}
use Rattle.orc_words.specs.Packed.{bit}
use Rattle.orc_words.specs.declared.place.Word.{Word}
use Rattle.orc_words.specs.declared.place.Word.TheVariants.{Counter, Gate, Handover, Slot}
use Rattle.orc_core.specs.Machine.{Machine, record_at, word_in}
use Rattle.orc_core.specs.RecordParts.{doom_at, is_due, is_empty, scanned, slot_of}
use Rattle.orc_core.specs.Sums.{sum_below}
use Rattle.orc_core.specs.declared.ops.CounterUse.TheVariants.{Check, End, Start}
use Rattle.orc_core.specs.declared.ops.Op.{Op}
use Rattle.orc_core.specs.declared.ops.Op.TheVariants.{Arm, Clear, CounterLoad, Dec, Free, Hand, LinkStore, SetRetired, SlotLook, TakeIn, Unretire}
use Rattle.orc_core.specs.declared.records.Agent.{Agent}
use Rattle.orc_core.specs.declared.records.Doom.{Doom}
use Rattle.orc_core.specs.declared.records.Scan.{Scan}

-- the rows that are out
abbrev pub rows_out : Bounds → (Word → ℕ) → ℕ
rows_out b m = sum_below b.rows (λ r. m (Gate r) % 2)

-- the retired rows that the agent has in its work list, its hand and its scan
abbrev pub entries : Agent → ℕ
entries d = length d.list.items + bit (is_some d.hand) + bit (is_some d.scan)

-- a handover word that has a row
abbrev pub is_full : ℕ → ℕ
is_full w = bit (not (w == 0))

-- a slot word that names a row which the handover word beside it doesn't name
abbrev pub is_open : ℕ → ℕ → ℕ
is_open v w = bit (not (v == 0) && not (w == v))

-- at slot j of agent x; slot 0 of the agent that settles is left out
abbrev pub open_at : (Word → ℕ) → ℕ → ℕ → ℕ → ℕ
open_at m a x j = cond ((x == a) && (j == 0)) 0 (is_open (m (Slot x j)) (m (Handover x j)))

abbrev pub slots_open : Bounds → (Word → ℕ) → ℕ → ℕ
slots_open b m a = sum_below b.agents (λ x. sum_below 8 (λ j. open_at m a x j))

-- the scan's kept word isn't the present one
abbrev pub staleness : (Word → ℕ) → Option Scan → ℕ
staleness m None = 0
staleness m (Some s) = cond (m (Counter s.row) == s.word) 0 2

-- a doom is worth one less for each link that is out
abbrev pub uncut : Option Doom → ℕ
uncut None = 3
uncut (Some d) = 1 + (2 - d.cuts)

abbrev pub work_of : Bounds → (Word → ℕ) → ℕ → Agent → ℕ
work_of b m a d =
    3 * rows_out b m + entries d + is_full (m (Handover a 0)) + slots_open b m a
    + staleness m d.scan + bit (is_some d.dec) + bit (is_some d.due) + uncut d.doom

abbrev pub work_left : Machine → ℕ → ℕ
work_left m a = work_of m.bounds (word_in m) a (record_at m a)

-- what each kind of step that settles needs besides what allows it: at a Hand nobody stepped since the row was found
abbrev pub IsSettlingStep : (Word → ℕ) → Op → Agent → Type 0
IsSettlingStep m (CounterLoad q Start) d = Unit {0}
IsSettlingStep m (CounterLoad q End) d = Unit {0}
IsSettlingStep m (CounterLoad q Check) d = ⊥
IsSettlingStep m (SlotLook k) d = Unit {0}
IsSettlingStep m (Hand k) d = ((j : ℕ) → is_empty (slot_of d j) ≡ true) × (m (Slot (k / 8) (k % 8)) ≡ scanned d.scan + 1)
IsSettlingStep m (LinkStore r l n) d = (doom_at d.doom r n ≡ true) × (l.to ≡ None)
IsSettlingStep m (Arm r) d = Unit {0}
IsSettlingStep m (Dec r) d = d.scan ≡ None
IsSettlingStep m (SetRetired r q) d = (d.scan ≡ None) × (is_due d.due r q ≡ true)
IsSettlingStep m (Unretire r) d = Unit {0}
IsSettlingStep m (Free r) d = Unit {0}
IsSettlingStep m (Clear k) d = Unit {0}
IsSettlingStep m (TakeIn k) d = k ≡ 0
IsSettlingStep m op d = ⊥

-- how far the step lowers the work at least
abbrev pub drop_of : Op → Agent → ℕ
drop_of (CounterLoad q Start) d = 0
drop_of (CounterLoad q End) d = 1
drop_of (CounterLoad q Check) d = 0
drop_of (Hand k) d = 1
drop_of (Free r) d = 1
drop_of (Unretire r) d = bit (is_some d.scan)
drop_of op d = 0
