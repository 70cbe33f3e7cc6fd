-- Where a step is allowed. But for Enroll, it is a fact about the agent's own record.
-- After OrcGC (Correia, Ramalhete and Felber 2021); the conditions are this project's own.
use Rattle.std.specs.Prelude.{ℕ, ◌*◌, Bool, true, false, not, ◌&&◌, ◌||◌, ◌==◌, nat_lt, Option, Some, None, is_none}
use Rattle.orc_words.specs.declared.place.Word.{Word}
use Rattle.orc_words.specs.declared.place.Word.TheVariants.{Root, Next, Side}
use Rattle.orc_words.specs.Bounds.{Bounds, link_limit}
use Rattle.orc_core.specs.declared.records.Agent.{Agent}
use Rattle.orc_core.specs.declared.records.Reading.{Reading}
use Rattle.orc_core.specs.declared.ops.CounterUse.TheVariants.{Check, Start, End}
use Rattle.orc_core.specs.declared.ops.Op.{Op}
use Rattle.orc_core.specs.declared.ops.Op.TheVariants.{Enroll, GateLook, GateTake, Fill, Read, LinkLoad, Publish, Clear, Arm, LinkCas, LinkStore, Inc, Dec, SetRetired, CounterLoad, Unretire, SlotLook, Hand, TakeIn, Free, MoveOn, HandoverLook, DecHeld}
use Rattle.orc_core.specs.Listed.{first_is}
use Rattle.orc_core.specs.RecordParts.{names, number_of, saw, checked_below, is_due, holds, is_empty, is_published, any_holds, holds_fresh, slot_of, scans, scan_empty, scan_found, scan_at, doom_at, doom_cut, doom_bare}

-- the step tries the bit of this row, at this sequence
abbrev pub tries_bit : Op → ℕ → ℕ → Bool
tries_bit (SetRetired q s) r sequence = (q == r) && (s == sequence)
tries_bit _ r sequence = false

-- the step makes the increment of this row
abbrev pub increments : Op → ℕ → Bool
increments (Inc q) r = q == r
increments _ r = false

-- the step arms this row, or makes its decrement
abbrev pub arms_or_decrements : Op → ℕ → Bool
arms_or_decrements (Arm q) r = q == r
arms_or_decrements (Dec q) r = q == r
arms_or_decrements (DecHeld q) r = q == r
arms_or_decrements _ r = false

-- the kinds that complete a pending change
abbrev pub completes : Op → Bool
completes (SetRetired q s) = true
completes (Inc q) = true
completes (Arm q) = true
completes (Dec q) = true
completes (DecHeld q) = true
completes _ = false

-- what must come first, by due, inc and dec: the try on a due row's bit, then the pending increment, then
-- the pending decrement
abbrev pub in_order : Option Reading → Option ℕ → Option ℕ → Op → Bool
in_order (Some s) inc dec op = tries_bit op s.row s.number
in_order None (Some r) dec op = increments op r
in_order None None (Some r) op = arms_or_decrements op r
in_order None None None op = true

-- what the agent has pending lets the step go
abbrev pub forced : Agent → Op → Bool
forced d op = in_order d.due d.inc d.dec op

-- a held row, or none
abbrev pub may_target : Bounds → Agent → Option ℕ → Bool
may_target b d None = true
may_target b d (Some r) = nat_lt r b.rows && any_holds d.slots r

-- a new target is checked with a sequence below n, unless it is the old one
abbrev pub may_change : Agent → ℕ → Option ℕ → Option ℕ → Bool
may_change d n from None = true
may_change d n from (Some r) = names from r || checked_below d.checked r n

-- a root, or a link word of a row that passes
abbrev pub may_place : Bounds → Word → (ℕ → Bool) → Bool
may_place b (Root i) p = nat_lt i b.roots
may_place b (Next r) p = nat_lt r b.rows && p r
may_place b (Side r) p = nat_lt r b.rows && nat_lt 1 b.links && p r
may_place b _ p = false

-- each kind's own condition. b: the bounds, e: the word of enrolments, a: the agent's number, d: its record
abbrev pub fits : Bounds → ℕ → ℕ → Op → Agent → Bool
fits b e a Enroll d = not d.enrolled && (e == a)
fits b e a (GateLook r) d = nat_lt r b.rows
fits b e a (GateTake r) d = nat_lt r b.rows && is_none d.fresh && saw d.looked r && nat_lt (number_of d.looked) b.limit && checked_below d.checked r b.limit
fits b e a (Fill r which v) d = nat_lt r b.rows && nat_lt which 2 && names d.fresh r
fits b e a (Read r which) d = nat_lt r b.rows && nat_lt which 2 && (any_holds d.slots r || names d.fresh r)
fits b e a (LinkLoad p None) d = may_place b p (λ r. any_holds d.slots r || names d.fresh r)
fits b e a (LinkLoad p (Some k)) d = may_place b p (λ r. any_holds d.slots r || names d.fresh r) && nat_lt k 8 && is_published (slot_of d k)
fits b e a (Publish k r) d = nat_lt 0 k && nat_lt k 8 && nat_lt r b.rows && is_empty (slot_of d k)
fits b e a (Clear k) d = nat_lt k 8 && not (is_empty (slot_of d k)) && not (holds_fresh d.fresh (slot_of d k))
fits b e a (Arm r) d = nat_lt r b.rows && is_empty (slot_of d 0) && (names d.dec r || (scans d.scan r && not (scan_empty d.scan)))
fits b e a (LinkCas p f t) d =
    may_place b p (λ r. any_holds d.slots r && not (names d.fresh r)) && is_empty (slot_of d 0) && may_target b d f.to && may_target b d t.to &&
    may_change d (link_limit b) f.to t.to
fits b e a (LinkStore r l n) d =
    nat_lt r b.rows && nat_lt n b.links && is_empty (slot_of d 0) &&
    ((names d.fresh r && may_target b d l.to && may_change d (link_limit b) None l.to) || (doom_at d.doom r n && is_none l.to && not l.mark))
fits b e a (Inc r) d = nat_lt r b.rows && names d.inc r
fits b e a (Dec r) d = nat_lt r b.rows && names d.dec r && holds (slot_of d 0) r
fits b e a (SetRetired r q) d = nat_lt r b.rows && nat_lt q 1099511627776 && (is_due d.due r q || names d.fresh r)
fits b e a (CounterLoad r Check) d = nat_lt r b.rows
fits b e a (CounterLoad r Start) d = nat_lt r b.rows && is_none d.scan && is_none d.doom && (names d.hand r || (is_none d.hand && first_is d.list.items r))
fits b e a (CounterLoad r End) d = nat_lt r b.rows && scans d.scan r && scan_empty d.scan && scan_at d.scan (8 * b.agents)
fits b e a (Unretire r) d = nat_lt r b.rows && ((scans d.scan r && not (scan_empty d.scan) && holds (slot_of d 0) r) || doom_cut b.links d.doom r)
fits b e a (SlotLook k) d = nat_lt k (8 * b.agents) && scan_empty d.scan && not (scan_found d.scan) && scan_at d.scan k
fits b e a (Hand k) d = nat_lt k (8 * b.agents) && scan_found d.scan && scan_at d.scan k
fits b e a (TakeIn k) d = nat_lt k 8 && is_empty (slot_of d k)
fits b e a (Free r) d = nat_lt r b.rows && doom_bare d.doom r
fits b e a (MoveOn k r) d = nat_lt 0 k && nat_lt k 8 && nat_lt r b.rows && not (is_empty (slot_of d k)) && not (holds_fresh d.fresh (slot_of d k))
fits b e a (HandoverLook k) d = nat_lt k 8 && is_empty (slot_of d k)
fits b e a (DecHeld r) d = nat_lt r b.rows && names d.dec r && any_holds d.slots r

-- every kind but Enroll needs an enrolled agent
abbrev pub stands : Op → Agent → Bool
stands Enroll d = true
stands _ d = d.enrolled

-- the agent of this number may make the step: it is one of the table's, and enrolled but for Enroll, nothing pending comes
-- first, and the kind's own condition holds
abbrev pub may : Bounds → ℕ → ℕ → Op → Agent → Bool
may b e a op d = nat_lt a b.agents && stands op d && forced d op && fits b e a op d
