-- The tests by which one state is seen to be sound. Each is shown to be its part of a sound state.
use Rattle.std.specs.Prelude.{Bool, None, Option, Some, cond, is_none, is_some, length, nat_le, nat_lt, not, suc, true, zero, ℕ, ◌&&◌, ◌*◌, ◌+◌, ◌-◌, ◌/◌, ◌==◌, ◌||◌}
use Rattle.orc_words.specs.Packed.{bit, count_bits, retired_bit, sequence_of}
use Rattle.orc_words.specs.declared.place.Word.TheVariants.{Counter, Enrolled, Gate, Root, Slot}
use Rattle.orc_core.specs.Counts.{is_out, is_retired, links_to}
use Rattle.orc_core.specs.Machine.{Machine, record_at, word_in}
use Rattle.orc_core.specs.RecordParts.{any_holds, holds, is_empty, is_published, number_of, saw, slot_of}
use Rattle.orc_core.specs.Sums.{some_below}
use Rattle.orc_core.specs.declared.records.Agent.{Agent}
use Rattle.orc_core.specs.declared.records.Doom.{Doom}
use Rattle.orc_core.specs.declared.records.Scan.{Scan}
use Rattle.orc_core.specs.declared.records.Reading.{Reading}
use Rattle.orc_core.specs.declared.records.SlotUse.{SlotUse}
use Rattle.orc_core.specs.declared.records.SlotUse.TheVariants.{Empty, Held, Published}
use Rattle.orc_sound.specs.Balance.{decrements, increments}
use Rattle.orc_sound.specs.Doomed.{dooms}
use Rattle.orc_sound.specs.Linked.{changes, held, linked, uses}
use Rattle.orc_sound.specs.NoLeak.{has_reason}
use Rattle.orc_sound.specs.SoundParts.{slot_word}
use Rattle.orc_sound.specs.QuietScan.{is_linked_anew}
use Rattle.orc_sound.specs.RetirementToken.{tokens}
use Rattle.orc_words.specs.Places.{link_at}

-- each number below n passes
abbrev pub all_below : ℕ → (ℕ → Bool) → Bool
all_below zero p = true
all_below (suc n) p = all_below n p && p n

-- the row that is named, if one is, passes
abbrev pub named_passes : Option ℕ → (ℕ → Bool) → Bool
named_passes None p = true
named_passes (Some r) p = p r

-- the row that was read
abbrev pub row_seen : Option Reading → Option ℕ
row_seen None = None
row_seen (Some s) = Some s.row

-- the row that the slot holds
abbrev pub row_held : SlotUse → Option ℕ
row_held Empty = None
row_held (Published r) = None
row_held (Held r) = Some r

-- the row is one of the table's, and out
abbrev pub out_in : Machine → ℕ → Bool
out_in m r = nat_lt r m.bounds.rows && is_out m r

-- a link word names none, or a row that is out
abbrev pub target_fits : Machine → ℕ → Bool
target_fits m w = (w / 2 == 0) || out_in m (w / 2 - 1)

-- the count is the links, less the pending increments, with the pending decrements
abbrev pub count_fits : Machine → ℕ → Bool
count_fits m r = count_bits (word_in m (Counter r)) + increments m r == 4194304 + linked m r + decrements m r

-- one place has the row where its bit is set, and none where it is clear
abbrev pub token_fits : Machine → ℕ → Bool
token_fits m r = tokens m r == bit (is_retired m r)

-- the row's sequence and its life are in range
abbrev pub range_fits : Machine → ℕ → Bool
range_fits m r = nat_lt (sequence_of (word_in m (Counter r))) 549756338176 && nat_le (word_in m (Gate r) / 2) 549755813888

-- nothing links the row, holds it or changes it, and its count is 0
abbrev pub unreachable_in : Machine → ℕ → Bool
unreachable_in m r = (linked m r == 0) && not (held m r) && not (some_below m.bounds.agents (λ a. changes (record_at m a) r)) &&
    (count_bits (word_in m (Counter r)) == 4194304)

-- all link words of the row are 0
abbrev pub null_links : Machine → ℕ → Bool
null_links m r = all_below m.bounds.links (λ n. word_in m (link_at n r) == 0)

-- each link word of the row names none, or a row that is out
abbrev pub links_fit : Machine → ℕ → Bool
links_fit m r = all_below m.bounds.links (λ n. target_fits m (word_in m (link_at n r)))

-- no link word of row j names row r
abbrev pub names_none : Machine → ℕ → ℕ → Bool
names_none m r j = all_below m.bounds.links (λ n. not (links_to (word_in m (link_at n j)) r))

-- the link words that a doom has cut are 0
abbrev pub cuts_fit : Machine → Doom → Bool
cuts_fit m d = all_below m.bounds.links (λ n. not (nat_lt n d.cuts) || (word_in m (link_at n d.row) == 0))

-- a free row is unreachable, has no bit and no link, and is in no doom
abbrev pub free_fits : Machine → ℕ → Bool
free_fits m r = unreachable_in m r && not (is_retired m r) && null_links m r && not (some_below m.bounds.agents (λ a. dooms (record_at m a).doom r))

-- a row's own conditions, as it is out or free
abbrev pub row_fits : Machine → ℕ → Bool
row_fits m r = count_fits m r && token_fits m r && range_fits m r && cond (is_out m r) (links_fit m r && has_reason m r) (free_fits m r)

-- rows that are pending or due are out, and held where they are to be
abbrev pub pending_fits : Machine → Agent → Bool
pending_fits m d = named_passes d.inc (λ r. any_holds d.slots r && out_in m r) && named_passes d.dec (out_in m) && named_passes (row_seen d.due)
    (λ r. any_holds d.slots r && out_in m r)

-- at most one of hand, scan and doom is there
abbrev pub one_part_in : Agent → Bool
one_part_in d = nat_le (bit (is_some d.hand) + bit (is_some d.scan) + bit (is_some d.doom)) 1

-- nothing links the row or is about to, and each hold of it is at place k or later
abbrev pub left_in : Machine → ℕ → ℕ → Bool
left_in m r k = (linked m r == 0) && (increments m r == 0) && (decrements m r == 0) && all_below m.bounds.agents
    (λ a. all_below 8 (λ j. not (holds (slot_of (record_at m a) j) r) || nat_le k (8 * a + j)))

-- the kept word is the row's, by its sequence: then its count is the row's, and a scan with count 0 is quiet
abbrev pub same_fits : Machine → Scan → Bool
same_fits m s =
    (count_bits (word_in m (Counter s.row)) == count_bits s.word) &&
    (not (count_bits s.word == 4194304) || is_linked_anew m s.row s.place || left_in m s.row s.place)

-- the scan, if there is one, keeps a word of its row that isn't ahead of it, and is quiet
abbrev pub scan_fits : Machine → Option Scan → Bool
scan_fits m None = true
scan_fits m (Some s) =
    nat_lt s.row m.bounds.rows && (retired_bit s.word == 1) && nat_le (sequence_of s.word) (sequence_of (word_in m (Counter s.row))) &&
    (not (sequence_of (word_in m (Counter s.row)) == sequence_of s.word) || same_fits m s) &&
    (not s.found || ((count_bits s.word == 4194304) && nat_lt s.place (8 * m.bounds.agents)))

-- the doom, if there is one, is of a row that is out, unreachable and in no other doom
abbrev pub doom_fits : Machine → ℕ → Option Doom → Bool
doom_fits m a None = true
doom_fits m a (Some d) =
    out_in m d.row && unreachable_in m d.row && all_below m.bounds.agents (λ x. (x == a) || not (dooms (record_at m x).doom d.row)) &&
    cuts_fit m d && (not d.bare || ((d.cuts == m.bounds.links) && not (is_retired m d.row)))

-- the fresh row is out, has no bit, and is the agent's alone
abbrev pub fresh_fits : Machine → ℕ → ℕ → Bool
fresh_fits m a r =
    out_in m r && not (is_retired m r) && all_below m.bounds.agents (λ x. (x == a) || not (uses (record_at m x) r)) && all_below m.bounds.roots
    (λ i. not (links_to (word_in m (Root i)) r)) && all_below m.bounds.rows (λ j. (j == r) || names_none m r j)

-- a slot's word is that of the record, and what it holds is out
abbrev pub slot_fits : Machine → ℕ → ℕ → Bool
slot_fits m a k = (word_in m (Slot a k) == slot_word (slot_of (record_at m a) k)) && named_passes (row_held (slot_of (record_at m a) k)) (out_in m)

-- all slots fit, and slot 0 isn't Published
abbrev pub slots_fit : Machine → ℕ → Bool
slots_fit m a = all_below 8 (slot_fits m a) && not (is_published (slot_of (record_at m a) 0))

-- a row that was looked at and then checked has the sequence that was read, while it is free in that life
abbrev pub looks_fit : Machine → Agent → Bool
looks_fit m d =
    named_passes (row_seen d.looked)
    (λ r. not (nat_lt r m.bounds.rows) || not (saw d.checked r) || not (word_in m (Gate r) == 2 * number_of d.looked) ||
    (sequence_of (word_in m (Counter r)) == number_of d.checked))

-- all parts of the record are empty
abbrev pub is_nobody : Agent → Bool
is_nobody d =
    not d.enrolled && all_below 8 (λ k. is_empty (slot_of d k)) && is_none d.fresh && is_none d.looked && is_none d.checked && is_none d.inc &&
    is_none d.dec && is_none d.due && is_none d.hand && is_none d.scan && is_none d.doom && (length d.list.items == 0)

-- an agent below the word of enrolments is enrolled, and another one's record is empty
abbrev pub enrolment_fits : Machine → ℕ → Bool
enrolment_fits m a = cond (nat_lt a (word_in m Enrolled)) (record_at m a).enrolled (is_nobody (record_at m a))

-- an agent's own conditions
abbrev pub agent_fits : Machine → ℕ → Bool
agent_fits m a =
    enrolment_fits m a && slots_fit m a && pending_fits m (record_at m a) && one_part_in (record_at m a) && scan_fits m
    (record_at m a).scan && doom_fits m a (record_at m a).doom && named_passes (record_at m a).fresh (fresh_fits m a) && looks_fit m (record_at m a)

-- all conditions of a sound state
abbrev pub all_fit : Machine → Bool
all_fit m =
    nat_le (word_in m Enrolled) m.bounds.agents && all_below m.bounds.roots (λ i. target_fits m (word_in m (Root i))) && all_below m.bounds.rows
    (row_fits m) && all_below m.bounds.agents (agent_fits m)
