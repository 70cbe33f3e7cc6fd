-- The second part of a step: the agent's new record. It is a function of the op, the old record and the word
-- that the operation read. After OrcGC (Correia, Ramalhete and Felber 2021), in this project's own order.
use Rattle.std.specs.Prelude.{ℕ, ◌+◌, ◌*◌, ◌/◌, ◌%◌, ◌^◌, ◌<◌, true, false, cond, ◌&&◌, ◌==◌, Option, Some, None, List, slice_set, slice_index_or, is_some}
use Rattle.std.specs.Option.{ForSome}
use Rattle.orc_words.specs.declared.packed.TheConstants.{INCREMENT, DECREMENT, RETIRED}
use Rattle.orc_words.specs.Packed.{link_word, named, sequence_of}
use Rattle.orc_core.specs.declared.records.Agent.{Agent}
use Rattle.orc_core.specs.declared.records.Reading.{Reading}
use Rattle.orc_core.specs.declared.records.Scan.{Scan}
use Rattle.orc_core.specs.declared.records.Doom.{Doom}
use Rattle.orc_core.specs.declared.records.SlotUse.{SlotUse}
use Rattle.orc_core.specs.declared.records.SlotUse.TheVariants.{Empty, Published, Held}
use Rattle.orc_core.specs.declared.ops.CounterUse.{CounterUse}
use Rattle.orc_core.specs.declared.ops.CounterUse.TheVariants.{Check, Start, End}
use Rattle.orc_core.specs.declared.ops.Op.{Op}
use Rattle.orc_core.specs.declared.ops.Op.TheVariants.{Enroll, GateLook, GateTake, Fill, Read, LinkLoad, Publish, Clear, Arm, LinkCas, LinkStore, Inc, Dec, SetRetired, CounterLoad, Unretire, SlotLook, Hand, TakeIn, Free, MoveOn, HandoverLook, DecHeld}
use Rattle.orc_core.specs.Listed.{Listed, listed_more, listed_rest, listed_name}
use Rattle.orc_core.specs.RecordParts.{names, same_target, number_of, is_clear, kept}
use Rattle.orc_words.specs.Operations.{word_add, word_sub}
use Rattle.orc_core.specs.Actions.{clear_word}

-- the row is due where its new counter word w has count 0 and no bit
abbrev pub due_after : ℕ → ℕ → Option Reading → Option Reading
due_after r w due = cond (is_clear w) (Some (record { row = r; number = sequence_of w })) due

-- a Published slot becomes Held where the link word still names its row
abbrev pub promoted : SlotUse → ℕ → SlotUse
promoted Empty w = Empty
promoted (Held r) w = Held r
promoted (Published r) w = cond (w / 2 == r + 1) (Held r) (Published r)

-- the slots after a load that names one of them, or none
abbrev pub promoted_at : Option ℕ → List SlotUse → ℕ → List SlotUse
promoted_at None slots w = slots
promoted_at (Some k) slots w = slice_set slots k (promoted (slice_index_or slots k Empty) w)

-- the row's doom has the link of this number out too, where it is the next one
abbrev pub cut_of : Option Doom → ℕ → ℕ → Option Doom
cut_of None r n = None
cut_of (Some d) r n = Some (record { row = d.row; cuts = cond ((d.row == r) && (d.cuts == n)) (n + 1) d.cuts; bare = d.bare })

-- the bit of the doomed row is clear
abbrev pub bared : Option Doom → Option Doom
bared None = None
bared (Some d) = Some (record { row = d.row; cuts = d.cuts; bare = true })

-- the scan after a look at a slot with word w
abbrev pub scan_on : Option Scan → ℕ → Option Scan
scan_on None w = None
scan_on (Some s) w = Some (record { row = s.row; word = s.word; place = cond (w == s.row + 1) s.place (s.place + 1); found = w == s.row + 1 })

-- what the three uses of a counter's load leave in the five parts that one of them changes
abbrev pub checked_by : CounterUse → ℕ → ℕ → Option Reading → Option Reading
checked_by Check r w c = Some (record { row = r; number = sequence_of w })
checked_by Start r w c = c
checked_by End r w c = c

-- a scan that begins takes the row out of the hand
abbrev pub hand_by : CounterUse → Option ℕ → Option ℕ
hand_by Check h = h
hand_by Start h = None
hand_by End h = h

-- a scan that begins takes the first row off the list, unless its row was in hand
abbrev pub list_by : CounterUse → ℕ → Option ℕ → Listed → Listed
list_by Check r h l = l
list_by Start r h l = cond (names h r) l (listed_rest l)
list_by End r h l = l

-- a scan begins at place 0; at its end it is over, or begins again where the word isn't the kept one
abbrev pub scan_by : CounterUse → ℕ → ℕ → Option Scan → Option Scan
scan_by Check r w s = s
scan_by Start r w s = Some (record { row = r; word = w; place = 0; found = false })
scan_by End r w s = cond (w == kept s) None (Some (record { row = r; word = w; place = 0; found = false }))

-- at the end of a scan the row is doomed where its word is the kept one
abbrev pub doom_by : CounterUse → ℕ → ℕ → Option Scan → Option Doom → Option Doom
doom_by Check r w s d = d
doom_by Start r w s d = d
doom_by End r w s d = cond (w == kept s) (Some (record { row = r; cuts = 0; bare = false })) d

-- d: the old record, w: the word that was read. Each choice stands inside its part, so that the parts that a
-- kind leaves are seen to stay
abbrev pub after : Op → Agent → ℕ → Agent
after Enroll d w = record d { enrolled = true }
after (GateLook r) d w = record d { looked = cond (w % 2 == 0) (Some (record { row = r; number = w / 2 })) None; checked = None }
after (GateTake r) d w = record d { fresh = cond (w == 2 * number_of d.looked) (Some r) d.fresh; looked = None; checked = None }
after (Fill r which v) d w = d
after (Read r which) d w = d
after (LinkLoad p slot) d w = record d { slots = promoted_at slot d.slots w }
after (Publish k r) d w = record d { slots = slice_set d.slots k (cond (names d.fresh r) (Held r) (Published r)) }
after (Clear k) d w = record d { slots = slice_set d.slots k Empty }
after (Arm r) d w = record d { slots = slice_set d.slots 0 (Held r) }
after (LinkCas p f t) d w = record d {
  inc = cond (w == link_word f) (cond (same_target f.to t.to) d.inc t.to) d.inc;
  dec = cond (w == link_word f) (cond (same_target f.to t.to) d.dec f.to) d.dec;
  fresh = cond (w == link_word f) (cond (same_target f.to t.to) d.fresh (cond (same_target d.fresh t.to) None d.fresh)) d.fresh;
  checked = None;
}
after (LinkStore r l n) d w = record d {
  inc = cond (same_target (named (w / 2)) l.to) d.inc l.to;
  dec = cond (same_target (named (w / 2)) l.to) d.dec (named (w / 2));
  checked = None;
  doom = cut_of d.doom r n;
}
after (Inc r) d w = record d { inc = None; due = due_after r (word_add w INCREMENT) d.due }
after (Dec r) d w = record d { dec = None; due = due_after r (word_add w DECREMENT) d.due }
after (SetRetired r q) d w = record d {
  due = None;
  fresh = cond (w == clear_word q) (cond (names d.fresh r) None d.fresh) d.fresh;
  list = cond (w == clear_word q) (listed_more d.list r) d.list;
}
after (CounterLoad r how) d w = record d {
  checked = checked_by how r w d.checked;
  hand = hand_by how d.hand;
  list = list_by how r d.hand d.list;
  scan = scan_by how r w d.scan;
  doom = doom_by how r w d.scan d.doom;
}
after (Unretire r) d w = record d {
  scan = None;
  due = cond (is_some d.scan) (due_after r (word_sub w RETIRED) d.due) d.due;
  doom = bared d.doom;
}
after (SlotLook k) d w = record d { scan = scan_on d.scan w }
after (Hand k) d w = record d { scan = None; hand = named w }
after (TakeIn k) d w = record d { list = listed_name d.list (named w) }
after (Free r) d w = record d { doom = None }
after (MoveOn k r) d w = record d { slots = slice_set d.slots k (cond (names d.fresh r) (Held r) (Published r)) }
after (HandoverLook k) d w = d
after (DecHeld r) d w = record d { dec = None; due = due_after r (word_add w DECREMENT) d.due }

-- a slot that is changed is one of the eight, a link's number is below two, and a scan that goes on has a small place
abbrev pub IsRecordable : Op → Agent → Type 0
IsRecordable (LinkLoad p slot) d = ForSome slot (λ k. k < 8)
IsRecordable (Publish k r) d = k < 8
IsRecordable (Clear k) d = k < 8
IsRecordable (MoveOn k r) d = k < 8
IsRecordable (LinkStore r l n) d = n < 2
IsRecordable (SlotLook k) d = ForSome d.scan (λ s. s.place < 2 ^ 31)
IsRecordable _ d = Unit {0}
