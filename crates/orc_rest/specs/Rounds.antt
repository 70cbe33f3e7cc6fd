-- What the parts of a settling do, round by round.
use Rattle.std.specs.Prelude.{List, false, true, ◌%◌, ◌++◌, ◌+◌, ◌/◌, ◌≡◌, ◌≤◌, ℕ}
use Rattle.orc_core.specs.After.{after}
use Rattle.orc_core.specs.Machine.{Machine, is_allowed, record_at, word_in}
use Rattle.orc_core.specs.RecordParts.{scan_found}
use Rattle.orc_core.specs.Runs.{IsLawful, run}
use Rattle.orc_core.specs.declared.ops.Op.{Op}
use Rattle.orc_core.specs.declared.ops.Op.TheVariants.{Hand, SlotLook}
use Rattle.orc_rest.specs.Records.{IsDone, IsFoundScan, IsScanOf, IsStill}
use Rattle.orc_rest.specs.Turns.{AllOf, IsReachedState, MadeAfterOthers, NoSlotsBut, NoneHanded, NoneOf, StaysZero, Turn}
use Rattle.orc_rest.specs.Work.{IsSettlingStep, drop_of, work_left}
use Rattle.orc_words.specs.declared.place.Word.TheVariants.{Slot}

-- a turn from one reached state to another
pub record Went (a drop : ℕ) (m n : Machine) : Type 0 where
  pub turn : Turn a drop m n
  pub reached : IsReachedState n
  pub bounds : n.bounds ≡ m.bounds

-- the agent's record after its step
pub record AfterStep (a : ℕ) (op : Op) (m n : Machine) : Type 0 where
  pub word : ℕ
  pub is : record_at n a ≡ after op (record_at m a) word

-- a slot was looked at, and shows what was read
pub record LookedAt (a k : ℕ) (m n : Machine) : Type 0 where
  pub word : ℕ
  pub is : record_at n a ≡ after (SlotLook k) (record_at m a) word
  pub shows : word_in n (Slot (k / 8) (k % 8)) ≡ word

-- a slot was looked at for the scanned row: it names the row and the scan is found, or the scan goes on at the next place
pub record LooksAtSlot (a r k : ℕ) (m n : Machine) : Type 0 where
  pub still : IsStill (record_at n a)
  pub doom : (record_at n a).doom ≡ (record_at m a).doom
  pub found : scan_found (record_at n a).scan ≡ true → IsFoundScan r k (record_at n a).scan
  pub shows : scan_found (record_at n a).scan ≡ true → word_in n (Slot (k / 8) (k % 8)) ≡ r + 1
  pub on : scan_found (record_at n a).scan ≡ false → IsScanOf r (k + 1) (record_at n a).scan

-- a kind whose condition speaks of the record alone: all that settle but Hand
abbrev pub IsNoHand : Op → Type 0
IsNoHand (Hand k) = ⊥
IsNoHand op = Unit {0}

-- a turn with its first step
pub record OpenedTurn (a drop : ℕ) (m n : Machine) : Type 0 where
  pub op : Op
  pub rest : ℕ
  pub first : Machine
  pub kind : IsNoHand op
  pub allowed : is_allowed m a op ≡ true
  pub settles : IsSettlingStep (word_in m) op (record_at m a)
  pub made : MadeAfterOthers a op m first
  pub went : Went a rest first n
  pub enough : drop ≤ drop_of op (record_at m a) + rest

-- some steps are made; alone, nothing is left if the work was within the bound
pub record Rounds (a left : ℕ) (m n : Machine) : Type 0 where
  pub steps : List (ℕ × Op)
  pub lawful : IsLawful m steps
  pub is : n ≡ run m steps
  pub done : AllOf a steps → work_left m a ≤ left → IsDone (record_at n a)
  pub hands : AllOf a steps → NoneHanded a m → NoneHanded a n
  pub others : AllOf a steps → NoSlotsBut a m → StaysZero a m n

-- some steps are made. Where those from the agent's own first step on are all its own, nothing is left, and handover words that were
-- 0 at that step are 0: its own, and, where no other agent's slot named a row, those of others
pub record Settled (a : ℕ) (m n : Machine) : Type 0 where
  pub steps : List (ℕ × Op)
  pub lawful : IsLawful m steps
  pub is : n ≡ run m steps
  pub done : (o p : List (ℕ × Op)) → steps ≡ o ++ p → NoneOf a o → AllOf a p → IsDone (record_at n a)
  pub hands : (o p : List (ℕ × Op)) → steps ≡ o ++ p → NoneOf a o → AllOf a p → NoneHanded a (run m o) → NoneHanded a n
  pub others : (o p : List (ℕ × Op)) → steps ≡ o ++ p → NoneOf a o → AllOf a p → NoSlotsBut a (run m o) → StaysZero a (run m o) n
