-- What a scan that has come to place k may rely on, as long as the row's sequence is the one that it kept. It rests on the
-- two equal readings of the counter word around the scan.
use Rattle.std.specs.Prelude.{Bool, nat_le, true, ℕ, ◌&&◌, ◌*◌, ◌+◌, ◌<◌, ◌≡◌, ◌≤◌, ◌⊎◌}
use Rattle.orc_words.specs.Packed.{sequence_of}
use Rattle.orc_words.specs.declared.place.Word.TheVariants.{Counter}
use Rattle.orc_core.specs.Machine.{Machine, record_at, word_in}
use Rattle.orc_core.specs.RecordParts.{holds, kept, names, scan_at, scan_empty, scans, slot_of}
use Rattle.orc_core.specs.Sums.{some_below}
use Rattle.orc_sound.specs.Balance.{decrements, increments}
use Rattle.orc_sound.specs.Linked.{linked}

-- nothing links the row or is about to, and each hold of it is in a slot that is still to be looked at
pub record IsLeft (m : Machine) (r k : ℕ) : Type 0 where
  pub linked : linked m r ≡ 0
  pub increments : increments m r ≡ 0
  pub decrements : decrements m r ≡ 0
  pub holds : (a j : ℕ) → a < m.bounds.agents → j < 8 → holds (slot_of (record_at m a) j) r ≡ true → k ≤ 8 * a + j

-- the agent holds the row in a slot whose scan place is k or later
abbrev pub holds_from : Machine → ℕ → ℕ → ℕ → Bool
holds_from m r k a = some_below 8 (λ j. holds (slot_of (record_at m a) j) r && nat_le k (8 * a + j))

-- an agent that is about to count a link to the row holds it in a slot that is still to be looked at
abbrev pub is_linked_anew : Machine → ℕ → ℕ → Bool
is_linked_anew m r k = some_below m.bounds.agents (λ a. names (record_at m a).inc r && holds_from m r k a)

-- each scan whose kept word has count 0 is quiet, while the row's sequence is the kept one
abbrev pub QuietScans : Machine → Type 0
QuietScans m =
    (a r k : ℕ) → a < m.bounds.agents → scans (record_at m a).scan r ≡ true → scan_at (record_at m a).scan k ≡ true
    → scan_empty (record_at m a).scan ≡ true → sequence_of (word_in m (Counter r)) ≡ sequence_of (kept (record_at m a).scan)
    → (is_linked_anew m r k ≡ true) ⊎ IsLeft m r k
