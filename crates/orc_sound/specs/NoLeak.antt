-- Why a row is out. A row that is out for none of these reasons would never be freed.
use Rattle.std.specs.Prelude.{Bool, not, true, ℕ, ◌==◌, ◌||◌, ◌≡◌}
use Rattle.orc_words.specs.Packed.{count_bits, sequence_of}
use Rattle.orc_words.specs.declared.place.Word.TheVariants.{Counter}
use Rattle.orc_core.specs.Counts.{is_retired}
use Rattle.orc_core.specs.Machine.{Machine, record_at, word_in}
use Rattle.orc_core.specs.RecordParts.{doom_bare, is_due, names}
use Rattle.orc_core.specs.Sums.{some_below}
use Rattle.orc_core.specs.declared.records.Agent.{Agent}
use Rattle.orc_sound.specs.Linked.{IsOut}

-- the agent has the row fresh, is about to count a link to it, has it due for this sequence, or has it in a bare doom
abbrev pub keeps_out : Agent → ℕ → ℕ → Bool
keeps_out d r sequence = names d.fresh r || names d.inc r || is_due d.due r sequence || doom_bare d.doom r

-- the row's count isn't 0, or its bit is set, or an agent keeps it out
abbrev pub has_reason : Machine → ℕ → Bool
has_reason m r = not (count_bits (word_in m (Counter r)) == 4194304) || is_retired m r || some_below m.bounds.agents
    (λ a. keeps_out (record_at m a) r (sequence_of (word_in m (Counter r))))

-- each row that is out has a reason to be
abbrev pub NoLeak : Machine → Type 0
NoLeak m = (r : ℕ) → IsOut m r → has_reason m r ≡ true
