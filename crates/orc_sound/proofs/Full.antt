-- A state with all its words and records, and one in which no row is doomed.
use Rattle.std.proofs.Common.{[], length, ℕ, ◌∙◌, ◌≡◌}
use Rattle.std.proofs.Math.ListN.{length-set}
use Rattle.std.proofs.lemmas.Bool.{false≢true}
use Rattle.std.specs.Prelude.{None}
use Rattle.orc_words.specs.Bounds.{Bounds, IsShape}
use Rattle.orc_words.specs.Places.{places}
use Rattle.orc_core.proofs.Steps.{every_run_whole}
use Rattle.orc_core.specs.Machine.{Machine, new_machine, step}
use Rattle.orc_core.specs.declared.ops.Op.{Op}
use Rattle.orc_sound.proofs.Facts.{Doomed}
use Rattle.orc_sound.proofs.World.{World}

pub none_doomed : (b : Bounds) (z : World) → ((a : ℕ) → (z.seats a).doom ≡ None) → Doomed b z
none_doomed b z h = record {
  gone = λ a r k. absurd (false≢true (rw (h a) at k));
  alone = λ a x r k l. absurd (false≢true (rw (h a) at k));
  null = λ a r n k. absurd (false≢true (rw (h a) at k));
  cut = λ a r k. absurd (false≢true (rw (h a) at k));
  clear = λ a r k. absurd (false≢true (rw (h a) at k));
}

-- all words and all records are there
pub record Full (m : Machine) : Type 0 where
  pub shape : IsShape m.bounds
  pub words : length m.words ≡ places m.bounds
  pub agents : length m.agents ≡ m.bounds.agents

pub full_step : (m : Machine) (a : ℕ) (op : Op) → Full m → Full (step m a op)
full_step m a op w = record { shape = w.shape; words = length-set m.words _ _ ∙ w.words; agents = length-set m.agents a _ ∙ w.agents }

pub full_first : (b : Bounds) → IsShape b → Full (new_machine b)
full_first b shape = let w = every_run_whole b [] shape in record { shape = w.shape; words = w.words; agents = w.agents }
