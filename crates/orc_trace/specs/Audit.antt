-- What the audit of a trace answers: how many steps it has, the worst backlog of its run, the life of each row, and the first row that leaks.
use Rattle.std.specs.List.{range_with_len}
use Rattle.std.specs.Prelude.{List, None, Option, Some, [], length, map, take, true, ℕ, ◌<◌, ◌∷◌, ◌≡◌, ◌≤◌}
use Rattle.orc_words.specs.Bounds.{Bounds}
use Rattle.orc_words.specs.Packed.{gate_of}
use Rattle.orc_words.specs.declared.place.Word.TheVariants.{Gate}
use Rattle.orc_core.specs.Counts.{is_root_target, some_links_to}
use Rattle.orc_core.specs.Machine.{Machine, new_machine, word_in}
use Rattle.orc_core.specs.Runs.{run}
use Rattle.orc_core.specs.declared.ops.Op.{Op}
use Rattle.orc_rest.specs.Rest.{IsAtRest}
use Rattle.orc_sound.specs.Backlog.{backlog}
use Rattle.orc_sound.specs.Linked.{IsOut}
use Rattle.orc_trace.specs.Replay.{BeginsWithSteps}
use Rattle.orc_trace.specs.declared.answers.Audit.{Audit}
use Rattle.orc_trace.specs.declared.answers.Leak.{Leak}
use Rattle.orc_trace_text.specs.FirstLines.{HasTable}

-- link words lead from a root over these rows, the last of them first, to the row; from each by any of its links
abbrev pub IsWayFromRoot : Machine → List ℕ → ℕ → Type 0
IsWayFromRoot m [] r = is_root_target m r ≡ true
IsWayFromRoot m (j ∷ js) r = IsWayFromRoot m js j × (j < m.bounds.rows) × (some_links_to m j r m.bounds.links ≡ true)

-- link words lead from some root to the row
pub record IsLinkedToARoot (m : Machine) (r : ℕ) : Type 0 where
  pub rows : List ℕ
  pub way : IsWayFromRoot m rows r

-- the state is at rest and the row is out, but no link words lead to it from a root
pub record Leaks (m : Machine) (r : ℕ) : Type 0 where
  pub rest : IsAtRest m
  pub out : IsOut m r
  pub lost : ¬ IsLinkedToARoot m r

-- the state after the first k of these steps
abbrev pub after_steps : Bounds → List (ℕ × Op) → ℕ → Machine
after_steps b steps k = run (new_machine b) (take k steps)

-- the greatest backlog after any number of these steps, and the least number that has it
pub record IsWorst (b : Bounds) (steps : List (ℕ × Op)) (most after : ℕ) : Type 0 where
  pub within : after ≤ length steps
  pub there : backlog (after_steps b steps after) ≡ most
  pub greatest : (k : ℕ) → k ≤ length steps → backlog (after_steps b steps k) ≤ most
  pub first : (k : ℕ) → k < after → backlog (after_steps b steps k) < most

-- a row leaks after so many of these steps, none leaks after fewer, and no lower row leaks then
pub record LeaksFirst (b : Bounds) (steps : List (ℕ × Op)) (l : Leak) : Type 0 where
  pub within : l.after ≤ length steps
  pub leaks : Leaks (after_steps b steps l.after) l.row
  pub sooner : (k r : ℕ) → k < l.after → ¬ Leaks (after_steps b steps k) r
  pub lower : (r : ℕ) → r < l.row → ¬ Leaks (after_steps b steps l.after) r

-- the first leak; or none, where no row leaks after any number of these steps
abbrev pub IsFirstLeak : Bounds → List (ℕ × Op) → Option Leak → Type 0
IsFirstLeak b steps None = (k r : ℕ) → k ≤ length steps → ¬ Leaks (after_steps b steps k) r
IsFirstLeak b steps (Some l) = LeaksFirst b steps l

-- the life of each row's gate, in order
abbrev pub lives_of : Machine → List ℕ
lives_of m = map (λ r. (gate_of (word_in m (Gate r))).life) (range_with_len 0 m.bounds.rows)

-- what the audit of these steps is
pub record Audits (b : Bounds) (steps : List (ℕ × Op)) (a : Audit) : Type 0 where
  pub number : a.steps ≡ length steps
  pub worst : IsWorst b steps a.most a.after
  pub lives : a.lives ≡ lives_of (run (new_machine b) steps)
  pub leak : IsFirstLeak b steps a.leak

-- the bytes are a trace, and this is the audit of its steps
abbrev pub IsAudit : List ℕ → Audit → Type 0
IsAudit bytes a = (b : Bounds) × (lines : List ℕ) × (steps : List (ℕ × Op)) × HasTable b lines bytes × BeginsWithSteps b (new_machine b) steps [] lines × Audits b steps a
