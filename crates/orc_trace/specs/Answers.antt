-- The lines that a replay and an audit write.
use Rattle.std.specs.List.{flat_map, range_with_len}
use Rattle.std.specs.Prelude.{◌++◌, ◌==◌, ℕ, List, [], None, Option, Some, codes, cond, length, slice_index}
use Rattle.std.specs.Fmt.{decimal}
use Rattle.orc_trace.specs.declared.answers.Audit.{Audit}
use Rattle.orc_trace.specs.declared.answers.Leak.{Leak}
use Rattle.orc_trace.specs.declared.answers.Replayed.{Replayed}
use Rattle.orc_trace_text.specs.declared.shape_line.ShapeWord.{ShapeWord}
use Rattle.orc_trace_text.specs.declared.shape_line.ShapeWord.TheVariants as word
use Rattle.orc_trace.specs.declared.answers.TraceFault.{TraceFault}
use Rattle.orc_trace.specs.declared.answers.TraceFault.TheVariants as fault

abbrev pub replay_line : Replayed → List ℕ
replay_line r = codes "steps " ++ decimal r.steps ++ codes " out " ++ decimal r.census.out ++ codes " retired " ++ decimal r.census.retired
    ++ codes " handed " ++ decimal r.census.handed ++ codes " listed " ++ decimal r.census.listed ++ codes " linked " ++ decimal r.census.linked ++ codes "\n"

abbrev pub shape_word : ShapeWord → List ℕ
shape_word word.Unreadable = codes "unreadable"
shape_word word.Rows = codes "rows"
shape_word word.Roots = codes "roots"
shape_word word.Agents = codes "agents"
shape_word word.Limit = codes "limit"
shape_word word.Links = codes "links"

-- the line of a fault; want of memory writes nothing
abbrev pub fault_line : TraceFault → List ℕ
fault_line (fault.Shape w) = codes "shape: " ++ shape_word w ++ codes "\n"
fault_line (fault.Unreadable n) = codes "step " ++ decimal n ++ codes ": unreadable\n"
fault_line (fault.NotAllowed n) = codes "step " ++ decimal n ++ codes ": not allowed\n"
fault_line fault.NoMemory = []

-- the line of a row and its life; a row that was never taken has none
abbrev pub life_line : ℕ → ℕ → List ℕ
life_line r life = cond (life == 0) [] (codes "row " ++ decimal r ++ codes " lives " ++ decimal life ++ codes "\n")

-- the line of the first leak
abbrev pub leak_line : Option Leak → List ℕ
leak_line None = codes "leak none\n"
leak_line (Some l) = codes "leak after " ++ decimal l.after ++ codes " row " ++ decimal l.row ++ codes "\n"

-- the lines of these lives, in order of row
abbrev pub life_lines : List ℕ → List ℕ
life_lines lives = flat_map (λ r. life_line r (slice_index lives r)) (range_with_len 0 (length lives))

-- the lines of the steps and of the worst backlog
abbrev pub head_lines : ℕ → ℕ → ℕ → List ℕ
head_lines steps most after = codes "steps " ++ decimal steps ++ codes "\nretired most " ++ decimal most ++ codes " after " ++ decimal after ++ codes "\n"

abbrev pub audit_lines : Audit → List ℕ
audit_lines a = head_lines a.steps a.most a.after ++ life_lines a.lives ++ leak_line a.leak
