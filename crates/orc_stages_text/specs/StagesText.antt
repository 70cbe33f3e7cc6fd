-- The text of a run of the pipeline: every poster's replies, those of each stage, and the jobs that came out.
use Rattle.std.specs.Prelude.{◌++◌, ◌∷◌, List, [], ℕ, suc, codes, Option, Some, None}
use Rattle.std.specs.List.{flat_map}
use Rattle.std.specs.Fmt.{decimal}
use Rattle.orc_board.specs.declared.replies.PostReply.{PostReply}
use Rattle.orc_report.specs.Report.{post_line}
use Rattle.orc_stages.specs.declared.replies.StageReply.{StageReply}

-- a job's value at a stage, or that it found no node in the next queue
abbrev pub stage_value : Option ℕ → List ℕ
stage_value (Some value) = codes "value " ++ decimal value
stage_value None = codes "nonode"

-- the line of a stage's reply
abbrev pub move_line : StageReply → List ℕ
move_line r = codes "stage " ++ decimal r.stage ++ codes " line " ++ decimal r.line ++ codes " " ++ stage_value r.value ++ codes "\n"

-- the line of a job that came out, with its number among them
abbrev pub out_line : ℕ → ℕ → List ℕ
out_line at line = codes "out " ++ decimal at ++ codes " line " ++ decimal line ++ codes "\n"

-- the lines of the jobs that came out, numbered from this one
abbrev pub out_lines : ℕ → List ℕ → List ℕ
out_lines at [] = []
out_lines at (line ∷ lines) = out_line at line ++ out_lines (suc at) lines

-- the text of these replies, and of what came out
abbrev pub stages_report : List PostReply → List StageReply → List ℕ → List ℕ
stages_report posts moves outs = codes "stages\n" ++ flat_map (post_line (codes "put")) posts ++ flat_map move_line moves ++ out_lines 0 outs
