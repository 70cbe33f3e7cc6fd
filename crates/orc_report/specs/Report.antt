-- The text of a report: the board of each queue in order of position, then every worker's replies.
use Rattle.std.specs.Prelude.{◌++◌, Bool, true, false, if◌then◌else◌, List, [], ℕ, codes, length, slice_get, Option, Some, None}
use Rattle.std.specs.List.{flat_map, list_any}
use Rattle.std.specs.Option.{option_map_or}
use Rattle.std.specs.Fmt.{decimal}
use Rattle.orc_jobs.specs.declared.line.Line.{Line}
use Rattle.orc_jobs.specs.declared.line.Line.TheVariants as line
use Rattle.orc_jobs.specs.Line.{line_id}
use Rattle.orc_board.specs.Follows.{grouped_by_key}
use Rattle.orc_board.specs.Reportable.{takes_with}
use Rattle.orc_board.specs.declared.replies.PostReply.{PostReply}
use Rattle.orc_board.specs.declared.replies.PostWord.{PostWord}
use Rattle.orc_board.specs.declared.replies.PostWord.TheVariants as post
use Rattle.orc_board.specs.declared.replies.TakeReply.{TakeReply}
use Rattle.orc_board.specs.declared.replies.TakeWord.{TakeWord}
use Rattle.orc_board.specs.declared.replies.TakeWord.TheVariants as take
use Rattle.orc_report.specs.declared.report.RestNumbers.{RestNumbers}

-- the id of the record with this number
abbrev pub id_at : List Line → ℕ → ℕ
id_at lines place = option_map_or line_id (slice_get lines place) 0

-- what became of a job that was taken
abbrev pub take_word : TakeWord → List ℕ
take_word (take.Done value) = codes "done " ++ decimal value
take_word take.Void = codes "void"

-- what became of a record, where this word says that it was put at a position of the queue
abbrev pub post_word : List ℕ → PostWord → List ℕ
post_word put (post.Posted at) = put ++ codes " " ++ decimal at
post_word put (post.Rushed at) = codes "rushed " ++ decimal at
post_word put post.Busy = codes "busy"
post_word put post.NoNode = codes "nonode"
post_word put post.Positions = codes "positions"
post_word put post.Spent = codes "spent"
post_word put post.Dropped = codes "dropped"
post_word put post.Unknown = codes "unknown"
post_word put post.Skipped = codes "skipped"

-- the board's line of a position: the record that was posted there, and what became of it
abbrev pub board_row : ℕ → ℕ → ℕ → TakeWord → List ℕ
board_row at place id what =
    decimal at ++ codes " line " ++ decimal place ++ codes " id " ++ decimal id ++ codes " " ++ take_word what ++ codes "\n"

abbrev pub board_line : List Line → TakeReply → List ℕ
board_line lines r = board_row r.at r.line (id_at lines r.line) r.what

-- the line of a poster's reply
abbrev pub post_line : List ℕ → PostReply → List ℕ
post_line put r = codes "poster " ++ decimal r.poster ++ codes " line " ++ decimal r.line ++ codes " " ++ post_word put r.what ++ codes "\n"

-- the word before the position of a take with rush, or without
abbrev pub side_word : Bool → List ℕ
side_word rush = if rush then codes "rush" else codes "at"

-- the line of a taker's reply
abbrev pub take_line : TakeReply → List ℕ
take_line r =
    codes "taker " ++ decimal r.taker ++ codes " " ++ side_word r.rush ++ codes " " ++ decimal r.at ++ codes " " ++ take_word r.what ++ codes "\n"

-- the take replies, that of position 0 first
abbrev pub by_position : List TakeReply → List TakeReply
by_position takes = grouped_by_key (λ (r : TakeReply). r.at) (length takes) takes

-- the lines of one queue: those of its positions, in order
abbrev pub queue_lines : Bool → List Line → List TakeReply → List ℕ
queue_lines rush lines takes = flat_map (board_line lines) (by_position (takes_with rush takes))

-- the line is a Rush
abbrev pub is_rush : Line → Bool
is_rush (line.Post id op text) = false
is_rush (line.Rush id op text) = true
is_rush (line.Drop id) = false

-- some line is
abbrev pub has_rush : List Line → Bool
has_rush lines = list_any is_rush lines

-- what is told of the rush queue only where some line is a Rush
abbrev pub if_rush : List Line → List ℕ → List ℕ
if_rush lines text = if has_rush lines then text else []

-- how many rows a container gave and freed, each as often as it did, and how many are linked at rest
abbrev pub rest_line : List ℕ → ℕ → ℕ → ℕ → List ℕ
rest_line name given reused linked = name ++ codes " given " ++ decimal given ++ codes " reused " ++ decimal reused ++ codes " linked "
    ++ decimal linked ++ codes "\n"

abbrev pub rest_lines : List Line → Option RestNumbers → List ℕ
rest_lines lines None = []
rest_lines lines (Some n) =
    codes "rest\n" ++ rest_line (codes "queue") n.queue_given n.queue_reused n.queue_linked
    ++ if_rush lines (rest_line (codes "rush") n.rush_given n.rush_reused n.rush_linked)
    ++ rest_line (codes "set") n.set_given n.set_reused n.set_linked

-- the report of these lines and replies
abbrev pub report_of : List Line → List PostReply → List TakeReply → Option RestNumbers → List ℕ
report_of lines posts takes rest =
    codes "board\n" ++ queue_lines false lines takes
    ++ if_rush lines (codes "rush\n" ++ queue_lines true lines takes)
    ++ codes "replies\n" ++ flat_map (post_line (codes "posted")) posts ++ flat_map take_line takes ++ rest_lines lines rest
