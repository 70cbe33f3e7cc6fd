-- The text of a watch run: every worker's replies, both parts at last, and what is at rest.
use Rattle.std.specs.Prelude.{◌++◌, List, [], ℕ, codes, Option, Some, None}
use Rattle.std.specs.List.{flat_map}
use Rattle.std.specs.Fmt.{decimal}
use Rattle.orc_watch.specs.declared.reply.WatchReply.{WatchReply}
use Rattle.orc_watch.specs.declared.reply.WatchWord.{WatchWord}
use Rattle.orc_watch.specs.declared.reply.WatchWord.TheVariants as word
use Rattle.orc_watch.specs.declared.text.CellNumbers.{CellNumbers}

-- what came of a record
abbrev pub watch_word : WatchWord → List ℕ
watch_word (word.Set left right) = codes "set " ++ decimal left ++ codes " " ++ decimal right
watch_word (word.Saw left right) = codes "saw " ++ decimal left ++ codes " " ++ decimal right
watch_word word.NoNode = codes "nonode"
watch_word word.Spent = codes "spent"

-- the line of a reply
abbrev pub reply_line : WatchReply → List ℕ
reply_line r = codes "worker " ++ decimal r.worker ++ codes " line " ++ decimal r.line ++ codes " " ++ watch_word r.what ++ codes "\n"

-- the line of both parts at last
abbrev pub now_line : ℕ → ℕ → List ℕ
now_line left right = codes "now " ++ decimal left ++ codes " " ++ decimal right ++ codes "\n"

-- how many nodes the cell was given, how many were freed to be reused, and how many are linked at rest
abbrev pub cell_line : ℕ → ℕ → ℕ → List ℕ
cell_line given reused linked = codes "cell given " ++ decimal given ++ codes " reused " ++ decimal reused ++ codes " linked " ++ decimal linked ++ codes "\n"

abbrev pub rest_lines : Option CellNumbers → List ℕ
rest_lines None = []
rest_lines (Some n) = codes "rest\n" ++ cell_line n.given n.reused n.linked

-- the text of these replies and these parts
abbrev pub watch_report : List WatchReply → ℕ → ℕ → Option CellNumbers → List ℕ
watch_report replies left right rest = codes "watch\n" ++ flat_map reply_line replies ++ now_line left right ++ rest_lines rest
