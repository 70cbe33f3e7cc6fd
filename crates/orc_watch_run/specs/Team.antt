-- Workers before and after their work.
use Rattle.std.specs.Prelude.{List, [], length, map, ℕ, ◌≡◌, ◌≤◌}
use Rattle.orc_board.specs.Follows.{own_records}
use Rattle.orc_board.specs.ListWithRoom.{ListWithRoom}
use Rattle.orc_heap.specs.declared.links.Links.{Ghosts as LinksOf}
use Rattle.orc_pairs_rule.specs.declared.pairs.PairsNote.{PairsNote}
use Rattle.orc_team.specs.declared.team.Worker.{Worker}
use Rattle.orc_watch.specs.declared.line.WatchLine.{WatchLine}
use Rattle.orc_watch.specs.declared.reply.WatchReply.{WatchReply}
use Rattle.orc_watch_run.specs.Passes.{IsUsablePassOf}
use Rattle.orc_watch_run.specs.WatchCalls.{Watches}

-- a worker with a pass of the cell
abbrev pub Watcher : Type 0 → Type 0
Watcher P = Worker P (ListWithRoom WatchReply)

-- an empty list with room for so many replies
pub record IsRoom (lines : ℕ) (room : ListWithRoom WatchReply) : Type 0 where
  pub none : room.items ≡ []
  pub spare : room.spare ≡ lines

module _ {L D P S : Type 0} (members : LinksOf L D P S PairsNote) (links : L) (lines : List WatchLine) (workers : ℕ) where
  -- a worker that may begin: no caller, with a usable pass of its own, and with room for all that it may reply
  pub record IsReady (w : Watcher P) : Type 0 where
    pub few : length lines ≤ 65535
    pub no_caller : 1 ≤ w.agent
    pub in_run : w.agent ≤ workers
    pub is_pass : IsUsablePassOf members links w.agent w.desk
    pub none : w.replies.items ≡ []
    pub room : length (own_records workers w.agent (length lines)) ≤ w.replies.spare

  -- what a worker has become by its work
  pub record DidWork (w v : Watcher P) : Type 0 where
    pub agent_is : v.agent ≡ w.agent
    pub no_caller : 1 ≤ v.agent
    pub is_pass : IsUsablePassOf members links v.agent v.desk
    pub watched : Watches members links w.desk v.desk lines v.agent v.replies.items
    pub in_file_order : map (λ (r : WatchReply). r.line) v.replies.items ≡ own_records workers v.agent (length lines)
