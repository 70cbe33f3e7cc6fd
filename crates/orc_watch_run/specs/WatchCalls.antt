-- What the contracts of a worker's calls say of a pass before a call, `old`, and after it, `new`.
use Rattle.std.specs.Prelude.{List, ℕ, ◌≡◌}
use Rattle.orc_board.specs.Stretches.{Did, Stretch, refusal}
use Rattle.orc_cell.specs.declared.refused.CellRefused.{CellRefused}
use Rattle.orc_heap.specs.Domains.{agent}
use Rattle.orc_heap.specs.declared.links.Links.{Ghosts as LinksOf}
use Rattle.orc_pairs_rule.specs.declared.entry.CellEntry.{CellEntry}
use Rattle.orc_pairs_rule.specs.declared.pairs.PairsNote.{PairsNote}
use Rattle.orc_watch.specs.declared.line.WatchLine.{WatchLine}
use Rattle.orc_watch.specs.declared.reply.WatchReply.{WatchReply}
use Rattle.orc_watch.specs.declared.reply.WatchWord.{WatchWord}
use Rattle.orc_watch_run.specs.CellView.{cell_view, of_cell}
use Rattle.orc_watch_run.specs.Follows.{DidLine, Watching}

module _ {L D P S : Type 0} (members : LinksOf L D P S PairsNote) (links : L) where
  -- the call made these entries of its agent, and no others
  abbrev pub CellCall : P → P → (ℕ → List CellEntry) → Type 0
  CellCall old new entries = Stretch of_cell (cell_view members links) (agent members links old) (entries (agent members links old)) (members.journal old)
      (members.journal new)

  -- the call was refused for this cause, and made none
  abbrev pub CellRefuses : P → P → CellRefused → Type 0
  CellRefuses old new why = Did of_cell (cell_view members links) (agent members links old) (refusal why) (members.journal old) (members.journal new)

  -- the pass has the same agent
  abbrev pub KeepsAgent : P → P → Type 0
  KeepsAgent old new = agent members links new ≡ agent members links old

  -- the pass's agent did with this line what the word says
  abbrev pub AnswersLine : P → P → WatchLine → WatchWord → Type 0
  AnswersLine old new line what = DidLine (cell_view members links) (agent members links old) line what (members.journal old) (members.journal new)

  -- these replies are all that the worker did
  abbrev pub Watches : P → P → List WatchLine → ℕ → List WatchReply → Type 0
  Watches old new lines worker replies = Watching (cell_view members links) lines worker replies (members.journal old) (members.journal new)
