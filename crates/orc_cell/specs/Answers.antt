-- What a call did, by its answer.
use Rattle.std.specs.Prelude.{Err, List, None, Ok, Option, Result, [], ℕ, ◌∷◌, ◌≡◌, ◌≤◌}
use Rattle.orc_fault.specs.declared.Again.{Again as AgainFault}
use Rattle.orc_heap.specs.Heap.{HeapNumbers}
use Rattle.orc_heap.specs.Moves.{from_own}
use Rattle.orc_heap.specs.Seats.{Seat}
use Rattle.orc_pairs_rule.specs.declared.entry.CellEntry.{CellEntry}
use Rattle.orc_pairs_rule.specs.declared.entry.CellEntry.TheVariants.{Published, Seen}
use Rattle.orc_pairs_rule.specs.declared.pairs.PairsNote.{PairsNote}
use Rattle.orc_cell.specs.Publishes.{Answered}
use Rattle.orc_cell.specs.Turns.{FindsOnly, ReadsOver, others_moves}
use Rattle.orc_cell.specs.declared.refused.CellRefused.{CellRefused}
use Rattle.orc_cell.specs.declared.refused.CellRefused.TheVariants.{Again, NoNode, Spent}

-- a piece of a call that gave at most so many nodes: the pass holds what it held, has no fresh node, and its staging roots show
-- what they showed
pub record AnswersPiece (n : HeapNumbers) (given : ℕ) (s : Seat PairsNote) (entries : List CellEntry) (t : Seat PairsNote) : Type 0 where
  pub answered : Answered n given s entries t
  pub fresh : t.fresh ≡ None

-- all turns were used: as many Moves of root 0 by others stand in it
pub record AnswersAgain (n : HeapNumbers) (given turns : ℕ) (s t : Seat PairsNote) : Type 0 where
  pub answers : AnswersPiece n given s [] t
  pub moved : turns ≤ others_moves s.agent (from_own s.agent answers.answered.piece.puts.part)

-- by the answer
abbrev pub PublishAnswers : HeapNumbers → ℕ → ℕ → Option ℕ → Option ℕ → Seat PairsNote → Result (ℕ × ℕ) CellRefused → Seat PairsNote → Type 0
PublishAnswers n given turns left right s (Ok now) t = AnswersPiece n given s (Published s.agent left right now.0 now.1 ∷ []) t
PublishAnswers n given turns left right s (Err Again) t = AnswersAgain n given turns s t
PublishAnswers n given turns left right s (Err NoNode) t = AnswersPiece n given s [] t
PublishAnswers n given turns left right s (Err (Spent why)) t = AnswersPiece n given s [] t

-- of a read, by the answer
abbrev pub ReadAnswers : ℕ → Seat PairsNote → Result (ℕ × ℕ) AgainFault → Seat PairsNote → Type 0
ReadAnswers turns s (Ok got) t = FindsOnly s (Seen s.agent got.0 got.1 ∷ []) t
ReadAnswers turns s (Err again) t = ReadsOver turns s t
