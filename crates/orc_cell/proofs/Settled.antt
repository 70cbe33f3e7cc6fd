-- A call and the settling after it, by the call's answer.
use Rattle.std.proofs.Common.{Err, List, None, Ok, Option, Result, [], subst, ℕ, ◌<◌, ◌∙◌, ◌∷◌, ◌≡◌}
use Rattle.std.specs.Prelude.{IfErr, IfOk, Some, length}
use Rattle.orc_fault.specs.declared.Again.{Again as AgainFault}
use Rattle.orc_heap.specs.Allowed.{AllAllowed}
use Rattle.orc_heap.specs.Heap.{HeapNumbers, null, shown}
use Rattle.orc_heap.specs.OwnEvents.{Only}
use Rattle.orc_heap.specs.Seats.{IsIdle, Seat, heap_of}
use Rattle.orc_heap.specs.declared.events.Event.{Event}
use Rattle.orc_heap.specs.declared.events.Place.TheVariants.{Root}
use Rattle.orc_history.specs.Journals.{Adds}
use Rattle.orc_history.specs.Parts.{part_begin}
use Rattle.orc_pairs_rule.specs.declared.entry.CellEntry.{CellEntry}
use Rattle.orc_pairs_rule.specs.declared.entry.CellEntry.TheVariants.{Published, Seen}
use Rattle.orc_pairs_rule.specs.declared.pairs.PairsNote.{PairsNote}
use Rattle.orc_pairs_rule.specs.CellHistory.{agent_of_entry}
use Rattle.orc_pairs_rule.specs.PairsDiscipline.{IsStaging, PairsMay, entries_of}
use Rattle.orc_cell.specs.Answers.{AnswersPiece, PublishAnswers, ReadAnswers}
use Rattle.orc_cell.specs.Causes.{UsesTurns}
use Rattle.orc_cell.specs.Turns.{FindsOnly}
use Rattle.orc_cell.specs.declared.refused.CellRefused.{CellRefused}
use Rattle.orc_cell.specs.declared.refused.CellRefused.TheVariants.{Again, NoNode, Spent}
use Rattle.orc_cell.proofs.Answering.{any_answered, moved_before}
use Rattle.orc_cell.proofs.Journals.{call_adds, uses_turns}
use Rattle.orc_heap.proofs.InJournal.{CallSeen}
use Rattle.orc_cell.proofs.Pieces.{FindsOnly-trans, finds_none}
use Rattle.orc_cell.proofs.Staging.{answered_end, finds_piece, found_answered}

-- a publish

answers_settled : (n : HeapNumbers) (given : ℕ) (s t u : Seat PairsNote) (es : List CellEntry) → AnswersPiece n given s es t → Only [] t u
    → AllAllowed (PairsMay n) [] u.seen → AnswersPiece n given s es u
answers_settled n given s t u es x o all = record {
  answered = answered_end n given s t u es x.answered (found_answered n t u [] (finds_none t u o) all);
  fresh = o.fresh ∙ x.fresh;
}

pub publish_settled : (n : HeapNumbers) (given turns : ℕ) (left right : Option ℕ) (s t u : Seat PairsNote) (r : Result (ℕ × ℕ) CellRefused)
    → PublishAnswers n given turns left right s r t → Only [] t u → AllAllowed (PairsMay n) [] u.seen → PublishAnswers n given turns left right s r u
publish_settled n given turns left right s t u (Ok now) x o all = answers_settled n given s t u (Published s.agent left right now.0 now.1 ∷ []) x o all
publish_settled n given turns left right s t u (Err NoNode) x o all = answers_settled n given s t u [] x o all
publish_settled n given turns left right s t u (Err (Spent why)) x o all = answers_settled n given s t u [] x o all
publish_settled n given turns left right s t u (Err Again) x o all =
    let w = answers_settled n given s t u [] x.answers o all in
    record { answers = w; moved = moved_before s t u turns _ _ _ x.answers.answered.piece.puts o.puts w.answered.piece.puts x.moved }

-- a read

pub read_settled : (turns : ℕ) (s t u : Seat PairsNote) (r : Result (ℕ × ℕ) AgainFault) → ReadAnswers turns s r t → Only [] t u → ReadAnswers turns s r u
read_settled turns s t u (Ok got) x o = FindsOnly-trans s t u (Seen s.agent got.0 got.1 ∷ []) [] x (finds_none t u o)
read_settled turns s t u (Err again) x o =
    let w = FindsOnly-trans s t u [] [] x.only (finds_none t u o) in
    record { only = w; moved = moved_before s t u turns _ _ _ x.only.finds.puts o.puts w.finds.puts x.moved }

-- a read whatever it answered
pub any_read : (turns : ℕ) (s t : Seat PairsNote) (r : Result (ℕ × ℕ) AgainFault) → ReadAnswers turns s r t → (es : List CellEntry) × FindsOnly s es t
any_read turns s t (Ok got) x = (Seen s.agent got.0 got.1 ∷ [], x)
any_read turns s t (Err again) x = ([], x.only)

pub read_answers : (n : HeapNumbers) (turns : ℕ) (s t : Seat PairsNote) (r : Result (ℕ × ℕ) AgainFault) → ReadAnswers turns s r t → s.fresh ≡ None
    → AllAllowed (PairsMay n) [] t.seen → (es : List CellEntry) × AnswersPiece n 0 s es t
read_answers n turns s t r x none all =
    let y = any_read turns s t r x in
    (y.0, record { answered = found_answered n s t y.0 y.1 all; fresh = y.1.finds.fresh ∙ none })

-- a call and the settling at its end
pub record CallEnds (n : HeapNumbers) (given : ℕ) (s t u : Seat PairsNote) (OnAnswer : Type 0) : Type 0 where
  pub before : t.agent ≡ s.agent
  pub entries : List CellEntry
  pub after : AnswersPiece n given s entries u
  pub answers : OnAnswer

pub publish_ends : (n : HeapNumbers) (given turns : ℕ) (left right : Option ℕ) (s t u : Seat PairsNote) → Only [] t u → AllAllowed (PairsMay n) [] u.seen
    → (r : Result (ℕ × ℕ) CellRefused) → PublishAnswers n given turns left right s r t
    → CallEnds n given s t u (PublishAnswers n given turns left right s r u)
publish_ends n given turns left right s t u o all r x =
    let y = publish_settled n given turns left right s t u r x o all in
    let any = any_answered n given turns left right s u r y in
    record { before = (any_answered n given turns left right s t r x).1.answered.piece.puts.agent; entries = any.0; after = any.1; answers = y }

pub read_ends : (n : HeapNumbers) (turns : ℕ) (s t u : Seat PairsNote) → Only [] t u → AllAllowed (PairsMay n) [] u.seen → s.fresh ≡ None
    → (r : Result (ℕ × ℕ) AgainFault) → ReadAnswers turns s r t → CallEnds n 0 s t u (ReadAnswers turns s r u)
read_ends n turns s t u o all none r x =
    let y = read_settled turns s t u r x o in
    let any = read_answers n turns s u r y none all in
    record { before = (any_read turns s t r x).1.finds.puts.agent; entries = any.0; after = any.1; answers = y }

-- the pass after a call
pub idle_after : {n : HeapNumbers} {given : ℕ} {s t : Seat PairsNote} {es : List CellEntry} → IsIdle s → AnswersPiece n given s es t → IsIdle t
idle_after idle x = record { slots = x.answered.slots ∙ idle.slots; fresh = x.fresh }

pub staging_after : {n : HeapNumbers} {given : ℕ} {s t : Seat PairsNote} {es : List CellEntry} → AnswersPiece n given s es t
    → ((root : ℕ) → IsStaging s.agent root → shown (heap_of n s) (Root root) ≡ Some null)
    → (root : ℕ) → IsStaging t.agent root → shown (heap_of n t) (Root root) ≡ Some null
staging_after x empty root own =
    let own_s = subst (λ (i : ℕ). IsStaging i root) x.answered.piece.puts.agent own in
    x.answered.staging root own_s ∙ empty root own_s

-- the entries, by the answer

module _ {S : Type 0} {n : HeapNumbers} {agents : ℕ} {agent_of : S → ℕ} {events : List S → List (Event PairsNote)} {s t : Seat PairsNote} {j k : List S}
    (o : CallSeen PairsMay n agents agent_of events s t j k)
  where
    pub publish_ok : (given turns : ℕ) (left right : Option ℕ) (r : Result (ℕ × ℕ) CellRefused) → PublishAnswers n given turns left right s r t
        → IfOk r (λ now. Adds agent_of_entry (λ (a : ℕ). a < agents) s.agent (entries_of (events j)) (Published s.agent left right now.0 now.1 ∷ [])
        (entries_of (events k)))
    publish_ok given turns left right (Ok now) x = call_adds o given (Published s.agent left right now.0 now.1 ∷ []) x.answered.piece
    publish_ok given turns left right (Err why) x = tt

    pub publish_err : (given turns : ℕ) (left right : Option ℕ) (r : Result (ℕ × ℕ) CellRefused) → PublishAnswers n given turns left right s r t
        → IfErr r (λ e. Adds agent_of_entry (λ (a : ℕ). a < agents) s.agent (entries_of (events j)) [] (entries_of (events k)))
    publish_err given turns left right (Ok now) x = tt
    publish_err given turns left right (Err Again) x = call_adds o given [] x.answers.answered.piece
    publish_err given turns left right (Err NoNode) x = call_adds o given [] x.answered.piece
    publish_err given turns left right (Err (Spent why)) x = call_adds o given [] x.answered.piece

    pub publish_again : (given turns : ℕ) (left right : Option ℕ) (r : Result (ℕ × ℕ) CellRefused) → PublishAnswers n given turns left right s r t
        → r ≡ Err Again → UsesTurns events s.agent turns k (part_begin agent_of s.agent j k) (length k)
    publish_again given turns left right (Err Again) x is = uses_turns o turns _ x.answers.answered.piece.puts x.moved
    publish_again given turns left right (Ok now) x is = cc
    publish_again given turns left right (Err NoNode) x is = cc
    publish_again given turns left right (Err (Spent why)) x is = cc

    pub read_ok : (turns : ℕ) (r : Result (ℕ × ℕ) AgainFault) → ReadAnswers turns s r t
        → IfOk r (λ now. Adds agent_of_entry (λ (a : ℕ). a < agents) s.agent (entries_of (events j)) (Seen s.agent now.0 now.1 ∷ []) (entries_of (events k)))
    read_ok turns (Ok got) x = call_adds o 0 (Seen s.agent got.0 got.1 ∷ []) (finds_piece s t (Seen s.agent got.0 got.1 ∷ []) x.finds)
    read_ok turns (Err again) x = tt

    pub read_err : (turns : ℕ) (r : Result (ℕ × ℕ) AgainFault) → ReadAnswers turns s r t
        → IfErr r (λ e. Adds agent_of_entry (λ (a : ℕ). a < agents) s.agent (entries_of (events j)) [] (entries_of (events k)))
    read_err turns (Ok got) x = tt
    read_err turns (Err again) x = call_adds o 0 [] (finds_piece s t [] x.only.finds)

    pub read_again : (turns : ℕ) (r : Result (ℕ × ℕ) AgainFault) → ReadAnswers turns s r t
        → IfErr r (λ e. UsesTurns events s.agent turns k (part_begin agent_of s.agent j k) (length k))
    read_again turns (Ok got) x = tt
    read_again turns (Err again) x = uses_turns o turns _ x.only.finds.puts x.moved
