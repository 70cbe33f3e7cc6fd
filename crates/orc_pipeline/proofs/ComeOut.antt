-- Where each job found a place everywhere, all of them come out.
use Rattle.std.proofs.Common.{◌≡◌, ◌≢◌, ℕ, zero, suc, ◌<◌, ◌≤◌, ◌==◌, arith, List, [], ◌∷◌, ◌++◌, true, false, map, Option, Some, None, refl, ap, sym, ◌∙◌, append-nil}
use Rattle.std.specs.List.{AllByRecursion}
use Rattle.orc_history.specs.declared.queue.QueueEntry.{QueueEntry}
use Rattle.orc_history.specs.declared.queue.QueueRefused.{QueueRefused}
use Rattle.orc_jobs.specs.declared.line.Line.{Line}
use Rattle.orc_board.specs.declared.replies.PostReply.{PostReply}
use Rattle.orc_board.specs.Stretches.{View}
use Rattle.orc_board.proofs.ListFacts.{AllByRecursion-filter}
use Rattle.orc_stages.specs.declared.replies.StageReply.{StageReply}
use Rattle.orc_stages.specs.Stage.{jobs_of}
use Rattle.orc_pipeline.specs.Pipeline.{kept_replies, kept_one, lines_of, moves_of, IsPipeline}
use Rattle.orc_pipeline.proofs.Jobs.{legal_jobs}

-- a reply with a value is kept
one_kept : (line : ℕ) (value : Option ℕ) (rest : List ℕ) → value ≢ None → kept_one line value ++ rest ≡ line ∷ rest
one_kept line None rest some = absurd (some refl)
one_kept line (Some v) rest some = refl

all_kept : (rs : List StageReply) → AllByRecursion (λ (r : StageReply). r.value ≢ None) rs → kept_replies rs ≡ lines_of rs
all_kept [] h = refl
all_kept (r ∷ rs) h = one_kept r.line r.value (kept_replies rs) h.0 ∙ ap (λ z. r.line ∷ z) (all_kept rs h.1)

module _ {A : Type 0} (x : ℕ → View A QueueEntry QueueRefused) (lines : List Line) (posters stages : ℕ) (posts : List PostReply) (moves : List StageReply)
    (outs : List ℕ) (k : ℕ → List A) (p : IsPipeline x lines posters stages posts moves outs k)
    (placed : AllByRecursion (λ (r : StageReply). r.value ≢ None) moves) where
  abbrev h : ℕ → List QueueEntry
  h i = (x i).history (k i)

  -- what was put was taken, in order
  through : (i : ℕ) → i ≤ stages → jobs_of true (h i) ≡ jobs_of false (h i)
  through i low =
      legal_jobs 0 [] (h i) (p.legal i low)
      ∙ (ap (λ z. jobs_of false (h i) ++ map (λ (w : ℕ × ℕ). w.0) z) (p.empty i low) ∙ append-nil (jobs_of false (h i)))

  each : (i : ℕ) → i ≤ stages → jobs_of false (h i) ≡ jobs_of true (h 0)
  each zero low = sym (through 0 low)
  each (suc i) low =
      let less : i < stages = omega (arith, low) in
      let s = p.moved i less in
      let all : AllByRecursion (λ (r : StageReply). r.value ≢ None) (moves_of (suc i) moves) =
      AllByRecursion-filter (λ (r : StageReply). r.value ≢ None) (λ (r : StageReply). r.stage == suc i) moves placed in
      sym (through (suc i) low) ∙ (s.puts ∙ (all_kept (moves_of (suc i) moves) all ∙ (sym s.tooks ∙ each i (omega (arith, low)))))

  pub come_out : outs ≡ jobs_of true (h 0)
  come_out = p.outs_are ∙ each stages (omega arith)
