-- What has ended was left by a run, so its rows were reused safely, and none leaked.
use Rattle.std.proofs.Common.{◌≡◌, List, [], ◌∷◌, ℕ, inl, inr, subst, sym}
use Rattle.orc_watch.specs.declared.line.WatchLine.{WatchLine}
use Rattle.orc_watch_domain.specs.Runs.{WatchedThrough, watch_bounds}
use Rattle.orc_watch_domain.specs.declared.watch.WatchFinished.{WatchFinished}
use Rattle.orc_words.specs.Bounds.{Bounds}
use Rattle.std.specs.List.{AllByRecursion}
use Rattle.orc_core.specs.declared.records.Agent.{Agent}
use Rattle.orc_fifo_rule.specs.declared.fifo.Fifo.{Fifo}
use Rattle.orc_fifo_rule.specs.declared.fifo.FifoNote.{FifoNote}
use Rattle.orc_heap.specs.Heap.{HeapNumbers}
use Rattle.orc_heap.specs.declared.discipline.Discipline as discipline
use Rattle.orc_heap.specs.declared.events.Event.{Event}
use Rattle.orc_heap.specs.declared.seed.Seed.{Seed}
use Rattle.orc_at_rest.specs.Journals.{HasJournal}
use Rattle.orc_machine_board.specs.declared.machine.MachineShape.{MachineShape}
use Rattle.orc_machine_board.specs.declared.machine.Reclaiming.{Reclaiming}
use Rattle.orc_machine_board.specs.declared.machine.Request.{Request}
use Rattle.orc_domain.specs.declared.at_rest.OrcRest.{OrcRest}
use Rattle.orc_shared_words.specs.declared.machine.Machine as machine
use Rattle.orc_sound.specs.declared.steps.Step.{Step}
use Rattle.orc_stages_run.specs.Runs.{WentThrough}
use Rattle.orc_stages_run.specs.declared.run.StagesFinished.{StagesFinished}
use Rattle.orc_board.specs.Stretches.{pick}
use Rattle.orc_jobs.specs.declared.line.Line.{Line}
use Rattle.orc_options.specs.declared.settings.Mode.{Mode}
use Rattle.orc_options.specs.declared.settings.Mode.TheVariants as mode
use Rattle.orc_options.specs.declared.settings.Settings.{Settings}
use Rattle.orc_run.specs.Runs.{EndsWithoutLeak, HasQueueJournal, ReusesRowsSafely, queue_bounds, set_bounds}
use Rattle.orc_run.specs.Sets.{HasSetJournal, SetLeaksNothing, SetReusesSafely}
use Rattle.orc_run.specs.declared.set.SetChoice.{SetChoice}
use Rattle.orc_run.specs.declared.set.SetChoice.TheVariants as choice
use Rattle.orc_run.specs.declared.set.SetRest.{SetRest}
use Rattle.orc_run.specs.declared.set.SetRest.TheVariants as at_rest
use Rattle.orc_run.specs.declared.run.Finished.{Finished}
use Rattle.orc_program.specs.declared.ended.Ended.{Ended}
use Rattle.orc_program.specs.declared.ended.Ended.TheVariants as end
use Rattle.orc_program.specs.declared.jobs_mode.Way.{Way}
use Rattle.orc_program.specs.declared.jobs_mode.Way.TheVariants as way
use Rattle.orc_program.specs.Answers.{ProgramAnswers, AnswersJobs, AnswersWatch, ModeAnswers}
use Rattle.orc_program.specs.Ended.{EndsSafely, RestsSafely, SetRestsSafely, generated_lines}
use Rattle.orc_program.specs.Headline.{WorkedThrough, set_of}

-- what is kept rests safely where it was left
kept_so : (ended what : Ended) → ended ≡ what → EndsSafely what → EndsSafely ended
kept_so ended what is h = subst (λ (e : Ended). EndsSafely e) (sym is) h

pub of_none : (ended : Ended) → ended ≡ end.Nothing → EndsSafely ended
of_none ended is = kept_so ended end.Nothing is tt

-- a domain at rest whose journal is the actual one, by which rows were reused safely and none leaked
module _ {D N : Type 0} {d : discipline.Ghosts D N} {m : machine.Ghosts Reclaiming N (MachineShape N) Request (Step N) Agent Agent} where
  rests : {may : HeapNumbers → List (Event N) → Event N → Type 0} {seed : Seed N} (b : Bounds) (r : OrcRest D N d m) → HasJournal may b seed r
      → ReusesRowsSafely b r → EndsWithoutLeak b r → RestsSafely r
  rests b r journal reuse leak = record {
    shown = journal.shown;
    reuse = subst (λ (c : Bounds). ReusesRowsSafely c r) (sym journal.sizes) reuse;
    rest = subst (λ (c : Bounds). EndsWithoutLeak c r) (sym journal.sizes) leak;
  }

of_set : (which : SetChoice) (b : Bounds) (rest : SetRest) → HasSetJournal which b rest → SetReusesSafely b rest → SetLeaksNothing b rest
    → SetRestsSafely rest
of_set (choice.Lists buckets) b (at_rest.Lists r) journal reuse leak = rests b r journal reuse leak
of_set (choice.Lists buckets) b (at_rest.Split r) journal reuse leak = absurd journal
of_set choice.Split b (at_rest.Lists r) journal reuse leak = absurd journal
of_set choice.Split b (at_rest.Split r) journal reuse leak = rests b r journal reuse leak

of_run : (lines : List Line) (s : Settings) (f : Finished) → WorkedThrough lines s f → EndsSafely (end.Run f)
of_run lines s f run = (
  λ rush. rests (queue_bounds s.posters s.takers s.rows) (pick f.queue f.rush rush) (run.queue_journals rush) (run.queues_reuse rush) (run.queues_rest rush),
  of_set (set_of s) (set_bounds s.posters s.takers s.rows (set_of s)) f.set run.set_journal run.set_reuse run.set_rest,
)

of_watch : (lines : List WatchLine) (s : Settings) (f : WatchFinished) → WatchedThrough lines s.posters s.rows f → EndsSafely (end.Watch f)
of_watch lines s f run = rests (watch_bounds s.posters s.rows) f.cell run.journal run.reuse run.rest

-- of each of several domains of these sizes
module _ {d : discipline.Ghosts Fifo FifoNote}
    {m : machine.Ghosts Reclaiming FifoNote (MachineShape FifoNote) Request (Step FifoNote) Agent Agent}
  where
    each_by_domain : (b : Bounds) (rs : List (OrcRest Fifo FifoNote d m)) → AllByRecursion (HasQueueJournal b) rs
        → AllByRecursion (λ r. ReusesRowsSafely b r) rs → AllByRecursion (λ r. EndsWithoutLeak b r) rs
        → AllByRecursion (λ r. RestsSafely r) rs
    each_by_domain b [] journals reuse leak = tt
    each_by_domain b (r ∷ rs) journals reuse leak = (
      rests b r journals.0 reuse.0 leak.0,
      each_by_domain b rs journals.1 reuse.1 leak.1,
    )

of_stages : (lines : List Line) (s : Settings) (f : StagesFinished) → WentThrough lines s.posters s.stages s.rows f → EndsSafely (end.Stages f)
of_stages lines s f run = each_by_domain (queue_bounds s.posters s.stages s.rows) f.queues.items run.journals run.reuse run.rest

of_jobs : (w : Way) (s : Settings) (bytes : List ℕ) (ended : Ended) (status : ℕ) (text : List ℕ) → AnswersJobs w s bytes ended status text → EndsSafely ended
of_jobs way.Board s bytes ended status text (inl (is, (lines, file, h))) = kept_so ended (end.Run h.finished) h.kept (of_run lines s h.finished h.headline.run)
of_jobs way.Stages s bytes ended status text (inl (is, (lines, file, h))) = kept_so ended (end.Stages h.finished) h.kept (of_stages lines s h.finished h.run)
of_jobs w s bytes ended status text (inr h) = of_none ended h.1

of_watched : (s : Settings) (bytes : List ℕ) (ended : Ended) (status : ℕ) (text : List ℕ) → AnswersWatch s bytes ended status text → EndsSafely ended
of_watched s bytes ended status text (inl (is, (lines, file, h))) = kept_so ended (end.Watch h.finished) h.kept (of_watch lines s h.finished h.run)
of_watched s bytes ended status text (inr h) = of_none ended h.1

of_mode : (m : Mode) (s : Settings) (bytes : List ℕ) (ended : Ended) (status : ℕ) (text : List ℕ) → ModeAnswers m s bytes ended status text
    → EndsSafely ended
of_mode mode.Run s bytes ended status text h = of_jobs way.Board s bytes ended status text h
of_mode mode.Make s bytes ended status text h = of_none ended h.1
of_mode mode.Trial s bytes ended status text h = kept_so ended (end.Run h.1.finished) h.1.kept (of_run (generated_lines s) s h.1.finished h.1.run)
of_mode mode.Replay s bytes ended status text h = of_none ended h.0
of_mode mode.Audit s bytes ended status text h = of_none ended h.0
of_mode mode.Watch s bytes ended status text h = of_watched s bytes ended status text h
of_mode mode.Stages s bytes ended status text h = of_jobs way.Stages s bytes ended status text h

pub of_answer : (s : Settings) (bytes : List ℕ) (ended : Ended) (status : ℕ) (text : List ℕ) → ProgramAnswers s bytes ended status text → EndsSafely ended
of_answer s bytes ended status text (inl h) = of_none ended h.1
of_answer s bytes ended status text (inr h) = of_mode s.mode s bytes ended status text h.1
