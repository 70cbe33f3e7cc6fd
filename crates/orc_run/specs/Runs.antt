-- What a run leaves: one journal for each container, and replies that follow all three.
use Rattle.std.specs.Prelude.{Bool, List, ℕ}
use Rattle.orc_words.specs.Bounds.{Bounds}
use Rattle.orc_core.specs.declared.records.Agent.{Agent}
use Rattle.orc_sound.specs.declared.steps.Step.{Step}
use Rattle.orc_heap.specs.declared.discipline.Discipline as discipline
use Rattle.orc_shared_words.specs.declared.machine.Machine as machine
use Rattle.orc_machine_board.specs.declared.machine.MachineShape.{MachineShape}
use Rattle.orc_machine_board.specs.declared.machine.Reclaiming.{Reclaiming}
use Rattle.orc_machine_board.specs.declared.machine.Request.{Request}
use Rattle.orc_fifo_rule.specs.declared.fifo.FifoNote.{FifoNote}
use Rattle.orc_history.specs.declared.set.ListRefused.{ListRefused}
use Rattle.orc_history.specs.declared.set.SetEntry.{SetEntry}
use Rattle.orc_domain.specs.Rest.{rest_journal}
use Rattle.orc_domain.specs.declared.at_rest.OrcRest.{OrcRest}
use Rattle.orc_jobs.specs.declared.line.Line.{Line}
use Rattle.orc_board.specs.Runs.{Ran}
use Rattle.orc_board.specs.Stretches.{View, pick}
use Rattle.orc_board.specs.declared.replies.Replies.{Replies}
use Rattle.orc_run.specs.declared.run.Finished.{Finished}
use Rattle.orc_run.specs.declared.set.SetChoice.{SetChoice}
use Rattle.orc_run.specs.declared.set.SetRest.{SetRest}
use Rattle.orc_run.specs.declared.set.SetRest.TheVariants as at_rest
use Rattle.orc_at_rest.specs.Domains.{agents_of, run_bounds}
use Rattle.orc_at_rest.specs.Queues.{queue_over}
pub use Rattle.orc_at_rest.specs.Domains.{queue_bounds}
pub use Rattle.orc_at_rest.specs.Journals.{EndsWithoutLeak, ReusesRowsSafely}
pub use Rattle.orc_at_rest.specs.Queues.{HasQueueJournal}
use Rattle.orc_run.specs.Containers.{set_over, split_over}
use Rattle.orc_run.specs.Sets.{HasSetJournal, SetLeaksNothing, SetReusesSafely, set_roots}

-- the sizes of the set's domain in a run of so many posters and takers with so many rows
abbrev pub set_bounds : ℕ → ℕ → ℕ → SetChoice → Bounds
set_bounds posters takers rows set = run_bounds rows (set_roots set) (agents_of posters takers)

module _ {D : Type 0} {d : discipline.Ghosts D FifoNote}
    {m : machine.Ghosts Reclaiming FifoNote (MachineShape FifoNote) Request (Step FifoNote) Agent Agent}
  where
    -- the replies follow the journals of both queues and this journal of a set, whose histories are legal and leave both queues empty
    abbrev pub Follow : {B : Type 0} → List Line → ℕ → ℕ → ℕ → Replies → (queue rush : OrcRest D FifoNote d m) → View B SetEntry ListRefused → List B → Type 0
    Follow lines posters takers rows replies queue rush set journal =
        Ran (λ rush_too. queue_over 0 (queue_bounds posters takers rows)) set lines posters takers
        replies.posts.items replies.takes.items (λ rush_too. rest_journal (pick queue rush rush_too)) journal

-- the replies follow the journals of both queues and of the set that was left
abbrev pub FollowWith : List Line → ℕ → ℕ → ℕ → Bounds → Finished → SetRest → Type 0
FollowWith lines posters takers rows b f (at_rest.Lists r) = Follow lines posters takers rows f.replies f.queue f.rush (set_over b) (rest_journal r)
FollowWith lines posters takers rows b f (at_rest.Split r) = Follow lines posters takers rows f.replies f.queue f.rush (split_over b) (rest_journal r)

-- So many posters and takers worked through these lines, over containers of so many rows, with the set that was chosen. The journals
-- that were left, of the queue, of the rush queue and of the set, are the actual ones of their three domains. The replies follow them:
-- each worker's calls stand in them once and in its order, the histories are those of one thread, and each job that was put was taken,
-- with one reply. No row was used again while it was linked or held, nor twice; and at the end what was given was freed or is linked.
pub record WorkedThrough (lines : List Line) (posters takers rows : ℕ) (set : SetChoice) (f : Finished) : Type 0 where
  pub queue_journals : (rush : Bool) → HasQueueJournal (queue_bounds posters takers rows) (pick f.queue f.rush rush)
  pub set_journal : HasSetJournal set (set_bounds posters takers rows set) f.set
  pub replies : FollowWith lines posters takers rows (set_bounds posters takers rows set) f f.set
  pub queues_reuse : (rush : Bool) → ReusesRowsSafely (queue_bounds posters takers rows) (pick f.queue f.rush rush)
  pub set_reuse : SetReusesSafely (set_bounds posters takers rows set) f.set
  pub queues_rest : (rush : Bool) → EndsWithoutLeak (queue_bounds posters takers rows) (pick f.queue f.rush rush)
  pub set_rest : SetLeaksNothing (set_bounds posters takers rows set) f.set
