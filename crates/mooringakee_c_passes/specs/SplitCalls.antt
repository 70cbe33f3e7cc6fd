-- What a question for the number of buckets answers, by what the agent's place shows before it, `old`, and after it, `new`.
use Rattle.std.specs.Prelude.{[], ℕ, ◌≤◌}
use Rattle.orc_core.specs.declared.records.Agent.{Agent}
use Rattle.orc_domain.specs.Passes.{domain_numbers, seat_of}
use Rattle.orc_domain.specs.declared.domain.OrcDomain.{OrcDomain}
use Rattle.orc_domain.specs.declared.domain.OrcPass.{OrcPass}
use Rattle.orc_heap.specs.declared.discipline.Discipline as discipline
use Rattle.orc_history.specs.declared.set.ListRefused.TheVariants.{Again as UsedTurns}
use Rattle.orc_machine_board.specs.declared.machine.MachineShape.{MachineShape}
use Rattle.orc_machine_board.specs.declared.machine.Reclaiming.{Reclaiming}
use Rattle.orc_machine_board.specs.declared.machine.Request.{Request}
use Rattle.orc_shared_words.specs.declared.machine.Machine as machine
use Rattle.orc_sound.specs.declared.steps.Step.{Step}
use Rattle.orc_split_rule.specs.SplitDiscipline.{IsSize, greatest, size_of}
use Rattle.orc_split_rule.specs.declared.split.Split.{Split}
use Rattle.orc_split_rule.specs.declared.split.SplitNote.{SplitNote}
use Rattle.mooringakee_c_passes.specs.Kinds.{split, calls_view}
use Rattle.mooringakee_c_passes.specs.SetCalls.{SetCallView}
use Rattle.mooringakee_c_passes.specs.Views.{GoesOn, RefusesCall}
use Rattle.mooringakee_c_passes.specs.declared.answer.Answer.{Answer}
use Rattle.mooringakee_c_passes.specs.declared.answer.Answer.TheVariants.{Again, Done}

-- what an agent's place at a split-ordered set shows: its calls; the number of buckets after the steps that its pass has seen; and to how
-- many the set grows at most
pub record SplitView : Type 1 where
  pub calls : SetCallView
  pub buckets : ℕ
  pub most : ℕ

module _ {d : discipline.Ghosts Split SplitNote} {m : machine.Ghosts Reclaiming SplitNote (MachineShape SplitNote) Request (Step SplitNote) Agent Agent} where
  -- what a pass to this domain shows, before a call with so many turns or after it
  abbrev pub split_view : OrcDomain Split SplitNote → ℕ → OrcPass Split SplitNote d m → SplitView
  split_view domain turns p = record {
    calls = calls_view split domain turns p;
    buckets = size_of (domain_numbers domain) (seat_of domain p).seen;
    most = greatest (domain_numbers domain);
  }

-- so many buckets there were at a moment of the call: a power of two, no fewer than before it, and no more than after it
abbrev pub SawBuckets : ℕ → SplitView → SplitView → Type 0
SawBuckets count old new = IsSize old.most count × (old.buckets ≤ count) × (count ≤ new.buckets)

-- a question how many buckets there are, where the caller's variable is `after` the call: no call of the set is entered
abbrev pub CountsBuckets : ℕ → SplitView → Answer → SplitView → Type 0
CountsBuckets after old Done new = GoesOn old.calls [] new.calls × SawBuckets after old new
CountsBuckets after old Again new = RefusesCall old.calls UsedTurns new.calls
CountsBuckets after old _ new = ⊥
