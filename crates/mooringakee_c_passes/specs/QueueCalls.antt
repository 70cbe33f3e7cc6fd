-- What a call at a queue answers, by what the agent's place shows before it, `old`, and after it, `new`.
use Rattle.std.specs.Prelude.{[], ℕ, ◌∷◌}
use Rattle.orc_history.specs.declared.queue.QueueEntry.{QueueEntry}
use Rattle.orc_history.specs.declared.queue.QueueEntry.TheVariants.{Empty as FoundNone, Put, Took}
use Rattle.orc_history.specs.declared.queue.QueueRefused.{QueueRefused}
use Rattle.orc_history.specs.declared.queue.QueueRefused.TheVariants.{Again as UsedTurns, NoNode, Positions as UsedPositions}
use Rattle.mooringakee_c_passes.specs.Views.{GoesOn, RefusesCall, CallView}
use Rattle.mooringakee_c_passes.specs.declared.answer.Answer.{Answer}
use Rattle.mooringakee_c_passes.specs.declared.answer.Answer.TheVariants.{Again, Done, Empty, Full, Positions}

-- what an agent's place at a queue shows
abbrev pub QueueCallView : Type 1
QueueCallView = CallView QueueEntry QueueRefused

-- a put of this value
abbrev pub AnswersPut : ℕ → QueueCallView → Answer → QueueCallView → Type 0
AnswersPut value old Done new = (at : ℕ) × GoesOn old (Put old.agent value at ∷ []) new
AnswersPut value old Again new = RefusesCall old UsedTurns new
AnswersPut value old Full new = RefusesCall old NoNode new
AnswersPut value old Positions new = RefusesCall old UsedPositions new
AnswersPut value old _ new = ⊥

-- a take, where the caller's variable is `after` the call
abbrev pub AnswersTake : ℕ → QueueCallView → Answer → QueueCallView → Type 0
AnswersTake after old Done new = (at : ℕ) × GoesOn old (Took old.agent after at ∷ []) new
AnswersTake after old Empty new = GoesOn old (FoundNone old.agent ∷ []) new
AnswersTake after old Again new = RefusesCall old UsedTurns new
AnswersTake after old _ new = ⊥
