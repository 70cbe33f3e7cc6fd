-- What a call at a set answers, by what the agent's place shows before it, `old`, and after it, `new`.
use Rattle.std.specs.Prelude.{Bool, [], length, ℕ, ◌∷◌}
use Rattle.orc_fault.specs.declared.Spent.{Spent as SpentRow}
use Rattle.orc_history.specs.SetHistory.{IsLegalSet, agent_of_set_entry}
use Rattle.orc_history.specs.declared.set.SetEntry.{SetEntry}
use Rattle.orc_history.specs.declared.set.SetEntry.TheVariants.{Added, Asked, Removed}
use Rattle.orc_history.specs.declared.set.ListRefused.{ListRefused}
use Rattle.orc_history.specs.declared.set.ListRefused.TheVariants.{Again as UsedTurns, NoNode, Spent as UsedRow}
use Rattle.orc_history.specs.declared.set.SharedSet.{Ghosts as SetOf}
use Rattle.mooringakee_c_passes.specs.Views.{GoesOn, RefusesCall, CallView}
use Rattle.mooringakee_c_passes.specs.declared.answer.Answer.{Answer}
use Rattle.mooringakee_c_passes.specs.declared.answer.Answer.TheVariants.{Again, Done, Full, Spent}
use Rattle.mooringakee_c_passes.specs.declared.set_calls.KeyCall.{KeyCall}
use Rattle.mooringakee_c_passes.specs.declared.set_calls.KeyCall.TheVariants.{Contains, Insert, Remove}

-- what an agent's place at a set of any kind shows
abbrev pub SetCallView : Type 1
SetCallView = CallView SetEntry ListRefused

-- what a pass shows of any set that agents share, before a call with so many turns or after it
abbrev pub view_over : {S P J : Type 0} → SetOf S P J → S → ℕ → P → SetCallView
view_over members set turns p = record {
  agent_of = agent_of_set_entry;
  IsLegal = λ seen. IsLegalSet seen;
  seen = members.history set (members.journal p);
  agent = members.agent_of set p;
  crowd = members.crowd set;
  turns = turns;
  steps = length (members.journal p);
  has_cause = λ why from to. members.licence set (members.agent_of set p) turns why (members.journal p) from to;
}

-- an insert of this key, where the caller's variable is `after` the call
abbrev pub AnswersInsert : ℕ → Bool → SetCallView → Answer → SetCallView → Type 0
AnswersInsert key after old Done new = GoesOn old (Added old.agent key after ∷ []) new
AnswersInsert key after old Again new = RefusesCall old UsedTurns new
AnswersInsert key after old Full new = RefusesCall old NoNode new
AnswersInsert key after old Spent new = (row : SpentRow) × RefusesCall old (UsedRow row) new
AnswersInsert key after old _ new = ⊥

-- a remove
abbrev pub AnswersRemove : ℕ → Bool → SetCallView → Answer → SetCallView → Type 0
AnswersRemove key after old Done new = GoesOn old (Removed old.agent key after ∷ []) new
AnswersRemove key after old Again new = RefusesCall old UsedTurns new
AnswersRemove key after old _ new = ⊥

-- a question whether the key is present
abbrev pub AnswersQuestion : ℕ → Bool → SetCallView → Answer → SetCallView → Type 0
AnswersQuestion key after old Done new = GoesOn old (Asked old.agent key after ∷ []) new
AnswersQuestion key after old Again new = RefusesCall old UsedTurns new
AnswersQuestion key after old _ new = ⊥

-- any of these calls
abbrev pub AnswersCall : KeyCall → ℕ → Bool → SetCallView → Answer → SetCallView → Type 0
AnswersCall Insert key after old answer new = AnswersInsert key after old answer new
AnswersCall Remove key after old answer new = AnswersRemove key after old answer new
AnswersCall Contains key after old answer new = AnswersQuestion key after old answer new
