use Rattle.std.proofs.Common.{◌≢◌, ◌<◌, ℕ, get_or}
use Rattle.orc_trace_text.specs.Reading.{kind_word}
use Rattle.orc_trace_text.specs.declared.kind.StepKind.TheVariants as kind
use Rattle.orc_trace_text.specs.declared.kind.TheConstants.{KINDS}
use Rattle.orc_trace_text.proofs.kind.kind_of.Given as goal

abbrev pub invariant-loop-kind : goal.invariant-loop-kind
invariant-loop-kind l = (k : ℕ) → k < l.kind-index → l.word ≢ kind_word (get_or KINDS k kind.Enroll)
