-- A domain at rest: one pass has taken in all others.
use Rattle.std.specs.Prelude.{All, List, ◌++◌, ◌+◌, ◌≡◌}
use mathlib.Core.List.{IsPrefix}
use Rattle.orc_machine_rest.specs.Ends.{CountsOf}
use Rattle.orc_machine_rest.specs.Looks.{gate_looks}
use Rattle.orc_any_domain.specs.declared.domain.RowCounts.{RowCounts}
use Rattle.orc_heap.specs.declared.discipline.Discipline as discipline
use Rattle.orc_core.specs.Machine.{new_machine}
use Rattle.orc_core.specs.declared.records.Agent.{Agent}
use Rattle.orc_machine_board.specs.Passes.{TookInAll}
use Rattle.orc_machine_board.specs.Rules.{run_of}
use Rattle.orc_machine_board.specs.Views.{Belongs, board_bounds, shows}
use Rattle.orc_machine_board.specs.declared.machine.MachineShape.{MachineShape}
use Rattle.orc_machine_board.specs.declared.machine.Reclaiming.{Reclaiming}
use Rattle.orc_machine_board.specs.declared.machine.Request.{Request}
use Rattle.orc_domain.specs.Ends.{whole_journal}
use Rattle.orc_domain.specs.Passes.{domain_bounds, journal_of}
use Rattle.orc_domain.specs.declared.domain.OrcDomain.{OrcDomain}
use Rattle.orc_domain.specs.declared.domain.OrcPass.{OrcPass}
use Rattle.orc_domain.specs.declared.at_rest.OrcRest.{OrcRest}
use Rattle.orc_projection.specs.Projection.{project}
use Rattle.orc_rest.specs.Rest.{IsAtRest}
use Rattle.orc_rest.specs.Reuse.{given, reused, rows_out}
use Rattle.orc_shared_words.specs.declared.machine.Machine as machine
use Rattle.orc_sound.specs.Journals.{plain}
use Rattle.orc_sound.specs.declared.steps.Step.{Step}
use Rattle.orc_words.specs.Bounds.{Bounds}

-- a journal goes on without a heap event
pub record GoesOnQuietly {N : Type 0} (b : Bounds) (before after : List (Step N)) : Type 0 where
  pub later : IsPrefix before after
  pub quiet : project b after ≡ project b before

module _ {D N : Type 0} {d : discipline.Ghosts D N} {m : machine.Ghosts Reclaiming N (MachineShape N) Request (Step N) Agent Agent} where
  -- the domain, and the whole list of its steps
  abbrev pub rest_domain : OrcRest D N d m → OrcDomain D N
  rest_domain r = r.domain

  abbrev pub rest_journal : OrcRest D N d m → List (Step N)
  rest_journal r = (shows r.pass).journal

  -- the pass that is left is one of the board's, so the board has shown this list; and it took in all others, so the list is whole
  pub record IsShown (r : OrcRest D N d m) : Type 0 where
    pub belongs : Belongs r.domain.board r.pass
    pub all : TookInAll (board_bounds r.domain.board) (shows r.pass)

  -- this domain, of which one of these passes has taken in all others and then looked at each gate, is at rest, with these counts
  pub record ComesToRest (domain : OrcDomain D N) (passes : List (OrcPass D N d m))
      (counts : RowCounts) : Type 0 where
    pub rest : OrcRest D N d m
    pub domain_is : rest_domain rest ≡ domain
    pub shown : IsShown rest
    pub journal : rest_journal rest ≡ whole_journal passes ++ gate_looks 0 (domain_bounds domain).rows
    pub at_rest : IsAtRest (run_of (domain_bounds domain) (rest_journal rest))
    pub counts_are : CountsOf (domain_bounds domain) (rest_journal rest) counts

  -- this is the domain at rest, which had these passes: its board has shown one whole journal, in which what was given was freed or
  -- is out, which goes on from what each pass had seen, and without an event from what all had seen
  pub record IsRestOf (domain : OrcDomain D N) (passes : List (OrcPass D N d m))
      (r : OrcRest D N d m) : Type 0 where
    pub domain_is : rest_domain r ≡ domain
    pub shown : IsShown r
    pub at_rest : IsAtRest (run_of (domain_bounds domain) (rest_journal r))
    pub balance : given (new_machine (domain_bounds domain)) (plain (rest_journal r))
        ≡ reused (plain (rest_journal r)) + rows_out (run_of (domain_bounds domain) (rest_journal r))
    pub heard : All (λ p. IsPrefix (journal_of p) (rest_journal r)) passes
    pub journal : (seen : List (Step N)) → All (λ p. journal_of p ≡ seen) passes → GoesOnQuietly (domain_bounds domain) seen (rest_journal r)
