-- What is said of a run's set, whichever it is.
use Rattle.std.specs.Prelude.{◌+◌, ◌≤◌, ℕ}
use Rattle.orc_words.specs.Bounds.{Bounds}
use Rattle.orc_core.specs.Machine.{new_machine}
use Rattle.orc_sound.specs.Journals.{plain}
use Rattle.orc_machine_board.specs.Rules.{run_of}
use Rattle.orc_rest.specs.Reuse.{given, reused, rows_out}
use Rattle.orc_chain_rule.specs.ChainDiscipline.{ChainMay}
use Rattle.orc_split_rule.specs.SplitDiscipline.{SplitMay}
use Rattle.orc_domain.specs.Passes.{domain_bounds}
use Rattle.orc_domain.specs.Rest.{rest_domain, rest_journal}
use Rattle.orc_run.specs.declared.set.SetChoice.{SetChoice}
use Rattle.orc_run.specs.declared.set.SetChoice.TheVariants as choice
use Rattle.orc_run.specs.declared.set.SetRest.{SetRest}
use Rattle.orc_run.specs.declared.set.SetRest.TheVariants as at_rest
use Rattle.orc_at_rest.specs.Domains.{empty_seed}
use Rattle.orc_at_rest.specs.Journals.{HasJournal}
use Rattle.orc_at_rest.specs.Reuse.{LeaksNothing, ReusesSafely}

-- there are 1 to 256 lists
abbrev pub IsInRange : SetChoice → Type 0
IsInRange (choice.Lists buckets) = (1 ≤ buckets) × (buckets ≤ 256)
IsInRange choice.Split = Unit {0}

-- to how many buckets a split-ordered set grows at most
abbrev pub most_buckets : ℕ
most_buckets = 256

-- the roots of the set's domain: one a list; or one for each bucket that there can be, and one for their number
abbrev pub set_roots : SetChoice → ℕ
set_roots (choice.Lists buckets) = buckets
set_roots choice.Split = most_buckets + 1

-- the journal of the set that was chosen, over a domain of these sizes, which obeys its discipline
abbrev pub HasSetJournal : SetChoice → Bounds → SetRest → Type 0
HasSetJournal (choice.Lists buckets) b (at_rest.Lists r) = HasJournal ChainMay b empty_seed r
HasSetJournal choice.Split b (at_rest.Split r) = HasJournal SplitMay b empty_seed r
HasSetJournal set b r = ⊥

-- no row of the set's journal was used again while it was linked or held, nor twice
abbrev pub SetReusesSafely : Bounds → SetRest → Type 0
SetReusesSafely b (at_rest.Lists r) = ReusesSafely b (rest_journal r)
SetReusesSafely b (at_rest.Split r) = ReusesSafely b (rest_journal r)

-- the set's journal is at rest, and what was given was freed or is linked
abbrev pub SetLeaksNothing : Bounds → SetRest → Type 0
SetLeaksNothing b (at_rest.Lists r) = LeaksNothing b (rest_journal r)
SetLeaksNothing b (at_rest.Split r) = LeaksNothing b (rest_journal r)

-- how often a row was given and freed, and how many are linked, by the set's journal
abbrev pub set_given : SetRest → ℕ
set_given (at_rest.Lists r) = given (new_machine (domain_bounds (rest_domain r))) (plain (rest_journal r))
set_given (at_rest.Split r) = given (new_machine (domain_bounds (rest_domain r))) (plain (rest_journal r))

abbrev pub set_reused : SetRest → ℕ
set_reused (at_rest.Lists r) = reused (plain (rest_journal r))
set_reused (at_rest.Split r) = reused (plain (rest_journal r))

abbrev pub set_linked : SetRest → ℕ
set_linked (at_rest.Lists r) = rows_out (run_of (domain_bounds (rest_domain r)) (rest_journal r))
set_linked (at_rest.Split r) = rows_out (run_of (domain_bounds (rest_domain r)) (rest_journal r))
