use Rattle.std.proofs.Common.{IfOk, arith, subst, sym, ℕ, ◌≤◌}
use Rattle.orc_options.specs.declared.settings.SetKind.{SetKind}
use Rattle.orc_options.specs.declared.settings.SetKind.TheVariants as kind
use Rattle.orc_run.specs.Runs.{WorkedThrough}
use Rattle.orc_run.specs.Sets.{IsInRange}
use Rattle.orc_run.specs.declared.set.SetChoice.{SetChoice}
use Rattle.orc_program.specs.Headline.{choice_of}
use Rattle.orc_program.proofs.answer.Setup.run.Goals as goal

-- the buckets of the settings are in range
in_range : (which : SetKind) (buckets : ℕ) → 1 ≤ buckets → buckets ≤ 256 → IsInRange (choice_of which buckets)
in_range kind.List buckets some few = (some, few)
in_range kind.Split buckets some few = tt

pub invariant_of-task : goal.invariant_of-task
invariant_of-task g c = record {
  some_posters = (omega (arith, c.requires.ranges.some_posters), omega (arith, c.requires.ranges.few_posters));
  few_takers = c.requires.ranges.few_takers;
  some_rows = (omega (arith, c.requires.ranges.some_rows), c.requires.ranges.few_rows);
}

pub run_lines-requires-clause-set : goal.run_lines-requires-clause-set
run_lines-requires-clause-set g c = λ lives outlive.
    subst (λ (set : SetChoice). IsInRange set) (sym c.set_of.ensures)
    (in_range c.args.self.now.settings.set c.args.self.now.settings.buckets c.requires.ranges.some_buckets c.requires.ranges.few_buckets)

pub returns : goal.returns
returns g c =
    subst (λ (set : SetChoice). IfOk c.run_lines.result (λ f. WorkedThrough c.args.lines.now c.args.self.now.settings.posters c.args.self.now.settings.takers
    c.args.self.now.settings.rows set f)) c.set_of.ensures c.run_lines.ensures
