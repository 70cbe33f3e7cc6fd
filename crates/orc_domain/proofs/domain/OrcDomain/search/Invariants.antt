use Rattle.std.specs.Prelude.{◌≡◌}
use Rattle.orc_machine_board.specs.Views.{Belongs, shows}
use Rattle.orc_domain.specs.Passes.{domain_bounds}
use Rattle.orc_domain.specs.Searches.{TriedRows}
use Rattle.orc_domain.proofs.domain.OrcDomain.search.Given as goal

-- the rows up to this offset were tried
abbrev pub invariant-loop-offset : goal.invariant-loop-offset
invariant-loop-offset g l =
    Belongs l.self.board l.p × (l.rows ≡ (domain_bounds l.self).rows) × TriedRows (domain_bounds l.self) l.begin l.rows l.offset (shows l.fn.p) (shows l.p)
