use Rattle.std.proofs.Common.{◌≤◌, ◌∙◌, subst}
use Rattle.orc_plain_board.specs.Views.{shows}
use Rattle.orc_any_domain.proofs.Counting.{nodes_given}
use Rattle.orc_plain_domain.proofs.Counting.{rows_at_most}
use Rattle.orc_plain_domain.proofs.Growing.{tie}
use Rattle.orc_plain_domain.specs.Passes.{domain_bounds, domain_numbers}
use Rattle.orc_plain_domain.proofs.domain.PlainDomain.gives_at_most_rows.Goals as goal

pub returns : goal.returns
returns g c =
    let k = tie c.args.self.now c.args.p.now c.requires.pass in
    let s = shows c.args.self.now.board c.args.p.now.pass in
    record {
      rows = subst (λ n. n ≤ (domain_bounds c.args.self.now).rows) (k.even ∙ nodes_given (domain_numbers c.args.self.now) s.events)
          (rows_at_most s.rows (domain_bounds c.args.self.now).rows k.once k.inside);
    }
