use Rattle.std.proofs.Common.{refl}
use Rattle.orc_machine_board.specs.Laws.Steps.{in_range}
use Rattle.orc_projection.specs.Mirror.{numbers_of}
use Rattle.orc_domain.specs.Passes.{domain_bounds}
use Rattle.orc_domain.specs.Rest.{rest_domain, rest_journal}
use Rattle.orc_rest.proofs.Resting.{reached_list, reached_row, row_reached}
use Rattle.orc_rest.specs.Rest.{EndsAtRest}
use Rattle.orc_domain.proofs.reached.what_is_left_is_reached.Goals as goal

pub returns : goal.returns
returns g c =
    let rest = c.args.rest.now in
    let b = domain_bounds (rest_domain rest) in
    let n = numbers_of b in
    let holds = g.D.Discipline.holds n in
    let may = g.D.Discipline.may n in
    let rank = g.D.Ranked.rank n in
    let keeps = c.requires.shown.belongs.keeps in
    let ends : EndsAtRest holds may b (rest_journal rest) =
    record {
      shape = in_range rest.domain.board.words.shape.shape;
      lawful = keeps.now.lawful.0;
      unmarked = keeps.now.lawful.1;
      starts = keeps.began;
      allowed = keeps.now.each;
      rest = c.requires.rest;
    } in
    record {
      reached = row_reached holds may rank n (λ es x k j. g.D.Discipline.keeps n es x k j) (λ es x k j. g.D.Discipline.moves_linked n es x k j)
          (λ es k. g.met.D.Ranked.rises n es k) b (rest_journal rest) refl ends;
      one_row = reached_row holds may rank n (λ es x k j. g.D.Discipline.keeps n es x k j) (λ es x k j. g.D.Discipline.moves_linked n es x k j)
          (λ es k. g.met.D.Ranked.rises n es k) b (rest_journal rest) refl ends;
      linked = reached_list holds may rank n (λ es x k j. g.D.Discipline.keeps n es x k j) (λ es x k j. g.D.Discipline.moves_linked n es x k j)
          (λ es k. g.met.D.Ranked.rises n es k) b (rest_journal rest) refl ends;
    }
