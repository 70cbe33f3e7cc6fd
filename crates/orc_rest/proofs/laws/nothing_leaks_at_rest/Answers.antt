-- At rest each row that is out is linked. Along the links that lead to it ranks fall, so the way back ends at a root.
use Rattle.std.proofs.Common.{refl}
use Rattle.orc_projection.specs.Mirror.{numbers_of}
use Rattle.orc_rest.proofs.Resting.{reached_list, reached_row, row_reached}
use Rattle.orc_rest.proofs.laws.nothing_leaks_at_rest.Goals as goal

pub returns-clause-reached : goal.returns-clause-reached
returns-clause-reached g c = λ b steps r e o.
    row_reached (g.D.Discipline.holds (numbers_of b)) (g.D.Discipline.may (numbers_of b)) (g.D.Ranked.rank (numbers_of b)) (numbers_of b)
    (λ es x k j. g.D.Discipline.keeps (numbers_of b) es x k j) (λ es x k j. g.D.Discipline.moves_linked (numbers_of b) es x k j)
    (λ es k. g.met.D.Ranked.rises (numbers_of b) es k) b steps refl e r o

pub returns-clause-one_row : goal.returns-clause-one_row
returns-clause-one_row g c = λ b steps id e w.
    reached_row (g.D.Discipline.holds (numbers_of b)) (g.D.Discipline.may (numbers_of b)) (g.D.Ranked.rank (numbers_of b)) (numbers_of b)
    (λ es x k j. g.D.Discipline.keeps (numbers_of b) es x k j) (λ es x k j. g.D.Discipline.moves_linked (numbers_of b) es x k j)
    (λ es k. g.met.D.Ranked.rises (numbers_of b) es k) b steps refl e id w

pub returns-clause-linked : goal.returns-clause-linked
returns-clause-linked g c = λ b steps e.
    reached_list (g.D.Discipline.holds (numbers_of b)) (g.D.Discipline.may (numbers_of b)) (g.D.Ranked.rank (numbers_of b)) (numbers_of b)
    (λ es x k j. g.D.Discipline.keeps (numbers_of b) es x k j) (λ es x k j. g.D.Discipline.moves_linked (numbers_of b) es x k j)
    (λ es k. g.met.D.Ranked.rises (numbers_of b) es k) b steps refl e
