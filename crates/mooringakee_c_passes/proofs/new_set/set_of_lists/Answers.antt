-- The lists stand on the domain, and so does the set.
use Rattle.std.proofs.Common.{ap, ◌∙◌}
use Rattle.mooringakee_c_passes.proofs.new_set.set_of_lists.Goals as goal

pub new-requires-clause-all : goal.new-requires-clause-all
new-requires-clause-all g c = ap (λ x. (g.L.Links.numbers x).roots) c.new-list.ensures ∙ c.requires.all

pub returns : goal.returns
returns g c = (λ j. (c.new.ensures j).links) ∙ c.new-list.ensures
