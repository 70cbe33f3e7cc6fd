-- No try follows where the bucket isn't crowded.
use Rattle.std.proofs.Common.{false, sym, true, ◌∙◌, ◌≡◌}
use Rattle.orc_split_set.proofs.Growing.{grows_none}
use Rattle.orc_split_set.proofs.grow.grow_after.Goals as goal

pub returns-clause-grown : goal.returns-clause-grown
returns-clause-grown g c =
    grows_none _ c.args.turn _ (λ crowded.
    let bad : true ≡ false = sym (c.is_crowded.ensures.1 crowded) ∙ c.if-is_crowded.false in
    cc) c.requires.idle.fresh
