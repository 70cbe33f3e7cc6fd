use Rattle.std.proofs.Common.{◌∙◌}
use Rattle.std.proofs.lemmas.Iterator.{YieldsList-from_map, items_from_collect}
use Rattle.std.proofs.lemmas.Iterator.Adapters.{YieldsList-from_vec}
use Rattle.std.proofs.lemmas.Iterator.Consumers.{YieldsList-at}
use Rattle.std.proofs.lemmas.Result.{IfOk-at_ok}
use Rattle.orc_shared_words.proofs.each.each_made.Goals as goal

pub returns : goal.returns
returns g c = λ of acts. IfOk-at_ok _ c.in_ok-made.was (items_from_collect _ c.collect.ensures.ran
    (YieldsList-from_map _ of
    (YieldsList-at c.map.ensures.source (YieldsList-from_vec c.args.items.items c.into_iter.ensures.rest (c.into_iter.ensures.len ∙ c.args.items.ok.0)))
    c.map.ensures.closure acts))
