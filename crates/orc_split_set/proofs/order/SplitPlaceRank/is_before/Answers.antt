-- By the values, where these differ.
use Rattle.std.proofs.Common.{arith}
use Rattle.orc_split_set.proofs.Reversing.{places_rise}
use Rattle.orc_split_set.proofs.order.SplitPlaceRank.is_before.Goals as goal

pub returns-clause-yes : goal.returns-clause-yes
returns-clause-yes c = λ is.
    let a = c.args.self in
    let b = c.args.other in
    places_rise a.value b.value a.has_key b.has_key (c.is_lower.ensures.yes is)

pub returns-clause-no : goal.returns-clause-no
returns-clause-no c = λ is.
    let a = c.args.self in
    let b = c.args.other in
    let less = places_rise b.value a.value b.has_key a.has_key (c.is_lower.ensures.no is) in
    omega (arith, less)
