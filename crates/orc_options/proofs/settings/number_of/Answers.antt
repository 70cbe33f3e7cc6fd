use Rattle.std.proofs.Common.{rules, ◌<◌, ◌^◌, arith}
use Rattle.std.specs.Str.Parse.{ParsesUnsigned, ExplainsUnsignedError, HasUnsignedDigitsIfOk}
use Rattle.orc_options.specs.Ranges.{range_of}
use Rattle.orc_options.proofs.Numbers.{number_found, number_none}
use Rattle.orc_options.proofs.settings.number_of.Goals as goal

pub returns-then-number-range-clause-says : goal.returns-then-number-range-clause-says
returns-then-number-range-clause-says c =
    let lo = c.if-range-number.true in
    let hi = c.if-number-range.true in
    let top : c.args.range.high < 2 ^ 32 = search rules in
    number_found (λ bs r. ParsesUnsigned 32 10 bs r × ExplainsUnsignedError 10 bs r × HasUnsignedDigitsIfOk bs r) (λ t r g. g.0)
    (range_of c.args.range) c.in-Some.number _ c.get_one.result c.in-Some.is lo hi (omega arith) c.get_one.ensures.none c.get_one.ensures.value

pub returns-in-None-clause-says : goal.returns-in-None-clause-says
returns-in-None-clause-says c =
    let top : c.args.range.high < 2 ^ 32 = search rules in
    number_none (λ bs r. ParsesUnsigned 32 10 bs r × ExplainsUnsignedError 10 bs r × HasUnsignedDigitsIfOk bs r) (λ t r g. g.0)
    (range_of c.args.range) _ c.get_one.result c.in-None.is top c.get_one.ensures.value
