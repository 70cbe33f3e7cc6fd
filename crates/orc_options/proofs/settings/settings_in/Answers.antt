-- Each setting is that of its option.
use Rattle.std.proofs.Common.{◌∙◌, ap, codes}
use Rattle.clap.specs.Words.{found_of}
use Rattle.clap.proofs.WalkLemmas.{first_value-rows, one_text-rows}
use Rattle.orc_options.specs.Ranges as ranges
use Rattle.orc_options.specs.Settings.{mode_in, number_in, set_in, yes_in}
use Rattle.orc_options.proofs.settings.settings_in.Goals as goal

pub returns-clause-says : goal.returns-clause-says
returns-clause-says c =
    let f = found_of c.args.matches.now in
    let mode = c.mode_of.ensures ∙ ap mode_in (c.get_str.ensures ∙ first_value-rows f (codes "mode")) in
    let posters = c.number_of.ensures.says ∙ ap (number_in ranges.posters) (one_text-rows f (codes "posters")) in
    let takers = c.number_of-2.ensures.says ∙ ap (number_in ranges.takers) (one_text-rows f (codes "takers")) in
    let stages = c.number_of-3.ensures.says ∙ ap (number_in ranges.stages) (one_text-rows f (codes "stages")) in
    let rows = c.number_of-4.ensures.says ∙ ap (number_in ranges.rows) (one_text-rows f (codes "rows")) in
    let buckets = c.number_of-5.ensures.says ∙ ap (number_in ranges.buckets) (one_text-rows f (codes "buckets")) in
    let set = c.set_of.ensures ∙ ap set_in (c.get_str-2.ensures ∙ first_value-rows f (codes "set")) in
    let rest = c.says_yes.ensures ∙ ap yes_in (c.get_str-3.ensures ∙ first_value-rows f (codes "rest")) in
    let seed = c.number_of-6.ensures.says ∙ ap (number_in ranges.seed) (one_text-rows f (codes "seed")) in
    let lines = c.number_of-7.ensures.says ∙ ap (number_in ranges.lines) (one_text-rows f (codes "lines")) in
    cc (mode, posters, takers, stages, rows, set, buckets, rest, seed, lines)
