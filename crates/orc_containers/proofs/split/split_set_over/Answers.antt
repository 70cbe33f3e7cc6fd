-- The discipline holds before all events.
use Rattle.std.proofs.Common.{ap, refl, ◌∙◌}
use Rattle.orc_any_domain.specs.Domains.{heap_numbers}
use Rattle.orc_containers.proofs.News.{each_usable, is_new, numbers_are}
use Rattle.orc_heap.specs.Heap.{HeapNumbers}
use Rattle.orc_split_rule.proofs.Later.{nothing_yet}
use Rattle.orc_split_rule.specs.SplitDiscipline.{entries_in}
use Rattle.orc_words.specs.Bounds.{bounds_of}
use Rattle.orc_containers.proofs.split.split_set_over.Goals as goal

pub make-requires-clause-holds : goal.make-requires-clause-holds
make-requires-clause-holds g c = nothing_yet (heap_numbers (bounds_of c.args.shape.now))

pub make-requires-clause-seed : goal.make-requires-clause-seed
make-requires-clause-seed g c = tt

pub new-requires-clause-size : goal.new-requires-clause-size
new-requires-clause-size g c = c.requires.size

pub new-requires-clause-roots : goal.new-requires-clause-roots
new-requires-clause-roots g c =
    let d = c.in_ok-domain.domain in
    ap (λ (n : HeapNumbers). n.roots)
    (numbers_are g.L.Links g.L.Domain.bounds d d (bounds_of c.args.shape.now) refl c.in_ok-domain.ensures.bounds (g.met.L.Domain.numbers_are d))
    ∙ c.requires.roots

pub returns : goal.returns
returns g c =
    let d = c.in_ok-domain.domain in
    let made = c.in_ok-domain.ensures in
    let new = is_new g.L.Links g.L.Domain.bounds entries_in _ d _ _ _ c.new.ensures made.idle made.bounds made.opening refl made.new (g.met.L.Links.seen_is d)
    (g.met.L.Domain.agents_are d) in
    assumption (each_usable g.L.Links _ d _ c.new.ensures made.idle, new)
