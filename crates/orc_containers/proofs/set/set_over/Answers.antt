-- The discipline holds before all events.
use Rattle.std.proofs.Common.{ap, arith, refl, sym, ◌∙◌}
use Rattle.orc_any_domain.specs.Domains.{heap_numbers}
use Rattle.orc_containers.proofs.News.{each_usable, is_new, numbers_are}
use Rattle.orc_chain_rule.proofs.Later.{nothing_yet}
use Rattle.orc_chain_rule.specs.ChainDiscipline.{entries_in}
use Rattle.orc_heap.specs.Heap.{HeapNumbers}
use Rattle.orc_words.specs.Bounds.{bounds_of}
use Rattle.orc_containers.proofs.set.set_over.Goals as goal

pub make-requires-clause-holds : goal.make-requires-clause-holds
make-requires-clause-holds g c = nothing_yet (heap_numbers (bounds_of c.args.shape.now))

pub make-requires-clause-seed : goal.make-requires-clause-seed
make-requires-clause-seed g c = tt

pub new-set-requires-clause-some : goal.new-set-requires-clause-some
new-set-requires-clause-some g c = omega (arith, c.roots.ensures, c.args.shape.now.some_roots)

pub new-set-requires-clause-all : goal.new-set-requires-clause-all
new-set-requires-clause-all g c =
    ap (λ (n : HeapNumbers). n.roots)
    (numbers_are g.L.Links g.L.Domain.bounds _ c.in_ok-domain.domain (bounds_of c.args.shape.now) c.new-list.ensures c.in_ok-domain.ensures.bounds
    (g.met.L.Domain.numbers_are c.in_ok-domain.domain))
    ∙ sym c.roots.ensures

pub returns : goal.returns
returns g c =
    let d = c.in_ok-domain.domain in
    let made = c.in_ok-domain.ensures in
    let same = ap (λ l. l.links) c.new-set.ensures ∙ c.new-list.ensures in
    let new = is_new g.L.Links g.L.Domain.bounds entries_in _ d _ _ _ same made.idle made.bounds made.opening refl made.new (g.met.L.Links.seen_is d)
    (g.met.L.Domain.agents_are d) in
    assumption (each_usable g.L.Links _ d _ same made.idle, new)
