-- The discipline holds before all events; the shape is one for a cell, and each pass is new.
use Rattle.std.proofs.Common.{arith, refl, subst, sym, ◌∙◌}
use Rattle.std.specs.Prelude.{All, slice_index_or}
use Rattle.orc_any_domain.specs.Domains.{heap_numbers}
use Rattle.orc_cell.proofs.Learned.{new_usable}
use Rattle.orc_cell.specs.CellCalls.{IsUsable}
use Rattle.orc_cell.specs.Turns.{IsCellDomain}
use Rattle.orc_containers.proofs.Cells.{is_cell_domain, some_root}
use Rattle.orc_containers.proofs.News.{agents_are, is_new, numbers_are}
use Rattle.orc_pairs_rule.proofs.Later.{nothing_yet}
use Rattle.orc_pairs_rule.specs.PairsDiscipline.{entries_in}
use Rattle.orc_words.specs.Bounds.{bounds_of}
use Rattle.orc_containers.proofs.cell.cell_over.Goals as goal

pub make-requires-clause-holds : goal.make-requires-clause-holds
make-requires-clause-holds g c =
    let s = bounds_of c.args.shape.now in
    nothing_yet (heap_numbers s) (some_root s.roots s.agents c.requires.roots)

pub make-requires-clause-seed : goal.make-requires-clause-seed
make-requires-clause-seed g c = tt

pub new-requires : goal.new-requires
new-requires g c =
    let d = c.in_ok-domain.domain in
    let made = c.in_ok-domain.ensures in
    let s = bounds_of c.args.shape.now in
    is_cell_domain _ s _ _
    (numbers_are g.L.Links g.L.Domain.bounds d d s refl made.bounds (g.met.L.Domain.numbers_are d))
    (agents_are g.L.Links g.L.Domain.bounds d d s refl made.bounds (g.met.L.Domain.agents_are d))
    c.requires.links c.requires.roots c.args.shape.now.few_roots made.opening

pub returns : goal.returns
returns g c =
    let d = c.in_ok-domain.domain in
    let made = c.in_ok-domain.ensures in
    let new = is_new g.L.Links g.L.Domain.bounds entries_in _ d _ _ _ c.new.ensures made.idle made.bounds made.opening refl made.new
    (g.met.L.Links.seen_is d) (g.met.L.Domain.agents_are d) in
    assumption (new, usable)
  where
    usable : All (λ p. IsUsable g.L.Links c.new.result.links p) c.in_ok-domain.passes.items
    usable i p low =
        let d = c.in_ok-domain.domain in
        let made = c.in_ok-domain.ensures in
        let domain_made = subst (λ l. IsCellDomain (g.L.Links.numbers l) (g.L.Links.agents l) (g.L.Links.opening l)) c.new.ensures c.new.result.made in
        subst (λ l. IsUsable g.L.Links l (slice_index_or c.in_ok-domain.passes.items i p)) (sym c.new.ensures)
        (new_usable g.L.Links d (slice_index_or c.in_ok-domain.passes.items i p) domain_made (made.idle.each i p low).0 (made.idle.each i p low).1
        (omega (arith, made.idle.order i p low, low, made.idle.many)) (made.new i p low ∙ sym made.opening))
