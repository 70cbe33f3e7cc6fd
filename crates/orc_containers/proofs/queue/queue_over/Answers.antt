-- The domain begins with a dummy.
use Rattle.std.proofs.Common.{ap, refl, subst, sym, ◌∙◌}
use Rattle.orc_any_domain.specs.Domains.{heap_numbers}
use Rattle.orc_containers.proofs.News.{each_usable, is_new}
use Rattle.orc_containers.proofs.Openings.{first_position, has_dummy}
use Rattle.orc_fifo_rule.proofs.Later.{nothing_yet}
use Rattle.orc_fifo_rule.specs.QueueDiscipline.{entries_in, position_of}
use Rattle.orc_heap.specs.Journals.{run_heap}
use Rattle.orc_queue.proofs.Openings.{dummy_allowed}
use Rattle.orc_queue.specs.Turns.{HasDummy}
use Rattle.orc_words.specs.Bounds.{bounds_of}
use Rattle.orc_containers.proofs.queue.queue_over.Goals as goal

pub make-requires-clause-holds : goal.make-requires-clause-holds
make-requires-clause-holds g c = nothing_yet (heap_numbers (bounds_of c.args.shape.now))

pub make-requires-clause-seed : goal.make-requires-clause-seed
make-requires-clause-seed g c = dummy_allowed (heap_numbers (bounds_of c.args.shape.now)) c.args.first c.requires.roots c.requires.first

pub new-requires : goal.new-requires
new-requires g c =
    let d = c.in_ok-domain.domain in
    subst (λ es. HasDummy (g.L.Links.numbers d) es) (sym c.in_ok-domain.ensures.opening) (has_dummy (g.L.Links.numbers d) c.args.first)

pub returns : goal.returns
returns g c =
    let d = c.in_ok-domain.domain in
    let made = c.in_ok-domain.ensures in
    let first = ap (λ l. position_of (run_heap (g.L.Links.numbers l) (g.L.Links.opening l)) 0) c.new.ensures
    ∙ (ap (λ es. position_of (run_heap (g.L.Links.numbers d) es) 0) made.opening ∙ first_position (g.L.Links.numbers d) c.args.first) in
    let new = is_new g.L.Links g.L.Domain.bounds entries_in _ d _ _ _ c.new.ensures made.idle made.bounds made.opening refl made.new (g.met.L.Links.seen_is d)
    (g.met.L.Domain.agents_are d) in
    assumption (each_usable g.L.Links _ d _ c.new.ensures made.idle, new, first)
