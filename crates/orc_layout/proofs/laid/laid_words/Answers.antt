use Rattle.std.proofs.Common.{ap, get_or, length, replicate, set, ◌∙◌}
use Rattle.orc_words.specs.Bounds.{bounds_of}
use Rattle.orc_layout.specs.Layout.{index}
use Rattle.orc_layout.proofs.Indices.{index_is_layout}
use Rattle.orc_layout.proofs.Laying.{laid_more, laid_zeros}
use Rattle.orc_layout.proofs.laid.laid_words.Goals as goal

pub loop-place-init : goal.loop-place-init
loop-place-init c = c.in_ok-laid.ensures.items_if_clones_equal (λ y e. e) ∙ ap (λ n. replicate n 0) c.index_at.ensures
    ∙ laid_zeros (index (bounds_of c.args.shape.now)) (index_is_layout (bounds_of c.args.shape.now)) (length c.args.words.now)

pub loop-place-preserved : goal.loop-place-preserved
loop-place-preserved c =
    (λ i. set (c.loop-place.invariant i) (c.index_at-in-loop-place.ensures i) (get_or c.args.words.now c.loop-place.place 0))
    ∙ laid_more (index (bounds_of c.args.shape.now)) (index_is_layout (bounds_of c.args.shape.now)) c.args.words.now c.loop-place.place c.loop-place-test.true
