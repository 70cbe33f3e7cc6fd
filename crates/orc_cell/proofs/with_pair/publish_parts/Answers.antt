-- No turn, or the test of root 0, and then the parts.
use Rattle.std.proofs.Common.{[], ap, append-nil, arith, false, inl, inr, slice_get, sym, ℕ, ◌*◌, ◌+◌, ◌∙◌, ◌≡◌}
use Rattle.orc_heap.proofs.Pieces.{goes_on}
use Rattle.orc_heap.specs.Slots.{Slots}
use Rattle.orc_cell.specs.Publishes.{nodes_for, part_count}
use Rattle.orc_cell.proofs.Answering.{answers_after, answers_none, caused_in_part}
use Rattle.orc_cell.proofs.Ending.{none_few}
use Rattle.orc_cell.proofs.Pieces.{only_none}
use Rattle.orc_cell.proofs.Staging.{finds_staging}
use Rattle.orc_cell.proofs.Counting.{nodes_few, publish_few}
use Rattle.orc_cell.proofs.with_pair.publish_parts.Goals as goal

pub returns-then-turns-eq0-clause-answered : goal.returns-then-turns-eq0-clause-answered
returns-then-turns-eq0-clause-answered g c =
    answers_none _ _ c.args.turns _ c.if-turns-eq0.true c.requires.idle.fresh

pub returns-then-turns-eq0-clause-shared : goal.returns-then-turns-eq0-clause-shared
returns-then-turns-eq0-clause-shared g c = λ was.
    answers_none _ _ c.args.turns _ c.if-turns-eq0.true c.requires.idle.fresh

pub publish_both-requires-clause-no_fresh : goal.publish_both-requires-clause-no_fresh
publish_both-requires-clause-no_fresh g c = c.is_null-empty.ensures.only.finds.fresh ∙ c.requires.idle.fresh

pub publish_both-requires-clause-roots : goal.publish_both-requires-clause-roots
publish_both-requires-clause-roots g c =
    let agent = c.is_null-empty.ensures.only.finds.puts.agent in
    (c.requires.roots.0 ∙ ap (λ (i : ℕ). 1 + 2 * i) (sym agent), c.requires.roots.1 ∙ ap (λ (i : ℕ). 2 + 2 * i) (sym agent))

pub publish_both-requires-clause-null : goal.publish_both-requires-clause-null
publish_both-requires-clause-null g c =
    let e = c.is_null-empty.ensures in
    let kept = finds_staging _ _ _ [] e.only.finds (g.met.L.Links.allowed _ _ e.pass) in
    (kept c.args.roots.0 (inl c.requires.roots.0) ∙ c.requires.null.0, kept c.args.roots.1 (inr c.requires.roots.1) ∙ c.requires.null.1)

pub publish_both-requires-clause-slots : goal.publish_both-requires-clause-slots
publish_both-requires-clause-slots g c =
    let slots = c.is_null-empty.ensures.only.slots ∙ c.requires.idle.slots in (
      record { above = omega arith; below = omega arith; empty = ap (λ (z : Slots). slice_get z 1) slots },
      record { above = omega arith; below = omega arith; empty = ap (λ (z : Slots). slice_get z 2) slots },
      record { above = omega arith; below = omega arith; empty = ap (λ (z : Slots). slice_get z 3) slots },
      record { above = omega arith; below = omega arith; empty = ap (λ (z : Slots). slice_get z 4) slots },
      record { above = omega arith; below = omega arith; empty = ap (λ (z : Slots). slice_get z 5) slots },
    )

pub returns-clause-answered : goal.returns-clause-answered
returns-clause-answered g c =
    let e = c.is_null-empty.ensures in
    answers_after _ _ 3 c.args.turns c.args.left c.args.right _ _ _ c.publish_both.result
    (omega (arith, nodes_few c.args.left c.is_null-empty.result, nodes_few c.args.right c.is_null-empty.result)) e.only
    (g.met.L.Links.allowed _ _ e.pass) c.publish_both.ensures.answered

pub returns-clause-shared : goal.returns-clause-shared
returns-clause-shared g c = λ was.
    let e = c.is_null-empty.ensures in
    let none : c.is_null-empty.result ≡ false = e.was_published was in
    let left : nodes_for c.args.left c.is_null-empty.result ≡ part_count c.args.left = ap (nodes_for c.args.left) none in
    let right : nodes_for c.args.right c.is_null-empty.result ≡ part_count c.args.right = ap (nodes_for c.args.right) none in
    answers_after _ _ (1 + part_count c.args.left + part_count c.args.right) c.args.turns c.args.left c.args.right _ _ _ c.publish_both.result
    (omega (arith, left, right)) e.only (g.met.L.Links.allowed _ _ e.pass) c.publish_both.ensures.answered

pub returns-then-turns-eq0-clause-nothing : goal.returns-then-turns-eq0-clause-nothing
returns-then-turns-eq0-clause-nothing g c = λ zero. only_none _

pub returns-clause-refused : goal.returns-clause-refused
returns-clause-refused g c =
    let e = c.is_null-empty.ensures in
    caused_in_part g.L.Links _ c.args.p.now c.is_null-empty.new.p c.publish_both.new.p e.only.finds.puts.agent e.later c.publish_both.ensures.later e.begun
    c.publish_both.result c.publish_both.ensures.refused

pub returns-clause-tries : goal.returns-clause-tries
returns-clause-tries g c =
    let few = publish_few c.args.left c.args.right c.args.turns c.requires.given (omega (arith, c.if-turns-eq0.false)) in
    omega (arith, c.is_null-empty.ensures.tries, c.publish_both.ensures.tries, few)

pub publish_both-requires-clause-pass : goal.publish_both-requires-clause-pass
publish_both-requires-clause-pass g c = c.is_null-empty.ensures.pass

pub returns-clause-pass : goal.returns-clause-pass
returns-clause-pass g c = c.publish_both.ensures.pass

pub returns-clause-later : goal.returns-clause-later
returns-clause-later g c = goes_on _ _ _ c.is_null-empty.ensures.later c.publish_both.ensures.later

pub is_null-empty-requires : goal.is_null-empty-requires
is_null-empty-requires g c = record { pass = c.requires.pass; made = c.requires.made }

pub publish_both-requires-clause-left_published : goal.publish_both-requires-clause-left_published
publish_both-requires-clause-left_published g c = λ none some. c.is_null-empty.ensures.published some

pub publish_both-requires-clause-right_published : goal.publish_both-requires-clause-right_published
publish_both-requires-clause-right_published g c = λ none some. c.is_null-empty.ensures.published some

pub returns-clause-no_turns : goal.returns-clause-no_turns
returns-clause-no_turns g c = λ zero. absurd (c.if-turns-eq0.false zero)

pub returns-clause-nothing : goal.returns-clause-nothing
returns-clause-nothing g c = λ zero. absurd (c.if-turns-eq0.false zero)

pub returns-then-turns-eq0-clause-refused : goal.returns-then-turns-eq0-clause-refused
returns-then-turns-eq0-clause-refused g c = tt

pub returns-then-turns-eq0-clause-later : goal.returns-then-turns-eq0-clause-later
returns-then-turns-eq0-clause-later g c = ([], append-nil _)

pub returns-then-turns-eq0-clause-tries : goal.returns-then-turns-eq0-clause-tries
returns-then-turns-eq0-clause-tries g c = none_few _ _
