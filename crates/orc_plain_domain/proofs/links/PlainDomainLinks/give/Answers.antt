use Rattle.std.proofs.Common.{Some, ℕ, ◌%◌, ◌+◌, ◌≡◌, ◌∙◌, ap, arith, refl, subst, sym}
use Rattle.orc_heap.proofs.Pieces.{goes_on}
use Rattle.orc_heap.specs.Heap.{new_node}
use Rattle.orc_heap.specs.Slots.{Hold}
use Rattle.orc_any_domain.specs.Rows.{IsListed}
use Rattle.orc_plain_domain.specs.Passes.{domain_bounds, rows_of}
use Rattle.orc_plain_board.specs.Views.{shows}
use Rattle.orc_plain_domain.specs.Calls.{Loses}
use Rattle.orc_any_domain.specs.Turns.{IsNext}
use Rattle.orc_plain_domain.proofs.Giving.{gives, tried_all, tried_next, tried_none, tried_one}
use Rattle.orc_plain_domain.proofs.Looking.{events_later}
use Rattle.orc_plain_domain.proofs.links.PlainDomainLinks.give.Goals as goal

pub loop-offset-init : goal.loop-offset-init
loop-offset-init g c = tried_none c.args.self.now c.args.p.now c.rows-rows.result c.args.p.now.next c.requires.pass c.requires.no_other c.rows-rows.ensures refl

pub returns-then-take-clause-given : goal.returns-then-take-clause-given
returns-then-take-clause-given g c =
    gives c.args.self.now c.args.p.now c.loop-offset.p c.take.new.p c.rows-rows.result c.args.p.now.next c.loop-offset.offset c.loop-offset.invariant
    c.take.ensures.pass c.take.ensures.same
    _ c.if-take.ensures.took c.furnish.new.p c.args.slot c.args.first c.args.second c.furnish.ensures.furnished c.furnish.result c.furnish.ensures.hold

pub loop-offset-preserved : goal.loop-offset-preserved
loop-offset-preserved g c =
    tried_one c.args.self.now c.args.p.now c.loop-offset.p c.take.new.p c.rows-rows.result c.args.p.now.next c.loop-offset.offset
    c.loop-offset.invariant c.take.ensures.pass c.take.ensures.same
    (subst (λ row. Loses row c.loop-offset.p.slots (shows c.args.self.now.board c.loop-offset.p.pass) (shows c.args.self.now.board c.take.new.p.pass))
    c.around-row.ensures c.if-take.ensures.took)

pub around-row-requires : goal.around-row-requires
around-row-requires g c =
    let low = c.loop-offset.invariant.inside.1 in
    let more = c.loop-offset-test.true in
    omega (arith, low, more)

pub returns-clause-lacking : goal.returns-clause-lacking
returns-clause-lacking g c =
    let low = c.loop-offset-test.false in
    let high = c.loop-offset.auto.offset-end in
    let end : c.loop-offset.offset ≡ c.rows-rows.result = omega (arith, low, high) in
    tried_all c.args.self.now c.args.p.now c.loop-offset.p c.rows-rows.result c.args.p.now.next c.loop-offset.offset end c.loop-offset.invariant

pub returns-then-take-clause-in_turn : goal.returns-then-take-clause-in_turn
returns-then-take-clause-in_turn g c =
    let links = c.args.self.now in
    let begin = c.args.p.now.next in
    let rows = c.rows-rows.result in
    let more = goes_on _ _ _ c.if-take.ensures.took.rows c.furnish.ensures.rows in
    subst (IsNext (domain_bounds links).rows begin (IsListed (rows_of links c.furnish.new.p))) (sym c.around-row.ensures ∙ ap (λ (h : Hold). h.row) (sym c.furnish.ensures.hold))
    (tried_next links c.args.p.now c.loop-offset.p rows begin c.loop-offset.offset c.loop-offset.invariant c.loop-offset-test.true
    (rows_of links c.furnish.new.p) more)

pub returns-then-take-clause-next : goal.returns-then-take-clause-next
returns-then-take-clause-next g c =
    c.furnish.ensures.next ∙ ap (λ (h : Hold). (h.row + 1) % (domain_bounds c.args.self.now).rows) (sym c.furnish.ensures.hold)

pub returns-clause-same_next : goal.returns-clause-same_next
returns-clause-same_next g c = c.loop-offset.invariant.same_next

pub take-requires : goal.take-requires
take-requires g c =
    let i = c.loop-offset.invariant in
    record { pass = i.pass; row = omega (arith, c.around-row.ensures, i.inside.0, i.inside.1); fresh = i.fresh }

pub furnish-requires : goal.furnish-requires
furnish-requires g c =
    let i = c.loop-offset.invariant in
    let took = c.if-take.ensures.took in
    record {
      pass = c.take.ensures.pass;
      row = omega (arith, c.around-row.ensures, i.inside.0, i.inside.1);
      fresh = took.fresh;
      slot = c.requires.slot.below;
      node = took.node ∙ ap (λ (a : ℕ). Some (new_node a)) (sym took.puts.agent);
    }

pub returns-clause-pass : goal.returns-clause-pass
returns-clause-pass g c = c.loop-offset.invariant.pass

pub returns-clause-later : goal.returns-clause-later
returns-clause-later g c =
    let i = c.loop-offset.invariant in
    events_later c.args.self.now c.args.p.now c.loop-offset.p c.requires.pass i.pass (i.only.puts.part, sym i.only.puts.is)

pub returns-clause-none : goal.returns-clause-none
returns-clause-none g c = c.loop-offset.invariant.only

pub returns-then-take-clause-pass : goal.returns-then-take-clause-pass
returns-then-take-clause-pass g c = c.furnish.ensures.pass

pub returns-then-take-clause-later : goal.returns-then-take-clause-later
returns-then-take-clause-later g c =
    let given = gives c.args.self.now c.args.p.now c.loop-offset.p c.take.new.p c.rows-rows.result c.args.p.now.next c.loop-offset.offset
    c.loop-offset.invariant c.take.ensures.pass c.take.ensures.same _ c.if-take.ensures.took c.furnish.new.p c.args.slot c.args.first c.args.second
    c.furnish.ensures.furnished c.furnish.result c.furnish.ensures.hold in
    events_later c.args.self.now c.args.p.now c.furnish.new.p c.requires.pass c.furnish.ensures.pass (given.puts.part, sym given.puts.is)
