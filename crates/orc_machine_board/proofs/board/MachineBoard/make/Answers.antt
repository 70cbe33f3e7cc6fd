use Rattle.std.proofs.Common.{ap, arith, length, refl, subst, sym, ◌<◌, ◌∙◌, ◌≡◌}
use Rattle.std.specs.Prelude.{slice_index_or}
use Rattle.orc_layout.proofs.Indices.{table_has_words}
use Rattle.orc_layout.specs.Layout.{table_length}
use Rattle.orc_machine_board.proofs.Opening.{new_keeps, opening_nothing, opens, seed_roots}
use Rattle.orc_machine_board.specs.Laws.Steps.{in_range, long_run}
use Rattle.orc_machine_board.specs.Passes.{HasNothing}
use Rattle.orc_machine_board.specs.Rules.{bounds_in, counted_rules, heap_numbers, machine_opening}
use Rattle.orc_machine_board.specs.Views.{Keeps}
use Rattle.orc_machine_board.specs.declared.machine.MachineShape.{MachineShape}
use Rattle.orc_words.specs.Bounds.{bounds_of}
use Rattle.orc_machine_board.proofs.board.MachineBoard.make.Goals as goal

pub make-requires-clause-some : goal.make-requires-clause-some
make-requires-clause-some g c =
    let b = bounds_of c.args.shape.now in
    let e : length c.as_slice.result.now ≡ table_length b = ap length c.as_slice.ensures.value ∙ c.in_ok-words.ensures.long in
    subst (λ n. 0 < n) (sym e) (table_has_words b)

pub make-requires-clause-agents : goal.make-requires-clause-agents
make-requires-clause-agents g c =
    let b = bounds_of c.args.shape.now in
    let e : length c.in_ok-words.owns.items ≡ b.agents = ap length c.in_ok-words.ensures.agents
    ∙ long_run b (machine_opening b.agents c.args.seed) (in_range c.args.shape.now) in
    let few = c.args.shape.now.few_agents in
    (e, omega (arith, e, few))

pub make-requires-clause-opening : goal.make-requires-clause-opening
make-requires-clause-opening g c = opens g.D.Discipline (record { shape = c.args.shape.now; seed = c.args.seed; layout = c.new.result; laid = c.make-arg-1.given.0 }) c.requires.holds c.requires.seed

pub invariant_of-result : goal.invariant_of-result
invariant_of-result g c =
    let b = bounds_of c.args.shape.now in
    let e : length c.as_slice.result.now ≡ table_length b = ap length c.as_slice.ensures.value ∙ c.in_ok-words.ensures.long in
    record { sized = c.in_ok-words-2.ensures.words ∙ (e ∙ ap (λ q. table_length (bounds_in q)) (sym c.in_ok-words-2.ensures.shape)) }

pub returns-clause-agents : goal.returns-clause-agents
returns-clause-agents g c = λ i p lt.
    let lt2 = subst (λ n. i < n) c.in_ok-passes.ensures.long lt in
    let e = c.in_ok-passes.ensures.same i p p.pass lt2 in
    ap (λ z. z.agent) e ∙ c.in_ok-words-2.ensures.agents i p.pass lt2

pub returns-clause-journal : goal.returns-clause-journal
returns-clause-journal g c = λ i p lt.
    let lt2 = subst (λ n. i < n) c.in_ok-passes.ensures.long lt in
    let e = c.in_ok-passes.ensures.same i p p.pass lt2 in
    ap (λ z. z.seat.me.0.seen) e ∙ (c.in_ok-words-2.ensures.seen i p.pass lt2).0

pub returns-clause-idle : goal.returns-clause-idle
returns-clause-idle g c = λ i p lt.
    let lt2 = subst (λ n. i < n) c.in_ok-passes.ensures.long lt in
    let e = c.in_ok-passes.ensures.same i p p.pass lt2 in
    let b = bounds_of c.args.shape.now in
    let x = slice_index_or c.in_ok-passes.passes.items i p in
    let agent = ap (λ z. z.agent) e ∙ c.in_ok-words-2.ensures.agents i p.pass lt2 in
    let count = c.in_ok-words-2.ensures.passes in
    let below : x.pass.agent < b.agents = omega (arith, agent, count, lt2) in
    let k : MachineShape _ = record { shape = c.args.shape.now; seed = c.args.seed; layout = c.new.result; laid = c.make-arg-1.given.0 } in
    let owned = c.in_ok-words-2.ensures.owns i p.pass lt2 in
    let own = ap (λ z. z.seat.me.0.own) e ∙ (owned ∙ ap ((counted_rules {N = _}).own k ((counted_rules {N = _}).opening k)) (sym agent)) in
    subst HasNothing (sym own) (opening_nothing b c.args.seed x.pass.agent (in_range c.args.shape.now)
    (seed_roots g.D.Discipline k c.requires.holds c.args.seed c.requires.seed) below)

pub returns-clause-absorbed : goal.returns-clause-absorbed
returns-clause-absorbed g c = λ i p lt.
    let lt2 = subst (λ n. i < n) c.in_ok-passes.ensures.long lt in
    let e = c.in_ok-passes.ensures.same i p p.pass lt2 in
    ap (λ z. z.seat.me.0.also) e ∙ (c.in_ok-words-2.ensures.seen i p.pass lt2).1

pub returns-clause-belongs : goal.returns-clause-belongs
returns-clause-belongs g c = λ i p lt.
    let lt2 = subst (λ n. i < n) c.in_ok-passes.ensures.long lt in
    let e = c.in_ok-passes.ensures.same i p p.pass lt2 in
    let d = g.D.Discipline in
    let k : MachineShape _ = record { shape = c.args.shape.now; seed = c.args.seed; layout = c.new.result; laid = c.make-arg-1.given.0 } in
    let x = slice_index_or c.in_ok-passes.passes.items i p in
    let seen = ap (λ z. z.seat.me.0.seen) e ∙ (c.in_ok-words-2.ensures.seen i p.pass lt2).0 in
    let also = ap (λ z. z.seat.me.0.also) e ∙ (c.in_ok-words-2.ensures.seen i p.pass lt2).1 in
    let agent = ap (λ z. z.agent) e ∙ c.in_ok-words-2.ensures.agents i p.pass lt2 in
    let count = c.in_ok-words-2.ensures.passes in
    let below : x.pass.agent < (bounds_of c.args.shape.now).agents = omega (arith, agent, count, lt2) in
    let owned = c.in_ok-words-2.ensures.owns i p.pass lt2 in
    let own = ap (λ z. z.seat.me.0.own) e ∙ (owned ∙ ap ((counted_rules {N = _}).own k ((counted_rules {N = _}).opening k)) (sym agent)) in
    record {
      table = ap (λ z. z.seat.table_id) e ∙ c.in_ok-words-2.ensures.table i p.pass lt2;
      keeps = subst (λ z. Keeps z (d.holds (heap_numbers z)) (d.may (heap_numbers z)) x.pass.seat.me.0 x.pass.agent) (sym c.in_ok-words-2.ensures.shape)
          (new_keeps k k refl (d.holds (heap_numbers k)) (d.may (heap_numbers k))
          (opens d k c.requires.holds c.requires.seed) c.requires.holds x.pass.seat.me.0 x.pass.agent x.pass.named below seen also own);
    }
