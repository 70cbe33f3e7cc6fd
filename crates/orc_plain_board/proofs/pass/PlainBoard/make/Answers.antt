use Rattle.std.proofs.Common.{◌≡◌, slice_index_or, ◌<◌, length, sym, ap, subst, ◌∙◌, arith}
use Rattle.orc_words.specs.Bounds.{bounds_of}
use Rattle.orc_layout.proofs.Indices.{table_has_words}
use Rattle.orc_layout.specs.Layout.{table_length}
use Rattle.orc_plain_board.specs.Machine.{numbers, project}
use Rattle.orc_plain_board.proofs.Making.{new_keeps}
use Rattle.orc_plain_board.proofs.Opening.{has_roots, opened_events, opens}
use Rattle.orc_plain_board.proofs.pass.PlainBoard.make.Goals as goal

pub opening_words-requires : goal.opening_words-requires
opening_words-requires g c = record { roots = has_roots g.D.Discipline.may (numbers (bounds_of c.args.shape.now)) c.args.seed c.requires.seed }

pub make-requires-clause-opening : goal.make-requires-clause-opening
make-requires-clause-opening g c = opens g.D.Discipline c.args.shape.now c.new.result c.make-arg-1.given.0 c.args.seed c.requires.holds c.requires.seed

pub make-requires-clause-some : goal.make-requires-clause-some
make-requires-clause-some g c = let e : length c.as_slice.result.now ≡ table_length (bounds_of c.args.shape.now) = ap length c.as_slice.ensures.value
    ∙ c.in_ok-words.ensures.long in subst (λ n. 0 < n) (sym e) (table_has_words (bounds_of c.args.shape.now))

pub invariant_of-result : goal.invariant_of-result
invariant_of-result g c =
    record {
      sized =
          c.in_ok-words-2.ensures.words
          ∙ (ap length c.as_slice.ensures.value
          ∙ (c.in_ok-words.ensures.long ∙ ap (λ q. table_length (bounds_of q.shape)) (sym c.in_ok-words-2.ensures.shape)));
    }

pub returns-clause-agents : goal.returns-clause-agents
returns-clause-agents g c = λ i p lt.
    let e = c.in_ok-passes.ensures.same i p p.pass (subst (λ n. i < n) c.in_ok-passes.ensures.long lt) in
    let lt2 = subst (λ n. i < n) c.in_ok-passes.ensures.long lt in
    ap (λ z. z.agent) e ∙ c.in_ok-words-2.ensures.agents i p.pass lt2

pub returns-clause-absorbed : goal.returns-clause-absorbed
returns-clause-absorbed g c = λ i p lt.
    let e = c.in_ok-passes.ensures.same i p p.pass (subst (λ n. i < n) c.in_ok-passes.ensures.long lt) in
    let lt2 = subst (λ n. i < n) c.in_ok-passes.ensures.long lt in
    ap (λ z. z.seat.me.0.also) e ∙ (c.in_ok-words-2.ensures.seen i p.pass lt2).1

pub returns-clause-belongs : goal.returns-clause-belongs
returns-clause-belongs g c = λ i p lt.
    let e = c.in_ok-passes.ensures.same i p p.pass (subst (λ n. i < n) c.in_ok-passes.ensures.long lt) in
    let lt2 = subst (λ n. i < n) c.in_ok-passes.ensures.long lt in
    let d = g.D.Discipline in
    let seen = ap (λ z. z.seat.me.0.seen) e ∙ (c.in_ok-words-2.ensures.seen i p.pass lt2).0 in
    let x = slice_index_or c.in_ok-passes.passes.items i p in
    let agent = ap (λ z. z.agent) e ∙ c.in_ok-words-2.ensures.agents i p.pass lt2 in
    let count = c.in_ok-words-2.ensures.passes in
    let below : x.pass.agent < (bounds_of c.args.shape.now).agents = omega (arith, agent, count, lt2) in
    record {
      table = ap (λ z. z.seat.table_id) e ∙ c.in_ok-words-2.ensures.table i p.pass lt2;
      keeps = new_keeps d (record { shape = c.args.shape.now; seed = c.args.seed; layout = c.new.result; laid = c.make-arg-1.given.0 }) c.in_ok-words-2.words.shape c.in_ok-words-2.ensures.shape
          (opens d c.args.shape.now c.new.result c.make-arg-1.given.0 c.args.seed c.requires.holds c.requires.seed) c.requires.holds x.pass.seat.me.0 x.pass.agent x.pass.named below
          seen x.fresh (c.in_ok-passes.ensures.fresh i p lt);
    }

pub returns-clause-events : goal.returns-clause-events
returns-clause-events g c = λ i p lt.
    let e = c.in_ok-passes.ensures.same i p p.pass (subst (λ n. i < n) c.in_ok-passes.ensures.long lt) in
    let lt2 = subst (λ n. i < n) c.in_ok-passes.ensures.long lt in
    let seen = ap (λ z. z.seat.me.0.seen) e ∙ (c.in_ok-words-2.ensures.seen i p.pass lt2).0 in
    let shape = c.in_ok-words-2.ensures.shape in
    (λ j. project (bounds_of (shape j).shape) (seen j)) ∙ opened_events g.D.Discipline c.args.shape.now c.args.seed
    (has_roots g.D.Discipline.may (numbers (bounds_of c.args.shape.now)) c.args.seed c.requires.seed)
