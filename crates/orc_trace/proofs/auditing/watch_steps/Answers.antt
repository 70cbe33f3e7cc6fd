use Rattle.std.proofs.Common.{rules, ap, arith, subst, sym, true, ℕ, ◌∙◌, ◌≡◌}
use Rattle.orc_words.specs.Bounds.{Bounds, bounds_of}
use Rattle.orc_core.specs.Machine.{Machine, is_allowed, step}
use Rattle.orc_trace.specs.Reaching.{HasMarks}
use Rattle.orc_trace.proofs.Plays.{step-shorter}
use Rattle.orc_trace.proofs.Watching.{room-so-far, so-far-bounds, so-far-first, so-far-more}
use Rattle.orc_trace_text.proofs.Lines.{shape-in_range}
use Rattle.orc_trace.proofs.auditing.watch_steps.Goals as goal

pub loop-rest-init : goal.loop-rest-init
loop-rest-init c =
    let first = c.first_look-seen.ensures in
    record {
      short = let none = first.steps in omega (arith, none);
      room = subst (λ (m : Machine). HasMarks c.first_look-seen.new.reach m.bounds.rows) c.requires.new first.room;
      so = so-far-first (bounds_of c.args.shape.now) c.args.lines.now c.args.state.now c.first_look-seen.result (shape-in_range c.args.shape.now)
          c.requires.new first.steps first.most first.after first.leak;
    }

pub apply-requires : goal.apply-requires
apply-requires c =
    room-so-far (bounds_of c.args.shape.now) c.args.lines.now c.loop-rest.rest.now c.loop-rest.state c.loop-rest.seen c.in-Some.agent c.in-Some.op
    (shape-in_range c.args.shape.now) c.loop-rest.invariant.so

pub look-seen-requires-clause-room : goal.look-seen-requires-clause-room
look-seen-requires-clause-room c =
    let stepped : c.apply.new.state ≡ step c.loop-rest.state c.in-Some.agent c.in-Some.op = search rules in
    let bounds = so-far-bounds (bounds_of c.args.shape.now) c.args.lines.now c.loop-rest.rest.now c.loop-rest.state c.loop-rest.seen
    c.loop-rest.invariant.so in
    subst (λ (n : ℕ). HasMarks c.loop-rest.reach n) (sym (ap (λ (m : Machine). m.bounds.rows) stepped ∙ ap (λ (b : Bounds). b.rows) bounds))
    c.loop-rest.invariant.room

pub loop-rest-preserved : goal.loop-rest-preserved
loop-rest-preserved c =
    let line = c.in-Some.ensures.some in
    let shorter = step-shorter (bounds_of c.args.shape.now) (c.in-Some.agent, c.in-Some.op) c.in-Some.more.now c.loop-rest.rest.now line in
    let short = c.loop-rest.invariant.short in
    let more = c.look-seen.ensures in
    let made : is_allowed c.loop-rest.state c.in-Some.agent c.in-Some.op ≡ true = search rules in
    let stepped : c.apply.new.state ≡ step c.loop-rest.state c.in-Some.agent c.in-Some.op = search rules in
    let bounds = so-far-bounds (bounds_of c.args.shape.now) c.args.lines.now c.loop-rest.rest.now c.loop-rest.state c.loop-rest.seen
    c.loop-rest.invariant.so in
    let rows = ap (λ (m : Machine). m.bounds.rows) stepped ∙ ap (λ (b : Bounds). b.rows) bounds in
    record {
      short = let steps = more.steps in omega (arith, shorter, short, steps);
      room = subst (λ (n : ℕ). HasMarks c.look-seen.new.reach n) rows more.room;
      so = so-far-more (bounds_of c.args.shape.now) c.args.lines.now c.loop-rest.rest.now c.loop-rest.state c.apply.new.state c.loop-rest.seen
          c.look-seen.result c.in-Some.agent c.in-Some.op c.in-Some.more.now (shape-in_range c.args.shape.now) c.loop-rest.invariant.so line made stepped
          more.steps more.worst more.leak;
    }
