use Rattle.std.proofs.Common.{rules, true, false, ◌≡◌, ◌∙◌, ◌+◌, List, ℕ, arith, sym, subst}
use Rattle.orc_words.specs.Bounds.{bounds_of}
use Rattle.orc_core.specs.Machine.{Machine, is_allowed, step}
use Rattle.orc_trace.specs.Replay.{BeginsWithSteps}
use Rattle.orc_trace_text.proofs.Lines.{shape-in_range}
use Rattle.orc_trace.proofs.Plays.{Continues, Continues-here, Continues-start, Continues-step, none-left, room-here, some-left, step-shorter}
use Rattle.orc_trace.proofs.playing.play_lines.Goals as goal

pub loop-rest-init : goal.loop-rest-init
loop-rest-init c = record { short = omega arith; so = Continues-start (bounds_of c.args.shape.now) c.args.state.now c.args.lines.now }

pub returns-in_default-clause-err : goal.returns-in_default-clause-err
returns-in_default-clause-err c =
    let here = Continues-here (bounds_of c.args.shape.now) c.args.state.now c.args.lines.now c.loop-rest.steps c.loop-rest.state c.loop-rest.rest.now
    c.loop-rest.invariant.so in
    (here.0, c.loop-rest.rest.now, here.1, here.2, (some-left c.loop-rest.rest.now (sym c.is_empty.ensures ∙ c.loop-rest-test.true), c.in_default.ensures.none))

pub apply-requires : goal.apply-requires
apply-requires c =
    let b = bounds_of c.args.shape.now in
    room-here b c.args.lines.now c.loop-rest.steps c.loop-rest.state c.loop-rest.rest.now c.in-Some.agent c.in-Some.op (shape-in_range c.args.shape.now)
    (subst (λ (m : Machine). Continues b m c.args.lines.now c.loop-rest.steps c.loop-rest.state c.loop-rest.rest.now) c.requires c.loop-rest.invariant.so)

pub returns-then-is_err-clause-err : goal.returns-then-is_err-clause-err
returns-then-is_err-clause-err c =
    let here = Continues-here (bounds_of c.args.shape.now) c.args.state.now c.args.lines.now c.loop-rest.steps c.loop-rest.state c.loop-rest.rest.now
    c.loop-rest.invariant.so in
    let refused : is_allowed c.loop-rest.state c.in-Some.agent c.in-Some.op ≡ false = search rules in
    (here.0, c.loop-rest.rest.now, here.1, here.2, ((c.in-Some.agent, c.in-Some.op), c.in-Some.more.now, c.in-Some.ensures.some, rw here.3 refused))

pub loop-rest-preserved : goal.loop-rest-preserved
loop-rest-preserved c =
    let line = c.in-Some.ensures.some in
    let shorter = step-shorter (bounds_of c.args.shape.now) (c.in-Some.agent, c.in-Some.op) c.in-Some.more.now c.loop-rest.rest.now line in
    let short = c.loop-rest.invariant.short in
    let made : is_allowed c.loop-rest.state c.in-Some.agent c.in-Some.op ≡ true = search rules in
    let stepped : c.apply.new.state ≡ step c.loop-rest.state c.in-Some.agent c.in-Some.op = search rules in
    let on = Continues-step (bounds_of c.args.shape.now) c.args.state.now c.args.lines.now c.loop-rest.steps c.loop-rest.state c.loop-rest.rest.now
    (c.in-Some.agent, c.in-Some.op) c.in-Some.more.now c.loop-rest.invariant.so line made in
    record {
      short = omega (arith, shorter, short);
      so = subst (λ (m : Machine). Continues (bounds_of c.args.shape.now) c.args.state.now c.args.lines.now
          (c.loop-rest.steps + 1) m c.in-Some.more.now) (sym stepped) on;
    }

pub returns-clause-ok : goal.returns-clause-ok
returns-clause-ok c =
    let here = Continues-here (bounds_of c.args.shape.now) c.args.state.now c.args.lines.now c.loop-rest.steps c.loop-rest.state c.loop-rest.rest.now
    c.loop-rest.invariant.so in
    let empty = none-left c.loop-rest.rest.now (sym c.is_empty.ensures ∙ c.loop-rest-test.false) in
    (here.0, subst (λ (x : List ℕ). BeginsWithSteps (bounds_of c.args.shape.now) c.args.state.now here.0 x c.args.lines.now) empty here.1, sym here.2, sym here.3)
