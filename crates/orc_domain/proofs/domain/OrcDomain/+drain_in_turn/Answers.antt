use Rattle.std.proofs.Common.{refl, rules, subst}
use Rattle.std.specs.List.{AllByRecursion}
use Rattle.orc_any_domain.proofs.Lists.{all_behind}
use Rattle.orc_domain.proofs.NextDrain.{before_hears, list_stays, next_differs, next_idle, next_numbered, next_seen, others_idle, turns_next}
use Rattle.orc_domain.specs.Passes.{IsPassOf}
use Rattle.orc_domain.proofs.domain.OrcDomain.+drain_in_turn.Goals as goal

pub drain_in_turn-requires : goal.drain_in_turn-requires
drain_in_turn-requires g t c κs within =
    let domain = c.args.self.now in
    let r = c.requires in
    let is = c.in-Some.ensures.cases.0 in
    let v = c.in-Some.next.now in
    let vs = c.in-Some.rest.now in
    let others = all_behind (λ p. IsPassOf domain p) c.args.others.now v vs is r.others in
    let idle = others_idle domain c.args.before.now v vs c.args.others.now is r.numbered r.idle r.seen c.learn.new.into c.learn.new.from
    c.learn.ensures.learned in
    let numbered = next_numbered domain c.args.before.now v vs c.args.others.now is r.numbered r.idle r.seen c.learn.new.into c.learn.new.from
    c.learn.ensures.learned c.drain.new.p c.drain.ensures.drains c.drain.ensures.nothing in
    let seen = next_seen domain c.args.before.now v vs c.args.others.now is r.numbered r.idle r.seen c.learn.new.into c.learn.new.from
    c.learn.ensures.learned c.drain.new.p c.drain.ensures.drains c.drain.ensures.nothing in
    search rules

pub returns-clause-hears : goal.returns-clause-hears
returns-clause-hears g t c =
    before_hears c.args.self.now c.args.before.now c.in-Some.next.now c.in-Some.rest.now c.args.others.now c.in-Some.ensures.cases.0
    c.requires.numbered c.requires.idle c.requires.seen c.learn.new.into c.learn.new.from c.learn.ensures.learned

pub returns-clause-same : goal.returns-clause-same
returns-clause-same g t c =
    list_stays c.args.self.now c.args.before.now c.in-Some.next.now c.in-Some.rest.now c.args.others.now c.in-Some.ensures.cases.0
    c.requires.numbered c.requires.idle c.requires.seen c.learn.new.into c.learn.new.from c.learn.ensures.learned

pub returns-clause-turns : goal.returns-clause-turns
returns-clause-turns g t c =
    let passes = subst (AllByRecursion (λ p. IsPassOf c.args.self.now p)) c.in-Some.ensures.cases.0 c.requires.others in
    turns_next c.args.self.now c.args.before.now c.in-Some.next.now c.in-Some.rest.now c.args.others.now c.in-Some.ensures.cases.0
    c.requires.numbered c.requires.idle c.requires.seen c.learn.new.into c.learn.new.from c.learn.ensures.learned
    c.drain.new.p c.drain.ensures.drains c.drain.ensures.nothing passes.0 c.drain.ensures.pass c.drain.ensures.idle
    c.drain_in_turn.new.before c.drain_in_turn.new.others c.drain_in_turn.ensures.hears c.drain_in_turn.ensures.same c.drain_in_turn.ensures.turns

pub learn-requires-clause-passes : goal.learn-requires-clause-passes
learn-requires-clause-passes g t c =
    let passes = subst (AllByRecursion (λ p. IsPassOf c.args.self.now p)) c.in-Some.ensures.cases.0 c.requires.others in
    (passes.0, c.requires.before)

pub learn-requires-clause-agents : goal.learn-requires-clause-agents
learn-requires-clause-agents g t c =
    next_differs c.args.self.now c.args.before.now c.in-Some.next.now c.in-Some.rest.now c.args.others.now c.in-Some.ensures.cases.0 c.requires.numbered

pub drain-requires-clause-pass : goal.drain-requires-clause-pass
drain-requires-clause-pass g t c = c.learn.ensures.passes.0

pub drain-requires-clause-idle : goal.drain-requires-clause-idle
drain-requires-clause-idle g t c =
    next_idle c.args.self.now c.args.before.now c.in-Some.next.now c.in-Some.rest.now c.args.others.now c.in-Some.ensures.cases.0
    c.requires.numbered c.requires.idle c.requires.seen c.learn.new.into c.learn.new.from c.learn.ensures.learned

pub returns-clause-before : goal.returns-clause-before
returns-clause-before g t c = c.learn.ensures.passes.1

pub returns-clause-others : goal.returns-clause-others
returns-clause-others g t c = (c.drain_in_turn.ensures.before, c.drain_in_turn.ensures.others)

pub returns-in_default-clause-before : goal.returns-in_default-clause-before
returns-in_default-clause-before g t c = c.requires.before

pub returns-in_default-clause-others : goal.returns-in_default-clause-others
returns-in_default-clause-others g t c = c.requires.others

pub returns-in_default-clause-same : goal.returns-in_default-clause-same
returns-in_default-clause-same g t c = refl
