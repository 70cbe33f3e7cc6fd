use Rattle.std.proofs.Common.{arith, ◌∷◌}
use Rattle.orc_domain.proofs.Resting.{first_of, others_of}
use Rattle.orc_domain.proofs.DrainingAll.{Drained, drained, first_differs, idle2, numbered_others, seen_others, third_differs}
use Rattle.orc_domain.proofs.domain.OrcDomain.drain_all.Given.{Over}
use Rattle.orc_domain.proofs.domain.OrcDomain.drain_all.Goals.{After-learn_from_all-in-Some}
use Rattle.orc_domain.proofs.domain.OrcDomain.drain_all.Goals as goal

pub learn_from_all-requires-clause-first : goal.learn_from_all-requires-clause-first
learn_from_all-requires-clause-first g c =
    first_of c.args.self.now c.args.passes.now c.in-Some.first.now c.in-Some.others.now c.in-Some.ensures.cases.0 c.requires.all

pub learn_from_all-requires-clause-others : goal.learn_from_all-requires-clause-others
learn_from_all-requires-clause-others g c =
    others_of c.args.self.now c.args.passes.now c.in-Some.first.now c.in-Some.others.now c.in-Some.ensures.cases.0 c.requires.all

pub learn_from_all-requires-clause-agents : goal.learn_from_all-requires-clause-agents
learn_from_all-requires-clause-agents g c =
    first_differs c.args.self.now c.args.passes.now c.in-Some.first.now c.in-Some.others.now c.in-Some.ensures.cases.0 c.requires.all c.requires.idle

pub drain-requires-clause-idle : goal.drain-requires-clause-idle
drain-requires-clause-idle g c =
    (idle2 c.args.self.now c.args.passes.now c.in-Some.first.now c.in-Some.others.now c.in-Some.ensures.cases.0 c.requires.all c.requires.idle
    c.learn_from_all.new.first c.learn_from_all.new.others c.learn_from_all.ensures.steps).0

pub drain_in_turn-requires-clause-idle : goal.drain_in_turn-requires-clause-idle
drain_in_turn-requires-clause-idle g c =
    (idle2 c.args.self.now c.args.passes.now c.in-Some.first.now c.in-Some.others.now c.in-Some.ensures.cases.0 c.requires.all c.requires.idle
    c.learn_from_all.new.first c.learn_from_all.new.others c.learn_from_all.ensures.steps).1

pub drain_in_turn-requires-clause-numbered : goal.drain_in_turn-requires-clause-numbered
drain_in_turn-requires-clause-numbered g c =
    numbered_others c.args.self.now c.args.passes.now c.in-Some.first.now c.in-Some.others.now c.in-Some.ensures.cases.0 c.requires.all c.requires.idle
    c.learn_from_all.new.first c.learn_from_all.new.others c.learn_from_all.ensures.steps c.learn_from_all.ensures.first
    c.drain.new.p c.drain.ensures.pass c.drain.ensures.idle c.drain.ensures.drains c.drain.ensures.nothing

pub drain_in_turn-requires-clause-seen : goal.drain_in_turn-requires-clause-seen
drain_in_turn-requires-clause-seen g c =
    seen_others c.args.self.now c.args.passes.now c.in-Some.first.now c.in-Some.others.now c.in-Some.ensures.cases.0 c.requires.all c.requires.idle
    c.learn_from_all.new.first c.learn_from_all.new.others c.learn_from_all.ensures.steps c.learn_from_all.ensures.first
    c.drain.new.p c.drain.ensures.pass c.drain.ensures.idle c.drain.ensures.drains c.drain.ensures.nothing

pub learn_from_all-requires-in-Some-clause-agents : goal.learn_from_all-requires-in-Some-clause-agents
learn_from_all-requires-in-Some-clause-agents g c =
    third_differs c.args.self.now c.args.passes.now c.in-Some.first.now c.in-Some.others.now c.in-Some.ensures.cases.0 c.requires.all c.requires.idle
    c.learn_from_all.new.first c.learn_from_all.new.others c.learn_from_all.ensures.steps c.learn_from_all.ensures.first
    c.drain.new.p c.drain.ensures.pass c.drain.ensures.idle c.drain.ensures.drains c.drain.ensures.nothing
    c.drain_in_turn.new.before c.drain_in_turn.new.others c.drain_in_turn.ensures.hears c.drain_in_turn.ensures.same c.drain_in_turn.ensures.turns

-- the passes at the end
ended : (g : Over) (c : After-learn_from_all-in-Some g)
    → Drained c.args.self.now c.args.passes.now (c.learn_from_all-in-Some.new.first ∷ c.learn_from_all-in-Some.new.others)
ended g c =
    drained c.args.self.now c.args.passes.now c.in-Some.first.now c.in-Some.others.now c.in-Some.ensures.cases.0 c.requires.all c.requires.idle
    c.learn_from_all.new.first c.learn_from_all.new.others c.learn_from_all.ensures.steps c.learn_from_all.ensures.first
    c.drain.new.p c.drain.ensures.pass c.drain.ensures.idle c.drain.ensures.drains c.drain.ensures.nothing
    c.drain_in_turn.new.before c.drain_in_turn.new.others c.drain_in_turn.ensures.hears c.drain_in_turn.ensures.same c.drain_in_turn.ensures.turns
    c.learn_from_all-in-Some.new.first c.learn_from_all-in-Some.new.others c.learn_from_all-in-Some.ensures.steps
    c.learn_from_all-in-Some.ensures.first c.learn_from_all-in-Some.ensures.others

pub returns-in-Some : goal.returns-in-Some
returns-in-Some g c = let e = ended g (goal.at.returns-in-Some g c).After-learn_from_all-in-Some in record {
  all = e.all;
  idle = e.idle;
  settled = e.settled;
  one_list = e.one_list;
  own = e.own;
  rest = e.rest;
  later = e.later;
  heard = e.heard;
  longest = e.longest;
  quiet = e.quiet;
}

pub drain-requires-clause-pass : goal.drain-requires-clause-pass
drain-requires-clause-pass g c = c.learn_from_all.ensures.first

pub drain_in_turn-requires-clause-before : goal.drain_in_turn-requires-clause-before
drain_in_turn-requires-clause-before g c = c.drain.ensures.pass

pub drain_in_turn-requires-clause-others : goal.drain_in_turn-requires-clause-others
drain_in_turn-requires-clause-others g c = c.learn_from_all.ensures.others

pub learn_from_all-requires-in-Some-clause-first : goal.learn_from_all-requires-in-Some-clause-first
learn_from_all-requires-in-Some-clause-first g c = c.drain_in_turn.ensures.before

pub learn_from_all-requires-in-Some-clause-others : goal.learn_from_all-requires-in-Some-clause-others
learn_from_all-requires-in-Some-clause-others g c = c.drain_in_turn.ensures.others

-- each domain has a pass
pub returns-in_default : goal.returns-in_default
returns-in_default g c =
    let many = c.requires.all.many in
    let some = c.args.self.now.board.words.shape.shape.some_agents in
    let none = c.in_default.ensures.cases in
    absurd (omega (arith, many, some, none))
