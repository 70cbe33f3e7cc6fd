use Rattle.std.proofs.Common.{List, [], ap, ap₂, append_assoc, arith, subst, sym, ◌+◌, ◌++◌, ◌∙◌, ◌∷◌, ◌≡◌}
use Rattle.orc_stress.specs.Answers.{calls_of}
use Rattle.orc_stress.specs.Parts.{calls_of_agents}
use Rattle.orc_stress.specs.Passes.{AllStay}
use Rattle.orc_stress.proofs.Staying.{calls_summed, one_more, parts_few, parts_more}
use Rattle.orc_stress.proofs.agents.+agents.Goals as goal

pub join-requires : goal.join-requires
join-requires g t c =
    let ready = g.C.Container.ready c.args.container.now in
    let agent = g.C.Container.agent_of c.args.container.now in
    let others = parts_few ready agent c.args.plan.now c.pop.new.self.items in
    let one = parts_few ready agent c.args.plan.now (c.in-Some.pass ∷ []) in
    omega (arith, others, one, c.join-one.ensures.second.0.calls, c.join-one.ensures.first.1)

pub returns-clause-ran : goal.returns-clause-ran
returns-clause-ran g t c =
    let ready = g.C.Container.ready c.args.container.now in
    let agent = g.C.Container.agent_of c.args.container.now in
    let ran = c.join-one.ensures.second.0 in
    let ws = c.pop.new.self.items in
    let w = c.in-Some.pass in
    let v = c.join-one.result.0.pass in
    let was : c.args.waiting.items ≡ ws ++ w ∷ [] = c.in-Some.ensures.items in
    let assoc = append_assoc c.args.done.items ran.new (v ∷ []) in
    let sums = calls_summed c.join-one.result.1.tally.answers c.join-one.result.0.tally.answers in
    let more = parts_more ready agent c.args.plan.now ws w in
    record {
      new = ran.new ++ v ∷ [];
      is = c.in-Ok.ensures.items ∙ (ap (λ (xs : List g.row.C-Pass.Denot). xs ++ v ∷ []) ran.is ∙ assoc);
      stay = record {
        all = subst (λ (xs : List g.row.C-Pass.Denot). AllStay ready agent xs (ran.new ++ v ∷ [])) (sym was)
            (one_more ready agent ws ran.new w v ran.stay.all c.join-one.ensures.first.0);
      };
      calls = ap calls_of c.join.ensures ∙ (sums ∙ (ap₂ ◌+◌ ran.calls c.join-one.ensures.first.1
          ∙ (sym more ∙ ap (calls_of_agents c.args.plan.now agent) (sym was))));
    }
