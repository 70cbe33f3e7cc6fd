use Rattle.std.proofs.Common.{refl}
use Rattle.orc_team.proofs.Lessons.{Learned-at}
use Rattle.orc_team.proofs.learning.+learn_once.Goals as goal

pub returns-clause-learned : goal.returns-clause-learned
returns-clause-learned g t c = λ k.
    let s = g.C.Workplace.site c.args.here.now in
    Learned-at (s.history k) (s.agent_of k) _ _ _ _ _ _ _ _ _ _ _ _ _ _ c.in-Some.ensures.cases.0 refl refl
    (c.learn.ensures.learned k) refl refl (c.learn_once.ensures.learned k)
