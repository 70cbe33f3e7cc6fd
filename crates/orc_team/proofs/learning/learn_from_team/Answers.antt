use Rattle.std.proofs.Common.{◌∙◌, List, rules, subst}
use Rattle.std.proofs.lemmas.List.{places, with_items_is}
use Rattle.orc_history.specs.Lists.{Pairwise}
use Rattle.orc_team.specs.Learning.{LearnsAll, SameWorker}
use Rattle.orc_team.specs.declared.team.Worker.{Worker}
use Rattle.orc_team.proofs.Lessons.{Learned-twice}
use Rattle.orc_team.proofs.Teams.{Pairwise-through}
use Rattle.orc_team.proofs.learning.learn_from_team.Goals as goal

pub returns-clause-same : goal.returns-clause-same
returns-clause-same g c =
    let W : Type 0 = Worker g.row.C-Desk.Denot g.row.T.Denot in
    let twice : Pairwise SameWorker c.as_mut_slice-workers.result.now c.learn_once-2.new.others =
    Pairwise-through SameWorker SameWorker SameWorker _ _ _
    (λ x y z r s. record { agent_is = s.agent_is ∙ r.agent_is; replies_are = s.replies_are ∙ r.replies_are })
    c.learn_once.ensures.same c.learn_once-2.ensures.same in
    rw (with_items_is c.args.others.now c.learn_once-2.new.others (search (rules, places)))
    (subst (λ (ws : List W). Pairwise SameWorker ws c.learn_once-2.new.others) c.as_mut_slice-workers.ensures.value twice)

pub returns-clause-learned : goal.returns-clause-learned
returns-clause-learned g c =
    let site = g.C.Workplace.site c.args.here.now in
    let W : Type 0 = Worker g.row.C-Desk.Denot g.row.T.Denot in
    let twice : LearnsAll site c.args.me c.args.desk.now c.learn_once-2.new.desk c.as_mut_slice-workers.result.now c.learn_once-2.new.others =
    λ k. Learned-twice _ _ _ _ _ _ _ _ _ _ (c.learn_once.ensures.learned k) (c.learn_once-2.ensures.learned k) in
    rw (with_items_is c.args.others.now c.learn_once-2.new.others (search (rules, places)))
    (subst (λ (ws : List W). LearnsAll site c.args.me c.args.desk.now c.learn_once-2.new.desk ws c.learn_once-2.new.others) c.as_mut_slice-workers.ensures.value twice)
