use Rattle.std.proofs.Common.{rules, List, subst}
use Rattle.std.proofs.lemmas.List.{with_items_is, places}
use Rattle.orc_pipeline.specs.Desks.{LearnEach}
use Rattle.orc_pipeline.proofs.at_queues.AtQueuesWorkplace.learn.Goals as goal

pub returns-clause-learned : goal.returns-clause-learned
returns-clause-learned g c =
    let q = g.Q.SharedQueue in
    let queues = c.args.self.now.queues.now in
    let P : Type 0 = g.row.Q-Pass.Denot in
    let e = c.learn_passes.ensures in
    let one = subst (λ (ps : List P). LearnEach q c.args.me c.args.other queues ps c.as_mut_slice-2.result.now c.learn_passes.new.passes c.learn_passes.new.others)
    c.as_mut_slice.ensures.value e.learned in
    let two : LearnEach q c.args.me c.args.other queues c.args.desk.now.passes.items c.args.more.now.passes.items c.learn_passes.new.passes
    c.learn_passes.new.others =
    subst (λ (ps : List P). LearnEach q c.args.me c.args.other queues c.args.desk.now.passes.items ps c.learn_passes.new.passes c.learn_passes.new.others)
    c.as_mut_slice-2.ensures.value one in
    let mine = with_items_is c.args.desk.now.passes c.learn_passes.new.passes (search (rules, places)) in
    let theirs = with_items_is c.args.more.now.passes c.learn_passes.new.others (search (rules, places)) in
    rw (mine, theirs) two
