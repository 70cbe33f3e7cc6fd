use Rattle.std.proofs.Common.{◌≡◌, ◌∙◌, ℕ, zero, suc, List, ◌∷◌, subst, sym}
use Rattle.orc_history.specs.Journals.{LearnsEntries}
use Rattle.orc_history.specs.QueueHistory.{agent_of_entry}
use Rattle.orc_history.specs.declared.queue.SharedQueue.{Ghosts as QueueOf}
use Rattle.orc_stages.specs.Desks.{ArePasses}
use Rattle.orc_pipeline.specs.Desks.{LearnEach}
use Rattle.orc_pipeline.proofs.at_queues.+learn_passes.Goals as goal

-- the passes of these queues, of which the first and the rest are known
passes_are : {Q P A : Type 0} (q : QueueOf Q P A) (agent : ℕ) (queue : Q) (queues all : List Q) (p : P) (ps old : List P)
    → all ≡ queue ∷ queues → old ≡ p ∷ ps → ArePasses q agent all old → ArePasses q agent (queue ∷ queues) (p ∷ ps)
passes_are {Q} {P} q agent queue queues all p ps old is b h =
    subst (λ (xs : List P). ArePasses q agent (queue ∷ queues) xs) b (subst (λ (xs : List Q). ArePasses q agent xs old) is h)

-- the first passes learned from each other, and so did the rest
each_learned : {Q P A : Type 0} (q : QueueOf Q P A) (agent other : ℕ) (queue : Q) (queues : List Q) (p r p2 r2 : P) (ps rs ps2 rs2 : List P)
    → LearnsEntries (q.history queue) agent_of_entry agent other (q.journal p) (q.journal r) (q.journal p2) (q.journal r2)
    → LearnEach q agent other queues ps rs ps2 rs2 → LearnEach q agent other (queue ∷ queues) (p ∷ ps) (r ∷ rs) (p2 ∷ ps2) (r2 ∷ rs2)
each_learned q agent other queue queues p r p2 r2 ps rs ps2 rs2 first rest zero = first
each_learned q agent other queue queues p r p2 r2 ps rs ps2 rs2 first rest (suc i) = rest i

pub learn-requires-clause-usable : goal.learn-requires-clause-usable
learn-requires-clause-usable g t c =
    let a = passes_are g.Q.SharedQueue c.args.agent c.in-Some.queue.now _ _ _ _ _ c.in-Some.ensures.cases.0 c.in-Some-split_first_mut.ensures.cases.0
    c.requires.passes in
    let b = passes_are g.Q.SharedQueue c.args.other c.in-Some.queue.now _ _ _ _ _ c.in-Some.ensures.cases.0 c.in-Some-split_first_mut-2.ensures.cases.0
    c.requires.others in
    (a.0, b.0)

pub learn-requires-clause-agents : goal.learn-requires-clause-agents
learn-requires-clause-agents g t c =
    let a = passes_are g.Q.SharedQueue c.args.agent c.in-Some.queue.now _ _ _ _ _ c.in-Some.ensures.cases.0 c.in-Some-split_first_mut.ensures.cases.0
    c.requires.passes in
    let b = passes_are g.Q.SharedQueue c.args.other c.in-Some.queue.now _ _ _ _ _ c.in-Some.ensures.cases.0 c.in-Some-split_first_mut-2.ensures.cases.0
    c.requires.others in
    λ e. c.requires.two (sym a.1 ∙ e ∙ b.1)

pub returns-in_default-clause-passes : goal.returns-in_default-clause-passes
returns-in_default-clause-passes g t c = c.requires.passes

pub returns-in_default-clause-others : goal.returns-in_default-clause-others
returns-in_default-clause-others g t c = c.requires.others

pub returns-clause-passes : goal.returns-clause-passes
returns-clause-passes g t c =
    let a = passes_are g.Q.SharedQueue c.args.agent c.in-Some.queue.now _ _ _ _ _ c.in-Some.ensures.cases.0 c.in-Some-split_first_mut.ensures.cases.0
    c.requires.passes in
    rw c.in-Some.ensures.cases.0 (c.learn.ensures.usable.0, c.learn.ensures.agents.0 ∙ a.1, c.learn_passes.ensures.passes)

pub returns-clause-others : goal.returns-clause-others
returns-clause-others g t c =
    let b = passes_are g.Q.SharedQueue c.args.other c.in-Some.queue.now _ _ _ _ _ c.in-Some.ensures.cases.0 c.in-Some-split_first_mut-2.ensures.cases.0
    c.requires.others in
    rw c.in-Some.ensures.cases.0 (c.learn.ensures.usable.1, c.learn.ensures.agents.1 ∙ b.1, c.learn_passes.ensures.others)

pub returns-clause-learned : goal.returns-clause-learned
returns-clause-learned g t c =
    let a = passes_are g.Q.SharedQueue c.args.agent c.in-Some.queue.now _ _ _ _ _ c.in-Some.ensures.cases.0 c.in-Some-split_first_mut.ensures.cases.0
    c.requires.passes in
    let b = passes_are g.Q.SharedQueue c.args.other c.in-Some.queue.now _ _ _ _ _ c.in-Some.ensures.cases.0 c.in-Some-split_first_mut-2.ensures.cases.0
    c.requires.others in
    rw (c.in-Some.ensures.cases.0, c.in-Some-split_first_mut.ensures.cases.0, c.in-Some-split_first_mut-2.ensures.cases.0)
    (each_learned g.Q.SharedQueue c.args.agent c.args.other c.in-Some.queue.now _ _ _ _ _ _ _ _ _ (rw (a.1, b.1) at c.learn.ensures.learned)
    c.learn_passes.ensures.learned)
