-- What holds of each pass holds of those that are left, and of the one that is popped.
use Rattle.std.proofs.lemmas.List.Elements.{All-pop}
use Rattle.uses.proofs.Popping.{left_in_place, popped_in_place}
use Rattle.uses.proofs.passes.next_list_pass.Goals as goal

pub returns-clause-usable : goal.returns-clause-usable
returns-clause-usable g c = (All-pop (λ p. g.S.SharedSet.usable c.args.set.now p) _ _ _ c.pop.ensures.items c.requires.usable).0

pub returns-clause-popped : goal.returns-clause-popped
returns-clause-popped g c = (All-pop (λ p. g.S.SharedSet.usable c.args.set.now p) _ _ _ c.pop.ensures.items c.requires.usable).1

pub returns-clause-agents : goal.returns-clause-agents
returns-clause-agents g c = left_in_place (λ p. g.S.SharedSet.agent_of c.args.set.now p) _ _ _ c.pop.ensures.items c.requires.agents

pub returns-clause-agent : goal.returns-clause-agent
returns-clause-agent g c = popped_in_place (λ p. g.S.SharedSet.agent_of c.args.set.now p) _ _ _ c.pop.ensures.items c.requires.agents
