-- They are all passes of the domain that the queue stands on.
use Rattle.std.proofs.Common.{subst}
use Rattle.orc_containers.proofs.News.{all_given_back}
use Rattle.orc_containers.proofs.queue.queue_at_rest.Goals as goal

pub end-requires : goal.end-requires
end-requires g c = all_given_back g.L.Links c.into_links.ensures c.requires.usable c.requires.agents c.requires.many

pub returns : goal.returns
returns g c = subst (λ d. g.L.Domain.rests d c.args.passes.items c.end.result) c.into_links.ensures c.end.ensures
