-- From root 0 or the dummy on.
use Rattle.orc_split_set.proofs.Ordered.{begins_plain}
use Rattle.orc_split_set.proofs.search.search_for.Goals as goal

pub search_chain-requires-clause-begins : goal.search_chain-requires-clause-begins
search_chain-requires-clause-begins g c =
    let (place, s, room, b) = c.requires.begins in
    (place, s, room, rw c.place.ensures (begins_plain _ place _ c.args.left s _ (g.met.L.Links.obeys _ _ c.requires.pass) b))

pub returns-clause-found : goal.returns-clause-found
returns-clause-found g c = λ place s room b.
    rw c.place.ensures at c.search_chain.ensures.found place s room
    (begins_plain _ place _ c.args.left s _ (g.met.L.Links.obeys _ _ c.requires.pass) b)
