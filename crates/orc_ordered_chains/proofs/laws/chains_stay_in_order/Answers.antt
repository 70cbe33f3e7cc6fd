use Rattle.std.proofs.Common.{ap}
use Rattle.orc_heap.specs.Acts.{heap_after}
use Rattle.orc_heap.specs.declared.events.Act.TheVariants.{Move}
use Rattle.orc_heap.specs.declared.events.Link.{Link}
use Rattle.orc_heap.specs.declared.events.Place.TheVariants.{Next}
use Rattle.orc_ordered_chains.proofs.Acts.{act_unmoved, chain_place_linked, move_links, move_moves}
use Rattle.orc_ordered_chains.proofs.Later.{no_chains}
use Rattle.orc_ordered_chains.proofs.Linking.{chains_link}
use Rattle.orc_ordered_chains.proofs.Marking.{chains_mark}
use Rattle.orc_ordered_chains.proofs.Paths.{place_on_chain}
use Rattle.orc_ordered_chains.proofs.Still.{chains_still, unmoved_still}
use Rattle.orc_ordered_chains.proofs.Unlinking.{chains_unlink}
use Rattle.orc_ordered_chains.proofs.laws.chains_stay_in_order.Goals as goal

pub returns-clause-nothing : goal.returns-clause-nothing
returns-clause-nothing c = no_chains

pub returns-clause-linked : goal.returns-clause-linked
returns-clause-linked c = λ o h agent place from to rank chains a fits.
    let on = place_on_chain o h chains rank place a.on_chain in
    chains_link o h (heap_after agent (Move place from to) h) place from to rank chains (move_moves agent place from to h fits) a
    (move_links agent place from to h a.id a.node fits (chain_place_linked o h place on) (ap (λ (l : Link). l.to) a.to_is) a.there a.unlinked)

pub returns-clause-marked : goal.returns-clause-marked
returns-clause-marked c = λ o h agent id from to chains r fits.
    chains_mark o h (heap_after agent (Move (Next id) from to) h) id from to chains (move_moves agent (Next id) from to h fits) r

pub returns-clause-unlinked : goal.returns-clause-unlinked
returns-clause-unlinked c = λ o h agent place from to chains u fits.
    chains_unlink o h (heap_after agent (Move place from to) h) place from to chains (move_moves agent place from to h fits) u

pub returns-clause-other : goal.returns-clause-other
returns-clause-other c = λ o h agent act chains plain fits.
    chains_still o h (heap_after agent act h) chains (unmoved_still o h (heap_after agent act h) (act_unmoved agent act h fits plain))
