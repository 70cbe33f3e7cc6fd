-- A swing of the node's own link that changes the mark alone.
use Rattle.std.proofs.Common.{ap, refl, sym, true, ℕ, ◌∙◌}
use Rattle.orc_heap.proofs.Pieces.{linked_not_fresh}
use Rattle.orc_heap.specs.Seats.{heap_of}
use Rattle.orc_heap.specs.Slots.{id_in}
use Rattle.orc_heap.specs.declared.events.Link.{Link}
use Rattle.orc_history.specs.declared.set.SetEntry.TheVariants.{Removed}
use Rattle.orc_ordered_chains.proofs.Acts.{rank_linked}
use Rattle.orc_ordered_search.specs.Reading.{ordering_of}
use Rattle.orc_ordered_search.specs.Searches.{target_at}
use Rattle.orc_ordered_search.proofs.Marking.{mark_allowed, marks, refused_apart}
use Rattle.orc_ordered_search.proofs.remove.mark_node.Goals as goal

pub swing-requires-clause-linked : goal.swing-requires-clause-linked
swing-requires-clause-linked g c =
    let d = c.args.links.now in
    let s = g.L.Links.seat d c.args.p.now in
    let id = id_in s.slots c.args.node.now in
    let ord = ordering_of (g.met.K.Rank.ordered _) in
    linked_not_fresh _ s id (λ i e. g.met.L.Links.fresh_is d c.args.p.now i c.requires.pass e)
    (rank_linked ord.reading.order (heap_of _ s) id (g.K.SetRank.key_rank c.args.key) c.requires.key)

pub swing-requires-clause-links : goal.swing-requires-clause-links
swing-requires-clause-links g c =
    let s = g.L.Links.seat c.args.links.now c.args.p.now in
    (c.link_to.ensures.held s.slots c.requires.next, c.link_to-2.ensures.held s.slots c.requires.next)

pub swing-requires-clause-allowed : goal.swing-requires-clause-allowed
swing-requires-clause-allowed g c =
    let s = g.L.Links.seat _ c.args.p.now in
    mark_allowed (ordering_of (g.met.K.Rank.ordered _)) g.K.SetRank.key_rank g.K.SetRank.noted (g.met.K.SetRank.allows_mark _) s
    (id_in s.slots c.args.node.now) c.args.key c.agent-agent.result (target_at s.slots c.args.next.now) _ _ _ (c.link_to.ensures.link s.slots)
    (c.link_to-2.ensures.link s.slots) c.note-note.ensures c.agent-agent.ensures (g.met.L.Links.obeys _ _ c.requires.pass) c.requires.key

pub unreachable-requires : goal.unreachable-requires
unreachable-requires g c =
    let s = g.L.Links.seat _ c.args.p.now in
    let e = c.in-Err.ensures in
    refused_apart s.slots _ _ _ _ e.spent (ap (λ (l : Link). l.to) (c.link_to.ensures.link s.slots) ∙ sym
    (ap (λ (l : Link). l.to) (c.link_to-2.ensures.link s.slots)))

pub returns-clause-marked : goal.returns-clause-marked
returns-clause-marked g c =
    let d = c.args.links.now in
    let s = g.L.Links.seat d c.args.p.now in
    let noted = g.K.SetRank.noted in
    marks (ordering_of (g.met.K.Rank.ordered _)) s _ (id_in s.slots c.args.node.now) (target_at s.slots c.args.next.now) _ _ _ _ _
    c.in-Ok.done refl (c.link_to.ensures.link s.slots) (c.link_to-2.ensures.link s.slots)
    (c.note-note.ensures ∙ ap (λ (x : ℕ). noted (Removed x c.args.key true)) c.agent-agent.ensures) c.requires.follows
    (λ i e. g.met.L.Links.fresh_is d c.args.p.now i c.requires.pass e) c.in-Ok.ensures.swung

pub returns-clause-pass : goal.returns-clause-pass
returns-clause-pass g c = c.in-Ok.ensures.pass

pub returns-clause-later : goal.returns-clause-later
returns-clause-later g c = c.in-Ok.ensures.later
