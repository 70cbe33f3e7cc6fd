-- A swing of the left place past the run.
use Rattle.std.proofs.Common.{refl}
use Rattle.orc_heap.specs.Slots.{id_in}
use Rattle.orc_ordered_search.specs.Reading.{ordering_of}
use Rattle.orc_ordered_search.specs.Searches.{place_at, target_at}
use Rattle.orc_ordered_search.proofs.Marking.{not_fresh_at, tries, try_allowed, worn_part}
use Rattle.orc_ordered_search.proofs.remove.unlink_run.Goals as goal

pub swing-tried-requires-clause-place : goal.swing-tried-requires-clause-place
swing-tried-requires-clause-place g c =
    let s = g.L.Links.seat c.args.links.now c.args.p.now in
    c.place_of.ensures.held _ s.slots c.requires.root c.requires.held.0

pub swing-tried-requires-clause-linked : goal.swing-tried-requires-clause-linked
swing-tried-requires-clause-linked g c =
    let d = c.args.links.now in
    let s = g.L.Links.seat d c.args.p.now in
    not_fresh_at (ordering_of (g.met.K.Rank.ordered _)) s c.place_of.result (place_at s.slots c.args.root c.args.left.now)
    (c.place_of.ensures.place s.slots) c.requires.left (λ i e. g.met.L.Links.fresh_is d c.args.p.now i c.requires.pass e)

pub swing-tried-requires-clause-links : goal.swing-tried-requires-clause-links
swing-tried-requires-clause-links g c =
    let s = g.L.Links.seat c.args.links.now c.args.p.now in
    (c.requires.held.1, c.link_to.ensures.held s.slots c.requires.held.2)

pub swing-tried-requires-clause-allowed : goal.swing-tried-requires-clause-allowed
swing-tried-requires-clause-allowed g c =
    let s = g.L.Links.seat _ c.args.p.now in
    try_allowed (ordering_of (g.met.K.Rank.ordered _)) g.K.SetRank.unlinking (g.met.K.SetRank.allows_unlink _) s
    (place_at s.slots c.args.root c.args.left.now) _ (id_in s.slots c.args.first.now) c.requires.run.0 (target_at s.slots c.args.next.now) _ _
    (c.place_of.ensures.place s.slots) (c.link_to.ensures.link s.slots) c.unlink_note-note.ensures (g.met.L.Links.obeys _ _ c.requires.pass)
    c.requires.left c.requires.run.1

pub returns-clause-tried : goal.returns-clause-tried
returns-clause-tried g c =
    let d = c.args.links.now in
    let s = g.L.Links.seat d c.args.p.now in
    let e = c.swing-tried.ensures in
    tries (ordering_of (g.met.K.Rank.ordered _)) s _ (place_at s.slots c.args.root c.args.left.now) c.requires.follows.0
    (id_in s.slots c.args.first.now) (target_at s.slots c.args.next.now) _ _ _ _ _ _ c.swing-tried.result
    (c.place_of.ensures.place s.slots) refl (c.link_to.ensures.link s.slots) c.unlink_note-note.ensures c.requires.follows.1
    (λ i h. g.met.L.Links.fresh_is d c.args.p.now i c.requires.pass h) e.swung e.none e.spent
    (worn_part g.L.Links.agent_of s.agent _ _ (g.L.Links.worn d s.agent) e.later
    c.swing-tried.result e.worn)

pub returns-clause-pass : goal.returns-clause-pass
returns-clause-pass g c = c.swing-tried.ensures.pass

pub returns-clause-later : goal.returns-clause-later
returns-clause-later g c = c.swing-tried.ensures.later
