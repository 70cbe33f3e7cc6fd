-- The look, in a slot that is free.
use Rattle.std.proofs.Common.{sym, ◌∙◌}
use Rattle.orc_heap.proofs.Pieces.{goes_on}
use Rattle.orc_ordered_search.proofs.Running.{walk_looked}
use Rattle.orc_ordered_search.proofs.Walking.{walk_free}
use Rattle.orc_ordered_search.specs.Reading.{ordering_of}
use Rattle.orc_ordered_search.proofs.search.step.Goals as goal

pub look-looked-requires-clause-slot : goal.look-looked-requires-clause-slot
look-looked-requires-clause-slot g c =
    let a = c.args in
    let (start, s, room, w) = c.requires.walks in
    let k = c.spare_slot-slot.ensures in
    walk_free (ordering_of (g.met.K.Rank.ordered _)) start (g.K.Rank.number a.wanted) a.walk.left a.walk.first a.walk.at (g.K.Rank.number a.walk.rank) (g.K.Rank.counted a.walk.rank) a.walk.passed
    c.spare_slot-slot.result s _
    room w k.range.0 k.range.1
    (λ e. k.left (e ∙ sym c.slot_of.ensures)) (λ e. k.first (e ∙ sym c.slot_of-2.ensures)) (λ e. k.at (e ∙ sym c.slot.ensures))

pub step_by-requires-clause-looked : goal.step_by-requires-clause-looked
step_by-requires-clause-looked g c =
    let a = c.args in
    let (start, s, room, w) = c.requires.walks in
    let k = c.spare_slot-slot.ensures in
    let e = c.look-looked.ensures in (
      start,
      s,
      walk_looked (ordering_of (g.met.K.Rank.ordered _)) start (g.K.Rank.number a.wanted) a.walk.left a.walk.first a.walk.at (g.K.Rank.number a.walk.rank) (g.K.Rank.counted a.walk.rank) a.walk.passed
          c.spare_slot-slot.result c.look-looked.result s _ _ room w k.range.0 k.range.1
          (λ e. k.left (e ∙ sym c.slot_of.ensures)) (λ e. k.first (e ∙ sym c.slot_of-2.ensures)) (λ e. k.at (e ∙ sym c.slot.ensures))
          e.looked (g.met.L.Links.obeys _ _ c.requires.pass) (g.met.L.Links.allowed _ _ e.pass),
    )

pub returns-clause-stepped : goal.returns-clause-stepped
returns-clause-stepped g c = λ start s room w.
    let a = c.args in
    let k = c.spare_slot-slot.ensures in
    let e = c.look-looked.ensures in
    c.step_by.ensures.stepped start s (walk_looked (ordering_of (g.met.K.Rank.ordered _)) start (g.K.Rank.number a.wanted) a.walk.left a.walk.first a.walk.at (g.K.Rank.number a.walk.rank)
    (g.K.Rank.counted a.walk.rank) a.walk.passed
    c.spare_slot-slot.result c.look-looked.result s _ _ room w k.range.0 k.range.1
    (λ e. k.left (e ∙ sym c.slot_of.ensures)) (λ e. k.first (e ∙ sym c.slot_of-2.ensures)) (λ e. k.at (e ∙ sym c.slot.ensures))
    e.looked (g.met.L.Links.obeys _ _ c.requires.pass) (g.met.L.Links.allowed _ _ e.pass))

pub step_by-requires-clause-pass : goal.step_by-requires-clause-pass
step_by-requires-clause-pass g c = c.look-looked.ensures.pass

pub returns-clause-pass : goal.returns-clause-pass
returns-clause-pass g c = c.step_by.ensures.pass

pub returns-clause-later : goal.returns-clause-later
returns-clause-later g c = goes_on _ _ _ c.look-looked.ensures.later c.step_by.ensures.later
