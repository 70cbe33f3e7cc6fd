-- The swing of the bucket's root.
use Rattle.std.proofs.Common.{[], arith, refl}
use Rattle.orc_heap.specs.Slots.{id_in}
use Rattle.orc_ordered_search.proofs.Marking.{part_fact}
use Rattle.orc_split_rule.proofs.Coming.{anchor_allowed}
use Rattle.orc_split_set.proofs.Anchoring.{anchors}
use Rattle.orc_split_set.proofs.Sizing.{made_most}
use Rattle.orc_split_set.proofs.FewEvents.{swing_made}
use Rattle.orc_split_set.proofs.bucket.anchor.Goals as goal

pub swing-requires-clause-allowed : goal.swing-requires-clause-allowed
swing-requires-clause-allowed g c =
    let s = g.L.Links.seat _ c.args.p.now in
    anchor_allowed _ s.agent (id_in s.slots c.args.dummy.now) c.args.bucket s.seen (g.met.L.Links.obeys _ _ c.requires.pass)
    c.requires.bucket.0 c.requires.bucket.1 c.requires.dummy.1

pub returns-in-Ok-clause-anchored : goal.returns-in-Ok-clause-anchored
returns-in-Ok-clause-anchored g c =
    let d = c.args.links.now in
    let s = g.L.Links.seat d c.args.p.now in
    let f = c.in-Ok.ensures in
    anchors _ c.args.bucket s _ (id_in s.slots c.args.dummy.now) c.requires.bucket.0 c.requires.bucket.1
    (g.met.L.Links.obeys _ _ c.requires.pass) (g.met.L.Links.allowed _ _ f.pass) c.requires.dummy.1
    (λ i h. g.met.L.Links.fresh_is d c.args.p.now i c.requires.pass h) _ _ _ c.in-Ok.field-0 refl refl refl f.swung

pub returns-in-Err-clause-anchored : goal.returns-in-Err-clause-anchored
returns-in-Err-clause-anchored g c =
    let none = c.in-Err.ensures.none in
    record { tried = record { own = []; puts = none.puts; no_entries = refl; no_give = refl; slots = none.slots; fresh = none.fresh }; tells = tt }

pub returns-in-Err-clause-told : goal.returns-in-Err-clause-told
returns-in-Err-clause-told g c =
    let d = c.args.links.now in
    let by = (g.L.Links.seat d c.args.p.now).agent in
    let e = c.in-Err.ensures in
    part_fact g.L.Links.agent_of by _ _ (g.L.Links.worn d by c.in-Err.spent _) e.later e.worn

pub returns-in-Ok-clause-tries : goal.returns-in-Ok-clause-tries
returns-in-Ok-clause-tries g c =
    swing_made _ _ _ _ c.in-Ok.field-0 _ _ c.in-Ok.ensures.swung

pub returns-in-Err-clause-tries : goal.returns-in-Err-clause-tries
returns-in-Err-clause-tries g c =
    made_most 1 _ _ [] c.in-Err.ensures.none.puts (omega arith)
