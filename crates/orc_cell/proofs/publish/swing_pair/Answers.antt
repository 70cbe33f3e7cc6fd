-- The new pair's row isn't worn, since nothing links to it.
use Rattle.std.proofs.Common.{Option, Some, [], arith, refl, subst, ℕ, ◌∙◌, ◌∷◌, ◌≡◌}
use Rattle.std.specs.Prelude.{MatchBool}
use Rattle.orc_heap.specs.Calls.{Misses, event_of}
use Rattle.orc_heap.specs.Heap.{link_to}
use Rattle.orc_heap.specs.OwnEvents.{Puts}
use Rattle.orc_heap.specs.Seats.{link_in}
use Rattle.orc_heap.specs.Slots.{id_in}
use Rattle.orc_heap.specs.declared.events.Act.TheVariants.{Move}
use Rattle.orc_heap.specs.declared.events.Place.TheVariants.{Root}
use Rattle.orc_pairs_rule.specs.declared.entry.CellEntry.TheVariants.{Published}
use Rattle.orc_pairs_rule.specs.declared.pairs.PairsNote.TheVariants.{Entry}
use Rattle.orc_pairs_rule.specs.declared.pairs.PairsNote.{PairsNote}
use Rattle.orc_cell.specs.Publishes.{given_of}
use Rattle.orc_cell.proofs.Swinging.{not_worn, swung_fresh}
use Rattle.orc_cell.proofs.Counting.{swung_few}
use Rattle.orc_cell.proofs.publish.swing_pair.Goals as goal

pub swing-requires-clause-place : goal.swing-requires-clause-place
swing-requires-clause-place g c = omega (arith, c.requires.made.roots)

pub swing-requires-clause-allowed : goal.swing-requires-clause-allowed
swing-requires-clause-allowed g c = rw (c.agent-agent.ensures, c.given.ensures, c.given-2.ensures) c.requires.allowed

pub unreachable-requires : goal.unreachable-requires
unreachable-requires g c =
    let e = c.in-Err.ensures in
    let id = id_in (g.L.Links.seat _ c.args.p.now).slots c.args.pair.now in
    let u = g.met.L.Links.fresh_is _ _ id e.pass (e.none.fresh ∙ c.requires.fresh.fresh) in
    not_worn _ (g.L.Links.seat _ _).agent (g.L.Links.seat _ _).seen id (g.met.L.Links.obeys _ _ e.pass).lawful u e.spent.1.links

pub returns-clause-swung : goal.returns-clause-swung
returns-clause-swung g c =
    let s = g.L.Links.seat _ c.args.p.now in
    let t = g.L.Links.seat _ c.swing.new.p in
    let w = c.in-Ok.ensures.swung in
    let from = link_in s.slots c.args.from.now in
    let to = link_to (id_in s.slots c.args.pair.now) in
    let note : (ℕ → Option ℕ → Option ℕ → PairsNote) = λ agent left right. Entry (Published agent left right c.args.parts.0 c.args.parts.1) in
    let noted : note c.agent-agent.result c.given.result c.given-2.result ≡ note s.agent (given_of c.args.left.now) (given_of c.args.right.now) =
    rw (c.agent-agent.ensures, c.given.ensures, c.given-2.ensures) refl in
    record {
      slots = w.slots;
      fresh = w.fresh ∙ swung_fresh s.fresh (id_in s.slots c.args.pair.now) c.in-Ok.done c.requires.fresh.fresh;
      puts = subst (λ (x : PairsNote). MatchBool c.in-Ok.done (Puts s (event_of s (Move (Root 0) from to) (Some x) ∷ []) t) (Misses (Root 0) from s t)) noted
          w.puts;
    }

pub returns-clause-tries : goal.returns-clause-tries
returns-clause-tries g c = swung_few c.in-Ok.ensures.swung
