-- A turn: what the look of the head found, and what came of it.
use Rattle.std.proofs.Common.{arith}
use Rattle.orc_heap.proofs.Pieces.{goes_on}
use Rattle.orc_heap.specs.Slots.{id_in}
use Rattle.orc_queue.proofs.Holding.{found_free, found_kept}
use Rattle.orc_queue.proofs.TakeTurns.{behind_kept, turn_differs, turn_found}
use Rattle.orc_queue.proofs.take.take_turn.Goals as goal

pub take_behind-turn-requires-clause-slot : goal.take_behind-turn-requires-clause-slot
take_behind-turn-requires-clause-slot g c = found_free c.in-Some.ensures.looked.node 2 (λ k. omega (arith, k)) c.requires.slots.1

pub take_behind-turn-requires-clause-pass : goal.take_behind-turn-requires-clause-pass
take_behind-turn-requires-clause-pass g c = c.in-Some.ensures.pass

pub release-requires : goal.release-requires
release-requires g c =
    record {
      held = let head = id_in (g.L.Links.seat _ c.hold_root.new.p).slots c.in-Some.head in
          found_kept c.in-Some.ensures.looked.node (behind_kept _ head _ _ c.take_behind-turn.result c.take_behind-turn.ensures.took).slots;
      pass = c.take_behind-turn.ensures.pass;
    }

pub returns-in-Some : goal.returns-in-Some
returns-in-Some g c =
    record {
      took = let d = c.args.links.now in
          let e = c.take_behind-turn.ensures in
          turn_found c.in-Some.ensures.looked (g.met.L.Links.allowed _ _ e.pass) (g.met.L.Links.allowed _ _ c.release.ensures.pass)
          (λ i is. g.met.L.Links.fresh_is d c.take_behind-turn.new.p i e.pass is) c.release.ensures.released
          c.take_behind-turn.result e.took;
      pass = c.release.ensures.pass;
      later = goes_on _ _ _ c.in-Some.ensures.later (goes_on _ _ _ c.take_behind-turn.ensures.later c.release.ensures.later);
    }

pub returns-in-None : goal.returns-in-None
returns-in-None g c =
    record {
      took = turn_differs c.in-None.ensures.looked;
      pass = c.in-None.ensures.pass;
      later = c.in-None.ensures.later;
    }
