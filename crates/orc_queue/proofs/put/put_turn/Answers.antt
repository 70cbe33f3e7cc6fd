-- A turn: what the look of the tail found, and what came of it.
use Rattle.std.proofs.Common.{arith}
use Rattle.orc_heap.proofs.Pieces.{goes_on}
use Rattle.orc_heap.specs.Slots.{id_in}
use Rattle.orc_queue.proofs.Behind.{behind_piece}
use Rattle.orc_queue.proofs.Holding.{found_free, found_kept, pass_known}
use Rattle.orc_queue.proofs.Looking.{root_fresh}
use Rattle.orc_queue.proofs.PutTurns.{turn_found, turn_moved}
use Rattle.orc_queue.proofs.put.put_turn.Goals as goal

pub put_behind-turn-requires-clause-node : goal.put_behind-turn-requires-clause-node
put_behind-turn-requires-clause-node g c = root_fresh c.in-Some.ensures.looked c.args.job c.args.node.now c.requires.node

pub put_behind-turn-requires-clause-slot : goal.put_behind-turn-requires-clause-slot
put_behind-turn-requires-clause-slot g c = found_free c.in-Some.ensures.looked.node 3 (λ k. omega (arith, k)) c.requires.slots.1

pub put_behind-turn-requires-clause-pass : goal.put_behind-turn-requires-clause-pass
put_behind-turn-requires-clause-pass g c = c.in-Some.ensures.pass

pub release-requires : goal.release-requires
release-requires g c =
    record {
      held = let tail = id_in (g.L.Links.seat _ c.hold_root.new.p).slots c.in-Some.tail in
          let turn = c.put_behind-turn.result in
          found_kept c.in-Some.ensures.looked.node (behind_piece _ c.args.job tail c.args.node.now _ _ turn c.put_behind-turn.ensures.put).slots;
      pass = c.put_behind-turn.ensures.pass;
    }

pub returns-in-Some : goal.returns-in-Some
returns-in-Some g c =
    record {
      put = let d = c.args.links.now in
          let e = c.put_behind-turn.ensures in
          let kb = pass_known g.L.Links g.met.L.Links.opens g.met.L.Links.allowed g.met.L.Links.obeys d c.put_behind-turn.new.p c.requires.made e.pass in
          turn_found c.args.job c.args.node.now c.in-Some.ensures.looked kb (g.met.L.Links.allowed d c.release.new.p c.release.ensures.pass)
          c.requires.node.held (λ i is. g.met.L.Links.fresh_is d c.put_behind-turn.new.p i e.pass is) c.release.ensures.released
          c.put_behind-turn.result e.put;
      pass = c.release.ensures.pass;
      later = goes_on _ _ _ c.in-Some.ensures.later (goes_on _ _ _ c.put_behind-turn.ensures.later c.release.ensures.later);
    }

pub returns-in-None : goal.returns-in-None
returns-in-None g c =
    record {
      put = turn_moved c.args.job c.args.node.now c.in-None.ensures.looked c.requires.node;
      pass = c.in-None.ensures.pass;
      later = c.in-None.ensures.later;
    }
