-- The look of the tail, the link, and the release.
use Rattle.std.proofs.Common.{ap, arith, inl, inr, refl, ℕ, ◌∙◌}
use Rattle.orc_heap.proofs.Pieces.{goes_on}
use Rattle.orc_heap.specs.Slots.{id_in}
use Rattle.orc_heap.proofs.Calls.{Puts-trans}
use Rattle.orc_heap.proofs.Pieces.{puts_released}
use Rattle.orc_queue.specs.Answers.{stop_entries}
use Rattle.orc_queue.proofs.Holding.{found_fresh, found_kept, found_released}
use Rattle.orc_queue.proofs.Linking.{LinkKept, link_kept}
use Rattle.orc_queue.proofs.Looking.{root_fresh}
use Rattle.orc_queue.proofs.Missing.{full_over, link_full, moved_full, root_still}
use Rattle.orc_queue.proofs.Pieces.{linked_puts}
use Rattle.orc_queue.proofs.stopped.link_at_tail.Given.{Over}
use Rattle.orc_queue.proofs.stopped.link_at_tail.Goals.{After-link_node-turn}
use Rattle.orc_queue.proofs.stopped.link_at_tail.Goals as goal

-- what the pass did behind it
kept : (g : Over) (c : After-link_node-turn g) → let d = c.args.links.now in
    LinkKept c.args.job (g.L.Links.seat d c.hold_root.new.p) c.link_node-turn.result (g.L.Links.seat d c.link_node-turn.new.p)
kept g c =
    let tail = id_in (g.L.Links.seat _ c.hold_root.new.p).slots c.in-Some.tail in
    link_kept _ c.args.job tail c.args.node.now _ _ c.link_node-turn.result c.link_node-turn.ensures.linked

pub link_node-turn-requires-clause-node : goal.link_node-turn-requires-clause-node
link_node-turn-requires-clause-node g c = root_fresh c.in-Some.ensures.looked c.args.job c.args.node.now c.requires.node

pub returns-in-None-clause-stopped : goal.returns-in-None-clause-stopped
returns-in-None-clause-stopped g c =
    let f = c.in-None.ensures.looked in
    record { piece = record { own = _; slots = f.slots; puts = f.puts; entries_are = refl; no_give = refl; few = omega arith }; keeps = refl }

pub returns-in-None-clause-missed : goal.returns-in-None-clause-missed
returns-in-None-clause-missed g c = λ other. moved_full c.in-None.ensures.looked

pub link_node-turn-requires-clause-pass : goal.link_node-turn-requires-clause-pass
link_node-turn-requires-clause-pass g c = c.in-Some.ensures.pass

pub release-requires : goal.release-requires
release-requires g c =
    record {
      held = let at = goal.at.release-requires g c in
          found_kept c.in-Some.ensures.looked.node (kept g at.After-link_node-turn).stops.piece.slots;
      pass = c.link_node-turn.ensures.pass;
    }

pub returns-in-Some : goal.returns-in-Some
returns-in-Some g c =
    record {
      stopped = let at = goal.at.returns-in-Some g c in
          let f = c.in-Some.ensures.looked in
          let k = (kept g at.After-link_node-turn).stops in
          let q = puts_released _ _ _ k.piece.own k.piece.puts c.release.ensures.released.puts in
          record {
            piece = record {
              own = _;
              slots = found_released f.node k.piece.slots c.release.ensures.released;
              puts = Puts-trans _ _ _ _ k.piece.own f.puts q;
              entries_are = k.piece.entries_are ∙ ap (λ (x : ℕ). stop_entries x c.args.job c.link_node-turn.result) f.puts.agent;
              no_give = omega (arith, k.piece.no_give);
              few = omega (arith, k.piece.few);
            };
            keeps = k.keeps;
          };
      fresh = let at = goal.at.returns-in-Some g c in
          let node = c.in-Some.ensures.looked.node in
          let k = kept g at.After-link_node-turn in
          let d = c.args.links.now in
          let e = c.link_node-turn.ensures in
          let all = g.met.L.Links.allowed _ _ e.pass in
          let linked = linked_puts _ _ _ k.stops.piece.own k.stops.piece.puts all node.id node.linked in
          let fresh = found_fresh node k.stops.piece.slots (λ i is. g.met.L.Links.fresh_is d c.link_node-turn.new.p i e.pass is) linked c.release.ensures.released in
          elim k.fresh [ inl is ↦ inl (fresh ∙ (is ∙ c.in-Some.ensures.looked.fresh)) | inr is ↦ inr (fresh ∙ is) ];
      missed = λ other.
          let at = goal.at.returns-in-Some g c in
          let f = c.in-Some.ensures.looked in
          let p = (kept g at.After-link_node-turn).stops.piece in
          full_over _ _ _ _ _ _ p.own f.puts p.puts c.release.ensures.released.puts f.before f.after.all refl
          (λ alone. link_full _ c.args.job _ c.args.node.now _ _ c.link_node-turn.result c.link_node-turn.ensures.linked other (root_still f alone));
      pass = c.release.ensures.pass;
      later = goes_on _ _ _ c.in-Some.ensures.later (goes_on _ _ _ c.link_node-turn.ensures.later c.release.ensures.later);
    }

pub returns-in-None-clause-pass : goal.returns-in-None-clause-pass
returns-in-None-clause-pass g c = c.in-None.ensures.pass

pub returns-in-None-clause-later : goal.returns-in-None-clause-later
returns-in-None-clause-later g c = c.in-None.ensures.later
