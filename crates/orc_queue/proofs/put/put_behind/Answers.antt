-- By what the look of the tail's link found.
use Rattle.std.proofs.Common.{rules, subst}
use Rattle.orc_heap.proofs.Pieces.{goes_on}
use Rattle.orc_heap.specs.Slots.{Slots, id_in}
use Rattle.orc_queue.specs.Turns.{LinksBehind, SwingsLast}
use Rattle.orc_queue.proofs.Behind.{behind_found, behind_moved, behind_null, node_seen}
use Rattle.orc_queue.proofs.Holding.{found_holds, found_kept, found_other}
use Rattle.orc_queue.proofs.Looking.{next_link, null_named}
use Rattle.orc_queue.proofs.put.put_behind.Goals as goal

pub link_behind-requires : goal.link_behind-requires
link_behind-requires g c =
    let f = c.in-Nothing.ensures.looked in
    let a = g.L.Links.seat c.args.links.now c.hold_next.new.p in
    record {
      pass = c.in-Nothing.ensures.pass;
      made = c.requires.made;
      tail = search rules;
      node = node_seen _ c.args.job _ c.args.node.now _ _ a f.before c.requires.named f.slots f.fresh f.puts f.after.all f.after.all c.requires.node;
      named = null_named _ _ _ 1 c.args.tail.now f c.requires.named;
    }

pub help_tail-requires : goal.help_tail-requires
help_tail-requires g c =
    let f = c.in-Node.ensures.looked in
    record {
      pass = c.in-Node.ensures.pass;
      made = c.requires.made;
      held = (found_other f.node c.args.tail.now c.requires.tail, found_holds f.node);
      successor = next_link _ _ _ _ c.args.tail.now _ c.requires.tail f;
    }

pub release-requires : goal.release-requires
release-requires g c =
    record {
      held = found_kept c.in-Node.ensures.looked.node c.help_tail.ensures.helped.slots;
      pass = c.help_tail.ensures.pass;
    }

pub returns-in-Nothing : goal.returns-in-Nothing
returns-in-Nothing g c =
    record {
      put = let f = c.in-Nothing.ensures.looked in
          let e = c.link_behind.ensures in
          let tail = c.args.tail.now in
          let node = c.args.node.now in
          let job = c.args.job in
          let turn = c.link_behind.result in
          let n = g.L.Links.numbers _ in
          let s = g.L.Links.seat _ c.args.p.now in
          let a = g.L.Links.seat _ c.hold_next.new.p in
          let t = g.L.Links.seat _ c.link_behind.new.p in
          let linked = subst (λ (z : Slots). LinksBehind n 3 (SwingsLast (id_in z tail)) job (id_in z tail) node a turn t) f.slots e.linked in
          behind_null n job (id_in s.slots tail) node s a t f.before c.requires.named f.slots f.fresh f.puts f.after.all (g.met.L.Links.allowed _ _ e.pass)
          turn linked;
      pass = c.link_behind.ensures.pass;
      later = goes_on _ _ _ c.in-Nothing.ensures.later c.link_behind.ensures.later;
    }

pub returns-in-Node : goal.returns-in-Node
returns-in-Node g c =
    record {
      put = let e = c.in-Node.ensures in
          let h = c.help_tail.ensures in
          let untouched = g.met.L.Links.fresh_is _ in
          behind_found c.args.tail.now e.looked (g.met.L.Links.allowed _ _ h.pass) (g.met.L.Links.allowed _ _ c.release.ensures.pass) c.requires.named
          c.requires.node c.requires.tail (λ i is. untouched c.hold_next.new.p i e.pass is) (λ i is. untouched c.help_tail.new.p i h.pass is) h.helped
          c.release.ensures.released;
      pass = c.release.ensures.pass;
      later = goes_on _ _ _ c.in-Node.ensures.later (goes_on _ _ _ c.help_tail.ensures.later c.release.ensures.later);
    }

pub returns-in-Differs : goal.returns-in-Differs
returns-in-Differs g c =
    record {
      put = behind_moved c.args.job _ c.args.node.now c.in-Differs.ensures.looked c.requires.named c.requires.node;
      pass = c.in-Differs.ensures.pass;
      later = c.in-Differs.ensures.later;
    }
