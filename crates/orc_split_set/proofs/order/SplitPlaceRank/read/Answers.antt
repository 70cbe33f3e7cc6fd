-- The values of the node, one after the other.
use Rattle.std.proofs.Common.{[], arith, subst, sym, ◌==◌}
use Rattle.orc_heap.proofs.Calls.{Only-trans}
use Rattle.orc_heap.proofs.Pieces.{goes_on}
use Rattle.orc_heap.specs.Calls.{ReadsValue}
use Rattle.orc_heap.specs.Seats.{heap_of}
use Rattle.orc_heap.specs.Slots.{Holds, Slots, id_in}
use Rattle.orc_split_set.proofs.Ordered.{place_reads, rank_fits}
use Rattle.orc_split_set.proofs.order.SplitPlaceRank.read.Goals as goal

pub value-value-requires : goal.value-value-requires
value-value-requires g c = record { pass = c.requires.pass; held = c.requires.held; which = omega arith }

pub value-kind-requires : goal.value-kind-requires
value-kind-requires g c =
    let e = c.value-value.ensures in
    record { pass = e.pass; held = subst (λ (z : Slots). Holds z c.args.node.now) (sym e.nothing.slots) c.requires.held; which = omega arith }

pub returns : goal.returns
returns g c =
    record {
      rank = let n = g.L.Links.numbers _ in
          let t = g.L.Links.seat _ c.args.p.now in
          let v = g.L.Links.seat _ c.value-kind.new.p in
          let e = c.value-value.ensures in
          let f = c.value-kind.ensures in
          place_reads n (id_in t.slots c.args.node.now) c.value-value.result c.value-kind.result t _ v c.requires.linked e.nothing.puts e.value f.nothing.puts
          (subst (λ (z : Slots). ReadsValue (heap_of n v) (id_in z c.args.node.now) 1 c.value-kind.result) e.nothing.slots f.value)
          (g.met.L.Links.allowed _ _ e.pass) (g.met.L.Links.allowed _ _ f.pass);
      fits = rank_fits c.value-value.result (c.value-kind.result == 1) c.value-value.type_inv;
      pass = c.value-kind.ensures.pass;
      later = goes_on _ _ _ c.value-value.ensures.later c.value-kind.ensures.later;
      nothing = Only-trans _ _ _ [] [] c.value-value.ensures.nothing c.value-kind.ensures.nothing;
    }
