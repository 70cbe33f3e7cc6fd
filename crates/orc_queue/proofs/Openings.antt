-- What a domain with a dummy begins with.
use Rattle.std.proofs.Common.{Some, [], arith, inl, refl, suc, zero, ℕ, ◌++◌, ◌<◌, ◌^◌, ◌∷◌, ◌≡◌, ◌≤◌}
use Rattle.std.specs.List.{slice_get}
use Rattle.std.specs.Prelude.{replicate}
use Rattle.orc_heap.proofs.Sides.{null_side}
use Rattle.orc_heap.specs.Allowed.{HasNullSide}
use Rattle.orc_heap.specs.Heap.{Heap, HeapNumbers, change, link_to, null, shown}
use Rattle.orc_heap.specs.Journals.{run_heap}
use Rattle.orc_heap.specs.Seeds.{DummyAllowed, dummy_link, dummy_node}
use Rattle.orc_heap.specs.declared.events.Link.{Link}
use Rattle.orc_heap.specs.declared.events.Place.TheVariants.{Next}
use Rattle.orc_fifo_rule.specs.declared.fifo.FifoNote.{FifoNote}
use Rattle.orc_fifo_rule.specs.declared.fifo.FifoNote.TheVariants.{Begin}
use Rattle.orc_fifo_rule.specs.QueueDiscipline.{FifoMay, MayBegin}

-- the first two roots are null
first_null : (roots : ℕ) → 2 ≤ roots → slice_get (replicate roots null) 0 ≡ Some null
first_null zero low = absurd (omega (arith, low))
first_null (suc roots) low = refl

second_null : (roots : ℕ) (link : Link) → 2 ≤ roots → slice_get (change (λ (l : Link). link) 0 (replicate roots null)) 1 ≡ Some null
second_null zero link low = absurd (omega (arith, low))
second_null (suc zero) link low = absurd (omega (arith, low))
second_null (suc (suc roots)) link low = refl

-- a root may begin with a node whose links are null
may_begin : (h : Heap) (root : ℕ) → root < 2 → shown h (Next 0) ≡ Some null → HasNullSide h 0 → MayBegin h root null (link_to 0)
may_begin h root low ends side = record { root_is = low; from_is = refl; to_is = refl; ends = ends; side_null = side }

-- the discipline allows a dummy
pub dummy_allowed : (n : HeapNumbers) (first : ℕ) → 2 ≤ n.roots → first ≤ 2 ^ 62 → DummyAllowed FifoMay n first Begin
dummy_allowed n first roots low =
    let one = run_heap n (dummy_node {N = FifoNote} first) in
    let two = run_heap n (dummy_node first ++ dummy_link 0 Begin ∷ []) in
    record {
      roots = roots;
      low = low;
      first_link = record {
        fits = (first_null n.roots roots, record { node = _; there = refl; known = inl refl });
        may_act = may_begin one 0 (omega arith) refl (null_side one 0 _ refl refl);
        in_time = tt;
        may_enter = tt;
      };
      second_link = record {
        fits = (second_null n.roots (link_to 0) roots, record { node = _; there = refl; known = inl refl });
        may_act = may_begin two 1 (omega arith) refl (null_side two 0 _ refl refl);
        in_time = tt;
        may_enter = tt;
      };
    }
