-- What a queue begins with, and a new node that may be put.
use Rattle.std.proofs.Common.{Bool, Some, [], arith, false, inl, refl, ℕ, ◌+◌, ◌<◌, ◌^◌, ◌≡◌}
use Rattle.std.specs.List.{slice_get}
use Rattle.orc_heap.proofs.Sides.{null_side}
use Rattle.orc_heap.specs.Allowed.{AllAllowed}
use Rattle.orc_heap.specs.Heap.{Heap, link_to, null, shown}
use Rattle.orc_heap.specs.declared.events.Place.TheVariants.{Root}
use Rattle.orc_fifo_rule.specs.QueueDiscipline.{FifoMay, MayPut}
use Rattle.container_tests.specs.QueueHeaps.{opening}

-- the opening whose first position is 5
pub opening_allowed : AllAllowed (FifoMay (record { roots = 2; links = 1 })) [] (opening 5)
opening_allowed = (
  record { fits = tt; may_act = tt; in_time = tt; may_enter = tt },
  (
    record { fits = (record { node = _; there = refl; mine = refl; unlinked = refl }, omega arith); may_act = tt; in_time = tt; may_enter = tt },
    (
      record {
        fits = (refl, record { node = _; there = refl; known = inl refl });
        may_act = record { root_is = omega arith; from_is = refl; to_is = refl; ends = refl; side_null = λ link at. cc };
        in_time = tt;
        may_enter = tt;
      },
      (
        record {
          fits = (refl, record { node = _; there = refl; known = inl refl });
          may_act = record { root_is = omega arith; from_is = refl; to_is = refl; ends = refl; side_null = λ link at. cc };
          in_time = tt;
          may_enter = tt;
        },
        tt,
      ),
    ),
  ),
)

-- the node holds this job and position, and no node is behind the one to which the tail leads
pub may_put : (h : Heap) (tail id by job at : ℕ) (named : Bool) → shown h (Root 1) ≡ Some (link_to tail)
    → slice_get h.nodes id
    ≡ Some (record { giver = by; first = Some job; second = Some (at + 1); link = null; side = null; named = named; linked = false }) → at < 2 ^ 62
    → MayPut h tail null (link_to id) job at
may_put h tail id by job at named tail_is there low = record {
  tail_is = tail_is;
  from_is = refl;
  id = id;
  to_is = refl;
  node = _;
  there = there;
  unlinked = refl;
  ends = refl;
  side_null = null_side h id _ there refl;
  holds = record { job_is = refl; position_is = refl; low = low };
}
