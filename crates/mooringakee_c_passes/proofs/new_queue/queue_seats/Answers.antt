-- The queue stands on the new domain, and each pass of that gets its place.
use Rattle.std.proofs.Common.{Option, None, Some, ap, arith, is_some, refl, subst, suc, sym, true, zero, ℕ, ◌∙◌, ◌≡◌}
use Rattle.std.specs.List.{slice_get}
use Rattle.orc_domain.specs.Passes.{domain_numbers}
use Rattle.orc_fifo_rule.proofs.Later.{nothing_yet}
use Rattle.orc_fifo_rule.specs.QueueDiscipline.{entries_of, position_of}
use Rattle.orc_fifo_rule.specs.declared.fifo.FifoNote.TheVariants.{Begin}
use Rattle.orc_heap.specs.Heap.{HeapNumbers, Node}
use Rattle.orc_heap.specs.Journals.{run_heap}
use Rattle.orc_heap.specs.Seeds.{opening_events}
use Rattle.orc_heap.specs.declared.seed.Seed.TheVariants.{Dummy}
use Rattle.orc_projection.specs.Mirror.{numbers_of}
use Rattle.orc_queue.proofs.Openings.{dummy_allowed}
use Rattle.orc_queue.specs.Turns.{HasDummy}
use Rattle.orc_words.specs.Bounds.{bounds_of}
use Rattle.mooringakee_c_passes.specs.Kinds.{queue}
use Rattle.mooringakee_c_passes.specs.Making.{IsNewQueueSeat}
use Rattle.mooringakee_c_passes.specs.declared.on_domain.ReclaimingQueue.{ReclaimingQueue}
use Rattle.mooringakee_c_passes.specs.declared.seat.Seat.TheVariants.{Queue}
use Rattle.mooringakee_c_passes.proofs.NewPlaces.{new_seats}
use Rattle.mooringakee_c_passes.proofs.Results.{if_ok, if_ok_both}
use Rattle.mooringakee_c_passes.proofs.new_queue.queue_seats.Goals as goal

-- its one node has its second value
filled : (n : HeapNumbers) (id : ℕ) (node : Node) → slice_get (run_heap n (opening_events (Dummy 0 Begin))).nodes id ≡ Some node → is_some node.second ≡ true
filled n zero node there = cc
filled n (suc id) node there = let none : ◌≡◌ {A = Option Node} None (Some node) = there in cc

pub new_domain-requires-clause-holds : goal.new_domain-requires-clause-holds
new_domain-requires-clause-holds c = nothing_yet (numbers_of (bounds_of c.args.shape.now))

pub new_domain-requires-clause-seed : goal.new_domain-requires-clause-seed
new_domain-requires-clause-seed c = dummy_allowed (numbers_of (bounds_of c.args.shape.now)) 0 (omega (arith, c.requires.roots)) (omega arith)

pub new-queue-requires : goal.new-queue-requires
new-queue-requires c =
    let n = domain_numbers c.in_ok-domain.domain in
    subst (λ es. HasDummy n es) (sym c.in_ok-domain.ensures.opening) (record { begun = refl; filled = λ id node there linked. filled n id node there })

pub returns-clause-many : goal.returns-clause-many
returns-clause-many c = if_ok c.seat_all.result _ _ (λ seats many. many ∙ c.in_ok-domain.ensures.many) c.seat_all.ensures.many

pub returns-clause-places : goal.returns-clause-places
returns-clause-places c =
    let made = c.in_ok-domain.ensures in
    let domain = c.in_ok-domain.domain in
    let zero_first : position_of (run_heap (domain_numbers domain) (opening_events (Dummy 0 Begin))) 0 ≡ 0 = refl in
    let queue_is : ReclaimingQueue = record { queue = c.new-queue.result } in
    let zero = subst (λ es. position_of (run_heap (domain_numbers domain) es) 0 ≡ 0) (sym made.opening) zero_first in
    if_ok_both c.seat_all.result _ _ _ c.seat_all.ensures.many c.seat_all.ensures.places
    (λ seats many each. (
      domain,
      made.bounds,
      new_seats queue queue_is (λ q. q.queue.links.domain) domain (λ j. (c.new-queue.ensures j).domain) c.in_ok-domain.places c.args.turns (λ place. Queue place)
          (λ agent seat. IsNewQueueSeat domain c.args.turns agent seat) c.in_ok-domain.passes.items seats.items many made.usable made.agents
          (λ k p low. ap entries_of (made.seen k p low)) _ each (λ place s is. is) (λ agent place new. (new, zero)),
    ))
