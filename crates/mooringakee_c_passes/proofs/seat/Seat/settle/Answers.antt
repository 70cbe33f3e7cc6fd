-- A pass that settles makes no event, so it enters nothing.
use Rattle.std.proofs.Common.{subst, sym}
use Rattle.orc_chain_rule.proofs.OwnEntries.{entries_own as own_of_chain}
use Rattle.orc_fifo_rule.proofs.OwnEntries.{entries_own as own_of_fifo}
use Rattle.orc_split_rule.proofs.OwnEntries.{entries_own as own_of_split}
use Rattle.mooringakee_c_passes.specs.Kinds.{queue, set, split}
use Rattle.mooringakee_c_passes.specs.Seats.{IsSeat}
use Rattle.mooringakee_c_passes.specs.Settling.{SettlesPass}
use Rattle.mooringakee_c_passes.specs.declared.seat.Seat.{Seat}
use Rattle.mooringakee_c_passes.specs.declared.seat.Seat.TheVariants.{Queue, Set, Split}
use Rattle.mooringakee_c_passes.proofs.Histories.{legal_queue, legal_set, legal_split}
use Rattle.mooringakee_c_passes.proofs.Settled.{settled}
use Rattle.mooringakee_c_passes.proofs.seat.Seat.settle.Goals as goal

pub returns-in-Queue-clause-answer : goal.returns-in-Queue-clause-answer
returns-in-Queue-clause-answer c =
    let old = c.in-Queue.place in
    let new = c.settle.new.self in
    let can = subst (λ (s : Seat). IsSeat s) c.in-Queue.is c.requires in
    let belongs = c.settle.ensures.place.belongs in
    subst (λ (s : Seat). SettlesPass s c.settle.result (Queue new)) (sym c.in-Queue.is)
    (settled queue own_of_fifo old new (λ q. q.queue.links.domain) (legal_queue old.container.value.queue.links.domain new.pass old.container.value.queue.made can.1 belongs) belongs
    c.settle.result c.settle.ensures.answer)

pub returns-in-Set-clause-answer : goal.returns-in-Set-clause-answer
returns-in-Set-clause-answer c =
    let old = c.in-Set.place in
    let new = c.settle-in-Set.new.self in
    let belongs = c.settle-in-Set.ensures.place.belongs in
    subst (λ (s : Seat). SettlesPass s c.settle-in-Set.result (Set new)) (sym c.in-Set.is)
    (settled set own_of_chain old new (λ s. s.set.list.links.domain) (legal_set old.container.value.set.list.links.domain new.pass belongs) belongs
    c.settle-in-Set.result c.settle-in-Set.ensures.answer)

pub returns-in-Split-clause-answer : goal.returns-in-Split-clause-answer
returns-in-Split-clause-answer c =
    let old = c.in-Split.place in
    let new = c.settle-in-Split.new.self in
    let belongs = c.settle-in-Split.ensures.place.belongs in
    subst (λ (s : Seat). SettlesPass s c.settle-in-Split.result (Split new)) (sym c.in-Split.is)
    (settled split own_of_split old new (λ s. s.set.links.domain) (legal_split old.container.value.set.links.domain new.pass belongs) belongs
    c.settle-in-Split.result c.settle-in-Split.ensures.answer)
