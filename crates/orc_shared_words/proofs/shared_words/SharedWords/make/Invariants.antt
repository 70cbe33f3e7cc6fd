use Rattle.std.proofs.Common.{◌≡◌, Some, [], length, ◌+◌}
use Rattle.orc_shared_words.specs.Lists.{EachAt}
use Rattle.orc_shared_words.proofs.shared_words.SharedWords.make.Given as goal

-- the pass of agent 0 hands out the next number, each other pass is the one of its agent, and the records that are left are those of the next agents
abbrev pub invariant-loop-own : goal.invariant-loop-own
invariant-loop-own g l =
    let r = g.M.Machine.rules in
    let own = r.own l.fn.shape (r.opening l.fn.shape) in
    let table = l.shared.table.shared.table_id in
    (l.shared.shape ≡ l.fn.shape)
    × (table.words ≡ length l.words)
    × (l.first.seat.table_id ≡ table)
    × (l.first.agent ≡ 0)
    × (l.first.seat.me.0.free ≡ Some (length l.others.items + 1))
    × (l.first.seat.me.0.born ≡ r.born l.fn.shape)
    × (l.first.seat.me.0.seen ≡ r.opening l.fn.shape)
    × (l.first.seat.me.0.also ≡ [])
    × (l.first.seat.me.0.own ≡ own 0)
    × (length l.others.items + 1 + length l.own-iterator.rest.items ≡ r.agents l.fn.shape)
    × EachAt (λ i o. g.M.Machine.tied (own (length l.others.items + 1 + i)) o) l.own-iterator.rest.items
    × EachAt (λ i p. (p.seat.table_id ≡ table) × (p.agent ≡ i + 1) × (p.seat.me.0.seen ≡ r.opening l.fn.shape) × (p.seat.me.0.also ≡ [])
    × (p.seat.me.0.own ≡ own (i + 1))) l.others.items
