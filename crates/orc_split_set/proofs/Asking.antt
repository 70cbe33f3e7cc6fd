-- What a search has put.
use Rattle.std.proofs.Common.{List, ap, subst, sym, ℕ, ◌++◌, ◌∙◌, ◌≡◌}
use Rattle.orc_heap.specs.Allowed.{events_by}
use Rattle.orc_heap.specs.OwnEvents.{Puts}
use Rattle.orc_heap.specs.declared.events.Event.{Event}
use Rattle.orc_heap.specs.Seats.{Seat}
use Rattle.orc_split_rule.specs.declared.split.SplitNote.{SplitNote}

-- what was put since a search began was put since the seat at which it did
pub puts_since : (s t u : Seat SplitNote) (own : List (Event SplitNote)) → t.seen ≡ s.seen → t.agent ≡ s.agent → Puts s own u → Puts t own u
puts_since s t u own seen agent p = record {
  part = p.part;
  is = p.is ∙ ap (λ z. z ++ p.part) (sym seen);
  agent = p.agent ∙ sym agent;
  own_is = subst (λ (a : ℕ). events_by a p.part ≡ own) (sym agent) p.own_is;
}
