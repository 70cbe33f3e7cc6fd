-- The answers that change nothing are allowed where they stand.
use Rattle.std.proofs.Common.{Option, Some, [], ap, refl, sym, ℕ, ◌∙◌, ◌∷◌, ◌≡◌}
use Rattle.orc_heap.specs.Allowed.{AllowedLater}
use Rattle.orc_heap.specs.Calls.{event_of}
use Rattle.orc_heap.specs.Hands.{hand}
use Rattle.orc_heap.specs.Seats.{Seat}
use Rattle.orc_heap.specs.Slots.{Hold}
use Rattle.orc_heap.specs.declared.events.Act.TheVariants.{Look}
use Rattle.orc_heap.specs.declared.events.Link.{Link}
use Rattle.orc_heap.specs.declared.events.Place.{Place}
use Rattle.orc_heap.specs.declared.events.Place.TheVariants.{Next}
use Rattle.orc_history.specs.declared.set.SetEntry.{SetEntry}
use Rattle.orc_ordered_chains.specs.Chains.{link_over}
use Rattle.orc_ordered_search.specs.Entries.{AllowsAbsence, AllowsPresence, IsAbsence, IsPresence}
use Rattle.orc_ordered_search.specs.Reading.{Ordering}
use Rattle.orc_ordered_search.specs.Searches.{FindsAbsent, FindsPresent, first_or, left_place, node_of, place_at, target_at}
use Rattle.orc_ordered_search.proofs.Entering.{from_is, place_of_hand, target_is}

module _ {N : Type 0} (ord : Ordering N) (start : Place) (wanted passed : ℕ) (left first right : Option Hold) (s t : Seat N)
    (f : FindsAbsent ord.reading start wanted passed left first right s t) where
  pub left_is : (root : ℕ) → root ≡ ord.reading.order.root wanted → place_at t.slots root left ≡ left_place (ord.reading.order.root wanted) left f.left_id
  left_is root is =
      place_of_hand s.slots t.slots root (ord.reading.order.root wanted) is left f.left_id (hand first f.first_id ∷ hand right f.right_id ∷ []) f.hands.held.0

  pub left_link : link_over (target_at t.slots (first_or first right)) ≡ f.behind.leads.from
  left_link =
      ap link_over (target_is s.slots t.slots first right f.first_id f.right_id (hand right f.right_id ∷ []) [] f.hands.held.1.0 f.hands.held.1.1.0)
      ∙ sym (from_is ord start wanted left first f.left_id f.first_id (node_of right f.right_id) s f.own t f.behind.quiet.puts.part f.behind.leads)

pub absent_allowed : {N : Type 0} (ord : Ordering N) (rank_of : ℕ → ℕ) (noted : SetEntry → N)
    → AllowsAbsence ord.reading ord.holds ord.may rank_of noted → (start : Place) (key passed : ℕ) (left first right : Option Hold) (s t : Seat N)
    (f : FindsAbsent ord.reading start (rank_of key) passed left first right s t) (place : Place) (link : Link) (note : N) (entry : SetEntry)
    → place ≡ left_place (ord.reading.order.root (rank_of key)) left f.left_id → link ≡ f.behind.leads.from → note ≡ noted entry
    → IsAbsence t.agent key entry → ord.holds t.seen
    → AllowedLater ord.may ord.reading.numbers t.agent t.seen place link (event_of t (Look place link) (Some note))
absent_allowed {N} ord rank_of noted allows start key passed left first right s t f place link note entry place_is link_is note_is is holds =
    let l = f.behind.leads in
    rw (place_is, link_is, note_is) (allows t.agent (left_place (ord.reading.order.root (rank_of key)) left f.left_id) l.from l.over
    (node_of right f.right_id) key entry t.seen is holds l.below l.plain l.run f.above)

pub present_allowed : {N : Type 0} (ord : Ordering N) (rank_of : ℕ → ℕ) (noted : SetEntry → N)
    → AllowsPresence ord.reading ord.holds ord.may rank_of noted
    → (start : Place) (key passed : ℕ) (left first : Option Hold) (node : Hold) (next : Option Hold) (s t : Seat N)
    (f : FindsPresent ord.reading start (rank_of key) passed left first node next s t) (place : Place) (link : Link) (note : N) (entry : SetEntry)
    → place ≡ Next f.id → link ≡ link_over (node_of next f.next_id) → note ≡ noted entry → IsPresence t.agent key entry → ord.holds t.seen
    → AllowedLater ord.may ord.reading.numbers t.agent t.seen place link (event_of t (Look place link) (Some note))
present_allowed {N} ord rank_of noted allows start key passed left first node next s t f place link note entry place_is link_is note_is is holds =
    rw (place_is, link_is, note_is) (allows t.agent f.id key (link_over (node_of next f.next_id)) entry t.seen is holds f.is_of.has_key refl)
