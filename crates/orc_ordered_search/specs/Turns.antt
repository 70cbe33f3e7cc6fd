-- What the turns of a call do. After Harris 2001.
use Rattle.std.specs.Prelude.{Bool, Err, List, MatchBool, None, Ok, Option, Result, Some, [], drop, false, length, true, ℕ, ◌∷◌, ◌≡◌, ◌≢◌, ◌≤◌, ◌⊎◌}
use Rattle.orc_fault.specs.declared.Again.{Again as AgainFault}
use Rattle.orc_heap.specs.Allowed.{events_by}
use Rattle.orc_heap.specs.Calls.{Misses, event_of, links_made}
use Rattle.orc_heap.specs.Heap.{link_to}
use Rattle.orc_heap.specs.Journals.{noted_entries}
use Rattle.orc_heap.specs.Moves.{from_own, gives_in, moves_in}
use Rattle.orc_heap.specs.OwnEvents.{Puts}
use Rattle.orc_heap.specs.Seats.{Seat}
use Rattle.orc_heap.specs.Slots.{Hold, Slots}
use Rattle.orc_heap.specs.declared.events.Act.TheVariants.{Move}
use Rattle.orc_heap.specs.declared.events.Event.{Event}
use Rattle.orc_heap.specs.declared.events.Place.{Place}
use Rattle.orc_heap.specs.declared.events.Place.TheVariants.{Next}
use Rattle.orc_history.specs.declared.set.SetEntry.{SetEntry}
use Rattle.orc_ordered_chains.specs.Chains.{link_over}
use Rattle.orc_ordered_search.specs.Reading.{Reading}
use Rattle.orc_ordered_search.specs.Searches.{AllGone, FindsPresent, left_place, node_of, run_head}
use Rattle.orc_ordered_search.specs.Ways.{AreLoads, IsFew, IsLoad}

module _ {N : Type 0} where
  -- the events that a pass made from one seat to another
  abbrev pub made_from : Seat N → Seat N → List (Event N)
  made_from s t = drop (length (events_by s.agent s.seen)) (events_by t.agent t.seen)

  -- what the pass did: its own events enter these entries, and give so many nodes
  pub record Made (r : Reading N) (given : ℕ) (s : Seat N) (own : List (Event N)) (entries : List SetEntry) (t : Seat N) : Type 0 where
    pub puts : Puts s own t
    pub entries_are : noted_entries r.entries_in own ≡ entries
    pub gives : gives_in own ≡ given

  -- so many turns that are over: the pass moved nothing, and as many Moves of others stand after its first event. No turn has no event
  pub record AreOver (r : Reading N) (given turns : ℕ) (s : Seat N) (own : List (Event N)) (t : Seat N) : Type 0 where
    pub made : Made r given s own [] t
    pub no_move : moves_in own ≡ 0
    pub moved : turns ≤ moves_in (from_own s.agent made.puts.part)
    pub none : turns ≡ 0 → own ≡ []

  -- the same, by loads alone, and the pass holds what it held
  pub record Tires (r : Reading N) (turns : ℕ) (s t : Seat N) : Type 0 where
    pub own : List (Event N)
    pub over : AreOver r 0 turns s own t
    pub loads : AreLoads own
    pub slots : t.slots ≡ s.slots
    pub fresh : t.fresh ≡ s.fresh

  -- turns of which the last answered with this entry, and the pass holds what it held
  pub record Answers (r : Reading N) (s : Seat N) (entry : SetEntry) (t : Seat N) : Type 0 where
    pub own : List (Event N)
    pub made : Made r 0 s own (entry ∷ []) t
    pub slots : t.slots ≡ s.slots
    pub fresh : t.fresh ≡ s.fresh

  -- the entry was entered, or a link moved meanwhile
  abbrev pub Enters : Reading N → SetEntry → Seat N → Bool → Seat N → Type 0
  Enters r entry s true t = Answers r s entry t
  Enters r entry s false t = Tires r 1 s t

  -- the same, by at most two events for each node at whose link it looked, and three
  abbrev pub EntersFew : Reading N → SetEntry → Seat N → Bool → Seat N → Type 0
  EntersFew r entry s true t = (a : Answers r s entry t) × IsFew 3 a.own
  EntersFew r entry s false t = (a : Tires r 1 s t) × IsFew 3 a.own

  -- the pass made one load
  pub record LoadsOnce (s t : Seat N) : Type 0 where
    pub event : Event N
    pub load : IsLoad event.act
    pub puts : Puts s (event ∷ []) t

  -- at most so many turns of a call that keeps no node: one answered, or all are over
  abbrev pub AnswersTurns : Reading N → (Bool → SetEntry) → ℕ → Seat N → Result Bool AgainFault → Seat N → Type 0
  AnswersTurns r entry turns s (Ok answer) t = (turns ≢ 0) × Answers r s (entry answer) t
  AnswersTurns r entry turns s (Err again) t = Tires r turns s t

  -- one such turn
  abbrev pub AnswersTurn : Reading N → (Bool → SetEntry) → Seat N → Option Bool → Seat N → Type 0
  AnswersTurn r entry s (Some answer) t = Answers r s (entry answer) t
  AnswersTurn r entry s None t = Tires r 1 s t

  -- the node's link to this target was marked, with this note; or the link was another
  pub record Marks (noted : N) (id : ℕ) (to : Option ℕ) (s : Seat N) (done : Bool) (t : Seat N) : Type 0 where
    pub slots : t.slots ≡ s.slots
    pub fresh : t.fresh ≡ s.fresh
    pub puts : MatchBool done (Puts s (event_of s (Move (Next id) (link_over to) (record { to = to; mark = true })) (Some noted) ∷ []) t)
        (Misses (Next id) (link_over to) s t)

  -- at least 32 links were made to this node
  abbrev pub HasManyLinks : Option ℕ → List (Event N) → Type 0
  HasManyLinks to seen = (id : ℕ) × (to ≡ Some id) × (32 ≤ links_made seen id)

  -- the place was led past the run, with this note, or showed another link, or something was worn, and the node behind the run has many links
  pub record TriesUnlink (noted : N) (place : Place) (first : ℕ) (to : Option ℕ) (IsWorn : Type 0) (s t : Seat N) : Type 0 where
    pub slots : t.slots ≡ s.slots
    pub fresh : t.fresh ≡ s.fresh
    pub either : (Puts s (event_of s (Move place (link_to first) (link_over to)) (Some noted) ∷ []) t ⊎ Misses place (link_to first) s t)
        ⊎ (IsWorn × HasManyLinks to t.seen × Puts s [] t)

  -- a node that a search found was marked, with this note, and then one try made to lead the left place past the run that ends with it; all
  -- nodes are let go
  pub record TakesNode (noted unlinking : N) (place : Place) (first id : ℕ) (to : Option ℕ) (IsWorn : Type 0) (slots : Slots) (s t : Seat N) : Type 0 where
    pub marked : Seat N
    pub tried : Seat N
    pub marks : Marks noted id to s true marked
    pub tries : TriesUnlink unlinking place first to IsWorn marked tried
    pub gone : AllGone slots tried t

  -- or its link was another
  abbrev pub TakesOut : (r : Reading N) → N → N → (start : Place) (wanted passed : ℕ) (left first : Option Hold) (node : Hold) (next : Option Hold) → Type 0
      → (s t : Seat N) → FindsPresent r start wanted passed left first node next s t → Bool → Seat N → Type 0
  TakesOut r noted unlinking start wanted passed left first node next IsWorn s t f true u =
      TakesNode noted unlinking (left_place (r.order.root wanted) left f.left_id) (run_head first f.first_id f.id) f.id (node_of next f.next_id) IsWorn s.slots t u
  TakesOut r noted unlinking start wanted passed left first node next IsWorn s t f false u = (a : Tires r 1 s u) × IsFew 3 a.own

  -- a search found the node with the rank, which was taken out
  pub record TakesFound (r : Reading N) (noted unlinking : N) (start : Place) (wanted : ℕ) (IsWorn : Type 0) (s t u : Seat N) : Type 0 where
    pub left : Option Hold
    pub first : Option Hold
    pub node : Hold
    pub next : Option Hold
    pub passed : ℕ
    pub finds : FindsPresent r start wanted passed left first node next s t
    pub takes : TakesNode noted unlinking (left_place (r.order.root wanted) left finds.left_id) (run_head first finds.first_id finds.id) finds.id
        (node_of next finds.next_id) IsWorn s.slots t u

  -- events that enter nothing and give no node; the pass holds what it held
  pub record Tries (r : Reading N) (s t : Seat N) : Type 0 where
    pub own : List (Event N)
    pub puts : Puts s own t
    pub no_entries : noted_entries r.entries_in own ≡ []
    pub no_give : gives_in own ≡ 0
    pub slots : t.slots ≡ s.slots
    pub fresh : t.fresh ≡ s.fresh
