-- The events with which the journals of a new domain begin. The dummy is that of Michael and Scott 1996.
use Rattle.std.specs.Prelude.{List, None, Option, Some, [], ℕ, ◌++◌, ◌^◌, ◌∷◌, ◌≤◌}
use Rattle.orc_heap.specs.Heap.{HeapNumbers, link_to, null}
use Rattle.orc_heap.specs.Journals.{event_by}
use Rattle.orc_heap.specs.declared.events.Act.{Act}
use Rattle.orc_heap.specs.declared.events.Act.TheVariants.{Fill, Give, Move}
use Rattle.orc_heap.specs.declared.events.Event.{Event}
use Rattle.orc_heap.specs.declared.events.Place.TheVariants.{Root}
use Rattle.orc_heap.specs.declared.seed.Seed.{Seed}
use Rattle.orc_heap.specs.declared.seed.Seed.TheVariants.{Dummy, Empty}

module _ {N : Type 0} where
  -- an event of the agent that opens the journal, which is agent 0
  abbrev pub opening_event : Act → Option N → Event N
  opening_event act note = event_by 0 act note

  -- the dummy node, with its values
  abbrev pub dummy_node : ℕ → List (Event N)
  dummy_node first = opening_event Give None ∷ opening_event (Fill 0 0 0) None ∷ opening_event (Fill 0 1 first) None ∷ []

  -- a link to it from a root
  abbrev pub dummy_link : ℕ → N → Event N
  dummy_link root begin = opening_event (Move (Root root) null (link_to 0)) (Some begin)

  -- the events that a new domain begins with
  abbrev pub opening_events : Seed N → List (Event N)
  opening_events Empty = []
  opening_events (Dummy first begin) = dummy_node first ++ dummy_link 0 begin ∷ dummy_link 1 begin ∷ []

  -- two roots, a first position of at most 2 ^ 62, and the discipline allows the two Moves where they stand
  pub record DummyAllowed (may : HeapNumbers → List (Event N) → Event N → Type 0) (n : HeapNumbers) (first : ℕ) (begin : N) : Type 0 where
    pub roots : 2 ≤ n.roots
    pub low : first ≤ 2 ^ 62
    pub first_link : may n (dummy_node first) (dummy_link 0 begin)
    pub second_link : may n (dummy_node first ++ dummy_link 0 begin ∷ []) (dummy_link 1 begin)

  -- a dummy is linked from two roots
  abbrev pub HasRoots : HeapNumbers → Seed N → Type 0
  HasRoots n Empty = Unit {0}
  HasRoots n (Dummy first begin) = 2 ≤ n.roots

  -- what a seed asks of the discipline
  abbrev pub SeedAllowed : (HeapNumbers → List (Event N) → Event N → Type 0) → HeapNumbers → Seed N → Type 0
  SeedAllowed may n Empty = Unit {0}
  SeedAllowed may n (Dummy first begin) = DummyAllowed may n first begin
