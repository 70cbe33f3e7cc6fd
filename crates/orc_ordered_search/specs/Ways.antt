-- What an agent's Looks tell of the nodes that a search came by.
use Rattle.std.specs.Prelude.{List, None, Option, Some, [], false, length, true, ℕ, ◌*◌, ◌+◌, ◌∷◌, ◌≡◌, ◌<◌, ◌≤◌, ◌⊎◌}
use Rattle.orc_heap.specs.Allowed.{HasLink}
use Rattle.orc_heap.specs.Heap.{Heap, shown}
use Rattle.orc_heap.specs.declared.events.Act.{Act}
use Rattle.orc_heap.specs.declared.events.Act.TheVariants.{Look, Miss}
use Rattle.orc_heap.specs.declared.events.Event.{Event}
use Rattle.orc_heap.specs.declared.events.Link.{Link}
use Rattle.orc_heap.specs.declared.events.Place.{Place}
use Rattle.orc_heap.specs.declared.events.Place.TheVariants.{Next}
use Rattle.orc_history.specs.SetHistory.{has}
use Rattle.orc_ordered_chains.specs.Chains.{HasRank, IsAbove, Order}

-- one of these events is a Look that found this link at the place
abbrev pub Sees : {N : Type 0} → List (Event N) → Place → Link → Type 0
Sees [] place link = ⊥
Sees (e ∷ es) place link = (e.act ≡ Look place link) ⊎ Sees es place link

-- each node at whose link one of these events looked is one of these
abbrev pub CoversLooks : {N : Type 0} → List ℕ → List (Event N) → Type 0
CoversLooks ids es = (id : ℕ) (link : Link) → Sees es (Next id) link → has id ids ≡ true

-- of the events there are at most two for each node at whose link one of them looked, and so many more
abbrev pub IsFew : {N : Type 0} → ℕ → List (Event N) → Type 0
IsFew more es = (ids : List ℕ) → CoversLooks ids es → length es ≤ 2 * length ids + more

-- a run ends there: at null, or at a node whose link one of these events found unmarked
abbrev pub EndsRun : {N : Type 0} → List (Event N) → Option ℕ → Type 0
EndsRun es None = Unit {0}
EndsRun es (Some id) = (link : Link) × Sees es (Next id) link × (link.mark ≡ false)

-- the number is one of these
abbrev pub IsAmong : List ℕ → ℕ → Type 0
IsAmong [] y = ⊥
IsAmong (x ∷ xs) y = (x ≡ y) ⊎ IsAmong xs y

-- a load: a Look or a Miss
abbrev pub IsLoad : Act → Type 0
IsLoad (Look place link) = Unit {0}
IsLoad (Miss place wanted found) = Unit {0}
IsLoad act = ⊥

-- each of these events is a load
abbrev pub AreLoads : {N : Type 0} → List (Event N) → Type 0
AreLoads [] = Unit {0}
AreLoads (e ∷ es) = IsLoad e.act × AreLoads es

-- Looks among these events found that the place's link has this target
abbrev pub SeesTo : {N : Type 0} → List (Event N) → Place → Option ℕ → Type 0
SeesTo es place to = (link : Link) × Sees es place link × (link.to ≡ to)

-- and that the links lead from the place over these nodes, the last one first, to the target
abbrev pub IsWay : {N : Type 0} → List (Event N) → Place → List ℕ → Option ℕ → Type 0
IsWay es start [] to = SeesTo es start to
IsWay es start (id ∷ ids) to = SeesTo es (Next id) to × IsWay es start ids (Some id)

module _ (o : Order) where
  -- a search for a rank goes on from such a node: its link is marked, or it has a lower rank
  abbrev pub GoesOnFrom : Heap → ℕ → ℕ → Type 0
  GoesOnFrom h wanted id = ((link : Link) × HasLink h id link × (link.mark ≡ true)) ⊎ ((rank : ℕ) × HasRank o h id rank × (rank < wanted))

  abbrev pub AllGoOn : Heap → ℕ → List ℕ → Type 0
  AllGoOn h wanted [] = Unit {0}
  AllGoOn h wanted (id ∷ ids) = GoesOnFrom h wanted id × AllGoOn h wanted ids

  -- the ranks of these nodes fall, that of the first from below the target
  abbrev pub RanksFall : Heap → Option ℕ → List ℕ → Type 0
  RanksFall h to [] = Unit {0}
  RanksFall h to (id ∷ ids) = (rank : ℕ) × HasRank o h id rank × IsAbove o h to rank × RanksFall h (Some id) ids

  -- and ends at such a target: null, or a node that has the rank or a greater one
  abbrev pub IsPast : Heap → ℕ → Option ℕ → Type 0
  IsPast h wanted None = Unit {0}
  IsPast h wanted (Some id) = (rank : ℕ) × HasRank o h id rank × (wanted ≤ rank)

  -- the first unmarked node at or past a rank
  pub record Stops (h : Heap) (wanted id : ℕ) : Type 0 where
    pub rank : ℕ
    pub has_rank : HasRank o h id rank
    pub high : wanted ≤ rank
    pub link : Link
    pub at : shown h (Next id) ≡ Some link
    pub unmarked : link.mark ≡ false
