-- What the members of `SharedSet` and `LearnSet` mean for a split-ordered set, and what the contracts of its calls say of a pass of its
-- domain of links before a call, `old`, and after it, `new`.
use Rattle.std.specs.Prelude.{List, [], drop, length, take, ℕ, ◌*◌, ◌+◌, ◌<◌, ◌≤◌, ◌⊎◌}
use Rattle.orc_fault.specs.declared.Spent.{Spent}
use Rattle.orc_heap.specs.Domains.{Enters as EntersHistory, InCall, IsCallAlone, agent, heap, own_events}
use Rattle.orc_heap.specs.Journals.{run_heap}
use Rattle.orc_heap.specs.Moves.{gives_in}
use Rattle.orc_heap.specs.Seats.{IsIdle}
use Rattle.orc_heap.specs.declared.events.Event.{Event}
use Rattle.orc_heap.specs.declared.links.Links.{Ghosts as LinksOf}
use Rattle.orc_history.specs.Journals.{Within}
use Rattle.orc_history.specs.Parts.{WithinPart, part_begin}
use Rattle.orc_history.specs.SetHistory.{agent_of_set_entry}
use Rattle.orc_history.specs.declared.set.ListRefused.{ListRefused}
use Rattle.orc_history.specs.declared.set.SetEntry.{SetEntry}
use Rattle.orc_ordered_search.specs.Causes.{Cause, UsesTurns}
use Rattle.orc_ordered_search.specs.Inserts.{SeesAbsent}
use Rattle.orc_ordered_search.specs.Ways.{AreLoads}
use Rattle.orc_split_rule.specs.SplitDiscipline.{IsSize, entries_in, entries_of, greatest, size_of}
use Rattle.orc_split_rule.specs.SplitOrder.{bucket_of, key_place}
use Rattle.orc_split_rule.specs.declared.split.SplitNote.{SplitNote}
use Rattle.orc_split_set.specs.Crowds.{keys_before}
use Rattle.orc_split_set.specs.FewEvents.{AreFewBySearch}
use Rattle.orc_split_set.specs.Growths.{HasGrow}
use Rattle.orc_split_set.specs.Looks.{HasStart, ReachesIn}
use Rattle.orc_split_set.specs.Rootings.{IsRootSet}
use Rattle.orc_split_set.specs.SplitSearches.{split_reading}
use Rattle.orc_split_set.specs.Stops.{LinksNewDummy}
use Rattle.orc_split_set.specs.declared.bucket.Rooted.{Rooted}
use Rattle.orc_split_set.specs.declared.bucket.Rooted.TheVariants.{Done, Moved, NoNode, Spent as RootedSpent}

module _ {L D P S : Type 0} (members : LinksOf L D P S SplitNote) (links : L) where
  -- the pass is one of the domain, and idle
  abbrev pub IsUsable : P → Type 0
  IsUsable p = members.belongs links p × IsIdle (members.seat links p)

  -- the history is that of the domain's events
  abbrev pub set_history : List S → List SetEntry
  set_history journal = entries_of (members.events links journal)

  -- a refusal has its cause between two places of the journal
  abbrev pub HasCause : ℕ → ℕ → ListRefused → List S → ℕ → ℕ → Type 0
  HasCause agent turns why journal from to =
      Cause members.agent_of (members.events links) (members.lacking links agent journal from to)
      (λ spent. members.worn links agent spent journal from to) agent turns why journal from to

  -- the call enters these entries of its agent, and others' entries may stand among them
  abbrev pub Enters : P → P → (ℕ → List SetEntry) → Type 0
  Enters old new entries = EntersHistory members links agent_of_set_entry entries_in old new (entries (agent members links old))

  -- it enters none
  abbrev pub EntersNone : P → P → Type 0
  EntersNone old new = Enters old new (λ agent. [])

  -- the events that the call made
  abbrev pub call_events : P → P → List (Event SplitNote)
  call_events old new = drop (length (own_events members links old)) (own_events members links new)

  -- it gave at most so many nodes
  abbrev pub GivesAtMost : ℕ → P → P → Type 0
  GivesAtMost most old new = gives_in (call_events old new) ≤ most

  -- it made few: at most two for each node at whose link it looked, and 22, in each of so many searches, and so many more in all. Of the 22
  -- are two for a read of the number of buckets, two for the root of each of at most 8 buckets, and four beside the nodes
  abbrev pub MakesFewBySearch : ℕ → ℕ → P → P → Type 0
  MakesFewBySearch searches more old new = AreFewBySearch 22 searches more (call_events old new)

  -- the call itself linked the bucket's dummy, which is on the chain after it; before it no Move had made a link to that node
  abbrev pub LinksDummy : ℕ → P → P → Type 0
  LinksDummy bucket old new = LinksNewDummy bucket (heap members links old) (call_events old new) (heap members links new)

  -- all turns were used in the call's part of the journal: as many Moves of other agents stand there
  abbrev pub UsesAllTurns : ℕ → P → P → Type 0
  UsesAllTurns turns old new = InCall members links old new
      (UsesTurns members.agent_of (members.events links) (agent members links old) turns (members.journal new))

  -- no row could be given to the call's agent in the call's part of the journal
  abbrev pub LacksRow : P → P → Type 0
  LacksRow old new = WithinPart members.agent_of (agent members links old) (members.journal old) (members.journal new)
      (members.lacking links (agent members links old) (members.journal new))

  -- the call's agent read this row's sequence at its limit in the call's part of the journal
  abbrev pub FindsWorn : Spent → P → P → Type 0
  FindsWorn why old new = WithinPart members.agent_of (agent members links old) (members.journal old) (members.journal new)
      (members.worn links (agent members links old) why (members.journal new))

  -- Looks of the call found the key absent: an unmarked link of a place below it in split order, and a run of marked nodes from there to null
  -- or to a node above it
  abbrev pub FindsAbsent : ℕ → P → P → Type 0
  FindsAbsent key old new = SeesAbsent (split_reading (members.numbers links)) (key_place key) (call_events old new) (members.seat links new)

  -- what a refused try tells: in the call's part no row could be given to the call's agent, or a row was worn
  abbrev pub PartTells : Rooted → P → P → Type 0
  PartTells Done old new = Unit {0}
  PartTells Moved old new = Unit {0}
  PartTells NoNode old new = LacksRow old new
  PartTells (RootedSpent why) old new = FindsWorn why old new

  -- the same between two places of what is new in the journal
  abbrev pub NewTells : Rooted → P → P → Type 0
  NewTells Done old new = Unit {0}
  NewTells Moved old new = Unit {0}
  NewTells NoNode old new = Within (length (members.journal old)) (length (members.journal new))
      (members.lacking links (agent members links old) (members.journal new))
  NewTells (RootedSpent why) old new = Within (length (members.journal old)) (length (members.journal new))
      (members.worn links (agent members links old) why (members.journal new))

  -- there were so many buckets at a moment of the call: a power of two, no fewer than before it, and no more than after it
  abbrev pub HadSize : ℕ → P → P → Type 0
  HadSize size old new = IsSize (greatest (members.numbers links)) size
      × (size_of (members.numbers links) (members.seat links old).seen ≤ size) × (size ≤ size_of (members.numbers links) (members.seat links new).seen)

  -- the events before the call's part
  abbrev pub events_before : P → P → List (Event SplitNote)
  events_before old new = members.events links
      (take (part_begin members.agent_of (agent members links old) (members.journal old) (members.journal new)) (members.journal new))

  -- the bucket of a key before the call's part
  abbrev pub bucket_before : ℕ → P → P → ℕ
  bucket_before key old new = bucket_of key (size_of (members.numbers links) (events_before old new))

  -- where no other agent has a step in the call's part, the root of the key's bucket isn't null after it, or no row could be given to the
  -- call's agent, or a row was worn
  abbrev pub RootsBucket : ℕ → P → P → Type 0
  RootsBucket key old new = IsCallAlone members links old new → 1 ≤ bucket_before key old new
      → IsRootSet (heap members links new) (bucket_before key old new) ⊎ (LacksRow old new ⊎ ((why : Spent) × FindsWorn why old new))

  -- the events of the call's part
  abbrev pub events_within : P → P → List (Event SplitNote)
  events_within old new = drop (length (events_before old new)) (members.events links (members.journal new))

  -- where no other agent has a step in the call's part, more than 8 keys of the set before it stood in split order between the start of the
  -- key's bucket and the key, and there were fewer buckets than there may be: the part has a Grow, or no row could be given to the call's
  -- agent, or a row was worn
  abbrev pub GrowsCrowded : ℕ → P → P → Type 0
  GrowsCrowded key old new = IsCallAlone members links old new → 8 < length (keys_before (members.numbers links) key (events_before old new))
      → size_of (members.numbers links) (events_before old new) < greatest (members.numbers links)
      → HasGrow (events_within old new) ⊎ (LacksRow old new ⊎ ((why : Spent) × FindsWorn why old new))

  -- where no other agent has a step in the call's part, and its key's bucket was the first one, or had a root that wasn't null: only
  -- loads stand in the part, at most 8, and 4 for each of the nodes on the chain before the part, from the bucket's dummy, or root 0's target, to an
  -- unmarked node at or past the key, which is counted, or to the chain's end
  abbrev pub LooksFew : ℕ → P → P → Type 0
  LooksFew key old new = IsCallAlone members links old new → HasStart (run_heap (members.numbers links) (events_before old new)) (bucket_before key old new)
      → (many : ℕ) → ReachesIn (run_heap (members.numbers links) (events_before old new)) (bucket_before key old new) (key_place key) many
      → AreLoads (events_within old new) × (length (events_within old new) ≤ 8 + 4 * many)

  -- under the same terms: at most so many more events stand in the part than 8, and 4 for each of those nodes
  abbrev pub TakesFew : ℕ → ℕ → P → P → Type 0
  TakesFew more key old new = IsCallAlone members links old new → HasStart (run_heap (members.numbers links) (events_before old new)) (bucket_before key old new)
      → (many : ℕ) → ReachesIn (run_heap (members.numbers links) (events_before old new)) (bucket_before key old new) (key_place key) many
      → length (events_within old new) ≤ 8 + more + 4 * many
