-- What the turns of a call do. After Harris 2001.
use Rattle.std.specs.List.{Contains}
use Rattle.std.specs.Prelude.{List, Some, [], false, length, true, ℕ, ◌*◌, ◌++◌, ◌+◌, ◌∷◌, ◌≡◌, ◌≤◌, ◌⊎◌}
use Rattle.orc_heap.specs.Allowed.{HasLink}
use Rattle.orc_heap.specs.Calls.{links_made}
use Rattle.orc_heap.specs.Heap.{Heap, HeapNumbers}
use Rattle.orc_heap.specs.Moves.{AllOwn, from_own, gives_in, moves_in}
use Rattle.orc_heap.specs.OwnEvents.{Puts}
use Rattle.orc_heap.specs.Seats.{Seat, heap_of}
use Rattle.orc_heap.specs.declared.events.Act.TheVariants.{Move}
use Rattle.orc_heap.specs.declared.events.Event.{Event}
use Rattle.orc_heap.specs.declared.events.Link.{Link}
use Rattle.orc_heap.specs.declared.events.Place.{Place}
use Rattle.orc_heap.specs.declared.events.Place.TheVariants.{Next}
use Rattle.orc_history.specs.declared.set.SetEntry.TheVariants.{Removed}
use Rattle.orc_chain_rule.specs.declared.chain.ChainNote.{ChainNote}
use Rattle.orc_chain_rule.specs.declared.chain.ChainNote.TheVariants.{Entry}
use Rattle.orc_chain_rule.specs.ChainDiscipline.{IsOnNoChain}
use Rattle.orc_ordered_search.specs.Ways.{CoversLooks, Sees}
use Rattle.orc_ordered_search.specs.Searches.{SeesRun}
use Rattle.orc_ordered_search.specs.Turns.{made_from}

-- of the events there are at most so many in each turn: two for each node at whose link one of them looked, and four; and so many
-- more in all
abbrev pub AreFew : ℕ → ℕ → List (Event ChainNote) → Type 0
AreFew turns more es = (ids : List ℕ) → CoversLooks ids es → length es ≤ turns * (2 * length ids + 4) + more

-- such are the events that a pass made in so many turns from one seat to another, and three more for each node that was given
abbrev pub MadeFew : ℕ → Seat ChainNote → Seat ChainNote → Type 0
MadeFew turns s t = AreFew turns (3 * gives_in (made_from s t)) (made_from s t)

-- one of these events takes the key out at this node: it marks the node's link
abbrev pub TakesKey : List (Event ChainNote) → ℕ → ℕ → Type 0
TakesKey [] key id = ⊥
TakesKey (e ∷ es) key id = ((from : Link) × (to : Link) × (e.act ≡ Move (Next id) from to) × (e.note ≡ Some (Entry (Removed e.agent key true)))) ⊎ TakesKey
    es key id

-- these events took the key out at a node, to which Looks among them found an unmarked link lead over a run of marked nodes; and
-- neither the node nor one of the run is on a chain
pub record LeavesOff (key : ℕ) (es : List (Event ChainNote)) (h : Heap) : Type 0 where
  pub id : ℕ
  pub takes : TakesKey es key id
  pub place : Place
  pub from : Link
  pub plain : from.mark ≡ false
  pub sees : Sees es place from
  pub over : List ℕ
  pub sees_run : SeesRun es from over (Some id)
  pub off : (x : ℕ) → Contains (over ++ id ∷ []) x → IsOnNoChain h x

-- these events took the key out at a node, whose marked link leads to one to which at least 32 links were made
pub record StopsBefore (key : ℕ) (es : List (Event ChainNote)) (h : Heap) (seen : List (Event ChainNote)) : Type 0 where
  pub id : ℕ
  pub takes : TakesKey es key id
  pub next : ℕ
  pub leads : HasLink h id (record { to = Some next; mark = true })
  pub many : 32 ≤ links_made seen next

-- what the pass made from one seat to another took the key out; if no other agent stepped, then its node and the run before it are off the
-- chain, unless something was worn, and the node behind them has many links
abbrev pub TakesOff : HeapNumbers → ℕ → Type 0 → Seat ChainNote → Seat ChainNote → Type 0
TakesOff n key IsWorn s t = (w : Puts s (made_from s t) t) → AllOwn s.agent (from_own s.agent w.part)
    → LeavesOff key (made_from s t) (heap_of n t) ⊎ (IsWorn × StopsBefore key (made_from s t) (heap_of n t) t.seen)

-- among the events is one Move, which takes the key out at a node
abbrev pub MarksAlone : ℕ → List (Event ChainNote) → Type 0
MarksAlone key es = (moves_in es ≡ 1) × (id : ℕ) × TakesKey es key id
