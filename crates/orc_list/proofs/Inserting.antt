-- What a link left, as a call goes on.
use Rattle.std.proofs.Common.{Bool, List, Option, [], subst, sym, ℕ}
use Rattle.orc_heap.specs.Allowed.{AllAllowed}
use Rattle.orc_heap.specs.Heap.{HeapNumbers}
use Rattle.orc_heap.specs.OwnEvents.{Puts}
use Rattle.orc_heap.specs.Seats.{Seat, heap_of}
use Rattle.orc_heap.specs.Slots.{Hold, Slots}
use Rattle.orc_heap.specs.declared.events.Event.{Event}
use Rattle.orc_history.specs.declared.set.SetEntry.{SetEntry}
use Rattle.orc_chain_rule.specs.ChainDiscipline.{ChainHolds, ChainMay}
use Rattle.orc_chain_rule.specs.declared.chain.ChainNote.{ChainNote}
use Rattle.orc_ordered_search.specs.Inserts.{Inserts, InsertsTurns}
use Rattle.orc_ordered_search.specs.Turns.{made_from}
use Rattle.orc_ordered_search.specs.declared.turn.InsertTurn.{InsertTurn}
use Rattle.orc_ordered_search.specs.declared.turn.InsertTurn.TheVariants.{Answered, NoNode, Over, Spent}
use Rattle.orc_list.specs.Inserts.{LeavesRunOff}
use Rattle.orc_list.specs.Searches.{list_reading}
use Rattle.orc_ordered_search.proofs.Since.{made_still, made_trans}
use Rattle.orc_list.proofs.Passing.{leaves_on, leaves_right}

-- the events of one turn or more
pub inserts_puts : (n : HeapNumbers) (key turns : ℕ) (entry : Bool → SetEntry) (slots : Slots) (node kept : Option Hold) (s t : Seat ChainNote)
    (turn : InsertTurn) → Inserts (list_reading n) key 0 entry turns slots node s turn kept t → (own : List (Event ChainNote)) × Puts s own t
inserts_puts n key turns entry slots node kept s t Over f = (f.own, f.over.made.puts)
inserts_puts n key turns entry slots node kept s t (Answered answer passed) f = (f.0, f.1.made.puts)
inserts_puts n key turns entry slots node kept s t NoNode f = (f.0, f.1.made.puts)
inserts_puts n key turns entry slots node kept s t (Spent why) f = (f.0, f.1.made.puts)

pub turns_puts : (n : HeapNumbers) (key turns : ℕ) (entry : Bool → SetEntry) (kept : Option Hold) (s t : Seat ChainNote) (turn : InsertTurn)
    → InsertsTurns (list_reading n) key 0 entry turns s turn kept t → (own : List (Event ChainNote)) × Puts s own t
turns_puts n key turns entry kept s t Over f = (f.own, f.over.made.puts)
turns_puts n key turns entry kept s t (Answered answer passed) f = (f.1.0, f.1.1.made.puts)
turns_puts n key turns entry kept s t NoNode f = (f.1.0, f.1.1.made.puts)
turns_puts n key turns entry kept s t (Spent why) f = (f.1.0, f.1.1.made.puts)

module _ (n : HeapNumbers) (key : ℕ) (s t u : Seat ChainNote) (own : List (Event ChainNote)) (p : Puts s own t) where
  -- with turns before

  pub leaves_next : (ys : List (Event ChainNote)) → Puts t ys u → LeavesRunOff key (made_from t u) (heap_of n u) → LeavesRunOff key (made_from s u) (heap_of n u)
  leaves_next ys q l =
      subst (λ z. LeavesRunOff key z (heap_of n u)) (sym (made_trans s t u own ys p q)) (leaves_right (heap_of n u) key (made_from s t) (made_from t u) l)

  -- and with no event after them

  pub leaves_still : Puts t [] u → ChainHolds n t.seen → AllAllowed (ChainMay n) [] u.seen → LeavesRunOff key (made_from s t) (heap_of n t)
      → LeavesRunOff key (made_from s u) (heap_of n u)
  leaves_still q holds all l =
      subst (λ z. LeavesRunOff key z (heap_of n u)) (sym (made_still s t u own p q)) (leaves_on n key (made_from s t) t u q holds all l)
