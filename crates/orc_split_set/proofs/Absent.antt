-- What Looks found absent, as a call goes on.
use Rattle.std.proofs.Common.{List, [], subst, ℕ, ◌++◌, ◌≡◌}
use Rattle.orc_heap.proofs.Calls.{Puts-trans}
use Rattle.orc_heap.specs.Allowed.{AllAllowed}
use Rattle.orc_heap.specs.Heap.{HeapNumbers}
use Rattle.orc_heap.specs.OwnEvents.{Only, Puts}
use Rattle.orc_heap.specs.Seats.{Seat}
use Rattle.orc_heap.specs.declared.events.Event.{Event}
use Rattle.orc_ordered_search.specs.Inserts.{SeesAbsent}
use Rattle.orc_ordered_search.specs.Turns.{made_from}
use Rattle.orc_ordered_search.specs.declared.turn.InsertTurn.{InsertTurn}
use Rattle.orc_ordered_search.specs.declared.turn.InsertTurn.TheVariants.{Answered, NoNode, Over, Spent}
use Rattle.orc_ordered_search.proofs.Absent.{absent_next, absent_still}
use Rattle.orc_split_rule.specs.SplitDiscipline.{SplitMay}
use Rattle.orc_split_rule.specs.SplitOrder.{key_place}
use Rattle.orc_split_rule.specs.declared.split.SplitNote.{SplitNote}
use Rattle.orc_split_set.specs.Growths.{GrowsAfter, IsCrowded}
use Rattle.orc_split_set.specs.SplitSearches.{split_reading}
use Rattle.orc_split_set.specs.declared.bucket.Rooted.{Rooted}
use Rattle.orc_split_set.proofs.Ordered.{split_ordering}

-- where no node could be had, nothing follows the turns
lacks_uncrowded : (turn : InsertTurn) → turn ≡ NoNode → IsCrowded turn → ⊥
lacks_uncrowded Over is k = k
lacks_uncrowded (Answered answer passed) is k = cc
lacks_uncrowded NoNode is k = k
lacks_uncrowded (Spent why) is k = k

-- of a whole call: with what came before its turns, after them, and the settling
pub absent_call : (n : HeapNumbers) (key : ℕ) (turn : InsertTurn) (grown : Rooted) (s t u v w : Seat SplitNote) (own ys : List (Event SplitNote))
    → Puts s own t → Puts t ys u → GrowsAfter n turn u grown v → Only [] v w → AllAllowed (SplitMay n) [] w.seen → turn ≡ NoNode
    → SeesAbsent (split_reading n) (key_place key) (made_from t u) u → SeesAbsent (split_reading n) (key_place key) (made_from s w) w
absent_call n key turn grown s t u v w own ys p q k o all is a =
    let none : Puts u [] v = subst (λ (z : List (Event SplitNote)). Puts u z v) (k.none (lacks_uncrowded turn is)) k.doubles.call.made.puts in
    let x = split_ordering n in
    let before = absent_next x (key_place key) s t u own p ys q a in
    absent_still x (key_place key) s u w (own ++ ys) (Puts-trans s t u own ys p q) (Puts-trans u v w [] [] none o.puts) all before
