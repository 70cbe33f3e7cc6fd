-- What a refused try tells of a piece of a call is so of the whole call.
use Rattle.std.proofs.Common.{Bool, Err, List, Ok, Option, Result, [], append-nil, false, length, refl, subst, sym, true, ℕ, ◌++◌, ◌≡◌, ◌≤◌}
use Rattle.std.specs.Prelude.{IfErr}
use mathlib.Core.List.{IsPrefix}
use Rattle.orc_fault.specs.declared.Spent.{Spent as SpentRow}
use Rattle.orc_heap.proofs.Parting.{part_of_later, part_of_next}
use Rattle.orc_heap.specs.Heap.{HeapNumbers}
use Rattle.orc_heap.specs.OwnEvents.{Puts}
use Rattle.orc_heap.specs.Seats.{Seat}
use Rattle.orc_heap.specs.Slots.{Hold}
use Rattle.orc_heap.specs.declared.events.Event.{Event}
use Rattle.orc_heap.specs.declared.events.Place.{Place}
use Rattle.orc_heap.specs.declared.links.Links.{Ghosts as LinksOf}
use Rattle.orc_history.specs.Journals.{Within}
use Rattle.orc_history.specs.Parts.{InPart}
use Rattle.orc_ordered_search.proofs.Marking.{part_fact, within_wider}
use Rattle.orc_ordered_search.proofs.Parts.{within_goes_on}
use Rattle.orc_ordered_search.specs.Searches.{Begins, Quiet}
use Rattle.orc_split_rule.specs.declared.split.SplitNote.{SplitNote}
use Rattle.orc_split_set.proofs.Asking.{puts_since}
use Rattle.orc_split_set.proofs.Passes.{SeenIs, StepsAdd}
use Rattle.orc_split_set.specs.Growths.{grown_by}
use Rattle.orc_split_set.specs.SetCalls.{FindsWorn, LacksRow, NewTells, PartTells}
use Rattle.orc_split_set.specs.SplitSearches.{split_reading}
use Rattle.orc_split_set.specs.declared.bucket.Rooted.{Rooted}
use Rattle.orc_split_set.specs.declared.bucket.Rooted.TheVariants.{Done, Moved, NoNode, Spent}

module _ {L D P S : Type 0} (m : LinksOf L D P S SplitNote) where
  -- by what came of the try
  pub told_lacks : (links : L) (p q : P) (rooted : Rooted) → PartTells m links rooted p q → rooted ≡ NoNode → LacksRow m links p q
  told_lacks links p q rooted told is = subst (λ (x : Rooted). PartTells m links x p q) is told

  pub told_worn : (links : L) (p q : P) (rooted : Rooted) → PartTells m links rooted p q → (why : SpentRow) → rooted ≡ Spent why → FindsWorn m links why p q
  told_worn links p q rooted told why is = subst (λ (x : Rooted). PartTells m links x p q) is told

  -- what the last piece's part tells
  pub told_next : (links : L) (p q r : P) → (m.seat links q).agent ≡ (m.seat links p).agent → IsPrefix (m.journal p) (m.journal q)
      → IsPrefix (m.journal q) (m.journal r) → (rooted : Rooted) → PartTells m links rooted q r → PartTells m links rooted p r
  told_next links p q r agent first second Done told = tt
  told_next links p q r agent first second Moved told = tt
  told_next links p q r agent first second NoNode told = part_of_next m links p q r agent first second (m.lacking links) told
  told_next links p q r agent first second (Spent why) told = part_of_next m links p q r agent first second (λ a. m.worn links a why) told

  -- what is told of the last piece, where an event was put before it
  pub told_later : StepsAdd m → SeenIs m → (links : L) (p q r : P) (own : List (Event SplitNote)) → m.belongs links p → m.belongs links q → Puts (m.seat links p) own (m.seat links q)
      → 1 ≤ length own → IsPrefix (m.journal p) (m.journal q) → IsPrefix (m.journal q) (m.journal r)
      → (rooted : Rooted) → NewTells m links rooted q r → PartTells m links rooted p r
  told_later adds seen_is links p q r own in_p in_q puts some first second Done told = tt
  told_later adds seen_is links p q r own in_p in_q puts some first second Moved told = tt
  told_later adds seen_is links p q r own in_p in_q puts some first second NoNode told =
      part_of_later m adds seen_is links p q r own in_p in_q puts some first second (m.lacking links) told
  told_later adds seen_is links p q r own in_p in_q puts some first second (Spent why) told =
      part_of_later m adds seen_is links p q r own in_p in_q puts some first second (λ a. m.worn links a why) told

  -- the same where the event was put by a search
  pub told_searched : StepsAdd m → SeenIs m → (links : L) (p q r : P) → m.belongs links p → m.belongs links q → {n : HeapNumbers} {start : Place} {wanted : ℕ} {left : Option Hold} {s : Seat SplitNote}
      → Begins (split_reading n) start wanted left s (m.seat links p) → {own : List (Event SplitNote)} → Quiet (split_reading n) s own (m.seat links q)
      → IsPrefix (m.journal p) (m.journal q) → IsPrefix (m.journal q) (m.journal r) → (rooted : Rooted) → NewTells m links rooted q r
      → PartTells m links rooted p r
  told_searched adds seen_is links p q r in_p in_q {s = s} b {own = own} quiet =
      told_later adds seen_is links p q r own in_p in_q (puts_since s (m.seat links p) (m.seat links q) own b.seen b.agent quiet.puts) quiet.some

  module _ (lacking_stays : (links : L) (agent : ℕ) (j more : List S) (from to : ℕ) → m.lacking links agent j from to
      → m.lacking links agent (j ++ more) from to)
      (worn_stays : (links : L) (agent : ℕ) (why : SpentRow) (j more : List S) (from to : ℕ) → m.worn links agent why j from to
      → m.worn links agent why (j ++ more) from to)
      (links : L) where
    -- what is told of a piece in between
    pub told_wider : (p q r o : P) → (m.seat links q).agent ≡ (m.seat links p).agent → IsPrefix (m.journal p) (m.journal q)
        → IsPrefix (m.journal r) (m.journal o) → (rooted : Rooted) → NewTells m links rooted q r → NewTells m links rooted p o
    told_wider p q r o agent first second Done told = tt
    told_wider p q r o agent first second Moved told = tt
    told_wider p q r o agent first second NoNode told =
        let a = (m.seat links p).agent in
        within_wider (m.lacking links a) (m.journal p) (m.journal q) (m.journal r) (m.journal o) (lacking_stays links a) first second
        (subst (λ (x : ℕ). Within (length (m.journal q)) (length (m.journal r)) (m.lacking links x (m.journal r))) agent told)
    told_wider p q r o agent first second (Spent why) told =
        let a = (m.seat links p).agent in
        within_wider (m.worn links a why) (m.journal p) (m.journal q) (m.journal r) (m.journal o) (worn_stays links a why) first second
        (subst (λ (x : ℕ). Within (length (m.journal q)) (length (m.journal r)) (m.worn links x why (m.journal r))) agent told)

    -- no row could be given
    pub told_refused : (p q r : P) → IsPrefix (m.journal p) (m.journal q) → IsPrefix (m.journal q) (m.journal r)
        → InPart m.agent_of (m.seat links p).agent (m.journal p) (m.journal q) (m.lacking links (m.seat links p).agent (m.journal q))
        → NewTells m links NoNode p r
    told_refused p q r first second lacking =
        let a = (m.seat links p).agent in
        told_wider p p q r refl ([], append-nil _) second NoNode
        (part_fact m.agent_of a (m.journal p) (m.journal q) (m.lacking links a (m.journal q)) first lacking)

    -- what the first piece's part tells
    pub told_on : (p q r : P) → IsPrefix (m.journal p) (m.journal q) → IsPrefix (m.journal q) (m.journal r) → (rooted : Rooted)
        → PartTells m links rooted p q → PartTells m links rooted p r
    told_on p q r first second Done told = tt
    told_on p q r first second Moved told = tt
    told_on p q r first second NoNode told =
        let a = (m.seat links p).agent in
        within_goes_on m.agent_of a (m.lacking links a) (lacking_stays links a) (m.journal p) (m.journal q) (m.journal r) first second told
    told_on p q r first second (Spent why) told =
        let a = (m.seat links p).agent in
        within_goes_on m.agent_of a (m.worn links a why) (worn_stays links a why) (m.journal p) (m.journal q) (m.journal r) first second told

    -- what a swing of the size's root tells that was refused
    pub grown_told : (p q r : P) → IsPrefix (m.journal q) (m.journal r) → (swung : Result Bool SpentRow)
        → IfErr swung (λ e. Within (length (m.journal p)) (length (m.journal q)) (m.worn links (m.seat links p).agent e (m.journal q)))
        → (rooted : Rooted) → rooted ≡ grown_by swung → NewTells m links rooted p r
    grown_told p q r later swung worn rooted is = subst (λ (x : Rooted). NewTells m links x p r) (sym is) (by swung worn)
      where
        by : (swung : Result Bool SpentRow)
            → IfErr swung (λ e. Within (length (m.journal p)) (length (m.journal q)) (m.worn links (m.seat links p).agent e (m.journal q)))
            → NewTells m links (grown_by swung) p r
        by (Ok true) worn = tt
        by (Ok false) worn = tt
        by (Err why) worn = told_wider p p q r refl ([], append-nil _) later (Spent why) worn
