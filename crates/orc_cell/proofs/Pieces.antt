-- What stays over a piece of a call, whatever others do; and pieces that only look.
use Rattle.std.proofs.Common.{List, Some, [], ap, append-nil, false, inl, inr, refl, subst, sym, ℕ, ◌++◌, ◌∙◌, ◌∷◌, ◌≡◌, ◌⊎◌}
use Rattle.std.specs.List.{AllByRecursion}
use Rattle.orc_heap.proofs.Calls.{Puts-trans, part_allowed}
use Rattle.orc_heap.proofs.Moved.{linked_place_after}
use Rattle.orc_cell.proofs.Elsewhere.{shown_elsewhere}
use Rattle.orc_heap.proofs.OwnEntries.{noted-append}
use Rattle.orc_heap.proofs.Pieces.{release_fresh}
use Rattle.orc_heap.proofs.Runs.{run_heap-snoc}
use Rattle.orc_heap.proofs.Stays.{stays}
use Rattle.orc_heap.specs.Allowed.{AllAllowed, IsLinkedNode}
use Rattle.orc_heap.specs.Calls.{Releases}
use Rattle.orc_heap.specs.Heap.{Heap, HeapNumbers, shown}
use Rattle.orc_heap.specs.Journals.{run_heap}
use Rattle.orc_heap.specs.Moves.{IsLinkedPlace, moves_place}
use Rattle.orc_heap.specs.OwnEvents.{Only, Puts}
use Rattle.orc_heap.specs.Seats.{IsUntouched, Seat, heap_of}
use Rattle.orc_heap.specs.Slots.{Hold, id_in}
use Rattle.orc_heap.specs.declared.links.Links.{Ghosts as LinksOf}
use Rattle.orc_heap.specs.declared.events.Act.{Act}
use Rattle.orc_heap.specs.declared.events.Act.TheVariants.{Move}
use Rattle.orc_heap.specs.declared.events.Event.{Event}
use Rattle.orc_heap.specs.declared.events.Link.{Link}
use Rattle.orc_heap.specs.declared.events.Place.{Place}
use Rattle.orc_heap.specs.declared.events.Place.TheVariants.{Next, Root, Side}
use Rattle.orc_pairs_rule.proofs.Later.{pair_later, part_later}
use Rattle.orc_pairs_rule.specs.declared.entry.CellEntry.{CellEntry}
use Rattle.orc_pairs_rule.specs.declared.pairs.PairsNote.{PairsNote}
use Rattle.orc_pairs_rule.specs.CellHistory.{Parts}
use Rattle.orc_pairs_rule.specs.PairsDiscipline.{HasPair, HasPart, PairsHolds, PairsMay, entries_in, entries_of}
use Rattle.orc_pairs_rule.specs.Laws.Nodes.{MovesRoot, moves_root}
use Rattle.orc_cell.specs.Turns.{OnlyLooks, FindsOnly, IsFinding}

-- what a pass knows of what it has seen
pub record Known (n : HeapNumbers) (es : List (Event PairsNote)) : Type 0 where
  pub holds : PairsHolds n es
  pub all : AllAllowed (PairsMay n) [] es

-- by the laws of the domain
pub pass_known : {L D P S : Type 0} (m : LinksOf L D P S PairsNote)
    → ((links : L) (p : P) → m.belongs links p → PairsHolds (m.numbers links) (m.seat links p).seen)
    → ((links : L) (p : P) → m.belongs links p → AllAllowed (PairsMay (m.numbers links)) [] (m.seat links p).seen)
    → (links : L) (p : P) → m.belongs links p → Known (m.numbers links) (m.seat links p).seen
pass_known m obeys allowed links p pass = record { holds = obeys links p pass; all = allowed links p pass }

linked_place : (h : Heap) (id : ℕ) (place : Place) → IsLinkedNode h id → (place ≡ Next id) ⊎ (place ≡ Side id) → IsLinkedPlace place h
linked_place h id place l (inl is) = subst (λ (x : Place). IsLinkedPlace x h) (sym is) l
linked_place h id place l (inr is) = subst (λ (x : Place). IsLinkedPlace x h) (sym is) l

node_apart : (act : Act) (place : Place) (id : ℕ) → (place ≡ Next id) ⊎ (place ≡ Side id) → MovesRoot act → moves_place place act ≡ false
node_apart (Move (Next i) from to) place id is m = absurd m
node_apart (Move (Side i) from to) place id is m = absurd m
node_apart (Move (Root r) from to) place id (inl is) m = subst (λ (x : Place). moves_place x (Move (Root r) from to) ≡ false) (sym is) refl
node_apart (Move (Root r) from to) place id (inr is) m = subst (λ (x : Place). moves_place x (Move (Root r) from to) ≡ false) (sym is) refl
node_apart act place id is m = refl

-- what such a place shows never changes
pub place_later : (n : HeapNumbers) (id : ℕ) (place : Place) (link : Link) (seen more : List (Event PairsNote)) → (place ≡ Next id) ⊎ (place ≡ Side id)
    → IsLinkedNode (run_heap n seen) id → shown (run_heap n seen) place ≡ Some link → AllAllowed (PairsMay n) seen more
    → shown (run_heap n (seen ++ more)) place ≡ Some link
place_later n id place link seen more is l at all =
    let P : List (Event PairsNote) → Type 0 = λ es. IsLinkedPlace place (run_heap n es) × (shown (run_heap n es) place ≡ Some link) in
    let r : P (seen ++ more) = stays (PairsMay n) P (λ es e x may.
    let h = run_heap n es in
    let root = moves_root h e.agent e.act e.note may.may_act in (
      subst (λ (g : Heap). IsLinkedPlace place g) (sym (run_heap-snoc n es e)) (linked_place_after e.agent e.act h place may.fits x.0),
      ap (λ g. shown g place) (run_heap-snoc n es e) ∙ (shown_elsewhere e.agent e.act h place may.fits x.0 (node_apart e.act place id is root) ∙ x.1),
    )) seen more (linked_place (run_heap n seen) id place l is, at) all in
    r.1

module _ (n : HeapNumbers) (s t : Seat PairsNote) (own : List (Event PairsNote)) (p : Puts s own t) (all : AllAllowed (PairsMay n) [] t.seen) where
  new : AllAllowed (PairsMay n) s.seen p.part
  new = part_allowed (PairsMay n) s t own p all

  pub part_puts : (id value : ℕ) → HasPart (heap_of n s) id value → HasPart (heap_of n t) id value
  part_puts id value x = subst (λ es. HasPart (run_heap n es) id value) (sym p.is) (part_later n s.seen p.part new id value x)

  pub pair_puts : (id left right : ℕ) (parts : Parts) → HasPair (heap_of n s) id left right parts → HasPair (heap_of n t) id left right parts
  pair_puts id left right parts x =
      subst (λ es. HasPair (run_heap n es) id left right parts) (sym p.is) (pair_later n s.seen p.part new id left right parts x)

-- pieces that look

pub all_join : (xs ys : List (Event PairsNote)) → AllByRecursion (λ (e : Event PairsNote). IsFinding e.act) xs
    → AllByRecursion (λ (e : Event PairsNote). IsFinding e.act) ys → AllByRecursion (λ (e : Event PairsNote). IsFinding e.act) (xs ++ ys)
all_join [] ys a b = b
all_join (x ∷ xs) ys a b = (a.0, all_join xs ys a.1 b)

pub Finds-trans : (s t u : Seat PairsNote) (xs ys : List CellEntry) → OnlyLooks s xs t → OnlyLooks t ys u → OnlyLooks s (xs ++ ys) u
Finds-trans s t u xs ys p q = record {
  own = p.own ++ q.own;
  puts = Puts-trans s t u p.own q.own p.puts q.puts;
  finding = all_join p.own q.own p.finding q.finding;
  entries_are = noted-append entries_in p.own q.own ∙ (ap (λ z. z ++ entries_of q.own) p.entries_are ∙ ap (λ z. xs ++ z) q.entries_are);
  fresh = q.fresh ∙ p.fresh;
}

pub FindsOnly-trans : (s t u : Seat PairsNote) (xs ys : List CellEntry) → FindsOnly s xs t → FindsOnly t ys u → FindsOnly s (xs ++ ys) u
FindsOnly-trans s t u xs ys p q = record { finds = Finds-trans s t u xs ys p.finds q.finds; slots = q.slots ∙ p.slots }

-- a call that did nothing
pub only_none : (s : Seat PairsNote) → Only [] s s
only_none s = record { slots = refl; fresh = refl; puts = record { part = []; is = sym (append-nil s.seen); agent = refl; own_is = refl } }

-- a call that makes no event
pub finds_none : (s t : Seat PairsNote) → Only [] s t → FindsOnly s [] t
finds_none s t o = record { finds = record { own = []; puts = o.puts; finding = tt; entries_are = refl; fresh = o.fresh }; slots = o.slots }

-- what was put into a free slot is released, at the end of such a piece
pub finds_released : (n : HeapNumbers) (s a b t : Seat PairsNote) (h : Hold) (es : List CellEntry) → OnlyLooks s [] a → FindsOnly a es b
    → ((i : ℕ) → b.fresh ≡ Some i → IsUntouched b.agent (heap_of n b) i)
    → IsLinkedNode (heap_of n b) (id_in b.slots h) → Releases b h t
    → (back : t.slots ≡ s.slots) → FindsOnly s es t
finds_released n s a b t h es p q untouched linked w back =
    let r : OnlyLooks b [] t = record { own = []; puts = w.puts; finding = tt; entries_are = refl; fresh = release_fresh n b t h untouched linked w } in
    let whole = Finds-trans s b t es [] (Finds-trans s a b [] es p q.finds) r in
    record {
      finds = record {
        own = whole.own;
        puts = whole.puts;
        finding = whole.finding;
        entries_are = whole.entries_are ∙ append-nil es;
        fresh = whole.fresh;
      };
      slots = back;
    }
