-- Pieces of a publish, joined; and what they leave of the agent's fresh node and staging roots.
use Rattle.std.proofs.Common.{Bool, List, Ok, Err, Result, Some, [], ap, append-nil, arith, false, length, refl, subst, sym, true, ℕ, ◌++◌, ◌+◌, ◌==◌, ◌∙◌, ◌∷◌, ◌≡◌, ◌≤◌}
use Rattle.std.proofs.lemmas.List.{length-append}
use Rattle.std.specs.List.{AllByRecursion, list_any, slice_get}
use Rattle.std.specs.Prelude.{IfErr, IfOk, ◌||◌}
use mathlib.Core.List.{IsPrefix}
use Rattle.orc_heap.proofs.Calls.{Puts-trans, part_allowed}
use Rattle.orc_heap.proofs.Fresh.{IsOwn, IsOwnNode, touched, touched_by}
use Rattle.orc_heap.proofs.Moved.{gives_in-append}
use Rattle.orc_cell.proofs.Elsewhere.{shown_elsewhere}
use Rattle.orc_heap.proofs.OwnEntries.{noted-append}
use Rattle.orc_heap.proofs.Pieces.{own_node_puts}
use Rattle.orc_heap.proofs.Runs.{run_heap-snoc}
use Rattle.orc_heap.proofs.SingleActs.{some_same}
use Rattle.std.proofs.lemmas.Bool.{eqb-false, eqb-true}
use Rattle.orc_heap.proofs.Stays.{stays_but}
use Rattle.orc_heap.proofs.Steps.{part_within}
use Rattle.orc_heap.specs.Allowed.{AllAllowed}
use Rattle.orc_heap.specs.Heap.{HeapNumbers, Node, shown}
use Rattle.orc_heap.specs.Journals.{points_to, run_heap}
use Rattle.orc_heap.specs.Moves.{give_with, gives_in, moves_place}
use Rattle.orc_heap.specs.OwnEvents.{Puts}
use Rattle.orc_heap.specs.Seats.{IsUntouched, Seat, heap_of}
use Rattle.orc_heap.specs.declared.events.Act.{Act}
use Rattle.orc_heap.specs.declared.events.Act.TheVariants.{Look, Miss}
use Rattle.orc_heap.specs.declared.events.Event.{Event}
use Rattle.orc_heap.specs.declared.events.Link.{Link}
use Rattle.orc_heap.specs.declared.events.Place.{Place}
use Rattle.orc_heap.specs.declared.events.Place.TheVariants.{Root}
use Rattle.orc_heap.specs.declared.links.Links.{Ghosts as LinksOf}
use Rattle.orc_history.specs.Journals.{Within}
use Rattle.orc_history.specs.Parts.{InPart}
use Rattle.orc_pairs_rule.proofs.Later.{staging_next}
use Rattle.orc_pairs_rule.specs.declared.entry.CellEntry.{CellEntry}
use Rattle.orc_pairs_rule.specs.declared.pairs.PairsNote.{PairsNote}
use Rattle.orc_pairs_rule.specs.PairsDiscipline.{IsStaging, PairsHolds, PairsMay, entries_in, entries_of}
use Rattle.orc_pairs_rule.specs.Laws.Kept.{pairs_keeps, pairs_moves_linked}
use Rattle.orc_cell.specs.Publishes.{Answered, KeepsStaging, Piece}
use Rattle.orc_cell.specs.Turns.{OnlyLooks, FindsOnly, IsFinding}
use Rattle.orc_cell.proofs.Pieces.{Known, only_none}

-- a cause that stands in a call's part stands within what is new
pub err_within : {L D P S N A E : Type 0} (m : LinksOf L D P S N) (links : L) (p q : P) (r : Result A E) (Fact : E → ℕ → ℕ → Type 0)
    → IsPrefix (m.journal p) (m.journal q) → IfErr r (λ e. InPart m.agent_of (m.seat links p).agent (m.journal p) (m.journal q) (Fact e))
    → IfErr r (λ e. Within (length (m.journal p)) (length (m.journal q)) (Fact e))
err_within m links p q (Ok x) Fact grows c = tt
err_within m links p q (Err e) Fact grows c =
    part_within m.agent_of (m.seat links p).agent (m.journal p) (m.journal q) (m.journal q) (Fact e) grows ([], append-nil (m.journal q)) c

-- pieces

pub Piece-trans : (g k : ℕ) (s a t : Seat PairsNote) (xs ys : List CellEntry) → Piece g s xs a → Piece k a ys t → Piece (g + k) s (xs ++ ys) t
Piece-trans g k s a t xs ys p q = record {
  own = p.own ++ q.own;
  puts = Puts-trans s a t p.own q.own p.puts q.puts;
  entries_are = noted-append entries_in p.own q.own ∙ (ap (λ z. z ++ entries_of q.own) p.entries_are ∙ ap (λ z. xs ++ z) q.entries_are);
  gives = omega (arith, gives_in-append p.own q.own, p.gives, q.gives);
}

pub staging-trans : (n : HeapNumbers) (s a t : Seat PairsNote) → a.agent ≡ s.agent → KeepsStaging n s a → KeepsStaging n a t → KeepsStaging n s t
staging-trans n s a t agent p q = λ root own. q root (subst (λ (x : ℕ). IsStaging x root) (sym agent) own) ∙ p root own

pub Answered-trans : (n : HeapNumbers) (g k : ℕ) (s a t : Seat PairsNote) (xs ys : List CellEntry) → Answered n g s xs a → Answered n k a ys t
    → Answered n (g + k) s (xs ++ ys) t
Answered-trans n g k s a t xs ys p q = record {
  piece = Piece-trans g k s a t xs ys p.piece q.piece;
  slots = q.slots ∙ p.slots;
  staging = staging-trans n s a t p.piece.puts.agent p.staging q.staging;
}

-- a staging root that the own events don't move
pub root_kept : (n : HeapNumbers) (s t : Seat PairsNote) (own : List (Event PairsNote)) (root : ℕ) (p : Puts s own t) → AllAllowed (PairsMay n) [] t.seen
    → IsStaging s.agent root → list_any (λ e. moves_place (Root root) e.act) own ≡ false → shown (heap_of n t) (Root root) ≡ shown (heap_of n s) (Root root)
root_kept n s t own root p all staging none =
    let P : List (Event PairsNote) → Type 0 = λ es. shown (run_heap n es) (Root root) ≡ shown (heap_of n s) (Root root) in
    let r : P (s.seen ++ p.part) = stays_but (PairsMay n) s.agent (moves_place (Root root)) P
    (λ es e x may away. step es e x may away (e.agent == s.agent) refl)
    s.seen p.part refl (part_allowed (PairsMay n) s t own p all) (ap (list_any (λ e. moves_place (Root root) e.act)) p.own_is ∙ none) in
    ap (λ es. shown (run_heap n es) (Root root)) p.is ∙ r
  where
    step : (es : List (Event PairsNote)) (e : Event PairsNote) → shown (run_heap n es) (Root root) ≡ shown (heap_of n s) (Root root) → PairsMay n es e
        → (e.agent ≡ s.agent → moves_place (Root root) e.act ≡ false) → (b : Bool) → (e.agent == s.agent) ≡ b
        → shown (run_heap n (es ++ e ∷ [])) (Root root) ≡ shown (heap_of n s) (Root root)
    step es e x may away true is =
        ap (λ g. shown g (Root root)) (run_heap-snoc n es e)
        ∙ (shown_elsewhere e.agent e.act (run_heap n es) (Root root) may.fits tt (away (eqb-true e.agent s.agent is)) ∙ x)
    step es e x may away false is = staging_next n es e s.agent root staging may (eqb-false e.agent s.agent is) ∙ x

-- pieces that only look

none_or : (a b : Bool) → a ≡ false → b ≡ false → (a || b) ≡ false
none_or a b e f = rw (e, f) refl

-- an act that finds a link is a Look or a Miss
by_finding : (P : Act → Type 0) → ((place : Place) (link : Link) → P (Look place link))
    → ((place : Place) (wanted found : Link) → P (Miss place wanted found)) → (act : Act) → IsFinding act → P act
by_finding P look miss (Look place link) x = look place link
by_finding P look miss (Miss place wanted found) x = miss place wanted found
by_finding P look miss act x = absurd x

finding_gives : (es : List (Event PairsNote)) → AllByRecursion (λ (e : Event PairsNote). IsFinding e.act) es → gives_in es ≡ 0
finding_gives [] f = refl
finding_gives (e ∷ es) f =
    let k = finding_gives es f.1 in
    by_finding (λ act. give_with act + gives_in es ≡ 0) (λ place link. omega (arith, k)) (λ place wanted found. omega (arith, k)) e.act f.0

finding_moves : (root : ℕ) (es : List (Event PairsNote)) → AllByRecursion (λ (e : Event PairsNote). IsFinding e.act) es
    → list_any (λ e. moves_place (Root root) e.act) es ≡ false
finding_moves root [] f = refl
finding_moves root (e ∷ es) f =
    none_or _ _ (by_finding (λ act. moves_place (Root root) act ≡ false) (λ place link. refl) (λ place wanted found. refl) e.act f.0)
    (finding_moves root es f.1)

finding_points : (id : ℕ) (es : List (Event PairsNote)) → AllByRecursion (λ (e : Event PairsNote). IsFinding e.act) es
    → list_any (λ e. points_to e.act id) es ≡ false
finding_points id [] f = refl
finding_points id (e ∷ es) f =
    none_or _ _ (by_finding (λ act. points_to act id ≡ false) (λ place link. refl) (λ place wanted found. refl) e.act f.0) (finding_points id es f.1)

finding_touches : (id : ℕ) (es : List (Event PairsNote)) (x : Node) → AllByRecursion (λ (e : Event PairsNote). IsFinding e.act) es → touched_by id es x ≡ x
finding_touches id [] x f = refl
finding_touches id (e ∷ es) x f =
    ap (touched_by id es) (by_finding (λ act. touched act id x ≡ x) (λ place link. refl) (λ place wanted found. refl) e.act f.0)
    ∙ finding_touches id es x f.1

pub finds_piece : (s t : Seat PairsNote) (es : List CellEntry) → OnlyLooks s es t → Piece 0 s es t
finds_piece s t es f = record { own = f.own; puts = f.puts; entries_are = f.entries_are; gives = omega (arith, finding_gives f.own f.finding) }

pub finds_staging : (n : HeapNumbers) (s t : Seat PairsNote) (es : List CellEntry) → OnlyLooks s es t → AllAllowed (PairsMay n) [] t.seen → KeepsStaging n s t
finds_staging n s t es f all = λ root own. root_kept n s t f.own root f.puts all own (finding_moves root f.own f.finding)

-- nothing was done
pub answered_none : (n : HeapNumbers) (most : ℕ) (s : Seat PairsNote) → Answered n most s [] s
answered_none n most s = record {
  piece = record { own = []; puts = (only_none s).puts; entries_are = refl; gives = omega arith };
  slots = refl;
  staging = λ root own. refl;
}

-- at most more nodes
pub answered_more : (n : HeapNumbers) (g most : ℕ) (s t : Seat PairsNote) (es : List CellEntry) → g ≤ most → Answered n g s es t → Answered n most s es t
answered_more n g most s t es some x = record {
  piece = record { own = x.piece.own; puts = x.piece.puts; entries_are = x.piece.entries_are; gives = omega (arith, x.piece.gives, some) };
  slots = x.slots;
  staging = x.staging;
}

-- the last piece entered nothing
pub answered_end : (n : HeapNumbers) (g : ℕ) (s a t : Seat PairsNote) (es : List CellEntry) → Answered n g s es a → Answered n 0 a [] t → Answered n g s es t
answered_end n g s a t es p q =
    let w = Answered-trans n g 0 s a t es [] p q in
    record {
      piece = record { own = w.piece.own; puts = w.piece.puts; entries_are = w.piece.entries_are ∙ append-nil es; gives = omega (arith, w.piece.gives) };
      slots = w.slots;
      staging = w.staging;
    }

pub found_answered : (n : HeapNumbers) (s t : Seat PairsNote) (es : List CellEntry) → FindsOnly s es t → AllAllowed (PairsMay n) [] t.seen → Answered n 0 s es t
found_answered n s t es f all = record { piece = finds_piece s t es f.finds; slots = f.slots; staging = finds_staging n s t es f.finds all }

-- the fresh node

pub own_of : (n : HeapNumbers) (s : Seat PairsNote) (id : ℕ) (x : Node) → IsUntouched s.agent (heap_of n s) id → slice_get (heap_of n s).nodes id ≡ Some x
    → IsOwnNode n s.agent id s.seen x
own_of n s id x u there =
    let same : u.node ≡ x = some_same (sym u.there ∙ there) in
    record {
      there = there;
      own = subst (IsOwn s.agent) same (record { mine = u.mine; unnamed = u.unnamed; unlinked = u.unlinked });
    }

-- it is changed by its own agent's events alone
pub own_touched : (n : HeapNumbers) (s t : Seat PairsNote) (own : List (Event PairsNote)) (id : ℕ) (x : Node) (p : Puts s own t) → Known n s.seen
    → AllAllowed (PairsMay n) [] t.seen → IsUntouched s.agent (heap_of n s) id → slice_get (heap_of n s).nodes id ≡ Some x
    → list_any (λ e. points_to e.act id) own ≡ false → slice_get (heap_of n t).nodes id ≡ Some (touched_by id own x)
own_touched n s t own id x p k all u there away =
    (own_node_puts n (PairsHolds n) (PairsMay n) (pairs_keeps n) (λ es e holds may. may.fits) (pairs_moves_linked n) s t own p k.holds all id x
    (own_of n s id x u there) away).there

-- and not at all over a piece that only looks
pub own_found : (n : HeapNumbers) (s t : Seat PairsNote) (own : List (Event PairsNote)) (id : ℕ) (x : Node) (p : Puts s own t) → Known n s.seen
    → AllAllowed (PairsMay n) [] t.seen → AllByRecursion (λ (e : Event PairsNote). IsFinding e.act) own → IsUntouched s.agent (heap_of n s) id
    → slice_get (heap_of n s).nodes id ≡ Some x → slice_get (heap_of n t).nodes id ≡ Some x
own_found n s t own id x p k all f u there =
    own_touched n s t own id x p k all u there (finding_points id own f) ∙ ap (λ (y : Node). Some y) (finding_touches id own x f)

-- what is said of an answer, by which it is
pub ok_of : {A E : Type 0} {r : Result A E} {x : A} (P : A → Type 0) → r ≡ Ok x → IfOk r P → P x
ok_of P is p = subst (λ z. IfOk z P) is p

pub err_of : {A E : Type 0} {r : Result A E} {e : E} (P : E → Type 0) → r ≡ Err e → IfErr r P → P e
err_of P is p = subst (λ z. IfErr z P) is p

-- a fact of a piece of a call is one of the call
pub within_call : {L D P S N : Type 0} (m : LinksOf L D P S N) (links : L) (p q r u : P) (Fact : ℕ → List S → ℕ → ℕ → Type 0)
    → ((who : ℕ) (seen more : List S) (from to : ℕ) → Fact who seen from to → Fact who (seen ++ more) from to)
    → (m.seat links q).agent ≡ (m.seat links p).agent → IsPrefix (m.journal p) (m.journal q) → IsPrefix (m.journal r) (m.journal u)
    → Within (length (m.journal q)) (length (m.journal r)) (Fact (m.seat links q).agent (m.journal r))
    → Within (length (m.journal p)) (length (m.journal u)) (Fact (m.seat links p).agent (m.journal u))
within_call {S = S} m links p q r u Fact stays same (us, one) (vs, two) (from, to, begin, order, end, fact) = (
  from,
  to,
  omega (arith, begin, length-append (m.journal p) us, ap (λ (z : List S). length z) one),
  order,
  omega (arith, end, length-append (m.journal r) vs, ap (λ (z : List S). length z) two),
  subst (λ (z : List S). Fact (m.seat links p).agent z from to) two
      (stays (m.seat links p).agent (m.journal r) vs from to (subst (λ (a : ℕ). Fact a (m.journal r) from to) same fact)),
)
