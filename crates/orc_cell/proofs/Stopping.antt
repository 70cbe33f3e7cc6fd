-- A staged part that is let go unpublished.
use Rattle.std.proofs.Common.{List, Some, [], append-nil, arith, inl, inr, refl, subst, sym, ℕ, ◌*◌, ◌+◌, ◌∙◌, ◌≡◌, ◌≢◌}
use Rattle.orc_heap.proofs.Calls.{Puts-trans}
use Rattle.orc_heap.specs.Allowed.{AllAllowed}
use Rattle.orc_heap.specs.Heap.{HeapNumbers, null, shown}
use Rattle.orc_heap.specs.OwnEvents.{Only, Puts}
use Rattle.orc_heap.specs.Seats.{Seat, heap_of}
use Rattle.orc_heap.specs.Slots.{Hold}
use Rattle.orc_heap.specs.declared.events.Event.{Event}
use Rattle.orc_heap.specs.declared.events.Place.TheVariants.{Root}
use Rattle.orc_pairs_rule.specs.declared.entry.CellEntry.{CellEntry}
use Rattle.orc_pairs_rule.specs.declared.pairs.PairsNote.{PairsNote}
use Rattle.orc_pairs_rule.specs.PairsDiscipline.{IsStaging, PairsMay}
use Rattle.orc_cell.specs.Publishes.{Piece, Unstages}
use Rattle.orc_cell.proofs.Staging.{root_kept}

-- a piece of a call, and a settling
pub piece_settled : {given : ℕ} {s a t : Seat PairsNote} {es : List CellEntry} → Piece given s es a → Only [] a t → Piece given s es t
piece_settled {s = s} {a = a} {t = t} x o = record {
  own = x.own;
  puts = subst (λ (own : List (Event PairsNote)). Puts s own t) (append-nil x.own) (Puts-trans s a t x.own [] x.puts o.puts);
  entries_are = x.entries_are;
  gives = x.gives;
}

-- both staging roots are null then
pub unstaged_null : (n : HeapNumbers) (first : ℕ) (h : Hold) (s a t : Seat PairsNote) → first ≡ 1 + 2 * s.agent → Unstages n first h s a → Only [] a t
    → AllAllowed (PairsMay n) [] t.seen → shown (heap_of n s) (Root (2 + 2 * s.agent)) ≡ Some null
    → (root : ℕ) → IsStaging t.agent root → shown (heap_of n t) (Root root) ≡ Some null
unstaged_null n first h s a t is u o all empty root own =
    let own_a = subst (λ (i : ℕ). IsStaging i root) o.puts.agent own in
    let own_s = subst (λ (i : ℕ). IsStaging i root) u.piece.puts.agent own_a in
    root_kept n a t [] root o.puts all own_a refl ∙ cases own_s
  where
    cases : IsStaging s.agent root → shown (heap_of n a) (Root root) ≡ Some null
    cases (inl e) = subst (λ (r : ℕ). shown (heap_of n a) (Root r) ≡ Some null) (is ∙ sym e) u.root_is
    cases (inr e) =
        let other : root ≢ first = λ same. omega (arith, same, e, is) in
        u.others root (inr e) other ∙ subst (λ (r : ℕ). shown (heap_of n s) (Root r) ≡ Some null) (sym e) empty
