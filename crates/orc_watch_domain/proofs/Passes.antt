-- The passes that a watch hands back are all passes of the cell's domain.
use Rattle.std.proofs.Common.{List, [], arith, length, slice_index_or, suc, zero, ℕ, ◌+◌, ◌<◌, ◌∷◌, ◌≡◌}
use Rattle.std.proofs.lemmas.List.Elements.{All-from_recursion}
use Rattle.std.specs.List.{AllByRecursion}
use Rattle.orc_at_rest.proofs.Passes.{ArePasses}
use Rattle.orc_cell.specs.CellCalls.{IsUsable}
use Rattle.orc_heap.specs.declared.links.Links.{Ghosts as LinksOf}
use Rattle.orc_pairs_rule.specs.declared.pairs.PairsNote.{PairsNote}
use Rattle.orc_watch_run.specs.Passes.{AreUsable}

module _ {L D P S : Type 0} (members : LinksOf L D P S PairsNote) (links : L) where
  all_usable : (by : ℕ) (ps : List P) → AreUsable members links by ps → AllByRecursion (λ p. IsUsable members links p) ps
  all_usable by [] h = tt
  all_usable by (p ∷ ps) h = (h.0.usable, all_usable (suc by) ps h.1)

  all_numbered : (by : ℕ) (ps : List P) → AreUsable members links by ps → (i : ℕ) (p : P) → i < length ps
      → (members.seat links (slice_index_or ps i p)).agent ≡ by + i
  all_numbered by [] h i p low = absurd (omega (arith, low))
  all_numbered by (q ∷ ps) h zero p low = let is = h.0.agent_is in omega (arith, is)
  all_numbered by (q ∷ ps) h (suc i) p low = let is = all_numbered (suc by) ps h.1 i p (omega (arith, low)) in omega (arith, is)

  pub are_passes : (many : ℕ) (ps : List P) → AreUsable members links 0 ps → length ps ≡ many
      → ArePasses (λ p. IsUsable members links p) (λ p. (members.seat links p).agent) many ps
  are_passes many ps h is = record {
    usable = All-from_recursion (λ p. IsUsable members links p) ps (all_usable 0 ps h);
    numbered = λ i p low. let number = all_numbered 0 ps h i p low in omega (arith, number);
    many = is;
  }
