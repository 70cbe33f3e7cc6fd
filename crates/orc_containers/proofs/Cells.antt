-- Shapes for a cell.
use Rattle.std.specs.Prelude.{min}
use Rattle.std.proofs.Common.{List, [], arith, ap, subst, ◌*◌, ◌+◌, ◌<◌, ◌∙◌, ◌≡◌, ◌≤◌, ℕ}
use Rattle.std.proofs.Math.Nat.{min-eq_left}
use Rattle.orc_any_domain.specs.Domains.{heap_numbers}
use Rattle.orc_cell.specs.Turns.{IsCellDomain}
use Rattle.orc_heap.specs.Heap.{HeapNumbers}
use Rattle.orc_heap.specs.declared.events.Event.{Event}
use Rattle.orc_pairs_rule.specs.declared.pairs.PairsNote.{PairsNote}
use Rattle.orc_words.specs.Bounds.{Bounds}
use Rattle.orc_containers.specs.Unmade.{asked}

-- a domain of these sizes, with two links and 1 + 2 * agents roots, is one for a cell
pub is_cell_domain : (n : HeapNumbers) (s : Bounds) (agents : ℕ) (opening : List (Event PairsNote)) → n ≡ heap_numbers s → agents ≡ s.agents
    → s.links ≡ 2 → s.roots ≡ 1 + 2 * s.agents → s.roots ≤ 257 → opening ≡ [] → IsCellDomain n agents opening
is_cell_domain n s agents opening numbers same two roots few empty =
    let links_are : n.links ≡ s.links = ap (λ (x : HeapNumbers). x.links) numbers in
    let roots_are : n.roots ≡ s.roots = ap (λ (x : HeapNumbers). x.roots) numbers in
    record {
      two = links_are ∙ two;
      roots = omega (arith, roots_are, roots, same);
      few = omega (arith, roots_are, few);
      empty = empty;
    }

-- it has a root
pub some_root : (roots agents : ℕ) → roots ≡ 1 + 2 * agents → 0 < roots
some_root roots agents is = omega arith

-- a shape that has the roots which the agents need, up to 16 of them, has those of all its agents
pub roots_for_all : {s : Bounds} (rows agents most : ℕ) → most ≡ min agents 16 → s ≡ asked rows 2 (1 + 2 * most) agents → s.agents ≤ 16
    → s ≡ asked rows 2 (1 + 2 * agents) agents
roots_for_all rows agents most same is few =
    let low : agents ≤ 16 = subst (λ (n : ℕ). n ≤ 16) (ap (λ (b : Bounds). b.agents) is) few in
    is ∙ ap (λ (n : ℕ). asked rows 2 (1 + 2 * n) agents) (same ∙ min-eq_left low)
