-- What passes know that have learned from each other, or have seen nothing yet.
use Rattle.std.proofs.Common.{List, Some, [], ap, append-nil, arith, inl, inr, refl, subst, suc, sym, zero, ℕ, ◌*◌, ◌+◌, ◌<◌, ◌==◌, ◌∙◌, ◌≡◌, ◌⊎◌}
use Rattle.std.proofs.lemmas.List.{append_cancel_left}
use Rattle.std.proofs.lemmas.List.Elements.{filter-append}
use Rattle.std.specs.List.{slice_get}
use Rattle.std.specs.Prelude.{replicate}
use mathlib.Core.List.{IsPrefix}
use Rattle.orc_heap.proofs.Stays.{allowed-right}
use Rattle.orc_heap.specs.Allowed.{AllAllowed, events_by}
use Rattle.orc_heap.specs.Domains.{agent}
use Rattle.orc_heap.specs.Heap.{HeapNumbers, null, shown}
use Rattle.orc_heap.specs.Journals.{run_heap}
use Rattle.orc_heap.specs.Seats.{IsIdle}
use Rattle.orc_heap.specs.declared.events.Event.{Event}
use Rattle.orc_heap.specs.declared.events.Place.TheVariants.{Root}
use Rattle.orc_heap.specs.declared.links.Links.{Ghosts as LinksOf}
use Rattle.orc_pairs_rule.proofs.Later.{staging_later}
use Rattle.orc_pairs_rule.specs.declared.pairs.PairsNote.{PairsNote}
use Rattle.orc_pairs_rule.specs.PairsDiscipline.{IsStaging, PairsMay}
use Rattle.orc_cell.specs.CellCalls.{IsUsable}
use Rattle.orc_cell.specs.Turns.{IsCellDomain}

-- a staging root stays where the agent has no event in what was learned
pub staging_learned : (n : HeapNumbers) (agent : ℕ) (xs ys : List (Event PairsNote)) (root : ℕ) → IsPrefix xs ys → events_by agent ys ≡ events_by agent xs
    → AllAllowed (PairsMay n) [] ys → IsStaging agent root → shown (run_heap n ys) (Root root) ≡ shown (run_heap n xs) (Root root)
staging_learned n agent xs ys root (more, is) same all own =
    let none : events_by agent more ≡ [] = append_cancel_left (events_by agent xs) (events_by agent more) []
    (sym (filter-append (λ (e : Event PairsNote). e.agent == agent) xs more) ∙
    (ap (λ z. events_by agent z) is ∙ (same ∙ sym (append-nil (events_by agent xs))))) in
    ap (λ es. shown (run_heap n es) (Root root)) (sym is)
    ∙ staging_later n xs more agent root own (record {
      allowed = allowed-right (PairsMay n) [] xs more (subst (λ z. AllAllowed (PairsMay n) [] z) (sym is) all);
      others = none;
    })

-- either of two passes, of which the later list is the longer of what they had seen
pub staging_either : (n : HeapNumbers) (agent : ℕ) (xs ys : List (Event PairsNote)) (root : ℕ) → IsPrefix xs ys ⊎ (ys ≡ xs)
    → events_by agent ys ≡ events_by agent xs → AllAllowed (PairsMay n) [] ys → IsStaging agent root → shown (run_heap n xs) (Root root) ≡ Some null
    → shown (run_heap n ys) (Root root) ≡ Some null
staging_either n agent xs ys root (inl begins) same all own empty = staging_learned n agent xs ys root begins same all own ∙ empty
staging_either n agent xs ys root (inr one) same all own empty = ap (λ es. shown (run_heap n es) (Root root)) one ∙ empty

null_there : (roots root : ℕ) → root < roots → slice_get (replicate roots null) root ≡ Some null
null_there zero root low = absurd (omega (arith, low))
null_there (suc roots) zero low = refl
null_there (suc roots) (suc root) low = null_there roots root (omega (arith, low))

-- before all events an agent's staging roots are null
pub staging_begins : (n : HeapNumbers) (agents agent root : ℕ) (seen : List (Event PairsNote)) → n.roots ≡ 1 + 2 * agents → agent < agents → seen ≡ []
    → IsStaging agent root → shown (run_heap n seen) (Root root) ≡ Some null
staging_begins n agents agent root seen roots below none own =
    ap (λ es. shown (run_heap n es) (Root root)) none ∙ null_there n.roots root (low own)
  where
    low : IsStaging agent root → root < n.roots
    low (inl is) = omega (arith, is, roots, below)
    low (inr is) = omega (arith, is, roots, below)

-- a new pass of a new domain may make a call
pub new_usable : {L D P S : Type 0} (members : LinksOf L D P S PairsNote) (links : L) (p : P)
    → IsCellDomain (members.numbers links) (members.agents links) (members.opening links) → members.belongs links p → IsIdle (members.seat links p)
    → agent members links p < members.agents links → (members.seat links p).seen ≡ members.opening links → IsUsable members links p
new_usable members links p made pass idle below new = record {
  pass = pass;
  idle = idle;
  staging = λ root own. staging_begins (members.numbers links) (members.agents links) (agent members links p) root (members.seat links p).seen made.roots below
      (new ∙ made.empty) own;
}
