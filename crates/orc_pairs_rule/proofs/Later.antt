-- What stays true over all events that the discipline allows.
use Rattle.std.proofs.Common.{List, None, Option, Some, [], ap, append-nil, append_assoc, arith, false, inl, inr, refl, sym, zero, suc, ℕ, ◌++◌, ◌<◌, ◌∙◌, ◌∷◌, ◌≡◌, ◌≢◌}
use Rattle.std.specs.List.{slice_get}
use Rattle.std.specs.Prelude.{replicate}
use Rattle.orc_heap.proofs.Runs.{run_heap-snoc}
use Rattle.orc_heap.proofs.SingleActs.{root_other, some_same}
use Rattle.orc_heap.proofs.Stays.{other_first, stays}
use Rattle.orc_heap.specs.Acts.{heap_after}
use Rattle.orc_heap.specs.Allowed.{AllAllowed, Later}
use Rattle.orc_heap.specs.Heap.{HeapNumbers, Node, null, shown}
use Rattle.orc_heap.specs.Journals.{run_heap}
use Rattle.orc_heap.specs.declared.events.Event.{Event}
use Rattle.orc_heap.specs.declared.events.Link.{Link}
use Rattle.orc_heap.specs.declared.events.Place.TheVariants.{Root}
use Rattle.orc_pairs_rule.specs.declared.pairs.PairsNote.{PairsNote}
use Rattle.orc_pairs_rule.specs.CellHistory.{Parts}
use Rattle.orc_pairs_rule.specs.PairsDiscipline.{HasLinks, HasPair, HasPart, IsStaging, PairsHolds, PairsMay}
use Rattle.orc_pairs_rule.specs.Laws.Kept.{pairs_keeps}
use Rattle.orc_pairs_rule.specs.Laws.Kinds.{each_kind}
use Rattle.orc_pairs_rule.specs.Laws.Nodes.{pair_next, part_next}
use Rattle.orc_pairs_rule.specs.Laws.Shown.{roots_kept}

none_linked : (n : HeapNumbers) (before after : List (Event PairsNote)) (id : ℕ) (link side : Link) → [] ≡ before ++ after
    → HasLinks (run_heap n before) id link side → HasLinks (run_heap {N = PairsNote} n []) id link side
none_linked n [] after id link side split l = l
none_linked n (e ∷ before) after id link side split l = let bad : ⊥ = cc in absurd bad

first_null : (roots : ℕ) → 0 < roots → slice_get (replicate roots null) 0 ≡ Some null
first_null zero some = absurd (omega (arith, some))
first_null (suc roots) some = refl

null_roots : (roots root : ℕ) (link : Link) → slice_get (replicate roots null) root ≡ Some link → link.mark ≡ false
null_roots zero root link e = cc
null_roots (suc roots) zero link e = let is : null ≡ link = some_same e in ap (λ (l : Link). l.mark) (sym is)
null_roots (suc roots) (suc root) link e = null_roots roots root link e

-- the empty list obeys the discipline
pub nothing_yet : (n : HeapNumbers) → 0 < n.roots → PairsHolds n []
nothing_yet n some = record {
  lawful = tt;
  legal = tt;
  unmarked = record {
    roots = λ root link at. null_roots n.roots root link at;
    links = λ id node there. let none : ◌≡◌ {A = Option Node} None (Some node) = there in cc;
    sides = λ id node there. let none : ◌≡◌ {A = Option Node} None (Some node) = there in cc;
  };
  shows = inl (first_null n.roots some, refl);
  kinds = λ id node there linked. let none : ◌≡◌ {A = Option Node} None (Some node) = there in cc;
  frozen = λ before after id link side split l. none_linked n before after id link side split l;
}

module _ (n : HeapNumbers) (seen more : List (Event PairsNote)) (all : AllAllowed (PairsMay n) seen more) where
  pub holds_later : PairsHolds n seen → PairsHolds n (seen ++ more)
  holds_later holds = stays (PairsMay n) (PairsHolds n) (λ es e h may. pairs_keeps n es e h may) seen more holds all

  pub part_later : (id value : ℕ) → HasPart (run_heap n seen) id value → HasPart (run_heap n (seen ++ more)) id value
  part_later id value p = stays (PairsMay n) (λ es. HasPart (run_heap n es) id value) (λ es e x may. part_next n es e may id value x) seen more p all

  pub pair_later : (id left right : ℕ) (parts : Parts) → HasPair (run_heap n seen) id left right parts
      → HasPair (run_heap n (seen ++ more)) id left right parts
  pair_later id left right parts p =
      stays (PairsMay n) (λ es. HasPair (run_heap n es) id left right parts) (λ es e x may. pair_next n es e may id left right parts x) seen more p all

-- a staging root of an agent is moved by its own Moves alone

staging_apart : (agent by r q : ℕ) → by ≢ agent → IsStaging agent q → IsStaging by r → q ≢ r
staging_apart agent by r q other (inl a) (inl b) = λ e. other (omega (arith, a, b, e))
staging_apart agent by r q other (inl a) (inr b) = λ e. omega (arith, a, b, e)
staging_apart agent by r q other (inr a) (inl b) = λ e. omega (arith, a, b, e)
staging_apart agent by r q other (inr a) (inr b) = λ e. other (omega (arith, a, b, e))

not_zero : (agent q : ℕ) → IsStaging agent q → q ≢ 0
not_zero agent q (inl a) = λ e. omega (arith, a, e)
not_zero agent q (inr a) = λ e. omega (arith, a, e)

-- another agent's event leaves it
pub staging_next : (n : HeapNumbers) (es : List (Event PairsNote)) (e : Event PairsNote) (agent q : ℕ) → IsStaging agent q → PairsMay n es e → e.agent ≢ agent
    → shown (run_heap n (es ++ e ∷ [])) (Root q) ≡ shown (run_heap n es) (Root q)
staging_next n es e agent q own may other =
    let h = run_heap n es in
    ap (λ g. shown g (Root q)) (run_heap-snoc n es e)
    ∙ each_kind h e.agent (λ act noted. shown (heap_after e.agent act h) (Root q) ≡ shown h (Root q))
    (λ act m. roots_kept e.agent act h q m)
    (λ r from to m. root_other e.agent r q from to h (staging_apart agent e.agent r q other own m.own))
    (λ r from to m. root_other e.agent r q from to h (staging_apart agent e.agent r q other own m.own))
    (λ r from to by left right x y m. root_other e.agent r q from to h (λ z. not_zero agent q own (z ∙ m.root_is)))
    (λ place link by x y. refl)
    e.act e.note may.may_act

-- and so do all other agents' events
pub staging_later : (n : HeapNumbers) (seen more : List (Event PairsNote)) (agent q : ℕ) → IsStaging agent q → Later (PairsMay n) agent seen more
    → shown (run_heap n (seen ++ more)) (Root q) ≡ shown (run_heap n seen) (Root q)
staging_later n seen [] agent q own later = ap (λ es. shown (run_heap n es) (Root q)) (append-nil seen)
staging_later n seen (e ∷ more) agent q own later =
    let (first, rest) = other_first agent e more later.others in
    ap (λ es. shown (run_heap n es) (Root q)) (sym (append_assoc seen (e ∷ []) more))
    ∙ (staging_later n (seen ++ e ∷ []) more agent q own (record { allowed = later.allowed.1; others = rest })
    ∙ staging_next n seen e agent q own later.allowed.0 first)
