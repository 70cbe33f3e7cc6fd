-- Passes that have all seen one list.
use Rattle.std.proofs.Common.{All, ap, append-nil, arith, length, length-append, slice_index_or, subst, sym, List, [], ℕ, ◌++◌, ◌<◌, ◌≤◌, ◌∙◌, ◌∷◌, ◌≡◌}
use Rattle.std.proofs.lemmas.List.{nil_from_length}
use mathlib.Core.List.{IsPrefix}
use Rattle.orc_any_domain.proofs.Lists.{pairwise_at, pairwise_long}
use Rattle.orc_any_domain.specs.Learning.{HearsAll}
use Rattle.orc_heap.specs.declared.discipline.Discipline as discipline
use Rattle.orc_heap.specs.declared.events.Event.{Event}
use Rattle.orc_shared_words.specs.declared.machine.Machine as machine
use Rattle.orc_plain_board.specs.Views.{shows_by}
use Rattle.orc_plain_board.specs.declared.machine.Plain.{Plain}
use Rattle.orc_plain_board.specs.declared.machine.PlainOp.{PlainOp}
use Rattle.orc_plain_board.specs.declared.machine.PlainStep.{PlainStep}
use Rattle.orc_plain_board.specs.declared.shape.PlainShape.{PlainShape}
use Rattle.orc_plain_domain.specs.Ends.{AllHear, IsNoLonger, first_seen}
use Rattle.orc_plain_domain.specs.Laws.Passes.{seen_by}
use Rattle.orc_plain_domain.specs.Passes.{IsPassOf, journal_of, seat_of}
use Rattle.orc_plain_domain.specs.declared.domain.PlainDomain.{PlainDomain}
use Rattle.orc_plain_domain.specs.declared.domain.PlainPass.{PlainPass}
use Rattle.orc_words.specs.Bounds.{Bounds}

module _ {D N : Type 0} {d : discipline.Ghosts D N} {m : machine.Ghosts Plain N (PlainShape N) PlainOp (PlainStep N) (Unit {0}) (Unit {0})}
    (domain : PlainDomain D N) (ps qs : List (PlainPass D N (PlainShape N) PlainOp (PlainStep N) (Unit {0}) (Unit {0}) d m))
  where
    abbrev Heard : (v w : PlainPass D N (PlainShape N) PlainOp (PlainStep N) (Unit {0}) (Unit {0}) d m) → Type 0
    Heard = HearsAll (λ p. seat_of domain p) (λ (e : Event N). e.agent) (λ p. (seat_of domain p).seen) (first_seen domain qs)

    -- what each had seen before is a beginning of the list
    pub each_heard : All (λ p. IsPassOf domain p) ps → AllHear domain ps qs → All (λ p. IsPrefix (journal_of p) (first_seen domain qs)) ps
    each_heard belong learned i p low =
        let q = slice_index_or ps i p in
        let heard = pairwise_at Heard ps qs learned i p p (subst (λ (n : ℕ). i < n) (sym (pairwise_long Heard ps qs learned)) low) in
        subst (λ (j : List (Event N)). IsPrefix j (first_seen domain qs)) (ap (λ (b : Bounds). (shows_by b q.pass).events) (sym (belong i p low).shape))
        (subst (λ (all : List (Event N)). IsPrefix (seat_of domain q).seen all) heard.seen heard.hears.more)

    module _ (belong : All (λ p. IsPassOf domain p) ps) (learned : AllHear domain ps qs) (some : 0 < length ps) (longest : IsNoLonger domain ps qs)
        (seen : List (Event N)) (same : All (λ p. journal_of p ≡ seen) ps)
      where
        -- what all had seen is a beginning of it
        first_heard : (rs : List (PlainPass D N (PlainShape N) PlainOp (PlainStep N) (Unit {0}) (Unit {0}) d m)) → 0 < length rs
            → All (λ p. journal_of p ≡ seen) rs → All (λ p. IsPrefix (journal_of p) (first_seen domain qs)) rs → IsPrefix seen (first_seen domain qs)
        first_heard [] few one heard = absurd (omega (arith, few))
        first_heard (p ∷ rs) few one heard = subst (λ (j : List (Event N)). IsPrefix j (first_seen domain qs)) (one 0 p (omega arith)) (heard 0 p (omega arith))

        -- and it is no longer
        few_seen : length (first_seen domain qs) ≤ length seen
        few_seen = longest (length seen) (λ i p low.
            let long = ap (λ (es : List (Event N)). length es) (seen_by domain (slice_index_or ps i p) (belong i p low) ∙ same i p low) in
            omega (arith, long))

        -- where all had seen one list, it is that one
        pub nothing_more : first_seen domain qs ≡ seen
        nothing_more =
            let more = first_heard ps some same (each_heard belong learned) in
            let long = ap (λ (es : List (Event N)). length es) more.1 in
            let joined = length-append seen more.0 in
            let few = few_seen in
            let none : more.0 ≡ [] = nil_from_length more.0 (omega (arith, long, joined, few)) in
            sym more.1 ∙ (ap (λ z. seen ++ z) none ∙ append-nil seen)
