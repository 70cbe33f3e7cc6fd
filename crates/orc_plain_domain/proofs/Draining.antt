-- All passes of a domain, after they learned from each other.
use Rattle.std.proofs.Common.{All, ◌≡◌, ◌≢◌, ℕ, suc, ◌<◌, ◌≤◌, List, ◌∷◌, length, slice_index_or, sym, ap, ◌∙◌, subst, arith}
use Rattle.std.proofs.lemmas.List.Elements.{All-from_recursion, recursion_from_All}
use Rattle.std.specs.List.{AllByRecursion}
use Rattle.orc_any_domain.proofs.Lists.{pairwise_at, pairwise_long}
use Rattle.orc_any_domain.proofs.Rounds.{idle_same, one_of_all}
use Rattle.orc_any_domain.specs.Learning.{HearsAll, LearnsAll}
use Rattle.orc_history.specs.Lists.{Pairwise}
use Rattle.orc_heap.specs.Allowed.{events_by}
use Rattle.orc_heap.specs.Seats.{IsIdle, Seat}
use Rattle.orc_heap.specs.declared.discipline.Discipline as discipline
use Rattle.orc_heap.specs.declared.events.Event.{Event}
use Rattle.orc_shared_words.specs.declared.machine.Machine as machine
use Rattle.orc_plain_board.specs.declared.machine.Plain.{Plain}
use Rattle.orc_plain_board.specs.declared.machine.PlainOp.{PlainOp}
use Rattle.orc_plain_board.specs.declared.machine.PlainStep.{PlainStep}
use Rattle.orc_plain_board.specs.declared.shape.PlainShape.{PlainShape}
use Rattle.orc_plain_domain.specs.Passes.{IsPassOf, seat_of}
use Rattle.orc_plain_domain.specs.declared.domain.PlainDomain.{PlainDomain}
use Rattle.orc_plain_domain.specs.declared.domain.PlainPass.{PlainPass}
use Rattle.orc_plain_domain.specs.Ends.{AreAll, HasOwn}

module _ {D N : Type 0} {d : discipline.Ghosts D N} {m : machine.Ghosts Plain N (PlainShape N) PlainOp (PlainStep N) (Unit {0}) (Unit {0})}
    (domain : PlainDomain D N) (ps : List (PlainPass D N (PlainShape N) PlainOp (PlainStep N) (Unit {0}) (Unit {0}) d m))
    (w : PlainPass D N (PlainShape N) PlainOp (PlainStep N) (Unit {0}) (Unit {0}) d m)
    (ws : List (PlainPass D N (PlainShape N) PlainOp (PlainStep N) (Unit {0}) (Unit {0}) d m)) (is : ps ≡ w ∷ ws) (all : AreAll domain ps)
  where
    abbrev seat : PlainPass D N (PlainShape N) PlainOp (PlainStep N) (Unit {0}) (Unit {0}) d m → Seat N
    seat p = seat_of domain p

    same_all : AreAll domain (w ∷ ws)
    same_all = subst (AreAll domain) is all

    pub first_of : IsPassOf domain w
    first_of = same_all.belong 0 w (omega arith)

    pub others_of : AllByRecursion (λ p. IsPassOf domain p) ws
    others_of = (recursion_from_All (λ p. IsPassOf domain p) (w ∷ ws) same_all.belong).1

    first_number : (seat w).agent ≡ 0
    first_number = same_all.order 0 w (omega arith)

    pub agents_differ : AllByRecursion (λ p. (seat w).agent ≢ (seat p).agent) ws
    agents_differ = recursion_from_All (λ p. (seat w).agent ≢ (seat p).agent) ws (λ i p l e. let f = first_number in
        let o = same_all.order (suc i) p (omega (arith, l)) in omega (arith, e, f, o))

    module _ (v : PlainPass D N (PlainShape N) PlainOp (PlainStep N) (Unit {0}) (Unit {0}) d m) (vs : List (PlainPass D N (PlainShape N) PlainOp (PlainStep N) (Unit {0}) (Unit {0}) d m))
        (l : LearnsAll seat (λ (e : Event N). e.agent) (λ p. (seat p).seen) w v ws vs)
      where
        abbrev seen : List (Event N)
        seen = (seat v).seen

        abbrev Heard : (x y : PlainPass D N (PlainShape N) PlainOp (PlainStep N) (Unit {0}) (Unit {0}) d m) → Type 0
        Heard = HearsAll seat (λ (e : Event N). e.agent) (λ p. (seat p).seen) seen

        pub learned : Pairwise Heard ps (v ∷ vs)
        learned = subst (λ z. Pairwise Heard z (v ∷ vs)) (sym is) l.each

        at : (i : ℕ) (p : PlainPass D N (PlainShape N) PlainOp (PlainStep N) (Unit {0}) (Unit {0}) d m) → i < length (v ∷ vs)
            → Heard (slice_index_or (w ∷ ws) i p) (slice_index_or (v ∷ vs) i p)
        at i p low = pairwise_at Heard (w ∷ ws) (v ∷ vs) l.each i p p low

        long : length (v ∷ vs) ≡ length (w ∷ ws)
        long = pairwise_long Heard (w ∷ ws) (v ∷ vs) l.each

        pub all_again : IsPassOf domain v → AllByRecursion (λ p. IsPassOf domain p) vs → AreAll domain (v ∷ vs)
        all_again one others = record {
          many = long ∙ same_all.many;
          belong = All-from_recursion (λ p. IsPassOf domain p) (v ∷ vs) (one, others);
          order = λ i p low. (at i p low).hears.same.agent ∙ same_all.order i p (subst (λ n. i < n) long low);
        }

        pub idle_again : All (λ p. IsIdle (seat p)) ps → All (λ p. IsIdle (seat p)) (v ∷ vs)
        idle_again idle i p low =
            let before = subst (λ z. All (λ p. IsIdle (seat p)) z) is idle i p (subst (λ n. i < n) long low) in
            idle_same seat (slice_index_or (w ∷ ws) i p) (slice_index_or (v ∷ vs) i p) (at i p low).hears.same before

        pub own_seen : All (λ p. HasOwn seen (seat p)) (v ∷ vs)
        own_seen i p low = ap (events_by (seat (slice_index_or (v ∷ vs) i p)).agent) (sym (at i p low).seen)

        pub no_longer : (most : ℕ) → All (λ p. length (seat p).seen ≤ most) ps → length seen ≤ most
        no_longer most low = one_of_all seat (λ (e : Event N). e.agent) (λ p. (seat p).seen) (λ z. length z ≤ most) (w ∷ ws) seen l.longest
            (recursion_from_All (λ p. length (seat p).seen ≤ most) (w ∷ ws) (subst (λ z. All (λ p. length (seat p).seen ≤ most) z) is low))
