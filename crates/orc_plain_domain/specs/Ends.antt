-- What all passes of a domain have seen together.
use Rattle.std.specs.Prelude.{All, List, [], length, ℕ, ◌∷◌, ◌≡◌, ◌≤◌}
use Rattle.orc_any_domain.specs.Learning.{HearsAll}
use Rattle.orc_history.specs.Lists.{Pairwise}
use Rattle.orc_heap.specs.Allowed.{events_by}
use Rattle.orc_heap.specs.Seats.{IsIdle, Seat}
use Rattle.orc_heap.specs.declared.discipline.Discipline as discipline
use Rattle.orc_heap.specs.declared.events.Event.{Event}
use Rattle.orc_shared_words.specs.Lists.{EachAt}
use Rattle.orc_shared_words.specs.declared.machine.Machine as machine
use Rattle.orc_plain_board.specs.declared.machine.Plain.{Plain}
use Rattle.orc_plain_board.specs.declared.machine.PlainOp.{PlainOp}
use Rattle.orc_plain_board.specs.declared.machine.PlainStep.{PlainStep}
use Rattle.orc_plain_board.specs.declared.shape.PlainShape.{PlainShape}
use Rattle.orc_plain_domain.specs.Passes.{IsPassOf, domain_bounds, seat_of}
use Rattle.orc_plain_domain.specs.declared.domain.PlainDomain.{PlainDomain}
use Rattle.orc_plain_domain.specs.declared.domain.PlainPass.{PlainPass}

module _ {N : Type 0} where
  -- in these events, those of the pass's agent are exactly those that it has seen itself
  abbrev pub HasOwn : List (Event N) → Seat N → Type 0
  HasOwn all s = events_by s.agent all ≡ events_by s.agent s.seen

module _ {D N : Type 0} {d : discipline.Ghosts D N} {m : machine.Ghosts Plain N (PlainShape N) PlainOp (PlainStep N) (Unit {0}) (Unit {0})}
    (domain : PlainDomain D N)
  where
    -- these are all passes of the domain, in order of agent
    pub record AreAll (passes : List (PlainPass D N (PlainShape N) PlainOp (PlainStep N) (Unit {0}) (Unit {0}) d m)) : Type 0 where
      pub many : length passes ≡ (domain_bounds domain).agents
      pub belong : All (λ p. IsPassOf domain p) passes
      pub order : EachAt (λ i p. (seat_of domain p).agent ≡ i) passes

    -- the events that the first pass has seen
    abbrev pub first_seen : List (PlainPass D N (PlainShape N) PlainOp (PlainStep N) (Unit {0}) (Unit {0}) d m) → List (Event N)
    first_seen [] = []
    first_seen (p ∷ ps) = (seat_of domain p).seen

    -- all passes are idle
    abbrev pub AreIdle : List (PlainPass D N (PlainShape N) PlainOp (PlainStep N) (Unit {0}) (Unit {0}) d m) → Type 0
    AreIdle passes = All (λ p. IsIdle (seat_of domain p)) passes

    -- the first pass has seen all events that the agents of the passes made
    abbrev pub FirstSawAll : List (PlainPass D N (PlainShape N) PlainOp (PlainStep N) (Unit {0}) (Unit {0}) d m) → Type 0
    FirstSawAll passes = All (λ p. HasOwn (first_seen passes) (seat_of domain p)) passes

    -- passes, which were `before` and are `after`, have all seen what the first one has seen now, and no new event of their own agents
    abbrev pub AllHear : (before after : List (PlainPass D N (PlainShape N) PlainOp (PlainStep N) (Unit {0}) (Unit {0}) d m)) → Type 0
    AllHear before after =
        Pairwise (HearsAll (λ p. seat_of domain p) (λ (e : Event N). e.agent) (λ p. (seat_of domain p).seen) (first_seen after)) before after

    -- what the first pass has seen now is no longer than the longest list that one of the passes had seen
    abbrev pub IsNoLonger : (before after : List (PlainPass D N (PlainShape N) PlainOp (PlainStep N) (Unit {0}) (Unit {0}) d m)) → Type 0
    IsNoLonger before after = (most : ℕ) → All (λ p. length (seat_of domain p).seen ≤ most) before → length (first_seen after) ≤ most
