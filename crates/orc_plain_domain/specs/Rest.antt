-- Domains at rest: one pass has taken in all others.
use Rattle.std.specs.Prelude.{All, List, ℕ, ◌<◌, ◌≡◌, ◌⊎◌}
use Rattle.std.specs.List.{AllByRecursion}
use Rattle.orc_heap.specs.Allowed.{events_by}
use Rattle.orc_heap.specs.declared.discipline.Discipline as discipline
use Rattle.orc_heap.specs.declared.events.Event.{Event}
use mathlib.Core.List.{IsPrefix}
use Rattle.orc_shared_words.specs.Lists.{Among}
use Rattle.orc_shared_words.specs.declared.machine.Machine as machine
use Rattle.orc_plain_board.specs.Views.{PlainView, shows}
use Rattle.orc_plain_board.specs.declared.machine.Plain.{Plain}
use Rattle.orc_plain_board.specs.declared.machine.PlainOp.{PlainOp}
use Rattle.orc_plain_board.specs.declared.machine.PlainStep.{PlainStep}
use Rattle.orc_plain_board.specs.declared.shape.PlainShape.{PlainShape}
use Rattle.orc_plain_domain.specs.Passes.{IsPassOf, domain_bounds, journal_of, seat_of}
use Rattle.orc_plain_domain.specs.declared.domain.PlainDomain.{PlainDomain}
use Rattle.orc_plain_domain.specs.declared.domain.PlainPass.{PlainPass}
use Rattle.orc_plain_domain.specs.declared.domain.PlainRest.{PlainRest}

module _ {N : Type 0} where
  -- each of the first agents is the pass's own, or one whose pass it took in
  abbrev pub CoversAll : ℕ → PlainView N → Type 0
  CoversAll agents s = (agent : ℕ) → agent < agents → (s.agent ≡ agent) ⊎ Among agent s.absorbed

  -- a pass, which was s and is t, has taken in these passes; of their agents, of its own and of those that it had taken in before,
  -- it has seen no more than their passes had
  pub record TakesInEvents {W : Type 0} (view : W → PlainView N) (s t : PlainView N) (ws : List W) : Type 0 where
    pub agent : t.agent ≡ s.agent
    pub more : IsPrefix s.events t.events
    pub own : events_by s.agent t.events ≡ events_by s.agent s.events
    pub before : (b : ℕ) → Among b s.absorbed → Among b t.absorbed × (events_by b t.events ≡ events_by b s.events)
    pub taken : AllByRecursion (λ w. Among (view w).agent t.absorbed × (events_by (view w).agent t.events ≡ events_by (view w).agent (view w).events)) ws

module _ {D N : Type 0} {d : discipline.Ghosts D N} {m : machine.Ghosts Plain N (PlainShape N) PlainOp (PlainStep N) (Unit {0}) (Unit {0})} where
  -- the domain, and the whole list of its events
  abbrev pub rest_domain : PlainRest D N d m → PlainDomain D N
  rest_domain r = r.domain

  abbrev pub rest_journal : PlainRest D N d m → List (Event N)
  rest_journal r = (seat_of r.domain r.pass).seen

  -- the pass that is left is one of the domain's, so its board has shown this list; and it took in all others, so the list is whole
  pub record IsShown (r : PlainRest D N d m) : Type 0 where
    pub belongs : IsPassOf r.domain r.pass
    pub all : CoversAll (domain_bounds r.domain).agents (shows r.domain.board r.pass.pass)

  -- this is the domain at rest, which had these passes: its board has shown one whole list of events, which goes on from what each
  -- pass had seen, and is what all had seen, where they had seen one list
  pub record IsRestOf (domain : PlainDomain D N) (passes : List (PlainPass D N (PlainShape N) PlainOp (PlainStep N) (Unit {0}) (Unit {0}) d m))
      (r : PlainRest D N d m) : Type 0 where
    pub domain_is : rest_domain r ≡ domain
    pub shown : IsShown r
    pub heard : All (λ p. IsPrefix (journal_of p) (rest_journal r)) passes
    pub journal : (seen : List (Event N)) → All (λ p. journal_of p ≡ seen) passes → rest_journal r ≡ seen
