-- What is true of all that a pass has seen.
use Rattle.std.proofs.Common.{◌≡◌, ℕ, ◌<◌, List, [], ◌∷◌, ◌++◌, length, Option, Some, refl, sym, ap, ◌∙◌, subst, ◌⊎◌, inl, inr, append-nil}
use Rattle.orc_words.specs.Bounds.{Bounds, bounds_of}
use Rattle.orc_heap.specs.Allowed.{events_by}
use Rattle.orc_heap.specs.Seats.{IsUntouched}
use Rattle.orc_heap.specs.OwnEvents.{IsBelow}
use Rattle.orc_heap.specs.Seeds.{opening_events}
use Rattle.orc_heap.specs.Journals.{IsLawful, run_heap}
use Rattle.orc_heap.specs.declared.discipline.Discipline as discipline
use Rattle.orc_heap.specs.declared.events.Event.{Event}
use Rattle.orc_heap.proofs.Stays.{other_first}
use mathlib.Core.List.{IsPrefix}
use Rattle.orc_shared_words.specs.Lists.{Among}
use Rattle.orc_shared_words.specs.Runs.{AgentsBelow}
use Rattle.orc_shared_words.specs.declared.journal.View.{View}
use Rattle.orc_shared_words.proofs.Events.{AllBy}
use Rattle.orc_plain_board.specs.Calls.{AddsOwn}
use Rattle.orc_any_domain.specs.Rows.{index_of}
use Rattle.orc_plain_board.specs.Machine.{State, AllowedFrom, events_at, finds, next, numbers, project, project_from, run, start}
use Rattle.orc_plain_board.specs.Rules.{opening_steps, project-append}
use Rattle.orc_plain_board.specs.Views.{FreshHeld, IsFreshRow, Keeps, PlainView, heap_of, view_of}
use Rattle.orc_plain_board.specs.Words.{Tie}
use Rattle.orc_plain_board.specs.declared.machine.PlainStep.{PlainStep}
use Rattle.orc_plain_board.specs.declared.shape.PlainShape.{PlainShape}
use Rattle.orc_any_domain.proofs.Rows.{index_grown}
use Rattle.orc_plain_board.proofs.Opening.{lawful_roots, opened_events}
use Rattle.orc_plain_board.proofs.Steps.{heap_is, tied}
use Rattle.orc_plain_board.proofs.Walks.{allowed_front, by, lawful_of, signed}

-- the words of each journal show the heap of its events
pub words_show : {N : Type 0} (b : Bounds) (j : List (PlainStep N)) → AllowedFrom b j → IsLawful (numbers b) (project b j)
    → Tie b (run b j).words (run b j).given (run_heap (numbers b) (project b j))
words_show b j can lawful = subst (Tie b (run b j).words (run b j).given) (heap_is b (start b) j) (tied b j can lawful)

pub ids_stay : (rows more : List ℕ) (row : ℕ) → index_of row rows < length rows → index_of row (rows ++ more) ≡ index_of row rows
ids_stay rows more row lt = index_grown row rows more lt

below_join : {N : Type 0} (n a : ℕ) (es fs : List (Event N)) → a < n → AllBy a es → IsBelow n fs → IsBelow n (es ++ fs)
below_join n a [] fs lt all b = b
below_join n a (e ∷ es) fs lt all b = (subst (λ z. z < n) (sym all.0) lt, below_join n a es fs lt all.1 b)

events_below : {N : Type 0} (b : Bounds) (n : ℕ) (x : State) (j : List (PlainStep N)) → AgentsBelow by n j → IsBelow n (project_from b x j)
events_below b n x [] l = tt
events_below b n x (s ∷ ss) l =
    below_join n s.agent (events_at b x s) (project_from b (next b x s) ss) l.0 (signed x s.agent s.op (finds b x s.op) s.note)
    (events_below b n (next b x s) ss l.1)

pub below_right : {N : Type 0} (n : ℕ) (es fs : List (Event N)) → IsBelow n (es ++ fs) → IsBelow n fs
below_right n [] fs b = b
below_right n (e ∷ es) fs b = below_right n es fs b.1

below_left : {N : Type 0} (n : ℕ) (es fs : List (Event N)) → IsBelow n (es ++ fs) → IsBelow n es
below_left n [] fs b = tt
below_left n (e ∷ es) fs b = (b.0, below_left n es fs b.1)

-- events of none of the agents are none
pub none_at_all : {N : Type 0} (n : ℕ) (es : List (Event N)) → IsBelow n es → ((a : ℕ) → a < n → events_by a es ≡ []) → es ≡ []
none_at_all n [] b none = refl
none_at_all n (e ∷ es) b none = absurd ((other_first e.agent e es (none e.agent b.0)).0 refl)

-- a pass that took in those of all other agents meets no event
pub alone : {N : Type 0} (n : ℕ) (may : List (Event N) → Event N → Type 0) (own : List (Event N)) (s t : PlainView N) → AddsOwn may own s t
    → IsBelow n t.events → ((a : ℕ) → a < n → (s.agent ≡ a) ⊎ Among a s.absorbed) → t.events ≡ s.events ++ own
alone n may own s t adds below all =
    let none : adds.met ≡ [] =
    none_at_all n adds.met (below_right n s.events adds.met (below_left n (s.events ++ adds.met) own (subst (IsBelow n) adds.events below)))
    (λ a lt. elim (all a lt) [ inl same ↦ subst (λ z. events_by z adds.met ≡ []) same adds.later.others | inr there ↦ adds.retired a there ]) in
    adds.events ∙ ap (λ l. l ++ own) (ap (λ l. s.events ++ l) none ∙ append-nil s.events)

module _ {D N : Type 0} (d : discipline.Ghosts D N) (q : PlainShape N) (v : View (PlainStep N) (Unit {0})) (a : ℕ) (fresh looked : Option ℕ)
    (h : Keeps q (d.holds (numbers (bounds_of q.shape))) (d.may (numbers (bounds_of q.shape))) v a fresh) where
  abbrev k : Bounds
  k = bounds_of q.shape

  abbrev s : PlainView N
  s = view_of k a v fresh looked

  pub lawful : IsLawful (numbers k) s.events
  lawful = lawful_of d k [] (project k v.seen) h.began h.now.each

  pub opened : IsPrefix (opening_events q.seed) s.events
  opened =
      let first : AllowedFrom k (opening_steps q.seed) =
      allowed_front d k (opening_steps q.seed) h.now.opened.0 (subst (AllowedFrom k) (sym h.now.opened.1) h.now.lawful) in (
        project_from k (run k (opening_steps q.seed)) h.now.opened.0,
        ap (λ l. l ++ project_from k (run k (opening_steps q.seed)) h.now.opened.0) (sym (opened_events d q.shape q.seed (lawful_roots d q.shape q.seed first)))
            ∙ (sym (project-append k (start k) (opening_steps q.seed) h.now.opened.0) ∙ ap (project k) h.now.opened.1),
      )

  pub below : IsBelow k.agents s.events
  below = events_below k k.agents (start k) v.seen h.now.below

  -- the words show the heap of what was seen
  pub ties : Tie k (run k v.seen).words s.rows (heap_of k s)
  ties = words_show k v.seen h.now.lawful lawful

  pub fresh_row : (row : ℕ) → s.fresh ≡ Some row → IsFreshRow k s row
  fresh_row row is =
      let u = subst (FreshHeld a (run k v.seen)) is h.untouched in
      record { given = u.0; untouched = subst (λ z. IsUntouched a z (index_of row s.rows)) (heap_is k (start k) v.seen) u.1 }
