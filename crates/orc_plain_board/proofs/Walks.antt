-- What a pass meets between two of its steps, and what its own step does.
use Rattle.std.proofs.Common.{◌≡◌, ℕ, ◌<◌, ◌==◌, List, [], ◌∷◌, ◌++◌, length, Bool, true, false, if◌then◌else◌, Option, Some, None, refl, sym, ap, ◌∙◌, subst, append-nil, length-append, arith}
use mathlib.Core.Logic.{dite}
use native.Mathlib.Decide.{ℕ_discrete}
use Rattle.orc_words.specs.Bounds.{Bounds, bounds_of}
use Rattle.orc_words.specs.Packed.{link_word}
use Rattle.orc_words.specs.declared.packed.RowLink.{RowLink}
use Rattle.orc_heap.specs.Acts.{IsTarget}
use Rattle.orc_heap.specs.Allowed.{AllAllowed, events_by}
use Rattle.orc_heap.specs.Seats.{IsUntouched}
use Rattle.orc_heap.specs.Journals.{IsLawfulFrom, event_by, run_from as heap_from, run_heap}
use Rattle.orc_heap.specs.declared.discipline.Discipline as discipline
use Rattle.orc_heap.specs.declared.events.Act.TheVariants as act
use Rattle.orc_heap.specs.declared.events.Event.{Event}
use Rattle.orc_heap.specs.declared.events.Link.{Link}
use Rattle.orc_heap.specs.declared.events.Place.{Place}
use Rattle.orc_heap.proofs.Runs.{lawful-right, run_heap-snoc}
use Rattle.orc_heap.proofs.Stays.{allowed-left, allowed-right}
use Rattle.orc_heap.proofs.Untouched.{target_from, untouched_from}
use mathlib.Core.List.{IsPrefix}
use Rattle.orc_shared_words.specs.Lists.{Among}
use Rattle.orc_history.specs.Journals.{own_of}
use Rattle.orc_shared_words.specs.Steps.{Extends, LaterJournal}
use Rattle.orc_shared_words.specs.declared.journal.View.{View}
use Rattle.orc_heap.proofs.Pieces.{goes_on}
use Rattle.orc_heap.proofs.Prefixes.{prefix_same}
use Rattle.orc_shared_words.proofs.Events.{AllBy, none-append, none_of_all}
use Rattle.orc_shared_words.proofs.Runs.{by_other, by_own, cons_nil}
use Rattle.orc_plain_board.specs.Calls.{AddsOwn}
use Rattle.orc_any_domain.specs.Rows.{index_of}
use Rattle.orc_plain_board.specs.Machine.{State, AllowedFrom, answer, events_at, events_of, finds, link_by, load_event, next, numbers, place_by, project, project_from, run, run_from, start, taken, tested}
use Rattle.orc_plain_board.specs.Rules.{plain_rules, project-append, step_of, steps-append}
use Rattle.orc_plain_board.specs.Views.{FreshHeld, view_of}
use Rattle.orc_plain_board.specs.declared.machine.PlainOp.{PlainOp}
use Rattle.orc_plain_board.specs.declared.machine.PlainOp.TheVariants.{GateLook, GateTake, Fill, Read, LinkLoad, LinkCas, LinkStore}
use Rattle.orc_plain_board.specs.declared.machine.PlainStep.{PlainStep}
use Rattle.orc_plain_board.specs.declared.shape.PlainShape.{PlainShape}
use Rattle.orc_any_domain.proofs.Rows.{index_grown, some_one}
use Rattle.orc_plain_board.proofs.Steps.{Tied, heap_is, tied}

module _ {N : Type 0} where
  abbrev pub by : PlainStep N → ℕ
  by s = s.agent

  test_signed : (x : State) (a : ℕ) (at : Place) (want : Link) (done : Event N) (b : Bool) → done.agent ≡ a → AllBy a (tested x a at want done b ∷ [])
  test_signed x a at want done true e = (e, tt)
  test_signed x a at want done false e = (refl, tt)

  take_signed : (a : ℕ) (said : Option N) (b : Bool) → AllBy {N = N} a (if b then event_by a act.Give None ∷ [] else [])
  take_signed a said true = (refl, tt)
  take_signed a said false = tt

  load_signed : (x : State) (a : ℕ) (at : Place) (want : Option RowLink) (n : ℕ) (said : Option N) → AllBy a (load_event x a at want n said ∷ [])
  load_signed x a at None n said = (refl, tt)
  load_signed x a at (Some w) n said = test_signed x a at (link_by x.given w) _ (n == link_word w) refl

  pub signed : (x : State) (a : ℕ) (op : PlainOp) (n : ℕ) (said : Option N) → AllBy a (events_of x a op n said)
  signed x a (GateLook row) n said = tt
  signed x a (GateTake row) n said = take_signed a said (n == 0)
  signed x a (Fill row which value) n said = (refl, tt)
  signed x a (Read row which) n said = tt
  signed x a (LinkLoad at want) n said = load_signed x a (place_by x.given at) want n said
  signed x a (LinkCas at from to) n said = test_signed x a (place_by x.given at) (link_by x.given from) _ (n == link_word from) refl
  signed x a (LinkStore row number to) n said = (refl, tt)

module _ {N : Type 0} (k : Bounds) where
  -- steps of others have events of others
  pub others_none : (a : ℕ) (x : State) (ss : List (PlainStep N)) → own_of by a ss ≡ [] → events_by a (project_from k x ss) ≡ []
  others_none a x [] e = refl
  others_none a x (s ∷ ss) e = dite (ℕ_discrete s.agent a)
      (λ own. absurd (cons_nil s (own_of by a ss) (sym (by_own by a s ss own) ∙ e)))
      (λ ne. none-append a (events_at k x s) (project_from k (next k x s) ss)
      (none_of_all a s.agent (events_at k x s) ne (signed x s.agent s.op (finds k x s.op) s.note))
      (others_none a (next k x s) ss (sym (by_other by a s ss ne) ∙ e)))

  -- the given rows grow
  pub given_more : (x : State) (ss : List (PlainStep N)) → IsPrefix x.given (run_from k x ss).given
  given_more x [] = prefix_same x.given x.given refl
  given_more x (s ∷ ss) = goes_on x.given (next k x s).given (run_from k (next k x s) ss).given (taken s.op (finds k x s.op), refl) (given_more (next k x s) ss)

pub lt_more : (row : ℕ) (g more : List ℕ) → index_of row g < length g → index_of row (g ++ more) < length (g ++ more)
lt_more row g more lt = let e = index_grown row g more lt in let l = length-append g more in omega (arith, e, l, lt)

-- the fresh row stays so, where its node stays untouched
pub fresh_stays : (a : ℕ) (x y : State) (more : List ℕ) → y.given ≡ x.given ++ more → (fresh : Option ℕ)
    → ((row : ℕ) → fresh ≡ Some row → IsUntouched a x.heap (index_of row x.given) → IsUntouched a y.heap (index_of row x.given)) → FreshHeld a x fresh
    → FreshHeld a y fresh
fresh_stays a x y more e None keep h = tt
fresh_stays a x y more e (Some row) keep h =
    let one : index_of row x.given ≡ index_of row y.given = sym (ap (index_of row) e ∙ index_grown row x.given more h.0) in (
      subst (λ z. index_of row z < length z) (sym e) (lt_more row x.given more h.0),
      subst (IsUntouched a y.heap) one (keep row refl h.1),
    )

-- a journal that a pass may come upon, from what it has seen
pub record Mid {N : Type 0} (k : Bounds) (may : List (Event N) → Event N → Type 0) (seen between : List (PlainStep N)) (a : ℕ) : Type 0 where
  pub tie : Tied k (run_from k (run k seen) between)
  pub none : events_by a (project_from k (run k seen) between) ≡ []
  pub fits : IsLawfulFrom (run k seen).heap (project_from k (run k seen) between)
  pub allowed : AllAllowed may (project k seen) (project_from k (run k seen) between)
  pub events : project k (seen ++ between) ≡ project k seen ++ project_from k (run k seen) between
  pub state : run k (seen ++ between) ≡ run_from k (run k seen) between
  pub heap : run_heap (numbers k) (project k (seen ++ between)) ≡ (run_from k (run k seen) between).heap

module _ {D N : Type 0} (d : discipline.Ghosts D N) (k : Bounds) where
  abbrev holds : List (Event N) → Type 0
  holds = d.holds (numbers k)

  abbrev may : List (Event N) → Event N → Type 0
  may = d.may (numbers k)

  pub lawful_of : (past es : List (Event N)) → holds past → AllAllowed may past es → IsLawfulFrom (run_heap (numbers k) past) es
  lawful_of past [] h a = tt
  lawful_of past (e ∷ es) h a = (
    d.fits (numbers k) past e h a.0,
    subst (λ z. IsLawfulFrom z es) (run_heap-snoc (numbers k) past e)
        (lawful_of (past ++ e ∷ []) es (d.keeps (numbers k) past e h a.0) a.1),
  )

  pub allowed_front : (xs ys : List (PlainStep N)) → AllowedFrom k (xs ++ ys) → AllowedFrom k xs
  allowed_front [] ys h = tt
  allowed_front (x ∷ xs) ys h = (h.0, allowed_front xs ys h.1)

  pub mid_of : (seen between : List (PlainStep N)) (a : ℕ) → holds [] → own_of by a between ≡ [] → AllowedFrom k (seen ++ between)
      → AllAllowed may [] (project k (seen ++ between)) → Mid k may seen between a
  mid_of seen between a began none can each =
      let events : project k (seen ++ between) ≡ project k seen ++ project_from k (run k seen) between = project-append k (start k) seen between in
      let state : run k (seen ++ between) ≡ run_from k (run k seen) between = steps-append k (start k) seen between in
      let all : AllAllowed may [] (project k seen ++ project_from k (run k seen) between) = subst (AllAllowed may []) events each in
      let lawful = lawful_of [] (project k (seen ++ between)) began each in
      let first : IsLawfulFrom (start k).heap (project k seen ++ project_from k (run k seen) between) = subst (IsLawfulFrom (start k).heap) events lawful in
      record {
        tie = subst (Tied k) state (tied k (seen ++ between) can lawful);
        none = others_none k a (run k seen) between none;
        fits = subst (λ z. IsLawfulFrom z (project_from k (run k seen) between)) (sym (heap_is k (start k) seen))
            (lawful-right (start k).heap (project k seen) (project_from k (run k seen) between) first);
        allowed = allowed-right may [] (project k seen) (project_from k (run k seen) between) all;
        events = events;
        state = state;
        heap = sym (heap_is k (start k) (seen ++ between)) ∙ ap (λ z. z.heap) state;
      }

module _ {N : Type 0} (k : Bounds) (may : List (Event N) → Event N → Type 0) (seen between : List (PlainStep N)) (a : ℕ) (m : Mid k may seen between a) where
  abbrev pub mid : State
  mid = run_from k (run k seen) between

  pub mid_fresh : (fresh : Option ℕ) → FreshHeld a (run k seen) fresh → FreshHeld a mid fresh
  mid_fresh fresh h = let g = given_more k (run k seen) between in
      fresh_stays a (run k seen) mid g.0 (sym g.1) fresh
      (λ row _ u. subst (λ z. IsUntouched a z (index_of row (run k seen).given)) (sym (heap_is k (run k seen) between))
      (untouched_from a (run k seen).heap (project_from k (run k seen) between) (index_of row (run k seen).given) m.none m.fits u)) h

  pub mid_target : (t : Option ℕ) → IsTarget a (run k seen).heap t → IsTarget a mid.heap t
  mid_target t r =
      subst (λ z. IsTarget a z t) (sym (heap_is k (run k seen) between)) (target_from a (run k seen).heap (project_from k (run k seen) between) t r)

-- what the step of a pass did
pub record Walk {N : Type 0} (k : Bounds) (may : List (Event N) → Event N → Type 0) (v u : View (PlainStep N) (Unit {0})) (a : ℕ) (op : PlainOp)
    (said : Option N) (n : ℕ) : Type 0 where
  pub between : List (PlainStep N)
  pub mid : Mid k may v.seen between a
  pub answers : n ≡ answer op (finds k (run_from k (run k v.seen) between) op)
  pub state : run k u.seen ≡ next k (run_from k (run k v.seen) between) (step_of a op said)
  pub fits : IsLawfulFrom (run_from k (run k v.seen) between).heap
      (events_of (run_from k (run k v.seen) between) a op (finds k (run_from k (run k v.seen) between) op) said)
  pub tie : Tied k (run k u.seen)
  pub events : project k u.seen ≡ (project k v.seen ++ project_from k (run k v.seen) between)
      ++ events_of (run_from k (run k v.seen) between) a op (finds k (run_from k (run k v.seen) between) op) said
  pub allowed : AllAllowed may (project k v.seen ++ project_from k (run k v.seen) between)
      (events_of (run_from k (run k v.seen) between) a op (finds k (run_from k (run k v.seen) between) op) said)
  pub longer : u.seen ≡ (v.seen ++ between) ++ step_of a op said ∷ []
  pub also : u.also ≡ v.also
  pub retired : (b : ℕ) → Among b v.also → own_of by b between ≡ []

module _ {D N : Type 0} (d : discipline.Ghosts D N) (q : PlainShape N) where
  abbrev kk : Bounds
  kk = bounds_of q.shape

  pub walk : (v w : View (PlainStep N) (Unit {0})) (a : ℕ) (op : PlainOp) (said : Option N) (n : ℕ) → d.holds (numbers kk) [] → v.agent ≡ Some a
      → Extends plain_rules q (d.holds (numbers kk)) (d.may (numbers kk)) op said v n w → Walk kk (d.may (numbers kk)) v w a op said n
  walk v w a op said n began is x = subst (λ b. Walk kk (d.may (numbers kk)) v w b op said n) (some_one x.agent a (sym x.is ∙ is))
      (made x.agent x.others x.answers x.seen x.now x.read)
    where
      may2 : List (Event N) → Event N → Type 0
      may2 = d.may (numbers kk)

      made : (b : ℕ) → own_of by b x.between ≡ [] → n ≡ answer op x.found → w.seen ≡ (v.seen ++ x.between) ++ step_of b op said ∷ []
          → LaterJournal plain_rules q (d.holds (numbers kk)) (d.may (numbers kk)) w.seen w b
          → x.found ≡ finds kk (run kk (v.seen ++ x.between)) op → Walk kk (d.may (numbers kk)) v w b op said n
      made b none answers seen now read =
          let k : Bounds = kk in
          let may : List (Event N) → Event N → Type 0 = d.may (numbers kk) in
          let s : PlainStep N = step_of b op said in
          let front : List (PlainStep N) = v.seen ++ x.between in
          let middle : State = run_from k (run k v.seen) x.between in
          let can : AllowedFrom k (front ++ s ∷ []) = subst (AllowedFrom k) seen now.lawful in
          let each : AllAllowed may [] (project k (front ++ s ∷ [])) = subst (λ z. AllAllowed may [] (project k z)) seen now.each in
          let split : project k (front ++ s ∷ []) ≡ project k front ++ (events_at k (run k front) s ++ []) = project-append k (start k) front (s ∷ []) in
          let each2 : AllAllowed may [] (project k front ++ (events_at k (run k front) s ++ [])) = subst (AllAllowed may []) split each in
          let m : Mid k may v.seen x.between b =
          mid_of d k v.seen x.between b began none (allowed_front d k front (s ∷ []) can)
          (allowed-left may [] (project k front) (events_at k (run k front) s ++ []) each2) in
          let own : List (Event N) = events_at k middle s in
          let es : List (Event N) = project_from k (run k v.seen) x.between in
          let tail : events_at k (run k front) s ++ [] ≡ own = append-nil (events_at k (run k front) s) ∙ ap (λ z. events_at k z s) m.state in
          let events : project k w.seen ≡ (project k v.seen ++ es) ++ own = ap (project k) seen ∙ (split ∙ (λ i. m.events i ++ tail i)) in
          let all : AllAllowed may [] ((project k v.seen ++ es) ++ own) = subst (AllAllowed may []) events now.each in
          let lawful = lawful_of d k [] (project k w.seen) began now.each in
          let lawful2 : IsLawfulFrom (start k).heap ((project k v.seen ++ es) ++ own) = subst (IsLawfulFrom (start k).heap) events lawful in
          let heap : middle.heap ≡ heap_from (start k).heap (project k v.seen ++ es) = sym m.heap ∙ ap (heap_from (start k).heap) m.events in
          record {
            between = x.between;
            mid = m;
            answers = answers ∙ ap (answer op) (read ∙ ap (λ z. finds k z op) m.state);
            state = ap (run k) seen ∙ (steps-append k (start k) front (s ∷ []) ∙ ap (λ z. next k z s) m.state);
            fits = subst (λ z. IsLawfulFrom z own) (sym heap) (lawful-right (start k).heap (project k v.seen ++ es) own lawful2);
            tie = tied k w.seen now.lawful lawful;
            events = events;
            allowed = allowed-right may [] (project k v.seen ++ es) own all;
            longer = seen;
            also = x.also;
            retired = x.retired;
          }

module _ {N : Type 0} (k : Bounds) (may : List (Event N) → Event N → Type 0) (v u : View (PlainStep N) (Unit {0})) (a : ℕ) (op : PlainOp)
    (said : Option N) (n : ℕ) (w : Walk k may v u a op said n) where
  -- the state in which the step was made
  abbrev pub met : State
  met = run_from k (run k v.seen) w.between

  abbrev pub own : List (Event N)
  own = events_of met a op (finds k met op) said

  pub given_later : (run k u.seen).given ≡ met.given ++ taken op (finds k met op)
  given_later = ap (λ z. z.given) w.state

  pub heap_later : (run k u.seen).heap ≡ heap_from met.heap own
  heap_later = ap (λ z. z.heap) w.state

  pub rows_later : IsPrefix (run k v.seen).given (run k u.seen).given
  rows_later = goes_on (run k v.seen).given met.given (run k u.seen).given (given_more k (run k v.seen) w.between) (taken op (finds k met op), sym given_later)

  -- the fresh node stays so, where the step's event spares it
  pub later_fresh : (fresh : Option ℕ)
      → ((row : ℕ) → fresh ≡ Some row → IsUntouched a met.heap (index_of row met.given)
      → IsUntouched a (heap_from met.heap own) (index_of row met.given)) → FreshHeld a (run k v.seen) fresh → FreshHeld a (run k u.seen) fresh
  later_fresh fresh spares h =
      fresh_stays a met (run k u.seen) (taken op (finds k met op)) given_later fresh
      (λ row e u. subst (λ z. IsUntouched a z (index_of row met.given)) (sym heap_later) (spares row e u)) (mid_fresh k may v.seen w.between a w.mid fresh h)

-- what the step adds to what the pass has seen
pub adds : {N : Type 0} (k : Bounds) (may : List (Event N) → Event N → Type 0) (v u : View (PlainStep N) (Unit {0})) (a c : ℕ) (op : PlainOp)
    (said : Option N) (n : ℕ) (w : Walk k may v u a op said n) → c ≡ a
    → (fresh fresh2 looked looked2 : Option ℕ) → AddsOwn may (own k may v u a op said n w) (view_of k a v fresh looked) (view_of k c u fresh2 looked2)
adds k may v u a c op said n w e fresh fresh2 looked looked2 = record {
  met = project_from k (run k v.seen) w.between;
  later = record { allowed = w.mid.allowed; others = w.mid.none };
  events = w.events;
  allowed = w.allowed;
  agent = e;
  rows = rows_later k may v u a op said n w;
  absorbed = w.also;
  retired = λ b there. others_none k b (run k v.seen) w.between (w.retired b there);
}
