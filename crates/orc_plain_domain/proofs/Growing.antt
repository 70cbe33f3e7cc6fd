-- What a pass shows grows, and what it holds stays.
use Rattle.std.proofs.Common.{◌≡◌, ℕ, ◌<◌, ◌==◌, List, [], ◌∷◌, ◌++◌, length, Option, Some, None, slice_get, refl, sym, ap, ◌∙◌, subst, cond, append_assoc, eq-eqb}
use Rattle.std.proofs.lemmas.List.Elements.{filter-append}
use Rattle.orc_words.specs.Bounds.{Bounds}
use Rattle.orc_heap.specs.Acts.{IsKnown}
use Rattle.orc_heap.specs.Allowed.{events_by}
use Rattle.orc_heap.specs.Journals.{event_by, run_heap}
use Rattle.orc_heap.specs.OwnEvents.{Only, Puts}
use Rattle.orc_heap.specs.declared.discipline.Discipline as discipline
use Rattle.orc_heap.specs.declared.events.Act.{Act}
use Rattle.orc_heap.specs.declared.events.Event.{Event}
use Rattle.orc_heap.proofs.Known.{known-later}
use Rattle.orc_heap.proofs.Pieces.{goes_on}
use Rattle.orc_heap.proofs.Stays.{allowed-join}
use mathlib.Core.List.{IsPrefix}
use Rattle.orc_shared_words.specs.declared.machine.Machine as machine
use Rattle.orc_plain_board.proofs.Known.{fresh_row, ties}
use Rattle.orc_any_domain.proofs.Rows.{index_grown}
use Rattle.orc_plain_board.proofs.Ties.{Given}
use Rattle.orc_plain_board.specs.Calls.{AddsOwn}
use Rattle.orc_any_domain.specs.Rows.{index_of}
use Rattle.orc_plain_board.specs.Machine.{id_by, numbers, run}
use Rattle.orc_plain_board.specs.Views.{Belongs, PlainView, heap_of, shows}
use Rattle.orc_plain_board.specs.Words.{Tie}
use Rattle.orc_plain_board.specs.declared.machine.Plain.{Plain}
use Rattle.orc_plain_board.specs.declared.machine.PlainOp.{PlainOp}
use Rattle.orc_plain_board.specs.declared.machine.PlainStep.{PlainStep}
use Rattle.orc_plain_board.specs.declared.pass.PlainBoardPass.{PlainBoardPass as BoardPass}
use Rattle.orc_plain_board.specs.declared.shape.PlainShape.{PlainShape}
use Rattle.orc_plain_domain.specs.Passes.{IsPassOf, domain_bounds, domain_numbers, seat_of}
use Rattle.orc_plain_domain.specs.Rows.{Keeps, seat_by, slots_by}
use Rattle.orc_plain_domain.specs.declared.domain.PlainDomain.{PlainDomain}
use Rattle.orc_plain_domain.specs.declared.domain.PlainPass.{PlainPass}
use Rattle.orc_plain_domain.proofs.Rows.{id_grows, known_given, slots_grow}

-- each row in a slot was given
abbrev pub AllGiven : List ℕ → List (Option ℕ) → Type 0
AllGiven rows slots = (slot row : ℕ) → slice_get slots slot ≡ Some (Some row) → index_of row rows < length rows

module _ {N : Type 0} where
  -- a pass that shows more
  pub record Grows (b : Bounds) (s t : PlainView N) : Type 0 where
    pub agent : t.agent ≡ s.agent
    pub events : IsPrefix s.events t.events
    pub rows : IsPrefix s.rows t.rows
    pub known : (id : ℕ) → IsKnown s.agent (heap_of b s) id → IsKnown s.agent (heap_of b t) id

  pub adds_grow : (b : Bounds) (may : List (Event N) → Event N → Type 0) (own : List (Event N)) (s t : PlainView N) → AddsOwn may own s t → Grows b s t
  adds_grow b may own s t a =
      let is : t.events ≡ s.events ++ (a.met ++ own) = a.events ∙ append_assoc s.events a.met own in record {
        agent = a.agent;
        events = (a.met ++ own, sym is);
        rows = a.rows;
        known = λ id k. subst (λ es. IsKnown s.agent (run_heap (numbers b) es) id) (sym is)
            (known-later (numbers b) may s.agent id s.events (a.met ++ own) (allowed-join may s.events a.met own a.later.allowed a.allowed) k);
      }

  pub grow_trans : (b : Bounds) (s t u : PlainView N) → Grows b s t → Grows b t u → Grows b s u
  grow_trans b s t u g k = record {
    agent = k.agent ∙ g.agent;
    events = goes_on s.events t.events u.events g.events k.events;
    rows = goes_on s.rows t.rows u.rows g.rows k.rows;
    known = λ id x. subst (λ a. IsKnown a (heap_of b u) id) g.agent (k.known id (subst (λ a. IsKnown a (heap_of b t) id) (sym g.agent) (g.known id x)));
  }

  pub slots_stay : (b : Bounds) (s t : PlainView N) (slots : List (Option ℕ)) → Grows b s t → AllGiven s.rows slots
      → slots_by t.rows slots ≡ slots_by s.rows slots
  slots_stay b s t slots g l = ap (λ rows. slots_by rows slots) (sym g.rows.1) ∙ slots_grow s.rows g.rows.0 slots l

  pub index_stays : (b : Bounds) (s t : PlainView N) (row : ℕ) → Grows b s t → index_of row s.rows < length s.rows → index_of row t.rows ≡ index_of row s.rows
  index_stays b s t row g l = ap (index_of row) (sym g.rows.1) ∙ index_grown row s.rows g.rows.0 l

  pub fresh_stays : (b : Bounds) (s t : PlainView N) (fresh : Option ℕ) → Grows b s t → Given s.rows fresh → id_by t.rows fresh ≡ id_by s.rows fresh
  fresh_stays b s t fresh g l = ap (λ rows. id_by rows fresh) (sym g.rows.1) ∙ id_grows s.rows g.rows.0 fresh l

  pub keeps_stay : (b : Bounds) (s t : PlainView N) (slots : List (Option ℕ)) (next : ℕ) → Grows b s t → AllGiven s.rows slots → Keeps b s slots next
      → Keeps b t slots next
  keeps_stay b s t slots next g l k = record {
    eight = k.eight;
    known = λ slot row e. subst (λ (z : ℕ × ℕ). IsKnown z.0 (heap_of b t) z.1) (λ i. (sym g.agent i, sym (index_stays b s t row g (l slot row e)) i))
        (g.known (index_of row s.rows) (k.known slot row e));
    inside = k.inside;
  }

  -- one event of an agent is its own
  pub mine : (a : ℕ) (act : Act) (said : Option N) → events_by a (event_by a act said ∷ []) ≡ event_by a act said ∷ []
  mine a act said = ap (λ b. cond b (event_by a act said ∷ []) []) (eq-eqb a a refl)

  pub adds_put : (may : List (Event N) → Event N → Type 0) (own : List (Event N)) (s t : PlainView N) (slots later : List (Option ℕ))
      → AddsOwn may own s t → events_by s.agent own ≡ own → Puts (seat_by s slots) own (seat_by t later)
  adds_put may own s t slots later a mine = record {
    part = a.met ++ own;
    is = a.events ∙ append_assoc s.events a.met own;
    agent = a.agent;
    own_is = filter-append (λ (e : Event N). e.agent == s.agent) a.met own ∙ (ap (λ z. z ++ events_by s.agent own) a.later.others ∙ mine);
  }

-- the sizes of a domain, what its discipline allows, and what two passes of its board show
pub record TwoViews (N : Type 0) : Type 1 where
  pub b : Bounds
  pub may : List (Event N) → Event N → Type 0
  pub s : PlainView N
  pub t : PlainView N

abbrev pub two_views : {D N : Type 0} {d : discipline.Ghosts D N} {m : machine.Ghosts Plain N (PlainShape N) PlainOp (PlainStep N) (Unit {0}) (Unit {0})}
    → PlainDomain D N → (p q : BoardPass D N (PlainShape N) PlainOp (PlainStep N) (Unit {0}) (Unit {0}) d m) → TwoViews N
two_views {d = d} domain p q = record { b = domain_bounds domain; may = d.may (domain_numbers domain); s = shows domain.board p; t = shows domain.board q }

module _ {D N : Type 0} {d : discipline.Ghosts D N} {m : machine.Ghosts Plain N (PlainShape N) PlainOp (PlainStep N) (Unit {0}) (Unit {0})}
    (domain : PlainDomain D N) (p : PlainPass D N (PlainShape N) PlainOp (PlainStep N) (Unit {0}) (Unit {0}) d m) (h : IsPassOf domain p)
  where
    abbrev b : Bounds
    b = domain_bounds domain

    abbrev may : List (Event N) → Event N → Type 0
    may = d.may (domain_numbers domain)

    abbrev s : PlainView N
    s = shows domain.board p.pass

    -- what the board knows
    pub tie : Tie b (run b p.pass.pass.seat.me.0.seen).words s.rows (heap_of b s)
    tie = ties d domain.board.words.shape p.pass.pass.seat.me.0 p.pass.pass.agent p.pass.fresh p.pass.looked h.board.keeps

    pub held_given : AllGiven s.rows p.slots
    held_given slot row e = known_given s.agent (heap_of b s) s.rows row tie.even (h.keeps.known slot row e)

    pub fresh_given : Given s.rows s.fresh
    fresh_given = went s.fresh refl
      where
        went : (fresh : Option ℕ) → s.fresh ≡ fresh → Given s.rows fresh
        went None e = tt
        went (Some row) e = (fresh_row d domain.board.words.shape p.pass.pass.seat.me.0 p.pass.pass.agent p.pass.fresh p.pass.looked h.board.keeps row e).given

    module _ (q : BoardPass D N (PlainShape N) PlainOp (PlainStep N) (Unit {0}) (Unit {0}) d m) (x : Belongs domain.board q) where
      abbrev t : PlainView N
      t = shows domain.board q

      -- the pass, with the board's pass after a call
      pub still_of : Grows b s t → IsPassOf domain (record { pass = q; slots = p.slots; next = p.next; shape = p.shape })
      still_of g = record { board = x; shape = h.shape; keeps = keeps_stay b s t p.slots p.next g held_given h.keeps }

      pub still_adds : (own : List (Event N)) → AddsOwn may own s t → IsPassOf domain (record { pass = q; slots = p.slots; next = p.next; shape = p.shape })
      still_adds own a = still_of (adds_grow b may own s t a)

      pub slots_same : (own : List (Event N)) → AddsOwn may own s t → slots_by t.rows p.slots ≡ slots_by s.rows p.slots
      slots_same own a = slots_stay b s t p.slots (adds_grow b may own s t a) held_given

      pub fresh_same : (own : List (Event N)) → AddsOwn may own s t → t.fresh ≡ s.fresh → id_by t.rows t.fresh ≡ id_by s.rows s.fresh
      fresh_same own a e = ap (id_by t.rows) e ∙ fresh_stays b s t s.fresh (adds_grow b may own s t a) fresh_given

      pub only_adds : (own : List (Event N)) → AddsOwn may own s t → events_by s.agent own ≡ own → t.fresh ≡ s.fresh
          → Only own (seat_of domain p) (seat_by t p.slots)
      only_adds own a mine e = record { slots = slots_same own a; fresh = fresh_same own a e; puts = adds_put may own s t p.slots p.slots a mine }
