-- What each step tells, in events.
use Rattle.std.proofs.Common.{◌≡◌, ◌≢◌, ℕ, zero, suc, ◌+◌, ◌<◌, ◌==◌, List, [], ◌∷◌, ◌++◌, length, Bool, true, false, if◌then◌else◌, Option, Some, None, slice_get, slice_index, refl, sym, ap, ◌∙◌, subst, ◌⊎◌, inl, inr, arith, eq-eqb, ne_eqb, append-nil, length-append}
use mathlib.Core.Logic.{dite}
use native.Mathlib.Decide.{ℕ_discrete}
use Rattle.orc_words.specs.Bounds.{Bounds, bounds_of}
use Rattle.orc_words.specs.Places.{place}
use Rattle.orc_words.specs.declared.place.Word.TheVariants as word
use Rattle.orc_heap.specs.Acts.{IsTarget}
use Rattle.orc_heap.specs.Seats.{IsUntouched}
use Rattle.orc_heap.specs.Heap.{Heap, Node, new_node}
use Rattle.orc_heap.specs.Journals.{event_by, run_from as heap_from}
use Rattle.orc_heap.specs.declared.discipline.Discipline as discipline
use Rattle.orc_heap.specs.declared.events.Act.TheVariants as act
use Rattle.orc_heap.specs.declared.events.Event.{Event}
use Rattle.orc_heap.proofs.Changes.{get-added, get_lt}
use Rattle.orc_heap.proofs.Untouched.{untouched_after}
use Rattle.orc_shared_words.specs.Steps.{Extends, LaterJournal}
use Rattle.orc_shared_words.specs.declared.journal.View.{View}
use Rattle.orc_heap.specs.Calls.{ReadsValue, value_of}
use Rattle.orc_plain_board.specs.Calls.{AddsOwn, GivesNewRow, IsGateWord, KnowsRow, Loses}
use Rattle.orc_any_domain.specs.Rows.{IsListed, index_of}
use Rattle.orc_plain_board.specs.Machine.{State, events_of, finds, numbers, run, run_from, start, taken, value_word}
use Rattle.orc_plain_board.specs.Rules.{plain_rules}
use Rattle.orc_plain_board.specs.Views.{FreshHeld, Keeps, PlainView, heap_of, view_of}
use Rattle.orc_plain_board.specs.Words.{Block, Named}
use Rattle.orc_plain_board.specs.declared.machine.PlainOp.{PlainOp}
use Rattle.orc_plain_board.specs.declared.machine.PlainOp.TheVariants.{GateLook, GateTake, Fill, Read}
use Rattle.orc_plain_board.specs.declared.machine.PlainStep.{PlainStep}
use Rattle.orc_plain_board.specs.declared.shape.PlainShape.{PlainShape}
use Rattle.orc_any_domain.proofs.Rows.{at_index, index_at, index_grown, index_in, some_one}
use Rattle.orc_plain_board.proofs.Lists.{get_last, lt_get}
use Rattle.orc_plain_board.proofs.Steps.{Tied, heap_is}
use Rattle.orc_plain_board.proofs.Walks.{Walk, adds, given_later, given_more, heap_later, later_fresh, walk}
use Rattle.orc_plain_board.proofs.Licences.{row_given}

-- the row stands in the list, or nowhere in it
pub out_or_not : (g : List ℕ) (row : ℕ) → IsListed g row ⊎ ((id : ℕ) → slice_get g id ≢ Some row)
out_or_not [] row = inr (λ id e. cc)
out_or_not (x ∷ xs) row = dite (ℕ_discrete x row)
    (λ e. inl (0, ap Some e))
    (λ ne. elim (out_or_not xs row) [ inl o ↦ inl (suc o.0, o.1) | inr none ↦ inr (λ id e. later id ne none e) ])
  where
    later : (id : ℕ) → x ≢ row → ((i : ℕ) → slice_get xs i ≢ Some row) → slice_get (x ∷ xs) id ≡ Some row → ⊥
    later zero ne none e = ne (some_one x row e)
    later (suc id) ne none e = none id e

pub gate_word : (k : Bounds) (x : State) (row : ℕ) → Tied k x → row < k.rows → IsGateWord x.given row (slice_index x.words (place k (word.Gate row)))
gate_word k x row tie lt = elim (out_or_not x.given row) [
  | inl o ↦
      let l = get_lt x.given o.0 row o.1 in
      let even = tie.even in
      let n = lt_get x.heap.nodes o.0 (omega (arith, l, even)) in
      inl ((tie.node o.0 row n.0 o.1 n.1).gate, o)
  | inr none ↦ inr ((tie.free row lt none).gate, (λ o. none o.0 o.1))
]

pub is_named : (a : ℕ) (h : Heap) (t : Option ℕ) → Named h.nodes t → IsTarget a h t
is_named a h None x = tt
is_named a h (Some id) x = record { node = x.0; there = x.1; known = inr x.2 }

-- around a step of a pass: the sizes, what the discipline holds and allows, the rows that were given before, what the pass shows before
-- and after, and that the step was made
pub record AroundStep (N : Type 0) : Type 1 where
  pub k : Bounds
  pub holds : List (Event N) → Type 0
  pub may : List (Event N) → Event N → Type 0
  pub g0 : List ℕ
  pub s : PlainView N
  pub t : PlainView N
  pub Made : PlainOp → Option N → ℕ → Type 0

abbrev pub around_step : {D N : Type 0} → discipline.Ghosts D N → PlainShape N → (v w : View (PlainStep N) (Unit {0})) (a c : ℕ)
    (fresh looked fresh2 looked2 : Option ℕ) → AroundStep N
around_step d q v w a c fresh looked fresh2 looked2 =
    let k = bounds_of q.shape in
    let holds = d.holds (numbers k) in
    let may = d.may (numbers k) in
    record {
      k = k;
      holds = holds;
      may = may;
      g0 = (run k v.seen).given;
      s = view_of k a v fresh looked;
      t = view_of k c w fresh2 looked2;
      Made = λ op said n. Extends plain_rules q holds may op said v n w;
    }

module _ {D N : Type 0} (d : discipline.Ghosts D N) (q : PlainShape N) (v w : View (PlainStep N) (Unit {0})) (a c : ℕ)
    (fresh looked fresh2 looked2 : Option ℕ) (h : Keeps q (d.holds (numbers (bounds_of q.shape))) (d.may (numbers (bounds_of q.shape))) v a fresh)
    (e : c ≡ a) where
  open (around_step d q v w a c fresh looked fresh2 looked2) use {k, holds, may, g0, s, t, Made}

  pub walked : (op : PlainOp) (said : Option N) (n : ℕ) → Made op said n → Walk k may v w a op said n
  walked op said n x = walk d q v w a op said n h.began h.is x

  -- the state in which the step was made
  abbrev pub at_step : {op : PlainOp} {said : Option N} {n : ℕ} → Walk k may v w a op said n → State
  at_step wk = run_from k (run k v.seen) wk.between

  -- what is true of the pass after a step
  pub keeps_with : (op : PlainOp) (said : Option N) (n : ℕ) → Made op said n → FreshHeld a (run k w.seen) fresh2 → Keeps q holds may w c fresh2
  keeps_with op said n x held =
      let same : x.agent ≡ c = some_one x.agent a (sym x.is ∙ h.is) ∙ sym e in
      record {
        is = x.same ∙ ap Some same;
        number = subst (λ z. z < k.agents) (sym e) h.number;
        began = h.began;
        now = subst (LaterJournal plain_rules q holds may w.seen w) same x.now;
        untouched = subst (λ z. FreshHeld z (run k w.seen) fresh2) (sym e) held;
      }

  -- the same, where the step's event spares the fresh node
  pub keeps : (op : PlainOp) (said : Option N) (n : ℕ) (x : Made op said n) → fresh2 ≡ fresh
      → ((row : ℕ) → fresh ≡ Some row → IsUntouched a (at_step (walked op said n x)).heap (index_of row (at_step (walked op said n x)).given)
      → IsUntouched a
      (heap_from (at_step (walked op said n x)).heap
      (events_of (at_step (walked op said n x)) a op (finds k (at_step (walked op said n x)) op) said)) (index_of row (at_step (walked op said n x)).given))
      → Keeps q holds may w c fresh2
  keeps op said n x f spares =
      keeps_with op said n x (subst (FreshHeld a (run k w.seen)) (sym f) (later_fresh k may v w a op said n (walked op said n x) fresh spares h.untouched))

  -- what the step added
  pub added : (op : PlainOp) (said : Option N) (n : ℕ) (x : Made op said n)
      → AddsOwn may (events_of (at_step (walked op said n x)) a op (finds k (at_step (walked op said n x)) op) said) s t
  added op said n x = adds k may v w a c op said n (walked op said n x) e fresh fresh2 looked looked2

  -- where the step gives no row, the rows are those that it met
  pub rows_met : {op : PlainOp} {said : Option N} {n : ℕ} (wk : Walk k may v w a op said n) → taken op (finds k (at_step wk) op) ≡ []
      → (at_step wk).given ≡ (run k w.seen).given
  rows_met {op} {said} {n} wk none = sym (given_later k may v w a op said n wk ∙ (ap (λ l. (at_step wk).given ++ l) none ∙ append-nil (at_step wk).given))

  pub look_keeps : (row n : ℕ) → fresh2 ≡ fresh → Made (GateLook row) None n → Keeps q holds may w c fresh2
  look_keeps row n f x = keeps (GateLook row) None n x f (λ _ _ u. u)

  pub look_adds : (row n : ℕ) → Made (GateLook row) None n → AddsOwn may [] s t
  look_adds row n x = added (GateLook row) None n x

  pub look_gate : (row n : ℕ) → row < k.rows → Made (GateLook row) None n → IsGateWord t.rows row n
  look_gate row n lt x =
      let wk = walked (GateLook row) None n x in
      subst (λ (z : List ℕ × ℕ). IsGateWord z.0 row z.1) (λ i. (rows_met wk refl i, sym wk.answers i)) (gate_word k (at_step wk) row wk.mid.tie lt)

  -- the row was free
  taken_is : (row n : ℕ) → n ≡ 0 → (x : Made (GateTake row) None n) → (finds k (at_step (walked (GateTake row) None n x)) (GateTake row) == 0) ≡ true
  taken_is row n zero_gate x =
      eq-eqb (finds k (at_step (walked (GateTake row) None n x)) (GateTake row)) 0 (sym (walked (GateTake row) None n x).answers ∙ zero_gate)

  was_new : (row n : ℕ) → n ≡ 0 → (x : Made (GateTake row) None n) → row < k.rows → ¬ IsListed (at_step (walked (GateTake row) None n x)).given row
  was_new row n zero_gate x lt o =
      let wk = walked (GateTake row) None n x in
      let read = wk.answers in
      elim (gate_word k (at_step wk) row wk.mid.tie lt) [ inl p ↦ (let z = p.0 in absurd (omega (arith, z, read, zero_gate))) | inr p ↦ p.1 o ]

  rows_taken : (row n : ℕ) → n ≡ 0 → (x : Made (GateTake row) None n) → (run k w.seen).given ≡ (at_step (walked (GateTake row) None n x)).given ++ row ∷ []
  rows_taken row n zero_gate x =
      let wk = walked (GateTake row) None n x in
      given_later k may v w a (GateTake row) None n wk ∙ ap (λ (b : Bool). (at_step wk).given ++ (if b then row ∷ [] else [])) (taken_is row n zero_gate x)

  pub take_gives : (row n : ℕ) → n ≡ 0 → row < k.rows → fresh2 ≡ Some row → Made (GateTake row) None n → GivesNewRow may row s t
  take_gives row n zero_gate lt f x =
      let wk = walked (GateTake row) None n x in record {
        adds = subst (λ l. AddsOwn may l s t) (ap (λ (b : Bool). if b then event_by {N = N} a act.Give None ∷ [] else []) (taken_is row n zero_gate x))
            (added (GateTake row) None n x);
        before = (at_step wk).given;
        rows = rows_taken row n zero_gate x;
        new = was_new row n zero_gate x lt;
        fresh = f;
      }

  pub take_keeps : (row n : ℕ) → n ≡ 0 → row < k.rows → fresh2 ≡ Some row → Made (GateTake row) None n → Keeps q holds may w c fresh2
  take_keeps row n zero_gate lt f x =
      let wk = walked (GateTake row) None n x in
      let y : State = at_step wk in
      let g : List ℕ = (run k w.seen).given in
      let rows : g ≡ y.given ++ row ∷ [] = rows_taken row n zero_gate x in
      let last : slice_get g (length y.given) ≡ Some row = subst (λ z. slice_get z (length y.given) ≡ Some row) (sym rows) (get_last y.given row) in
      let at : index_of row g ≡ length y.given = index_at row g (length y.given) wk.tie.once last in
      let heap : (run k w.seen).heap ≡ record { nodes = y.heap.nodes ++ new_node a ∷ []; roots = y.heap.roots; links = y.heap.links } =
      heap_later k may v w a (GateTake row) None n wk ∙ ap (λ (b : Bool). heap_from y.heap (if b then event_by {N = N} a act.Give None ∷ [] else []))
      (taken_is row n zero_gate x) in
      let there : slice_get (run k w.seen).heap.nodes (index_of row g) ≡ Some (new_node a) =
      subst (λ (z : Heap × ℕ). slice_get z.0.nodes z.1 ≡ Some (new_node a)) (λ i. (sym heap i, (sym wk.mid.tie.even ∙ sym at) i))
      (get-added y.heap.nodes (new_node a)) in
      keeps_with (GateTake row) None n x
      (subst (FreshHeld a (run k w.seen)) (sym f)
      (index_in row g (length y.given) last, record { node = new_node a; there = there; mine = refl; unnamed = refl; unlinked = refl }))

  lost_is : (row n : ℕ) → n ≢ 0 → (x : Made (GateTake row) None n) → (finds k (at_step (walked (GateTake row) None n x)) (GateTake row) == 0) ≡ false
  lost_is row n other x =
      ne_eqb (finds k (at_step (walked (GateTake row) None n x)) (GateTake row)) 0 (λ z. other ((walked (GateTake row) None n x).answers ∙ z))

  pub take_loses : (row n : ℕ) → n ≢ 0 → row < k.rows → fresh2 ≡ fresh → Made (GateTake row) None n → Loses may row s t
  take_loses row n other lt f x =
      let wk = walked (GateTake row) None n x in
      let read = wk.answers in record {
        adds = subst (λ l. AddsOwn may l s t) (ap (λ (b : Bool). if b then event_by {N = N} a act.Give None ∷ [] else []) (lost_is row n other x))
            (added (GateTake row) None n x);
        out = subst (λ z. IsListed z row) (rows_met wk (ap (λ (b : Bool). if b then row ∷ [] else []) (lost_is row n other x)))
            (elim (gate_word k (at_step wk) row wk.mid.tie lt) [ inl p ↦ p.1 | inr p ↦ absurd (other (read ∙ p.0)) ]);
        fresh = f;
      }

  pub lost_keeps : (row n : ℕ) → n ≢ 0 → fresh2 ≡ fresh → Made (GateTake row) None n → Keeps q holds may w c fresh2
  lost_keeps row n other f x = keeps (GateTake row) None n x f
      (λ r _ u. subst
      (λ l. IsUntouched a (heap_from (at_step (walked (GateTake row) None n x)).heap l)
      (index_of r (at_step (walked (GateTake row) None n x)).given))
      (sym (ap (λ (b : Bool). if b then event_by {N = N} a act.Give None ∷ [] else []) (lost_is row n other x))) u)

  -- a row that was given keeps its id
  pub id_met : {op : PlainOp} {said : Option N} {n : ℕ} (wk : Walk k may v w a op said n) (row : ℕ) → index_of row g0 < length g0
      → index_of row (at_step wk).given ≡ index_of row g0
  id_met wk row lt = let g = given_more k (run k v.seen) wk.between in ap (index_of row) (sym g.1) ∙ index_grown row g0 g.0 lt

  pub fill_adds : (row which value n : ℕ) → fresh ≡ Some row → Made (Fill row which value) None n
      → AddsOwn may (event_by a (act.Fill (index_of row g0) which value) None ∷ []) s t
  fill_adds row which value n is x =
      let held = subst (FreshHeld a (run k v.seen)) is h.untouched in
      subst (λ i. AddsOwn may (event_by a (act.Fill i which value) None ∷ []) s t) (id_met (walked (Fill row which value) None n x) row held.0)
      (added (Fill row which value) None n x)

  pub fill_keeps : (row which value n : ℕ) → fresh2 ≡ fresh → Made (Fill row which value) None n → Keeps q holds may w c fresh2
  fill_keeps row which value n f x = let y : State = at_step (walked (Fill row which value) None n x) in
      keeps (Fill row which value) None n x f (λ r _ u. untouched_after a a y.heap (act.Fill (index_of row y.given) which value) (index_of r y.given) refl u)

  pub read_adds : (row which n : ℕ) → Made (Read row which) None n → AddsOwn may [] s t
  read_adds row which n x = added (Read row which) None n x

  pub read_keeps : (row which n : ℕ) → fresh2 ≡ fresh → Made (Read row which) None n → Keeps q holds may w c fresh2
  read_keeps row which n f x = keeps (Read row which) None n x f (λ _ _ u. u)

  -- the heap of what was seen
  pub heap_then : heap_of k t ≡ (run k w.seen).heap
  heap_then = sym (heap_is k (start k) w.seen)

  valued : (row which : ℕ) (y : State) (m : Node) → Block k y.words y.given row m → (u : ℕ) → value_of which m ≡ Some u
      → slice_index y.words (place k (value_word row which)) ≡ u
  valued row zero y m b u is = b.first u is
  valued row (suc which) y m b u is = b.second u is

  pub read_value : (row which n : ℕ) → KnowsRow k s row → Made (Read row which) None n → ReadsValue (heap_of k t) (index_of row g0) which n
  read_value row which n knows x =
      let wk = walked (Read row which) None n x in
      let y : State = at_step wk in
      let lt = row_given d q v a fresh looked h row knows in
      let id = id_met wk row lt in
      let g = given_more k (run k v.seen) wk.between in
      let long : length y.given ≡ length g0 + length g.0 = ap length (sym g.1) ∙ length-append g0 g.0 in
      let now : index_of row y.given < length y.given = omega (arith, id, long, lt) in
      let even = wk.mid.tie.even in
      let node = lt_get y.heap.nodes (index_of row y.given) (omega (arith, now, even)) in
      let block = wk.mid.tie.node (index_of row y.given) row node.0 (at_index row y.given now) node.1 in
      let heap : y.heap ≡ heap_of k t = sym (heap_later k may v w a (Read row which) None n wk) ∙ sym heap_then in record {
        node = node.0;
        there = subst (λ (z : Heap × ℕ). slice_get z.0.nodes z.1 ≡ Some node.0) (λ i. (heap i, id i)) node.1;
        is = λ u is. wk.answers ∙ valued row which y node.0 block u is;
      }
