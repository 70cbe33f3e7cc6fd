-- Laws of the passes of a domain.
use Rattle.std.specs.Prelude.{◌≡◌, ℕ, ◌<◌, ◌≤◌, List, [], ◌∷◌, ◌++◌, ◌==◌, ◌&&◌, length, take, true, Option, Some, None, slice_get, zero, suc, refl}
use Rattle.std.specs.List.{list_all}
use mathlib.Core.List.{IsPrefix}
use Rattle.std.proofs.Common.{sym, ap, ◌∙◌, subst, length-append, arith}
use Rattle.std.proofs.lemmas.Bool.{eq-eqb}
use Rattle.orc_words.specs.Bounds.{Bounds}
use Rattle.orc_heap.specs.Acts.{IsKnown}
use Rattle.orc_heap.specs.Journals.{run_heap}
use Rattle.orc_heap.specs.OwnEvents.{IsBelow}
use Rattle.orc_heap.specs.Seats.{IsUntouched}
use Rattle.orc_heap.specs.Slots.{Hold, Holds, SlotNode, id_in}
use Rattle.orc_heap.specs.declared.discipline.Discipline as discipline
use Rattle.orc_heap.specs.declared.events.Event.{Event}
use Rattle.orc_shared_words.specs.declared.machine.Machine as machine
use Rattle.orc_plain_board.proofs.Known.{below, fresh_row, opened}
use Rattle.orc_any_domain.specs.Rows.{index_of}
use Rattle.orc_plain_board.specs.Machine.{id_by}
use Rattle.orc_plain_board.specs.Views.{PlainView, heap_of, shows, shows_by}
use Rattle.orc_plain_board.specs.declared.machine.Plain.{Plain}
use Rattle.orc_plain_board.specs.declared.machine.PlainOp.{PlainOp}
use Rattle.orc_plain_board.specs.declared.machine.PlainStep.{PlainStep}
use Rattle.orc_plain_board.specs.declared.shape.PlainShape.{PlainShape}
use Rattle.orc_heap.specs.Moves.{gives_in}
use Rattle.orc_plain_domain.specs.Given.{IsLacking}
use Rattle.orc_plain_domain.specs.Passes.{IsPassOf, domain_bounds, domain_numbers, domain_opening, journal_of, seat_of}
use Rattle.orc_plain_domain.specs.Rows.{slots_by}
use Rattle.orc_plain_domain.specs.declared.domain.PlainDomain.{PlainDomain}
use Rattle.orc_plain_domain.specs.declared.domain.PlainPass.{PlainPass}

-- one event more
pub one_more : {N : Type 0} (j : List (Event N)) (e : Event N) → (es : List (Event N)) × (j ++ e ∷ [] ≡ j ++ es)
    × (list_all (λ z. z.agent == e.agent) es ≡ true)
one_more j e = (e ∷ [], refl, ap (λ b. b && true) (eq-eqb e.agent e.agent refl))

take_first : {A : Type 0} (n : ℕ) (xs ys : List A) → n ≤ length xs → take n (xs ++ ys) ≡ take n xs
take_first zero xs ys l = refl
take_first (suc n) [] ys l = absurd (omega (arith, l))
take_first (suc n) (x ∷ xs) ys l = ap (λ z. x ∷ z) (take_first n xs ys (omega (arith, l)))

pub lacking_later : {N : Type 0} (rows : ℕ) (j more : List (Event N)) (first : ℕ) → IsLacking rows j first → IsLacking rows (j ++ more) first
lacking_later rows j more first l =
    let long = length-append j more in
    let within = l.within in
    record { within = omega (arith, long, within); given = ap gives_in (take_first first j more within) ∙ l.given }

pub all_given : {N : Type 0} (rows : ℕ) (j : List (Event N)) (first : ℕ) → IsLacking rows j first → rows ≤ gives_in (take first j)
all_given rows j first l = let given = l.given in omega (arith, given)

-- the row in a slot, and its node
pub row_in : (rows : List ℕ) (slots : List (Option ℕ)) (i : ℕ) (x : SlotNode) → slice_get (slots_by rows slots) i ≡ Some (Some x)
    → (slice_get slots i ≡ Some (Some x.row)) × (x.id ≡ index_of x.row rows)
row_in rows [] i x e = cc
row_in rows (None ∷ slots) zero x e = cc
row_in rows (Some row ∷ slots) zero x e = let same : record { row = row; id = index_of row rows } ≡ x = cc in
    (ap (λ (y : SlotNode). Some (Some y.row)) same, ap (λ (y : SlotNode). y.id) (sym same) ∙ ap (λ (y : SlotNode). index_of y.row rows) same)
row_in rows (slot ∷ slots) (suc i) x e = row_in rows slots i x e

module _ {D N : Type 0} {d : discipline.Ghosts D N} {m : machine.Ghosts Plain N (PlainShape N) PlainOp (PlainStep N) (Unit {0}) (Unit {0})}
    (domain : PlainDomain D N) (p : PlainPass D N (PlainShape N) PlainOp (PlainStep N) (Unit {0}) (Unit {0}) d m) (h : IsPassOf domain p)
  where
    abbrev s : PlainView N
    s = shows domain.board p.pass

    pub seen_by : (seat_of domain p).seen ≡ journal_of p
    seen_by = ap (λ (b : Bounds). (shows_by b p.pass).events) (sym h.shape)

    pub begins_so : IsPrefix (domain_opening domain) (seat_of domain p).seen
    begins_so = opened d domain.board.words.shape p.pass.pass.seat.me.0 p.pass.pass.agent p.pass.fresh p.pass.looked h.board.keeps

    pub all_below : ((seat_of domain p).agent < (domain_bounds domain).agents) × IsBelow (domain_bounds domain).agents (seat_of domain p).seen
    all_below = (h.board.keeps.number, below d domain.board.words.shape p.pass.pass.seat.me.0 p.pass.pass.agent p.pass.fresh p.pass.looked h.board.keeps)

    pub all_of_agents : IsBelow (domain_bounds domain).agents (journal_of p)
    all_of_agents = subst (IsBelow (domain_bounds domain).agents) seen_by all_below.1

    pub fresh_untouched : (id : ℕ) → (seat_of domain p).fresh ≡ Some id
        → IsUntouched (seat_of domain p).agent (run_heap (domain_numbers domain) (seat_of domain p).seen) id
    fresh_untouched id e = went s.fresh refl e
      where
        went : (fresh : Option ℕ) → s.fresh ≡ fresh → id_by s.rows fresh ≡ Some id → IsUntouched s.agent (heap_of (domain_bounds domain) s) id
        went None is e = cc
        went (Some row) is e =
            let same : index_of row s.rows ≡ id = cc in
            let u = (fresh_row d domain.board.words.shape p.pass.pass.seat.me.0 p.pass.pass.agent p.pass.fresh p.pass.looked h.board.keeps row is).untouched in
            subst (λ i. IsUntouched s.agent (heap_of (domain_bounds domain) s) i) same u

    pub held_known : (hold : Hold) → Holds (seat_of domain p).slots hold
        → IsKnown (seat_of domain p).agent (run_heap (domain_numbers domain) (seat_of domain p).seen) (id_in (seat_of domain p).slots hold)
    held_known hold e =
        let r = row_in s.rows p.slots hold.slot (record { row = hold.row; id = id_in (seat_of domain p).slots hold }) e in
        subst (λ i. IsKnown s.agent (heap_of (domain_bounds domain) s) i) (sym r.1) (h.keeps.known hold.slot hold.row r.0)
