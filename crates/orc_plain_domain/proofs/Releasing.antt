-- Slots that are set, and holds that are released.
use Rattle.std.proofs.Common.{◌≡◌, ℕ, zero, suc, ◌<◌, List, [], ◌∷◌, length, length-set, Option, Some, None, slice_get, slice_set, refl, sym, ap, ◌∙◌, subst, ◌⊎◌, inl, inr, append-nil}
use Rattle.orc_heap.proofs.Changes.{get_lt}
use Rattle.orc_words.specs.Bounds.{Bounds}
use Rattle.orc_heap.specs.Calls.{Releases, unless_node}
use Rattle.orc_heap.specs.Slots.{Hold, Holds}
use Rattle.orc_heap.specs.declared.discipline.Discipline as discipline
use Rattle.orc_shared_words.specs.declared.machine.Machine as machine
use Rattle.orc_any_domain.proofs.Rows.{some_one}
use Rattle.orc_plain_board.specs.Calls.{KnowsRow, unless_linked}
use Rattle.orc_plain_board.specs.Machine.{id_by}
use Rattle.orc_plain_board.specs.Views.{PlainView, shows}
use Rattle.orc_plain_board.specs.declared.machine.Plain.{Plain}
use Rattle.orc_plain_board.specs.declared.machine.PlainOp.{PlainOp}
use Rattle.orc_plain_board.specs.declared.machine.PlainStep.{PlainStep}
use Rattle.orc_plain_board.specs.declared.shape.PlainShape.{PlainShape}
use Rattle.orc_plain_domain.specs.Passes.{IsPassOf, domain_bounds, seat_of}
use Rattle.orc_plain_domain.specs.declared.domain.PlainDomain.{PlainDomain}
use Rattle.orc_plain_domain.specs.declared.domain.PlainPass.{PlainPass}
use Rattle.orc_plain_domain.specs.Calls.{IsSame, Retires}
use Rattle.orc_plain_domain.specs.Rows.{Keeps, seat_by, slots_by}
use Rattle.orc_plain_domain.proofs.Growing.{fresh_given}
use Rattle.orc_plain_domain.proofs.Naming.{hold_given, hold_in}
use Rattle.orc_plain_domain.proofs.Rows.{slots_set, unless_is}

set_back : {A : Type 0} (xs : List A) (i j : ℕ) (y z : A) → slice_get (slice_set xs i y) j ≡ Some z → (z ≡ y) ⊎ (slice_get xs j ≡ Some z)
set_back [] i j y z e = inr e
set_back (x ∷ xs) zero zero y z e = inl (some_one z y (sym e))
set_back (x ∷ xs) zero (suc j) y z e = inr e
set_back (x ∷ xs) (suc i) zero y z e = inr e
set_back (x ∷ xs) (suc i) (suc j) y z e = set_back xs i j y z e

-- a slot is set, and the next row to try
pub keeps_set : {N : Type 0} (b : Bounds) (s : PlainView N) (slots : List (Option ℕ)) (next other i : ℕ) (y : Option ℕ)
    → ((row : ℕ) → y ≡ Some row → KnowsRow b s row) → other < b.rows → Keeps b s slots next → Keeps b s (slice_set slots i y) other
keeps_set b s slots next other i y known inside k = record {
  eight = length-set slots i y ∙ k.eight;
  known = λ slot row e. elim (set_back slots i slot y (Some row) e) [ inl same ↦ known row (sym same) | inr old ↦ k.known slot row old ];
  inside = inside;
}

module _ {D N : Type 0} {d : discipline.Ghosts D N} {m : machine.Ghosts Plain N (PlainShape N) PlainOp (PlainStep N) (Unit {0}) (Unit {0})}
    (domain : PlainDomain D N) (p q : PlainPass D N (PlainShape N) PlainOp (PlainStep N) (Unit {0}) (Unit {0}) d m) (h : IsPassOf domain p)
    (x : IsPassOf domain q) (same : IsSame p q)
    (hold : Hold) (held : Holds (seat_of domain p).slots hold)
  where
    abbrev s : PlainView N
    s = shows domain.board p.pass

    abbrev t : PlainView N
    t = shows domain.board q.pass

    pub slot_below : (slot : ℕ) → slot ≡ hold.slot → slot < 8
    slot_below slot e = let l = get_lt p.slots hold.slot (Some hold.row) (hold_in domain p h hold held).0 in
        subst (λ n. slot < n) h.keeps.eight (subst (λ i. i < length p.slots) (sym e) l)

    pub still_released : (slot : ℕ) → IsPassOf domain (record { pass = q.pass; slots = slice_set q.slots slot None; next = q.next; shape = q.shape })
    still_released slot = record {
      board = x.board;
      shape = x.shape;
      keeps = keeps_set (domain_bounds domain) t q.slots q.next q.next slot None (λ row e. cc) x.keeps.inside x.keeps;
    }

    pub releases : (slot row : ℕ) → slot ≡ hold.slot → row ≡ hold.row → Retires row s t
        → Releases (seat_of domain p) hold (seat_by t (slice_set q.slots slot None))
    releases slot row at is r =
        let rows : t.rows ≡ s.rows = ap (λ (z : PlainView N). z.rows) r.same in record {
          slots = (λ i. slots_by (rows i) (slice_set (same.slots i) (at i) None)) ∙ slots_set s.rows p.slots hold.slot None;
          fresh = (λ i. id_by (rows i) (r.fresh i))
              ∙ (ap (λ z. id_by s.rows (unless_linked s.fresh (Some z))) is
              ∙ (unless_is s.rows s.fresh (Some hold.row) (fresh_given domain p h) (hold_given domain p h hold held)
              ∙ ap (λ z. unless_node (id_by s.rows s.fresh) (Some z)) (sym (hold_in domain p h hold held).1)));
          puts = record {
            part = [];
            is = ap (λ (z : PlainView N). z.events) r.same ∙ sym (append-nil s.events);
            agent =
                ap (λ (z : PlainView N). z.agent) r.same;
            own_is = refl;
          };
        }
