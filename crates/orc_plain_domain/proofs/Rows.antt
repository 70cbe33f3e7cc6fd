-- Rows in slots, and their nodes as more rows are given; the fresh row, unless it was linked.
use Rattle.std.proofs.Common.{Bool, List, None, Option, Some, [], ap, cond, eq-eqb, length, ne_eqb, refl, slice_get, slice_set, subst, suc, sym, zero, ℕ, ◌++◌, ◌<◌, ◌∙◌, ◌∷◌, ◌≡◌}
use Rattle.orc_heap.specs.Acts.{IsKnown}
use Rattle.orc_heap.specs.Heap.{Heap}
use Rattle.orc_heap.proofs.Changes.{get-grown, get_lt}
use Rattle.orc_any_domain.proofs.Rows.{at_index, index_grown, some_one}
use Rattle.orc_plain_board.proofs.Ties.{Given}
use Rattle.orc_any_domain.specs.Rows.{index_of}
use Rattle.orc_plain_board.specs.Machine.{id_by}
use Rattle.orc_plain_domain.specs.Rows.{slot_by, slots_by}
use Rattle.orc_heap.specs.Calls.{unless_node}
use Rattle.orc_plain_board.specs.Calls.{unless_linked}
use Rattle.std.specs.Prelude.{if◌then◌else◌}
use mathlib.Core.Logic.{dite}
use native.Mathlib.Decide.{ℕ_discrete}

slot_grows : (rows more : List ℕ) (x : Option ℕ) → ((row : ℕ) → x ≡ Some row → index_of row rows < length rows) → slot_by (rows ++ more) x ≡ slot_by rows x
slot_grows rows more None l = refl
slot_grows rows more (Some row) l = ap (λ (id : ℕ). Some (record { row = row; id = id })) (index_grown row rows more (l row refl))

pub slots_grow : (rows more : List ℕ) (slots : List (Option ℕ)) → ((slot row : ℕ) → slice_get slots slot ≡ Some (Some row) → index_of row rows < length rows)
    → slots_by (rows ++ more) slots ≡ slots_by rows slots
slots_grow rows more [] l = refl
slots_grow rows more (x ∷ slots) l = λ i. slot_grows rows more x (λ row e. l 0 row (ap Some e)) i
    ∷ slots_grow rows more slots (λ slot row e. l (suc slot) row e) i

pub id_grows : (rows more : List ℕ) (to : Option ℕ) → Given rows to → id_by (rows ++ more) to ≡ id_by rows to
id_grows rows more None g = refl
id_grows rows more (Some row) g = ap Some (index_grown row rows more g)

pub given_grows : (rows more : List ℕ) (to : Option ℕ) → Given rows to → Given (rows ++ more) to
given_grows rows more None g = tt
given_grows rows more (Some row) g =
    let same = index_grown row rows more g in
    get_lt (rows ++ more) (index_of row (rows ++ more)) row
    (subst (λ i. slice_get (rows ++ more) i ≡ Some row) (sym same) (get-grown (index_of row rows) rows more row (at_index row rows g)))

-- a slot that is set
pub slots_set : (rows : List ℕ) (slots : List (Option ℕ)) (i : ℕ) (x : Option ℕ)
    → slots_by rows (slice_set slots i x) ≡ slice_set (slots_by rows slots) i (slot_by rows x)
slots_set rows [] i x = refl
slots_set rows (y ∷ slots) zero x = refl
slots_set rows (y ∷ slots) (suc i) x = ap (λ z. slot_by rows y ∷ z) (slots_set rows slots i x)

-- rows of one node are one
pub one_row : (rows : List ℕ) (row other : ℕ) → index_of row rows < length rows → index_of other rows < length rows
    → index_of row rows ≡ index_of other rows → row ≡ other
one_row rows row other l k e = some_one row other (sym (at_index row rows l) ∙ (ap (slice_get rows) e ∙ at_index other rows k))

-- a row whose node is known was given
pub known_given : (agent : ℕ) (h : Heap) (rows : List ℕ) (row : ℕ) → length rows ≡ length h.nodes → IsKnown agent h (index_of row rows)
    → index_of row rows < length rows
known_given agent h rows row even k = subst (λ n. index_of row rows < n) (sym even) (get_lt h.nodes (index_of row rows) k.node k.there)

-- the fresh row, unless it was linked, and its node
pub unless_given : (rows : List ℕ) (fresh to : Option ℕ) → Given rows fresh → Given rows (unless_linked fresh to)
unless_given rows None to g = tt
unless_given rows (Some row) None g = g
unless_given rows (Some row) (Some other) g = dite (ℕ_discrete row other)
    (λ e. subst (λ (b : Bool). Given rows (cond b None (Some row))) (sym (eq-eqb row other e)) tt)
    (λ ne. subst (λ (b : Bool). Given rows (cond b None (Some row))) (sym (ne_eqb row other ne)) g)

pub unless_is : (rows : List ℕ) (fresh to : Option ℕ) → Given rows fresh → Given rows to
    → id_by rows (unless_linked fresh to) ≡ unless_node (id_by rows fresh) (id_by rows to)
unless_is rows None None g k = refl
unless_is rows None (Some other) g k = refl
unless_is rows (Some row) None g k = refl
unless_is rows (Some row) (Some other) g k = dite (ℕ_discrete row other)
    (λ e. ap (λ (b : Bool). id_by rows (cond b None (Some row))) (eq-eqb row other e)
    ∙ sym (ap (λ (b : Bool). if b then None else Some (index_of row rows))
    (eq-eqb (index_of other rows) (index_of row rows) (ap (λ r. index_of r rows) (sym e)))))
    (λ ne. ap (λ (b : Bool). id_by rows (cond b None (Some row))) (ne_eqb row other ne)
    ∙ sym (ap (λ (b : Bool). if b then None else Some (index_of row rows))
    (ne_eqb (index_of other rows) (index_of row rows) (λ e. ne (one_row rows row other g k (sym e))))))
