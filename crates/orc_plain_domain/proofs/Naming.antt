-- What a caller names, by what the pass holds.
use Rattle.std.specs.Borrow.{Bor}
use Rattle.std.proofs.Common.{◌≡◌, ◌≢◌, ℕ, ◌<◌, length, Option, Some, None, slice_get, false, refl, sym, ap, ◌∙◌, subst, arith}
use Rattle.orc_words.specs.Bounds.{Bounds}
use Rattle.orc_heap.specs.Seats.{HoldsFresh, HoldsPlace, HoldsTarget, HoldsWant, link_in, place_in, target_in}
use Rattle.orc_heap.specs.Slots.{Hold, Holds, id_in}
use Rattle.orc_heap.specs.declared.discipline.Discipline as discipline
use Rattle.orc_heap.specs.declared.events.Place.TheVariants.{Next, Side}
use Rattle.orc_heap.specs.declared.holds.At.{At}
use Rattle.orc_heap.specs.declared.holds.At.TheVariants.{Node as AtNode, Root as AtRoot, Side as AtSide}
use Rattle.orc_heap.specs.declared.holds.Want.{Want}
use Rattle.orc_heap.specs.declared.holds.Want.TheVariants.{Node as WantNode, Null as WantNull}
use Rattle.orc_shared_words.specs.declared.machine.Machine as machine
use Rattle.std.specs.Option.{ForSome}
use Rattle.orc_any_domain.proofs.Rows.{at_index, some_one}
use Rattle.orc_plain_board.proofs.Ties.{Given}
use Rattle.orc_plain_board.specs.Calls.{KnowsPlace, KnowsRow, KnowsTarget}
use Rattle.orc_any_domain.specs.Rows.{index_of}
use Rattle.orc_plain_board.specs.Machine.{id_by, link_by, place_by}
use Rattle.orc_plain_board.specs.Views.{PlainView, shows}
use Rattle.orc_plain_board.specs.declared.machine.Plain.{Plain}
use Rattle.orc_plain_board.specs.declared.machine.PlainOp.{PlainOp}
use Rattle.orc_plain_board.specs.declared.machine.PlainStep.{PlainStep}
use Rattle.orc_plain_board.specs.declared.shape.PlainShape.{PlainShape}
use Rattle.orc_plain_domain.specs.Laws.Passes.{row_in}
use Rattle.orc_plain_domain.specs.Passes.{IsPassOf, domain_bounds, domain_numbers, seat_of}
use Rattle.orc_any_domain.specs.Names.{row_link, target_link, word_at}
use Rattle.orc_plain_domain.specs.declared.domain.PlainDomain.{PlainDomain}
use Rattle.orc_plain_domain.specs.declared.domain.PlainPass.{PlainPass}
use Rattle.orc_plain_domain.proofs.Growing.{fresh_given, held_given, tie}
use Rattle.orc_plain_domain.proofs.Rows.{one_row}

module _ {D N : Type 0} {d : discipline.Ghosts D N} {m : machine.Ghosts Plain N (PlainShape N) PlainOp (PlainStep N) (Unit {0}) (Unit {0})}
    (domain : PlainDomain D N) (p : PlainPass D N (PlainShape N) PlainOp (PlainStep N) (Unit {0}) (Unit {0}) d m) (h : IsPassOf domain p)
  where
    abbrev b : Bounds
    b = domain_bounds domain

    abbrev s : PlainView N
    s = shows domain.board p.pass

    -- a hold's slot has its row, and its node is that of the row
    pub hold_in : (hold : Hold) → Holds (seat_of domain p).slots hold → (slice_get p.slots hold.slot ≡ Some (Some hold.row))
        × (id_in (seat_of domain p).slots hold ≡ index_of hold.row s.rows)
    hold_in hold e = row_in s.rows p.slots hold.slot (record { row = hold.row; id = id_in (seat_of domain p).slots hold }) e

    pub hold_given : (hold : Hold) → Holds (seat_of domain p).slots hold → index_of hold.row s.rows < length s.rows
    hold_given hold e = held_given domain p h hold.slot hold.row (hold_in hold e).0

    pub hold_known : (hold : Hold) → Holds (seat_of domain p).slots hold → KnowsRow b s hold.row
    hold_known hold e = h.keeps.known hold.slot hold.row (hold_in hold e).0

    pub hold_below : (hold : Hold) → Holds (seat_of domain p).slots hold → hold.row < b.rows
    hold_below hold e = (tie domain p h).inside (index_of hold.row s.rows) hold.row (at_index hold.row s.rows (hold_given hold e))

    -- the hold of the fresh node is of the fresh row
    pub hold_fresh : (hold : Hold) → HoldsFresh (seat_of domain p) hold → s.fresh ≡ Some hold.row
    hold_fresh hold e = went s.fresh refl (fresh_given domain p h) (e.fresh ∙ ap Some (hold_in hold e.held).1)
      where
        went : (fresh : Option ℕ) → s.fresh ≡ fresh → Given s.rows fresh → id_by s.rows fresh ≡ Some (index_of hold.row s.rows) → s.fresh ≡ Some hold.row
        went None is g f = cc
        went (Some row) is g f =
            is ∙ ap Some (one_row s.rows row hold.row g (hold_given hold e.held) (some_one (index_of row s.rows) (index_of hold.row s.rows) f))

    pub place_known : (at : At) → HoldsPlace (domain_numbers domain) (seat_of domain p).slots at → KnowsPlace b s (word_at at)
    place_known (AtRoot r) l = l
    place_known (AtNode hold) e = hold_known hold.now e
    place_known (AtSide hold) e = let two : b.links ≡ 2 = e.1 in (hold_known hold.now e.0, omega (arith, two))

    pub place_is : (at : At) → HoldsPlace (domain_numbers domain) (seat_of domain p).slots at → place_by s.rows (word_at at) ≡ place_in (seat_of domain p).slots at
    place_is (AtRoot r) l = refl
    place_is (AtNode hold) e = ap Next (sym (hold_in hold.now e).1)
    place_is (AtSide hold) e = ap Side (sym (hold_in hold.now e.0).1)

    pub want_known : (want : Want) → HoldsWant (seat_of domain p).slots want → KnowsTarget b s (row_link want)
    want_known (WantNull mark) e = tt
    want_known (WantNode hold mark) e = hold_known hold.now e

    pub want_is : (want : Want) → HoldsWant (seat_of domain p).slots want → link_by s.rows (row_link want) ≡ link_in (seat_of domain p).slots want
    want_is (WantNull mark) e = refl
    want_is (WantNode hold mark) e = ap (λ (id : ℕ). record { to = Some id; mark = mark }) (sym (hold_in hold.now e).1)

    pub want_given : (want : Want) → HoldsWant (seat_of domain p).slots want → Given s.rows (row_link want).to
    want_given (WantNull mark) e = tt
    want_given (WantNode hold mark) e = hold_given hold.now e

    pub want_low : (want : Want) → HoldsWant (seat_of domain p).slots want → ForSome (row_link want).to (λ row. row < b.rows)
    want_low (WantNull mark) e row is = cc
    want_low (WantNode hold mark) e row is = subst (λ r. r < b.rows) (some_one hold.now.row row is) (hold_below hold.now e)

    pub target_known : (to : Option (Bor Hold)) → HoldsTarget (seat_of domain p) to → KnowsTarget b s (target_link to)
    target_known None e = tt
    target_known (Some hold) e = hold_known hold.now e.0

    pub target_is : (to : Option (Bor Hold)) → HoldsTarget (seat_of domain p) to → id_by s.rows (target_link to).to ≡ target_in (seat_of domain p).slots to
    target_is None e = refl
    target_is (Some hold) e = ap Some (sym (hold_in hold.now e.0).1)

    pub target_plain : (to : Option (Bor Hold)) → (target_link to).mark ≡ false
    target_plain None = refl
    target_plain (Some hold) = refl

    -- the target isn't the fresh row
    pub target_other : (to : Option (Bor Hold)) (row : ℕ) → HoldsTarget (seat_of domain p) to → s.fresh ≡ Some row → (target_link to).to ≢ Some row
    target_other None row e f same = cc
    target_other (Some hold) row e f same = e.1 (ap (id_by s.rows) (f ∙ sym same) ∙ ap Some (sym (hold_in hold.now e.0).1))
