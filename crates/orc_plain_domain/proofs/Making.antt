-- New passes, which hold nothing.
use Rattle.std.proofs.Common.{All, ◌≡◌, ℕ, zero, suc, ◌<◌, List, ◌∷◌, length, replicate, Option, Some, None, slice_get, slice_index_or, refl, sym, ap, ◌∙◌, subst, ◌%◌}
use Rattle.orc_any_domain.specs.Turns.{first_row}
use Rattle.orc_words.specs.Bounds.{Bounds, bounds_of}
use Rattle.orc_words.specs.declared.shape.Shape.{Shape}
use Rattle.orc_heap.specs.Seats.{IsIdle}
use Rattle.orc_heap.specs.declared.discipline.Discipline as discipline
use Rattle.orc_shared_words.specs.Lists.{EachAt, EachFrom}
use Rattle.orc_shared_words.specs.declared.machine.Machine as machine
use Rattle.orc_plain_board.specs.Machine.{id_by}
use Rattle.orc_plain_board.specs.Views.{Belongs, shows, shows_by}
use Rattle.orc_plain_board.specs.declared.machine.Plain.{Plain}
use Rattle.orc_plain_board.specs.declared.machine.PlainOp.{PlainOp}
use Rattle.orc_plain_board.specs.declared.machine.PlainStep.{PlainStep}
use Rattle.orc_plain_board.specs.declared.pass.PlainBoardPass.{PlainBoardPass as BoardPass}
use Rattle.orc_plain_board.specs.declared.shape.PlainShape.{PlainShape}
use Rattle.orc_plain_domain.specs.Passes.{IsPassOf, domain_bounds, seat_of}
use Rattle.orc_plain_domain.specs.declared.domain.PlainDomain.{PlainDomain}
use Rattle.orc_plain_domain.specs.declared.domain.PlainPass.{PlainPass}
use Rattle.orc_plain_domain.specs.Rows.{slots_by}

none_there : (n slot row : ℕ) → slice_get (replicate n None) slot ≡ Some (Some row) → ⊥
none_there zero slot row e = cc
none_there (suc n) zero row e = cc
none_there (suc n) (suc slot) row e = none_there n slot row e

slots_none : (rows : List ℕ) (n : ℕ) → slots_by rows (replicate n None) ≡ replicate n None
slots_none rows zero = refl
slots_none rows (suc n) = ap (λ z. None ∷ z) (slots_none rows n)

module _ {D N : Type 0} {d : discipline.Ghosts D N} {m : machine.Ghosts Plain N (PlainShape N) PlainOp (PlainStep N) (Unit {0}) (Unit {0})}
    (domain : PlainDomain D N) (xs : List (PlainPass D N (PlainShape N) PlainOp (PlainStep N) (Unit {0}) (Unit {0}) d m))
    (ys : List (BoardPass D N (PlainShape N) PlainOp (PlainStep N) (Unit {0}) (Unit {0}) d m))
    (long : length xs ≡ length ys) (same : EachFrom (λ (p : PlainPass D N (PlainShape N) PlainOp (PlainStep N) (Unit {0}) (Unit {0}) d m). p.pass) xs ys)
  where
    -- what holds of each pass of the board holds of the passes of the domain
    pub each_pass : (P : (BoardPass D N (PlainShape N) PlainOp (PlainStep N) (Unit {0}) (Unit {0}) d m) → Type 0) → All P ys
        → All (λ (p : PlainPass D N (PlainShape N) PlainOp (PlainStep N) (Unit {0}) (Unit {0}) d m). P p.pass) xs
    each_pass P all i p l = let k : i < length ys = subst (λ n. i < n) long l in subst P (sym (same i p p.pass k)) (all i p.pass k)

    pub each_at : (P : ℕ → (BoardPass D N (PlainShape N) PlainOp (PlainStep N) (Unit {0}) (Unit {0}) d m) → Type 0) → EachAt P ys
        → EachAt (λ i (p : PlainPass D N (PlainShape N) PlainOp (PlainStep N) (Unit {0}) (Unit {0}) d m). P i p.pass) xs
    each_at P all i p l = let k : i < length ys = subst (λ n. i < n) long l in subst (P i) (sym (same i p p.pass k)) (all i p.pass k)

    pub all_belong : (asked : Bounds) → domain_bounds domain ≡ asked
        → All (λ (q : BoardPass D N (PlainShape N) PlainOp (PlainStep N) (Unit {0}) (Unit {0}) d m). Belongs domain.board q) ys
        → All (λ (p : PlainPass D N (PlainShape N) PlainOp (PlainStep N) (Unit {0}) (Unit {0}) d m). p.slots ≡ replicate 8 None) xs
        → All (λ (p : PlainPass D N (PlainShape N) PlainOp (PlainStep N) (Unit {0}) (Unit {0}) d m). p.next < asked.rows) xs
        → All (λ (p : PlainPass D N (PlainShape N) PlainOp (PlainStep N) (Unit {0}) (Unit {0}) d m). bounds_of p.shape ≡ asked) xs
        → All (λ (p : PlainPass D N (PlainShape N) PlainOp (PlainStep N) (Unit {0}) (Unit {0}) d m). IsPassOf domain p) xs
    all_belong asked bounds belong slots next shape i p l = record {
      board = each_pass (λ q. Belongs domain.board q) belong i p l;
      shape = shape i p l ∙ sym bounds;
      keeps = record {
        eight = ap (λ (z : List (Option ℕ)). length z) (slots i p l);
        known = λ slot row e. absurd (none_there 8 slot row (subst (λ (z : List (Option ℕ)). slice_get z slot ≡ Some (Some row)) (slots i p l) e));
        inside = subst (λ (b : Bounds). (slice_index_or xs i p).next < b.rows) (sym bounds) (next i p l);
      };
    }

    pub all_idle : All (λ (q : BoardPass D N (PlainShape N) PlainOp (PlainStep N) (Unit {0}) (Unit {0}) d m). (shows domain.board q).fresh ≡ None) ys
        → All (λ (p : PlainPass D N (PlainShape N) PlainOp (PlainStep N) (Unit {0}) (Unit {0}) d m). p.slots ≡ replicate 8 None) xs
        → All (λ (p : PlainPass D N (PlainShape N) PlainOp (PlainStep N) (Unit {0}) (Unit {0}) d m). IsIdle (seat_of domain p)) xs
    all_idle fresh slots i p l =
        let q = slice_index_or xs i p in record {
          slots = ap (slots_by (shows domain.board q.pass).rows) (slots i p l) ∙ slots_none (shows domain.board q.pass).rows 8;
          fresh = ap (id_by (shows domain.board q.pass).rows) (each_pass (λ r. (shows domain.board r).fresh ≡ None) fresh i p l);
        }

module _ {D N : Type 0} where
  abbrev DomainPass : (d : discipline.Ghosts D N) → machine.Ghosts Plain N (PlainShape N) PlainOp (PlainStep N) (Unit {0}) (Unit {0}) → Type 0
  DomainPass d m = PlainPass D N (PlainShape N) PlainOp (PlainStep N) (Unit {0}) (Unit {0}) d m

  abbrev OwnPass : (d : discipline.Ghosts D N) → machine.Ghosts Plain N (PlainShape N) PlainOp (PlainStep N) (Unit {0}) (Unit {0}) → Type 0
  OwnPass d m = BoardPass D N (PlainShape N) PlainOp (PlainStep N) (Unit {0}) (Unit {0}) d m

module _ {D N : Type 0} {d : discipline.Ghosts D N} {m : machine.Ghosts Plain N (PlainShape N) PlainOp (PlainStep N) (Unit {0}) (Unit {0})} where
  -- the domain's new pass of a pass of the board
  abbrev pub first_pass : Shape → OwnPass d m → DomainPass d m
  first_pass s q = record {
    pass = q;
    slots = replicate 8 None;
    next = first_row (bounds_of s) (shows_by (bounds_of s) q).agent % (bounds_of s).rows;
    shape = s;
  }
