-- The machine values of a pointer to a seat's box. Assumes `Logic`.
use Rattle.std.proofs.Common.{◌≡◌, ℕ, List, [], ◌∷◌, ◌++◌, refl, ap, ◌∙◌, Option, Some, None}
use Rattle.std.specs.Prelude.{IsSome}
use lib.Dec.{lit<}
use seplogic.Ra.Ura.{Ura}
use mir.Syntax.{impl, tnil, dnil}
use mir.Val.{Val, vptr, vstruct, of_list, has_ty}
use base.Logic.{never, fst∗}
use mir.Raw.{raw as bare}
use types.Logic.{Logic, sem}
use types.Kit.{Item, Goal, Seq, Step, step, ‵, ◌$◌, move, drop, fsplit, fjoin, fpick, fpack, rewrite, feq_i, feq_l}
use denote.RattleType.{RattleType, Valss}
use denote.Builtin.{RawPtr}
use denote.Memory.{lone}
use denote.RawPtr.{Ptr, block_ptr, null_ptr, ptr_val, in_a_block}
use denote.Steps.{nothing}
use denote.Param.{layout}
use denote.Param.Laws.{Laws}
use denote.Struct.Struct.{within}
use denote.Struct.Owning.{shape}
use Rattle.core.proofs.alloc.Calls.{Al, handle_tells}
use Rattle.core.proofs.cell.Inside.{Good}
use Rattle.std.specs.Global.{Global}
use Rattle.std_heap.specs.contracts.Global as heap
use Rattle.std_heap.proofs.Global.TheLaws as heap_laws
use Rattle.std_heap.specs.contracts.GlobalAllocator.TheImpl.{ghosts}
use Rattle.std_alloc.specs.Box.Ownership.{box_owns}
use Rattle.std_alloc.proofs.ResultValues.{and_tt}
use Rattle.raw_box.proofs.Values.{both}
use Rattle.mooringakee_c_passes.specs.Held.{held_box}
use Rattle.mooringakee_c_passes.specs.Seats.{IsSeat}
use Rattle.mooringakee_c_passes.specs.contracts.seat.Seat as inner
use Rattle.mooringakee_c_passes.specs.contracts.pointer.SeatPointer as pointer

abbrev pub Z : RattleType
Z = heap.the_row

abbrev pub LZ : Laws Z
LZ = heap_laws.the_row_laws

abbrev pub R : RattleType
R = inner.the_row

abbrev pub Row : RattleType
Row = pointer.the_row

abbrev pub al : Al
al = record { row = Z; laws = LZ; g = ghosts; d = impl [] tnil dnil; drops = impl [] tnil dnil }

pub some_seat : (seat : Option R.Denot) → IsSome seat → (x : R.Denot) × (seat ≡ Some x)
some_seat None h = cc h
some_seat (Some x) h = (x, refl)

pub pointer_good : (b o : ℕ) (h : Val) → Good (layout Z) h → Good (layout Row) (both (vptr b o) h)
pointer_good b o h fits = (and_tt (has_ty (layout Z) h) fits.0, (tt, (fits.1, tt)))

pub null_good : (h : Val) → Good (layout Z) h → Good (layout Row) (both (ptr_val null_ptr) h)
null_good h fits = (and_tt (has_ty (layout Z) h) fits.0, (record { fits = lit< tt }, (fits.1, tt)))

module _ {M : Type 1} {𝓤 : Ura M} {𝓛 : Logic 𝓤} {K : Type 0} {Γ : List (Item 𝓤)} {G : Goal 𝓤 𝓛.H} where
  pub pointer_in : K → (p : Ptr) (h : Val) (a : Global) (seat : Option R.Denot)
      → Step K 𝓛 (‵ (Row.own_val (record { at = p; alloc = a; seat = seat }) (both (ptr_val p) h ∷ [])) ∷ Γ) G (‵ (held_box a R IsSeat seat p) ∷ ‵ (Z.own_val a (h ∷ [])) ∷ Γ) G
  pointer_in t p h a seat = step (λ s. let v : Val = both (ptr_val p) h in
      nothing t $ move t (2 ∷ 0 ∷ []) $ fjoin t $ feq_i t (List Val) (ptr_val p ∷ []) (ptr_val p ∷ []) refl $ fjoin t $ feq_i t (List Val) (v ∷ []) (v ∷ []) refl $ fjoin t $
      fpack t (Valss (RawPtr ∷ heap.the_field.row ∷ [])) (within (shape pointer.the_type) (p, (heap.the_field.into a, tt)) (v ∷ [])) (ptr_val p ∷ [], (h ∷ [], tt)) $ fjoin t $ s)

  pub pointer_out : K → (d : Row.Denot) (vs : List Val) (x : R.Denot) → d.seat ≡ Some x
      → ((b o : ℕ) (h : Val) → IsSeat x → d.at ≡ block_ptr b o → vs ≡ both (vptr b o) h ∷ [] → Good (layout Z) h → Seq K 𝓛 (‵ (box_owns (ghosts.dealloc_token d.alloc) R (block_ptr b o) x) ∷ ‵ (Z.own_val d.alloc (h ∷ [])) ∷ Γ) G)
      → Seq K 𝓛 (‵ (Row.own_val d vs) ∷ Γ) G
  unfolding held_box
  pointer_out t d vs x seat k =
      fsplit t $ fpick t (λ vss. fsplit t $ feq_l t (λ ev. fsplit t $ feq_l t (λ ep. fsplit t $ handle_tells al t d.alloc vss.1.0 (λ h ea fits. move t (1 ∷ []) $ drop t $ move t (1 ∷ []) $
      rewrite t 0 (λ (s : Option R.Denot). ‵ (held_box d.alloc R IsSeat s d.at)) seat refl $ fpick t (λ good.
      in_a_block t d.at (λ p. box_owns (ghosts.dealloc_token d.alloc) R p x) (fst∗ 𝓤 (never 𝓤) (sem 𝓛 (ghosts.dealloc_token d.alloc (bare (lone R.mir)) null_ptr))) (λ b o e. k b o h good e
      (ev ∙ (λ j. vstruct (of_list ((ep ∙ ap (λ (p : Ptr). ptr_val p ∷ []) e) j ++ (ea j ++ []))) ∷ [])) fits))))))
