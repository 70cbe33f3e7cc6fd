-- A row that was published, with the second read of the link: what allows them, and how they end.
use Rattle.std.proofs.Common.{Bool, Some, false, refl, subst, sym, true, ℕ, ◌∙◌, ◌≡◌}
use Rattle.orc_core.specs.declared.records.Agent.{Agent}
use Rattle.orc_heap.specs.Calls.{Looks, MovesOn}
use Rattle.orc_heap.specs.Seats.{place_in}
use Rattle.orc_heap.specs.Slots.{Hold}
use Rattle.orc_heap.specs.declared.discipline.Discipline as discipline
use Rattle.orc_heap.specs.declared.holds.At.{At}
use Rattle.orc_heap.specs.declared.holds.Looked.TheVariants.{Moved, Stable}
use Rattle.orc_heap.specs.declared.holds.LookedOn.TheVariants.{Stays}
use Rattle.orc_machine_board.specs.Views.{Belongs}
use Rattle.orc_machine_board.specs.declared.board.MachineBoard.{MachineBoard}
use Rattle.orc_machine_board.specs.declared.machine.MachineShape.{MachineShape}
use Rattle.orc_machine_board.specs.declared.machine.Reclaiming.{Reclaiming}
use Rattle.orc_machine_board.specs.declared.machine.Request.{Request}
use Rattle.orc_domain.proofs.Following.{Again, Named, calm3, clear_can, held_ends, reload_can}
use Rattle.orc_domain.proofs.Looking.{Starts, loaded, look_held, look_moved, moved_ends, publish_can, published, stays_moved}
use Rattle.orc_domain.proofs.Ending.{Ends, stage_of}
use Rattle.orc_domain.proofs.Stages.{Stage, seat}
use Rattle.orc_domain.specs.Protections.{MayProtect, Pass, Protects, Published, Reread}
use Rattle.orc_shared_words.specs.declared.machine.Machine as machine
use Rattle.orc_sound.specs.declared.steps.Step.{Step}
use Rattle.orc_words.specs.declared.packed.RowLink.{RowLink}
use Rattle.orc_words.specs.declared.place.Word.{Word}

module _ {D N : Type 0} {d : discipline.Ghosts D N} {m : machine.Ghosts Reclaiming N (MachineShape N) Request (Step N) Agent Agent}
    {board : MachineBoard D N} {w : Word} {slot r : ℕ} where
  -- it is the same by another name of the link's word, of a marked link
  pub marked_by : {v : Word} {one two : RowLink} {same : Bool} {p q : Pass d m} → Protects board w slot r one same p q → w ≡ v → two.to ≡ Some r → two.mark ≡ true
      → one ≡ record { to = Some r; mark = true } → Protects board v slot r two same p q
  marked_by {v} {one} {two} {same} {p} {q} e at to mark is =
      subst (λ z. Protects board z slot r two same p q) at
      (subst (λ l. Protects board w slot r l same p q) (is ∙ (λ i. record { to = sym to i; mark = sym mark i })) e)

  -- after the first load
  module _ {one : RowLink} {p t : Pass d m} (in_p : Belongs board p) (in_t : Belongs board t) {at : At} (f : Starts (stage_of in_p) at w slot one (stage_of in_t))
      (to : one.to ≡ Some r) where
    is_named : (u : Pass d m) (e : Published board w slot r t u) → Named (stage_of in_p) (stage_of in_t) w slot r (stage_of e.belongs)
    is_named u e = published f to (stage_of e.belongs) e.number e.made

    is_again : (u y : Pass d m) (two : RowLink) (e : Published board w slot r t u) (z : Reread board w slot two u y)
        → Again (stage_of e.belongs) w slot two (stage_of z.belongs)
    is_again u y two e z = record { made = z.made; is = z.is }

    -- a look may protect the target of the link that its first load found
    pub may_protect : MayProtect board w slot r t
    may_protect = record {
      publish = publish_can f to;
      again = λ u e. reload_can (loaded f) to (is_named u e);
      calm = λ u y two e z. calm3 (loaded f) to (is_named u e) (is_again u y two e z);
      clear = λ u y two e z. clear_can (loaded f) to (is_named u e) (is_again u y two e z);
    }

-- a look whose first load found a link to this row, and which protected the row
pub record Followed {D N : Type 0} {d : discipline.Ghosts D N} {m : machine.Ghosts Reclaiming N (MachineShape N) Request (Step N) Agent Agent}
    {board : MachineBoard D N} {p t : Pass d m} (in_p : Belongs board p) (in_t : Belongs board t) (at : At) (w : Word) (slot r : ℕ) (one : RowLink)
    (same : Bool) (q : Pass d m) : Type 0 where
  pub starts : Starts (stage_of in_p) at w slot one (stage_of in_t)
  pub to : one.to ≡ Some r
  pub protects : Protects board w slot r one same t q

module _ {D N : Type 0} {d : discipline.Ghosts D N} {m : machine.Ghosts Reclaiming N (MachineShape N) Request (Step N) Agent Agent}
    {board : MachineBoard D N} {p t q : Pass d m} {in_p : Belongs board p} {in_t : Belongs board t} {at : At} {w : Word} {slot r : ℕ} {one : RowLink}
    {same : Bool} (e : Followed in_p in_t at w slot r one same q) where
  abbrev s : Stage d board.words.shape
  s = stage_of in_p

  its_name : Named s (stage_of in_t) w slot r (stage_of e.protects.published.belongs)
  its_name = is_named in_p in_t e.starts e.to e.protects.u e.protects.published

  -- the link was the same: the slot holds its target
  module _ (is : same ≡ true) where
    reread : Reread board w slot one e.protects.u q
    reread = subst (Reread board w slot one e.protects.u) (sym (e.protects.stays is).1)
        (subst (λ l. Reread board w slot l e.protects.u e.protects.y) (e.protects.stays is).0 e.protects.reread)

    pub in_held : Belongs board q
    in_held = reread.belongs

    its_again : Again (stage_of e.protects.published.belongs) w slot one (stage_of in_held)
    its_again = record { made = reread.made; is = reread.is }

    pub held : (h : Hold) → h ≡ record { row = r; slot = slot }
        → Looks (place_in (seat s).slots at) slot (seat s) (Stable (record { null = false; mark = one.mark }) (Some h)) (seat (stage_of in_held))
    held = look_held e.starts e.to its_name its_again refl

    pub held_so : Ends s (stage_of in_held)
    held_so = held_ends (loaded e.starts) e.to its_name its_again refl

  -- the link moved
  module _ (is : same ≡ false) (in_q : Belongs board q) where
    again_off : Again (stage_of e.protects.published.belongs) w slot e.protects.two (stage_of e.protects.reread.belongs)
    again_off = record { made = e.protects.reread.made; is = e.protects.reread.is }

    pub went_off : Looks (place_in (seat s).slots at) slot (seat s) Moved (seat (stage_of in_q))
    went_off = look_moved e.starts e.to its_name again_off (e.protects.moves is).0 (stage_of in_q) (e.protects.moves is).1

    pub stays_off : (from : Hold) → one.mark ≡ true → MovesOn (place_in (seat s).slots at) slot (seat s) from (Stays from Moved) (seat (stage_of in_q))
    stays_off = stays_moved e.starts e.to its_name again_off (e.protects.moves is).0 (stage_of in_q) (e.protects.moves is).1

    pub went_so : Ends s (stage_of in_q)
    went_so = moved_ends e.starts e.to its_name again_off (e.protects.moves is).0 (stage_of in_q) (e.protects.moves is).1
