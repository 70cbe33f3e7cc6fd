-- A row's counter was read, and then a link is changed: what a caller names holds still, and what is told is told of the whole call.
use Rattle.std.proofs.Common.{Bool, List, None, Option, Some, [], ap, append_assoc, eq-eqb, eqb, false, refl, subst, sym, true, ℕ, ◌++◌, ◌∙◌, ◌≡◌, ◌≢◌, ◌∷◌}
use Rattle.std.proofs.lemmas.Bool.{false≢true}
use Rattle.std.specs.Borrow.{Bor}
use Rattle.std.specs.Option.{option_eq}
use Rattle.std.specs.Prelude.{Err, IfErr, Ok, Result, ◌||◌}
use Rattle.orc_core.specs.Allowed.{may_change}
use Rattle.orc_core.specs.RecordParts.{checked_below}
use Rattle.orc_core.specs.declared.records.Agent.{Agent}
use Rattle.orc_any_domain.specs.Aims.{MayAimAt, aim_at}
use Rattle.orc_heap.proofs.Calls.{Puts-trans}
use Rattle.orc_heap.proofs.Stays.{allowed-join, allowed-right}
use Rattle.orc_heap.specs.Allowed.{AllAllowed, Later}
use Rattle.orc_heap.specs.Calls.{MayMove, Swings, event_of, move_of}
use Rattle.orc_heap.specs.Heap.{shown}
use Rattle.orc_heap.specs.Journals.{FitsAfter, run_heap}
use Rattle.orc_heap.specs.OwnEvents.{Only, Puts}
use Rattle.orc_heap.specs.Seats.{HoldsFresh, HoldsTarget, Seat, link_in, place_in}
use Rattle.orc_heap.specs.Slots.{Hold}
use Rattle.orc_heap.specs.declared.discipline.Discipline as discipline
use Rattle.orc_heap.specs.declared.events.Act.TheVariants.{Miss}
use Rattle.orc_heap.specs.declared.events.Event.{Event}
use Rattle.orc_heap.specs.declared.holds.At.{At}
use Rattle.orc_heap.specs.declared.holds.Want.{Want}
use Rattle.orc_machine_board.specs.Rules.{bounds_in, heap_numbers}
use Rattle.orc_machine_board.specs.declared.machine.MachineShape.{MachineShape}
use Rattle.orc_domain.proofs.Protecting.{still_ready}
use Rattle.orc_domain.proofs.Seats.{by-append}
use Rattle.orc_domain.proofs.Stages.{Between, Stage, leaves_then, seat}
use Rattle.orc_domain.proofs.Untouched.{still_untouched}
use Rattle.orc_machine_rest.specs.OwnSteps.{LeavesNothing}
use Rattle.orc_domain.specs.Passes.{IsFreshUntouched}
use Rattle.orc_domain.specs.Searches.{Idles}

pub not_equal : (o : Option ℕ) (r : ℕ) → false ≡ option_eq eqb o (Some r) → o ≢ Some r
not_equal o r e same = false≢true (e ∙ (ap (λ u. option_eq eqb u (Some r)) same ∙ eq-eqb r r refl))

-- a link may keep its target
pub old_target : (d : Agent) (n r : ℕ) (from : Option ℕ) → true ≡ option_eq eqb from (Some r) → may_change d n from (Some r) ≡ true
old_target d n r None e = cc
old_target d n r (Some q) e = ap (λ t. t || checked_below d.checked r n) (sym e)

pub if_err_map : {T E : Type 0} {P Q : E → Type 0} (r : Result T E) → ((e : E) → P e → Q e) → IfErr r P → IfErr r Q
if_err_map (Ok x) f h = h
if_err_map (Err e) f h = f e h

module _ {D N : Type 0} {d : discipline.Ghosts D N} {k : MachineShape N} (s t : Stage d k) (idle : Idles (bounds_in k) s.view t.view) where
  pub read_untouched : IsFreshUntouched (heap_numbers k) (seat s) → IsFreshUntouched (heap_numbers k) (seat t)
  read_untouched u id e = still_untouched s t [] idle.only.puts (λ y. refl) id (u id (sym idle.only.fresh ∙ e))

  pub read_between : Between s → Between t
  read_between is = record { ready = still_ready s.view.record_is t.view.record_is idle.same is.ready; untouched = read_untouched is.untouched }

  -- what the pass showed before, with what it has seen since
  abbrev meanwhile : List (Event N) → Seat N
  meanwhile es = record { agent = s.view.agent; seen = es; slots = (seat s).slots; fresh = (seat s).fresh }

  same_seat : meanwhile (seat t).seen ≡ seat t
  same_seat = λ i. record {
    agent = sym idle.only.puts.agent i;
    seen = (seat t).seen;
    slots = sym idle.only.slots i;
    fresh = sym idle.only.fresh i;
  }

  pub fresh_on : (h : Hold) → HoldsFresh (seat s) h → HoldsFresh (seat t) h
  fresh_on h f = subst (λ z. HoldsFresh z h) same_seat (record { held = f.held; fresh = f.fresh })

  pub target_on : (to : Option (Bor Hold)) → HoldsTarget (seat s) to → HoldsTarget (seat t) to
  target_on to h = subst (λ z. HoldsTarget z to) same_seat (same_target to h)
    where
      same_target : (to : Option (Bor Hold)) → HoldsTarget (seat s) to → HoldsTarget (meanwhile (seat t).seen) to
      same_target None h = h
      same_target (Some x) h = h

  -- what is so in every later journal stays so as the pass sees more
  later_on : (P : List (Event N) → Type 0)
      → ((more : List (Event N)) → Later (d.may (heap_numbers k)) s.view.agent (seat s).seen more → P ((seat s).seen ++ more))
      → (more : List (Event N)) → Later (d.may (heap_numbers k)) s.view.agent ((seat s).seen ++ idle.only.puts.part) more
      → P (((seat s).seen ++ idle.only.puts.part) ++ more)
  later_on P h more l =
      let may = d.may (heap_numbers k) in
      let seen = (seat s).seen in
      let part = idle.only.puts.part in
      let met : AllAllowed may seen part = allowed-right may [] seen part (subst (AllAllowed may []) idle.only.puts.is t.each) in
      subst P (sym (append_assoc seen part more)) (h (part ++ more) (record {
        allowed = allowed-join may seen part more met l.allowed;
        others = by-append s.view.agent part more idle.only.puts.own_is ∙ l.others;
      }))

  pub move_on : (at : At) (from to : Want) (note : Option N) → MayMove (d.may (heap_numbers k)) (heap_numbers k) (seat s) at from to note
      → MayMove (d.may (heap_numbers k)) (heap_numbers k) (seat t) at from to note
  move_on at from to note h =
      let n = heap_numbers k in
      let wide : MayMove (d.may n) n (meanwhile ((seat s).seen ++ idle.only.puts.part)) at from to note = later_on
      (λ es. shown (run_heap n es) (place_in (seat s).slots at) ≡ Some (link_in (seat s).slots from) → d.may n es (move_of (seat s) at from to note)) h in
      subst (λ z. MayMove (d.may n) n z at from to note) same_seat
      (subst (λ es. MayMove (d.may n) n (meanwhile es) at from to note) (sym idle.only.puts.is) wide)

  pub aim_on : (number : ℕ) (h : Hold) (to : Option (Bor Hold)) → MayAimAt (d.may (heap_numbers k)) (heap_numbers k) (seat s) number h to
      → MayAimAt (d.may (heap_numbers k)) (heap_numbers k) (seat t) number h to
  aim_on number x to h =
      let n = heap_numbers k in
      let wide : MayAimAt (d.may n) n (meanwhile ((seat s).seen ++ idle.only.puts.part)) number x to = later_on
      (λ es. FitsAfter n es (aim_at (seat s) number x to) → d.may n es (aim_at (seat s) number x to)) h in
      subst (λ z. MayAimAt (d.may n) n z number x to) same_seat (subst (λ es. MayAimAt (d.may n) n (meanwhile es) number x to) (sym idle.only.puts.is) wide)

  -- what the second part tells is told of both
  first : Puts (seat s) [] (meanwhile (seat t).seen)
  first = record { part = idle.only.puts.part; is = idle.only.puts.is; agent = refl; own_is = idle.only.puts.own_is }

  pub leaves_both : (u : Stage d k) → LeavesNothing s.view.agent s.view.journal t.view.journal → LeavesNothing t.view.agent t.view.journal u.view.journal
      → LeavesNothing s.view.agent s.view.journal u.view.journal
  leaves_both u one two = leaves_then s.view.agent s.view.journal t.view.journal u.view.journal one
      (subst (λ a. LeavesNothing a t.view.journal u.view.journal) idle.only.puts.agent two)

  pub aims_both : (number : ℕ) (u : Stage d k) (h : Hold) (to : Option (Bor Hold)) → Only (aim_at (seat t) number h to ∷ []) (seat t) (seat u)
      → Only (aim_at (seat s) number h to ∷ []) (seat s) (seat u)
  aims_both number u h to o =
      let back : Only (aim_at (seat s) number h to ∷ []) (meanwhile (seat t).seen) (seat u) = subst (λ z. Only (aim_at z number h to ∷ []) z (seat u)) (sym same_seat) o in
      record {
        slots = back.slots;
        fresh = back.fresh;
        puts = Puts-trans (seat s) (meanwhile (seat t).seen) (seat u) [] (aim_at (seat s) number h to ∷ []) first back.puts;
      }

  pub swings_both : (u : Stage d k) (at : At) (from to : Want) (note : Option N) (done : Bool) → Swings at from to note (seat t) done (seat u)
      → Swings at from to note (seat s) done (seat u)
  swings_both u at from to note done w = cases done (subst (λ z. Swings at from to note z done (seat u)) (sym same_seat) w)
    where
      cases : (done : Bool) → Swings at from to note (meanwhile (seat t).seen) done (seat u) → Swings at from to note (seat s) done (seat u)
      cases true w = record {
        slots = w.slots;
        fresh = w.fresh;
        puts = Puts-trans (seat s) (meanwhile (seat t).seen) (seat u) [] (move_of (seat s) at from to note ∷ []) first w.puts;
      }
      cases false w = record {
        slots = w.slots;
        fresh = w.fresh;
        puts = record {
          found = w.puts.found;
          other = w.puts.other;
          puts = Puts-trans (seat s) (meanwhile (seat t).seen) (seat u) []
              (event_of (seat s) (Miss (place_in (seat s).slots at) (link_in (seat s).slots from) w.puts.found) None ∷ []) first w.puts.puts;
        };
      }
