-- A pass that learns: what it has seen is longer, with no step of its own that is new.
use Rattle.std.proofs.Common.{List, [], ap, append-nil, arith, inl, inr, length, length-append, refl, subst, sym, ⊎_elim, ℕ, ◌++◌, ◌∙◌, ◌≡◌, ◌∷◌}
use mathlib.Core.List.{IsPrefix}
use Rattle.std.proofs.lemmas.Bool.{or_right}
use Rattle.orc_core.specs.RecordParts.{any_holds, names}
use Rattle.orc_core.specs.declared.records.Agent.{Agent}
use Rattle.orc_heap.specs.Allowed.{events_by}
use Rattle.orc_heap.specs.Calls.{Learns}
use Rattle.orc_heap.specs.OwnEvents.{Only}
use Rattle.orc_heap.specs.declared.discipline.Discipline as discipline
use Rattle.orc_heap.specs.declared.events.Event.{Event}
use Rattle.orc_history.specs.Journals.{own_of}
use Rattle.orc_machine_board.proofs.Holds.{node_stays}
use Rattle.orc_machine_board.proofs.Licences.{has_either, signed}
use Rattle.orc_machine_board.specs.Holding.{HasRow}
use Rattle.orc_machine_board.specs.Laws.Steps.{counted_obeys, in_range}
use Rattle.orc_machine_board.specs.Licences.{ids_of}
use Rattle.orc_machine_board.specs.Passes.{LearnsSteps, SameButSteps, steps_of}
use Rattle.orc_machine_board.specs.Rules.{bounds_in, counted_rules}
use Rattle.orc_machine_board.specs.declared.machine.MachineShape.{MachineShape}
use Rattle.orc_core.specs.Machine.{new_machine}
use Rattle.orc_projection.specs.Projection.{present_ids, project}
use Rattle.orc_sound.specs.Journals.{IsLawfulJournal}
use Rattle.orc_domain.proofs.Seats.{same_fresh, same_slots}
use Rattle.orc_domain.proofs.Stages.{Between, Stage, seat}
use Rattle.orc_domain.proofs.Untouched.{still_between}
use Rattle.orc_domain.specs.Seats.{IsBetweenCalls, slot_by}
use Rattle.orc_shared_words.proofs.Events.{others_add}
use Rattle.orc_shared_words.proofs.Runs.{own_of-append}
use Rattle.orc_sound.specs.declared.steps.Step.{Step}
use Rattle.std.specs.Option.{option_map}
use Rattle.std.specs.Prelude.{map}

added_none : {A : Type 0} (xs ys : List A) → xs ++ ys ≡ xs → ys ≡ []
added_none xs ys e = none ys (let l = ap length e in omega (arith, l, length-append xs ys))
  where
    none : {A : Type 0} (ys : List A) → length ys ≡ 0 → ys ≡ []
    none [] e = refl
    none (y ∷ ys) e = absurd (omega (arith, e))

module _ {D N : Type 0} {d : discipline.Ghosts D N} {k : MachineShape N} where
  -- without a new step of its own, a pass shows the same but for what it has seen
  pub grown : (s t : Stage d k) → SameButSteps s.view t.view → IsPrefix s.view.journal t.view.journal → Only [] (seat s) (seat t)
  grown s t same (more, is) =
      let b = bounds_in k in
      let a = s.view.agent in
      let none : own_of (λ (x : Step N). x.agent) a more ≡ [] = added_none (steps_of a s.view.journal) (steps_of a more)
      (sym (own_of-append (λ (x : Step N). x.agent) a s.view.journal more) ∙ (ap (steps_of a) is ∙ same.own)) in
      let met = others_add counted_rules k (counted_obeys k) (signed b) a s.view.journal more none in
      let lawful = subst (λ l. IsLawfulJournal (new_machine b) l) (sym is) t.lawful in
      let keep : (r : ℕ) → HasRow s.view.record_is r → (ids_of b t.view).node r ≡ (ids_of b s.view).node r = λ r has.
      ap (λ l. (present_ids b l).node r) (sym is)
      ∙ node_stays b s.view.journal more a r (in_range k.shape) lawful s.number none (subst (λ e. HasRow e r) (sym s.mine) has) in
      let e = s.view.record_is in
      record {
        slots = ap (λ (z : Agent). map (slot_by (ids_of b t.view)) z.slots) same.record_is
            ∙ same_slots (ids_of b s.view) (ids_of b t.view) e.slots (λ y h. keep y (has_either (any_holds e.slots y) (names e.fresh y) h));
        fresh = ap (λ (z : Agent). option_map (ids_of b t.view).node z.fresh) same.record_is
            ∙ same_fresh (ids_of b s.view) (ids_of b t.view) e.fresh (λ y h. keep y (or_right (any_holds e.slots y) (names e.fresh y) h));
        puts = record { part = met.0; is = ap (project b) (sym is) ∙ met.2; agent = same.agent; own_is = met.1 };
      }

  pub grown_between : (s t : Stage d k) → SameButSteps s.view t.view → IsPrefix s.view.journal t.view.journal → Between s → Between t
  grown_between s t same later is =
      let g = grown s t same later in
      still_between s t [] is g.puts g.fresh (λ id. refl) (subst IsBetweenCalls (sym same.record_is) is.ready)

  own_kept : (s t : Stage d k) → Only [] (seat s) (seat t) → events_by s.view.agent (seat t).seen ≡ events_by s.view.agent (seat s).seen
  own_kept s t o = ap (events_by s.view.agent) o.puts.is
      ∙ (own_of-append (λ (z : Event N). z.agent) s.view.agent (seat s).seen o.puts.part
      ∙ (ap (λ z. events_by s.view.agent (seat s).seen ++ z) o.puts.own_is ∙ append-nil (events_by s.view.agent (seat s).seen)))

  module _ (s u t w : Stage d k) (l : LearnsSteps s.view u.view t.view w.view) where
    self : (j : List (Step N)) → IsPrefix j j
    self j = ([], append-nil j)

    pub first_later : IsPrefix s.view.journal t.view.journal
    first_later = ⊎_elim (λ h. subst (IsPrefix s.view.journal) (sym h.1) (self s.view.journal)) (λ h. subst (IsPrefix s.view.journal) (sym h.1) h.0) l.longer

    pub second_later : IsPrefix u.view.journal w.view.journal
    second_later = subst (IsPrefix u.view.journal) (sym l.both)
        (⊎_elim (λ h. subst (IsPrefix u.view.journal) (sym h.1) h.0) (λ h. subst (IsPrefix u.view.journal) (sym h.1) (self u.view.journal)) l.longer)

    one : Only [] (seat s) (seat t)
    one = grown s t l.into first_later

    two : Only [] (seat u) (seat w)
    two = grown u w l.from second_later

    same_list : (seat t).seen ≡ (seat w).seen
    same_list = ap (project (bounds_in k)) (sym l.both)

    pub learns : Learns (λ (x : Step N). x.agent) (seat s) (seat u) (seat t) (seat w) s.view.journal u.view.journal t.view.journal w.view.journal
    learns = record {
      agents = (l.into.agent, l.from.agent);
      slots = (one.slots, two.slots);
      fresh = (one.fresh, two.fresh);
      one_journal = sym l.both;
      longer = record { of_both = ⊎_elim (λ h. inr (h.0, h.1)) (λ h. inl (h.0, h.1)) l.longer };
      steps = (l.into.own, ap (steps_of u.view.agent) (sym l.both) ∙ l.from.own);
      one_list = same_list;
      longer_list = record {
        of_both = ⊎_elim
            (λ h. inr ((two.puts.part, sym two.puts.is ∙ (sym same_list ∙ ap (project (bounds_in k)) h.1)), ap (project (bounds_in k)) h.1))
            (λ h. inl ((one.puts.part, sym one.puts.is ∙ ap (project (bounds_in k)) h.1), ap (project (bounds_in k)) h.1))
            l.longer;
      };
      events = (own_kept s t one, ap (events_by u.view.agent) same_list ∙ own_kept u w two);
    }
