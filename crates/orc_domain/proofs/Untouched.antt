-- The fresh node of a pass stays untouched.
use Rattle.std.proofs.Common.{List, Option, [], ap, false, subst, sym, true, ℕ, ◌++◌, ◌∙◌, ◌≡◌}
use Rattle.std.specs.List.{list_any}
use Rattle.std.specs.Option.{option_map}
use Rattle.std.proofs.lemmas.Bool.{or_right}
use Rattle.orc_core.specs.RecordParts.{any_holds, names}
use Rattle.orc_heap.proofs.Fresh.{own_node_told}
use Rattle.orc_heap.proofs.Stays.{allowed-left, allowed-right}
use Rattle.orc_heap.specs.Allowed.{AllAllowed, events_by}
use Rattle.orc_heap.specs.Journals.{points_to, run_heap}
use Rattle.orc_heap.specs.OwnEvents.{Puts}
use Rattle.orc_heap.specs.Seats.{IsUntouched}
use Rattle.orc_heap.specs.declared.discipline.Discipline as discipline
use Rattle.orc_heap.specs.declared.events.Event.{Event}
use Rattle.orc_machine_board.proofs.Licences.{signed}
use Rattle.orc_machine_board.specs.Laws.Steps.{counted_obeys}
use Rattle.orc_machine_board.specs.Licences.{ids_of}
use Rattle.orc_machine_board.specs.Rules.{bounds_in, counted_rules, heap_numbers, step_of}
use Rattle.orc_machine_board.specs.Views.{Makes}
use Rattle.orc_machine_board.specs.declared.machine.MachineShape.{MachineShape}
use Rattle.orc_machine_board.specs.declared.machine.Request.{Request}
use Rattle.orc_projection.proofs.Links.{names-some}
use Rattle.orc_projection.specs.Projection.{present_ids, project}
use Rattle.orc_domain.proofs.Seats.{before_keep}
use Rattle.orc_domain.proofs.Stages.{Between, Stage, seat}
use Rattle.orc_domain.specs.Seats.{IsBetweenCalls}
use Rattle.orc_shared_words.proofs.Events.{others_add}
use Rattle.orc_sound.specs.declared.steps.Step.{Step}

module _ {D N : Type 0} (d : discipline.Ghosts D N) (k : MachineShape N) where
  -- over allowed events, of which the agent's own make no link to it
  pub untouched_more : (a id : ℕ) (es more : List (Event N)) → d.holds (heap_numbers k) es → AllAllowed (d.may (heap_numbers k)) es more
      → list_any (λ e. points_to e.act id) (events_by a more) ≡ false → IsUntouched a (run_heap (heap_numbers k) es) id
      → IsUntouched a (run_heap (heap_numbers k) (es ++ more)) id
  untouched_more a id es more h all away u =
      let n = heap_numbers k in
      let told = own_node_told n (d.holds n) (d.may n) (d.keeps n) (d.fits n) (d.moves_linked n) a id es more u.node h all
      (record { there = u.there; own = record { mine = u.mine; unnamed = u.unnamed; unlinked = u.unlinked } }) away in
      record { node = _; there = told.there; mine = told.own.mine; unnamed = told.own.unnamed; unlinked = told.own.unlinked }

module _ {D N : Type 0} {d : discipline.Ghosts D N} {k : MachineShape N} where
  -- over a part of a call that makes no link to it
  pub untouched_at : (s t : Stage d k) (own : List (Event N)) → Puts (seat s) own (seat t) → (id : ℕ) → list_any (λ e. points_to e.act id) own ≡ false
      → IsUntouched s.view.agent (run_heap (heap_numbers k) (seat s).seen) id → IsUntouched t.view.agent (run_heap (heap_numbers k) (seat t).seen) id
  untouched_at s t own p id away u =
      let allowed = allowed-right (d.may (heap_numbers k)) [] (seat s).seen p.part (subst (AllAllowed (d.may (heap_numbers k)) []) p.is t.each) in
      subst (λ (z : ℕ × List (Event N)). IsUntouched z.0 (run_heap (heap_numbers k) z.1) id) (λ i. (sym p.agent i, sym p.is i))
      (untouched_more d k s.view.agent id (seat s).seen p.part s.kept allowed (ap (λ es. list_any (λ e. points_to e.act id) es) p.own_is ∙ away) u)

  -- over a part that makes no link to a fresh node
  pub still_untouched : (s t : Stage d k) (own : List (Event N)) → Puts (seat s) own (seat t) → ((id : ℕ) → list_any (λ e. points_to e.act id) own ≡ false)
      → (id : ℕ) → IsUntouched s.view.agent (run_heap (heap_numbers k) (seat s).seen) id
      → IsUntouched t.view.agent (run_heap (heap_numbers k) (seat t).seen) id
  still_untouched s t own p away id u = untouched_at s t own p id (away id) u

  -- a call that keeps the fresh node, and makes no link to it
  pub still_between : (s t : Stage d k) (own : List (Event N)) → Between s → Puts (seat s) own (seat t) → (seat t).fresh ≡ (seat s).fresh
      → ((id : ℕ) → list_any (λ e. points_to e.act id) own ≡ false) → IsBetweenCalls t.view.record_is → Between t
  still_between s t own h p fresh away ready = record {
    ready = ready;
    untouched = λ id e. still_untouched s t own p away id (h.untouched id (sym fresh ∙ e));
  }

-- until a step of its own
module _ {D N : Type 0} {d : discipline.Ghosts D N} {k : MachineShape N} (q : Request) (note : Option N) (s t : Stage d k) (n : ℕ)
    (m : Makes (bounds_in k) q note s.view n t.view) (between : Between s) (r : ℕ) (fresh : names s.view.record_is.fresh r ≡ true) where
  abbrev j : List (Step N)
  j = s.view.journal ++ m.met

  pub untouched_before : IsUntouched s.view.agent (run_heap (heap_numbers k) (project (bounds_in k) j)) ((present_ids (bounds_in k) j).node r)
  untouched_before =
      let b = bounds_in k in
      let n0 = heap_numbers k in
      let id : ℕ = (ids_of b s.view).node r in
      let has = or_right (any_holds s.view.record_is.slots r) (names s.view.record_is.fresh r) fresh in
      let more = others_add counted_rules k (counted_obeys k) (signed b) s.view.agent s.view.journal m.met m.others in
      let all1 : AllAllowed (d.may n0) [] (project b j) = allowed-left (d.may n0) [] (project b j) _ (subst (AllAllowed (d.may n0) [])
      (ap (project b) m.journal ∙ (counted_obeys k).project_next j (step_of s.view.agent q note)) t.each) in
      let all2 = allowed-right (d.may n0) [] (project b s.view.journal) more.0 (subst (AllAllowed (d.may n0) []) more.2 all1) in
      let u0 = between.untouched id (ap (option_map (ids_of b s.view).node) (names-some s.view.record_is.fresh r fresh)) in
      let u1 = untouched_more d k s.view.agent id (project b s.view.journal) more.0 s.kept all2 (ap (λ es. list_any (λ e. points_to e.act id) es) more.1) u0 in
      subst (λ (z : ℕ). IsUntouched s.view.agent (run_heap n0 (project b j)) z) (sym (before_keep q note s t n m r has))
      (subst (λ es. IsUntouched s.view.agent (run_heap n0 es) id) (sym more.2) u1)
