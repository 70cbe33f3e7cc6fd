-- A load that tests a link.
use Rattle.std.proofs.Common.{Bool, List, None, Option, Some, [], ap, arith, false, refl, subst, sym, true, ℕ, ◌++◌, ◌<◌, ◌∙◌, ◌≡◌, ◌∷◌}
use Rattle.std.proofs.lemmas.Bool.{eqb-true}
use Rattle.std.specs.Prelude.{if◌then◌else◌, ◌==◌}
use Rattle.orc_core.specs.declared.ops.Op.TheVariants.{LinkLoad}
use Rattle.orc_core.specs.declared.records.Agent.{Agent}
use Rattle.orc_any_domain.specs.Names.{row_link, word_at}
use Rattle.orc_heap.specs.Allowed.{AllowedLater}
use Rattle.orc_heap.specs.Calls.{Tests, look_of}
use Rattle.orc_heap.specs.Journals.{FitsAfter, event_by}
use Rattle.orc_heap.specs.OwnEvents.{Only, Puts}
use Rattle.orc_heap.specs.Seats.{HoldsPlace, HoldsWant, link_in, place_in}
use Rattle.orc_heap.specs.declared.discipline.Discipline as discipline
use Rattle.orc_heap.specs.declared.events.Act.{Act}
use Rattle.orc_heap.specs.declared.events.Act.TheVariants.{Look, Miss}
use Rattle.orc_heap.specs.declared.events.Link.{Link}
use Rattle.orc_heap.specs.declared.events.Place.{Place}
use Rattle.orc_heap.specs.declared.holds.At.{At}
use Rattle.orc_heap.specs.declared.holds.Want.{Want}
use Rattle.orc_heap.specs.declared.holds.Want.TheVariants.{Node as WantNode, Null as WantNull}
use Rattle.orc_machine_board.proofs.Events.{event_fits}
use Rattle.orc_machine_board.proofs.Licences.{same_link}
use Rattle.orc_machine_board.specs.Holding.{HasTarget}
use Rattle.orc_machine_board.specs.Kinds.{MayDo, wants}
use Rattle.orc_machine_board.specs.Laws.Steps.{in_range}
use Rattle.orc_machine_board.specs.Licences.{LookAllowed, ids_of}
use Rattle.orc_machine_board.specs.Rules.{bounds_in, heap_numbers, step_of}
use Rattle.orc_machine_board.specs.Views.{Makes}
use Rattle.orc_machine_board.specs.declared.machine.MachineShape.{MachineShape}
use Rattle.orc_machine_board.specs.declared.machine.Request.{Request}
use Rattle.orc_projection.proofs.Links.{link_back}
use Rattle.orc_projection.specs.PresentIds.{node_link}
use Rattle.orc_projection.specs.Projection.{StoresUnmarked, events_of, load_act, present_ids, project}
use Rattle.orc_domain.proofs.Held.{hold_has, hold_low, hold_slot, link_named, place_may, place_named}
use Rattle.orc_domain.proofs.Loading.{load_events, load_may}
use Rattle.orc_domain.proofs.Seats.{before_keep, only, ready_calm, slot_holds, step_events}
use Rattle.orc_domain.proofs.Stages.{Between, Stage, its_step, seat, whole_lawful}
use Rattle.orc_domain.proofs.Untouched.{still_between}
use Rattle.orc_domain.specs.Seats.{IsBetweenCalls}
use Rattle.orc_shared_words.specs.Lists.{Each}
use Rattle.orc_sound.specs.Journals.{IsHeldOrNull}
use Rattle.orc_sound.specs.declared.steps.Step.{Step}
use Rattle.orc_words.specs.Bounds.{Bounds}
use Rattle.orc_words.specs.Packed.{link_of, link_word}

module _ {D N : Type 0} {d : discipline.Ghosts D N} {k : MachineShape N} (s : Stage d k) where
  -- a link that a caller names is null, or to a row that the agent holds
  pub want_held : (w : Want) → HoldsWant (seat s).slots w → IsHeldOrNull s.view.record_is (row_link w).to
  want_held (WantNull mark) e = tt
  want_held (WantNode h mark) e = slot_holds s.view.record_is.slots h.now.slot h.now.row (hold_slot s h.now e).0

  pub want_has : (w : Want) → HoldsWant (seat s).slots w → HasTarget s.view.record_is (row_link w).to
  want_has (WantNull mark) e = tt
  want_has (WantNode h mark) e = hold_has s h.now e

  pub want_low : (w : Want) → HoldsWant (seat s).slots w → (r : ℕ) → (row_link w).to ≡ Some r → r < 65535
  want_low (WantNull mark) e r to = cc
  want_low (WantNode h mark) e r to =
      let low = hold_low s h.now e in
      let same : h.now.row ≡ r = cc in
      let few = (in_range k.shape).rows.1 in
      omega (arith, low, same, few)

  -- what the discipline allows by nodes is allowed by rows
  pub look_allowed : (at : At) (w : Want) (note : Option N) → HoldsPlace (heap_numbers k) (seat s).slots at → HoldsWant (seat s).slots w
      → AllowedLater (d.may (heap_numbers k)) (heap_numbers k) s.view.agent (seat s).seen (place_in (seat s).slots at) (link_in (seat s).slots w)
      (look_of (seat s) at w note)
      → LookAllowed (d.may (heap_numbers k)) (bounds_in k) s.view (word_at at) (row_link w) note
  look_allowed at w note there held allowed place is =
      let p = ids_of (bounds_in k) s.view in
      let one : Some (place_in (seat s).slots at) ≡ Some place = sym (place_named p (heap_numbers k) s.view.record_is.slots at there) ∙ is in
      let same : place_in (seat s).slots at ≡ place = cc in
      let link = link_named p s.view.record_is.slots w held in
      subst (λ (z : Place × Link). AllowedLater (d.may (heap_numbers k)) (heap_numbers k) s.view.agent (seat s).seen z.0 z.1
      (event_by s.view.agent (Look z.0 z.1) note))
      (λ i. (same i, sym link i)) allowed

module _ {D N : Type 0} {d : discipline.Ghosts D N} {k : MachineShape N} (s t : Stage d k) (at : At) (w : Want) (note : Option N) (n : ℕ)
    (m : Makes (bounds_in k) (wants (LinkLoad (word_at at) None) (Some (row_link w))) note s.view n t.view)
    (there : HoldsPlace (heap_numbers k) (seat s).slots at) (held : HoldsWant (seat s).slots w) (ready : IsBetweenCalls s.view.record_is) where
  abbrev b : Bounds
  b = bounds_in k

  abbrev q : Request
  q = wants (LinkLoad (word_at at) None) (Some (row_link w))

  abbrev j : List (Step N)
  j = s.view.journal ++ m.met

  abbrev place : Place
  place = place_in (seat s).slots at

  can : MayDo b s.view (LinkLoad (word_at at) None)
  can = load_may b s.view.agent s.view.record_is (word_at at) s.number (ready_calm s.view.record_is ready) (place_may s at there)

  events : step_events q note s t n m ≡ events_of (step_of s.view.agent q note) (Some (load_act (present_ids b j) n (Some (row_link w)) place))
  events = load_events s t (word_at at) None (Some (row_link w)) note n m can (want_held s w held) place
      (place_named (ids_of b s.view) (heap_numbers k) s.view.record_is.slots at there)

  -- the wanted link, as nodes, at the load
  wanted : node_link (present_ids b j) (row_link w) ≡ link_in (seat s).slots w
  wanted = same_link (ids_of b s.view) (present_ids b j) s.view.record_is (before_keep q note s t n m) (row_link w) (want_has s w held)
      ∙ link_named (ids_of b s.view) s.view.record_is.slots w held

  unchanged : Only (step_events q note s t n m) (seat s) (seat t)
  unchanged = only q note s t n m (ap (λ (e : Agent). e.slots) m.record_is) (ap (λ (e : Agent). e.fresh) m.record_is)

  -- the event that the load put
  abbrev found_act : Bool → Act
  found_act done = if done then Look place (node_link (present_ids b j) (link_of n)) else Miss place (node_link (present_ids b j) (row_link w))
      (node_link (present_ids b j) (link_of n))

  fits : Each (FitsAfter (heap_numbers k) (project b j)) (step_events q note s t n m)
  fits = event_fits b j (its_step q note s t n m) (in_range k.shape) (whole_lawful q note s t n m) (subst StoresUnmarked m.journal t.unmarked)

  tests_so : (done : Bool) → (n == link_word (row_link w)) ≡ done → Tests at w note (seat s) done (seat t)
  tests_so true e =
      let is : n ≡ link_word (row_link w) = eqb-true n (link_word (row_link w)) e in
      let link : node_link (present_ids b j) (link_of n) ≡ link_in (seat s).slots w = ap (λ z. node_link (present_ids b j) (link_of z)) is
      ∙ (ap (node_link (present_ids b j)) (link_back (row_link w) (want_low s w held)) ∙ wanted) in
      let one : step_events q note s t n m ≡ look_of (seat s) at w note ∷ [] = events
      ∙ (ap (λ z. events_of (step_of s.view.agent q note) (Some (found_act z))) e ∙ ap (λ l. event_by s.view.agent (Look place l) note ∷ []) link) in
      record { slots = unchanged.slots; fresh = unchanged.fresh; puts = subst (λ es. Puts (seat s) es (seat t)) one unchanged.puts }
  tests_so false e =
      let found : Link = node_link (present_ids b j) (link_of n) in
      let one : step_events q note s t n m ≡ event_by s.view.agent (Miss place (node_link (present_ids b j) (row_link w)) found) None ∷ [] = events
      ∙ ap (λ z. events_of (step_of s.view.agent q note) (Some (found_act z))) e in
      let two : step_events q note s t n m ≡ event_by s.view.agent (Miss place (link_in (seat s).slots w) found) None ∷ [] = one
      ∙ ap (λ l. event_by s.view.agent (Miss place l found) None ∷ []) wanted in
      let fit = subst (Each (FitsAfter (heap_numbers k) (project b j))) two fits in
      record {
        slots = unchanged.slots;
        fresh = unchanged.fresh;
        puts = record { found = found; other = fit.1; puts = subst (λ es. Puts (seat s) es (seat t)) two unchanged.puts };
      }

  pub tests : (packed : ℕ) → packed ≡ link_word (row_link w) → Tests at w note (seat s) (n == packed) (seat t)
  tests packed is = subst (λ z. Tests at w note (seat s) (n == z) (seat t)) (sym is) (tests_so (n == link_word (row_link w)) refl)

  tested : (done : Bool) → Between s → Tests at w note (seat s) done (seat t) → Between t
  tested true is x = still_between s t _ is x.puts x.fresh (λ id. refl) (subst IsBetweenCalls (sym m.record_is) is.ready)
  tested false is x = still_between s t _ is x.puts.puts x.fresh (λ id. refl) (subst IsBetweenCalls (sym m.record_is) is.ready)

  pub tests_between : Between s → Between t
  tests_between is = tested (n == link_word (row_link w)) is (tests_so (n == link_word (row_link w)) refl)
