-- What a load of a link finds.
use Rattle.std.proofs.Common.{Bool, List, None, Option, Some, [], ap, arith, refl, subst, sym, true, ℕ, ◌++◌, ◌<◌, ◌∙◌, ◌≡◌, ◌≤◌, ◌∷◌}
use Rattle.std.proofs.lemmas.Bool.{false≢true, lt-ltb, ltb-true}
use Rattle.std.specs.Option.{option_map}
use Rattle.std.specs.Prelude.{nat_lt, ◌/◌, ◌&&◌, ◌||◌}
use Rattle.orc_core.proofs.Within.{and_both, may_parts, may_within}
use Rattle.orc_core.specs.After.{promoted_at}
use Rattle.orc_core.specs.Allowed.{may, may_place}
use Rattle.orc_core.specs.Machine.{is_allowed, new_machine, record_at, word_in, word_read}
use Rattle.orc_core.specs.RecordParts.{any_holds, names}
use Rattle.orc_core.specs.declared.ops.Op.TheVariants.{LinkLoad}
use Rattle.orc_core.specs.declared.records.Agent.{Agent}
use Rattle.orc_heap.specs.Journals.{event_by}
use Rattle.orc_heap.specs.OwnEvents.{Only}
use Rattle.orc_heap.specs.declared.discipline.Discipline as discipline
use Rattle.orc_heap.specs.declared.events.Act.TheVariants.{Look}
use Rattle.orc_heap.specs.declared.events.Place.{Place}
use Rattle.orc_machine_board.proofs.Licences.{load_has, same_place}
use Rattle.orc_machine_board.specs.Kinds.{MayDo, asks, wants}
use Rattle.orc_machine_board.specs.Laws.Steps.{allowed_there, in_range}
use Rattle.orc_machine_board.specs.Licences.{ids_of}
use Rattle.orc_machine_board.specs.Rules.{RequestAllowed, bounds_in, run_of, step_of}
use Rattle.orc_machine_board.specs.Views.{Makes}
use Rattle.orc_machine_board.specs.declared.machine.MachineShape.{MachineShape}
use Rattle.orc_machine_board.specs.declared.machine.Request.{Request}
use Rattle.orc_projection.proofs.Mirrored.{ids-append}
use Rattle.orc_projection.proofs.OneRow.{root_links_out, row_links_out}
use Rattle.orc_projection.proofs.Shows.{small_word}
use Rattle.orc_projection.specs.PresentIds.{PresentIds, no_ids, node_link, node_place}
use Rattle.orc_projection.specs.Projection.{events_of, load_act, present_ids}
use Rattle.orc_projection.specs.Taken.{LinksOut}
use Rattle.orc_domain.proofs.Seats.{before_keep, calm_forced, only, step_events}
use Rattle.orc_domain.proofs.Stages.{Stage, before_lawful, before_out, before_record, seat}
use Rattle.orc_domain.specs.Seats.{IsCalm}
use Rattle.orc_sound.proofs.ForRuns.{next_step}
use Rattle.orc_sound.proofs.Journals.{plain_lawful}
use Rattle.orc_sound.proofs.Outs.{load_place, read_out}
use Rattle.orc_sound.proofs.Shown.{word_shown}
use Rattle.orc_sound.proofs.World.{world_of}
use Rattle.orc_sound.specs.Journals.{IsLawfulJournal, IsWanted, plain}
use Rattle.orc_sound.specs.Linked.{IsOut}
use Rattle.orc_sound.specs.declared.steps.Step.{Step}
use Rattle.orc_words.specs.Bounds.{Bounds, IsShape}
use Rattle.orc_words.specs.Packed.{link_of, link_word, named}
use Rattle.orc_words.specs.declared.packed.RowLink.{RowLink}
use Rattle.orc_words.specs.declared.place.Word.{Word}
use Rattle.orc_words.specs.declared.place.Word.TheVariants.{Enrolled, Next, Root, Side}

-- a calm agent may read a link at a root, or in a row that it has
pub load_may : (b : Bounds) (a : ℕ) (d : Agent) (w : Word) → a < b.agents → IsCalm d → may_place b w (λ r. any_holds d.slots r || names d.fresh r) ≡ true
    → may b 0 a (LinkLoad w None) d ≡ true
load_may b a d w h calm place =
    let agent = lt-ltb a b.agents h in
    let on = calm.enrolled in
    let first = calm_forced d (LinkLoad w None) calm in
    λ i. ((agent i && on i) && first i) && place i

-- a link that a word stands for names no row that no word can name
pub known_low : (l : RowLink) → link_of (link_word l) ≡ l → (r : ℕ) → l.to ≡ Some r → r < 65535
known_low l back r to = low (link_word l / 2) (ap (λ (k : RowLink). k.to) back ∙ to)
  where
    low : (n : ℕ) → named n ≡ Some r → r < 65535
    low n e = grind arith

module _ {N : Type 0} where
  -- the word is that of a link
  found_low : (b : Bounds) (j : List (Step N)) (a : ℕ) (w : Word) (slot : Option ℕ) → IsShape b → IsLawfulJournal (new_machine b) j
      → is_allowed (run_of b j) a (LinkLoad w slot) ≡ true → word_read (run_of b j) a (LinkLoad w slot) ≤ 131071
  found_low b j a w slot shape l can =
      let m = run_of b j in
      let z = world_of m in
      let step = next_step b (plain j) a (LinkLoad w slot) shape (plain_lawful (new_machine b) j l) can in
      let small = small_word m.bounds z w step.shape step.counted (read_out m.bounds z a w step.counted
      (load_place m.bounds (z.memory Enrolled) a w slot (z.seats a) step.fits)) in
      let same : z.memory w ≡ word_in m w = word_shown m w (may_within m.bounds (word_in m Enrolled) a (LinkLoad w slot) (record_at m a) can) in
      let low : word_in m w / 2 ≤ 65535 = subst (λ n. n / 2 ≤ 65535) same small in
      omega (arith, low)

  links_out_at : (b : Bounds) (j : List (Step N)) → IsShape b → IsLawfulJournal (new_machine b) j → (p : ℕ → Bool)
      → ((q : ℕ) → p q ≡ true → IsOut (run_of b j) q) → (w : Word) → may_place b w p ≡ true → LinksOut (run_of b j) (link_of (word_in (run_of b j) w))
  links_out_at b j shape l p h (Root i) e = root_links_out b j i shape l (ltb-true i b.roots e)
  links_out_at b j shape l p h (Next q) e = row_links_out b j q 0 shape l shape.links.0 (h q (and_both (nat_lt q b.rows) (p q) e).1)
  links_out_at b j shape l p h (Side q) e =
      let both = and_both (nat_lt q b.rows && nat_lt 1 b.links) (p q) e in
      row_links_out b j q 1 shape l (ltb-true 1 b.links (and_both (nat_lt q b.rows) (nat_lt 1 b.links) both.0).1) (h q both.1)
  links_out_at b j shape l p h w e = absurd (false≢true e)

module _ {D N : Type 0} {d : discipline.Ghosts D N} {k : MachineShape N} (s t : Stage d k) (w : Word) (slot : Option ℕ) (want : Option RowLink)
    (note : Option N) (n : ℕ)
    (m : Makes (bounds_in k) (wants (LinkLoad w slot) want) note s.view n t.view) (can : MayDo (bounds_in k) s.view (LinkLoad w slot))
    (held : IsWanted s.view.record_is (LinkLoad w slot) want) where
  abbrev b : Bounds
  b = bounds_in k

  abbrev q : Request
  q = wants (LinkLoad w slot) want

  abbrev j : List (Step N)
  j = s.view.journal ++ m.met

  pub is_low : n ≤ 131071
  is_low =
      let here : RequestAllowed b s.view.agent q (record_at (run_of b j) s.view.agent) = subst (RequestAllowed b s.view.agent q)
      (sym (before_record q note s t n m)) (record { may = can; enrolled = refl; wanted = held; plain = tt }) in
      subst (λ z. z ≤ 131071) (sym m.answer) (found_low b j s.view.agent w slot (in_range k.shape) (before_lawful q note s t n m)
      (allowed_there b j s.view.agent q here))

  -- a load leaves all present ids
  pub ids_same : ids_of b t.view ≡ present_ids b j
  ids_same = ap (present_ids b) m.journal ∙ ids-append (new_machine b) no_ids j (step_of s.view.agent q note ∷ [])

  -- the place stays what it was until the load
  pub place_there : (x : Place) → node_place (ids_of b s.view) w ≡ Some x → node_place (present_ids b j) w ≡ Some x
  place_there x at =
      let has = load_has b s.view.agent s.view.record_is w slot (may_parts b 0 s.view.agent (LinkLoad w slot) s.view.record_is can).fits in
      same_place (ids_of b s.view) (present_ids b j) s.view.record_is (before_keep q note s t n m) w has ∙ at

  pub load_events : (x : Place) → node_place (ids_of b s.view) w ≡ Some x
      → step_events q note s t n m ≡ events_of (step_of s.view.agent q note) (Some (load_act (present_ids b j) n want x))
  load_events x at =
      (λ i. events_of (step_of s.view.agent q note) (option_map (load_act (present_ids b j) (sym m.answer i) want) (place_there x at i)))

  -- what it finds names a row that is out
  pub found_out : LinksOut (run_of b j) (link_of n)
  found_out =
      let place = load_place b 0 s.view.agent w slot s.view.record_is (may_parts b 0 s.view.agent (LinkLoad w slot) s.view.record_is can).fits in
      subst (λ z. LinksOut (run_of b j) (link_of z)) (sym m.answer)
      (links_out_at b j (in_range k.shape) (before_lawful q note s t n m) (λ r. any_holds s.view.record_is.slots r || names s.view.record_is.fresh r)
      (before_out q note s t n m) w place)

module _ {D N : Type 0} {d : discipline.Ghosts D N} {k : MachineShape N} (s t : Stage d k) (w : Word) (slot : Option ℕ) (n : ℕ)
    (m : Makes (bounds_in k) (asks (LinkLoad w slot)) None s.view n t.view) (can : MayDo (bounds_in k) s.view (LinkLoad w slot)) where
  -- the event of a bare load: the link, as the pass then reads its row, is what the place shows
  pub look_event : (x : Place) → node_place (ids_of (bounds_in k) s.view) w ≡ Some x
      → step_events (asks (LinkLoad w slot)) None s t n m ≡ event_by s.view.agent (Look x (node_link (ids_of (bounds_in k) t.view) (link_of n))) None ∷ []
  look_event x at = load_events s t w slot None None n m can tt x at
      ∙ ap (λ (p : PresentIds). event_by s.view.agent (Look x (node_link p (link_of n))) None ∷ []) (sym (ids_same s t w slot None None n m can tt))

  pub looks_at : (x : Place) → node_place (ids_of (bounds_in k) s.view) w ≡ Some x → slot ≡ None
      → Only (event_by s.view.agent (Look x (node_link (ids_of (bounds_in k) t.view) (link_of n))) None ∷ []) (seat s) (seat t)
  looks_at x at bare =
      let bare_slots : t.view.record_is.slots ≡ s.view.record_is.slots = ap (λ (e : Agent). e.slots) m.record_is
      ∙ ap (λ z. promoted_at z s.view.record_is.slots (word_read (run_of (bounds_in k) (s.view.journal ++ m.met)) s.view.agent (LinkLoad w slot))) bare in
      subst (λ es. Only es (seat s) (seat t)) (look_event x at)
      (only (asks (LinkLoad w slot)) None s t n m bare_slots (ap (λ (e : Agent). e.fresh) m.record_is))
