-- One more step adds events of its agent alone.
use Rattle.std.proofs.Common.{List, None, Option, Some, [], ap, append-nil, refl, true, ◌++◌, ◌∙◌, ◌≡◌, ◌∷◌}
use Rattle.std.proofs.lemmas.Bool.{eq-eqb}
use Rattle.std.specs.List.{list_all}
use Rattle.std.specs.Prelude.{◌&&◌, ◌==◌}
use Rattle.orc_core.specs.Machine.{new_machine, record_at, word_read}
use Rattle.orc_heap.specs.declared.events.Act.{Act}
use Rattle.orc_heap.specs.declared.events.Event.{Event}
use Rattle.orc_machine_board.specs.Rules.{events_after, run_of}
use Rattle.orc_projection.proofs.Mirrored.{project-append}
use Rattle.orc_projection.specs.PresentIds.{no_ids}
use Rattle.orc_projection.specs.Projection.{act_of, events_of, present_ids, project}
use Rattle.orc_sound.specs.declared.steps.Step.{Step}
use Rattle.orc_words.specs.Bounds.{Bounds}

module _ {N : Type 0} where
  of_agent : (s : Step N) (o : Option Act) → list_all (λ (e : Event N). e.agent == s.agent) (events_of s o) ≡ true
  of_agent s None = refl
  of_agent s (Some act) = ap (λ z. z && true) (eq-eqb s.agent s.agent refl)

  pub one_more : (b : Bounds) (j : List (Step N)) (s : Step N)
      → (es : List (Event N)) × (project b (j ++ s ∷ []) ≡ project b j ++ es) × (list_all (λ (e : Event N). e.agent == s.agent) es ≡ true)
  one_more b j s = (
    events_after b j s,
    project-append (new_machine b) no_ids j (s ∷ []) ∙ ap (λ l. project b j ++ l) (append-nil (events_after b j s)),
    of_agent s (act_of (present_ids b j) (record_at (run_of b j) s.agent) (word_read (run_of b j) s.agent s.op) s.op s.want),
  )
