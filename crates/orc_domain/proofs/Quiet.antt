-- Looks at gates are no events, so that a journal goes on without one while its domain comes to rest.
use Rattle.std.proofs.Common.{All, List, None, [], ap, append-nil, append_assoc, arith, length, subst, suc, sym, zero, ℕ, ◌++◌, ◌<◌, ◌∙◌, ◌∷◌, ◌≡◌}
use mathlib.Core.List.{IsPrefix}
use Rattle.orc_words.specs.Bounds.{Bounds}
use Rattle.orc_core.specs.Machine.{new_machine}
use Rattle.orc_core.specs.declared.ops.Op.TheVariants.{GateLook}
use Rattle.orc_core.specs.declared.records.Agent.{Agent}
use Rattle.orc_sound.specs.declared.steps.Step.{Step}
use Rattle.orc_heap.specs.declared.discipline.Discipline as discipline
use Rattle.orc_projection.proofs.Mirrored.{project-append}
use Rattle.orc_projection.specs.PresentIds.{no_ids}
use Rattle.orc_projection.specs.Projection.{project}
use Rattle.orc_shared_words.specs.declared.machine.Machine as machine
use Rattle.orc_machine_board.specs.Rules.{does}
use Rattle.orc_machine_board.specs.declared.machine.MachineShape.{MachineShape}
use Rattle.orc_machine_board.specs.declared.machine.Reclaiming.{Reclaiming}
use Rattle.orc_machine_board.specs.declared.machine.Request.{Request}
use Rattle.orc_machine_rest.specs.Looks.{gate_looks}
use Rattle.orc_domain.specs.Ends.{whole_journal}
use Rattle.orc_domain.specs.Passes.{journal_of}
use Rattle.orc_domain.specs.declared.domain.OrcPass.{OrcPass}
use Rattle.orc_domain.specs.Rest.{GoesOnQuietly}

module _ {N : Type 0} (b : Bounds) where
  one_look : (j : List (Step N)) (a n : ℕ) → project b (j ++ does a (GateLook n) None ∷ []) ≡ project b j
  one_look j a n = project-append (new_machine b) no_ids j (does a (GateLook n) None ∷ []) ∙ append-nil (project b j)

  pub looks_quiet : (j : List (Step N)) (a n : ℕ) → project b (j ++ gate_looks a n) ≡ project b j
  looks_quiet j a zero = ap (project b) (append-nil j)
  looks_quiet j a (suc n) =
      ap (project b) (sym (append_assoc j (gate_looks a n) (does a (GateLook n) None ∷ [])))
      ∙ (one_look (j ++ gate_looks a n) a n ∙ looks_quiet j a n)

-- what goes on to this list goes on to what comes after it
pub goes_on_by : {N : Type 0} (before whole after looks : List (Step N)) → after ≡ whole ++ looks → IsPrefix before whole → IsPrefix before after
goes_on_by before whole after looks is p =
    (p.0 ++ looks, sym (append_assoc before p.0 looks) ∙ (ap (λ z. z ++ looks) p.1 ∙ sym is))

module _ {D N : Type 0} {d : discipline.Ghosts D N} {m : machine.Ghosts Reclaiming N (MachineShape N) Request (Step N) Agent Agent} where
  first_seen : (ps : List (OrcPass D N d m)) (seen : List (Step N)) → 0 < length ps
      → All (λ p. journal_of p ≡ seen) ps → whole_journal ps ≡ seen
  first_seen [] seen some same = absurd (omega (arith, some))
  first_seen (p ∷ ps) seen some same = same 0 p (omega arith)

  -- passes that have seen the same drain, and the first of them looks at the gates
  pub rests_quietly : (b : Bounds) (ps qs : List (OrcPass D N d m)) (seen after : List (Step N)) (n : ℕ)
      → 0 < length ps → All (λ p. journal_of p ≡ seen) ps → IsPrefix (whole_journal ps) (whole_journal qs)
      → project b (whole_journal qs) ≡ project b seen → after ≡ whole_journal qs ++ gate_looks 0 n → GoesOnQuietly b seen after
  rests_quietly b ps qs seen after n some same later quiet is = record {
    later = goes_on_by seen (whole_journal qs) after (gate_looks 0 n) is (subst (λ z. IsPrefix z (whole_journal qs)) (first_seen ps seen some same) later);
    quiet = ap (project b) is ∙ (looks_quiet b (whole_journal qs) 0 n ∙ quiet);
  }
