-- Where no other agent has a step in the part of a settling, nothing is left to its agent.
use Rattle.std.proofs.Common.{List, [], ap, append_assoc, subst, sym, true, ℕ, ◌++◌, ◌∙◌, ◌∷◌, ◌≡◌}
use Rattle.std.proofs.lemmas.Bool.{eqb-true}
use Rattle.std.proofs.lemmas.List.{append_cancel_left}
use Rattle.std.specs.List.{list_all}
use Rattle.std.specs.Prelude.{◌==◌}
use Rattle.orc_machine_rest.proofs.Makes.{apart}
use Rattle.orc_machine_rest.specs.Parts.{SawSteps, Settles}
use Rattle.orc_core.proofs.Within.{and_both}
use Rattle.orc_core.specs.Machine.{record_at}
use Rattle.orc_core.specs.declared.ops.Op.{Op}
use Rattle.orc_heap.proofs.Steps.{cut_at_part}
use Rattle.orc_history.specs.Parts.{IsAlone}
use Rattle.orc_machine_board.specs.Rules.{run_of}
use Rattle.orc_machine_board.specs.Views.{MachineView}
use Rattle.orc_rest.specs.Records.{IsDone}
use Rattle.orc_rest.specs.Turns.{AllOf, NoneOf}
use Rattle.orc_sound.proofs.Journals.{plain-append}
use Rattle.orc_sound.specs.Journals.{plain}
use Rattle.orc_sound.specs.declared.steps.Step.{Step}
use Rattle.orc_words.specs.Bounds.{Bounds}

-- the steps of such a part: those of others, and then the agent's own alone
pub record Parts (a : ℕ) (steps : List (ℕ × Op)) : Type 0 where
  pub before : List (ℕ × Op)
  pub after : List (ℕ × Op)
  pub is : steps ≡ before ++ after
  pub others : NoneOf a before
  pub mine : AllOf a after

module _ {N : Type 0} where
  all_own : (a : ℕ) (ss : List (Step N)) → list_all (λ (s : Step N). s.agent == a) ss ≡ true → AllOf a (plain ss)
  all_own a [] h = tt
  all_own a (s ∷ ss) h =
      let b = and_both (s.agent == a) (list_all (λ (x : Step N). x.agent == a) ss) h in
      (eqb-true s.agent a b.0, all_own a ss b.1)

  pub alone_parts : (b : Bounds) (a : ℕ) (steps : List (ℕ × Op)) (s t : MachineView N) → SawSteps b a steps s t
      → IsAlone (λ (x : Step N). x.agent) a s.journal t.journal → Parts a steps
  alone_parts b a steps s t adds alone =
      let c = cut_at_part (λ (x : Step N). x.agent) a s.journal t.journal (adds.part, sym adds.journal) in
      let split : adds.part ≡ c.gap ++ c.part =
      append_cancel_left s.journal adds.part (c.gap ++ c.part) (sym adds.journal ∙ (c.is ∙ append_assoc s.journal c.gap c.part)) in
      let mine : list_all (λ (x : Step N). x.agent == a) c.part ≡ true = subst (λ l. list_all (λ (x : Step N). x.agent == a) l ≡ true) c.part_is alone in
      record {
        before = plain c.gap;
        after = plain c.part;
        is = sym adds.steps_are ∙ (ap plain split ∙ plain-append c.gap c.part);
        others = apart a c.gap c.others;
        mine = all_own a c.part mine;
      }

  pub alone_done : (b : Bounds) (a : ℕ) (s t : MachineView N) → Settles b a s t → IsAlone (λ (x : Step N). x.agent) a s.journal t.journal
      → IsDone (record_at (run_of b t.journal) a)
  alone_done b a s t p alone = let k = alone_parts b a p.settled.steps s t p.adds alone in p.settled.done k.before k.after k.is k.others k.mine
