-- An agent drains: what that is made of.
use Rattle.std.proofs.Common.{[], ap, arith, refl, subst, sym, ℕ, ◌++◌, ◌<◌, ◌∙◌, ◌∷◌, ◌≡◌}
use Rattle.orc_core.proofs.Steps.{run-append}
use Rattle.orc_core.specs.Machine.{Machine, word_in}
use Rattle.orc_core.specs.Runs.{IsLawful, run}
use Rattle.orc_core.specs.declared.ops.Op.TheVariants.{TakeIn}
use Rattle.orc_rest.proofs.TakingIn.{took_word}
use Rattle.orc_rest.specs.Drains.{Drained, TookIn}
use Rattle.orc_rest.proofs.Opening.{falls_apart}
use Rattle.orc_rest.proofs.Turns.{all_left, all_right, lawful_join, reached_others, still_no_slots}
use Rattle.orc_rest.specs.Rounds.{Settled}
use Rattle.orc_rest.specs.Turns.{IsReachedState, MadeAfterOthers}
use Rattle.orc_sound.proofs.AllFits.{run_bounds}
use Rattle.orc_words.specs.Bounds.{Bounds}
use Rattle.orc_words.specs.declared.place.Word.TheVariants.{Handover}

-- the first word is taken in, then the others, and then the agent settles
abbrev pub drained : (m f n o : Machine) (a : ℕ) → IsReachedState m → a < m.bounds.agents → MadeAfterOthers a (TakeIn 0) m f → TookIn a 1 f n → Settled a n o
    → Drained a m o
drained m f n o a r h k t g =
    let us = t.steps ++ g.steps in
    let ts = k.others ++ (a, TakeIn 0) ∷ [] in record {
      steps = ts ++ us;
      lawful =
          lawful_join m ts us k.lawful (subst (λ x. IsLawful x us) k.is
          (lawful_join f t.steps g.steps t.lawful (subst (λ x. IsLawful x g.steps) t.is g.lawful)));
      is = g.is ∙ (ap (λ x. run x g.steps) t.is ∙ (sym (run-append f t.steps g.steps) ∙ (ap (λ x. run x us) k.is ∙ sym (run-append m ts us))));
      done =
          λ x p is none all. let w =
          falls_apart m f a (TakeIn 0) us x p r tt refl k is none all in g.done [] g.steps refl tt (all_right a t.steps g.steps w.mine);
      hands = λ x p is none all.
          let w = falls_apart m f a (TakeIn 0) us x p r tt refl k is none all in
          let b = run_bounds m x in
          let taken : (j : ℕ) → j < 1 → word_in f (Handover a j) ≡ 0 = λ j l. subst (λ v. word_in v (Handover a j) ≡ 0) (sym w.begun.is)
          (took_word (run m x) a 0 j w.begun.reached (subst (λ (c : Bounds). a < c.agents) (sym b) h) w.begun.allowed (omega arith)
          (λ ne. absurd (ne (omega arith)))) in
          g.hands [] g.steps refl tt (all_right a t.steps g.steps w.mine) (t.hands (all_left a t.steps g.steps w.mine) taken);
      others = λ x p is none all z y i ly li ne zero.
          let w = falls_apart m f a (TakeIn 0) us x p r tt refl k is none all in
          let first : word_in f (Handover y i) ≡ 0 = subst (λ v. word_in v (Handover y i) ≡ 0) (sym w.begun.is)
          (reached_others (run m x) a (TakeIn 0) y i ly li ne w.begun.reached w.begun.allowed w.begun.settles z zero) in
          let slots = still_no_slots (run m x) f a ((a, TakeIn 0) ∷ []) (refl, tt) w.begun.is z in
          let c : f.bounds ≡ (run m x).bounds = ap (λ (v : Machine). v.bounds) w.begun.is in
          let lf = subst (λ (b : Bounds). y < b.agents) (sym c) ly in
          let second = t.others (all_left a t.steps g.steps w.mine) slots y i lf li ne first in
          let more = still_no_slots f n a t.steps (all_left a t.steps g.steps w.mine) t.is slots in
          g.others [] g.steps refl tt (all_right a t.steps g.steps w.mine) more y i (subst (λ (b : Bounds). y < b.agents) (sym t.bounds) lf) li ne second;
    }
