-- A link of a doomed row is taken out.
use Rattle.std.proofs.Common.{ap, false, refl, sym, true, ℕ, ◌∙◌, ◌≡◌}
use Rattle.std.proofs.lemmas.Bool.{eq-eqb, false≢true}
use Rattle.std.specs.Prelude.{None}
use Rattle.orc_core.specs.RecordParts.{names}
use Rattle.orc_core.specs.declared.ops.Op.TheVariants.{LinkStore}
use Rattle.orc_core.specs.declared.records.Agent.{Agent}
use Rattle.orc_projection.specs.PresentIds.{PresentIds}
use Rattle.orc_projection.specs.Projection.{act_of}
use Rattle.orc_rest.specs.Records.{IsDoomOf, IsStill}
use Rattle.orc_rest.specs.Work.{IsSettlingStep}
use Rattle.orc_words.specs.declared.place.Word.{Word}

pub cut_settles : (r number : ℕ) (d : Agent) (m : Word → ℕ) → IsDoomOf r number d.doom
    → IsSettlingStep m (LinkStore r (record { to = None; mark = false }) number) d
cut_settles r number d m e = (rw (e, eq-eqb r r refl, eq-eqb number number refl) refl, refl)

pub not_fresh : (r : ℕ) (d x : Agent) → d ≡ x → IsStill d → names x.fresh r ≡ true → ⊥
not_fresh r d x e s h = false≢true (ap (λ o. names o r) (sym s.calm.fresh) ∙ (ap (λ (y : Agent). names y.fresh r) e ∙ h))

pub no_fresh_act : (i : PresentIds) (d : Agent) (w r number : ℕ) → IsStill d
    → act_of i d w (LinkStore r (record { to = None; mark = false }) number) None ≡ None
no_fresh_act i d w r number s = rw s.calm.fresh refl
