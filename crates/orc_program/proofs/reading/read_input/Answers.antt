use Rattle.std.proofs.Common.{◌≡◌, ◌⊎◌, Bool, IfOk, Ok, Err, Result, inl, inr, refl, subst, sym, true}
use Rattle.orc_options.specs.declared.settings.Mode.{Mode}
use Rattle.orc_options.specs.declared.settings.Mode.TheVariants as mode
use Rattle.orc_program.specs.Answers.{IsInput, reads}
use Rattle.orc_program.proofs.reading.read_input.Goals as goal

-- these modes read an input
read_modes : (m : Mode) → (m ≡ mode.Run) ⊎ (m ≡ mode.Replay) ⊎ (m ≡ mode.Audit) ⊎ (m ≡ mode.Watch) ⊎ (m ≡ mode.Stages) → reads m ≡ true
read_modes m (inl e) = rw e refl
read_modes m (inr (inl e)) = rw e refl
read_modes m (inr (inr (inl e))) = rw e refl
read_modes m (inr (inr (inr (inl e)))) = rw e refl
read_modes m (inr (inr (inr (inr e)))) = rw e refl

-- two facts of an answer
both : {T E : Type 0} (r : Result T E) (P Q : T → Type 0) → IfOk r P → IfOk r Q → IfOk r (λ v. P v × Q v)
both (Ok v) P Q p q = (p, q)
both (Err e) P Q p q = tt

pub returns-in-Run-clause-input : goal.returns-in-Run-clause-input
returns-in-Run-clause-input g c =
    subst (λ (b : Bool). IfOk c.read_all.result (λ v. IsInput b (g.S.Source.left c.args.source.now) (g.S.Source.left c.read_all.new.source) v.items))
    (sym (read_modes c.args.mode c.in-Run.is)) (both c.read_all.result _ _ c.read_all.ensures.bytes c.read_all.ensures.all)

pub returns-in-Run-clause-most : goal.returns-in-Run-clause-most
returns-in-Run-clause-most g c = c.read_all.ensures.most
