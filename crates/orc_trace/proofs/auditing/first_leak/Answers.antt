use Rattle.std.proofs.Common.{false, refl, rules, subst, ℕ, ◌≡◌}
use Rattle.std.specs.Prelude.{None, Option, Some, is_some}
use Rattle.orc_core.specs.Machine.{Machine}
use Rattle.orc_trace.specs.Watched.{IsLeastLeak, LeakOn}
use Rattle.orc_trace.specs.declared.answers.Leak.{Leak}
use Rattle.orc_trace.proofs.auditing.first_leak.Goals as goal

-- where there was no leak, that of this state is the first
found : (m : Machine) (k r : ℕ) (before : Option Leak) → is_some before ≡ false → IsLeastLeak m (Some r) → LeakOn m k before (Some (record { after = k; row = r }))
found m k r None none least = (refl, least)
found m k r (Some l) none least = cc

pub returns-in-Some-clause-leak : goal.returns-in-Some-clause-leak
returns-in-Some-clause-leak c =
    let none : is_some c.args.before ≡ false = search rules in
    found c.args.state.now c.args.steps _ c.args.before none (subst (λ (o : Option ℕ). IsLeastLeak c.args.state.now o) c.in-Some.is c.leak_in.ensures.leak)
