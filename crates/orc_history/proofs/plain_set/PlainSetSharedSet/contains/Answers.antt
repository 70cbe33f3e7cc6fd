use Rattle.std.proofs.Common.{arith, sym, ◌∙◌}
use Rattle.orc_history.specs.declared.set.SetEntry.TheVariants.{Asked}
use Rattle.orc_history.proofs.SetHistories.{has-IsPermutation}
use Rattle.orc_history.proofs.StateAfter.{HoldsSet-snoc, IsSetPass-after}
use Rattle.orc_history.proofs.plain_set.PlainSetSharedSet.contains.Goals as goal

pub invariant_of-p : goal.invariant_of-p
invariant_of-p c =
    let same = c.p.invariant.0.keys_are in
    rw c.push_reserved.ensures.items (
      HoldsSet-snoc _ _ _ _ (Asked _ _ _) c.p.invariant.0 c.p.invariant.0.keys_fit c.p.invariant.0.keys_rise same
          (c.has_key-yes.ensures ∙ sym (has-IsPermutation _ _ _ same), tt),
      omega arith,
      omega arith,
    )

pub returns-clause-usable : goal.returns-clause-usable
returns-clause-usable c = IsSetPass-after _ _ _ _ c.requires c.p.view_is (invariant_of-p c).0.legal

pub returns-clause-answer : goal.returns-clause-answer
returns-clause-answer c = rw (← c.p.view_is) (c.has_key-yes.ensures ∙ sym (has-IsPermutation _ _ _ c.p.invariant.0.keys_are))
