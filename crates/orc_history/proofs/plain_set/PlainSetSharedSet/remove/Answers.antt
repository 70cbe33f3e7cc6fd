use Rattle.std.proofs.Common.{arith, ◌≤◌, length, ap, sym, ◌∙◌}
use Rattle.orc_history.specs.declared.set.SetEntry.TheVariants.{Removed}
use Rattle.orc_history.proofs.SetHistories.{has-IsPermutation, IsPermutation-without_key, length-without_key}
use Rattle.orc_history.proofs.StateAfter.{HoldsSet-snoc, IsSetPass-after}
use Rattle.orc_history.proofs.plain_set.PlainSetSharedSet.remove.Goals as goal

pub invariant_of-p : goal.invariant_of-p
invariant_of-p c =
    let left = c.take_key-yes.ensures.keys in
    let fits : length c.take_key-yes.new.keys.items ≤ c.p.inside.room =
    omega (arith, ap length left, length-without_key c.args.key c.take_key-yes.result c.p.inside.keys.items, c.p.invariant.0.keys_fit) in
    let same = c.p.invariant.0.keys_are in
    rw c.push_reserved.ensures.items (
      HoldsSet-snoc _ _ _ _ (Removed _ _ _) c.p.invariant.0 fits c.take_key-yes.ensures.rising
          (rw left (IsPermutation-without_key _ _ _ _ same))
          (c.take_key-yes.ensures.answer ∙ sym (has-IsPermutation _ _ _ same), tt),
      omega arith,
      omega arith,
    )

pub returns-clause-usable : goal.returns-clause-usable
returns-clause-usable c = IsSetPass-after _ _ _ _ c.requires c.p.view_is (invariant_of-p c).0.legal

pub returns-clause-answer : goal.returns-clause-answer
returns-clause-answer c = rw (← c.p.view_is) (c.take_key-yes.ensures.answer ∙ sym (has-IsPermutation _ _ _ c.p.invariant.0.keys_are))
