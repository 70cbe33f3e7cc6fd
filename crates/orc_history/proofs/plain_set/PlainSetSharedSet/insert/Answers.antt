use Rattle.std.proofs.Common.{rules, arith, ◌≡◌, ◌+◌, ◌≤◌, length, not, ap, sym, ◌∙◌}
use Rattle.std.proofs.lemmas.List.Sorted.{length_permutation, IsPermutation-trans}
use Rattle.orc_history.specs.PlainSet.{SetPassView, SetView}
use Rattle.orc_history.specs.declared.set.SetEntry.TheVariants.{Added}
use Rattle.orc_history.proofs.SetHistories.{has-IsPermutation, IsPermutation-with_key, length-with_key}
use Rattle.orc_history.proofs.StateAfter.{HoldsSet-snoc, IsSetPass-after}
use Rattle.orc_history.proofs.plain_set.PlainSetSharedSet.insert.Goals as goal

pub returns-then-len-self-clause-no_node : goal.returns-then-len-self-clause-no_node
returns-then-len-self-clause-no_node c = let full = length_permutation _ _ c.p.invariant.0.keys_are in search rules

pub invariant_of-p : goal.invariant_of-p
invariant_of-p c =
    let room : c.p.inside.room ≡ c.args.self.now.room = ap (λ (v : SetPassView). v.room) c.p.view_is ∙ c.requires.same_room in
    let own : c.self.inside.room ≡ c.args.self.now.room = ap (λ (v : SetView). v.room) c.self.view_is in
    let longer : length c.add_key-yes.new.keys.items ≤ length c.p.inside.keys.items + 1 =
    omega (arith, length_permutation _ _ c.add_key-yes.ensures.keys, length-with_key c.args.key c.add_key-yes.result c.p.inside.keys.items) in
    let fits : length c.add_key-yes.new.keys.items ≤ c.p.inside.room = omega (arith, longer, c.p.inside.keys.ok.0) in
    let same = c.p.invariant.0.keys_are in
    rw c.push_reserved.ensures.items (
      HoldsSet-snoc _ _ _ _ (Added _ _ _) c.p.invariant.0 fits c.add_key-yes.ensures.rising
          (IsPermutation-trans _ _ _ (IsPermutation-with_key _ _ _ _ same) c.add_key-yes.ensures.keys)
          (c.add_key-yes.ensures.answer ∙ ap not (sym (has-IsPermutation _ _ _ same)), tt),
      omega arith,
      omega arith,
    )

pub returns-clause-usable : goal.returns-clause-usable
returns-clause-usable c = IsSetPass-after _ _ _ _ c.requires c.p.view_is (invariant_of-p c).0.legal

pub returns-clause-no_node : goal.returns-clause-no_node
returns-clause-no_node c = let full = length_permutation _ _ c.p.invariant.0.keys_are in search rules

pub returns-clause-answer : goal.returns-clause-answer
returns-clause-answer c = rw (← c.p.view_is) (c.add_key-yes.ensures.answer ∙ ap not (sym (has-IsPermutation _ _ _ c.p.invariant.0.keys_are)))
