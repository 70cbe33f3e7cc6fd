use Rattle.std.proofs.Common.{rules, ◌≡◌, ◌++◌, ◌∷◌, [], arith, length-append}
use Rattle.orc_pipeline.proofs.Ahead.{empty_one}
use Rattle.orc_pipeline.proofs.queues.empty_desks.Goals as goal

pub loop-desk-preserved : goal.loop-desk-preserved
loop-desk-preserved g c =
    let is : c.push.new.self.items ≡ c.loop-desk.desks.items ++ record { passes = c.new.result } ∷ [] = search rules in
    record {
      fresh = empty_one g.Q.SharedQueue _ _ _ is (search rules) c.loop-desk.invariant.fresh;
      many = rw is (omega (arith, c.loop-desk.invariant.many, length-append c.loop-desk.desks.items (record { passes = c.new.result } ∷ [])));
    }
