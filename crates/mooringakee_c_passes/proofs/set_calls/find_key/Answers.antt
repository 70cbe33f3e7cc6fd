-- What was answered was entered, and a refusal has its cause.
use Rattle.std.proofs.Common.{[], ◌∷◌}
use Rattle.orc_history.specs.declared.set.ListRefused.TheVariants.{Again}
use Rattle.orc_history.specs.declared.set.SetEntry.TheVariants.{Asked}
use Rattle.mooringakee_c_passes.proofs.SetAnswers.{entered, refused}
use Rattle.mooringakee_c_passes.proofs.set_calls.find_key.Goals as goal

pub returns-clause-answer : goal.returns-clause-answer
returns-clause-answer g c =
    let m = g.S.SharedSet in
    let set = c.args.set.now in
    let old = c.args.p.now in
    let new = c.contains.new.p in
    let told = c.in-Ok.ensures in
    entered m c.args.turns old new set (g.met.S.SharedSet.legal set new told.usable) told.agent (Asked (m.agent_of set old) c.args.key c.in-Ok.yes ∷ [])
    told.asked

pub returns-in_default-clause-answer : goal.returns-in_default-clause-answer
returns-in_default-clause-answer g c =
    let set = c.args.set.now in
    let new = c.contains.new.p in
    let told = c.in_default.ensures in
    refused g.S.SharedSet c.args.turns c.args.p.now new set (g.met.S.SharedSet.legal set new told.usable) told.agent Again told.none told.licence

pub returns-in_default-clause-usable : goal.returns-in_default-clause-usable
returns-in_default-clause-usable g c = c.in_default.ensures.usable

pub returns-clause-usable : goal.returns-clause-usable
returns-clause-usable g c = c.in-Ok.ensures.usable
