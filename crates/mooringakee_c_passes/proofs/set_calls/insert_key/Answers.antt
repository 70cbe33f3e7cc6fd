-- What was answered was entered, and a refusal has its cause.
use Rattle.std.proofs.Common.{[], subst, ◌∷◌}
use Rattle.orc_history.specs.declared.set.ListRefused.{ListRefused}
use Rattle.orc_history.specs.declared.set.SetEntry.TheVariants.{Added}
use Rattle.mooringakee_c_passes.specs.SetCalls.{view_over}
use Rattle.mooringakee_c_passes.specs.Views.{RefusesCall}
use Rattle.mooringakee_c_passes.proofs.SetAnswers.{entered, refused}
use Rattle.mooringakee_c_passes.proofs.set_calls.insert_key.Goals as goal

pub returns-in-Ok-clause-answer : goal.returns-in-Ok-clause-answer
returns-in-Ok-clause-answer g c =
    let m = g.S.SharedSet in
    let set = c.args.set.now in
    let old = c.args.p.now in
    let new = c.insert.new.p in
    let told = c.in-Ok.ensures in
    entered m c.args.turns old new set (g.met.S.SharedSet.legal set new told.usable) told.agent (Added (m.agent_of set old) c.args.key c.in-Ok.yes ∷ [])
    told.added

pub returns-in-Err-Again-clause-answer : goal.returns-in-Err-Again-clause-answer
returns-in-Err-Again-clause-answer g c =
    let m = g.S.SharedSet in
    let set = c.args.set.now in
    let old = c.args.p.now in
    let new = c.insert.new.p in
    let told = c.in-Err-Again.ensures in
    subst (λ (why : ListRefused). RefusesCall (view_over m set c.args.turns old) why (view_over m set c.args.turns new)) c.in-Err-Again.field-0-is
    (refused m c.args.turns old new set (g.met.S.SharedSet.legal set new told.usable) told.agent c.in-Err-Again.field-0 told.none told.licence)

pub returns-in-Err-NoNode-clause-answer : goal.returns-in-Err-NoNode-clause-answer
returns-in-Err-NoNode-clause-answer g c =
    let m = g.S.SharedSet in
    let set = c.args.set.now in
    let old = c.args.p.now in
    let new = c.insert.new.p in
    let told = c.in-Err-NoNode.ensures in
    subst (λ (why : ListRefused). RefusesCall (view_over m set c.args.turns old) why (view_over m set c.args.turns new)) c.in-Err-NoNode.field-0-is
    (refused m c.args.turns old new set (g.met.S.SharedSet.legal set new told.usable) told.agent c.in-Err-NoNode.field-0 told.none told.licence)

pub returns-in-Err-Spent-clause-answer : goal.returns-in-Err-Spent-clause-answer
returns-in-Err-Spent-clause-answer g c =
    let m = g.S.SharedSet in
    let set = c.args.set.now in
    let old = c.args.p.now in
    let new = c.insert.new.p in
    let told = c.in-Err-Spent.ensures in (
      c.in-Err-Spent.field-0-0,
      subst (λ (why : ListRefused). RefusesCall (view_over m set c.args.turns old) why (view_over m set c.args.turns new)) c.in-Err-Spent.field-0-is
          (refused m c.args.turns old new set (g.met.S.SharedSet.legal set new told.usable) told.agent c.in-Err-Spent.field-0 told.none told.licence),
    )

pub returns-in-Ok-clause-usable : goal.returns-in-Ok-clause-usable
returns-in-Ok-clause-usable g c = c.in-Ok.ensures.usable

pub returns-in-Err-Again-clause-usable : goal.returns-in-Err-Again-clause-usable
returns-in-Err-Again-clause-usable g c = c.in-Err-Again.ensures.usable

pub returns-in-Err-NoNode-clause-usable : goal.returns-in-Err-NoNode-clause-usable
returns-in-Err-NoNode-clause-usable g c = c.in-Err-NoNode.ensures.usable

pub returns-in-Err-Spent-clause-usable : goal.returns-in-Err-Spent-clause-usable
returns-in-Err-Spent-clause-usable g c = c.in-Err-Spent.ensures.usable
