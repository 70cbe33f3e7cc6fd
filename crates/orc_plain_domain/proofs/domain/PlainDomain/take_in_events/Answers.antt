use Rattle.std.proofs.Common.{rules, ◌≡◌, ◌<◌, length}
use Rattle.std.proofs.lemmas.List.{nil_from_length}
use Rattle.orc_any_domain.proofs.Lists.{first_removed}
use Rattle.orc_plain_domain.proofs.Resting.{taking_done, taking_next}
use Rattle.orc_plain_domain.proofs.domain.PlainDomain.take_in_events.Goals as goal

pub loop-rest-preserved : goal.loop-rest-preserved
loop-rest-preserved g c =
    let some : 0 < length c.loop-rest.rest.items = search rules in
    taking_next c.args.self.now c.args.into.now c.loop-rest.into c.args.others.items c.loop-rest.rest.items c.loop-rest.invariant
    c.remove-next.result (first_removed c.loop-rest.rest.items c.remove-next.result c.remove-next.ensures.value some) c.remove-next.new.self.items
    c.remove-next.ensures.items c.absorb.new.into c.absorb.ensures.into c.absorb.ensures.absorbs

pub returns-clause-taken : goal.returns-clause-taken
returns-clause-taken g c =
    let long : length c.loop-rest.rest.items ≡ 0 = search rules in
    taking_done c.args.self.now c.args.into.now c.loop-rest.into c.args.others.items c.loop-rest.rest.items c.loop-rest.invariant
    (nil_from_length c.loop-rest.rest.items long)

pub loop-rest-init : goal.loop-rest-init
loop-rest-init g c = record { pass = c.requires.into; others = c.requires.others; to_go = λ u k. k }

pub returns-clause-into : goal.returns-clause-into
returns-clause-into g c = c.loop-rest.invariant.pass
