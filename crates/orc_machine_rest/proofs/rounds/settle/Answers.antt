use Rattle.std.proofs.Common.{arith, subst, sym, ◌*◌, ◌+◌}
use Rattle.orc_machine_rest.proofs.Passes.{done_so, pass_of}
use Rattle.orc_machine_rest.proofs.TakenIn.{taken_then}
use Rattle.orc_machine_rest.proofs.Taking.{both_done, both_leave, both_quiet}
use Rattle.orc_machine_rest.specs.Drains.{TakesInAndSettles}
use Rattle.orc_machine_rest.specs.OwnSteps.{AtMostMore, HasTakenIn, LeavesNothing, most_rounds, steps_a_round}
use Rattle.orc_machine_rest.specs.Parts.{NoEvents}
use Rattle.orc_machine_board.specs.Views.{board_bounds, shows}
use Rattle.orc_machine_rest.proofs.rounds.settle.Given.{Over}
use Rattle.orc_machine_rest.proofs.rounds.settle.Goals.{After-settle_all}
use Rattle.orc_machine_rest.proofs.rounds.settle.Goals as goal

-- it took in what was handed over beside slot 0, and settled
both : (g : Over) (c : After-settle_all g) → TakesInAndSettles (board_bounds c.args.board.now) c.agent-agent.result (shows c.args.p.now) (shows c.settle_all.new.p)
both g c = record { between = shows c.take_in.new.p; takes = c.take_in.ensures.takes; settles = c.settle_all.ensures.settles }

pub take_in-requires-clause-pass : goal.take_in-requires-clause-pass
take_in-requires-clause-pass g c = pass_of c.args.board.now c.agent-agent.result c.args.p.now c.requires.belongs (sym c.agent-agent.ensures)

pub returns-clause-settles : goal.returns-clause-settles
returns-clause-settles g c =
    subst (λ a. TakesInAndSettles (board_bounds c.args.board.now) a (shows c.args.p.now) (shows c.settle_all.new.p)) c.agent-agent.ensures
    (both g (goal.at.returns-clause-settles g c).After-settle_all)

pub returns-clause-quiet : goal.returns-clause-quiet
returns-clause-quiet g c =
    let b = board_bounds c.args.board.now in
    let s = shows c.args.p.now in
    let t = shows c.settle_all.new.p in
    subst (λ a. NoEvents b a s.journal t.journal) c.agent-agent.ensures (both_quiet b c.agent-agent.result s t
    (both g (goal.at.returns-clause-quiet g c).After-settle_all))

pub returns-clause-taken_in : goal.returns-clause-taken_in
returns-clause-taken_in g c =
    let b = board_bounds c.args.board.now in
    let s = shows c.args.p.now in
    let t = shows c.settle_all.new.p in
    subst (λ a. LeavesNothing a s.journal t.journal) c.agent-agent.ensures (both_leave b c.agent-agent.result s t
    (both g (goal.at.returns-clause-taken_in g c).After-settle_all))

pub returns-clause-done : goal.returns-clause-done
returns-clause-done g c = λ alone.
    let b = board_bounds c.args.board.now in
    let s = shows c.args.p.now in
    let t = shows c.settle_all.new.p in
    let its = c.agent-agent.ensures in
    let done = both_done b s.agent s t (subst (λ a. TakesInAndSettles b a s t) its (both g (goal.at.returns-clause-done g c).After-settle_all)) alone in
    done_so c.args.board.now c.settle_all.ensures.pass its done

pub returns-clause-slot_0 : goal.returns-clause-slot_0
returns-clause-slot_0 g c =
    let s = shows c.args.p.now in
    let t = shows c.settle_all.new.p in
    let rest = c.settle_all.ensures.settles.adds in
    subst (λ a. HasTakenIn a 0 s.journal t.journal) c.agent-agent.ensures (taken_then c.agent-agent.result 0 s.journal (shows c.take_in.new.p).journal t.journal
    c.take_in.ensures.taken_in (rest.part, sym rest.journal))

pub returns-clause-few : goal.returns-clause-few
returns-clause-few g c =
    let b = board_bounds c.args.board.now in
    let s = shows c.args.p.now in
    let t = shows c.settle_all.new.p in
    let one = c.take_in.ensures.few in
    let rest = c.settle_all.ensures.few in
    let few : AtMostMore c.agent-agent.result (1 + most_rounds b * steps_a_round b) s.journal t.journal = omega (arith, one, rest) in
    subst (λ a. AtMostMore a (1 + most_rounds b * steps_a_round b) s.journal t.journal) c.agent-agent.ensures few
