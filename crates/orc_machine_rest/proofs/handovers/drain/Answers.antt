use Rattle.std.proofs.Common.{subst, sym, ◌*◌, ◌+◌}
use Rattle.orc_machine_rest.proofs.Taking.{alone_drained, alone_taken}
use Rattle.orc_machine_rest.specs.Drains.{Drains}
use Rattle.orc_machine_rest.proofs.Passes.{done_so, pass_of}
use Rattle.orc_machine_rest.specs.OwnSteps.{AtMostMore, TakesInAll, most_rounds, steps_a_round}
use Rattle.orc_machine_board.specs.Views.{board_bounds, shows}
use Rattle.orc_machine_rest.proofs.handovers.drain.Goals as goal

pub drain_own-requires-clause-pass : goal.drain_own-requires-clause-pass
drain_own-requires-clause-pass g c = pass_of c.args.board.now c.agent-agent.result c.args.p.now c.requires.belongs (sym c.agent-agent.ensures)

pub returns-clause-done : goal.returns-clause-done
returns-clause-done g c = λ alone.
    let s = shows c.args.p.now in
    let t = shows c.drain_own.new.p in
    let its = c.agent-agent.ensures in
    done_so c.args.board.now c.drain_own.ensures.pass its
    (alone_drained _ s.agent s t (subst (λ a. Drains (board_bounds c.args.board.now) a s t) its c.drain_own.ensures.drains) alone)

pub returns-clause-handovers : goal.returns-clause-handovers
returns-clause-handovers g c = λ alone.
    let b = board_bounds c.args.board.now in
    let s = shows c.args.p.now in
    let t = shows c.drain_own.new.p in
    alone_taken b s.agent s t (subst (λ a. Drains b a s t) c.agent-agent.ensures c.drain_own.ensures.drains) alone

pub returns-clause-takes_all : goal.returns-clause-takes_all
returns-clause-takes_all g c =
    subst (λ a. TakesInAll a (shows c.args.p.now).journal (shows c.drain_own.new.p).journal) c.agent-agent.ensures c.drain_own.ensures.takes_all

pub returns-clause-few : goal.returns-clause-few
returns-clause-few g c =
    let b = board_bounds c.args.board.now in
    subst (λ a. AtMostMore a (8 + most_rounds b * steps_a_round b) (shows c.args.p.now).journal (shows c.drain_own.new.p).journal)
    c.agent-agent.ensures c.drain_own.ensures.few
