use Rattle.std.proofs.Common.{ap, arith, ◌∙◌, ◌≡◌}
use Rattle.orc_any_domain.proofs.FirstRows.{first_rows}
use Rattle.orc_heap.specs.Seeds.{opening_events}
use Rattle.orc_machine_board.specs.Views.{shows}
use Rattle.orc_words.specs.Bounds.{bounds_of}
use Rattle.orc_domain.proofs.Making.{all_belong, all_idle, each_at, opening_seen}
use Rattle.orc_domain.proofs.domain.OrcDomain.make.Goals as goal

pub returns-clause-belongs : goal.returns-clause-belongs
returns-clause-belongs g c =
    all_belong (record { board = c.in_ok-board.board }) c.in_ok-passes.passes.items c.in_ok-board.passes.items c.in_ok-passes.ensures.long
    c.in_ok-passes.ensures.same
    _ c.in_ok-board.ensures.bounds c.in_ok-board.ensures.belongs c.in_ok-board.ensures.idle c.in_ok-passes.ensures.next

pub returns-clause-agents : goal.returns-clause-agents
returns-clause-agents g c =
    each_at (record { board = c.in_ok-board.board }) c.in_ok-passes.passes.items c.in_ok-board.passes.items c.in_ok-passes.ensures.long
    c.in_ok-passes.ensures.same
    (λ i q. (shows q).agent ≡ i) c.in_ok-board.ensures.agents

pub returns-clause-idle : goal.returns-clause-idle
returns-clause-idle g c =
    all_idle (record { board = c.in_ok-board.board }) c.in_ok-passes.passes.items c.in_ok-board.passes.items c.in_ok-passes.ensures.long
    c.in_ok-passes.ensures.same
    c.in_ok-board.ensures.idle

pub returns-clause-seen : goal.returns-clause-seen
returns-clause-seen g c =
    opening_seen g.D.Discipline (record { board = c.in_ok-board.board }) c.in_ok-passes.passes.items c.in_ok-board.passes.items c.in_ok-passes.ensures.long
    c.in_ok-passes.ensures.same
    c.args.shape.now c.args.seed c.in_ok-board.ensures.bounds c.requires.holds c.requires.seed c.in_ok-board.ensures.journal

pub returns-clause-next : goal.returns-clause-next
returns-clause-next g c =
    let some = c.args.shape.now.some_rows in
    first_rows (bounds_of c.args.shape.now) (λ p. p.next) (λ p. (shows p.pass).agent) c.in_ok-passes.passes.items c.in_ok-passes.ensures.first
    (each_at (record { board = c.in_ok-board.board }) c.in_ok-passes.passes.items c.in_ok-board.passes.items c.in_ok-passes.ensures.long
    c.in_ok-passes.ensures.same
    (λ i q. (shows q).agent ≡ i) c.in_ok-board.ensures.agents)
    (c.in_ok-passes.ensures.long ∙ c.in_ok-board.ensures.passes) (omega (arith, some))

pub returns-clause-bounds : goal.returns-clause-bounds
returns-clause-bounds g c = c.in_ok-board.ensures.bounds

pub returns-clause-seed : goal.returns-clause-seed
returns-clause-seed g c = c.in_ok-board.ensures.seed

pub returns-clause-opening : goal.returns-clause-opening
returns-clause-opening g c = ap opening_events c.in_ok-board.ensures.seed

pub returns-clause-passes : goal.returns-clause-passes
returns-clause-passes g c = c.in_ok-passes.ensures.long ∙ c.in_ok-board.ensures.passes

pub make-requires : goal.make-requires
make-requires g c = c.requires
