use Rattle.std.proofs.Common.{arith, ◌∙◌, ◌≡◌}
use Rattle.orc_heap.specs.Seeds.{opening_events}
use Rattle.orc_plain_board.specs.Views.{shows}
use Rattle.orc_words.specs.Bounds.{bounds_of}
use Rattle.orc_plain_domain.proofs.Making.{all_belong, all_idle, each_at, each_pass}
use Rattle.orc_any_domain.proofs.FirstRows.{first_rows}
use Rattle.orc_plain_domain.proofs.domain.PlainDomain.make.Goals as goal

pub returns-clause-belongs : goal.returns-clause-belongs
returns-clause-belongs g c =
    all_belong (record { board = c.in_ok-board.board }) c.in_ok-passes.passes.items c.in_ok-board.passes.items c.in_ok-passes.ensures.long
    c.in_ok-passes.ensures.same
    _ c.in_ok-board.ensures.bounds c.in_ok-board.ensures.belongs c.in_ok-passes.ensures.slots c.in_ok-passes.ensures.next c.in_ok-passes.ensures.shape

pub returns-clause-agents : goal.returns-clause-agents
returns-clause-agents g c =
    each_at (record { board = c.in_ok-board.board }) c.in_ok-passes.passes.items c.in_ok-board.passes.items c.in_ok-passes.ensures.long
    c.in_ok-passes.ensures.same
    (λ i q. (shows c.in_ok-board.board q).agent ≡ i) c.in_ok-board.ensures.agents

pub returns-clause-idle : goal.returns-clause-idle
returns-clause-idle g c =
    all_idle (record { board = c.in_ok-board.board }) c.in_ok-passes.passes.items c.in_ok-board.passes.items c.in_ok-passes.ensures.long
    c.in_ok-passes.ensures.same
    c.in_ok-board.ensures.fresh c.in_ok-passes.ensures.slots

pub returns-clause-seen : goal.returns-clause-seen
returns-clause-seen g c =
    each_pass (record { board = c.in_ok-board.board }) c.in_ok-passes.passes.items c.in_ok-board.passes.items c.in_ok-passes.ensures.long
    c.in_ok-passes.ensures.same
    (λ q. (shows c.in_ok-board.board q).events ≡ opening_events c.args.seed) c.in_ok-board.ensures.events

pub returns-clause-next : goal.returns-clause-next
returns-clause-next g c =
    let board = c.in_ok-board.board in
    let some = c.args.shape.now.some_rows in
    first_rows (bounds_of c.args.shape.now) (λ p. p.next) (λ p. (shows board p.pass).agent) c.in_ok-passes.passes.items
    c.in_ok-passes.ensures.first
    (each_at (record { board = board }) c.in_ok-passes.passes.items c.in_ok-board.passes.items c.in_ok-passes.ensures.long c.in_ok-passes.ensures.same
    (λ i q. (shows board q).agent ≡ i) c.in_ok-board.ensures.agents)
    (c.in_ok-passes.ensures.long ∙ c.in_ok-board.ensures.passes) (omega (arith, some))

pub make-requires : goal.make-requires
make-requires g c = record { holds = c.requires.holds; seed = c.requires.seed }

pub returns-clause-bounds : goal.returns-clause-bounds
returns-clause-bounds g c = c.in_ok-board.ensures.bounds

pub returns-clause-passes : goal.returns-clause-passes
returns-clause-passes g c = c.in_ok-passes.ensures.long ∙ c.in_ok-board.ensures.passes
