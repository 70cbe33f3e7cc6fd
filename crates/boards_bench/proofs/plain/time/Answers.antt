-- The pass is one of the board's.
use Rattle.std.proofs.Common.{subst}
use Rattle.std.proofs.lemmas.List.Elements.{All-pop}
use Rattle.std.specs.Prelude.{IfSome}
use Rattle.orc_plain_board.specs.Views.{Belongs}
use Rattle.boards_bench.proofs.plain.time.Goals as goal

pub time_loads-requires-clause-belongs : goal.time_loads-requires-clause-belongs
time_loads-requires-clause-belongs g c =
    subst (λ popped. IfSome popped (λ p. Belongs c.in-Ok-make.board p)) c.in-Some.is
    (All-pop (λ p. Belongs c.in-Ok-make.board p) c.in-Ok-make.passes.items c.pop.new.self.items c.pop.result c.pop.ensures.items c.in-Ok-make.ensures.belongs).1
