use Rattle.std.proofs.Common.{◌≡◌, None}
use Rattle.std.proofs.lemmas.List.Elements.{All-pop}
use Rattle.orc_plain_board.specs.Views.{Belongs, shows}
use Rattle.domain_tests.proofs.tests.plain_board.next_pass.Goals as goal

pub returns-clause-belongs : goal.returns-clause-belongs
returns-clause-belongs c = (All-pop (λ p. Belongs c.args.board.now p) _ _ _ c.pop.ensures.items c.requires.belongs).0

pub returns-clause-fresh : goal.returns-clause-fresh
returns-clause-fresh c = (All-pop (λ p. (shows c.args.board.now p).fresh ≡ None) _ _ _ c.pop.ensures.items c.requires.fresh).0

pub returns-clause-popped : goal.returns-clause-popped
returns-clause-popped c = (All-pop (λ p. Belongs c.args.board.now p) _ _ _ c.pop.ensures.items c.requires.belongs).1

pub returns-clause-idle : goal.returns-clause-idle
returns-clause-idle c = (All-pop (λ p. (shows c.args.board.now p).fresh ≡ None) _ _ _ c.pop.ensures.items c.requires.fresh).1
