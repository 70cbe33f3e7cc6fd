use Rattle.orc_machine_board.proofs.board.MachineBoard.hand.Goals as goal

pub plain_step-requires-clause-allowed : goal.plain_step-requires-clause-allowed
plain_step-requires-clause-allowed g c = c.requires.allowed

pub returns-clause-made : goal.returns-clause-made
returns-clause-made g c = c.plain_step.ensures.makes
