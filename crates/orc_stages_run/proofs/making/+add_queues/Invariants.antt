use Rattle.orc_stages_run.proofs.making.+add_queues.Given as goal

abbrev pub decreases-add_queues : goal.decreases-add_queues
decreases-add_queues g l = l.more
