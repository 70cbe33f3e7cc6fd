use Rattle.orc_pipeline.proofs.desk.+run_stage_at.Given as goal

abbrev pub decreases-run_stage_at : goal.decreases-run_stage_at
decreases-run_stage_at g l = l.skip
