-- Over reclaiming domains each queue has left one actual journal, and these form the pipeline.
use Rattle.std.proofs.Common.{refl}
use Rattle.orc_at_rest.proofs.Seeds.{seed_told}
use Rattle.orc_at_rest.specs.Domains.{queue_seed}
use Rattle.orc_stages_run.proofs.Left.{went_through}
use Rattle.orc_stages_run.proofs.run.run_pipeline.Goals as goal

pub returns : goal.returns
returns g c =
    let t = went_through _ _ _ _ _ _ _ _ _ c.in_ok-queues.ensures (λ x. refl) (λ x. refl) (λ x begins. seed_told _ queue_seed begins)
    (λ x seen ps r is saw. is.journal seen saw) in
    record { all = t.all; journals = t.journals; pipeline = t.pipeline; reuse = t.reuse; rest = t.rest }
