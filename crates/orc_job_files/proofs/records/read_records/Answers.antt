use Rattle.orc_job_files.proofs.FileLaws.{AreDetermined, reads-bad, reads-file, reads-many}
use Rattle.orc_job_files.proofs.records.read_records.Goals as goal

pub returns-clause-only : goal.returns-clause-only
returns-clause-only g c =
    let laws : AreDetermined g.L.FromRecord.spelling g.L.FromRecord.is_line g.L.FromRecord.has_cause =
    record { same_line = g.met.L.FromRecord.same_line; no_cause = g.met.L.FromRecord.no_cause; one_cause = g.met.L.FromRecord.one_cause } in
    reads-file laws c.args.bytes.now c.read_each.result c.read_each.ensures.ok c.read_each.ensures.err

pub returns-clause-bad : goal.returns-clause-bad
returns-clause-bad g c =
    let laws : AreDetermined g.L.FromRecord.spelling g.L.FromRecord.is_line g.L.FromRecord.has_cause =
    record { same_line = g.met.L.FromRecord.same_line; no_cause = g.met.L.FromRecord.no_cause; one_cause = g.met.L.FromRecord.one_cause } in
    reads-bad laws c.args.bytes.now c.read_each.result c.read_each.ensures.ok c.read_each.ensures.err

pub returns-clause-many : goal.returns-clause-many
returns-clause-many g c =
    let laws : AreDetermined g.L.FromRecord.spelling g.L.FromRecord.is_line g.L.FromRecord.has_cause =
    record { same_line = g.met.L.FromRecord.same_line; no_cause = g.met.L.FromRecord.no_cause; one_cause = g.met.L.FromRecord.one_cause } in
    reads-many laws c.args.bytes.now c.read_each.result c.read_each.ensures.ok c.read_each.ensures.err
