use Rattle.orc_trace.proofs.OneAudit.{only-audit, only-refusal}
use Rattle.orc_trace.proofs.auditing.audit.Goals as goal

pub returns-clause-only : goal.returns-clause-only
returns-clause-only c = only-audit c.args.bytes.now c.audit_trace.result c.audit_trace.ensures.ok c.audit_trace.ensures.err

pub returns-clause-bad : goal.returns-clause-bad
returns-clause-bad c = only-refusal c.args.bytes.now c.audit_trace.result c.audit_trace.ensures.ok c.audit_trace.ensures.err
