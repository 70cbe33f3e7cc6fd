use Rattle.std.proofs.Common.{append_assoc, ◌∙◌}
use Rattle.orc_trace.proofs.text.head_of.Goals as goal

pub returns : goal.returns
returns c = c.in_ok-text.ensures.ok ∙ simp append_assoc
