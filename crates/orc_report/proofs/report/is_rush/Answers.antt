use Rattle.std.proofs.Common.{inl, inr}
use Rattle.orc_report.proofs.report.is_rush.Goals as goal

pub returns-in-Post : goal.returns-in-Post
returns-in-Post c = elim c.in-Post.is [
  | inl h ↦ rw h.3
  | inr h ↦ rw h.1
]
