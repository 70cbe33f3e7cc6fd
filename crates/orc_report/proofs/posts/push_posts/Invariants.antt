use Rattle.std.proofs.Common.{◌≡◌, ◌++◌, take}
use Rattle.std.specs.List.{flat_map}
use Rattle.std.specs.String.{string_bytes}
use Rattle.orc_report.specs.Report.{post_line}
use Rattle.orc_report.proofs.posts.push_posts.Given as goal

abbrev pub invariant-loop-reply : goal.invariant-loop-reply
invariant-loop-reply l = string_bytes l.text ≡ string_bytes l.initial.text ++ flat_map (post_line l.put) (take l.reply-index l.posts)
