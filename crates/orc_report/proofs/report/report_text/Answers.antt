use Rattle.std.proofs.Common.{◌≡◌, ◌∙◌, ◌++◌, append-nil, ap, ap₂, codes, false, sym, true, List, Option, option_copied, string_bytes, ℕ}
use Rattle.std.specs.List.{flat_map}
use Rattle.orc_board.specs.declared.replies.PostReply.{PostReply}
use Rattle.orc_board.specs.declared.replies.TakeReply.{TakeReply}
use Rattle.orc_report.specs.Report.{if_rush, post_line, queue_lines, report_of, rest_lines, take_line}
use Rattle.orc_report.specs.declared.report.RestNumbers.{RestNumbers}
use Rattle.orc_report.proofs.ReportedReplies.{lines_below, positions_below}
use Rattle.orc_report.proofs.Options.{none_without}
use Rattle.orc_report.proofs.report.report_text.Goals as goal
use Rattle.orc_report.proofs.report.report_text.Goals.{in-Some+in_ok-push_rest, in_default}

pub push_queue-requires-clause-positions : goal.push_queue-requires-clause-positions
push_queue-requires-clause-positions c = rw c.items-takes.ensures (positions_below false _ _ (c.requires.reportable.queues false))

pub push_queue-requires-clause-lines : goal.push_queue-requires-clause-lines
push_queue-requires-clause-lines c = rw c.items-takes.ensures (lines_below _ _ c.requires.reportable.claimed)

pub push_rush_queue-requires-clause-positions : goal.push_rush_queue-requires-clause-positions
push_rush_queue-requires-clause-positions c = rw c.items-takes.ensures (positions_below true _ _ (c.requires.reportable.queues true))

pub push_rush_queue-requires-clause-lines : goal.push_rush_queue-requires-clause-lines
push_rush_queue-requires-clause-lines c = rw c.items-takes.ensures (lines_below _ _ c.requires.reportable.claimed)

pub returns : goal.returns
returns c =
    let lines = c.args.lines.now in
    let takes : List TakeReply = c.items-takes.result.now in
    let posts : List PostReply = c.items.result.now in
    let numbers : Option RestNumbers = option_copied c.args.rest in
    let board = c.in_ok-push_queue.ensures ∙ ap (λ (t : List ℕ). t ++ queue_lines false lines takes) c.in_ok-text.ensures.ok in
    let rush = c.in_ok-push_rush_queue.ensures ∙ ap (λ (t : List ℕ). t ++ if_rush lines (codes "rush\n" ++ queue_lines true lines takes)) board in
    let replies = c.in_ok-push_str.ensures.bytes ∙ ap (λ (t : List ℕ). t ++ codes "replies\n") rush in
    let posted = c.in_ok-push_posts.ensures ∙ ap (λ (t : List ℕ). t ++ flat_map (post_line (codes "posted")) posts) replies in
    let taken = c.in_ok-push_takes.ensures ∙ ap (λ (t : List ℕ). t ++ flat_map take_line takes) posted in
    let front : List ℕ = string_bytes c.push_takes.new.text in
    let rest : string_bytes c.match-rest.text ≡ front ++ rest_lines lines numbers =
    elim c.match-rest.branch [
      | in-Some+in_ok-push_rest w ↦ rw w.text-is
          (w.in_ok-push_rest.ensures ∙ ap (λ (n : Option RestNumbers). front ++ rest_lines lines n) (sym (ap option_copied w.in-Some.is)))
      | in_default w ↦ rw w.text-is
          (sym (append-nil front)
          ∙ ap (λ (n : Option RestNumbers). front ++ rest_lines lines n) (sym (ap option_copied (none_without c.args.rest w.in_default.not-Some))))
    ] in
    c.from_string.ensures
    ∙ (rest
    ∙ (ap (λ (t : List ℕ). t ++ rest_lines lines numbers) taken
    ∙ ap₂ (λ (ts : List TakeReply) (ps : List PostReply). report_of lines ps ts numbers) c.items-takes.ensures c.items.ensures))
