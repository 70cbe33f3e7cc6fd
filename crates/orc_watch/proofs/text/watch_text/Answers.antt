use Rattle.std.proofs.Common.{◌≡◌, ◌∙◌, ◌++◌, append-nil, ap, option_copied, string_bytes, sym, List, Option, ℕ}
use Rattle.std.specs.List.{flat_map}
use Rattle.orc_watch.specs.declared.reply.WatchReply.{WatchReply}
use Rattle.orc_watch.specs.declared.text.CellNumbers.{CellNumbers}
use Rattle.orc_watch.specs.WatchText.{now_line, reply_line, rest_lines, watch_report}
use Rattle.orc_watch.proofs.Texts.{none_without}
use Rattle.orc_watch.proofs.text.watch_text.Goals as goal
use Rattle.orc_watch.proofs.text.watch_text.Goals.{in-Some+in_ok-push_rest, in_default}

pub returns : goal.returns
returns c =
    let replies : List WatchReply = c.items.result.now in
    let numbers : Option CellNumbers = option_copied c.args.rest in
    let told = c.in_ok-push_replies.ensures ∙ ap (λ (t : List ℕ). t ++ flat_map reply_line replies) c.in_ok-text.ensures.ok in
    let now = c.in_ok-push_now.ensures ∙ ap (λ (t : List ℕ). t ++ now_line c.args.now_left c.args.now_right) told in
    let front : List ℕ = string_bytes c.push_now.new.text in
    let rest : string_bytes c.match-rest.text ≡ front ++ rest_lines numbers =
    elim c.match-rest.branch [
      | in-Some+in_ok-push_rest w ↦ rw w.text-is
          (w.in_ok-push_rest.ensures ∙ ap (λ (n : Option CellNumbers). front ++ rest_lines n) (sym (ap option_copied w.in-Some.is)))
      | in_default w ↦ rw w.text-is
          (sym (append-nil front)
          ∙ ap (λ (n : Option CellNumbers). front ++ rest_lines n) (sym (ap option_copied (none_without c.args.rest w.in_default.not-Some))))
    ] in
    c.from_string.ensures
    ∙ (rest
    ∙ (ap (λ (t : List ℕ). t ++ rest_lines numbers) now
    ∙ ap (λ (rs : List WatchReply). watch_report rs c.args.now_left c.args.now_right numbers) c.items.ensures))
