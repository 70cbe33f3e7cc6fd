use Rattle.std.proofs.Common.{◌≡◌, ◌∙◌, ◌+◌, ◌<◌, ◌++◌, ap, append-nil, get_or, length, sym, take, List, [], Option, Some, slice_get, ℕ}
use Rattle.std.specs.List.{flat_map}
use Rattle.std.specs.Option.{option_to_list}
use Rattle.std.proofs.lemmas.List.{flat_map_more, take_all, take_more}
use Rattle.orc_board.specs.declared.replies.TakeReply.{TakeReply}
use Rattle.orc_jobs.specs.declared.line.Job.{Job}
use Rattle.orc_jobs.specs.declared.line.Line.{Line}
use Rattle.orc_report.specs.Summary.{done_as, done_in}
use Rattle.orc_report.proofs.Options.{none_without}
use Rattle.orc_report.proofs.summary.jobs_of.Goals as goal
use Rattle.orc_report.proofs.summary.jobs_of.Goals.{in-Some+in_ok-push, in_default}

-- the jobs of one reply more
jobs_more : (lines : List Line) (takes : List TakeReply) (i : ℕ) (d : TakeReply) (line : Line) (old : List (Job × ℕ)) (job : Option (Job × ℕ))
    → i < length takes → old ≡ flat_map (done_in lines) (take i takes) → slice_get lines (get_or takes i d).line ≡ Some line
    → option_to_list job ≡ done_as (Some line) (get_or takes i d).what → old ++ option_to_list job ≡ flat_map (done_in lines) (take (i + 1) takes)
jobs_more lines takes i d line old job low is at told =
    let r : TakeReply = get_or takes i d in
    ap (λ (t : List (Job × ℕ)). old ++ t) (told ∙ ap (λ (o : Option Line). done_as o r.what) (sym at))
    ∙ (ap (λ (t : List (Job × ℕ)). t ++ done_in lines r) is
    ∙ (flat_map_more (done_in lines) [] (take i takes) r ∙ ap (flat_map (done_in lines)) (sym (take_more takes i d low))))

pub loop-reply-init : goal.loop-reply-init
loop-reply-init c = c.new-jobs.ensures.items

pub loop-reply-preserved : goal.loop-reply-preserved
loop-reply-preserved c =
    let jobs : List (Job × ℕ) = c.loop-reply.jobs.items in
    let more =
    jobs_more c.args.lines.now c.args.takes.now c.loop-reply.reply-index _ c.get.result.now jobs c.done_job.result c.loop-reply-test.true
    c.loop-reply.invariant c.get.ensures c.done_job.ensures in
    elim c.match-done_job.branch [
      | in-Some+in_ok-push w ↦ rw w.jobs-is
          (w.in_ok-push.ensures.items ∙ (ap (λ (t : List (Job × ℕ)). jobs ++ t) (sym (ap option_to_list w.in-Some.is)) ∙ more))
      | in_default w ↦ rw w.jobs-is
          (sym (append-nil jobs)
          ∙ (ap (λ (t : List (Job × ℕ)). jobs ++ t) (sym (ap option_to_list (none_without c.done_job.result w.in_default.not-Some))) ∙ more))
    ]

pub returns : goal.returns
returns c = c.loop-reply.invariant ∙ ap (flat_map (done_in c.args.lines.now)) (take_all c.loop-reply.reply-index c.args.takes.now c.loop-reply-test.false)
