use Rattle.std.proofs.Common.{◌∙◌, refl, false, true}
use Rattle.orc_board.specs.Desk.{both_seen}
use Rattle.orc_board.specs.Stretches.{queue_views, set_view}
use Rattle.orc_board.proofs.Rows.{opened_row, dropped_row, job_line_row, drop_line_row}
use Rattle.orc_board.proofs.desk.reply_to.Goals as goal

pub returns-in-Post-clause-row : goal.returns-in-Post-clause-row
returns-in-Post-clause-row g c =
    job_line_row (queue_views g.Q.SharedQueue c.args.queue.now c.args.rush.now) (set_view g.S.SharedSet c.args.set.now) _ false _ _ _ _ _ _
    (both_seen g.Q.SharedQueue c.args.desk.now.queue c.args.desk.now.rush) (both_seen g.Q.SharedQueue c.post_job-what.new.p c.args.desk.now.rush) _ _
    c.in-Post.is
    (opened_row (queue_views g.Q.SharedQueue c.args.queue.now c.args.rush.now) (set_view g.S.SharedSet c.args.set.now) false _ _ _ _
    (both_seen g.Q.SharedQueue c.args.desk.now.queue c.args.desk.now.rush) (both_seen g.Q.SharedQueue c.post_job-what.new.p c.args.desk.now.rush) _ _
    c.post_job-what.ensures.word refl c.post_job-what.ensures.part)

pub returns-in-Rush-clause-row : goal.returns-in-Rush-clause-row
returns-in-Rush-clause-row g c =
    job_line_row (queue_views g.Q.SharedQueue c.args.queue.now c.args.rush.now) (set_view g.S.SharedSet c.args.set.now) _ true _ _ _ _ _ _
    (both_seen g.Q.SharedQueue c.args.desk.now.queue c.args.desk.now.rush)
    (both_seen g.Q.SharedQueue c.args.desk.now.queue c.post_job-what-in-Rush.new.p) _ _ c.in-Rush.is
    (opened_row (queue_views g.Q.SharedQueue c.args.queue.now c.args.rush.now) (set_view g.S.SharedSet c.args.set.now) true _ _ _ _
    (both_seen g.Q.SharedQueue c.args.desk.now.queue c.args.desk.now.rush)
    (both_seen g.Q.SharedQueue c.args.desk.now.queue c.post_job-what-in-Rush.new.p) _ _
    c.post_job-what-in-Rush.ensures.word refl c.post_job-what-in-Rush.ensures.part)

pub returns-in-Drop-clause-row : goal.returns-in-Drop-clause-row
returns-in-Drop-clause-row g c =
    drop_line_row (queue_views g.Q.SharedQueue c.args.queue.now c.args.rush.now) (set_view g.S.SharedSet c.args.set.now) _ _ _ _ _
    (both_seen g.Q.SharedQueue c.args.desk.now.queue c.args.desk.now.rush) (both_seen g.Q.SharedQueue c.args.desk.now.queue c.args.desk.now.rush) _ _
    c.in-Drop.is
    (dropped_row (queue_views g.Q.SharedQueue c.args.queue.now c.args.rush.now) (set_view g.S.SharedSet c.args.set.now) _ _ _ _
    (both_seen g.Q.SharedQueue c.args.desk.now.queue c.args.desk.now.rush) _ _ c.requires.desk.set_agent c.drop_id-what.ensures.part)

pub returns-in-Drop-clause-desk : goal.returns-in-Drop-clause-desk
returns-in-Drop-clause-desk g c =
    let desk = c.requires.desk in
    record {
      queue_pass = desk.queue_pass;
      rush_pass = desk.rush_pass;
      set_pass = c.drop_id-what.ensures.set;
      queue_agent = desk.queue_agent;
      rush_agent = desk.rush_agent;
      set_agent = c.drop_id-what.ensures.agent ∙ desk.set_agent;
    }

pub returns-in-Post-clause-desk : goal.returns-in-Post-clause-desk
returns-in-Post-clause-desk g c =
    let desk = c.requires.desk in
    record {
      queue_pass = c.post_job-what.ensures.queue;
      rush_pass = desk.rush_pass;
      set_pass = c.post_job-what.ensures.set;
      queue_agent = c.post_job-what.ensures.queue_agent;
      rush_agent = desk.rush_agent;
      set_agent = c.post_job-what.ensures.set_agent;
    }

pub returns-in-Rush-clause-desk : goal.returns-in-Rush-clause-desk
returns-in-Rush-clause-desk g c =
    let desk = c.requires.desk in
    record {
      queue_pass = desk.queue_pass;
      rush_pass = c.post_job-what-in-Rush.ensures.queue;
      set_pass = c.post_job-what-in-Rush.ensures.set;
      queue_agent = desk.queue_agent;
      rush_agent = c.post_job-what-in-Rush.ensures.queue_agent;
      set_agent = c.post_job-what-in-Rush.ensures.set_agent;
    }
