use Rattle.std.proofs.Common.{◌∙◌, refl, inl, inr}
use Rattle.orc_history.specs.declared.queue.QueueRefused.TheVariants as queue_refused
use Rattle.orc_history.specs.declared.set.ListRefused.TheVariants as list_refused
use Rattle.orc_board.specs.Stretches.{queue_view, set_view, of_queue}
use Rattle.orc_board.proofs.Shares.{Did-nothing}
use Rattle.orc_board.proofs.Rows.{placed, placed_part, inserted, opened_closed, put_refused, insert_refused}
use Rattle.orc_board.proofs.desk.post_job.Goals as goal

pub returns-in-Ok-clause-part : goal.returns-in-Ok-clause-part
returns-in-Ok-clause-part g c = record {
  queue = _;
  set = _;
  is = placed_part c.args.poster c.args.index c.args.id _ _ _ c.place_word.ensures;
  in_queue = placed (queue_view g.Q.SharedQueue c.args.queue.now) _ _ _ _ _ _ c.requires.queue_agent c.in-Ok.ensures.put;
  in_set = inserted (set_view g.S.SharedSet c.args.set.now) _ _ _ _ _ _ _ c.requires.set_agent c.in-Ok-true.field-0-test c.in-Ok-true.ensures.added;
}

pub returns-in-Err-Positions-clause-part : goal.returns-in-Err-Positions-clause-part
returns-in-Err-Positions-clause-part g c = record {
  queue = _;
  set = _;
  is = (refl, (c.remove_key.result, refl));
  in_queue = put_refused (queue_view g.Q.SharedQueue c.args.queue.now) _ queue_refused.Positions _ _ _ _ c.requires.queue_agent c.in-Err-Positions.field-0-is
      c.in-Err-Positions.ensures.refused;
  in_set = opened_closed (set_view g.S.SharedSet c.args.set.now) _ _ _ _ _ _ _ _ _ c.requires.set_agent (c.insert_key.ensures.agent ∙ c.requires.set_agent)
      c.in-Ok-true.field-0-test c.in-Ok-true.ensures.added c.remove_key.ensures.removed;
}

pub returns-in-Err-NoNode-put_job-clause-part : goal.returns-in-Err-NoNode-put_job-clause-part
returns-in-Err-NoNode-put_job-clause-part g c = record {
  queue = _;
  set = _;
  is = inr (refl, (c.remove_key-in-Err-NoNode-put_job.result, refl));
  in_queue = put_refused (queue_view g.Q.SharedQueue c.args.queue.now) _ queue_refused.NoNode _ _ _ _ c.requires.queue_agent
      c.in-Err-NoNode-put_job.field-0-is c.in-Err-NoNode-put_job.ensures.refused;
  in_set = opened_closed (set_view g.S.SharedSet c.args.set.now) _ _ _ _ _ _ _ _ _ c.requires.set_agent (c.insert_key.ensures.agent ∙ c.requires.set_agent)
      c.in-Ok-true.field-0-test c.in-Ok-true.ensures.added c.remove_key-in-Err-NoNode-put_job.ensures.removed;
}

pub returns-in-Err-NoNode-clause-part : goal.returns-in-Err-NoNode-clause-part
returns-in-Err-NoNode-clause-part g c = record {
  queue = _;
  set = _;
  is = inl (refl, refl);
  in_queue = Did-nothing of_queue (queue_view g.Q.SharedQueue c.args.queue.now) _ _;
  in_set = insert_refused (set_view g.S.SharedSet c.args.set.now) _ list_refused.NoNode _ _ _ _ c.requires.set_agent c.in-Err-NoNode.field-0-is
      c.in-Err-NoNode.ensures.refused;
}

pub returns-in-Ok-false-clause-part : goal.returns-in-Ok-false-clause-part
returns-in-Ok-false-clause-part g c = record {
  queue = _;
  set = _;
  is = (refl, refl);
  in_queue = Did-nothing of_queue (queue_view g.Q.SharedQueue c.args.queue.now) _ _;
  in_set = inserted (set_view g.S.SharedSet c.args.set.now) _ _ _ _ _ _ _ c.requires.set_agent c.in-Ok-false.field-0-test c.in-Ok-false.ensures.added;
}

pub returns-in-Err-Spent-clause-part : goal.returns-in-Err-Spent-clause-part
returns-in-Err-Spent-clause-part g c = record {
  queue = _;
  set = _;
  is = (refl, (_, refl));
  in_queue = Did-nothing of_queue (queue_view g.Q.SharedQueue c.args.queue.now) _ _;
  in_set = insert_refused (set_view g.S.SharedSet c.args.set.now) _ (list_refused.Spent _) _ _ _ _ c.requires.set_agent c.in-Err-Spent.field-0-is
      c.in-Err-Spent.ensures.refused;
}
