-- A part is staged, or that of the pair before is kept.
use Rattle.std.proofs.Common.{[], ap, append-nil, sym, ◌∙◌}
use Rattle.orc_cell.specs.Publishes.{nodes_for, part_count}
use Rattle.orc_cell.proofs.Ending.{given_node, none_few}
use Rattle.orc_cell.proofs.Pieces.{only_none}
use Rattle.orc_cell.proofs.new_parts.ready.Goals as goal

pub stage-requires : goal.stage-requires
stage-requires g c =
    let r = c.requires in
    record { pass = r.pass; there = r.there; staging = r.staging; empty = r.null; slot = r.slot; no_fresh = r.no_fresh }

pub returns-in-Ok : goal.returns-in-Ok
returns-in-Ok g c =
    let e = c.in-Ok.ensures in
    let some = sym c.in-Some.is in
    record {
      pass = e.pass;
      later = e.later;
      tries = e.tries;
      ready = e.staged;
      given = some;
      count = given_node _ _ _ some;
      none = tt;
      lacking = tt;
    }

pub returns-in-Err : goal.returns-in-Err
returns-in-Err g c =
    let e = c.in-Err.ensures in
    record {
      pass = e.pass;
      later = e.later;
      tries = e.tries;
      ready = tt;
      given = tt;
      count = tt;
      none = e.none;
      lacking = e.lacking;
    }

pub stage-requires-then-empty : goal.stage-requires-then-empty
stage-requires-then-empty g c =
    let r = c.requires in
    record { pass = r.pass; there = r.there; staging = r.staging; empty = r.null; slot = r.slot; no_fresh = r.no_fresh }

pub returns-in-Ok-stage : goal.returns-in-Ok-stage
returns-in-Ok-stage g c =
    let e = c.in-Ok-stage.ensures in
    record {
      pass = e.pass;
      later = e.later;
      tries = e.tries;
      ready = e.staged;
      given = sym c.in-None.is;
      count = sym (ap (nodes_for c.args.given) c.if-empty.true);
      none = tt;
      lacking = tt;
    }

pub returns-in-Err-stage : goal.returns-in-Err-stage
returns-in-Err-stage g c =
    let e = c.in-Err-stage.ensures in
    record {
      pass = e.pass;
      later = e.later;
      tries = e.tries;
      ready = tt;
      given = tt;
      count = tt;
      none = e.none;
      lacking = e.lacking;
    }

pub returns-else-empty : goal.returns-else-empty
returns-else-empty g c =
    let none = c.in-None.is in
    record {
      pass = c.requires.pass;
      later = ([], append-nil _);
      tries = none_few _ _;
      ready = (only_none _, c.requires.published none c.if-empty.false);
      given = sym none;
      count = sym (ap (nodes_for c.args.given) c.if-empty.false ∙ ap part_count none);
      none = tt;
      lacking = tt;
    }
