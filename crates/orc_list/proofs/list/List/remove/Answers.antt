-- By the call that answers for both.
use Rattle.std.proofs.Common.{refl}
use Rattle.orc_list.proofs.list.List.remove.Goals as goal

pub answer-requires : goal.answer-requires
answer-requires g c = record { pass = c.requires.pass; idle = c.requires.idle; root = c.requires.root }

pub returns : goal.returns
returns g c =
    let e = c.answer.ensures in
    record {
      pass = e.pass;
      idle = e.idle;
      agent = e.agent;
      later = e.later;
      removed = e.entered;
      none = e.none;
      no_turns = e.no_turns;
      no_event = e.no_event;
      again = e.again;
      cost = e.cost;
      gives = e.gives;
      tries = e.tries;
      off_the_chain = e.off_the_chain refl;
      settled = e.settled;
    }
