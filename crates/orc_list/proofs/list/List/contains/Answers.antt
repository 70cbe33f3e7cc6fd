-- By the call that answers for both.
use Rattle.orc_list.proofs.list.List.contains.Goals as goal

pub answer-requires : goal.answer-requires
answer-requires g c = record { pass = c.requires.pass; idle = c.requires.idle; root = c.requires.root }

pub returns : goal.returns
returns g c =
    let e = c.answer.ensures in
    record {
      pass = e.pass;
      idle = e.idle;
      agent = e.agent;
      later = e.later;
      asked = e.entered;
      none = e.none;
      no_turns = e.no_turns;
      no_event = e.no_event;
      again = e.again;
      cost = e.cost;
      gives = e.gives;
      tries = e.tries;
      settled = e.settled;
    }
