-- By what the search found.
use Rattle.std.proofs.Common.{Bool, None, Option, Some, [], ap, append-nil, arith, false, inr, subst, true, ℕ, ◌∙◌, ◌≡◌}
use Rattle.orc_heap.specs.Seats.{Seat}
use Rattle.orc_heap.specs.declared.events.Place.{Place}
use Rattle.orc_history.specs.declared.set.SetEntry.TheVariants.{Asked, Removed}
use Rattle.orc_ordered_search.specs.Entries.{entry_by}
use Rattle.orc_ordered_search.specs.Reading.{ordering_of, reading_by}
use Rattle.orc_ordered_search.specs.Searches.{FindsAbsent, FindsPresent}
use Rattle.orc_ordered_search.specs.Steps.{Finds}
use Rattle.orc_ordered_search.specs.declared.call.Call.TheVariants.{Ask, Remove}
use Rattle.orc_ordered_search.specs.declared.walk.Searched.{Searched}
use Rattle.orc_ordered_search.proofs.Calling.{absence_of, answers_true, enters_any, enters_few, enters_turn, entry_is}
use Rattle.orc_ordered_search.proofs.Making.{found_over}
use Rattle.orc_ordered_search.proofs.Removing.{takes_enters, takes_few, takes_found}
use Rattle.orc_ordered_search.proofs.Since.{few_made}
use Rattle.orc_ordered_search.proofs.call.answer_found.Given.{Over}
use Rattle.orc_ordered_search.proofs.call.answer_found.Goals.{In-Absent, In-Present}
use Rattle.orc_ordered_search.proofs.call.answer_found.Goals as goal

-- the key is absent, or present

absent : (g : Over) (c : In-Absent g) → let d = c.args.links.now in let r = reading_by (g.L.Links.numbers d) g.K.Rank.manner in
    (start : Place) (s : Seat g.row.K-Rule-Note.Denot)
    → Finds r start (g.K.SetRank.key_rank c.args.key) s c.args.found (g.L.Links.seat d c.args.p.now)
    → FindsAbsent r start (g.K.SetRank.key_rank c.args.key) c.in-Absent.passed c.in-Absent.left c.in-Absent.first c.in-Absent.right s
    (g.L.Links.seat d c.args.p.now)
absent g c = λ start s f.
    let d = c.args.links.now in
    subst (λ (x : Searched). Finds (reading_by (g.L.Links.numbers d) g.K.Rank.manner) start (g.K.SetRank.key_rank c.args.key) s x (g.L.Links.seat d c.args.p.now))
    c.in-Absent.is f

present : (g : Over) (c : In-Present g) → let d = c.args.links.now in let r = reading_by (g.L.Links.numbers d) g.K.Rank.manner in
    (start : Place) (s : Seat g.row.K-Rule-Note.Denot)
    → Finds r start (g.K.SetRank.key_rank c.args.key) s c.args.found (g.L.Links.seat d c.args.p.now)
    → FindsPresent r start (g.K.SetRank.key_rank c.args.key) c.in-Present.passed c.in-Present.left c.in-Present.first c.in-Present.node c.in-Present.next s
    (g.L.Links.seat d c.args.p.now)
present g c = λ start s f.
    let d = c.args.links.now in
    subst (λ (x : Searched). Finds (reading_by (g.L.Links.numbers d) g.K.Rank.manner) start (g.K.SetRank.key_rank c.args.key) s x (g.L.Links.seat d c.args.p.now))
    c.in-Present.is f

-- no answer isn't yes
none_true : ◌≡◌ {A = Option Bool} None (Some true) → ⊥
none_true is = cc

pub enter_absent-entered-requires : goal.enter_absent-entered-requires
enter_absent-entered-requires g c =
    let (start, s, f) = c.requires.found in
    record {
      pass = c.requires.pass;
      root = c.requires.root;
      entry = absence_of c.args.call (g.L.Links.seat c.args.links.now c.args.p.now).agent c.agent-agent.result c.args.key c.entry_of-entry.result
          c.entry_of-entry.ensures c.agent-agent.ensures;
      absent = (start, c.in-Absent.passed, s, absent g (goal.at.enter_absent-entered-requires g c).In-Absent start s f);
    }

pub returns-in-Absent : goal.returns-in-Absent
returns-in-Absent g c =
    record {
      pass = c.enter_absent-entered.ensures.pass;
      later = c.enter_absent-entered.ensures.later;
      load = λ asks other. c.enter_absent-entered.ensures.load;
      answered = λ start s f.
          let found = absent g (goal.at.returns-in-Absent g c).In-Absent start s f in
          let mine = c.agent-agent.ensures ∙ found.behind.quiet.puts.agent in
          enters_turn (reading_by _ g.K.Rank.manner) c.args.call s.agent c.args.key c.entry_of-entry.result s _ c.enter_absent-entered.result false _
          (c.entry_of-entry.ensures ∙ ap (λ (i : ℕ). entry_by c.args.call i c.args.key false) mine)
          c.answer_if.ensures (enters_any (reading_by _ g.K.Rank.manner) c.entry_of-entry.result s _ c.enter_absent-entered.result (c.enter_absent-entered.ensures.entered start c.in-Absent.passed s found));
      few = λ start s f.
          enters_few (reading_by _ g.K.Rank.manner) c.entry_of-entry.result s _ c.enter_absent-entered.result
          (c.enter_absent-entered.ensures.entered start c.in-Absent.passed s (absent g (goal.at.returns-in-Absent g c).In-Absent start s f));
      taken = λ start s f call yes.
          let told = (answers_true c.enter_absent-entered.result false _ c.answer_if.ensures yes).1 in
          absurd cc;
    }

pub enter_present-entered-requires : goal.enter_present-entered-requires
enter_present-entered-requires g c =
    let (start, s, f) = c.requires.found in
    record {
      pass = c.requires.pass;
      entry = inr (ap (λ (i : ℕ). Asked i c.args.key true) c.agent-agent.ensures);
      present = (start, c.in-Present.passed, s, present g (goal.at.enter_present-entered-requires g c).In-Present start s f);
    }

pub returns-in-Ask : goal.returns-in-Ask
returns-in-Ask g c =
    record {
      pass = c.enter_present-entered.ensures.pass;
      later = c.enter_present-entered.ensures.later;
      load = λ asks other. c.enter_present-entered.ensures.load;
      answered = λ start s f.
          let a = c.args in
          let found = present g (goal.at.returns-in-Ask g c).In-Present start s f in
          let asked = entry_is a.call Ask c.agent-agent.result s.agent a.key true c.in-Ask.is (c.agent-agent.ensures ∙ found.behind.quiet.puts.agent) in
          enters_turn (reading_by _ g.K.Rank.manner) a.call s.agent a.key (Asked c.agent-agent.result a.key true) s _ c.enter_present-entered.result true _ asked c.answer_if-in-Ask.ensures
          (enters_any (reading_by _ g.K.Rank.manner) (Asked c.agent-agent.result a.key true) s _ c.enter_present-entered.result (c.enter_present-entered.ensures.entered start c.in-Present.passed s found));
      few = λ start s f.
          enters_few (reading_by _ g.K.Rank.manner) (Asked c.agent-agent.result c.args.key true) s _ c.enter_present-entered.result
          (c.enter_present-entered.ensures.entered start c.in-Present.passed s (present g (goal.at.returns-in-Ask g c).In-Present start s f));
      taken = λ start s f call yes. let is = c.in-Ask.is in cc;
    }

pub take_out-removed-requires : goal.take_out-removed-requires
take_out-removed-requires g c =
    record {
      pass = c.requires.pass;
      root = c.requires.root;
      present = let (start, s, f) = c.requires.found in
          (start, c.in-Present.passed, s, present g (goal.at.take_out-removed-requires g c).In-Present start s f);
    }

pub returns-in-Remove : goal.returns-in-Remove
returns-in-Remove g c =
    record {
      pass = c.take_out-removed.ensures.pass;
      later = c.take_out-removed.ensures.later;
      answered = λ start s f.
          let x = ordering_of (g.met.K.Rank.ordered _) in
          let a = c.args in
          let entry = Removed (g.L.Links.seat a.links.now a.p.now).agent a.key true in
          let found = present g (goal.at.returns-in-Remove g c).In-Present start s f in
          enters_turn x.reading a.call s.agent a.key entry s _ c.take_out-removed.result true _
          (entry_is a.call Remove _ s.agent a.key true c.in-Remove.is found.behind.quiet.puts.agent) c.answer_if-in-Remove.ensures
          (takes_enters x found (g.K.SetRank.noted entry) g.K.SetRank.unlinking entry _ c.take_out-removed.result _ (g.met.K.SetRank.enters _ entry)
          (g.met.K.SetRank.enters_none _) (c.take_out-removed.ensures.removed start c.in-Present.passed s found));
      few = λ start s f.
          let a = c.args in
          let found = present g (goal.at.returns-in-Remove g c).In-Present start s f in
          takes_few (ordering_of (g.met.K.Rank.ordered _)) found (g.K.SetRank.noted (Removed (g.L.Links.seat a.links.now a.p.now).agent a.key true))
          g.K.SetRank.unlinking _ c.take_out-removed.result _ (c.take_out-removed.ensures.removed start c.in-Present.passed s found);
      taken = λ start s f call yes.
          let a = c.args in
          let done = c.take_out-removed.result in
          let found = present g (goal.at.returns-in-Remove g c).In-Present start s f in
          takes_found (ordering_of (g.met.K.Rank.ordered _)) found (g.K.SetRank.noted (Removed (g.L.Links.seat a.links.now a.p.now).agent a.key true))
          g.K.SetRank.unlinking _ done _ (c.take_out-removed.ensures.removed start c.in-Present.passed s found)
          (answers_true done true _ c.answer_if-in-Remove.ensures yes).0;
      load = λ asks other. let is = c.in-Remove.is in cc;
    }

pub returns-in-Over : goal.returns-in-Over
returns-in-Over g c =
    record {
      pass = c.requires.pass;
      later = ([], append-nil _);
      taken = λ start s f call yes. absurd (none_true yes);
      answered = λ start s f.
          let r = reading_by _ g.K.Rank.manner in
          let t = g.L.Links.seat _ c.args.p.now in
          let moved = subst (λ (x : Searched). Finds r start (g.K.SetRank.key_rank c.args.key) s x t) c.in-Over.is f in
          found_over r s t moved.0;
      few = λ start s f.
          let r = reading_by _ g.K.Rank.manner in
          let t = g.L.Links.seat _ c.args.p.now in
          let moved = subst (λ (x : Searched). Finds r start (g.K.SetRank.key_rank c.args.key) s x t) c.in-Over.is f in
          few_made 4 4 s t moved.0.own moved.0.quiet.puts moved.1 (omega arith);
      load = λ asks other. absurd (other c.in-Over.is);
    }
