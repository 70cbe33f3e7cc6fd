-- What the call did, and the settling after it.
use Rattle.std.proofs.Common.{Bool, Ok, Result, arith, length, subst, true, ℕ, ◌+◌, ◌∙◌, ◌≡◌, ◌≢◌, ◌≤◌}
use Rattle.std.specs.Prelude.{IsErr}
use Rattle.orc_fault.specs.declared.Again.{Again as AgainFault}
use Rattle.orc_heap.proofs.Pieces.{goes_on}
use Rattle.orc_heap.proofs.InJournal.{settling_alone}
use Rattle.orc_history.specs.declared.set.SetEntry.{SetEntry}
use Rattle.orc_ordered_search.proofs.Causes.{if_err}
use Rattle.orc_ordered_search.proofs.Licences.{again_licence}
use Rattle.orc_ordered_search.proofs.Settling.{answers_did, answers_keeps, idle_settled}
use Rattle.orc_ordered_search.specs.Entries.{entry_by}
use Rattle.orc_ordered_search.specs.Turns.{AnswersTurns}
use Rattle.orc_split_set.proofs.Called.{called}
use Rattle.orc_split_set.proofs.Calling.{call_idle, did_after, if_ok, roots_call}
use Rattle.orc_split_set.proofs.FewEvents.{few_levels, few_parts, few_still, few_wider}
use Rattle.orc_ordered_search.specs.Ways.{AreLoads}
use Rattle.orc_split_set.proofs.Looking.{joins_loads, joins_steps}
use Rattle.orc_split_set.proofs.Passes.{seen_on}
use Rattle.orc_split_set.proofs.Reaching.{looks_call}
use Rattle.orc_split_set.proofs.Telling.{told_on}
use Rattle.orc_split_set.specs.SplitSearches.{split_reading}
use Rattle.orc_split_set.proofs.set.SplitSet.answer.Goals as goal

pub returns : goal.returns
returns g c =
    let d = c.args.self.now.links in
    let p = c.args.p.now in
    let p0 = c.prepare-rooted.new.p in
    let q = c.settle.new.p in
    let n = g.L.Links.numbers d in
    let r = split_reading n in
    let s = g.L.Links.seat d p in
    let t0 = g.L.Links.seat d p0 in
    let t = g.L.Links.seat d c.call_turns-answer.new.p in
    let u = g.L.Links.seat d q in
    let answer = c.call_turns-answer.result in
    let turns = c.args.turns in
    let done = c.call_turns-answer.ensures in
    let settle = c.settle.ensures in
    let entry : Bool → SetEntry = λ answer. entry_by c.args.call s.agent c.args.key answer in
    let before = c.prepare-rooted.ensures in
    let first = before.prepared.call in
    let same = first.made.puts.agent in
    let answers = subst (λ (x : ℕ). AnswersTurns r (λ answer. entry_by c.args.call x c.args.key answer) turns t0 answer t) same done.answered in
    let inner = answers_did r t0 t u settle.nothing entry turns answer answers in
    let did = did_after r before.prepared.own turns before.prepared.none s t0 first 0 1 entry u answer (omega arith) inner in
    let keeps = answers_keeps r entry turns t0 t answer answers (call_idle first c.requires.usable.1) in
    let since = goes_on _ _ _ before.later done.later in
    let rest = goes_on _ _ _ done.later settle.later in
    let grows = goes_on _ _ _ since settle.later in
    let call = called g.L.Links g.met.L.Links.steps_add g.met.L.Links.seen_is g.met.L.Links.allowed g.met.L.Links.agents_below d p q c.requires.usable.0
    settle.pass grows 1 turns entry answer did in
    let again = if_err answer _ call.again in
    let some : (value : Bool) → answer ≡ Ok value → turns ≢ 0 = λ value is zero. (let bad = subst (λ (x : Result Bool AgainFault). IsErr x) is (did.no_turns zero).0 in cc) in
    let told = told_on g.L.Links g.met.L.Links.lacking_stays g.met.L.Links.worn_stays d p p0 q before.later rest c.prepare-rooted.result before.told in
    let is_s = g.met.L.Links.seen_is _ _ c.requires.usable.0 in
    let is_u = g.met.L.Links.seen_is _ _ settle.pass in
    let by = g.L.Links.agent_of in
    let events = g.L.Links.events d in
    let adds = g.met.L.Links.steps_add d in
    let grew = seen_on g.L.Links g.met.L.Links.steps_add g.met.L.Links.seen_is d p0 c.call_turns-answer.new.p before.pass done.pass done.later in
    let grew_u = seen_on g.L.Links g.met.L.Links.steps_add g.met.L.Links.seen_is d p0 q before.pass settle.pass rest in
    record {
      few = λ asks ne alone has many r. looks_call n by events adds (λ es most. AreLoads es × (length es ≤ most)) joins_loads 0 c.args.key turns s t0 t u call.own _ _ c.prepare-rooted.result before.prepared
          ne before.few (done.few asks)
          grew (keeps.1 ∙ same) settle.nothing call.puts grows is_s is_u grew_u alone has many r;
      taken = λ removes yes alone has many r. looks_call n by events adds (λ es most. length es ≤ most) joins_steps 1 c.args.key turns s t0 t u call.own _ _ c.prepare-rooted.result before.prepared
          (some true yes) before.few (done.taken removes yes)
          grew (keeps.1 ∙ same) settle.nothing call.puts grows is_s is_u grew_u alone has many r;
      rooted = if_ok answer _ (λ value is. roots_call g.L.Links g.met.L.Links.steps_add g.met.L.Links.seen_is d c.args.key turns p p0 q inner.own
          c.requires.usable.0 settle.pass grows c.prepare-rooted.result before.prepared (some value is) inner.made.puts
          (g.met.L.Links.obeys _ _ before.pass) (g.met.L.Links.allowed _ _ settle.pass) told);
      usable = (settle.pass, idle_settled t u keeps.0 settle.nothing);
      agent = call.puts.agent;
      later = grows;
      entered = call.entered;
      none = call.none;
      licence = again_licence by events s.agent turns _ (g.L.Links.journal q) grows (g.L.Links.lacking d s.agent (g.L.Links.journal q))
          (λ spent. g.L.Links.worn d s.agent spent (g.L.Links.journal q)) answer again;
      no_turns = λ zero. (did.no_turns zero).0;
      no_event = call.no_event;
      tries =
          let on = seen_on g.L.Links g.met.L.Links.steps_add g.met.L.Links.seen_is d in
          let fits = few_levels _ c.args.self.now.sized in
          let sooner = on p p0 c.requires.usable.0 before.pass before.later in
          let next = on p0 c.call_turns-answer.new.p before.pass done.pass done.later in
          (few_wider 22 (1 + turns) (turns + 1) 6 6 s u (omega arith) (omega arith) (few_still 22 (1 + turns) 6 s t u (goes_on _ _ _ sooner next)
          settle.nothing.puts (few_parts 22 1 turns 6 0 s t0 t sooner next (before.tries 8 fits) (done.tries 8 fits)))).1;
      again = again;
      gives = call.gives;
      settled = λ alone. settle.settled (settling_alone g.L.Links d p c.call_turns-answer.new.p q since settle.later (keeps.1 ∙ same) alone);
    }
