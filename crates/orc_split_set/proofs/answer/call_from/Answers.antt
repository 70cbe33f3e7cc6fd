-- By what the search found.
use Rattle.std.proofs.Common.{refl}
use Rattle.orc_heap.proofs.Pieces.{goes_on}
use Rattle.orc_split_set.proofs.Crowding.{seen_grows}
use Rattle.orc_split_set.proofs.Looking.{found_few, taken_few, taken_steps}
use Rattle.orc_ordered_search.specs.Entries.{entry_by}
use Rattle.orc_split_set.specs.SplitSearches.{split_reading}
use Rattle.orc_split_set.proofs.FewEvents.{few_search, turn_agent}
use Rattle.orc_split_set.proofs.answer.call_from.Goals as goal

pub answer_found-requires-clause-root : goal.answer_found-requires-clause-root
answer_found-requires-clause-root g c = (c.requires.roots, refl)

pub answer_found-requires-clause-found : goal.answer_found-requires-clause-found
answer_found-requires-clause-found g c =
    let (start, s, room, b) = c.requires.begins in
    (start, s, c.search_for-found.ensures.found start s room b)

pub returns-clause-answered : goal.returns-clause-answered
returns-clause-answered g c = λ start s room b. c.answer_found.ensures.answered start s (c.search_for-found.ensures.found start s room b)

pub returns-clause-few : goal.returns-clause-few
returns-clause-few g c = λ asks start s room b nodes to path ends.
    let d = c.args.links.now in
    let t = g.L.Links.seat d c.search_for-found.new.p in
    let u = g.L.Links.seat d c.answer_found.new.p in
    let x = c.search_for-found.ensures in
    let e = c.answer_found.ensures in
    let grows = seen_grows (g.L.Links.events d) g.L.Links.agent_of (g.met.L.Links.steps_add d) (g.L.Links.journal c.search_for-found.new.p)
    (g.L.Links.journal c.answer_found.new.p) t u e.later (g.met.L.Links.seen_is d c.search_for-found.new.p x.pass)
    (g.met.L.Links.seen_is d c.answer_found.new.p e.pass) in
    found_few (g.L.Links.numbers d) start c.args.key s t u (g.met.L.Links.obeys d c.search_for-found.new.p x.pass)
    (g.met.L.Links.allowed d c.search_for-found.new.p x.pass) grows nodes to path ends c.search_for-found.result (x.found start s room b) (e.load asks)

pub returns-clause-tries : goal.returns-clause-tries
returns-clause-tries g c =
    let d = c.args.links.now in
    let (start, s, room, b) = c.requires.begins in
    let u = g.L.Links.seat d c.answer_found.new.p in
    let finds = c.search_for-found.ensures.found start s room b in
    let f = c.answer_found.ensures in
    few_search 4 s (g.L.Links.seat d c.args.p.now) u b.begins.seen b.begins.agent
    (turn_agent (split_reading (g.L.Links.numbers d)) (λ yes. entry_by c.args.call s.agent c.args.key yes) s u c.answer_found.result (f.answered start s finds))
    (f.few start s finds)

pub returns-clause-taken : goal.returns-clause-taken
returns-clause-taken g c = λ removes yes start s room b nodes to path ends.
    let d = c.args.links.now in
    let t = g.L.Links.seat d c.search_for-found.new.p in
    let u = g.L.Links.seat d c.answer_found.new.p in
    let x = c.search_for-found.ensures in
    let e = c.answer_found.ensures in
    let grows = seen_grows (g.L.Links.events d) g.L.Links.agent_of (g.met.L.Links.steps_add d) (g.L.Links.journal c.search_for-found.new.p)
    (g.L.Links.journal c.answer_found.new.p) t u e.later (g.met.L.Links.seen_is d c.search_for-found.new.p x.pass)
    (g.met.L.Links.seen_is d c.answer_found.new.p e.pass) in
    let took = e.taken start s (x.found start s room b) removes yes in
    taken_few (g.L.Links.numbers d) start c.args.key s t u (g.met.L.Links.allowed d c.search_for-found.new.p x.pass) grows nodes to path ends
    took.passed took.left took.first took.node took.next took.finds (taken_steps _ _ _ _ _ _ _ _ t u took.takes)

pub answer_found-requires-clause-pass : goal.answer_found-requires-clause-pass
answer_found-requires-clause-pass g c = c.search_for-found.ensures.pass

pub returns-clause-pass : goal.returns-clause-pass
returns-clause-pass g c = c.answer_found.ensures.pass

pub returns-clause-later : goal.returns-clause-later
returns-clause-later g c = goes_on _ _ _ c.search_for-found.ensures.later c.answer_found.ensures.later
