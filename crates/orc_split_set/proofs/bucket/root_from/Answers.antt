-- By what the search found.
use Rattle.std.proofs.Common.{[], append-nil, arith, refl}
use Rattle.orc_heap.proofs.Pieces.{goes_on}
use Rattle.orc_split_set.proofs.Rooting.{found_dummy, found_hand, found_roots, moved_roots}
use Rattle.orc_split_set.proofs.Telling.{told_searched, told_wider}
use Rattle.orc_ordered_search.proofs.Seen.{present_few}
use Rattle.orc_ordered_search.proofs.Since.{few_made}
use Rattle.orc_split_rule.specs.SplitOrder.{dummy_place}
use Rattle.orc_split_set.specs.SplitSearches.{split_reading}
use Rattle.orc_split_set.proofs.Passes.{seen_on}
use Rattle.orc_split_set.proofs.FewEvents.{few_ended, few_search, few_since, few_still, few_wider}
use Rattle.orc_split_set.proofs.bucket.root_from.Goals as goal

pub search_for-requires-clause-begins : goal.search_for-requires-clause-begins
search_for-requires-clause-begins g c =
    let (start, s, room, fresh, b) = c.requires.begins in
    (start, s, room.room, b)

pub returns-in-Over-clause-rooted : goal.returns-in-Over-clause-rooted
returns-in-Over-clause-rooted g c = λ start s room fresh b.
    moved_roots _ c.args.bucket s _ (c.in-Over.ensures.found start s room.room b).0 fresh

pub add_dummy-requires-clause-absent : goal.add_dummy-requires-clause-absent
add_dummy-requires-clause-absent g c =
    let (start, s, room, fresh, b) = c.requires.begins in
    (start, c.in-Absent.passed, s, room, fresh, c.in-Absent.ensures.found start s room.room b)

pub returns-in-Absent-clause-rooted : goal.returns-in-Absent-clause-rooted
returns-in-Absent-clause-rooted g c = λ start s room fresh b.
    c.add_dummy.ensures.rooted start c.in-Absent.passed s room fresh (c.in-Absent.ensures.found start s room.room b)

pub anchor-anchored-requires-clause-dummy : goal.anchor-anchored-requires-clause-dummy
anchor-anchored-requires-clause-dummy g c =
    let (start, s, room, fresh, b) = c.requires.begins in
    let x = c.in-Present in
    found_dummy _ c.args.bucket start x.passed x.left x.first x.node x.next s _ (x.ensures.found start s room.room b)

pub let_all_go-requires-clause-hands : goal.let_all_go-requires-clause-hands
let_all_go-requires-clause-hands g c =
    let (start, s, room, fresh, b) = c.requires.begins in
    let x = c.in-Present in
    let e = c.anchor-anchored.ensures in (
      s.slots,
      found_hand _ c.args.bucket start x.passed x.left x.first x.node x.next s _ (x.ensures.found start s room.room b)
          _ e.anchored.tried (g.met.L.Links.allowed _ _ e.pass),
    )

pub returns-in-Present-clause-rooted : goal.returns-in-Present-clause-rooted
returns-in-Present-clause-rooted g c = λ start s room fresh b.
    let x = c.in-Present in
    let e = c.anchor-anchored.ensures in
    let f = x.ensures.found start s room.room b in
    let hand = found_hand _ c.args.bucket start x.passed x.left x.first x.node x.next s _ f _ e.anchored.tried (g.met.L.Links.allowed _ _ e.pass) in
    found_roots _ c.args.bucket start x.passed x.left x.first x.node x.next s _ f _ _ c.anchor-anchored.result c.requires.bucket.0 c.requires.bucket.1 fresh
    e.anchored (c.let_all_go.ensures.gone s.slots hand) (g.met.L.Links.obeys _ _ e.pass)
    (g.met.L.Links.allowed _ _ c.let_all_go.ensures.pass)

pub returns-in-Absent-clause-told : goal.returns-in-Absent-clause-told
returns-in-Absent-clause-told g c =
    let (start, s, room, fresh, b) = c.requires.begins in
    let e = c.in-Absent.ensures in
    let f = c.add_dummy.ensures in
    told_searched g.L.Links g.met.L.Links.steps_add g.met.L.Links.seen_is c.args.links.now c.args.p.now c.search_for.new.p _ c.requires.pass e.pass
    b.begins (e.found start s room.room b).behind.quiet e.later f.later c.add_dummy.result f.told

pub returns-in-Present-clause-told : goal.returns-in-Present-clause-told
returns-in-Present-clause-told g c =
    let (start, s, room, fresh, b) = c.requires.begins in
    let e = c.in-Present.ensures in
    let anchored = c.anchor-anchored in
    let gone = c.let_all_go.ensures in
    let from = c.search_for.new.p in
    let told = told_wider g.L.Links g.met.L.Links.lacking_stays g.met.L.Links.worn_stays c.args.links.now from from anchored.new.p c.let_all_go.new.p refl
    ([], append-nil _) gone.later anchored.result anchored.ensures.told in
    told_searched g.L.Links g.met.L.Links.steps_add g.met.L.Links.seen_is c.args.links.now c.args.p.now c.search_for.new.p _ c.requires.pass e.pass
    b.begins (e.found start s room.room b).behind.quiet e.later (goes_on _ _ _ anchored.ensures.later gone.later) anchored.result told

pub returns-in-Over-clause-tries : goal.returns-in-Over-clause-tries
returns-in-Over-clause-tries g c =
    let t0 = g.L.Links.seat c.args.links.now c.args.p.now in
    let t = g.L.Links.seat c.args.links.now c.search_for.new.p in
    let (start, s, room, fresh, b) = c.requires.begins in
    let f = c.in-Over.ensures.found start s room.room b in
    let q = f.0.quiet.puts in
    few_wider 4 1 1 0 4 t0 t (omega arith) (omega arith) (few_search 4 s t0 t b.begins.seen b.begins.agent q.agent (few_made 4 4 s t f.0.own q f.1 (omega arith)))

pub returns-in-Absent-clause-tries : goal.returns-in-Absent-clause-tries
returns-in-Absent-clause-tries g c =
    let t0 = g.L.Links.seat c.args.links.now c.args.p.now in
    let u = g.L.Links.seat c.args.links.now c.add_dummy.new.p in
    let (start, s, room, fresh, b) = c.requires.begins in
    few_since 4 1 4 s t0 u b.begins.seen b.begins.agent
    (c.add_dummy.ensures.tries start c.in-Absent.passed s room fresh (c.in-Absent.ensures.found start s room.room b))

pub returns-in-Present-clause-tries : goal.returns-in-Present-clause-tries
returns-in-Present-clause-tries g c =
    let t0 = g.L.Links.seat c.args.links.now c.args.p.now in
    let t = g.L.Links.seat c.args.links.now c.search_for.new.p in
    let u = g.L.Links.seat c.args.links.now c.anchor-anchored.new.p in
    let v = g.L.Links.seat c.args.links.now c.let_all_go.new.p in
    let d = c.args.links.now in
    let (start, s, room, fresh, b) = c.requires.begins in
    let x = c.in-Present in
    let e = c.anchor-anchored.ensures in
    let f = x.ensures.found start s room.room b in
    let q = f.behind.quiet.puts in
    let hand = found_hand _ c.args.bucket start x.passed x.left x.first x.node x.next s _ f _ e.anchored.tried (g.met.L.Links.allowed _ _ e.pass) in
    let on = seen_on g.L.Links g.met.L.Links.steps_add g.met.L.Links.seen_is d in
    let sooner = on c.args.p.now c.search_for.new.p c.requires.pass x.ensures.pass x.ensures.later in
    let next = on c.search_for.new.p c.anchor-anchored.new.p x.ensures.pass e.pass e.later in
    let few = few_search 4 s t0 t b.begins.seen b.begins.agent q.agent (few_made 2 4 s t f.own q
    (present_few (split_reading _) start (dummy_place c.args.bucket) x.passed x.left x.first x.node x.next s t f) (omega arith)) in
    few_wider 4 1 1 1 4 t0 v (omega arith) (omega arith) (few_still 4 1 1 t0 u v (goes_on _ _ _ sooner next) (c.let_all_go.ensures.gone s.slots hand).puts
    (few_ended 4 0 1 t0 t u sooner e.anchored.tried.puts.agent next e.tries few))

pub add_dummy-requires-clause-pass : goal.add_dummy-requires-clause-pass
add_dummy-requires-clause-pass g c = c.in-Absent.ensures.pass

pub anchor-anchored-requires-clause-pass : goal.anchor-anchored-requires-clause-pass
anchor-anchored-requires-clause-pass g c = c.in-Present.ensures.pass

pub let_all_go-requires-clause-pass : goal.let_all_go-requires-clause-pass
let_all_go-requires-clause-pass g c = c.anchor-anchored.ensures.pass

pub returns-in-Over-clause-pass : goal.returns-in-Over-clause-pass
returns-in-Over-clause-pass g c = c.in-Over.ensures.pass

pub returns-in-Over-clause-later : goal.returns-in-Over-clause-later
returns-in-Over-clause-later g c = c.in-Over.ensures.later

pub returns-in-Absent-clause-pass : goal.returns-in-Absent-clause-pass
returns-in-Absent-clause-pass g c = c.add_dummy.ensures.pass

pub returns-in-Absent-clause-later : goal.returns-in-Absent-clause-later
returns-in-Absent-clause-later g c = goes_on _ _ _ c.in-Absent.ensures.later c.add_dummy.ensures.later

pub returns-in-Present-clause-pass : goal.returns-in-Present-clause-pass
returns-in-Present-clause-pass g c = c.let_all_go.ensures.pass

pub returns-in-Present-clause-later : goal.returns-in-Present-clause-later
returns-in-Present-clause-later g c = goes_on _ _ _ c.in-Present.ensures.later (goes_on _ _ _ c.anchor-anchored.ensures.later c.let_all_go.ensures.later)
