-- One unmarked node with a lower rank after another.
use Rattle.std.proofs.Common.{Bool, None, Some, [], ap, append-nil, arith, subst, sym, ℕ, ◌+◌, ◌∙◌, ◌≤◌}
use Rattle.orc_heap.proofs.Pieces.{goes_on}
use Rattle.orc_heap.specs.Seats.{Seat}
use Rattle.orc_heap.specs.Slots.{Hold}
use Rattle.orc_heap.specs.declared.events.Place.{Place}
use Rattle.orc_ordered_search.proofs.Ranking.{passed_linked, passed_read, steps_up}
use Rattle.orc_ordered_search.proofs.Running.{left_apart, left_not_fresh, moved_holds, moves_off, moves_past, passed_holds, stays_by, walk_holds}
use Rattle.orc_ordered_search.proofs.Walking.{walk_free}
use Rattle.orc_ordered_search.specs.Searches.{HasRoom, LooksBy, Passed, Walks, count_on}
use Rattle.orc_ordered_search.specs.Reading.{ordering_of, reading_by}
use Rattle.orc_ordered_search.proofs.search.pass_lower.Given.{Over}
use Rattle.orc_ordered_search.proofs.search.pass_lower.Goals.{After-count_one-passed, After-read-rank, In-Stays}
use Rattle.orc_ordered_search.proofs.search.pass_lower.Goals as goal

-- the look found an unmarked link to a node, and the left hold moved on to it
passed : (g : Over) (c : After-count_one-passed g) → let d = c.args.links.now in let r = reading_by (g.L.Links.numbers d) g.K.Rank.manner in let a = c.args in let l =
    c.loop-p in
    (start : Place) (s : Seat g.row.K-Rule-Note.Denot) → Walks r start (g.K.Rank.number a.wanted) (Some l.left) None l.at (g.K.Rank.number l.rank) (g.K.Rank.counted l.rank) l.passed s
    (g.L.Links.seat d l.p)
    → Passed r start (g.K.Rank.number a.wanted) (g.K.Rank.number l.rank + 1) c.count_one-passed.result (Some l.at) None (Some c.in-On.next) s (g.L.Links.seat d
    c.look_on.new.p)
passed g c = λ start s w.
    let d = c.args.links.now in
    let l = c.loop-p in
    subst (λ (x : ℕ). Passed (reading_by (g.L.Links.numbers d) g.K.Rank.manner) start (g.K.Rank.number c.args.wanted) (g.K.Rank.number l.rank + 1) x (Some l.at) None (Some c.in-On.next) s
    (g.L.Links.seat d c.look_on.new.p)) (sym (c.count_one-passed.ensures ∙ ap (λ (b : Bool). count_on b l.passed) c.is_counted.ensures))
    (moves_past (ordering_of (g.met.K.Rank.ordered _)) start (g.K.Rank.number c.args.wanted) l.left l.at (g.K.Rank.number l.rank) (g.K.Rank.counted l.rank) l.passed
    c.spare_slot-spare.result s _
    _ w (g.met.L.Links.allowed _ _ c.look_on.ensures.pass)
    c.in-On.next c.in-On.ensures.looked (g.met.L.Links.obeys _ _ l.invariant.pass) (c.is_before.ensures.yes c.loop-p-test.true))

-- and then the rank of the next node was read
next_read : (g : Over) (c : After-read-rank g) → let d = c.args.links.now in let r = reading_by (g.L.Links.numbers d) g.K.Rank.manner in let a = c.args in
    let l = c.loop-p in (start : Place) (s : Seat g.row.K-Rule-Note.Denot)
    → Passed r start (g.K.Rank.number a.wanted) (g.K.Rank.number l.rank + 1) c.count_one-passed.result (Some l.at) None (Some c.in-On.next) s (g.L.Links.seat d
    c.look_on.new.p)
    → let rank = c.read-rank.result in
    Walks r start (g.K.Rank.number a.wanted) (Some l.at) None c.in-On.next (g.K.Rank.number rank) (g.K.Rank.counted rank) c.count_one-passed.result s
    (g.L.Links.seat d c.read-rank.new.p) × (g.K.Rank.number l.rank + 1 ≤ g.K.Rank.number rank)
next_read g c = λ start s past.
    let l = c.loop-p in
    let e = c.read-rank.ensures in
    passed_read (ordering_of (g.met.K.Rank.ordered _)) start (g.K.Rank.number c.args.wanted) (g.K.Rank.number l.rank + 1)
    c.count_one-passed.result (Some l.at) None c.in-On.next (g.K.Rank.number c.read-rank.result) (g.K.Rank.counted c.read-rank.result) s
    _ _ past e.nothing e.rank (g.met.L.Links.allowed _ _ e.pass)

-- the look found anything else
by : (g : Over) (c : In-Stays g) → let d = c.args.links.now in let r = reading_by (g.L.Links.numbers d) g.K.Rank.manner in let a = c.args in let l = c.loop-p in
    (start : Place) (s : Seat g.row.K-Rule-Note.Denot) → HasRoom s.slots → Walks r start (g.K.Rank.number a.wanted) (Some l.left) None l.at (g.K.Rank.number l.rank) (g.K.Rank.counted l.rank)
    l.passed s (g.L.Links.seat d l.p)
    → LooksBy r start (g.K.Rank.number a.wanted) (Some c.in-Stays.left) None l.at (g.K.Rank.number l.rank) (g.K.Rank.counted l.rank) l.passed s c.in-Stays.looked (g.L.Links.seat d
    c.look_on.new.p)
by g c = λ start s room w.
    let d = c.args.links.now in
    let l = c.loop-p in
    let (low, high, not_left, not_at) = l.invariant.spare in
    let (kept, looks) = stays_by (ordering_of (g.met.K.Rank.ordered _)) start (g.K.Rank.number c.args.wanted) l.left l.at (g.K.Rank.number l.rank) (g.K.Rank.counted l.rank) l.passed
    c.spare_slot-spare.result s _
    _ w (g.met.L.Links.allowed _ _ c.look_on.ensures.pass)
    c.in-Stays.left c.in-Stays.looked c.in-Stays.ensures.looked (g.met.L.Links.obeys _ _ l.invariant.pass) room low high not_left not_at in
    subst (λ (h : Hold). LooksBy (reading_by (g.L.Links.numbers d) g.K.Rank.manner) start (g.K.Rank.number c.args.wanted) (Some h) None l.at (g.K.Rank.number l.rank) (g.K.Rank.counted l.rank)
    l.passed s c.in-Stays.looked (g.L.Links.seat d c.look_on.new.p)) (sym kept) looks

pub loop-p-init : goal.loop-p-init
loop-p-init g c =
    let k = c.spare_slot-spare.ensures in
    record {
      pass = c.requires.pass;
      later = ([], append-nil _);
      spare = (k.range.0, k.range.1, λ e. k.left (e ∙ sym c.slot.ensures), λ e. k.at (e ∙ sym c.slot-2.ensures));
      up = omega arith;
      walks = λ start s room w. w;
    }

pub look_on-requires : goal.look_on-requires
look_on-requires g c =
    let l = c.loop-p in
    let x = ordering_of (g.met.K.Rank.ordered _) in
    let (start, s, room, first) = c.requires.walks in
    let w = l.invariant.walks start s room first in
    let (low, high, not_left, not_at) = l.invariant.spare in
    let (from, linked) = left_not_fresh x start _ _ _ _ _ _ s _ w (λ i h. g.met.L.Links.fresh_is c.args.links.now l.p i l.invariant.pass h) in
    record {
      pass = l.invariant.pass;
      place = walk_holds x start _ _ _ _ _ _ _ s _ w;
      from = from;
      linked = linked;
      outside = left_apart x start _ _ _ _ _ _ s _ w;
      slot = walk_free x start _ _ _ _ _ _ _ c.spare_slot-spare.result s _ room w low high not_left (λ e. omega (arith, e, high)) not_at;
    }

pub read-rank-requires : goal.read-rank-requires
read-rank-requires g c =
    let x = ordering_of (g.met.K.Rank.ordered _) in
    let (start, s, room, first) = c.requires.walks in
    let past = passed g (goal.at.read-rank-requires g c).After-count_one-passed start s (c.loop-p.invariant.walks start s room first) in
    record {
      pass = c.look_on.ensures.pass;
      held = passed_holds x start _ _ _ _ _ _ s _ past;
      linked = passed_linked x start _ _ _ _ _ _ s _ past;
    }

pub loop-p-smaller : goal.loop-p-smaller
loop-p-smaller g c =
    let at = goal.at.loop-p-smaller g c in
    let (start, s, room, w) = c.requires.walks in
    let next = next_read g at.After-read-rank start s (passed g at.After-count_one-passed start s (c.loop-p.invariant.walks start s room w)) in
    omega (arith, next.1, c.is_before.ensures.yes c.loop-p-test.true)

pub loop-p-preserved : goal.loop-p-preserved
loop-p-preserved g c =
    let at = goal.at.loop-p-preserved g c in
    let (start, s, room, w) = c.requires.walks in
    let i = c.loop-p.invariant in
    let next = next_read g at.After-read-rank start s (passed g at.After-count_one-passed start s (i.walks start s room w)) in
    let (low, high, not_left, not_at) = i.spare in
    let (id, one, some, plain, in_left, slots, puts) = c.in-On.ensures.looked.tells in
    record {
      pass = c.read-rank.ensures.pass;
      later = goes_on _ _ _ (goes_on _ _ _ i.later c.look_on.ensures.later) c.read-rank.ensures.later;
      spare = (low, high, not_at, λ e. not_left (e ∙ in_left));
      up = omega (arith, i.up, next.1);
      walks = λ start s room w. (next_read g at.After-read-rank start s (passed g at.After-count_one-passed start s (i.walks start s room w))).0;
    }

pub step_by-requires : goal.step_by-requires
step_by-requires g c =
    record {
      looked = let (start, s, room, w) = c.requires.walks in
          (start, s, by g (goal.at.step_by-requires g c).In-Stays start s room (c.loop-p.invariant.walks start s room w));
      pass = c.look_on.ensures.pass;
    }

pub returns-in-Stays : goal.returns-in-Stays
returns-in-Stays g c =
    record {
      stepped = λ start s room w.
          let at = goal.at.returns-in-Stays g c in
          let i = c.loop-p.invariant in
          steps_up (reading_by _ g.K.Rank.manner) g.K.Rank.number g.K.Rank.counted start (g.K.Rank.number c.args.wanted) (g.K.Rank.number c.args.rank + 1) (g.K.Rank.number c.loop-p.rank + 1) s c.step_by.result (g.L.Links.seat _
          c.step_by.new.p)
          (c.step_by.ensures.stepped start s (by g at.In-Stays start s room (i.walks start s room w))) (omega (arith, i.up));
      pass = c.step_by.ensures.pass;
      later = goes_on _ _ _ (goes_on _ _ _ c.loop-p.invariant.later c.look_on.ensures.later) c.step_by.ensures.later;
    }

pub release-requires : goal.release-requires
release-requires g c =
    record {
      held = let l = c.loop-p in
          let (start, s, room, w) = c.requires.walks in
          moved_holds (ordering_of (g.met.K.Rank.ordered _)) start (g.K.Rank.number c.args.wanted) l.left l.at (g.K.Rank.number l.rank) (g.K.Rank.counted l.rank) l.passed
          c.spare_slot-spare.result s _
          _ (l.invariant.walks start s room w) (g.met.L.Links.allowed _ _ c.look_on.ensures.pass)
          c.in-Moved.ensures.looked;
      pass = c.look_on.ensures.pass;
    }

pub returns-in-Moved : goal.returns-in-Moved
returns-in-Moved g c =
    record {
      later = goes_on _ _ _ (goes_on _ _ _ c.loop-p.invariant.later c.look_on.ensures.later) c.release.ensures.later;
      stepped = λ start s room first.
          let d = c.args.links.now in
          let l = c.loop-p in
          let w = l.invariant.walks start s room first in
          let f = c.release.ensures in
          moves_off (ordering_of (g.met.K.Rank.ordered _)) start (g.K.Rank.number c.args.wanted) l.left l.at (g.K.Rank.number l.rank) (g.K.Rank.counted l.rank) l.passed
          c.spare_slot-spare.result s _
          _ w (g.met.L.Links.allowed _ _ c.look_on.ensures.pass)
          c.in-Moved.ensures.looked _ f.released
          (λ i h. g.met.L.Links.fresh_is d c.look_on.new.p i c.look_on.ensures.pass h) (g.met.L.Links.allowed _ _ f.pass);
      pass = c.release.ensures.pass;
    }

pub step-requires : goal.step-requires
step-requires g c =
    record {
      walks = let (start, s, room, w) = c.requires.walks in
          (start, s, room, c.loop-p.invariant.walks start s room w);
      pass = c.loop-p.invariant.pass;
    }

pub returns : goal.returns
returns g c =
    record {
      later = goes_on _ _ _ c.loop-p.invariant.later c.step.ensures.later;
      stepped = λ start s room w.
          let i = c.loop-p.invariant in
          steps_up (reading_by _ g.K.Rank.manner) g.K.Rank.number g.K.Rank.counted start (g.K.Rank.number c.args.wanted) (g.K.Rank.number c.args.rank + 1) (g.K.Rank.number c.loop-p.rank + 1) s c.step.result (g.L.Links.seat _
          c.step.new.p)
          (c.step.ensures.stepped start s room (i.walks start s room w)) (omega (arith, i.up));
      pass = c.step.ensures.pass;
    }
