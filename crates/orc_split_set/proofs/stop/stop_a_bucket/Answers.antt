-- By what the search found, and by what came of the new dummy.
use Rattle.std.proofs.Common.{arith, refl, subst, sym, ◌∙◌}
use Rattle.orc_heap.proofs.Pieces.{goes_on}
use Rattle.orc_heap.specs.declared.events.Place.TheVariants.{Root}
use Rattle.orc_ordered_search.proofs.Adding.{absent_hand_on, give_free}
use Rattle.orc_ordered_search.proofs.Held.{present_hand, release_goes}
use Rattle.orc_ordered_search.proofs.Inserting.{idle_room, turn_node, turn_spent}
use Rattle.orc_ordered_search.specs.Searches.{FindsAbsent, FindsPresent}
use Rattle.orc_ordered_search.specs.declared.turn.InsertTurn.{InsertTurn}
use Rattle.orc_split_rule.specs.SplitOrder.{dummy_place}
use Rattle.orc_split_set.specs.Rootings.{HasNewDummy}
use Rattle.orc_split_set.specs.SplitSearches.{split_reading}
use Rattle.orc_split_set.specs.Stops.{StopsUnnamed}
use Rattle.orc_split_set.specs.declared.bucket.Rooted.TheVariants.{NoNode, Spent as RootedSpent}
use Rattle.orc_split_set.proofs.Allowing.{dummy_added, dummy_to_add}
use Rattle.orc_split_set.proofs.Ordered.{split_ordering}
use Rattle.orc_split_set.proofs.Passes.{seen_on}
use Rattle.orc_split_set.proofs.Rooting.{has_dummy, moved_roots, no_dummy}
use Rattle.orc_split_set.proofs.Stopping.{begins_first, found_stops, lacking_stops, linked_new, linked_unnamed, moved_stops, turn_held, turn_stops}
use Rattle.orc_split_set.proofs.Telling.{told_later, told_refused, told_wider}
use Rattle.orc_split_set.proofs.stop.stop_a_bucket.Given.{Over}
use Rattle.orc_split_set.proofs.stop.stop_a_bucket.Goals.{In-Absent, In-Ok, In-Present}
use Rattle.orc_split_set.proofs.stop.stop_a_bucket.Goals as goal

-- the dummy's place, without it
absent : (g : Over) (c : In-Absent g) → let d = c.args.links.now in let x = c.in-Absent in
    FindsAbsent (split_reading (g.L.Links.numbers d)) (Root 0) (dummy_place c.args.bucket) x.passed x.left x.first x.right (g.L.Links.seat d c.args.p.now)
    (g.L.Links.seat d c.search_for.new.p)
absent g c =
    c.in-Absent.ensures.found (Root 0) _ (idle_room _ c.requires.idle).room (begins_first _ c.args.bucket _)

-- and with it
present : (g : Over) (c : In-Present g) → let d = c.args.links.now in let x = c.in-Present in
    FindsPresent (split_reading (g.L.Links.numbers d)) (Root 0) (dummy_place c.args.bucket) x.passed x.left x.first x.node x.next
    (g.L.Links.seat d c.args.p.now) (g.L.Links.seat d c.search_for.new.p)
present g c =
    c.in-Present.ensures.found (Root 0) _ (idle_room _ c.requires.idle).room (begins_first _ c.args.bucket _)

-- a dummy was given
new_dummy : (g : Over) (c : In-Ok g) → let d = c.args.links.now in let x = c.in-Absent in
    HasNewDummy (g.L.Links.numbers d) c.args.bucket x.left x.first x.right c.in-Ok.dummy (g.L.Links.seat d c.args.p.now) (g.L.Links.seat d c.give.new.p)
new_dummy g c =
    let x = c.in-Absent in
    let e = c.in-Ok.ensures in
    has_dummy _ c.args.bucket (Root 0) x.passed x.left x.first x.right _ _ _
    (x.ensures.found (Root 0) _ (idle_room _ c.requires.idle).room (begins_first _ c.args.bucket _)) (idle_room _ c.requires.idle)
    c.in-Ok.dummy _ c.from.ensures e.given (g.met.L.Links.allowed _ _ e.pass)

pub give-requires : goal.give-requires
give-requires g c =
    record {
      slot = let s = g.L.Links.seat c.args.links.now c.args.p.now in
          let x = c.in-Absent in
          let t = g.L.Links.seat c.args.links.now c.search_for.new.p in
          give_free (split_ordering (g.L.Links.numbers c.args.links.now)) (Root 0) (dummy_place c.args.bucket) x.passed c.args.bucket 0 x.left x.first x.right s t t
          (absent g (goal.at.give-requires g c).In-Absent) (idle_room s c.requires.idle).one;
      no_other = (absent g (goal.at.give-requires g c).In-Absent).behind.quiet.fresh ∙ c.requires.idle.fresh;
      pass = c.in-Absent.ensures.pass;
    }

pub release-requires : goal.release-requires
release-requires g c =
    record {
      held = let s = g.L.Links.seat c.args.links.now c.args.p.now in
          let x = c.in-Absent in
          let h = new_dummy g (goal.at.release-requires g c).In-Ok in
          turn_held _ c.args.bucket x.left x.first x.right c.in-Ok.dummy s _ _ h c.add_node-done.result
          (dummy_added _ c.args.bucket c.in-Absent.left c.in-Absent.first c.in-Absent.right c.in-Ok.dummy s _ _ h c.requires.bucket.0 c.requires.bucket.1 _ _ refl
          c.add_node-done.ensures.added);
      pass = c.add_node-done.ensures.pass;
    }

pub let_all_go-requires : goal.let_all_go-requires
let_all_go-requires g c =
    record {
      hands = let s = g.L.Links.seat c.args.links.now c.args.p.now in
          let x = c.in-Absent in
          let e = c.in-Err.ensures in (
            s.slots,
            absent_hand_on (split_ordering _) (Root 0) (dummy_place c.args.bucket) x.passed c.args.bucket 0 x.left x.first x.right s _ _
                (absent g (goal.at.let_all_go-requires g c).In-Absent) (idle_room s c.requires.idle).one e.none (g.met.L.Links.allowed _ _ e.pass),
          );
      pass = c.in-Err.ensures.pass;
    }

pub let_all_go-requires-in-Present : goal.let_all_go-requires-in-Present
let_all_go-requires-in-Present g c =
    record {
      hands = let s = g.L.Links.seat _ c.args.p.now in
          let x = c.in-Present in (
            s.slots,
            present_hand (split_ordering _) (Root 0) (dummy_place c.args.bucket) x.passed x.left x.first s _ x.node
                x.next (present g (goal.at.let_all_go-requires-in-Present g c).In-Present),
          );
      pass = c.in-Present.ensures.pass;
    }

pub returns-in-Ok : goal.returns-in-Ok
returns-in-Ok g c =
    record {
      stopped = let s = g.L.Links.seat c.args.links.now c.args.p.now in
          let x = c.in-Absent in
          let h = new_dummy g (goal.at.returns-in-Ok g c).In-Ok in
          let n = g.L.Links.numbers c.args.links.now in
          let u = g.L.Links.seat c.args.links.now c.give.new.p in
          let v = g.L.Links.seat c.args.links.now c.add_node-done.new.p in
          let w = g.L.Links.seat c.args.links.now c.release.new.p in
          let k = c.add_node-done.ensures in
          let to_add = dummy_to_add n c.args.bucket x.left x.first x.right c.in-Ok.dummy s u h c.requires.bucket.0 c.requires.bucket.1 in
          let all = g.met.L.Links.allowed _ _ k.pass in
          let grows = seen_on g.L.Links g.met.L.Links.steps_add g.met.L.Links.seen_is _ c.give.new.p c.add_node-done.new.p c.in-Ok.ensures.pass k.pass k.later in
          subst (λ (turn : InsertTurn). StopsUnnamed n c.args.bucket s turn w) (sym c.turn_of.ensures)
          (turn_stops n c.args.bucket x.passed x.left x.first x.right c.in-Ok.dummy s u v w h c.add_node-done.result
          (dummy_added _ c.args.bucket c.in-Absent.left c.in-Absent.first c.in-Absent.right c.in-Ok.dummy s _ _ h c.requires.bucket.0 c.requires.bucket.1 _ _ refl
          c.add_node-done.ensures.added)
          (release_goes c.in-Ok.dummy v w c.release.ensures.released) grows (g.met.L.Links.allowed _ _ c.release.ensures.pass)
          (g.met.L.Links.obeys _ _ c.release.ensures.pass)
          (λ is. linked_new n c.args.bucket h.adds.id _ _ _ _ u v (k.linked to_add is) all s h.adds.own h.adds.puts (g.met.L.Links.obeys _ _ k.pass))
          (λ is. linked_unnamed n c.args.bucket h.adds.id _ _ _ _ u v (k.linked to_add is) all c.requires.bucket.0 c.requires.bucket.1));
      lacking = λ is. absurd (turn_node c.in-Absent.passed c.add_node-done.result (sym c.turn_of.ensures ∙ is));
      worn = λ why is.
          let q = (absent g (goal.at.returns-in-Ok g c).In-Absent).behind.quiet in
          let e = c.in-Ok.ensures in
          let k = c.add_node-done.ensures in
          let w = k.worn why (turn_spent c.in-Absent.passed c.add_node-done.result why (sym c.turn_of.ensures ∙ is)) in
          told_later g.L.Links g.met.L.Links.steps_add g.met.L.Links.seen_is c.args.links.now c.args.p.now c.search_for.new.p _ _ c.requires.pass
          c.in-Absent.ensures.pass q.puts q.some c.in-Absent.ensures.later (goes_on _ _ _ e.later (goes_on _ _ _ k.later c.release.ensures.later)) (RootedSpent why)
          (told_wider g.L.Links g.met.L.Links.lacking_stays g.met.L.Links.worn_stays c.args.links.now c.search_for.new.p c.give.new.p c.add_node-done.new.p c.release.new.p
          e.given.puts.agent e.later c.release.ensures.later (RootedSpent why) w);
      pass = c.release.ensures.pass;
      later = goes_on _ _ _ c.in-Absent.ensures.later (goes_on _ _ _ c.in-Ok.ensures.later (goes_on _ _ _ c.add_node-done.ensures.later c.release.ensures.later));
    }

pub search_for-requires : goal.search_for-requires
search_for-requires g c =
    record {
      begins = let s = g.L.Links.seat _ c.args.p.now in
          (Root 0, s, (idle_room s c.requires.idle).room, begins_first _ c.args.bucket s);
      pass = c.requires.pass;
      roots = omega (arith, c.requires.bucket.1);
    }

pub add_node-done-requires : goal.add_node-done-requires
add_node-done-requires g c =
    record {
      adds = let s = g.L.Links.seat c.args.links.now c.args.p.now in
          let x = c.in-Absent in
          let h = new_dummy g (goal.at.add_node-done-requires g c).In-Ok in
          dummy_to_add _ c.args.bucket x.left x.first x.right c.in-Ok.dummy s _ h c.requires.bucket.0 c.requires.bucket.1;
      pass = c.in-Ok.ensures.pass;
      root = omega (arith, c.requires.bucket.1);
    }

pub returns-in-Over : goal.returns-in-Over
returns-in-Over g c =
    record {
      stopped = let over = (c.in-Over.ensures.found (Root 0) _ (idle_room _ c.requires.idle).room (begins_first _ c.args.bucket _)).0 in
          moved_stops _ c.args.bucket _ _ (moved_roots _ c.args.bucket _ _ over c.requires.idle.fresh);
      pass = c.in-Over.ensures.pass;
      later = c.in-Over.ensures.later;
      lacking = λ is. cc;
      worn = λ why is. cc;
    }

pub returns-in-Present : goal.returns-in-Present
returns-in-Present g c =
    record {
      stopped = let f = present g (goal.at.returns-in-Present g c).In-Present in
          let s = g.L.Links.seat _ c.args.p.now in
          let x = c.in-Present in
          let hand = present_hand (split_ordering _) (Root 0) (dummy_place c.args.bucket) x.passed x.left x.first s _ x.node x.next f in
          found_stops _ c.args.bucket (Root 0) x.passed x.left x.first x.node x.next s _ _ f (c.let_all_go-in-Present.ensures.gone s.slots hand) c.requires.idle.fresh
          (g.met.L.Links.allowed _ _ c.let_all_go-in-Present.ensures.pass);
      pass = c.let_all_go-in-Present.ensures.pass;
      later = goes_on _ _ _ c.in-Present.ensures.later c.let_all_go-in-Present.ensures.later;
      lacking = λ is. cc;
      worn = λ why is. cc;
    }

pub returns-in-Err : goal.returns-in-Err
returns-in-Err g c =
    record {
      stopped = let s = g.L.Links.seat c.args.links.now c.args.p.now in
          let x = c.in-Absent in
          let e = c.in-Err.ensures in
          lacking_stops _ c.args.bucket s _ (no_dummy _ c.args.bucket (Root 0) x.passed x.left x.first x.right s _ _ _
          (absent g (goal.at.returns-in-Err g c).In-Absent) (idle_room s c.requires.idle) c.requires.idle.fresh e.none (g.met.L.Links.allowed _ _ e.pass)
          (c.let_all_go.ensures.gone s.slots));
      lacking = λ is.
          let q = (absent g (goal.at.returns-in-Err g c).In-Absent).behind.quiet in
          let e = c.in-Err.ensures in
          let gone = c.let_all_go.ensures in
          told_later g.L.Links g.met.L.Links.steps_add g.met.L.Links.seen_is c.args.links.now c.args.p.now c.search_for.new.p _ _ c.requires.pass
          c.in-Absent.ensures.pass q.puts q.some c.in-Absent.ensures.later (goes_on _ _ _ e.later gone.later) NoNode
          (told_refused g.L.Links g.met.L.Links.lacking_stays g.met.L.Links.worn_stays c.args.links.now c.search_for.new.p c.give.new.p c.let_all_go.new.p e.later gone.later e.lacking);
      pass = c.let_all_go.ensures.pass;
      later = goes_on _ _ _ c.in-Absent.ensures.later (goes_on _ _ _ c.in-Err.ensures.later c.let_all_go.ensures.later);
      worn = λ why is. cc;
    }
