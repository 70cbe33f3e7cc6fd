-- The node is marked, the left place led past the run, and all nodes are let go.
use Rattle.std.proofs.Common.{Bool, Some, false, refl, subst, sym, true, ℕ, ◌≡◌}
use Rattle.orc_heap.proofs.Pieces.{goes_on}
use Rattle.orc_heap.specs.Seats.{Seat, heap_of}
use Rattle.orc_heap.specs.Slots.{id_in}
use Rattle.orc_heap.specs.declared.events.Place.{Place}
use Rattle.orc_history.specs.declared.set.SetEntry.TheVariants.{Removed}
use Rattle.orc_ordered_chains.specs.Chains.{IsChainPlace}
use Rattle.orc_ordered_search.specs.Causes.{HasWorn}
use Rattle.orc_ordered_search.specs.Reading.{ordering_of, reading_by}
use Rattle.orc_ordered_search.specs.Searches.{FindsPresent, InHand, node_of, place_at, target_at}
use Rattle.orc_ordered_search.specs.Turns.{Marks}
use Rattle.orc_ordered_search.proofs.Marking.{tried_of, tries_wider, worn_wider}
use Rattle.orc_ordered_search.proofs.Removing.{marked_hand, marks_at, reads_node, removes_missed, tried_hand, tries_at, unlink_follows, unlink_held, unlink_left, unlink_run_at}
use Rattle.orc_ordered_search.proofs.remove.take_out.Given.{Over}
use Rattle.orc_ordered_search.proofs.remove.take_out.Goals.{After-mark_node, After-unlink_run}
use Rattle.orc_ordered_search.proofs.remove.take_out.Goals as goal

-- whether the node was marked
marks : (g : Over) (c : After-mark_node g) → let d = c.args.links.now in let a = c.args in let t = g.L.Links.seat d a.p.now in
    (start : Place) (passed : ℕ) (s : Seat g.row.K-Rule-Note.Denot)
    (f : FindsPresent (reading_by (g.L.Links.numbers d) g.K.Rank.manner) start (g.K.SetRank.key_rank a.key) passed a.left a.first a.node a.next s t) (done : Bool)
    → c.mark_node.result ≡ done
    → Marks (g.K.SetRank.noted (Removed t.agent a.key true)) f.id (node_of a.next f.next_id) t done (g.L.Links.seat d c.mark_node.new.p)
marks g c = λ start passed s f done is.
    let a = c.args in
    let t = g.L.Links.seat _ a.p.now in
    let u = g.L.Links.seat _ c.mark_node.new.p in
    let noted = g.K.SetRank.noted (Removed t.agent a.key true) in
    marks_at (ordering_of (g.met.K.Rank.ordered _)) f noted done u
    (subst (λ (b : Bool). Marks noted (id_in t.slots a.node) (target_at t.slots a.next) t b u) is c.mark_node.ensures.marked)

-- the nodes of the search are in hand on
hands : (g : Over) (c : After-mark_node g) → let d = c.args.links.now in let r = reading_by (g.L.Links.numbers d) g.K.Rank.manner in let a = c.args in
    (start : Place) (passed : ℕ) (s : Seat g.row.K-Rule-Note.Denot)
    (f : FindsPresent r start (g.K.SetRank.key_rank a.key) passed a.left a.first a.node a.next s (g.L.Links.seat d a.p.now))
    → InHand r s.slots a.left a.first (Some a.node) a.next (g.L.Links.seat d c.mark_node.new.p)
hands g c = λ start passed s f.
    let a = c.args in
    let t = g.L.Links.seat _ a.p.now in
    marked_hand (ordering_of (g.met.K.Rank.ordered _)) f
    (g.K.SetRank.noted (Removed t.agent a.key true)) _ _ (marks g c start passed s f _ refl) (g.met.L.Links.allowed _ _ c.mark_node.ensures.pass)

hands_on : (g : Over) (c : After-unlink_run g) → let d = c.args.links.now in let r = reading_by (g.L.Links.numbers d) g.K.Rank.manner in let a = c.args in
    (start : Place) (passed : ℕ) (s : Seat g.row.K-Rule-Note.Denot)
    (f : FindsPresent r start (g.K.SetRank.key_rank a.key) passed a.left a.first a.node a.next s (g.L.Links.seat d a.p.now))
    → InHand r s.slots a.left a.first (Some a.node) a.next (g.L.Links.seat d c.mark_node.new.p)
    → InHand r s.slots a.left a.first (Some a.node) a.next (g.L.Links.seat d c.unlink_run.new.p)
hands_on g c = λ start passed s f h.
    let a = c.args in
    let r = c.unlink_run.ensures in
    tried_hand (ordering_of (g.met.K.Rank.ordered _)) f _ _
    (tried_of (ordering_of (g.met.K.Rank.ordered _)) _ _ _ _ _ _ g.K.SetRank.unlinking (g.met.K.SetRank.enters_none _) r.tried)
    (g.met.L.Links.allowed _ _ r.pass) h

pub mark_node-requires : goal.mark_node-requires
mark_node-requires g c =
    let (start, passed, s, f) = c.requires.present in
    let r = reads_node (ordering_of (g.met.K.Rank.ordered _)) f in
    record { pass = c.requires.pass; node = r.node_held; next = r.next_held; key = r.key; follows = r.follows }

pub returns-then-not-mark_node : goal.returns-then-not-mark_node
returns-then-not-mark_node g c =
    let at = (goal.at.returns-then-not-mark_node g c).After-mark_node in
    let a = c.args in
    let t = g.L.Links.seat _ a.p.now in
    record {
      pass = c.let_all_go.ensures.pass;
      later = goes_on _ _ _ c.mark_node.ensures.later c.let_all_go.ensures.later;
      removed = λ start passed s f.
          removes_missed (ordering_of (g.met.K.Rank.ordered _)) f
          (g.K.SetRank.noted (Removed t.agent a.key true)) _ _
          (marks g at start passed s f false c.if-not-mark_node.true) (c.let_all_go.ensures.gone s.slots (hands g at start passed s f))
          (g.met.L.Links.allowed _ _ c.mark_node.ensures.pass);
    }

pub let_all_go-requires : goal.let_all_go-requires
let_all_go-requires g c =
    let (start, passed, s, f) = c.requires.present in
    record {
      pass = c.mark_node.ensures.pass;
      hands = (s.slots, hands g (goal.at.let_all_go-requires g c).After-mark_node start passed s f);
    }

pub unlink_run-requires : goal.unlink_run-requires
unlink_run-requires g c =
    let (start, passed, s, f) = c.requires.present in
    let a = c.args in
    let n = g.L.Links.numbers a.links.now in
    let ord = ordering_of (g.met.K.Rank.ordered n) in
    let u = g.L.Links.seat _ c.mark_node.new.p in
    let noted = g.K.SetRank.noted (Removed (g.L.Links.seat _ a.p.now).agent a.key true) in
    let e = c.mark_node.ensures in
    let all = g.met.L.Links.allowed _ _ e.pass in
    let m = marks g (goal.at.unlink_run-requires g c).After-mark_node start passed s f true c.if-not-mark_node.false in
    record {
      pass = e.pass;
      root = c.requires.root.0;
      held = unlink_held ord f u c.node_or.result.now e.marked.slots c.node_or.ensures;
      left = subst (λ (r : ℕ). IsChainPlace ord.reading.order (heap_of n u) (place_at u.slots r a.left)) (sym c.requires.root.1)
          (unlink_left ord f noted u c.node_or.result.now m all c.node_or.ensures);
      run = unlink_run_at ord f noted u c.node_or.result.now m all c.node_or.ensures;
      follows = unlink_follows ord f noted u m all;
    }

pub let_all_go-requires-2 : goal.let_all_go-requires-2
let_all_go-requires-2 g c =
    let at = goal.at.let_all_go-requires-2 g c in
    let (start, passed, s, f) = c.requires.present in
    record {
      pass = c.unlink_run.ensures.pass;
      hands = (s.slots, hands_on g at.After-unlink_run start passed s f (hands g at.After-mark_node start passed s f));
    }

pub returns : goal.returns
returns g c =
    let at = goal.at.returns g c in
    let d = c.args.links.now in
    let a = c.args in
    let t = g.L.Links.seat d a.p.now in
    let u = g.L.Links.seat d c.mark_node.new.p in
    let v = g.L.Links.seat d c.unlink_run.new.p in
    let j = g.L.Links.journal a.p.now in
    let k = g.L.Links.journal c.mark_node.new.p in
    let l = g.L.Links.journal c.unlink_run.new.p in
    let o = g.L.Links.journal c.let_all_go-2.new.p in
    let q = c.let_all_go-2.ensures in
    record {
      pass = q.pass;
      later = goes_on _ _ _ (goes_on _ _ _ c.mark_node.ensures.later c.unlink_run.ensures.later) q.later;
      removed = λ start passed s f.
          let m = marks g at.After-mark_node start passed s f true c.if-not-mark_node.false in
          let tried = tries_at (ordering_of (g.met.K.Rank.ordered _)) f u v c.node_or.result.now a.root
          g.K.SetRank.unlinking _ c.requires.root.1 m.slots c.node_or.ensures c.unlink_run.ensures.tried in
          record {
            marked = u;
            tried = v;
            marks = m;
            tries = tries_wider _ (HasWorn (g.L.Links.worn d t.agent) j o) g.K.SetRank.unlinking _ _ _ u v
                (λ w. worn_wider (g.L.Links.worn d) t.agent u.agent j k l o (λ why xs more from to h. g.met.L.Links.worn_stays d t.agent why xs more from to h)
                m.puts.agent c.mark_node.ensures.later q.later w) tried;
            gone = q.gone s.slots (hands_on g at.After-unlink_run start passed s f (hands g at.After-mark_node start passed s f));
          };
    }
