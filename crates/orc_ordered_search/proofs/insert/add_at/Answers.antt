-- With the node that is there, or with a new one.
use Rattle.std.proofs.Common.{Some, [], ap, append-nil, arith, length, subst, sym, true, ◌∙◌, ◌∷◌, ◌≡◌, ℕ}
use Rattle.orc_heap.proofs.Pieces.{goes_on}
use Rattle.orc_heap.specs.Calls.{Gives}
use Rattle.orc_history.specs.Journals.{Within}
use Rattle.orc_history.specs.declared.set.SetEntry.TheVariants.{Added}
use Rattle.orc_ordered_search.specs.Entries.{AllowsNode}
use Rattle.orc_ordered_search.specs.Inserts.{Inserts}
use Rattle.orc_ordered_search.specs.Reading.{ordering_of, reading_by}
use Rattle.orc_ordered_search.specs.declared.turn.InsertTurn.{InsertTurn}
use Rattle.orc_ordered_search.proofs.Inserting.{turn_node, turn_spent}
use Rattle.orc_ordered_search.proofs.Marking.{part_fact, within_wider}
use Rattle.orc_ordered_search.proofs.Seeking.{given_inserts, hand_inserts, in_hand, lacking_hand, lacking_inserts, lacking_sees, node_few, node_found, node_given, room_to_give, turn_true}
use Rattle.orc_ordered_search.proofs.insert.add_at.Given.{Over}
use Rattle.orc_ordered_search.proofs.insert.add_at.Goals.{After-note-note, In-Ok}
use Rattle.orc_ordered_search.proofs.insert.add_at.Goals as goal

-- the note is that of the key
note_is : (g : Over) (c : After-note-note g) → let t = g.L.Links.seat c.args.links.now c.args.p.now in
    c.note-note.result ≡ g.K.SetRank.noted (Added t.agent c.args.key true)
note_is g c = c.note-note.ensures ∙ ap (λ (i : ℕ). g.K.SetRank.noted (Added i c.args.key true)) c.agent-agent.ensures

allows : (g : Over) (c : After-note-note g) → let d = c.args.links.now in let x = ordering_of (g.met.K.Rank.ordered (g.L.Links.numbers d)) in
    AllowsNode x.reading x.holds x.may (g.K.SetRank.key_rank c.args.key) c.args.key g.K.SetRank.key_kind (g.L.Links.seat d c.args.p.now).agent c.note-note.result
allows g c =
    let x = ordering_of (g.met.K.Rank.ordered _) in
    let t = g.L.Links.seat _ c.args.p.now in
    subst (λ (z : g.row.K-Rule-Note.Denot). AllowsNode x.reading x.holds x.may (g.K.SetRank.key_rank c.args.key) c.args.key g.K.SetRank.key_kind t.agent z)
    (sym (note_is g c)) (g.met.K.SetRank.allows_add _ t.agent c.args.key)

-- it enters the key
enters : (g : Over) (c : After-note-note g) (agent : ℕ) → (g.L.Links.seat c.args.links.now c.args.p.now).agent ≡ agent
    → let r = reading_by (g.L.Links.numbers c.args.links.now) g.K.Rank.manner in r.entries_in (Some c.note-note.result) ≡ Added agent c.args.key true ∷ []
enters g c = λ agent same.
    let r = reading_by _ g.K.Rank.manner in
    ap (λ (z : g.row.K-Rule-Note.Denot). r.entries_in (Some z)) (note_is g c)
    ∙ (g.met.K.SetRank.enters _ _ ∙ ap (λ (i : ℕ). Added i c.args.key true ∷ []) same)

-- the node that was given
new : (g : Over) (c : In-Ok g) → let d = c.args.links.now in
    Gives (g.L.Links.numbers d) 1 c.args.key g.K.SetRank.key_kind (g.L.Links.seat d c.args.p.now) c.in-Ok.node (g.L.Links.seat d c.give.new.p)
new g c =
    let d = c.args.links.now in
    subst (λ (k : ℕ). Gives (g.L.Links.numbers d) 1 c.args.key k (g.L.Links.seat d c.args.p.now) c.in-Ok.node (g.L.Links.seat d c.give.new.p))
    c.kind_of_keys-kind.ensures c.in-Ok.ensures.given

pub give-requires : goal.give-requires
give-requires g c =
    let x = ordering_of (g.met.K.Rank.ordered _) in
    let at = (goal.at.give-requires g c).After-note-note in
    let (slot, no_other) = room_to_give x c.requires.sought c.requires.root.1 (allows g at) (g.met.L.Links.allowed _ _ c.requires.pass) c.in_default.is in
    record { pass = c.requires.pass; slot = slot; no_other = no_other }

pub add_node-linked-requires-clause-adds : goal.add_node-linked-requires-clause-adds
add_node-linked-requires-clause-adds g c =
    let x = ordering_of (g.met.K.Rank.ordered _) in
    let at = (goal.at.add_node-linked-requires-clause-adds g c).After-note-note in
    in_hand x c.requires.sought c.requires.root.1 (allows g at) (g.met.L.Links.allowed _ _ c.requires.pass) c.in-Some.node c.in-Some.is

pub returns-in-Some : goal.returns-in-Some
returns-in-Some g c =
    let x = ordering_of (g.met.K.Rank.ordered _) in
    let at = (goal.at.returns-in-Some g c).After-note-note in
    let e = c.add_node-linked.ensures in
    let told = sym c.turn_of.ensures in
    record {
      pass = e.pass;
      later = e.later;
      inserted = λ a. subst (λ (y : InsertTurn). Inserts x.reading c.args.key g.K.SetRank.key_kind (λ yes. Added a.begun.agent c.args.key yes) 1 a.slots
          c.args.node a.begun y (Some c.in-Some.node) (g.L.Links.seat c.args.links.now c.add_node-linked.new.p)) told
          (hand_inserts x a c.requires.root.1 (allows g at) (g.met.L.Links.allowed _ _ c.requires.pass) c.in-Some.node c.in-Some.is (λ yes. Added a.begun.agent c.args.key yes) c.add_node-linked.result _ e.added
          (enters g at a.begun.agent a.finds.behind.quiet.puts.agent));
      few = λ a. let k = in_hand x a c.requires.root.1 (allows g at) (g.met.L.Links.allowed _ _ c.requires.pass) c.in-Some.node c.in-Some.is in
          node_few k _ c.add_node-linked.result _ (e.added k) (e.few k);
      added = λ a many is. let (linked, same) = turn_true c.args.passed c.add_node-linked.result many (told ∙ is) in
          let k = in_hand x a c.requires.root.1 (allows g at) (g.met.L.Links.allowed _ _ c.requires.pass) c.in-Some.node c.in-Some.is in
          node_found k _ _ many _ (note_is g at) same (e.linked k linked);
      absent = λ a is. absurd (turn_node c.args.passed c.add_node-linked.result (told ∙ is));
      lacking = λ is. absurd (turn_node c.args.passed c.add_node-linked.result (told ∙ is));
      worn = λ why is. e.worn why (turn_spent c.args.passed c.add_node-linked.result why (told ∙ is));
    }

pub add_node-linked-requires-in-Ok-clause-adds : goal.add_node-linked-requires-in-Ok-clause-adds
add_node-linked-requires-in-Ok-clause-adds g c =
    let x = ordering_of (g.met.K.Rank.ordered _) in
    let at = (goal.at.add_node-linked-requires-in-Ok-clause-adds g c).After-note-note in
    let given = new g (goal.at.add_node-linked-requires-in-Ok-clause-adds g c).In-Ok in
    node_given x c.requires.sought c.requires.root.1 (allows g at) (g.met.L.Links.allowed _ _ c.requires.pass) _ c.in_default.is (g.met.L.Links.allowed _ _ c.in-Ok.ensures.pass) c.in-Ok.node given

pub returns-in-Ok : goal.returns-in-Ok
returns-in-Ok g c =
    let x = ordering_of (g.met.K.Rank.ordered _) in
    let at = (goal.at.returns-in-Ok g c).After-note-note in
    let given = new g (goal.at.returns-in-Ok g c).In-Ok in
    let all_u = g.met.L.Links.allowed _ _ c.in-Ok.ensures.pass in
    let f = c.add_node-linked-in-Ok.ensures in
    let told = sym c.turn_of-in-Ok.ensures in
    record {
      pass = f.pass;
      later = goes_on _ _ _ c.in-Ok.ensures.later f.later;
      inserted = λ a. subst (λ (y : InsertTurn). Inserts x.reading c.args.key g.K.SetRank.key_kind (λ yes. Added a.begun.agent c.args.key yes) 1 a.slots
          c.args.node a.begun y (Some c.in-Ok.node) (g.L.Links.seat c.args.links.now c.add_node-linked-in-Ok.new.p)) told
          (given_inserts x a c.requires.root.1 (allows g at) (g.met.L.Links.allowed _ _ c.requires.pass) _ c.in_default.is all_u c.in-Ok.node given (λ yes. Added a.begun.agent c.args.key yes)
          c.add_node-linked-in-Ok.result _ f.added (enters g at a.begun.agent a.finds.behind.quiet.puts.agent));
      few = λ a. let k = node_given x a c.requires.root.1 (allows g at) (g.met.L.Links.allowed _ _ c.requires.pass) _ c.in_default.is all_u c.in-Ok.node given in
          node_few k _ c.add_node-linked-in-Ok.result _ (f.added k) (f.few k);
      added = λ a many is. let (linked, same) = turn_true c.args.passed c.add_node-linked-in-Ok.result many (told ∙ is) in
          let k = node_given x a c.requires.root.1 (allows g at) (g.met.L.Links.allowed _ _ c.requires.pass) _ c.in_default.is all_u c.in-Ok.node given in
          node_found k _ _ many _ (note_is g at) same (f.linked k linked);
      absent = λ a is. absurd (turn_node c.args.passed c.add_node-linked-in-Ok.result (told ∙ is));
      lacking = λ is. absurd (turn_node c.args.passed c.add_node-linked-in-Ok.result (told ∙ is));
      worn = λ why is.
          let d = c.args.links.now in
          let t = g.L.Links.seat d c.args.p.now in
          let k = g.L.Links.journal c.give.new.p in
          let m = g.L.Links.journal c.add_node-linked-in-Ok.new.p in
          let e = c.in-Ok.ensures in
          let w = c.add_node-linked-in-Ok.ensures.worn why (turn_spent c.args.passed c.add_node-linked-in-Ok.result why (told ∙ is)) in
          let there = subst (λ (x : ℕ). Within (length k) (length m) (g.L.Links.worn d x why m)) e.given.puts.agent w in
          within_wider (g.L.Links.worn d t.agent why) _ k m m (λ xs more from to h. g.met.L.Links.worn_stays d t.agent why xs more from to h) e.later
          ([], append-nil m) there;
    }

pub let_all_go-requires-clause-hands : goal.let_all_go-requires-clause-hands
let_all_go-requires-clause-hands g c =
    let x = ordering_of (g.met.K.Rank.ordered _) in
    let at = (goal.at.let_all_go-requires-clause-hands g c).After-note-note in
    let a = c.requires.sought in
    (a.begun.slots, lacking_hand x a c.requires.root.1 (allows g at) (g.met.L.Links.allowed _ _ c.requires.pass) _ c.in_default.is (g.met.L.Links.allowed _ _ c.in-Err.ensures.pass) c.in-Err.ensures.none)

pub returns-in-Err : goal.returns-in-Err
returns-in-Err g c =
    let x = ordering_of (g.met.K.Rank.ordered _) in
    let at = (goal.at.returns-in-Err g c).After-note-note in
    let all_u = g.met.L.Links.allowed _ _ c.in-Err.ensures.pass in
    let e = c.in-Err.ensures in
    let f = c.let_all_go.ensures in
    record {
      pass = f.pass;
      later = goes_on _ _ _ e.later f.later;
      inserted = λ a. lacking_inserts x a c.requires.root.1 (allows g at) (g.met.L.Links.allowed _ _ c.requires.pass) _ c.in_default.is all_u e.none (λ yes. Added a.begun.agent c.args.key yes) _
          (f.gone a.begun.slots);
      few = λ a ids covers. omega (
        arith,
        (lacking_sees x a c.requires.root.1 (allows g at) (g.met.L.Links.allowed _ _ c.requires.pass) _ c.in_default.is all_u e.none _ (f.gone a.begun.slots)
            (g.met.L.Links.allowed _ _ f.pass)).1 ids covers,
      );
      added = λ a many is. cc;
      absent = λ a is. (lacking_sees x a c.requires.root.1 (allows g at) (g.met.L.Links.allowed _ _ c.requires.pass) _ c.in_default.is all_u e.none _ (f.gone a.begun.slots)
          (g.met.L.Links.allowed _ _ f.pass)).0;
      lacking = λ is.
          let d = c.args.links.now in
          let t = g.L.Links.seat d c.args.p.now in
          within_wider (g.L.Links.lacking d t.agent) _ _ _ _ (λ xs more from to h. g.met.L.Links.lacking_stays d t.agent xs more from to h) ([], append-nil _)
          f.later
          (part_fact g.L.Links.agent_of t.agent _ _ (g.L.Links.lacking d t.agent _) e.later e.lacking);
      worn = λ why is. cc;
    }
