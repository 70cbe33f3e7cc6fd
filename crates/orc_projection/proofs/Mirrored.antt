-- What the state as functions shows of a heap, said of the words and records themselves.
use Rattle.std.proofs.Common.{List, [], ap, append_assoc, refl, subst, sym, ⊎_elim, ◌++◌, ◌∙◌, ◌∷◌, ◌≡◌, cond, true, ℕ}
use Rattle.std.specs.Prelude.{Option, Some, ◌↔◌, None, nat_lt, slice_get}
use Rattle.orc_core.specs.Machine.{Machine, new_machine, record_at, step, word_read}
use Rattle.orc_core.specs.Runs.{run}
use Rattle.orc_heap.specs.Heap.{Heap, Node, new_heap, shown}
use Rattle.orc_heap.specs.Journals.{IsLawful, run_heap}
use Rattle.orc_projection.proofs.Nodes.{is_fresh, is_known, is_named}
use Rattle.orc_projection.proofs.Runs.{first_shows, project_shows}
use Rattle.orc_projection.proofs.Shows.{Shows}
use Rattle.orc_projection.specs.Mirror.{Mirrors, numbers_of}
use Rattle.orc_projection.specs.PresentIds.{PresentIds, no_ids, node_link}
use Rattle.orc_projection.specs.Projection.{StoresUnmarked, act_of, events_of, ids_after, ids_from, present_ids, project, project_from}
use Rattle.orc_sound.proofs.AllFits.{all_first, run_bounds}
use Rattle.orc_sound.proofs.Full.{full_first}
use Rattle.orc_sound.proofs.Seats.{both_ways}
use Rattle.orc_sound.proofs.Shown.{out_hidden, word_shown}
use Rattle.orc_sound.proofs.World.{world_of}
use Rattle.orc_sound.specs.Doomed.{cuts_past}
use Rattle.orc_sound.specs.Journals.{IsLawfulJournal, plain}
use Rattle.orc_sound.specs.declared.steps.Step.{Step}
use Rattle.orc_words.specs.Bounds.{Bounds, IsShape}
use Rattle.orc_words.specs.Packed.{bit, link_of}
use Rattle.orc_words.specs.declared.place.Word.TheVariants.{First, Next, Root, Second, Side}
use Rattle.std.proofs.lemmas.Bool.{lt-ltb}
use Rattle.orc_heap.proofs.Moved.{shown_side}
use Rattle.orc_heap.specs.declared.events.Link.{Link}
use Rattle.orc_heap.specs.declared.events.Place.TheVariants.{Side as SidePlace}

-- the node of a row that is out has the row's value
same_node : {n k : Node} (o : Option Node) → o ≡ Some n → o ≡ Some k → n ≡ k
same_node o e f = cc

side_there : (h : Heap) (id : ℕ) (node : Node) → slice_get h.nodes id ≡ Some node → nat_lt 1 h.links ≡ true → shown h (SidePlace id) ≡ Some node.side
side_there h id node there two = shown_side h id node there ∙ ap (λ t. cond t (Some node.side) None) two

mirrored : (m : Machine) (p : PresentIds) (h : Heap) → Shows m.bounds (world_of m) p h → Mirrors m p h
mirrored m p h s = record {
  given = s.given;
  there = λ r o. s.there r (out_hidden m r o);
  apart = λ q r o u e. s.apart q r (out_hidden m q o) (out_hidden m r u) e;
  roots = λ i k. s.roots i k ∙ ap (λ w. Some (node_link p (link_of w))) (word_shown m (Root i) k);
  nexts = λ r o n.
      let k = s.rows r (out_hidden m r o) in
      let e : k.node.link ≡ node_link p (link_of ((world_of m).memory (Next r))) =
      ⊎_elim (λ c. absurd (both_ways (cuts_past (record_at m c.agent).doom r 0) c.cut (n c.agent c.below))) (λ e. e) k.so.link in
      rw k.there (ap Some (e ∙ ap (λ w. node_link p (link_of w)) (word_shown m (Next r) o.0)));
  sides = λ r l o n.
      let k = s.rows r (out_hidden m r o) in
      let e : k.node.side ≡ node_link p (link_of ((world_of m).memory (Side r))) =
      ⊎_elim (λ c. absurd (both_ways (cuts_past (record_at m c.agent).doom r 1) c.cut (n c.agent c.below))) (λ e. e) k.so.side in
      side_there h (p.node r) k.node k.there (rw s.links (lt-ltb 1 m.bounds.links l))
      ∙ ap (λ (x : Link). Some x) (e ∙ ap (λ w. node_link p (link_of w)) (word_shown m (Side r) (o.0, l)));
  first = λ r v n o g e.
      let k = s.rows r (out_hidden m r o) in
      sym (word_shown m (First r) o.0) ∙ k.so.first v (ap (λ (x : Node). x.first) (same_node _ k.there g) ∙ e);
  second = λ r v n o g e.
      let k = s.rows r (out_hidden m r o) in
      sym (word_shown m (Second r) o.0) ∙ k.so.second v (ap (λ (x : Node). x.second) (same_node _ k.there g) ∙ e);
  fresh = λ a r k. is_fresh a (p.node r) h (s.fresh a r k);
  held = λ a k r l g. is_known a (p.node r) h (s.held a k r l g);
  root_named = λ i r k g. is_named (p.node r) h (s.root_named i r (rw (word_shown m (Root i) k) (ap bit g)));
  next_named = λ q r o g. is_named (p.node r) h (s.next_named q r (out_hidden m q o) (rw (word_shown m (Next q) o.0) (ap bit g)));
  side_named = λ q r l o g. is_named (p.node r) h (s.side_named q r (out_hidden m q o) (rw (word_shown m (Side q) (o.0, l)) (ap bit g)));
}

pub projection_lawful : {N : Type 0} (b : Bounds) (steps : List (Step N)) → IsShape b → IsLawfulJournal (new_machine b) steps → StoresUnmarked steps
    → IsLawful (numbers_of b) (project b steps)
projection_lawful b steps shape l n =
    (project_shows (new_machine b) no_ids (new_heap (numbers_of b)) steps (full_first b shape) (all_first b) l n (first_shows b)).0

pub projection_mirrors : {N : Type 0} (b : Bounds) (steps : List (Step N)) → IsShape b → IsLawfulJournal (new_machine b) steps → StoresUnmarked steps
    → Mirrors (run (new_machine b) (plain steps)) (present_ids b steps) (run_heap (numbers_of b) (project b steps))
projection_mirrors b steps shape l n =
    let m = run (new_machine b) (plain steps) in
    let s = (project_shows (new_machine b) no_ids (new_heap (numbers_of b)) steps (full_first b shape) (all_first b) l n (first_shows b)).1 in
    mirrored m (present_ids b steps) (run_heap (numbers_of b) (project b steps))
    (subst (λ c. Shows c (world_of m) (present_ids b steps) (run_heap (numbers_of b) (project b steps))) (sym (run_bounds (new_machine b) (plain steps))) s)

-- the projection of two lists of steps
pub project-append : {N : Type 0} (m : Machine) (p : PresentIds) (xs ys : List (Step N)) → project_from m p (xs ++ ys) ≡ project_from m p xs
    ++ project_from (run m (plain xs)) (ids_from m p xs) ys
project-append m p [] ys = refl
project-append m p (x ∷ xs) ys =
    let d = record_at m x.agent in
    let v = word_read m x.agent x.op in
    let own = events_of x (act_of p d v x.op x.want) in
    ap (λ es. own ++ es) (project-append (step m x.agent x.op) (ids_after p d v x.op) xs ys)
    ∙ sym (append_assoc own (project_from (step m x.agent x.op) (ids_after p d v x.op) xs) _)

pub ids-append : {N : Type 0} (m : Machine) (p : PresentIds) (xs ys : List (Step N))
    → ids_from m p (xs ++ ys) ≡ ids_from (run m (plain xs)) (ids_from m p xs) ys
ids-append m p [] ys = refl
ids-append m p (x ∷ xs) ys = ids-append (step m x.agent x.op) (ids_after p (record_at m x.agent) (word_read m x.agent x.op) x.op) xs ys

unmarked_parts : {N : Type 0} (first second : List (Step N)) → StoresUnmarked (first ++ second) → StoresUnmarked first × StoresUnmarked second
unmarked_parts [] second u = (tt, u)
unmarked_parts (x ∷ xs) second u = let p = unmarked_parts xs second u.1 in ((u.0, p.0), p.1)

unmarked_whole : {N : Type 0} (first second : List (Step N)) → StoresUnmarked first × StoresUnmarked second → StoresUnmarked (first ++ second)
unmarked_whole [] second u = u.1
unmarked_whole (x ∷ xs) second u = (u.0.0, unmarked_whole xs second (u.0.1, u.1))

pub StoresUnmarked-append : {N : Type 0} (first second : List (Step N)) → StoresUnmarked (first ++ second) ↔ (StoresUnmarked first × StoresUnmarked second)
StoresUnmarked-append first second = (unmarked_parts first second, unmarked_whole first second)
