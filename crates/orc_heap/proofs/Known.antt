-- A node that is known to an agent stays known to it, and a once linked node is known to all.
use Rattle.std.proofs.Common.{Bool, List, [], false, inl, inr, refl, suc, sym, true, zero, ℕ, ◌++◌, ◌∙◌, ◌∷◌, ◌≡◌, ◌⊎◌}
use Rattle.std.specs.Prelude.{if◌then◌else◌, ◌==◌, ◌||◌}
use Rattle.orc_heap.proofs.Fresh.{link_touched, node-after, touched}
use Rattle.orc_heap.proofs.Runs.{run_heap-snoc}
use Rattle.orc_heap.proofs.Stays.{stays}
use Rattle.orc_heap.proofs.Told.{linked_told, named_told}
use Rattle.orc_heap.specs.Acts.{IsKnown, heap_after, with_link, with_value, with_side}
use Rattle.orc_heap.specs.Allowed.{AllAllowed, IsLinkedNode}
use Rattle.orc_heap.specs.Heap.{Heap, HeapNumbers, Node}
use Rattle.orc_heap.specs.Journals.{IsLawful, is_once_linked, is_once_named, moves_to, names_node, points_to, run_heap}
use Rattle.orc_heap.specs.declared.events.Act.{Act}
use Rattle.orc_heap.specs.declared.events.Act.TheVariants.{Aim, Fill, Give, Look, Miss, Move, AimSide}
use Rattle.orc_heap.specs.declared.events.Event.{Event}
use Rattle.orc_heap.specs.declared.events.Link.{Link}
use Rattle.orc_heap.specs.declared.events.Place.{Place}
use Rattle.orc_heap.specs.declared.events.Place.TheVariants.{Next, Root, Side}

either : {A : Type 0} (P : A → Type 0) (b : Bool) (x y : A) → P x → P y → P (if b then x else y)
either P true x y p q = p
either P false x y p q = q

-- the giver is the same, and a named node stays named
record Keeps (x y : Node) : Type 0 where
  giver : y.giver ≡ x.giver
  named : x.named ≡ true → y.named ≡ true

same : (x : Node) → Keeps x x
same x = record { giver = refl; named = λ e. e }

keeps_value : (which value : ℕ) (x : Node) → Keeps x (with_value which value x)
keeps_value zero value x = record { giver = refl; named = λ e. e }
keeps_value (suc which) value x = record { giver = refl; named = λ e. e }

keeps_link : (place : Place) (to : Link) (id : ℕ) (x : Node) → Keeps x (link_touched place to id x)
keeps_link (Root r) to id x = same x
keeps_link (Next i) to id x = either (Keeps x) (i == id) _ _ (record { giver = refl; named = λ e. e }) (same x)
keeps_link (Side i) to id x = either (Keeps x) (i == id) _ _ (record { giver = refl; named = λ e. e }) (same x)

keeps-touched : (act : Act) (id : ℕ) (x : Node) → Keeps x (touched act id x)
keeps-touched Give id x = same x
keeps-touched (Fill i which value) id x = either (Keeps x) (i == id) _ _ (keeps_value which value x) (same x)
keeps-touched (Aim i to) id x =
    let k : Keeps x (if i == id then with_link (record { to = to; mark = false }) x else x) =
    either (Keeps x) (i == id) _ _ (record { giver = refl; named = λ e. e }) (same x) in
    either (Keeps x) (names_node to id) _ _ (record { giver = k.giver; named = λ e. refl }) k
keeps-touched (AimSide i to) id x =
    let k : Keeps x (if i == id then with_side (record { to = to; mark = false }) x else x) =
    either (Keeps x) (i == id) _ _ (record { giver = refl; named = λ e. e }) (same x) in
    either (Keeps x) (names_node to id) _ _ (record { giver = k.giver; named = λ e. refl }) k
keeps-touched (Look place link) id x = same x
keeps-touched (Move place from to) id x =
    let k = keeps_link place to id x in
    either (Keeps x) (names_node to.to id) _ _ (record { giver = k.giver; named = λ e. refl }) k
keeps-touched (Miss place wanted found) id x = same x

pub known-after : (agent by : ℕ) (act : Act) (h : Heap) (id : ℕ) → IsKnown agent h id → IsKnown agent (heap_after by act h) id
known-after agent by act h id k =
    let t = keeps-touched act id k.node in
    record {
      node = touched act id k.node;
      there = node-after by act h id k.node k.there;
      known =
          elim k.known [ inl g ↦ inl (t.giver ∙ g) | inr m ↦ inr (t.named m) ];
    }

pub known-later : {N : Type 0} (n : HeapNumbers) (may : List (Event N) → Event N → Type 0) (agent id : ℕ) (seen more : List (Event N))
    → AllAllowed may seen more
    → IsKnown agent (run_heap n seen) id → IsKnown agent (run_heap n (seen ++ more)) id
known-later {N} n may agent id seen more all k =
    let P : List (Event N) → Type 0 = λ es. IsKnown agent (run_heap n es) id in
    let r : P (seen ++ more) = stays may P (λ es e p m. rw (run_heap-snoc n es e) (known-after agent e.agent e.act (run_heap n es) id p)) seen more k all in
    r

points_where_moves : (act : Act) (id : ℕ) → moves_to act id ≡ true → points_to act id ≡ true
points_where_moves Give id m = m
points_where_moves (Fill i which value) id m = m
points_where_moves (Aim i to) id m = cc
points_where_moves (AimSide i to) id m = cc
points_where_moves (Look place link) id m = m
points_where_moves (Move place from to) id m = m
points_where_moves (Miss place wanted found) id m = m

either_true : (a b : Bool) → a || b ≡ true → (a ≡ true) ⊎ (b ≡ true)
either_true true b e = inl e
either_true false b e = inr e

left_true : (a b : Bool) → a ≡ true → a || b ≡ true
left_true true b e = e
left_true false b e = cc

right_true : (a b : Bool) → b ≡ true → a || b ≡ true
right_true true b e = refl
right_true false b e = e

named_where_linked : {N : Type 0} (es : List (Event N)) (id : ℕ) → is_once_linked es id ≡ true → is_once_named es id ≡ true
named_where_linked [] id l = l
named_where_linked (e ∷ es) id l =
    elim (either_true (moves_to e.act id) (is_once_linked es id) l) [
      | inl here ↦ left_true (points_to e.act id) (is_once_named es id) (points_where_moves e.act id here)
      | inr later ↦ right_true (points_to e.act id) (is_once_named es id) (named_where_linked es id later)
    ]

-- a once linked node is known to every agent
pub linked_known : {N : Type 0} (n : HeapNumbers) (es : List (Event N)) (agent id : ℕ) → IsLawful n es → IsLinkedNode (run_heap n es) id
    → IsKnown agent (run_heap n es) id
linked_known n es agent id lawful l = record {
  node = l.node;
  there = l.there;
  known = inr (named_told n es id l.node lawful l.there ∙ named_where_linked es id (sym (linked_told n es id l.node lawful l.there) ∙ l.linked));
}
