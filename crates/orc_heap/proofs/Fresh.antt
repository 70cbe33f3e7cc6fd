-- A node that was given to an agent, and to which nothing links yet, is out of the reach of other agents: only acts of its own
-- agent change it.
use Rattle.std.proofs.Common.{Bool, List, [], ap, append-nil, append_assoc, false, inl, inr, refl, subst, sym, true, zero, suc, ℕ, ◌++◌, ◌∙◌, ◌∷◌, ◌≡◌, ◌≢◌}
use Rattle.std.proofs.lemmas.Bool.{eq-eqb, eqb-true, ne_eqb}
use Rattle.std.specs.List.{list_any, slice_get}
use Rattle.std.specs.Prelude.{None, Option, Some, if◌then◌else◌, ◌==◌, ◌||◌}
use Rattle.orc_heap.proofs.Changes.{get-change, get-grown}
use Rattle.orc_heap.proofs.Runs.{run_heap-snoc}
use Rattle.orc_heap.specs.Acts.{Fits, IsFresh, IsTarget, as_linked, as_named, change_node, change_target, heap_after, set_link, with_link, with_value, with_side}
use Rattle.orc_heap.specs.Allowed.{AllAllowed, IsLinkedNode, Later, MovesLinked, events_by}
use Rattle.orc_heap.specs.Heap.{Heap, HeapNumbers, Node, change}
use Rattle.orc_heap.specs.Journals.{FitsAfter, names_node, points_to, run_heap}
use Rattle.orc_heap.specs.declared.events.Act.{Act}
use Rattle.orc_heap.specs.declared.events.Act.TheVariants.{Aim, Fill, Give, Look, Miss, Move, AimSide}
use Rattle.orc_heap.specs.declared.events.Event.{Event}
use Rattle.orc_heap.specs.declared.events.Link.{Link}
use Rattle.orc_heap.specs.declared.events.Place.{Place}
use Rattle.orc_heap.specs.declared.events.Place.TheVariants.{Next, Root, Side}

-- the node of this id with a link changed, if the place is that link of it
abbrev pub link_touched : Place → Link → ℕ → Node → Node
link_touched (Root r) to id x = x
link_touched (Next i) to id x = if i == id then with_link to x else x
link_touched (Side i) to id x = if i == id then with_side to x else x

-- what an act does to the node of this id
abbrev pub touched : Act → ℕ → Node → Node
touched Give id x = x
touched (Fill i which value) id x = if i == id then with_value which value x else x
touched (Aim i to) id x = if names_node to id then as_named (if i == id then with_link (record { to = to; mark = false }) x else x) else
    (if i == id then with_link (record { to = to; mark = false }) x else x)
touched (AimSide i to) id x = if names_node to id then as_named (if i == id then with_side (record { to = to; mark = false }) x else x) else
    (if i == id then with_side (record { to = to; mark = false }) x else x)
touched (Look place link) id x = x
touched (Move place from to) id x = if names_node to.to id then as_linked (link_touched place to id x) else link_touched place to id x
touched (Miss place wanted found) id x = x

-- what events do to it, one after another
abbrev pub touched_by : {N : Type 0} → ℕ → List (Event N) → Node → Node
touched_by id [] x = x
touched_by id (e ∷ es) x = touched_by id es (touched e.act id x)

get-change_if : {A : Type 0} (f : A → A) (i j : ℕ) (xs : List A) (x : A) → slice_get xs j ≡ Some x
    → slice_get (change f i xs) j ≡ Some (if i == j then f x else x)
get-change_if f i j xs x e =
    elim (get-change f i j xs x e) [ inl r ↦ rw (eq-eqb i j r.0) r.1 | inr r ↦ rw (ne_eqb i j r.0) r.1 ]

get-target : (f : Node → Node) (to : Option ℕ) (h : Heap) (id : ℕ) (x : Node) → slice_get h.nodes id ≡ Some x
    → slice_get (change_target f to h).nodes id ≡ Some (if names_node to id then f x else x)
get-target f None h id x e = e
get-target f (Some i) h id x e = get-change_if f i id h.nodes x e

pub node-after : (agent : ℕ) (act : Act) (h : Heap) (id : ℕ) (x : Node) → slice_get h.nodes id ≡ Some x
    → slice_get (heap_after agent act h).nodes id ≡ Some (touched act id x)
node-after agent Give h id x e = get-grown id h.nodes _ x e
node-after agent (Fill i which value) h id x e = get-change_if (with_value which value) i id h.nodes x e
node-after agent (Aim i to) h id x e =
    let l : Node → Node = with_link (record { to = to; mark = false }) in
    get-target as_named to (change_node l i h) id _ (get-change_if l i id h.nodes x e)
node-after agent (AimSide i to) h id x e =
    let l : Node → Node = with_side (record { to = to; mark = false }) in
    get-target as_named to (change_node l i h) id _ (get-change_if l i id h.nodes x e)
node-after agent (Look place link) h id x e = e
node-after agent (Move (Root r) from to) h id x e = get-target as_linked to.to (set_link (Root r) to h) id x e
node-after agent (Move (Next i) from to) h id x e = get-target as_linked to.to (set_link (Next i) to h) id _ (get-change_if (with_link to) i id h.nodes x e)
node-after agent (Move (Side i) from to) h id x e = get-target as_linked to.to (set_link (Side i) to h) id _ (get-change_if (with_side to) i id h.nodes x e)
node-after agent (Miss place wanted found) h id x e = e

-- a node of this agent, to which no Aim and no Move made a link
pub record IsOwn (agent : ℕ) (x : Node) : Type 0 where
  pub mine : x.giver ≡ agent
  pub unnamed : x.named ≡ false
  pub unlinked : x.linked ≡ false

pub unless : {A : Type 0} (b : Bool) (x y : A) → (b ≡ true → ⊥) → (if b then x else y) ≡ y
unless true x y no_such = absurd (no_such refl)
unless false x y no_such = refl

same_node : (h : Heap) (i id : ℕ) (x y : Node) → slice_get h.nodes i ≡ Some y → slice_get h.nodes id ≡ Some x → i ≡ id → y ≡ x
same_node h i id x y a b e =
    let both : Some y ≡ Some x = sym a ∙ (ap (λ j. slice_get h.nodes j) e ∙ b) in
    cc

not_theirs : (agent by : ℕ) (h : Heap) (i id : ℕ) (x : Node) → by ≢ agent → slice_get h.nodes id ≡ Some x → IsOwn agent x → IsFresh by h i
    → (i == id) ≡ true → ⊥
not_theirs agent by h i id x other there own fresh e =
    let k = same_node h i id x fresh.node fresh.there there (eqb-true i id e) in
    other (sym fresh.mine ∙ (ap (λ z. z.giver) k ∙ own.mine))

not_linked : (agent : ℕ) (h : Heap) (i id : ℕ) (x : Node) → slice_get h.nodes id ≡ Some x → IsOwn agent x → IsLinkedNode h i → (i == id) ≡ true → ⊥
not_linked agent h i id x there own l e =
    let k = same_node h i id x l.node l.there there (eqb-true i id e) in
    let t : true ≡ false = sym l.linked ∙ (ap (λ z. z.linked) k ∙ own.unlinked) in
    cc

-- another agent may not name it
pub not_reached : (agent by : ℕ) (h : Heap) (to : Option ℕ) (id : ℕ) (x : Node) → by ≢ agent → slice_get h.nodes id ≡ Some x → IsOwn agent x
    → IsTarget by h to → names_node to id ≡ true → ⊥
not_reached agent by h None id x other there own reach e = cc
not_reached agent by h (Some i) id x other there own reach e =
    let k = same_node h i id x reach.node reach.there there (eqb-true i id e) in
    elim reach.known [
      | inl m ↦ other (sym m ∙ (ap (λ z. z.giver) k ∙ own.mine))
      | inr m ↦ let t : true ≡ false = sym m ∙ (ap (λ z. z.named) k ∙ own.unnamed) in cc
    ]

-- acts of others leave it as it is
pub others_leave : (agent by : ℕ) (act : Act) (h : Heap) (id : ℕ) (x : Node) → by ≢ agent → Fits by act h → MovesLinked act h
    → slice_get h.nodes id ≡ Some x → IsOwn agent x → touched act id x ≡ x
others_leave agent by Give h id x other fits moves there own = refl
others_leave agent by (Fill i which value) h id x other fits moves there own = unless (i == id) _ x (not_theirs agent by h i id x other there own fits.0)
others_leave agent by (Aim i to) h id x other fits moves there own =
    unless (names_node to id) _ _ (not_reached agent by h to id x other there own fits.1)
    ∙ unless (i == id) _ x (not_theirs agent by h i id x other there own fits.0)
others_leave agent by (AimSide i to) h id x other fits moves there own =
    unless (names_node to id) _ _ (not_reached agent by h to id x other there own fits.1)
    ∙ unless (i == id) _ x (not_theirs agent by h i id x other there own fits.0)
others_leave agent by (Look place link) h id x other fits moves there own = refl
others_leave agent by (Move (Root r) from to) h id x other fits moves there own =
    unless (names_node to.to id) _ x (not_reached agent by h to.to id x other there own fits.1)
others_leave agent by (Move (Next i) from to) h id x other fits moves there own =
    unless (names_node to.to id) _ _ (not_reached agent by h to.to id x other there own fits.1)
    ∙ unless (i == id) _ x (not_linked agent h i id x there own moves)
others_leave agent by (Move (Side i) from to) h id x other fits moves there own =
    unless (names_node to.to id) _ _ (not_reached agent by h to.to id x other there own fits.1)
    ∙ unless (i == id) _ x (not_linked agent h i id x there own moves)
others_leave agent by (Miss place wanted found) h id x other fits moves there own = refl

own_value : (agent which value : ℕ) (x : Node) → IsOwn agent x → IsOwn agent (with_value which value x)
own_value agent zero value x own = record { mine = own.mine; unnamed = own.unnamed; unlinked = own.unlinked }
own_value agent (suc which) value x own = record { mine = own.mine; unnamed = own.unnamed; unlinked = own.unlinked }

own_link : (agent : ℕ) (to : Link) (x : Node) → IsOwn agent x → IsOwn agent (with_link to x)
own_link agent to x own = record { mine = own.mine; unnamed = own.unnamed; unlinked = own.unlinked }

own_side : (agent : ℕ) (to : Link) (x : Node) → IsOwn agent x → IsOwn agent (with_side to x)
own_side agent to x own = record { mine = own.mine; unnamed = own.unnamed; unlinked = own.unlinked }

either_own : (agent : ℕ) (b : Bool) (x y : Node) → IsOwn agent x → IsOwn agent y → IsOwn agent (if b then x else y)
either_own agent true x y p q = p
either_own agent false x y p q = q

link_own : (agent : ℕ) (place : Place) (to : Link) (id : ℕ) (x : Node) → IsOwn agent x → IsOwn agent (link_touched place to id x)
link_own agent (Root r) to id x own = own
link_own agent (Next i) to id x own = either_own agent (i == id) _ _ (own_link agent to x own) own
link_own agent (Side i) to id x own = either_own agent (i == id) _ _ (own_side agent to x own) own

-- an act that makes no link to it leaves it the agent's own
pub stays_own : (agent : ℕ) (act : Act) (id : ℕ) (x : Node) → points_to act id ≡ false → IsOwn agent x → IsOwn agent (touched act id x)
stays_own agent Give id x away own = own
stays_own agent (Fill i which value) id x away own = either_own agent (i == id) _ _ (own_value agent which value x own) own
stays_own agent (Aim i to) id x away own = rw away (either_own agent (i == id) _ _ (own_link agent (record { to = to; mark = false }) x own) own)
stays_own agent (AimSide i to) id x away own = rw away (either_own agent (i == id) _ _ (own_side agent (record { to = to; mark = false }) x own) own)
stays_own agent (Look place link) id x away own = own
stays_own agent (Move place from to) id x away own = rw away (link_own agent place to id x own)
stays_own agent (Miss place wanted found) id x away own = own

-- the node of this id after these events, and it still is the agent's own
pub record IsOwnNode {N : Type 0} (n : HeapNumbers) (agent id : ℕ) (es : List (Event N)) (x : Node) : Type 0 where
  pub there : slice_get (run_heap n es).nodes id ≡ Some x
  pub own : IsOwn agent x

neither : (a b : Bool) → (a || b) ≡ false → (a ≡ false) × (b ≡ false)
neither true b e = cc
neither false b e = (refl, e)

module _ {N : Type 0} (n : HeapNumbers) (holds : List (Event N) → Type 0) (may : List (Event N) → Event N → Type 0)
    (keeps : (es : List (Event N)) (e : Event N) → holds es → may es e → holds (es ++ e ∷ []))
    (fits : (es : List (Event N)) (e : Event N) → holds es → may es e → FitsAfter n es e)
    (moves : (es : List (Event N)) (e : Event N) → holds es → may es e → MovesLinked e.act (run_heap n es))
  where
    -- over allowed events, of which the agent's own make no link to it, only its own change it
    pub own_node_told : (agent id : ℕ) (seen more : List (Event N)) (x : Node) → holds seen → AllAllowed may seen more → IsOwnNode n agent id seen x
        → list_any (λ e. points_to e.act id) (events_by agent more) ≡ false → IsOwnNode n agent id (seen ++ more) (touched_by id (events_by agent more) x)
    own_node_told agent id seen [] x h all o away = rw (append-nil seen) o
    own_node_told agent id seen (e ∷ more) x h all o away =
        let go_on : (y : Node) → IsOwnNode n agent id (seen ++ e ∷ []) y → list_any (λ z. points_to z.act id) (events_by agent more) ≡ false
        → IsOwnNode n agent id (seen ++ e ∷ more) (touched_by id (events_by agent more) y)
        = λ y k rest. subst (λ es. IsOwnNode n agent id es (touched_by id (events_by agent more) y)) (append_assoc seen (e ∷ []) more)
        (own_node_told agent id (seen ++ e ∷ []) more y (keeps seen e h all.0) all.1 k rest) in
        cases go_on (e.agent == agent) refl away
      where
        after : slice_get (run_heap n (seen ++ e ∷ [])).nodes id ≡ Some (touched e.act id x)
        after = rw (run_heap-snoc n seen e) (node-after e.agent e.act (run_heap n seen) id x o.there)

        cases : ((y : Node) → IsOwnNode n agent id (seen ++ e ∷ []) y → list_any (λ z. points_to z.act id) (events_by agent more) ≡ false
            → IsOwnNode n agent id (seen ++ e ∷ more) (touched_by id (events_by agent more) y))
            → (b : Bool) → (e.agent == agent) ≡ b → list_any (λ z. points_to z.act id) (if b then e ∷ events_by agent more else events_by agent more) ≡ false
            → IsOwnNode n agent id (seen ++ e ∷ more) (touched_by id (if b then e ∷ events_by agent more else events_by agent more) x)
        cases go_on true is far =
            let (first, rest) = neither (points_to e.act id) _ far in
            go_on (touched e.act id x) (record { there = after; own = stays_own agent e.act id x first o.own }) rest
        cases go_on false is far =
            let other : e.agent ≢ agent = λ k. let t : true ≡ false = sym (eq-eqb e.agent agent k) ∙ is in cc in
            let same : touched e.act id x ≡ x =
            others_leave agent e.agent e.act (run_heap n seen) id x other (fits seen e h all.0) (moves seen e h all.0) o.there o.own in
            go_on x (record { there = subst (λ y. slice_get (run_heap n (seen ++ e ∷ [])).nodes id ≡ Some y) same after; own = o.own }) far

    -- over allowed events of others it stays as it is
    pub fresh_later : (agent id : ℕ) (seen more : List (Event N)) (x : Node) → holds seen → IsOwnNode n agent id seen x → Later may agent seen more
        → IsOwnNode n agent id (seen ++ more) x
    fresh_later agent id seen more x h o later =
        subst (λ es. IsOwnNode n agent id (seen ++ more) (touched_by id es x)) later.others
        (own_node_told agent id seen more x h later.allowed o (rw later.others refl))

    -- and so does what its record says
    pub node_later : (agent id : ℕ) (node : Node) (seen more : List (Event N)) → holds seen → slice_get (run_heap n seen).nodes id ≡ Some node
        → node.giver ≡ agent → node.named ≡ false → node.linked ≡ false → Later may agent seen more → slice_get (run_heap n (seen ++ more)).nodes id ≡ Some node
    node_later agent id node seen more h there giver unnamed unlinked later =
        (fresh_later agent id seen more node h (record { there = there; own = record { mine = giver; unnamed = unnamed; unlinked = unlinked } }) later).there
