-- A fresh node is aimed, and linked.
use Rattle.std.proofs.Common.{Bool, Err, List, None, Ok, Option, Result, Some, [], ap, arith, false, refl, subst, sym, ℕ, ◌∙◌, ◌∷◌, ◌≡◌, ◌≢◌}
use Rattle.std.proofs.lemmas.Bool.{eq-eqb, ne_eqb}
use Rattle.std.specs.List.{list_any, slice_get}
use Rattle.std.specs.Borrow.{Bor}
use Rattle.std.specs.Prelude.{IfErr, IfOk, true, ◌||◌}
use Rattle.orc_fault.specs.declared.Spent.{Spent as SpentRow}
use Rattle.orc_heap.proofs.ByAnswer.{Swings-fresh, Swings-missed, Swings-moved, unless_same}
use Rattle.orc_heap.proofs.Calls.{Puts-trans}
use Rattle.orc_heap.proofs.Fresh.{touched, touched_by}
use Rattle.orc_heap.proofs.Hands.{holds_of}
use Rattle.orc_heap.proofs.Pieces.{linked_not_fresh, missed_fresh, own_node_puts}
use Rattle.orc_heap.specs.Allowed.{AllAllowed, AllowedLater}
use Rattle.orc_heap.specs.Calls.{Misses, Swings, aim_of, event_of, move_of, unless_node}
use Rattle.orc_heap.specs.Hands.{HoldsId}
use Rattle.orc_heap.specs.Heap.{Node, link_to}
use Rattle.orc_heap.specs.Journals.{names_node, points_to}
use Rattle.orc_heap.specs.OwnEvents.{Only, Puts}
use Rattle.orc_heap.specs.Seats.{HoldsTarget, Seat, heap_of, link_in, place_in, target_in}
use Rattle.orc_heap.specs.Slots.{Hold, Holds, Slots, id_in}
use Rattle.orc_heap.specs.declared.events.Act.{Act}
use Rattle.orc_heap.specs.declared.events.Act.TheVariants.{Aim, AimSide, Fill, Give, Look, Miss, Move}
use Rattle.orc_heap.specs.declared.events.Event.{Event}
use Rattle.orc_heap.specs.declared.events.Link.{Link}
use Rattle.orc_heap.specs.declared.events.Place.{Place}
use Rattle.orc_heap.specs.declared.holds.At.{At}
use Rattle.orc_heap.specs.declared.holds.Want.{Want}
use Rattle.orc_ordered_chains.proofs.Acts.{rank_linked}
use Rattle.orc_ordered_chains.specs.Chains.{FollowsOn, IsAbove, IsRun}
use Rattle.orc_ordered_search.specs.Entries.{AllowsNode, node_to_link}
use Rattle.orc_ordered_search.specs.Inserts.{Borrows, HoldsNode, LinkRefused, LinksTo}
use Rattle.orc_ordered_search.specs.Reading.{Ordering}
use Rattle.orc_ordered_search.specs.Searches.{HoldsIfAny, target_at}
use Rattle.orc_ordered_search.specs.Ways.{AreLoads, IsLoad}
use Rattle.orc_ordered_search.proofs.Held.{FreshIs}
use Rattle.orc_ordered_search.proofs.Quiets.{above_puts, below_puts, run_puts, silent_one}

pub above_not_fresh : {N : Type 0} (ord : Ordering N) (s : Seat N) (to : Option ℕ) (rank : ℕ)
    → IsAbove ord.reading.order (heap_of ord.reading.numbers s) to rank → FreshIs ord s → (id : ℕ) → to ≡ Some id → s.fresh ≢ Some id
above_not_fresh ord s None rank a fresh id is = cc
above_not_fresh ord s (Some x) rank (high, own, less) fresh id is =
    let same : x ≡ id = cc in
    subst (λ (i : ℕ). s.fresh ≢ Some i) same
    (linked_not_fresh ord.reading.numbers s x fresh (rank_linked ord.reading.order (heap_of ord.reading.numbers s) x high own))

not_named : (to : Option ℕ) (id : ℕ) → to ≢ Some id → names_node to id ≡ false
not_named None id ne = refl
not_named (Some x) id ne = ne_eqb x id (λ e. ne (ap (λ (i : ℕ). Some i) e))

-- own events that leave the fresh node as it is

pub record LeavesNode {N : Type 0} (id : ℕ) (es : List (Event N)) : Type 0 where
  pub away : list_any (λ (e : Event N). points_to e.act id) es ≡ false
  pub same : (x : Node) → touched_by id es x ≡ x

load_away : (act : Act) (id : ℕ) → IsLoad act → points_to act id ≡ false
load_away Give id l = refl
load_away (Fill i which value) id l = refl
load_away (Aim i to) id l = absurd l
load_away (AimSide i to) id l = absurd l
load_away (Look place link) id l = refl
load_away (Move place from to) id l = absurd l
load_away (Miss place wanted found) id l = refl

load_same : (act : Act) (id : ℕ) (x : Node) → IsLoad act → touched act id x ≡ x
load_same Give id x l = refl
load_same (Fill i which value) id x l = absurd l
load_same (Aim i to) id x l = absurd l
load_same (AimSide i to) id x l = absurd l
load_same (Look place link) id x l = refl
load_same (Move place from to) id x l = absurd l
load_same (Miss place wanted found) id x l = refl

pub loads_leave : {N : Type 0} (id : ℕ) (es : List (Event N)) → AreLoads es → LeavesNode id es
loads_leave id [] l = record { away = refl; same = λ x. refl }
loads_leave {N} id (e ∷ es) l =
    let rest = loads_leave id es l.1 in
    record {
      away = ap (λ (b : Bool). b || list_any (λ (z : Event N). points_to z.act id) es) (load_away e.act id l.0) ∙ rest.away;
      same = λ x. ap (λ (y : Node). touched_by id es y) (load_same e.act id x l.0) ∙ rest.same x;
    }

-- the fresh node after own events, whatever others did meanwhile
pub node_after : {N : Type 0} (ord : Ordering N) (value kind : ℕ) (h : Hold) (id : ℕ) (s t : Seat N) (own : List (Event N))
    → (k : HoldsNode ord.reading value kind h id s) → Puts s own t → ord.holds s.seen → AllAllowed ord.may [] t.seen
    → list_any (λ (e : Event N). points_to e.act id) own ≡ false
    → slice_get (heap_of ord.reading.numbers t).nodes id ≡ Some (touched_by id own (node_to_link s.agent value kind k.to))
node_after ord value kind h id s t own k p holds all away =
    (own_node_puts ord.reading.numbers ord.holds ord.may (λ es e a m. ord.owes.keeps es e a m) (λ es e a m. ord.owes.fits es e m) (λ es e a m. ord.owes.moves es e a m)
    s t own p holds all id (node_to_link s.agent value kind k.to)
    (record { there = k.node; own = record { mine = refl; unnamed = refl; unlinked = refl } }) away).there

-- it is held on
pub holds_on : {N : Type 0} (ord : Ordering N) (value kind : ℕ) (h : Hold) (id : ℕ) (s t : Seat N) (own : List (Event N))
    → HoldsNode ord.reading value kind h id s → Puts s own t → LeavesNode id own → ord.holds s.seen → AllAllowed ord.may [] t.seen
    → HoldsId t.slots h id → t.fresh ≡ s.fresh → HoldsNode ord.reading value kind h id t
holds_on ord value kind h id s t own k p leaves holds all held fresh =
    let there = node_after ord value kind h id s t own k p holds all leaves.away in
    let same : slice_get (heap_of ord.reading.numbers t).nodes id ≡ Some (node_to_link s.agent value kind k.to) =
    there ∙ ap (λ (x : Node). Some x) (leaves.same (node_to_link s.agent value kind k.to)) in
    record {
      held = held;
      fresh = fresh ∙ k.fresh;
      to = k.to;
      node = subst (λ (a : ℕ). slice_get (heap_of ord.reading.numbers t).nodes id ≡ Some (node_to_link a value kind k.to)) (sym p.agent) same;
    }

-- once it was aimed, and then only loads were made
pub aimed : {N : Type 0} (ord : Ordering N) (value kind : ℕ) (h : Hold) (id : ℕ) (to : Option ℕ) (rest : List (Event N)) (s t : Seat N)
    → (k : HoldsNode ord.reading value kind h id s) → Puts s (event_of s (Aim id to) None ∷ rest) t → AreLoads rest → ord.holds s.seen
    → AllAllowed ord.may [] t.seen → to ≢ Some id
    → slice_get (heap_of ord.reading.numbers t).nodes id ≡ Some (node_to_link t.agent value kind to)
aimed {N} ord value kind h id to rest s t k p loads holds all apart =
    let e : Event N = event_of s (Aim id to) None in
    let x : Node = node_to_link s.agent value kind k.to in
    let away : names_node to id ≡ false = not_named to id apart in
    let leaves = loads_leave id rest loads in
    let far : list_any (λ (z : Event N). points_to z.act id) (e ∷ rest) ≡ false = ap
    (λ (b : Bool). b || list_any (λ (z : Event N). points_to z.act id) rest) away ∙ leaves.away in
    let there = node_after ord value kind h id s t (e ∷ rest) k p holds all far in
    let first : touched (Aim id to) id x ≡ node_to_link s.agent value kind to = rw (away, eq-eqb id id refl) refl in
    let is : touched_by id (e ∷ rest) x ≡ node_to_link s.agent value kind to =
    ap (λ (y : Node). touched_by id rest y) first ∙ leaves.same (node_to_link s.agent value kind to) in
    subst (λ (a : ℕ). slice_get (heap_of ord.reading.numbers t).nodes id ≡ Some (node_to_link a value kind to)) (sym p.agent)
    (there ∙ ap (λ (y : Node). Some y) is)

-- the node to link is aimed and linked, by what the pass holds

pub borrow_target : (slots : Slots) (node : Option Hold) (to : Option (Bor Hold)) → Borrows node to → target_in slots to ≡ target_at slots node
borrow_target slots None None b = refl
borrow_target slots None (Some h) b = absurd b
borrow_target slots (Some x) None b = absurd b
borrow_target slots (Some x) (Some h) b = ap (λ (y : Hold). Some (id_in slots y)) b

pub borrow_held : {N : Type 0} (s : Seat N) (node : Option Hold) (to : Option (Bor Hold)) → Borrows node to → HoldsIfAny s.slots node
    → ((id : ℕ) → target_at s.slots node ≡ Some id → s.fresh ≢ Some id) → HoldsTarget s to
borrow_held s None None b held apart = tt
borrow_held s None (Some h) b held apart = absurd b
borrow_held s (Some x) None b held apart = absurd b
borrow_held s (Some x) (Some h) b held apart =
    subst (λ (y : Hold). Holds s.slots y × (s.fresh ≢ Some (id_in s.slots y))) (sym b) (held, apart (id_in s.slots x) refl)

pub aim_only : {N : Type 0} (s t : Seat N) (h : Hold) (id : ℕ) (node : Option Hold) (by : Option (Bor Hold)) (to : Option ℕ) → Borrows node by
    → target_at s.slots node ≡ to → HoldsId s.slots h id → Only (aim_of s h by ∷ []) s t → Only (event_of s (Aim id to) None ∷ []) s t
aim_only s t h id node by to b is held o =
    subst (λ (i : ℕ). Only (event_of s (Aim i to) None ∷ []) s t) (holds_of s.slots h id held).1
    (subst (λ (x : Option ℕ). Only (event_of s (Aim (id_in s.slots h) x) None ∷ []) s t) (borrow_target s.slots node by b ∙ is) o)

pub link_allowed : {N : Type 0} (ord : Ordering N) (wanted value kind : ℕ) (noted : N) (h : Hold) (id : ℕ) (to : Option ℕ) (s t : Seat N) (place at : Place)
    (from want : Link) (over : List ℕ) → AllowsNode ord.reading ord.holds ord.may wanted value kind s.agent noted → HoldsNode ord.reading value kind h id s
    → (o : Only (event_of s (Aim id to) None ∷ []) s t) → ord.holds s.seen → ord.holds t.seen → AllAllowed ord.may [] t.seen → to ≢ Some id
    → at ≡ place → want ≡ from → from.mark ≡ false → FollowsOn ord.reading.order (heap_of ord.reading.numbers s) place wanted
    → IsRun (heap_of ord.reading.numbers s) from over to → IsAbove ord.reading.order (heap_of ord.reading.numbers s) to wanted
    → AllowedLater ord.may ord.reading.numbers t.agent t.seen at want (event_of t (Move at want (link_to (id_in t.slots h))) (Some noted))
link_allowed {N} ord wanted value kind noted h id to s t place at from want over allows k o holds_s holds_t all apart at_is want_is plain below run above =
    let p = o.puts in
    let ys : List (Event N) = event_of s (Aim id to) None ∷ [] in
    let node = aimed ord value kind h id to [] s t k p tt holds_s all apart in
    let id_is : id_in t.slots h ≡ id = ap (λ (z : Slots). id_in z h) o.slots ∙ (holds_of s.slots h id k.held).1 in
    let here = subst (λ (a : ℕ). AllowsNode ord.reading ord.holds ord.may wanted value kind a noted) (sym p.agent) allows in
    rw (at_is, want_is, id_is) (here place from over to id t.seen holds_t (below_puts ord s t ys p all place wanted below) plain
    (run_puts ord s t ys p all from over to run) (above_puts ord s t ys p all to wanted above) node)

pub links_to : {N : Type 0} (ord : Ordering N) (value kind : ℕ) (noted : N) (h : Hold) (id : ℕ) (to : Option ℕ) (s t u : Seat N)
    (place : Place) (link : Link) (at : At) (from new : Want) (result : Result Bool SpentRow)
    → HoldsNode ord.reading value kind h id s → Only (event_of s (Aim id to) None ∷ []) s t → place_in t.slots at ≡ place → link_in t.slots from ≡ link
    → link_in t.slots new ≡ link_to (id_in t.slots h) → ord.holds s.seen → AllAllowed ord.may [] t.seen → AllAllowed ord.may [] u.seen → to ≢ Some id
    → IfOk result (λ done. Swings at from new (Some noted) t done u) → IfErr result (λ e. Only [] t u)
    → LinksTo ord.reading value kind noted h id place link to s result u
links_to {N} ord value kind noted h id to s t u place link at from new (Err e) k o at_is from_is new_is holds all_t all apart w none = record {
  own = event_of s (Aim id to) None ∷ [];
  puts = Puts-trans s t u (event_of s (Aim id to) None ∷ []) [] o.puts none.puts;
  slots = none.slots ∙ o.slots;
  fresh = none.fresh ∙ o.fresh;
  no_entries = silent_one ord s.agent (Aim id to);
  no_give = refl;
  short = omega arith;
}
links_to {N} ord value kind noted h id to s t u place link at from new (Ok true) k o at_is from_is new_is holds all_t all apart w none =
    let id_is : id_in t.slots h ≡ id = ap (λ (z : Slots). id_in z h) o.slots ∙ (holds_of s.slots h id k.held).1 in
    let fresh : u.fresh ≡ None = Swings-fresh w refl ∙ (ap (λ (l : Link). unless_node t.fresh l.to) new_is ∙
    (ap (λ (i : ℕ). unless_node t.fresh (Some i)) id_is ∙ (ap (λ (f : Option ℕ). unless_node f (Some id)) (o.fresh ∙ k.fresh) ∙ unless_same id))) in
    record {
      mid = t;
      aims = o.puts;
      node = aimed ord value kind h id to [] s t k o.puts tt holds all_t apart;
      moves = subst (λ (e : Event N). Puts t (e ∷ []) u) (event_is id_is) (Swings-moved w refl);
      slots = w.slots ∙ o.slots;
      fresh = fresh;
    }
  where
    event_is : id_in t.slots h ≡ id → move_of t at from new (Some noted) ≡ event_of t (Move place link (link_to id)) (Some noted)
    event_is id_is = rw (at_is, from_is, new_is, id_is) refl
links_to {N} ord value kind noted h id to s t u place link at from new (Ok false) k o at_is from_is new_is holds all_t all apart w none =
    let miss : Misses place link t u = subst (λ (p : Place). Misses p link t u) at_is (subst (λ (l : Link). Misses (place_in t.slots at) l t u) from_is
    (Swings-missed w refl)) in
    let e : Event N = event_of t (Miss place link miss.found) None in
    let p = Puts-trans s t u (event_of s (Aim id to) None ∷ []) (e ∷ []) o.puts miss.puts in
    let slots : u.slots ≡ s.slots = w.slots ∙ o.slots in
    record {
      to = to;
      mid = t;
      aims = o.puts;
      misses = miss;
      slots = slots;
      holds = record {
        held = subst (λ (z : Slots). HoldsId z h id) (sym slots) k.held;
        fresh = missed_fresh w refl ∙ (o.fresh ∙ k.fresh);
        to = to;
        node = aimed ord value kind h id to (e ∷ []) s u k p (tt, tt) holds all apart;
      };
    }

pub aim_refused : {N : Type 0} (ord : Ordering N) (s t : Seat N) → Only [] s t → LinkRefused ord.reading s t
aim_refused ord s t o =
    record { own = []; puts = o.puts; slots = o.slots; fresh = o.fresh; no_entries = refl; no_give = refl; short = omega arith }
