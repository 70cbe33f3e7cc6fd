-- A node is linked where a search found that its rank belongs.
use Rattle.std.proofs.Common.{Bool, Err, List, None, Ok, Option, Result, Some, [], ap, append-nil, arith, false, inl, length, length-append, length-set, refl, subst, sym, true, ℕ, ◌*◌, ◌++◌, ◌+◌, ◌==◌, ◌∙◌, ◌∷◌, ◌≡◌, ◌≢◌, ◌≤◌}
use Rattle.std.proofs.lemmas.Bool.{eqb-false, eqb-true}
use Rattle.std.specs.List.{slice_get, slice_set}
use Rattle.orc_fault.specs.declared.Spent.{Spent as SpentRow}
use Rattle.orc_heap.proofs.Calls.{Puts-trans}
use Rattle.orc_heap.proofs.Hands.{free_in}
use Rattle.orc_heap.proofs.Moved.{gives_in-append, moves_in-append}
use Rattle.orc_heap.proofs.OwnEntries.{noted-append}
use Rattle.orc_heap.proofs.Pieces.{puts_released}
use Rattle.orc_heap.proofs.Slots.{get-set_other, get-set_same}
use Rattle.orc_heap.proofs.Stays.{allowed-left}
use Rattle.orc_heap.specs.Allowed.{AllAllowed}
use Rattle.orc_heap.specs.Calls.{Gives, event_of}
use Rattle.orc_heap.specs.Hands.{AreHeld, Hand, Hands, HoldsId, IsApart, IsApartOf, IsHeldApart, hand}
use Rattle.orc_heap.specs.Heap.{link_to}
use Rattle.orc_heap.specs.Journals.{noted_entries}
use Rattle.orc_heap.specs.Moves.{gives_in, moves_in}
use Rattle.orc_heap.specs.OwnEvents.{Only, Puts}
use Rattle.orc_heap.specs.Seats.{Seat, heap_of}
use Rattle.orc_heap.specs.Slots.{Hold, IsFree, SlotNode, Slots}
use Rattle.orc_heap.specs.declared.events.Act.TheVariants.{Aim, Fill, Give, Miss, Move}
use Rattle.orc_heap.specs.declared.events.Event.{Event}
use Rattle.orc_heap.specs.declared.events.Place.{Place}
use Rattle.orc_history.specs.declared.set.SetEntry.{SetEntry}
use Rattle.orc_ordered_chains.specs.Chains.{link_over}
use Rattle.orc_ordered_search.specs.Entries.{node_to_link}
use Rattle.orc_ordered_search.specs.Inserts.{AddEnds, AddOver, AddsAt, AddsNode, InsertEnds, KeepsNode, LinkMissed, LinkRefused, LinksAndGoes, LinksNode, LinksTo, SeesAbsent}
use Rattle.orc_ordered_search.specs.Reading.{Ordering, Reading}
use Rattle.orc_ordered_search.specs.Searches.{AllGone, FindsAbsent, HoldsIfAny, InHand, first_or, left_place, node_of, place_at, target_at}
use Rattle.orc_ordered_search.specs.Turns.{Made, made_from}
use Rattle.orc_ordered_search.specs.Ways.{IsFew}
use Rattle.orc_ordered_search.proofs.Entering.{from_is, place_of_hand, target_is, target_of_hand}
use Rattle.orc_ordered_search.proofs.Held.{absent_hand, first_held, in_hand_on, leads_hand, right_linked, second_held, third_held, three_hands}
use Rattle.orc_ordered_search.proofs.Linking.{holds_on, loads_leave}
use Rattle.orc_ordered_search.proofs.Making.{made_on, missed, one_over, over_on}
use Rattle.orc_ordered_search.proofs.Quiets.{above_puts, below_puts, leads_puts, left_place_linked, shows_on, silent_one, silent_three, silent_two}
use Rattle.orc_ordered_search.proofs.Seen.{absent_few, ends_left, few_more}
use Rattle.orc_ordered_search.proofs.Since.{few_made, made_is}

-- slots that hold a node besides

-- a slot that holds a node is no hand's
pub apart_held : (s t : Slots) (hs : List Hand) (slot : ℕ) (x : SlotNode) → slice_get s slot ≡ Some (Some x) → AreHeld s t hs → IsApart slot hs
apart_held s t [] slot x there held = tt
apart_held s t (y ∷ hs) slot x there held = (one y.hold held.0, apart_held s t hs slot x there held.1)
  where
    one : (o : Option Hold) → IsHeldApart s t o y.id hs → IsApartOf slot o
    one None k = tt
    one (Some h) k = λ e.
        let bad : ◌≡◌ {A = Option (Option SlotNode)} (Some (Some x)) (Some None) = sym there ∙ (ap (λ i. slice_get s i) e ∙ k.1) in
        cc

-- what is in hand beside slots is so beside slots with one more node
pub hands_rebase : (s t : Slots) (hs : List Hand) (slot : ℕ) (x : Option SlotNode) → Hands s t hs → IsApart slot hs → slice_get s slot ≡ Some None
    → Hands (slice_set s slot x) (slice_set t slot x) hs
hands_rebase s t hs slot x k apart free = record {
  same_length = length-set t slot x ∙ (k.same_length ∙ sym (length-set s slot x));
  others = λ i a. cases i a (i == slot) refl;
  held = all hs apart k.held;
}
  where
    free_t : slice_get t slot ≡ Some None
    free_t = k.others slot apart ∙ free

    cases : (i : ℕ) → IsApart i hs → (b : Bool) → (i == slot) ≡ b → slice_get (slice_set t slot x) i ≡ slice_get (slice_set s slot x) i
    cases i a true e =
        let same : i ≡ slot = eqb-true i slot e in
        rw same (get-set_same t slot None x free_t ∙ sym (get-set_same s slot None x free))
    cases i a false e =
        let ne : i ≢ slot = eqb-false i slot e in
        get-set_other t slot i x ne ∙ (k.others i a ∙ sym (get-set_other s slot i x ne))

    all : (js : List Hand) → IsApart slot js → AreHeld s t js → AreHeld (slice_set s slot x) (slice_set t slot x) js
    all [] a h = tt
    all (y ∷ js) a h = (one y.hold a.0 h.0, all js a.1 h.1)
      where
        one : (o : Option Hold) → IsApartOf slot o → IsHeldApart s t o y.id js → IsHeldApart (slice_set s slot x) (slice_set t slot x) o y.id js
        one None ne h = tt
        one (Some k) ne h = (get-set_other t slot k.slot x (λ e. ne (sym e)) ∙ h.0, get-set_other s slot k.slot x (λ e. ne (sym e)) ∙ h.1, h.2)

-- what was made since a turn began, and more
made_since : {N : Type 0} (r : Reading N) (given : ℕ) (s t u : Seat N) (own ys : List (Event N)) (es : List SetEntry) → Puts s own t
    → noted_entries r.entries_in own ≡ [] → gives_in own ≡ given → Puts t ys u → noted_entries r.entries_in ys ≡ es → gives_in ys ≡ 0
    → Made r given s (own ++ ys) es u
made_since r given s t u own ys es p none gives q entries no_give = record {
  puts = Puts-trans s t u own ys p q;
  entries_are = noted-append r.entries_in own ys ∙ rw none entries;
  gives = omega (arith, gives_in-append own ys, gives, no_give);
}

-- where a node is linked, by what the pass holds
module _ {N : Type 0} (ord : Ordering N) (start : Place) (wanted value kind : ℕ) (left first right : Option Hold) (node : Hold) (given : ℕ) (slots : Slots) (s t : Seat N)
    (a : AddsAt ord.reading start wanted value kind left first right node given slots s t) where
  abbrev y : Hand
  y = hand first a.first_id

  abbrev z : Hand
  z = hand right a.right_id

  pub adds_held : HoldsIfAny t.slots left × HoldsIfAny t.slots first × HoldsIfAny t.slots right
  adds_held = (
    first_held slots t.slots left a.left_id (hand first a.first_id ∷ hand right a.right_id ∷ []) a.hands,
    second_held slots t.slots (hand left a.left_id) first a.first_id (hand right a.right_id ∷ []) a.hands,
    third_held slots t.slots (hand left a.left_id) (hand first a.first_id) right a.right_id [] a.hands,
  )

  pub adds_place : place_at t.slots (ord.reading.order.root wanted) left ≡ left_place (ord.reading.order.root wanted) left a.left_id
  adds_place = place_of_hand slots t.slots (ord.reading.order.root wanted) (ord.reading.order.root wanted) refl left a.left_id (hand first a.first_id ∷ hand right a.right_id ∷ []) a.hands.held.0

  pub adds_right : target_at t.slots right ≡ node_of right a.right_id
  adds_right = target_of_hand slots t.slots right a.right_id [] a.hands.held.1.1.0

  pub adds_link : link_over (target_at t.slots (first_or first right)) ≡ a.leads.from
  adds_link = ap link_over (target_is slots t.slots first right a.first_id a.right_id (hand right a.right_id ∷ []) [] a.hands.held.1.0 a.hands.held.1.1.0)
      ∙ sym (from_is ord start wanted left first a.left_id a.first_id (node_of right a.right_id) s a.own t a.puts.part a.leads)

  adds_hand : InHand ord.reading slots left first right None t
  adds_hand =
      leads_hand ord (record { left_id = a.left_id; first_id = a.first_id; id = a.right_id; next_id = 0 }) a.leads right None
      (three_hands slots t.slots (hand left a.left_id) (hand first a.first_id) (hand right a.right_id) a.hands)
      (right_linked ord t right a.right_id wanted a.above) tt

  abbrev place : Place
  place = left_place (ord.reading.order.root wanted) left a.left_id

  -- it was linked
  pub adds_linked : (noted : N) (u v : Seat N) → LinksNode ord.reading value kind noted a.id place a.leads.from (node_of right a.right_id) t u
      → AllGone slots u v → AddEnds ord.reading given slots s (ord.reading.entries_in (Some noted)) None v
  adds_linked noted u v l g =
      let aim : List (Event N) = event_of t (Aim a.id (node_of right a.right_id)) None ∷ [] in
      let move : List (Event N) = event_of l.mid (Move place a.leads.from (link_to a.id)) (Some noted) ∷ [] in
      let entries = ord.reading.entries_in (Some noted) in
      let none = silent_one ord t.agent (Aim a.id (node_of right a.right_id)) in
      let made = made_since ord.reading given s t u a.own (aim ++ move) entries a.puts a.no_entries a.gives (Puts-trans t l.mid u aim move l.aims l.moves)
      (noted-append ord.reading.entries_in aim move ∙ rw none (append-nil entries)) refl in
      record {
        own = a.own ++ (aim ++ move);
        made = made_on ord.reading given s u v (a.own ++ (aim ++ move)) entries made g.puts;
        slots_are = g.slots_are;
        fresh_is = g.fresh ∙ l.fresh;
      }

  -- a row was worn
  pub adds_refused : (u v : Seat N) → LinkRefused ord.reading t u → AllGone slots u v → AddEnds ord.reading given slots s [] (Some a.id) v
  adds_refused u v l g = record {
    own = a.own ++ l.own;
    made = made_on ord.reading given s u v (a.own ++ l.own) []
        (made_since ord.reading given s t u a.own l.own [] a.puts a.no_entries a.gives l.puts l.no_entries l.no_give) g.puts;
    slots_are = g.slots_are;
    fresh_is = g.fresh ∙ (l.fresh ∙ a.holds.fresh);
  }

  -- the place showed another link
  pub adds_missed : (u v : Seat N) → LinkMissed ord.reading value kind node a.id place a.leads.from t u → AllGone slots u v → ord.holds u.seen
      → AllAllowed ord.may [] u.seen → AllAllowed ord.may [] v.seen → AddOver ord.reading value kind node a.id given slots s v
  adds_missed u v l g holds all_u all_v =
      let aim : Event N = event_of t (Aim a.id l.to) None in
      let from = a.leads.from in
      let miss = l.misses in
      let e : Event N = event_of l.mid (Miss place from miss.found) None in
      let ys : List (Event N) = aim ∷ e ∷ [] in
      let all_mid : AllAllowed ord.may [] l.mid.seen = allowed-left ord.may [] l.mid.seen miss.puts.part
      (subst (λ es. AllAllowed ord.may [] es) miss.puts.is all_u) in
      let p = Puts-trans s t l.mid a.own (aim ∷ []) a.puts l.aims in
      let made = made_since ord.reading given s t u a.own ys [] a.puts a.no_entries a.gives (Puts-trans t l.mid u (aim ∷ []) (e ∷ []) l.aims miss.puts)
      (silent_two ord t.agent l.mid.agent (Aim a.id l.to) (Miss place from miss.found)) refl in
      let still = shows_on ord t l.mid (aim ∷ []) l.aims all_mid s a.own (a.own ++ aim ∷ []) a.puts p place from a.some
      (left_place_linked ord t place wanted a.leads.below) a.leads.still in
      let moved = missed ord s l.mid u (a.own ++ aim ∷ []) (a.own ++ ys) place from p (omega (arith, length-append a.own (aim ∷ []))) still
      (left_place_linked ord l.mid place wanted (below_puts ord t l.mid (aim ∷ []) l.aims all_mid place wanted a.leads.below)) miss all_u made.puts in
      let no_move : moves_in (a.own ++ ys) ≡ 0 = omega (arith, moves_in-append a.own ys, a.no_move) in
      record {
        own = a.own ++ ys;
        over = over_on ord.reading given 1 s u v (a.own ++ ys) (one_over ord.reading given s u (a.own ++ ys) made no_move moved) g.puts;
        slots_are = g.slots_are;
        holds = holds_on ord value kind node a.id u v [] l.holds g.puts (loads_leave a.id [] tt) holds all_v
            (subst (λ (q : Slots). HoldsId q node a.id) (sym g.slots_are) a.kept) g.fresh;
      }

  -- two events at the most for the link, and the nodes of the search are in hand on
  record Linked (u : Seat N) : Type 0 where
    events : List (Event N)
    put : Puts t events u
    short : length events ≤ 2
    same : u.slots ≡ t.slots

  linked_by : (noted : N) (u : Seat N) (result : Result Bool SpentRow)
      → LinksTo ord.reading value kind noted node a.id place a.leads.from (node_of right a.right_id) t result u → Linked u
  linked_by noted u (Ok true) l =
      let aim : Event N = event_of t (Aim a.id (node_of right a.right_id)) None in
      let move : Event N = event_of l.mid (Move place a.leads.from (link_to a.id)) (Some noted) in
      record { events = aim ∷ move ∷ []; put = Puts-trans t l.mid u (aim ∷ []) (move ∷ []) l.aims l.moves; short = omega arith; same = l.slots }
  linked_by noted u (Ok false) l =
      let aim : Event N = event_of t (Aim a.id l.to) None in
      let miss : Event N = event_of l.mid (Miss place a.leads.from l.misses.found) None in
      record { events = aim ∷ miss ∷ []; put = Puts-trans t l.mid u (aim ∷ []) (miss ∷ []) l.aims l.misses.puts; short = omega arith; same = l.slots }
  linked_by noted u (Err why) l = record { events = l.own; put = l.puts; short = omega (arith, l.short); same = l.slots }

  pub links_hand : (noted : N) (u : Seat N) (result : Result Bool SpentRow)
      → LinksTo ord.reading value kind noted node a.id place a.leads.from (node_of right a.right_id) t result u → AllAllowed ord.may [] u.seen
      → InHand ord.reading slots left first right None u
  links_hand noted u result l all =
      let k = linked_by noted u result l in
      in_hand_on ord slots left first right None t u k.events k.put all k.same adds_hand

  pub links_few : (noted : N) (u v : Seat N) (result : Result Bool SpentRow)
      → LinksTo ord.reading value kind noted node a.id place a.leads.from (node_of right a.right_id) t result u → AllGone slots u v
      → IsFew (4 + 3 * given) (made_from s v)
  links_few noted u v result l g =
      let k = linked_by noted u result l in
      let p = puts_released s u v (a.own ++ k.events) (Puts-trans s t u a.own k.events a.puts k.put) g.puts in
      few_made (4 + 3 * given) (4 + 3 * given) s v (a.own ++ k.events) p
      (few_more (2 + 3 * given) (4 + 3 * given) a.own k.events a.few (omega (arith, k.short))) (omega arith)

  -- what came of it
  pub links_on : (noted : N) (u v : Seat N) (result : Result Bool SpentRow)
      → LinksTo ord.reading value kind noted node a.id place a.leads.from (node_of right a.right_id) t result u → AllGone slots u v → ord.holds u.seen
      → AllAllowed ord.may [] u.seen → AllAllowed ord.may [] v.seen
      → AddsNode ord.reading value kind (ord.reading.entries_in (Some noted)) node a.id given slots s result v
  links_on noted u v (Ok true) l g holds all_u all_v = adds_linked noted u v l g
  links_on noted u v (Ok false) l g holds all_u all_v = adds_missed u v l g holds all_u all_v
  links_on noted u v (Err why) l g holds all_u all_v = adds_refused u v l g

  pub links_gone : (noted : N) (u v : Seat N) (result : Result Bool SpentRow)
      → LinksTo ord.reading value kind noted node a.id place a.leads.from (node_of right a.right_id) t result u → AllGone slots u v → result ≡ Ok true
      → LinksAndGoes ord.reading value kind noted a.id place a.leads.from (node_of right a.right_id) slots t v
  links_gone noted u v (Ok true) l g is = record { linked = u; links = l; gone = g }
  links_gone noted u v (Ok false) l g is = cc
  links_gone noted u v (Err why) l g is = cc

-- where the turn comes from: a node that was in hand, or a new one

pub absent_adds : {N : Type 0} (ord : Ordering N) (start : Place) (wanted passed value kind : ℕ) (left first right : Option Hold) (node : Hold) (slots : Slots)
    (s t : Seat N) → KeepsNode ord.reading value kind (Some node) slots s → FindsAbsent ord.reading start wanted passed left first right s t
    → ord.holds s.seen → AllAllowed ord.may [] t.seen → AddsAt ord.reading start wanted value kind left first right node 0 s.slots s t
absent_adds ord start wanted passed value kind left first right node slots s t k f holds all =
    let q = f.behind.quiet in
    let apart = apart_held s.slots t.slots (hand left f.left_id ∷ hand first f.first_id ∷ hand right f.right_id ∷ []) node.slot _ k.to_add.held
    f.hands.held in
    record {
      own = f.own;
      quiet = record { puts = q.puts; some = q.some; no_entries = q.no_entries; gives = q.no_give; no_move = q.no_move };
      ids = f.ids;
      hands = f.hands;
      leads = f.behind.leads;
      above = f.above;
      ends = f.ends;
      few = absent_few ord.reading start wanted passed left first right s t f;
      id = k.id;
      kept = k.to_add.held;
      holds = holds_on ord value kind node k.id s t f.own k.to_add q.puts (loads_leave k.id f.own q.loads) holds all
          (f.hands.others node.slot apart ∙ k.to_add.held) q.fresh;
    }

pub absent_id : {N : Type 0} (ord : Ordering N) (start : Place) (wanted passed value kind : ℕ) (left first right : Option Hold) (node : Hold) (slots : Slots)
    (s t : Seat N) (k : KeepsNode ord.reading value kind (Some node) slots s) (f : FindsAbsent ord.reading start wanted passed left first right s t)
    (holds : ord.holds s.seen) (all : AllAllowed ord.may [] t.seen)
    → (absent_adds ord start wanted passed value kind left first right node slots s t k f holds all).id ≡ k.id
unfolding absent_adds
absent_id ord start wanted passed value kind left first right node slots s t k f holds all = refl

-- what a search's Looks found stays so
pub absent_sees : {N : Type 0} (ord : Ordering N) (start : Place) (wanted passed : ℕ) (left first right : Option Hold) (s t y : Seat N)
    (f : FindsAbsent ord.reading start wanted passed left first right s t) → Puts t [] y → AllAllowed ord.may [] y.seen
    → SeesAbsent ord.reading wanted f.own y
absent_sees ord start wanted passed left first right s t y f p all =
    let l = f.behind.leads in
    let place = left_place (ord.reading.order.root wanted) left f.left_id in
    record {
      place = place;
      from = l.from;
      plain = l.plain;
      below = below_puts ord t y [] p all place wanted l.below;
      sees = l.sees;
      over = l.over;
      to = node_of right f.right_id;
      sees_run = l.sees_run;
      above = above_puts ord t y [] p all (node_of right f.right_id) wanted f.above;
    }

module _ {N : Type 0} (ord : Ordering N) (start : Place) (wanted passed value kind : ℕ) (left first right : Option Hold) (s t u : Seat N)
    (f : FindsAbsent ord.reading start wanted passed left first right s t) (one : IsFree s.slots 1) where
  pub give_free : IsFree t.slots 1
  give_free = free_in s.slots t.slots (hand left f.left_id ∷ hand first f.first_id ∷ hand right f.right_id ∷ []) 1 f.hands f.apart one

  pub given_adds : (node : Hold) (g : Gives ord.reading.numbers 1 value kind t node u) → AllAllowed ord.may [] u.seen
      → AddsAt ord.reading start wanted value kind left first right node 1 (slice_set s.slots 1 (Some (record { row = node.row; id = g.id }))) s u
  given_adds node g all =
      let q = f.behind.quiet in
      let hs : List Hand = hand left f.left_id ∷ hand first f.first_id ∷ hand right f.right_id ∷ [] in
      let x : Option SlotNode = Some (record { row = node.row; id = g.id }) in
      let ys : List (Event N) = event_of t Give None ∷ event_of t (Fill g.id 0 value) None ∷ event_of t (Fill g.id 1 kind) None ∷ [] in
      let w = Puts-trans s t u f.own ys q.puts g.puts in
      let kept : HoldsId (slice_set s.slots 1 x) node g.id = subst (λ (i : ℕ). slice_get (slice_set s.slots 1 x) i ≡ Some x) (sym g.slot_is)
      (get-set_same s.slots 1 None x one.empty) in
      let held : HoldsId (slice_set t.slots 1 x) node g.id = subst (λ (i : ℕ). slice_get (slice_set t.slots 1 x) i ≡ Some x) (sym g.slot_is)
      (get-set_same t.slots 1 None x give_free.empty) in
      record {
        own = f.own ++ ys;
        quiet = record {
          puts = w;
          some = omega (arith, q.some, length-append f.own ys);
          no_entries = noted-append ord.reading.entries_in f.own ys ∙ rw q.no_entries (silent_three ord t.agent Give (Fill g.id 0 value) (Fill g.id 1 kind));
          gives = omega (arith, gives_in-append f.own ys, q.no_give);
          no_move = omega (arith, moves_in-append f.own ys, q.no_move);
        };
        ids = f.ids;
        hands = subst (λ (z : Slots). Hands (slice_set s.slots 1 x) z hs) (sym g.slots) (hands_rebase s.slots t.slots hs 1 x f.hands f.apart one.empty);
        leads = leads_puts ord t u ys g.puts all start wanted left first f.left_id f.first_id (node_of right f.right_id) s f.own q.puts w q.some f.behind.leads;
        above = above_puts ord t u ys g.puts all (node_of right f.right_id) wanted f.above;
        ends = ends_left f.own ys (node_of right f.right_id) f.ends;
        few = few_more 2 5 f.own ys (absent_few ord.reading start wanted passed left first right s t f) (omega arith);
        id = g.id;
        kept = kept;
        holds = record {
          held = subst (λ (z : Slots). HoldsId z node g.id) (sym g.slots) held;
          fresh = g.fresh;
          to = None;
          node = subst (λ (a : ℕ). slice_get (heap_of ord.reading.numbers u).nodes g.id ≡ Some (node_to_link a value kind None)) (sym g.puts.agent) g.node;
        };
      }

  pub given_id : (node : Hold) (g : Gives ord.reading.numbers 1 value kind t node u) (all : AllAllowed ord.may [] u.seen) → (given_adds node g all).id ≡ g.id
  unfolding given_adds
  given_id node g all = refl

  -- none could be had
  pub lacks_node : (y : Seat N) → Only [] t u → AllGone s.slots u y → s.fresh ≡ None
      → (own : List (Event N)) × InsertEnds ord.reading s.slots None None s own [] y
  lacks_node y only g fresh =
      let q = f.behind.quiet in
      let m : Made ord.reading 0 s f.own [] t = record { puts = q.puts; entries_are = q.no_entries; gives = q.no_give } in (
        f.own,
        record {
          given = 0;
          made = made_on ord.reading 0 s u y f.own [] (made_on ord.reading 0 s t u f.own [] m only.puts) g.puts;
          count = refl;
          ends = record { id = 0; slots_are = g.slots_are; slot_is = tt; fresh = inl (g.fresh ∙ (only.fresh ∙ (q.fresh ∙ fresh))) };
        },
      )

  -- then its Looks found the rank absent
  pub lacks_sees : (y : Seat N) → Only [] t u → AllGone s.slots u y → AllAllowed ord.may [] y.seen
      → SeesAbsent ord.reading wanted (made_from s y) y × IsFew 2 (made_from s y)
  lacks_sees y only g all_y =
      let since = puts_released t u y [] only.puts g.puts in
      let p = puts_released s t y f.own f.behind.quiet.puts since in (
        subst (λ z. SeesAbsent ord.reading wanted z y) (sym (made_is s y f.own p))
            (absent_sees ord start wanted passed left first right s t y f since all_y),
        few_made 2 2 s y f.own p (absent_few ord.reading start wanted passed left first right s t f) (omega arith),
      )

  pub absent_hand_on : Only [] t u → AllAllowed ord.may [] u.seen → InHand ord.reading s.slots left first right None u
  absent_hand_on only all =
      in_hand_on ord s.slots left first right None t u [] only.puts all only.slots (absent_hand ord start wanted passed left first s t right f)
