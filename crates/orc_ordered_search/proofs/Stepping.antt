-- One step of a search after another.
use Rattle.std.proofs.Common.{Bool, List, None, Option, Some, [], ap, arith, false, inl, inr, length, length-append, min, refl, subst, sym, true, ℕ, ◌++◌, ◌+◌, ◌<◌, ◌∙◌, ◌∷◌, ◌≡◌, ◌≤◌, ◌⊎◌}
use Rattle.orc_heap.proofs.Calls.{Puts-stood}
use Rattle.orc_heap.proofs.Hands.{hand_held, hands_swap, hands_with_none, holds_of}
use Rattle.orc_heap.proofs.Moments.{look_found, seen_is, since}
use Rattle.orc_heap.proofs.Pieces.{own_moves_right}
use Rattle.orc_heap.proofs.SingleActs.{has_link}
use Rattle.orc_heap.proofs.Stays.{stays}
use Rattle.orc_heap.specs.Allowed.{AllAllowed, HasLink}
use Rattle.orc_heap.specs.Calls.{event_of}
use Rattle.orc_heap.specs.Hands.{Hand, Hands, IsApartOf, hand}
use Rattle.orc_heap.specs.Heap.{Heap, shown}
use Rattle.orc_heap.specs.Journals.{noted_entries, run_heap}
use Rattle.orc_heap.specs.Moves.{ShowsOrMoved, gives_in, moves_in}
use Rattle.orc_heap.specs.OwnEvents.{Only, Puts}
use Rattle.orc_heap.specs.Seats.{Seat, heap_of}
use Rattle.orc_heap.specs.Slots.{Hold, Slots, id_in}
use Rattle.orc_heap.specs.declared.events.Act.TheVariants.{Look}
use Rattle.orc_heap.specs.declared.events.Event.{Event}
use Rattle.orc_heap.specs.declared.events.Link.{Link}
use Rattle.orc_heap.specs.declared.events.Place.{Place}
use Rattle.orc_heap.specs.declared.events.Place.TheVariants.{Next}
use Rattle.orc_ordered_chains.proofs.Acts.{rank_linked, rank_one}
use Rattle.orc_ordered_chains.proofs.Later.{follows_later, marked_later, rank_later}
use Rattle.orc_ordered_chains.specs.Chains.{FollowsOn, HasRank, IsAbove, IsRun, link_over}
use Rattle.orc_ordered_search.specs.Ways.{AreLoads, GoesOnFrom, Sees}
use Rattle.orc_ordered_search.specs.Reading.{Ordering}
use Rattle.orc_ordered_search.specs.Searches.{Behind, BeginsRun, FindsAbsent, FindsPresent, IsOf, IsUncounted, KeepsFirst, LetsGo, Looking, LooksOn, NextFollows, NextIsOf, Passed, SeesRun, Skips, Visits, Walks, count_on, node_of}
use Rattle.orc_ordered_search.proofs.Held.{FreshIs, first_linked, goes_fresh, goes_hands, left_linked, next_linked}
use Rattle.orc_ordered_search.proofs.Quiets.{behind_on, behind_puts, is_of_puts, looking_on, uncounted_puts, visits_on, visits_puts}
use Rattle.orc_ordered_search.proofs.Seen.{sees_right}

pub holds_later : {N : Type 0} (ord : Ordering N) (seen more : List (Event N)) → ord.holds seen → AllAllowed ord.may seen more → ord.holds (seen ++ more)
holds_later ord seen more holds all = stays ord.may ord.holds (λ es e h may. ord.owes.keeps es e h may) seen more holds all

-- a Look of the node's link, at which the discipline holds: the next node may follow, and a marked link stays
pub record TellsNext {N : Type 0} (ord : Ordering N) (id : ℕ) (link : Link) (u : Seat N) : Type 0 where
  pub follows : NextFollows ord.reading id link.to u
  pub frozen : link.mark ≡ true → HasLink (heap_of ord.reading.numbers u) id link

next_at : {N : Type 0} (ord : Ordering N) (es : List (Event N)) (id rank : ℕ) (link : Link) (to : Option ℕ) → link.to ≡ to → ord.holds es
    → HasRank ord.reading.order (run_heap ord.reading.numbers es) id rank → shown (run_heap ord.reading.numbers es) (Next id) ≡ Some link
    → (to ≡ None) ⊎ ((next : ℕ) × (to ≡ Some next) × (key : ℕ) × HasRank ord.reading.order (run_heap ord.reading.numbers es) next key × FollowsOn
    ord.reading.order (run_heap ord.reading.numbers es) (Next id) key)
next_at ord es id rank link None is holds own at = inl refl
next_at ord es id rank link (Some next) is holds own at =
    let (key, has, follows) = (ord.owes.chains es holds).leads (Next id) next (rank, own) (record { link = link; at = at; to_is = is }) in
    inr (next, refl, key, has, follows)

pub look_tells : {N : Type 0} (ord : Ordering N) (t u : Seat N) (id rank : ℕ) (link : Link) (before rest : List (Event N)) → ord.holds t.seen
    → HasRank ord.reading.order (heap_of ord.reading.numbers t) id rank
    → Puts t (before ++ event_of t (Look (Next id) link) None ∷ rest) u → AllAllowed ord.may [] u.seen → TellsNext ord id link u
look_tells {N} ord t u id rank link before rest holds own p all =
    let e : Event N = event_of t (Look (Next id) link) None in
    let m = Puts-stood ord.may t u before e rest p all in
    let there = rank_later ord.reading.order ord.reading.numbers ord.may ord.owes.fits ord.owes.marked t.seen m.before id rank own m.first in
    let now = holds_later ord t.seen m.before holds m.first in
    let fits = ord.owes.fits (t.seen ++ m.before) e m.here in
    let later = since m in
    let is = sym (p.is ∙ seen_is m) in
    let linked = rank_linked ord.reading.order (run_heap ord.reading.numbers (t.seen ++ m.before)) id rank there in
    record {
      follows = tell (t.seen ++ m.before) (e ∷ m.later) (next_at ord (t.seen ++ m.before) id rank link link.to refl now there fits) later is;
      frozen = λ mark. subst (λ es. HasLink (run_heap ord.reading.numbers es) id link) is
          (marked_later ord.reading.order ord.reading.numbers ord.may ord.owes.fits ord.owes.marked (t.seen ++ m.before) (e ∷ m.later) id link
          (has_link (run_heap ord.reading.numbers (t.seen ++ m.before)) id link linked fits) mark later);
    }
  where
    tell : (es more : List (Event N))
        → (link.to ≡ None) ⊎ ((next : ℕ) × (link.to ≡ Some next) × (key : ℕ) × HasRank ord.reading.order (run_heap ord.reading.numbers es) next key × FollowsOn
        ord.reading.order (run_heap ord.reading.numbers es) (Next id) key)
        → AllAllowed ord.may es more → es ++ more ≡ u.seen → NextFollows ord.reading id link.to u
    tell es more (inl none) later is = rw none tt
    tell es more (inr some) later is =
        let (next, to_is, key, own, follows) = some in
        rw to_is (
          key,
          subst (λ z. HasRank ord.reading.order (run_heap ord.reading.numbers z) next key) is
              (rank_later ord.reading.order ord.reading.numbers ord.may ord.owes.fits ord.owes.marked es more next key own later),
          subst (λ z. FollowsOn ord.reading.order (run_heap ord.reading.numbers z) (Next id) key) is
              (follows_later ord.reading.order ord.reading.numbers ord.may ord.owes.fits ord.owes.marked es more (Next id) key follows later),
        )

-- a run, and one marked node more

pub run_snoc : (h : Heap) (from : Link) (over : List ℕ) (id : ℕ) (link : Link) → IsRun h from over (Some id) → HasLink h id link → link.mark ≡ true
    → IsRun h from (over ++ id ∷ []) link.to
run_snoc h from [] id link run own mark = (run, link, own, mark, refl)
run_snoc h from (x ∷ xs) id link (is, next, l, m, run) own mark = (is, next, l, m, run_snoc h next xs id link run own mark)

pub sees_run_snoc : {N : Type 0} (es : List (Event N)) (from : Link) (over : List ℕ) (id : ℕ) (link : Link) → SeesRun es from over (Some id)
    → Sees es (Next id) link → link.mark ≡ true → SeesRun es from (over ++ id ∷ []) link.to
sees_run_snoc es from [] id link run seen mark = (run, link, seen, mark, refl)
sees_run_snoc es from (x ∷ xs) id link (is, next, s, m, run) seen mark = (is, next, s, m, sees_run_snoc es next xs id link run seen mark)

pub next_is_of : {N : Type 0} (ord : Ordering N) (t : Seat N) (wanted id key : ℕ) (next : Option ℕ) → IsOf ord.reading wanted id key t → NextFollows ord.reading id next t
    → NextIsOf ord.reading wanted (key + 1) next t
next_is_of {N} ord t wanted id key None k f = tt
next_is_of {N} ord t wanted id key (Some next) k (high, own, follows) =
    let (low, mine, less, same) = follows in
    let is : low ≡ key = rank_one ord.reading.order (heap_of ord.reading.numbers t) id low key mine k.has_key in
    (high, record { has_key = own; same_root = same ∙ (ap (λ (x : ℕ). ord.reading.order.root x) is ∙ k.same_root) }, omega (arith, is, less))

-- a look at the node that the search has come to

pub looking_at : {N : Type 0} (ord : Ordering N) (start : Place) (wanted : ℕ) (left first : Option Hold) (at : Hold) (key : ℕ) (counted : Bool) (passed : ℕ) (mark : Bool) (next : Option ℕ)
    (s t u : Seat N) (before : List (Event N))
    → (w : Walks ord.reading start wanted left first at key counted passed s t)
    → (p : Puts t (before ++ event_of t (Look (Next w.id) (record { to = next; mark = mark })) None ∷ []) u) → length before ≤ 1
    → AreLoads (before ++ event_of t (Look (Next w.id) (record { to = next; mark = mark })) None ∷ [])
    → noted_entries ord.reading.entries_in (before ++ event_of t (Look (Next w.id) (record { to = next; mark = mark })) None ∷ []) ≡ []
    → gives_in (before ++ event_of t (Look (Next w.id) (record { to = next; mark = mark })) None ∷ []) ≡ 0
    → moves_in (before ++ event_of t (Look (Next w.id) (record { to = next; mark = mark })) None ∷ []) ≡ 0
    → u.fresh ≡ t.fresh → ord.holds t.seen → AllAllowed ord.may [] u.seen
    → Looking ord.reading start wanted left first w.left_id w.first_id w.id key counted passed mark next s
    (w.own ++ (before ++ event_of t (Look (Next w.id) (record { to = next; mark = mark })) None ∷ [])) u
looking_at {N} ord start wanted left first at key counted passed mark next s t u before w p short loads entries gives moves fresh holds all =
    let link : Link = record { to = next; mark = mark } in
    let e : Event N = event_of t (Look (Next w.id) link) None in
    let ys : List (Event N) = before ++ e ∷ [] in
    let linked = rank_linked ord.reading.order (heap_of ord.reading.numbers t) w.id key w.is_of.has_key in
    let told = look_tells ord t u w.id key link before [] holds w.is_of.has_key p all in
    let found = look_found ord.reading.numbers ord.may ord.owes.fits t u (Next w.id) link None before [] p all linked in
    let b = behind_puts ord t u ys p all start wanted left first w.left_id w.first_id (Some w.id) s w.own w.behind loads fresh entries gives moves in
    record {
      behind = b;
      is_of = is_of_puts ord t u ys p all wanted w.id key w.is_of;
      still = lift ys p b.quiet.puts found;
      frozen = told.frozen;
      follows = told.follows;
      sees = sees_right w.own ys (Next w.id) link (sees_right before (e ∷ []) (Next w.id) link (inl refl));
      kind = λ is. uncounted_puts ord t u ys p all w.id (w.kind is);
      visits = visits_puts ord t u ys p all start wanted passed 2 4 (Some w.id) w.own (omega (arith, length-append before (e ∷ []), short)) w.visits;
    }
  where
    lift : (ys : List (Event N)) (p : Puts t ys u) (q : Puts s (w.own ++ ys) u)
        → ShowsOrMoved ord.reading.numbers (Next w.id) (record { to = next; mark = mark }) t u p.part
        → ShowsOrMoved ord.reading.numbers (Next w.id) (record { to = next; mark = mark }) s u q.part
    lift ys p q (inl shows) = inl shows
    lift ys p q (inr moved) = inr (omega (arith, moved, own_moves_right s t u w.own ys (w.own ++ ys) w.behind.quiet.puts p q))

-- past a marked node: it is the first of the run, or another was

pub past_marked : {N : Type 0} (ord : Ordering N) (start : Place) (wanted : ℕ) (left first : Option Hold) (left_id first_id id key : ℕ) (counted : Bool) (passed : ℕ) (next : Option ℕ) (s : Seat N)
    (own : List (Event N)) (t : Seat N)
    → Looking ord.reading start wanted left first left_id first_id id key counted passed true next s own t
    → (now : Option Hold) (now_id : ℕ) → ((over : List ℕ) → BeginsRun first first_id over → BeginsRun now now_id (over ++ id ∷ []))
    → Behind ord.reading start wanted left now left_id now_id next s own t
past_marked {N} ord start wanted left first left_id first_id id key counted passed next s own t k now now_id begins =
    let l = k.behind.leads in
    let link : Link = record { to = next; mark = true } in
    record {
      quiet = k.behind.quiet;
      leads = record {
        from = l.from;
        plain = l.plain;
        below = l.below;
        still = l.still;
        over = l.over ++ id ∷ [];
        run = run_snoc (heap_of ord.reading.numbers t) l.from l.over id link l.run (k.frozen refl) refl;
        begins = begins l.over l.begins;
        sees = l.sees;
        sees_run = sees_run_snoc own l.from l.over id link l.sees_run k.sees refl;
      };
    }

begins_more : (h : Hold) (first_id id : ℕ) (over : List ℕ) → BeginsRun (Some h) first_id over → BeginsRun (Some h) first_id (over ++ id ∷ [])
begins_more h first_id id over (others, is) = (others ++ id ∷ [], ap (λ z. z ++ id ∷ []) is)

begins_here : (h : Hold) (first_id id : ℕ) (over : List ℕ) → BeginsRun None first_id over → BeginsRun (Some h) id (over ++ id ∷ [])
begins_here h first_id id over is = ([], ap (λ z. z ++ id ∷ []) is)

-- past a node with a lower key, which is the left place from then on

pub past_lower : {N : Type 0} (ord : Ordering N) (start : Place) (wanted : ℕ) (left first : Option Hold) (left_id first_id id key : ℕ) (counted : Bool) (passed : ℕ) (next : Option ℕ) (at : Hold) (s : Seat N)
    (own : List (Event N)) (t : Seat N)
    → Looking ord.reading start wanted left first left_id first_id id key counted passed false next s own t → key < wanted
    → Behind ord.reading start wanted (Some at) None id first_id next s own t
past_lower {N} ord start wanted left first left_id first_id id key counted passed next at s own t k less = record {
  quiet = k.behind.quiet;
  leads = record {
    from = link_over next;
    plain = refl;
    below = (key, k.is_of.has_key, less, sym k.is_of.same_root);
    still = k.still;
    over = [];
    run = refl;
    begins = refl;
    sees = k.sees;
    sees_run = refl;
  };
}

-- the nodes that it went past are one more

module _ {N : Type 0} (ord : Ordering N) (start : Place) (wanted : ℕ) (left first : Option Hold) (left_id first_id id key : ℕ) (next : Option ℕ) (s : Seat N)
    (own : List (Event N)) (t : Seat N) where
  -- the next node has a greater rank
  next_above : (next : Option ℕ) → HasRank ord.reading.order (heap_of ord.reading.numbers t) id key → NextFollows ord.reading id next t
      → IsAbove ord.reading.order (heap_of ord.reading.numbers t) next key
  next_above None own f = tt
  next_above (Some x) own (high, mine, (low, again, less, same)) =
      (high, mine, omega (arith, rank_one ord.reading.order (heap_of ord.reading.numbers t) id low key again own, less))

  -- a node more, from which the search goes on
  visits_more : {counted : Bool} {passed : ℕ} {mark : Bool} (now : ℕ)
      (k : Looking ord.reading start wanted left first left_id first_id id key counted passed mark next s own t)
      → GoesOnFrom ord.reading.order (heap_of ord.reading.numbers t) wanted id
      → (min (passed + 1) 9 ≤ now) ⊎ ((passed ≤ now) × Skips ord.reading own (heap_of ord.reading.numbers t) id)
      → Visits ord.reading start wanted now 2 next own t
  visits_more {counted} {passed} {mark} now k goes how =
      let v = k.visits in
      let link : Link = record { to = next; mark = mark } in
      record {
        nodes = id ∷ v.nodes;
        few = omega (arith, v.few);
        way = ((link, k.sees, refl), v.way);
        on = (goes, v.on);
        fall = (key, k.is_of.has_key, next_above next k.is_of.has_key k.follows, v.fall);
        counted = (passed, v.counted, how);
      }

  visits_marked : (counted : Bool) (passed : ℕ) → Looking ord.reading start wanted left first left_id first_id id key counted passed true next s own t
      → Visits ord.reading start wanted passed 2 next own t
  visits_marked counted passed k =
      let link : Link = record { to = next; mark = true } in
      visits_more passed k (inl (link, k.frozen refl, refl)) (inr (omega arith, inl (link, k.sees, refl)))

  pub visits_lower : (counted : Bool) (passed : ℕ) → Looking ord.reading start wanted left first left_id first_id id key counted passed false next s own t
      → key < wanted → Visits ord.reading start wanted (count_on counted passed) 2 next own t
  visits_lower true passed k less = visits_more (count_on true passed) k (inr (key, k.is_of.has_key, less)) (inl (omega arith))
  visits_lower false passed k less = visits_more passed k (inr (key, k.is_of.has_key, less)) (inr (omega arith, inr (k.kind refl)))

-- the search has gone past the node

pub passed_marked : {N : Type 0} (ord : Ordering N) (start : Place) (wanted : ℕ) (left first : Option Hold) (at : Hold) (key : ℕ) (counted : Bool) (passed : ℕ) (next : Option Hold) (kept : Hold)
    (s t u : Seat N)
    → LooksOn ord.reading start wanted left first at key counted passed true next s t → KeepsFirst first at kept t u → FreshIs ord t → AllAllowed ord.may [] u.seen
    → Passed ord.reading start wanted (key + 1) passed left (Some kept) next s u
passed_marked {N} ord start wanted left first at key counted passed next kept s t u w keeps fresh all = elim keeps.either [
  | inl c ↦
      let g = c.1 in
      let k = w.looking in
      let l = rank_linked ord.reading.order (heap_of ord.reading.numbers t) w.id key k.is_of.has_key in
      let a = hands_swap s.slots t.slots (hand next w.next_id ∷ hand left w.left_id ∷ []) (hand first w.first_id) (hand (Some at) w.id) [] w.hands in
      let b = hands_swap s.slots t.slots (hand next w.next_id ∷ []) (hand left w.left_id) (hand (Some at) w.id) (hand first w.first_id ∷ []) a in
      let hs : List Hand = hand next w.next_id ∷ hand left w.left_id ∷ hand first w.first_id ∷ [] in
      let d = hands_swap s.slots t.slots [] (hand next w.next_id) (hand (Some at) w.id) (hand left w.left_id ∷ hand first w.first_id ∷ []) b in
      let same = goes_fresh ord s.slots t u (Some at) w.id hs fresh g d l in
      let j = looking_on ord t u g.puts all start wanted left first w.left_id w.first_id w.id key counted passed true (node_of next w.next_id) s w.own k same in
      record {
        own = w.own;
        ids = record { left_id = w.left_id; first_id = w.first_id; next_id = w.next_id };
        hands = subst (λ (o : Option Hold). Hands s.slots u.slots (hand next w.next_id ∷ hand left w.left_id ∷ hand o w.first_id ∷ [])) c.0
            (goes_hands s.slots t u (Some at) w.id hs g d);
        apart = (w.apart.0, (w.apart.1.0, (subst (λ (o : Option Hold). IsApartOf 1 o) c.0 w.apart.1.1.0, tt)));
        behind = past_marked ord start wanted left first w.left_id w.first_id w.id key counted passed (node_of next w.next_id) s w.own u j (Some kept) w.first_id
            (λ over b. begins_more kept w.first_id w.id over (subst (λ (o : Option Hold). BeginsRun o w.first_id over) c.0 b));
        next_is = next_is_of ord u wanted w.id key (node_of next w.next_id) j.is_of j.follows;
        visits = visits_marked ord start wanted left first w.left_id w.first_id w.id key (node_of next w.next_id) s w.own u counted passed j;
      }
  | inr c ↦
      let g = c.2 in
      let k = w.looking in
      let hs : List Hand = hand next w.next_id ∷ hand left w.left_id ∷ hand (Some at) w.id ∷ [] in
      let none = subst (λ (o : Option Hold). Hands s.slots t.slots (hand next w.next_id ∷ hand left w.left_id ∷ hand o w.first_id ∷ hand (Some at) w.id ∷
      [])) c.0 w.hands in
      let a = hands_swap s.slots t.slots (hand next w.next_id ∷ []) (hand left w.left_id) (hand None w.first_id) (hand (Some at) w.id ∷ []) none in
      let b = hands_swap s.slots t.slots [] (hand next w.next_id) (hand None w.first_id) (hand left w.left_id ∷ hand (Some at) w.id ∷ []) a in
      let j = looking_on ord t u g.puts all start wanted left first w.left_id w.first_id w.id key counted passed true (node_of next w.next_id) s w.own k g.fresh in
      record {
        own = w.own;
        ids = record { left_id = w.left_id; first_id = w.id; next_id = w.next_id };
        hands = subst (λ (h : Hold). Hands s.slots u.slots (hand next w.next_id ∷ hand left w.left_id ∷ hand (Some h) w.id ∷ [])) (sym c.1)
            (goes_hands s.slots t u None w.first_id hs g b);
        apart = (w.apart.0, (w.apart.1.0, (subst (λ (h : Hold). IsApartOf 1 (Some h)) (sym c.1) w.apart.1.1.1.0, tt)));
        behind = past_marked ord start wanted left first w.left_id w.first_id w.id key counted passed (node_of next w.next_id) s w.own u j (Some kept) w.id
            (λ over b. begins_here kept w.first_id w.id over (subst (λ (o : Option Hold). BeginsRun o w.first_id over) c.0 b));
        next_is = next_is_of ord u wanted w.id key (node_of next w.next_id) j.is_of j.follows;
        visits = visits_marked ord start wanted left first w.left_id w.first_id w.id key (node_of next w.next_id) s w.own u counted passed j;
      }
]

pub passed_lower : {N : Type 0} (ord : Ordering N) (start : Place) (wanted : ℕ) (left first : Option Hold) (at : Hold) (key : ℕ) (counted : Bool) (passed : ℕ) (next : Option Hold) (s t u v : Seat N)
    → LooksOn ord.reading start wanted left first at key counted passed false next s t → key < wanted → LetsGo left t u → LetsGo first u v → FreshIs ord t → FreshIs ord u
    → AllAllowed ord.may [] u.seen → AllAllowed ord.may [] v.seen
    → Passed ord.reading start wanted (key + 1) (count_on counted passed) (Some at) None next s v
passed_lower {N} ord start wanted left first at key counted passed next s t u v w less g h fresh_t fresh_u all_u all_v =
    let k = w.looking in
    let x = hand next w.next_id in
    let y = hand left w.left_id in
    let z = hand first w.first_id in
    let o = hand (Some at) w.id in
    let a = hands_swap s.slots t.slots [] x y (z ∷ o ∷ []) w.hands in
    let same_u = goes_fresh ord s.slots t u left w.left_id (x ∷ z ∷ o ∷ []) fresh_t g a (left_linked ord t start wanted left w.left_id k.behind.leads.below) in
    let j = looking_on ord t u g.puts all_u start wanted left first w.left_id w.first_id w.id key counted passed false (node_of next w.next_id) s w.own k same_u in
    let b = hands_swap s.slots u.slots [] x z (o ∷ []) (goes_hands s.slots t u left w.left_id (x ∷ z ∷ o ∷ []) g a) in
    let l = j.behind.leads in
    let same_v = goes_fresh ord s.slots u v first w.first_id (x ∷ o ∷ []) fresh_u h b (first_linked ord u first w.first_id l.from l.over (Some w.id) l.begins
    l.run) in
    let i = looking_on ord u v h.puts all_v start wanted left first w.left_id w.first_id w.id key counted passed false (node_of next w.next_id) s w.own j same_v in
    let c = goes_hands s.slots u v first w.first_id (x ∷ o ∷ []) h b in
    let d = hands_swap s.slots v.slots [] (hand None w.first_id) x (o ∷ []) (hands_with_none s.slots v.slots (x ∷ o ∷ []) w.first_id c) in
    record {
      own = w.own;
      ids = record { left_id = w.id; first_id = w.first_id; next_id = w.next_id };
      hands = hands_swap s.slots v.slots (x ∷ []) (hand None w.first_id) o [] d;
      apart = (w.apart.0, (w.apart.1.1.1.0, (tt, tt)));
      behind = past_lower ord start wanted left first w.left_id w.first_id w.id key counted passed (node_of next w.next_id) at s w.own v i less;
      next_is = next_is_of ord v wanted w.id key (node_of next w.next_id) i.is_of i.follows;
      visits = visits_lower ord start wanted left first w.left_id w.first_id w.id key (node_of next w.next_id) s w.own v counted passed i less;
    }

-- and goes on, or ends

pub passed_none : {N : Type 0} (ord : Ordering N) (start : Place) (wanted least passed : ℕ) (left first : Option Hold) (s t : Seat N)
    → Passed ord.reading start wanted least passed left first None s t
    → FindsAbsent ord.reading start wanted passed left first None s t
passed_none ord start wanted least passed left first s t w =
    let x = hand None w.next_id in
    let y = hand left w.left_id in
    let z = hand first w.first_id in
    record {
      own = w.own;
      ids = w.ids;
      hands = hands_swap s.slots t.slots (y ∷ []) x z [] (hands_swap s.slots t.slots [] x y (z ∷ []) w.hands);
      apart = (w.apart.1.0, (w.apart.1.1.0, (tt, tt)));
      behind = w.behind;
      above = tt;
      ends = tt;
      visits = w.visits;
    }

pub passed_some : {N : Type 0} (ord : Ordering N) (start : Place) (wanted least passed : ℕ) (left first : Option Hold) (at : Hold) (value : ℕ) (counted : Bool)
    (s t u : Seat N)
    → Passed ord.reading start wanted least passed left first (Some at) s t
    → Only [] t u
    → ((rank : ℕ) → HasRank ord.reading.order (heap_of ord.reading.numbers u) (id_in t.slots at) rank → value ≡ rank)
    → ((rank : ℕ) → HasRank ord.reading.order (heap_of ord.reading.numbers u) (id_in t.slots at) rank → counted ≡ false
    → IsUncounted ord.reading (heap_of ord.reading.numbers u) (id_in t.slots at))
    → AllAllowed ord.may [] u.seen
    → Walks ord.reading start wanted left first at value counted passed s u × (least ≤ value)
passed_some {N} ord start wanted least passed left first at value counted s t u w only reads kind all =
    let x = hand (Some at) w.next_id in
    let y = hand left w.left_id in
    let z = hand first w.first_id in
    let (key, is_of, low) = w.next_is in
    let (held, id_is) = holds_of t.slots at w.next_id (hand_held s.slots t.slots (y ∷ z ∷ []) at w.next_id w.hands) in
    let there = is_of_puts ord t u [] only.puts all wanted w.next_id key is_of in
    let named : HasRank ord.reading.order (heap_of ord.reading.numbers u) (id_in t.slots at) key =
    subst (λ (i : ℕ). HasRank ord.reading.order (heap_of ord.reading.numbers u) i key) (sym id_is) there.has_key in
    let is : value ≡ key = reads key named in
    let up : least ≤ value = omega (arith, is, low) in
    let hands = hands_swap s.slots t.slots (y ∷ []) x z [] (hands_swap s.slots t.slots [] x y (z ∷ []) w.hands) in (
      record {
        own = w.own;
        left_id = w.left_id;
        first_id = w.first_id;
        id = w.next_id;
        hands = subst (λ (q : Slots). Hands s.slots q (y ∷ z ∷ x ∷ [])) (sym only.slots) hands;
        apart = (w.apart.1.0, (w.apart.1.1.0, (w.apart.0, tt)));
        behind = behind_on ord t u only.puts all start wanted left first w.left_id w.first_id (Some w.next_id) s w.own w.behind only.fresh;
        is_of = subst (λ (k : ℕ). IsOf ord.reading wanted w.next_id k u) (sym is) there;
        kind = λ no. subst (λ (i : ℕ). IsUncounted ord.reading (heap_of ord.reading.numbers u) i) id_is (kind key named no);
        visits = visits_on ord t u only.puts all start wanted passed 2 (Some w.next_id) w.own w.visits;
      },
      up,
    )

-- the node has the key

pub looks_present : {N : Type 0} (ord : Ordering N) (start : Place) (wanted : ℕ) (left first : Option Hold) (at : Hold) (key : ℕ) (counted : Bool) (passed : ℕ) (next : Option Hold) (s t : Seat N)
    → LooksOn ord.reading start wanted left first at key counted passed false next s t → key ≡ wanted → FindsPresent ord.reading start wanted passed left first at next s t
looks_present {N} ord start wanted left first at key counted passed next s t w is =
    let x = hand next w.next_id in
    let y = hand left w.left_id in
    let z = hand first w.first_id in
    let o = hand (Some at) w.id in
    let a = hands_swap s.slots t.slots [] x y (z ∷ o ∷ []) w.hands in
    let b = hands_swap s.slots t.slots (y ∷ []) x z (o ∷ []) a in
    record {
      own = w.own;
      ids = w.ids;
      hands = hands_swap s.slots t.slots (y ∷ z ∷ []) x o [] b;
      behind = w.looking.behind;
      is_of = subst (λ (k : ℕ). IsOf ord.reading wanted w.id k t) is w.looking.is_of;
      still = w.looking.still;
      follows = w.looking.follows;
      sees = w.looking.sees;
      visits = w.looking.visits;
    }

-- the node has a greater key

pub looks_above : {N : Type 0} (ord : Ordering N) (start : Place) (wanted : ℕ) (left first : Option Hold) (at : Hold) (key : ℕ) (counted : Bool) (passed : ℕ) (next : Option Hold) (s t u : Seat N)
    → LooksOn ord.reading start wanted left first at key counted passed false next s t → wanted < key → LetsGo next t u → FreshIs ord t → AllAllowed ord.may [] u.seen
    → FindsAbsent ord.reading start wanted passed left first (Some at) s u
looks_above {N} ord start wanted left first at key counted passed next s t u w less g fresh all =
    let k = w.looking in
    let hs : List Hand = hand left w.left_id ∷ hand first w.first_id ∷ hand (Some at) w.id ∷ [] in
    let same = goes_fresh ord s.slots t u next w.next_id hs fresh g w.hands (next_linked ord t next w.id w.next_id k.follows) in
    let j = looking_on ord t u g.puts all start wanted left first w.left_id w.first_id w.id key counted passed false (node_of next w.next_id) s w.own k same in
    record {
      own = w.own;
      ids = record { left_id = w.left_id; first_id = w.first_id; next_id = w.id };
      hands = goes_hands s.slots t u next w.next_id hs g w.hands;
      apart = w.apart.1;
      behind = j.behind;
      above = (key, j.is_of.has_key, less);
      ends = (link_over (node_of next w.next_id), j.sees, refl);
      visits = j.visits;
    }
