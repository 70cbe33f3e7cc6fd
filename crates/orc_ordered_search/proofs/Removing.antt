-- A rank is taken out at the node that a search found.
use Rattle.std.proofs.Common.{Bool, List, None, Option, Some, [], ap, arith, false, refl, subst, sym, true, ℕ, ◌++◌, ◌∙◌, ◌∷◌, ◌≡◌}
use Rattle.orc_heap.proofs.Calls.{Puts-stood, Puts-trans}
use Rattle.orc_heap.proofs.Hands.{holds_of}
use Rattle.orc_heap.proofs.Pieces.{puts_released}
use Rattle.orc_heap.proofs.Runs.{run_heap-snoc}
use Rattle.orc_heap.proofs.SingleActs.{has_link, some_same}
use Rattle.orc_heap.specs.Acts.{Fits}
use Rattle.orc_heap.specs.Allowed.{AllAllowed, HasLink}
use Rattle.orc_heap.specs.Calls.{event_of}
use Rattle.orc_heap.specs.Hands.{Hand, hand}
use Rattle.orc_heap.specs.Heap.{link_to, shown}
use Rattle.orc_heap.specs.Journals.{noted_entries, run_heap}
use Rattle.orc_heap.specs.OwnEvents.{Puts}
use Rattle.orc_heap.specs.Seats.{Seat, heap_of}
use Rattle.orc_heap.specs.Slots.{Hold, Holds, Slots, id_in}
use Rattle.orc_heap.specs.declared.events.Act.{Act}
use Rattle.orc_heap.specs.declared.events.Act.TheVariants.{Move}
use Rattle.orc_heap.specs.declared.events.Event.{Event}
use Rattle.orc_heap.specs.declared.events.Link.{Link}
use Rattle.orc_heap.specs.declared.events.Place.{Place}
use Rattle.orc_heap.specs.declared.events.Place.TheVariants.{Next}
use Rattle.orc_history.specs.declared.set.SetEntry.{SetEntry}
use Rattle.orc_ordered_chains.proofs.Acts.{move_moves, rank_linked}
use Rattle.orc_ordered_chains.proofs.Later.{marked_later, rank_later}
use Rattle.orc_ordered_chains.specs.Chains.{HasRank, IsChainPlace, IsRun, link_over}
use Rattle.orc_ordered_search.specs.Reading.{Ordering}
use Rattle.orc_ordered_search.specs.Searches.{AllGone, BeginsRun, FindsPresent, HoldsIfAny, InHand, NextFollows, first_or, left_place, node_of, place_at, run_head, target_at}
use Rattle.orc_ordered_search.specs.Turns.{Answers, Enters, Marks, TakesFound, TakesNode, TakesOut, Tires, Tries, TriesUnlink, made_from}
use Rattle.orc_ordered_search.specs.Ways.{IsFew}
use Rattle.orc_ordered_search.proofs.Marking.{follows_at, tried_of, tried_once}
use Rattle.orc_ordered_search.proofs.Seen.{few_more, present_few}
use Rattle.orc_ordered_search.proofs.Since.{few_made}
use Rattle.orc_ordered_search.proofs.Entering.{from_is, head_of, missed_over, place_of_hand, target_is, target_of_hand}
use Rattle.orc_ordered_search.proofs.Held.{first_held, fourth_held, in_hand_on, present_hand, second_held}
use Rattle.orc_ordered_search.proofs.Making.{made_after, made_on}
use Rattle.orc_ordered_search.proofs.Quiets.{below_puts, left_place_begins, next_puts, run_puts}
use Rattle.orc_ordered_search.proofs.Stepping.{run_snoc}

-- a node that is marked shows the mark from then on
pub marked_at : {N : Type 0} (ord : Ordering N) (es : List (Event N)) (e : Event N) (id rank : ℕ) (from to : Link) → e.act ≡ Move (Next id) from to → ord.may es e
    → HasRank ord.reading.order (run_heap ord.reading.numbers es) id rank → HasLink (run_heap ord.reading.numbers (es ++ e ∷ [])) id to
marked_at {N} ord es e id rank from to act_is may own =
    let n = ord.reading.numbers in
    let fits : Fits e.agent (Move (Next id) from to) (run_heap n es) = subst (λ (a : Act). Fits e.agent a (run_heap n es)) act_is (ord.owes.fits es e may) in
    let m = move_moves e.agent (Next id) from to (run_heap n es) fits in
    let after : shown (run_heap n (es ++ e ∷ [])) (Next id) ≡ Some to = rw (run_heap-snoc n es e, act_is) m.moved in
    let there = rank_later ord.reading.order n ord.may ord.owes.fits ord.owes.marked es (e ∷ []) id rank own (may, tt) in
    has_link (run_heap n (es ++ e ∷ [])) id to (rank_linked ord.reading.order (run_heap n (es ++ e ∷ [])) id rank there) after

pub marked_link : {N : Type 0} (ord : Ordering N) (t u : Seat N) (id rank : ℕ) (from to : Link) (noted : Option N)
    → Puts t (event_of t (Move (Next id) from to) noted ∷ []) u → AllAllowed ord.may [] u.seen → HasRank ord.reading.order (heap_of ord.reading.numbers t) id rank
    → to.mark ≡ true → HasLink (heap_of ord.reading.numbers u) id to
marked_link {N} ord t u id rank from to noted p all own mark =
    let n = ord.reading.numbers in
    let e : Event N = event_of t (Move (Next id) from to) noted in
    let m = Puts-stood ord.may t u [] e [] p all in
    let there = marked_at ord (t.seen ++ m.before) e id rank from to refl m.here (rank_later ord.reading.order n ord.may ord.owes.fits ord.owes.marked t.seen m.before id rank
    own m.first) in
    subst (λ es. HasLink (run_heap n es) id to) (sym m.is)
    (marked_later ord.reading.order n ord.may ord.owes.fits ord.owes.marked ((t.seen ++ m.before) ++ e ∷ []) m.later id to there mark m.last)

-- the run that ends with the marked node

pub record RunFrom (from : Link) (over : List ℕ) (head : ℕ) : Type 0 where
  pub others : List ℕ
  pub over_is : over ≡ head ∷ others
  pub from_is : from ≡ link_to head

head_is : (first : Option Hold) (first_id id : ℕ) → head_of first first_id (Some id) ≡ Some (run_head first first_id id)
head_is None first_id id = refl
head_is (Some h) first_id id = refl

begins_with : (first : Option Hold) (first_id id : ℕ) (over : List ℕ) → BeginsRun first first_id over
    → (others : List ℕ) × (over ++ id ∷ [] ≡ run_head first first_id id ∷ others)
begins_with None first_id id over is = ([], ap (λ z. z ++ id ∷ []) is)
begins_with (Some h) first_id id over (others, is) = (others ++ id ∷ [], ap (λ z. z ++ id ∷ []) is)

-- what is first in hand
pub first_or_held : (slots : Slots) (first : Option Hold) (node : Hold) → HoldsIfAny slots first → HoldsIfAny slots (Some node)
    → HoldsIfAny slots (first_or first (Some node))
first_or_held slots None node a b = b
first_or_held slots (Some h) node a b = a

module _ {N : Type 0} (ord : Ordering N) {start : Place} {wanted passed : ℕ} {left first : Option Hold} {node : Hold} {next : Option Hold} {s t : Seat N}
    (f : FindsPresent ord.reading start wanted passed left first node next s t) where
  -- what is in hand

  pub record ReadsNode : Type 0 where
    pub node_held : Holds t.slots node
    pub id_is : id_in t.slots node ≡ f.id
    pub next_held : HoldsIfAny t.slots next
    pub next_is : target_at t.slots next ≡ node_of next f.next_id
    pub key : HasRank ord.reading.order (heap_of ord.reading.numbers t) (id_in t.slots node) wanted
    pub follows : NextFollows ord.reading (id_in t.slots node) (target_at t.slots next) t

  pub reads_node : ReadsNode
  reads_node =
      let held = holds_of t.slots node f.id f.hands.held.1.1.0.0 in
      let next_is = target_of_hand s.slots t.slots next f.next_id [] f.hands.held.1.1.1.0 in
      record {
        node_held = held.0;
        id_is = held.1;
        next_held = fourth_held s.slots t.slots (hand left f.left_id) (hand first f.first_id) (hand (Some node) f.id) next f.next_id [] f.hands;
        next_is = next_is;
        key = subst (λ (i : ℕ). HasRank ord.reading.order (heap_of ord.reading.numbers t) i wanted) (sym held.1) f.is_of.has_key;
        follows = follows_at ord.reading t f.id _ _ _ (sym held.1) (sym next_is) f.follows;
      }

  pub run_from : RunFrom f.behind.leads.from (f.behind.leads.over ++ f.id ∷ []) (run_head first f.first_id f.id)
  run_from =
      let l = f.behind.leads in
      let (others, is) = begins_with first f.first_id f.id l.over l.begins in
      record {
        others = others;
        over_is = is;
        from_is = from_is ord start wanted left first f.left_id f.first_id (Some f.id) s f.own t f.behind.quiet.puts.part l
            ∙ ap link_over (head_is first f.first_id f.id);
      }

  -- once the node is marked, the run goes on past it
  pub run_marked : (noted : N) (u : Seat N) → Marks noted f.id (node_of next f.next_id) t true u → AllAllowed ord.may [] u.seen
      → IsRun (heap_of ord.reading.numbers u) (link_to (run_head first f.first_id f.id)) (run_head first f.first_id f.id ∷ run_from.others)
      (node_of next f.next_id)
  run_marked noted u m all =
      let l = f.behind.leads in
      let to : Option ℕ = node_of next f.next_id in
      let marked : Link = record { to = node_of next f.next_id; mark = true } in
      let own_link = marked_link ord t u f.id wanted (link_over to) marked _ m.puts all f.is_of.has_key refl in
      let run = run_snoc (heap_of ord.reading.numbers u) l.from l.over f.id marked (run_puts ord t u _ m.puts all l.from l.over (Some f.id) l.run) own_link refl
      in
      subst (λ (x : Link). IsRun (heap_of ord.reading.numbers u) x (run_head first f.first_id f.id ∷ run_from.others) to) run_from.from_is
      (subst (λ z. IsRun (heap_of ord.reading.numbers u) l.from z to) run_from.over_is run)

  -- by what the pass holds

  pub marks_at : (noted : N) (done : Bool) (u : Seat N) → Marks noted (id_in t.slots node) (target_at t.slots next) t done u
      → Marks noted f.id (node_of next f.next_id) t done u
  marks_at noted done u m =
      let r = reads_node in
      subst (λ (i : ℕ). Marks noted i (node_of next f.next_id) t done u) r.id_is
      (subst (λ (o : Option ℕ). Marks noted (id_in t.slots node) o t done u) r.next_is m)

  pub marked_hand : (noted : N) (done : Bool) (u : Seat N) → Marks noted f.id (node_of next f.next_id) t done u → AllAllowed ord.may [] u.seen
      → InHand ord.reading s.slots left first (Some node) next u
  marked_hand noted true u m all =
      in_hand_on ord s.slots left first (Some node) next t u _ m.puts all m.slots (present_hand ord start wanted passed left first s t node next f)
  marked_hand noted false u m all =
      in_hand_on ord s.slots left first (Some node) next t u _ m.puts.puts all m.slots (present_hand ord start wanted passed left first s t node next f)

  pub unlink_held : (u : Seat N) (h : Hold) → u.slots ≡ t.slots → Some h ≡ first_or first (Some node)
      → HoldsIfAny u.slots left × Holds u.slots h × HoldsIfAny u.slots next
  unlink_held u h same is =
      let r = reads_node in
      let x = hand left f.left_id in
      let y = hand first f.first_id in
      let ks : List Hand = hand (Some node) f.id ∷ hand next f.next_id ∷ [] in
      let one : HoldsIfAny t.slots first = second_held s.slots t.slots x first f.first_id ks f.hands in
      let head_held : HoldsIfAny t.slots (Some h) = subst (λ (o : Option Hold). HoldsIfAny t.slots o) (sym is)
      (first_or_held t.slots first node one r.node_held) in
      let all : HoldsIfAny t.slots left × Holds t.slots h × HoldsIfAny t.slots next = (
        first_held s.slots t.slots left f.left_id (y ∷ ks) f.hands,
        head_held,
        r.next_held,
      ) in
      subst (λ (z : Slots). HoldsIfAny z left × Holds z h × HoldsIfAny z next) (sym same) all

  pub record UnlinkAt (u : Seat N) (h : Hold) : Type 0 where
    pub place_is : place_at u.slots (ord.reading.order.root wanted) left ≡ left_place (ord.reading.order.root wanted) left f.left_id
    pub id_is : id_in u.slots h ≡ run_head first f.first_id f.id
    pub to_is : target_at u.slots next ≡ node_of next f.next_id

  pub unlink_at : (u : Seat N) (h : Hold) → u.slots ≡ t.slots → Some h ≡ first_or first (Some node) → UnlinkAt u h
  unlink_at u h same is =
      let r = reads_node in
      let ks : List Hand = hand (Some node) f.id ∷ hand next f.next_id ∷ [] in
      let js : List Hand = hand next f.next_id ∷ [] in
      let target : target_at t.slots (Some h) ≡ head_of first f.first_id (Some f.id) =
      ap (λ (o : Option Hold). target_at t.slots o) is ∙ target_is s.slots t.slots first (Some node) f.first_id f.id ks js f.hands.held.1.0
      f.hands.held.1.1.0 in
      let at_t : id_in t.slots h ≡ run_head first f.first_id f.id = some_same (target ∙ head_is first f.first_id f.id) in
      record {
        place_is = ap (λ (z : Slots). place_at z (ord.reading.order.root wanted) left) same
            ∙ place_of_hand s.slots t.slots (ord.reading.order.root wanted) (ord.reading.order.root wanted) refl left f.left_id (hand first f.first_id ∷ ks) f.hands.held.0;
        id_is = ap (λ (z : Slots). id_in z h) same ∙ at_t;
        to_is = ap (λ (z : Slots). target_at z next) same ∙ r.next_is;
      }

  pub unlink_run_at : (noted : N) (u : Seat N) (h : Hold) → Marks noted f.id (node_of next f.next_id) t true u → AllAllowed ord.may [] u.seen
      → Some h ≡ first_or first (Some node)
      → (others : List ℕ) × IsRun (heap_of ord.reading.numbers u) (link_over (target_at u.slots (Some h))) (id_in u.slots h ∷ others) (target_at u.slots next)
  unlink_run_at noted u h m all is =
      let a = unlink_at u h m.slots is in
      let others = run_from.others in
      let to : Option ℕ = node_of next f.next_id in
      let run = subst (λ (x : ℕ). IsRun (heap_of ord.reading.numbers u) (link_to x) (x ∷ others) to) (sym a.id_is) (run_marked noted u m all) in
      (others, subst (λ (o : Option ℕ). IsRun (heap_of ord.reading.numbers u) (link_to (id_in u.slots h)) (id_in u.slots h ∷ others) o) (sym a.to_is) run)

  pub unlink_left : (noted : N) (u : Seat N) (h : Hold) → Marks noted f.id (node_of next f.next_id) t true u → AllAllowed ord.may [] u.seen
      → Some h ≡ first_or first (Some node)
      → IsChainPlace ord.reading.order (heap_of ord.reading.numbers u) (place_at u.slots (ord.reading.order.root wanted) left)
  unlink_left noted u h m all is =
      let a = unlink_at u h m.slots is in
      let place = left_place (ord.reading.order.root wanted) left f.left_id in
      subst (λ (p : Place). IsChainPlace ord.reading.order (heap_of ord.reading.numbers u) p) (sym a.place_is)
      (left_place_begins ord u wanted left f.left_id (below_puts ord t u _ m.puts all place wanted f.behind.leads.below))

  pub unlink_follows : (noted : N) (u : Seat N) → Marks noted f.id (node_of next f.next_id) t true u → AllAllowed ord.may [] u.seen
      → (id : ℕ) × NextFollows ord.reading id (target_at u.slots next) u
  unlink_follows noted u m all =
      let r = reads_node in
      let to : Option ℕ = node_of next f.next_id in
      let to_is : target_at u.slots next ≡ to = ap (λ (z : Slots). target_at z next) m.slots ∙ r.next_is in
      (f.id, subst (λ (o : Option ℕ). NextFollows ord.reading f.id o u) (sym to_is) (next_puts ord t u _ m.puts all f.id to f.follows))

  pub tries_at : (u v : Seat N) (h : Hold) (root : ℕ) (unlinking : N) (Worn : Type 0) → root ≡ ord.reading.order.root wanted → u.slots ≡ t.slots
      → Some h ≡ first_or first (Some node) → TriesUnlink unlinking (place_at u.slots root left) (id_in u.slots h) (target_at u.slots next) Worn u v
      → TriesUnlink unlinking (left_place (ord.reading.order.root wanted) left f.left_id) (run_head first f.first_id f.id) (node_of next f.next_id) Worn u v
  tries_at u v h root unlinking Worn of_rank same is tried =
      let a = unlink_at u h same is in
      let place = left_place (ord.reading.order.root wanted) left f.left_id in
      let at = subst (λ (r : ℕ). TriesUnlink unlinking (place_at u.slots r left) (id_in u.slots h) (target_at u.slots next) Worn u v) of_rank tried in
      let one = subst (λ (p : Place). TriesUnlink unlinking p (id_in u.slots h) (target_at u.slots next) Worn u v) a.place_is at in
      let two = subst (λ (i : ℕ). TriesUnlink unlinking place i (target_at u.slots next) Worn u v) a.id_is one in
      subst (λ (o : Option ℕ). TriesUnlink unlinking place (run_head first f.first_id f.id) o Worn u v) a.to_is two

  pub tried_hand : (u v : Seat N) → Tries ord.reading u v → AllAllowed ord.may [] v.seen → InHand ord.reading s.slots left first (Some node) next u
      → InHand ord.reading s.slots left first (Some node) next v
  tried_hand u v tried all h = in_hand_on ord s.slots left first (Some node) next u v tried.own tried.puts all tried.slots h

  -- the node's link was another
  pub removes_missed : (noted : N) (u y : Seat N) → Marks noted f.id (node_of next f.next_id) t false u → AllGone s.slots u y → AllAllowed ord.may [] u.seen
      → (a : Tires ord.reading 1 s y) × IsFew 3 a.own
  removes_missed noted u y m g all =
      missed_over ord s t u y f.own (Next f.id) (link_over (node_of next f.next_id)) f.behind.quiet f.still
      (rank_linked ord.reading.order (heap_of ord.reading.numbers t) f.id wanted f.is_of.has_key) m.puts g m.fresh all
      (present_few ord.reading start wanted passed left first node next s t f)

  -- the node was marked, and a try was made to lead past it
  pub removes_done : (noted unlinking : N) (entry : SetEntry) (Worn : Type 0) (y : Seat N) → ord.reading.entries_in (Some noted) ≡ entry ∷ []
      → ord.reading.entries_in (Some unlinking) ≡ []
      → TakesNode noted unlinking (left_place (ord.reading.order.root wanted) left f.left_id) (run_head first f.first_id f.id) f.id (node_of next f.next_id) Worn
      s.slots t y → Answers ord.reading s entry y
  removes_done noted unlinking entry Worn y enters silent k =
      let to : Option ℕ = node_of next f.next_id in
      let m = k.marks in
      let tried = tried_of ord k.marked k.tried _ _ to Worn unlinking silent k.tries in
      let e : Event N = event_of t (Move (Next f.id) (link_over to) (record { to = to; mark = true })) (Some noted) in
      let p = Puts-trans t k.marked k.tried (e ∷ []) tried.own m.puts tried.puts in
      let entries : noted_entries ord.reading.entries_in (e ∷ tried.own) ≡ entry ∷ [] = rw (enters, tried.no_entries) refl in
      let made = made_after ord.reading 0 s t k.tried f.own (e ∷ tried.own) (entry ∷ []) f.behind.quiet p entries (omega (arith, tried.no_give)) in
      record {
        own = f.own ++ e ∷ tried.own;
        made = made_on ord.reading 0 s k.tried y (f.own ++ e ∷ tried.own) (entry ∷ []) made k.gone.puts;
        slots = k.gone.slots_are;
        fresh = k.gone.fresh ∙ (tried.fresh ∙ (m.fresh ∙ f.behind.quiet.fresh));
      }

  -- by the answer, it makes few events
  took_few : (noted unlinking : N) (Worn : Type 0) (y : Seat N)
      → TakesNode noted unlinking (left_place (ord.reading.order.root wanted) left f.left_id) (run_head first f.first_id f.id) f.id (node_of next f.next_id) Worn
      s.slots t y → IsFew 4 (made_from s y)
  took_few noted unlinking Worn y k =
      let q = f.behind.quiet in
      let to : Option ℕ = node_of next f.next_id in
      let e : Event N = event_of t (Move (Next f.id) (link_over to) (record { to = to; mark = true })) (Some noted) in
      let tried = tried_once k.marked k.tried _ _ to Worn unlinking k.tries in
      let p = Puts-trans t k.marked k.tried (e ∷ []) tried.0 k.marks.puts tried.1 in
      let w = puts_released s k.tried y (f.own ++ (e ∷ tried.0)) (Puts-trans s t k.tried f.own (e ∷ tried.0) q.puts p) k.gone.puts in
      few_made 4 4 s y (f.own ++ (e ∷ tried.0)) w
      (few_more 2 4 f.own (e ∷ tried.0) (present_few ord.reading start wanted passed left first node next s t f) (omega (arith, tried.2))) (omega arith)

  pub takes_few : (noted unlinking : N) (Worn : Type 0) (done : Bool) (y : Seat N)
      → TakesOut ord.reading noted unlinking start wanted passed left first node next Worn s t f done y → IsFew 4 (made_from s y)
  takes_few noted unlinking Worn true y k = took_few noted unlinking Worn y k
  takes_few noted unlinking Worn false y (k, few) = few_made 3 4 s y k.own k.over.made.puts few (omega arith)

  pub takes_enters : (noted unlinking : N) (entry : SetEntry) (Worn : Type 0) (done : Bool) (y : Seat N) → ord.reading.entries_in (Some noted) ≡ entry ∷ []
      → ord.reading.entries_in (Some unlinking) ≡ [] → TakesOut ord.reading noted unlinking start wanted passed left first node next Worn s t f done y
      → Enters ord.reading entry s done y
  takes_enters noted unlinking entry Worn true y enters silent k = removes_done noted unlinking entry Worn y enters silent k
  takes_enters noted unlinking entry Worn false y enters silent k = k.0

  pub takes_found : (noted unlinking : N) (Worn : Type 0) (done : Bool) (y : Seat N)
      → TakesOut ord.reading noted unlinking start wanted passed left first node next Worn s t f done y → done ≡ true
      → TakesFound ord.reading noted unlinking start wanted Worn s t y
  takes_found noted unlinking Worn true y k is =
      record { left = left; first = first; node = node; next = next; passed = passed; finds = f; takes = k }
  takes_found noted unlinking Worn false y k is = cc
