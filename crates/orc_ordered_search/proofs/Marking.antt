-- A node is marked, and a place is led past a run of marked nodes.
use Rattle.std.proofs.Common.{Bool, List, None, Ok, Err, Option, Result, Some, [], ap, append-nil, arith, false, inl, inr, length, length-append, refl, subst, sym, true, ℕ, ◌+◌, ◌++◌, ◌∙◌, ◌∷◌, ◌≡◌, ◌≤◌}
use Rattle.std.specs.Prelude.{IfErr, IfOk}
use mathlib.Core.List.{IsPrefix}
use Rattle.orc_fault.specs.declared.Spent.{Spent}
use Rattle.orc_heap.proofs.ByAnswer.{Swings-fresh, Swings-missed, Swings-moved, unless_none}
use Rattle.orc_heap.proofs.Pieces.{linked_not_fresh, missed_fresh, unless_other}
use Rattle.orc_heap.proofs.Steps.{part_bounds}
use Rattle.orc_heap.specs.Calls.{Misses, RefusesSwing, Swings, event_of, move_of, unless_node}
use Rattle.orc_heap.specs.OwnEvents.{Only, Puts}
use Rattle.orc_heap.specs.Seats.{IsNotFresh, Seat, heap_of, link_in, place_in}
use Rattle.orc_heap.specs.Slots.{Slots, id_in}
use Rattle.orc_heap.specs.declared.events.Act.TheVariants.{Miss, Move}
use Rattle.orc_heap.specs.declared.events.Event.{Event}
use Rattle.orc_heap.specs.declared.events.Link.{Link}
use Rattle.orc_heap.specs.declared.events.Place.{Place}
use Rattle.orc_heap.specs.declared.events.Place.TheVariants.{Next}
use Rattle.orc_heap.specs.declared.holds.At.{At}
use Rattle.orc_heap.specs.declared.holds.At.TheVariants.{Node as AtNode, Root as AtRoot, Side as AtSide}
use Rattle.orc_heap.specs.declared.holds.Want.{Want}
use Rattle.orc_heap.specs.declared.holds.Want.TheVariants.{Node as WantNode, Null as WantNull}
use Rattle.orc_history.specs.Journals.{Within}
use Rattle.orc_history.specs.Parts.{InPart, part_begin}
use Rattle.orc_ordered_chains.proofs.Acts.{rank_linked}
use Rattle.orc_ordered_chains.specs.Chains.{HasRank, IsChainPlace, IsRun, link_over}
use Rattle.orc_ordered_search.specs.Entries.{AllowsMark, AllowsUnlink}
use Rattle.orc_history.specs.declared.set.SetEntry.{SetEntry}
use Rattle.orc_history.specs.declared.set.SetEntry.TheVariants.{Removed}
use Rattle.orc_heap.specs.Allowed.{AllowedLater}
use Rattle.orc_heap.specs.Heap.{link_to}
use Rattle.orc_ordered_search.specs.Reading.{Ordering, Reading}
use Rattle.orc_ordered_search.specs.Searches.{NextFollows}
use Rattle.orc_ordered_search.specs.Turns.{HasManyLinks, Marks, Tries, TriesUnlink}
use Rattle.orc_ordered_search.proofs.Held.{FreshIs}
use Rattle.orc_ordered_search.proofs.Quiets.{silent_one}

-- a swing is refused only where it would change the target
pub refused_apart : (slots : Slots) (from to : Want) (why : Spent) → {N : Type 0} → (seen : List (Event N)) → RefusesSwing slots from to why seen
    → (link_in slots from).to ≡ (link_in slots to).to → ⊥
refused_apart slots from (WantNull mark) why seen r same = r
refused_apart slots from (WantNode h mark) why seen r same = r.0 same

pub not_fresh_at : {N : Type 0} (ord : Ordering N) (s : Seat N) (at : At) (place : Place) → place_in s.slots at ≡ place
    → IsChainPlace ord.reading.order (heap_of ord.reading.numbers s) place → FreshIs ord s → IsNotFresh s at
not_fresh_at ord s (AtRoot r) place is l fresh = tt
not_fresh_at {N} ord s (AtNode h) place is l fresh =
    let (rank, own) = subst (λ (p : Place). IsChainPlace ord.reading.order (heap_of ord.reading.numbers s) p) (sym is) l in
    linked_not_fresh ord.reading.numbers s (id_in s.slots h.now) fresh
    (rank_linked ord.reading.order (heap_of ord.reading.numbers s) (id_in s.slots h.now) rank own)
not_fresh_at {N} ord s (AtSide h) place is l fresh =
    absurd (subst (λ (p : Place). IsChainPlace ord.reading.order (heap_of ord.reading.numbers s) p) (sym is) l)

pub target_fresh : {N : Type 0} (ord : Ordering N) (s : Seat N) (id : ℕ) (to : Option ℕ) → NextFollows ord.reading id to s → FreshIs ord s
    → unless_node s.fresh to ≡ s.fresh
target_fresh ord s id None f fresh = unless_none s.fresh
target_fresh ord s id (Some x) (key, own, follows) fresh =
    unless_other s.fresh x (linked_not_fresh ord.reading.numbers s x fresh (rank_linked ord.reading.order (heap_of ord.reading.numbers s) x key own))

pub marks : {N : Type 0} (ord : Ordering N) (s t : Seat N) (id : ℕ) (to : Option ℕ) (noted same : N) (at : At) (from marked : Want) (done : Bool)
    → place_in s.slots at ≡ Next id → link_in s.slots from ≡ link_over to
    → link_in s.slots marked ≡ record { to = to; mark = true } → noted ≡ same → NextFollows ord.reading id to s → FreshIs ord s
    → Swings at from marked (Some noted) s done t → Marks same id to s done t
marks {N} ord s t id to noted same at from marked done at_is from_is marked_is noted_is follows fresh w = cases done refl
  where
    event_is : noted ≡ same
        → move_of s at from marked (Some noted) ≡ event_of s (Move (Next id) (link_over to) (record { to = to; mark = true })) (Some same)
    event_is e = rw (at_is, from_is, marked_is, e) refl

    cases : (b : Bool) → done ≡ b → Marks same id to s b t
    cases true is = record {
      slots = w.slots;
      fresh = Swings-fresh w is ∙ (ap (λ (l : Link). unless_node s.fresh l.to) marked_is ∙ target_fresh ord s id to follows fresh);
      puts = subst (λ (e : Event N). Puts s (e ∷ []) t) (event_is noted_is) (Swings-moved w is);
    }
    cases false is = record {
      slots = w.slots;
      fresh = missed_fresh w is;
      puts = subst (λ (p : Place). Misses p (link_over to) s t) at_is (subst (λ (l : Link). Misses (place_in s.slots at) l s t) from_is
          (Swings-missed w is));
    }

pub mark_allowed : {N : Type 0} (ord : Ordering N) (rank_of : ℕ → ℕ) (noted : SetEntry → N) → AllowsMark ord.reading ord.holds ord.may rank_of noted
    → (s : Seat N) (id key by : ℕ) (to : Option ℕ) (from marked : Link) (note : N) → from ≡ link_over to → marked ≡ record { to = to; mark = true }
    → note ≡ noted (Removed by key true) → by ≡ s.agent → ord.holds s.seen → HasRank ord.reading.order (heap_of ord.reading.numbers s) id (rank_of key)
    → AllowedLater ord.may ord.reading.numbers s.agent s.seen (Next id) from (event_of s (Move (Next id) from marked) (Some note))
mark_allowed {N} ord rank_of noted allows s id key by to from marked note from_is marked_is note_is by_is holds own =
    let same : note ≡ noted (Removed s.agent key true) = note_is ∙ ap (λ (a : ℕ). noted (Removed a key true)) by_is in
    rw (from_is, marked_is, same) (allows s.agent id key (link_over to) s.seen holds own refl)

pub try_allowed : {N : Type 0} (ord : Ordering N) (unlinking : N) → AllowsUnlink ord.reading ord.holds ord.may unlinking
    → (s : Seat N) (place at : Place) (first : ℕ) (others : List ℕ) (to : Option ℕ) (past : Link) (note : N) → at ≡ place → past ≡ link_over to
    → note ≡ unlinking → ord.holds s.seen → IsChainPlace ord.reading.order (heap_of ord.reading.numbers s) place
    → IsRun (heap_of ord.reading.numbers s) (link_to first) (first ∷ others) to
    → AllowedLater ord.may ord.reading.numbers s.agent s.seen at (link_to first) (event_of s (Move at (link_to first) past) (Some note))
try_allowed {N} ord unlinking allows s place at first others to past note at_is past_is note_is holds l run =
    rw (at_is, past_is, note_is) (allows s.agent place (link_to first) first others to s.seen holds l refl run)

-- a refused swing names a target to which many links were made
many_links : {N : Type 0} (s : Seat N) (from past : Want) (why : Spent) (seen : List (Event N)) (to : Option ℕ) → link_in s.slots past ≡ link_over to
    → RefusesSwing s.slots from past why seen → HasManyLinks to seen
many_links s from (WantNull mark) why seen to is r = absurd r
many_links s from (WantNode h mark) why seen to is r = (id_in s.slots h.now, sym (ap (λ (l : Link). l.to) is), r.1.links)

-- one swing past a run, whatever comes of it
pub tries : {N : Type 0} (ord : Ordering N) (s t : Seat N) (place : Place) (id first : ℕ) (to : Option ℕ) (Worn : Type 0) (note unlinking : N) (at : At)
    (from past : Want) (result : Result Bool Spent)
    → place_in s.slots at ≡ place → link_in s.slots from ≡ link_to first → link_in s.slots past ≡ link_over to → note ≡ unlinking
    → NextFollows ord.reading id to s → FreshIs ord s
    → IfOk result (λ done. Swings at from past (Some note) s done t) → IfErr result (λ e. Only [] s t)
    → IfErr result (λ e. RefusesSwing s.slots from past e t.seen) → IfErr result (λ e. Worn)
    → TriesUnlink unlinking place first to Worn s t
tries {N} ord s t place id first to Worn note unlinking at from past (Ok done) at_is from_is past_is note_is follows fresh w none refused worn =
    cases done refl
  where
    cases : (b : Bool) → done ≡ b → TriesUnlink unlinking place first to Worn s t
    cases true is = record {
      slots = w.slots;
      fresh = Swings-fresh w is ∙ (ap (λ (l : Link). unless_node s.fresh l.to) past_is ∙ target_fresh ord s id to follows fresh);
      either = inl (inl (subst (λ (e : Event N). Puts s (e ∷ []) t) event_is (Swings-moved w is)));
    }
      where
        event_is : move_of s at from past (Some note) ≡ event_of s (Move place (link_to first) (link_over to)) (Some unlinking)
        event_is = rw (at_is, from_is, past_is, note_is) refl
    cases false is = record {
      slots = w.slots;
      fresh = missed_fresh w is;
      either = inl (inr (subst (λ (p : Place). Misses p (link_to first) s t) at_is (subst (λ (l : Link). Misses (place_in s.slots at) l s t) from_is
          (Swings-missed w is))));
    }
tries ord s t place id first to Worn note unlinking at from past (Err e) at_is from_is past_is note_is follows fresh w none refused worn = record
    { slots = none.slots; fresh = none.fresh; either = inr (worn, many_links s from past e t.seen to past_is refused, none.puts) }

-- such a swing enters nothing
pub tried_of : {N : Type 0} (ord : Ordering N) (s t : Seat N) (place : Place) (first : ℕ) (to : Option ℕ) (Worn : Type 0) (unlinking : N)
    → ord.reading.entries_in (Some unlinking) ≡ [] → TriesUnlink unlinking place first to Worn s t → Tries ord.reading s t
tried_of {N} ord s t place first to Worn unlinking silent w = elim w.either [
  | inl swung ↦ elim swung [
    | inl p ↦ record {
      own = event_of s (Move place (link_to first) (link_over to)) (Some unlinking) ∷ [];
      puts = p;
      no_entries = rw silent refl;
      no_give = refl;
      slots = w.slots;
      fresh = w.fresh;
    }
    | inr miss ↦ record {
      own = event_of s (Miss place (link_to first) miss.found) None ∷ [];
      puts = miss.puts;
      no_entries = silent_one ord s.agent (Miss place (link_to first) miss.found);
      no_give = refl;
      slots = w.slots;
      fresh = w.fresh;
    }
  ]
  | inr worn ↦ record { own = []; puts = worn.2; no_entries = refl; no_give = refl; slots = w.slots; fresh = w.fresh }
]

-- and makes one event at the most
pub tried_once : {N : Type 0} (s t : Seat N) (place : Place) (first : ℕ) (to : Option ℕ) (Worn : Type 0) (unlinking : N)
    → TriesUnlink unlinking place first to Worn s t → (own : List (Event N)) × Puts s own t × (length own ≤ 1)
tried_once s t place first to Worn unlinking w = elim w.either [
  | inl swung ↦ elim swung [
    | inl p ↦ (event_of s (Move place (link_to first) (link_over to)) (Some unlinking) ∷ [], p, omega arith)
    | inr miss ↦ (event_of s (Miss place (link_to first) miss.found) None ∷ [], miss.puts, omega arith)
  ]
  | inr worn ↦ ([], worn.2, omega arith)
]

pub tries_wider : {N : Type 0} (Worn More : Type 0) (unlinking : N) (place : Place) (first : ℕ) (to : Option ℕ) (s t : Seat N) → (Worn → More)
    → TriesUnlink unlinking place first to Worn s t → TriesUnlink unlinking place first to More s t
tries_wider Worn More unlinking place first to s t wider w = record {
  slots = w.slots;
  fresh = w.fresh;
  either = elim w.either [ inl swung ↦ inl swung | inr worn ↦ inr (wider worn.0, worn.1, worn.2) ];
}

-- what follows a node, by what the pass holds
pub follows_at : {N : Type 0} (r : Reading N) (t : Seat N) (id at : ℕ) (to target : Option ℕ) → id ≡ at → to ≡ target → NextFollows r id to t
    → NextFollows r at target t
follows_at r t id at to target id_is to_is f =
    subst (λ (i : ℕ). NextFollows r i target t) id_is (subst (λ (o : Option ℕ). NextFollows r id o t) to_is f)

-- a fact of a call's part is one of two places in what is new
pub part_fact : {S : Type 0} (agent_of : S → ℕ) (agent : ℕ) (before after : List S) (Fact : ℕ → ℕ → Type 0) → IsPrefix before after
    → InPart agent_of agent before after Fact → Within (length before) (length after) Fact
part_fact agent_of agent before after Fact grows fact =
    let b = part_bounds agent_of agent before after grows in
    (part_begin agent_of agent before after, length after, b.0, b.1, omega arith, fact)

-- a fact of two places of a piece of a call is one of two places of the whole
pub within_wider : {S : Type 0} (fact : List S → ℕ → ℕ → Type 0) (j k m o : List S)
    → ((xs more : List S) (from to : ℕ) → fact xs from to → fact (xs ++ more) from to) → IsPrefix j k → IsPrefix m o
    → Within (length k) (length m) (fact m) → Within (length j) (length o) (fact o)
within_wider {S} fact j k m o stays (first, one) (more, two) w =
    let (from, to, low, order, high, here) = w in
    let there : fact o from to = subst (λ (z : List S). fact z from to) two (stays m more from to here) in
    let left : length j + length first ≡ length k = sym (length-append j first) ∙ ap (λ (z : List S). length z) one in
    let right : length m + length more ≡ length o = sym (length-append m more) ∙ ap (λ (z : List S). length z) two in
    (from, to, omega (arith, low, left), order, omega (arith, high, right), there)

-- what was worn in the last piece of a call
pub worn_since : {S : Type 0} (worn : ℕ → Spent → List S → ℕ → ℕ → Type 0) (agent_of : S → ℕ) (a b : ℕ) (j k m : List S)
    → ((why : Spent) (xs more : List S) (from to : ℕ) → worn a why xs from to → worn a why (xs ++ more) from to) → b ≡ a → IsPrefix j k → IsPrefix k m
    → (result : Result Bool Spent) → IfErr result (λ e. InPart agent_of b k m (worn b e m)) → IfErr result (λ e. Within (length j) (length m) (worn a e m))
worn_since worn agent_of a b j k m stays same one two (Ok done) w = tt
worn_since {S} worn agent_of a b j k m stays same one two (Err e) w =
    let here : Within (length k) (length m) (worn b e m) = part_fact agent_of b k m (worn b e m) two w in
    let there : Within (length k) (length m) (worn a e m) = subst (λ (x : ℕ). Within (length k) (length m) (worn x e m)) same here in
    within_wider (worn a e) j k m m (stays e) one ([], append-nil m) there

-- where the worn row is the answer
pub err_worn : {S : Type 0} (worn : Spent → List S → ℕ → ℕ → Type 0) (j k m : List S)
    → ((why : Spent) (xs more : List S) (from to : ℕ) → worn why xs from to → worn why (xs ++ more) from to) → IsPrefix k m → (result : Result Bool Spent)
    (why : Spent) → result ≡ Err why → IfErr result (λ e. Within (length j) (length k) (worn e k)) → Within (length j) (length m) (worn why m)
err_worn {S} worn j k m stays grows result why is w =
    let there : Within (length j) (length k) (worn why k) = subst (λ (r : Result Bool Spent). IfErr r (λ e. Within (length j) (length k) (worn e k))) is w in
    within_wider (worn why) j j k m (stays why) ([], append-nil j) grows there

pub worn_part : {S : Type 0} (agent_of : S → ℕ) (agent : ℕ) (before after : List S) (worn : Spent → List S → ℕ → ℕ → Type 0) → IsPrefix before after
    → (result : Result Bool Spent)
    → IfErr result (λ e. InPart agent_of agent before after (worn e after))
    → IfErr result (λ e. (why : Spent) × Within (length before) (length after) (worn why after))
worn_part agent_of agent before after worn grows (Ok done) w = tt
worn_part agent_of agent before after worn grows (Err e) w = (e, part_fact agent_of agent before after (worn e after) grows w)

-- what was worn in a piece of a call was so in the whole
pub worn_wider : {S : Type 0} (worn : ℕ → Spent → List S → ℕ → ℕ → Type 0) (a b : ℕ) (j k m o : List S)
    → ((why : Spent) (xs more : List S) (from to : ℕ) → worn a why xs from to → worn a why (xs ++ more) from to) → b ≡ a → IsPrefix j k → IsPrefix m o
    → ((why : Spent) × Within (length k) (length m) (worn b why m)) → (why : Spent) × Within (length j) (length o) (worn a why o)
worn_wider worn a b j k m o stays same one two (why, w) =
    let here : Within (length k) (length m) (worn a why m) = subst (λ (x : ℕ). Within (length k) (length m) (worn x why m)) same w in
    (why, within_wider (worn a why) j k m o (stays why) one two here)
