-- Reads of the size.
use Rattle.std.proofs.Common.{Bool, List, None, Option, Some, [], ap, append-nil, arith, inl, inr, length, length-append, refl, subst, sym, ℕ, ◌++◌, ◌∙◌, ◌∷◌, ◌≡◌, ◌≤◌, ◌⊎◌}
use Rattle.std.specs.List.{slice_get, slice_set}
use Rattle.orc_heap.proofs.Hands.{hand_held, hands_done, hands_take, holds_of}
use Rattle.orc_heap.proofs.Moments.{look_found}
use Rattle.orc_heap.proofs.SingleActs.{some_same}
use Rattle.orc_heap.specs.Allowed.{AllAllowed}
use Rattle.orc_heap.specs.Calls.{Looks, ReadsValue, Releases, event_of}
use Rattle.orc_heap.specs.Hands.{Hands, hand}
use Rattle.orc_heap.specs.Heap.{HeapNumbers, Node, shown}
use Rattle.orc_heap.specs.OwnEvents.{Only}
use Rattle.orc_heap.specs.Seats.{Seat, heap_of}
use Rattle.orc_heap.specs.Slots.{Hold, Slots, id_in}
use Rattle.orc_heap.specs.declared.events.Act.TheVariants.{Look}
use Rattle.orc_heap.specs.declared.events.Event.{Event}
use Rattle.orc_heap.specs.declared.events.Link.{Link}
use Rattle.orc_heap.specs.declared.events.Place.TheVariants.{Root}
use Rattle.orc_heap.specs.declared.holds.Looked.TheVariants.{Stable}
use Rattle.orc_heap.specs.declared.holds.Seen.{Seen}
use Rattle.orc_ordered_search.specs.Searches.{HasRoom, Quiet}
use Rattle.orc_ordered_search.proofs.Held.{FreshIs, goes_fresh, goes_hands, release_goes}
use Rattle.orc_ordered_search.proofs.Quiets.{quiet_puts, shows_on, values_on}
use Rattle.orc_heap.proofs.Calls.{Puts-trans, part_allowed}
use Rattle.orc_heap.proofs.Moved.{gives_in-append, moves_in-append}
use Rattle.orc_heap.proofs.OwnEntries.{noted-append}
use Rattle.orc_ordered_search.proofs.Seen.{loads-append}
use Rattle.orc_ordered_search.specs.Turns.{Tires}
use Rattle.orc_heap.specs.Journals.{run_heap}
use Rattle.orc_heap.specs.Moves.{ShowsOrMoved, from_own, moves_in}
use Rattle.orc_heap.specs.OwnEvents.{Puts}
use Rattle.orc_ordered_chains.specs.Chains.{LeadsTo}
use Rattle.orc_ordered_search.proofs.Inserting.{seen_holds}
use Rattle.orc_split_rule.proofs.Later.{may_fits, values_later}
use Rattle.orc_split_rule.proofs.Sizes.{size_later}
use Rattle.orc_split_rule.specs.Laws.Values.{value_first, value_linked}
use Rattle.orc_split_rule.specs.SplitDiscipline.{HasValues, IsSize, IsSizeNode, SplitHolds, SplitMay, greatest, size_at, size_by, size_of}
use Rattle.orc_split_rule.specs.declared.split.SplitNote.{SplitNote}
use Rattle.orc_split_set.specs.SplitSearches.{SizeFound, SizeRead, split_reading}
use Rattle.orc_split_set.proofs.Beginning.{root_tells, size_was}
use Rattle.orc_split_set.proofs.Ordered.{split_ordering}
use Rattle.orc_split_set.proofs.RootLooks.{one_look, two_looks}

-- what the size's root showed in a read, by its target
still_size : (n : HeapNumbers) (link : Link) (size : ℕ) (s t : Seat SplitNote) (part : List (Event SplitNote)) → size_at (heap_of n t) link.to ≡ size
    → ShowsOrMoved n (Root (greatest n)) link s t part → (size_of n t.seen ≡ size) ⊎ (1 ≤ moves_in (from_own s.agent part))
still_size n link size s t part stands (inl shows) = inl (ap (λ o. size_by (heap_of n t) o) shows ∙ stands)
still_size n link size s t part stands (inr moved) = inr moved

pub size_one : (n : HeapNumbers) (seen : Seen) (s t : Seat SplitNote) → 1 ≤ greatest n → SplitHolds n s.seen → AllAllowed (SplitMay n) [] t.seen
    → Looks (Root (greatest n)) 2 s (Stable seen None) t → SizeRead n 1 s t
size_one n seen s t some holds all looks =
    let (null, slots, puts) = looks.tells in
    let link : Link = record { to = None; mark = seen.mark } in
    record {
      own = event_of s (Look (Root (greatest n)) link) None ∷ [];
      quiet = one_look n (greatest n) s t link puts looks.fresh;
      few = omega arith;
      slots = slots;
      is_size = (some, 0, refl);
      was = size_was n s t link [] [] 1 some holds puts all (λ es more now later is at. ap (λ o. size_by (run_heap n es) o) at);
      still = still_size n link 1 s t puts.part refl (look_found n (SplitMay n) (may_fits n) s t (Root (greatest n)) link None [] [] puts all tt);
    }

-- the size that the root's link stands for is that of its node, then as now
size_there : (n : HeapNumbers) (id size : ℕ) (t : Seat SplitNote) (es more : List (Event SplitNote)) → IsSizeNode (heap_of n t) id size → SplitHolds n es
    → AllAllowed (SplitMay n) es more → es ++ more ≡ t.seen → 1 ≤ greatest n → (l : LeadsTo (run_heap n es) (Root (greatest n)) (Some id))
    → shown (run_heap n es) (Root (greatest n)) ≡ Some l.link → size_of n es ≡ size
size_there n id size t es more node now later is some l at =
    let (here, values, fits) = now.buckets.size id some l in
    let there : HasValues (heap_of n t) id here 2 = subst (λ z. HasValues (run_heap n z) id here 2) is (values_later n es more id here 2 values later) in
    let same : here ≡ size = value_first (heap_of n t) id here 2 size 2 there node in
    ap (λ o. size_by (run_heap n es) o) at ∙ (ap (λ o. size_at (run_heap n es) o) l.to_is ∙ (rw (values.there, values.first_is) refl ∙ same))

-- what a Look of the size's root, the read of its node's value and the node's release tell
pub record SizeHeld (n : HeapNumbers) (h : Hold) (s t : Seat SplitNote) : Type 0 where
  pub id : ℕ
  pub size : ℕ
  pub node : IsSizeNode (heap_of n t) id size
  pub is_size : IsSize (greatest n) size
  pub slot_is : h.slot ≡ 2
  pub hands : Hands s.slots t.slots (hand (Some h) id ∷ [])
  pub own : List (Event SplitNote)
  pub quiet : Quiet (split_reading n) s own t
  few : length own ≤ 2
  was : (size_of n s.seen ≤ size) × (size ≤ size_of n t.seen)
  pub mark : Bool
  pub shows : ShowsOrMoved n (Root (greatest n)) (record { to = Some id; mark = mark }) s t quiet.puts.part

pub size_held : (n : HeapNumbers) (seen : Seen) (h : Hold) (s t : Seat SplitNote) → SplitHolds n s.seen → AllAllowed (SplitMay n) [] t.seen → HasRoom s.slots
    → 1 ≤ greatest n → Looks (Root (greatest n)) 2 s (Stable seen (Some h)) t → SizeHeld n h s t
size_held n seen h s t holds all room some looks =
    let (id, one, more, marked, null, at_slot, slots, puts) = looks.tells in
    let link : Link = record { to = Some id; mark = seen.mark } in
    let (size, node, fits) = root_tells n s t (greatest n) link (event_of s (Look (Root (greatest n)) one) None ∷ []) [] id (λ (x : ℕ). IsSize (greatest n) x) 2
    holds puts all refl (λ es now leads. now.buckets.size id some leads) in
    record {
      id = id;
      size = size;
      node = node;
      is_size = fits;
      slot_is = at_slot;
      hands = hands_take s.slots s.slots t.slots [] h id (record { same_length = refl; others = λ j a. refl; held = tt }) tt
          (subst (λ (j : ℕ). slice_get s.slots j ≡ Some None) (sym at_slot) room.two.empty)
          (subst (λ (j : ℕ). t.slots ≡ slice_set s.slots j (Some (record { row = h.row; id = id }))) (sym at_slot) slots);
      own = event_of s (Look (Root (greatest n)) one) None ∷ event_of s (Look (Root (greatest n)) link) None ∷ [];
      quiet = two_looks n (greatest n) s t one link puts looks.fresh;
      few = omega arith;
      was = size_was n s t link (event_of s (Look (Root (greatest n)) one) None ∷ []) [] size some holds puts all
          (λ es more now later is at. size_there n id size t es more node now later is some (record { link = link; at = at; to_is = refl }) at);
      mark = seen.mark;
      shows = look_found n (SplitMay n) (may_fits n) s t (Root (greatest n)) link None (event_of s (Look (Root (greatest n)) one) None ∷ []) [] puts all tt;
    }

-- a once linked node keeps its values over what a pass has newly seen
pub values_puts : (n : HeapNumbers) (s t : Seat SplitNote) (own : List (Event SplitNote)) (id first second : ℕ) → Puts s own t → AllAllowed (SplitMay n) [] t.seen
    → HasValues (heap_of n s) id first second → HasValues (heap_of n t) id first second
values_puts n s t own id first second p all v =
    subst (λ es. HasValues (run_heap n es) id first second) (sym p.is) (values_later n s.seen p.part id first second v (part_allowed (SplitMay n) s t own p all))

pub size_given : (n : HeapNumbers) (seen : Seen) (h : Hold) (value : ℕ) (s t u v : Seat SplitNote) → SplitHolds n s.seen → AllAllowed (SplitMay n) [] t.seen
    → AllAllowed (SplitMay n) [] u.seen → AllAllowed (SplitMay n) [] v.seen → HasRoom s.slots
    → 1 ≤ greatest n → Looks (Root (greatest n)) 2 s (Stable seen (Some h)) t
    → Only [] t u → ReadsValue (heap_of n u) (id_in t.slots h) 0 value → Releases u h v → FreshIs (split_ordering n) u
    → SizeRead n value s v
size_given n seen h value s t u v holds all_t all_u all_v room some looks only reads releases fresh =
    let k = size_held n seen h s t holds all_t room some looks in
    let (held, id_is) = holds_of t.slots h k.id (hand_held s.slots t.slots [] h k.id k.hands) in
    let linked = value_linked (heap_of n t) k.id k.size 2 k.node in
    let (l, first, second) = (values_on (split_ordering n) t u [] only.puts all_u).stays k.id linked in
    let read : ReadsValue (heap_of n u) k.id 0 value = subst (λ (i : ℕ). ReadsValue (heap_of n u) i 0 value) id_is reads in
    let here : read.node ≡ l.node = some_same (sym read.there ∙ l.there) in
    let mine : linked.node ≡ k.node.node = some_same (sym linked.there ∙ k.node.there) in
    let is : value ≡ k.size =
    read.is k.size (ap (λ (x : Node). x.first) here ∙ (first ∙ (ap (λ (x : Node). x.first) mine ∙ k.node.first_is))) in
    let hands_u : Hands s.slots u.slots (hand (Some h) k.id ∷ []) = subst (λ (z : Slots). Hands s.slots z (hand (Some h) k.id ∷ [])) (sym only.slots) k.hands in
    let g = release_goes h u v releases in
    let fresh_v = goes_fresh (split_ordering n) s.slots u v (Some h) k.id [] fresh g hands_u l in
    let quiet_u = quiet_puts (split_ordering n) t u [] only.puts all_u s k.own k.quiet tt only.fresh refl refl refl in
    let quiet_v = quiet_puts (split_ordering n) u v [] g.puts all_v s (k.own ++ []) quiet_u tt fresh_v refl refl refl in
    let holds_t = seen_holds (split_ordering n) t u [] only.puts all_u in
    let holds_u = seen_holds (split_ordering n) u v [] g.puts all_v in
    let own_is : (k.own ++ []) ++ [] ≡ k.own = append-nil (k.own ++ []) ∙ append-nil k.own in
    let q = subst (λ z. Quiet (split_reading n) s z v) own_is quiet_v in
    let link : Link = record { to = Some k.id; mark = k.mark } in
    let shows_u = shows_on (split_ordering n) t u [] only.puts all_u s k.own (k.own ++ []) k.quiet.puts quiet_u.puts (Root (greatest n)) link k.quiet.some tt k.shows in
    let shows_v = shows_on (split_ordering n) u v [] g.puts all_v s (k.own ++ []) k.own quiet_u.puts q.puts (Root (greatest n)) link quiet_u.some tt shows_u in
    let node_u = values_puts n t u [] k.id k.size 2 only.puts all_u k.node in
    let node_v = values_puts n u v [] k.id k.size 2 g.puts all_v node_u in
    record {
      own = k.own;
      quiet = q;
      still = still_size n link value s v q.puts.part (rw (node_v.there, node_v.first_is) (sym is)) shows_v;
      few = k.few;
      slots = hands_done s.slots v.slots (goes_hands s.slots u v (Some h) k.id [] g hands_u);
      is_size = subst (λ (x : ℕ). IsSize (greatest n) x) (sym is) k.is_size;
      was = (omega (arith, is, k.was.0), omega (arith, is, k.was.1, goes t u only.puts all_u holds_t, goes u v g.puts all_v holds_u));
    }
  where
    goes : (x y : Seat SplitNote) (p : Puts x [] y) → AllAllowed (SplitMay n) [] y.seen → SplitHolds n x.seen → size_of n x.seen ≤ size_of n y.seen
    goes x y p all h =
        let later = size_later n x.seen p.part some h (part_allowed (SplitMay n) x y [] p all) in
        subst (λ z. size_of n x.seen ≤ size_of n z) (sym p.is) later

pub looks_some : (root slot : ℕ) (seen : Seen) (o : Option Hold) (h : Hold) (s t : Seat SplitNote) → o ≡ Some h
    → Looks (Root root) slot s (Stable seen o) t → Looks (Root root) slot s (Stable seen (Some h)) t
looks_some root slot seen o h s t is k = subst (λ (x : Option Hold). Looks (Root root) slot s (Stable seen x) t) is k

pub looks_none : (root slot : ℕ) (seen : Seen) (o : Option Hold) (s t : Seat SplitNote) → o ≡ None
    → Looks (Root root) slot s (Stable seen o) t → Looks (Root root) slot s (Stable seen None) t
looks_none root slot seen o s t is k = subst (λ (x : Option Hold). Looks (Root root) slot s (Stable seen x) t) is k

-- after turns that are over
pub size_found : (n : HeapNumbers) (turns size : ℕ) (s t u : Seat SplitNote) → 1 ≤ greatest n → AllAllowed (SplitMay n) [] t.seen
    → Tires (split_reading n) turns s t → SizeRead n size t u → SizeFound n size s u
size_found n turns size s t u some all w r =
    let p = w.over.made.puts in
    let holds = seen_holds (split_ordering n) s t w.own p all in
    let later = size_later n s.seen p.part some holds (part_allowed (SplitMay n) s t w.own p all) in
    let up : size_of n s.seen ≤ size_of n t.seen = subst (λ z. size_of n s.seen ≤ size_of n z) (sym p.is) later in
    record {
      own = w.own ++ r.own;
      quiet = record {
        puts = Puts-trans s t u w.own r.own p r.quiet.puts;
        fresh = r.quiet.fresh ∙ w.fresh;
        loads = loads-append w.own r.own w.loads r.quiet.loads;
        some = omega (arith, r.quiet.some, length-append w.own r.own);
        no_entries = noted-append (split_reading n).entries_in w.own r.own ∙ rw w.over.made.entries_are r.quiet.no_entries;
        no_give = omega (arith, gives_in-append w.own r.own, w.over.made.gives, r.quiet.no_give);
        no_move = omega (arith, moves_in-append w.own r.own, w.over.no_move, r.quiet.no_move);
      };
      slots = r.slots ∙ w.slots;
      is_size = r.is_size;
      was = (omega (arith, up, r.was.0), r.was.1);
    }
