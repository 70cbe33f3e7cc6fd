-- What a call does before its turns, and what it tells of the set before the call where no other agent acts.
use Rattle.std.proofs.Common.{List, None, Option, Some, [], ap, append_assoc, arith, length, length-append, refl, subst, suc, sym, zero, ℕ, ◌%◌, ◌++◌, ◌<◌, ◌==◌, ◌∙◌, ◌∷◌, ◌≡◌, ◌≢◌, ◌≤◌, ◌^◌, ◌⊎◌, inl, inr}
use Rattle.std.proofs.Math.Bool.{and-eq-true_iff}
use Rattle.std.proofs.Math.Nat.{mod-lt}
use Rattle.std.proofs.lemmas.List.{append_cancel_right}
use Rattle.std.specs.List.{list_all, slice_get, slice_set}
use Rattle.orc_fault.specs.declared.Spent.{Spent as SpentRow}
use Rattle.orc_heap.proofs.ByAnswer.{unless_fresh}
use Rattle.orc_heap.proofs.Calls.{Puts-stood}
use Rattle.orc_heap.proofs.Hands.{holds_of}
use Rattle.orc_heap.proofs.Moments.{seen_is, since}
use Rattle.orc_heap.proofs.OwnParts.{alone_own, begins_own, from_own-others, own_from, own_from_left, quiet_not_alone}
use Rattle.orc_heap.proofs.Pieces.{new_is}
use Rattle.orc_heap.proofs.Slots.{get-set_same, set-back}
use Rattle.orc_heap.specs.Allowed.{AllAllowed, events_by}
use Rattle.orc_heap.specs.Calls.{Looks, Tells, event_of}
use Rattle.orc_heap.specs.Hands.{HoldsId}
use Rattle.orc_heap.specs.Heap.{Heap, HeapNumbers, shown}
use Rattle.orc_heap.specs.Journals.{run_heap}
use Rattle.orc_heap.specs.Moves.{AllOwn, from_own}
use Rattle.orc_heap.specs.OwnEvents.{Puts}
use Rattle.orc_heap.specs.Seats.{IsIdle, Seat, heap_of}
use Rattle.orc_heap.specs.Slots.{Hold, Holds, SlotNode, Slots}
use Rattle.orc_heap.specs.declared.events.Act.TheVariants.{Look}
use Rattle.orc_heap.specs.declared.events.Event.{Event}
use Rattle.orc_heap.specs.declared.events.Link.{Link}
use Rattle.orc_heap.specs.declared.events.Place.TheVariants.{Root}
use Rattle.orc_heap.specs.declared.holds.Looked.TheVariants.{Stable}
use Rattle.orc_heap.specs.declared.holds.Seen.{Seen}
use Rattle.orc_ordered_search.specs.Inserts.{InsertCall}
use Rattle.orc_ordered_search.specs.Searches.{FindsMoved, LetsGo}
use Rattle.orc_ordered_search.specs.Turns.{Made}
use Rattle.orc_ordered_search.proofs.Alone.{loads_same}
use Rattle.orc_ordered_search.proofs.Inserting.{idle_room}
use Rattle.orc_ordered_search.proofs.Making.{made_on, over_none}
use Rattle.orc_ordered_search.proofs.Parts.{others_all, others_alone}
use Rattle.orc_ordered_search.proofs.Quiets.{silent_two}
use Rattle.orc_split_rule.proofs.Later.{holds_later, may_fits}
use Rattle.orc_split_rule.specs.SplitDiscipline.{IsSize, SplitHolds, SplitMay, greatest, size_by, size_of}
use Rattle.orc_split_rule.specs.SplitOrder.{bucket_of}
use Rattle.orc_split_rule.specs.declared.split.SplitNote.{SplitNote}
use Rattle.orc_split_set.specs.Rootings.{HadBuckets, IsRootSet, IsUndisturbed, KeyTells, Prepares, RootTells, Roots}
use Rattle.orc_split_set.specs.SplitSearches.{SizeRead, split_reading}
use Rattle.orc_split_set.specs.declared.bucket.Rooted.{Rooted}
use Rattle.orc_split_set.specs.declared.bucket.Rooted.TheVariants.{Done, Moved, NoNode, Spent}
use Rattle.orc_split_set.proofs.Anchoring.{set_later, set_puts}
use Rattle.orc_split_set.proofs.Ordered.{split_ordering}
use Rattle.orc_split_set.proofs.Rooting.{roots_after, roots_own}
use native.Mathlib.Nat.{pow-suc}

-- the bucket of a key has a root
pub power_some : (i : ℕ) → 1 ≤ 2 ^ i
power_some zero = omega arith
power_some (suc i) = omega (arith, pow-suc 2 i, power_some i)

pub size_some : (most size : ℕ) → IsSize most size → 1 ≤ size
size_some most size (low, i, is) = omega (arith, is, power_some i)

pub bucket_low : (most size key : ℕ) → IsSize most size → bucket_of key size < most
bucket_low most size key fits =
    let less : key % size < size = mod-lt key (size_some most size fits) in
    omega (arith, less, fits.0)

-- nothing is done
pub nothing : (n : HeapNumbers) (s : Seat SplitNote) → s.fresh ≡ None → InsertCall (split_reading n) s [] [] s
nothing n s fresh = record { given = 0; at_most = omega arith; made = (over_none (split_reading n) s).made; slots = refl; fresh = fresh }

pub no_roots : (n : HeapNumbers) (bucket : ℕ) (s : Seat SplitNote) → bucket ≡ 0 → s.fresh ≡ None → Roots n bucket s Done s
no_roots n bucket s is fresh = record { own = []; call = nothing n s fresh; tells = λ low. absurd (omega (arith, is, low)) }

pub no_turns : (n : HeapNumbers) (key turns : ℕ) (s : Seat SplitNote) → turns ≡ 0 → s.fresh ≡ None → Prepares n key turns s Done s
no_turns n key turns s is fresh = record { own = []; call = nothing n s fresh; none = λ zero. refl; begun = λ some. absurd (some is); tells = λ some. absurd (some is) }

-- a look of a root that wasn't null
module _ (n : HeapNumbers) (bucket : ℕ) (s t : Seat SplitNote) (seen : Seen) (h : Hold) (idle : IsIdle s)
    (looks : Looks (Root bucket) 2 s (Stable seen (Some h)) t) where
  pub root_held : Holds t.slots h
  root_held = by looks.tells
    where
      by : Tells (Root bucket) 2 s (Stable seen (Some h)) t → Holds t.slots h
      by (id, one, more, marked, null, at_slot, slots, puts) =
          let x : Option SlotNode = Some (record { row = h.row; id = id }) in
          let there : HoldsId (slice_set s.slots 2 x) h id = subst (λ (i : ℕ). slice_get (slice_set s.slots 2 x) i ≡ Some x) (sym at_slot)
          (get-set_same s.slots 2 None x (idle_room s idle).room.two.empty) in
          (holds_of t.slots h id (subst (λ (z : Slots). HoldsId z h id) (sym slots) there)).0

  pub kept_roots : (u : Seat SplitNote) → 1 ≤ bucket → bucket < greatest n → SplitHolds n s.seen → SplitHolds n t.seen → AllAllowed (SplitMay n) [] t.seen
      → AllAllowed (SplitMay n) [] u.seen → LetsGo (Some h) t u → Roots n bucket s Done u
  kept_roots u low high holds holds_t all_t all_u g = by looks.tells
    where
      by : Tells (Root bucket) 2 s (Stable seen (Some h)) t → Roots n bucket s Done u
      by (id, one, more, marked, null, at_slot, slots, puts) =
          let x : Option SlotNode = Some (record { row = h.row; id = id }) in
          let link : Link = record { to = Some id; mark = seen.mark } in
          let first : Event SplitNote = event_of s (Look (Root bucket) one) None in
          let e : Event SplitNote = event_of s (Look (Root bucket) link) None in
          let own : List (Event SplitNote) = first ∷ e ∷ [] in
          let made : Made (split_reading n) 0 s own [] t = record {
            puts = puts;
            entries_are = silent_two (split_ordering n) s.agent s.agent (Look (Root bucket) one) (Look (Root bucket) link);
            gives = refl;
          } in
          let m = Puts-stood (SplitMay n) s t (first ∷ []) e [] puts all_t in
          let es : List (Event SplitNote) = s.seen ++ m.before in
          let now = holds_later n s.seen m.before holds m.first in
          let there : IsRootSet (run_heap n es) bucket = (id, record { link = link; at = may_fits n es e m.here; to_is = refl }) in
          let set : IsRootSet (heap_of n t) bucket = subst (λ z. IsRootSet (run_heap n z) bucket) (sym (puts.is ∙ seen_is m))
          (set_later n es (e ∷ m.later) bucket low high now (since m) there) in
          let back : slice_set (slice_set s.slots 2 x) h.slot None ≡ s.slots = ap (λ (i : ℕ). slice_set (slice_set s.slots 2 x) i None) at_slot
          ∙ set-back s.slots 2 None x (idle_room s idle).room.two.empty in
          record {
            own = own;
            call = record {
              given = 0;
              at_most = omega arith;
              made = made_on (split_reading n) 0 s t u own [] made g.puts;
              slots = g.slots ∙ (ap (λ (z : Slots). slice_set z h.slot None) slots ∙ back);
              fresh = g.fresh ∙ unless_fresh t.fresh _ (looks.fresh ∙ idle.fresh);
            };
            tells = λ some. set_puts n t u [] bucket low high holds_t g.puts all_u set;
          }

-- what is new in a journal begins with others' events, and then come own ones

own_first : {N : Type 0} (agent : ℕ) (own fs : List (Event N)) → AllOwn agent own → 1 ≤ length own → from_own agent (own ++ fs) ≡ own ++ fs
own_first agent [] fs all some = absurd (omega (arith, some))
own_first {N} agent (e ∷ es) fs all some = rw ((and-eq-true_iff (e.agent == agent) (list_all (λ (x : Event N). x.agent == agent) es)).0 all).0 refl

own_whole : {N : Type 0} (agent : ℕ) (es : List (Event N)) → AllOwn agent es → from_own agent es ≡ es
own_whole agent [] all = refl
own_whole {N} agent (e ∷ es) all = rw ((and-eq-true_iff (e.agent == agent) (list_all (λ (x : Event N). x.agent == agent) es)).0 all).0 refl

gap_is : {N : Type 0} (agent : ℕ) (before own fs gap rest : List (Event N)) → before ++ (own ++ fs) ≡ gap ++ rest → events_by agent before ≡ []
    → events_by agent gap ≡ [] → AllOwn agent own → 1 ≤ length own → AllOwn agent rest → before ≡ gap
gap_is agent before own fs gap rest is none_before none_gap all some all_rest =
    let one : from_own agent (before ++ (own ++ fs)) ≡ own ++ fs = from_own-others agent before (own ++ fs) none_before ∙ own_first agent own fs all some in
    let two : from_own agent (gap ++ rest) ≡ rest = from_own-others agent gap rest none_gap ∙ own_whole agent rest all_rest in
    let same : own ++ fs ≡ rest = sym one ∙ (ap (λ z. from_own agent z) is ∙ two) in
    append_cancel_right before gap rest (ap (λ z. before ++ z) (sym same) ∙ is)

-- so the first of two pieces is undisturbed where the whole is
pub undisturbed_left : (agent : ℕ) (es fs gap : List (Event SplitNote)) → 1 ≤ length (events_by agent es) → IsUndisturbed agent (es ++ fs) gap
    → IsUndisturbed agent es gap
undisturbed_left agent es fs gap some x =
    let cut = begins_own agent es in
    let from_is : from_own agent (es ++ fs) ≡ from_own agent x.rest = ap (λ z. from_own agent z) x.is ∙ from_own-others agent gap x.rest x.others in
    let alone = own_from_left agent es fs (subst (λ z. AllOwn agent z) (sym from_is) (own_from agent x.rest x.own)) in
    let own_is : from_own agent es ≡ events_by agent es = alone_own agent es (events_by agent es) refl alone in
    let split : cut.before ++ (from_own agent es ++ fs) ≡ gap ++ x.rest =
    sym (append_assoc cut.before (from_own agent es) fs) ∙ (ap (λ z. z ++ fs) (sym cut.is) ∙ x.is) in
    let before_is : cut.before ≡ gap =
    gap_is agent cut.before (from_own agent es) fs gap x.rest split cut.others x.others alone (rw own_is some) x.own in
    record { rest = from_own agent es; is = cut.is ∙ ap (λ z. z ++ from_own agent es) before_is; others = x.others; own = alone }

-- a size that was read first was there before the call
pub size_told : (n : HeapNumbers) (size : ℕ) (s t u : Seat SplitNote) (ys zs : List (Event SplitNote)) (r : SizeRead n size s t) (q : Puts t ys u) (w : Puts s zs u)
    → AllAllowed (SplitMay n) [] t.seen → HadBuckets n size s w.part
size_told n size s t u ys zs r q w all = λ gap x.
    let a = s.agent in
    let p = r.quiet.puts in
    let whole : w.part ≡ p.part ++ q.part = new_is s t u r.own ys zs p q w in
    let y = undisturbed_left a p.part q.part gap (rw p.own_is r.quiet.some) (subst (λ z. IsUndisturbed a z gap) whole x) in
    let from_is : from_own a p.part ≡ y.rest = ap (λ z. from_own a z) y.is ∙ (from_own-others a gap y.rest y.others ∙ own_whole a y.rest y.own) in
    let alone : AllOwn a (from_own a p.part) = subst (λ z. AllOwn a z) (sym from_is) y.own in
    let own_is : y.rest ≡ r.own = sym from_is ∙ alone_own a p.part r.own p.own_is alone in
    let seen_there : t.seen ≡ (s.seen ++ gap) ++ r.own =
    p.is ∙ (ap (λ z. s.seen ++ z) y.is ∙ (sym (append_assoc s.seen gap y.rest) ∙ ap (λ z. (s.seen ++ gap) ++ z) own_is)) in
    let heap_is : heap_of n t ≡ run_heap n (s.seen ++ gap) = ap (λ z. run_heap n z) seen_there ∙ loads_same (split_ordering n) (s.seen ++ gap) r.own r.quiet.loads in
    let same : size_of n t.seen ≡ size_of n (s.seen ++ gap) = ap (λ (h : Heap). size_by h (shown h (Root (greatest n)))) heap_is in
    elim r.still [
      | inl still ↦ sym same ∙ still
      | inr moved ↦ absurd (quiet_not_alone a p.part r.own p.own_is r.quiet.no_move moved alone)
    ]

-- what the read of the size and the bucket's root come to
pub prepares_by : (n : HeapNumbers) (key turns size : ℕ) (s t u : Seat SplitNote) → SizeRead n size s t → AllAllowed (SplitMay n) [] t.seen → turns ≢ 0
    → (result : Rooted) → Roots n (bucket_of key size) t result u → Prepares n key turns s result u
prepares_by n key turns size s t u r all some result k =
    let w = roots_after n (bucket_of key size) s t u r.own r.quiet r.slots result k in
    let p = w.call.made.puts in
    let own_is = roots_own n (bucket_of key size) s t u r.own r.quiet r.slots result k in
    record {
      own = w.own;
      call = w.call;
      none = λ zero. absurd (some zero);
      begun = λ ne. omega (arith, r.quiet.some, length-append r.own k.own, ap (λ z. length z) own_is);
      tells = λ ne. by w.own result p (omega (arith, r.quiet.some, length-append r.own k.own, ap (λ z. length z) own_is)) w.tells (size_told n size s t u k.own w.own r k.call.made.puts p all);
    }
  where
    by : (zs : List (Event SplitNote)) (result : Rooted) (p : Puts s zs u) → 1 ≤ length zs → RootTells n (bucket_of key size) s.agent p.part result u
        → HadBuckets n size s p.part → KeyTells n key s zs p.part result u
    by zs Done p begun told had = (begun, size, r.is_size, had, told)
    by zs Moved p begun told had = told
    by zs NoNode p begun told had = tt
    by zs (Spent why) p begun told had = tt

-- or a link moved meanwhile
pub prepares_moved : (n : HeapNumbers) (key turns : ℕ) (s t : Seat SplitNote) → FindsMoved (split_reading n) s t → s.fresh ≡ None → turns ≢ 0
    → Prepares n key turns s Moved t
prepares_moved n key turns s t f fresh some =
    let p = f.quiet.puts in
    record {
      own = f.own;
      call = record {
        given = 0;
        at_most = omega arith;
        made = record { puts = p; entries_are = f.quiet.no_entries; gives = f.quiet.no_give };
        slots = f.slots;
        fresh = f.quiet.fresh ∙ fresh;
      };
      none = λ zero. absurd (some zero);
      begun = λ ne. f.quiet.some;
      tells = λ ne. omega (arith, f.moved, others_all s.agent p.part f.own p.own_is f.quiet.no_move);
    }

-- what a call that was undisturbed tells of the root of its key's bucket
pub key_told : (n : HeapNumbers) (key : ℕ) (s t u : Seat SplitNote) (own ys zs : List (Event SplitNote)) (rooted : Rooted) (p : Puts s own t) (q : Puts t ys u)
    (w : Puts s zs u) (gap : List (Event SplitNote)) → IsUndisturbed s.agent w.part gap → SplitHolds n t.seen → AllAllowed (SplitMay n) [] u.seen
    → KeyTells n key s own p.part rooted t → 1 ≤ bucket_of key (size_of n (s.seen ++ gap))
    → IsRootSet (heap_of n u) (bucket_of key (size_of n (s.seen ++ gap))) ⊎ ((rooted ≡ NoNode) ⊎ ((why : SpentRow) × (rooted ≡ Spent why)))
key_told n key s t u own ys zs NoNode p q w gap x holds all told low = inr (inl refl)
key_told n key s t u own ys zs (Spent why) p q w gap x holds all told low = inr (inr (why, refl))
key_told n key s t u own ys zs Moved p q w gap x holds all told low =
    let a = s.agent in
    let whole : w.part ≡ p.part ++ q.part = new_is s t u own ys zs p q w in
    let from_is : from_own a (p.part ++ q.part) ≡ from_own a x.rest =
    ap (λ z. from_own a z) (sym whole ∙ x.is) ∙ from_own-others a gap x.rest x.others in
    let alone = own_from_left a p.part q.part (subst (λ z. AllOwn a z) (sym from_is) (own_from a x.rest x.own)) in
    absurd (omega (arith, told, others_alone a (from_own a p.part) alone))
key_told n key s t u own ys zs Done p q w gap x holds all (begun, size, fits, had, set) low =
    let a = s.agent in
    let whole : w.part ≡ p.part ++ q.part = new_is s t u own ys zs p q w in
    let y = undisturbed_left a p.part q.part gap (rw p.own_is begun) (subst (λ z. IsUndisturbed a z gap) whole x) in
    let is : bucket_of key (size_of n (s.seen ++ gap)) ≡ bucket_of key size = ap (λ z. bucket_of key z) (had gap y) in
    let here : IsRootSet (heap_of n t) (bucket_of key size) = set (subst (λ (b : ℕ). 1 ≤ b) is low) in
    inl (subst (λ (b : ℕ). IsRootSet (heap_of n u) b) (sym is)
    (set_puts n t u ys (bucket_of key size) (subst (λ (b : ℕ). 1 ≤ b) is low) (bucket_low (greatest n) size key fits) holds q all here))
