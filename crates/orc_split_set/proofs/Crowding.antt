-- What a call tells whose pass saw only its own events.
use Rattle.std.proofs.Common.{List, None, Option, Some, [], ap, append-nil, append_assoc, arith, length, refl, subst, suc, sym, true, zero, ℕ, ◌++◌, ◌==◌, ◌∙◌, ◌∷◌, ◌≡◌, ◌≤◌}
use Rattle.std.specs.Prelude.{min}
use Rattle.orc_heap.proofs.Calls.{part_allowed}
use Rattle.orc_heap.proofs.Moved.{shown_still}
use Rattle.std.specs.List.{list_all}
use Rattle.std.proofs.lemmas.List.{append_cancel_left}
use mathlib.Core.List.{IsPrefix}
use Rattle.orc_heap.proofs.OwnEntries.{noted-append}
use Rattle.orc_heap.proofs.OwnParts.{own_from, own_is_all, own_left, own_right, quiet_not_alone}
use Rattle.orc_heap.proofs.Steps.{events_grow}
use Rattle.orc_heap.specs.Allowed.{AllAllowed}
use Rattle.orc_heap.specs.Heap.{Heap, HeapNumbers, shown}
use Rattle.orc_heap.specs.Journals.{noted_entries, run_heap}
use Rattle.orc_heap.specs.Moves.{AllOwn, from_own, moves_in}
use Rattle.orc_heap.specs.OwnEvents.{Puts}
use Rattle.orc_heap.specs.Seats.{Seat, heap_of}
use Rattle.orc_heap.specs.declared.events.Event.{Event}
use Rattle.orc_heap.specs.Slots.{Hold}
use Rattle.orc_heap.specs.declared.events.Place.{Place}
use Rattle.orc_heap.specs.declared.events.Place.TheVariants.{Root}
use Rattle.orc_history.specs.SetHistory.{keys_after}
use Rattle.orc_ordered_search.proofs.Alone.{IsAlone, alone_shows, loads_same}
use Rattle.orc_ordered_chains.specs.Chains.{IsAbove}
use Rattle.orc_ordered_search.specs.Searches.{FindsAbsent, FindsMoved, Quiet, ends_looks, node_of}
use Rattle.orc_ordered_search.specs.Turns.{AreOver}
use Rattle.orc_ordered_search.specs.Ways.{IsPast}
use Rattle.orc_split_rule.proofs.Later.{may_fits}
use Rattle.orc_split_rule.specs.SplitDiscipline.{SplitHolds, SplitMay, entries_of, greatest, set_after, size_by, size_of}
use Rattle.orc_split_rule.specs.SplitOrder.{bucket_of, key_place, split_order}
use Rattle.orc_split_rule.specs.declared.split.SplitNote.{SplitNote}
use Rattle.orc_split_set.specs.Crowds.{BeginsBy, CountsFrom, CountsKeys, SeesOwn, keys_before, keys_between}
use Rattle.orc_split_set.specs.SplitSearches.{SizeRead, split_reading}
use Rattle.orc_split_set.proofs.Counting.{counts_between}
use Rattle.orc_split_set.proofs.Ordered.{split_ordering}

-- what a pass has seen goes on with its journal
pub seen_grows : {S : Type 0} (events : List S → List (Event SplitNote)) (agent_of : S → ℕ)
    → ((j : List S) (x : S) → (es : List (Event SplitNote)) × (events (j ++ x ∷ []) ≡ events j ++ es) × (list_all (λ e. e.agent == agent_of x) es ≡ true))
    → (j k : List S) (s t : Seat SplitNote) → IsPrefix j k → s.seen ≡ events j → t.seen ≡ events k → IsPrefix s.seen t.seen
seen_grows events agent_of adds j k s t (more, is) is_s is_t =
    let (es, grows) = events_grow agent_of events adds j more in
    (es, ap (λ z. z ++ es) is_s ∙ (grows ∙ (ap events is ∙ sym is_t)))

-- in pieces

pub puts_grow : (s t : Seat SplitNote) (own : List (Event SplitNote)) → Puts s own t → IsPrefix s.seen t.seen
puts_grow s t own p = (p.part, sym p.is)

pub own_sooner : (s t u : Seat SplitNote) → IsPrefix s.seen t.seen → IsPrefix t.seen u.seen → SeesOwn s u → SeesOwn s t
own_sooner s t u (part, one) (more, is) k =
    let whole : part ++ more ≡ k.part = append_cancel_left s.seen (part ++ more) k.part
    (sym (append_assoc s.seen part more) ∙ (ap (λ z. z ++ more) one ∙ (is ∙ k.is))) in
    record { part = part; is = sym one; own = own_left s.agent part more (subst (λ z. AllOwn s.agent z) (sym whole) k.own) }

pub own_later : (s t u : Seat SplitNote) → IsPrefix s.seen t.seen → IsPrefix t.seen u.seen → t.agent ≡ s.agent → SeesOwn s u → SeesOwn t u
own_later s t u (part, one) (more, is) same k =
    let whole : part ++ more ≡ k.part = append_cancel_left s.seen (part ++ more) k.part
    (sym (append_assoc s.seen part more) ∙ (ap (λ z. z ++ more) one ∙ (is ∙ k.is))) in
    let here : AllOwn s.agent more = own_right s.agent part more (subst (λ z. AllOwn s.agent z) (sym whole) k.own) in
    record { part = more; is = sym is; own = subst (λ (a : ℕ). AllOwn a more) (sym same) here }

-- what is new is what the pass put
pub own_part : (s t : Seat SplitNote) (own : List (Event SplitNote)) → (p : Puts s own t) → SeesOwn s t → AllOwn s.agent p.part × (p.part ≡ own)
own_part s t own p k =
    let same : p.part ≡ k.part = append_cancel_left s.seen p.part k.part (sym p.is ∙ k.is) in
    let all : AllOwn s.agent p.part = subst (λ z. AllOwn s.agent z) (sym same) k.own in
    (all, sym (own_is_all s.agent p.part all) ∙ p.own_is)

pub own_seen : (s t : Seat SplitNote) (own : List (Event SplitNote)) → Puts s own t → SeesOwn s t → t.seen ≡ s.seen ++ own
own_seen s t own p k = p.is ∙ ap (λ z. s.seen ++ z) (own_part s t own p k).1

-- a link didn't move meanwhile
pub own_unmoved : (s t : Seat SplitNote) (own : List (Event SplitNote)) → (p : Puts s own t) → moves_in own ≡ 0 → 1 ≤ moves_in (from_own s.agent p.part)
    → SeesOwn s t → ⊥
own_unmoved s t own p none moved k =
    quiet_not_alone s.agent p.part own p.own_is none moved (own_from s.agent p.part (own_part s t own p k).0)

pub own_not_moved : (n : HeapNumbers) (s t : Seat SplitNote) → FindsMoved (split_reading n) s t → SeesOwn s t → ⊥
own_not_moved n s t f k = own_unmoved s t f.own f.quiet.puts f.quiet.no_move f.moved k

-- the set is as it was, where nothing was entered
pub own_set : (n : HeapNumbers) (s t : Seat SplitNote) (own : List (Event SplitNote)) → Puts s own t → noted_entries (split_reading n).entries_in own ≡ []
    → SeesOwn s t → set_after t.seen ≡ set_after s.seen
own_set n s t own p none k =
    let same : entries_of t.seen ≡ entries_of s.seen =
    ap (λ z. entries_of z) (own_seen s t own p k) ∙ (noted-append (split_reading n).entries_in s.seen own
    ∙ (ap (λ z. entries_of s.seen ++ z) none ∙ append-nil (entries_of s.seen))) in
    ap (λ z. keys_after [] z) same

-- and the heap, where the pass made only loads
pub own_heap : (n : HeapNumbers) (s t : Seat SplitNote) (own : List (Event SplitNote)) → Quiet (split_reading n) s own t → SeesOwn s t
    → heap_of n t ≡ heap_of n s
own_heap n s t own q k = ap (λ z. run_heap n z) (own_seen s t own q.puts k) ∙ loads_same (split_ordering n) s.seen own q.loads

pub own_size : (n : HeapNumbers) (s t : Seat SplitNote) (own : List (Event SplitNote)) → Quiet (split_reading n) s own t → SeesOwn s t
    → size_of n t.seen ≡ size_of n s.seen
own_size n s t own q k = ap (λ (h : Heap). size_by h (shown h (Root (greatest n)))) (own_heap n s t own q k)

-- a root shows what it showed, where the pass moved nothing
pub own_shows : (n : HeapNumbers) (s t : Seat SplitNote) (own : List (Event SplitNote)) (root : ℕ) → Puts s own t → AllAllowed (SplitMay n) [] t.seen
    → moves_in own ≡ 0 → SeesOwn s t → shown (heap_of n t) (Root root) ≡ shown (heap_of n s) (Root root)
own_shows n s t own root p all none k =
    let still = shown_still n (SplitMay n) (may_fits n) (Root root) s.seen p.part tt (part_allowed (SplitMay n) s t own p all)
    (ap (λ z. moves_in z) (own_part s t own p k).1 ∙ none) in
    ap (λ z. shown (run_heap n z) (Root root)) p.is ∙ still

-- so the size that was read was there before
pub own_read : (n : HeapNumbers) (size : ℕ) (s t : Seat SplitNote) → SizeRead n size s t → SeesOwn s t → size ≡ size_of n s.seen
own_read n size s t r k = omega (arith, r.was.0, r.was.1, own_size n s t r.own r.quiet k)

-- what a search found was there
pub own_alone : (n : HeapNumbers) (s t : Seat SplitNote) (own : List (Event SplitNote)) → Quiet (split_reading n) s own t → AllAllowed (SplitMay n) [] t.seen
    → SeesOwn s t → IsAlone (split_ordering n) s own t
own_alone n s t own q all k = alone_shows (split_ordering n) s t own q all (own_from s.agent q.puts.part (own_part s t own q.puts k).0)

-- turns that are over: there were none
pub own_no_turns : (n : HeapNumbers) (given turns : ℕ) (s t : Seat SplitNote) (own : List (Event SplitNote)) → AreOver (split_reading n) given turns s own t
    → SeesOwn s t → t.seen ≡ s.seen
own_no_turns n given zero s t own o k =
    own_seen s t own o.made.puts k ∙ (ap (λ z. s.seen ++ z) (o.none refl) ∙ append-nil s.seen)
own_no_turns n given (suc turns) s t own o k = absurd (own_unmoved s t own o.made.puts o.no_move (omega (arith, o.moved)) k)

-- the keys that a search counted which found the key absent

past_above : (h : Heap) (to : Option ℕ) (wanted : ℕ) → IsAbove split_order h to wanted → IsPast split_order h wanted to
past_above h None wanted a = tt
past_above h (Some id) wanted (high, own, less) = (high, own, omega (arith, less))

pub absent_counts : (n : HeapNumbers) (start : Place) (bucket key passed : ℕ) (left first right : Option Hold) (s t u : Seat SplitNote)
    → (f : FindsAbsent (split_reading n) start (key_place key) passed left first right s t) → SplitHolds n t.seen → AllAllowed (SplitMay n) [] t.seen
    → BeginsBy (heap_of n s) start bucket → IsPrefix t.seen u.seen → CountsFrom bucket key s passed u
absent_counts n start bucket key passed left first right s t u f holds all by grows = λ sees.
    let q = f.behind.quiet in
    let k = own_sooner s t u (puts_grow s t f.own q.puts) grows sees in
    let counted = counts_between n start bucket key passed (ends_looks right) (node_of right f.right_id) s t f.own holds f.visits
    (own_alone n s t f.own q all k) (past_above (heap_of n t) (node_of right f.right_id) (key_place key) f.above)
    (subst (λ (h : Heap). BeginsBy h start bucket) (sym (own_heap n s t f.own q k)) by) in
    subst (λ (z : List ℕ). min (length (keys_between bucket key z)) 9 ≤ passed) (own_set n s t f.own q.puts q.no_entries k) counted

-- a turn whose search began by the key's bucket
pub turn_counts : (n : HeapNumbers) (key many : ℕ) (s t u : Seat SplitNote) (own : List (Event SplitNote)) (bucket : ℕ) → Quiet (split_reading n) s own t
    → IsPrefix t.seen u.seen → (SeesOwn s t → bucket ≡ bucket_of key (size_of n s.seen)) → (SeesOwn s t → CountsFrom bucket key t many u)
    → CountsKeys n key s many u
turn_counts n key many s t u own bucket q grows same counts = λ sees.
    let grew = puts_grow s t own q.puts in
    let k = own_sooner s t u grew grows sees in
    let counted = counts k (own_later s t u grew grows q.puts.agent sees) in
    subst (λ (z : List ℕ). min (length (keys_between (bucket_of key (size_of n s.seen)) key z)) 9 ≤ many) (own_set n s t own q.puts q.no_entries k)
    (subst (λ (b : ℕ). min (length (keys_between b key (set_after t.seen))) 9 ≤ many) (same k) counted)

-- after turns that are over
pub turns_count : (n : HeapNumbers) (key many given turns : ℕ) (s t u : Seat SplitNote) (own : List (Event SplitNote))
    → AreOver (split_reading n) given turns s own t → IsPrefix t.seen u.seen → CountsKeys n key t many u → CountsKeys n key s many u
turns_count n key many given turns s t u own o grows counts = λ sees.
    let grew = puts_grow s t own o.made.puts in
    let counted = counts (own_later s t u grew grows o.made.puts.agent sees) in
    subst (λ z. min (length (keys_before n key z)) 9 ≤ many) (own_no_turns n given turns s t own o (own_sooner s t u grew grows sees)) counted
