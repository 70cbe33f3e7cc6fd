-- A question that nobody disturbs makes few loads, and nothing else.
use mathlib.Core.List.{IsPrefix}
use Rattle.std.proofs.Common.{List, [], append-nil, append_assoc, ap, arith, drop, length, refl, subst, suc, sym, take, true, zero, ℕ, ◌*◌, ◌+◌, ◌-◌, ◌++◌, ◌==◌, ◌∙◌, ◌∷◌, ◌≡◌, ◌≢◌, ◌≤◌}
use Rattle.std.proofs.Math.Seq.{drop-append_seam}
use Rattle.std.proofs.lemmas.List.{append_cancel_left}
use Rattle.std.specs.List.{list_all}
use Rattle.orc_heap.proofs.OwnParts.{from_own-others, own_from, own_from_left, quiet_not_alone}
use Rattle.orc_heap.proofs.Steps.{part_events}
use Rattle.orc_heap.specs.Allowed.{AllAllowed, events_by}
use Rattle.orc_heap.specs.Heap.{Heap, HeapNumbers, shown}
use Rattle.orc_heap.specs.Journals.{run_heap}
use Rattle.orc_heap.specs.Moves.{AllOwn, from_own}
use Rattle.orc_heap.specs.OwnEvents.{Only, Puts}
use Rattle.orc_heap.specs.Seats.{Seat, heap_of}
use Rattle.orc_heap.specs.declared.events.Event.{Event}
use Rattle.orc_heap.specs.declared.events.Place.TheVariants.{Root}
use Rattle.orc_history.specs.Parts.{IsAlone, part_begin}
use Rattle.orc_ordered_search.proofs.Alone.{loads_same}
use Rattle.orc_ordered_search.specs.Searches.{FindsMoved}
use Rattle.orc_ordered_search.specs.Ways.{AreLoads}
use Rattle.orc_split_rule.specs.SplitDiscipline.{SplitMay, greatest, size_by, size_of}
use Rattle.orc_split_rule.specs.SplitOrder.{bucket_of, key_place}
use Rattle.orc_split_rule.specs.declared.split.SplitNote.{SplitNote}
use Rattle.orc_split_set.specs.Crowds.{SeesOwn, seat_after}
use Rattle.orc_split_set.specs.Looks.{HasStart, LoadsFew, ReachesIn, bucket_now, root_loads}
use Rattle.orc_split_set.specs.Rootings.{IsUndisturbed, Prepares}
use Rattle.orc_split_set.specs.SplitSearches.{SizeRead, split_reading}
use Rattle.orc_split_set.specs.declared.bucket.Rooted.{Rooted}
use Rattle.orc_split_set.proofs.Crowded.{begun_puts}
use Rattle.orc_split_set.proofs.Crowding.{own_later, own_part, own_seen, own_sooner, puts_grow}
use Rattle.orc_split_set.proofs.Looking.{JoinsLoads, few_heap, few_of, few_trans, join_trans}
use Rattle.orc_heap.proofs.Pieces.{goes_on}
use Rattle.orc_split_set.proofs.Ordered.{split_ordering}
use Rattle.orc_split_set.proofs.Preparing.{size_told, undisturbed_left}

-- what is new, where these events were seen first, and then own ones
undisturbed : (s t u : Seat SplitNote) (own gap : List (Event SplitNote)) → events_by s.agent gap ≡ [] → (p : Puts s own t) → (w : IsPrefix t.seen u.seen)
    → (k : SeesOwn (seat_after s gap) u) → IsUndisturbed s.agent (p.part ++ w.0) gap
undisturbed s t u own gap others p (more, on) k = record {
  rest = k.part;
  is = append_cancel_left s.seen (p.part ++ more) (gap ++ k.part) (sym (append_assoc s.seen p.part more) ∙ (ap (λ z. z ++ more) (sym p.is)
      ∙ (on ∙ (k.is ∙ append_assoc s.seen gap k.part))));
  others = others;
  own = k.own;
}

-- nothing was done
pub none_before : (most : ℕ) (s : Seat SplitNote) (gap : List (Event SplitNote)) → LoadsFew most (seat_after s gap) s
none_before most s gap = λ k.
    let none : gap ++ k.part ≡ [] = append_cancel_left s.seen (gap ++ k.part) [] (sym (append_assoc s.seen gap k.part) ∙ (sym k.is ∙ sym (append-nil s.seen))) in
    let is : k.part ≡ [] = right gap none in
    (subst (λ z. AreLoads z) (sym is) tt, omega (arith, ap (λ z. length z) is))
  where
    right : {A : Type 0} {xs : List A} (gap : List A) → gap ++ xs ≡ [] → xs ≡ []
    right [] e = e
    right (x ∷ gap) e = cc

-- a link moved meanwhile
pub moved_after : (n : HeapNumbers) (s t : Seat SplitNote) (gap : List (Event SplitNote)) → events_by s.agent gap ≡ [] → FindsMoved (split_reading n) s t
    → SeesOwn (seat_after s gap) t → ⊥
moved_after n s t gap others f k =
    let p = f.quiet.puts in
    let x = undisturbed s t t f.own gap others p ([], append-nil t.seen) k in
    let from_is : from_own s.agent (p.part ++ []) ≡ from_own s.agent x.rest = ap (λ z. from_own s.agent z) x.is ∙ from_own-others s.agent gap x.rest x.others in
    let alone = own_from_left s.agent p.part [] (subst (λ z. AllOwn s.agent z) (sym from_is) (own_from s.agent x.rest x.own)) in
    quiet_not_alone s.agent p.part f.own p.own_is f.quiet.no_move f.moved alone

-- the size and the bucket's root are read
pub prepares_few : (n : HeapNumbers) (key size : ℕ) (s t u : Seat SplitNote) (gap : List (Event SplitNote)) → events_by s.agent gap ≡ []
    → (r : SizeRead n size s t) → AllAllowed (SplitMay n) [] t.seen → (w : IsPrefix t.seen u.seen)
    → (HasStart (heap_of n t) (bucket_of key size) → LoadsFew (root_loads (bucket_of key size)) t u)
    → HasStart (run_heap n (s.seen ++ gap)) (bucket_now n key (seat_after s gap))
    → LoadsFew (2 + root_loads (bucket_now n key (seat_after s gap))) (seat_after s gap) u
prepares_few n key size s t u gap others r all w few has = λ k.
    let p = r.quiet.puts in
    let x = undisturbed s t u r.own gap others p w k in
    let y = undisturbed_left s.agent p.part w.0 gap (rw p.own_is r.quiet.some) x in
    let begun = begun_puts s t r.own gap p y in
    let grew = puts_grow (seat_after s gap) t r.own begun in
    let first = own_sooner (seat_after s gap) t u grew w k in
    let heap : heap_of n t ≡ run_heap n (s.seen ++ gap) = ap (λ z. run_heap n z) (own_seen (seat_after s gap) t r.own begun first)
    ∙ loads_same (split_ordering n) (s.seen ++ gap) r.own r.quiet.loads in
    let read : size_of n (s.seen ++ gap) ≡ size = size_told n size s t t [] r.own r
    (record { part = []; is = sym (append-nil t.seen); agent = refl; own_is = refl }) p all gap y in
    let there = subst (λ (h : Heap). HasStart h (bucket_of key size)) (sym heap)
    (subst (λ (x : ℕ). HasStart (run_heap n (s.seen ++ gap)) (bucket_of key x)) read has) in
    let later = subst (λ (x : ℕ). LoadsFew (root_loads (bucket_of key x)) t u) (sym read) (few there) in
    let b = root_loads (bucket_now n key (seat_after s gap)) in
    few_trans 2 b (2 + b) (seat_after s gap) t u grew w begun.agent (omega arith) (few_of 2 (seat_after s gap) t r.own begun r.quiet.loads r.few) later k

root_low : (bucket : ℕ) → root_loads bucket ≤ 2
root_low zero = omega arith
root_low (suc bucket) = omega arith

-- the size that a heap shows
abbrev size_in : HeapNumbers → Heap → ℕ
size_in n h = size_by h (shown h (Root (greatest n)))

-- nothing was put
none_put : (t u : Seat SplitNote) (p : Puts t [] u) → SeesOwn t u → p.part ≡ []
none_put t u p k = (own_part t u [] p k).1

-- over the journals of a domain
pub looks_call : {S : Type 0} (n : HeapNumbers) (agent_of : S → ℕ) (events : List S → List (Event SplitNote))
    → ((j : List S) (x : S) → (es : List (Event SplitNote)) × (events (j ++ x ∷ []) ≡ events j ++ es) × (list_all (λ e. e.agent == agent_of x) es ≡ true))
    → (Few : List (Event SplitNote) → ℕ → Type 0) → JoinsLoads Few → (more key turns : ℕ) (s t0 t u : Seat SplitNote) (zs : List (Event SplitNote)) (j m : List S) (rooted : Rooted) (prepared : Prepares n key turns s rooted t0)
    → turns ≢ 0
    → ((gap : List (Event SplitNote)) → events_by s.agent gap ≡ [] → HasStart (run_heap n (s.seen ++ gap)) (bucket_now n key (seat_after s gap))
    → LoadsFew (2 + root_loads (bucket_now n key (seat_after s gap))) (seat_after s gap) t0)
    → (HasStart (heap_of n t0) (bucket_now n key t0) → (many : ℕ) → ReachesIn (heap_of n t0) (bucket_now n key t0) (key_place key) many
    → (k : SeesOwn t0 t) → Few k.part (6 + more + 4 * many - root_loads (bucket_now n key t0)))
    → IsPrefix t0.seen t.seen → t.agent ≡ s.agent → Only [] t u → Puts s zs u → IsPrefix j m → s.seen ≡ events j → u.seen ≡ events m
    → IsPrefix t0.seen u.seen → IsAlone agent_of s.agent j m
    → HasStart (run_heap n (events (take (part_begin agent_of s.agent j m) m))) (bucket_of key (size_of n (events (take (part_begin agent_of s.agent j m) m))))
    → (many : ℕ) → ReachesIn (run_heap n (events (take (part_begin agent_of s.agent j m) m)))
    (bucket_of key (size_of n (events (take (part_begin agent_of s.agent j m) m)))) (key_place key) many
    → Few (drop (length (events (take (part_begin agent_of s.agent j m) m))) (events m)) (8 + more + 4 * many)
looks_call {S} n agent_of events adds Few join more key turns s t0 t u zs j m rooted prepared ne few asks later same settled w grows is_s is_u (rest, on) alone has many r =
    let new : events m ≡ events j ++ w.part = sym is_u ∙ (w.is ∙ ap (λ z. z ++ w.part) is_s) in
    let e = part_events agent_of events adds s.agent j m w.part grows new in
    let begin : events (take (part_begin agent_of s.agent j m) m) ≡ s.seen ++ e.gap = e.begin_events ∙ ap (λ z. z ++ e.gap) (sym is_s) in
    let p = prepared.call.made.puts in
    let whole : u.seen ≡ (s.seen ++ e.gap) ++ e.part = w.is ∙ (ap (λ z. s.seen ++ z) e.is ∙ sym (append_assoc s.seen e.gap e.part)) in
    let first : Seat SplitNote = seat_after s e.gap in
    let sees : SeesOwn first u = record { part = e.part; is = whole; own = e.alone alone } in
    let x = undisturbed s t0 u prepared.own e.gap e.others p (rest, on) sees in
    let y = undisturbed_left s.agent p.part rest e.gap (rw p.own_is (prepared.begun ne)) x in
    let begun = begun_puts s t0 prepared.own e.gap p y in
    let grew = puts_grow first t0 prepared.own begun in
    let sees0 = own_sooner first t0 u grew (rest, on) sees in
    let there = subst (λ z. HasStart (run_heap n z) (bucket_of key (size_of n z))) begin has in
    let reach = subst (λ z. ReachesIn (run_heap n z) (bucket_of key (size_of n z)) (key_place key) many) begin r in
    let one = few e.gap e.others there in
    let heap : heap_of n t0 ≡ run_heap n (s.seen ++ e.gap) = few_heap n (2 + root_loads (bucket_now n key first)) first t0 one sees0 in
    let two = asks (subst (λ (h : Heap). HasStart h (bucket_of key (size_in n h))) (sym heap) there) many
    (subst (λ (h : Heap). ReachesIn h (bucket_of key (size_in n h)) (key_place key) many) (sym heap) reach) in
    let loads : root_loads (bucket_now n key t0) ≡ root_loads (bucket_now n key first) = ap (λ (h : Heap). root_loads (bucket_of key (size_in n h))) heap in
    let low = root_low (bucket_now n key first) in
    let both = join_trans Few join (2 + root_loads (bucket_now n key first)) (6 + more + 4 * many - root_loads (bucket_now n key t0)) (8 + more + 4 * many)
    first t0 t grew later begun.agent (omega (arith, loads, low)) one two in
    let still : (k : SeesOwn first t) → SeesOwn first u → t.seen ≡ u.seen = λ k l. sym (settled.puts.is ∙ (ap (λ z. t.seen ++ z) (none_put t u settled.puts
    (own_later first t u (goes_on first.seen t0.seen t.seen grew later) (puts_grow t u [] settled.puts) same l)) ∙ append-nil t.seen)) in
    let sees_t = own_sooner first t u (goes_on first.seen t0.seen t.seen grew later) (puts_grow t u [] settled.puts) sees in
    let part_t : sees_t.part ≡ e.part = append_cancel_left first.seen sees_t.part e.part (sym sees_t.is ∙ (still sees_t sees ∙ whole)) in
    let all = subst (λ z. Few z (8 + more + 4 * many)) part_t (both sees_t) in
    let seams : drop (length (events (take (part_begin agent_of s.agent j m) m))) (events m) ≡ e.part =
    ap (λ z. drop (length z) (events m)) begin ∙ (ap (λ z. drop (length (s.seen ++ e.gap)) z) (sym is_u ∙ whole) ∙ drop-append_seam (s.seen ++ e.gap) e.part) in
    subst (λ z. Few z (8 + more + 4 * many)) (sym seams) all
