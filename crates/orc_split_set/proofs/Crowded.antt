-- An insert that went past many keys doubled the number of buckets, if nobody disturbed it.
use mathlib.Core.List.{IsPrefix}
use Rattle.std.proofs.Common.{Bool, List, None, Ok, Option, Result, Some, [], ap, append-nil, append_assoc, arith, drop, inl, inr, length, refl, subst, suc, sym, take, true, zero, ℕ, ◌*◌, ◌++◌, ◌<◌, ◌==◌, ◌∙◌, ◌∷◌, ◌≡◌, ◌≢◌, ◌≤◌, ◌^◌, ◌⊎◌}
use Rattle.std.proofs.Math.Bridge.{le_prop}
use Rattle.std.proofs.Math.Logic.{∥∥₁_elim}
use Rattle.std.proofs.Math.Seq.{drop-append_seam}
use Rattle.std.proofs.lemmas.List.{append_cancel_left}
use Rattle.std.proofs.lemmas.List.Elements.{filter-append}
use Rattle.std.specs.List.{list_all}
use native.Mathlib.Nat.{pow-suc}
use Rattle.orc_fault.specs.declared.Spent.{Spent as SpentRow}
use Rattle.orc_heap.proofs.OwnParts.{from_own-others, own_from, own_from_left}
use Rattle.orc_heap.proofs.Stays.{allowed-left, allowed-right}
use Rattle.orc_heap.proofs.Steps.{part_events}
use Rattle.orc_heap.specs.Allowed.{AllAllowed, events_by}
use Rattle.orc_heap.specs.Heap.{HeapNumbers}
use Rattle.orc_heap.specs.Journals.{noted_entries}
use Rattle.orc_heap.specs.Moves.{AllOwn, from_own}
use Rattle.orc_heap.specs.OwnEvents.{Only, Puts}
use Rattle.orc_heap.specs.Seats.{Seat}
use Rattle.orc_heap.specs.declared.events.Event.{Event}
use Rattle.orc_history.specs.Parts.{IsAlone, part_begin}
use Rattle.orc_history.specs.declared.set.ListRefused.{ListRefused}
use Rattle.orc_history.specs.declared.set.SetEntry.{SetEntry}
use Rattle.orc_ordered_search.specs.Inserts.{InsertAnswers, answer_by}
use Rattle.orc_ordered_search.specs.declared.turn.InsertTurn.{InsertTurn}
use Rattle.orc_ordered_search.specs.declared.turn.InsertTurn.TheVariants.{Answered}
use Rattle.orc_ordered_search.proofs.Inserting.{seen_holds, turn_added}
use Rattle.orc_ordered_search.proofs.Parts.{others_alone}
use Rattle.orc_split_rule.proofs.Later.{holds_later, nothing_yet}
use Rattle.orc_split_rule.proofs.Sizes.{size_is_power, size_next}
use Rattle.orc_split_rule.specs.Laws.Kept.{split_keeps}
use Rattle.orc_split_rule.specs.SplitDiscipline.{IsSize, SplitHolds, SplitMay, greatest, set_after, size_of}
use Rattle.orc_split_rule.specs.SplitOrder.{bucket_of}
use Rattle.orc_split_rule.specs.declared.split.SplitNote.{SplitNote}
use Rattle.orc_split_rule.specs.declared.split.SplitNote.TheVariants.{Anchor, Bucket, Entry, Grow, Unlink}
use Rattle.orc_split_set.specs.Crowds.{CountsKeys, SeesOwn, keys_before, keys_between, seat_after}
use Rattle.orc_split_set.specs.Growths.{GrowTells, GrowsAfter, HasGrow, IsCrowded}
use Rattle.orc_split_set.specs.Rootings.{IsUndisturbed, KeyTells, Prepares}
use Rattle.orc_split_set.specs.SplitSearches.{split_reading}
use Rattle.orc_split_set.specs.declared.bucket.Rooted.{Rooted}
use Rattle.orc_split_set.specs.declared.bucket.Rooted.TheVariants.{Done, Moved, NoNode, Spent}
use Rattle.orc_split_set.proofs.Crowding.{own_later, own_seen, own_set, own_sooner, puts_grow}
use Rattle.orc_split_set.proofs.Growing.{grow_left, grow_right}
use Rattle.orc_heap.proofs.Pieces.{goes_on}
use Rattle.orc_split_set.proofs.Ordered.{split_ordering}
use Rattle.orc_split_set.proofs.Preparing.{power_some, undisturbed_left}

-- a power of two below another is at most half of it

twice_low : (i j : ℕ) → 2 ^ j < 2 ^ i → 2 * 2 ^ j ≤ 2 ^ i
twice_low zero j less = absurd (omega (arith, less, power_some j))
twice_low (suc i) zero less = omega (arith, pow-suc 2 i, power_some i)
twice_low (suc i) (suc j) less =
    let one = pow-suc 2 i in
    let two = pow-suc 2 j in
    let k = twice_low i j (omega (arith, less, one, two)) in
    omega (arith, k, one, two)

pub half_is : (a b most : ℕ) → IsSize most a → IsSize 256 b → a < b → 2 * a ≤ b
half_is a b most (low, j, is) (high, i, be) less = omega (arith, is, be, twice_low i j (omega (arith, is, be, less)))

-- a Grow stands among the events, or the number of buckets stays

grow_or_not : (es : List (Event SplitNote)) → HasGrow es ⊎ (HasGrow es → ⊥)
grow_or_not [] = inr (λ bad. bad)
grow_or_not (e ∷ es) = by e.note refl (grow_or_not es)
  where
    other : (e.note ≡ Some Grow → ⊥) → HasGrow es ⊎ (HasGrow es → ⊥) → HasGrow (e ∷ es) ⊎ (HasGrow (e ∷ es) → ⊥)
    other ne (inl later) = inl (inr later)
    other ne (inr none) = inr (λ has. elim has [ inl here ↦ ne here | inr later ↦ none later ])

    by : (note : Option SplitNote) → e.note ≡ note → HasGrow es ⊎ (HasGrow es → ⊥) → HasGrow (e ∷ es) ⊎ (HasGrow (e ∷ es) → ⊥)
    by None is k = other (λ grow. (let bad : ◌≡◌ {A = Option SplitNote} None (Some Grow) = sym is ∙ grow in cc)) k
    by (Some (Entry entry)) is k = other (λ grow. (let bad : ◌≡◌ {A = Option SplitNote} (Some (Entry entry)) (Some Grow) = sym is ∙ grow in cc)) k
    by (Some Unlink) is k = other (λ grow. (let bad : ◌≡◌ {A = Option SplitNote} (Some Unlink) (Some Grow) = sym is ∙ grow in cc)) k
    by (Some Bucket) is k = other (λ grow. (let bad : ◌≡◌ {A = Option SplitNote} (Some Bucket) (Some Grow) = sym is ∙ grow in cc)) k
    by (Some Anchor) is k = other (λ grow. (let bad : ◌≡◌ {A = Option SplitNote} (Some Anchor) (Some Grow) = sym is ∙ grow in cc)) k
    by (Some Grow) is k = inl (inl is)

size_stays : (n : HeapNumbers) (seen more : List (Event SplitNote)) → 1 ≤ greatest n → SplitHolds n seen → AllAllowed (SplitMay n) seen more
    → (HasGrow more → ⊥) → size_of n (seen ++ more) ≡ size_of n seen
size_stays n seen [] some holds all none = ap (λ z. size_of n z) (append-nil seen)
size_stays n seen (e ∷ more) some holds all none =
    let here : size_of n (seen ++ e ∷ []) ≡ size_of n seen = (size_next n seen e some holds all.0).keeps (λ grow. none (inl grow)) in
    ap (λ z. size_of n z) (sym (append_assoc seen (e ∷ []) more))
    ∙ (size_stays n (seen ++ e ∷ []) more some (split_keeps n seen e holds all.0) all.1 (λ later. none (inr later)) ∙ here)

-- of what a pass put that saw only own events
size_kept : (n : HeapNumbers) (s t : Seat SplitNote) (own : List (Event SplitNote)) → 1 ≤ greatest n → Puts s own t → AllAllowed (SplitMay n) [] t.seen
    → SeesOwn s t → (HasGrow own → ⊥) → size_of n t.seen ≡ size_of n s.seen
size_kept n s t own some p all k none =
    let is = own_seen s t own p k in
    let later : AllAllowed (SplitMay n) s.seen own = allowed-right (SplitMay n) [] s.seen own (subst (λ z. AllAllowed (SplitMay n) [] z) is all) in
    ap (λ z. size_of n z) is ∙ size_stays n s.seen own some (seen_holds (split_ordering n) s t own p all) later none

-- from the seat in which a call's part begins: what it did before its turns, in them and after them
pub record Crowd (n : HeapNumbers) (key : ℕ) (s t0 t v u : Seat SplitNote) (turn : InsertTurn) (grown : Rooted) : Type 0 where
  pub before : List (Event SplitNote)
  pub prepared : Puts s before t0
  pub silent : noted_entries (split_reading n).entries_in before ≡ []
  pub turns : List (Event SplitNote)
  pub inserted : Puts t0 turns t
  pub passed : ℕ
  pub turn_is : turn ≡ Answered true passed
  pub counts : CountsKeys n key t0 passed t
  pub after : GrowsAfter n turn t grown v
  pub settled : Puts v [] u

module _ (n : HeapNumbers) (key : ℕ) (s t0 t v u : Seat SplitNote) (turn : InsertTurn) (grown : Rooted) (c : Crowd n key s t0 t v u turn grown)
    (some : 1 ≤ greatest n) (all_t0 : AllAllowed (SplitMay n) [] t0.seen) (all_t : AllAllowed (SplitMay n) [] t.seen)
    (sees : SeesOwn s u) where
  grew_v : IsPrefix v.seen u.seen
  grew_v = puts_grow v u [] c.settled

  grew_t : IsPrefix t.seen v.seen
  grew_t = puts_grow t v c.after.doubles.own c.after.doubles.call.made.puts

  grew_t0 : IsPrefix t0.seen t.seen
  grew_t0 = puts_grow t0 t c.turns c.inserted

  grew_s : IsPrefix s.seen t0.seen
  grew_s = puts_grow s t0 c.before c.prepared

  sees_v : SeesOwn s v
  sees_v = own_sooner s v u (goes_on s.seen t0.seen v.seen grew_s (goes_on t0.seen t.seen v.seen grew_t0 grew_t)) grew_v sees

  sees_t : SeesOwn s t
  sees_t = own_sooner s t v (goes_on s.seen t0.seen t.seen grew_s grew_t0) grew_t sees_v

  sees_t0 : SeesOwn s t0
  sees_t0 = own_sooner s t0 t grew_s grew_t0 sees_t

  own_turns : SeesOwn t0 t
  own_turns = own_later s t0 t grew_s grew_t0 c.prepared.agent sees_t

  own_after : SeesOwn t v
  own_after = own_later s t v (goes_on s.seen t0.seen t.seen grew_s grew_t0) grew_t (c.inserted.agent ∙ c.prepared.agent) sees_v

  own_last : SeesOwn v u
  own_last = own_later s v u (goes_on s.seen t0.seen v.seen grew_s (goes_on t0.seen t.seen v.seen grew_t0 grew_t)) grew_v
      (c.after.doubles.call.made.puts.agent ∙ (c.inserted.agent ∙ c.prepared.agent)) sees

  -- all that is new
  part_is : sees.part ≡ c.before ++ (c.turns ++ c.after.doubles.own)
  part_is =
      let xs = c.before in
      let ys = c.turns in
      let zs = c.after.doubles.own in
      let last : u.seen ≡ v.seen = own_seen v u [] c.settled own_last ∙ append-nil v.seen in
      append_cancel_left s.seen sees.part (xs ++ (ys ++ zs))
      (sym sees.is ∙ (last ∙ (own_seen t v zs c.after.doubles.call.made.puts own_after
      ∙ (ap (λ z. z ++ zs) (own_seen t0 t ys c.inserted own_turns ∙ ap (λ z. z ++ ys) (own_seen s t0 xs c.prepared sees_t0))
      ∙ (append_assoc (s.seen ++ xs) ys zs ∙ append_assoc s.seen xs (ys ++ zs))))))

  told : (result : Rooted) → GrowTells n t c.after.doubles.own result v → 2 * size_of n t.seen ≤ greatest n
      → HasGrow c.after.doubles.own ⊎ ((result ≡ NoNode) ⊎ ((why : SpentRow) × (result ≡ Spent why)))
  told Done tells low = elim (tells own_after) [ inl grows ↦ inl grows | inr many ↦ absurd (omega (arith, many, low)) ]
  told Moved tells low = absurd (tells own_after)
  told NoNode tells low = inr (inl refl)
  told (Spent why) tells low = inr (inr (why, refl))

  pub crowd_grows : 8 < length (keys_before n key s.seen) → 2 * size_of n s.seen ≤ greatest n
      → HasGrow sees.part ⊎ ((grown ≡ NoNode) ⊎ ((why : SpentRow) × (grown ≡ Spent why)))
  crowd_grows many low = elim (grow_or_not c.before) [
    | inl first ↦ inl (subst (λ z. HasGrow z) (sym part_is) (grow_left c.before (c.turns ++ c.after.doubles.own) first))
    | inr none ↦ elim (grow_or_not c.turns) [
      | inl second ↦ inl (subst (λ z. HasGrow z) (sym part_is)
          (grow_right c.before (c.turns ++ c.after.doubles.own) (grow_left c.turns c.after.doubles.own second)))
      | inr nothing ↦
          let same = size_kept n s t0 c.before some c.prepared all_t0 sees_t0 none in
          let again = size_kept n t0 t c.turns some c.inserted all_t own_turns nothing in
          let keys : keys_before n key t0.seen ≡ keys_before n key s.seen = ap (λ (x : ℕ). keys_between (bucket_of key x) key (set_after t0.seen)) same
          ∙ ap (λ (z : List ℕ). keys_between (bucket_of key (size_of n s.seen)) key z) (own_set n s t0 c.before c.prepared c.silent sees_t0) in
          let passed : 8 < c.passed = omega (arith, many, ap (λ (z : List ℕ). length z) keys, c.counts own_turns) in
          let crowded : IsCrowded turn = subst (λ (x : InsertTurn). IsCrowded x) (sym c.turn_is) passed in
          elim (told grown (c.after.doubles.tells crowded) (omega (arith, low, same, again))) [
            | inl grows ↦ inl (subst (λ z. HasGrow z) (sym part_is) (grow_right c.before (c.turns ++ c.after.doubles.own)
                (grow_right c.turns c.after.doubles.own grows)))
            | inr why ↦ inr why
          ]
    ]
  ]

-- what a call that was undisturbed did before its turns: it put its events in the seat in which its part begins
pub begun_puts : (s t : Seat SplitNote) (own gap : List (Event SplitNote)) → (p : Puts s own t) → IsUndisturbed s.agent p.part gap → Puts (seat_after s gap) own t
begun_puts s t own gap p y =
    let a = s.agent in
    record {
      part = y.rest;
      is = p.is ∙ (ap (λ z. s.seen ++ z) y.is ∙ sym (append_assoc s.seen gap y.rest));
      agent = p.agent;
      own_is = ap (λ z. z ++ events_by a y.rest) (sym y.others) ∙ (sym (filter-append (λ e. e.agent == a) gap y.rest)
          ∙ (ap (λ z. events_by a z) (sym y.is) ∙ p.own_is));
    }

-- an insert that added its key, in a call that was undisturbed
module _ (n : HeapNumbers) (key turns : ℕ) (s t0 t v u : Seat SplitNote) (turn : InsertTurn) (grown rooted : Rooted)
    (prepared : Prepares n key turns s rooted t0)
    (entry : Bool → SetEntry) (inserted : InsertAnswers (split_reading n) entry turns t0 (answer_by turn) t)
    (counted : (many : ℕ) → turn ≡ Answered true many → CountsKeys n key t0 many t) (after : GrowsAfter n turn t grown v) (settled : Only [] v u)
    (is : answer_by turn ≡ Ok true) where
  added : (own : List (Event SplitNote)) × Puts t0 own t
  added =
      let (some, own, call) = subst (λ (r : Result Bool ListRefused). InsertAnswers (split_reading n) entry turns t0 r t) is inserted in
      (own, call.made.puts)

  crowd_of : (gap : List (Event SplitNote)) → IsUndisturbed s.agent prepared.call.made.puts.part gap → Crowd n key (seat_after s gap) t0 t v u turn grown
  crowd_of gap y =
      let (own, puts) = added in
      let (passed, turn_is) = turn_added turn is in
      record {
        before = prepared.own;
        prepared = begun_puts s t0 prepared.own gap prepared.call.made.puts y;
        silent = prepared.call.made.entries_are;
        turns = own;
        inserted = puts;
        passed = passed;
        turn_is = turn_is;
        counts = counted passed turn_is;
        after = after;
        settled = settled.puts;
      }

  -- it has a Grow, or its bucket, or the try to double, ended otherwise
  module _ (Lacks : Type 0) (Worn : SpentRow → Type 0) (first : rooted ≡ NoNode → Lacks) (first_worn : (why : SpentRow) → rooted ≡ Spent why → Worn why)
      (last : grown ≡ NoNode → Lacks) (last_worn : (why : SpentRow) → grown ≡ Spent why → Worn why) (gap rest : List (Event SplitNote))
      (x : IsUndisturbed s.agent (prepared.call.made.puts.part ++ rest) gap) (sized : 2 * size_of n (s.seen ++ gap) ≤ greatest n) (some : 1 ≤ greatest n)
      (all_t0 : AllAllowed (SplitMay n) [] t0.seen) (all_t : AllAllowed (SplitMay n) [] t.seen) (sees : SeesOwn (seat_after s gap) u)
      (many : 8 < length (keys_before n key (s.seen ++ gap))) where
    by_root : (result : Rooted) → rooted ≡ result → KeyTells n key s prepared.own prepared.call.made.puts.part result t0
        → HasGrow sees.part ⊎ (Lacks ⊎ ((why : SpentRow) × Worn why))
    by_root NoNode is tells = inr (inl (first is))
    by_root (Spent why) is tells = inr (inr (why, first_worn why is))
    by_root Moved is tells =
        let a = s.agent in
        let p = prepared.call.made.puts in
        let from_is : from_own a (p.part ++ rest) ≡ from_own a x.rest = ap (λ z. from_own a z) x.is ∙ from_own-others a gap x.rest x.others in
        let alone = own_from_left a p.part rest (subst (λ z. AllOwn a z) (sym from_is) (own_from a x.rest x.own)) in
        absurd (omega (arith, tells, others_alone a (from_own a p.part) alone))
    by_root Done is tells =
        let p = prepared.call.made.puts in
        let y = undisturbed_left s.agent p.part rest gap (rw p.own_is tells.0) x in
        elim (crowd_grows n key (seat_after s gap) t0 t v u turn grown (crowd_of gap y) some all_t0 all_t sees many sized) [
          | inl grows ↦ inl grows
          | inr none ↦ elim none [ inl missing ↦ inr (inl (last missing)) | inr spent ↦ inr (inr (spent.0, last_worn spent.0 spent.1)) ]
        ]

-- over the journals of a domain
pub grows_call : {S : Type 0} (n : HeapNumbers) (agent_of : S → ℕ) (events : List S → List (Event SplitNote))
    → ((j : List S) (x : S) → (es : List (Event SplitNote)) × (events (j ++ x ∷ []) ≡ events j ++ es) × (list_all (λ e. e.agent == agent_of x) es ≡ true))
    → (key turns : ℕ) (s t0 t v u : Seat SplitNote) (zs : List (Event SplitNote)) (j m : List S) (turn : InsertTurn) (grown rooted : Rooted)
    → (prepared : Prepares n key turns s rooted t0) → turns ≢ 0
    → (entry : Bool → SetEntry) → InsertAnswers (split_reading n) entry turns t0 (answer_by turn) t
    → ((many : ℕ) → turn ≡ Answered true many → CountsKeys n key t0 many t) → GrowsAfter n turn t grown v → Only [] v u → answer_by turn ≡ Ok true
    → Puts s zs u → IsPrefix j m → s.seen ≡ events j → u.seen ≡ events m → IsPrefix t0.seen u.seen → ∥ IsSize 256 (greatest n) ∥₁ → 1 ≤ greatest n
    → AllAllowed (SplitMay n) [] t0.seen → AllAllowed (SplitMay n) [] t.seen → AllAllowed (SplitMay n) [] u.seen
    → (Lacks : Type 0) (Worn : SpentRow → Type 0) → (rooted ≡ NoNode → Lacks) → ((why : SpentRow) → rooted ≡ Spent why → Worn why)
    → (grown ≡ NoNode → Lacks) → ((why : SpentRow) → grown ≡ Spent why → Worn why)
    → IsAlone agent_of s.agent j m → 8 < length (keys_before n key (events (take (part_begin agent_of s.agent j m) m)))
    → size_of n (events (take (part_begin agent_of s.agent j m) m)) < greatest n
    → HasGrow (drop (length (events (take (part_begin agent_of s.agent j m) m))) (events m)) ⊎ (Lacks ⊎ ((why : SpentRow) × Worn why))
grows_call {S} n agent_of events adds key turns s t0 t v u zs j m turn grown rooted prepared ne entry inserted counted after settled is w grows
    is_s is_u (rest, on) sized some all_t0 all_t all Lacks Worn first first_worn last last_worn alone many low =
    let new : events m ≡ events j ++ w.part = sym is_u ∙ (w.is ∙ ap (λ z. z ++ w.part) is_s) in
    let e = part_events agent_of events adds s.agent j m w.part grows new in
    let begin : events (take (part_begin agent_of s.agent j m) m) ≡ s.seen ++ e.gap = e.begin_events ∙ ap (λ z. z ++ e.gap) (sym is_s) in
    let p = prepared.call.made.puts in
    let part_is : p.part ++ rest ≡ w.part = append_cancel_left s.seen (p.part ++ rest) w.part
    (sym (append_assoc s.seen p.part rest) ∙ (ap (λ z. z ++ rest) (sym p.is) ∙ (on ∙ w.is))) in
    let x : IsUndisturbed s.agent (p.part ++ rest) e.gap = record { rest = e.part; is = part_is ∙ e.is; others = e.others; own = e.alone alone } in
    let whole : u.seen ≡ (s.seen ++ e.gap) ++ e.part = w.is ∙ (ap (λ z. s.seen ++ z) e.is ∙ sym (append_assoc s.seen e.gap e.part)) in
    let sees : SeesOwn (seat_after s e.gap) u = record { part = e.part; is = whole; own = e.alone alone } in
    let before : AllAllowed (SplitMay n) [] (s.seen ++ e.gap) = allowed-left (SplitMay n) [] (s.seen ++ e.gap) e.part
    (subst (λ z. AllAllowed (SplitMay n) [] z) whole all) in
    let fits = size_is_power n (s.seen ++ e.gap) some (holds_later n [] (s.seen ++ e.gap) (nothing_yet n) before) in
    let half : 2 * size_of n (s.seen ++ e.gap) ≤ greatest n = ∥∥₁_elim sized le_prop
    (λ k. half_is (size_of n (s.seen ++ e.gap)) (greatest n) (greatest n) fits k (subst (λ z. size_of n z < greatest n) begin low)) in
    let told = by_root n key turns s t0 t v u turn grown rooted prepared entry inserted counted after settled is Lacks Worn first first_worn last last_worn
    e.gap rest x half some all_t0 all_t sees (subst (λ z. 8 < length (keys_before n key z)) begin many) rooted refl (prepared.tells ne) in
    let seams : drop (length (events (take (part_begin agent_of s.agent j m) m))) (events m) ≡ e.part =
    ap (λ z. drop (length z) (events m)) begin ∙ (ap (λ z. drop (length (s.seen ++ e.gap)) z) (sym is_u ∙ whole) ∙ drop-append_seam (s.seen ++ e.gap) e.part) in
    subst (λ z. HasGrow z ⊎ (Lacks ⊎ ((why : SpentRow) × Worn why))) (sym seams) told
