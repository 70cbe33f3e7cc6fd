-- The moment at which one of a call's own events stood, and what was seen then.
use Rattle.std.proofs.Common.{List, None, Option, Some, [], ap, append-nil, append_assoc, arith, inl, inr, length, refl, subst, sym, ◌++◌, ◌+◌, ◌==◌, ◌∙◌, ◌∷◌, ◌≡◌, ◌≢◌, ◌≤◌}
use Rattle.orc_heap.proofs.Calls.{Puts-stood, Stood, filter-at, part_allowed}
use Rattle.orc_heap.proofs.Moved.{linked_place_later, moved_between, moves_in-append, shown_or_moved}
use Rattle.orc_heap.proofs.OwnParts.{from_own-begun, moves_after_own, moves_from_own-append}
use Rattle.orc_heap.proofs.Stays.{allowed-left, allowed-right}
use Rattle.orc_heap.specs.Acts.{Fits}
use Rattle.orc_heap.specs.Allowed.{AllAllowed}
use Rattle.orc_heap.specs.Calls.{event_of}
use Rattle.orc_heap.specs.Heap.{HeapNumbers, shown}
use Rattle.orc_heap.specs.Journals.{FitsAfter, run_heap}
use Rattle.orc_heap.specs.Moves.{IsLinkedPlace, ShowsOrMoved, from_own, moves_in}
use Rattle.orc_heap.specs.OwnEvents.{Puts}
use Rattle.orc_heap.specs.Seats.{Seat, heap_of}
use Rattle.orc_heap.specs.declared.events.Act.{Act}
use Rattle.orc_heap.specs.declared.events.Act.TheVariants.{Look, Miss}
use Rattle.orc_heap.specs.declared.events.Event.{Event}
use Rattle.orc_heap.specs.declared.events.Link.{Link}
use Rattle.orc_heap.specs.declared.events.Place.{Place}

module _ {N : Type 0} {may : List (Event N) → Event N → Type 0} {s t : Seat N} {own : List (Event N)} {e : Event N} {rest part : List (Event N)}
    (m : Stood may s own e rest part t) where
  -- the event and all after it
  pub since : AllAllowed may (s.seen ++ m.before) (e ∷ m.later)
  since = (m.here, m.last)

  pub seen_is : s.seen ++ part ≡ (s.seen ++ m.before) ++ e ∷ m.later
  seen_is = ap (λ z. s.seen ++ z) m.part_is ∙ sym (append_assoc s.seen m.before (e ∷ m.later))

  -- Moves that stand after it stand in what is new, from the first own event on
  pub moves_later : e.agent ≡ s.agent → (more : List (Event N)) → moves_in m.later + moves_in more ≤ moves_in (from_own s.agent (part ++ more))
  moves_later own_event more =
      let k = moves_after_own s.agent m.before e (m.later ++ more) own_event in
      let is : part ++ more ≡ m.before ++ e ∷ (m.later ++ more) = ap (λ z. z ++ more) m.part_is ∙ append_assoc m.before (e ∷ m.later) more in
      rw is (omega (arith, k, moves_in-append m.later more))

  pub moves_before : moves_in m.before ≤ moves_in part
  moves_before = rw m.part_is (omega (arith, moves_in-append m.before (e ∷ m.later)))

module _ {N : Type 0} (n : HeapNumbers) (may : List (Event N) → Event N → Type 0) (fits : (es : List (Event N)) (e : Event N) → may es e
    → FitsAfter n es e) where
  -- what a Look found, the place still shows, or a Move stands after the Look
  pub look_found : (s t : Seat N) (place : Place) (link : Link) (noted : Option N) (own rest : List (Event N))
      (p : Puts s (own ++ event_of s (Look place link) noted ∷ rest) t)
      → AllAllowed may [] t.seen → IsLinkedPlace place (heap_of n s) → ShowsOrMoved n place link s t p.part
  look_found s t place link noted own rest p all l =
      let e : Event N = event_of s (Look place link) noted in
      let m = Puts-stood may s t own e rest p all in
      let there = linked_place_later n may fits place s.seen m.before l m.first in
      let k = moves_later m refl [] in
      elim (shown_or_moved n may fits place link (s.seen ++ m.before) (e ∷ m.later) there (since m) (fits (s.seen ++ m.before) e m.here)) as
      (λ _. ShowsOrMoved n place link s t p.part) [
        | inl still ↦ inl (subst (λ es. shown (run_heap n es) place ≡ Some link) (sym (p.is ∙ seen_is m)) still)
        | inr some ↦ inr (subst (λ es. 1 ≤ moves_in (from_own s.agent es)) (append-nil p.part) (omega (arith, some, k)))
      ]

  -- two Looks that differ: a Move stands between them
  pub looks_differ : (s t : Seat N) (place : Place) (one two : Link) (p : Puts s (event_of s (Look place one) None ∷ event_of s (Look place two) None ∷ []) t)
      → AllAllowed may [] t.seen → IsLinkedPlace place (heap_of n s) → one ≢ two → 1 ≤ moves_in (from_own s.agent p.part)
  looks_differ s t place one two p all l other =
      let e : Event N = event_of s (Look place one) None in
      let f : Event N = event_of s (Look place two) None in
      let m = Puts-stood may s t [] e (f ∷ []) p all in
      let g = filter-at (λ x. x.agent == s.agent) m.later [] f [] m.own_later in
      let there = linked_place_later n may fits place s.seen m.before l m.first in
      let whole : AllAllowed may (s.seen ++ m.before) ((e ∷ g.before) ++ f ∷ g.later) =
      subst (λ z. AllAllowed may (s.seen ++ m.before) (e ∷ z)) g.is (since m) in
      let left = allowed-left may (s.seen ++ m.before) (e ∷ g.before) (f ∷ g.later) whole in
      let right = allowed-right may (s.seen ++ m.before) (e ∷ g.before) (f ∷ g.later) whole in
      let first = fits (s.seen ++ m.before) e m.here in
      let second = fits ((s.seen ++ m.before) ++ (e ∷ g.before)) f right.0 in
      let some = moved_between n may fits place one two (s.seen ++ m.before) (e ∷ g.before) there left first second other in
      let k = moves_later m refl [] in
      subst (λ es. 1 ≤ moves_in (from_own s.agent es)) (append-nil p.part)
      (omega (arith, some, k, ap (λ z. moves_in z) g.is, moves_in-append g.before (f ∷ g.later)))

  -- a Miss where the place showed the wanted link before: a Move stands in what is new
  pub miss_moved : (s t : Seat N) (place : Place) (wanted found : Link) (own : List (Event N)) (e : Event N) (rest : List (Event N))
      (p : Puts s (own ++ e ∷ rest) t)
      → e.act ≡ Miss place wanted found → AllAllowed may [] t.seen → IsLinkedPlace place (heap_of n s) → found ≢ wanted
      → shown (heap_of n s) place ≡ Some wanted → 1 ≤ moves_in p.part
  miss_moved s t place wanted found own e rest p act_is all l other at =
      let m = Puts-stood may s t own e rest p all in
      let h = run_heap n (s.seen ++ m.before) in
      let here : Fits e.agent (Miss place wanted found) h = subst (λ (a : Act). Fits e.agent a h) act_is (fits (s.seen ++ m.before) e m.here) in
      let some = moved_between n may fits place wanted found s.seen m.before l m.first at here.0 (λ k. other (sym k)) in
      omega (arith, some, moves_before m)

  -- what the place showed, or that a Move stands there, goes on with more of the call
  pub still_puts : (s t u : Seat N) (xs ys : List (Event N)) (p : Puts s xs t) (q : Puts t ys u) → AllAllowed may [] u.seen
      → (place : Place) (link : Link) → 1 ≤ length xs → IsLinkedPlace place (heap_of n t)
      → ShowsOrMoved n place link s t p.part → ShowsOrMoved n place link s u (p.part ++ q.part)
  still_puts s t u xs ys p q all place link some linked (inr moved) = inr (omega (arith, moved, moves_from_own-append s.agent p.part q.part))
  still_puts s t u xs ys p q all place link some linked (inl shows) =
      elim (shown_or_moved n may fits place link t.seen q.part linked (part_allowed may t u ys q all) shows) [
        | inl still ↦ inl (subst (λ es. shown (run_heap n es) place ≡ Some link) (sym q.is) still)
        | inr moved ↦
            let begun = from_own-begun s.agent p.part q.part (rw p.own_is some) in
            inr (rw begun (omega (arith, moved, moves_in-append (from_own s.agent p.part) q.part)))
      ]
