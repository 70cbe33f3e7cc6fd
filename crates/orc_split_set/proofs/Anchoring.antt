-- Roots of buckets: what names a dummy goes on to do so, and a swing from null makes a root name one.
use Rattle.std.proofs.Common.{Bool, List, None, Option, Some, [], ap, append_assoc, arith, false, refl, subst, sym, true, ℕ, ◌++◌, ◌<◌, ◌∙◌, ◌∷◌, ◌≡◌, ◌≢◌, ◌≤◌}
use Rattle.std.specs.List.{slice_get}
use Rattle.orc_heap.proofs.ByAnswer.{Swings-fresh, Swings-missed, Swings-moved}
use Rattle.orc_heap.proofs.Calls.{Puts-stood, part_allowed}
use Rattle.orc_heap.proofs.Pieces.{linked_not_fresh, missed_fresh, unless_other}
use Rattle.orc_heap.proofs.Runs.{run_heap-snoc}
use Rattle.orc_heap.proofs.SingleActs.{some_same}
use Rattle.orc_heap.proofs.Stays.{stays}
use Rattle.orc_heap.specs.Acts.{Fits, heap_after}
use Rattle.orc_heap.specs.Allowed.{AllAllowed}
use Rattle.orc_heap.specs.Calls.{Swings, event_of, move_of, unless_node}
use Rattle.orc_heap.specs.Heap.{Heap, HeapNumbers, link_to, null, shown}
use Rattle.orc_heap.specs.Journals.{run_heap}
use Rattle.orc_heap.specs.OwnEvents.{Puts}
use Rattle.orc_heap.specs.Seats.{Seat, heap_of, link_in, place_in}
use Rattle.orc_heap.specs.declared.events.Act.{Act}
use Rattle.orc_heap.specs.declared.events.Act.TheVariants.{Look, Miss, Move}
use Rattle.orc_heap.specs.declared.events.Event.{Event}
use Rattle.orc_heap.specs.declared.events.Link.{Link}
use Rattle.orc_heap.specs.declared.events.Place.{Place}
use Rattle.orc_heap.specs.declared.events.Place.TheVariants.{Next, Root}
use Rattle.orc_heap.specs.declared.holds.At.{At}
use Rattle.orc_heap.specs.declared.holds.Want.{Want}
use Rattle.orc_ordered_chains.proofs.Acts.{act_unmoved, chain_place_linked, move_links, move_moves}
use Rattle.orc_ordered_chains.proofs.Paths.{leads_same, place_on_chain}
use Rattle.orc_ordered_chains.specs.Chains.{IsChainPlace, LeadsTo, MayLink}
use Rattle.orc_ordered_search.specs.Entries.{node_to_link}
use Rattle.orc_ordered_search.proofs.Held.{FreshIs}
use Rattle.orc_ordered_search.proofs.Quiets.{silent_one}
use Rattle.orc_split_rule.proofs.Later.{fresh_later, holds_later, values_later}
use Rattle.orc_split_rule.specs.Laws.Kept.{split_keeps}
use Rattle.orc_split_rule.specs.Laws.Kinds.{each_kind}
use Rattle.orc_split_rule.specs.Laws.Values.{root_apart, value_linked, value_new}
use Rattle.orc_split_rule.specs.SplitDiscipline.{IsDummy, SplitHolds, SplitMay, greatest, set_after}
use Rattle.orc_split_rule.specs.SplitOrder.{dummy_place, key_place, split_order}
use Rattle.orc_split_rule.specs.declared.split.SplitNote.{SplitNote}
use Rattle.orc_split_rule.specs.declared.split.SplitNote.TheVariants.{Anchor, Bucket}
use Rattle.orc_split_set.specs.Rootings.{Anchors, IsRootSet}
use Rattle.orc_split_set.specs.declared.bucket.Rooted.TheVariants.{Done}
use Rattle.orc_split_set.proofs.Ordered.{split_ordering}

-- where the root of a bucket names a node, it goes on to name it

root_next : (n : HeapNumbers) (es : List (Event SplitNote)) (e : Event SplitNote) (bucket id : ℕ) → 1 ≤ bucket → bucket < greatest n → SplitHolds n es
    → SplitMay n es e → LeadsTo (run_heap n es) (Root bucket) (Some id) → LeadsTo (heap_after e.agent e.act (run_heap n es)) (Root bucket) (Some id)
root_next n es e bucket id low high holds may leads =
    let h : Heap = run_heap n es in
    let most : ℕ = greatest n in
    let after : Act → Heap = λ act. heap_after e.agent act h in
    let goes : Act → Type 0 = λ act. LeadsTo (after act) (Root bucket) (Some id) in
    let elsewhere : (p : Place) (from to : Link) → Fits e.agent (Move p from to) h → Root bucket ≢ p → goes (Move p from to)
    = λ p from to fits ne. leads_same h (after (Move p from to)) (Root bucket) (Some id) ((move_moves e.agent p from to h fits).others (Root bucket) ne) leads in
    let at_chain : (p : Place) (from to : Link) → Fits e.agent (Move p from to) h → IsChainPlace split_order h p → goes (Move p from to)
    = λ p from to fits on. elsewhere p from to fits (root_apart h bucket p low on) in
    let linked : (p : Place) (from to : Link) (rank : ℕ) → MayLink split_order h p from to rank → IsChainPlace split_order h p
    = λ p from to rank a. place_on_chain split_order h holds.chains rank p a.on_chain in
    each_kind most h (set_after es) (λ act noted. Fits e.agent act h → goes act)
    (λ act plain fits. leads_same h (after act) (Root bucket) (Some id) ((act_unmoved e.agent act h fits plain).shows (Root bucket) tt) leads)
    (λ p from to by key a fits. at_chain p from to fits (linked p from to (key_place key) a.links))
    (λ d from to by key r fits. elsewhere (Next d) from to fits (λ same. cc))
    (λ p from to u fits. at_chain p from to fits u.linked)
    (λ p from to b fits. at_chain p from to fits (linked p from to (dummy_place b.bucket) b.links))
    (λ root from to a fits. elsewhere (Root root) from to fits (λ same.
    let one : shown h (Root bucket) ≡ Some from = subst (λ (q : Place). shown h q ≡ Some from) (sym same) fits.0 in
    let is : leads.link ≡ from = some_same (sym leads.at ∙ one) in
    let bad : None ≡ Some id = sym (ap (λ (l : Link). l.to) (is ∙ a.from_is)) ∙ leads.to_is in
    cc))
    (λ from to g fits. elsewhere (Root most) from to fits (λ same. (let is : bucket ≡ most = cc in omega (arith, high, is))))
    (λ p link entry t fits. leads_same h (after (Look p link)) (Root bucket) (Some id) refl leads)
    e.act e.note may.may_act may.fits

pub root_later : (n : HeapNumbers) (seen more : List (Event SplitNote)) (bucket id : ℕ) → 1 ≤ bucket → bucket < greatest n → SplitHolds n seen
    → AllAllowed (SplitMay n) seen more → LeadsTo (run_heap n seen) (Root bucket) (Some id) → LeadsTo (run_heap n (seen ++ more)) (Root bucket) (Some id)
root_later n seen more bucket id low high holds all leads =
    (stays (SplitMay n) (λ es. SplitHolds n es × LeadsTo (run_heap n es) (Root bucket) (Some id))
    (λ es e x may. (
      split_keeps n es e x.0 may,
      subst (λ (h : Heap). LeadsTo h (Root bucket) (Some id)) (sym (run_heap-snoc n es e)) (root_next n es e bucket id low high x.0 may x.1),
    ))
    seen more (holds, leads) all).1

pub set_later : (n : HeapNumbers) (seen more : List (Event SplitNote)) (bucket : ℕ) → 1 ≤ bucket → bucket < greatest n → SplitHolds n seen
    → AllAllowed (SplitMay n) seen more → IsRootSet (run_heap n seen) bucket → IsRootSet (run_heap n (seen ++ more)) bucket
set_later n seen more bucket low high holds all (id, leads) = (id, root_later n seen more bucket id low high holds all leads)

-- over what a pass has newly seen
pub set_puts : (n : HeapNumbers) (s t : Seat SplitNote) (own : List (Event SplitNote)) (bucket : ℕ) → 1 ≤ bucket → bucket < greatest n → SplitHolds n s.seen
    → Puts s own t → AllAllowed (SplitMay n) [] t.seen → IsRootSet (heap_of n s) bucket → IsRootSet (heap_of n t) bucket
set_puts n s t own bucket low high holds p all set =
    subst (λ es. IsRootSet (run_heap n es) bucket) (sym p.is) (set_later n s.seen p.part bucket low high holds (part_allowed (SplitMay n) s t own p all) set)

-- a swing of a bucket's root from null to its dummy

module _ (n : HeapNumbers) (bucket : ℕ) (s t : Seat SplitNote) (id : ℕ) (low : 1 ≤ bucket) (high : bucket < greatest n) (holds : SplitHolds n s.seen)
    (all : AllAllowed (SplitMay n) [] t.seen) (dummy : IsDummy (heap_of n s) id bucket) (fresh : FreshIs (split_ordering n) s) where
  set_by_move : Puts s (event_of s (Move (Root bucket) null (link_to id)) (Some Anchor) ∷ []) t → IsRootSet (heap_of n t) bucket
  set_by_move p =
      let e : Event SplitNote = event_of s (Move (Root bucket) null (link_to id)) (Some Anchor) in
      let m = Puts-stood (SplitMay n) s t [] e [] p all in
      let es : List (Event SplitNote) = s.seen ++ m.before in
      let now = holds_later n s.seen m.before holds m.first in
      let moved = move_moves s.agent (Root bucket) null (link_to id) (run_heap n es) m.here.fits in
      let leads : LeadsTo (heap_after s.agent e.act (run_heap n es)) (Root bucket) (Some id) = record { link = link_to id; at = moved.moved; to_is = refl } in
      let next : LeadsTo (run_heap n (es ++ e ∷ [])) (Root bucket) (Some id) = subst (λ (h : Heap). LeadsTo h (Root bucket) (Some id)) (sym (run_heap-snoc n es e)) leads in
      subst (λ z. IsRootSet (run_heap n z) bucket) (sym m.is)
      (set_later n (es ++ e ∷ []) m.later bucket low high (split_keeps n es e now m.here) m.last (id, next))

  set_by_miss : (found : Link) → found ≢ null → Puts s (event_of s (Miss (Root bucket) null found) None ∷ []) t → IsRootSet (heap_of n t) bucket
  set_by_miss found other p =
      let e : Event SplitNote = event_of s (Miss (Root bucket) null found) None in
      let m = Puts-stood (SplitMay n) s t [] e [] p all in
      let es : List (Event SplitNote) = s.seen ++ m.before in
      let now = holds_later n s.seen m.before holds m.first in
      let at : shown (run_heap n es) (Root bucket) ≡ Some found = m.here.fits.0 in
      let plain = now.buckets.plain_roots bucket found at in
      let set : IsRootSet (run_heap n es) bucket = by_target es found.to refl at plain in
      subst (λ z. IsRootSet (run_heap n z) bucket) (sym m.is)
      (subst (λ z. IsRootSet (run_heap n z) bucket) (sym (append_assoc es (e ∷ []) m.later)) (set_later n es (e ∷ m.later) bucket low high now (m.here, m.last) set))
    where
      by_target : (es : List (Event SplitNote)) (to : Option ℕ) → found.to ≡ to → shown (run_heap n es) (Root bucket) ≡ Some found → found.mark ≡ false
          → IsRootSet (run_heap n es) bucket
      by_target es None is at plain = absurd (other (rw (is, plain) refl))
      by_target es (Some x) is at plain = (x, record { link = found; at = at; to_is = is })

  pub anchors : (at : At) (from to : Want) (done : Bool) → place_in s.slots at ≡ Root bucket → link_in s.slots from ≡ null
      → link_in s.slots to ≡ link_to id → Swings at from to (Some Anchor) s done t → Anchors n bucket s Done t
  anchors at from to true at_is from_is to_is w =
      let e : Event SplitNote = event_of s (Move (Root bucket) null (link_to id)) (Some Anchor) in
      let p : Puts s (e ∷ []) t = subst (λ (x : Event SplitNote). Puts s (x ∷ []) t) (event_is at_is from_is to_is) (Swings-moved w refl) in
      record {
        tried = record {
          own = e ∷ [];
          puts = p;
          no_entries = refl;
          no_give = refl;
          slots = w.slots;
          fresh = Swings-fresh w refl ∙ (ap (λ (l : Link). unless_node s.fresh l.to) to_is
              ∙ unless_other s.fresh id (linked_not_fresh n s id fresh (value_linked (heap_of n s) id bucket 0 dummy)));
        };
        tells = set_by_move p;
      }
    where
      event_is : place_in s.slots at ≡ Root bucket → link_in s.slots from ≡ null → link_in s.slots to ≡ link_to id
          → move_of s at from to (Some Anchor) ≡ event_of s (Move (Root bucket) null (link_to id)) (Some Anchor)
      event_is a b c = rw (a, b, c) refl
  anchors at from to false at_is from_is to_is w =
      let m = Swings-missed w refl in
      let act : Act = Miss (Root bucket) null m.found in
      let p : Puts s (event_of s act None ∷ []) t = subst (λ (q : Place). Puts s (event_of s (Miss q null m.found) None ∷ []) t) at_is
      (subst (λ (l : Link). Puts s (event_of s (Miss (place_in s.slots at) l m.found) None ∷ []) t) from_is m.puts) in
      record {
        tried = record {
          own = event_of s act None ∷ [];
          puts = p;
          no_entries = silent_one (split_ordering n) s.agent act;
          no_give = refl;
          slots = w.slots;
          fresh = missed_fresh w refl;
        };
        tells = set_by_miss m.found (λ is. m.other (is ∙ sym from_is)) p;
      }

-- a dummy that was linked has its values from then on
pub dummy_stands : (n : HeapNumbers) (bucket id : ℕ) (to : Option ℕ) (place : Place) (from : Link) (t u : Seat SplitNote)
    → slice_get (heap_of n t).nodes id ≡ Some (node_to_link t.agent bucket 0 to) → SplitHolds n t.seen
    → Puts t (event_of t (Move place from (link_to id)) (Some Bucket) ∷ []) u → AllAllowed (SplitMay n) [] u.seen → IsDummy (heap_of n u) id bucket
dummy_stands n bucket id to place from t u node holds p all =
    let e : Event SplitNote = event_of t (Move place from (link_to id)) (Some Bucket) in
    let m = Puts-stood (SplitMay n) t u [] e [] p all in
    let es : List (Event SplitNote) = t.seen ++ m.before in
    let h : Heap = run_heap n es in
    let now = holds_later n t.seen m.before holds m.first in
    let there = fresh_later n t.agent id (node_to_link t.agent bucket 0 to) t.seen m.before holds node refl refl refl
    (record { allowed = m.first; others = m.own_before }) in
    let on = place_on_chain split_order h now.chains (dummy_place m.here.may_act.bucket) place m.here.may_act.links.on_chain in
    let in_heap = move_links t.agent place from (link_to id) h id (node_to_link t.agent bucket 0 to) m.here.fits
    (chain_place_linked split_order h place on) refl there refl in
    let values = value_new h (heap_after t.agent e.act h) id (node_to_link t.agent bucket 0 to) bucket 0 in_heap refl refl in
    let next : IsDummy (run_heap n (es ++ e ∷ [])) id bucket = subst (λ (k : Heap). IsDummy k id bucket) (sym (run_heap-snoc n es e)) values in
    subst (λ z. IsDummy (run_heap n z) id bucket) (sym m.is) (values_later n (es ++ e ∷ []) m.later id bucket 0 next m.last)
