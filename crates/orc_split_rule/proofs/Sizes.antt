-- The number of buckets after each kind of event.
use Rattle.std.proofs.Common.{List, None, Option, Some, [], ap, arith, inl, inr, refl, sym, true, ℕ, ◌*◌, ◌++◌, ◌∙◌, ◌∷◌, ◌≡◌, ◌≢◌, ◌≤◌, ◌⊎◌}
use Rattle.orc_heap.proofs.Runs.{run_heap-snoc}
use Rattle.orc_heap.proofs.Stays.{stays}
use Rattle.orc_heap.specs.Acts.{Fits, heap_after}
use Rattle.orc_heap.specs.Allowed.{AllAllowed}
use Rattle.orc_heap.specs.Heap.{Heap, HeapNumbers, shown}
use Rattle.orc_heap.specs.Journals.{run_heap}
use Rattle.orc_heap.specs.declared.events.Act.{Act}
use Rattle.orc_heap.specs.declared.events.Act.TheVariants.{Look, Move}
use Rattle.orc_heap.specs.declared.events.Event.{Event}
use Rattle.orc_heap.specs.declared.events.Link.{Link}
use Rattle.orc_heap.specs.declared.events.Place.{Place}
use Rattle.orc_heap.specs.declared.events.Place.TheVariants.{Next, Root}
use Rattle.orc_history.specs.declared.set.SetEntry.TheVariants.{Added, Removed}
use Rattle.orc_ordered_chains.specs.Chains.{IsChainPlace, MayLink}
use Rattle.orc_ordered_chains.proofs.Acts.{KeepsValues, act_unmoved, move_links, move_moves, values_after}
use Rattle.orc_ordered_chains.proofs.Paths.{place_on_chain}
use Rattle.orc_split_rule.specs.declared.split.SplitNote.{SplitNote}
use Rattle.orc_split_rule.specs.declared.split.SplitNote.TheVariants.{Anchor, Bucket, Entry, Grow, Unlink}
use Rattle.orc_split_rule.specs.SplitOrder.{dummy_place, key_place, split_order}
use Rattle.orc_split_rule.specs.SplitDiscipline.{AreBuckets, IsSize, IsSizeNode, SplitHolds, SplitMay, greatest, set_after, size_at, size_by, size_of}
use Rattle.orc_split_rule.specs.Laws.Buckets.{size_is}
use Rattle.orc_split_rule.specs.Laws.Kept.{split_keeps}
use Rattle.orc_split_rule.specs.Laws.Kinds.{each_kind}
use Rattle.orc_split_rule.specs.Laws.Values.{root_apart, value_new, value_stays}

-- the size that the last root stands for
abbrev size_in : ℕ → Heap → ℕ
size_in most h = size_by h (shown h (Root most))

size_read : (h : Heap) (id size : ℕ) → IsSizeNode h id size → size_at h (Some id) ≡ size
size_read h id size node = rw (node.there, node.first_is) refl

-- it stays where the last root's link does
size_same : (most : ℕ) (h k : Heap) → 1 ≤ most → AreBuckets most h → KeepsValues h k → shown k (Root most) ≡ shown h (Root most)
    → size_in most k ≡ size_in most h
size_same most h k some b v same = ap (λ (o : Option Link). size_by k o) same ∙ shows (shown h (Root most)) refl
  where
    target : (link : Link) → shown h (Root most) ≡ Some link → (to : Option ℕ) → link.to ≡ to → size_at k to ≡ size_at h to
    target link at None to_is = refl
    target link at (Some id) to_is =
        let (size, node, is) = b.size id some (record { link = link; at = at; to_is = to_is }) in
        size_read k id size (value_stays h k v id size 2 node) ∙ sym (size_read h id size node)

    shows : (o : Option Link) → shown h (Root most) ≡ o → size_by k o ≡ size_by h o
    shows None at = refl
    shows (Some link) at = target link at link.to refl

-- the size after an event: a Grow doubles it, and no other event changes it
pub record SizeGoes (old new : ℕ) (noted : Option SplitNote) : Type 0 where
  pub doubles : noted ≡ Some Grow → new ≡ 2 * old
  pub keeps : noted ≢ Some Grow → new ≡ old
  pub either : (new ≡ old) ⊎ (new ≡ 2 * old)

stayed : (old new : ℕ) (noted : Option SplitNote) → noted ≢ Some Grow → new ≡ old → SizeGoes old new noted
stayed old new noted ne same = record { doubles = λ is. absurd (ne is); keeps = λ other. same; either = inl same }

size_goes : (n : HeapNumbers) (es : List (Event SplitNote)) (e : Event SplitNote) → 1 ≤ greatest n → SplitHolds n es → SplitMay n es e
    → SizeGoes (size_in (greatest n) (run_heap n es)) (size_in (greatest n) (heap_after e.agent e.act (run_heap n es))) e.note
size_goes n es e some holds may =
    let h : Heap = run_heap n es in
    let most : ℕ = greatest n in
    let after : Act → Heap = λ act. heap_after e.agent act h in
    let unmoved : (act : Act) → Fits e.agent act h → shown (after act) (Root most) ≡ shown h (Root most) → size_in most (after act) ≡ size_in most h
    = λ act fits same. size_same most h (after act) some holds.buckets (values_after e.agent act h fits) same in
    let linked : (p : Place) (from to : Link) (rank : ℕ) → MayLink split_order h p from to rank → IsChainPlace split_order h p
    = λ p from to rank a. place_on_chain split_order h holds.chains rank p a.on_chain in
    let elsewhere : (p : Place) (from to : Link) → Fits e.agent (Move p from to) h → Root most ≢ p → size_in most (after (Move p from to)) ≡ size_in most h
    = λ p from to fits ne. unmoved (Move p from to) fits ((move_moves e.agent p from to h fits).others (Root most) ne) in
    let at_chain : (p : Place) (from to : Link) → Fits e.agent (Move p from to) h → IsChainPlace split_order h p
    → size_in most (after (Move p from to)) ≡ size_in most h
    = λ p from to fits on. elsewhere p from to fits (root_apart h most p some on) in
    each_kind most h (set_after es) (λ act noted. Fits e.agent act h → SizeGoes (size_in most h) (size_in most (after act)) noted)
    (λ act plain fits. stayed _ _ None (λ is. cc) (unmoved act fits ((act_unmoved e.agent act h fits plain).shows (Root most) tt)))
    (λ p from to by key a fits. stayed _ _ (Some (Entry (Added by key true))) (λ is. cc) (at_chain p from to fits (linked p from to (key_place key) a.links)))
    (λ d from to by key r fits. stayed _ _ (Some (Entry (Removed by key true))) (λ is. cc) (elsewhere (Next d) from to fits (λ same. cc)))
    (λ p from to u fits. stayed _ _ (Some Unlink) (λ is. cc) (at_chain p from to fits u.linked))
    (λ p from to b fits. stayed _ _ (Some Bucket) (λ is. cc) (at_chain p from to fits (linked p from to (dummy_place b.bucket) b.links)))
    (λ root from to a fits. stayed _ _ (Some Anchor) (λ is. cc)
    (elsewhere (Root root) from to fits (λ same. (let is : most ≡ root = cc in omega (arith, a.high, is)))))
    (λ from to g fits.
    let m = move_moves e.agent (Root most) from to h fits in
    let new = move_links e.agent (Root most) from to h g.id g.node fits tt (ap (λ (l : Link). l.to) g.to_is) g.there g.unlinked in
    let k : Heap = after (Move (Root most) from to) in
    let old : size_in most h ≡ size_at h from.to = ap (λ (o : Option Link). size_by h o) m.at in
    let now : size_in most k ≡ size_at k (Some g.id) = ap (λ (o : Option Link). size_by k o) m.moved ∙ ap (λ (l : Link). size_at k l.to) g.to_is in
    let says : size_at k (Some g.id) ≡ 2 * size_at h from.to =
    size_read k g.id (2 * size_at h from.to) (value_new h k g.id g.node (2 * size_at h from.to) 2 new g.first_is g.second_is) in
    let twice : size_in most k ≡ 2 * size_in most h = now ∙ (says ∙ ap (λ (x : ℕ). 2 * x) (sym old)) in
    record { doubles = λ is. twice; keeps = λ ne. absurd (ne refl); either = inr twice })
    (λ p link entry t fits. stayed _ _ (Some (Entry entry)) (λ is. cc) (unmoved (Look p link) fits refl))
    e.act e.note may.may_act may.fits

-- the same of the journal one longer
pub size_next : (n : HeapNumbers) (es : List (Event SplitNote)) (e : Event SplitNote) → 1 ≤ greatest n → SplitHolds n es → SplitMay n es e
    → SizeGoes (size_of n es) (size_of n (es ++ e ∷ [])) e.note
size_next n es e some holds may = rw (run_heap-snoc n es e) (size_goes n es e some holds may)

-- so a size never falls
pub size_later : (n : HeapNumbers) (seen more : List (Event SplitNote)) → 1 ≤ greatest n → SplitHolds n seen → AllAllowed (SplitMay n) seen more
    → size_of n seen ≤ size_of n (seen ++ more)
size_later n seen more some holds all =
    (stays (SplitMay n) (λ es. SplitHolds n es × (size_of n seen ≤ size_of n es))
    (λ es e x may. (split_keeps n es e x.0 may, no_less (size_of n es) (size_of n (es ++ e ∷ [])) x.1 (size_next n es e some x.0 may).either))
    seen more (holds, omega arith) all).1
  where
    no_less : (old new : ℕ) → size_of n seen ≤ old → (new ≡ old) ⊎ (new ≡ 2 * old) → size_of n seen ≤ new
    no_less old new low (inl same) = omega (arith, low, same)
    no_less old new low (inr twice) = omega (arith, low, twice)

-- and is a power of two, of at most so many buckets
pub size_is_power : (n : HeapNumbers) (es : List (Event SplitNote)) → 1 ≤ greatest n → SplitHolds n es → IsSize (greatest n) (size_of n es)
size_is_power n es some holds = shows (shown (run_heap n es) (Root (greatest n))) refl
  where
    shows : (o : Option Link) → shown (run_heap n es) (Root (greatest n)) ≡ o → IsSize (greatest n) (size_by (run_heap n es) o)
    shows None at = (some, 0, refl)
    shows (Some link) at = size_is (greatest n) (run_heap n es) link some holds.buckets at
