-- The queue before both roots have begun.
use Rattle.std.proofs.Common.{Contains, List, None, Option, Some, [], ap, arith, inl, inr, refl, subst, suc, sym, true, zero, ℕ, ◌++◌, ◌∙◌, ◌∷◌, ◌≡◌}
use Rattle.std.proofs.lemmas.Bool.{eqb-true}
use Rattle.std.specs.List.{slice_get, AllByRecursion}
use Rattle.orc_heap.specs.Acts.{Fits, heap_after}
use Rattle.orc_heap.specs.Heap.{Heap, HeapNumbers, new_heap, shown, link_to}
use Rattle.orc_heap.specs.Journals.{IsLawful, IsLawfulFrom, run_from, run_heap}
use Rattle.orc_heap.specs.declared.events.Act.{Act}
use Rattle.orc_heap.specs.declared.events.Act.TheVariants.{Aim, Fill, Give, Look, Miss, Move, AimSide}
use Rattle.orc_heap.specs.declared.events.Event.{Event}
use Rattle.orc_heap.specs.declared.events.Link.{Link}
use Rattle.orc_heap.specs.declared.events.Place.TheVariants.{Next, Root, Side}
use Rattle.orc_history.specs.declared.queue.QueueEntry.TheVariants.{Put}
use Rattle.orc_fifo_rule.specs.declared.fifo.FifoNote.{FifoNote}
use Rattle.orc_fifo_rule.specs.declared.fifo.FifoNote.TheVariants.{Begin, Entry, Swing}
use Rattle.orc_fifo_rule.specs.QueueDiscipline.{BeginsIfMoves, IsPutNode, entries_in, entries_of, is_begin_of, root_has_begun}
use Rattle.orc_fifo_rule.specs.Laws.Events.{or_either}
use Rattle.orc_heap.proofs.SingleActs.{root_either, root_moved}

abbrev AllBegin : List (Event FifoNote) → Type 0
AllBegin es = AllByRecursion (λ (e : Event FifoNote). BeginsIfMoves e.act e.note) es

aim_roots : (agent id : ℕ) (to : Option ℕ) (h : Heap) → (heap_after agent (Aim id to) h).roots ≡ h.roots
aim_roots agent id None h = refl
aim_roots agent id (Some i) h = refl

side_roots : (agent id : ℕ) (to : Option ℕ) (h : Heap) → (heap_after agent (AimSide id to) h).roots ≡ h.roots
side_roots agent id None h = refl
side_roots agent id (Some i) h = refl

-- a root that names node 0 still does after a Begin
still_zero : (agent : ℕ) (act : Act) (noted : Option FifoNote) (h : Heap) (r : ℕ) → BeginsIfMoves act noted → shown h (Root r) ≡ Some (link_to 0)
    → shown (heap_after agent act h) (Root r) ≡ Some (link_to 0)
still_zero agent Give noted h r b at = at
still_zero agent (Fill id which value) noted h r b at = at
still_zero agent (Aim id to) noted h r b at = ap (λ (l : List Link). slice_get l r) (aim_roots agent id to h) ∙ at
still_zero agent (AimSide id to) noted h r b at = ap (λ (l : List Link). slice_get l r) (side_roots agent id to h) ∙ at
still_zero agent (Look place link) noted h r b at = at
still_zero agent (Miss place wanted found) noted h r b at = at
still_zero agent (Move (Root q) from to) noted h r b at =
    elim (root_either agent q r from to h (link_to 0) at) [ inl c ↦ c.1 ∙ ap (λ (l : Link). Some l) b.2 | inr c ↦ c.1 ]
still_zero agent (Move (Next t) from to) noted h r b at = absurd b
still_zero agent (Move (Side t) from to) noted h r b at = absurd b

-- after its Begin a root names node 0
begin_zero : (agent : ℕ) (act : Act) (noted : Option FifoNote) (h : Heap) (r : ℕ) → BeginsIfMoves act noted → Fits agent act h
    → is_begin_of r act noted ≡ true → shown (heap_after agent act h) (Root r) ≡ Some (link_to 0)
begin_zero agent (Move (Root q) from to) (Some Begin) h r b fits is =
    let same : q ≡ r = eqb-true q r is in
    subst (λ (x : ℕ). shown (heap_after agent (Move (Root q) from to) h) (Root x) ≡ Some (link_to 0)) same
    (root_moved agent q from to h fits.0 ∙ ap (λ (l : Link). Some l) b.2)
begin_zero agent (Move (Root q) from to) (Some Swing) h r b fits is = cc
begin_zero agent (Move (Root q) from to) (Some (Entry entry)) h r b fits is = cc
begin_zero agent (Move (Root q) from to) None h r b fits is = cc
begin_zero agent (Move (Next t) from to) noted h r b fits is = absurd b
begin_zero agent (Move (Side t) from to) noted h r b fits is = absurd b
begin_zero agent (AimSide id to) noted h r b fits is = cc
begin_zero agent Give noted h r b fits is = cc
begin_zero agent (Fill id which value) noted h r b fits is = cc
begin_zero agent (Aim id to) noted h r b fits is = cc
begin_zero agent (Look place link) noted h r b fits is = cc
begin_zero agent (Miss place wanted found) noted h r b fits is = cc

still_from : (h : Heap) (es : List (Event FifoNote)) (r : ℕ) → AllBegin es → shown h (Root r) ≡ Some (link_to 0)
    → shown (run_from h es) (Root r) ≡ Some (link_to 0)
still_from h [] r all at = at
still_from h (e ∷ es) r all at = still_from (heap_after e.agent e.act h) es r all.1 (still_zero e.agent e.act e.note h r all.0 at)

begun_from : (h : Heap) (es : List (Event FifoNote)) (r : ℕ) → AllBegin es → IsLawfulFrom h es → root_has_begun r es ≡ true
    → shown (run_from h es) (Root r) ≡ Some (link_to 0)
begun_from h [] r all lawful b = cc
begun_from h (e ∷ es) r all lawful b =
    elim (or_either (is_begin_of r e.act e.note) (root_has_begun r es) b) [
      | inl is ↦ still_from (heap_after e.agent e.act h) es r all.1 (begin_zero e.agent e.act e.note h r all.0 lawful.0 is)
      | inr later ↦ begun_from (heap_after e.agent e.act h) es r all.1 lawful.1 later
    ]

pub begun_root : (n : HeapNumbers) (es : List (Event FifoNote)) (r : ℕ) → AllBegin es → IsLawful n es → root_has_begun r es ≡ true
    → shown (run_heap n es) (Root r) ≡ Some (link_to 0)
begun_root n es r all lawful b = begun_from (new_heap n) es r all lawful b

none_right : {A : Type 0} (xs ys : List A) → xs ++ ys ≡ [] → ys ≡ []
none_right [] ys e = e
none_right (x ∷ xs) ys e = cc

no_put_at : (es : List (Event FifoNote)) (e : Event FifoNote) (by job at : ℕ) → Contains es e → entries_of es ≡ [] → e.note ≡ Some (Entry (Put by job at)) → ⊥
no_put_at [] e by job at (k, low, is) none note_is = absurd (omega (arith, low))
no_put_at (x ∷ es) e by job at (zero, low, is) none note_is =
    let noted : x.note ≡ Some (Entry (Put by job at)) = ap (λ (z : Event FifoNote). z.note) is ∙ note_is in
    let more : entries_in (Some (Entry (Put by job at))) ++ entries_of es ≡ [] = ap (λ z. entries_in z ++ entries_of es) (sym noted) ∙ none in
    cc
no_put_at (x ∷ es) e by job at (suc k, low, is) none note_is =
    no_put_at es e by job at (k, omega (arith, low), is) (none_right (entries_in x.note) (entries_of es) none) note_is

-- where there is no entry, there is no Put
pub no_puts : (es : List (Event FifoNote)) (id job at : ℕ) → entries_of es ≡ [] → IsPutNode es id job at → ⊥
no_puts es id job at none p = no_put_at es p.event p.by job at p.among none p.note_is
