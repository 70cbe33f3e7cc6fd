-- One event more: entries, Puts and Begins of a list of events.
use Rattle.std.proofs.Common.{Bool, Contains, List, Some, [], ap, append-nil, arith, false, inl, inr, refl, suc, sym, true, zero, ℕ, ◌++◌, ◌+◌, ◌∙◌, ◌∷◌, ◌≡◌, ◌⊎◌}
use Rattle.std.proofs.Math.Bool.{and-eq-true_iff}
use Rattle.std.proofs.lemmas.List.Elements.{Contains-append_cases, Contains-append_right}
use Rattle.std.proofs.lemmas.List.Folds.{list_any-append}
use Rattle.std.specs.Prelude.{◌&&◌, ◌||◌}
use Rattle.orc_heap.proofs.OwnEntries.{noted-snoc}
use Rattle.orc_heap.specs.declared.events.Act.TheVariants.{Move}
use Rattle.orc_heap.specs.declared.events.Event.{Event}
use Rattle.orc_heap.specs.declared.events.Link.{Link}
use Rattle.orc_heap.specs.declared.events.Place.{Place}
use Rattle.orc_history.specs.QueueHistory.{puts_in}
use Rattle.orc_history.specs.declared.queue.QueueEntry.{QueueEntry}
use Rattle.orc_history.specs.declared.queue.QueueEntry.TheVariants.{Put}
use Rattle.orc_history.proofs.Histories.{puts_in-append}
use Rattle.orc_fifo_rule.specs.declared.fifo.FifoNote.{FifoNote}
use Rattle.orc_fifo_rule.specs.declared.fifo.FifoNote.TheVariants.{Entry}
use Rattle.orc_fifo_rule.specs.QueueDiscipline.{IsPutNode, entries_in, entries_of, has_begun, is_begin_of, root_has_begun}
use Rattle.std.specs.List.{AllByRecursion}
use Rattle.orc_heap.specs.Heap.{link_to}

-- no entry
pub entries_same : (es : List (Event FifoNote)) (e : Event FifoNote) → entries_in e.note ≡ [] → entries_of (es ++ e ∷ []) ≡ entries_of es
entries_same es e none = noted-snoc entries_in es e ∙ (ap (λ z. entries_of es ++ z) none ∙ append-nil (entries_of es))

-- one entry
pub entries_more : (es : List (Event FifoNote)) (e : Event FifoNote) (entry : QueueEntry) → e.note ≡ Some (Entry entry)
    → entries_of (es ++ e ∷ []) ≡ entries_of es ++ entry ∷ []
entries_more es e entry note_is = noted-snoc entries_in es e ∙ ap (λ z. entries_of es ++ entries_in z) note_is

pub puts_snoc : (es : List (Event FifoNote)) (e : Event FifoNote) → puts_in (entries_of (es ++ e ∷ [])) ≡ puts_in (entries_of es) + puts_in (entries_in e.note)
puts_snoc es e = ap puts_in (noted-snoc entries_in es e) ∙ puts_in-append (entries_of es) (entries_in e.note)

pub contains_one : {A : Type 0} (x y : A) → Contains (x ∷ []) y → x ≡ y
contains_one x y (zero, low, is) = is
contains_one x y (suc k, low, is) = absurd (omega (arith, low))

contains_last : {A : Type 0} (xs : List A) (x : A) → Contains (xs ++ x ∷ []) x
contains_last xs x = Contains-append_right xs (x ∷ []) x (0, omega arith, refl)

-- a Put of the longer list is one of the list, or the last event
pub put_before : (es : List (Event FifoNote)) (e : Event FifoNote) (id job at : ℕ) → IsPutNode (es ++ e ∷ []) id job at
    → IsPutNode es id job at ⊎ ((by : ℕ) × (place : Place) × (from : Link) × (e.act ≡ Move place from (link_to id)) × (e.note ≡ Some (Entry (Put by job at))))
put_before es e id job at p =
    elim (Contains-append_cases es (e ∷ []) p.event p.among) [
      | inl old ↦ inl (record { event = p.event; by = p.by; place = p.place; from = p.from; among = old; act_is = p.act_is; note_is = p.note_is })
      | inr new ↦
          let same = contains_one e p.event new in
          inr (p.by, p.place, p.from, ap (λ (x : Event FifoNote). x.act) same ∙ p.act_is, ap (λ (x : Event FifoNote). x.note) same ∙ p.note_is)
    ]

pub put_last : (es : List (Event FifoNote)) (e : Event FifoNote) (id by job at : ℕ) (place : Place) (from : Link)
    → e.act ≡ Move place from (link_to id) → e.note ≡ Some (Entry (Put by job at))
    → IsPutNode (es ++ e ∷ []) id job at
put_last es e id by job at place from act_is note_is =
    record { event = e; by = by; place = place; from = from; among = contains_last es e; act_is = act_is; note_is = note_is }

-- a fact of each event
pub every_more : {A : Type 0} (P : A → Type 0) (xs : List A) (x : A) → AllByRecursion P xs → P x → AllByRecursion P (xs ++ x ∷ [])
every_more P [] x all one = (one, tt)
every_more P (y ∷ ys) x all one = (all.0, every_more P ys x all.1 one)

or_left : (a b : Bool) → a ≡ true → a || b ≡ true
or_left a b e = rw e refl

pub or_either : (a b : Bool) → a || b ≡ true → (a ≡ true) ⊎ (b ≡ true)
or_either true b e = inl refl
or_either false b e = inr e

pub and_join : (a b : Bool) → a ≡ true → b ≡ true → a && b ≡ true
and_join a b e f = rw (e, f) refl

-- a root that has begun has done so in each longer list
pub root_begun_more : (root : ℕ) (es more : List (Event FifoNote)) → root_has_begun root es ≡ true → root_has_begun root (es ++ more) ≡ true
root_begun_more root es more b = list_any-append (λ (e : Event FifoNote). is_begin_of root e.act e.note) es more ∙ or_left _ _ b

pub begun_more : (es more : List (Event FifoNote)) → has_begun es ≡ true → has_begun (es ++ more) ≡ true
begun_more es more b =
    let (zero_begun, one_begun) = (and-eq-true_iff _ _).0 b in
    and_join _ _ (root_begun_more 0 es more zero_begun) (root_begun_more 1 es more one_begun)

-- and before the last event it had, or this event is its Begin
pub root_begun_before : (root : ℕ) (es : List (Event FifoNote)) (e : Event FifoNote) → root_has_begun root (es ++ e ∷ []) ≡ true
    → (root_has_begun root es ≡ true) ⊎ (is_begin_of root e.act e.note ≡ true)
root_begun_before root es e b =
    elim (or_either _ _ (sym (list_any-append (λ (x : Event FifoNote). is_begin_of root x.act x.note) es (e ∷ [])) ∙ b)) [
      | inl old ↦ inl old
      | inr new ↦ inr (elim (or_either (is_begin_of root e.act e.note) false new) [ inl is ↦ is | inr none ↦ cc ])
    ]

pub not_begun_before : (es more : List (Event FifoNote)) → has_begun (es ++ more) ≡ false → has_begun es ≡ false
not_begun_before es more none = cases (has_begun es) refl
  where
    cases : (b : Bool) → has_begun es ≡ b → has_begun es ≡ false
    cases true e = let bad : true ≡ false = sym (begun_more es more e) ∙ none in cc
    cases false e = e
