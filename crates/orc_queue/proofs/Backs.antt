-- Moves of other places than root 0 among what is new.
use Rattle.std.proofs.Common.{Bool, List, None, Option, Some, [], ap, append_assoc, arith, cond, false, inl, inr, refl, subst, sym, true, ℕ, ◌++◌, ◌+◌, ◌∙◌, ◌∷◌, ◌≡◌, ◌≢◌, ◌≤◌, ◌⊎◌}
use Rattle.std.proofs.lemmas.Bool.{eqb-true}
use Rattle.std.specs.List.{list_any}
use Rattle.std.specs.Prelude.{not, ◌==◌, ◌||◌}
use Rattle.orc_heap.proofs.Calls.{Puts-stood, filter-at}
use Rattle.orc_heap.proofs.Moments.{seen_is, since}
use Rattle.orc_heap.proofs.Moved.{moves_in-append, shown_or_moved_there}
use Rattle.orc_heap.proofs.OwnParts.{moves_after_own, moves_from_own, moves_from_own-append}
use Rattle.orc_heap.proofs.Pieces.{new_is}
use Rattle.orc_heap.proofs.Runs.{lawful-right, run_from-append}
use Rattle.orc_heap.proofs.SingleActs.{some_same}
use Rattle.orc_heap.specs.Acts.{Fits}
use Rattle.orc_heap.specs.Allowed.{AllAllowed, events_by}
use Rattle.orc_heap.specs.Calls.{event_of}
use Rattle.orc_heap.specs.Heap.{Heap, HeapNumbers, new_heap, shown}
use Rattle.orc_heap.specs.Journals.{run_heap}
use Rattle.orc_heap.specs.Moves.{IsLinkedPlace, is_at, move_with, moves_in, moves_place}
use Rattle.orc_heap.specs.OwnEvents.{Puts}
use Rattle.orc_heap.specs.Seats.{Seat, heap_of}
use Rattle.orc_heap.specs.declared.events.Act.{Act}
use Rattle.orc_heap.specs.declared.events.Act.TheVariants.{Aim, Fill, Give, Look, Miss, Move, AimSide}
use Rattle.orc_heap.specs.declared.events.Event.{Event}
use Rattle.orc_heap.specs.declared.events.Link.{Link}
use Rattle.orc_heap.specs.declared.events.Place.{Place}
use Rattle.orc_heap.specs.declared.events.Place.TheVariants.{Next, Root, Side}
use Rattle.orc_fifo_rule.proofs.Later.{holds_later}
use Rattle.orc_fifo_rule.proofs.MoveKinds.{off_the_head-append}
use Rattle.orc_fifo_rule.specs.Counts.{off_the_head}
use Rattle.orc_fifo_rule.specs.QueueDiscipline.{FifoHolds, FifoMay}
use Rattle.orc_fifo_rule.specs.declared.fifo.FifoNote.{FifoNote}
use Rattle.orc_heap.proofs.Moved.{linked_place_later}
use Rattle.orc_queue.specs.Looking.{Known}
use Rattle.orc_queue.specs.Turns.{back_moves_in}

pub backs_append : (es fs : List (Event FifoNote)) → moves_in (off_the_head (es ++ fs)) ≡ moves_in (off_the_head es) + moves_in (off_the_head fs)
backs_append es fs = ap (λ (z : List (Event FifoNote)). moves_in z) (off_the_head-append es fs) ∙ moves_in-append (off_the_head es) (off_the_head fs)

pub backs_since : (agent : ℕ) (es : List (Event FifoNote)) → back_moves_in agent es ≤ moves_in (off_the_head es)
backs_since agent es = moves_from_own agent (off_the_head es)

pub backs_since-append : (agent : ℕ) (es fs : List (Event FifoNote)) → back_moves_in agent es + back_moves_in agent fs ≤ back_moves_in agent (es ++ fs)
backs_since-append agent es fs =
    rw (off_the_head-append es fs) (moves_from_own-append agent (off_the_head es) (off_the_head fs))

-- what stands after an event of the agent's own that is no Move of root 0
pub backs_after_own : (agent : ℕ) (es : List (Event FifoNote)) (e : Event FifoNote) (fs : List (Event FifoNote)) → e.agent ≡ agent
    → moves_place (Root 0) e.act ≡ false → moves_in (off_the_head fs) ≤ back_moves_in agent (es ++ e ∷ fs)
backs_after_own agent es e fs own off =
    let kept : off_the_head (e ∷ fs) ≡ e ∷ off_the_head fs = ap (λ (b : Bool). cond (not b) (e ∷ off_the_head fs) (off_the_head fs)) off in
    rw (off_the_head-append es (e ∷ fs), kept) (moves_after_own agent (off_the_head es) e (off_the_head fs) own)

same_place : (one two : Place) → is_at one two ≡ true → one ≡ two
same_place (Root r) (Root q) is = ap (λ (x : ℕ). Root x) (eqb-true r q is)
same_place (Root r) (Next j) is = cc
same_place (Next i) (Root q) is = cc
same_place (Root r) (Side j) is = cc
same_place (Next i) (Side j) is = cc
same_place (Side i) (Root q) is = cc
same_place (Side i) (Next j) is = cc
same_place (Side i) (Side j) is = ap (λ (x : ℕ). Side x) (eqb-true i j is)
same_place (Next i) (Next j) is = ap (λ (x : ℕ). Next x) (eqb-true i j is)

-- a Move of another place than root 0
moves_off : (place : Place) (act : Act) → is_at place (Root 0) ≡ false → moves_place place act ≡ true
    → (move_with act ≡ 1) × (moves_place (Root 0) act ≡ false)
moves_off place Give off is = cc
moves_off place (Fill id which value) off is = cc
moves_off place (Aim id to) off is = cc
moves_off place (AimSide id to) off is = cc
moves_off place (Look at link) off is = cc
moves_off place (Miss at wanted found) off is = cc
moves_off place (Move at from to) off is = (refl, ap (λ (x : Place). is_at x (Root 0)) (same_place at place is) ∙ off)

some_back : (place : Place) (es : List (Event FifoNote)) → is_at place (Root 0) ≡ false → list_any (λ e. moves_place place e.act) es ≡ true
    → 1 ≤ moves_in (off_the_head es)
some_back place [] off some = cc
some_back place (e ∷ es) off some = cases (moves_place place e.act) refl some (λ h. some_back place es off h)
  where
    whole : moves_in (off_the_head (e ∷ es)) ≡ moves_in (off_the_head (e ∷ [])) + moves_in (off_the_head es)
    whole = backs_append (e ∷ []) es

    cases : (b : Bool) → moves_place place e.act ≡ b → (b || list_any (λ x. moves_place place x.act) es) ≡ true
        → (list_any (λ x. moves_place place x.act) es ≡ true → 1 ≤ moves_in (off_the_head es)) → 1 ≤ moves_in (off_the_head (e ∷ es))
    cases true is h rest =
        let (one, off_here) = moves_off place e.act off is in
        let kept : off_the_head (e ∷ []) ≡ e ∷ [] = ap (λ (b : Bool). cond (not b) (e ∷ []) []) off_here in
        omega (arith, whole, ap (λ (z : List (Event FifoNote)). moves_in z) kept, one)
    cases false is h rest = omega (arith, whole, rest h)

module _ (n : HeapNumbers) (place : Place) (off : is_at place (Root 0) ≡ false) where
  -- such a place shows what it showed, or a Move stands in between that isn't one of root 0
  shown_or_back : (seen more : List (Event FifoNote)) → FifoHolds n seen → AllAllowed (FifoMay n) seen more → IsLinkedPlace place (run_heap n seen)
      → (shown (run_heap n (seen ++ more)) place ≡ shown (run_heap n seen) place) ⊎ (1 ≤ moves_in (off_the_head more))
  shown_or_back seen more holds all l =
      let lawful = lawful-right (new_heap n) seen more (holds_later n seen more holds all).lawful in
      elim (shown_or_moved_there (run_heap n seen) place more lawful l) [
        | inl same ↦ inl (ap (λ (h : Heap). shown h place) (run_from-append (new_heap n) seen more) ∙ same)
        | inr moved ↦ inr (some_back place more off moved)
      ]

  module _ (s t : Seat FifoNote) (k : Known n s.seen) (all : AllAllowed (FifoMay n) [] t.seen) (l : IsLinkedPlace place (heap_of n s)) where
    -- what a Look found, the place still shows, or such a Move stands after the Look
    pub look_or_back : (link : Link) (noted : Option FifoNote) (own rest : List (Event FifoNote))
        (p : Puts s (own ++ event_of s (Look place link) noted ∷ rest) t)
        → (shown (heap_of n t) place ≡ Some link) ⊎ (1 ≤ back_moves_in s.agent p.part)
    look_or_back link noted own rest p =
        let e : Event FifoNote = event_of s (Look place link) noted in
        let m = Puts-stood (FifoMay n) s t own e rest p all in
        let there = linked_place_later n (FifoMay n) (λ es x k. k.fits) place s.seen m.before l m.first in
        let holds = holds_later n s.seen m.before k.holds m.first in
        let after = backs_after_own s.agent m.before e m.later refl refl in
        elim (shown_or_back (s.seen ++ m.before) (e ∷ m.later) holds (since m) there) [
          | inl same ↦ inl (subst (λ es. shown (run_heap n es) place ≡ Some link) (sym (p.is ∙ seen_is m)) (same ∙ m.here.fits))
          | inr some ↦ inr (rw m.part_is (omega (arith, some, after)))
        ]

    -- two Looks that differ: such a Move stands after the first
    pub looks_back : (one two : Link) (p : Puts s (event_of s (Look place one) None ∷ event_of s (Look place two) None ∷ []) t) → one ≢ two
        → 1 ≤ back_moves_in s.agent p.part
    looks_back one two p other =
        elim (look_or_back one None [] (event_of s (Look place two) None ∷ []) p) [
          | inr some ↦ some
          | inl still ↦ elim (look_or_back two None (event_of s (Look place one) None ∷ []) [] p) [
            | inr some ↦ some
            | inl later ↦ absurd (other (some_same (sym still ∙ later)))
          ]
        ]

    -- a Miss where the place showed the wanted link before: such a Move stands in what is new
    pub miss_back : (wanted found : Link) (own : List (Event FifoNote)) (e : Event FifoNote) (rest : List (Event FifoNote)) (p : Puts s (own ++ e ∷ rest) t)
        → e.act ≡ Miss place wanted found → found ≢ wanted → shown (heap_of n s) place ≡ Some wanted → 1 ≤ moves_in (off_the_head p.part)
    miss_back wanted found own e rest p act_is other at =
        let m = Puts-stood (FifoMay n) s t own e rest p all in
        let here : Fits e.agent (Miss place wanted found) (run_heap n (s.seen ++ m.before)) =
        subst (λ (a : Act). Fits e.agent a (run_heap n (s.seen ++ m.before))) act_is m.here.fits in
        elim (shown_or_back s.seen m.before k.holds m.first l) [
          | inl same ↦ absurd (other (some_same (sym here.0 ∙ (same ∙ at))))
          | inr some ↦ rw m.part_is (omega (arith, some, backs_append m.before (e ∷ m.later)))
        ]

-- an own event stands in what is new
pub own_back : (s t : Seat FifoNote) (own : List (Event FifoNote)) (e : Event FifoNote) (rest : List (Event FifoNote)) (p : Puts s (own ++ e ∷ rest) t)
    → moves_in (off_the_head (e ∷ [])) ≤ moves_in (off_the_head p.part)
own_back s t own e rest p =
    let f = filter-at (λ x. x.agent == s.agent) p.part own e rest p.own_is in
    rw f.is (omega (arith, backs_append f.before (e ∷ f.later), backs_append (e ∷ []) f.later))

-- two pieces of a call, and the whole of them
module _ (s a t : Seat FifoNote) (xs ys zs : List (Event FifoNote)) (p : Puts s xs a) (q : Puts a ys t) (w : Puts s zs t) where
  pub backs_left : moves_in (off_the_head p.part) ≤ moves_in (off_the_head w.part)
  backs_left = rw (new_is s a t xs ys zs p q w) (omega (arith, backs_append p.part q.part))

  pub backs_right : moves_in (off_the_head q.part) ≤ moves_in (off_the_head w.part)
  backs_right = rw (new_is s a t xs ys zs p q w) (omega (arith, backs_append p.part q.part))

  pub backs_since_both : back_moves_in s.agent p.part + back_moves_in a.agent q.part ≤ back_moves_in s.agent w.part
  backs_since_both = rw (new_is s a t xs ys zs p q w, p.agent) (backs_since-append s.agent p.part q.part)

-- what stands after a call's first event stands after an own event
pub backs_then : (s a t : Seat FifoNote) (e : Event FifoNote) (rest ys zs : List (Event FifoNote)) (p : Puts s (e ∷ rest) a) (q : Puts a ys t) (w : Puts s zs t)
    → e.agent ≡ s.agent → moves_place (Root 0) e.act ≡ false → moves_in (off_the_head q.part) ≤ back_moves_in s.agent w.part
backs_then s a t e rest ys zs p q w own off =
    let f = filter-at (λ x. x.agent == s.agent) p.part [] e rest p.own_is in
    let is : w.part ≡ f.before ++ e ∷ (f.later ++ q.part) = new_is s a t (e ∷ rest) ys zs p q w
    ∙ (ap (λ z. z ++ q.part) f.is ∙ append_assoc f.before (e ∷ f.later) q.part) in
    rw is (omega (arith, backs_after_own s.agent f.before e (f.later ++ q.part) own off, backs_append f.later q.part))

-- before the agent's first event there are none of its own
pub none_off : (agent : ℕ) (es : List (Event FifoNote)) → events_by agent es ≡ [] → events_by agent (off_the_head es) ≡ []
none_off agent [] none = refl
none_off agent (e ∷ es) none = cases (e.agent == agent) refl none (λ h. none_off agent es h)
  where
    cases : (b : Bool) → (e.agent == agent) ≡ b → cond b (e ∷ events_by agent es) (events_by agent es) ≡ []
        → (events_by agent es ≡ [] → events_by agent (off_the_head es) ≡ []) → events_by agent (off_the_head (e ∷ es)) ≡ []
    cases true is h rest = cc
    cases false is h rest = keep (moves_place (Root 0) e.act)
      where
        keep : (b : Bool) → events_by agent (cond (not b) (e ∷ off_the_head es) (off_the_head es)) ≡ []
        keep true = rest h
        keep false = rw is (rest h)
