-- Where a call's part of the journal begins, and what stands in it.
use Rattle.std.proofs.Common.{Bool, List, [], ap, append_assoc, arith, cond, false, length, length-append, refl, subst, suc, sym, true, ℕ, ◌++◌, ◌+◌, ◌<◌, ◌==◌, ◌∙◌, ◌∷◌, ◌≡◌, ◌≢◌, ◌≤◌}
use Rattle.std.proofs.Math.Seq.{drop-append_seam}
use Rattle.std.proofs.lemmas.List.{append_cancel_left}
use Rattle.std.specs.List.{list_all}
use mathlib.Core.List.{IsPrefix}
use Rattle.orc_heap.proofs.Steps.{steps_add}
use Rattle.orc_heap.specs.Allowed.{events_by}
use Rattle.orc_heap.specs.OwnEvents.{Puts}
use Rattle.orc_heap.specs.Seats.{Seat}
use Rattle.orc_heap.specs.declared.events.Event.{Event}
use Rattle.orc_heap.specs.declared.links.Links.{Ghosts as LinksOf}
use Rattle.orc_history.specs.Journals.{Within, own_of}
use Rattle.orc_history.specs.Parts.{WithinPart, first_step, part_begin}

module _ {S : Type 0} (agent_of : S → ℕ) (agent : ℕ) where
  -- the first step of these is no earlier than their place, and no later than their end
  pub first_low : (place : ℕ) (ss : List S) → place ≤ first_step agent_of agent place ss
  first_low place [] = omega arith
  first_low place (s ∷ ss) = cases (agent_of s == agent) (first_low (suc place) ss)
    where
      cases : (b : Bool) → suc place ≤ first_step agent_of agent (suc place) ss → place ≤ cond b place (first_step agent_of agent (suc place) ss)
      cases true k = omega arith
      cases false k = omega (arith, k)

  -- the first step of more is no later than that of the last of them
  first_right : (place : ℕ) (xs ys : List S) → first_step agent_of agent place (xs ++ ys) ≤ first_step agent_of agent (place + length xs) ys
  first_right place [] ys =
      let e : place ≡ place + 0 = omega arith in
      subst (λ (z : ℕ). first_step agent_of agent place ys ≤ first_step agent_of agent z ys) e (omega arith)
  first_right place (x ∷ xs) ys = cases (agent_of x == agent) (first_right (suc place) xs ys) (first_low (place + length (x ∷ xs)) ys)
    where
      same : suc place + length xs ≡ place + length (x ∷ xs)
      same = omega arith

      cases : (b : Bool) → first_step agent_of agent (suc place) (xs ++ ys) ≤ first_step agent_of agent (suc place + length xs) ys
          → place + length (x ∷ xs) ≤ first_step agent_of agent (place + length (x ∷ xs)) ys
          → cond b place (first_step agent_of agent (suc place) (xs ++ ys)) ≤ first_step agent_of agent (place + length (x ∷ xs)) ys
      cases true k low = omega (arith, low)
      cases false k low = subst (λ (z : ℕ). first_step agent_of agent (suc place) (xs ++ ys) ≤ first_step agent_of agent z ys) same k

  -- once there is one, later steps don't change it
  first_left : (place : ℕ) (xs ys : List S) → first_step agent_of agent place xs < place + length xs
      → first_step agent_of agent place (xs ++ ys) ≡ first_step agent_of agent place xs
  first_left place [] ys some = absurd (omega (arith, some))
  first_left place (x ∷ xs) ys some = cases (agent_of x == agent) some (λ h. first_left (suc place) xs ys h)
    where
      cases : (b : Bool) → cond b place (first_step agent_of agent (suc place) xs) < place + length (x ∷ xs)
          → (first_step agent_of agent (suc place) xs < suc place + length xs → first_step agent_of agent (suc place)
          (xs ++ ys) ≡ first_step agent_of agent (suc place) xs)
          → cond b place (first_step agent_of agent (suc place) (xs ++ ys)) ≡ cond b place (first_step agent_of agent (suc place) xs)
      cases true low k = refl
      cases false low k = k (omega (arith, low))

  -- there is one where an own step is
  first_some : (place : ℕ) (xs : List S) → own_of agent_of agent xs ≢ [] → first_step agent_of agent place xs < place + length xs
  first_some place [] some = absurd (some refl)
  first_some place (x ∷ xs) some = cases (agent_of x == agent) some (λ h. first_some (suc place) xs h)
    where
      cases : (b : Bool) → cond b (x ∷ own_of agent_of agent xs) (own_of agent_of agent xs) ≢ []
          → (own_of agent_of agent xs ≢ [] → first_step agent_of agent (suc place) xs < suc place + length xs)
          → cond b place (first_step agent_of agent (suc place) xs) < place + length (x ∷ xs)
      cases true h k = omega arith
      cases false h k = omega (arith, k h)

  pub begin_is : (j more : List S) → part_begin agent_of agent j (j ++ more) ≡ first_step agent_of agent (length j) more
  begin_is j more = ap (λ z. first_step agent_of agent (length j) z) (drop-append_seam j more)

  -- a fact of two places after a call's first step is one of its part
  pub part_of_piece : (Fact : List S → ℕ → ℕ → Type 0) (j k m : List S) → IsPrefix j k → IsPrefix k m → part_begin agent_of agent j k < length k
      → Within (length k) (length m) (Fact m) → WithinPart agent_of agent j m (Fact m)
  part_of_piece Fact j k m (one, first) (two, second) begun (from, to, low, order, high, fact) =
      let at_k : part_begin agent_of agent j k ≡ first_step agent_of agent (length j) one = ap (λ (z : List S). part_begin agent_of agent j z) (sym first)
      ∙ begin_is j one in
      let k_is : length j + length one ≡ length k = sym (length-append j one) ∙ ap (λ (z : List S). length z) first in
      let b : first_step agent_of agent (length j) one < length j + length one = omega (arith, at_k, k_is, begun) in
      let whole : j ++ (one ++ two) ≡ m = sym (append_assoc j one two) ∙ (ap (λ (z : List S). z ++ two) first ∙ second) in
      let at : part_begin agent_of agent j m ≡ first_step agent_of agent (length j) one =
      ap (λ (z : List S). part_begin agent_of agent j z) (sym whole) ∙ (begin_is j (one ++ two) ∙ first_left (length j) one two b) in
      record {
        begun = omega (arith, at, b, k_is, low, order, high);
        within = (from, to, omega (arith, at, b, k_is, low), order, high, fact);
      }

  -- and so is one of the part of a later piece
  pub part_of_part : (Fact : List S → ℕ → ℕ → Type 0) (j k m : List S) → IsPrefix j k → IsPrefix k m → WithinPart agent_of agent k m (Fact m)
      → WithinPart agent_of agent j m (Fact m)
  part_of_part Fact j k m (one, first) (two, second) w =
      let (from, to, low, order, high, fact) = w.within in
      let whole : j ++ (one ++ two) ≡ m = sym (append_assoc j one two) ∙ (ap (λ (z : List S). z ++ two) first ∙ second) in
      let at_j : part_begin agent_of agent j m ≡ first_step agent_of agent (length j) (one ++ two) = ap (λ (z : List S). part_begin agent_of agent j z)
      (sym whole) ∙ begin_is j (one ++ two) in
      let at_k : part_begin agent_of agent k m ≡ first_step agent_of agent (length k) two = ap (λ (z : List S). part_begin agent_of agent k z) (sym second)
      ∙ begin_is k two in
      let k_is : length j + length one ≡ length k = sym (length-append j one) ∙ ap (λ (z : List S). length z) first in
      let right = first_right (length j) one two in
      let low_j : part_begin agent_of agent j m ≤ part_begin agent_of agent k m = rw (at_j, at_k)
      (subst (λ (z : ℕ). first_step agent_of agent (length j) (one ++ two) ≤ first_step agent_of agent z two) k_is right) in
      record { begun = omega (arith, low_j, w.begun); within = (from, to, omega (arith, low_j, low), order, high, fact) }

  -- a call's part goes on with its journal
  pub part_goes_on : (Fact : List S → ℕ → ℕ → Type 0) (j k m : List S) → ((xs more : List S) (from to : ℕ) → Fact xs from to → Fact (xs ++ more) from to)
      → IsPrefix j k → IsPrefix k m → WithinPart agent_of agent j k (Fact k) → WithinPart agent_of agent j m (Fact m)
  part_goes_on Fact j k m stays (one, first) (two, second) w =
      let (from, to, low, order, high, fact) = w.within in
      let there : Fact m from to = subst (λ (z : List S). Fact z from to) second (stays k two from to fact) in
      let whole : j ++ (one ++ two) ≡ m = sym (append_assoc j one two) ∙ (ap (λ (z : List S). z ++ two) first ∙ second) in
      let at_k : part_begin agent_of agent j k ≡ first_step agent_of agent (length j) one = ap (λ (z : List S). part_begin agent_of agent j z) (sym first)
      ∙ begin_is j one in
      let k_is : length j + length one ≡ length k = sym (length-append j one) ∙ ap (λ (z : List S). length z) first in
      let b : first_step agent_of agent (length j) one < length j + length one = omega (arith, at_k, k_is, w.begun) in
      let at : part_begin agent_of agent j m ≡ first_step agent_of agent (length j) one =
      ap (λ (z : List S). part_begin agent_of agent j z) (sym whole) ∙ (begin_is j (one ++ two) ∙ first_left (length j) one two b) in
      let m_is : length k + length two ≡ length m = sym (length-append k two) ∙ ap (λ (z : List S). length z) second in
      record { begun = omega (arith, at, b, k_is, m_is); within = (from, to, omega (arith, at, at_k, low), order, omega (arith, high, m_is), there) }

-- where a pass has new events of its own, the call's part has begun
pub part_begun : {N S : Type 0} (agent_of : S → ℕ) (events : List S → List (Event N))
    → ((j : List S) (s : S) → (es : List (Event N)) × (events (j ++ s ∷ []) ≡ events j ++ es) × (list_all (λ e. e.agent == agent_of s) es ≡ true))
    → (agent : ℕ) (j k : List S) (part own : List (Event N)) → IsPrefix j k → events k ≡ events j ++ part → events_by agent part ≡ own → 1 ≤ length own
    → part_begin agent_of agent j k < length k
part_begun {N} {S} agent_of events adds agent j k part own (more, is) new own_is some =
    let a = steps_add agent_of events adds agent j more in
    let same : part ≡ a.new = append_cancel_left (events j) part a.new (sym new ∙ (ap events (sym is) ∙ a.is)) in
    let begins : own_of agent_of agent more ≢ [] = λ none.
    let nothing : own ≡ [] = sym own_is ∙ (ap (λ (z : List (Event N)). events_by agent z) same ∙ a.none none) in
    omega (arith, some, ap (λ (z : List (Event N)). length z) nothing) in
    let first = first_some agent_of agent (length j) more begins in
    let at : part_begin agent_of agent j k ≡ first_step agent_of agent (length j) more = ap (λ (z : List S). part_begin agent_of agent j z) (sym is) ∙
    begin_is agent_of agent j more in
    let k_is : length j + length more ≡ length k = sym (length-append j more) ∙ ap (λ (z : List S). length z) is in
    omega (arith, first, at, k_is)

-- the same, by what the pass has seen
pub part_begun_seats : {N S : Type 0} (agent_of : S → ℕ) (events : List S → List (Event N))
    → ((j : List S) (s : S) → (es : List (Event N)) × (events (j ++ s ∷ []) ≡ events j ++ es) × (list_all (λ e. e.agent == agent_of s) es ≡ true))
    → (j k : List S) (s t : Seat N) (own : List (Event N)) (p : Puts s own t) → IsPrefix j k → s.seen ≡ events j → t.seen ≡ events k → 1 ≤ length own
    → part_begin agent_of s.agent j k < length k
part_begun_seats agent_of events adds j k s t own p grows is_s is_t some =
    part_begun agent_of events adds s.agent j k p.part own grows (sym is_t ∙ (p.is ∙ ap (λ z. z ++ p.part) is_s)) p.own_is some

-- a fact of a later call's piece, where the pass has put an event before that call, is one of the part of both calls
pub part_of_later : {L D P S N : Type 0} (m : LinksOf L D P S N)
    → ((links : L) (j : List S) (s : S) → (es : List (Event N)) × (m.events links (j ++ s ∷ []) ≡ m.events links j ++ es)
    × (list_all (λ e. e.agent == m.agent_of s) es ≡ true))
    → ((links : L) (p : P) → m.belongs links p → (m.seat links p).seen ≡ m.events links (m.journal p))
    → (links : L) (p q r : P) (own : List (Event N)) → m.belongs links p → m.belongs links q → Puts (m.seat links p) own (m.seat links q) → 1 ≤ length own
    → IsPrefix (m.journal p) (m.journal q) → IsPrefix (m.journal q) (m.journal r) → (fact : ℕ → List S → ℕ → ℕ → Type 0)
    → Within (length (m.journal q)) (length (m.journal r)) (fact (m.seat links q).agent (m.journal r))
    → WithinPart m.agent_of (m.seat links p).agent (m.journal p) (m.journal r) (fact (m.seat links p).agent (m.journal r))
part_of_later m adds seen_is links p q r own in_p in_q puts some first second fact within =
    let s = m.seat links p in
    let t = m.seat links q in
    let k = m.journal q in
    let end = m.journal r in
    let begun = part_begun_seats m.agent_of (m.events links) (adds links) (m.journal p) k s t own puts first (seen_is links p in_p) (seen_is links q in_q) some in
    part_of_piece m.agent_of s.agent (fact s.agent) (m.journal p) k end first second begun
    (subst (λ (x : ℕ). Within (length k) (length end) (fact x end)) puts.agent within)

-- and so is a fact of its part, whether or not the pass has put an event before
pub part_of_next : {L D P S N : Type 0} (m : LinksOf L D P S N) (links : L) (p q r : P) → (m.seat links q).agent ≡ (m.seat links p).agent
    → IsPrefix (m.journal p) (m.journal q) → IsPrefix (m.journal q) (m.journal r) → (fact : ℕ → List S → ℕ → ℕ → Type 0)
    → WithinPart m.agent_of (m.seat links q).agent (m.journal q) (m.journal r) (fact (m.seat links q).agent (m.journal r))
    → WithinPart m.agent_of (m.seat links p).agent (m.journal p) (m.journal r) (fact (m.seat links p).agent (m.journal r))
part_of_next m links p q r agent first second fact within =
    let a = (m.seat links p).agent in
    let k = m.journal q in
    let end = m.journal r in
    part_of_part m.agent_of a (fact a) (m.journal p) k end first second
    (subst (λ (x : ℕ). WithinPart m.agent_of x k end (fact x end)) agent within)
