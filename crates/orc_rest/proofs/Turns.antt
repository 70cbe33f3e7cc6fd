-- Turns follow one another.
use Rattle.std.proofs.Common.{List, [], ap, arith, get_or-set_other, refl, subst, sym, true, ℕ, ◌++◌, ◌+◌, ◌<◌, ◌∙◌, ◌∷◌, ◌≡◌, ◌≢◌, ◌≤◌}
use Rattle.std.specs.Prelude.{slice_index_or, slice_set}
use Rattle.orc_core.proofs.Steps.{IsLawful-append, run-append}
use Rattle.orc_core.specs.After.{after}
use Rattle.orc_core.specs.Machine.{Machine, is_allowed, new_machine, nobody, record_at, step, word_in, word_read}
use Rattle.orc_core.specs.RecordParts.{is_empty, slot_of}
use Rattle.orc_core.specs.Runs.{IsLawful, run}
use Rattle.orc_core.specs.declared.ops.Op.{Op}
use Rattle.orc_rest.proofs.ForRuns.{other_handovers, own_words, work_falls}
use Rattle.orc_rest.specs.Turns.{AllOf, IsReachedState, MadeAfterOthers, NoSlotsBut, NoneHanded, NoneOf, StaysZero, Turn}
use Rattle.orc_rest.specs.Work.{IsSettlingStep, drop_of, work_left}
use Rattle.orc_sound.proofs.AllFits.{run_bounds}
use Rattle.orc_words.specs.Bounds.{Bounds}
use Rattle.orc_words.specs.declared.place.Word.TheVariants.{Handover}

pub lawful_join : (m : Machine) (xs ys : List (ℕ × Op)) → IsLawful m xs → IsLawful (run m xs) ys → IsLawful m (xs ++ ys)
lawful_join m xs ys l k = (IsLawful-append m xs ys).1 (l, k)

pub lawful_left : (m : Machine) (xs ys : List (ℕ × Op)) → IsLawful m (xs ++ ys) → IsLawful m xs
lawful_left m xs ys l = ((IsLawful-append m xs ys).0 l).0

pub all_left : (a : ℕ) (xs ys : List (ℕ × Op)) → AllOf a (xs ++ ys) → AllOf a xs
all_left a [] ys h = tt
all_left a (x ∷ xs) ys h = (h.0, all_left a xs ys h.1)

pub all_right : (a : ℕ) (xs ys : List (ℕ × Op)) → AllOf a (xs ++ ys) → AllOf a ys
all_right a [] ys h = h
all_right a (x ∷ xs) ys h = all_right a xs ys h.1

-- the agent's own steps leave the other records
pub own_keep : (m : Machine) (a x : ℕ) (xs : List (ℕ × Op)) → AllOf a xs → x ≢ a → record_at (run m xs) x ≡ record_at m x
own_keep m a x [] h n = refl
own_keep m a x (y ∷ ys) h n = own_keep (step m y.0 y.1) a x ys h.1 n ∙ kept
  where
    kept : slice_index_or (slice_set m.agents y.0 (after y.1 (record_at m y.0) (word_read m y.0 y.1))) x (nobody m.bounds.rows) ≡ slice_index_or m.agents x
        (nobody m.bounds.rows)
    kept = get_or-set_other m.agents y.0 x (after y.1 (record_at m y.0) (word_read m y.0 y.1)) (nobody m.bounds.rows) (λ e. n (e ∙ h.0))

pub still_no_slots : (m n : Machine) (a : ℕ) (xs : List (ℕ × Op)) → AllOf a xs → n ≡ run m xs → NoSlotsBut a m → NoSlotsBut a n
still_no_slots m n a xs h e s x j ne = subst (λ d. is_empty (slot_of d j) ≡ true) (sym (ap (λ w. record_at w x) e ∙ own_keep m a x xs h ne)) (s x j ne)

pub zero_join : (m n o : Machine) (a : ℕ) (xs ys : List (ℕ × Op)) → n ≡ run m xs → (AllOf a xs → NoSlotsBut a m → StaysZero a m n)
    → (AllOf a ys → NoSlotsBut a n → StaysZero a n o) → AllOf a (xs ++ ys) → NoSlotsBut a m → StaysZero a m o
zero_join m n o a xs ys e f g h s x k lx lk ne z =
    let b : n.bounds ≡ m.bounds = ap (λ (w : Machine). w.bounds) e ∙ run_bounds m xs in
    g (all_right a xs ys h) (still_no_slots m n a xs (all_left a xs ys h) e s) x k (subst (λ (c : Bounds). x < c.agents) (sym b) lx) lk ne
    (f (all_left a xs ys h) s x k lx lk ne z)

abbrev pub turn_join : (a x y : ℕ) (m n k : Machine) → Turn a x m n → Turn a y n k → Turn a (x + y) m k
turn_join a x y m n k t u = record {
  steps = t.steps ++ u.steps;
  lawful = lawful_join m t.steps u.steps t.lawful (subst (λ w. IsLawful w u.steps) t.is u.lawful);
  is = u.is ∙ (ap (λ w. run w u.steps) t.is ∙ sym (run-append m t.steps u.steps));
  falls = λ h. let i = t.falls (all_left a t.steps u.steps h) in let j = u.falls (all_right a t.steps u.steps h) in omega arith;
  hands = λ h z. u.hands (all_right a t.steps u.steps h) (t.hands (all_left a t.steps u.steps h) z);
  others = zero_join m n k a t.steps u.steps t.is t.others u.others;
}

abbrev pub no_turn : (a : ℕ) (m : Machine) → Turn a 0 m m
no_turn a m = record { steps = []; lawful = tt; is = refl; falls = λ h. omega arith; hands = λ h z. z; others = λ h s x k lx lk ne z. z }

pub reached_on : (m n : Machine) (steps : List (ℕ × Op)) → IsReachedState m → IsLawful m steps → n ≡ run m steps → IsReachedState n
reached_on m n steps r l e = record {
  bounds = r.bounds;
  steps = r.steps ++ steps;
  shape = r.shape;
  lawful = lawful_join (new_machine r.bounds) r.steps steps r.lawful (subst (λ w. IsLawful w steps) r.is l);
  is = e ∙ (ap (λ w. run w steps) r.is ∙ sym (run-append (new_machine r.bounds) r.steps steps));
}

-- none of the others' steps is the agent's
pub none_all : (a : ℕ) (xs : List (ℕ × Op)) → NoneOf a xs → AllOf a xs → xs ≡ []
none_all a [] n h = refl
none_all a (x ∷ xs) n h = absurd (n.0 h.0)

pub reached_falls : (m : Machine) (a : ℕ) (op : Op) → IsReachedState m → is_allowed m a op ≡ true → IsSettlingStep (word_in m) op (record_at m a)
    → work_left (step m a op) a + drop_of op (record_at m a) ≤ work_left m a
reached_falls m a op r = subst (λ w. is_allowed w a op ≡ true → IsSettlingStep (word_in w) op (record_at w a)
    → work_left (step w a op) a + drop_of op (record_at w a) ≤ work_left w a) (sym r.is) (work_falls r.bounds r.steps a op r.shape r.lawful)

pub reached_hands : (m : Machine) (a : ℕ) (op : Op) (k : ℕ) → k < 8 → IsReachedState m → is_allowed m a op ≡ true
    → IsSettlingStep (word_in m) op (record_at m a) → word_in m (Handover a k) ≡ 0 → word_in (step m a op) (Handover a k) ≡ 0
reached_hands m a op k i r = subst (λ w. is_allowed w a op ≡ true → IsSettlingStep (word_in w) op (record_at w a) → word_in w (Handover a k) ≡ 0
    → word_in (step w a op) (Handover a k) ≡ 0) (sym r.is) (own_words r.bounds r.steps a op k r.shape r.lawful i)

pub reached_others : (m : Machine) (a : ℕ) (op : Op) (x k : ℕ) → x < m.bounds.agents → k < 8 → x ≢ a → IsReachedState m → is_allowed m a op ≡ true
    → IsSettlingStep (word_in m) op (record_at m a) → NoSlotsBut a m → word_in m (Handover x k) ≡ 0 → word_in (step m a op) (Handover x k) ≡ 0
reached_others m a op x k lx lk ne r = subst (λ w. x < w.bounds.agents → is_allowed w a op ≡ true → IsSettlingStep (word_in w) op (record_at w a)
    → NoSlotsBut a w → word_in w (Handover x k) ≡ 0 → word_in (step w a op) (Handover x k) ≡ 0) (sym r.is)
    (other_handovers r.bounds r.steps a op x k r.shape r.lawful lk ne) lx

-- a step that settles is a turn: alone, it was made right at the state before
abbrev pub made_turn : (m n : Machine) (a : ℕ) (op : Op) → IsReachedState m → is_allowed m a op ≡ true → IsSettlingStep (word_in m) op (record_at m a)
    → MadeAfterOthers a op m n → Turn a (drop_of op (record_at m a)) m n
made_turn m n a op r h s k = record {
  steps = k.others ++ (a, op) ∷ [];
  lawful = k.lawful;
  is = k.is;
  falls = λ all.
      let none : k.others ≡ [] = none_all a k.others k.apart (all_left a k.others ((a, op) ∷ []) all) in
      let at : n ≡ step m a op = k.is ∙ ap (λ o. run m (o ++ (a, op) ∷ [])) none in
      subst (λ w. work_left w a + drop_of op (record_at m a) ≤ work_left m a) (sym at) (reached_falls m a op r h s);
  hands = λ all z.
      let none : k.others ≡ [] = none_all a k.others k.apart (all_left a k.others ((a, op) ∷ []) all) in
      let at : n ≡ step m a op = k.is ∙ ap (λ o. run m (o ++ (a, op) ∷ [])) none in
      subst (NoneHanded a) (sym at) (λ i l. reached_hands m a op i l r h s (z i l));
  others = λ all q.
      let none : k.others ≡ [] = none_all a k.others k.apart (all_left a k.others ((a, op) ∷ []) all) in
      let at : n ≡ step m a op = k.is ∙ ap (λ o. run m (o ++ (a, op) ∷ [])) none in
      subst (StaysZero a m) (sym at) (λ x i lx li ne z. reached_others m a op x i lx li ne r h s q z);
}
