-- A step of the state on lists is the step of the state as functions.
use Rattle.std.proofs.Common.{Bool, List, ap, arith, cond, false, get_or-set_other, get_or-set_same, length, refl, sym, true, ℕ, ◌<◌, ◌∙◌, ◌≡◌}
use Rattle.std.proofs.Math.Path.{fun_ext}
use Rattle.std.proofs.lemmas.Bool.{eq-eqb, eqb-true, false≢true}
use Rattle.std.specs.Prelude.{slice_index, slice_index_or, slice_set, ◌==◌}
use Rattle.orc_words.proofs.Positions.{place_below, same_place}
use Rattle.orc_words.specs.Bounds.{Bounds}
use Rattle.orc_words.specs.Places.{IsWithin, place, places}
use Rattle.orc_words.specs.declared.place.Word.{Word}
use Rattle.orc_words.specs.declared.place.Word.TheVariants.{Counter, Enrolled, First, Gate, Handover, Next, Root, Second, Slot, Side}
use Rattle.orc_core.proofs.Within.{and_both, may_parts, may_within}
use Rattle.orc_core.specs.Actions.{action_of}
use Rattle.orc_core.specs.Machine.{Machine, is_allowed, nobody, record_at, step}
use Rattle.orc_core.specs.declared.ops.Op.{Op}
use Rattle.orc_core.specs.declared.records.Agent.{Agent}
use Rattle.orc_sound.proofs.World.{World, is_within, same_word, seat, step_world, world_of, write}

pub same_word-true : (x w : Word) → same_word x w ≡ true → x ≡ w
same_word-true Enrolled Enrolled h = refl
same_word-true (Root i) (Root j) h = ap Root (eqb-true i j h)
same_word-true (Gate i) (Gate j) h = ap Gate (eqb-true i j h)
same_word-true (Counter i) (Counter j) h = ap Counter (eqb-true i j h)
same_word-true (First i) (First j) h = ap First (eqb-true i j h)
same_word-true (Second i) (Second j) h = ap Second (eqb-true i j h)
same_word-true (Next i) (Next j) h = ap Next (eqb-true i j h)
same_word-true (Side i) (Side j) h = ap Side (eqb-true i j h)
same_word-true (Slot a i) (Slot b j) h = let p = and_both (a == b) (i == j) h in let e = eqb-true a b p.0 in let f = eqb-true i j p.1 in cc
same_word-true (Handover a i) (Handover b j) h = let p = and_both (a == b) (i == j) h in let e = eqb-true a b p.0 in let f = eqb-true i j p.1 in cc
same_word-true x w h = absurd (false≢true h)

pub same_word-self : (w : Word) → same_word w w ≡ true
same_word-self Enrolled = refl
same_word-self (Root i) = eq-eqb i i refl
same_word-self (Gate i) = eq-eqb i i refl
same_word-self (Counter i) = eq-eqb i i refl
same_word-self (First i) = eq-eqb i i refl
same_word-self (Second i) = eq-eqb i i refl
same_word-self (Next i) = eq-eqb i i refl
same_word-self (Side i) = eq-eqb i i refl
same_word-self (Slot a i) = rw (eq-eqb a a refl, eq-eqb i i refl)
same_word-self (Handover a i) = rw (eq-eqb a a refl, eq-eqb i i refl)

pub is_within-true : (s : Bounds) (w : Word) → is_within s w ≡ true → IsWithin s w
is_within-true s Enrolled h = tt
is_within-true s (Root i) h = grind arith
is_within-true s (Gate i) h = grind arith
is_within-true s (Counter i) h = grind arith
is_within-true s (First i) h = grind arith
is_within-true s (Second i) h = grind arith
is_within-true s (Next i) h = grind arith
is_within-true s (Side i) h = grind arith
is_within-true s (Slot a k) h = grind arith
is_within-true s (Handover a k) h = grind arith

pub IsWithin-is_within : (s : Bounds) (w : Word) → IsWithin s w → is_within s w ≡ true
IsWithin-is_within s Enrolled h = refl
IsWithin-is_within s (Root i) h = grind arith
IsWithin-is_within s (Gate i) h = grind arith
IsWithin-is_within s (Counter i) h = grind arith
IsWithin-is_within s (First i) h = grind arith
IsWithin-is_within s (Second i) h = grind arith
IsWithin-is_within s (Next i) h = grind arith
IsWithin-is_within s (Side i) h = grind arith
IsWithin-is_within s (Slot a k) h = grind arith
IsWithin-is_within s (Handover a k) h = grind arith

-- the memory that a list of words shows
shown : Bounds → List ℕ → Word → ℕ
shown s ws x = cond (is_within s x) (slice_index ws (place s x)) 0

shown_set : (s : Bounds) (ws : List ℕ) (w : Word) (v : ℕ) (x : Word) → IsWithin s w → length ws ≡ places s → (a b : Bool) → same_word x w ≡ a
    → is_within s x ≡ b → cond b (slice_index (slice_set ws (place s w) v) (place s x)) 0 ≡ cond a v (cond b (slice_index ws (place s x)) 0)
shown_set s ws w v x h long true true e f = rw (same_word-true x w e) (get_or-set_same ws (place s w) v 0 (rw long (place_below s w h)))
shown_set s ws w v x h long true false e f = absurd (false≢true (sym f ∙ ap (is_within s) (same_word-true x w e) ∙ IsWithin-is_within s w h))
shown_set s ws w v x h long false false e f = refl
shown_set s ws w v x h long false true e f =
    get_or-set_other ws (place s w) (place s x) v 0
    (λ p. false≢true (sym e ∙ ap (λ y. same_word y w) (same_place s x w (is_within-true s x f) h p) ∙ same_word-self w))

memory_set : (s : Bounds) (ws : List ℕ) (w : Word) (v : ℕ) → IsWithin s w → length ws ≡ places s → shown s (slice_set ws (place s w) v) ≡ write (shown s ws) w v
unfolding shown
memory_set s ws w v h long = fun_ext (λ x. shown_set s ws w v x h long (same_word x w) (is_within s x) refl refl)

shown_within : (s : Bounds) (ws : List ℕ) (w : Word) → IsWithin s w → shown s ws w ≡ slice_index ws (place s w)
unfolding shown
shown_within s ws w h = rw (IsWithin-is_within s w h)

seats_at : (agents : List Agent) (a : ℕ) (d e : Agent) (b : ℕ) → a < length agents → (t : Bool) → (b == a) ≡ t
    → slice_index_or (slice_set agents a d) b e ≡ cond t d (slice_index_or agents b e)
seats_at agents a d e b h true t = rw (eqb-true b a t) (get_or-set_same agents a d e h)
seats_at agents a d e b h false t = get_or-set_other agents a b d e (λ p. false≢true (sym t ∙ eq-eqb b a p))

seats_set : (agents : List Agent) (a : ℕ) (d e : Agent) → a < length agents
    → (λ b. slice_index_or (slice_set agents a d) b e) ≡ seat (λ b. slice_index_or agents b e) a d
seats_set agents a d e h = fun_ext (λ b. seats_at agents a d e b h (b == a) refl)

same_world : (m n : Word → ℕ) (p q : ℕ → Agent) → m ≡ n → p ≡ q → (let w : World = record { memory = m; seats = p } in w) ≡ record { memory = n; seats = q }
same_world m n p q e f = λ i. record { memory = e i; seats = f i }

pub world_step : (m : Machine) (a : ℕ) (op : Op) → length m.words ≡ places m.bounds → length m.agents ≡ m.bounds.agents → is_allowed m a op ≡ true
    → world_of (step m a op) ≡ step_world (world_of m) a op
unfolding shown
world_step m a op long many h =
    let within : IsWithin m.bounds (action_of a op (record_at m a)).word = may_within m.bounds _ a op (record_at m a) h in
    let agent : a < length m.agents = rw many (may_parts m.bounds _ a op (record_at m a) h).agent in
    let read = shown_within m.bounds m.words (action_of a op (record_at m a)).word within in
    same_world _ _ _ _ (rw read (memory_set m.bounds m.words (action_of a op (record_at m a)).word _ within long))
    (rw read (seats_set m.agents a _ (nobody m.bounds.rows) agent))
