-- One more step in front of those that are played.
use Rattle.std.proofs.Common.{◌≡◌, ◌≢◌, ◌∙◌, ℕ, ◌+◌, ◌≤◌, true, false, ◌==◌, List, [], ◌∷◌, ◌++◌, append_assoc, refl, sym, subst, ap, arith, length, length-append}
use Rattle.std.proofs.lemmas.Bool.Decides.{nat_tests}
use Rattle.std.proofs.lemmas.List.Elements.{All-cons, All-head, All-nil, All-tail}
use Rattle.orc_words.specs.Bounds.{Bounds, IsShape}
use Rattle.orc_core.specs.declared.ops.Op.{Op}
use Rattle.orc_core.specs.Machine.{LeavesRoom, Machine, is_allowed, new_machine, step}
use Rattle.orc_core.specs.Runs.{run}
use Rattle.orc_sound.proofs.ForRuns.{room_left}
use Rattle.orc_trace.specs.Replay.{BeginsWithSteps}
use Rattle.orc_trace_text.specs.FirstLines.{HasStepLine}
use Rattle.orc_trace_text.specs.TraceText.{IsReadable, step_line, steps_text}

pub Begins-nil : (b : Bounds) (m : Machine) (bytes : List ℕ) → BeginsWithSteps b m [] bytes bytes
Begins-nil b m bytes = record { text = refl; readable = All-nil (IsReadable b); lawful = tt }

-- a step that is allowed, and then others
pub Begins-cons : (b : Bounds) (m : Machine) (s : ℕ × Op) (front : List (ℕ × Op)) (rest more bytes : List ℕ)
    → HasStepLine b s more bytes → is_allowed m s.0 s.1 ≡ true → BeginsWithSteps b (step m s.0 s.1) front rest more → BeginsWithSteps b m (s ∷ front) rest bytes
Begins-cons b m s front rest more bytes line made h =
    record {
      text = line.text ∙ ap (λ (t : List ℕ). step_line s.0 s.1 ++ 10 ∷ t) h.text ∙ sym (append_assoc (step_line s.0 s.1) (10 ∷ steps_text front) rest);
      readable = All-cons (IsReadable b) s front line.readable h.readable;
      lawful = (made, h.lawful);
    }

-- the first of the steps, and the others
pub record First (b : Bounds) (m : Machine) (s : ℕ × Op) (front : List (ℕ × Op)) (rest bytes : List ℕ) : Type 0 where
  pub line : HasStepLine b s (steps_text front ++ rest) bytes
  pub made : is_allowed m s.0 s.1 ≡ true
  pub others : BeginsWithSteps b (step m s.0 s.1) front rest (steps_text front ++ rest)

pub Begins-first : (b : Bounds) (m : Machine) (s : ℕ × Op) (front : List (ℕ × Op)) (rest bytes : List ℕ) → BeginsWithSteps b m (s ∷ front) rest bytes
    → First b m s front rest bytes
Begins-first b m s front rest bytes h = record {
  line = record {
    text = h.text ∙ append_assoc (step_line s.0 s.1) (10 ∷ steps_text front) rest;
    readable = All-head (IsReadable b) s front h.readable;
  };
  made = h.lawful.0;
  others = record { text = refl; readable = All-tail (IsReadable b) s front h.readable; lawful = h.lawful.1 };
}

-- ---- what is played so far

-- n steps lead from the first state and lines to this state and these bytes: what is played on from here is played from there
abbrev pub Continues : Bounds → Machine → List ℕ → ℕ → Machine → List ℕ → Type 0
Continues b m lines n now bytes = (front : List (ℕ × Op)) (rest : List ℕ) → BeginsWithSteps b now front rest bytes
    → (all : List (ℕ × Op)) × BeginsWithSteps b m all rest lines × (length all ≡ n + length front) × (run m all ≡ run now front)

pub Continues-start : (b : Bounds) (m : Machine) (lines : List ℕ) → Continues b m lines 0 m lines
Continues-start b m lines front rest h = (front, h, omega arith, refl)

pub Continues-step : (b : Bounds) (m : Machine) (lines : List ℕ) (n : ℕ) (now : Machine) (bytes : List ℕ) (s : ℕ × Op) (more : List ℕ)
    → Continues b m lines n now bytes → HasStepLine b s more bytes → is_allowed now s.0 s.1 ≡ true → Continues b m lines (n + 1) (step now s.0 s.1) more
Continues-step b m lines n now bytes s more so line made front rest h =
    let found = so (s ∷ front) rest (Begins-cons b now s front rest more bytes line made h) in
    let size = found.2 in
    (found.0, found.1, omega (arith, size), found.3)

-- where the lines end, or the rest can't be played on
pub Continues-here : (b : Bounds) (m : Machine) (lines : List ℕ) (n : ℕ) (now : Machine) (bytes : List ℕ) → Continues b m lines n now bytes
    → (all : List (ℕ × Op)) × BeginsWithSteps b m all bytes lines × (length all ≡ n) × (run m all ≡ now)
Continues-here b m lines n now bytes so =
    let found = so [] bytes (Begins-nil b now bytes) in
    let size = found.2 in
    (found.0, found.1, omega (arith, size), found.3)

-- the next step leaves its agent's work list room
pub room-here : (b : Bounds) (lines : List ℕ) (n : ℕ) (now : Machine) (bytes : List ℕ) (a : ℕ) (op : Op) → IsShape b
    → Continues b (new_machine b) lines n now bytes → LeavesRoom now a op
room-here b lines n now bytes a op shape so =
    let here = Continues-here b (new_machine b) lines n now bytes so in
    subst (λ (m : Machine). LeavesRoom m a op) here.3 (room_left b here.0 a op shape here.1.lawful)

-- ---- the bytes that are left

pub none-left : (bytes : List ℕ) → (length bytes == 0) ≡ true → bytes ≡ []
none-left [] h = refl
none-left (x ∷ xs) h = absurd (grind (arith, nat_tests))

pub some-left : (bytes : List ℕ) → (length bytes == 0) ≡ false → bytes ≢ []
some-left [] h e = cc h
some-left (x ∷ xs) h e = cc e

-- a step's line takes a byte at least
pub step-shorter : (b : Bounds) (s : ℕ × Op) (more bytes : List ℕ) → HasStepLine b s more bytes → length more + 1 ≤ length bytes
step-shorter b s more bytes h =
    let size = ap length h.text in
    let parts = length-append (step_line s.0 s.1) (10 ∷ more) in
    omega (arith, size, parts)
