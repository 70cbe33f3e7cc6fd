-- Bytes have one answer: they are a trace of one list of steps, or have one first fault.
use Rattle.std.proofs.Common.{◌≡◌, ◌≢◌, ◌∙◌, ℕ, ◌⊎◌, inl, inr, true, List, [], ◌∷◌, ◌++◌, refl, sym, ap, ap₂, subst, length}
use Rattle.orc_words.specs.Bounds.{Bounds, IsShape}
use Rattle.orc_core.specs.declared.ops.Op.{Op}
use Rattle.orc_core.specs.Counts.{census_of}
use Rattle.orc_core.specs.Machine.{Machine, is_allowed, new_machine, step}
use Rattle.orc_core.specs.Runs.{run}
use Rattle.orc_trace.specs.declared.answers.Replayed.{Replayed}
use Rattle.orc_trace_text.specs.declared.shape_line.ShapeWord.{ShapeWord}
use Rattle.orc_trace_text.specs.declared.shape_line.ShapeWord.TheVariants as word
use Rattle.orc_trace.specs.declared.answers.TraceFault.{TraceFault}
use Rattle.orc_trace.specs.declared.answers.TraceFault.TheVariants as fault
use Rattle.orc_trace.specs.Replay.{BeginsWithSteps, IsBadRecord, IsReplay, IsUnreadable, RefusesTrace}
use Rattle.orc_trace_text.specs.FirstLines.{HasShapeLine, HasStepLine, HasTable, IsFirstOut, IsShapeFault}
use Rattle.orc_trace_text.specs.TraceText.{step_line, steps_text}
use Rattle.orc_trace_text.proofs.Lines.{shape-unique, step-unique, wide-shape}
use Rattle.orc_trace.proofs.Plays.{Begins-first}

-- ---- how the steps end

data End : Type 0 where
  whole : End
  unread : End
  refused : End

abbrev Ends : Bounds → Machine → List ℕ → End → Type 0
Ends b m rest whole = rest ≡ []
Ends b m rest unread = IsUnreadable b rest
Ends b m rest refused = IsBadRecord b m rest

longer : (x r : List ℕ) → x ++ 10 ∷ r ≡ [] → ⊥
longer [] r e = cc e
longer (c ∷ xs) r e = cc e

not_empty : (b : Bounds) (s : ℕ × Op) (more rest : List ℕ) → HasStepLine b s more rest → rest ≡ [] → ⊥
not_empty b s more rest line e = longer (step_line s.0 s.1) more (sym line.text ∙ e)

same_end : (b : Bounds) (m : Machine) (rest : List ℕ) (e f : End) → IsShape b → Ends b m rest e → Ends b m rest f → e ≡ f
same_end b m rest whole whole s h k = refl
same_end b m rest whole unread s h k = absurd (k.0 h)
same_end b m rest whole refused s h k = absurd (not_empty b k.0 k.1 rest k.2 h)
same_end b m rest unread whole s h k = absurd (h.0 k)
same_end b m rest unread unread s h k = refl
same_end b m rest unread refused s h k = absurd (h.1 k.0 k.1 k.2)
same_end b m rest refused whole s h k = absurd (not_empty b h.0 h.1 rest h.2 k)
same_end b m rest refused unread s h k = absurd (k.1 h.0 h.1 h.2)
same_end b m rest refused refused s h k = refl

-- no end stands before a step that can be made
no_end : (b : Bounds) (m : Machine) (s : ℕ × Op) (more rest : List ℕ) (e : End) → IsShape b → HasStepLine b s more rest → is_allowed m s.0 s.1 ≡ true
    → Ends b m rest e → ⊥
no_end b m s more rest whole shape line made h = not_empty b s more rest line h
no_end b m s more rest unread shape line made h = h.1 s more line
no_end b m s more rest refused shape line made h =
    let same = step-unique b s h.0 more h.1 rest shape line h.2 in
    let yes = subst (λ (x : ℕ × Op). is_allowed m x.0 x.1 ≡ true) same.0 made in
    let bad = sym yes ∙ h.3 in
    cc bad

one_end : (b : Bounds) (m : Machine) (front back : List (ℕ × Op)) (rest left bytes : List ℕ) (e f : End) → IsShape b
    → BeginsWithSteps b m front rest bytes → Ends b (run m front) rest e → BeginsWithSteps b m back left bytes → Ends b (run m back) left f → (front ≡ back) × (e ≡ f)
one_end b m [] [] rest left bytes e f shape h i k j =
    let same = sym h.text ∙ k.text in
    (refl, same_end b m left e f shape (subst (λ (x : List ℕ). Ends b m x e) same i) j)
one_end b m [] (t ∷ ts) rest left bytes e f shape h i k j =
    let first = Begins-first b m t ts left bytes k in
    absurd (no_end b m t (steps_text ts ++ left) rest e shape (subst (λ (x : List ℕ). HasStepLine b t (steps_text ts ++ left) x) h.text first.line)
    first.made i)
one_end b m (s ∷ ss) [] rest left bytes e f shape h i k j =
    let first = Begins-first b m s ss rest bytes h in
    absurd (no_end b m s (steps_text ss ++ rest) left f shape (subst (λ (x : List ℕ). HasStepLine b s (steps_text ss ++ rest) x) k.text first.line)
    first.made j)
one_end b m (s ∷ ss) (t ∷ ts) rest left bytes e f shape h i k j =
    let first = Begins-first b m s ss rest bytes h in
    let other = Begins-first b m t ts left bytes k in
    let same = step-unique b s t (steps_text ss ++ rest) (steps_text ts ++ left) bytes shape first.line other.line in
    let moved = subst (λ (x : ℕ × Op). BeginsWithSteps b (step m x.0 x.1) ts left (steps_text ts ++ left)) (sym same.0) other.others in
    let there = subst (λ (x : List ℕ). BeginsWithSteps b (step m s.0 s.1) ts left x) (sym same.1) moved in
    let end = subst (λ (x : ℕ × Op). Ends b (run (step m x.0 x.1) ts) left f) (sym same.0) j in
    let more = one_end b (step m s.0 s.1) ss ts rest left (steps_text ss ++ rest) e f shape first.others i there end in
    (ap₂ (λ (x : ℕ × Op) (xs : List (ℕ × Op)). x ∷ xs) same.0 more.0, more.1)

-- ---- how the bytes end

-- a shape in range, these steps, and this end
record Reached (bytes : List ℕ) (b : Bounds) (front : List (ℕ × Op)) (e : End) : Type 0 where
  lines : List ℕ
  rest : List ℕ
  table : HasTable b lines bytes
  steps : BeginsWithSteps b (new_machine b) front rest lines
  end : Ends b (run (new_machine b) front) rest e

shape_line : (b : Bounds) (lines bytes : List ℕ) → HasTable b lines bytes → HasShapeLine b lines bytes
shape_line b lines bytes h = record { line = h.line; spells = h.spells; text = h.text; wide = wide-shape b h.shape }

one_reached : (bytes : List ℕ) (b c : Bounds) (front back : List (ℕ × Op)) (e f : End) → Reached bytes b front e → Reached bytes c back f
    → (b ≡ c) × (front ≡ back) × (e ≡ f)
one_reached bytes b c front back e f h k =
    let same = shape-unique b c h.lines k.lines bytes (shape_line b h.lines bytes h.table) (shape_line c k.lines bytes k.table) in
    let moved = subst (λ (x : Bounds). BeginsWithSteps x (new_machine x) back k.rest k.lines) (sym same.0) k.steps in
    let there = subst (λ (x : List ℕ). BeginsWithSteps b (new_machine b) back k.rest x) (sym same.1) moved in
    let end = subst (λ (x : Bounds). Ends x (run (new_machine x) back) k.rest f) (sym same.0) k.end in
    let ends = one_end b (new_machine b) front back h.rest k.rest h.lines e f h.table.shape h.steps h.end there end in
    (same.0, ends.0, ends.1)

whole_trace : (bytes : List ℕ) (r : Replayed) → (h : IsReplay bytes r) → Reached bytes h.0 h.2 whole
whole_trace bytes r h = record { lines = h.1; rest = []; table = h.3; steps = h.4; end = refl }

unread_step : (bytes : List ℕ) (n : ℕ) → (h : RefusesTrace bytes (fault.Unreadable n)) → Reached bytes h.0 h.3.0 unread
unread_step bytes n h = record { lines = h.1; rest = h.3.1; table = h.2; steps = h.3.2; end = h.3.4 }

refused_step : (bytes : List ℕ) (n : ℕ) → (h : RefusesTrace bytes (fault.NotAllowed n)) → Reached bytes h.0 h.3.0 refused
refused_step bytes n h = record { lines = h.1; rest = h.3.1; table = h.2; steps = h.3.2; end = h.3.4 }

-- ---- first lines

-- no line of a shape, or one that is out of range
abbrev OutOfRange : List ℕ → ShapeWord → Type 0
OutOfRange bytes w = (b : Bounds) × (rest : List ℕ) × HasShapeLine b rest bytes × IsFirstOut b w

shape_fault : (bytes : List ℕ) (w : ShapeWord) → IsShapeFault bytes w
    → ((w ≡ word.Unreadable) × ((b : Bounds) (rest : List ℕ) → ¬ HasShapeLine b rest bytes)) ⊎ OutOfRange bytes w
shape_fault bytes word.Unreadable h = inl (refl, h)
shape_fault bytes word.Rows h = inr h
shape_fault bytes word.Roots h = inr h
shape_fault bytes word.Agents h = inr h
shape_fault bytes word.Limit h = inr h
shape_fault bytes word.Links h = inr h

not_out : (b : Bounds) (w : ShapeWord) → IsShape b → IsFirstOut b w → ⊥
not_out b word.Unreadable s h = h
not_out b word.Rows s h = h.1 s.rows
not_out b word.Roots s h = h.2 s.roots
not_out b word.Agents s h = h.3 s.agents
not_out b word.Limit s h = h.4 s.limit
not_out b word.Links s h = h.5 s.links

one_out : (b : Bounds) (w v : ShapeWord) → IsFirstOut b w → IsFirstOut b v → w ≡ v
one_out b word.Unreadable v h k = absurd h
one_out b w word.Unreadable h k = absurd k
one_out b word.Rows word.Rows h k = refl
one_out b word.Rows word.Roots h k = absurd (h.1 k.1)
one_out b word.Rows word.Agents h k = absurd (h.1 k.1)
one_out b word.Rows word.Limit h k = absurd (h.1 k.1)
one_out b word.Rows word.Links h k = absurd (h.1 k.1)
one_out b word.Roots word.Rows h k = absurd (k.1 h.1)
one_out b word.Roots word.Roots h k = refl
one_out b word.Roots word.Agents h k = absurd (h.2 k.2)
one_out b word.Roots word.Limit h k = absurd (h.2 k.2)
one_out b word.Roots word.Links h k = absurd (h.2 k.2)
one_out b word.Agents word.Rows h k = absurd (k.1 h.1)
one_out b word.Agents word.Roots h k = absurd (k.2 h.2)
one_out b word.Agents word.Agents h k = refl
one_out b word.Agents word.Limit h k = absurd (h.3 k.3)
one_out b word.Agents word.Links h k = absurd (h.3 k.3)
one_out b word.Limit word.Rows h k = absurd (k.1 h.1)
one_out b word.Limit word.Roots h k = absurd (k.2 h.2)
one_out b word.Limit word.Agents h k = absurd (k.3 h.3)
one_out b word.Limit word.Limit h k = refl
one_out b word.Limit word.Links h k = absurd (h.4 k.4)
one_out b word.Links word.Rows h k = absurd (k.1 h.1)
one_out b word.Links word.Roots h k = absurd (k.2 h.2)
one_out b word.Links word.Agents h k = absurd (k.3 h.3)
one_out b word.Links word.Limit h k = absurd (k.4 h.4)
one_out b word.Links word.Links h k = refl

one_shape_fault : (bytes : List ℕ) (w v : ShapeWord) → IsShapeFault bytes w → IsShapeFault bytes v → w ≡ v
one_shape_fault bytes w v h k = elim (shape_fault bytes w h) [
  | inl none ↦ elim (shape_fault bytes v k) [
    | inl also ↦ none.0 ∙ sym also.0
    | inr out ↦ absurd (none.1 out.0 out.1 out.2)
  ]
  | inr out ↦ elim (shape_fault bytes v k) [
    | inl none ↦ absurd (none.1 out.0 out.1 out.2)
    | inr also ↦
        let same = shape-unique out.0 also.0 out.1 also.1 bytes out.2 also.2 in
        one_out also.0 w v (subst (λ (x : Bounds). IsFirstOut x w) same.0 out.3) also.3
  ]
]

-- a shape in range is no fault of the first line
in_range : (bytes : List ℕ) (b : Bounds) (front : List (ℕ × Op)) (e : End) (w : ShapeWord) → Reached bytes b front e → IsShapeFault bytes w → ⊥
in_range bytes b front e w h k = elim (shape_fault bytes w k) [
  | inl none ↦ none.1 b h.lines (shape_line b h.lines bytes h.table)
  | inr out ↦
      let same = shape-unique b out.0 h.lines out.1 bytes (shape_line b h.lines bytes h.table) out.2 in
      not_out out.0 w (subst IsShape same.0 h.table.shape) out.3
]

-- ---- one answer

-- the shape and the steps that a trace plays
pub steps-unique : (bytes : List ℕ) (r q : Replayed) → (h : IsReplay bytes r) → (k : IsReplay bytes q) → (h.0 ≡ k.0) × (h.2 ≡ k.2)
steps-unique bytes r q h k =
    let same = one_reached bytes h.0 k.0 h.2 k.2 whole whole (whole_trace bytes r h) (whole_trace bytes q k) in
    (same.0, same.1)

pub replay-unique : (bytes : List ℕ) (r q : Replayed) → IsReplay bytes r → IsReplay bytes q → r ≡ q
replay-unique bytes r q h k =
    let same = steps-unique bytes r q h k in
    let answer : Bounds → List (ℕ × Op) → Replayed = λ b steps. record { steps = length steps; census = census_of (run (new_machine b) steps) } in
    h.5 ∙ ap₂ answer same.0 same.1 ∙ sym k.5

pub replay-not_refused : (bytes : List ℕ) (r : Replayed) (f : TraceFault) → f ≢ fault.NoMemory → IsReplay bytes r → RefusesTrace bytes f → ⊥
replay-not_refused bytes r (fault.Shape w) other h k = in_range bytes h.0 h.2 whole w (whole_trace bytes r h) k
replay-not_refused bytes r (fault.Unreadable n) other h k =
    let same = one_reached bytes h.0 k.0 h.2 k.3.0 whole unread (whole_trace bytes r h) (unread_step bytes n k) in
    let bad = same.2 in cc bad
replay-not_refused bytes r (fault.NotAllowed n) other h k =
    let same = one_reached bytes h.0 k.0 h.2 k.3.0 whole refused (whole_trace bytes r h) (refused_step bytes n k) in
    let bad = same.2 in cc bad
replay-not_refused bytes r fault.NoMemory other h k = other refl

pub refusal-unique : (bytes : List ℕ) (f g : TraceFault) → f ≢ fault.NoMemory → g ≢ fault.NoMemory → RefusesTrace bytes f → RefusesTrace bytes g → f ≡ g
refusal-unique bytes fault.NoMemory g h k i j = absurd (h refl)
refusal-unique bytes f fault.NoMemory h k i j = absurd (k refl)
refusal-unique bytes (fault.Shape w) (fault.Shape v) h k i j = ap fault.Shape (one_shape_fault bytes w v i j)
refusal-unique bytes (fault.Shape w) (fault.Unreadable n) h k i j = absurd (in_range bytes j.0 j.3.0 unread w (unread_step bytes n j) i)
refusal-unique bytes (fault.Shape w) (fault.NotAllowed n) h k i j = absurd (in_range bytes j.0 j.3.0 refused w (refused_step bytes n j) i)
refusal-unique bytes (fault.Unreadable n) (fault.Shape w) h k i j = absurd (in_range bytes i.0 i.3.0 unread w (unread_step bytes n i) j)
refusal-unique bytes (fault.NotAllowed n) (fault.Shape w) h k i j = absurd (in_range bytes i.0 i.3.0 refused w (refused_step bytes n i) j)
refusal-unique bytes (fault.Unreadable n) (fault.Unreadable o) h k i j =
    let same = one_reached bytes i.0 j.0 i.3.0 j.3.0 unread unread (unread_step bytes n i) (unread_step bytes o j) in
    ap fault.Unreadable (sym i.3.3 ∙ ap length same.1 ∙ j.3.3)
refusal-unique bytes (fault.NotAllowed n) (fault.NotAllowed o) h k i j =
    let same = one_reached bytes i.0 j.0 i.3.0 j.3.0 refused refused (refused_step bytes n i) (refused_step bytes o j) in
    ap fault.NotAllowed (sym i.3.3 ∙ ap length same.1 ∙ j.3.3)
refusal-unique bytes (fault.Unreadable n) (fault.NotAllowed o) h k i j =
    let same = one_reached bytes i.0 j.0 i.3.0 j.3.0 unread refused (unread_step bytes n i) (refused_step bytes o j) in
    let bad = same.2 in cc bad
refusal-unique bytes (fault.NotAllowed n) (fault.Unreadable o) h k i j =
    let same = one_reached bytes i.0 j.0 i.3.0 j.3.0 refused unread (refused_step bytes n i) (unread_step bytes o j) in
    let bad = same.2 in cc bad
