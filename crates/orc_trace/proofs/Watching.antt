-- What is seen of a trace's steps, one step after another.
use Rattle.std.proofs.Common.{Bool, List, [], ap, append_assoc, arith, false, inl, inr, length, refl, subst, sym, true, ℕ, ◌++◌, ◌+◌, ◌<◌, ◌∙◌, ◌∷◌, ◌≡◌, ◌≤◌, ◌⊎◌}
use Rattle.std.proofs.lemmas.Bool.{ltb-true}
use Rattle.std.proofs.lemmas.List.{length_push, take-append-le, take_all}
use Rattle.std.proofs.lemmas.List.Elements.{All-append, All-cons, All-nil}
use Rattle.std.specs.Prelude.{None, Option, Some, nat_lt}
use Rattle.orc_words.specs.Bounds.{Bounds, IsShape}
use Rattle.orc_core.proofs.Steps.{IsLawful-append, run-append}
use Rattle.orc_core.specs.Machine.{LeavesRoom, Machine, is_allowed, new_machine, step}
use Rattle.orc_core.specs.Runs.{run}
use Rattle.orc_core.specs.declared.ops.Op.{Op}
use Rattle.orc_sound.proofs.AllFits.{run_bounds}
use Rattle.orc_sound.proofs.ForRuns.{room_left}
use Rattle.orc_sound.specs.Backlog.{backlog}
use Rattle.orc_trace.proofs.Plays.{Begins-nil}
use Rattle.orc_trace.proofs.Backlogs.{backlog_is}
use Rattle.orc_trace.specs.Audit.{IsFirstLeak, IsWorst, Leaks, after_steps}
use Rattle.orc_trace.specs.Replay.{BeginsWithSteps}
use Rattle.orc_trace.specs.Watched.{LeakOn, SeesSteps, WorseOf, waiting}
use Rattle.orc_trace.specs.declared.answers.Leak.{Leak}
use Rattle.orc_trace.specs.declared.auditing.SeenSoFar.{SeenSoFar}
use Rattle.orc_trace_text.specs.FirstLines.{HasStepLine}
use Rattle.orc_trace_text.specs.TraceText.{IsReadable, step_line, steps_text}

-- ---- one more step behind those that are played

steps_text-more : (front : List (ℕ × Op)) (s : ℕ × Op) (more : List ℕ) → steps_text front ++ (step_line s.0 s.1 ++ 10 ∷ more) ≡ steps_text (front ++ s ∷ []) ++ more
steps_text-more [] s more = sym (append_assoc (step_line s.0 s.1) (10 ∷ []) more)
steps_text-more (t ∷ ts) s more =
    append_assoc (step_line t.0 t.1) (10 ∷ steps_text ts) (step_line s.0 s.1 ++ 10 ∷ more) ∙
    ap (λ (x : List ℕ). step_line t.0 t.1 ++ 10 ∷ x) (steps_text-more ts s more) ∙
    sym (append_assoc (step_line t.0 t.1) (10 ∷ steps_text (ts ++ s ∷ [])) more)

Begins-more : (b : Bounds) (m : Machine) (front : List (ℕ × Op)) (rest lines : List ℕ) (s : ℕ × Op) (more : List ℕ) → BeginsWithSteps b m front rest lines
    → HasStepLine b s more rest → is_allowed (run m front) s.0 s.1 ≡ true → BeginsWithSteps b m (front ++ s ∷ []) more lines
Begins-more b m front rest lines s more h line made = record {
  text = h.text ∙ ap (λ (x : List ℕ). steps_text front ++ x) line.text ∙ steps_text-more front s more;
  readable = All-append (IsReadable b) front (s ∷ []) h.readable (All-cons (IsReadable b) s [] line.readable (All-nil (IsReadable b)));
  lawful = (IsLawful-append m front (s ∷ [])).1 (h.lawful, (made, tt));
}

after-before : (b : Bounds) (front : List (ℕ × Op)) (s : ℕ × Op) (k : ℕ) → k ≤ length front → after_steps b (front ++ s ∷ []) k ≡ after_steps b front k
after-before b front s k l = ap (λ (x : List (ℕ × Op)). run (new_machine b) x) (take-append-le k front (s ∷ []) l)

after-all : (b : Bounds) (steps : List (ℕ × Op)) (k : ℕ) → length steps ≤ k → after_steps b steps k ≡ run (new_machine b) steps
after-all b steps k l = ap (λ (x : List (ℕ × Op)). run (new_machine b) x) (take_all k steps l)

-- so many steps are among the first, or all
before_or_all : (k n : ℕ) → k ≤ n + 1 → (k ≤ n) ⊎ (n + 1 ≤ k)
before_or_all k n l = cases (nat_lt n k) refl
  where
    cases : (t : Bool) → nat_lt n k ≡ t → (k ≤ n) ⊎ (n + 1 ≤ k)
    cases true e = let h = ltb-true n k e in inr (omega (arith, h))
    cases false e = let h : k ≤ n = grind arith in inl h

-- ---- the worst backlog

worst-first : (b : Bounds) (most : ℕ) → most ≡ backlog (new_machine b) → IsWorst b [] most 0
worst-first b most e = record {
  within = omega arith;
  there = sym e;
  greatest = λ k l. let all = after-all b [] k (omega arith) in let same = ap backlog all in omega (arith, same, e);
  first = λ k l. absurd (omega (arith, l));
}

worst-more : (b : Bounds) (front : List (ℕ × Op)) (s : ℕ × Op) (most after now new_most new_after : ℕ) → IsWorst b front most after
    → now ≡ backlog (run (new_machine b) (front ++ s ∷ [])) → WorseOf now (length front + 1) most after new_most new_after
    → IsWorst b (front ++ s ∷ []) new_most new_after
worst-more b front s most after now new_most new_after h is on = cases (nat_lt most now) refl
  where
    size : length (front ++ s ∷ []) ≡ length front + 1
    size = length_push front s

    old : (k : ℕ) → k ≤ length front → backlog (after_steps b (front ++ s ∷ []) k) ≡ backlog (after_steps b front k)
    old k l = ap backlog (after-before b front s k l)

    last : (k : ℕ) → length front + 1 ≤ k → backlog (after_steps b (front ++ s ∷ []) k) ≡ now
    last k l = ap backlog (after-all b (front ++ s ∷ []) k (let n = size in omega (arith, n, l))) ∙ sym is

    greater : most < now → IsWorst b (front ++ s ∷ []) now (length front + 1)
    greater g = record {
      within = let n = size in omega (arith, n);
      there = last (length front + 1) (omega arith);
      greatest = λ k l. let n = size in elim (before_or_all k (length front) (omega (arith, n, l))) [
        | inl early ↦ let e = old k early in let most_then = h.greatest k early in omega (arith, e, most_then, g)
        | inr all ↦ let e = last k all in omega (arith, e)
      ];
      first = λ k l. let early : k ≤ length front = omega (arith, l) in let e = old k early in let most_then = h.greatest k early in
          omega (arith, e, most_then, g);
    }

    same : now ≤ most → IsWorst b (front ++ s ∷ []) most after
    same g = record {
      within = let n = size in let w = h.within in omega (arith, n, w);
      there = old after h.within ∙ h.there;
      greatest = λ k l. let n = size in elim (before_or_all k (length front) (omega (arith, n, l))) [
        | inl early ↦ let e = old k early in let most_then = h.greatest k early in omega (arith, e, most_then)
        | inr all ↦ let e = last k all in omega (arith, e, g)
      ];
      first = λ k l. let w = h.within in let early : k ≤ length front = omega (arith, l, w) in let e = old k early in let less = h.first k l in
          omega (arith, e, less);
    }

    cases : (t : Bool) → nat_lt most now ≡ t → IsWorst b (front ++ s ∷ []) new_most new_after
    cases true e = let g = ltb-true most now e in let is_more = on.more g in rw (is_more.0, is_more.1) (greater g)
    cases false e = let g : now ≤ most = grind arith in let is_same = on.same g in rw (is_same.0, is_same.1) (same g)

-- ---- the first leak

leak-first : (b : Bounds) (o : Option Leak) → LeakOn (new_machine b) 0 None o → IsFirstLeak b [] o
leak-first b None h = λ k r l leak. h r (subst (λ (m : Machine). Leaks m r) (after-all b [] k (omega arith)) leak)
leak-first b (Some f) h = record {
  within = let e = h.0 in omega (arith, e);
  leaks = subst (λ (m : Machine). Leaks m f.row) (sym (after-all b [] f.after (let e = h.0 in omega (arith, e)))) h.1.0;
  sooner = λ k r l. let e = h.0 in absurd (omega (arith, e, l));
  lower = λ r l leak. h.1.1 r l (subst (λ (m : Machine). Leaks m r) (after-all b [] f.after (let e = h.0 in omega (arith, e))) leak);
}

leak-more : (b : Bounds) (front : List (ℕ × Op)) (s : ℕ × Op) (before now : Option Leak) → IsFirstLeak b front before
    → LeakOn (run (new_machine b) (front ++ s ∷ [])) (length front + 1) before now → IsFirstLeak b (front ++ s ∷ []) now
leak-more b front s (Some f) now h on = subst (λ (o : Option Leak). IsFirstLeak b (front ++ s ∷ []) o) (sym on) kept
  where
    same : (k : ℕ) → k ≤ length front → after_steps b (front ++ s ∷ []) k ≡ after_steps b front k
    same k l = after-before b front s k l

    kept : IsFirstLeak b (front ++ s ∷ []) (Some f)
    kept = record {
      within = let n = length_push front s in let w = h.within in omega (arith, n, w);
      leaks = subst (λ (m : Machine). Leaks m f.row) (sym (same f.after h.within)) h.leaks;
      sooner = λ k r l leak. h.sooner k r l (subst (λ (m : Machine). Leaks m r) (same k (let w = h.within in omega (arith, l, w))) leak);
      lower = λ r l leak. h.lower r l (subst (λ (m : Machine). Leaks m r) (same f.after h.within) leak);
    }
leak-more b front s None None h on = λ k r l leak. elim (before_or_all k (length front) (let n = length_push front s in omega (arith, n, l))) [
  | inl early ↦ h k r early (subst (λ (m : Machine). Leaks m r) (after-before b front s k early) leak)
  | inr all ↦
      on r (subst (λ (m : Machine). Leaks m r) (after-all b (front ++ s ∷ []) k (let n = length_push front s in omega (arith, n, all))) leak)
]
leak-more b front s None (Some f) h on = record {
  within = let n = length_push front s in let e = on.0 in omega (arith, n, e);
  leaks = subst (λ (m : Machine). Leaks m f.row) (sym all) on.1.0;
  sooner = λ k r l leak. let e = on.0 in let early : k ≤ length front = omega (arith, e, l) in
      h k r early (subst (λ (m : Machine). Leaks m r) (after-before b front s k early) leak);
  lower = λ r l leak. on.1.1 r l (subst (λ (m : Machine). Leaks m r) all leak);
}
  where
    all : after_steps b (front ++ s ∷ []) f.after ≡ run (new_machine b) (front ++ s ∷ [])
    all = after-all b (front ++ s ∷ []) f.after (let n = length_push front s in let e = on.0 in omega (arith, n, e))

-- ---- the steps so far

-- these steps lead to this state and to the bytes that are left, and this is seen of them
pub record SoFar (b : Bounds) (lines bytes : List ℕ) (now : Machine) (seen : SeenSoFar) : Type 0 where
  pub front : List (ℕ × Op)
  pub begins : BeginsWithSteps b (new_machine b) front bytes lines
  pub there : now ≡ run (new_machine b) front
  pub sees : SeesSteps b front seen

pub so-far-first : (b : Bounds) (lines : List ℕ) (m : Machine) (seen : SeenSoFar) → IsShape b → m ≡ new_machine b → seen.steps ≡ 0 → seen.most ≡ waiting m
    → seen.after ≡ 0 → LeakOn m 0 None seen.leak → SoFar b lines lines m seen
so-far-first b lines m seen shape new steps most after leak = record {
  front = [];
  begins = Begins-nil b (new_machine b) lines;
  there = new;
  sees = record {
    number = steps;
    worst = rw after (worst-first b seen.most (most ∙ ap waiting new ∙ sym (backlog_is b [] shape tt)));
    leak = leak-first b seen.leak (subst (λ (x : Machine). LeakOn x 0 None seen.leak) new leak);
  };
}

pub so-far-more : (b : Bounds) (lines bytes : List ℕ) (now next : Machine) (seen more_seen : SeenSoFar) (a : ℕ) (op : Op) (more : List ℕ) → IsShape b
    → SoFar b lines bytes now seen → HasStepLine b (a, op) more bytes → is_allowed now a op ≡ true → next ≡ step now a op
    → more_seen.steps ≡ seen.steps + 1 → WorseOf (waiting next) (seen.steps + 1) seen.most seen.after more_seen.most more_seen.after
    → LeakOn next (seen.steps + 1) seen.leak more_seen.leak → SoFar b lines more next more_seen
so-far-more b lines bytes now next seen more_seen a op more shape h line made stepped steps worse leak = record {
  front = h.front ++ (a, op) ∷ [];
  begins = begins;
  there = there;
  sees = record {
    number = steps ∙ ap (λ (n : ℕ). n + 1) h.sees.number ∙ sym (length_push h.front (a, op));
    worst =
        worst-more b h.front (a, op) seen.most seen.after (waiting next) more_seen.most more_seen.after h.sees.worst
        (ap waiting there ∙ sym (backlog_is b (h.front ++ (a, op) ∷ []) shape begins.lawful))
        (subst (λ (n : ℕ). WorseOf (waiting next) (n + 1) seen.most seen.after more_seen.most more_seen.after) h.sees.number worse);
    leak =
        leak-more b h.front (a, op) seen.leak more_seen.leak h.sees.leak
        (subst (λ (n : ℕ). LeakOn (run (new_machine b) (h.front ++ (a, op) ∷ [])) (n + 1) seen.leak more_seen.leak) h.sees.number
        (subst (λ (x : Machine). LeakOn x (seen.steps + 1) seen.leak more_seen.leak) there leak));
  };
}
  where
    begins : BeginsWithSteps b (new_machine b) (h.front ++ (a, op) ∷ []) more lines
    begins = Begins-more b (new_machine b) h.front bytes lines (a, op) more h.begins line (subst (λ (x : Machine). is_allowed x a op ≡ true) h.there made)

    there : next ≡ run (new_machine b) (h.front ++ (a, op) ∷ [])
    there = stepped ∙ ap (λ (x : Machine). step x a op) h.there ∙ sym (run-append (new_machine b) h.front ((a, op) ∷ []))

-- the next step leaves its agent's work list room
pub room-so-far : (b : Bounds) (lines bytes : List ℕ) (now : Machine) (seen : SeenSoFar) (a : ℕ) (op : Op) → IsShape b → SoFar b lines bytes now seen
    → LeavesRoom now a op
room-so-far b lines bytes now seen a op shape h =
    subst (λ (x : Machine). LeavesRoom x a op) (sym h.there) (room_left b h.front a op shape h.begins.lawful)

pub so-far-bounds : (b : Bounds) (lines bytes : List ℕ) (now : Machine) (seen : SeenSoFar) → SoFar b lines bytes now seen → now.bounds ≡ b
so-far-bounds b lines bytes now seen h = ap (λ (m : Machine). m.bounds) h.there ∙ run_bounds (new_machine b) h.front
