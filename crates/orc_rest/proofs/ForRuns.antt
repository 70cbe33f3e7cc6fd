-- What follows for runs from a new state.
use Rattle.std.proofs.Common.{List, ap, arith, cond, refl, subst, sym, true, ℕ, ◌%◌, ◌*◌, ◌+◌, ◌/◌, ◌<◌, ◌∙◌, ◌≡◌, ◌≢◌, ◌≤◌}
use Rattle.std.proofs.lemmas.Bool.{eq-eqb, ltb-true}
use Rattle.std.specs.Prelude.{None, Option, Some, ◌==◌}
use Rattle.orc_core.proofs.Within.{and_both}
use Rattle.orc_core.specs.Machine.{Machine, is_allowed, new_machine, record_at, step, word_in}
use Rattle.orc_core.specs.RecordParts.{is_empty, scans, slot_of}
use Rattle.orc_core.specs.Runs.{IsLawful, run}
use Rattle.orc_core.specs.Sums.{sum_below}
use Rattle.orc_core.specs.declared.ops.CounterUse.TheVariants.{Check, End, Start}
use Rattle.orc_core.specs.declared.ops.Op.{Op}
use Rattle.orc_core.specs.declared.ops.Op.TheVariants.{CounterLoad, Hand}
use Rattle.orc_core.specs.declared.records.Scan.{Scan}
use Rattle.orc_rest.proofs.Falling.{settling_work, work_bound}
use Rattle.orc_rest.proofs.Handovers.{other_handover, own_handover}
use Rattle.orc_rest.proofs.Steps.{work_after, work_in}
use Rattle.orc_rest.specs.Work.{IsSettlingStep, drop_of, open_at, staleness, work_left, work_of}
use Rattle.orc_sound.proofs.AllFits.{all_step, run_bounds, run_fits}
use Rattle.orc_sound.proofs.Bridge.{world_step}
use Rattle.orc_sound.proofs.Facts.{LawfulStep}
use Rattle.orc_sound.proofs.ForRuns.{next_step, run_full}
use Rattle.orc_sound.proofs.Seats.{seat_same}
use Rattle.orc_sound.proofs.Shown.{word_shown}
use Rattle.orc_sound.proofs.Sums.{sum_same}
use Rattle.orc_sound.proofs.World.{World, record_by, step_world, world_of}
use Rattle.orc_words.specs.Bounds.{Bounds, IsShape}
use Rattle.orc_words.specs.declared.place.Word.TheVariants.{Counter, Gate, Handover, Slot}

-- the work is the same in both views of a state
work_shown : (m : Machine) (a : ℕ) → a < m.bounds.agents → ((r : ℕ) → scans (record_at m a).scan r ≡ true → r < m.bounds.rows)
    → work_in m.bounds (world_of m) a ≡ work_left m a
work_shown m a ha hs =
    let o = sum_same m.bounds.rows (λ r. (world_of m).memory (Gate r) % 2) (λ r. word_in m (Gate r) % 2) (λ r h. ap (λ w. w % 2) (word_shown m (Gate r) h)) in
    let f = word_shown m (Handover a 0) (ha, omega arith) in
    let p = sum_same m.bounds.agents (λ x. sum_below 8 (open_at (world_of m).memory a x)) (λ x. sum_below 8 (open_at (word_in m) a x))
    (λ x h. sum_same 8 (open_at (world_of m).memory a x) (open_at (word_in m) a x)
    (λ j k. rw (word_shown m (Slot x j) (h, k), word_shown m (Handover x j) (h, k)) refl)) in
    let s = stale_shown (record_at m a).scan hs in
    rw f (omega arith)
  where
    stale_shown : (o : Option Scan) → ((r : ℕ) → scans o r ≡ true → r < m.bounds.rows) → staleness (world_of m).memory o ≡ staleness (word_in m) o
    stale_shown None h = refl
    stale_shown (Some s) h = ap (λ w. cond (w == s.word) 0 2) (word_shown m (Counter s.row) (h s.row (eq-eqb s.row s.row refl)))

settles_shown : (m : Machine) (a : ℕ) (op : Op) → is_allowed m a op ≡ true → LawfulStep m.bounds (world_of m) a op
    → IsSettlingStep (word_in m) op (record_at m a) → IsSettlingStep (world_of m).memory op (record_at m a)
settles_shown m a (Hand k) h p s =
    let f = and_both _ _ (and_both _ _ p.fits).0 in
    let l = ltb-true k (8 * m.bounds.agents) f.0 in
    (s.0, word_shown m (Slot (k / 8) (k % 8)) (omega arith, omega arith) ∙ s.1)
settles_shown m a (CounterLoad q Start) h p s = s
settles_shown m a (CounterLoad q End) h p s = s
settles_shown m a (CounterLoad q Check) h p s = s
settles_shown m a op h p s = s

pub work_falls : (b : Bounds) (steps : List (ℕ × Op)) (a : ℕ) (op : Op) → IsShape b → IsLawful (new_machine b) steps
    → is_allowed (run (new_machine b) steps) a op ≡ true
    → IsSettlingStep (word_in (run (new_machine b) steps)) op (record_at (run (new_machine b) steps) a)
    → work_left (step (run (new_machine b) steps) a op) a + drop_of op (record_at (run (new_machine b) steps) a) ≤ work_left (run (new_machine b) steps) a
work_falls b steps a op shape l h s =
    let m = run (new_machine b) steps in
    let w = run_full b steps shape in
    let f = run_fits b steps shape l in
    let p = next_step b steps a op shape l h in
    let g = all_step m.bounds (world_of m) a op p f in
    let e = world_step m a op w.words w.agents h in
    let k = settling_work m.bounds (world_of m) a op p (f.scans a).row (settles_shown m a op h p s) in
    let i = work_shown m a p.agent (f.scans a).row in
    let after_scan : (r : ℕ) → scans (record_at (step m a op) a).scan r ≡ true
    → r < m.bounds.rows = subst (λ z. (r : ℕ) → scans (z.seats a).scan r ≡ true → r < m.bounds.rows) (sym e) (g.scans a).row in
    let j = work_shown (step m a op) a p.agent after_scan in
    let u : work_in m.bounds (world_of (step m a op)) a ≡ work_after m.bounds (world_of m) a op =
    ap (λ z. work_in m.bounds z a) e ∙ ap (λ d. work_of m.bounds (step_world (world_of m) a op).memory a d)
    (seat_same (world_of m).seats a (record_by (world_of m) a op)) in
    omega arith

pub work_within : (b : Bounds) (steps : List (ℕ × Op)) (a : ℕ) → IsShape b → IsLawful (new_machine b) steps → a < b.agents
    → (record_at (run (new_machine b) steps) a).dec ≡ None → (record_at (run (new_machine b) steps) a).due ≡ None
    → work_left (run (new_machine b) steps) a ≤ 4 * (b.rows + 8 * b.agents)
work_within b steps a shape l h d u =
    let m = run (new_machine b) steps in
    let f = run_fits b steps shape l in
    let e = run_bounds (new_machine b) steps in
    let ha = subst (λ (c : Bounds). a < c.agents) (sym e) h in
    let k = work_bound m.bounds (world_of m) a f ha d u in
    let i = work_shown m a ha (f.scans a).row in
    subst (λ (c : Bounds). work_left m a ≤ 4 * (c.rows + 8 * c.agents)) e (omega arith)

pub own_words : (b : Bounds) (steps : List (ℕ × Op)) (a : ℕ) (op : Op) (k : ℕ) → IsShape b → IsLawful (new_machine b) steps → k < 8
    → is_allowed (run (new_machine b) steps) a op ≡ true
    → IsSettlingStep (word_in (run (new_machine b) steps)) op (record_at (run (new_machine b) steps) a)
    → word_in (run (new_machine b) steps) (Handover a k) ≡ 0 → word_in (step (run (new_machine b) steps) a op) (Handover a k) ≡ 0
own_words b steps a op k shape l i h s z =
    let m = run (new_machine b) steps in
    let w = run_full b steps shape in
    let p = next_step b steps a op shape l h in
    let e = world_step m a op w.words w.agents h in
    let o = own_handover m.bounds (world_of m) a op k p (settles_shown m a op h p s) (word_shown m (Handover a k) (p.agent, i) ∙ z) in
    sym (word_shown (step m a op) (Handover a k) (p.agent, i)) ∙ (ap (λ (x : World). x.memory (Handover a k)) e ∙ o)

pub other_handovers : (b : Bounds) (steps : List (ℕ × Op)) (a : ℕ) (op : Op) (x k : ℕ) → IsShape b → IsLawful (new_machine b) steps → k < 8 → x ≢ a
    → x < (run (new_machine b) steps).bounds.agents → is_allowed (run (new_machine b) steps) a op ≡ true
    → IsSettlingStep (word_in (run (new_machine b) steps)) op (record_at (run (new_machine b) steps) a)
    → ((y j : ℕ) → y ≢ a → is_empty (slot_of (record_at (run (new_machine b) steps) y) j) ≡ true)
    → word_in (run (new_machine b) steps) (Handover x k) ≡ 0 → word_in (step (run (new_machine b) steps) a op) (Handover x k) ≡ 0
other_handovers b steps a op x k shape l i ne lx h s q z =
    let m = run (new_machine b) steps in
    let w = run_full b steps shape in
    let p = next_step b steps a op shape l h in
    let e = world_step m a op w.words w.agents h in
    let o = other_handover m.bounds (world_of m) a op x k p ne (settles_shown m a op h p s) q (word_shown m (Handover x k) (lx, i) ∙ z) in
    sym (word_shown (step m a op) (Handover x k) (lx, i)) ∙ (ap (λ (y : World). y.memory (Handover x k)) e ∙ o)
