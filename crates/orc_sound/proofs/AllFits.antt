-- All that every lawful list of steps keeps.
use Rattle.std.proofs.Common.{List, [], arith, inl, refl, subst, sym, true, ℕ, ◌+◌, ◌<◌, ◌^◌, ◌∷◌, ◌≡◌, ◌≤◌}
use Rattle.std.proofs.lemmas.Bool.{false≢true}
use Rattle.std.specs.Prelude.{None}
use Rattle.orc_words.specs.Bounds.{Bounds, IsShape}
use Rattle.orc_words.specs.Packed.{bit, sequence_of}
use Rattle.orc_words.specs.declared.place.Word.TheVariants.{Counter, Enrolled, Gate, Handover}
use Rattle.orc_core.proofs.Within.{may_parts}
use Rattle.orc_core.specs.Machine.{Machine, is_allowed, new_machine, nobody, record_at, step, word_in}
use Rattle.orc_core.specs.RecordParts.{checked_below, names}
use Rattle.orc_core.specs.Runs.{IsLawful, run}
use Rattle.orc_core.specs.declared.ops.CounterUse.TheVariants.{Check, End, Start}
use Rattle.orc_core.specs.declared.ops.Op.{Op}
use Rattle.orc_core.specs.declared.ops.Op.TheVariants.{CounterLoad, Free}
use Rattle.orc_sound.proofs.NewState.{blank_first, blank_linked, counted_first, counter_first, seats_first, zero_first}
use Rattle.orc_sound.proofs.Bridge.{world_step}
use Rattle.orc_sound.proofs.CountedStep.{counted_step, scan_no_doom}
use Rattle.orc_sound.proofs.DoomedStep.{doomed_step}
use Rattle.orc_sound.proofs.Facts.{Counted, Doomed, LawfulStep, out}
use Rattle.orc_sound.proofs.Full.{Full, full_first, full_step, none_doomed}
use Rattle.orc_sound.proofs.Lives.{LivesFit, lives_step}
use Rattle.orc_sound.proofs.Outs.{freed_row}
use Rattle.orc_sound.proofs.Pending.{OneChange, one_change}
use Rattle.orc_sound.proofs.Quota.{quota, quota_low, quota_step, sequence_room}
use Rattle.orc_sound.proofs.Reasons.{HasReason, no_leak_step, reason}
use Rattle.orc_sound.proofs.Rows.{RowsFit, rows_step}
use Rattle.orc_sound.proofs.Scans.{ScanFits, ScanStep, end_parts, ending, none_fits, scans_step}
use Rattle.orc_sound.proofs.Seats.{seat_join}
use Rattle.orc_sound.proofs.Sums.{sum_zero}
use Rattle.orc_sound.proofs.World.{World, read_by, record_by, step_world, world_of}

pub record AllFits (b : Bounds) (z : World) : Type 0 where
  pub counted : Counted b z
  pub doomed : Doomed b z
  pub scans : (a : ℕ) → ScanFits b z (z.seats a).scan
  pub quota : (r : ℕ) → r < b.rows → quota b z r ≤ sequence_room b
  pub lives : LivesFit b z
  pub reason : (r : ℕ) → r < b.rows → HasReason b z r
  pub rows : RowsFit b z
  pub change : (a : ℕ) → OneChange (z.seats a)

pub low_sequences : (b : Bounds) (z : World) → IsShape b → AllFits b z → (q : ℕ) → sequence_of (z.memory (Counter q)) < 2 ^ 39 + 2 ^ 19
low_sequences b z shape s = quota_low b z shape s.counted s.quota

-- a step that is allowed, where all fits
pub allowed_step : (m : Machine) (a : ℕ) (op : Op) → Full m → AllFits m.bounds (world_of m) → is_allowed m a op ≡ true → LawfulStep m.bounds (world_of m) a op
allowed_step m a op w s h =
    let p = may_parts m.bounds (word_in m Enrolled) a op (record_at m a) h in
    record { shape = w.shape; counted = s.counted; doomed = s.doomed; agent = p.agent; stands = p.stands; forced = p.forced; fits = p.fits }

free_word : (b : Bounds) (z : World) (a : ℕ) (op : Op) → LawfulStep b z a op → LivesFit b z → (q : ℕ) → op ≡ Free q → (out (z.memory (Gate q)) ≡ 1)
    × (z.memory (Gate q) < 18446744073709551616)
free_word b z a (Free r) p s q e = let k : r ≡ q = cc in
    rw (← k) ((freed_row b z a r p).gone.is_out, let l = s.within r in let h = p.shape.limit.1 in omega arith)
free_word b z a op p s q e = cc

end_no_doom : (b : Bounds) (z : World) (a : ℕ) (op : Op) → LawfulStep b z a op → (q : ℕ) → op ≡ CounterLoad q End → (z.seats a).doom ≡ None
end_no_doom b z a (CounterLoad r Check) p q e = cc
end_no_doom b z a (CounterLoad r Start) p q e = cc
end_no_doom b z a (CounterLoad r End) p q e = scan_no_doom (z.seats a) r (p.counted.one_part a) (end_parts b (z.memory Enrolled) a r (z.seats a) p.fits).1
end_no_doom b z a op p q e = cc

pub all_step : (b : Bounds) (z : World) (a : ℕ) (op : Op) → LawfulStep b z a op → AllFits b z → AllFits b (step_world z a op)
all_step b z a op p s =
    let lo = low_sequences b z p.shape s in
    let c = counted_step b z a op p in
    let k : ScanStep b z a op = record { lawful = p; scans = s.scans; low = lo } in
    record {
      counted = c;
      doomed = doomed_step b z a op (ending b z a op k) c;
      scans = scans_step b z a op k c;
      quota = λ r h. quota_step b z a op r p lo h (s.quota r h);
      lives = lives_step b z a op p lo s.lives;
      rows = rows_step b z a op k s.rows;
      change = λ x. seat_join OneChange z.seats a x (record_by z a op) (one_change op (z.seats a) (read_by z a op) p.forced (s.change a)) (s.change x);
      reason = λ r h. no_leak_step b z (step_world z a op).memory a (record_by z a op) r p.agent
          (reason b (z.memory Enrolled) a op (z.seats a) z.memory r p.fits p.forced (end_no_doom b z a op p) (free_word b z a op p s.lives)) (s.reason r h);
    }

pub all_run : (m : Machine) (steps : List (ℕ × Op)) → Full m → AllFits m.bounds (world_of m) → IsLawful m steps → AllFits m.bounds (world_of (run m steps))
all_run m [] w s l = s
all_run m (x ∷ xs) w s l =
    all_run (step m x.0 x.1) xs (full_step m x.0 x.1 w)
    (subst (λ z. AllFits m.bounds z) (sym (world_step m x.0 x.1 w.words w.agents l.0))
    (all_step m.bounds (world_of m) x.0 x.1 (allowed_step m x.0 x.1 w s l.0) s))
    l.1

-- a new state
first_scans : (b : Bounds) (z : World) (a : ℕ) → z.seats a ≡ nobody b.rows → ScanFits b z (z.seats a).scan
first_scans b z a e = rw e (none_fits b z)

first_quota : (b : Bounds) (r : ℕ) → r < b.rows → quota b (world_of (new_machine b)) r ≤ sequence_room b
first_quota b r h =
    let k = blank_first b in
    let l = blank_linked b (world_of (new_machine b)) r k in
    let c = counter_first b r h in
    let i = sum_zero b.agents (λ a. bit (names ((world_of (new_machine b)).seats a).inc r)) (λ a. rw (seats_first b a)) in
    let d = sum_zero b.agents (λ a. bit (names ((world_of (new_machine b)).seats a).dec r)) (λ a. rw (seats_first b a)) in
    let e = sum_zero b.agents (λ a. bit (checked_below ((world_of (new_machine b)).seats a).checked r (b.limit + 64))) (λ a. rw (seats_first b a)) in
    omega arith

first_lives : (b : Bounds) → LivesFit b (world_of (new_machine b))
first_lives b = record {
  within = λ r. rw (zero_first b (Gate r) refl) (omega arith);
  looked = λ a r h. absurd (false≢true (rw (seats_first b a) at h));
  checked = λ a r h. absurd (false≢true (rw (seats_first b a) at h));
}

first_rows : (b : Bounds) → RowsFit b (world_of (new_machine b))
first_rows b = record {
  handed = λ a k r h. let e = zero_first b (Handover a k) refl in absurd (omega arith);
  in_hand = λ a r h. absurd (false≢true (rw (seats_first b a) at h));
  listed = λ a r h. absurd (none_positive (rw (seats_first b a) at h));
}
  where
    none_positive : 0 < 0 → ⊥
    none_positive h = omega arith

pub all_first : (b : Bounds) → AllFits b (world_of (new_machine b))
all_first b = record {
  counted = counted_first b;
  doomed = none_doomed b (world_of (new_machine b)) (λ a. rw (seats_first b a));
  scans = λ a. first_scans b (world_of (new_machine b)) a (seats_first b a);
  quota = first_quota b;
  lives = first_lives b;
  rows = first_rows b;
  change = λ a. inl (rw (seats_first b a));
  reason = λ r h. rw (zero_first b (Gate r) refl) (omega arith);
}

pub run_bounds : (m : Machine) (steps : List (ℕ × Op)) → (run m steps).bounds ≡ m.bounds
run_bounds m [] = refl
run_bounds m (x ∷ xs) = run_bounds (step m x.0 x.1) xs

-- every lawful list of steps keeps it all
pub run_fits : (b : Bounds) (steps : List (ℕ × Op)) → IsShape b → IsLawful (new_machine b) steps
    → AllFits (run (new_machine b) steps).bounds (world_of (run (new_machine b) steps))
run_fits b steps shape l =
    subst (λ c. AllFits c (world_of (run (new_machine b) steps))) (sym (run_bounds (new_machine b) steps))
    (all_run (new_machine b) steps (full_first b shape) (all_first b) l)

pub run_shape : (b : Bounds) (steps : List (ℕ × Op)) → IsShape b → IsShape (run (new_machine b) steps).bounds
run_shape b steps shape = subst IsShape (sym (run_bounds (new_machine b) steps)) shape
