-- What follows for runs from a new state.
use Rattle.std.proofs.Common.{List, ap, arith, length, refl, subst, sym, true, ℕ, ◌*◌, ◌+◌, ◌<◌, ◌∙◌, ◌≡◌, ◌≤◌}
use Rattle.std.proofs.lemmas.Bool.{eq-eqb, ltb-true}
use Rattle.orc_words.specs.Bounds.{Bounds, IsShape}
use Rattle.orc_words.specs.Packed.{bit}
use Rattle.orc_words.specs.declared.place.Word.TheVariants.{Gate}
use Rattle.orc_core.proofs.Steps.{every_run_whole}
use Rattle.orc_core.proofs.Within.{and_both}
use Rattle.orc_core.specs.Actions.{action_of}
use Rattle.orc_core.specs.Counts.{is_out}
use Rattle.orc_core.specs.Machine.{LeavesRoom, Machine, answer, is_allowed, new_machine, record_at, step, word_read}
use Rattle.orc_core.specs.RecordParts.{names}
use Rattle.orc_core.specs.Runs.{IsLawful, run}
use Rattle.orc_core.specs.declared.ops.Op.{Op}
use Rattle.orc_core.specs.declared.ops.Op.TheVariants.{Free, GateTake}
use Rattle.orc_sound.proofs.AllFits.{AllFits, all_first, all_step, allowed_step, low_sequences, run_bounds, run_fits, run_shape}
use Rattle.orc_sound.proofs.NewState.{zero_first}
use Rattle.orc_sound.proofs.Bound.{backlog_bound}
use Rattle.orc_sound.proofs.Bridge.{world_step}
use Rattle.orc_sound.proofs.Facts.{LawfulStep, out}
use Rattle.orc_sound.proofs.FreedOnce.{no_wrap, out_bit, read_shown, run_lives, take_answer}
use Rattle.orc_sound.proofs.Full.{Full, full_first, full_step}
use Rattle.orc_sound.proofs.Outs.{bare_dooms, taken_out, takes_free}
use Rattle.orc_sound.proofs.Pending.{OneChange}
use Rattle.orc_sound.proofs.Rows.{list_length}
use Rattle.orc_sound.proofs.Seats.{seat_same}
use Rattle.orc_sound.proofs.Shown.{sound_shown}
use Rattle.orc_sound.proofs.Sources.{takes}
use Rattle.orc_sound.proofs.World.{World, read_by, record_by, step_world, world_of}
use Rattle.orc_sound.specs.Backlog.{backlog}
use Rattle.orc_sound.specs.Lifetimes.{NoWrap, times_freed, times_taken}
use Rattle.orc_sound.specs.Linked.{IsOut, IsUnreachable}
use Rattle.orc_sound.specs.Sound.{IsSound}

pub run_sound : (b : Bounds) (steps : List (ℕ × Op)) → IsShape b → IsLawful (new_machine b) steps → IsSound (run (new_machine b) steps)
run_sound b steps shape l = sound_shown (run (new_machine b) steps) (run_shape b steps shape) (run_fits b steps shape l)

pub run_full : (b : Bounds) (steps : List (ℕ × Op)) → IsShape b → Full (run (new_machine b) steps)
run_full b steps shape = let w = every_run_whole b steps shape in record { shape = w.shape; words = w.words; agents = w.agents }

pub next_step : (b : Bounds) (steps : List (ℕ × Op)) (a : ℕ) (op : Op) → IsShape b → IsLawful (new_machine b) steps
    → is_allowed (run (new_machine b) steps) a op ≡ true → LawfulStep (run (new_machine b) steps).bounds (world_of (run (new_machine b) steps)) a op
next_step b steps a op shape l h = allowed_step (run (new_machine b) steps) a op (run_full b steps shape) (run_fits b steps shape l) h

pub freed_unreachable : (b : Bounds) (steps : List (ℕ × Op)) (a r : ℕ) → IsShape b → IsLawful (new_machine b) steps
    → is_allowed (run (new_machine b) steps) a (Free r) ≡ true → IsOut (run (new_machine b) steps) r × IsUnreachable (run (new_machine b) steps) r
freed_unreachable b steps a r shape l h =
    let p = next_step b steps a (Free r) shape l h in
    let s = run_sound b steps shape l in
    let d = bare_dooms (record_at (run (new_machine b) steps) a).doom r (and_both _ _ p.fits).1 in
    (s.doomed.out a r p.agent d, s.doomed.unreachable a r p.agent d)

zero_machine : (b : Bounds) (r : ℕ) → r < b.rows → bit (is_out (new_machine b) r) ≡ 0
zero_machine b r h = let e = out_bit (new_machine b) r h in let z = zero_first b (Gate r) refl in omega arith

pub lives_counted : (b : Bounds) (steps : List (ℕ × Op)) (r : ℕ) → IsShape b → r < b.rows → IsLawful (new_machine b) steps
    → times_taken (new_machine b) steps r ≡ times_freed steps r + bit (is_out (run (new_machine b) steps) r)
lives_counted b steps r shape h l = let e = run_lives (new_machine b) steps r h (full_first b shape) (all_first b) l in let z = zero_machine b r h in
    omega arith

pub room_left : (b : Bounds) (steps : List (ℕ × Op)) (a : ℕ) (op : Op) → IsShape b → IsLawful (new_machine b) steps
    → LeavesRoom (run (new_machine b) steps) a op
room_left b steps a op shape l h =
    let m = run (new_machine b) steps in
    let p = next_step b steps a op shape l h in
    let s = all_step m.bounds (world_of m) a op p (run_fits b steps shape l) in
    let k = list_length m.bounds (step_world (world_of m) a op) a s.counted s.rows p.agent in
    rw (read_shown m a op h) (rw (seat_same (world_of m).seats a (record_by (world_of m) a op)) at k)

-- a row in hand is one of the table's, and an agent with a due row has no increment pending
pub hand_within : (b : Bounds) (steps : List (ℕ × Op)) (a r : ℕ) → IsShape b → IsLawful (new_machine b) steps
    → names (record_at (run (new_machine b) steps) a).hand r ≡ true → r < b.rows
hand_within b steps a r shape l h =
    subst (λ (c : Bounds). r < c.rows) (run_bounds (new_machine b) steps) ((run_fits b steps shape l).rows.in_hand a r h)

pub due_alone : (b : Bounds) (steps : List (ℕ × Op)) (a : ℕ) → IsShape b → IsLawful (new_machine b) steps → OneChange (record_at (run (new_machine b) steps) a)
due_alone b steps a shape l = (run_fits b steps shape l).change a

pub list_within : (b : Bounds) (steps : List (ℕ × Op)) (a : ℕ) → IsShape b → IsLawful (new_machine b) steps → a < b.agents
    → length (record_at (run (new_machine b) steps) a).list.items ≤ b.rows
list_within b steps a shape l h =
    let s = run_fits b steps shape l in
    let e = run_bounds (new_machine b) steps in
    let k = list_length (run (new_machine b) steps).bounds (world_of (run (new_machine b) steps)) a s.counted s.rows
    (subst (λ (c : Bounds). a < c.agents) (sym e) h) in
    subst (λ (c : Bounds). length (record_at (run (new_machine b) steps) a).list.items ≤ c.rows) e k

pub sums_within : (b : Bounds) (steps : List (ℕ × Op)) (a : ℕ) (op : Op) → IsShape b → IsLawful (new_machine b) steps
    → is_allowed (run (new_machine b) steps) a op ≡ true
    → NoWrap (action_of a op (record_at (run (new_machine b) steps) a)).operation (word_read (run (new_machine b) steps) a op)
sums_within b steps a op shape l h =
    let m = run (new_machine b) steps in
    let s = run_fits b steps shape l in
    rw (read_shown m a op h)
    (no_wrap m.bounds (world_of m) a op (next_step b steps a op shape l h) s.lives (low_sequences m.bounds (world_of m) (run_shape b steps shape) s))

pub bound_kept : (b : Bounds) (steps : List (ℕ × Op)) → IsShape b → IsLawful (new_machine b) steps → backlog (run (new_machine b) steps) ≤ 9 * b.agents
bound_kept b steps shape l = subst (λ (c : Bounds). backlog (run (new_machine b) steps) ≤ 9 * c.agents) (run_bounds (new_machine b) steps)
    (backlog_bound (run (new_machine b) steps) (run_fits b steps shape l).counted)

take_row : (b : Bounds) (z : World) (a r : ℕ) → LawfulStep b z a (GateTake r) → r < b.rows
take_row b z a r p = ltb-true r b.rows (and_both _ _ (and_both _ _ (and_both _ _ (and_both _ _ p.fits).0).0).0).0

taken_by : (m : Machine) (a r : ℕ) → is_allowed m a (GateTake r) ≡ true → answer m a (GateTake r) ≡ 1
    → takes (GateTake r) (record_at m a) (read_by (world_of m) a (GateTake r)) r ≡ true
taken_by m a r h e = sym (take_answer m a (GateTake r) r (read_shown m a (GateTake r) h)) ∙ rw (eq-eqb r r refl, e)

pub freed_between : (b : Bounds) (before between : List (ℕ × Op)) (a x r : ℕ) → IsShape b → IsLawful (new_machine b) before
    → is_allowed (run (new_machine b) before) a (GateTake r) ≡ true → answer (run (new_machine b) before) a (GateTake r) ≡ 1
    → IsLawful (step (run (new_machine b) before) a (GateTake r)) between
    → is_allowed (run (step (run (new_machine b) before) a (GateTake r)) between) x (GateTake r) ≡ true
    → answer (run (step (run (new_machine b) before) a (GateTake r)) between) x (GateTake r) ≡ 1
    → times_freed between r ≡ times_taken (step (run (new_machine b) before) a (GateTake r)) between r + 1
freed_between b before between a x r shape l h e k i f =
    let m = run (new_machine b) before in
    let t = step m a (GateTake r) in
    let w = run_full b before shape in
    let s = run_fits b before shape l in
    let p = allowed_step m a (GateTake r) w s h in
    let q = take_row m.bounds (world_of m) a r p in
    let d = world_step m a (GateTake r) w.words w.agents h in
    let n = subst (λ z. AllFits m.bounds z) (sym d) (all_step m.bounds (world_of m) a (GateTake r) p s) in
    let u = full_step m a (GateTake r) w in
    let v = run_lives t between r q u n k in
    let o = ap (λ z. out (z.memory (Gate r))) d ∙ taken_out (GateTake r) (record_at m a) (world_of m).memory a r (taken_by m a r h e) in
    let c = takes_free (GateTake r) (record_at (run t between) x) (world_of (run t between)).memory x r (taken_by (run t between) x r i f) in
    let g = out_bit t r q in
    let j = out_bit (run t between) r (subst (λ (y : Bounds). r < y.rows) (sym (run_bounds t between)) q) in
    omega arith
