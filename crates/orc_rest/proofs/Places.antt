-- A scan's place is at most the end of the slots.
use Rattle.std.proofs.Common.{Bool, List, arith, cond, false, subst, sym, true, ℕ, ◌*◌, ◌+◌, ◌<◌, ◌≡◌, ◌≤◌}
use Rattle.std.proofs.lemmas.Bool.{eqb-true, ltb-true}
use Rattle.std.specs.Prelude.{None, Option, Some, [], ◌==◌, ◌∷◌}
use Rattle.orc_core.proofs.Within.{and_both}
use Rattle.orc_core.specs.After.{scan_on}
use Rattle.orc_core.specs.Machine.{Machine, new_machine, nobody, record_at, step}
use Rattle.orc_core.specs.RecordParts.{kept, scan_at}
use Rattle.orc_core.specs.Runs.{IsLawful, run}
use Rattle.orc_core.specs.declared.ops.CounterUse.TheVariants.{Check, End, Start}
use Rattle.orc_core.specs.declared.ops.Op.{Op}
use Rattle.orc_core.specs.declared.ops.Op.TheVariants.{CounterLoad, Hand, SlotLook, Unretire}
use Rattle.orc_core.specs.declared.records.Agent.{Agent}
use Rattle.orc_core.specs.declared.records.Scan.{Scan}
use Rattle.orc_rest.specs.Records.{PlaceFits}
use Rattle.orc_rest.specs.Turns.{IsReachedState}
use Rattle.orc_sound.proofs.AllFits.{AllFits, all_first, all_step, allowed_step, run_bounds}
use Rattle.orc_sound.proofs.Bridge.{world_step}
use Rattle.orc_sound.proofs.Facts.{LawfulStep}
use Rattle.orc_sound.proofs.Full.{Full, full_first, full_step}
use Rattle.orc_sound.proofs.NewState.{seats_first}
use Rattle.orc_sound.proofs.World.{World, record_by, step_world, world_of}
use Rattle.orc_words.specs.Bounds.{Bounds}

-- each agent's scan has such a place
abbrev PlacesFit : Bounds → World → Type 0
PlacesFit b z = (a : ℕ) → PlaceFits b (z.seats a).scan

looked_place : (b : Bounds) (k w : ℕ) (o : Option Scan) → k < 8 * b.agents → scan_at o k ≡ true → PlaceFits b (scan_on o w)
looked_place b k w None l h = tt
looked_place b k w (Some s) l h = cases (w == s.row + 1)
  where
    cases : (t : Bool) → cond t s.place (s.place + 1) ≤ 8 * b.agents
    cases true = let e : s.place ≡ k = eqb-true s.place k h in omega arith
    cases false = let e : s.place ≡ k = eqb-true s.place k h in omega arith

place_after : (b : Bounds) (z : World) (a : ℕ) (op : Op) → LawfulStep b z a op → PlacesFit b z → PlaceFits b (record_by z a op).scan
place_after b z a (CounterLoad q Start) p f = omega arith
place_after b z a (CounterLoad q Check) p f = f a
place_after b z a (CounterLoad q End) p f = cases (_ == kept (z.seats a).scan) _
  where
    cases : (t : Bool) (w : ℕ) → PlaceFits b (cond t None (Some (record { row = q; word = w; place = 0; found = false })))
    cases true w = tt
    cases false w = omega arith
place_after b z a (SlotLook k) p f =
    let h = and_both _ _ p.fits in
    looked_place b k _ (z.seats a).scan (ltb-true k (8 * b.agents) (and_both _ _ (and_both _ _ h.0).0).0) h.1
place_after b z a (Hand k) p f = tt
place_after b z a (Unretire q) p f = tt
place_after b z a op p f = f a

places_step : (b : Bounds) (z : World) (a : ℕ) (op : Op) → LawfulStep b z a op → PlacesFit b z → PlacesFit b (step_world z a op)
places_step b z a op p f x = split (x == a)
  where
    split : (t : Bool) → PlaceFits b (let d : Agent = cond t (record_by z a op) (z.seats x) in d.scan)
    split true = place_after b z a op p f
    split false = f x

places_run : (m : Machine) (steps : List (ℕ × Op)) → Full m → AllFits m.bounds (world_of m) → PlacesFit m.bounds (world_of m) → IsLawful m steps
    → PlacesFit m.bounds (world_of (run m steps))
places_run m [] w s f l = f
places_run m (x ∷ xs) w s f l =
    let p = allowed_step m x.0 x.1 w s l.0 in
    let e = world_step m x.0 x.1 w.words w.agents l.0 in
    let n = subst (λ z. AllFits m.bounds z) (sym e) (all_step m.bounds (world_of m) x.0 x.1 p s) in
    places_run (step m x.0 x.1) xs (full_step m x.0 x.1 w) n (subst (PlacesFit m.bounds) (sym e) (places_step m.bounds (world_of m) x.0 x.1 p f)) l.1

pub place_fits : (m : Machine) (a : ℕ) → IsReachedState m → PlaceFits m.bounds (record_at m a).scan
place_fits m a k = subst (λ x. PlaceFits x.bounds (record_at x a).scan) (sym k.is) (fits_in (run_bounds (new_machine k.bounds) k.steps))
  where
    none : {d : Agent} {room : ℕ} → d ≡ nobody room → PlaceFits k.bounds d.scan
    none e = rw e tt

    reached : PlaceFits k.bounds (record_at (run (new_machine k.bounds) k.steps) a).scan
    reached = places_run (new_machine k.bounds) k.steps (full_first k.bounds k.shape) (all_first k.bounds) (λ x. none (seats_first k.bounds x)) k.lawful a

    fits_in : (run (new_machine k.bounds) k.steps).bounds ≡ k.bounds
        → PlaceFits (run (new_machine k.bounds) k.steps).bounds (record_at (run (new_machine k.bounds) k.steps) a).scan
    fits_in e = subst (λ b. PlaceFits b (record_at (run (new_machine k.bounds) k.steps) a).scan) (sym e) reached
