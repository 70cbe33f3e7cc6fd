-- An agent has at most one of hand, scan and doom.
use Rattle.std.proofs.Common.{Bool, arith, cond, false, refl, true, ℕ, ◌+◌, ◌≡◌, ◌≤◌}
use Rattle.std.proofs.lemmas.Bool.{false≢true}
use Rattle.std.specs.Prelude.{None, Option, Some, is_none, is_some, ◌==◌}
use Rattle.orc_words.specs.Bounds.{Bounds}
use Rattle.orc_words.specs.Packed.{bit, named}
use Rattle.orc_core.proofs.Within.{and_both}
use Rattle.orc_core.specs.After.{after, bared, cut_of, scan_on}
use Rattle.orc_core.specs.Allowed.{fits}
use Rattle.orc_core.specs.RecordParts.{kept, scan_found, scans}
use Rattle.orc_core.specs.declared.ops.CounterUse.TheVariants.{Check, End, Start}
use Rattle.orc_core.specs.declared.ops.Op.{Op}
use Rattle.orc_core.specs.declared.ops.Op.TheVariants.{CounterLoad, Free, Hand, LinkStore, SlotLook, Unretire}
use Rattle.orc_core.specs.declared.records.Agent.{Agent}
use Rattle.orc_core.specs.declared.records.Doom.{Doom}
use Rattle.orc_core.specs.declared.records.Scan.{Scan}
use Rattle.orc_sound.specs.RetirementToken.{HasOnePart}

some_cut : (o : Option Doom) (r n : ℕ) → is_some (cut_of o r n) ≡ is_some o
some_cut None r n = refl
some_cut (Some d) r n = refl

some_bared : (o : Option Doom) → is_some (bared o) ≡ is_some o
some_bared None = refl
some_bared (Some d) = refl

some_on : (o : Option Scan) (w : ℕ) → is_some (scan_on o w) ≡ is_some o
some_on None w = refl
some_on (Some d) w = refl

one_some : {A : Type 0} (o : Option A) → bit (is_some o) ≤ 1
one_some None = omega arith
one_some (Some x) = omega arith

pub scans_some : (o : Option Scan) (q : ℕ) → scans o q ≡ true → bit (is_some o) ≡ 1
scans_some None q h = absurd (false≢true h)
scans_some (Some x) q h = refl

found_some : (o : Option Scan) → scan_found o ≡ true → bit (is_some o) ≡ 1
found_some None h = absurd (false≢true h)
found_some (Some x) h = refl

none_zero : {A : Type 0} (o : Option A) → is_none o ≡ true → bit (is_some o) ≡ 0
none_zero None h = refl
none_zero (Some x) h = absurd (false≢true h)

end_parts : (t : Bool) (h : ℕ) (s : Scan) (c : Doom) (m : Option Doom) → h ≡ 0 → bit (is_some m) ≡ 0 → h + bit (is_some (cond t None (Some s)))
    + bit (is_some (cond t (Some c) m)) ≤ 1
end_parts true h s c m e k = omega arith
end_parts false h s c m e k = omega arith

pub parts_kept : (b : Bounds) (e a : ℕ) (op : Op) (d : Agent) (v : ℕ) → fits b e a op d ≡ true → HasOnePart d → HasOnePart (after op d v)
parts_kept b e a (LinkStore q l nr) d v f h = rw (some_cut d.doom q nr) h
parts_kept b e a (CounterLoad q Check) d v f h = h
parts_kept b e a (CounterLoad q Start) d v f h = let k = none_zero d.doom (and_both _ _ (and_both _ _ f).0).1 in omega arith
parts_kept b e a (CounterLoad q End) d v f h = let s = scans_some d.scan q (and_both _ _ (and_both _ _ (and_both _ _ f).0).0).1 in
    end_parts (v == kept d.scan) (bit (is_some d.hand)) _ _ d.doom (omega arith) (omega arith)
parts_kept b e a (Unretire q) d v f h = rw (some_bared d.doom) (omega arith)
parts_kept b e a (SlotLook k) d v f h = rw (some_on d.scan v) h
parts_kept b e a (Hand k) d v f h = let s = found_some d.scan (and_both _ _ (and_both _ _ f).0).1 in let k = one_some (named v) in omega arith
parts_kept b e a (Free q) d v f h = omega arith
parts_kept b e a op d v f h = h
