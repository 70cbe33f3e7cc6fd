-- A look at a slot, by what the scan was.
use Rattle.std.proofs.Common.{ap, cond, false, refl, subst, sym, true, ℕ, ◌*◌, ◌+◌, ◌<◌, ◌∙◌, ◌≡◌}
use Rattle.std.proofs.lemmas.Bool.{eq-eqb, eqb-true, lt-ltb}
use Rattle.std.specs.Prelude.{Some, ◌==◌}
use Rattle.orc_core.specs.After.{scan_on}
use Rattle.orc_core.specs.Machine.{Machine, is_allowed, record_at}
use Rattle.orc_core.specs.RecordParts.{scan_found}
use Rattle.orc_core.specs.declared.ops.Op.TheVariants.{Hand, SlotLook}
use Rattle.orc_core.specs.declared.records.Agent.{Agent}
use Rattle.orc_rest.proofs.Stages.{allowed}
use Rattle.orc_rest.specs.Records.{IsFoundScan, IsScanOf, IsStill}
use Rattle.orc_rest.specs.Rounds.{LookedAt, LooksAtSlot}
use Rattle.orc_words.specs.Packed.{count_bits}

pub look_allowed : (m : Machine) (a r k : ℕ) → a < m.bounds.agents → IsStill (record_at m a) → IsScanOf r k (record_at m a).scan → k < 8 * m.bounds.agents
    → is_allowed m a (SlotLook k) ≡ true
look_allowed m a r k h s f l = allowed m a (SlotLook k) h s.calm.enrolled (rw (s.due, s.calm.inc, s.dec) refl)
    (rw (lt-ltb k (8 * m.bounds.agents) l, f.is, eq-eqb (count_bits f.word) 4194304 f.empty, eq-eqb k k refl) refl)

pub looks : (m n : Machine) (a r k : ℕ) → IsStill (record_at m a) → IsScanOf r k (record_at m a).scan → LookedAt a k m n → LooksAtSlot a r k m n
looks m n a r k s f l =
    let w = l.word in
    let scan : (record_at n a).scan ≡ Some (record { row = r; word = f.word; place = cond (w == r + 1) k (k + 1); found = w == r + 1 }) =
    ap (λ (d : Agent). d.scan) l.is ∙ ap (λ o. scan_on o w) f.is in
    record {
      still = subst IsStill (sym l.is) (record {
        calm = record { enrolled = s.calm.enrolled; slots = s.calm.slots; eight = s.calm.eight; fresh = s.calm.fresh; inc = s.calm.inc };
        zero = s.zero;
        dec = s.dec;
        due = s.due;
      });
      doom = ap (λ (d : Agent). d.doom) l.is;
      found = λ h.
          let e : (w == r + 1) ≡ true = sym (ap scan_found scan) ∙ h in
          record {
            word = f.word;
            is = scan ∙ (λ i. Some (record { row = r; word = f.word; place = cond (e i) k (k + 1); found = e i }));
          };
      shows = λ h. l.shows ∙ eqb-true w (r + 1) (sym (ap scan_found scan) ∙ h);
      on = λ h.
          let e : (w == r + 1) ≡ false = sym (ap scan_found scan) ∙ h in
          record {
            word = f.word;
            is = scan ∙ (λ i. Some (record { row = r; word = f.word; place = cond (e i) k (k + 1); found = e i }));
            empty = f.empty;
          };
    }

pub hand_allowed : (n : Machine) (a r k : ℕ) → a < n.bounds.agents → IsStill (record_at n a) → IsFoundScan r k (record_at n a).scan → k < 8 * n.bounds.agents
    → is_allowed n a (Hand k) ≡ true
hand_allowed n a r k h s f l = allowed n a (Hand k) h s.calm.enrolled (rw (s.due, s.calm.inc, s.dec) refl)
    (rw (lt-ltb k (8 * n.bounds.agents) l, f.is, eq-eqb k k refl) refl)
