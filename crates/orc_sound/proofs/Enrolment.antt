-- The agents enroll in the order of their numbers, and only enrolled agents step.
use Rattle.std.proofs.Common.{Bool, ap, arith, cond, false, refl, sym, true, ℕ, ◌%◌, ◌+◌, ◌<◌, ◌∙◌, ◌≡◌, ◌≢◌, ◌≤◌, zero, suc}
use Rattle.std.proofs.lemmas.Bool.{eqb-false, eqb-true, false≢true, ltb-true}
use Rattle.std.specs.Prelude.{nat_lt, ◌==◌}
use Rattle.orc_words.specs.Bounds.{Bounds}
use Rattle.orc_words.specs.declared.place.Word.{Word}
use Rattle.orc_words.specs.declared.place.Word.TheVariants.{Enrolled, First, Next, Root, Second, Side}
use Rattle.orc_core.proofs.Within.{and_both}
use Rattle.orc_words.specs.Operations.{word_after}
use Rattle.orc_core.specs.Actions.{action_of}
use Rattle.orc_core.specs.After.{after}
use Rattle.orc_core.specs.Allowed.{fits, stands}
use Rattle.orc_core.specs.declared.ops.Op.{Op}
use Rattle.orc_core.specs.declared.ops.Op.TheVariants.{Enroll, Fill, LinkCas, LinkLoad, Read, LinkStore}
use Rattle.orc_core.specs.declared.records.Agent.{Agent}
use Rattle.orc_sound.proofs.Facts.{EnrolmentFits, LawfulStep}
use Rattle.orc_sound.proofs.Seats.{seat_join, seat_other}
use Rattle.orc_sound.proofs.Sources.{write_same}
use Rattle.orc_sound.proofs.World.{World, read_by, record_by, step_world, write}

-- a step of another kind leaves the word of enrolments
enrolled_word : (b : Bounds) (e a : ℕ) (op : Op) (d : Agent) (m : Word → ℕ) → fits b e a op d ≡ true → op ≢ Enroll
    → write m (action_of a op d).word (word_after (action_of a op d).operation (m (action_of a op d).word)) Enrolled ≡ m Enrolled
enrolled_word b e a Enroll d m f n = absurd (n refl)
enrolled_word b e a (LinkLoad p k) d m f n = write_same m p Enrolled
enrolled_word b e a (LinkCas (Root i) x t) d m f n = refl
enrolled_word b e a (LinkCas (Next i) x t) d m f n = refl
enrolled_word b e a (LinkCas (Side i) x t) d m f n = refl
enrolled_word b e a (LinkCas p x t) d m f n = grind arith
enrolled_word b e a (Fill q w v) d m f n = grind arith
enrolled_word b e a (Read q w) d m f n = write_same m (cond (w == 0) (First q) (Second q)) Enrolled
enrolled_word b e a (LinkStore lq ll zero) d m f n = refl
enrolled_word b e a (LinkStore lq ll (suc ln)) d m f n = refl
enrolled_word b e a op d m f n = refl

stays_enrolled : (op : Op) (d : Agent) (v : ℕ) → d.enrolled ≡ true → (after op d v).enrolled ≡ true
stays_enrolled Enroll d v h = refl
stays_enrolled op d v h = h

stands_enrolled : (op : Op) (d : Agent) → op ≢ Enroll → stands op d ≡ true → d.enrolled ≡ true
stands_enrolled Enroll d n h = absurd (n refl)
stands_enrolled op d n h = h

-- an enrolled agent's number is below the word of enrolments
below : (b : Bounds) (z : World) (a : ℕ) → EnrolmentFits b z → (z.seats a).enrolled ≡ true → a < z.memory Enrolled
below b z a s h = cases (nat_lt a (z.memory Enrolled)) refl
  where
    cases : (t : Bool) → nat_lt a (z.memory Enrolled) ≡ t → a < z.memory Enrolled
    cases true e = ltb-true a (z.memory Enrolled) e
    cases false e = let l : z.memory Enrolled ≤ a = grind arith in absurd (false≢true (sym (ap (λ (d : Agent). d.enrolled) (s.empty a l)) ∙ h))

others_step : (b : Bounds) (z : World) (a : ℕ) (op : Op) → LawfulStep b z a op → op ≢ Enroll → EnrolmentFits b (step_world z a op)
others_step b z a op p n =
    let s = p.counted.enrolment in
    let same : (step_world z a op).memory Enrolled ≡ z.memory Enrolled = enrolled_word b (z.memory Enrolled) a op (z.seats a) z.memory p.fits n in
    let l = below b z a s (stands_enrolled op (z.seats a) n p.stands) in
    record {
      most = rw same s.most;
      enrolled = λ x h. seat_join (λ d. d.enrolled ≡ true) z.seats a x (record_by z a op)
          (stays_enrolled op (z.seats a) (read_by z a op) (s.enrolled a l)) (s.enrolled x (rw same at h));
      empty = λ x h. let k : z.memory Enrolled ≤ x = rw same at h in seat_other z.seats a x (record_by z a op) (omega arith) ∙ s.empty x k;
    }

enroll_step : (b : Bounds) (z : World) (a : ℕ) → LawfulStep b z a Enroll → EnrolmentFits b (step_world z a Enroll)
enroll_step b z a p =
    let s = p.counted.enrolment in
    let e : z.memory Enrolled ≡ a = eqb-true (z.memory Enrolled) a (and_both _ _ p.fits).1 in
    let l = p.agent in
    let k = p.shape.agents.1 in
    let w : (z.memory Enrolled + 1) % 18446744073709551616 ≡ a + 1 = omega arith in
    record {
      most = rw w (omega arith);
      enrolled = λ x h. grew x (rw w at h);
      empty = λ x h. let g : a + 1 ≤ x = rw w at h in seat_other z.seats a x (record_by z a Enroll) (omega arith) ∙ s.empty x (omega arith);
    }
  where
    grew : (x : ℕ) → x < a + 1 → ((step_world z a Enroll).seats x).enrolled ≡ true
    grew x h = cases (x == a) refl
      where
        cases : (t : Bool) → (x == a) ≡ t → (cond t (record_by z a Enroll) (z.seats x)).enrolled ≡ true
        cases true t = refl
        cases false t = let n : x ≢ a = eqb-false x a t in let e : z.memory Enrolled ≡ a = eqb-true (z.memory Enrolled) a (and_both _ _ p.fits).1 in
            p.counted.enrolment.enrolled x (omega arith)

pub enrolment_step : (b : Bounds) (z : World) (a : ℕ) (op : Op) → LawfulStep b z a op → EnrolmentFits b (step_world z a op)
enrolment_step b z a Enroll p = enroll_step b z a p
enrolment_step b z a op p = others_step b z a op p (λ e. cc)
