-- Rows that are tried.
use Rattle.std.proofs.Common.{List, None, Some, [], ap, append_assoc, append-nil, arith, inl, inr, length, length-append, refl, subst, sym, ℕ, ⊎_elim, ◌++◌, ◌<◌, ◌∙◌, ◌≡◌, ◌∷◌, ◌≤◌, ◌⊎◌, take}
use Rattle.std.proofs.Math.Seq.{take-append_seam}
use Rattle.std.proofs.lemmas.List.{take-append-le}
use Rattle.std.specs.Prelude.{slice_get}
use Rattle.orc_core.specs.Machine.{new_machine, word_in}
use Rattle.orc_heap.proofs.Changes.{get-grown}
use Rattle.orc_heap.proofs.Calls.{Only-trans}
use Rattle.orc_heap.specs.OwnEvents.{Only}
use Rattle.orc_domain.specs.Laws.Gates.{OutIn, gate_between}
use Rattle.orc_domain.proofs.Protecting.{same_self, same_then}
use Rattle.orc_domain.proofs.Seats.{only, step_events}
use Rattle.orc_domain.proofs.Stages.{Stage, leaves_by, leaves_none, leaves_then, seat}
use Rattle.orc_machine_rest.specs.OwnSteps.{LeavesNothing, TakesInCleared}
use Rattle.orc_heap.specs.declared.discipline.Discipline as discipline
use Rattle.orc_domain.specs.Causes.{IsTaken}
use Rattle.orc_machine_board.specs.Rules.{bounds_in, run_of, step_of}
use Rattle.orc_domain.specs.Calls.{SameParts}
use Rattle.orc_domain.specs.Searches.{Found, Idles}
use Rattle.orc_domain.specs.Seats.{seat_by}
use Rattle.orc_machine_board.specs.Views.{Makes, MachineView}
use Rattle.orc_machine_board.specs.declared.machine.Request.{Request}
use Rattle.orc_machine_board.specs.declared.machine.MachineShape.{MachineShape}
use Rattle.orc_sound.specs.Journals.{IsLawfulJournal}
use Rattle.orc_sound.specs.declared.steps.Step.{Step}
use Rattle.orc_words.specs.Bounds.{Bounds, IsShape}
use Rattle.orc_words.specs.declared.place.Word.TheVariants.{Gate}

pub get_seam : {A : Type 0} (xs : List A) (x : A) (ys : List A) → slice_get (xs ++ x ∷ ys) (length xs) ≡ Some x
get_seam [] x ys = refl
get_seam (y ∷ xs) x ys = get_seam xs x ys

module _ {N : Type 0} where
  pub idle_trans : (b : Bounds) (s t u : MachineView N) → Idles b s t → Idles b t u → Idles b s u
  idle_trans b s t u p q = record {
    more = p.more ++ q.more;
    journal = q.journal ∙ (ap (λ z. z ++ q.more) p.journal ∙ append_assoc s.journal p.more q.more);
    leaves = leaves_then s.agent s.journal t.journal u.journal p.leaves (subst (λ a. LeavesNothing a t.journal u.journal) p.only.puts.agent q.leaves);
    only = Only-trans (seat_by b s) (seat_by b t) (seat_by b u) [] [] p.only q.only;
    same = same_then s.record_is t.record_is u.record_is p.same q.same;
  }

  pub idle_none : (b : Bounds) (s : MachineView N) → Idles b s s
  idle_none b s = record {
    more = [];
    journal = sym (append-nil s.journal);
    leaves = leaves_none s.agent s.journal;
    only = record { slots = refl; fresh = refl; puts = record { part = []; is = sym (append-nil (seat_by b s).seen); agent = refl; own_is = refl } };
    same = same_self s.record_is;
  }

  pub found_grows : (b : Bounds) (a : ℕ) (before after more : List (Step N)) (r : ℕ) → Found b a before after r → Found b a before (after ++ more) r
  found_grows b a before after more r f = record {
    own = f.own;
    step = f.step;
    there = get-grown f.own after more f.step f.there;
    its = f.its;
    early = f.early;
    place = f.place;
    later = f.later;
    within = let w = f.within in omega (arith, length-append after more);
    taken = subst (λ z. IsTaken b (run_of b z) r) (sym (take-append-le f.place after more f.within)) f.taken;
  }

  pub found_since : (b : Bounds) (a : ℕ) (first before after : List (Step N)) (r : ℕ) → length first ≤ length before → Found b a before after r
      → Found b a first after r
  found_since b a first before after r h f = record {
    own = f.own;
    step = f.step;
    there = f.there;
    its = f.its;
    early = let e = f.early in
        omega arith;
    place = f.place;
    later = f.later;
    within = f.within;
    taken = f.taken;
  }

  -- at a state since an own step
  pub found_at : (b : Bounds) (a : ℕ) (before met : List (Step N)) (x : Step N) (rest early late after : List (Step N)) (r : ℕ) → x.agent ≡ a
      → after ≡ (before ++ met) ++ x ∷ rest → x ∷ rest ≡ early ++ late
      → IsTaken b (run_of b ((before ++ met) ++ early)) r → Found b a before after r
  found_at b a before met x rest early late after r its is cut taken =
      let j = before ++ met in
      let split : after ≡ (j ++ early) ++ late = is ∙ (ap (λ z. j ++ z) cut ∙ sym (append_assoc j early late)) in
      let long = ap length split in
      record {
        own = length j;
        step = x;
        there = ap (λ z. slice_get z (length j)) is ∙ get_seam j x rest;
        its = its;
        early = omega (arith, length-append before met);
        place = length (j ++ early);
        later = omega (arith, length-append j early);
        within = omega (arith, long, length-append (j ++ early) late);
        taken = subst (λ z. IsTaken b (run_of b z) r) (sym (ap (take (length (j ++ early))) split ∙ take-append_seam (j ++ early) late)) taken;
      }

  -- since a step of its own, the gate is the same, or the row was out
  pub found_or_same : (b : Bounds) (a : ℕ) (before met : List (Step N)) (x : Step N) (rest : List (Step N)) (last : Step N) (after : List (Step N)) (r : ℕ)
      → IsShape b → r < b.rows → x.agent ≡ a → after ≡ ((before ++ met) ++ x ∷ rest) ++ last ∷ []
      → IsLawfulJournal (new_machine b) ((before ++ met) ++ x ∷ rest)
      → (word_in (run_of b ((before ++ met) ++ x ∷ rest)) (Gate r) ≡ word_in (run_of b (before ++ met)) (Gate r)) ⊎ Found b a before after r
  found_or_same b a before met x rest last after r shape h its is l =
      ⊎_elim (λ same. inl same)
      (λ (o : OutIn b (before ++ met) (x ∷ rest) r). inr (found_at b a before met x (rest ++ last ∷ []) o.early (o.late ++ last ∷ []) after r its
      (is ∙ append_assoc (before ++ met) (x ∷ rest) (last ∷ [])) (ap (λ z. z ++ last ∷ []) o.is ∙ append_assoc o.early o.late (last ∷ [])) (inl o.out)))
      (gate_between b (before ++ met) (x ∷ rest) r shape l h)

  pub found_now : (b : Bounds) (a : ℕ) (before met : List (Step N)) (x : Step N) (rest : List (Step N)) (last : Step N) (after : List (Step N)) (r : ℕ)
      → x.agent ≡ a → after ≡ ((before ++ met) ++ x ∷ rest) ++ last ∷ []
      → IsTaken b (run_of b ((before ++ met) ++ x ∷ rest)) r → Found b a before after r
  found_now b a before met x rest last after r its is taken = found_at b a before met x (rest ++ last ∷ []) (x ∷ rest) (last ∷ []) after r its
      (is ∙ append_assoc (before ++ met) (x ∷ rest) (last ∷ [])) refl taken

module _ {D N : Type 0} {d : discipline.Ghosts D N} {k : MachineShape N} where
  -- a step without an event that clears no slot and leaves these parts of the record
  pub idles : (q : Request) (s t : Stage d k) (n : ℕ) (m : Makes (bounds_in k) q None s.view n t.view) → TakesInCleared (q.op ∷ [])
      → step_events q None s t n m ≡ [] → SameParts s.view.record_is t.view.record_is → Idles (bounds_in k) s.view t.view
  idles q s t n m bare silent same = record {
    more = m.met ++ step_of s.view.agent q None ∷ [];
    journal = m.journal ∙ append_assoc s.view.journal m.met (step_of s.view.agent q None ∷ []);
    leaves = leaves_by q None s t n m bare;
    only = subst (λ es. Only es (seat s) (seat t)) silent (only q None s t n m same.slots same.fresh);
    same = same;
  }
