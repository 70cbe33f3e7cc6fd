-- A fresh row that is given up: its retired bit is set at the first try, since nobody else counts it.
use Rattle.std.proofs.Common.{Bool, List, None, Option, Some, [], ap, append-nil, arith, eq-eqb, false, refl, subst, sym, true, ℕ, ◌++◌, ◌<◌, ◌^◌, ◌+◌, ◌∙◌, ◌≡◌, ◌≢◌, ◌∷◌}
use Rattle.std.proofs.lemmas.Bool.{lt-ltb, or_right}
use Rattle.std.specs.Option.{option_map}
use Rattle.std.specs.Prelude.{cond, if◌then◌else◌, map, slice_set, ◌&&◌, ◌==◌}
use Rattle.orc_core.specs.Actions.{clear_word}
use Rattle.orc_core.specs.Machine.{record_at, word_in}
use Rattle.orc_core.specs.RecordParts.{any_holds, is_due, names}
use Rattle.orc_core.specs.declared.ops.CounterUse.TheVariants.{Check}
use Rattle.orc_core.specs.declared.ops.Op.{Op}
use Rattle.orc_core.specs.declared.ops.Op.TheVariants.{Clear, CounterLoad, SetRetired, TakeIn}
use Rattle.orc_core.specs.declared.records.Agent.{Agent}
use Rattle.orc_heap.proofs.Calls.{Puts-trans}
use Rattle.orc_heap.proofs.Pieces.{unless_other}
use Rattle.orc_heap.specs.Calls.{Releases, unless_node}
use Rattle.orc_heap.specs.OwnEvents.{Puts}
use Rattle.orc_heap.specs.Slots.{Hold, Holds, id_in}
use Rattle.orc_heap.specs.declared.discipline.Discipline as discipline
use Rattle.orc_history.specs.Journals.{own_of}
use Rattle.orc_machine_board.specs.Holding.{HasRow}
use Rattle.orc_machine_board.specs.Kinds.{MayDo, asks}
use Rattle.orc_machine_board.specs.Laws.Steps.{in_range}
use Rattle.orc_machine_board.specs.Licences.{ids_of}
use Rattle.orc_machine_board.specs.Rules.{bounds_in, heap_numbers, run_of, step_of}
use Rattle.orc_machine_board.specs.Views.{MachineView}
use Rattle.orc_machine_board.specs.declared.machine.MachineShape.{MachineShape}
use Rattle.orc_projection.proofs.Links.{names-some}
use Rattle.orc_domain.proofs.Filling.{fresh_row}
use Rattle.orc_domain.proofs.FreshRows.{fresh_between, fresh_clear, load_keeps, low_sequence}
use Rattle.orc_domain.proofs.Held.{has_low, hold_slot}
use Rattle.orc_domain.proofs.Protecting.{still_ready, true_false}
use Rattle.orc_domain.proofs.Releasing.{release_between, release_can}
use Rattle.orc_domain.proofs.Seats.{calm_forced, puts, ready_calm, slots_keep}
use Rattle.orc_machine_rest.proofs.TakenIn.{done_none, done_then}
use Rattle.orc_domain.proofs.Ending.{Ends}
use Rattle.orc_domain.proofs.Stages.{Between, Stage, Steps, before_lawful, before_out, before_record, before_unmarked, done_one, seat, whole_lawful}
use Rattle.orc_domain.proofs.Untouched.{untouched_before}
use Rattle.orc_domain.proofs.Wearing.{check_may}
use Rattle.orc_domain.specs.Calls.{Retires, SameParts, Unlocks}
use Rattle.orc_machine_rest.specs.OwnSteps.{HasDone, TakesInCleared}
use Rattle.orc_domain.specs.Passes.{IsFreshUntouched}
use Rattle.orc_domain.specs.Seats.{IsBetweenCalls, seat_by, slot_by}
use Rattle.orc_sound.specs.declared.steps.Step.{Step}
use Rattle.orc_words.specs.Bounds.{Bounds}
use Rattle.orc_words.specs.Packed.{sequence_of}
use Rattle.orc_words.specs.declared.place.Word.TheVariants.{Counter}

module _ {D N : Type 0} {d : discipline.Ghosts D N} {k : MachineShape N} (s : Stage d k) (between : Between s) (r : ℕ)
    (fresh : names s.view.record_is.fresh r ≡ true) where
  abbrev b : Bounds
  b = bounds_in k

  has : HasRow s.view.record_is r
  has = or_right (any_holds s.view.record_is.slots r) (names s.view.record_is.fresh r) fresh

  low : r < (bounds_in k).rows
  low = has_low s r has

  pub check_can : MayDo (bounds_in k) s.view (CounterLoad r Check)
  check_can = check_may (bounds_in k) s.view.agent s.view.record_is r s.number (ready_calm s.view.record_is between.ready) low

  module _ (t : Stage d k) (n : ℕ) (m1 : Steps (CounterLoad r Check) s n t) where
    abbrev j1 : List (Step N)
    j1 = s.view.journal ++ m1.met

    fresh1 : names (record_at (run_of (bounds_in k) j1) s.view.agent).fresh r ≡ true
    fresh1 = subst (λ (e : Agent). names e.fresh r ≡ true) (sym (before_record (asks (CounterLoad r Check)) None s t n m1)) fresh

    clear1 : n ≡ clear_word (sequence_of n)
    clear1 =
        let q = asks (CounterLoad r Check) in
        let mine = before_record q None s t n m1 in
        let word = fresh_clear (bounds_in k) s.view.agent r (in_range k.shape) low j1 (record { lawful = before_lawful q None s t n m1; fresh = fresh1 })
        (before_unmarked q None s t n m1) (ap (λ (e : Agent). e.inc) mine ∙ between.ready.inc) (ap (λ (e : Agent). e.dec) mine ∙ between.ready.dec)
        (before_out q None s t n m1 r has) (untouched_before q None s t n m1 between r fresh) in
        subst (λ w. w ≡ clear_word (sequence_of w)) (sym m1.answer) word

    same1 : SameParts s.view.record_is t.view.record_is
    same1 = subst (SameParts s.view.record_is) (sym m1.record_is)
        (record { enrolled = refl; slots = refl; fresh = refl; due = refl; inc = refl; dec = refl; doom = refl; scan = refl })

    fresh_t : names t.view.record_is.fresh r ≡ true
    fresh_t = ap (λ o. names o r) same1.fresh ∙ fresh

    pub retire_can : MayDo (bounds_in k) t.view (SetRetired r (sequence_of n))
    retire_can =
        let b = bounds_in k in
        let agent = lt-ltb t.view.agent b.agents t.number in
        let ready1 = still_ready s.view.record_is t.view.record_is same1 between.ready in
        let on = ready1.enrolled in
        let first = calm_forced t.view.record_is (SetRetired r (sequence_of n)) (ready_calm t.view.record_is ready1) in
        let row = lt-ltb r b.rows low in
        let small : sequence_of n < 2 ^ 39 + 2 ^ 19 = subst (λ w. sequence_of w < 2 ^ 39 + 2 ^ 19) (sym m1.answer)
        (low_sequence b s.view.agent r (in_range k.shape) low j1 (before_lawful (asks (CounterLoad r Check)) None s t n m1)) in
        let below = lt-ltb (sequence_of n) 1099511627776 (omega (arith, small)) in
        let its = or_right (is_due t.view.record_is.due r (sequence_of n)) (names t.view.record_is.fresh r) fresh_t in
        λ i. ((agent i && on i) && first i) && ((row i && below i) && its i)

    module _ (u : Stage d k) (o : ℕ) (m2 : Steps (SetRetired r (sequence_of n)) t o u) where
      abbrev j2 : List (Step N)
      j2 = t.view.journal ++ m2.met

      -- the word is still what was read
      word2 : word_in (run_of (bounds_in k) j2) (Counter r) ≡ n
      word2 =
          let b = bounds_in k in
          let a = s.view.agent in
          let shape = in_range k.shape in
          let q1 = asks (CounterLoad r Check) in
          let q2 = asks (SetRetired r (sequence_of n)) in
          let none = subst (λ z. own_of (λ (x : Step N). x.agent) z m2.met ≡ []) m1.agent m2.others in
          let mine : names (record_at (run_of b t.view.journal) a).fresh r ≡ true =
          subst (λ z. names (record_at (run_of b t.view.journal) z).fresh r ≡ true) m1.agent (ap (λ (e : Agent). names e.fresh r) t.mine ∙ fresh_t) in
          fresh_between b a r shape low t.view.journal m2.met (before_lawful q2 None t u o m2) none mine
          ∙ (ap (λ l. word_in (run_of b l) (Counter r)) m1.journal
          ∙ (load_keeps b a r shape low j1 (step_of a q1 None) (whole_lawful q1 None s t n m1) refl ∙ sym m1.answer))

      hit : (word_in (run_of (bounds_in k) j2) (Counter r) == clear_word (sequence_of n)) ≡ true
      hit = eq-eqb (word_in (run_of (bounds_in k) j2) (Counter r)) (clear_word (sequence_of n)) (word2 ∙ clear1)

      pub retires : Retires (bounds_in k) r s.view u.view
      retires =
          let q1 = asks (CounterLoad r Check) in
          let q2 = asks (SetRetired r (sequence_of n)) in
          let slots2 : u.view.record_is.slots ≡ t.view.record_is.slots = ap (λ (e : Agent). e.slots) m2.record_is in
          record {
            slots = ap (map (slot_by (ids_of (bounds_in k) u.view))) slots2 ∙ (slots_keep q2 None t u o m2
                ∙ (ap (map (slot_by (ids_of (bounds_in k) t.view))) same1.slots ∙ slots_keep q1 None s t n m1));
            puts = Puts-trans (seat s) (seat t) (seat u) [] [] (puts q1 None s t n m1) (puts q2 None t u o m2);
            same = record {
              enrolled = ap (λ (e : Agent). e.enrolled) m2.record_is ∙ same1.enrolled;
              slots = slots2 ∙ same1.slots;
              fresh = ap (λ (e : Agent). e.fresh) m2.record_is
                  ∙ (ap (λ (z : Bool). cond z (cond (names t.view.record_is.fresh r) None t.view.record_is.fresh) t.view.record_is.fresh) hit
                  ∙ ap (λ (z : Bool). cond z None t.view.record_is.fresh) fresh_t);
              due = ap (λ (e : Agent). e.due) m2.record_is ∙ sym between.ready.due;
              inc = ap (λ (e : Agent). e.inc) m2.record_is ∙ same1.inc;
              dec = ap (λ (e : Agent). e.dec) m2.record_is ∙ same1.dec;
              doom = ap (λ (e : Agent). e.doom) m2.record_is ∙ same1.doom;
              scan = ap (λ (e : Agent). e.scan) m2.record_is ∙ same1.scan;
            };
            sequence = sequence_of n;
            done = done_then s.view.agent s.view.journal t.view.journal u.view.journal (CounterLoad r Check ∷ []) (SetRetired r (sequence_of n) ∷ [])
                (done_one q1 None s t n m1)
                (subst (λ a. HasDone a (SetRetired r (sequence_of n) ∷ []) t.view.journal u.view.journal) m1.agent (done_one q2 None t u o m2));
          }

pub not_some : (id : ℕ) → (let o : Option ℕ = None in o) ≡ Some id → ⊥
not_some id e = cc

module _ {D N : Type 0} {d : discipline.Ghosts D N} {k : MachineShape N} where
  -- the node of the hold is fresh no more, if it was, and nothing else that the pass shows has changed
  pub record LetsGo (s t : Stage d k) (h : Hold) : Type 0 where
    pub slots : (seat t).slots ≡ (seat s).slots
    pub fresh : (seat t).fresh ≡ unless_node (seat s).fresh (Some (id_in (seat s).slots h))
    pub linked : (seat t).fresh ≢ Some (id_in (seat t).slots h)
    pub puts : Puts (seat s) [] (seat t)
    pub between : Between t
    pub ops : List Op
    pub done : HasDone s.view.agent ops s.view.journal t.view.journal
    pub bare : (more : List Op) → TakesInCleared more → TakesInCleared (ops ++ more)

  -- the hold's row was fresh
  pub lets_fresh : (s t : Stage d k) (h : Hold) → Between s → Holds (seat s).slots h → names s.view.record_is.fresh h.row ≡ true
      → Retires (bounds_in k) h.row s.view t.view → LetsGo s t h
  lets_fresh s t h between held fresh re =
      let none : (seat t).fresh ≡ None = ap (option_map (ids_of (bounds_in k) t.view).node) re.same.fresh in
      let p = ids_of (bounds_in k) s.view in
      let was : (seat s).fresh ≡ Some (id_in (seat s).slots h) = ap (option_map p.node) (names-some s.view.record_is.fresh h.row fresh)
      ∙ ap Some (sym (hold_slot s h held).1) in
      let d0 = s.view.record_is in
      record {
        slots = re.slots;
        fresh = none
            ∙ (sym (ap (λ (z : Bool). if z then None else Some (id_in (seat s).slots h))
            (eq-eqb (id_in (seat s).slots h) (id_in (seat s).slots h) refl))
            ∙ sym (ap (λ o. unless_node o (Some (id_in (seat s).slots h))) was));
        linked = λ e. not_some (id_in (seat t).slots h) (sym none ∙ e);
        puts = re.puts;
        between = record {
          ready = still_ready (record d0 { fresh = None }) t.view.record_is re.same record {
            enrolled = between.ready.enrolled;
            eight = between.ready.eight;
            due = between.ready.due;
            inc = between.ready.inc;
            dec = between.ready.dec;
            zero = between.ready.zero;
            published = between.ready.published;
            doom = between.ready.doom;
            found = between.ready.found;
          };
          untouched = λ id e. absurd (not_some id (sym none ∙ e));
        };
        ops = CounterLoad h.row Check ∷ SetRetired h.row re.sequence ∷ [];
        done = re.done;
        bare = λ more m. m;
      }

  -- it wasn't
  pub lets_other : (s t : Stage d k) (h : Hold) → Between s → Holds (seat s).slots h → names s.view.record_is.fresh h.row ≡ false → t.view ≡ s.view
      → LetsGo s t h
  lets_other s t h between held other is =
      let b = bounds_in k in
      let linked : (seat s).fresh ≢ Some (id_in (seat s).slots h) = λ e.
      true_false (names s.view.record_is.fresh h.row) (fresh_row s h (record { held = held; fresh = e })) other in
      let fresh : (seat t).fresh ≡ (seat s).fresh = ap (λ (v : MachineView N). (seat_by b v).fresh) is in
      record {
        slots = ap (λ (v : MachineView N). (seat_by b v).slots) is;
        fresh = fresh ∙ sym (unless_other (seat s).fresh (id_in (seat s).slots h) linked);
        linked = λ e. linked (sym fresh ∙ (e ∙ ap (λ (v : MachineView N). Some (id_in (seat_by b v).slots h)) is));
        puts = record {
          part = [];
          is = ap (λ (v : MachineView N). (seat_by b v).seen) is ∙ sym (append-nil (seat s).seen);
          agent = ap (λ (v : MachineView N). v.agent) is;
          own_is = refl;
        };
        between = record {
          ready = subst (λ (v : MachineView N). IsBetweenCalls v.record_is) (sym is) between.ready;
          untouched = subst (λ (v : MachineView N). IsFreshUntouched (heap_numbers k) (seat_by b v)) (sym is) between.untouched;
        };
        ops = [];
        done = subst (λ (v : MachineView N). HasDone s.view.agent [] s.view.journal v.journal) (sym is) (done_none s.view.agent s.view.journal);
        bare = λ more m. m;
      }

  -- by whether it was
  pub goes : (s t : Stage d k) (h : Hold) → Between s → Holds (seat s).slots h
      → (names s.view.record_is.fresh h.row ≡ true → Retires (bounds_in k) h.row s.view t.view)
      → (names s.view.record_is.fresh h.row ≡ false → t.view ≡ s.view)
      → LetsGo s t h
  goes s t h between held retired kept = cases (names s.view.record_is.fresh h.row) refl
    where
      cases : (x : Bool) → names s.view.record_is.fresh h.row ≡ x → LetsGo s t h
      cases true e = lets_fresh s t h between held e (retired e)
      cases false e = lets_other s t h between held e (kept e)

  -- then the slot is cleared
  module _ (s t : Stage d k) (h : Hold) (held : Holds (seat s).slots h) (g : LetsGo s t h) where
    still_held : Holds (seat t).slots h
    still_held = subst (λ l. Holds l h) (sym g.slots) held

    pub clear_can : MayDo (bounds_in k) t.view (Clear h.slot)
    clear_can = release_can t g.between h still_held g.linked

    module _ (u : Stage d k) (un : Unlocks (bounds_in k) h.slot t.view u.view) where
      pub releases : Releases (seat s) h (seat u)
      releases = record {
        slots = un.sets.slots ∙ ap (λ l. slice_set l h.slot None) g.slots;
        fresh = un.sets.fresh ∙ g.fresh;
        puts = Puts-trans (seat s) (seat t) (seat u) [] [] g.puts un.sets.puts;
      }

      pub release_ends : Ends s u
      release_ends = record {
        between = release_between t g.between h still_held g.linked u un;
        leaves = record {
          ops = g.ops ++ Clear h.slot ∷ TakeIn h.slot ∷ [];
          done = done_then s.view.agent s.view.journal t.view.journal u.view.journal g.ops (Clear h.slot ∷ TakeIn h.slot ∷ []) g.done
              (subst (λ a. HasDone a (Clear h.slot ∷ TakeIn h.slot ∷ []) t.view.journal u.view.journal) g.puts.agent un.done);
          taken_in = g.bare (Clear h.slot ∷ TakeIn h.slot ∷ []) (refl, tt);
        };
      }
