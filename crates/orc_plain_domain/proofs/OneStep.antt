-- One step of a call: a fill, a read, a load, an aim, and a link that is tested or swung.
use Rattle.std.proofs.Common.{Bool, List, None, Option, Some, [], ap, arith, false, refl, subst, sym, true, ℕ, ◌==◌, ◌∙◌, ◌∷◌, ◌≡◌, ◌≢◌, ◌≤◌}
use Rattle.orc_heap.specs.Calls.{Misses as HeapMisses, ReadsValue, Swings, Tests, event_of, look_of, move_of, unless_node}
use Rattle.orc_heap.specs.Journals.{event_by, run_heap}
use Rattle.orc_heap.specs.OwnEvents.{Only, Puts}
use Rattle.orc_heap.specs.Seats.{HoldsFresh, HoldsPlace, HoldsTarget, HoldsWant, link_in, place_in, target_in}
use Rattle.orc_heap.specs.Slots.{Hold, Holds, id_in}
use Rattle.orc_heap.specs.declared.discipline.Discipline as discipline
use Rattle.orc_heap.specs.declared.events.Act.TheVariants.{Fill, Look, Miss, Move}
use Rattle.orc_heap.specs.declared.events.Event.{Event}
use Rattle.orc_shared_words.specs.declared.machine.Machine as machine
use Rattle.orc_plain_board.specs.Calls.{AddsOwn, FindsLink, KnowsPlace, KnowsTarget, MayWhereFits, MayWhereShown, Misses, MissesWanted, aim_event, look_event, move_event, unless_linked}
use Rattle.orc_any_domain.specs.Rows.{index_of}
use Rattle.orc_plain_board.specs.Machine.{id_by, link_by, place_by}
use Rattle.orc_plain_board.specs.Views.{Belongs, heap_of}
use Rattle.orc_plain_board.specs.declared.machine.Plain.{Plain}
use Rattle.orc_plain_board.specs.declared.machine.PlainOp.{PlainOp}
use Rattle.orc_plain_board.specs.declared.machine.PlainStep.{PlainStep}
use Rattle.orc_plain_board.specs.declared.pass.PlainBoardPass.{PlainBoardPass as BoardPass}
use Rattle.orc_plain_board.specs.declared.shape.PlainShape.{PlainShape}
use Rattle.orc_plain_domain.specs.Passes.{IsPassOf, domain_numbers, seat_of}
use Rattle.orc_any_domain.specs.Names.{row_link, target_link, word_at}
use Rattle.orc_plain_domain.specs.Rows.{seat_by}
use Rattle.orc_plain_domain.specs.declared.domain.PlainDomain.{PlainDomain}
use Rattle.orc_plain_domain.specs.declared.domain.PlainPass.{PlainPass}
use Rattle.orc_plain_domain.proofs.Growing.{adds_grow, adds_put, fresh_given, fresh_same, fresh_stays, mine, only_adds, slots_same, still_adds, two_views}
use Rattle.orc_plain_domain.proofs.Naming.{hold_fresh, hold_in, place_is, place_known, target_is, want_given, want_is, want_known}
use Rattle.orc_words.specs.Packed.{link_word}
use Rattle.orc_words.specs.declared.packed.RowLink.{RowLink}
use Rattle.orc_words.specs.declared.place.Word.{Word}
use Rattle.orc_heap.specs.Acts.{IsTarget, aim_act}
use Rattle.orc_heap.specs.declared.events.Link.{Link}
use Rattle.orc_plain_board.proofs.Known.{ties}
use Rattle.orc_plain_domain.specs.Calls.{Loads}
use Rattle.std.specs.Borrow.{Bor}
use Rattle.orc_heap.specs.Allowed.{AllowedLater, AllowedWhereFits}
use Rattle.std.proofs.lemmas.Bool.{eqb-false, eqb-true}
use Rattle.orc_heap.specs.declared.events.Place.{Place}
use Rattle.orc_heap.specs.declared.holds.At.{At}
use Rattle.orc_heap.specs.declared.holds.Want.{Want}
use Rattle.orc_plain_board.proofs.Ties.{Given}
use Rattle.orc_plain_domain.proofs.LinkWords.{link_is, word_low}
use Rattle.orc_plain_domain.proofs.Rows.{unless_given, unless_is}

module _ {D N : Type 0} {d : discipline.Ghosts D N} {m : machine.Ghosts Plain N (PlainShape N) PlainOp (PlainStep N) (Unit {0}) (Unit {0})}
    (domain : PlainDomain D N) (p : PlainPass D N (PlainShape N) PlainOp (PlainStep N) (Unit {0}) (Unit {0}) d m) (h : IsPassOf domain p)
    (q : BoardPass D N (PlainShape N) PlainOp (PlainStep N) (Unit {0}) (Unit {0}) d m) (x : Belongs domain.board q)
  where
    open (two_views domain p.pass q) use {b, may, s, t}

    -- values that are filled and read
    module _ (hold : Hold) (row : ℕ) (same : row ≡ hold.row) where
      pub fresh_is : HoldsFresh (seat_of domain p) hold → s.fresh ≡ Some row
      fresh_is e = hold_fresh domain p h hold e ∙ ap Some (sym same)

      pub fills : (which value : ℕ) → HoldsFresh (seat_of domain p) hold
          → AddsOwn may (event_by s.agent (Fill (index_of row s.rows) which value) None ∷ []) s t → t.fresh ≡ s.fresh
          → Only (event_of (seat_of domain p) (Fill (id_in (seat_of domain p).slots hold) which value) None ∷ []) (seat_of domain p) (seat_by t p.slots)
      fills which value e a f =
          subst (λ id. Only (event_by s.agent (Fill id which value) None ∷ []) (seat_of domain p) (seat_by t p.slots))
          (ap (λ r. index_of r s.rows) same ∙ sym (hold_in domain p h hold e.held).1)
          (only_adds domain p h q x (event_by s.agent (Fill (index_of row s.rows) which value) None ∷ []) a
          (mine s.agent (Fill (index_of row s.rows) which value) None) f)

      pub reads : (which value : ℕ) → Holds (seat_of domain p).slots hold → ReadsValue (heap_of b t) (index_of row s.rows) which value
          → ReadsValue (run_heap (domain_numbers domain) t.events) (id_in (seat_of domain p).slots hold) which value
      reads which value e v = subst (λ id. ReadsValue (heap_of b t) id which value) (ap (λ r. index_of r s.rows) same ∙ sym (hold_in domain p h hold e).1) v

    -- a load of a link
    pub link_low : (place : Word) (word : ℕ) → FindsLink may b (place_by s.rows place) word s t → word ≤ 131071
    link_low place word f =
        let tie = ties d domain.board.words.shape q.pass.seat.me.0 q.pass.agent q.fresh q.looked x.keeps in
        word_low t.rows b.rows tie.inside domain.board.words.shape.shape.few_rows f.link.to f.link.mark word f.word

    pub loads : (place : Word) (word : ℕ) (link : RowLink) → link_word link ≡ word → FindsLink may b (place_by s.rows place) word s t → t.fresh ≡ s.fresh
        → Loads may b (place_by s.rows place) link s t
    loads place word link e f fresh =
        let tie = ties d domain.board.words.shape q.pass.seat.me.0 q.pass.agent q.fresh q.looked x.keeps in
        let is : link_by t.rows link ≡ f.link = link_is t.rows tie.once f.link.to f.link.mark word link f.word e in record {
          fresh = fresh;
          adds = subst (λ (l : Link). AddsOwn may (event_by s.agent (Look (place_by s.rows place) l) None ∷ []) s t) (sym is) f.adds;
          known = subst (λ (l : Link). IsTarget s.agent (heap_of b t) l.to) (sym is) f.known;
        }

    pub still_loaded : (place : Word) (word : ℕ) → FindsLink may b (place_by s.rows place) word s t
        → IsPassOf domain (record { pass = q; slots = p.slots; next = p.next; shape = p.shape })
    still_loaded place word f = still_adds domain p h q x (event_by s.agent (Look (place_by s.rows place) f.link) None ∷ []) f.adds

    -- a link of the fresh node that is aimed
    module _ (hold : Hold) (row number : ℕ) (row_same : row ≡ hold.row) (fresh : HoldsFresh (seat_of domain p) hold)
        (to : Option (Bor Hold)) (link : RowLink) (holds_to : HoldsTarget (seat_of domain p) to) (link_same : link ≡ target_link to) where
      row_met : index_of row s.rows ≡ id_in (seat_of domain p).slots hold
      row_met = ap (λ r. index_of r s.rows) row_same ∙ sym (hold_in domain p h hold fresh.held).1

      aim_met : id_by s.rows link.to ≡ target_in (seat_of domain p).slots to
      aim_met = ap (λ (l : RowLink). id_by s.rows l.to) link_same ∙ target_is domain p h to holds_to

      pub may_aim : AllowedWhereFits may (domain_numbers domain) s.agent s.events
          (event_of (seat_of domain p) (aim_act number (id_in (seat_of domain p).slots hold) (target_in (seat_of domain p).slots to)) None)
          → MayWhereFits may b s (aim_event s row number link)
      may_aim a = subst (λ (z : ℕ × Option ℕ). AllowedWhereFits may (domain_numbers domain) s.agent s.events (event_by s.agent (aim_act number z.0 z.1) None))
          (λ i. (sym row_met i, sym aim_met i)) a

      pub aims : AddsOwn may (aim_event s row number link ∷ []) s t → t.fresh ≡ s.fresh
          → Only (event_of (seat_of domain p) (aim_act number (id_in (seat_of domain p).slots hold) (target_in (seat_of domain p).slots to)) None ∷ [])
          (seat_of domain p) (seat_by t p.slots)
      aims a f = subst (λ (z : ℕ × Option ℕ). Only (event_by s.agent (aim_act number z.0 z.1) None ∷ []) (seat_of domain p) (seat_by t p.slots))
          (λ i. (row_met i, aim_met i))
          (only_adds domain p h q x (aim_event s row number link ∷ []) a (mine s.agent (aim_act number (index_of row s.rows) (id_by s.rows link.to)) None) f)

    -- links that are tested and swung
    module _ (at : At) (place : Word) (there : HoldsPlace (domain_numbers domain) (seat_of domain p).slots at) (place_same : place ≡ word_at at)
        (from : Want) (link : RowLink) (holds_from : HoldsWant (seat_of domain p).slots from) (link_same : link ≡ row_link from) where
      pub knows_place : KnowsPlace b s place
      knows_place = subst (λ w. KnowsPlace b s w) (sym place_same) (place_known domain p h at there)

      pub knows_link : KnowsTarget b s link
      knows_link = subst (λ l. KnowsTarget b s l) (sym link_same) (want_known domain p h from holds_from)

      place_met : place_by s.rows place ≡ place_in (seat_of domain p).slots at
      place_met = ap (place_by s.rows) place_same ∙ place_is domain p h at there

      link_met : link_by s.rows link ≡ link_in (seat_of domain p).slots from
      link_met = ap (link_by s.rows) link_same ∙ want_is domain p h from holds_from

      pub may_look : (said : Option N) → AllowedLater may (domain_numbers domain) s.agent s.events (place_in (seat_of domain p).slots at)
          (link_in (seat_of domain p).slots from) (look_of (seat_of domain p) at from said)
          → MayWhereShown may b s place link (look_event s place link said)
      may_look said a =
          subst (λ (z : Place × Link). AllowedLater may (domain_numbers domain) s.agent s.events z.0 z.1 (event_by s.agent (Look z.0 z.1) said))
          (λ i. (sym place_met i, sym link_met i)) a

      -- the place showed another link
      missed : (found : Link) → found ≢ link_by s.rows link → AddsOwn may (event_by s.agent (Miss (place_by s.rows place) (link_by s.rows link) found) None ∷ []) s t
          → HeapMisses (place_in (seat_of domain p).slots at) (link_in (seat_of domain p).slots from) (seat_of domain p) (seat_by t p.slots)
      missed found other a = record {
        found = found;
        other = λ e. other (e ∙ sym link_met);
        puts = subst (λ (z : Place × Link). Puts (seat_of domain p) (event_by s.agent (Miss z.0 z.1 found) None ∷ []) (seat_by t p.slots))
            (λ i. (place_met i, link_met i))
            (adds_put may (event_by s.agent (Miss (place_by s.rows place) (link_by s.rows link) found) None ∷ []) s t p.slots p.slots a
            (mine s.agent (Miss (place_by s.rows place) (link_by s.rows link) found) None));
      }

      module _ (said : Option N) (found packed : ℕ) (is_packed : packed ≡ link_word link)
          (hit : found ≡ link_word link → AddsOwn may (look_event s place link said ∷ []) s t)
          (miss : found ≢ link_word link → Misses may b (place_by s.rows place) (link_by s.rows link) found s t) (fresh : t.fresh ≡ s.fresh)
        where
          not_packed : (found == packed) ≡ false → found ≢ link_word link
          not_packed e same = eqb-false found packed e (same ∙ sym is_packed)

          pub still_tested : IsPassOf domain (record { pass = q; slots = p.slots; next = p.next; shape = p.shape })
          still_tested = went (found == packed) refl
            where
              went : (done : Bool) → (found == packed) ≡ done → IsPassOf domain (record { pass = q; slots = p.slots; next = p.next; shape = p.shape })
              went true e = still_adds domain p h q x (look_event s place link said ∷ []) (hit (eqb-true found packed e ∙ is_packed))
              went false e = let r = miss (not_packed e) in
                  still_adds domain p h q x (event_by s.agent (Miss (place_by s.rows place) (link_by s.rows link) r.link) None ∷ []) r.adds

          pub tests : Tests at from said (seat_of domain p) (found == packed) (seat_by t p.slots)
          tests = went (found == packed) refl
            where
              went : (done : Bool) → (found == packed) ≡ done → Tests at from said (seat_of domain p) done (seat_by t p.slots)
              went true e =
                  let a = hit (eqb-true found packed e ∙ is_packed) in record {
                    slots = slots_same domain p h q x (look_event s place link said ∷ []) a;
                    fresh = fresh_same domain p h q x (look_event s place link said ∷ []) a fresh;
                    puts = subst (λ (z : Place × Link). Puts (seat_of domain p) (event_by s.agent (Look z.0 z.1) said ∷ []) (seat_by t p.slots))
                        (λ i. (place_met i, link_met i))
                        (adds_put may (look_event s place link said ∷ []) s t p.slots p.slots a
                        (mine s.agent (Look (place_by s.rows place) (link_by s.rows link)) said));
                  }
              went false e =
                  let r = miss (not_packed e) in
                  let own : List (Event N) = event_by s.agent (Miss (place_by s.rows place) (link_by s.rows link) r.link) None ∷ [] in record {
                    slots = slots_same domain p h q x own r.adds;
                    fresh = fresh_same domain p h q x own r.adds fresh;
                    puts = missed r.link r.other r.adds;
                  }

      module _ (to : Want) (target : RowLink) (holds_to : HoldsWant (seat_of domain p).slots to) (target_same : target ≡ row_link to) where
        pub knows_target : KnowsTarget b s target
        knows_target = subst (λ l. KnowsTarget b s l) (sym target_same) (want_known domain p h to holds_to)

        target_met : link_by s.rows target ≡ link_in (seat_of domain p).slots to
        target_met = ap (link_by s.rows) target_same ∙ want_is domain p h to holds_to

        pub may_move : (said : Option N) → AllowedLater may (domain_numbers domain) s.agent s.events (place_in (seat_of domain p).slots at)
            (link_in (seat_of domain p).slots from) (move_of (seat_of domain p) at from to said)
            → MayWhereShown may b s place link (move_event s place link target said)
        may_move said a =
            subst (λ (z : Place × Link × Link). AllowedLater may (domain_numbers domain) s.agent s.events z.0 z.1
            (event_by s.agent (Move z.0 z.1 z.2) said)) (λ i. (sym place_met i, sym link_met i, sym target_met i)) a

        module _ (said : Option N) (moved : ℕ) (answer : moved ≤ 1) (hit : moved ≡ 1 → AddsOwn may (move_event s place link target said ∷ []) s t)
            (linked : moved ≡ 1 → t.fresh ≡ unless_linked s.fresh target.to) (miss : moved ≡ 0 → MissesWanted may (place_by s.rows place) (link_by s.rows link) s t)
          where
            not_moved : (moved == 1) ≡ false → moved ≡ 0
            not_moved e = let ne = eqb-false moved 1 e in omega (arith, answer, ne)

            pub still_swung : IsPassOf domain (record { pass = q; slots = p.slots; next = p.next; shape = p.shape })
            still_swung = went (moved == 1) refl
              where
                went : (done : Bool) → (moved == 1) ≡ done → IsPassOf domain (record { pass = q; slots = p.slots; next = p.next; shape = p.shape })
                went true e = still_adds domain p h q x (move_event s place link target said ∷ []) (hit (eqb-true moved 1 e))
                went false e = let r = miss (not_moved e) in
                    still_adds domain p h q x (event_by s.agent (Miss (place_by s.rows place) (link_by s.rows link) r.link) None ∷ []) r.adds

            -- what is fresh after the Move
            fresh_after : AddsOwn may (move_event s place link target said ∷ []) s t → t.fresh ≡ unless_linked s.fresh target.to
                → id_by t.rows t.fresh ≡ unless_node (id_by s.rows s.fresh) (link_in (seat_of domain p).slots to).to
            fresh_after a f =
                let given = fresh_given domain p h in
                let to_given : Given s.rows target.to = subst (λ (l : RowLink). Given s.rows l.to) (sym target_same) (want_given domain p h to holds_to) in
                ap (id_by t.rows) f
                ∙ (fresh_stays b s t (unless_linked s.fresh target.to) (adds_grow b may (move_event s place link target said ∷ []) s t a)
                (unless_given s.rows s.fresh target.to given)
                ∙ (unless_is s.rows s.fresh target.to given to_given
                ∙ ap (λ (l : Link). unless_node (id_by s.rows s.fresh) l.to) target_met))

            pub swings : Swings at from to said (seat_of domain p) (moved == 1) (seat_by t p.slots)
            swings = went (moved == 1) refl
              where
                went : (done : Bool) → (moved == 1) ≡ done → Swings at from to said (seat_of domain p) done (seat_by t p.slots)
                went true e =
                    let is = eqb-true moved 1 e in
                    let a = hit is in record {
                      slots = slots_same domain p h q x (move_event s place link target said ∷ []) a;
                      fresh = fresh_after a (linked is);
                      puts = subst
                          (λ (z : Place × Link × Link). Puts (seat_of domain p) (event_by s.agent (Move z.0 z.1 z.2) said ∷ []) (seat_by t p.slots))
                          (λ i. (place_met i, link_met i, target_met i))
                          (adds_put may (move_event s place link target said ∷ []) s t p.slots p.slots a
                          (mine s.agent (Move (place_by s.rows place) (link_by s.rows link) (link_by s.rows target)) said));
                    }
                went false e =
                    let r = miss (not_moved e) in
                    let own : List (Event N) = event_by s.agent (Miss (place_by s.rows place) (link_by s.rows link) r.link) None ∷ [] in record {
                      slots = slots_same domain p h q x own r.adds;
                      fresh = fresh_same domain p h q x own r.adds r.fresh;
                      puts = missed r.link r.other r.adds;
                    }

            pub swung : IsPassOf domain (record { pass = q; slots = p.slots; next = p.next; shape = p.shape })
                × Swings at from to said (seat_of domain p) (moved == 1) (seat_by t p.slots)
            swung = (still_swung, swings)
