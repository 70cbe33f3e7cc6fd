-- A protected load.
use Rattle.std.proofs.Common.{◌≡◌, ◌≢◌, ℕ, Bool, List, [], ◌∷◌, true, false, Option, Some, None, slice_set, refl, sym, ap, ◌∙◌, subst}
use mathlib.Core.List.{IsPrefix}
use Rattle.orc_words.specs.Bounds.{Bounds}
use Rattle.orc_heap.proofs.Pieces.{goes_on}
use Rattle.orc_words.specs.declared.packed.RowLink.{RowLink}
use Rattle.orc_words.specs.declared.place.Word.{Word}
use Rattle.orc_heap.proofs.Calls.{Puts-trans, looks_beside}
use Rattle.orc_heap.specs.Acts.{IsKnown, IsTarget}
use Rattle.orc_heap.specs.Calls.{Looks, MovesOn, event_of}
use Rattle.orc_heap.specs.OwnEvents.{Puts}
use Rattle.orc_heap.specs.Seats.{HoldsPlace, place_in}
use Rattle.orc_heap.specs.Slots.{Hold, Slots}
use Rattle.orc_heap.specs.declared.discipline.Discipline as discipline
use Rattle.orc_heap.specs.declared.events.Act.TheVariants.{Look}
use Rattle.orc_heap.specs.declared.events.Link.{Link}
use Rattle.orc_heap.specs.declared.events.Place.{Place}
use Rattle.orc_heap.specs.declared.holds.At.{At}
use Rattle.orc_heap.specs.declared.holds.Looked.TheVariants.{Moved, Stable}
use Rattle.orc_heap.specs.declared.holds.LookedOn.TheVariants.{Moved as MovedOff, On, Stays}
use Rattle.orc_shared_words.specs.declared.machine.Machine as machine
use Rattle.orc_any_domain.proofs.Rows.{some_one}
use Rattle.orc_plain_board.proofs.Ties.{Given, given_by}
use Rattle.orc_plain_board.specs.Calls.{KnowsPlace, KnowsRow}
use Rattle.orc_any_domain.specs.Rows.{index_of}
use Rattle.orc_plain_board.specs.Machine.{id_by, link_by, place_by, run}
use Rattle.orc_heap.specs.Journals.{event_by}
use Rattle.orc_plain_board.specs.Views.{PlainView, heap_of, shows, shows_by}
use Rattle.orc_plain_board.specs.declared.machine.Plain.{Plain}
use Rattle.orc_plain_board.specs.declared.machine.PlainOp.{PlainOp}
use Rattle.orc_plain_board.specs.declared.machine.PlainStep.{PlainStep}
use Rattle.orc_plain_board.specs.declared.shape.PlainShape.{PlainShape}
use Rattle.orc_plain_domain.specs.Passes.{IsPassOf, domain_bounds, domain_numbers, journal_of, seat_of}
use Rattle.orc_plain_domain.specs.declared.domain.PlainDomain.{PlainDomain}
use Rattle.orc_plain_domain.specs.declared.domain.PlainPass.{PlainPass}
use Rattle.orc_plain_domain.specs.Calls.{IsSame, Loads}
use Rattle.orc_any_domain.specs.Names.{word_at}
use Rattle.orc_plain_domain.specs.Rows.{seat_by, slots_by}
use Rattle.orc_plain_domain.proofs.Growing.{Grows, adds_grow, adds_put, fresh_given, fresh_stays, held_given, mine, slots_stay, tie, two_views}
use Rattle.orc_plain_domain.proofs.Naming.{place_is, place_known}
use Rattle.orc_plain_domain.proofs.Releasing.{keeps_set}
use Rattle.orc_plain_domain.proofs.Rows.{given_grows, one_row, slots_set}

link_one : (rows : List ℕ) (l k : RowLink) → Given rows l.to → Given rows k.to → link_by rows l ≡ link_by rows k → l ≡ k
link_one rows l k g f e = let r = went l.to k.to g f (ap (λ (z : Link). z.to) e) in λ i. record { to = r i; mark = (ap (λ (z : Link). z.mark) e) i }
  where
    went : (t u : Option ℕ) → Given rows t → Given rows u → id_by rows t ≡ id_by rows u → t ≡ u
    went None None g f e = refl
    went None (Some u) g f e = cc
    went (Some t) None g f e = cc
    went (Some t) (Some u) g f e = ap Some (one_row rows t u g f (some_one (index_of t rows) (index_of u rows) e))

module _ {D N : Type 0} {d : discipline.Ghosts D N} {m : machine.Ghosts Plain N (PlainShape N) PlainOp (PlainStep N) (Unit {0}) (Unit {0})}
    (domain : PlainDomain D N) (p q : PlainPass D N (PlainShape N) PlainOp (PlainStep N) (Unit {0}) (Unit {0}) d m)
  where
    -- what a pass of the domain has seen is what its board tells
    pub events_later : IsPassOf domain p → IsPassOf domain q → IsPrefix (shows domain.board p.pass).events (shows domain.board q.pass).events
        → IsPrefix (journal_of p) (journal_of q)
    events_later h k = subst (λ (z : Bounds × Bounds). IsPrefix (shows_by z.0 p.pass).events (shows_by z.1 q.pass).events)
        (λ i. (sym h.shape i, sym k.shape i))

    -- a load of a place by its word found this link
    pub record LoadsWord (word : Word) (link : RowLink) : Type 0 where
      pub after : IsPassOf domain q
      pub same : IsSame p q
      pub loads : Loads (d.may (domain_numbers domain)) (domain_bounds domain) (place_by (shows domain.board p.pass).rows word) link
          (shows domain.board p.pass) (shows domain.board q.pass)

    -- a look of a place that the pass holds, after its first load
    pub record LoadsFirst (at : At) (word : Word) (one : RowLink) : Type 0 where
      pub before : IsPassOf domain p
      pub there : HoldsPlace (domain_numbers domain) (seat_of domain p).slots at
      pub word_is : word ≡ word_at at
      pub load : LoadsWord word one

module _ {D N : Type 0} {d : discipline.Ghosts D N} {m : machine.Ghosts Plain N (PlainShape N) PlainOp (PlainStep N) (Unit {0}) (Unit {0})}
    {domain : PlainDomain D N} {p p1 : PlainPass D N (PlainShape N) PlainOp (PlainStep N) (Unit {0}) (Unit {0}) d m} {at : At} {word : Word} {one : RowLink}
    (first : LoadsFirst domain p p1 at word one)
  where
    open (two_views domain p.pass p1.pass) use {b, may, s, t}

    grows : Grows b s t
    grows = adds_grow b may (event_by s.agent (Look (place_by s.rows word) (link_by t.rows one)) None ∷ []) s t first.load.loads.adds

    pub later_first : IsPrefix (journal_of p) (journal_of p1)
    later_first = events_later domain p p1 first.before first.load.after grows.events

    pub slots_still : (seat_of domain p1).slots ≡ (seat_of domain p).slots
    slots_still = ap (slots_by t.rows) first.load.same.slots ∙ slots_stay b s t p.slots grows (held_given domain p first.before)

    pub fresh_still : (seat_of domain p1).fresh ≡ (seat_of domain p).fresh
    fresh_still = ap (id_by t.rows) first.load.loads.fresh ∙ fresh_stays b s t s.fresh grows (fresh_given domain p first.before)

    pub there_still : HoldsPlace (domain_numbers domain) (seat_of domain p1).slots at
    there_still = subst (λ (z : Slots). HoldsPlace (domain_numbers domain) z at) (sym slots_still) first.there

    pub known_again : KnowsPlace b t word
    known_again = subst (λ w. KnowsPlace b t w) (sym first.word_is) (place_known domain p1 first.load.after at there_still)

    place_first : place_by s.rows word ≡ place_in (seat_of domain p).slots at
    place_first = ap (place_by s.rows) first.word_is ∙ place_is domain p first.before at first.there

    place_again : place_by t.rows word ≡ place_in (seat_of domain p).slots at
    place_again = ap (place_by t.rows) first.word_is ∙ (place_is domain p1 first.load.after at there_still ∙ ap (λ (z : Slots). place_in z at) slots_still)

    put_first : (slots : List (Option ℕ))
        → Puts (seat_of domain p) (event_of (seat_of domain p) (Look (place_in (seat_of domain p).slots at) (link_by t.rows one)) None ∷ []) (seat_by t slots)
    put_first slots = subst (λ (z : Place). Puts (seat_of domain p) (event_by s.agent (Look z (link_by t.rows one)) None ∷ []) (seat_by t slots)) place_first
        (adds_put may (event_by s.agent (Look (place_by s.rows word) (link_by t.rows one)) None ∷ []) s t p.slots slots first.load.loads.adds
        (mine s.agent (Look (place_by s.rows word) (link_by t.rows one)) None))

    pub looks_null : (slot : ℕ) → one.to ≡ None
        → Looks (place_in (seat_of domain p).slots at) slot (seat_of domain p) (Stable (record { null = true; mark = one.mark }) None) (seat_of domain p1)
    looks_null slot null = record {
      fresh = fresh_still;
      tells = (
        refl,
        slots_still,
        subst (λ (z : Option ℕ). Puts (seat_of domain p)
            (event_by s.agent (Look (place_in (seat_of domain p).slots at) (record { to = z; mark = one.mark })) None ∷ []) (seat_of domain p1))
            (ap (id_by t.rows) null) (put_first p1.slots),
      );
    }

    pub stays_null : (slot : ℕ) (from : Hold) → one.to ≡ None
        → MovesOn (place_in (seat_of domain p).slots at) slot (seat_of domain p) from (Stays from (Stable (record { null = true; mark = one.mark }) None))
        (seat_of domain p1)
    stays_null slot from null = looks_beside (place_in (seat_of domain p).slots at) slot (seat_of domain p) from
        (Stable (record { null = true; mark = one.mark }) None) (seat_of domain p1) (looks_null slot null) tt

    one_given : Given t.rows one.to
    one_given = given_by b (run b p1.pass.pass.seat.me.0.seen).words t.rows (heap_of b t) (tie domain p1 first.load.after) s.agent one.to first.load.loads.known

    module _ {p2 : PlainPass D N (PlainShape N) PlainOp (PlainStep N) (Unit {0}) (Unit {0}) d m} {two : RowLink} (again : LoadsWord domain p1 p2 word two)
      where
        abbrev u : PlainView N
        u = shows domain.board p2.pass

        grows2 : Grows b t u
        grows2 = adds_grow b may (event_by t.agent (Look (place_by t.rows word) (link_by u.rows two)) None ∷ []) t u again.loads.adds

        pub later_last : IsPrefix (journal_of p) (journal_of p2)
        later_last = events_later domain p p2 first.before again.after (goes_on s.events t.events u.events grows.events grows2.events)

        two_given : Given u.rows two.to
        two_given = given_by b (run b p2.pass.pass.seat.me.0.seen).words u.rows (heap_of b u) (tie domain p2 again.after) t.agent two.to again.loads.known

        -- the link of the first load, by the rows that are given later
        link_still : link_by u.rows one ≡ link_by t.rows one
        link_still = ap (λ (z : Option ℕ). record { to = z; mark = one.mark }) (fresh_stays b t u one.to grows2 one_given)

        slots_last : slots_by u.rows p2.slots ≡ (seat_of domain p).slots
        slots_last = ap (slots_by u.rows) again.same.slots ∙ (slots_stay b t u p1.slots grows2 (held_given domain p1 first.load.after) ∙ slots_still)

        fresh_last : (seat_of domain p2).fresh ≡ (seat_of domain p).fresh
        fresh_last = ap (id_by u.rows) again.loads.fresh ∙ (fresh_stays b t u t.fresh grows2 (fresh_given domain p1 first.load.after) ∙ fresh_still)

        put_both : (slots : List (Option ℕ))
            → Puts (seat_of domain p) (event_of (seat_of domain p) (Look (place_in (seat_of domain p).slots at) (link_by t.rows one)) None
            ∷ event_of (seat_of domain p) (Look (place_in (seat_of domain p).slots at) (link_by u.rows two)) None ∷ []) (seat_by u slots)
        put_both slots =
            Puts-trans (seat_of domain p) (seat_of domain p1) (seat_by u slots)
            (event_by s.agent (Look (place_in (seat_of domain p).slots at) (link_by t.rows one)) None ∷ [])
            (event_by s.agent (Look (place_in (seat_of domain p).slots at) (link_by u.rows two)) None ∷ []) (put_first p1.slots)
            (subst (λ (z : Place × ℕ). Puts (seat_of domain p1) (event_by z.1 (Look z.0 (link_by u.rows two)) None ∷ []) (seat_by u slots))
            (λ i. (place_again i, grows.agent i))
            (adds_put may (event_by t.agent (Look (place_by t.rows word) (link_by u.rows two)) None ∷ []) t u p1.slots slots again.loads.adds
            (mine t.agent (Look (place_by t.rows word) (link_by u.rows two)) None)))

        -- two links that differ are links that differ to callers
        links_apart : two ≢ one → link_by t.rows one ≢ link_by u.rows two
        links_apart other e = other (sym
            (link_one u.rows one two (subst (λ z. Given z one.to) grows2.rows.1 (given_grows t.rows grows2.rows.0 one.to one_given)) two_given
            (link_still ∙ e)))

        not_null : (row : ℕ) → one.to ≡ Some row → (link_by t.rows one).to ≢ None
        not_null row is none = let e : Some (index_of row t.rows) ≡ None = sym (ap (id_by t.rows) is) ∙ none in cc

        pub looks_moved : (slot row : ℕ) → one.to ≡ Some row → two ≢ one
            → Looks (place_in (seat_of domain p).slots at) slot (seat_of domain p) Moved (seat_of domain p2)
        looks_moved slot row is other = record {
          fresh = fresh_last;
          tells = (link_by t.rows one, link_by u.rows two, links_apart other, slots_last, put_both p2.slots, not_null row is);
        }

        pub stays_moved : (slot row : ℕ) (from : Hold) → one.to ≡ Some row → two ≢ one → one.mark ≡ true
            → MovesOn (place_in (seat_of domain p).slots at) slot (seat_of domain p) from (Stays from Moved) (seat_of domain p2)
        unfolding looks_moved
        stays_moved slot row from is other marked = looks_beside (place_in (seat_of domain p).slots at) slot (seat_of domain p) from Moved (seat_of domain p2)
            (looks_moved slot row is other) marked

        -- the link moved: the slot of the hold is free
        pub moves_off : (slot row freed : ℕ) (from : Hold) → freed ≡ from.slot → one.to ≡ Some row → two ≢ one → one.mark ≡ false
            → MovesOn (place_in (seat_of domain p).slots at) slot (seat_of domain p) from MovedOff (seat_by u (slice_set p2.slots freed None))
        moves_off slot row freed from its is other bare = record {
          fresh = fresh_last;
          tells = (
            link_by t.rows one,
            link_by u.rows two,
            links_apart other,
            slots_set u.rows p2.slots freed None ∙ (λ i. slice_set (slots_last i) (its i) None),
            put_both (slice_set p2.slots freed None),
            not_null row is,
            bare,
          );
        }

        pub still_off : (freed : ℕ) → IsPassOf domain (record { pass = p2.pass; slots = slice_set p2.slots freed None; next = p2.next; shape = p2.shape })
        still_off freed = record {
          board = again.after.board;
          shape = again.after.shape;
          keeps = keeps_set b u p2.slots p2.next p2.next freed None (λ r e. cc) again.after.keeps.inside again.after.keeps;
        }

        module _ (slot row : ℕ) (is : one.to ≡ Some row) (twice : two ≡ one) where
          found : link_by u.rows two ≡ record { to = Some (index_of row u.rows); mark = one.mark }
          found = ap (link_by u.rows) twice ∙ ap (λ (z : Option ℕ). record { to = id_by u.rows z; mark = one.mark }) is

          -- the Looks of both loads, by what the link is marked
          put_found : (mark : Bool) → one.mark ≡ mark
              → Puts (seat_of domain p) (event_by s.agent (Look (place_in (seat_of domain p).slots at) (link_by t.rows one)) None ∷ event_by s.agent
              (Look (place_in (seat_of domain p).slots at) (record { to = Some (index_of row u.rows); mark = mark })) None ∷ []) (seat_by u (slice_set p2.slots slot (Some row)))
          put_found mark e =
              subst (λ (z : Link). Puts (seat_of domain p) (event_by s.agent (Look (place_in (seat_of domain p).slots at) (link_by t.rows one)) None
              ∷ event_by s.agent (Look (place_in (seat_of domain p).slots at) z) None ∷ []) (seat_by u (slice_set p2.slots slot (Some row))))
              (found ∙ ap (λ (m : Bool). record { to = Some (index_of row u.rows); mark = m }) e) (put_both (slice_set p2.slots slot (Some row)))

          pub looks_held : (hold : Hold) → hold ≡ record { row = row; slot = slot }
              → Looks (place_in (seat_of domain p).slots at) slot (seat_of domain p) (Stable (record { null = false; mark = one.mark }) (Some hold))
              (seat_by u (slice_set p2.slots slot (Some row)))
          looks_held hold e =
              subst (λ (z : Hold). Looks (place_in (seat_of domain p).slots at) slot (seat_of domain p)
              (Stable (record { null = false; mark = one.mark }) (Some z)) (seat_by u (slice_set p2.slots slot (Some row)))) (sym e) record {
                fresh = fresh_last;
                tells = (
                  index_of row u.rows,
                  link_by t.rows one,
                  not_null row is,
                  refl,
                  refl,
                  refl,
                  slots_set u.rows p2.slots slot (Some row)
                      ∙ ap (λ (z : Slots). slice_set z slot (Some (record { row = row; id = index_of row u.rows }))) slots_last,
                  put_found one.mark refl,
                );
              }

          pub stays_held : (hold from : Hold) → hold ≡ record { row = row; slot = slot } → one.mark ≡ true
              → MovesOn (place_in (seat_of domain p).slots at) slot (seat_of domain p) from (Stays from (Stable (record { null = false; mark = one.mark })
              (Some hold)))
              (seat_by u (slice_set p2.slots slot (Some row)))
          stays_held hold from e marked = looks_beside (place_in (seat_of domain p).slots at) slot (seat_of domain p) from
              (Stable (record { null = false; mark = one.mark }) (Some hold)) (seat_by u (slice_set p2.slots slot (Some row))) (looks_held hold e) marked

          -- the same link twice: the hold's slot, which this is, has its target
          pub moves_held : (spare : ℕ) (hold from : Hold) → slot ≡ from.slot → hold ≡ record { row = row; slot = slot } → one.mark ≡ false
              → MovesOn (place_in (seat_of domain p).slots at) spare (seat_of domain p) from (On hold) (seat_by u (slice_set p2.slots slot (Some row)))
          moves_held spare hold from its e bare =
              subst (λ (z : Hold). MovesOn (place_in (seat_of domain p).slots at) spare (seat_of domain p) from (On z)
              (seat_by u (slice_set p2.slots slot (Some row)))) (sym e) record {
                fresh = fresh_last;
                tells = (
                  index_of row u.rows,
                  link_by t.rows one,
                  not_null row is,
                  bare,
                  its,
                  slots_set u.rows p2.slots slot (Some row)
                      ∙ (λ i. slice_set (slots_last i) (its i) (Some (record { row = row; id = index_of row u.rows }))),
                  put_found false bare,
                );
              }

          known : KnowsRow b u row
          known = subst (λ a. IsKnown a (heap_of b u) (index_of row u.rows)) (sym grows2.agent)
              (subst (λ (z : Link). IsTarget t.agent (heap_of b u) z.to) found again.loads.known)

          pub still_looked : IsPassOf domain (record { pass = p2.pass; slots = slice_set p2.slots slot (Some row); next = p2.next; shape = p2.shape })
          still_looked = record {
            board = again.after.board;
            shape = again.after.shape;
            keeps = keeps_set b u p2.slots p2.next p2.next slot (Some row) (λ r e. subst (λ z. KnowsRow b u z) (some_one row r e) known)
                again.after.keeps.inside again.after.keeps;
          }
