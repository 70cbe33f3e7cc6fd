-- A look: a load, a publish of its target, and a load with the slot; and then, where the two differ, the slot is cleared.
use Rattle.std.proofs.Common.{false, None, Option, Some, [], ap, refl, subst, sym, true, ℕ, ◌∙◌, ◌≡◌, ◌≢◌, ◌∷◌}
use Rattle.std.specs.Option.{option_map}
use Rattle.std.specs.Prelude.{List, slice_index_or, slice_set, ◌||◌}
use Rattle.orc_core.specs.Allowed.{may_place}
use Rattle.orc_core.specs.RecordParts.{any_holds, names, slot_of}
use Rattle.orc_core.specs.declared.ops.Op.TheVariants.{LinkLoad, Publish}
use Rattle.orc_core.specs.declared.records.SlotUse.{SlotUse}
use Rattle.orc_core.specs.declared.records.SlotUse.TheVariants.{Empty, Published}
use Rattle.orc_any_domain.specs.Names.{word_at}
use Rattle.orc_heap.proofs.Calls.{looks_beside}
use Rattle.orc_heap.specs.Calls.{Looks, MovesOn}
use Rattle.orc_heap.specs.Journals.{event_by}
use Rattle.orc_heap.specs.OwnEvents.{Puts}
use Rattle.orc_heap.specs.Seats.{HoldsPlace, place_in}
use Rattle.orc_heap.specs.Slots.{Hold, IsFree}
use Rattle.orc_heap.specs.declared.discipline.Discipline as discipline
use Rattle.orc_heap.specs.declared.events.Act.TheVariants.{Look}
use Rattle.orc_heap.specs.declared.events.Place.{Place}
use Rattle.orc_heap.specs.declared.holds.At.{At}
use Rattle.orc_heap.specs.declared.holds.Looked.TheVariants.{Moved, Stable}
use Rattle.orc_heap.specs.declared.holds.LookedOn.TheVariants.{Stays}
use Rattle.orc_machine_board.specs.Kinds.{MayDo}
use Rattle.orc_machine_board.specs.Licences.{ids_of}
use Rattle.orc_machine_board.specs.Rules.{bounds_in, heap_numbers}
use Rattle.orc_machine_board.specs.declared.machine.MachineShape.{MachineShape}
use Rattle.orc_projection.specs.PresentIds.{node_link, node_place}
use Rattle.orc_domain.proofs.Following.{Again, Loaded, Named, done1, first, follows, freed_same, held_puts, held_shown, leaves5, lets_go, links_apart, load_can, loaded_same, low, not_null, own, publish_names}
use Rattle.orc_domain.proofs.Held.{place_may, place_named}
use Rattle.orc_domain.proofs.Protecting.{empty_slot, publish_may, same_place_ok, same_then, still_ready}
use Rattle.orc_domain.proofs.Seats.{ready_calm}
use Rattle.orc_domain.proofs.Setting.{published_holds, set_back, set_same}
use Rattle.orc_domain.proofs.Ending.{Ends}
use Rattle.orc_domain.proofs.Stages.{Between, Stage, Steps, seat}
use Rattle.orc_domain.proofs.Untouched.{still_between}
use Rattle.orc_domain.specs.Calls.{SameParts, Unlocks}
use Rattle.orc_words.specs.Bounds.{Bounds}
use Rattle.orc_words.specs.Packed.{link_of, link_word}
use Rattle.orc_words.specs.declared.packed.RowLink.{RowLink}
use Rattle.orc_words.specs.declared.place.Word.{Word}

-- a look of a place, at this word, with a free slot, begun between calls
pub record Begun {D N : Type 0} {d : discipline.Ghosts D N} {k : MachineShape N} (s : Stage d k) (at : At) (w : Word) (slot : ℕ) : Type 0 where
  pub between : Between s
  pub place : HoldsPlace (heap_numbers k) (seat s).slots at
  pub word : w ≡ word_at at
  pub free : IsFree (seat s).slots slot

module _ {D N : Type 0} {d : discipline.Ghosts D N} {k : MachineShape N} {s : Stage d k} {at : At} {w : Word} {slot : ℕ} (c : Begun s at w slot) where
  place_ok : may_place (bounds_in k) w (λ r. any_holds s.view.record_is.slots r || names s.view.record_is.fresh r) ≡ true
  place_ok = subst (λ z. may_place (bounds_in k) z (λ r. any_holds s.view.record_is.slots r || names s.view.record_is.fresh r) ≡ true) (sym c.word)
      (place_may s at c.place)

  pub begin_can : MayDo (bounds_in k) s.view (LinkLoad w None)
  begin_can = load_can s w c.between place_ok

  empty : slot_of s.view.record_is slot ≡ Empty
  empty = empty_slot (ids_of (bounds_in k) s.view) s.view.record_is.slots slot (c.between.ready.published slot) c.free.empty

-- a look whose first load found this link
pub record Starts {D N : Type 0} {d : discipline.Ghosts D N} {k : MachineShape N} (s : Stage d k) (at : At) (w : Word) (slot : ℕ) (one : RowLink)
    (t : Stage d k) : Type 0 where
  pub begun : Begun s at w slot
  pub made : Steps (LinkLoad w None) s (link_word one) t
  pub is : link_of (link_word one) ≡ one

module _ {D N : Type 0} {d : discipline.Ghosts D N} {k : MachineShape N} {s t : Stage d k} {at : At} {w : Word} {slot : ℕ} {one : RowLink}
    (f : Starts s at w slot one t) where
  abbrev b : Bounds
  b = bounds_in k

  abbrev x : Place
  x = place_in (seat s).slots at

  pub loaded : Loaded s x w one t
  loaded = record {
    between = f.begun.between;
    place = place_ok f.begun;
    there = ap (node_place (ids_of b s.view)) f.begun.word ∙ place_named (ids_of b s.view) (heap_numbers k) s.view.record_is.slots at f.begun.place;
    made = f.made;
    is = f.is;
  }

  -- a null link ends the look
  pub look_null : one.to ≡ None → Looks x slot (seat s) (Stable (record { null = true; mark = one.mark }) None) (seat t)
  look_null none = record {
    fresh = (first loaded).fresh;
    tells = (
      refl,
      (first loaded).slots,
      subst (λ (o : Option ℕ). Puts (seat s) (event_by s.view.agent (Look x (record { to = o; mark = one.mark })) None ∷ []) (seat t))
          (ap (option_map (ids_of b t.view).node) none) (first loaded).puts,
    );
  }

  pub null_ends : Ends s t
  null_ends = record {
    between = still_between s t _ f.begun.between (first loaded).puts (first loaded).fresh (λ id. refl)
        (still_ready s.view.record_is t.view.record_is (loaded_same loaded) f.begun.between.ready);
    leaves = record { ops = LinkLoad w None ∷ []; done = done1 loaded; taken_in = tt };
  }

  -- the target, where the link has one
  module _ {r : ℕ} (to : one.to ≡ Some r) where
    pub publish_can : MayDo b t.view (Publish slot r)
    publish_can = publish_may b t.view.agent t.view.record_is slot r t.number
        (ready_calm t.view.record_is (still_ready s.view.record_is t.view.record_is (loaded_same loaded) f.begun.between.ready)) (low loaded to)
        f.begun.free.above f.begun.free.below
        (ap (λ (z : List SlotUse). slice_index_or z slot Empty) (loaded_same loaded).slots ∙ empty f.begun)

    pub published : (u : Stage d k) (n : ℕ) → Steps (Publish slot r) t n u → Named s t w slot r u
    published u n made = record {
      above = f.begun.free.above;
      below = f.begun.free.below;
      op = Publish slot r;
      its = publish_names slot r;
      number = n;
      made = made;
      still = same_place_ok b w (λ q. any_holds s.view.record_is.slots q || names s.view.record_is.fresh q)
          (λ q. any_holds (slice_set s.view.record_is.slots slot (Published r)) q || names s.view.record_is.fresh q)
          (λ q. ap (λ z. z || names s.view.record_is.fresh q) (published_holds s.view.record_is.slots slot r q (empty f.begun))) (place_ok f.begun);
    }

    -- after the slot named the target, and the second load
    module _ {u : Stage d k} (m : Named s t w slot r u) {two : RowLink} {y : Stage d k} (g : Again u w slot two y) where
      -- the same link twice: the slot holds its target
      pub look_held : two ≡ one → (h : Hold) → h ≡ record { row = r; slot = slot }
          → Looks x slot (seat s) (Stable (record { null = false; mark = one.mark }) (Some h)) (seat y)
      look_held same h e = subst (λ (z : Hold). Looks x slot (seat s) (Stable (record { null = false; mark = one.mark }) (Some z)) (seat y)) (sym e) record {
        fresh = (follows loaded to m g).fresh;
        tells = (
          (ids_of b y.view).node r,
          node_link (ids_of b t.view) one,
          not_null loaded to m g,
          refl,
          refl,
          refl,
          (follows loaded to m g).slots ∙ ap (slice_set (seat s).slots slot) (held_shown loaded to m g same),
          held_puts loaded to m g same,
        );
      }

      -- two links: the slot is cleared
      module _ (other : two ≢ one) (z : Stage d k) (un : Unlocks b slot y.view z.view) where
        freed : (seat z).slots ≡ (seat s).slots
        freed = (lets_go loaded to m g z un).slots ∙ set_same (seat s).slots slot None f.begun.free.empty

        pub look_moved : Looks x slot (seat s) Moved (seat z)
        look_moved = record {
          fresh = (lets_go loaded to m g z un).fresh;
          tells = (
            node_link (ids_of b t.view) one,
            node_link (ids_of b y.view) two,
            links_apart loaded to m g other,
            freed,
            (lets_go loaded to m g z un).puts,
            not_null loaded to m g,
          );
        }

        -- a look on by which no hold moves, since the link of the first load is marked
        pub stays_moved : (from : Hold) → one.mark ≡ true → MovesOn x slot (seat s) from (Stays from Moved) (seat z)
        unfolding look_moved
        stays_moved from marked = looks_beside x slot (seat s) from Moved (seat z) look_moved marked

        moved_same : SameParts s.view.record_is z.view.record_is
        moved_same = same_then s.view.record_is (record s.view.record_is { slots = slice_set s.view.record_is.slots slot Empty }) z.view.record_is
            (record {
              enrolled = refl;
              slots = set_back s.view.record_is.slots slot (empty f.begun);
              fresh = refl;
              due = refl;
              inc = refl;
              dec = refl;
              doom = refl;
              scan = refl;
            }) (freed_same loaded to m g z un)

        pub moved_ends : Ends s z
        moved_ends = record {
          between = still_between s z (own loaded to m g) f.begun.between (lets_go loaded to m g z un).puts
              (lets_go loaded to m g z un).fresh (λ id. refl) (still_ready s.view.record_is z.view.record_is moved_same f.begun.between.ready);
          leaves = leaves5 loaded to m g z un;
        }
