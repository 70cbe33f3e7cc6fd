-- What the calls ask, and what they tell, of what the pass shows before and after.
use Rattle.std.specs.Prelude.{◌≡◌, ◌≢◌, ℕ, ◌<◌, ◌%◌, ◌==◌, cond, List, [], ◌∷◌, ◌++◌, Option, Some, None, ◌⊎◌}
use Rattle.orc_words.specs.Bounds.{Bounds}
use Rattle.orc_words.specs.Places.{link_at}
use Rattle.orc_words.specs.declared.packed.RowLink.{RowLink}
use Rattle.orc_words.specs.declared.place.Word.{Word}
use Rattle.orc_words.specs.declared.place.Word.TheVariants.{Root, Next, Side}
use Rattle.orc_heap.specs.Acts.{IsKnown, IsTarget, aim_act}
use Rattle.orc_heap.specs.Allowed.{AllAllowed, AllowedLater, AllowedWhereFits, Later, events_by}
use Rattle.orc_heap.specs.Heap.{shown}
use Rattle.orc_heap.specs.Journals.{event_by, run_heap}
use Rattle.orc_heap.specs.declared.events.Act.TheVariants as act
use Rattle.orc_heap.specs.declared.events.Event.{Event}
use Rattle.orc_heap.specs.declared.events.Link.{Link}
use Rattle.orc_heap.specs.declared.events.Place.{Place}
use mathlib.Core.List.{IsPrefix}
use Rattle.orc_shared_words.specs.Lists.{Among}
use Rattle.orc_any_domain.specs.Rows.{IsListed, index_of}
use Rattle.orc_plain_board.specs.Machine.{id_by, link_by, numbers, place_by}
use Rattle.orc_plain_board.specs.Views.{PlainView, heap_of}
use Rattle.orc_plain_board.specs.Words.{IsWord}

-- the gate word is 3 where the row was given, and 0 where it wasn't
abbrev pub IsGateWord : List ℕ → ℕ → ℕ → Type 0
IsGateWord g row n = ((n ≡ 3) × IsListed g row) ⊎ ((n ≡ 0) × ¬ IsListed g row)

-- the row, if its gate word is that of a free row
abbrev pub seen_free : ℕ → ℕ → Option ℕ
seen_free row n = cond (n % 2 == 0) (Some row) None

-- the fresh row, unless it is the row that was linked
abbrev pub unless_linked : Option ℕ → Option ℕ → Option ℕ
unless_linked (Some fresh) (Some row) = cond (fresh == row) None (Some fresh)
unless_linked fresh to = fresh

module _ {N : Type 0} where
  -- the agent knows the row's node
  abbrev pub KnowsRow : Bounds → PlainView N → ℕ → Type 0
  KnowsRow b s row = IsKnown s.agent (heap_of b s) (index_of row s.rows)

  -- null, or a row whose node the agent knows
  abbrev pub KnowsTarget : Bounds → PlainView N → RowLink → Type 0
  KnowsTarget b s l = IsTarget s.agent (heap_of b s) (id_by s.rows l.to)

  -- a root, or the first or second link of a row whose node the agent knows
  abbrev pub KnowsPlace : Bounds → PlainView N → Word → Type 0
  KnowsPlace b s (Root r) = r < b.roots
  KnowsPlace b s (Next row) = KnowsRow b s row
  KnowsPlace b s (Side row) = KnowsRow b s row × (1 < b.links)
  KnowsPlace b s word = ⊥

  -- a look at a link, an exchange of a link, and a store of a link, as events of the pass
  abbrev pub look_event : PlainView N → Word → RowLink → Option N → Event N
  look_event s place link said = event_by s.agent (act.Look (place_by s.rows place) (link_by s.rows link)) said

  abbrev pub move_event : PlainView N → Word → RowLink → RowLink → Option N → Event N
  move_event s place from to said = event_by s.agent (act.Move (place_by s.rows place) (link_by s.rows from) (link_by s.rows to)) said

  abbrev pub aim_event : PlainView N → ℕ → ℕ → RowLink → Event N
  aim_event s row number link = event_by s.agent (aim_act number (index_of row s.rows) (id_by s.rows link.to)) None

  module _ (may : List (Event N) → Event N → Type 0) where
    -- the event is allowed in every later journal of the pass, wherever the place shows the link
    abbrev pub MayWhereShown : Bounds → PlainView N → Word → RowLink → Event N → Type 0
    MayWhereShown b s place link e = AllowedLater may (numbers b) s.agent s.events (place_by s.rows place) (link_by s.rows link) e

    -- the event is allowed in every later journal of the pass, wherever it fits
    abbrev pub MayWhereFits : Bounds → PlainView N → Event N → Type 0
    MayWhereFits b s e = AllowedWhereFits may (numbers b) s.agent s.events e

    -- the call adds to the events that the pass has seen: some of other agents, each allowed where it stands, and then
    -- its own
    pub record AddsOwn (own : List (Event N)) (s t : PlainView N) : Type 0 where
      pub met : List (Event N)
      pub later : Later may s.agent s.events met
      pub events : t.events ≡ (s.events ++ met) ++ own
      pub allowed : AllAllowed may (s.events ++ met) own
      pub agent : t.agent ≡ s.agent
      pub rows : IsPrefix s.rows t.rows
      pub absorbed : t.absorbed ≡ s.absorbed
      -- an agent whose pass was taken in does nothing more
      pub retired : (b : ℕ) → Among b s.absorbed → events_by b met ≡ []

    -- the row, which nobody was given before, is the pass's fresh row, and its node is the newest
    pub record GivesNewRow (row : ℕ) (s t : PlainView N) : Type 0 where
      pub adds : AddsOwn (event_by s.agent act.Give None ∷ []) s t
      pub before : List ℕ
      pub rows : t.rows ≡ before ++ row ∷ []
      pub new : ¬ IsListed before row
      pub fresh : t.fresh ≡ Some row

    -- the row was given before
    pub record Loses (row : ℕ) (s t : PlainView N) : Type 0 where
      pub adds : AddsOwn [] s t
      pub out : IsListed t.rows row
      pub fresh : t.fresh ≡ s.fresh

    -- the pass finds this link, whose word is the number, and knows its target from then on
    pub record FindsLink (b : Bounds) (place : Place) (n : ℕ) (s t : PlainView N) : Type 0 where
      pub link : Link
      pub word : IsWord t.rows link.to link.mark n
      pub known : IsTarget s.agent (heap_of b t) link.to
      pub adds : AddsOwn (event_by s.agent (act.Look place link) None ∷ []) s t

    -- the pass finds another link than the wanted one, whose word is the number
    pub record Misses (b : Bounds) (place : Place) (wanted : Link) (n : ℕ) (s t : PlainView N) : Type 0 where
      pub link : Link
      pub other : link ≢ wanted
      pub word : IsWord t.rows link.to link.mark n
      pub known : IsTarget s.agent (heap_of b t) link.to
      pub adds : AddsOwn (event_by s.agent (act.Miss place wanted link) None ∷ []) s t

    -- the exchange finds another link than the wanted one
    pub record MissesWanted (place : Place) (wanted : Link) (s t : PlainView N) : Type 0 where
      pub link : Link
      pub other : link ≢ wanted
      pub adds : AddsOwn (event_by s.agent (act.Miss place wanted link) None ∷ []) s t
      pub fresh : t.fresh ≡ s.fresh

    -- the store replaces this link of the row, its first or second one, whose word is n
    pub record Replaces (b : Bounds) (row number n : ℕ) (link : RowLink) (s t : PlainView N) : Type 0 where
      pub adds : AddsOwn (aim_event s row number link ∷ []) s t
      pub old : Link
      pub shown_is : shown (run_heap (numbers b) (s.events ++ adds.met)) (place_by s.rows (link_at number row)) ≡ Some old
      pub word : IsWord t.rows old.to old.mark n

  -- the events, and the rows that they gave, of the one or the other, whichever has seen more; the other's events are a prefix
  abbrev pub IsLonger : PlainView N → PlainView N → PlainView N → Type 0
  IsLonger s u t = (IsPrefix u.events s.events × (t.events ≡ s.events) × (t.rows ≡ s.rows))
      ⊎ (IsPrefix s.events u.events × (t.events ≡ u.events) × (t.rows ≡ u.rows))

  -- a pass is the same but for what it has seen, where no event of its agent, or of one that it took in, is new
  pub record SameButEvents (s t : PlainView N) : Type 0 where
    pub agent : t.agent ≡ s.agent
    pub fresh : t.fresh ≡ s.fresh
    pub looked : t.looked ≡ s.looked
    pub absorbed : t.absorbed ≡ s.absorbed
    pub rows : IsPrefix s.rows t.rows
    pub own : events_by s.agent t.events ≡ events_by s.agent s.events
    pub retired : (b : ℕ) → Among b s.absorbed → events_by b t.events ≡ events_by b s.events

  -- two passes, s and u, are now t and w, and both have seen the longer one of their two lists
  pub record LearnsEvents (s u t w : PlainView N) : Type 0 where
    pub longer : IsLonger s u t
    pub both : (w.events ≡ t.events) × (w.rows ≡ t.rows)
    pub into : SameButEvents s t
    pub from : SameButEvents u w

  -- a pass, which was s and is t, has taken in the pass u for good, and has seen the longer one of their two lists; no event of its
  -- agent, of u's, or of one that either had taken in, is new
  pub record Absorbs (s u t : PlainView N) : Type 0 where
    pub longer : IsLonger s u t
    pub agent : t.agent ≡ s.agent
    pub fresh : t.fresh ≡ s.fresh
    pub looked : t.looked ≡ s.looked
    pub absorbed : t.absorbed ≡ u.agent ∷ u.absorbed ++ s.absorbed
    pub rows : IsPrefix s.rows t.rows
    pub own : events_by s.agent t.events ≡ events_by s.agent s.events
    pub retired : (b : ℕ) → Among b s.absorbed → events_by b t.events ≡ events_by b s.events
    pub taken : (b : ℕ) → (b ≡ u.agent) ⊎ Among b u.absorbed → events_by b t.events ≡ events_by b u.events
