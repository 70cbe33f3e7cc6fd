-- What licenses each step.
use Rattle.std.proofs.Common.{◌≡◌, ◌≢◌, ℕ, zero, suc, ◌+◌, ◌*◌, ◌<◌, ◌==◌, List, [], ◌++◌, length, Bool, true, false, Option, Some, None, slice_index, refl, sym, ap, ◌∙◌, subst, arith, eq-eqb, length-append}
use Rattle.orc_heap.proofs.Changes.{get_lt}
use Rattle.std.proofs.lemmas.Bool.Decides.{nat_tests}
use Rattle.orc_words.specs.Bounds.{Bounds, bounds_of}
use Rattle.orc_words.specs.Packed.{bit, link_word}
use Rattle.orc_words.specs.Places.{place}
use Rattle.orc_words.specs.declared.packed.RowLink.{RowLink}
use Rattle.orc_words.specs.declared.place.Word.{Word}
use Rattle.orc_words.specs.declared.shape.Shape.{Shape}
use Rattle.std.specs.Option.{ForSome}
use Rattle.orc_words.specs.declared.place.Word.TheVariants as word
use Rattle.orc_heap.specs.Acts.{Fits, IsFresh, IsTarget, aim_act}
use Rattle.orc_heap.specs.Allowed.{AllowedLater}
use Rattle.orc_heap.specs.Heap.{Heap, shown}
use Rattle.orc_heap.specs.Journals.{FitsAfter, IsPlain, event_by, run_heap}
use Rattle.orc_heap.specs.declared.discipline.Discipline as discipline
use Rattle.orc_heap.specs.declared.events.Act.TheVariants as act
use Rattle.orc_heap.specs.declared.events.Event.{Event}
use Rattle.orc_heap.specs.declared.events.Link.{Link}
use Rattle.orc_heap.specs.declared.events.Place.{Place}
use Rattle.orc_heap.specs.declared.events.Place.TheVariants.{Next as AtNext, Side as AtSide}
use Rattle.orc_heap.proofs.Sides.{side_there}
use Rattle.orc_heap.proofs.Stays.{stays}
use Rattle.orc_shared_words.specs.Lists.{Each}
use Rattle.orc_shared_words.specs.Steps.{IsAllowedLater}
use Rattle.orc_shared_words.specs.declared.journal.View.{View}
use Rattle.orc_plain_board.specs.Calls.{KnowsPlace, KnowsRow, KnowsTarget, MayWhereFits, MayWhereShown, aim_event, look_event, move_event}
use Rattle.orc_any_domain.specs.Rows.{index_of}
use Rattle.orc_plain_board.specs.Machine.{State, IsLinkWord, IsRowLink, events_of, finds, id_by, link_at, link_by, numbers, place_by, project, project_from, run, run_from, start, tested}
use Rattle.orc_plain_board.specs.Rules.{plain_rules}
use Rattle.orc_plain_board.specs.Views.{FreshHeld, Keeps, PlainView, heap_of, view_of}
use Rattle.orc_plain_board.specs.Words.{IsWord}
use Rattle.orc_plain_board.specs.declared.machine.PlainOp.{PlainOp}
use Rattle.orc_plain_board.specs.declared.machine.PlainOp.TheVariants.{Fill, LinkLoad, LinkCas, LinkStore}
use Rattle.orc_plain_board.specs.declared.machine.PlainStep.{PlainStep}
use Rattle.orc_plain_board.specs.declared.shape.PlainShape.{PlainShape}
use Rattle.orc_any_domain.proofs.Rows.{at_index, index_grown, some_one}
use Rattle.orc_plain_board.proofs.Lists.{lt_get}
use Rattle.orc_plain_board.proofs.Ties.{Given, link_in, one_link, word_by}
use Rattle.orc_plain_board.proofs.Steps.{Tied, heap_is, tied}
use Rattle.orc_plain_board.proofs.Walks.{Mid, given_more, lawful_of, mid_fresh, mid_of, mid_target}

-- a root, or a link of a row that was given
abbrev pub PlaceHeld : Bounds → List ℕ → Word → Type 0
PlaceHeld k g (word.Root r) = r < k.roots
PlaceHeld k g (word.Next row) = index_of row g < length g
PlaceHeld k g (word.Side row) = (index_of row g < length g) × (1 < k.links)
PlaceHeld k g at = ⊥

pub place_grown : (k : Bounds) (g more r : List ℕ) (at : Word) → r ≡ g ++ more → PlaceHeld k g at → PlaceHeld k r at × (place_by r at ≡ place_by g at)
place_grown k g more r (word.Root i) e h = (h, refl)
place_grown k g more r (word.Next row) e h =
    let one : index_of row r ≡ index_of row g = ap (index_of row) e ∙ index_grown row g more h in
    let long : length r ≡ length g + length more = ap length e ∙ length-append g more in
    (omega (arith, one, long, h), ap AtNext one)
place_grown k g more r (word.Side row) e h =
    let given = h.0 in
    let one : index_of row r ≡ index_of row g = ap (index_of row) e ∙ index_grown row g more given in
    let long : length r ≡ length g + length more = ap length e ∙ length-append g more in
    ((omega (arith, one, long, given), h.1), ap AtSide one)
place_grown k g more r at e h = absurd h

pub link_grown : (g more r : List ℕ) (l : RowLink) → r ≡ g ++ more → Given g l.to → Given r l.to × (link_by r l ≡ link_by g l)
link_grown g more r l e h = went l.to h
  where
    went : (t : Option ℕ) → Given g t → Given r t × (link_by r (record { to = t; mark = l.mark }) ≡ link_by g (record { to = t; mark = l.mark }))
    went None h = (tt, refl)
    went (Some row) h =
        let one : index_of row r ≡ index_of row g = ap (index_of row) e ∙ index_grown row g more h in
        let long : length r ≡ length g + length more = ap length e ∙ length-append g more in
        (omega (arith, one, long, h), λ i. record { to = Some (one i); mark = l.mark })

-- a link to a row of the table can be packed
pub packable : (shape : Shape) (to : Option ℕ) → IsRowLink (bounds_of shape) to → ForSome to (λ row. row < 65535)
packable shape to inside row is = let few = shape.few_rows in let lt = inside row is in omega (arith, few, lt)

-- a place that is held shows a link, and its word
pub record Shows (k : Bounds) (x : State) (at : Word) : Type 0 where
  pub link : Link
  pub is : shown x.heap (place_by x.given at) ≡ Some link
  pub word : IsWord x.given link.to link.mark (slice_index x.words (place k at))
  pub spot : IsLinkWord k at

pub shows : (k : Bounds) (x : State) (at : Word) → Tied k x → PlaceHeld k x.given at → Shows k x at
shows k x (word.Root r) tie h =
    let rooted = tie.rooted in
    let l = lt_get x.heap.roots r (omega (arith, rooted, h)) in
    record { link = l.0; is = l.1; word = tie.root r l.0 l.1; spot = h }
shows k x (word.Next row) tie h =
    let even = tie.even in
    let n = lt_get x.heap.nodes (index_of row x.given) (omega (arith, even, h)) in
    let here = at_index row x.given h in
    record {
      link = n.0.link;
      is = ap link_in n.1;
      word = (tie.node (index_of row x.given) row n.0 here n.1).link;
      spot =
          tie.inside (index_of row x.given) row here;
    }
shows k x (word.Side row) tie h =
    let even = tie.even in
    let linked = tie.linked in
    let given = h.0 in
    let two = h.1 in
    let n = lt_get x.heap.nodes (index_of row x.given) (omega (arith, even, given)) in
    let here = at_index row x.given given in
    record {
      link = n.0.side;
      is = side_there x.heap (index_of row x.given) n.0 (omega (arith, linked, two)) n.1;
      word = (tie.node (index_of row x.given) row n.0 here n.1).side two;
      spot = (tie.inside (index_of row x.given) row here, two);
    }
shows k x at tie h = absurd h

pub one_word : (g : List ℕ) (t : Option ℕ) (m : Bool) (n o : ℕ) → IsWord g t m n → IsWord g t m o → n ≡ o
one_word g None m n o x y = x ∙ sym y
one_word g (Some id) m n o x y = let e : x.0 ≡ y.0 = some_one x.0 y.0 (sym x.1 ∙ y.1) in x.2 ∙ (ap (λ z. 2 * (z + 1) + bit m) e ∙ sym y.2)

is_equal : (m n : ℕ) → (m == n) ≡ true → m ≡ n
is_equal m n e = grind (arith, nat_tests)

-- the word found is the wanted one just where the place shows the wanted link
pub hit : (k : Bounds) (x : State) (at : Word) (w : RowLink) (tie : Tied k x) (s : Shows k x at) → Given x.given w.to
    → (slice_index x.words (place k at) == link_word w) ≡ true → shown x.heap (place_by x.given at) ≡ Some (link_by x.given w)
hit k x at w tie s given e =
    let n = is_equal _ (link_word w) e in
    let both = one_link x.given tie.once s.link.to (id_by x.given w.to) s.link.mark w.mark (slice_index x.words (place k at)) s.word
    (subst (IsWord x.given (id_by x.given w.to) w.mark) (sym n) (word_by x.given w.to w.mark given)) in
    s.is ∙ λ i. Some (record { to = both.0 i; mark = both.1 i })

pub missed : (k : Bounds) (x : State) (at : Word) (w : RowLink) (tie : Tied k x) (s : Shows k x at) → Given x.given w.to
    → (slice_index x.words (place k at) == link_word w) ≡ false → s.link ≢ link_by x.given w
missed k x at w tie s given e q =
    let same : IsWord x.given (id_by x.given w.to) w.mark (slice_index x.words (place k at)) =
    subst (λ (z : Link). IsWord x.given z.to z.mark (slice_index x.words (place k at))) q s.word in
    let n = one_word x.given (id_by x.given w.to) w.mark (slice_index x.words (place k at)) (link_word w) same (word_by x.given w.to w.mark given) in
    let t = eq-eqb (slice_index x.words (place k at)) (link_word w) n in
    cc

module _ {D N : Type 0} (d : discipline.Ghosts D N) (q : PlainShape N) (v : View (PlainStep N) (Unit {0})) (a : ℕ) (fresh looked : Option ℕ)
    (h : Keeps q (d.holds (numbers (bounds_of q.shape))) (d.may (numbers (bounds_of q.shape))) v a fresh) where
  abbrev k : Bounds
  k = bounds_of q.shape

  abbrev holds : List (Event N) → Type 0
  holds = d.holds (numbers (bounds_of q.shape))

  abbrev may : List (Event N) → Event N → Type 0
  may = d.may (numbers (bounds_of q.shape))

  abbrev g0 : List ℕ
  g0 = (run k v.seen).given

  abbrev s : PlainView N
  s = view_of k a v fresh looked

  pub now_tied : Tied k (run k v.seen)
  now_tied = tied k v.seen h.now.lawful (lawful_of d k [] (project k v.seen) h.began h.now.each)

  -- the heap of what was seen
  pub heap_now : heap_of k s ≡ (run k v.seen).heap
  heap_now = sym (heap_is k (start k) v.seen)

  pub row_given : (row : ℕ) → KnowsRow k s row → index_of row g0 < length g0
  row_given row r =
      let l = get_lt (heap_of k s).nodes (index_of row g0) r.node r.there in
      let even : length g0 ≡ length (heap_of k s).nodes = now_tied.even ∙ ap (λ (z : Heap). length z.nodes) (sym heap_now) in
      omega (arith, l, even)

  pub place_given : (at : Word) → KnowsPlace k s at → PlaceHeld k g0 at
  place_given (word.Root r) e = e
  place_given (word.Next row) e = row_given row e
  place_given (word.Side row) e = (row_given row e.0, e.1)
  place_given at e = absurd e

  pub link_given : (l : RowLink) → KnowsTarget k s l → Given g0 l.to
  link_given l e = went l.to e
    where
      went : (t : Option ℕ) → IsTarget a (heap_of k s) (id_by g0 t) → Given g0 t
      went None e = tt
      went (Some row) e = row_given row e

  pub place_inside : (at : Word) → KnowsPlace k s at → IsLinkWord k at
  place_inside at e = (Shows.spot (shows k (run k v.seen) at now_tied (place_given at e)))

  pub row_inside : (row : ℕ) → KnowsRow k s row → row < k.rows
  row_inside row e = now_tied.inside (index_of row g0) row (at_index row g0 (row_given row e))

  pub link_inside : (l : RowLink) → KnowsTarget k s l → IsRowLink k l.to
  link_inside l known row is = row_inside row (subst (λ t. IsTarget a (heap_of k s) (id_by g0 t)) is known)

  -- a step is licensed where its event is allowed at each state that the pass may come upon
  pub from_mid : (op : PlainOp) (said : Option N)
      → ((between : List (PlainStep N)) → Mid k may v.seen between a → holds (project k (v.seen ++ between))
      → Each (may (project k (v.seen ++ between))) (events_of (run_from k (run k v.seen) between) a op (finds k (run_from k (run k v.seen) between) op) said))
      → IsAllowedLater plain_rules q holds may v a op said
  from_mid op said f between none later =
      let m = mid_of d k v.seen between a h.began none later.lawful later.each in
      subst (λ z. Each (may (project k (v.seen ++ between))) (events_of z a op (finds k z op) said)) (sym m.state) (f between m later.kept)

  -- a plain event that fits
  pub stands : (seen : List (PlainStep N)) (x : State) (e : Event N) → run_heap (numbers k) (project k seen) ≡ x.heap → holds (project k seen)
      → Fits e.agent e.act x.heap → IsPlain e → may (project k seen) e
  stands seen x e heap hk f plain = d.allows_plain (numbers k) (project k seen) e hk (subst (λ z. Fits e.agent e.act z) (sym heap) f) plain

  look_licence : (at : Word) → KnowsPlace k s at → IsAllowedLater plain_rules q holds may v a (LinkLoad at None) None
  look_licence at knows = from_mid (LinkLoad at None) None
      (λ between m hk. let x : State = run_from k (run k v.seen) between in
      let g = given_more k (run k v.seen) between in
      let s = shows k x at m.tie (place_grown k g0 g.0 x.given at (sym g.1) (place_given at knows)).0 in
      stands (v.seen ++ between) x (event_by a (act.Look (place_by x.given at) (link_at (shown x.heap (place_by x.given at)))) None) m.heap hk
      (s.is ∙ ap Some (sym (ap link_at s.is))) (refl, tt))

  test : (seen : List (PlainStep N)) (x : State) (at : Word) (w : RowLink) (done : Event N) (heap : run_heap (numbers k) (project k seen) ≡ x.heap)
      (hk : holds (project k seen)) (tie : Tied k x) (s : Shows k x at) (given : Given x.given w.to)
      → (shown x.heap (place_by x.given at) ≡ Some (link_by x.given w) → may (project k seen) done)
      → (b : Bool) → (slice_index x.words (place k at) == link_word w) ≡ b → may (project k seen) (tested x a (place_by x.given at) (link_by x.given w) done b)
  test seen x at w done heap hk tie s given can true e = can (hit k x at w tie s given e)
  test seen x at w done heap hk tie s given can false e =
      let r : s.link ≡ link_at (shown x.heap (place_by x.given at)) = sym (ap link_at s.is) in
      stands seen x (event_by a (act.Miss (place_by x.given at) (link_by x.given w) (link_at (shown x.heap (place_by x.given at)))) None) heap hk
      (s.is ∙ ap Some r, (λ z. missed k x at w tie s given e (r ∙ z))) (refl, tt)

  -- the caller's licence, at a state that the pass may come upon
  may_test : (at : Word) (w t : RowLink) (done : Place → Link → Link → Event N) → KnowsPlace k s at → KnowsTarget k s w → KnowsTarget k s t
      → AllowedLater may (numbers k) a (project k v.seen) (place_by g0 at) (link_by g0 w) (done (place_by g0 at) (link_by g0 w) (link_by g0 t))
      → (between : List (PlainStep N)) (m : Mid k may v.seen between a) → holds (project k (v.seen ++ between))
      → may (project k (v.seen ++ between))
      (tested (run_from k (run k v.seen) between) a (place_by (run_from k (run k v.seen) between).given at)
      (link_by (run_from k (run k v.seen) between).given w)
      (done (place_by (run_from k (run k v.seen) between).given at) (link_by (run_from k (run k v.seen) between).given w)
      (link_by (run_from k (run k v.seen) between).given t))
      (slice_index (run_from k (run k v.seen) between).words (place k at) == link_word w))
  may_test at w t done knows from to allowed between m hk =
      let x : State = run_from k (run k v.seen) between in
      let es : List (Event N) = project_from k (run k v.seen) between in
      let g = given_more k (run k v.seen) between in
      let sp = place_grown k g0 g.0 x.given at (sym g.1) (place_given at knows) in
      let lw = link_grown g0 g.0 x.given w (sym g.1) (link_given w from) in
      let lt = link_grown g0 g.0 x.given t (sym g.1) (link_given t to) in
      let s = shows k x at m.tie sp.0 in
      let heap : x.heap ≡ run_heap (numbers k) (project k v.seen ++ es) = sym m.heap ∙ ap (run_heap (numbers k)) m.events in
      test (v.seen ++ between) x at w (done (place_by x.given at) (link_by x.given w) (link_by x.given t)) m.heap hk m.tie s lw.0
      (λ e.
      let there : shown (run_heap (numbers k) (project k v.seen ++ es)) (place_by g0 at) ≡ Some (link_by g0 w) =
      subst (λ (z : Heap × Place × Link). shown z.0 z.1 ≡ Some z.2) (λ i. (heap i, sp.1 i, lw.1 i)) e in
      let ok : may (project k v.seen ++ es) (done (place_by g0 at) (link_by g0 w) (link_by g0 t)) =
      allowed es record { allowed = m.allowed; others = m.none } there in
      subst (λ (z : List (Event N) × Place × Link × Link). may z.0 (done z.1 z.2 z.3)) (λ i. (sym m.events i, sym sp.1 i, sym lw.1 i, sym lt.1 i)) ok)
      (slice_index x.words (place k at) == link_word w)
      refl

  -- a look that has no note is allowed wherever it fits
  plain_look : (at : Word) (w : RowLink) → MayWhereShown may k s at w (look_event s at w None)
  plain_look at w more later there =
      d.allows_plain (numbers k) (project k v.seen ++ more) (look_event s at w None)
      (stays may holds (λ es e p m. d.keeps (numbers k) es e p m) (project k v.seen) more h.now.kept later.allowed) there (refl, tt)

  want_licence : (at : Word) (w : RowLink) (said : Option N) → KnowsPlace k s at → KnowsTarget k s w
      → MayWhereShown may k s at w (look_event s at w said) → IsAllowedLater plain_rules q holds may v a (LinkLoad at (Some w)) said
  want_licence at w said knows from allowed =
      from_mid (LinkLoad at (Some w)) said (may_test at w w (λ p l _. event_by a (act.Look p l) said) knows from from allowed)

  -- a load that may want a link, and may have a note
  pub load_licence : (at : Word) (want : Option RowLink) (said : Option N) → KnowsPlace k s at → ((w : RowLink) → want ≡ Some w → KnowsTarget k s w)
      → (want ≡ None → said ≡ None)
      → ((w : RowLink) (x : N) → want ≡ Some w → said ≡ Some x → MayWhereShown may k s at w (look_event s at w said))
      → IsAllowedLater plain_rules q holds may v a (LinkLoad at want) said
  load_licence at None said knows known none allowed = subst (IsAllowedLater plain_rules q holds may v a (LinkLoad at None)) (sym (none refl)) (look_licence at knows)
  load_licence at (Some w) None knows known none allowed = want_licence at w None knows (known w refl) (plain_look at w)
  load_licence at (Some w) (Some x) knows known none allowed = want_licence at w (Some x) knows (known w refl) (allowed w x refl refl)

  pub cas_licence : (at : Word) (w t : RowLink) (said : Option N) → KnowsPlace k s at → KnowsTarget k s w → KnowsTarget k s t
      → MayWhereShown may k s at w (move_event s at w t said) → IsAllowedLater plain_rules q holds may v a (LinkCas at w t) said
  cas_licence at w t said knows from to allowed =
      from_mid (LinkCas at w t) said (may_test at w t (λ p l m. event_by a (act.Move p l m) said) knows from to allowed)

  -- the fresh row's node is fresh at each state that the pass may come upon
  fresh_at : (between : List (PlainStep N)) (m : Mid k may v.seen between a) (row : ℕ) → fresh ≡ Some row
      → IsFresh a (run_from k (run k v.seen) between).heap (index_of row (run_from k (run k v.seen) between).given)
  fresh_at between m row e =
      let u = mid_fresh k may v.seen between a m (Some row) (subst (FreshHeld a (run k v.seen)) e h.untouched) in
      record { node = u.1.node; there = u.1.there; mine = u.1.mine; unlinked = u.1.unlinked }

  pub fill_licence : (row which value : ℕ) → fresh ≡ Some row → which < 2 → IsAllowedLater plain_rules q holds may v a (Fill row which value) None
  fill_licence row which value is low = from_mid (Fill row which value) None
      (λ between m hk. let x : State = run_from k (run k v.seen) between in
      stands (v.seen ++ between) x (event_by a (act.Fill (index_of row x.given) which value) None) m.heap hk (fresh_at between m row is, low) (refl, tt))

  -- an Aim of a link that nodes have fits
  aim_fits : (h : Heap) (number id : ℕ) (to : Option ℕ) → number < h.links → IsFresh a h id → IsTarget a h to → Fits a (aim_act number id to) h
  aim_fits h zero id to low f t = (f, t)
  aim_fits h (suc number) id to low f t = (f, t, omega (arith, low))

  pub store_licence : (row number : ℕ) (l : RowLink) → fresh ≡ Some row → number < k.links → KnowsTarget k s l
      → MayWhereFits may k s (aim_event s row number l) → IsAllowedLater plain_rules q holds may v a (LinkStore row number l.to) None
  store_licence row number l is low knows allowed = from_mid (LinkStore row number l.to) None
      (λ between m hk.
      let x : State = run_from k (run k v.seen) between in
      let es : List (Event N) = project_from k (run k v.seen) between in
      let g = given_more k (run k v.seen) between in
      let lw = link_grown g0 g.0 x.given l (sym g.1) (link_given l knows) in
      let held = subst (FreshHeld a (run k v.seen)) is h.untouched in
      let one : index_of row x.given ≡ index_of row g0 = ap (index_of row) (sym g.1) ∙ index_grown row g0 g.0 held.0 in
      let to : id_by x.given l.to ≡ id_by g0 l.to = ap (λ (z : Link). z.to) lw.1 in
      let heap : x.heap ≡ run_heap (numbers k) (project k v.seen ++ es) = sym m.heap ∙ ap (run_heap (numbers k)) m.events in
      let target : IsTarget a x.heap (id_by g0 l.to) =
      mid_target k may v.seen between a m (id_by g0 l.to) (subst (λ z. IsTarget a z (id_by g0 l.to)) heap_now knows) in
      let linked = m.tie.linked in
      let fits : FitsAfter (numbers k) (project k v.seen ++ es) (aim_event s row number l) =
      subst (λ (z : Heap × ℕ). Fits a (aim_act number z.1 (id_by g0 l.to)) z.0) (λ i. (heap i, one i))
      (aim_fits x.heap number (index_of row x.given) (id_by g0 l.to) (omega (arith, low, linked)) (fresh_at between m row is) target) in
      let ok : may (project k v.seen ++ es) (aim_event s row number l) = allowed es record { allowed = m.allowed; others = m.none } fits in
      subst (λ (z : List (Event N) × ℕ × Option ℕ). may z.0 (event_by a (aim_act number z.1 z.2) None)) (λ i. (sym m.events i, sym one i, sym to i)) ok)
