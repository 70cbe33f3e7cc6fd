-- What loads, exchanges and stores of links tell, in events.
use Rattle.std.proofs.Common.{◌≡◌, ◌≢◌, ℕ, zero, suc, ◌<◌, ◌==◌, List, [], ◌∷◌, ◌++◌, length, Bool, true, false, true≢false, cond, if◌then◌else◌, Option, Some, None, slice_get, slice_index, refl, sym, ap, ◌∙◌, subst, arith, eq-eqb, ne_eqb}
use mathlib.Core.Logic.{dite}
use native.Mathlib.Decide.{ℕ_discrete}
use Rattle.orc_words.specs.Bounds.{bounds_of}
use Rattle.orc_words.specs.Packed.{link_word}
use Rattle.orc_words.specs.Places.{link_at as link_word_at, place as word_place}
use Rattle.orc_words.specs.declared.packed.RowLink.{RowLink}
use Rattle.orc_words.specs.declared.place.Word.{Word}
use Rattle.std.proofs.lemmas.Bool.Decides.{nat_tests}
use Rattle.orc_heap.specs.Acts.{IsTarget, aim_act}
use Rattle.orc_heap.specs.Allowed.{AllAllowed}
use Rattle.orc_heap.specs.Seats.{IsUntouched}
use Rattle.orc_heap.specs.Heap.{Heap, shown}
use Rattle.orc_heap.specs.Journals.{event_by, names_node, points_to, run_from as heap_from, run_heap}
use Rattle.orc_heap.specs.declared.discipline.Discipline as discipline
use Rattle.orc_heap.specs.declared.events.Act.TheVariants as act
use Rattle.orc_heap.specs.declared.events.Event.{Event}
use Rattle.orc_heap.specs.declared.events.Link.{Link}
use Rattle.orc_heap.specs.declared.events.Place.{Place}
use Rattle.orc_heap.proofs.Untouched.{names_other, target_from, untouched_after}
use Rattle.orc_shared_words.specs.declared.journal.View.{View}
use Rattle.orc_plain_board.specs.Calls.{AddsOwn, MissesWanted, FindsLink, KnowsPlace, KnowsTarget, Misses, Replaces, look_event, move_event, unless_linked}
use Rattle.orc_any_domain.specs.Rows.{index_of}
use Rattle.orc_plain_board.specs.Machine.{State, finds, id_by, link_at, link_by, numbers, place_by, project, project_from, run, run_from, taken, tested}
use Rattle.orc_plain_board.specs.Views.{FreshHeld, Keeps, heap_of}
use Rattle.orc_plain_board.specs.Words.{IsWord}
use Rattle.orc_plain_board.specs.declared.machine.PlainOp.{PlainOp}
use Rattle.orc_plain_board.specs.declared.machine.PlainOp.TheVariants.{LinkLoad, LinkCas, LinkStore}
use Rattle.orc_plain_board.specs.declared.machine.PlainStep.{PlainStep}
use Rattle.orc_plain_board.specs.declared.shape.PlainShape.{PlainShape}
use Rattle.orc_any_domain.proofs.Rows.{at_index, some_one}
use Rattle.orc_plain_board.proofs.Ties.{Given}
use Rattle.orc_plain_board.proofs.Walks.{Walk, others_none, given_more, heap_later, later_fresh, mid_fresh, own, rows_later}
use Rattle.orc_plain_board.proofs.Licences.{PlaceHeld, Shows, link_given, link_grown, missed, place_given, place_grown, shows}
use Rattle.orc_plain_board.proofs.Tells.{added, around_step, heap_then, id_met, is_named, keeps, keeps_with, rows_met, walked}

is_equal : (m n : ℕ) → (m == n) ≡ true → m ≡ n
is_equal m n e = grind (arith, nat_tests)

-- a Move leaves a node untouched, unless it links to it
move_spares : {N : Type 0} (a : ℕ) (x : State) (p : Place) (l m : Link) (said : Option N) (b : Bool) (id : ℕ) → (b ≡ true → m.to ≢ Some id)
    → IsUntouched a x.heap id → IsUntouched a (heap_from x.heap (tested x a p l (event_by a (act.Move p l m) said) b ∷ [])) id
move_spares a x p l m said true id ne u = untouched_after a a x.heap (act.Move p l m) id (names_other m.to id (ne refl)) u
move_spares a x p l m said false id ne u = u

look_spares : {N : Type 0} (a : ℕ) (x : State) (p : Place) (l : Link) (said : Option N) (b : Bool) (id : ℕ) → IsUntouched a x.heap id
    → IsUntouched a (heap_from x.heap (tested x a p l (event_by a (act.Look p l) said) b ∷ [])) id
look_spares a x p l said true id u = u
look_spares a x p l said false id u = u

-- two rows that were given have one id only if they are one
rows_one : (g : List ℕ) (r t : ℕ) → index_of r g < length g → index_of t g < length g → index_of t g ≡ index_of r g → t ≡ r
rows_one g r t lt lu e = some_one t r (sym (at_index t g lu) ∙ (ap (slice_get g) e ∙ at_index r g lt))

module _ {D N : Type 0} (d : discipline.Ghosts D N) (q : PlainShape N) (v w : View (PlainStep N) (Unit {0})) (a c : ℕ)
    (fresh looked fresh2 looked2 : Option ℕ) (h : Keeps q (d.holds (numbers (bounds_of q.shape))) (d.may (numbers (bounds_of q.shape))) v a fresh)
    (e : c ≡ a) where
  open (around_step d q v w a c fresh looked fresh2 looked2) use {k, holds, may, g0, s, t, Made}

  abbrev walks : (op : PlainOp) (said : Option N) (n : ℕ) → Made op said n → Walk k may v w a op said n
  walks op said n x = walked d q v w a c fresh looked fresh2 looked2 h e op said n x

  abbrev at : {op : PlainOp} {said : Option N} {n : ℕ} → Walk k may v w a op said n → State
  at wk = run_from k (run k v.seen) wk.between

  place_met : {op : PlainOp} {said : Option N} {n : ℕ} (wk : Walk k may v w a op said n) (place : Word) → KnowsPlace k s place
      → PlaceHeld k (at wk).given place × (place_by (at wk).given place ≡ place_by g0 place)
  place_met wk place knows = let g = given_more k (run k v.seen) wk.between in
      place_grown k g0 g.0 (at wk).given place (sym g.1) (place_given d q v a fresh looked h place knows)

  link_met : {op : PlainOp} {said : Option N} {n : ℕ} (wk : Walk k may v w a op said n) (l : RowLink) → KnowsTarget k s l
      → Given (at wk).given l.to × (link_by (at wk).given l ≡ link_by g0 l)
  link_met wk l knows = let g = given_more k (run k v.seen) wk.between in
      link_grown g0 g.0 (at wk).given l (sym g.1) (link_given d q v a fresh looked h l knows)

  -- the place as the step met it
  shows_met : {op : PlainOp} {said : Option N} {n : ℕ} (wk : Walk k may v w a op said n) (place : Word) → KnowsPlace k s place → Shows k (at wk) place
  shows_met wk place knows = shows k (at wk) place wk.mid.tie (place_met wk place knows).0

  -- a link that was met, in what was seen afterwards
  word_then : {op : PlainOp} {said : Option N} {n : ℕ} (wk : Walk k may v w a op said n) → taken op (finds k (at wk) op) ≡ [] → (l : Link) (m : ℕ)
      → IsWord (at wk).given l.to l.mark m → IsWord t.rows l.to l.mark m
  word_then wk none l m word = subst (λ z. IsWord z l.to l.mark m) (rows_met d q v w a c fresh looked fresh2 looked2 h e wk none) word

  known_then : {op : PlainOp} {said : Option N} {n : ℕ} (wk : Walk k may v w a op said n) (place : Place) (l : Link)
      → shown (at wk).heap place ≡ Some l → IsTarget a (heap_of k t) l.to
  known_then {op} {said} {n} wk place l is =
      subst (λ z. IsTarget a z l.to) (sym (heap_later k may v w a op said n wk) ∙ sym (heap_then d q v w a c fresh looked fresh2 looked2 h e))
      (target_from a (at wk).heap (own k may v w a op said n wk) l.to (is_named a (at wk).heap l.to (wk.mid.tie.targets place l is)))

  load_finds : (place : Word) (said : Option N) (n : ℕ) → KnowsPlace k s place → Made (LinkLoad place None) said n → FindsLink may k (place_by g0 place) n s t
  load_finds place said n knows x =
      let wk = walks (LinkLoad place None) said n x in
      let y : State = at wk in
      let there = place_met wk place knows in
      let sh = shows_met wk place knows in record {
        link = sh.link;
        word = word_then wk refl sh.link n (subst (IsWord y.given sh.link.to sh.link.mark) (sym wk.answers) sh.word);
        known = known_then wk (place_by y.given place) sh.link sh.is;
        adds = subst (λ (z : Place × Link). AddsOwn may (event_by a (act.Look z.0 z.1) None ∷ []) s t) (λ i. (there.1 i, ap link_at sh.is i))
            (added d q v w a c fresh looked fresh2 looked2 h e (LinkLoad place None) said n x);
      }

  load_keeps : (place : Word) (said : Option N) (n : ℕ) → fresh2 ≡ fresh → Made (LinkLoad place None) said n → Keeps q holds may w c fresh2
  load_keeps place said n f x = keeps d q v w a c fresh looked fresh2 looked2 h e (LinkLoad place None) said n x f (λ _ _ u. u)

  -- the event of an operation that wanted a link and found it
  hit_event : {op : PlainOp} {said : Option N} {n : ℕ} (wk : Walk k may v w a op said n) (place : Word) (from to : RowLink)
      (done : Place → Link → Link → Event N) (found : ℕ) → KnowsPlace k s place → KnowsTarget k s from → KnowsTarget k s to → found ≡ link_word from
      → tested (at wk) a (place_by (at wk).given place) (link_by (at wk).given from)
      (done (place_by (at wk).given place) (link_by (at wk).given from) (link_by (at wk).given to)) (found == link_word from) ≡ done
      (place_by g0 place) (link_by g0 from) (link_by g0 to)
  hit_event wk place from to done found knows known known2 is =
      let y : State = at wk in
      ap (λ (b : Bool). tested y a (place_by y.given place) (link_by y.given from)
      (done (place_by y.given place) (link_by y.given from) (link_by y.given to)) b) (eq-eqb found (link_word from) is)
      ∙ (λ i. done ((place_met wk place knows).1 i) ((link_met wk from known).1 i) ((link_met wk to known2).1 i))

  -- the event of one that found another link
  miss_event : {op : PlainOp} {said : Option N} {n : ℕ} (wk : Walk k may v w a op said n) (place : Word) (from : RowLink) (done : Event N) (found : ℕ)
      (knows : KnowsPlace k s place) → KnowsTarget k s from → found ≢ link_word from
      → tested (at wk) a (place_by (at wk).given place) (link_by (at wk).given from) done (found == link_word from) ≡ event_by a
      (act.Miss (place_by g0 place) (link_by g0 from) (shows_met wk place knows).link) None
  miss_event wk place from done found knows known other =
      let y : State = at wk in
      let sh = shows_met wk place knows in
      ap (λ (b : Bool). tested y a (place_by y.given place) (link_by y.given from) done b) (ne_eqb found (link_word from) other)
      ∙ (λ i. event_by a (act.Miss ((place_met wk place knows).1 i) ((link_met wk from known).1 i) (ap link_at sh.is i)) None)

  other_link : {op : PlainOp} {said : Option N} {n : ℕ} (wk : Walk k may v w a op said n) (place : Word) (from : RowLink) (found : ℕ)
      (knows : KnowsPlace k s place) (known : KnowsTarget k s from) → found ≡ slice_index (at wk).words (word_place k place) → found ≢ link_word from
      → (shows_met wk place knows).link ≢ link_by g0 from
  other_link wk place from found knows known is other same =
      let y : State = at wk in
      let lw = link_met wk from known in
      missed k y place from wk.mid.tie (shows_met wk place knows) lw.0
      (ne_eqb (slice_index y.words (word_place k place)) (link_word from) (λ z. other (is ∙ z))) (same ∙ sym lw.1)

  want_meets : (place : Word) (l : RowLink) (said : Option N) (n : ℕ) → KnowsPlace k s place → KnowsTarget k s l → n ≡ link_word l
      → Made (LinkLoad place (Some l)) said n → AddsOwn may (look_event s place l said ∷ []) s t
  want_meets place l said n knows known is x =
      let wk = walks (LinkLoad place (Some l)) said n x in
      subst (λ z. AddsOwn may (z ∷ []) s t)
      (hit_event wk place l l (λ p m _. event_by a (act.Look p m) said) (finds k (at wk) (LinkLoad place (Some l))) knows known known
      (sym wk.answers ∙ is)) (added d q v w a c fresh looked fresh2 looked2 h e (LinkLoad place (Some l)) said n x)

  want_misses : (place : Word) (l : RowLink) (said : Option N) (n : ℕ) → KnowsPlace k s place → KnowsTarget k s l → n ≢ link_word l
      → Made (LinkLoad place (Some l)) said n → Misses may k (place_by g0 place) (link_by g0 l) n s t
  want_misses place l said n knows known other x =
      let wk = walks (LinkLoad place (Some l)) said n x in
      let y : State = at wk in
      let sh = shows_met wk place knows in
      let found : ℕ = finds k y (LinkLoad place (Some l)) in
      let other2 : found ≢ link_word l = λ z. other (wk.answers ∙ z) in record {
        link = sh.link;
        other = other_link wk place l found knows known refl other2;
        word = word_then wk refl sh.link n (subst (IsWord y.given sh.link.to sh.link.mark) (sym wk.answers) sh.word);
        known = known_then wk (place_by y.given place) sh.link sh.is;
        adds = subst (λ z. AddsOwn may (z ∷ []) s t)
            (miss_event wk place l (event_by a (act.Look (place_by y.given place) (link_by y.given l)) said) found knows known other2)
            (added d q v w a c fresh looked fresh2 looked2 h e (LinkLoad place (Some l)) said n x);
      }

  want_keeps : (place : Word) (l : RowLink) (said : Option N) (n : ℕ) → fresh2 ≡ fresh → Made (LinkLoad place (Some l)) said n → Keeps q holds may w c fresh2
  want_keeps place l said n f x =
      let wk = walks (LinkLoad place (Some l)) said n x in
      let y : State = at wk in
      keeps d q v w a c fresh looked fresh2 looked2 h e (LinkLoad place (Some l)) said n x f
      (λ row _ u. look_spares a y (place_by y.given place) (link_by y.given l) said (finds k y (LinkLoad place (Some l)) == link_word l)
      (index_of row y.given) u)

  -- a load that may want a link
  pub any_keeps : (place : Word) (want : Option RowLink) (said : Option N) (n : ℕ) → fresh2 ≡ fresh → Made (LinkLoad place want) said n
      → Keeps q holds may w c fresh2
  any_keeps place None said n f x = load_keeps place said n f x
  any_keeps place (Some l) said n f x = want_keeps place l said n f x

  pub any_finds : (place : Word) (want : Option RowLink) (said : Option N) (n : ℕ) → KnowsPlace k s place → want ≡ None
      → Made (LinkLoad place want) said n → FindsLink may k (place_by g0 place) n s t
  any_finds place None said n knows is x = load_finds place said n knows x
  any_finds place (Some l) said n knows is x = cc

  pub any_meets : (place : Word) (want : Option RowLink) (l : RowLink) (said : Option N) (n : ℕ) → KnowsPlace k s place
      → ((m : RowLink) → want ≡ Some m → KnowsTarget k s m) → want ≡ Some l → n ≡ link_word l → Made (LinkLoad place want) said n
      → AddsOwn may (look_event s place l said ∷ []) s t
  any_meets place None l said n knows known is hits x = cc
  any_meets place (Some m) l said n knows known is hits x = let same : m ≡ l = some_one m l is in
      want_meets place l said n knows (known l is) hits (subst (λ z. Made (LinkLoad place (Some z)) said n) same x)

  pub any_misses : (place : Word) (want : Option RowLink) (l : RowLink) (said : Option N) (n : ℕ) → KnowsPlace k s place
      → ((m : RowLink) → want ≡ Some m → KnowsTarget k s m) → want ≡ Some l → n ≢ link_word l → Made (LinkLoad place want) said n
      → Misses may k (place_by g0 place) (link_by g0 l) n s t
  any_misses place None l said n knows known is other x = cc
  any_misses place (Some m) l said n knows known is other x = let same : m ≡ l = some_one m l is in
      want_misses place l said n knows (known l is) other (subst (λ z. Made (LinkLoad place (Some z)) said n) same x)

  pub cas_moves : (place : Word) (from to : RowLink) (said : Option N) (n : ℕ) → KnowsPlace k s place → KnowsTarget k s from → KnowsTarget k s to
      → n ≡ link_word from → Made (LinkCas place from to) said n → AddsOwn may (move_event s place from to said ∷ []) s t
  cas_moves place from to said n knows known known2 is x =
      let wk = walks (LinkCas place from to) said n x in
      subst (λ z. AddsOwn may (z ∷ []) s t)
      (hit_event wk place from to (λ p l m. event_by a (act.Move p l m) said) (finds k (at wk) (LinkCas place from to)) knows known known2
      (sym wk.answers ∙ is)) (added d q v w a c fresh looked fresh2 looked2 h e (LinkCas place from to) said n x)

  pub cas_fails : (place : Word) (from to : RowLink) (said : Option N) (n : ℕ) → KnowsPlace k s place → KnowsTarget k s from → n ≢ link_word from
      → fresh2 ≡ fresh → Made (LinkCas place from to) said n → MissesWanted may (place_by g0 place) (link_by g0 from) s t
  cas_fails place from to said n knows known other f x =
      let wk = walks (LinkCas place from to) said n x in
      let y : State = at wk in
      let found : ℕ = finds k y (LinkCas place from to) in
      let other2 : found ≢ link_word from = λ z. other (wk.answers ∙ z) in record {
        link = (shows_met wk place knows).link;
        other = other_link wk place from found knows known refl other2;
        adds = subst (λ z. AddsOwn may (z ∷ []) s t)
            (miss_event wk place from (event_by a (act.Move (place_by y.given place) (link_by y.given from) (link_by y.given to)) said) found knows
            known other2) (added d q v w a c fresh looked fresh2 looked2 h e (LinkCas place from to) said n x);
        fresh = f;
      }

  -- the fresh row after an exchange, which may have linked it
  abbrev fresh_after : Bool → RowLink → Option ℕ
  fresh_after done to = if done then unless_linked fresh to.to else fresh

  unless_held : (y z : State) (f : Option ℕ) (to : Option ℕ) → FreshHeld a y f → Given y.given to
      → ((row : ℕ) → f ≡ Some row → id_by y.given to ≢ Some (index_of row y.given) → FreshHeld a z (Some row)) → FreshHeld a z (unless_linked f to)
  unless_held y z None to hf gt keep = tt
  unless_held y z (Some row) None hf gt keep = keep row refl (λ r. cc)
  unless_held y z (Some row) (Some r) hf gt keep = dite (ℕ_discrete row r)
      (λ same. subst (λ (b : Bool). FreshHeld a z (cond b None (Some row))) (sym (eq-eqb row r same)) tt)
      (λ other. subst (λ (b : Bool). FreshHeld a z (cond b None (Some row))) (sym (ne_eqb row r other))
      (keep row refl (λ i. other (sym (rows_one y.given row r hf.0 gt (some_one (index_of r y.given) (index_of row y.given) i))))))

  pub cas_keeps : (place : Word) (from to : RowLink) (said : Option N) (n : ℕ) (done : Bool) → KnowsTarget k s to → done ≡ (n == link_word from)
      → fresh2 ≡ fresh_after done to → Made (LinkCas place from to) said n → Keeps q holds may w c fresh2
  cas_keeps place from to said n done known is f x =
      keeps_with d q v w a c fresh looked fresh2 looked2 h e (LinkCas place from to) said n x (subst (FreshHeld a (run k w.seen)) (sym f) (held done is))
    where
      wk : Walk k may v w a (LinkCas place from to) said n
      wk = walks (LinkCas place from to) said n x

      held_still : (b : Bool) → b ≡ (n == link_word from) → (f : Option ℕ) → FreshHeld a (run k v.seen) f
          → ((row : ℕ) → f ≡ Some row → b ≡ true → id_by (at wk).given to.to ≢ Some (index_of row (at wk).given)) → FreshHeld a (run k w.seen) f
      held_still b q2 f hf ne =
          let y : State = at wk in
          later_fresh k may v w a (LinkCas place from to) said n wk f
          (λ row r u. move_spares a y (place_by y.given place) (link_by y.given from) (link_by y.given to) said
          (finds k y (LinkCas place from to) == link_word from) (index_of row y.given)
          (λ t2. ne row r (q2 ∙ (ap (λ z. z == link_word from) wk.answers ∙ t2))) u) hf

      held : (b : Bool) → b ≡ (n == link_word from) → FreshHeld a (run k w.seen) (if b then unless_linked fresh to.to else fresh)
      held true q2 = unless_held (at wk) (run k w.seen) fresh to.to (mid_fresh k may v.seen wk.between a wk.mid fresh h.untouched) (link_met wk to known).0
          (λ row r ne. held_still true q2 (Some row) (subst (FreshHeld a (run k v.seen)) r h.untouched)
          (λ row2 r2 _. subst (λ z. id_by (at wk).given to.to ≢ Some (index_of z (at wk).given)) (some_one row row2 r2) ne))
      held false q2 = held_still false q2 fresh h.untouched (λ row r b. absurd (true≢false (sym b)))

  -- the link word of a row that was given
  link_held : (number row : ℕ) → number < k.links → index_of row g0 < length g0 → PlaceHeld k g0 (link_word_at number row)
  link_held zero row low given = given
  link_held (suc number) row low given = (given, omega (arith, low))

  pub store_replaces : (row number n : ℕ) (l : RowLink) → fresh ≡ Some row → number < k.links → KnowsTarget k s l → Made (LinkStore row number l.to) None n
      → Replaces may k row number n l s t
  store_replaces row number n l is low known x =
      let wk = walks (LinkStore row number l.to) None n x in
      let y : State = at wk in
      let held0 = subst (FreshHeld a (run k v.seen)) is h.untouched in
      let id = id_met d q v w a c fresh looked fresh2 looked2 h e wk row held0.0 in
      let lw = link_met wk l known in
      let to : id_by y.given l.to ≡ id_by g0 l.to = ap (λ (z : Link). z.to) lw.1 in
      let g = given_more k (run k v.seen) wk.between in
      let sp = place_grown k g0 g.0 y.given (link_word_at number row) (sym g.1) (link_held number row low held0.0) in
      let sh = shows k y (link_word_at number row) wk.mid.tie sp.0 in
      let es : List (Event N) = project_from k (run k v.seen) wk.between in
      let heap : y.heap ≡ run_heap (numbers k) (project k v.seen ++ project_from k (run k v.seen) wk.between) =
      sym wk.mid.heap ∙ ap (run_heap (numbers k)) wk.mid.events in record {
        adds = record {
          met = es;
          later = record { allowed = wk.mid.allowed; others = wk.mid.none };
          events = wk.events ∙ (λ i. (project k v.seen ++ es) ++ event_by a (aim_act number (id i) (to i)) None ∷ []);
          allowed = subst (λ (z : ℕ × Option ℕ). AllAllowed may (project k v.seen ++ es) (event_by a (aim_act number z.0 z.1) None ∷ []))
              (λ i. (id i, to i)) wk.allowed;
          agent = e;
          rows = rows_later k may v w a (LinkStore row number l.to) None n wk;
          absorbed = wk.also;
          retired = λ b there. others_none k b (run k v.seen) wk.between (wk.retired b there);
        };
        old = sh.link;
        shown_is = subst (λ (z : Heap × Place). shown z.0 z.1 ≡ Some sh.link) (λ i. (heap i, sp.1 i)) sh.is;
        word = word_then wk refl sh.link n (subst (IsWord y.given sh.link.to sh.link.mark) (sym wk.answers) sh.word);
      }

  aim_points : (number i id : ℕ) (to : Option ℕ) → points_to (aim_act number i to) id ≡ names_node to id
  aim_points zero i id to = refl
  aim_points (suc number) i id to = refl

  pub store_keeps : (row number n : ℕ) (l : RowLink) → fresh ≡ Some row → l.to ≢ Some row → KnowsTarget k s l → fresh2 ≡ fresh
      → Made (LinkStore row number l.to) None n → Keeps q holds may w c fresh2
  store_keeps row number n l is ne known f x =
      let wk = walks (LinkStore row number l.to) None n x in
      let y : State = at wk in
      let held = mid_fresh k may v.seen wk.between a wk.mid (Some row) (subst (FreshHeld a (run k v.seen)) is h.untouched) in
      keeps d q v w a c fresh looked fresh2 looked2 h e (LinkStore row number l.to) None n x f
      (λ r r_is u. untouched_after a a y.heap (aim_act number (index_of row y.given) (id_by y.given l.to)) (index_of r y.given)
      (aim_points number (index_of row y.given) (index_of r y.given) (id_by y.given l.to)
      ∙ names_other (id_by y.given l.to) (index_of r y.given) (spared y.given l.to r (some_one row r (sym is ∙ r_is)) ne (link_met wk l known).0 held.0)) u)
    where
      spared : (g : List ℕ) (to : Option ℕ) (r : ℕ) → row ≡ r → to ≢ Some row → Given g to → index_of row g < length g → id_by g to ≢ Some (index_of r g)
      spared g None r same ne gt lt z = cc
      spared g (Some i) r same ne gt lt z = ne (ap Some (rows_one g row i lt gt (some_one (index_of i g) (index_of r g) z ∙ ap (λ z. index_of z g) (sym same))))
