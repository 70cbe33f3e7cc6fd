-- What a search tells that nobody disturbs.
use Rattle.std.proofs.Common.{List, None, Option, Some, [], ap, append-nil, append_assoc, arith, inl, inr, length, subst, sym, true, ℕ, ◌*◌, ◌+◌, ◌++◌, ◌∙◌, ◌∷◌, ◌≡◌, ◌≤◌}
use Rattle.std.proofs.lemmas.Bool.{eq-eqb, or_left, or_right}
use Rattle.std.specs.Prelude.{min, ◌==◌}
use Rattle.orc_heap.proofs.OwnParts.{alone_own, begins_own}
use Rattle.orc_heap.proofs.Runs.{run_heap-snoc}
use Rattle.orc_heap.proofs.Stays.{allowed-right}
use Rattle.orc_heap.specs.Allowed.{AllAllowed}
use Rattle.orc_heap.specs.Heap.{Heap, shown}
use Rattle.orc_heap.specs.Journals.{IsLawfulFrom, run_heap}
use Rattle.orc_heap.specs.Moves.{AllOwn, from_own}
use Rattle.orc_heap.specs.Seats.{Seat, heap_of}
use Rattle.orc_heap.specs.declared.events.Event.{Event}
use Rattle.orc_heap.specs.declared.events.Link.{Link}
use Rattle.orc_heap.specs.declared.events.Place.{Place}
use Rattle.orc_history.specs.SetHistory.{has}
use Rattle.orc_ordered_chains.specs.Chains.{IsPath}
use Rattle.orc_ordered_search.specs.Ways.{AreLoads, IsAmong, Sees, Stops}
use Rattle.orc_ordered_search.proofs.Ways.{few_before, few_in_all, length_onto, load_still, on_onto, onto, sees_shown, way_path}
use Rattle.orc_ordered_search.specs.Reading.{Ordering, Reading}
use Rattle.orc_ordered_search.specs.Searches.{Counts, Quiet, Skips, Visits}

-- events that are allowed fit one after another
allowed_lawful : {N : Type 0} (ord : Ordering N) (seen es : List (Event N)) → AllAllowed ord.may seen es
    → IsLawfulFrom (run_heap ord.reading.numbers seen) es
allowed_lawful ord seen [] all = tt
allowed_lawful {N} ord seen (e ∷ es) all = (
  ord.owes.fits seen e all.0,
  subst (λ (h : Heap). IsLawfulFrom h es) (run_heap-snoc ord.reading.numbers seen e) (allowed_lawful ord (seen ++ e ∷ []) es all.1),
)

-- and loads leave the heap as it was
pub loads_same : {N : Type 0} (ord : Ordering N) (seen es : List (Event N)) → AreLoads es
    → run_heap ord.reading.numbers (seen ++ es) ≡ run_heap ord.reading.numbers seen
loads_same ord seen [] loads = ap (λ z. run_heap ord.reading.numbers z) (append-nil seen)
loads_same {N} ord seen (e ∷ es) loads =
    ap (λ z. run_heap ord.reading.numbers z) (sym (append_assoc seen (e ∷ []) es))
    ∙ (loads_same ord (seen ++ e ∷ []) es loads.1
    ∙ (run_heap-snoc ord.reading.numbers seen e ∙ load_still e.agent e.act (run_heap ord.reading.numbers seen) loads.0))

-- the events before the first own one, where all from there on are own
pub record IsAlone {N : Type 0} (ord : Ordering N) (s : Seat N) (own : List (Event N)) (t : Seat N) : Type 0 where
  pub before : List (Event N)
  pub seen_is : t.seen ≡ (s.seen ++ before) ++ own
  pub heap_is : heap_of ord.reading.numbers t ≡ run_heap ord.reading.numbers (s.seen ++ before)
  -- each own Look found what the heap shows
  pub shows : (place : Place) (link : Link) → Sees own place link → shown (heap_of ord.reading.numbers t) place ≡ Some link

pub alone_shows : {N : Type 0} (ord : Ordering N) (s t : Seat N) (own : List (Event N)) (q : Quiet ord.reading s own t) → AllAllowed ord.may [] t.seen
    → AllOwn s.agent (from_own s.agent q.puts.part) → IsAlone ord s own t
alone_shows {N} ord s t own q all alone =
    let cut = begins_own s.agent q.puts.part in
    let own_is : from_own s.agent q.puts.part ≡ own = alone_own s.agent q.puts.part own q.puts.own_is alone in
    let part_is : q.puts.part ≡ cut.before ++ own = cut.is ∙ ap (λ z. cut.before ++ z) own_is in
    let seen_is : t.seen ≡ (s.seen ++ cut.before) ++ own =
    q.puts.is ∙ (ap (λ z. s.seen ++ z) part_is ∙ sym (append_assoc s.seen cut.before own)) in
    let heap_is : heap_of ord.reading.numbers t ≡ run_heap ord.reading.numbers (s.seen ++ cut.before) =
    ap (λ z. run_heap ord.reading.numbers z) seen_is ∙ loads_same ord (s.seen ++ cut.before) own q.loads in
    let later = allowed-right ord.may [] (s.seen ++ cut.before) own (subst (λ z. AllAllowed ord.may [] z) seen_is all) in
    record {
      before = cut.before;
      seen_is = seen_is;
      heap_is = heap_is;
      shows = λ place link seen. subst (λ (h : Heap). shown h place ≡ Some link) (sym heap_is)
          (sees_shown (run_heap ord.reading.numbers (s.seen ++ cut.before)) own place link q.loads (allowed_lawful ord (s.seen ++ cut.before) own later) seen);
    }

module _ {N : Type 0} (ord : Ordering N) (start : Place) (wanted passed more : ℕ) (to : Option ℕ) (s t : Seat N) (own : List (Event N))
    (v : Visits ord.reading start wanted passed more to own t) (a : IsAlone ord s own t) where
  -- it walked along the chain as it is
  pub walked : IsPath (heap_of ord.reading.numbers t) start (onto v.nodes []) to
  walked = way_path (heap_of ord.reading.numbers t) own a.shows start v.nodes to v.way

  -- a search makes two events for each node before the first unmarked one at or past the place, and so many more
  pub search_few : (zs : List ℕ) (y : ℕ) → IsPath (heap_of ord.reading.numbers t) start zs (Some y)
      → Stops ord.reading.order (heap_of ord.reading.numbers t) wanted y → length own ≤ 2 * length zs + more
  search_few zs y path stops =
      let k = few_before ord.reading.order (heap_of ord.reading.numbers t) wanted start (onto v.nodes []) zs to y
      (on_onto ord.reading.order (heap_of ord.reading.numbers t) wanted v.nodes [] v.on tt) walked path stops in
      omega (arith, v.few, k, length_onto v.nodes [])

  -- or before the chain's end, where there is none
  pub search_few_in_all : (zs : List ℕ) → IsPath (heap_of ord.reading.numbers t) start zs None → length own ≤ 2 * length zs + more
  search_few_in_all zs path =
      let k = few_in_all ord.reading.order (heap_of ord.reading.numbers t) wanted start (onto v.nodes []) zs to walked path in
      omega (arith, v.few, k, length_onto v.nodes [])

-- the nodes that a search counted

pub record Counted {N : Type 0} (r : Reading N) (own : List (Event N)) (h : Heap) (nodes : List ℕ) (passed : ℕ) : Type 0 where
  pub ids : List ℕ
  pub few : min (length ids) 9 ≤ passed
  pub all : (id : ℕ) → IsAmong nodes id → (Skips r own h id → ⊥) → has id ids ≡ true

pub counted_nodes : {N : Type 0} (r : Reading N) (own : List (Event N)) (h : Heap) (nodes : List ℕ) (passed : ℕ) → Counts r own h nodes passed
    → Counted r own h nodes passed
counted_nodes r own h [] passed c = record { ids = []; few = omega arith; all = λ id among skip. absurd among }
counted_nodes r own h (x ∷ nodes) passed (before, rest, either) =
    let k = counted_nodes r own h nodes before rest in
    elim either [
      | inl more ↦ record {
        ids = x ∷ k.ids;
        few = omega (arith, k.few, more);
        all = λ id among skip. elim among [
          | inl here ↦ or_left (x == id) (has id k.ids) (eq-eqb x id here)
          | inr later ↦ or_right (x == id) (has id k.ids) (k.all id later skip)
        ];
      }
      | inr less ↦ record {
        ids = k.ids;
        few = omega (arith, k.few, less.0);
        all = λ id among skip. elim among [
          | inl here ↦ absurd (skip (subst (λ (z : ℕ). Skips r own h z) here less.1))
          | inr later ↦ k.all id later skip
        ];
      }
    ]
