-- Each step that is allowed, and whose event fits, keeps what the words show.
use Rattle.std.proofs.Common.{◌≡◌, ℕ, zero, suc, ◌+◌, ◌<◌, ◌==◌, List, [], ◌∷◌, ◌++◌, length, cond, nat_lt, Bool, true, false, if◌then◌else◌, Option, Some, None, slice_get, slice_index, slice_set, refl, sym, ◌∙◌, subst, append-nil, arith}
use Rattle.orc_heap.proofs.Changes.{get_lt}
use Rattle.std.proofs.lemmas.Bool.Decides.{nat_tests}
use Rattle.std.specs.Option.{option_map}
use lib.Seq.{set-get_or}
use Rattle.orc_words.specs.Bounds.{Bounds}
use Rattle.orc_words.specs.Packed.{link_word}
use Rattle.orc_words.specs.Places.{place}
use Rattle.orc_words.specs.declared.packed.RowLink.{RowLink}
use Rattle.orc_words.specs.declared.place.Word.{Word}
use Rattle.orc_words.specs.declared.place.Word.TheVariants as word
use Rattle.orc_heap.specs.Acts.{IsFresh, as_linked, as_named, change_target, with_value}
use Rattle.orc_heap.specs.Heap.{Heap, Node, change, shown}
use Rattle.orc_heap.specs.Journals.{IsLawful, IsLawfulFrom, event_by, run_from as heap_from}
use Rattle.orc_heap.specs.declared.events.Act.TheVariants as act
use Rattle.orc_heap.specs.declared.events.Link.{Link}
use Rattle.orc_heap.specs.declared.events.Place.{Place}
use Rattle.orc_heap.specs.declared.events.Place.TheVariants.{Next, Side}
use Rattle.orc_heap.proofs.Runs.{lawful-left, lawful-right, run_from-append as heap-append}
use Rattle.orc_any_domain.specs.Rows.{index_of}
use Rattle.orc_plain_board.specs.Machine.{State, Allowed, AllowedFrom, IsLinkWord, events_at, events_of, finds, id_by, link_by, load_event, next, numbers, place_by, project, project_from, run, run_from, start, taken, tested, value_word, word_of, written}
use Rattle.orc_plain_board.specs.declared.machine.PlainOp.{PlainOp}
use Rattle.orc_plain_board.specs.declared.machine.PlainOp.TheVariants.{GateLook, GateTake, Fill, Read, LinkLoad, LinkCas, LinkStore}
use Rattle.orc_plain_board.specs.declared.machine.PlainStep.{PlainStep}
use Rattle.orc_plain_board.specs.Words.{Tie}
use Rattle.orc_plain_board.proofs.Ties.{Alike, given_by, link_in, row_place, target_nodes, tie_fill, tie_link, tie_root, tie_start, tie_take}

abbrev pub Tied : Bounds → State → Type 0
Tied k x = Tie k x.words x.given x.heap

is_equal : (m n : ℕ) → (m == n) ≡ true → m ≡ n
is_equal m n e = grind (arith, nat_tests)

pub shown_lt : (h : Heap) (id : ℕ) (l : Link) → shown h (Next id) ≡ Some l → id < length h.nodes
shown_lt h id l e = went (slice_get h.nodes id) refl e
  where
    went : (o : Option Node) → slice_get h.nodes id ≡ o → link_in o ≡ Some l → id < length h.nodes
    went None q x = cc
    went (Some n) q x = get_lt h.nodes id n q

pub side_lt : (h : Heap) (id : ℕ) (l : Link) → shown h (Side id) ≡ Some l → id < length h.nodes
side_lt h id l e = by_links (nat_lt 1 h.links) e
  where
    went : (o : Option Node) → slice_get h.nodes id ≡ o → option_map (λ n. n.side) o ≡ Some l → id < length h.nodes
    went None q x = cc
    went (Some n) q x = get_lt h.nodes id n q

    by_links : (two : Bool) → cond two (option_map (λ n. n.side) (slice_get h.nodes id)) None ≡ Some l → id < length h.nodes
    by_links true e = went (slice_get h.nodes id) refl e
    by_links false e = cc

tie_words : (k : Bounds) (w v g r : List ℕ) (h i : Heap) → v ≡ w → r ≡ g → i ≡ h → Tie k w g h → Tie k v r i
tie_words k w v g r h i e q p x = subst (λ z. Tie k z r i) (sym e) (subst (λ z. Tie k w z i) (sym q) (subst (λ z. Tie k w g z) (sym p) x))

-- a heap whose target is changed
pub target_heap : (f : Node → Node) (to : Option ℕ) (h : Heap) → change_target f to h ≡ record { nodes = target_nodes f to h.nodes; roots = h.roots; links = h.links }
target_heap f None h = refl
target_heap f (Some i) h = refl

pub value_place : (k : Bounds) (row which : ℕ) → which < 2 → place k (value_word row which) ≡ row_place k row + 2 + which
value_place k row zero low = omega arith
value_place k row (suc which) low = let none : which ≡ 0 = omega (arith, low) in omega (arith, none)

named_alike : (n : Node) → Alike (as_named n) n
named_alike n = record { link = refl; side = refl; first = refl; second = refl }

linked_alike : (n : Node) → Alike (as_linked n) n
linked_alike n = record { link = refl; side = refl; first = refl; second = refl }

module _ (k : Bounds) (x : State) (tie : Tied k x) where
  -- nothing changes
  same : (p : ℕ) → Tie k (slice_set x.words p (slice_index x.words p)) (x.given ++ []) x.heap
  same p = tie_words k x.words (slice_set x.words p (slice_index x.words p)) x.given (x.given ++ []) x.heap x.heap (set-get_or x.words p 0)
      (append-nil x.given) refl tie

  given_too : (w : List ℕ) (h i : Heap) → i ≡ h → Tie k w x.given h → Tie k w (x.given ++ []) i
  given_too w h i e t = tie_words k w w x.given (x.given ++ []) h i refl (append-nil x.given) e t

  fresh_given : (a row : ℕ) → IsFresh a x.heap (index_of row x.given) → index_of row x.given < length x.given
  fresh_given a row f = let l = get_lt x.heap.nodes (index_of row x.given) f.node f.there in let even = tie.even in omega (arith, l, even)

module _ {N : Type 0} (k : Bounds) (x : State) (tie : Tied k x) where
  cas : (a : ℕ) (at : Word) (from to : RowLink) (said : Option N) (b : Bool) → IsLinkWord k at
      → IsLawfulFrom x.heap
      (tested x a (place_by x.given at) (link_by x.given from)
      (event_by a (act.Move (place_by x.given at) (link_by x.given from) (link_by x.given to)) said) b ∷ [])
      → Tie k (slice_set x.words (place k at) (cond b (link_word to) (slice_index x.words (place k at)))) (x.given ++ [])
      (heap_from x.heap
      (tested x a (place_by x.given at) (link_by x.given from)
      (event_by a (act.Move (place_by x.given at) (link_by x.given from) (link_by x.given to)) said) b ∷ []))
  cas a at from to said false there fits = same k x tie (place k at)
  cas a (word.Root r) from to said true there fits =
      given_too k x tie _ _ _ (target_heap as_linked (id_by x.given to.to) _)
      (tie_root k x.words x.given x.heap as_linked linked_alike (λ n. refl) r to.to to.mark tie there
      (given_by k x.words x.given x.heap tie a to.to fits.0.1))
  cas a (word.Next row) from to said true there fits =
      let l = shown_lt x.heap (index_of row x.given) (link_by x.given from) fits.0.0 in
      let even = tie.even in
      given_too k x tie _ _ _ (target_heap as_linked (id_by x.given to.to) _)
      (tie_link k x.words x.given x.heap as_linked linked_alike (λ n. refl) 0 row to.to to.mark tie tt there (omega (arith, l, even))
      (given_by k x.words x.given x.heap tie a to.to fits.0.1))
  cas a (word.Side row) from to said true there fits =
      let l = side_lt x.heap (index_of row x.given) (link_by x.given from) fits.0.0 in
      let even = tie.even in
      given_too k x tie _ _ _ (target_heap as_linked (id_by x.given to.to) _)
      (tie_link k x.words x.given x.heap as_linked linked_alike (λ n. refl) 1 row to.to to.mark tie there.1 there.0 (omega (arith, l, even))
      (given_by k x.words x.given x.heap tie a to.to fits.0.1))
  cas a at from to said true there fits = absurd there

  looked : (a : ℕ) (at : Place) (want : Link) (said : Option N) (p : ℕ) (b : Bool)
      → Tie k (slice_set x.words p (slice_index x.words p)) (x.given ++ []) (heap_from x.heap (tested x a at want (event_by a (act.Look at want) said) b ∷ []))
  looked a at want said p true = same k x tie p
  looked a at want said p false = same k x tie p

  load : (a : ℕ) (at : Place) (want : Option RowLink) (n : ℕ) (said : Option N) (p : ℕ)
      → Tie k (slice_set x.words p (slice_index x.words p)) (x.given ++ []) (heap_from x.heap (load_event x a at want n said ∷ []))
  load a at None n said p = same k x tie p
  load a at (Some w) n said p = looked a at (link_by x.given w) said p (n == link_word w)

  take : (a row : ℕ) (said : Option N) (b : Bool) → row < k.rows → (b ≡ true → slice_index x.words (row_place k row) ≡ 0)
      → Tie k (slice_set x.words (row_place k row) (cond b 3 (slice_index x.words (row_place k row)))) (x.given ++ (if b then row ∷ [] else []))
      (heap_from x.heap (if b then event_by {N = N} a act.Give None ∷ [] else []))
  take a row said true lt zero_gate = tie_take k x.words x.given x.heap a row tie lt (zero_gate refl)
  take a row said false lt zero_gate = same k x tie (row_place k row)

  one : (a : ℕ) (op : PlainOp) (said : Option N) → Allowed k op → IsLawfulFrom x.heap (events_of x a op (finds k x op) said)
      → Tie k (slice_set x.words (place k (word_of op)) (written op (finds k x op))) (x.given ++ taken op (finds k x op))
      (heap_from x.heap (events_of x a op (finds k x op) said))
  one a (GateLook row) said can fits = same k x tie (row_place k row)
  one a (GateTake row) said can fits = take a row said (slice_index x.words (row_place k row) == 0) can (is_equal _ 0)
  one a (Fill row which value) said can fits =
      given_too k x tie _ _ _ refl
      (subst (λ p. Tie k (slice_set x.words p value) x.given record {
        nodes = change (with_value which value) (index_of row x.given) x.heap.nodes;
        roots = x.heap.roots;
        links = x.heap.links;
      }) (sym (value_place k row which can.1))
      (tie_fill k x.words x.given x.heap row which value tie can.0 (fresh_given k x tie a row fits.0.0) fits.0.1))
  one a (Read row which) said can fits = same k x tie (place k (value_word row which))
  one a (LinkLoad at want) said can fits = load a (place_by x.given at) want (slice_index x.words (place k at)) said (place k at)
  one a (LinkCas at from to) said can fits = cas a at from to said (slice_index x.words (place k at) == link_word from) can.0 fits
  one a (LinkStore row zero to) said can fits =
      given_too k x tie _ _ _ (target_heap as_named (id_by x.given to) _)
      (tie_link k x.words x.given x.heap as_named named_alike (λ n. refl) 0 row to false tie tt can.0 (fresh_given k x tie a row fits.0.0)
      (given_by k x.words x.given x.heap tie a to fits.0.1))
  one a (LinkStore row (suc number) to) said can fits =
      let below = can.1 in
      given_too k x tie _ _ _ (target_heap as_named (id_by x.given to) _)
      (tie_link k x.words x.given x.heap as_named named_alike (λ n. refl) 1 row to false tie (omega (arith, below)) can.0 (fresh_given k x tie a row fits.0.0)
      (given_by k x.words x.given x.heap tie a to fits.0.1))

module _ {N : Type 0} (k : Bounds) where
  pub tie_next : (x : State) (s : PlainStep N) → Tied k x → Allowed k s.op → IsLawfulFrom x.heap (events_at k x s) → Tied k (next k x s)
  tie_next x s tie can fits = one k x tie s.agent s.op s.note can fits

  pub tie_from : (x : State) (ss : List (PlainStep N)) → Tied k x → AllowedFrom k ss → IsLawfulFrom x.heap (project_from k x ss) → Tied k (run_from k x ss)
  tie_from x [] tie can fits = tie
  tie_from x (s ∷ ss) tie can fits =
      tie_from (next k x s) ss (tie_next x s tie can.0 (lawful-left x.heap (events_at k x s) (project_from k (next k x s) ss) fits)) can.1
      (lawful-right x.heap (events_at k x s) (project_from k (next k x s) ss) fits)

  -- the words of each journal show its heap
  pub tied : (j : List (PlainStep N)) → AllowedFrom k j → IsLawful (numbers k) (project k j) → Tied k (run k j)
  tied j can fits = tie_from (start k) j (tie_start k) can fits

  -- the heap is that of the events
  pub heap_is : (x : State) (ss : List (PlainStep N)) → (run_from k x ss).heap ≡ heap_from x.heap (project_from k x ss)
  heap_is x [] = refl
  heap_is x (s ∷ ss) = heap_is (next k x s) ss ∙ sym (heap-append x.heap (events_at k x s) (project_from k (next k x s) ss))
