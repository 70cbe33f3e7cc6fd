-- A row that is taken out, and its node; then that is filled, and held.
use Rattle.std.proofs.Common.{Bool, List, None, Option, Some, [], ap, append_assoc, arith, eq-eqb, false, inl, inr, length, length-append, refl, slice_get, slice_set, subst, sym, true, ℕ, ◌%◌, ◌++◌, ◌<◌, ◌==◌, ◌∙◌, ◌∷◌, ◌≡◌, ◌≤◌, ◌⊎◌}
use Rattle.std.proofs.lemmas.Bool.{eqb-false, eqb-true}
use Rattle.std.specs.Prelude.{MatchBool, if◌then◌else◌}
use Rattle.orc_heap.proofs.Changes.{get-added}
use Rattle.orc_heap.proofs.Calls.{Puts-trans}
use Rattle.orc_heap.proofs.Runs.{run_heap-snoc}
use Rattle.orc_heap.specs.Allowed.{events_by}
use Rattle.orc_heap.specs.Heap.{Heap, Node, new_node}
use Rattle.orc_heap.specs.Journals.{event_by, points_to, run_heap}
use Rattle.orc_heap.specs.OwnEvents.{Puts}
use Rattle.orc_heap.specs.declared.discipline.Discipline as discipline
use Rattle.orc_heap.specs.declared.events.Act.TheVariants.{Fill, Give}
use Rattle.orc_heap.specs.declared.events.Event.{Event}
use Rattle.orc_shared_words.specs.declared.machine.Machine as machine
use Rattle.orc_any_domain.proofs.Rows.{index_at, some_one}
use Rattle.orc_plain_board.proofs.Lists.{get_last}
use Rattle.orc_plain_board.specs.Calls.{AddsOwn, GivesNewRow as BoardGives, KnowsRow, Loses as BoardLoses}
use Rattle.orc_any_domain.specs.Rows.{IsListed, index_of}
use Rattle.orc_plain_board.specs.Machine.{id_by, numbers}
use Rattle.orc_plain_board.specs.Views.{Belongs, PlainView, heap_of, shows}
use Rattle.orc_plain_board.specs.declared.machine.Plain.{Plain}
use Rattle.orc_plain_board.specs.declared.machine.PlainOp.{PlainOp}
use Rattle.orc_plain_board.specs.declared.machine.PlainStep.{PlainStep}
use Rattle.orc_plain_board.specs.declared.pass.PlainBoardPass.{PlainBoardPass as BoardPass}
use Rattle.orc_plain_board.specs.declared.shape.PlainShape.{PlainShape}
use Rattle.orc_plain_domain.specs.Passes.{IsPassOf, domain_numbers, seat_of}
use Rattle.orc_plain_domain.specs.declared.domain.PlainDomain.{PlainDomain}
use Rattle.orc_plain_domain.specs.declared.domain.PlainPass.{PlainPass}
use Rattle.orc_plain_domain.specs.Calls.{Furnishes, Loses, GivesFreshRow}
use Rattle.orc_plain_domain.specs.Rows.{seat_by}
use Rattle.orc_any_domain.proofs.Counting.{nodes_stay}
use Rattle.orc_plain_domain.proofs.Growing.{Grows, adds_grow, adds_put, fresh_given, fresh_stays, grow_trans, held_given, index_stays, keeps_stay, mine, slots_stay, still_of, tie, two_views}
use Rattle.std.proofs.lemmas.List.Elements.{filter-append}
use Rattle.std.specs.List.{list_any}
use Rattle.orc_heap.proofs.Fresh.{IsOwnNode, own_node_told, touched_by}
use Rattle.orc_heap.proofs.Stays.{allowed-join}
use Rattle.orc_heap.specs.Acts.{IsKnown, with_value}
use Rattle.orc_heap.specs.Calls.{given_node}
use Rattle.orc_plain_board.proofs.Known.{fresh_row}
use Rattle.orc_plain_domain.proofs.Releasing.{keeps_set}
use Rattle.orc_plain_domain.proofs.Rows.{slots_set}

filled : (N : Type 0) (agent id which value : ℕ) (x : Node)
    → touched_by {N = N} id (event_by agent (Fill id which value) None ∷ []) x ≡ with_value which value x
filled N agent id which value x = ap (λ b. if b then with_value which value x else x) (eq-eqb id id refl)

module _ {D N : Type 0} {d : discipline.Ghosts D N} {m : machine.Ghosts Plain N (PlainShape N) PlainOp (PlainStep N) (Unit {0}) (Unit {0})}
    (domain : PlainDomain D N) (p : PlainPass D N (PlainShape N) PlainOp (PlainStep N) (Unit {0}) (Unit {0}) d m) (h : IsPassOf domain p)
    (q r : BoardPass D N (PlainShape N) PlainOp (PlainStep N) (Unit {0}) (Unit {0}) d m) (z : Belongs domain.board r) (row : ℕ)
  where
    open (two_views domain p.pass q) use {b, may, s, t}

    abbrev u : PlainView N
    u = shows domain.board r

    -- a look at the gate, and then a take
    module _ (first : AddsOwn may [] s t) (fresh : t.fresh ≡ s.fresh) where
      met : Grows b s t
      met = adds_grow b may [] s t first

      put_none : Puts (seat_by s p.slots) [] (seat_by t p.slots)
      put_none = adds_put may [] s t p.slots p.slots first refl

      module _ (own : List (Event N)) (last : AddsOwn may own t u) where
        both : Grows b s u
        both = grow_trans b s t u met (adds_grow b may own t u last)

        pub still_both : IsPassOf domain (record { pass = r; slots = p.slots; next = p.next; shape = p.shape })
        still_both = still_of domain p h r z both

        put_both : events_by t.agent own ≡ own → Puts (seat_by s p.slots) own (seat_by u p.slots)
        put_both is = Puts-trans (seat_by s p.slots) (seat_by t p.slots) (seat_by u p.slots) [] own put_none (adds_put may own t u p.slots p.slots last is)

      module _ (g : BoardGives may row t u) where
        abbrev give : List (Event N)
        give = event_by t.agent Give None ∷ []

        -- the node is the last
        index_last : index_of row u.rows ≡ length g.before
        index_last =
            let tie_u = tie domain (record { pass = r; slots = p.slots; next = p.next; shape = p.shape }) (still_both give g.adds) in
            index_at row u.rows (length g.before) tie_u.once (subst (λ z. slice_get z (length g.before) ≡ Some row) (sym g.rows) (get_last g.before row))

        abbrev past : List (Event N)
        past = t.events ++ g.adds.met

        heap_is : heap_of b u ≡ (let h : Heap = run_heap (numbers b) past in record h { nodes = h.nodes ++ new_node t.agent ∷ [] })
        heap_is = ap (run_heap (numbers b)) g.adds.events ∙ run_heap-snoc (numbers b) past (event_by t.agent Give None)

        past_long : length (run_heap (numbers b) past).nodes ≡ length g.before
        past_long =
            let tie_u = tie domain (record { pass = r; slots = p.slots; next = p.next; shape = p.shape }) (still_both give g.adds) in
            let even = tie_u.even ∙ ap (λ (z : Heap). length z.nodes) heap_is in
            let rows = ap (λ (z : List ℕ). length z) g.rows in
            let long_rows = length-append g.before (row ∷ []) in
            let long_nodes = length-append (run_heap (numbers b) past).nodes (new_node t.agent ∷ []) in
            omega (arith, even, rows, long_rows, long_nodes)

        new_node_id : length (heap_of b s).nodes ≤ index_of row u.rows
        new_node_id =
            let seen : t.events ≡ s.events ++ met.events.0 = sym met.events.1 in
            let one = nodes_stay (numbers b) s.events met.events.0 in
            let two = nodes_stay (numbers b) t.events g.adds.met in
            let same : length (run_heap (numbers b) t.events).nodes ≡ length (run_heap (numbers b) (s.events ++ met.events.0)).nodes =
            ap (λ (es : List (Event N)). length (run_heap (numbers b) es).nodes) seen in
            omega (arith, one, two, same, past_long, index_last)

        takes : GivesFreshRow b row p.slots s u
        takes = record {
          fresh = g.fresh;
          rows = (both give g.adds).rows;
          new = new_node_id;
          puts = subst (λ (a : ℕ). Puts (seat_by s p.slots) (event_by a Give None ∷ []) (seat_by u p.slots)) first.agent
              (put_both give g.adds (mine t.agent Give None));
          node = subst (λ (z : Heap × ℕ × ℕ). slice_get z.0.nodes z.1 ≡ Some (new_node z.2))
              (λ i. (sym heap_is i, (past_long ∙ sym index_last) i, first.agent i)) (get-added (run_heap (numbers b) past).nodes (new_node t.agent));
        }

      loses : BoardLoses may row t u → Loses row p.slots s u
      loses l = record { fresh = l.fresh ∙ fresh; rows = (both [] l.adds).rows; puts = put_both [] l.adds refl; out = l.out }

      -- a gate that was odd is that of a row that is out
      pub odd_out : (gate : ℕ) → ((gate ≡ 3) × IsListed t.rows row) ⊎ ((gate ≡ 0) × ¬ IsListed t.rows row) → gate % 2 ≡ 1 → Loses row p.slots s t
      odd_out gate (inl is) odd = record { fresh = fresh; rows = met.rows; puts = put_none; out = is.1 }
      odd_out gate (inr is) odd = let z = is.0 in absurd (omega (arith, z, odd))

      module _ (answer : ℕ) (low : answer ≤ 1) (won : answer ≡ 1 → BoardGives may row t u) (lost : answer ≡ 0 → BoardLoses may row t u) where
        not_won : (answer == 1) ≡ false → answer ≡ 0
        not_won e = let ne = eqb-false answer 1 e in omega (arith, low, ne)

        pub took : MatchBool (answer == 1) (GivesFreshRow b row p.slots s u) (Loses row p.slots s u)
        took = went (answer == 1) refl
          where
            went : (done : Bool) → (answer == 1) ≡ done → MatchBool done (GivesFreshRow b row p.slots s u) (Loses row p.slots s u)
            went true e = takes (won (eqb-true answer 1 e))
            went false e = loses (lost (not_won e))

        pub still_took : IsPassOf domain (record { pass = r; slots = p.slots; next = p.next; shape = p.shape })
        still_took = went (answer == 1) refl
          where
            went : (done : Bool) → (answer == 1) ≡ done → IsPassOf domain (record { pass = r; slots = p.slots; next = p.next; shape = p.shape })
            went true e = let g = won (eqb-true answer 1 e) in still_both (event_by t.agent Give None ∷ []) g.adds
            went false e = let l = lost (not_won e) in still_both [] l.adds

    -- both values are filled, and the fresh row is held
    module _ (y : Belongs domain.board q) (first second : ℕ) (fresh : s.fresh ≡ Some row)
        (a : AddsOwn may (event_by s.agent (Fill (index_of row s.rows) 0 first) None ∷ []) s t)
        (c : AddsOwn may (event_by t.agent (Fill (index_of row t.rows) 1 second) None ∷ []) t u) where
      abbrev id : ℕ
      id = index_of row s.rows

      abbrev one : List (Event N)
      one = event_by s.agent (Fill id 0 first) None ∷ []

      abbrev two : List (Event N)
      two = event_by s.agent (Fill id 1 second) None ∷ []

      grows : Grows b s t
      grows = adds_grow b may one s t a

      given : id < length s.rows
      given = (fresh_row d domain.board.words.shape p.pass.pass.seat.me.0 p.pass.pass.agent p.pass.fresh p.pass.looked h.board.keeps row fresh).given

      -- the second Fill, by the first view
      c2 : AddsOwn may two t u
      c2 = subst (λ (x : ℕ × ℕ). AddsOwn may (event_by x.0 (Fill x.1 1 second) None ∷ []) t u) (λ i. (a.agent i, index_stays b s t row grows given i)) c

      filled_both : Grows b s u
      filled_both = grow_trans b s t u grows (adds_grow b may two t u c2)

      puts : (slots : List (Option ℕ))
          → Puts (seat_of domain p) (event_by s.agent (Fill id 0 first) None ∷ event_by s.agent (Fill id 1 second) None ∷ []) (seat_by u slots)
      puts slots =
          Puts-trans (seat_of domain p) (seat_by t p.slots) (seat_by u slots) one two
          (adds_put may one s t p.slots p.slots a (mine s.agent (Fill id 0 first) None))
          (adds_put may two t u p.slots slots c2 (subst (λ x. events_by x two ≡ two) (sym a.agent) (mine s.agent (Fill id 1 second) None)))

      own_adds : (v w : PlainView N) (own : List (Event N)) (x : Node) → AddsOwn may own v w → d.holds (numbers b) v.events → events_by v.agent own ≡ own
          → list_any (λ e. points_to e.act id) own ≡ false
          → IsOwnNode (numbers b) v.agent id v.events x → IsOwnNode (numbers b) v.agent id w.events (touched_by id own x)
      own_adds v w own x e kept is away o =
          let is_own : events_by v.agent (e.met ++ own) ≡ own = filter-append (λ (z : Event N). z.agent == v.agent) e.met own
          ∙ (ap (λ z. z ++ events_by v.agent own) e.later.others ∙ is) in
          let told = own_node_told (numbers b) (d.holds (numbers b)) may (λ es e h k. d.keeps (numbers b) es e h k)
          (λ es e h k. d.fits (numbers b) es e h k) (λ es e h k. d.moves_linked (numbers b) es e h k)
          v.agent id v.events (e.met ++ own) x kept (allowed-join may v.events e.met own e.later.allowed e.allowed) o
          (ap (λ es. list_any (λ e. points_to e.act id) es) is_own ∙ away) in
          subst (λ (z : List (Event N) × List (Event N)). IsOwnNode (numbers b) v.agent id z.0 (touched_by id z.1 x))
          (λ i. ((sym (append_assoc v.events e.met own) ∙ sym e.events) i, is_own i)) told

      node : slice_get (heap_of b s).nodes id ≡ Some (new_node s.agent) → slice_get (heap_of b u).nodes id ≡ Some (given_node s.agent first second)
      node there =
          let n0 : IsOwnNode (numbers b) s.agent id s.events (new_node s.agent) =
          record { there = there; own = record { mine = refl; unnamed = refl; unlinked = refl } } in
          let n1 = own_adds s t one (new_node s.agent) a h.board.keeps.now.kept (mine s.agent (Fill id 0 first) None) refl n0 in
          let n1t : IsOwnNode (numbers b) t.agent id t.events (touched_by id one (new_node s.agent)) =
          subst (λ x. IsOwnNode (numbers b) x id t.events (touched_by id one (new_node s.agent))) (sym a.agent) n1 in
          let n2 = own_adds t u two (touched_by id one (new_node s.agent)) c2 y.keeps.now.kept
          (subst (λ x. events_by x two ≡ two) (sym a.agent) (mine s.agent (Fill id 1 second) None)) refl n1t in
          subst (λ x. slice_get (heap_of b u).nodes id ≡ Some x) (filled N s.agent id 1 second (touched_by id one (new_node s.agent))
          ∙ ap (with_value 1 second) (filled N s.agent id 0 first (new_node s.agent))) n2.there

      pub furnished : (slot : ℕ) → t.fresh ≡ s.fresh → u.fresh ≡ t.fresh → slice_get (heap_of b s).nodes id ≡ Some (new_node s.agent)
          → Furnishes (domain_numbers domain) row id slot first second (seat_of domain p) (seat_by u (slice_set p.slots slot (Some row)))
      furnished slot f g there = record {
        fresh = ap (id_by u.rows) (g ∙ f) ∙ fresh_stays b s u s.fresh filled_both (fresh_given domain p h);
        slots = slots_set u.rows p.slots slot (Some row)
            ∙ (λ i. slice_set (slots_stay b s u p.slots filled_both (held_given domain p h) i) slot
            (Some (record { row = row; id = index_stays b s u row filled_both given i })));
        puts = puts (slice_set p.slots slot (Some row));
        node = node there;
      }

      known : KnowsRow b u row
      known =
          let f = (fresh_row d domain.board.words.shape p.pass.pass.seat.me.0 p.pass.pass.agent p.pass.fresh p.pass.looked h.board.keeps row fresh).untouched in
          let k : IsKnown s.agent (heap_of b u) id = filled_both.known id (record { node = f.node; there = f.there; known = inl f.mine }) in
          subst (λ (x : ℕ × ℕ). IsKnown x.0 (heap_of b u) x.1) (λ i. (sym filled_both.agent i, sym (index_stays b s u row filled_both given) i)) k

      pub still_furnished : (slot next : ℕ) → next < b.rows
          → IsPassOf domain (record { pass = r; slots = slice_set p.slots slot (Some row); next = next; shape = p.shape })
      still_furnished slot next inside = record {
        board = z;
        shape = h.shape;
        keeps = keeps_set b u p.slots p.next next slot (Some row) (λ x e. subst (λ v. KnowsRow b u v) (some_one row x e) known) inside
            (keeps_stay b s u p.slots p.next filled_both (held_given domain p h) h.keeps);
      }
