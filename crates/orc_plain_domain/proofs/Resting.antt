-- A pass that takes in all others, and counts the rows that are out.
use Rattle.std.proofs.Common.{All, ◌≡◌, ℕ, zero, suc, ◌+◌, ◌<◌, ◌≤◌, ◌%◌, ◌==◌, List, [], ◌∷◌, ◌++◌, length, length-append, slice_index_or, drop, refl, sym, ap, ◌∙◌, subst, arith, inl, inr, append-nil}
use Rattle.orc_shared_words.proofs.Seats.{among_behind}
use Rattle.std.proofs.lemmas.List.{append_cancel_left, nil_from_length}
use Rattle.std.proofs.lemmas.List.Elements.{All-from_recursion, filter-append}
use Rattle.std.specs.List.{AllByRecursion}
use Rattle.orc_heap.specs.Allowed.{events_by}
use Rattle.orc_heap.specs.Journals.{run_heap}
use Rattle.orc_heap.specs.OwnEvents.{IsBelow}
use Rattle.orc_heap.specs.declared.discipline.Discipline as discipline
use Rattle.orc_heap.specs.declared.events.Event.{Event}
use Rattle.orc_shared_words.specs.Lists.{Among}
use Rattle.orc_shared_words.specs.declared.machine.Machine as machine
use Rattle.orc_plain_board.proofs.Known.{alone, below, below_right, none_at_all}
use Rattle.orc_plain_board.specs.Calls.{Absorbs, AddsOwn, IsGateWord}
use Rattle.orc_plain_board.specs.Views.{Belongs, PlainView, shows}
use Rattle.orc_plain_board.specs.declared.machine.Plain.{Plain}
use Rattle.orc_plain_board.specs.declared.machine.PlainOp.{PlainOp}
use Rattle.orc_plain_board.specs.declared.machine.PlainStep.{PlainStep}
use Rattle.orc_plain_board.specs.declared.pass.PlainBoardPass.{PlainBoardPass as BoardPass}
use Rattle.orc_plain_board.specs.declared.shape.PlainShape.{PlainShape}
use Rattle.orc_plain_domain.specs.Passes.{IsPassOf, domain_bounds, domain_numbers, seat_of}
use Rattle.orc_plain_domain.specs.declared.domain.PlainDomain.{PlainDomain}
use Rattle.orc_plain_domain.specs.declared.domain.PlainPass.{PlainPass}
use Rattle.orc_plain_domain.specs.Ends.{AreAll, HasOwn, first_seen}
use Rattle.orc_heap.specs.Moves.{gives_in}
use Rattle.orc_heap.proofs.Pieces.{goes_on}
use Rattle.orc_heap.proofs.Prefixes.{prefix_same}
use Rattle.orc_plain_domain.specs.Rest.{CoversAll, TakesInEvents}
use Rattle.orc_any_domain.proofs.Counting.{nodes_given}
use Rattle.orc_plain_domain.proofs.Counting.{bit_free, bit_out, out_bit, outs, outs_all, outs_low}
use Rattle.orc_plain_domain.proofs.Growing.{still_adds, still_of, tie}
use Rattle.orc_plain_domain.proofs.Learning.{first_more, grow_seen}

-- a pass that makes steps alone has still taken in all others
pub covers_on : {N : Type 0} (agents : ℕ) (s t : PlainView N) → t.agent ≡ s.agent → t.absorbed ≡ s.absorbed → CoversAll agents s → CoversAll agents t
covers_on agents s t own same all = λ agent low. elim (all agent low) [
  | inl mine ↦ inl (own ∙ mine)
  | inr taken ↦ inr (subst (λ z. Among agent z) (sym same) taken)
]

module _ {N : Type 0} {W : Type 0} (view : W → PlainView N) where
  pub takes_none : (s : PlainView N) (all : List W) → all ≡ [] → TakesInEvents view s s all
  takes_none s all e = subst (TakesInEvents view s s) (sym e) record {
    agent = refl;
    more = prefix_same s.events s.events refl;
    own = refl;
    before =
        λ b h. (h, refl);
    taken = tt;
  }

  pub takes_more : (s t u : PlainView N) (w : W) (ws all : List W) → all ≡ w ∷ ws → Absorbs s (view w) t → TakesInEvents view t u ws
      → TakesInEvents view s u all
  takes_more s t u w ws all e a r =
      let kept : (b : ℕ) → Among b s.absorbed → Among b t.absorbed =
      λ b h. subst (Among b) (sym a.absorbed) (inr (among_behind b (view w).absorbed s.absorbed h)) in
      let mine : Among (view w).agent t.absorbed = subst (Among (view w).agent) (sym a.absorbed) (inl refl) in
      let last = r.before (view w).agent mine in
      subst (TakesInEvents view s u) (sym e) record {
        agent = r.agent ∙ a.agent;
        more = goes_on s.events t.events u.events (first_more s (view w) t a.longer) r.more;
        own = subst (λ z. events_by z u.events ≡ events_by z t.events) a.agent r.own ∙ a.own;
        before = λ b h. let k = r.before b (kept b h) in (k.0, k.1 ∙ a.retired b h);
        taken = ((last.0, last.1 ∙ a.taken (view w).agent (inl refl)), r.taken);
      }

module _ {D N : Type 0} {d : discipline.Ghosts D N} {m : machine.Ghosts Plain N (PlainShape N) PlainOp (PlainStep N) (Unit {0}) (Unit {0})}
    (domain : PlainDomain D N)
  where
    abbrev view : PlainPass D N (PlainShape N) PlainOp (PlainStep N) (Unit {0}) (Unit {0}) d m → PlainView N
    view p = shows domain.board p.pass

    pub still_absorbed : (p : PlainPass D N (PlainShape N) PlainOp (PlainStep N) (Unit {0}) (Unit {0}) d m) (h : IsPassOf domain p)
        (q : BoardPass D N (PlainShape N) PlainOp (PlainStep N) (Unit {0}) (Unit {0}) d m) (x : Belongs domain.board q) (w : PlainView N)
        → Absorbs (view p) w (shows domain.board q)
        → IsPassOf domain (record { pass = q; slots = p.slots; next = p.next; shape = p.shape })
    still_absorbed p h q x w a =
        still_of domain p h q x
        (grow_seen (domain_bounds domain) (d.may (domain_numbers domain)) (view p) (shows domain.board q) a.agent
        (first_more (view p) w (shows domain.board q) a.longer) a.rows x.keeps.now.each)

    -- what is still to be taken in
    pub record Taking (p q : PlainPass D N (PlainShape N) PlainOp (PlainStep N) (Unit {0}) (Unit {0}) d m)
        (all rest : List (PlainPass D N (PlainShape N) PlainOp (PlainStep N) (Unit {0}) (Unit {0}) d m)) : Type 0 where
      pub pass : IsPassOf domain q
      pub others : AllByRecursion (λ w. IsPassOf domain w) rest
      pub to_go : (u : PlainView N) → TakesInEvents view (view q) u rest → TakesInEvents view (view p) u all

    pub taking_next : (p q : PlainPass D N (PlainShape N) PlainOp (PlainStep N) (Unit {0}) (Unit {0}) d m)
        (all rest : List (PlainPass D N (PlainShape N) PlainOp (PlainStep N) (Unit {0}) (Unit {0}) d m)) → Taking p q all rest
        → (w : PlainPass D N (PlainShape N) PlainOp (PlainStep N) (Unit {0}) (Unit {0}) d m) → rest ≡ w ∷ drop 1 rest
        → (left : List (PlainPass D N (PlainShape N) PlainOp (PlainStep N) (Unit {0}) (Unit {0}) d m)) → left ≡ drop 1 rest
        → (r : BoardPass D N (PlainShape N) PlainOp (PlainStep N) (Unit {0}) (Unit {0}) d m) → Belongs domain.board r
        → Absorbs (view q) (view w) (shows domain.board r)
        → Taking p (record { pass = r; slots = q.slots; next = q.next; shape = q.shape }) all left
    taking_next p q all rest t w is left e r x a = subst (Taking p (record { pass = r; slots = q.slots; next = q.next; shape = q.shape }) all) (sym e) record {
      pass = still_absorbed q t.pass r x (view w) a;
      others = (subst (AllByRecursion (λ w. IsPassOf domain w)) is t.others).1;
      to_go = λ u k. t.to_go u (takes_more view (view q) (shows domain.board r) u w (drop 1 rest) rest is a k);
    }

    pub next_belongs : (p q : PlainPass D N (PlainShape N) PlainOp (PlainStep N) (Unit {0}) (Unit {0}) d m)
        (all rest : List (PlainPass D N (PlainShape N) PlainOp (PlainStep N) (Unit {0}) (Unit {0}) d m)) → Taking p q all rest
        → (w : PlainPass D N (PlainShape N) PlainOp (PlainStep N) (Unit {0}) (Unit {0}) d m) → rest ≡ w ∷ drop 1 rest → IsPassOf domain w
    next_belongs p q all rest t w is = (subst (AllByRecursion (λ w. IsPassOf domain w)) is t.others).0

    pub taking_done : (p q : PlainPass D N (PlainShape N) PlainOp (PlainStep N) (Unit {0}) (Unit {0}) d m)
        (all rest : List (PlainPass D N (PlainShape N) PlainOp (PlainStep N) (Unit {0}) (Unit {0}) d m)) → Taking p q all rest → rest ≡ []
        → TakesInEvents view (view p) (view q) all
    taking_done p q all rest t is = t.to_go (view q) (takes_none view (view q) rest is)

    pub some_passes : (ps : List (PlainPass D N (PlainShape N) PlainOp (PlainStep N) (Unit {0}) (Unit {0}) d m)) → AreAll domain ps → 0 < length ps
    some_passes ps all = let many = all.many in let some = domain.board.words.shape.shape.some_agents in omega (arith, many, some)

    pub taken_of : (p q : PlainPass D N (PlainShape N) PlainOp (PlainStep N) (Unit {0}) (Unit {0}) d m)
        (ws left : List (PlainPass D N (PlainShape N) PlainOp (PlainStep N) (Unit {0}) (Unit {0}) d m)) → left ≡ ws
        → TakesInEvents view (view p) (view q) left → TakesInEvents view (view p) (view q) ws
    taken_of p q ws left e t = subst (TakesInEvents view (view p) (view q)) e t

    module _ (ps : List (PlainPass D N (PlainShape N) PlainOp (PlainStep N) (Unit {0}) (Unit {0}) d m))
        (w : PlainPass D N (PlainShape N) PlainOp (PlainStep N) (Unit {0}) (Unit {0}) d m)
        (ws : List (PlainPass D N (PlainShape N) PlainOp (PlainStep N) (Unit {0}) (Unit {0}) d m)) (is : ps ≡ w ∷ ws) (all : AreAll domain ps)
        (q : PlainPass D N (PlainShape N) PlainOp (PlainStep N) (Unit {0}) (Unit {0}) d m) (x : IsPassOf domain q) (t : TakesInEvents view (view w) (view q) ws)
      where
        same_all : AreAll domain (w ∷ ws)
        same_all = subst (AreAll domain) is all

        first_number : (view w).agent ≡ 0
        first_number = same_all.order 0 w (omega arith)

        -- what the last pass has of each agent
        taken_at : (i : ℕ) → i < length ws → Among (suc i) (view q).absorbed
            × (events_by (suc i) (view q).events ≡ events_by (suc i) (view (slice_index_or ws i w)).events)
        taken_at i l =
            let a = All-from_recursion
            (λ p. Among (view p).agent (view q).absorbed × (events_by (view p).agent (view q).events ≡ events_by (view p).agent (view p).events))
            ws t.taken i w l in
            subst (λ z. Among z (view q).absorbed × (events_by z (view q).events ≡ events_by z (view (slice_index_or ws i w)).events))
            (same_all.order (suc i) w (omega (arith, l))) a

        pub covers : CoversAll (domain_bounds domain).agents (view q)
        covers zero l = inl (t.agent ∙ first_number)
        covers (suc i) l = let many = same_all.many in inr (taken_at i (omega (arith, l, many))).0

        module _ (own : All (λ p. HasOwn (first_seen domain ps) (seat_of domain p)) ps) where
          own_at : (i : ℕ) → i < length ws → events_by (suc i) (view w).events ≡ events_by (suc i) (view (slice_index_or ws i w)).events
          own_at i l = subst (λ z. events_by z (view w).events ≡ events_by z (view (slice_index_or ws i w)).events)
              (same_all.order (suc i) w (omega (arith, l)))
              (subst (λ z. All (λ p. HasOwn (first_seen domain z) (seat_of domain p)) z) is own (suc i) w (omega (arith, l)))

          none_new : (agent : ℕ) → agent < (domain_bounds domain).agents → events_by agent (view q).events ≡ events_by agent (view w).events
          none_new zero l = subst (λ z. events_by z (view q).events ≡ events_by z (view w).events) first_number t.own
          none_new (suc i) l = let many = same_all.many in let k : i < length ws = omega (arith, l, many) in (taken_at i k).1 ∙ sym (own_at i k)

          -- the first had seen all
          pub nothing_new : (view q).events ≡ first_seen domain ps
          nothing_new =
              let n = (domain_bounds domain).agents in
              let low = below d domain.board.words.shape q.pass.pass.seat.me.0 q.pass.pass.agent q.pass.fresh q.pass.looked x.board.keeps in
              let none : t.more.0 ≡ [] = none_at_all n t.more.0 (below_right n (view w).events t.more.0 (subst (λ es. IsBelow n es) (sym t.more.1) low))
              (λ agent l. append_cancel_left (events_by agent (view w).events) (events_by agent t.more.0) []
              (sym (filter-append (λ (e : Event N). e.agent == agent) (view w).events t.more.0)
              ∙ (ap (events_by agent) t.more.1 ∙ (none_new agent l ∙ sym (append-nil (events_by agent (view w).events)))))) in
              sym t.more.1 ∙ (ap (λ z. (view w).events ++ z) none ∙ (append-nil (view w).events ∙ ap (first_seen domain) (sym is)))

    -- the rows that were looked at are counted
    pub record Counted (p q : PlainPass D N (PlainShape N) PlainOp (PlainStep N) (Unit {0}) (Unit {0}) d m) (rows row given : ℕ) : Type 0 where
      pub pass : IsPassOf domain q
      pub agent : (view q).agent ≡ (view p).agent
      pub absorbed : (view q).absorbed ≡ (view p).absorbed
      pub events : (view q).events ≡ (view p).events
      pub rows_same : (view q).rows ≡ (view p).rows
      pub inside : rows ≡ (domain_bounds domain).rows
      pub count : given ≡ outs (view p).rows row

    module _ (p q : PlainPass D N (PlainShape N) PlainOp (PlainStep N) (Unit {0}) (Unit {0}) d m) (rows row given : ℕ) (c : Counted p q rows row given) where
      pub count_low : given ≤ row
      count_low = subst (λ n. n ≤ row) (sym c.count) (outs_low (view p).rows row)

      pub counted_one : (agents : CoversAll (domain_bounds domain).agents (view p))
          (r : BoardPass D N (PlainShape N) PlainOp (PlainStep N) (Unit {0}) (Unit {0}) d m) (x : Belongs domain.board r)
          → AddsOwn (d.may (domain_numbers domain)) [] (view q) (shows domain.board r)
          → (gate : ℕ) → IsGateWord (shows domain.board r).rows row gate
          → Counted p (record { pass = r; slots = q.slots; next = q.next; shape = q.shape }) rows (row + 1) (given + gate % 2)
      counted_one agents r x a gate is = record {
        pass = still;
        agent = a.agent ∙ c.agent;
        absorbed = a.absorbed ∙ c.absorbed;
        events = events ∙ c.events;
        rows_same = same_rows ∙ c.rows_same;
        inside = c.inside;
        count = let k = c.count in let b = bit in subst (λ n. given + gate % 2 ≡ outs (view p).rows n) (one_more row) (omega (arith, k, b));
      }
        where
          one_more : (n : ℕ) → suc n ≡ n + 1
          one_more n = omega arith

          still : IsPassOf domain (record { pass = r; slots = q.slots; next = q.next; shape = q.shape })
          still = still_adds domain q c.pass r x [] a

          events : (shows domain.board r).events ≡ (view q).events
          events = alone (domain_bounds domain).agents (d.may (domain_numbers domain)) [] (view q) (shows domain.board r) a
              (below d domain.board.words.shape r.pass.seat.me.0 r.pass.agent r.fresh r.looked x.keeps)
              (λ agent l. elim (agents agent l) [ inl same ↦ inl (c.agent ∙ same) | inr there ↦ inr (subst (Among agent) (sym c.absorbed) there) ])
              ∙ append-nil (view q).events

          same_rows : (shows domain.board r).rows ≡ (view q).rows
          same_rows =
              let one = (tie domain q c.pass).even in
              let two = (tie domain (record { pass = r; slots = q.slots; next = q.next; shape = q.shape }) still).even in
              let nodes = ap (λ (es : List (Event N)). length (run_heap (domain_numbers domain) es).nodes) events in
              let long = ap (λ (z : List ℕ). length z) (sym a.rows.1) in
              let joined = length-append (view q).rows a.rows.0 in
              let none : a.rows.0 ≡ [] = nil_from_length a.rows.0 (omega (arith, one, two, nodes, long, joined)) in
              sym a.rows.1 ∙ (ap (λ z. (view q).rows ++ z) none ∙ append-nil (view q).rows)

          bit : gate % 2 ≡ out_bit row (view p).rows
          bit = subst (λ z. gate % 2 ≡ out_bit row z) (same_rows ∙ c.rows_same) (by_gate is)
            where
              by_gate : IsGateWord (shows domain.board r).rows row gate → gate % 2 ≡ out_bit row (shows domain.board r).rows
              by_gate (inl g) = ap (λ z. z % 2) g.0 ∙ sym (bit_out row (shows domain.board r).rows g.1)
              by_gate (inr g) = ap (λ z. z % 2) g.0 ∙ sym (bit_free row (shows domain.board r).rows g.1)

      pub counted_all : IsPassOf domain p → row ≡ rows → given ≡ gives_in (view p).events
      counted_all h e =
          let k = tie domain p h in
          c.count
          ∙ (ap (outs (view p).rows) (e ∙ c.inside)
          ∙ (outs_all (view p).rows (domain_bounds domain).rows k.once k.inside
          ∙ (k.even ∙ nodes_given (domain_numbers domain) (view p).events)))
