use Rattle.std.proofs.Common.{[], Some, add-one, arith, length, rules, ap, subst, sym, ℕ, ◌++◌, ◌+◌, ◌<◌, ◌∙◌, ◌≡◌, ◌∷◌}
use Rattle.orc_shared_words.specs.Lists.{EachAt}
use Rattle.orc_shared_words.specs.Views.{next_number}
use Rattle.orc_shared_words.proofs.Places.{each_at-first, each_at-nil, each_at-push, first_placed, from_start, rest_placed}
use Rattle.orc_shared_words.proofs.shared_words.SharedWords.make.Goals as goal

pub start-requires-clause-own : goal.start-requires-clause-own
start-requires-clause-own g c =
    let r = g.M.Machine.rules in
    let all : c.args.owns.items ≡ c.in-Some.own ∷ c.next.new.self.rest.items = sym c.into_iter-owns.ensures.rest ∙ c.in-Some.ensures.items in
    first_placed (λ i o. g.M.Machine.tied (r.own c.args.shape (r.opening c.args.shape) i) o) c.in-Some.own c.next.new.self.rest.items
    c.args.owns.items all 0 (from_start (λ i o. g.M.Machine.tied (r.own c.args.shape (r.opening c.args.shape) i) o) c.args.owns.items c.requires.owns)

pub loop-own-init : goal.loop-own-init
loop-own-init g c =
    let r = g.M.Machine.rules in
    let own = r.own c.args.shape (r.opening c.args.shape) in
    let table = c.in_ok-shared.shared.table.shared.table_id in
    let all : c.args.owns.items ≡ c.in-Some.own ∷ c.next.new.self.rest.items = sym c.into_iter-owns.ensures.rest ∙ c.in-Some.ensures.items in
    let none : c.in_ok-others.others.items ≡ [] = search rules in
    let count : length c.in_ok-others.others.items ≡ 0 = ap length none in
    let gives = c.into_iter-own-iterator.ensures.into_iter_gives in
    let rest : length c.into_iter-own-iterator.result.rest.items ≡ length c.next.new.self.rest.items = ap (λ i. length i.rest.items) gives in
    let long : length c.args.owns.items ≡ 1 + length c.next.new.self.rest.items = ap length all ∙ omega arith in
    let agents = c.requires.agents.0 in
    let s = c.in_ok-shared.ensures in (
      s.2,
      s.1,
      s.0,
      s.3,
      ap (λ v. v.free) s.4 ∙ ap Some (omega arith),
      ap (λ v. v.born) s.4,
      ap (λ v. v.seen) s.4,
      ap (λ v. v.also) s.4,
      ap (λ v. v.own) s.4,
      omega arith,
      subst (λ i. EachAt (λ n o. g.M.Machine.tied (own (length c.in_ok-others.others.items + 1 + n)) o) i.rest.items) (sym gives)
          (rest_placed (λ n o. g.M.Machine.tied (own n) o) c.in-Some.own c.next.new.self.rest.items c.args.owns.items all 0
          (length c.in_ok-others.others.items + 1) (omega arith) (from_start (λ n o. g.M.Machine.tied (own n) o) c.args.owns.items c.requires.owns)),
      subst (EachAt (λ i p. (p.seat.table_id ≡ table) × (p.agent ≡ i + 1) × (p.seat.me.0.seen ≡ r.opening c.args.shape) × (p.seat.me.0.also ≡ [])
          × (p.seat.me.0.own ≡ own (i + 1)))) (sym none) (each_at-nil _),
    )

pub hand_out-next-requires-clause-own : goal.hand_out-next-requires-clause-own
hand_out-next-requires-clause-own g c =
    let r = g.M.Machine.rules in
    let i = c.loop-own.invariant in
    let n : ℕ = length c.loop-own.others.items + 1 in
    let steps = c.in-Some-own.ensures.steps.0 in
    let left : length c.loop-own.own-iterator.rest.items ≡ 1 + length c.next-in-loop-own.new.self.rest.items = ap length steps ∙ omega arith in
    let agents = i.9 in
    subst (λ z. g.M.Machine.tied z c.in-Some-own.own) (c.requires.opening.born n (omega arith) (omega arith) ∙ sym i.5)
    (first_placed (λ n o. g.M.Machine.tied (r.own c.args.shape (r.opening c.args.shape) n) o) c.in-Some-own.own c.next-in-loop-own.new.self.rest.items
    c.loop-own.own-iterator.rest.items steps n i.10)

pub loop-own-preserved : goal.loop-own-preserved
loop-own-preserved g c =
    let r = g.M.Machine.rules in
    let own = r.own c.args.shape (r.opening c.args.shape) in
    let table = c.in_ok-shared.shared.table.shared.table_id in
    let i = c.loop-own.invariant in
    let h = c.hand_out-next.ensures in
    let n : ℕ = length c.loop-own.others.items + 1 in
    let steps = c.in-Some-own.ensures.steps.0 in
    let left : length c.loop-own.own-iterator.rest.items ≡ 1 + length c.next-in-loop-own.new.self.rest.items = ap length steps ∙ omega arith in
    let pushed : c.push.new.self.items ≡ c.loop-own.others.items ++ c.hand_out-next.result ∷ [] = search rules in
    let count : length c.push.new.self.items ≡ n = search rules in
    let agents = i.9 in
    let mine : g.M.Machine.tied (own n) c.in-Some-own.own =
    first_placed (λ n o. g.M.Machine.tied (own n) o) c.in-Some-own.own c.next-in-loop-own.new.self.rest.items c.loop-own.own-iterator.rest.items
    steps n i.10 in (
      i.0,
      i.1,
      h.table.0 ∙ i.2,
      h.agents.0 ∙ i.3,
      ap (λ v. v.free) h.views.0 ∙ (ap next_number i.4 ∙ ap Some (omega arith)),
      ap (λ v. v.born) h.views.0 ∙ i.5,
      ap (λ v. v.seen) h.views.0 ∙ i.6,
      ap (λ v. v.also) h.views.0 ∙ i.7,
      ap (λ v. v.own) h.views.0 ∙ i.8,
      omega arith,
      rest_placed (λ n o. g.M.Machine.tied (own n) o) c.in-Some-own.own c.next-in-loop-own.new.self.rest.items c.loop-own.own-iterator.rest.items
          steps n (length c.push.new.self.items + 1) (omega arith) i.10,
      subst (EachAt (λ i p. (p.seat.table_id ≡ table) × (p.agent ≡ i + 1) × (p.seat.me.0.seen ≡ r.opening c.args.shape) × (p.seat.me.0.also ≡ [])
          × (p.seat.me.0.own ≡ own (i + 1)))) (sym pushed)
          (each_at-push (λ i p. (p.seat.table_id ≡ table) × (p.agent ≡ i + 1) × (p.seat.me.0.seen ≡ r.opening c.args.shape) × (p.seat.me.0.also ≡ [])
          × (p.seat.me.0.own ≡ own (i + 1))) c.loop-own.others.items c.hand_out-next.result i.11 (
            h.table.1 ∙ i.2,
            h.agents.1 ∙ omega arith,
            ap (λ v. v.seen) h.views.1 ∙ i.6,
            ap (λ v. v.also) h.views.1,
            ap (λ v. v.own) h.views.1 ∙ (i.5 ∙ sym (c.requires.opening.born n (omega arith) (omega arith))),
          )),
    )

pub unreachable-requires : goal.unreachable-requires
unreachable-requires g c =
    let none : length c.args.owns.items ≡ 0 = sym c.args.owns.ok.0 ∙ (sym c.into_iter-owns.ensures.len ∙ c.in_default.ensures.cases.0) in
    let some = c.requires.opening.someone in
    let agents = c.requires.agents.0 in
    omega arith

pub start-requires-clause-words : goal.start-requires-clause-words
start-requires-clause-words g c = c.requires.words

pub start-requires-clause-some : goal.start-requires-clause-some
start-requires-clause-some g c = c.requires.some

pub start-requires-clause-opening : goal.start-requires-clause-opening
start-requires-clause-opening g c = c.requires.opening

pub hand_out-next-requires-clause-table : goal.hand_out-next-requires-clause-table
hand_out-next-requires-clause-table g c = c.loop-own.invariant.2

pub hand_out-next-requires-clause-free : goal.hand_out-next-requires-clause-free
hand_out-next-requires-clause-free g c =
    let i = c.loop-own.invariant in
    let same : c.len-in-loop-own.result ≡ length c.loop-own.others.items = c.len-in-loop-own.ensures ∙ c.loop-own.others.ok.0 in
    let steps = c.in-Some-own.ensures.steps.0 in
    let left : length c.loop-own.own-iterator.rest.items ≡ 1 + length c.next-in-loop-own.new.self.rest.items = ap length steps ∙ omega arith in
    let agents = i.9 in (
      i.4 ∙ ap (λ n. Some (n + 1)) (sym same),
      subst (λ k. c.len-in-loop-own.result + 1 < g.M.Machine.rules.agents k) (sym i.0) (omega arith),
    )

pub overflow_cast-number : goal.overflow_cast-number
overflow_cast-number g c =
    let same : c.len-in-loop-own.result ≡ length c.loop-own.others.items = c.len-in-loop-own.ensures ∙ c.loop-own.others.ok.0 in
    let agents = c.loop-own.invariant.9 in
    let all = c.requires.agents in
    omega arith

pub overflow_add-number : goal.overflow_add-number
overflow_add-number g c =
    let same : c.len-in-loop-own.result ≡ length c.loop-own.others.items = c.len-in-loop-own.ensures ∙ c.loop-own.others.ok.0 in
    let steps = c.in-Some-own.ensures.steps.0 in
    let left : length c.loop-own.own-iterator.rest.items ≡ 1 + length c.next-in-loop-own.new.self.rest.items = ap length steps ∙ omega arith in
    let agents = c.loop-own.invariant.9 in
    let all = c.requires.agents in
    omega arith

pub insert-requires : goal.insert-requires
insert-requires g c = omega arith

pub returns-clause-shape : goal.returns-clause-shape
returns-clause-shape g c = c.loop-own.invariant.0

pub returns-clause-words : goal.returns-clause-words
returns-clause-words g c = c.loop-own.invariant.1

pub returns-clause-passes : goal.returns-clause-passes
returns-clause-passes g c =
    let none : length c.loop-own.own-iterator.rest.items ≡ 0 = sym c.loop-own.own-iterator.rest.ok.0 ∙ c.in-None.ensures.steps.0 in
    let agents = c.loop-own.invariant.9 in
    let long : length c.loop-own.others.items + 1 ≡ g.M.Machine.rules.agents c.args.shape = omega arith in
    ap length c.in_ok-insert.ensures.items ∙ (sym (add-one (length c.loop-own.others.items)) ∙ long)

pub returns-clause-table : goal.returns-clause-table
returns-clause-table g c =
    let table = c.in_ok-shared.shared.table.shared.table_id in
    let i = c.loop-own.invariant in
    subst (EachAt (λ _ p. p.seat.table_id ≡ table)) (sym c.in_ok-insert.ensures.items)
    (each_at-first (λ _ p. p.seat.table_id ≡ table) c.loop-own.first c.loop-own.others.items i.2 (λ n d lt. (i.11 n d lt).0))

pub returns-clause-agents : goal.returns-clause-agents
returns-clause-agents g c =
    let i = c.loop-own.invariant in
    subst (EachAt (λ n p. p.agent ≡ n)) (sym c.in_ok-insert.ensures.items)
    (each_at-first (λ n p. p.agent ≡ n) c.loop-own.first c.loop-own.others.items i.3 (λ n d lt. (i.11 n d lt).1))

pub returns-clause-seen : goal.returns-clause-seen
returns-clause-seen g c =
    let opening = g.M.Machine.rules.opening c.args.shape in
    let i = c.loop-own.invariant in
    subst (EachAt (λ _ p. (p.seat.me.0.seen ≡ opening) × (p.seat.me.0.also ≡ []))) (sym c.in_ok-insert.ensures.items)
    (each_at-first (λ _ p. (p.seat.me.0.seen ≡ opening) × (p.seat.me.0.also ≡ [])) c.loop-own.first c.loop-own.others.items (i.6, i.7)
    (λ n d lt. let o = i.11 n d lt in (o.2, o.3)))

pub returns-clause-owns : goal.returns-clause-owns
returns-clause-owns g c =
    let own = g.M.Machine.rules.own c.args.shape (g.M.Machine.rules.opening c.args.shape) in
    let i = c.loop-own.invariant in
    subst (EachAt (λ n p. p.seat.me.0.own ≡ own n)) (sym c.in_ok-insert.ensures.items)
    (each_at-first (λ n p. p.seat.me.0.own ≡ own n) c.loop-own.first c.loop-own.others.items i.8 (λ n d lt. (i.11 n d lt).4))
