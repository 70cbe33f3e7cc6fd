use Rattle.std.proofs.Common.{arith, rules, ◌≡◌, ◌+◌, ◌∙◌, ◌++◌, ◌≤◌, List, ℕ, ap, sym, append_assoc, length, take, length-append}
use Rattle.std.proofs.lemmas.Grind.{common_steps}
use Rattle.std.proofs.lemmas.List.{length-take-le, take-take, take_at}
use Rattle.orc_feed.specs.Faults.{one_more}
use Rattle.orc_feed.specs.InMemory.{InSink, next_plan}
use Rattle.orc_feed.proofs.memory_sink.MemorySinkSink.write.Goals as goal
use Rattle.orc_feed.proofs.memory_sink.MemorySinkSink.write.Goals.{else-count-eq0-via-then-count-eq0+else-not-is_empty, else-count-eq0-via-else-count-eq0}

-- n bytes put into a buffer behind those before a place
put : (at n len : ℕ) (items now copied post rest front wanted : List ℕ) → now ≡ items → take at items ≡ front → at ≤ length items → copied ≡ wanted
    → length wanted ≡ n → at + n ≤ len → take (at + n) (take len ((take at now ++ (copied ++ post)) ++ rest)) ≡ front ++ wanted
put at n len items now copied post rest front wanted same is low moved long fits =
    let size : length front ≡ at = ap length (sym is) ∙ length-take-le at items low in
    let both : length (front ++ wanted) ≡ at + n = omega (arith, length-append front wanted, size, long) in
    rw (take-take (at + n) len ((take at now ++ (copied ++ post)) ++ rest) fits, same, is, moved, ← append_assoc front wanted post, append_assoc (front ++ wanted) post rest)
    (take_at (front ++ wanted) (post ++ rest) (at + n) both)

pub returns-then-call_fails : goal.returns-then-call_fails
returns-then-call_fails c =
    let plan : c.self.inside.plan ≡ c.args.self.now.plan = ap (λ (s : InSink). s.plan) c.self.view_is in
    let faults : c.self.inside.faults ≡ c.args.self.now.faults = ap (λ (s : InSink). s.faults) c.self.view_is in
    record {
      bound = tt;
      bytes = ap (λ (s : InSink). s.written) c.self.view_is;
      counted = record {
        later = search rules;
        moved = tt;
        none = λ _. tt;
        stuck = tt;
        failed = c.saturating_add-self-inside.ensures ∙ ap one_more faults;
      };
      limit = c.saturating_add-self-inside.type_inv;
      failing = rw plan at c.if-call_fails.ensures.fails;
      count = tt;
      plan = c.call_fails.ensures.next ∙ ap next_plan plan;
      room = ap (λ (s : InSink). s.room) c.self.view_is;
    }

pub returns-then-not-is_empty : goal.returns-then-not-is_empty
returns-then-not-is_empty c =
    let plan : c.self.inside.plan ≡ c.args.self.now.plan = ap (λ (s : InSink). s.plan) c.self.view_is in
    let faults : c.self.inside.faults ≡ c.args.self.now.faults = ap (λ (s : InSink). s.faults) c.self.view_is in
    let written : take c.self.inside.at c.self.inside.bytes.items ≡ c.args.self.now.written = ap (λ (s : InSink). s.written) c.self.view_is in
    let room : length c.self.inside.bytes.items ≡ c.args.self.now.room = ap (λ (s : InSink). s.room) c.self.view_is in
    let bound : c.count-count.result ≤ length c.args.from.now = omega (arith, c.count-count.ensures.count) in
    let fits : c.self.inside.at + c.count-count.result ≤ c.self.inside.bytes.len =
    omega (arith, c.count-count.ensures.count, c.len.ensures, c.self.invariant, c.self.inside.bytes.ok.0) in
    let copied : c.copy_from_slice.new.self ≡ take c.count-count.result c.args.from.now = search rules in
    let rose = c.saturating_add-self-inside-then-not-is_empty.ensures ∙ ap one_more faults in
    record {
      bound = bound;
      bytes = put c.self.inside.at c.count-count.result c.self.inside.bytes.len c.self.inside.bytes.items c.deref_mut.result.now c.copy_from_slice.new.self _ _ _
          (take c.count-count.result c.args.from.now) c.deref_mut.ensures.value written c.self.invariant copied
          (length-take-le c.count-count.result c.args.from.now bound) fits;
      counted = record {
        later = search rules;
        moved = λ some. absurd (omega (arith, some, c.if-count-eq0.true));
        none = search rules;
        stuck = λ _ _. rose;
        failed = tt;
      };
      limit = c.saturating_add-self-inside-then-not-is_empty.type_inv;
      failing = rw plan at c.if-call_fails.ensures.fails;
      count = search rules;
      plan = c.call_fails.ensures.next ∙ ap next_plan plan;
      room = grind (arith, common_steps);
    }

pub returns-else-count-eq0 : goal.returns-else-count-eq0
returns-else-count-eq0 c =
    let plan : c.self.inside.plan ≡ c.args.self.now.plan = ap (λ (s : InSink). s.plan) c.self.view_is in
    let faults : c.self.inside.faults ≡ c.args.self.now.faults = ap (λ (s : InSink). s.faults) c.self.view_is in
    let written : take c.self.inside.at c.self.inside.bytes.items ≡ c.args.self.now.written = ap (λ (s : InSink). s.written) c.self.view_is in
    let room : length c.self.inside.bytes.items ≡ c.args.self.now.room = ap (λ (s : InSink). s.room) c.self.view_is in
    let bound : c.count-count.result ≤ length c.args.from.now = omega (arith, c.count-count.ensures.count) in
    let fits : c.self.inside.at + c.count-count.result ≤ c.self.inside.bytes.len =
    omega (arith, c.count-count.ensures.count, c.len.ensures, c.self.invariant, c.self.inside.bytes.ok.0) in
    let copied : c.copy_from_slice.new.self ≡ take c.count-count.result c.args.from.now = search rules in
    elim c.else-count-eq0.branch [
      | else-count-eq0-via-then-count-eq0+else-not-is_empty w ↦ rw w.self-is (record {
        bound = bound;
        bytes = put c.self.inside.at c.count-count.result c.self.inside.bytes.len c.self.inside.bytes.items c.deref_mut.result.now c.copy_from_slice.new.self _ _ _
            (take c.count-count.result c.args.from.now) c.deref_mut.ensures.value written c.self.invariant copied
            (length-take-le c.count-count.result c.args.from.now bound) fits;
        counted = record {
          later = search rules;
          moved = λ _. faults;
          none = λ _. faults;
          stuck = search rules;
          failed = tt;
        };
        limit = search rules;
        failing = rw plan at c.if-call_fails.ensures.fails;
        count = search rules;
        plan = c.call_fails.ensures.next ∙ ap next_plan plan;
        room = grind (arith, common_steps);
      })
      | else-count-eq0-via-else-count-eq0 w ↦ rw w.self-is (record {
        bound = bound;
        bytes = put c.self.inside.at c.count-count.result c.self.inside.bytes.len c.self.inside.bytes.items c.deref_mut.result.now c.copy_from_slice.new.self _ _ _
            (take c.count-count.result c.args.from.now) c.deref_mut.ensures.value written c.self.invariant copied
            (length-take-le c.count-count.result c.args.from.now bound) fits;
        counted = record {
          later = search rules;
          moved = λ _. faults;
          none = λ _. faults;
          stuck = search rules;
          failed = tt;
        };
        limit = search rules;
        failing = rw plan at c.if-call_fails.ensures.fails;
        count = search rules;
        plan = c.call_fails.ensures.next ∙ ap next_plan plan;
        room = grind (arith, common_steps);
      })
    ]
