use Rattle.std.proofs.Common.{subst, ℕ}
use mathlib.Core.Option.{none}
use Rattle.atomic_table.specs.Table.{Allows, Step, step}
use Rattle.orc_words.specs.Operations.{word_after}
use Rattle.orc_words.specs.declared.operation.Operation.{Operation}
use Rattle.orc_shared_words.specs.Operations.{returned_by}
use Rattle.orc_shared_words.proofs.Steps.{exchanged}
use Rattle.orc_shared_words.proofs.operation.operate.Goals as goal

pub load-requires : goal.load-requires
load-requires g c =
    let t = c.args.shared.now.table_id in
    let seat = c.args.seat.now in
    let s : Step (Unit {0}) = step t.slots c.args.index 0 0 none in (
      c.requires.table,
      c.requires.inside,
      subst (λ (o : Operation). Allows (g.P.TableRule.holds c.args.shared.now.key) t.slots seat.id seat.me c.args.index (word_after o)
          (λ n. g.T.Play.then s seat.me (returned_by o n))) c.in-Load.is (c.requires.allowed s),
    )

pub store-requires : goal.store-requires
store-requires g c =
    let t = c.args.shared.now.table_id in
    let seat = c.args.seat.now in
    let s : Step (Unit {0}) = step t.slots c.args.index c.in-Store.value 0 none in (
      c.requires.table,
      c.requires.inside,
      subst (λ (o : Operation). Allows (g.P.TableRule.holds c.args.shared.now.key) t.slots seat.id seat.me c.args.index (word_after o)
          (λ n. g.T.Play.then s seat.me (returned_by o n))) c.in-Store.is (c.requires.allowed s),
    )

pub swap-requires : goal.swap-requires
swap-requires g c =
    let t = c.args.shared.now.table_id in
    let seat = c.args.seat.now in
    let s : Step (Unit {0}) = step t.slots c.args.index c.in-Swap.value 0 none in (
      c.requires.table,
      c.requires.inside,
      subst (λ (o : Operation). Allows (g.P.TableRule.holds c.args.shared.now.key) t.slots seat.id seat.me c.args.index (word_after o)
          (λ n. g.T.Play.then s seat.me (returned_by o n))) c.in-Swap.is (c.requires.allowed s),
    )

pub fetch_add-requires : goal.fetch_add-requires
fetch_add-requires g c =
    let t = c.args.shared.now.table_id in
    let seat = c.args.seat.now in
    let s : Step (Unit {0}) = step t.slots c.args.index c.in-Add.value 0 none in (
      c.requires.table,
      c.requires.inside,
      subst (λ (o : Operation). Allows (g.P.TableRule.holds c.args.shared.now.key) t.slots seat.id seat.me c.args.index (word_after o)
          (λ n. g.T.Play.then s seat.me (returned_by o n))) c.in-Add.is (c.requires.allowed s),
    )

pub fetch_sub-requires : goal.fetch_sub-requires
fetch_sub-requires g c =
    let t = c.args.shared.now.table_id in
    let seat = c.args.seat.now in
    let s : Step (Unit {0}) = step t.slots c.args.index c.in-Sub.value 0 none in (
      c.requires.table,
      c.requires.inside,
      subst (λ (o : Operation). Allows (g.P.TableRule.holds c.args.shared.now.key) t.slots seat.id seat.me c.args.index (word_after o)
          (λ n. g.T.Play.then s seat.me (returned_by o n))) c.in-Sub.is (c.requires.allowed s),
    )

pub compare_exchange-requires : goal.compare_exchange-requires
compare_exchange-requires g c =
    let t = c.args.shared.now.table_id in
    let seat = c.args.seat.now in
    let s : Step (Unit {0}) = step t.slots c.args.index c.in-CompareExchange.wanted c.in-CompareExchange.value none in (
      c.requires.table,
      c.requires.inside,
      subst (λ (f : ℕ → ℕ). Allows (g.P.TableRule.holds c.args.shared.now.key) t.slots seat.id seat.me c.args.index f (g.T.Play.then s seat.me))
          (exchanged c.in-CompareExchange.wanted c.in-CompareExchange.value)
          (subst (λ (o : Operation). Allows (g.P.TableRule.holds c.args.shared.now.key) t.slots seat.id seat.me c.args.index (word_after o)
          (λ n. g.T.Play.then s seat.me (returned_by o n))) c.in-CompareExchange.is (c.requires.allowed s)),
    )

pub returns-in-Load : goal.returns-in-Load
returns-in-Load g c = record { table = c.load.ensures.0; told = (_, c.load.ensures.2) }

pub returns-in-Store : goal.returns-in-Store
returns-in-Store g c = record { table = c.store.ensures.0; told = (_, c.store.ensures.2) }

pub returns-in-Swap : goal.returns-in-Swap
returns-in-Swap g c = record { table = c.swap.ensures.0; told = (_, c.swap.ensures.2) }

pub returns-in-Add : goal.returns-in-Add
returns-in-Add g c = record { table = c.fetch_add.ensures.0; told = (_, c.fetch_add.ensures.2) }

pub returns-in-Sub : goal.returns-in-Sub
returns-in-Sub g c = record { table = c.fetch_sub.ensures.0; told = (_, c.fetch_sub.ensures.2) }

pub returns-in-CompareExchange : goal.returns-in-CompareExchange
returns-in-CompareExchange g c = record { table = c.compare_exchange.ensures.0; told = (_, c.compare_exchange.ensures.2) }
