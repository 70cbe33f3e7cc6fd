use Rattle.std.proofs.Common.{◌≡◌, ◌∙◌, ap, is_some, nat_eq, option_copied, sym, false, true}
use Rattle.std.specs.Map.{lookup}
use Rattle.indexmap.proofs.MapLemmas.{absent_from_lookup, insert_entry-absent}
use Rattle.orc_report.specs.Summary.{firsts}
use Rattle.orc_report.specs.Totals.{operation_totals, key_of_operation}
use Rattle.orc_report.proofs.Summaries.{entries-more, firsts-known, firsts-new, known, lookup-known, none-there, there}
use Rattle.orc_report.proofs.summary.note_total.Goals as goal

pub returns-then-is_some : goal.returns-then-is_some
returns-then-is_some c ops is =
    let value : option_copied c.get.result ≡ lookup (nat_eq c.key_of-key.result) c.args.totals.now.entries = c.get.ensures.value in
    let found : is_some c.get.result ≡ true = sym c.is_some.ensures ∙ c.if-is_some.true in
    let looked : is_some c.get.result ≡ known c.args.op (firsts ops) = there c.get.result _ value
    ∙ (ap (λ k. is_some (lookup (nat_eq k) c.args.totals.now.entries)) c.key_of-key.ensures
    ∙ (ap (λ es. is_some (lookup (nat_eq (key_of_operation c.args.op)) es)) is ∙ lookup-known c.args.jobs.now c.args.op (firsts ops))) in
    is ∙ ap (operation_totals c.args.jobs.now) (sym (firsts-known ops c.args.op (sym looked ∙ found)))

pub returns : goal.returns
returns c ops is =
    let value : option_copied c.get.result ≡ lookup (nat_eq c.key_of-key.result) c.args.totals.now.entries = c.get.ensures.value in
    let missed : is_some c.get.result ≡ false = sym c.is_some.ensures ∙ c.if-is_some.false in
    let looked : is_some c.get.result ≡ known c.args.op (firsts ops) = there c.get.result _ value
    ∙ (ap (λ k. is_some (lookup (nat_eq k) c.args.totals.now.entries)) c.key_of-key.ensures
    ∙ (ap (λ es. is_some (lookup (nat_eq (key_of_operation c.args.op)) es)) is ∙ lookup-known c.args.jobs.now c.args.op (firsts ops))) in
    let none = none-there _ (sym (there c.get.result _ value) ∙ missed) in
    let added = c.in_ok-insert.ensures.entries
    ∙ insert_entry-absent nat_eq c.key_of-key.result _ c.args.totals.now.entries
    (absent_from_lookup (nat_eq c.key_of-key.result) c.args.totals.now.entries none) in
    rw (added, is, c.key_of-key.ensures, c.total_of.ensures, firsts-new ops c.args.op (sym looked ∙ missed))
    (sym (entries-more c.args.jobs.now (firsts ops) c.args.op))
