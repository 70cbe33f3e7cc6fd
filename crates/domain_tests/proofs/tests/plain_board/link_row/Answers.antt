use Rattle.std.proofs.Common.{◌++◌, inl, subst, sym}
use Rattle.orc_heap.specs.Acts.{IsKnown, IsTarget}
use Rattle.orc_heap.specs.Journals.{run_heap}
use Rattle.orc_heap.proofs.Known.{known-later}
use Rattle.orc_heap.specs.AnyFit.{AnyFit}
use Rattle.orc_words.specs.declared.packed.RowLink.{RowLink}
use Rattle.orc_any_domain.specs.Rows.{index_of}
use Rattle.orc_plain_board.specs.Machine.{id_by}
use Rattle.orc_plain_board.specs.Views.{board_numbers, shows}
use Rattle.domain_tests.proofs.tests.plain_board.link_row.Goals as goal

pub link_cas-requires-clause-allowed : goal.link_cas-requires-clause-allowed
link_cas-requires-clause-allowed c = λ more later there.
    let s = shows c.args.board.now c.args.p.now in
    let n = board_numbers c.args.board.now in
    let u = (c.seen_by.ensures.fresh c.args.row c.requires.fresh).untouched in
    let known : IsKnown s.agent (run_heap n s.events) (index_of c.args.row s.rows) = record { node = u.node; there = u.there; known = inl u.mine } in
    let target : IsTarget s.agent (run_heap n (s.events ++ more)) (id_by s.rows c.to_row.result.to) =
    subst (λ (l : RowLink). IsTarget s.agent (run_heap n (s.events ++ more)) (id_by s.rows l.to)) (sym c.to_row.ensures)
    (known-later n (AnyFit n) s.agent (index_of c.args.row s.rows) s.events more later.allowed known) in
    ((there, target), tt)
