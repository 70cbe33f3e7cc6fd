use Rattle.std.proofs.Common.{subst, sym}
use Rattle.orc_shared_words.specs.Ends.{OwnsAll, Whole}
use Rattle.orc_shared_words.proofs.Ends.{closes}
use Rattle.orc_shared_words.proofs.shared_words.SharedWords.close.Goals as goal

pub returns-clause-whole : goal.returns-clause-whole
returns-clause-whole g c =
    let r = g.M.Machine.rules in
    let v = c.args.pass.seat.me.0 in
    let key = c.args.self.table.shared.key in
    subst (λ k. Whole r k (g.D.Discipline.holds (g.M.Machine.numbers k)) (g.D.Discipline.may (g.M.Machine.numbers k)) v.seen c.new.result) c.args.self.shaped
    (subst (Whole r key _ _ v.seen) (sym c.new.ensures)
    (closes r key (g.D.Discipline.holds (g.M.Machine.numbers key)) (g.D.Discipline.may (g.M.Machine.numbers key)) _ v _ _
    (subst (λ k. OwnsAll r k v) (sym c.args.self.shaped) c.requires.all) c.close_with.ensures.values.2))
