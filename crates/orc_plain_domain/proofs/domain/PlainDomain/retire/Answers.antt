use Rattle.std.proofs.Common.{◌≡◌, ◌∙◌, Option, Some, ap, refl, sym, subst, true, false, eqb, ℕ}
use Rattle.std.specs.Option.{option_eq}
use Rattle.orc_plain_board.specs.Views.{PlainView, shows}
use Rattle.orc_plain_domain.proofs.Equal.{other_fresh, same_fresh, same_to}
use Rattle.orc_plain_domain.specs.Passes.{domain_bounds}
use Rattle.orc_plain_domain.proofs.domain.PlainDomain.retire.Goals as goal

pub give_up-requires-clause-fresh : goal.give_up-requires-clause-fresh
give_up-requires-clause-fresh g c = sym (c.fresh.ensures (domain_bounds c.args.self.now))
    ∙ same_to c.fresh.result (Some c.args.row) (sym c.eq.ensures ∙ c.if-eq.true)

pub returns-then-eq-clause-retired : goal.returns-then-eq-clause-retired
returns-then-eq-clause-retired g c =
    let s = shows c.args.self.now.board c.args.p.now.pass in
    let is = c.give_up.ensures.given_up in
    let none = ap (λ (z : PlainView g.row.D-Note.Denot). z.fresh) is in
    let e = subst (λ (z : Option ℕ). option_eq eqb z (Some c.args.row) ≡ true) (c.fresh.ensures (domain_bounds c.args.self.now))
    (sym c.eq.ensures ∙ c.if-eq.true) in record {
      same = is ∙ ap (λ (z : Option ℕ). record s { fresh = z }) (sym none);
      fresh = none ∙ same_fresh s.fresh c.args.row e;
    }

pub returns-else-eq-clause-retired : goal.returns-else-eq-clause-retired
returns-else-eq-clause-retired g c =
    let s = shows c.args.self.now.board c.args.p.now.pass in
    let e = subst (λ (z : Option ℕ). option_eq eqb z (Some c.args.row) ≡ false) (c.fresh.ensures (domain_bounds c.args.self.now))
    (sym c.eq.ensures ∙ c.if-eq.false) in record {
      same = refl;
      fresh = other_fresh s.fresh c.args.row e;
    }
