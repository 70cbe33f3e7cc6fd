use Rattle.std.proofs.Common.{◌<◌, ◌%◌, ◌+◌, ◌≡◌, ◌∙◌, ap, subst, sym, arith}
use Rattle.std.proofs.Math.Nat.{mod-lt}
use Rattle.orc_heap.proofs.Pieces.{goes_on}
use Rattle.orc_words.specs.Bounds.{Bounds}
use Rattle.orc_plain_domain.specs.Passes.{domain_bounds}
use Rattle.orc_plain_domain.proofs.Taking.{furnished, still_furnished}
use Rattle.orc_plain_domain.proofs.domain.PlainDomain.furnish.Goals as goal

pub returns-clause-pass : goal.returns-clause-pass
returns-clause-pass g c =
    let same : c.rows.result ≡ (domain_bounds c.args.self.now).rows = c.rows.ensures ∙ ap (λ (b : Bounds). b.rows) c.requires.pass.shape in
    let some : 0 < c.rows.result = let l = c.requires.row in omega (arith, l, same) in
    still_furnished c.args.self.now c.args.p.now c.requires.pass c.fill.new.p c.fill-2.new.p c.fill-2.ensures.belongs
    c.args.row c.fill.ensures.belongs c.args.first c.args.second c.requires.fresh c.fill.ensures.adds c.fill-2.ensures.adds
    c.args.slot c.around-p.result (subst (λ n. c.around-p.result < n) same (subst (λ n. n < c.rows.result) (sym c.around-p.ensures) (mod-lt (c.args.row + 1) some)))

pub around-p-requires : goal.around-p-requires
around-p-requires g c =
    let same : c.rows.result ≡ (domain_bounds c.args.self.now).rows = c.rows.ensures ∙ ap (λ (b : Bounds). b.rows) c.requires.pass.shape in
    let low = c.requires.row in
    omega (arith, low, same)

pub returns-clause-furnished : goal.returns-clause-furnished
returns-clause-furnished g c =
    furnished c.args.self.now c.args.p.now c.requires.pass c.fill.new.p c.fill-2.new.p c.fill-2.ensures.belongs c.args.row
    c.fill.ensures.belongs c.args.first c.args.second c.requires.fresh c.fill.ensures.adds c.fill-2.ensures.adds
    c.args.slot c.fill.ensures.fresh c.fill-2.ensures.fresh c.requires.node

pub returns-clause-rows : goal.returns-clause-rows
returns-clause-rows g c = goes_on _ _ _ c.fill.ensures.adds.rows c.fill-2.ensures.adds.rows

pub returns-clause-next : goal.returns-clause-next
returns-clause-next g c = c.around-p.ensures ∙ ap (λ n. (c.args.row + 1) % n) (c.rows.ensures ∙ ap (λ (b : Bounds). b.rows) c.requires.pass.shape)
