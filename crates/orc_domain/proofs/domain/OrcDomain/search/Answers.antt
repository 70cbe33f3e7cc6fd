use Rattle.std.proofs.Common.{ap, arith, refl, subst, sym, ◌∙◌, ◌%◌, ◌+◌, ◌<◌, ◌≡◌}
use Rattle.std.proofs.Math.Nat.{mod-lt}
use Rattle.orc_any_domain.specs.Turns.{IsNext}
use Rattle.orc_machine_board.specs.Views.{shows}
use Rattle.orc_domain.proofs.Rounds.{tries_gets, tries_next, tries_none, tries_one}
use Rattle.orc_domain.specs.Passes.{domain_bounds}
use Rattle.orc_domain.specs.Searches.{Fails, Found, Gets, TriedRows}
use Rattle.orc_words.specs.Bounds.{Bounds}
use Rattle.orc_domain.proofs.domain.OrcDomain.search.Goals as goal

pub loop-offset-init : goal.loop-offset-init
loop-offset-init g c = (
  c.requires.belongs,
  c.rows-rows.ensures ∙ ap (λ (b : Bounds). b.rows) c.shape.ensures,
  tries_none
      (domain_bounds c.args.self.now) c.args.begin c.rows-rows.result (shows c.args.p.now),
)

pub around-row-requires : goal.around-row-requires
around-row-requires g c =
    let is = c.loop-offset.invariant.1 in
    let low = c.requires.begin in
    let more = c.loop-offset-test.true in
    omega (arith, is, low, more)

pub returns-then-try_take-clause-found : goal.returns-then-try_take-clause-found
returns-then-try_take-clause-found g c x e =
    let i = c.loop-offset.invariant in
    let b = domain_bounds c.args.self.now in
    let row = c.around-row.result in
    let same : row ≡ x = cc in
    let some : 0 < c.rows-rows.result = let h = c.requires.begin in let r = i.1 in omega (arith, h, r) in
    let at = (c.args.begin + c.loop-offset.offset) % c.rows-rows.result in
    let low : row < b.rows = subst (λ z. z < b.rows) (sym c.around-row.ensures)
    (subst (λ z. at < z) i.1 (mod-lt (c.args.begin + c.loop-offset.offset) some)) in
    subst (λ z. (z < b.rows) × Gets b z (shows c.args.p.now) (shows c.try_take.new.p)) same (
      low,
      tries_gets b c.args.begin c.rows-rows.result c.loop-offset.offset row (shows c.args.p.now) (shows c.loop-offset.p) (shows c.try_take.new.p) i.2
          (c.if-try_take.ensures.took refl),
    )

pub loop-offset-preserved : goal.loop-offset-preserved
loop-offset-preserved g c =
    let i = c.loop-offset.invariant in
    let b = domain_bounds c.args.self.now in
    let t = shows c.loop-offset.p in
    let u = shows c.try_take.new.p in (
      c.try_take.ensures.belongs,
      i.1,
      tries_one b c.args.begin c.rows-rows.result c.loop-offset.offset (shows c.args.p.now) t u i.2
          (subst (λ row. Fails b row t u) c.around-row.ensures (c.if-try_take.ensures.lost refl)),
    )

pub returns-clause-tried : goal.returns-clause-tried
returns-clause-tried g c e =
    let i = c.loop-offset.invariant in
    let b = domain_bounds c.args.self.now in
    let low = c.loop-offset-test.false in
    let high = c.loop-offset.auto.offset-end in
    let end : c.loop-offset.offset ≡ c.rows-rows.result = omega (arith, low, high) in
    subst (λ z. TriedRows b c.args.begin z z (shows c.args.p.now) (shows c.loop-offset.p)) i.1
    (subst (λ z. TriedRows b c.args.begin c.rows-rows.result z (shows c.args.p.now) (shows c.loop-offset.p)) end i.2)

pub returns-then-try_take-clause-in_turn : goal.returns-then-try_take-clause-in_turn
returns-then-try_take-clause-in_turn g c x e =
    let i = c.loop-offset.invariant in
    let b = domain_bounds c.args.self.now in
    let s = shows c.args.p.now in
    let u = shows c.try_take.new.p in
    let begin = c.args.begin in
    let offset = c.loop-offset.offset in
    let same : c.around-row.result ≡ x = cc in
    let got = c.if-try_take.ensures.took refl in
    subst (IsNext b.rows begin (Found b s.agent s.journal u.journal)) (ap (λ n. (begin + offset) % n) (sym i.1) ∙ (sym c.around-row.ensures ∙ same))
    (tries_next b begin offset s (shows c.loop-offset.p) u.journal
    (subst (λ n. TriedRows b begin n offset s (shows c.loop-offset.p)) i.1 i.2)
    (subst (λ n. offset < n) i.1 c.loop-offset-test.true) (got.more, sym got.journal))
