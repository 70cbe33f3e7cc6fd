use Rattle.std.proofs.Common.{arith, refl, rules, ◌≡◌, ◌<◌, ◌%◌, None}
use Rattle.std.proofs.Math.Nat.{mod-lt}
use Rattle.std.proofs.lemmas.Result.{IfOk-weaker}
use Rattle.std.specs.Prelude.{IfOk, map, replicate}
use Rattle.orc_any_domain.specs.Turns.{first_row}
use Rattle.orc_plain_board.specs.Views.{shows_by}
use Rattle.orc_words.specs.Bounds.{bounds_of}
use Rattle.orc_shared_words.proofs.Made.{made_all, made_long, made_same}
use Rattle.orc_plain_domain.proofs.Making.{first_pass}
use Rattle.orc_plain_domain.proofs.make.domain_passes.Given.{Over}
use Rattle.orc_plain_domain.proofs.make.domain_passes.Goals as goal

-- each is made of the board's pass at its place
made : (g : Over) (c : goal.After-each_made g) → IfOk c.each_made.result (λ made. made.items ≡ map (first_pass c.args.shape.now) c.args.passes.items)
made g c = c.each_made.ensures (first_pass c.args.shape.now) (λ x r q k. search rules)

pub returns-clause-long : goal.returns-clause-long
returns-clause-long g c = IfOk-weaker c.each_made.result _ _ (λ l. made_long (first_pass c.args.shape.now) c.args.passes.items l.items) (made g c)

pub returns-clause-same : goal.returns-clause-same
returns-clause-same g c =
    IfOk-weaker c.each_made.result _ _ (λ l e. made_same (first_pass c.args.shape.now) c.args.passes.items l.items e (λ p. p.pass) (λ p. refl)) (made g c)

pub returns-clause-next : goal.returns-clause-next
returns-clause-next g c =
    let b = bounds_of c.args.shape.now in
    let some = c.args.shape.now.some_rows in
    IfOk-weaker c.each_made.result _ _
    (λ l e. made_all (first_pass c.args.shape.now) c.args.passes.items l.items e (λ p. p.pass) (λ p. p.next < b.rows)
    (λ q. mod-lt (first_row b (shows_by b q).agent) (omega (arith, some))))
    (made g c)

pub returns-clause-first : goal.returns-clause-first
returns-clause-first g c =
    let b = bounds_of c.args.shape.now in
    IfOk-weaker c.each_made.result _ _
    (λ l e. made_all (first_pass c.args.shape.now) c.args.passes.items l.items e (λ p. p.pass)
    (λ p. p.next ≡ first_row b (shows_by b p.pass).agent % b.rows) (λ q. refl))
    (made g c)

pub returns-clause-slots : goal.returns-clause-slots
returns-clause-slots g c =
    IfOk-weaker c.each_made.result _ _
    (λ l e. made_all (first_pass c.args.shape.now) c.args.passes.items l.items e (λ p. p.pass) (λ p. p.slots ≡ replicate 8 None) (λ q. refl)) (made g c)

pub returns-clause-shape : goal.returns-clause-shape
returns-clause-shape g c =
    let b = bounds_of c.args.shape.now in
    IfOk-weaker c.each_made.result _ _
    (λ l e. made_all (first_pass c.args.shape.now) c.args.passes.items l.items e (λ p. p.pass) (λ p. bounds_of p.shape ≡ b) (λ q. refl)) (made g c)
