use Rattle.std.proofs.Common.{refl, sym}
use Rattle.std.proofs.lemmas.Bool.{false≢true}
use Rattle.orc_domain.specs.Protections.{Published}
use Rattle.orc_domain.proofs.domain.OrcDomain.protect.Given.{Over}
use Rattle.orc_domain.proofs.domain.OrcDomain.protect.Goals.{After-publish}
use Rattle.orc_domain.proofs.domain.OrcDomain.protect.Goals as goal

published : (g : Over) (c : After-publish g) → Published c.args.self.now.board c.args.at c.args.slot c.args.row c.args.p.now c.publish.new.p
published g c = record { belongs = c.publish.ensures.belongs; number = c.publish.result; made = c.publish.ensures.made }

pub publish-requires-clause-allowed : goal.publish-requires-clause-allowed
publish-requires-clause-allowed g c = c.requires.allowed.publish

pub read_again-same-requires-clause-allowed : goal.read_again-same-requires-clause-allowed
read_again-same-requires-clause-allowed g c =
    c.requires.allowed.again c.publish.new.p (published g (goal.at.read_again-same-requires-clause-allowed g c).After-publish)

pub unlock_moved-requires-clause-calm : goal.unlock_moved-requires-clause-calm
unlock_moved-requires-clause-calm g c =
    let e = c.read_again-same.ensures.again in
    c.requires.allowed.calm c.publish.new.p c.read_again-same.new.p e.two
    (published g (goal.at.unlock_moved-requires-clause-calm g c).After-publish) e.reread

pub unlock_moved-requires-clause-allowed : goal.unlock_moved-requires-clause-allowed
unlock_moved-requires-clause-allowed g c =
    let e = c.read_again-same.ensures.again in
    c.requires.allowed.clear c.publish.new.p c.read_again-same.new.p e.two
    (published g (goal.at.unlock_moved-requires-clause-allowed g c).After-publish) e.reread

pub returns-then-same-clause-protects : goal.returns-then-same-clause-protects
returns-then-same-clause-protects g c =
    let e = c.read_again-same.ensures.again in
    record {
      u = c.publish.new.p;
      published = published g (goal.at.returns-then-same-clause-protects g c).After-publish;
      two = e.two;
      y = c.read_again-same.new.p;
      reread = e.reread;
      stays = λ h. (e.stays c.if-same.true, refl);
      moves = λ h. absurd (false≢true (sym h));
    }

pub returns-clause-protects : goal.returns-clause-protects
returns-clause-protects g c =
    let e = c.read_again-same.ensures.again in
    record {
      u = c.publish.new.p;
      published = published g (goal.at.returns-clause-protects g c).After-publish;
      two = e.two;
      y = c.read_again-same.new.p;
      reread = e.reread;
      stays = λ h. absurd (false≢true h);
      moves = λ h. (e.moves c.if-same.false, c.unlock_moved.ensures.unlocks);
    }
