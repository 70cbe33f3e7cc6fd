use Rattle.std.proofs.Common.{refl}
use Rattle.orc_domain.proofs.Looking.{Begun, Starts, begin_can, look_null, null_ends}
use Rattle.orc_domain.proofs.Protected.{Followed, held, held_so, in_held, may_protect, went_off, went_so}
use Rattle.orc_domain.proofs.Ending.{between_of, ends_later, pass_of, stage_of}
use Rattle.orc_domain.proofs.links.OrcDomainLinks.look.Given.{Over}
use Rattle.orc_domain.proofs.links.OrcDomainLinks.look.Goals.{After-load-one, After-protect-same, After-word_at-word}
use Rattle.orc_domain.proofs.links.OrcDomainLinks.look.Goals as goal

-- where the call begins
begun : (g : Over) (c : After-word_at-word g) → Begun (stage_of c.requires.pass.board) c.args.place.now c.word_at-word.result c.args.slot
begun g c = record { between = between_of c.requires.pass; place = c.requires.place; word = c.word_at-word.ensures; free = c.requires.slot }

-- what the first load found
starts : (g : Over) (c : After-load-one g)
    → Starts (stage_of c.requires.pass.board) c.args.place.now c.word_at-word.result c.args.slot c.load-one.result (stage_of c.load-one.ensures.belongs)
starts g c = record {
  begun = record { between = between_of c.requires.pass; place = c.requires.place; word = c.word_at-word.ensures; free = c.requires.slot };
  made = c.load-one.ensures.made;
  is = c.load-one.ensures.link;
}

pub load-one-requires-clause-allowed : goal.load-one-requires-clause-allowed
load-one-requires-clause-allowed g c = begin_can (begun g (goal.at.load-one-requires-clause-allowed g c).After-word_at-word)

-- the link is null
pub returns-in_default-clause-pass : goal.returns-in_default-clause-pass
returns-in_default-clause-pass g c =
    pass_of c.load-one.ensures.belongs (null_ends (starts g (goal.at.returns-in_default-clause-pass g c).After-load-one)).between c.requires.pass.inside

pub returns-in_default-clause-looked : goal.returns-in_default-clause-looked
returns-in_default-clause-looked g c = look_null (starts g (goal.at.returns-in_default-clause-looked g c).After-load-one) c.in_default.is

pub returns-in_default-clause-taken_in : goal.returns-in_default-clause-taken_in
returns-in_default-clause-taken_in g c = (null_ends (starts g (goal.at.returns-in_default-clause-taken_in g c).After-load-one)).leaves

pub protect-same-requires-clause-allowed : goal.protect-same-requires-clause-allowed
protect-same-requires-clause-allowed g c =
    may_protect c.requires.pass.board c.load-one.ensures.belongs (starts g (goal.at.protect-same-requires-clause-allowed g c).After-load-one) c.in-Some.is

-- the target is protected
followed : (g : Over) (c : After-protect-same g)
    → Followed c.requires.pass.board c.load-one.ensures.belongs c.args.place.now c.word_at-word.result c.args.slot c.in-Some.row c.load-one.result
    c.protect-same.result c.protect-same.new.p
followed g c = record {
  starts = record {
    begun = record { between = between_of c.requires.pass; place = c.requires.place; word = c.word_at-word.ensures; free = c.requires.slot };
    made = c.load-one.ensures.made;
    is = c.load-one.ensures.link;
  };
  to = c.in-Some.is;
  protects = c.protect-same.ensures.protects;
}

pub returns-clause-pass : goal.returns-clause-pass
returns-clause-pass g c =
    pass_of c.protect-same.ensures.belongs (went_so (followed g (goal.at.returns-clause-pass g c).After-protect-same) c.if-same.false c.protect-same.ensures.belongs).between c.requires.pass.inside

pub returns-clause-looked : goal.returns-clause-looked
returns-clause-looked g c = went_off (followed g (goal.at.returns-clause-looked g c).After-protect-same) c.if-same.false c.protect-same.ensures.belongs

pub returns-clause-taken_in : goal.returns-clause-taken_in
returns-clause-taken_in g c = (went_so (followed g (goal.at.returns-clause-taken_in g c).After-protect-same) c.if-same.false c.protect-same.ensures.belongs).leaves

pub returns-clause-later : goal.returns-clause-later
returns-clause-later g c = ends_later (went_so (followed g (goal.at.returns-clause-later g c).After-protect-same) c.if-same.false c.protect-same.ensures.belongs)

pub returns-then-same-clause-pass : goal.returns-then-same-clause-pass
returns-then-same-clause-pass g c =
    let e = followed g (goal.at.returns-then-same-clause-pass g c).After-protect-same in
    pass_of (in_held e c.if-same.true) (held_so e c.if-same.true).between c.requires.pass.inside

pub returns-then-same-clause-looked : goal.returns-then-same-clause-looked
returns-then-same-clause-looked g c = held (followed g (goal.at.returns-then-same-clause-looked g c).After-protect-same) c.if-same.true c.new-held.result c.new-held.ensures

pub returns-then-same-clause-taken_in : goal.returns-then-same-clause-taken_in
returns-then-same-clause-taken_in g c = (held_so (followed g (goal.at.returns-then-same-clause-taken_in g c).After-protect-same) c.if-same.true).leaves

pub returns-then-same-clause-later : goal.returns-then-same-clause-later
returns-then-same-clause-later g c = ends_later (held_so (followed g (goal.at.returns-then-same-clause-later g c).After-protect-same) c.if-same.true)

pub returns-in_default-clause-later : goal.returns-in_default-clause-later
returns-in_default-clause-later g c = ends_later (null_ends (starts g (goal.at.returns-in_default-clause-later g c).After-load-one))

pub load-one-requires-clause-belongs : goal.load-one-requires-clause-belongs
load-one-requires-clause-belongs g c = c.requires.pass.board

pub protect-same-requires-clause-belongs : goal.protect-same-requires-clause-belongs
protect-same-requires-clause-belongs g c = c.load-one.ensures.belongs

pub protect-same-requires-clause-known : goal.protect-same-requires-clause-known
protect-same-requires-clause-known g c = c.load-one.ensures.link

pub returns-clause-next : goal.returns-clause-next
returns-clause-next g c = refl

pub returns-then-same-clause-next : goal.returns-then-same-clause-next
returns-then-same-clause-next g c = refl

pub returns-in_default-clause-next : goal.returns-in_default-clause-next
returns-in_default-clause-next g c = refl
