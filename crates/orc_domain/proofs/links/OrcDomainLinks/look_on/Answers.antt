use Rattle.std.proofs.Common.{None, Some, false, refl, subst, sym, true, ◌∙◌, ◌≡◌}
use Rattle.orc_heap.proofs.Calls.{looks_beside}
use Rattle.orc_heap.specs.declared.holds.Looked.TheVariants.{Stable}
use Rattle.orc_domain.proofs.Following.{reload_can}
use Rattle.orc_domain.proofs.Looking.{Begun, Starts, begin_can, loaded, look_null, null_ends}
use Rattle.orc_domain.proofs.MovingOn.{Leaves, MovesSlot, move_calm, move_can, move_clear_can, move_ends, move_held, move_off, moved, off_ends}
use Rattle.orc_domain.proofs.Protected.{Followed, held, held_so, in_held, marked_by, may_protect, stays_off, went_so}
use Rattle.orc_domain.proofs.Ending.{between_of, ends_later, pass_of, stage_of}
use Rattle.orc_domain.specs.Protections.{MayProtect}
use Rattle.orc_words.specs.Packed.{link_of, link_word}
use Rattle.orc_words.specs.declared.packed.RowLink.{RowLink}
use Rattle.orc_domain.proofs.links.OrcDomainLinks.look_on.Given.{Over}
use Rattle.orc_domain.proofs.links.OrcDomainLinks.look_on.Goals.{After-load-one, After-read_again-stays, After-protect_marked-same, After-slot-moving, After-word_at-word}
use Rattle.orc_domain.proofs.links.OrcDomainLinks.look_on.Goals as goal

-- where the call begins
begun : (g : Over) (c : After-word_at-word g) → Begun (stage_of c.requires.pass.board) c.args.place.now c.word_at-word.result c.args.slot
begun g c = record { between = between_of c.requires.pass; place = c.requires.place; word = c.word_at-word.ensures; free = c.requires.slot }

-- what the first load found
starts : (g : Over) (c : After-load-one g)
    → Starts (stage_of c.requires.pass.board) c.args.place.now c.word_at-word.result c.args.slot c.load-one.result (stage_of c.load-one.ensures.belongs)
starts g c = record {
  begun = record { between = between_of c.requires.pass; place = c.requires.place; word = c.word_at-word.ensures; free = c.requires.slot };
  made = c.load-one.ensures.made;
  is = c.load-one.ensures.link;
}

pub load-one-requires-clause-allowed : goal.load-one-requires-clause-allowed
load-one-requires-clause-allowed g c = begin_can (begun g (goal.at.load-one-requires-clause-allowed g c).After-word_at-word)

-- the link is null
pub returns-in_default-clause-pass : goal.returns-in_default-clause-pass
returns-in_default-clause-pass g c =
    pass_of c.load-one.ensures.belongs (null_ends (starts g (goal.at.returns-in_default-clause-pass g c).After-load-one)).between c.requires.pass.inside

pub returns-in_default-clause-looked : goal.returns-in_default-clause-looked
returns-in_default-clause-looked g c =
    looks_beside _ c.args.slot _ c.args.from (Stable (record { null = true; mark = c.load-one.result.mark }) None) _
    (look_null (starts g (goal.at.returns-in_default-clause-looked g c).After-load-one) c.in_default.is) tt

pub returns-in_default-clause-taken_in : goal.returns-in_default-clause-taken_in
returns-in_default-clause-taken_in g c = (null_ends (starts g (goal.at.returns-in_default-clause-taken_in g c).After-load-one)).leaves

-- it is marked: the target is protected in the other slot
pub protect_marked-same-requires-clause-allowed : goal.protect_marked-same-requires-clause-allowed
protect_marked-same-requires-clause-allowed g c =
    subst (λ w. MayProtect c.args.self.now.board w c.args.slot c.in-Some.row c.load-one.new.p) (c.word_at-word.ensures ∙ sym c.numbers_of-kind.ensures)
    (may_protect c.requires.pass.board c.load-one.ensures.belongs (starts g (goal.at.protect_marked-same-requires-clause-allowed g c).After-load-one) c.in-Some.is)

followed : (g : Over) (c : After-protect_marked-same g)
    → Followed c.requires.pass.board c.load-one.ensures.belongs c.args.place.now c.word_at-word.result c.args.slot c.in-Some.row c.load-one.result
    c.protect_marked-same.result c.protect_marked-same.new.p
followed g c = record {
  starts = record {
    begun = record { between = between_of c.requires.pass; place = c.requires.place; word = c.word_at-word.ensures; free = c.requires.slot };
    made = c.load-one.ensures.made;
    is = c.load-one.ensures.link;
  };
  to = c.in-Some.is;
  protects = marked_by c.protect_marked-same.ensures.protects (c.numbers_of-kind.ensures ∙ sym c.word_at-word.ensures) c.in-Some.is c.if-mark.true refl;
}

pub protect_marked-same-requires-clause-known : goal.protect_marked-same-requires-clause-known
protect_marked-same-requires-clause-known g c =
    subst (λ (l : RowLink). link_of (link_word l) ≡ l) (λ i. record { to = c.in-Some.is i; mark = c.if-mark.true i }) c.load-one.ensures.link

pub returns-then-mark-clause-pass : goal.returns-then-mark-clause-pass
returns-then-mark-clause-pass g c =
    pass_of c.protect_marked-same.ensures.belongs (went_so (followed g (goal.at.returns-then-mark-clause-pass g c).After-protect_marked-same) c.if-same.false c.protect_marked-same.ensures.belongs).between
    c.requires.pass.inside

pub returns-then-mark-clause-looked : goal.returns-then-mark-clause-looked
returns-then-mark-clause-looked g c =
    stays_off (followed g (goal.at.returns-then-mark-clause-looked g c).After-protect_marked-same) c.if-same.false c.protect_marked-same.ensures.belongs c.args.from c.if-mark.true

pub returns-then-mark-clause-taken_in : goal.returns-then-mark-clause-taken_in
returns-then-mark-clause-taken_in g c =
    (went_so (followed g (goal.at.returns-then-mark-clause-taken_in g c).After-protect_marked-same) c.if-same.false c.protect_marked-same.ensures.belongs).leaves

pub returns-then-mark-clause-later : goal.returns-then-mark-clause-later
returns-then-mark-clause-later g c =
    ends_later (went_so (followed g (goal.at.returns-then-mark-clause-later g c).After-protect_marked-same) c.if-same.false c.protect_marked-same.ensures.belongs)

pub returns-then-same-clause-pass : goal.returns-then-same-clause-pass
returns-then-same-clause-pass g c =
    let e = followed g (goal.at.returns-then-same-clause-pass g c).After-protect_marked-same in
    pass_of (in_held e c.if-same.true) (held_so e c.if-same.true).between c.requires.pass.inside

pub returns-then-same-clause-looked : goal.returns-then-same-clause-looked
returns-then-same-clause-looked g c =
    looks_beside _ c.args.slot _ c.args.from (Stable (record { null = false; mark = c.load-one.result.mark }) (Some c.new-held.result)) _
    (held (followed g (goal.at.returns-then-same-clause-looked g c).After-protect_marked-same) c.if-same.true c.new-held.result c.new-held.ensures) c.if-mark.true

pub returns-then-same-clause-taken_in : goal.returns-then-same-clause-taken_in
returns-then-same-clause-taken_in g c = (held_so (followed g (goal.at.returns-then-same-clause-taken_in g c).After-protect_marked-same) c.if-same.true).leaves

pub returns-then-same-clause-later : goal.returns-then-same-clause-later
returns-then-same-clause-later g c = ends_later (held_so (followed g (goal.at.returns-then-same-clause-later g c).After-protect_marked-same) c.if-same.true)

-- it isn't: the hold's slot moves on
leaves : (g : Over) (c : After-slot-moving g) → Leaves (stage_of c.requires.pass.board) c.args.place.now c.args.from c.slot-moving.result
leaves g c = record { held = c.requires.from; linked = c.requires.linked; outside = c.requires.outside; is = c.slot-moving.ensures }

pub move_on-requires-clause-allowed : goal.move_on-requires-clause-allowed
move_on-requires-clause-allowed g c =
    let at = goal.at.move_on-requires-clause-allowed g c in
    move_can (starts g at.After-load-one) (leaves g at.After-slot-moving) c.in-Some.is

pub read_again-stays-requires-clause-allowed : goal.read_again-stays-requires-clause-allowed
read_again-stays-requires-clause-allowed g c =
    let at = goal.at.read_again-stays-requires-clause-allowed g c in
    let f = starts g at.After-load-one in
    reload_can (loaded f) c.in-Some.is
    (moved f (leaves g at.After-slot-moving) c.in-Some.is (stage_of c.move_on.ensures.belongs) c.move_on.result c.move_on.ensures.made)

moves : (g : Over) (c : After-read_again-stays g)
    → MovesSlot (stage_of c.requires.pass.board) (stage_of c.load-one.ensures.belongs) c.args.place.now c.word_at-word.result c.args.slot c.load-one.result
    c.args.from c.slot-moving.result c.in-Some.row (stage_of c.move_on.ensures.belongs) c.read_again-stays.ensures.again.two (stage_of c.read_again-stays.ensures.again.reread.belongs)
moves g c = record {
  starts = record {
    begun = record { between = between_of c.requires.pass; place = c.requires.place; word = c.word_at-word.ensures; free = c.requires.slot };
    made = c.load-one.ensures.made;
    is = c.load-one.ensures.link;
  };
  leaves = record { held = c.requires.from; linked = c.requires.linked; outside = c.requires.outside; is = c.slot-moving.ensures };
  to = c.in-Some.is;
  bare = c.if-mark.false;
  number = c.move_on.result;
  made = c.move_on.ensures.made;
  again = record { made = c.read_again-stays.ensures.again.reread.made; is = c.read_again-stays.ensures.again.reread.is };
}

pub unlock_moved-requires-clause-allowed : goal.unlock_moved-requires-clause-allowed
unlock_moved-requires-clause-allowed g c = move_clear_can (moves g (goal.at.unlock_moved-requires-clause-allowed g c).After-read_again-stays)

pub unlock_moved-requires-clause-calm : goal.unlock_moved-requires-clause-calm
unlock_moved-requires-clause-calm g c = move_calm (moves g (goal.at.unlock_moved-requires-clause-calm g c).After-read_again-stays)

pub returns-clause-pass : goal.returns-clause-pass
returns-clause-pass g c =
    pass_of c.unlock_moved.ensures.belongs (off_ends (moves g (goal.at.returns-clause-pass g c).After-read_again-stays)
    (c.read_again-stays.ensures.again.moves c.if-stays.false) (stage_of c.unlock_moved.ensures.belongs)
    c.unlock_moved.ensures.unlocks).between c.requires.pass.inside

pub returns-clause-looked : goal.returns-clause-looked
returns-clause-looked g c =
    move_off (moves g (goal.at.returns-clause-looked g c).After-read_again-stays)
    (c.read_again-stays.ensures.again.moves c.if-stays.false) (stage_of c.unlock_moved.ensures.belongs)
    c.unlock_moved.ensures.unlocks

pub returns-clause-taken_in : goal.returns-clause-taken_in
returns-clause-taken_in g c =
    (off_ends (moves g (goal.at.returns-clause-taken_in g c).After-read_again-stays)
    (c.read_again-stays.ensures.again.moves c.if-stays.false) (stage_of c.unlock_moved.ensures.belongs)
    c.unlock_moved.ensures.unlocks).leaves

pub returns-then-stays-clause-pass : goal.returns-then-stays-clause-pass
returns-then-stays-clause-pass g c =
    pass_of c.read_again-stays.ensures.again.reread.belongs (move_ends (moves g (goal.at.returns-then-stays-clause-pass g c).After-read_again-stays)
    (c.read_again-stays.ensures.again.stays c.if-stays.true)).between c.requires.pass.inside

pub returns-then-stays-clause-looked : goal.returns-then-stays-clause-looked
returns-then-stays-clause-looked g c =
    move_held (moves g (goal.at.returns-then-stays-clause-looked g c).After-read_again-stays) (c.read_again-stays.ensures.again.stays c.if-stays.true) c.new.result c.new.ensures

pub returns-then-stays-clause-taken_in : goal.returns-then-stays-clause-taken_in
returns-then-stays-clause-taken_in g c =
    (move_ends (moves g (goal.at.returns-then-stays-clause-taken_in g c).After-read_again-stays) (c.read_again-stays.ensures.again.stays c.if-stays.true)).leaves

pub load-one-requires-clause-belongs : goal.load-one-requires-clause-belongs
load-one-requires-clause-belongs g c = c.requires.pass.board

pub returns-in_default-clause-later : goal.returns-in_default-clause-later
returns-in_default-clause-later g c = ends_later (null_ends (starts g (goal.at.returns-in_default-clause-later g c).After-load-one))

pub returns-in_default-clause-next : goal.returns-in_default-clause-next
returns-in_default-clause-next g c = refl

pub protect_marked-same-requires-clause-belongs : goal.protect_marked-same-requires-clause-belongs
protect_marked-same-requires-clause-belongs g c = c.load-one.ensures.belongs

pub returns-then-mark-clause-next : goal.returns-then-mark-clause-next
returns-then-mark-clause-next g c = refl

pub returns-then-same-clause-next : goal.returns-then-same-clause-next
returns-then-same-clause-next g c = refl

pub move_on-requires-clause-belongs : goal.move_on-requires-clause-belongs
move_on-requires-clause-belongs g c = c.load-one.ensures.belongs

pub read_again-stays-requires-clause-belongs : goal.read_again-stays-requires-clause-belongs
read_again-stays-requires-clause-belongs g c = c.move_on.ensures.belongs

pub read_again-stays-requires-clause-known : goal.read_again-stays-requires-clause-known
read_again-stays-requires-clause-known g c = c.load-one.ensures.link

pub unlock_moved-requires-clause-belongs : goal.unlock_moved-requires-clause-belongs
unlock_moved-requires-clause-belongs g c = c.read_again-stays.ensures.belongs

pub returns-clause-later : goal.returns-clause-later
returns-clause-later g c =
    ends_later (off_ends (moves g (goal.at.returns-clause-later g c).After-read_again-stays)
    (c.read_again-stays.ensures.again.moves c.if-stays.false) (stage_of c.unlock_moved.ensures.belongs)
    c.unlock_moved.ensures.unlocks)

pub returns-clause-next : goal.returns-clause-next
returns-clause-next g c = refl

pub returns-then-stays-clause-later : goal.returns-then-stays-clause-later
returns-then-stays-clause-later g c =
    ends_later (move_ends (moves g (goal.at.returns-then-stays-clause-later g c).After-read_again-stays) (c.read_again-stays.ensures.again.stays c.if-stays.true))

pub returns-then-stays-clause-next : goal.returns-then-stays-clause-next
returns-then-stays-clause-next g c = refl
