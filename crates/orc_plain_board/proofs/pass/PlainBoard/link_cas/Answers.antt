use Rattle.std.proofs.Common.{true, false, eq-eqb, ne_eqb, ◌∙◌, sym, ap}
use Rattle.orc_words.specs.Packed.{link_word}
use Rattle.orc_plain_board.specs.Calls.{unless_linked}
use Rattle.orc_plain_board.proofs.LinkTells.{cas_fails, cas_keeps, cas_moves}
use Rattle.orc_plain_board.proofs.Licences.{cas_licence, link_inside, packable, place_inside}
use Rattle.orc_plain_board.proofs.pass.PlainBoard.link_cas.Goals as goal

pub step-found-requires-clause-allowed : goal.step-found-requires-clause-allowed
step-found-requires-clause-allowed g c = (
  place_inside g.D.Discipline _ _ _ _ c.args.p.now.looked c.requires.belongs.keeps c.args.place c.requires.place,
  link_inside g.D.Discipline _ _ _ _
      c.args.p.now.looked c.requires.belongs.keeps c.args.from c.requires.from,
  link_inside g.D.Discipline _ _ _ _ c.args.p.now.looked
      c.requires.belongs.keeps c.args.to c.requires.to,
)

pub pack_link-wanted-requires : goal.pack_link-wanted-requires
pack_link-wanted-requires g c =
    packable c.args.self.now.words.shape.shape c.args.from.to (link_inside g.D.Discipline c.args.self.now.words.shape c.args.p.now.pass.seat.me.0
    c.args.p.now.pass.agent c.args.p.now.fresh c.args.p.now.looked c.requires.belongs.keeps c.args.from c.requires.from)

pub step-found-requires-clause-licensed : goal.step-found-requires-clause-licensed
step-found-requires-clause-licensed g c =
    cas_licence g.D.Discipline _ _ _ _ c.args.p.now.looked c.requires.belongs.keeps c.args.place c.args.from c.args.to c.args.«note» c.requires.place
    c.requires.from c.requires.to c.requires.allowed

pub returns-then-found-wanted-clause-belongs : goal.returns-then-found-wanted-clause-belongs
returns-then-found-wanted-clause-belongs g c =
    let hits = c.if-found-wanted.true ∙ c.pack_link-wanted.ensures.word in
    let f = c.unless_linked-p.ensures ∙ ap (λ z. unless_linked z c.args.to.to) c.step-found.ensures.fresh in
    record {
      table = c.step-found.ensures.table ∙ c.requires.belongs.table;
      keeps = cas_keeps g.D.Discipline _ _ _ _ _ _ c.args.p.now.looked c.unless_linked-p.result c.args.p.now.looked c.requires.belongs.keeps
          c.step-found.ensures.agent c.args.place c.args.from c.args.to c.args.«note» _ true c.requires.to (sym (eq-eqb _ (link_word c.args.from) hits)) f
          c.step-found.ensures.step;
    }

pub returns-then-found-wanted-clause-moves : goal.returns-then-found-wanted-clause-moves
returns-then-found-wanted-clause-moves g c =
    λ _. cas_moves g.D.Discipline _ _ _ _ _ _ c.args.p.now.looked c.unless_linked-p.result c.step-found.new.p.looked c.requires.belongs.keeps
    c.step-found.ensures.agent c.args.place c.args.from c.args.to c.args.«note» _ c.requires.place c.requires.from c.requires.to
    (c.if-found-wanted.true ∙ c.pack_link-wanted.ensures.word) c.step-found.ensures.step

pub returns-clause-belongs : goal.returns-clause-belongs
returns-clause-belongs g c =
    record {
      table = c.step-found.ensures.table ∙ c.requires.belongs.table;
      keeps = cas_keeps g.D.Discipline _ _ _ _ _ _ c.args.p.now.looked _ c.args.p.now.looked c.requires.belongs.keeps c.step-found.ensures.agent
          c.args.place c.args.from c.args.to c.args.«note» _ false c.requires.to
          (sym (ne_eqb _ (link_word c.args.from) (λ z. c.if-found-wanted.false (z ∙ sym c.pack_link-wanted.ensures.word)))) c.step-found.ensures.fresh
          c.step-found.ensures.step;
    }

pub returns-clause-fails : goal.returns-clause-fails
returns-clause-fails g c =
    λ _. cas_fails g.D.Discipline _ _ _ _ _ _ c.args.p.now.looked _ c.step-found.new.p.looked c.requires.belongs.keeps c.step-found.ensures.agent
    c.args.place c.args.from c.args.to c.args.«note» _ c.requires.place c.requires.from
    (λ z. c.if-found-wanted.false (z ∙ sym c.pack_link-wanted.ensures.word)) c.step-found.ensures.fresh c.step-found.ensures.step
