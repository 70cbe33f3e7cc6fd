use Rattle.std.proofs.Common.{subst, sym, true, ◌∙◌, ◌≡◌}
use Rattle.std.specs.Option.{ForSome}
use Rattle.std.specs.Prelude.{None, cond}
use Rattle.orc_core.specs.RecordParts.{any_holds, same_target}
use Rattle.orc_core.specs.declared.ops.Op.TheVariants.{LinkCas}
use Rattle.orc_any_domain.specs.Names.{row_link}
use Rattle.orc_machine_board.specs.Kinds.{MayDo, asks}
use Rattle.orc_machine_board.specs.Licences.{MoveAllowed}
use Rattle.orc_machine_board.specs.Rules.{heap_numbers}
use Rattle.orc_machine_board.specs.Views.{Makes, shows}
use Rattle.orc_domain.proofs.Exchanging.{Exchanges, countable, exchange_leaves, missed_untouched, misses, old_held, swung, swung_down, swung_leaves, swung_untouched, swung_up}
use Rattle.orc_domain.proofs.Linking.{cas_can, move_allowed}
use Rattle.orc_domain.proofs.Ending.{stage_of}
use Rattle.orc_domain.specs.Passes.{domain_bounds}
use Rattle.orc_words.specs.declared.packed.RowLink.{RowLink}
use Rattle.orc_words.specs.declared.place.Word.{Word}
use Rattle.orc_domain.proofs.domain.OrcDomain.exchange.Given.{Over}
use Rattle.orc_domain.proofs.domain.OrcDomain.exchange.Goals.{After-link_cas-moved, After-to_count-up}
use Rattle.orc_domain.proofs.domain.OrcDomain.exchange.Goals as goal

-- the exchange, in the words that the caller names
exchanges : (g : Over) (c : After-link_cas-moved g)
    → Exchanges (stage_of c.requires.belongs) (stage_of c.link_cas-moved.ensures.belongs) c.args.place.now c.args.from.now c.args.to.now c.args.note
    c.link_cas-moved.result
exchanges g c = record {
  makes = subst (λ (z : Word × RowLink × RowLink). Makes (domain_bounds c.args.self.now) (asks (LinkCas z.0 z.1 z.2)) c.args.note (shows c.args.p.now)
      c.link_cas-moved.result (shows c.link_cas-moved.new.p))
      (λ i. (c.word_at-word.ensures i, c.row_link-old.ensures i, c.row_link-new.ensures i)) c.link_cas-moved.ensures.makes;
  is = record { ready = c.requires.ready; untouched = c.requires.untouched };
  there = c.requires.place;
  other = c.requires.linked;
  links = c.requires.links;
}

pub link_cas-moved-requires-clause-allowed : goal.link_cas-moved-requires-clause-allowed
link_cas-moved-requires-clause-allowed g c =
    let s = stage_of c.requires.belongs in
    let r = c.requires in
    subst (λ (z : Word × RowLink × RowLink). MayDo (domain_bounds c.args.self.now) s.view (LinkCas z.0 z.1 z.2))
    (λ i. (sym c.word_at-word.ensures i, sym c.row_link-old.ensures i, sym c.row_link-new.ensures i))
    (cas_can s c.args.place.now c.args.from.now c.args.to.now r.ready r.place r.linked r.links.0 r.links.1 r.low)

pub link_cas-moved-requires-clause-licensed : goal.link_cas-moved-requires-clause-licensed
link_cas-moved-requires-clause-licensed g c =
    let s = stage_of c.requires.belongs in
    let r = c.requires in
    subst (λ (z : Word × RowLink × RowLink). MoveAllowed (g.D.Discipline.may (heap_numbers c.args.self.now.board.words.shape)) (domain_bounds c.args.self.now) s.view z.0 z.1 z.2 c.args.note)
    (λ i. (sym c.word_at-word.ensures i, sym c.row_link-old.ensures i, sym c.row_link-new.ensures i))
    (move_allowed s c.args.place.now c.args.from.now c.args.to.now c.args.note r.place r.links.0 r.links.1 r.allowed)

pub returns-then-moved-ne1-clause-untouched : goal.returns-then-moved-ne1-clause-untouched
returns-then-moved-ne1-clause-untouched g c = missed_untouched (exchanges g (goal.at.returns-then-moved-ne1-clause-untouched g c).After-link_cas-moved) c.if-moved-ne1.true

pub returns-then-moved-ne1-clause-swung : goal.returns-then-moved-ne1-clause-swung
returns-then-moved-ne1-clause-swung g c = misses (exchanges g (goal.at.returns-then-moved-ne1-clause-swung g c).After-link_cas-moved) c.if-moved-ne1.true

pub returns-then-moved-ne1-clause-leaves : goal.returns-then-moved-ne1-clause-leaves
returns-then-moved-ne1-clause-leaves g c = exchange_leaves (exchanges g (goal.at.returns-then-moved-ne1-clause-leaves g c).After-link_cas-moved)

pub complete_held-requires-clause-countable : goal.complete_held-requires-clause-countable
complete_held-requires-clause-countable g c = countable (exchanges g (goal.at.complete_held-requires-clause-countable g c).After-link_cas-moved) c.if-moved-ne1.false

pub returns-clause-untouched : goal.returns-clause-untouched
returns-clause-untouched g c =
    swung_untouched (exchanges g (goal.at.returns-clause-untouched g c).After-link_cas-moved) c.if-moved-ne1.false (stage_of c.complete_held.ensures.belongs) c.complete_held.ensures.becomes

pub returns-clause-swung : goal.returns-clause-swung
returns-clause-swung g c =
    swung (exchanges g (goal.at.returns-clause-swung g c).After-link_cas-moved) c.if-moved-ne1.false (stage_of c.complete_held.ensures.belongs) c.complete_held.ensures.becomes

pub returns-clause-leaves : goal.returns-clause-leaves
returns-clause-leaves g c =
    swung_leaves (exchanges g (goal.at.returns-clause-leaves g c).After-link_cas-moved) c.if-moved-ne1.false (stage_of c.complete_held.ensures.belongs) c.complete_held.ensures.becomes

pub complete_held-requires-clause-up : goal.complete_held-requires-clause-up
complete_held-requires-clause-up g c =
    swung_up (exchanges g (goal.at.complete_held-requires-clause-up g c).After-link_cas-moved) c.if-moved-ne1.false
    ∙ ((λ i. cond (same_target (sym c.row_link-old.ensures i).to (sym c.row_link-new.ensures i).to) None (sym c.row_link-new.ensures i).to) ∙ sym c.to_count-up.ensures.up)

-- the old target, as the caller names it
down_is : (g : Over) (c : After-to_count-up g)
    → cond (same_target (row_link c.args.from.now).to (row_link c.args.to.now).to) None (row_link c.args.from.now).to ≡ c.to_count-up.result.1
down_is g c = (λ i. cond (same_target (sym c.row_link-old.ensures i).to (sym c.row_link-new.ensures i).to) None (sym c.row_link-old.ensures i).to)
    ∙ sym c.to_count-up.ensures.down

pub complete_held-requires-clause-down : goal.complete_held-requires-clause-down
complete_held-requires-clause-down g c =
    let at = goal.at.complete_held-requires-clause-down g c in
    swung_down (exchanges g at.After-link_cas-moved) c.if-moved-ne1.false ∙ down_is g at.After-to_count-up

pub complete_held-requires-clause-held : goal.complete_held-requires-clause-held
complete_held-requires-clause-held g c =
    let at = goal.at.complete_held-requires-clause-held g c in
    subst (λ o. ForSome o (λ y. any_holds (shows c.link_cas-moved.new.p).record_is.slots y ≡ true)) (down_is g at.After-to_count-up)
    (old_held (exchanges g at.After-link_cas-moved))
