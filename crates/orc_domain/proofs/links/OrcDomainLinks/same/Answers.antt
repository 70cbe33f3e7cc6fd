use Rattle.std.proofs.Common.{None, Some, ap, subst, sym, ◌∙◌, ◌≡◌}
use Rattle.orc_core.specs.declared.ops.Op.TheVariants.{LinkLoad}
use Rattle.orc_any_domain.specs.Names.{row_link, word_at}
use Rattle.orc_machine_board.specs.Kinds.{MayDo, wants}
use Rattle.orc_machine_board.specs.Licences.{LookAllowed}
use Rattle.orc_machine_board.specs.Rules.{heap_numbers}
use Rattle.orc_machine_board.specs.Views.{Makes, shows}
use Rattle.orc_domain.proofs.Held.{place_may}
use Rattle.orc_domain.proofs.Loading.{load_may}
use Rattle.orc_domain.proofs.Seats.{ready_calm}
use Rattle.orc_domain.proofs.Ending.{Ends, between_of, ends_later, pass_of, stage_of}
use Rattle.orc_domain.proofs.Stages.{leaves_by}
use Rattle.orc_domain.proofs.Testing.{look_allowed, tests, tests_between, want_held, want_low}
use Rattle.orc_domain.specs.Passes.{domain_bounds}
use Rattle.orc_sound.specs.Journals.{IsHeldOrNull}
use Rattle.orc_words.specs.Packed.{link_word}
use Rattle.orc_words.specs.declared.packed.RowLink.{RowLink}
use Rattle.orc_words.specs.declared.place.Word.{Word}
use Rattle.orc_domain.proofs.links.OrcDomainLinks.same.Given.{Over}
use Rattle.orc_domain.proofs.links.OrcDomainLinks.same.Goals.{After-link_load-found}
use Rattle.orc_domain.proofs.links.OrcDomainLinks.same.Goals as goal

-- the load, in the words that the caller names
made : (g : Over) (c : After-link_load-found g)
    → Makes (domain_bounds c.args.self.now) (wants (LinkLoad (word_at c.args.place.now) None) (Some (row_link c.args.link.now))) c.args.note
    (shows c.args.p.now.pass) c.link_load-found.result (shows c.link_load-found.new.p)
made g c = subst (λ (z : Word × RowLink). Makes (domain_bounds c.args.self.now) (wants (LinkLoad z.0 None) (Some z.1)) c.args.note (shows c.args.p.now.pass)
    c.link_load-found.result (shows c.link_load-found.new.p)) (λ i. (c.word_at.ensures i, c.row_link-want.ensures i)) c.link_load-found.ensures.makes

ended : (g : Over) (c : After-link_load-found g) → Ends (stage_of c.requires.pass.board) (stage_of c.link_load-found.ensures.belongs)
ended g c =
    let s = stage_of c.requires.pass.board in
    let t = stage_of c.link_load-found.ensures.belongs in
    record {
      between = tests_between s t c.args.place.now c.args.link.now c.args.note c.link_load-found.result (made g c) c.requires.place c.requires.link
          c.requires.pass.ready (between_of c.requires.pass);
      leaves = leaves_by _ _ s t c.link_load-found.result c.link_load-found.ensures.makes tt;
    }

pub link_load-found-requires-clause-allowed : goal.link_load-found-requires-clause-allowed
link_load-found-requires-clause-allowed g c =
    let is = c.requires.pass in
    let s = stage_of is.board in
    subst (λ w. MayDo (domain_bounds c.args.self.now) (shows c.args.p.now.pass) (LinkLoad w None)) (sym c.word_at.ensures)
    (load_may (domain_bounds c.args.self.now) s.view.agent s.view.record_is (word_at c.args.place.now) s.number (ready_calm s.view.record_is is.ready)
    (place_may s c.args.place.now c.requires.place))

pub link_load-found-requires-clause-wanted : goal.link_load-found-requires-clause-wanted
link_load-found-requires-clause-wanted g c =
    let s = stage_of c.requires.pass.board in
    subst (λ (l : RowLink). IsHeldOrNull s.view.record_is l.to) (sym c.row_link-want.ensures) (want_held s c.args.link.now c.requires.link)

pub link_load-found-requires-clause-licensed : goal.link_load-found-requires-clause-licensed
link_load-found-requires-clause-licensed g c link said is noted =
    let k = c.args.self.now.board.words.shape in
    let s = stage_of c.requires.pass.board in
    let same : c.row_link-want.result ≡ link = cc in
    subst (λ (z : Word × RowLink). LookAllowed (g.D.Discipline.may (heap_numbers k)) (domain_bounds c.args.self.now) s.view z.0 z.1 c.args.note)
    (λ i. (sym c.word_at.ensures i, (sym c.row_link-want.ensures ∙ same) i))
    (look_allowed s c.args.place.now c.args.link.now c.args.note c.requires.place c.requires.link c.requires.allowed)

pub pack_link-requires : goal.pack_link-requires
pack_link-requires g c row is =
    let s = stage_of c.requires.pass.board in
    want_low s c.args.link.now c.requires.link row (ap (λ (l : RowLink). l.to) (sym c.row_link-want.ensures) ∙ is)

pub returns-clause-tested : goal.returns-clause-tested
returns-clause-tested g c =
    tests (stage_of c.requires.pass.board) (stage_of c.link_load-found.ensures.belongs) c.args.place.now c.args.link.now c.args.note c.link_load-found.result
    (made g (goal.at.returns-clause-tested g c).After-link_load-found) c.requires.place c.requires.link c.requires.pass.ready
    c.pack_link.result (c.pack_link.ensures.word ∙ ap link_word c.row_link-want.ensures)

pub returns-clause-later : goal.returns-clause-later
returns-clause-later g c = ends_later (ended g (goal.at.returns-clause-later g c).After-link_load-found)

pub returns-clause-pass : goal.returns-clause-pass
returns-clause-pass g c =
    pass_of c.link_load-found.ensures.belongs (ended g (goal.at.returns-clause-pass g c).After-link_load-found).between c.requires.pass.inside

pub returns-clause-taken_in : goal.returns-clause-taken_in
returns-clause-taken_in g c = (ended g (goal.at.returns-clause-taken_in g c).After-link_load-found).leaves
