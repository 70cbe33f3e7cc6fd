use Rattle.std.proofs.Common.{rules, subst, sym}
use Rattle.orc_core.specs.declared.ops.Op.TheVariants.{Fill}
use Rattle.orc_machine_board.specs.Kinds.{MakesPlain, MayDo}
use Rattle.orc_machine_board.specs.Views.{shows}
use Rattle.orc_domain.proofs.Filling.{fill_can, fills, fills_between}
use Rattle.orc_domain.proofs.Ending.{Ends, between_of, ends_later, pass_of, stage_of}
use Rattle.orc_domain.proofs.Stages.{leaves_by}
use Rattle.orc_domain.specs.Passes.{domain_bounds}
use Rattle.orc_domain.proofs.links.OrcDomainLinks.fill.Given.{Over}
use Rattle.orc_domain.proofs.links.OrcDomainLinks.fill.Goals.{After-fill}
use Rattle.orc_domain.proofs.links.OrcDomainLinks.fill.Goals as goal

-- the fill, of the hold's row
made : (g : Over) (c : After-fill g) → MakesPlain (domain_bounds c.args.self.now) (Fill c.args.fresh.now.row c.args.which c.args.value) (shows c.args.p.now.pass)
    c.fill.result (shows c.fill.new.p)
made g c = subst (λ r. MakesPlain (domain_bounds c.args.self.now) (Fill r c.args.which c.args.value) (shows c.args.p.now.pass) c.fill.result
    (shows c.fill.new.p)) c.row.ensures c.fill.ensures.made

ended : (g : Over) (c : After-fill g) → Ends (stage_of c.requires.pass.board) (stage_of c.fill.ensures.belongs)
ended g c =
    let s = stage_of c.requires.pass.board in
    let t = stage_of c.fill.ensures.belongs in
    record {
      between = fills_between s c.args.fresh.now c.requires.fresh c.args.which c.requires.which c.args.value t c.fill.result (made g c)
          (between_of c.requires.pass);
      leaves = leaves_by _ _ s t c.fill.result c.fill.ensures.made tt;
    }

pub fill-requires-clause-allowed : goal.fill-requires-clause-allowed
fill-requires-clause-allowed g c =
    subst (λ r. MayDo (domain_bounds c.args.self.now) (shows c.args.p.now.pass) (Fill r c.args.which c.args.value)) (sym c.row.ensures)
    (fill_can (stage_of c.requires.pass.board) c.args.fresh.now c.requires.fresh c.args.which c.requires.which c.args.value c.requires.pass.ready)

pub returns : goal.returns
returns g c =
    let e = ended g (goal.at.returns g c).After-fill in
    let filled = fills (stage_of c.requires.pass.board) c.args.fresh.now c.requires.fresh c.args.which c.requires.which c.args.value
    (stage_of c.fill.ensures.belongs) c.fill.result (made g (goal.at.returns g c).After-fill) in
    let pass = pass_of c.fill.ensures.belongs e.between c.requires.pass.inside in
    let later = ends_later e in
    search rules
