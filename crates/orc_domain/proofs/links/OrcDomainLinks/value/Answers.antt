use Rattle.std.proofs.Common.{rules, subst, sym}
use Rattle.orc_core.specs.declared.ops.Op.TheVariants.{Read}
use Rattle.orc_machine_board.specs.Kinds.{MakesPlain, MayDo}
use Rattle.orc_machine_board.specs.Views.{shows}
use Rattle.orc_domain.proofs.Reading.{may_read, read_between, read_only, reads_value}
use Rattle.orc_domain.proofs.Ending.{Ends, between_of, ends_later, pass_of, stage_of}
use Rattle.orc_domain.proofs.Stages.{leaves_by}
use Rattle.orc_domain.specs.Passes.{domain_bounds}
use Rattle.orc_domain.proofs.links.OrcDomainLinks.value.Given.{Over}
use Rattle.orc_domain.proofs.links.OrcDomainLinks.value.Goals.{After-read}
use Rattle.orc_domain.proofs.links.OrcDomainLinks.value.Goals as goal

-- the read, of the hold's row
made : (g : Over) (c : After-read g)
    → MakesPlain (domain_bounds c.args.self.now) (Read c.args.h.now.row c.args.which) (shows c.args.p.now.pass) c.read.result (shows c.read.new.p)
made g c = subst (λ r. MakesPlain (domain_bounds c.args.self.now) (Read r c.args.which) (shows c.args.p.now.pass) c.read.result (shows c.read.new.p))
    c.row.ensures c.read.ensures.made

ended : (g : Over) (c : After-read g) → Ends (stage_of c.requires.pass.board) (stage_of c.read.ensures.belongs)
ended g c =
    let s = stage_of c.requires.pass.board in
    let t = stage_of c.read.ensures.belongs in
    record {
      between = read_between s c.args.h.now c.requires.held c.args.which c.requires.which t c.read.result (made g c) (between_of c.requires.pass);
      leaves = leaves_by _ _ s t c.read.result c.read.ensures.made tt;
    }

pub read-requires-clause-allowed : goal.read-requires-clause-allowed
read-requires-clause-allowed g c =
    subst (λ r. MayDo (domain_bounds c.args.self.now) (shows c.args.p.now.pass) (Read r c.args.which)) (sym c.row.ensures)
    (may_read (stage_of c.requires.pass.board) c.args.h.now c.requires.held c.args.which c.requires.which c.requires.pass.ready)

pub returns : goal.returns
returns g c =
    let e = ended g (goal.at.returns g c).After-read in
    let reads = reads_value (stage_of c.requires.pass.board) c.args.h.now c.requires.held c.args.which c.requires.which (stage_of c.read.ensures.belongs)
    c.read.result (made g (goal.at.returns g c).After-read) in
    let nothing = read_only (stage_of c.requires.pass.board) c.args.h.now c.requires.held c.args.which c.requires.which (stage_of c.read.ensures.belongs)
    c.read.result (made g (goal.at.returns g c).After-read) in
    let pass = pass_of c.read.ensures.belongs e.between c.requires.pass.inside in
    let later = ends_later e in
    search rules
