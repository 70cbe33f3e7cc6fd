use Rattle.std.proofs.Common.{None, Some, ap, arith, eq-eqb, subst, sym, ◌∙◌, ◌≡◌, ◌≤◌}
use Rattle.std.proofs.lemmas.Bool.{eqb-true, false≢true}
use Rattle.std.specs.Prelude.{◌/◌}
use Rattle.orc_core.specs.declared.ops.Op.TheVariants.{LinkLoad}
use Rattle.orc_domain.proofs.Loading.{is_low, known_low}
use Rattle.orc_domain.proofs.Ending.{stage_of}
use Rattle.orc_domain.specs.Passes.{domain_bounds}
use Rattle.orc_machine_board.specs.Kinds.{MakesPlain}
use Rattle.orc_machine_board.specs.Views.{shows}
use Rattle.orc_projection.proofs.Links.{word_back}
use Rattle.orc_words.specs.Packed.{link_of, link_word}
use Rattle.orc_domain.proofs.domain.OrcDomain.read_again.Goals as goal

pub pack_link-requires : goal.pack_link-requires
pack_link-requires g c row is = known_low c.args.one c.requires.known row is

pub returns-clause-again : goal.returns-clause-again
returns-clause-again g c =
    let e = c.link_load-word.ensures in
    let n = c.link_load-word.result in
    let s = stage_of c.requires.belongs in
    let t = stage_of e.belongs in
    let low = is_low s t c.args.at (Some c.args.slot) None None n e.makes c.requires.allowed tt in
    let half : n / 2 ≤ 65535 = omega (arith, low) in
    let back : link_word (link_of n) ≡ n = word_back n half in
    record {
      two = link_of n;
      reread = record {
        belongs = e.belongs;
        made = subst (λ z. MakesPlain (domain_bounds c.args.self.now) (LinkLoad c.args.at (Some c.args.slot)) (shows c.args.p.now) z
            (shows c.link_load-word.new.p)) (sym back) e.makes;
        is = ap link_of back;
      };
      stays = λ h. ap link_of (eqb-true n c.pack_link.result h) ∙ c.pack_link.ensures.read;
      moves = λ h same. false≢true (sym h ∙ eq-eqb n c.pack_link.result (sym back ∙ (ap link_word same ∙ sym c.pack_link.ensures.word)));
    }
