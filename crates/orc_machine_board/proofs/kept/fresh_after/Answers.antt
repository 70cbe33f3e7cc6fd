use Rattle.std.proofs.Common.{Bool, None, Option, Some, cond, false, refl, sym, true, ℕ, ◌∙◌, ◌≡◌}
use Rattle.std.proofs.lemmas.Bool.{eq-eqb}
use Rattle.std.specs.Prelude.{◌==◌}
use Rattle.orc_core.specs.RecordParts.{same_target}
use Rattle.orc_words.specs.Packed.{link_word}
use Rattle.orc_machine_board.proofs.kept.fresh_after.Goals as goal

-- a fresh row that becomes the target of a link is fresh no more
linked_now : (t : Bool) (fresh new : Option ℕ) (row linked : ℕ) → fresh ≡ Some row → cond t None new ≡ Some linked → row ≡ linked
    → None ≡ cond t fresh (cond (same_target fresh new) None fresh)
linked_now true fresh new row linked f up same = cc
linked_now false fresh new row linked f up same = rw (f, up, same, eq-eqb linked linked refl) refl

pub returns-in-Some-Some : goal.returns-in-Some-Some
returns-in-Some-Some c =
    let there : (c.args.read == link_word c.args.from) ≡ true = eq-eqb c.args.read (link_word c.args.from) (c.if-read-pack_link.true ∙ c.pack_link.ensures.word) in
    rw there (linked_now (same_target c.args.from.to c.args.to.to) c.args.fresh c.args.to.to c.in-Some-Some.row c.in-Some-Some.linked c.in-Some-Some.is-0
    (sym c.to_count.ensures.up ∙ c.in-Some-Some.is-1) c.if-row-linked.true)
