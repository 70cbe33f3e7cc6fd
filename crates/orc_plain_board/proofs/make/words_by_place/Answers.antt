use Rattle.std.proofs.Common.{◌∙◌, ap, arith, subst, sym}
use Rattle.orc_words.specs.Bounds.{bounds_of}
use Rattle.orc_heap.specs.Seeds.{HasRoots}
use Rattle.orc_plain_board.specs.Machine.{numbers, run}
use Rattle.orc_plain_board.specs.Rules.{opening_steps}
use Rattle.orc_plain_board.proofs.Opening.{written_words}
use Rattle.orc_plain_board.proofs.make.words_by_place.Goals.{in-Dummy, in_default}
use Rattle.orc_plain_board.proofs.make.words_by_place.Goals as goal

pub returns-clause-words : goal.returns-clause-words
returns-clause-words g c = elim c.match-seed.branch [
  | in-Dummy w ↦
      let b = bounds_of c.args.shape.now in
      let some = c.args.shape.now.some_rows in
      let roots = subst (HasRoots (numbers b)) w.in-Dummy.is c.requires.roots in
      ap (λ v. v.items) w.words-is
      ∙ (written_words b w.in-Dummy.first w.in-Dummy.begin roots (omega (arith, some)) c.in_ok-words.words.items _ _ _ _ _ _
      c.in_ok-words.ensures.words w.place_of.ensures.place w.place_of-in-Dummy.ensures.place w.place_of-in-Dummy-2.ensures.place
      w.place_of-in-Dummy-3.ensures.place w.place_of-in-Dummy-4.ensures.place w.pack_link-link.ensures.word
      ∙ ap (λ s. (run b (opening_steps s)).words) (sym w.in-Dummy.is))
  | in_default w ↦
      ap (λ v. v.items) w.words-is ∙ (c.in_ok-words.ensures.words ∙ ap (λ s. (run (bounds_of c.args.shape.now) (opening_steps s)).words) (sym w.in_default.is))
]
