use Rattle.std.proofs.Common.{◌≡◌, ◌∙◌, ◌+◌, true, false, arith, sym}
use Rattle.orc_jobs.specs.JobValue.{starts_word}
use Rattle.orc_jobs.proofs.JobValues.{before-next, count_by-places, starts_word-kept}
use Rattle.orc_jobs.proofs.value.words_in.Goals as goal
use Rattle.orc_jobs.proofs.value.words_in.Goals.{else-begins_word, then-begins_word}

pub loop-byte-preserved : goal.loop-byte-preserved
loop-byte-preserved c =
    let text = c.args.text.now in
    let place = c.loop-byte.byte-index in
    let inv = c.loop-byte.invariant in
    let begins = starts_word-kept text place c.loop-byte.before inv.before ∙ sym c.begins_word.ensures in
    let room = inv.room in
    elim c.if-begins_word.branch [
      | then-begins_word w ↦
          let more = w.words-is in
          record {
            count = more ∙ count_by-places (starts_word text) place c.loop-byte.words true inv.count (begins ∙ w.if-begins_word.true);
            room = omega (arith, more, room);
            before = rw w.before-is (before-next text place);
          }
      | else-begins_word w ↦
          let same = w.words-is in
          let none : c.loop-byte.words ≡ c.loop-byte.words + 0 = omega arith in
          record {
            count = same ∙ none ∙ count_by-places (starts_word text) place c.loop-byte.words false inv.count (begins ∙ w.if-begins_word.false);
            room = omega (arith, same, room);
            before = rw w.before-is (before-next text place);
          }
    ]
