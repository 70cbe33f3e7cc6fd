use Rattle.std.proofs.Common.{◌≡◌, ◌≤◌, ◌-◌, ◌==◌, ◌||◌, count_by, slice_index}
use Rattle.std.specs.List.{range_with_len}
use Rattle.orc_jobs.specs.JobValue.{starts_word}
use Rattle.orc_jobs.proofs.value.words_in.Given as goal

abbrev pub invariant-loop-byte : goal.invariant-loop-byte
invariant-loop-byte l = record {
  count : l.words ≡ count_by (starts_word l.text) (range_with_len 0 l.byte-index);
  room : l.words ≤ l.byte-index;
  before : (l.before == 32) ≡ ((l.byte-index == 0) || (slice_index l.text (l.byte-index - 1) == 32));
}
