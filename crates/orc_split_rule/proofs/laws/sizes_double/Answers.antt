use Rattle.orc_split_rule.proofs.Sizes.{size_is_power, size_later, size_next}
use Rattle.orc_split_rule.proofs.laws.sizes_double.Goals as goal

pub returns : goal.returns
returns c = record {
  power = size_is_power;
  grow = λ n seen e some holds may is. (size_next n seen e some holds may).doubles is;
  same = λ n seen e some holds may ne. (size_next n seen e some holds may).keeps ne;
  never_falls = size_later;
}
