use Rattle.orc_split_rule.proofs.Coming.{key_absent, key_present}
use Rattle.orc_split_rule.proofs.laws.keys_absent_and_present.Goals as goal

pub returns : goal.returns
returns c = record { absent = key_absent; present = key_present }
