use Rattle.std.proofs.Common.{◌∙◌, ap, map, string_bytes}
use Rattle.orc_options.proofs.words.CommandWords.words.Goals as goal

pub returns : goal.returns
returns c = ap (map string_bytes) c.as_slice.ensures.value ∙ c.self.view_is
