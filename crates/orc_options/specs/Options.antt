-- The one command, as `clap` sees it.
use Rattle.std.specs.Prelude.{◌≡◌, ◌∷◌, [], List, Some, codes, map, pos, true}
use Rattle.std.specs.Borrow.{Bor}
use Rattle.clap.specs.Words.{App, Rule, Text, new_app, new_rule, with_rule}
use Rattle.clap.specs.declared.builder.value_parser.ValueParser.TheVariants as vp
use Rattle.orc_options.specs.Ranges.{Range}
use Rattle.orc_options.specs.Ranges as ranges

-- an option with a number in a range
abbrev pub number_rule : Text → Range → Rule
number_rule id range = record (new_rule id) {
  long = Some id;
  parser = Some (vp.Signed (pos range.low) (pos range.high));
  defaults = range.default ∷ [];
}

-- an option with one of these words
abbrev pub choice_rule : Text → Text → Bor (List (Bor Text)) → Rule
choice_rule id default names = record (new_rule id) {
  long = Some id;
  parser = Some (vp.Names names);
  defaults = default ∷ [];
}

-- the command without options, whose words come without the program's name
abbrev pub first_app : App
first_app =
    let a = new_app (codes "mooringakee") in
    record a { top = record a.top { no_binary_name = true } }

-- the command, where `modes`, `answers` and `sets` are the words that the program holds
abbrev pub command_app : (modes answers sets : Bor (List (Bor Text))) → App
command_app modes answers sets =
    with_rule (with_rule (with_rule (with_rule (with_rule (with_rule (with_rule (with_rule (with_rule (with_rule first_app
    (choice_rule (codes "mode") (codes "run") modes))
    (choice_rule (codes "rest") (codes "no") answers))
    (choice_rule (codes "set") (codes "list") sets))
    (number_rule (codes "posters") ranges.posters))
    (number_rule (codes "takers") ranges.takers))
    (number_rule (codes "stages") ranges.stages))
    (number_rule (codes "rows") ranges.rows))
    (number_rule (codes "buckets") ranges.buckets))
    (number_rule (codes "seed") ranges.seed))
    (number_rule (codes "lines") ranges.lines)

-- the one simple command, with its options
pub record IsCommand (a : App) : Type 0 where
  pub modes : Bor (List (Bor Text))
  pub answers : Bor (List (Bor Text))
  pub sets : Bor (List (Bor Text))
  pub mode_words : map (λ n. n.now) modes.now ≡ codes "run" ∷ codes "make" ∷ codes "trial" ∷ codes "replay" ∷ codes "audit" ∷ codes "watch" ∷ codes "stages" ∷ []
  pub answer_words : map (λ n. n.now) answers.now ≡ codes "yes" ∷ codes "no" ∷ []
  pub set_words : map (λ n. n.now) sets.now ≡ codes "list" ∷ codes "split" ∷ []
  pub app : a ≡ command_app modes answers sets
