-- The command is simple.
use Rattle.std.proofs.Common.{◌≡◌, true, List, refl}
use Rattle.std.specs.Borrow.{Bor}
use Rattle.clap.proofs.OnLiterals.{clap_on_literals}
use Rattle.clap.specs.Words.{App, Text, is_simple}
use Rattle.clap.specs.Faults.{is_simple_and_free}
use Rattle.orc_options.specs.Options.{IsCommand, command_app}

free : (modes answers sets : Bor (List (Bor Text))) → is_simple_and_free (command_app modes answers sets) ≡ true
unfolding clap_on_literals
free modes answers sets = refl

simple : (modes answers sets : Bor (List (Bor Text))) → is_simple (command_app modes answers sets) ≡ true
unfolding clap_on_literals
simple modes answers sets = refl

pub command_free : (a : App) → IsCommand a → is_simple_and_free a ≡ true
command_free a o = rw o.app (free o.modes o.answers o.sets)

pub command_simple : (a : App) → IsCommand a → is_simple a ≡ true
command_simple a o = rw o.app (simple o.modes o.answers o.sets)
