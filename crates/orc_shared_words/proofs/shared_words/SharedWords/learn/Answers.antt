use Rattle.orc_shared_words.proofs.Passes.{learns}
use Rattle.orc_shared_words.proofs.shared_words.SharedWords.learn.Goals as goal

pub returns-clause-learned : goal.returns-clause-learned
returns-clause-learned g c =
    learns g.M.Machine.rules.by c.args.into.now.seat.me.0 c.args.from.now.seat.me.0 c.take_note.new.into.seat.me.0 c.take_note.new.from.seat.me.0
    c.take_note-2.new.from.seat.me.0 c.take_note-2.new.into.seat.me.0 c.take_note.ensures.views.1 c.take_note-2.ensures.views.1
    c.take_note.ensures.views.0 c.take_note-2.ensures.views.0
