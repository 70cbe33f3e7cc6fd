use Rattle.std.proofs.Common.{◌≡◌, ◌∙◌, ◌%◌, ◌++◌, ◌∷◌, [], ap, decimal, sym, rules}
use Rattle.std.specs.List.{join_with_byte}
use Rattle.orc_jobs.specs.Generated.{behind, drawn, draws}
use Rattle.orc_job_files.proofs.GeneratedLines.{behind-one_more, length-draws, numbers-one_more, pieces_of}
use Rattle.orc_job_files.proofs.generated.numbers.Goals as goal

pub loop-at-preserved : goal.loop-at-preserved
loop-at-preserved c =
    let draw : c.drawn-draw.result ≡ drawn (behind c.loop-at.at c.args.state) = c.drawn-draw.ensures ∙ ap drawn c.loop-at.invariant.draw in
    let piece : c.as_str.result.now ≡ decimal (drawn (behind c.loop-at.at c.args.state) % 1000) = search rules in
    record {
      text = c.in_ok-push_piece.ensures (pieces_of (draws c.loop-at.at c.args.state)) (length-draws c.loop-at.at c.args.state) c.loop-at.invariant.text
          ∙ (ap (λ p. join_with_byte 32 (pieces_of (draws c.loop-at.at c.args.state) ++ p ∷ [])) piece
          ∙ ap (join_with_byte 32) (sym (numbers-one_more c.loop-at.at c.args.state)));
      draw = draw ∙ sym (behind-one_more c.loop-at.at c.args.state);
    }
