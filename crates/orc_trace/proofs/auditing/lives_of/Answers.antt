use Rattle.std.proofs.Common.{ap, ap₂, arith, sym, [], ◌++◌, ◌∙◌, ◌∷◌}
use Rattle.std.proofs.lemmas.List.FromFn.{map-range_with_len_more}
use Rattle.orc_words.specs.Packed.{gate_of}
use Rattle.orc_words.specs.declared.place.Word.TheVariants.{Gate}
use Rattle.orc_core.specs.Machine.{word_in}
use Rattle.orc_trace.proofs.auditing.lives_of.Goals as goal

pub loop-row-preserved : goal.loop-row-preserved
loop-row-preserved c =
    c.in_ok-push.ensures.ok ∙
    ap₂ (λ xs x. xs ++ x ∷ []) c.loop-row.invariant (ap (λ g. g.life) (c.read_gate-gate.ensures.gate ∙ ap gate_of c.word.ensures)) ∙
    sym (map-range_with_len_more (λ r. (gate_of (word_in c.args.state.now (Gate r))).life) 0 c.loop-row.row c.loop-row.row (omega arith))
