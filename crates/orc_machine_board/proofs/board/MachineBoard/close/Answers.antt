use Rattle.std.proofs.Common.{Some, ap, inl, inr, sym, ℕ, ◌∙◌, ⊎_elim}
use Rattle.orc_machine_board.proofs.board.MachineBoard.close.Goals as goal

pub close-requires-clause-all : goal.close-requires-clause-all
close-requires-clause-all g c = λ b lt. ⊎_elim (λ e. inl (c.args.p.pass.named ∙ ap (λ (z : ℕ). Some z) (sym e))) (λ there. inr there) (c.requires.all b lt)
