use Rattle.std.proofs.Common.{ap, subst, sym, ◌++◌, ◌∙◌, ◌≡◌}
use Rattle.orc_shared_words.proofs.Seats.{one_number}
use Rattle.orc_shared_words.proofs.shared_words.SharedWords.step.Goals as goal

pub keep-requires : goal.keep-requires
keep-requires g c =
    let r = g.M.Machine.rules in
    let k = c.args.self.now.shape in
    let op = c.args.op.now in
    let p = c.args.p.now in
    let v = p.seat.me.0 in
    let s = c.make_step-n.ensures.step in
    let j = v.seen ++ s.between in
    let one : s.agent ≡ p.agent = one_number v.agent p.agent s.agent p.named s.is in
    let may : r.allowed k s.agent op (r.own k j s.agent) =
    subst (r.allowed k s.agent op) (sym s.met.mine) (subst (λ z. r.allowed k z op v.own) (sym one) c.requires.allowed) in
    let room : g.M.Machine.has_room k op (r.own k j s.agent) s.found =
    subst (g.M.Machine.has_room k op (r.own k j s.agent)) (sym s.read) (g.M.Machine.leaves_room k j s.agent op s.met.lawful may) in record {
      room = (
        v.own,
        s.found,
        p.mine,
        c.requires.allowed,
        subst (λ z. c.make_step-n.result ≡ r.answer k z op v.own s.found) one s.answers,
        subst (λ z. g.M.Machine.has_room k op z s.found) s.met.mine room,
      );
    }

pub make_step-n-requires-clause-licensed : goal.make_step-n-requires-clause-licensed
make_step-n-requires-clause-licensed g c = c.requires.licensed

pub returns-clause-step : goal.returns-clause-step
returns-clause-step g c = c.make_step-n.ensures.step

pub invariant_of-p : goal.invariant_of-p
invariant_of-p g c =
    let r = g.M.Machine.rules in
    let k = c.args.self.now.shape in
    let op = c.args.op.now in
    let p = c.args.p.now in
    let v = p.seat.me.0 in
    let s = c.make_step-n.ensures.step in
    let j = v.seen ++ s.between in
    let one : s.agent ≡ p.agent = one_number v.agent p.agent s.agent p.named s.is in
    let may : r.allowed k s.agent op (r.own k j s.agent) =
    subst (r.allowed k s.agent op) (sym s.met.mine) (subst (λ z. r.allowed k z op v.own) (sym one) c.requires.allowed) in
    let room : g.M.Machine.has_room k op (r.own k j s.agent) s.found =
    subst (g.M.Machine.has_room k op (r.own k j s.agent)) (sym s.read) (g.M.Machine.leaves_room k j s.agent op s.met.lawful may) in
    let kept = c.keep.ensures.after v.own s.found p.mine c.requires.allowed (subst (λ z. c.make_step-n.result ≡ r.answer k z op v.own s.found) one s.answers)
    (subst (λ z. g.M.Machine.has_room k op z s.found) s.met.mine room) in
    record {
      named = s.same ∙ (sym s.is ∙ p.named);
      mine = subst (λ w. g.M.Machine.tied w c.keep.new.own) (sym (s.mine ∙ ap (λ z. r.after k z op v.own s.found) one)) kept;
      holds_none = c.make_step-n.ensures.slots ∙ p.holds_none;
    }
