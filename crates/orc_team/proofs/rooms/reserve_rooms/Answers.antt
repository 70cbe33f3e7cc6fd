use Rattle.std.proofs.Common.{rules, ◌≡◌, ◌+◌, ◌++◌, ◌∷◌, [], length, subst, arith, length-append}
use Rattle.orc_team.specs.Seats.{IsRoom}
use Rattle.orc_team.proofs.Numbered.{EachFrom-snoc}
use Rattle.orc_team.proofs.rooms.reserve_rooms.Goals as goal

pub loop-index-preserved : goal.loop-index-preserved
loop-index-preserved g c =
    let P = IsRoom g.F.Fn c.args.room.now in
    let made = c.in_ok-made.made in
    let before = c.loop-index.rooms.items in
    let at : c.loop-index.index + 1 ≡ 1 + length before = omega (arith, c.loop-index.invariant.many) in
    let first : P (c.loop-index.index + 1) made = search rules in
    let one : P (1 + length before) made = subst (λ n. P n made) at first in
    let more = EachFrom-snoc P 1 before made c.loop-index.invariant.rooms one in
    let is : c.push.new.self.items ≡ before ++ made ∷ [] = search rules in
    record { rooms = rw is more; many = rw is (omega (arith, c.loop-index.invariant.many, length-append before (made ∷ []))) }
