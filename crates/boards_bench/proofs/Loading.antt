-- A load of a root's link is allowed to an agent with nothing in hand.
use Rattle.std.proofs.Common.{None, Option, true, ap, ℕ, ◌<◌, ◌≡◌}
use Rattle.std.proofs.lemmas.Bool.{lt-ltb}
use Rattle.std.specs.Prelude.{◌&&◌}
use Rattle.orc_core.specs.Allowed.{forced, in_order, may}
use Rattle.orc_core.specs.declared.ops.Op.TheVariants.{LinkLoad}
use Rattle.orc_core.specs.declared.records.Agent.{Agent}
use Rattle.orc_core.specs.declared.records.Reading.{Reading}
use Rattle.orc_machine_board.specs.Passes.{HasNothing}
use Rattle.orc_words.specs.Bounds.{Bounds}
use Rattle.orc_words.specs.declared.place.Word.TheVariants.{Root}

pub idle_may : (b : Bounds) (a : ℕ) (d : Agent) → a < b.agents → 0 < b.roots → HasNothing d → may b 0 a (LinkLoad (Root 0) None) d ≡ true
idle_may b a d low some q =
    let agent = lt-ltb a b.agents low in
    let root = lt-ltb 0 b.roots some in
    let first : forced d (LinkLoad (Root 0) None) ≡ true =
    ap (λ (z : Option Reading × Option ℕ × Option ℕ). in_order z.0 z.1 z.2 (LinkLoad (Root 0) None)) (λ i. (q.due i, q.inc i, q.dec i)) in
    λ i. ((agent i && q.enrolled i) && first i) && root i
