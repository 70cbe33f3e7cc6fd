-- Workers before and after their work.
use denote.Param.Members.{Shared}
use Rattle.std.specs.Fn.{FnReturns}
use Rattle.std.specs.Prelude.{◌≡◌, List, ◌++◌}
use Rattle.orc_history.specs.Lists.{Pairwise}

-- to what was there, what each of those that waited has become is appended
pub record Team {X : Type 0} (R : X → X → Type 0) (waiting before after : List X) : Type 0 where
  pub new : List X
  pub is : after ≡ before ++ new
  pub each : Pairwise R waiting new

module _ {W F : Type 0} (g : Shared F (W × Unit {0}) W) (work : F) where
  -- a worker may be given to this work
  abbrev pub MayWork : W → Type 0
  MayWork w = g.pre work (w, tt)

  -- another is what the work may make of a worker
  abbrev pub Worked : W → W → Type 0
  Worked w v = FnReturns g work (w, tt) v
