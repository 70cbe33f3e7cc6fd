-- The shape is in range, and its buckets are.
use Rattle.std.proofs.Common.{IfSome, None, Option, Some, refl}
use Rattle.mooringakee_c_passes.proofs.make.split_shape_of.Goals as goal

if_some : {A : Type 0} (o : Option A) (P Q : A → Type 0) → ((a : A) → P a → Q a) → IfSome o P → IfSome o Q
if_some (Some a) P Q leads h = leads a h
if_some None P Q leads h = tt

pub returns-clause-in_range : goal.returns-clause-in_range
returns-clause-in_range c =
    if_some c.shape_of.result _ _ (λ shape can. (c.if-not-is_size.ensures.0 refl, can)) c.shape_of.ensures.in_range

pub returns-clause-out_of_range : goal.returns-clause-out_of_range
returns-clause-out_of_range c none can = c.shape_of.ensures.out_of_range none can.1
