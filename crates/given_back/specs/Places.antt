-- The places to which values are given back.
use Rattle.std.specs.Prelude.{List}
use Rattle.given_back.specs.declared.places.GivenBack.{GivenBack}

-- the tag of each place
abbrev pub tags : {T K G : Type 0} → GivenBack T K G → List G
tags g = g.places.items
