-- The events that a domain begins with tell its seed.
use Rattle.std.proofs.Common.{List, Option, Some, ap, refl, sym, ◌∙◌, ◌∷◌, ◌≡◌}
use Rattle.orc_heap.specs.Seeds.{opening_events}
use Rattle.orc_heap.specs.declared.events.Act.{Act}
use Rattle.orc_heap.specs.declared.events.Act.TheVariants.{Fill}
use Rattle.orc_heap.specs.declared.events.Event.{Event}
use Rattle.orc_heap.specs.declared.seed.Seed.{Seed}
use Rattle.orc_heap.specs.declared.seed.Seed.TheVariants.{Dummy, Empty}

module _ {N : Type 0} where
  -- the seed of a dummy whose second value was filled by this act, and whose first link has this note
  abbrev seed_by : Act → Option N → Seed N
  seed_by (Fill id which first) (Some begin) = Dummy first begin
  seed_by act _ = Empty

  -- the seed that these events are of
  abbrev seed_in : List (Event N) → Seed N
  seed_in (a ∷ (b ∷ (c ∷ (d ∷ es)))) = seed_by c.act d.note
  seed_in es = Empty

  told : (s : Seed N) → seed_in (opening_events s) ≡ s
  told Empty = refl
  told (Dummy first begin) = refl

  -- no two seeds begin alike
  pub seed_told : (s t : Seed N) → opening_events s ≡ opening_events t → s ≡ t
  seed_told s t same = sym (told s) ∙ (ap seed_in same ∙ told t)
