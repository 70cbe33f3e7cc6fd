use Rattle.std.proofs.Common.{[], arith, inl, inr, refl, ◌∷◌}
use Rattle.container_tests.proofs.Adding.{may_add}
use Rattle.container_tests.proofs.tests.chain_rule.examples.a_chain_of_three.Goals as goal

pub returns : goal.returns
returns c = (
  (
    record { fits = tt; may_act = refl; own = tt },
    (
      record { fits = (record { node = _; there = refl; mine = refl; unlinked = refl }, omega arith); may_act = refl; own = tt },
      (
        record {
          fits = (refl, record { node = _; there = refl; known = inl refl });
          may_act = (refl, may_add 1 _ _ _ 0 _ 5 _ _ _ [] refl refl tt refl refl tt);
          own = refl;
        },
        (
          record { fits = tt; may_act = refl; own = tt },
          (
            record { fits = (record { node = _; there = refl; mine = refl; unlinked = refl }, omega arith); may_act = refl; own = tt },
            (
              record {
                fits = (record { node = _; there = refl; mine = refl; unlinked = refl }, record { node = _; there = refl; known = inr refl });
                may_act = refl;
                own = tt;
              },
              (
                record {
                  fits = (refl, record { node = _; there = refl; known = inl refl });
                  may_act = (
                    refl,
                    may_add 1 _ _ _ 1 _ 3 _ _ _ [] refl refl tt refl refl (5, record { node = _; there = refl; linked = refl; rank_is = refl }, omega arith),
                  );
                  own = refl;
                },
                (
                  record { fits = tt; may_act = refl; own = tt },
                  (
                    record { fits = (record { node = _; there = refl; mine = refl; unlinked = refl }, omega arith); may_act = refl; own = tt },
                    (
                      record {
                        fits = (refl, record { node = _; there = refl; known = inl refl });
                        may_act = (
                          refl,
                          may_add 1 _ _ _ 2 _ 9 _ _ _ [] refl
                              (record { over = 1 ∷ []; path = (record { link = _; at = refl; to_is = refl }, record { link = _; at = refl; to_is = refl }) })
                              (5, record { node = _; there = refl; linked = refl; rank_is = refl }, omega arith) refl refl tt,
                        );
                        own = refl;
                      },
                      (record { fits = refl; may_act = (refl, refl); own = refl }, tt),
                    ),
                  ),
                ),
              ),
            ),
          ),
        ),
      ),
    ),
  ),
  refl,
  refl,
  (record { link = _; at = refl; to_is = refl }, (record { link = _; at = refl; to_is = refl }, record { link = _; at = refl; to_is = refl })),
)
