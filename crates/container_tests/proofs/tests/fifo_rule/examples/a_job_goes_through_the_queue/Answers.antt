use Rattle.std.proofs.Common.{[], arith, inl, inr, refl}
use Rattle.container_tests.proofs.Putting.{may_put, opening_allowed}
use Rattle.container_tests.proofs.tests.fifo_rule.examples.a_job_goes_through_the_queue.Goals as goal

pub returns : goal.returns
returns c =
    let o = opening_allowed in (
      (
        o.0,
        (
          o.1.0,
          (
            o.1.1.0,
            (
              o.1.1.1.0,
              (
                record { fits = tt; may_act = tt; in_time = tt; may_enter = tt },
                (
                  record { fits = (record { node = _; there = refl; mine = refl; unlinked = refl }, omega arith); may_act = tt; in_time = tt; may_enter = tt },
                  (
                    record { fits = (record { node = _; there = refl; mine = refl; unlinked = refl }, omega arith); may_act = tt; in_time = tt; may_enter = tt },
                    (
                      record {
                        fits = (refl, record { node = _; there = refl; known = inl refl });
                        may_act = may_put _ _ 1 _ _ _ _ refl refl (omega arith);
                        in_time = refl;
                        may_enter = (refl, (refl, tt));
                      },
                      (
                        record {
                          fits = (refl, record { node = _; there = refl; known = inl refl });
                          may_act = record { root_is = refl; steps = record { id = 0; next = 1; from_is = refl; to_is = refl; successor = refl } };
                          in_time = refl;
                          may_enter = tt;
                        },
                        (
                          record {
                            fits = (refl, record { node = _; there = refl; known = inr refl });
                            may_act = record {
                              root_is = refl;
                              steps = record { id = 0; next = 1; from_is = refl; to_is = refl; successor = refl };
                              tail_apart = λ e. cc;
                            };
                            in_time = refl;
                            may_enter = (refl, (refl, ([], refl, tt)));
                          },
                          (
                            record {
                              fits = refl;
                              may_act = record { head_is = refl; link_is = refl };
                              in_time = refl;
                              may_enter = (refl, (refl, ([], refl, (refl, tt))));
                            },
                            tt,
                          ),
                        ),
                      ),
                    ),
                  ),
                ),
              ),
            ),
          ),
        ),
      ),
      refl,
      refl,
      refl,
      refl,
      refl,
      refl,
      refl,
      refl,
      refl,
      refl,
    )
