use Rattle.std.proofs.Common.{None, Option, Some, [], arith, inl, refl, slice_get, true, ℕ, ◌<◌, ◌^◌, ◌∷◌, ◌≡◌}
use Rattle.std.specs.Int.{reverse_bits_onto}
use Rattle.orc_heap.specs.Allowed.{HasNullSide}
use Rattle.orc_heap.specs.Heap.{Heap, Node, link_to, null, shown}
use Rattle.orc_heap.specs.declared.events.Link.{Link}
use Rattle.orc_heap.specs.declared.events.Place.{Place}
use Rattle.orc_heap.specs.declared.events.Place.TheVariants.{Next, Root}
use Rattle.orc_ordered_chains.specs.Chains.{IsPlaceBelow, IsPlaceOnChain}
use Rattle.orc_ordered_chains.proofs.Linking.{may_link}
use Rattle.orc_split_rule.specs.SplitDiscipline.{MayAdd}
use Rattle.orc_split_rule.specs.SplitOrder.{dummy_place, key_place, place_of, reversed, split_order}
use Rattle.orc_split_rule.specs.Watches.{node_to_link}
use Rattle.container_tests.proofs.tests.split_rule.a_set_that_grows.Goals as goal

one_is : reversed 1 ≡ 2 ^ 63
unfolding reversed reverse_bits_onto
one_is = refl

two_is : reversed 2 ≡ 2 ^ 62
unfolding reversed reverse_bits_onto
two_is = refl

-- with one link a node there is no second one
no_side : (link : Link) → ◌≡◌ {A = Option Link} None (Some link) → link ≡ null
no_side link at = cc

-- an Added true of a fresh node, at a place that shows null
abbrev may_add : (h : Heap) (place : Place) (id agent key : ℕ) → slice_get h.nodes id ≡ Some (node_to_link agent key 1 None) → HasNullSide h id
    → IsPlaceOnChain h 0 place × IsPlaceBelow split_order h place (key_place key) → MayAdd h place null (link_to id) key
may_add h place id agent key there side_null on = record {
  links = may_link split_order h place null [] (key_place key) id (node_to_link agent key 1 None) on refl there refl refl refl refl tt side_null;
  first_is = refl;
  second_is = refl;
}

-- the place behind the key 2
abbrev behind_two : (h : Heap) (node : Node) (rank : ℕ) → shown h (Root 0) ≡ Some (link_to 0) → slice_get h.nodes 0 ≡ Some node → node.linked ≡ true
    → place_of node.first node.second ≡ Some (key_place 2) → key_place 2 < rank → IsPlaceOnChain h 0 (Next 0) × IsPlaceBelow split_order h (Next 0) rank
behind_two h node rank at there linked rank_is less = (
  record { over = []; path = record { link = link_to 0; at = at; to_is = refl } },
  (key_place 2, record { node = node; there = there; linked = linked; rank_is = rank_is }, less),
)

two_before_one : key_place 2 < key_place 1
two_before_one = omega (arith, one_is, two_is)

two_before_bucket : key_place 2 < dummy_place 1
two_before_bucket = omega (arith, one_is, two_is)

pub returns : goal.returns
returns c = (
  (
    record { fits = tt; may_act = refl; own = tt },
    (
      record { fits = (record { node = _; there = refl; mine = refl; unlinked = refl }, omega arith); may_act = refl; own = tt },
      (
        record { fits = (record { node = _; there = refl; mine = refl; unlinked = refl }, omega arith); may_act = refl; own = tt },
        (
          record { fits = (refl, record { node = _; there = refl; known = inl refl }); may_act = (refl, may_add _ (Root 0) 0 0 2 refl no_side (refl, tt)); own = refl },
          (
            record { fits = tt; may_act = refl; own = tt },
            (
              record { fits = (record { node = _; there = refl; mine = refl; unlinked = refl }, omega arith); may_act = refl; own = tt },
              (
                record { fits = (record { node = _; there = refl; mine = refl; unlinked = refl }, omega arith); may_act = refl; own = tt },
                (
                  record {
                    fits = (refl, record { node = _; there = refl; known = inl refl });
                    may_act = (refl, may_add _ (Next 0) 1 1 1 refl no_side (behind_two _ _ _ refl refl refl refl two_before_one));
                    own = refl;
                  },
                  (
                    record { fits = tt; may_act = refl; own = tt },
                    (
                      record { fits = (record { node = _; there = refl; mine = refl; unlinked = refl }, omega arith); may_act = refl; own = tt },
                      (
                        record { fits = (record { node = _; there = refl; mine = refl; unlinked = refl }, omega arith); may_act = refl; own = tt },
                        (
                          record {
                            fits = (refl, record { node = _; there = refl; known = inl refl });
                            may_act = (
                              refl,
                              record {
                                some = omega arith;
                                plain = refl;
                                id = 2;
                                to_is = refl;
                                node = _;
                                there = refl;
                                unlinked = refl;
                                first_is = refl;
                                second_is = refl;
                                own_null = refl;
                                side_null = no_side;
                                most_is = omega arith;
                              },
                            );
                            own = tt;
                          },
                          (
                            record { fits = tt; may_act = refl; own = tt },
                            (
                              record { fits = (record { node = _; there = refl; mine = refl; unlinked = refl }, omega arith); may_act = refl; own = tt },
                              (
                                record { fits = (record { node = _; there = refl; mine = refl; unlinked = refl }, omega arith); may_act = refl; own = tt },
                                (
                                  record {
                                    fits = (record { node = _; there = refl; mine = refl; unlinked = refl }, record { node = _; there = refl; known = inl refl });
                                    may_act = refl;
                                    own = tt;
                                  },
                                  (
                                    record {
                                      fits = (refl, record { node = _; there = refl; known = inl refl });
                                      may_act = record {
                                        bucket = 1;
                                        low = omega arith;
                                        high = omega arith;
                                        links = may_link split_order _ (Next 0) (link_to 1) [] (dummy_place 1) 3 (node_to_link 1 1 0 (Some 1))
                                            (behind_two _ _ _ refl refl refl refl two_before_bucket) refl refl refl refl refl refl (key_place 1, record { node = _; there = refl; linked = refl; rank_is = refl }, omega arith) no_side;
                                        first_is = refl;
                                        second_is = refl;
                                      };
                                      own = tt;
                                    },
                                    (
                                      record {
                                        fits = (refl, record { node = _; there = refl; known = inl refl });
                                        may_act = record {
                                          low = omega arith;
                                          high = omega arith;
                                          from_is = refl;
                                          id = 3;
                                          to_is = refl;
                                          dummy = record { node = _; there = refl; linked = refl; first_is = refl; second_is = refl };
                                          on_chain = record { over = 0 ∷ []; path = (record { link = _; at = refl; to_is = refl }, record { link = _; at = refl; to_is = refl }) };
                                        };
                                        own = tt;
                                      },
                                      (
                                        record { fits = refl; may_act = refl; own = refl },
                                        tt,
                                      ),
                                    ),
                                  ),
                                ),
                              ),
                            ),
                          ),
                        ),
                      ),
                    ),
                  ),
                ),
              ),
            ),
          ),
        ),
      ),
    ),
  ),
  refl,
  refl,
  (record { link = _; at = refl; to_is = refl }, (record { link = _; at = refl; to_is = refl }, record { link = _; at = refl; to_is = refl })),
)
