-- The events of a cell's calls are allowed in every later journal.
use Rattle.std.proofs.Common.{List, None, Option, Some, [], ap, false, inl, inr, refl, subst, sym, ℕ, ◌++◌, ◌∙◌, ◌∷◌, ◌≡◌}
use Rattle.std.specs.List.{slice_get}
use Rattle.orc_heap.proofs.Fresh.{node_later}
use Rattle.orc_heap.proofs.Moved.{shown_node}
use Rattle.orc_heap.proofs.SingleActs.{link_same, null_to, some_same}
use Rattle.orc_heap.specs.Allowed.{AllowedLater, AllowedWhereFits}
use Rattle.orc_heap.specs.Heap.{Heap, HeapNumbers, Node, link_to, null, shown}
use Rattle.orc_heap.specs.Journals.{event_by, run_heap}
use Rattle.orc_heap.specs.declared.events.Act.{Act}
use Rattle.orc_heap.specs.declared.events.Act.TheVariants.{Look, Move}
use Rattle.orc_heap.specs.declared.events.Event.{Event}
use Rattle.orc_heap.specs.declared.events.Link.{Link}
use Rattle.orc_heap.specs.declared.events.Place.{Place}
use Rattle.orc_heap.specs.declared.events.Place.TheVariants.{Next, Root, Side}
use Rattle.orc_pairs_rule.specs.declared.entry.CellEntry.TheVariants.{Published, Seen}
use Rattle.orc_pairs_rule.specs.declared.pairs.PairsNote.{PairsNote}
use Rattle.orc_pairs_rule.specs.declared.pairs.PairsNote.TheVariants.{Entry, Stage, Unstage}
use Rattle.orc_pairs_rule.specs.CellHistory.{Parts, no_parts, replaced}
use Rattle.orc_pairs_rule.specs.PairsDiscipline.{HasPair, HasPart, IsNoMove, IsPair, IsPart, IsStaging, KeepsSide, PairsHolds, PairsMay, entries_of, parts_of}
use Rattle.orc_pairs_rule.specs.Watches.{MayFollow, IsKept, IsOwnPair}
use Rattle.orc_pairs_rule.specs.Laws.Histories.{legal-join}
use Rattle.orc_pairs_rule.specs.Laws.Kept.{pairs_keeps, pairs_moves_linked, unnoted_allowed}
use Rattle.orc_pairs_rule.proofs.Later.{holds_later, pair_later, part_later}
use Rattle.orc_pairs_rule.proofs.SecondLinks.{side_shows}

-- an event without a note that is no Move, wherever it fits
pub unnoted_later : (n : HeapNumbers) (agent : ℕ) (act : Act) (seen : List (Event PairsNote)) → IsNoMove act
    → AllowedWhereFits (PairsMay n) n agent seen (event_by agent act None)
unnoted_later n agent act seen no_move = λ more later fits. unnoted_allowed n (seen ++ more) (event_by agent act None) fits refl no_move

-- a part has one value
pub one_part : (h : Heap) (id a b : ℕ) → HasPart h id a → HasPart h id b → a ≡ b
one_part h id a b x y =
    let one : x.node ≡ y.node = some_same (sym x.there ∙ y.there) in
    some_same (sym x.part.value_is ∙ (ap (λ (z : Node). z.first) one ∙ y.part.value_is))

one_pair : (h : Heap) (id l r m s : ℕ) (a b : Parts) → HasPair h id l r a → HasPair h id m s b → a ≡ b
one_pair h id l r m s a b x y =
    let one : x.node ≡ y.node = some_same (sym x.there ∙ y.there) in
    let left : l ≡ m = link_same l m (sym x.pair.link_is ∙ (ap (λ (z : Node). z.link) one ∙ y.pair.link_is)) in
    let right : r ≡ s = link_same r s (sym x.pair.side_is ∙ (ap (λ (z : Node). z.side) one ∙ y.pair.side_is)) in
    let one_left : a.left ≡ b.left = one_part h m a.left b.left (subst (λ (i : ℕ). HasPart h i a.left) left x.pair.left_part) y.pair.left_part in
    let one_right : a.right ≡ b.right = one_part h s a.right b.right (subst (λ (i : ℕ). HasPart h i a.right) right x.pair.right_part) y.pair.right_part in
    ap (λ (v : ℕ). record { left = v; right = a.right }) one_left ∙ ap (λ (v : ℕ). record { left = b.left; right = v }) one_right

-- the parts that root 0 shows
pub parts_null : (n : HeapNumbers) (es : List (Event PairsNote)) → PairsHolds n es → shown (run_heap n es) (Root 0) ≡ Some null → parts_of es ≡ no_parts
parts_null n es holds at = elim holds.shows [ inl c ↦ c.1 | inr p ↦ absurd (null_to p.id (some_same (sym at ∙ p.root_is))) ]

pub parts_named : (n : HeapNumbers) (es : List (Event PairsNote)) (id left right : ℕ) (parts : Parts) → PairsHolds n es
    → shown (run_heap n es) (Root 0) ≡ Some (link_to id) → HasPair (run_heap n es) id left right parts → parts_of es ≡ parts
parts_named n es id left right parts holds at has =
    elim holds.shows [
      | inl c ↦ absurd (null_to id (some_same (sym c.0 ∙ at)))
      | inr p ↦
          let same : p.id ≡ id = link_same p.id id (some_same (sym p.root_is ∙ at)) in
          one_pair (run_heap n es) id p.left p.right left right (parts_of es) parts
          (subst (λ (i : ℕ). HasPair (run_heap n es) i p.left p.right (parts_of es)) same p.has) has
    ]

module _ (n : HeapNumbers) (agent : ℕ) (seen : List (Event PairsNote)) (holds : PairsHolds n seen) where
  -- a Seen of two zeros, wherever root 0 is null
  pub seen_null : AllowedLater (PairsMay n) n agent seen (Root 0) null (event_by agent (Look (Root 0) null) (Some (Entry (Seen agent 0 0))))
  seen_null = λ more later at.
      let now = holds_later n seen more later.allowed holds in
      record {
        fits = at;
        may_act = tt;
        may_enter = (refl, legal-join no_parts (entries_of (seen ++ more)) (Seen agent 0 0 ∷ []) now.legal (parts_null n (seen ++ more) now at, tt));
      }

  -- a Seen of the parts of a pair, wherever root 0 names it
  pub seen_pair : (id left right : ℕ) (parts : Parts) → HasPair (run_heap n seen) id left right parts
      → AllowedLater (PairsMay n) n agent seen (Root 0) (link_to id)
      (event_by agent (Look (Root 0) (link_to id)) (Some (Entry (Seen agent parts.left parts.right))))
  seen_pair id left right parts has = λ more later at.
      let now = holds_later n seen more later.allowed holds in
      let pair = pair_later n seen more later.allowed id left right parts has in
      record {
        fits = at;
        may_act = tt;
        may_enter = (
          refl,
          legal-join no_parts (entries_of (seen ++ more)) (Seen agent parts.left parts.right ∷ []) now.legal
              (parts_named n (seen ++ more) id left right parts now at pair, tt),
        );
      }

  -- a Stage of the agent's fresh part, wherever the staging root is null
  pub stage_fresh : (root id value : ℕ) (node : Node) → IsStaging agent root → slice_get (run_heap n seen).nodes id ≡ Some node → node.giver ≡ agent
      → node.named ≡ false → node.linked ≡ false → IsPart node value
      → AllowedLater (PairsMay n) n agent seen (Root root) null (event_by agent (Move (Root root) null (link_to id)) (Some Stage))
  stage_fresh root id value node own there giver unnamed unlinked part = λ more later at.
      let still = node_later n (PairsHolds n) (PairsMay n) (pairs_keeps n) (λ es e holds may. may.fits) (pairs_moves_linked n) agent id node seen more holds there giver
      unnamed unlinked later in
      record {
        fits = (at, record { node = node; there = still; known = inl giver });
        may_act = record { own = own; from_is = refl; id = id; to_is = refl; node = node; there = still; value = value; part = part };
        may_enter = tt;
      }

  -- an Unstage of a staging root, wherever it shows the link
  pub unstage_own : (root : ℕ) (from : Link) → IsStaging agent root
      → AllowedLater (PairsMay n) n agent seen (Root root) from (event_by agent (Move (Root root) from null) (Some Unstage))
  unstage_own root from own = λ more later at. record { fits = (at, tt); may_act = record { own = own; to_is = refl }; may_enter = tt }

  keeps_of : (k : Heap) (given : Option ℕ) (id old now : ℕ) (place : ℕ → Place) (link : Link) → shown k (place id) ≡ Some (link_to old) → link ≡ link_to now
      → IsKept given old now → KeepsSide k given (link_to id) place link
  keeps_of k (Some value) id old now place link at is kept = tt
  keeps_of k None id old now place link at is kept = λ i same.
      let one : id ≡ i = link_same id i same in
      ap (λ (j : ℕ). shown k (place j)) (sym one) ∙ (at ∙ ap (λ (j : ℕ). Some (link_to j)) (sym kept) ∙ ap (λ (l : Link). Some l) (sym is))

  null_keeps : (k : Heap) (given : Option ℕ) (place : ℕ → Place) (link : Link) → KeepsSide k given null place link
  null_keeps k (Some value) place link = tt
  null_keeps k None place link = λ i same. absurd (null_to i same)

  keeps_null : (k : Heap) (given : Option ℕ) (from : Link) (place : ℕ → Place) (link : Link) → from ≡ null → KeepsSide k given from place link
  keeps_null k given from place link is = subst (λ (l : Link). KeepsSide k given l place link) (sym is) (null_keeps k given place link)

  -- a Published of the agent's own pair, wherever root 0 shows what it may follow
  pub publish_own : (left right : Option ℕ) (from : Link) (id l r : ℕ) (parts : Parts) → n.links ≡ 2 → IsOwnPair (run_heap n seen) agent id l r parts
      → MayFollow (run_heap n seen) left right from l r parts
      → AllowedLater (PairsMay n) n agent seen (Root 0) from
      (event_by agent (Move (Root 0) from (link_to id)) (Some (Entry (Published agent left right parts.left parts.right))))
  publish_own left right from id l r parts two own follows = λ more later at.
      let es = seen ++ more in
      let k = run_heap n es in
      let now = holds_later n seen more later.allowed holds in
      let still = node_later n (PairsHolds n) (PairsMay n) (pairs_keeps n) (λ es e holds may. may.fits) (pairs_moves_linked n) agent id own.node seen more holds own.there
      own.mine own.unnamed own.unlinked later in
      let pair : IsPair k own.node l r parts = record {
        link_is = own.pair.link_is;
        side_is = own.pair.side_is;
        left_part = part_later n seen more later.allowed l parts.left own.pair.left_part;
        right_part = part_later n seen more later.allowed r parts.right own.pair.right_part;
      } in
      let legal : replaced left right (parts_of es) ≡ parts = elim follows [
        | inl c ↦ ap (replaced left right) (parts_null n es now (subst (λ (z : Link). shown k (Root 0) ≡ Some z) c.0 at)) ∙ c.1
        | inr f ↦
            ap (replaced left right) (parts_named n es f.id f.old_left f.old_right f.old now (subst (λ (z : Link). shown k (Root 0) ≡ Some z) f.from_is at)
            (pair_later n seen more later.allowed f.id f.old_left f.old_right f.old f.has)) ∙ f.parts_are
      ] in
      let keeps : KeepsSide k left from Next own.node.link × KeepsSide k right from Side own.node.side = elim follows [
        | inl c ↦ (keeps_null k left from Next own.node.link c.0, keeps_null k right from Side own.node.side c.0)
        | inr f ↦
            let p = pair_later n seen more later.allowed f.id f.old_left f.old_right f.old f.has in (
              subst (λ (z : Link). KeepsSide k left z Next own.node.link) (sym f.from_is)
                  (keeps_of k left f.id f.old_left l Next own.node.link (shown_node k f.id p.node p.there ∙ ap (λ (z : Link). Some z) p.pair.link_is)
                  own.pair.link_is f.keeps_left),
              subst (λ (z : Link). KeepsSide k right z Side own.node.side) (sym f.from_is)
                  (keeps_of k right f.id f.old_right r Side own.node.side
                  (side_shows n es f.id p.node two p.there ∙ ap (λ (z : Link). Some z) p.pair.side_is) own.pair.side_is f.keeps_right),
            )
      ] in
      record {
        fits = (at, record { node = own.node; there = still; known = inl own.mine });
        may_act = record {
          root_is = refl;
          id = id;
          to_is = refl;
          node = own.node;
          there = still;
          unlinked = own.unlinked;
          left = l;
          right = r;
          pair = pair;
          keeps_left = keeps.0;
          keeps_right = keeps.1;
        };
        may_enter = (refl, legal-join no_parts (entries_of es) (Published agent left right parts.left parts.right ∷ []) now.legal (legal, tt));
      }
