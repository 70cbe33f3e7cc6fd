-- By what the look found.
use Rattle.std.proofs.Common.{ap, arith, refl, ℕ, ◌%◌, ◌∙◌, ◌≡◌}
use Rattle.orc_heap.specs.declared.events.Place.TheVariants.{Root}
use Rattle.orc_split_rule.specs.SplitOrder.{bucket_of}
use Rattle.orc_split_set.specs.NewNodes.{node_value}
use Rattle.orc_split_set.proofs.Looking.{half_same, look_agent, none_new, root_few, start_shown}
use Rattle.orc_ordered_search.proofs.Ranking.{looks_from}
use Rattle.orc_split_set.proofs.Beginning.{root_at, root_moved, root_null}
use Rattle.orc_split_set.proofs.Sizes.{looks_none, looks_some}
use Rattle.orc_split_set.proofs.FewEvents.{look_made}
use Rattle.orc_split_set.proofs.begin.begin_at.Goals as goal

bucket_is : (value other size most : ℕ) → value ≡ other → most ≡ size → value % most ≡ bucket_of other size
bucket_is value other size most one two = ap (λ (x : ℕ). x % most) one ∙ ap (λ (x : ℕ). other % x) two

pub returns-then-bucket-size-clause-none : goal.returns-then-bucket-size-clause-none
returns-then-bucket-size-clause-none g c = λ is has k.
    let same = bucket_is c.value.result (node_value c.args.new) c.args.size c.from.result c.value.ensures c.from.ensures in
    (half_same _ (node_value c.args.new) c.args.size c.requires.size.0 c.requires.size.1 (omega (arith, c.if-bucket-size.true, same)), none_new _ _ refl k)

pub look-requires : goal.look-requires
look-requires g c = record {
  pass = c.requires.pass;
  place = omega (arith, c.from.ensures, c.requires.size.0.0, c.requires.size.1);
  slot = c.requires.room.two;
}

pub returns-in-Stable-default-Some : goal.returns-in-Stable-default-Some
returns-in-Stable-default-Some g c =
    record {
      begun = λ s own q same.
          let x = c.in-Stable-default-Some in
          root_at _ c.args.new s _ own q same _ c.value.result c.args.size c.from.result x.field-0 x.dummy (g.met.L.Links.obeys _ _ c.requires.pass)
          (g.met.L.Links.allowed _ _ x.ensures.pass) c.requires.room c.requires.size.0 c.requires.size.1 c.requires.begins c.value.ensures
          c.from.ensures (omega (arith, c.if-bucket-size.false)) (looks_some _ 2 x.field-0 x.field-1 x.dummy _ _ x.field-1-is x.ensures.looked);
      agent = look_agent _ _ _ _ c.in-Stable-default-Some.ensures.looked;
      few = λ begun is.
          let same = bucket_is c.value.result (node_value c.args.new) c.args.size c.from.result c.value.ensures c.from.ensures in
          root_few (bucket_of (node_value c.args.new) c.args.size) _ _ _ _
          (omega (arith, c.if-bucket-size.false, same, c.requires.size.1)) c.in-Stable-default-Some.ensures.looked;
      tries = look_made _ 2 _ _ _ c.in-Stable-default-Some.ensures.looked;
      pass = c.in-Stable-default-Some.ensures.pass;
      later = c.in-Stable-default-Some.ensures.later;
      held = λ is. cc;
      none = λ is has k. cc;
    }

pub returns-in-Stable-default-None : goal.returns-in-Stable-default-None
returns-in-Stable-default-None g c =
    record {
      begun = λ s own q same.
          let x = c.in-Stable-default-None in
          root_null _ c.args.new s _ own q same _ _ x.field-0 (looks_none _ 2 x.field-0 x.field-1 _ _ x.field-1-is x.ensures.looked);
      held = λ none.
          let x = c.in-Stable-default-None in
          (looks_none _ 2 x.field-0 x.field-1 _ _ x.field-1-is x.ensures.looked).tells.1;
      agent = look_agent _ _ _ _ c.in-Stable-default-None.ensures.looked;
      none = λ is has k.
          let x = c.in-Stable-default-None in
          let b = bucket_of (node_value c.args.new) c.args.size in
          let same : c.value.result % c.from.result ≡ b =
          bucket_is c.value.result (node_value c.args.new) c.args.size c.from.result c.value.ensures c.from.ensures in
          let looks = looks_from _ (Root b) 2 _ _ _ (ap Root same) (looks_none _ 2 x.field-0 x.field-1 _ _ x.field-1-is x.ensures.looked) in
          absurd (start_shown _ _ _ b x.field-0 (omega (arith, c.if-bucket-size.false, same, c.requires.size.1)) looks
          (g.met.L.Links.allowed _ _ x.ensures.pass) has k);
      tries = look_made _ 2 _ _ _ c.in-Stable-default-None.ensures.looked;
      pass = c.in-Stable-default-None.ensures.pass;
      later = c.in-Stable-default-None.ensures.later;
      few = λ begun is. cc;
    }

pub returns-in-Moved : goal.returns-in-Moved
returns-in-Moved g c =
    record {
      begun = λ s own q same.
          root_moved _ c.args.new s _ own q same _ _ c.in-Moved.ensures.looked (g.met.L.Links.allowed _ _ c.in-Moved.ensures.pass);
      agent = look_agent _ _ _ _ c.in-Moved.ensures.looked;
      few = λ begun is.
          let same = bucket_is c.value.result (node_value c.args.new) c.args.size c.from.result c.value.ensures c.from.ensures in
          root_few (bucket_of (node_value c.args.new) c.args.size) _ _ _ _
          (omega (arith, c.if-bucket-size.false, same, c.requires.size.1)) c.in-Moved.ensures.looked;
      tries = look_made _ 2 _ _ _ c.in-Moved.ensures.looked;
      pass = c.in-Moved.ensures.pass;
      later = c.in-Moved.ensures.later;
      held = λ is. cc;
      none = λ is has k. cc;
    }
