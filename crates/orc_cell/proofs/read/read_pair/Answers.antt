-- Both parts are read, and then confirmed.
use Rattle.std.proofs.Common.{[], subst, sym, ◌∙◌}
use Rattle.orc_heap.proofs.Pieces.{goes_on}
use Rattle.orc_heap.specs.Seats.{heap_of}
use Rattle.orc_heap.specs.Slots.{Holds, IsFree, Slots, id_in}
use Rattle.orc_heap.specs.Heap.{link_to}
use Rattle.orc_heap.specs.declared.events.Place.TheVariants.{Side}
use Rattle.orc_cell.specs.Turns.{Confirms, FindsOnly, LeadsToPart, MaySee, ReadsPart}
use Rattle.orc_cell.proofs.Looking.{left_leads, right_leads}
use Rattle.orc_cell.proofs.Pieces.{FindsOnly-trans, pair_puts, pass_known}
use Rattle.orc_cell.proofs.Reading.{BothRead, both_read, confirmed, left_pair, may_see_pair}
use Rattle.orc_cell.proofs.read.read_pair.Given.{Over}
use Rattle.orc_cell.proofs.read.read_pair.Goals.{After-confirm, After-read_part-right}
use Rattle.orc_cell.proofs.read.read_pair.Goals as goal

pub read_part-left-requires-clause-leads : goal.read_part-left-requires-clause-leads
read_part-left-requires-clause-leads g c =
    let s = g.L.Links.seat _ c.args.p.now in
    left_leads _ s.seen (id_in s.slots c.args.pair.now) c.requires.pair

-- both parts were read
both : (g : Over) (c : After-read_part-right g) → let d = c.args.links.now in let s = g.L.Links.seat d c.args.p.now in
    BothRead (g.L.Links.numbers d) (id_in s.slots c.args.pair.now) c.read_part-left.result c.read_part-right.result (g.L.Links.seat d c.read_part-right.new.p)
both g c =
    let n = g.L.Links.numbers _ in
    let s = g.L.Links.seat _ c.args.p.now in
    let a = g.L.Links.seat _ c.read_part-left.new.p in
    let b = g.L.Links.seat _ c.read_part-right.new.p in
    let one = c.read_part-left.ensures in
    let other = c.read_part-right.ensures in
    let right = subst (λ (z : Slots). ReadsPart n (Side (id_in z c.args.pair.now)) a c.read_part-right.result b) one.read.only.slots other.read in
    both_read n s a b (id_in s.slots c.args.pair.now) c.read_part-left.result c.read_part-right.result c.requires.made.two c.requires.pair one.read right
    (g.met.L.Links.allowed _ _ one.pass) (g.met.L.Links.allowed _ _ other.pass)

-- and nothing else was done
so_far : (g : Over) (c : After-read_part-right g) → let d = c.args.links.now in
    FindsOnly (g.L.Links.seat d c.args.p.now) [] (g.L.Links.seat d c.read_part-right.new.p)
so_far g c = FindsOnly-trans _ _ _ [] [] c.read_part-left.ensures.read.only c.read_part-right.ensures.read.only

pub read_part-right-requires : goal.read_part-right-requires
read_part-right-requires g c =
    let e = c.read_part-left.ensures in
    let slots = e.read.only.slots in
    let n = g.L.Links.numbers _ in
    let s = g.L.Links.seat _ c.args.p.now in
    let a = g.L.Links.seat _ c.read_part-left.new.p in
    let pair = c.args.pair.now in
    let (l, r, parts, has) = c.requires.pair in
    let in_a = pair_puts n s a e.read.only.finds.own e.read.only.finds.puts (g.met.L.Links.allowed _ _ e.pass)
    (id_in s.slots pair) l r parts
    has in
    record {
      pass = e.pass;
      place = (subst (λ (z : Slots). Holds z pair) (sym slots) c.requires.held, c.requires.made.two);
      slot = subst (λ (z : Slots). IsFree z 2) (sym slots) c.requires.slot;
      leads = subst (λ (z : Slots). LeadsToPart (heap_of n a) (Side (id_in z pair))) (sym slots)
          (right_leads n a.seen (id_in s.slots pair) c.requires.made.two (l, r, parts, in_a));
    }

pub confirm-requires : goal.confirm-requires
confirm-requires g c =
    let at = goal.at.confirm-requires g c in
    let n = g.L.Links.numbers _ in
    let s = g.L.Links.seat _ c.args.p.now in
    let b = g.L.Links.seat _ c.read_part-right.new.p in
    let pair = c.args.pair.now in
    let e = c.read_part-right.ensures in
    let slots = (so_far g at.After-read_part-right).slots in
    let k = pass_known g.L.Links g.met.L.Links.obeys g.met.L.Links.allowed _ _ e.pass in
    record {
      pass = e.pass;
      made = c.requires.made;
      link = subst (λ (z : Slots). Holds z pair) (sym slots) c.requires.held;
      allowed = subst (λ (z : Slots). MaySee n b (link_to (id_in z pair)) c.read_part-left.result c.read_part-right.result) (sym slots)
          (may_see_pair n b (id_in s.slots pair) c.read_part-left.result c.read_part-right.result k (both g at.After-read_part-right));
    }

-- what the confirming load said of root 0
said : (g : Over) (c : After-confirm g) → let d = c.args.links.now in let s = g.L.Links.seat d c.args.p.now in
    Confirms (link_to (id_in s.slots c.args.pair.now)) c.read_part-left.result c.read_part-right.result (g.L.Links.seat d c.read_part-right.new.p)
    c.confirm.result (g.L.Links.seat d c.confirm.new.p)
said g c =
    let b = g.L.Links.seat _ c.read_part-right.new.p in
    let t = g.L.Links.seat _ c.confirm.new.p in
    subst (λ (z : Slots). Confirms (link_to (id_in z c.args.pair.now)) c.read_part-left.result c.read_part-right.result b c.confirm.result t)
    (c.read_part-right.ensures.read.only.slots ∙ c.read_part-left.ensures.read.only.slots) c.confirm.ensures.confirmed

pub returns-then-confirm-clause-read : goal.returns-then-confirm-clause-read
returns-then-confirm-clause-read g c =
    let at = goal.at.returns-then-confirm-clause-read g c in
    confirmed _ _ _ _ _ _ _ c.if-confirm.true (so_far g at.After-read_part-right) (said g at.After-confirm)

pub returns-else-confirm-clause-read : goal.returns-else-confirm-clause-read
returns-else-confirm-clause-read g c =
    let at = goal.at.returns-else-confirm-clause-read g c in
    left_pair _ _ _ _ _ _ _ _ c.if-confirm.false (so_far g at.After-read_part-right) (said g at.After-confirm)
    (g.met.L.Links.allowed _ _ c.read_part-right.ensures.pass) (g.met.L.Links.allowed _ _ c.confirm.ensures.pass)

pub returns-then-confirm-clause-pass : goal.returns-then-confirm-clause-pass
returns-then-confirm-clause-pass g c = c.confirm.ensures.pass

pub returns-then-confirm-clause-later : goal.returns-then-confirm-clause-later
returns-then-confirm-clause-later g c = goes_on _ _ _ c.read_part-left.ensures.later (goes_on _ _ _ c.read_part-right.ensures.later c.confirm.ensures.later)

pub returns-else-confirm-clause-pass : goal.returns-else-confirm-clause-pass
returns-else-confirm-clause-pass g c = c.confirm.ensures.pass

pub returns-else-confirm-clause-later : goal.returns-else-confirm-clause-later
returns-else-confirm-clause-later g c = goes_on _ _ _ c.read_part-left.ensures.later (goes_on _ _ _ c.read_part-right.ensures.later c.confirm.ensures.later)
