-- Aims of the halves of a new pair.
use Rattle.std.proofs.Common.{Bool, List, None, Ok, Err, Result, Some, [], ap, arith, false, refl, subst, sym, ℕ, ◌∙◌, ◌∷◌, ◌≡◌, ◌≢◌, ◌≤◌}
use Rattle.std.proofs.lemmas.Bool.{eq-eqb, ne_eqb}
use Rattle.std.specs.List.{list_any, slice_get}
use Rattle.std.specs.Prelude.{IfErr, IfOk, ◌||◌}
use Rattle.orc_fault.specs.declared.Spent.{Spent}
use Rattle.orc_heap.proofs.Fresh.{touched}
use Rattle.orc_heap.proofs.Pieces.{linked_not_fresh, release_fresh, slot_holds, slot_id, slot_other, slot_other_id, slot_released}
use Rattle.orc_heap.proofs.SingleActs.{link_same, some_same}
use Rattle.orc_heap.specs.Acts.{with_link, with_side}
use Rattle.orc_heap.specs.Allowed.{AllAllowed, IsLinkedNode}
use Rattle.orc_heap.specs.Calls.{ReadsValue, Releases, event_of}
use Rattle.orc_heap.specs.Heap.{HeapNumbers, Node, link_to}
use Rattle.orc_heap.specs.Journals.{points_to}
use Rattle.orc_heap.specs.Moves.{gives_in, moves_place}
use Rattle.orc_heap.specs.OwnEvents.{Only}
use Rattle.orc_heap.specs.Seats.{HoldsFresh, IsUntouched, Seat, heap_of}
use Rattle.orc_heap.specs.Slots.{Hold, Holds, IsFree, Slots, id_in}
use Rattle.orc_heap.specs.declared.events.Event.{Event}
use Rattle.orc_heap.specs.declared.events.Link.{Link}
use Rattle.orc_heap.specs.declared.events.Place.{Place}
use Rattle.orc_heap.specs.declared.events.Place.TheVariants.{Root}
use Rattle.orc_pairs_rule.specs.declared.pairs.PairsNote.{PairsNote}
use Rattle.orc_pairs_rule.specs.PairsDiscipline.{HasPart, PairsMay}
use Rattle.orc_cell.specs.Publishes.{Aimed, KeepsStaging, NotAimed, Staged, Piece, aim_act, half_link, other}
use Rattle.orc_cell.specs.Turns.{OnlyLooks, HoldsPart, LeadsToPart}
use Rattle.orc_cell.specs.declared.publish.Half.{Half}
use Rattle.orc_cell.specs.declared.publish.Half.TheVariants.{Left, Right}
use Rattle.orc_cell.proofs.Pieces.{Known, finds_none, part_puts}
use Rattle.orc_cell.proofs.Reading.{value_read}
use Rattle.orc_cell.proofs.Staging.{Piece-trans, finds_staging, finds_piece, found_answered, own_found, own_touched, root_kept, staging-trans}

-- the aim of a half at another node

with_half : Half → Link → Node → Node
with_half Left to x = with_link to x
with_half Right to x = with_side to x

half_leads : (half : Half) (to : Link) (x : Node) → half_link half (with_half half to x) ≡ to
unfolding with_half
half_leads Left to x = refl
half_leads Right to x = refl

half_keeps : (half : Half) (to : Link) (x : Node) → half_link (other half) (with_half half to x) ≡ half_link (other half) x
unfolding with_half
half_keeps Left to x = refl
half_keeps Right to x = refl

half_touches : (half : Half) (id to : ℕ) (x : Node) → to ≢ id → touched (aim_act half id (Some to)) id x ≡ with_half half (link_to to) x
unfolding with_half
half_touches Left id to x ne = rw (ne_eqb to id ne, eq-eqb id id refl) refl
half_touches Right id to x ne = rw (ne_eqb to id ne, eq-eqb id id refl) refl

half_away : (half : Half) (id to : ℕ) → to ≢ id → points_to (aim_act half id (Some to)) id ≡ false
half_away Left id to ne = ne_eqb to id ne
half_away Right id to ne = ne_eqb to id ne

half_moves : (half : Half) (root id to : ℕ) → moves_place (Root root) (aim_act half id (Some to)) ≡ false
half_moves Left root id to = refl
half_moves Right root id to = refl

-- what an aim leaves
pub record AimLeaves (n : HeapNumbers) (half : Half) (id to : ℕ) (s t : Seat PairsNote) : Type 0 where
  pub piece : Piece 0 s [] t
  pub staging : KeepsStaging n s t
  pub node : Node
  pub there : slice_get (heap_of n t).nodes id ≡ Some node
  pub leads : half_link half node ≡ link_to to
  pub keeps : (old : Node) → slice_get (heap_of n s).nodes id ≡ Some old → half_link (other half) node ≡ half_link (other half) old

half_gives : (half : Half) (s : Seat PairsNote) (id to : ℕ) → gives_in (event_of s (aim_act half id (Some to)) None ∷ []) ≤ 0
half_gives Left s id to = omega arith
half_gives Right s id to = omega arith

or_false : (a : Bool) → a ≡ false → (a || false) ≡ false
or_false a e = rw e refl

pub aim_leaves : (n : HeapNumbers) (half : Half) (id to : ℕ) (s t : Seat PairsNote) → Only (event_of s (aim_act half id (Some to)) None ∷ []) s t
    → Known n s.seen → AllAllowed (PairsMay n) [] t.seen → IsUntouched s.agent (heap_of n s) id → to ≢ id → AimLeaves n half id to s t
aim_leaves n half id to s t o k all u ne =
    let e : Event PairsNote = event_of s (aim_act half id (Some to)) None in
    let away : list_any (λ x. points_to x.act id) (e ∷ []) ≡ false = or_false _ (half_away half id to ne) in
    let after = own_touched n s t (e ∷ []) id u.node o.puts k all u u.there away in
    record {
      piece = record { own = e ∷ []; puts = o.puts; entries_are = refl; gives = half_gives half s id to };
      staging = λ root own. root_kept n s t (e ∷ []) root o.puts all own (or_false _ (half_moves half root id to));
      node = with_half half (link_to to) u.node;
      there = after ∙ ap (λ (x : Node). Some x) (half_touches half id to u.node ne);
      leads = half_leads half (link_to to) u.node;
      keeps = λ old there.
          let same : u.node ≡ old = some_same (sym u.there ∙ there) in
          half_keeps half (link_to to) u.node ∙ ap (half_link (other half)) same;
    }

-- the aim at a part of the pair before, which is held meanwhile

module _ (n : HeapNumbers) (place : Place) (s a b : Seat PairsNote) (h pair : Hold) (free : IsFree s.slots 5)
    (leads : LeadsToPart (heap_of n s) place) (fresh : HoldsFresh s pair) (held : HoldsPart n place 5 s h a) (o : Only [] a b)
    (known_a : Known n a.seen) (known_b : Known n b.seen) (untouched_b : (i : ℕ) → b.fresh ≡ Some i → IsUntouched b.agent (heap_of n b) i)
  where
    part_at : HasPart (heap_of n b) held.id leads.value
    part_at =
        let is : leads.part ≡ held.id = link_same leads.part held.id (some_same (sym leads.leads ∙ held.leads)) in
        let has_s : HasPart (heap_of n s) held.id leads.value = subst (λ (i : ℕ). HasPart (heap_of n s) i leads.value) is leads.has in
        part_puts n a b [] o.puts known_b.all held.id leads.value (part_puts n s a held.finds.own held.finds.puts known_a.all held.id leads.value has_s)

    id_a : id_in a.slots h ≡ held.id
    id_a = slot_id s a 5 held.id h free held.in_slot

    id_b : id_in b.slots h ≡ held.id
    id_b = ap (λ z. id_in z h) o.slots ∙ id_a

    pair_a : id_in a.slots pair ≡ id_in s.slots pair
    pair_a = slot_other_id s a 5 held.id h free held.in_slot pair fresh.held

    pair_b : id_in b.slots pair ≡ id_in s.slots pair
    pair_b = ap (λ z. id_in z pair) o.slots ∙ pair_a

    fresh_b : b.fresh ≡ s.fresh
    fresh_b = o.fresh ∙ held.finds.fresh

    agent_b : b.agent ≡ s.agent
    agent_b = o.puts.agent ∙ held.finds.puts.agent

    linked_b : IsLinkedNode (heap_of n b) (id_in b.slots h)
    linked_b = subst (λ (i : ℕ). IsLinkedNode (heap_of n b) i) (sym id_b) (record { node = part_at.node; there = part_at.there; linked = part_at.linked })

    -- the pass still holds its fresh pair, and the part isn't fresh
    pub holds_b : HoldsFresh b pair
    holds_b = record {
      held = subst (λ (z : Slots). Holds z pair) (sym o.slots) (slot_other s a 5 held.id h free held.in_slot pair fresh.held);
      fresh = fresh_b ∙ (fresh.fresh ∙ ap (λ (i : ℕ). Some i) (sym pair_b));
    }

    pub part_b : Holds b.slots h
    part_b = subst (λ (z : Slots). Holds z h) (sym o.slots) (slot_holds s a 5 held.id h free held.in_slot)

    pub part_not_fresh : b.fresh ≢ Some (id_in b.slots h)
    part_not_fresh = linked_not_fresh n b (id_in b.slots h) untouched_b linked_b

    first : Piece 0 s [] b
    first = Piece-trans 0 0 s a b [] [] (finds_piece s a [] held.finds) (finds_piece a b [] (finds_none a b o).finds)

    first_staging : KeepsStaging n s b
    first_staging = staging-trans n s a b held.finds.puts.agent (finds_staging n s a [] held.finds known_a.all)
        (finds_staging n a b [] (finds_none a b o).finds known_b.all)

    module _ (half : Half) (c t : Seat PairsNote) (value : ℕ) (known_s : Known n s.seen) (known_c : Known n c.seen) (all_t : AllAllowed (PairsMay n) [] t.seen)
        (untouched_s : (i : ℕ) → s.fresh ≡ Some i → IsUntouched s.agent (heap_of n s) i)
        (untouched_a : (i : ℕ) → a.fresh ≡ Some i → IsUntouched a.agent (heap_of n a) i)
        (untouched_c : (i : ℕ) → c.fresh ≡ Some i → IsUntouched c.agent (heap_of n c) i)
        (w : Releases c h t)
      where
        -- what came of the aim, and the release at the end
        module _ (own : List (Event PairsNote)) (q : Only own b c) (bc : Piece 0 b [] c) (st : KeepsStaging n b c) where
          linked_c : IsLinkedNode (heap_of n c) (id_in c.slots h)
          linked_c =
              let in_c = part_puts n b c own q.puts known_c.all held.id leads.value part_at in
              let id_c : id_in c.slots h ≡ held.id = ap (λ z. id_in z h) q.slots ∙ id_b in
              subst (λ (i : ℕ). IsLinkedNode (heap_of n c) i) (sym id_c) (record { node = in_c.node; there = in_c.there; linked = in_c.linked })

          back : t.slots ≡ s.slots
          back = slot_released s a 5 held.id h free held.in_slot c t (q.slots ∙ o.slots) w

          fresh_t : t.fresh ≡ s.fresh
          fresh_t = release_fresh n c t h untouched_c linked_c w ∙ (q.fresh ∙ fresh_b)

          last : OnlyLooks c [] t
          last = record { own = []; puts = w.puts; finding = tt; entries_are = refl; fresh = release_fresh n c t h untouched_c linked_c w }

          agent_c : c.agent ≡ s.agent
          agent_c = q.puts.agent ∙ agent_b

          pub kept_back : NotAimed n pair s t
          kept_back = record {
            answered = record {
              piece = Piece-trans 0 0 s c t [] [] (Piece-trans 0 0 s b c [] [] first bc) (finds_piece c t [] last);
              slots = back;
              staging = staging-trans n s c t agent_c (staging-trans n s b c agent_b first_staging st) (finds_staging n c t [] last all_t);
            };
            fresh = record {
              held = subst (λ (z : Slots). Holds z pair) (sym back) fresh.held;
              fresh = fresh_t ∙ (fresh.fresh ∙ ap (λ z. Some (id_in z pair)) (sym back));
            };
          }

          pub part_t : HasPart (heap_of n t) held.id leads.value
          part_t = part_puts n c t [] w.puts all_t held.id leads.value (part_puts n b c own q.puts known_c.all held.id leads.value part_at)

          -- the pair is as the aim left it
          pub pair_t : (x : Node) → slice_get (heap_of n c).nodes (id_in b.slots pair) ≡ Some x → slice_get (heap_of n t).nodes (id_in t.slots pair) ≡ Some x
          pair_t x there =
              let id = id_in b.slots pair in
              let u = untouched_c id (q.fresh ∙ holds_b.fresh) in
              let same : id_in t.slots pair ≡ id = ap (λ z. id_in z pair) back ∙ sym pair_b in
              subst (λ (i : ℕ). slice_get (heap_of n t).nodes i ≡ Some x) (sym same) (own_found n c t [] id x w.puts known_c all_t tt u there)

          -- the pair at the start is the one that is aimed
          pub pair_s : (old : Node) → slice_get (heap_of n s).nodes (id_in s.slots pair) ≡ Some old
              → slice_get (heap_of n b).nodes (id_in b.slots pair) ≡ Some old
          pair_s old there =
              let u = untouched_s (id_in s.slots pair) fresh.fresh in
              let in_a = own_found n s a held.finds.own (id_in s.slots pair) old held.finds.puts known_s known_a.all held.finds.finding u there in
              let u_a = untouched_a (id_in s.slots pair) (held.finds.fresh ∙ fresh.fresh) in
              subst (λ (i : ℕ). slice_get (heap_of n b).nodes i ≡ Some old) (sym pair_b)
              (own_found n a b [] (id_in s.slots pair) old o.puts known_a known_b.all tt u_a in_a)

        kept_aimed : Only (event_of b (aim_act half (id_in b.slots pair) (Some (id_in b.slots h))) None ∷ []) b c
            → ReadsValue (heap_of n b) (id_in a.slots h) 0 value → Aimed n half pair held.id value s t
        kept_aimed q reads =
            let u = untouched_b (id_in b.slots pair) holds_b.fresh in
            let ne : id_in b.slots h ≢ id_in b.slots pair = λ e. part_not_fresh (holds_b.fresh ∙ ap (λ (i : ℕ). Some i) (sym e)) in
            let l = aim_leaves n half (id_in b.slots pair) (id_in b.slots h) b c q known_b known_c.all u ne in
            let own : List (Event PairsNote) = event_of b (aim_act half (id_in b.slots pair) (Some (id_in b.slots h))) None ∷ [] in
            let k = kept_back own q l.piece l.staging in
            let value_is : value ≡ leads.value = value_read n b (id_in a.slots h) held.id leads.value value id_a part_at reads in
            record {
              kept = record {
                answered = k.answered;
                fresh = k.fresh;
                node = l.node;
                there = pair_t own q l.piece l.staging l.node l.there;
                keeps = λ old there. l.keeps old (pair_s own q l.piece l.staging old there);
              };
              leads = l.leads ∙ ap link_to id_b;
              has = subst (λ (v : ℕ). HasPart (heap_of n t) held.id v) (sym value_is) (part_t own q l.piece l.staging);
            }

        kept_refused : Only [] b c → NotAimed n pair s t
        kept_refused q =
            let f = (finds_none b c q).finds in
            kept_back [] q (finds_piece b c [] f) (finds_staging n b c [] f known_c.all)

        pub kept_aims : (r : Result (Unit {0}) Spent) → IfOk r (λ _. Only (event_of b (aim_act half (id_in b.slots pair) (Some (id_in b.slots h))) None ∷ []) b c)
            → IfErr r (λ e. Only [] b c) → ReadsValue (heap_of n b) (id_in a.slots h) 0 value
            → IfOk r (λ _. Aimed n half pair held.id value s t) × IfErr r (λ e. NotAimed n pair s t)
        kept_aims (Ok done) ok err reads = (kept_aimed ok reads, tt)
        kept_aims (Err why) ok err reads = (tt, kept_refused err)

-- the aim at a staged part

pub staged_not_fresh : (n : HeapNumbers) (s : Seat PairsNote) (part : Hold) (root value : ℕ) → Staged n root value part s
    → ((i : ℕ) → s.fresh ≡ Some i → IsUntouched s.agent (heap_of n s) i) → s.fresh ≢ Some (id_in s.slots part)
staged_not_fresh n s part root value staged untouched =
    linked_not_fresh n s (id_in s.slots part) untouched (record { node = staged.part.node; there = staged.part.there; linked = staged.part.linked })

pub staged_aimed : (n : HeapNumbers) (half : Half) (s t : Seat PairsNote) (part pair : Hold) (root value : ℕ) → Staged n root value part s
    → HoldsFresh s pair → Known n s.seen → AllAllowed (PairsMay n) [] t.seen → ((i : ℕ) → s.fresh ≡ Some i → IsUntouched s.agent (heap_of n s) i)
    → Only (event_of s (aim_act half (id_in s.slots pair) (Some (id_in s.slots part))) None ∷ []) s t
    → Aimed n half pair (id_in s.slots part) value s t
staged_aimed n half s t part pair root value staged fresh k all untouched q =
    let u = untouched (id_in s.slots pair) fresh.fresh in
    let ne : id_in s.slots part ≢ id_in s.slots pair =
    λ e. staged_not_fresh n s part root value staged untouched (fresh.fresh ∙ ap (λ (i : ℕ). Some i) (sym e)) in
    let l = aim_leaves n half (id_in s.slots pair) (id_in s.slots part) s t q k all u ne in
    record {
      kept = record {
        answered = record { piece = l.piece; slots = q.slots; staging = l.staging };
        fresh = record {
          held = subst (λ (z : Slots). Holds z pair) (sym q.slots) fresh.held;
          fresh = q.fresh ∙ (fresh.fresh ∙ ap (λ z. Some (id_in z pair)) (sym q.slots));
        };
        node = l.node;
        there = subst (λ (z : Slots). slice_get (heap_of n t).nodes (id_in z pair) ≡ Some l.node) (sym q.slots) l.there;
        keeps = l.keeps;
      };
      leads = l.leads;
      has = part_puts n s t _ q.puts all (id_in s.slots part) value staged.part;
    }

pub staged_refused : (n : HeapNumbers) (s t : Seat PairsNote) (pair : Hold) → HoldsFresh s pair → AllAllowed (PairsMay n) [] t.seen → Only [] s t
    → NotAimed n pair s t
staged_refused n s t pair fresh all q =
    let f = finds_none s t q in
    record {
      answered = found_answered n s t [] f all;
      fresh = record {
        held = subst (λ (z : Slots). Holds z pair) (sym q.slots) fresh.held;
        fresh = q.fresh ∙ (fresh.fresh ∙ ap (λ z. Some (id_in z pair)) (sym q.slots));
      };
    }

-- the aim leaves the slots
pub aimed_slots : (b c : Seat PairsNote) (xs : List (Event PairsNote)) (E : Type 0) (r : Result (Unit {0}) E) → IfOk r (λ _. Only xs b c)
    → IfErr r (λ _. Only [] b c)
    → c.slots ≡ b.slots
aimed_slots b c xs E (Ok x) ok err = ok.slots
aimed_slots b c xs E (Err e) ok err = err.slots
