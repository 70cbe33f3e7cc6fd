-- What one written word and one new record change in the places that have a row, and that each kind keeps the token.
use Rattle.std.proofs.Common.{Bool, List, [], ap, arith, cond, drop, false, inl, inr, refl, true, ℕ, ◌%◌, ◌++◌, ◌+◌, ◌<◌, ◌∙◌, ◌∷◌, ◌≡◌, ◌≢◌, ◌⊎◌, zero, suc}
use Rattle.std.proofs.lemmas.Bool.{eq-eqb, eqb-true, ne_eqb}
use Rattle.std.proofs.lemmas.List.Sums.{sum_by-cons, sum_by_push}
use Rattle.std.specs.Prelude.{None, Option, Some, is_some, ◌==◌}
use Rattle.orc_words.specs.Bounds.{Bounds}
use Rattle.orc_words.specs.Packed.{bit, named, retired_bit}
use Rattle.orc_words.specs.Places.{IsWithin}
use Rattle.orc_words.specs.declared.packed.RowLink.{RowLink}
use Rattle.orc_words.specs.declared.place.Word.{Word}
use Rattle.orc_words.specs.declared.place.Word.TheVariants.{Counter, Enrolled, First, Gate, Handover, Next, Root, Second, Slot, Side}
use Rattle.orc_words.specs.Operations.{word_after}
use Rattle.orc_core.specs.Actions.{action_of, clear_word}
use Rattle.orc_core.specs.After.{after}
use Rattle.orc_core.specs.Listed.{Listed, first_is, listed_more, listed_name}
use Rattle.orc_core.specs.RecordParts.{doom_bare, doom_cut, names, scans}
use Rattle.orc_core.specs.Sums.{sum_below}
use Rattle.orc_core.specs.declared.ops.CounterUse.TheVariants.{End, Start}
use Rattle.orc_core.specs.declared.ops.Op.{Op}
use Rattle.orc_core.specs.declared.ops.Op.TheVariants.{CounterLoad, Free, Hand, Inc, LinkStore, SetRetired, TakeIn, Unretire}
use Rattle.orc_core.specs.declared.records.Agent.{Agent}
use Rattle.orc_sound.proofs.Facts.{HasToken, handed_in, hands_row, seat_places}
use Rattle.orc_sound.proofs.Sums.{sum_change, sum_put}
use Rattle.orc_sound.proofs.World.{World, seat, write}
use Rattle.orc_sound.specs.RetirementToken.{dooming, listings, places_of}

abbrev pub hand_part : Word → ℕ → ℕ → ℕ
hand_part (Handover a k) v r = hands_row v r
hand_part _ v r = 0

abbrev pub bit_part : Word → ℕ → ℕ → ℕ
bit_part (Counter q) v r = cond (q == r) (retired_bit v) 0
bit_part _ v r = 0

pub bit_write : (m : Word → ℕ) (w : Word) (v r : ℕ) → retired_bit (write m w v (Counter r)) + bit_part w (m w) r ≡ retired_bit (m (Counter r)) + bit_part w v r
bit_write m Enrolled v r = refl
bit_write m (Counter q) v r = grind arith
bit_write m (Root i) v r = refl
bit_write m (Gate q) v r = refl
bit_write m (First q) v r = refl
bit_write m (Second q) v r = refl
bit_write m (Next q) v r = refl
bit_write m (Side q) v r = refl
bit_write m (Slot a k) v r = refl
bit_write m (Handover a k) v r = refl

other_row : (m : Word → ℕ) (a k v r j : ℕ) → j ≢ a
    → sum_below 8 (λ i. hands_row (m (Handover j i)) r) ≡ sum_below 8 (λ i. hands_row (write m (Handover a k) v (Handover j i)) r)
other_row m a k v r j ne = rw (ne_eqb j a ne)

same_row : (m : Word → ℕ) (a k v r : ℕ) → k < 8 → sum_below 8 (λ i. hands_row (write m (Handover a k) v (Handover a i)) r)
    + hands_row (m (Handover a k)) r ≡ sum_below 8 (λ i. hands_row (m (Handover a i)) r) + hands_row v r
same_row m a k v r h = rw (eq-eqb a a refl) (sum_put 8 k (λ _ x. hands_row x r) (λ i. m (Handover a i)) v h)

handed_at : (s : Bounds) (m : Word → ℕ) (a k v r : ℕ) → a < s.agents → k < 8 → handed_in s (write m (Handover a k) v) r
    + hands_row (m (Handover a k)) r ≡ handed_in s m r + hands_row v r
handed_at s m a k v r ha hk =
    let e = sum_change s.agents a (λ j. sum_below 8 (λ i. hands_row (m (Handover j i)) r))
    (λ j. sum_below 8 (λ i. hands_row (write m (Handover a k) v (Handover j i)) r)) ha (λ j ne. other_row m a k v r j ne) in
    let f = same_row m a k v r hk in
    omega arith

pub handed_write : (s : Bounds) (m : Word → ℕ) (w : Word) (v r : ℕ) → IsWithin s w
    → handed_in s (write m w v) r + hand_part w (m w) r ≡ handed_in s m r + hand_part w v r
handed_write s m Enrolled v r h = refl
handed_write s m (Counter q) v r h = refl
handed_write s m (Root i) v r h = refl
handed_write s m (Gate q) v r h = refl
handed_write s m (First q) v r h = refl
handed_write s m (Second q) v r h = refl
handed_write s m (Next q) v r h = refl
handed_write s m (Side q) v r h = refl
handed_write s m (Slot a k) v r h = refl
handed_write s m (Handover a k) v r h = handed_at s m a k v r h.0 h.1

pub seat_places_seat : (s : Bounds) (d : ℕ → Agent) (a : ℕ) (e : Agent) (r : ℕ) → a < s.agents → seat_places s (seat d a e) r
    + places_of (d a) r ≡ seat_places s d r + places_of e r
seat_places_seat s d a e r h = sum_put s.agents a (λ _ x. places_of x r) d e h

abbrev pub LocalToken : Word → ℕ → ℕ → Agent → Agent → ℕ → Type 0
LocalToken w v x d e r = bit_part w x r + hand_part w v r + places_of d r ≡ bit_part w v r + hand_part w x r + places_of e r

pub token_step : (s : Bounds) (z : World) (a : ℕ) (w : Word) (x : ℕ) (e : Agent) (r : ℕ) → IsWithin s w → a < s.agents
    → LocalToken w (z.memory w) x (z.seats a) e r → HasToken s z r → HasToken s (record { memory = write z.memory w x; seats = seat z.seats a e }) r
token_step s z a w x e r within agent local token =
    let c = bit_write z.memory w x r in
    let l = handed_write s z.memory w x r within in
    let i = seat_places_seat s z.seats a e r agent in
    omega arith

abbrev pub KeptToken : (Word → ℕ) → ℕ → Op → Agent → ℕ → Type 0
KeptToken m a op d r =
    LocalToken (action_of a op d).word (m (action_of a op d).word) (word_after (action_of a op d).operation (m (action_of a op d).word)) d
    (after op d (m (action_of a op d).word)) r

bit_cond : (t : Bool) → cond t 1 0 ≡ bit t
bit_cond true = refl
bit_cond false = refl

pub listings_more : (xs : List ℕ) (q r : ℕ) → listings (xs ++ q ∷ []) r ≡ listings xs r + bit (q == r)
listings_more xs q r = sum_by_push (λ x. cond (x == r) 1 0) xs q ∙ ap (λ n. listings xs r + n) (bit_cond (q == r))

pub listings_first : (xs : List ℕ) (q r : ℕ) → first_is xs q ≡ true → listings xs r ≡ bit (q == r) + listings (drop 1 xs) r
listings_first [] q r h = grind arith
listings_first (x ∷ xs) q r h = rw (eqb-true x q h) (sum_by-cons (λ y. cond (y == r) 1 0) q xs ∙ ap (λ n. n + listings xs r) (bit_cond (q == r)))

pub set_token : (m : Word → ℕ) (a q n : ℕ) (d : Agent) (r : ℕ) → n < 1099511627776 → KeptToken m a (SetRetired q n) d r
set_token m a q n d r h = set_cases (m (Counter q)) q n d r (m (Counter q) == clear_word n) (eqb-true _ _) (listings_more d.list.items q r)
  where
    set_cases : (v q n : ℕ) (d : Agent) (r : ℕ) (b : Bool) → (b ≡ true → v ≡ clear_word n)
        → listings (d.list.items ++ q ∷ []) r ≡ listings d.list.items r + bit (q == r)
        → cond (q == r) (retired_bit (cond b (clear_word n + 8388608) v)) 0 + 0 + places_of d r ≡ cond (q == r) (retired_bit v) 0 + 0
        + (bit (names d.hand r) + bit (scans d.scan r) + bit (dooming d.doom r) + listings (cond b (listed_more d.list q) d.list).items r)
    set_cases v q n d r false e l = omega arith
    set_cases v q n d r true e l = rw (e refl, l) (grind arith)

named_is : (o : Option ℕ) (q r : ℕ) → names o q ≡ true → names o r ≡ (q == r)
named_is None q r h = grind arith
named_is (Some x) q r h = rw (eqb-true x q h)

pub start_token : (m : Word → ℕ) (a q : ℕ) (d : Agent) (r : ℕ) → d.scan ≡ None → (names d.hand q ≡ true)
    ⊎ ((d.hand ≡ None) × (first_is d.list.items q ≡ true)) → KeptToken m a (CounterLoad q Start) d r
start_token m a q d r ns (inl h) = rw (ns, h) (omega (arith, ap bit (named_is d.hand q r h)))
start_token m a q d r ns (inr h) = rw (h.0, ns) (omega (arith, listings_first d.list.items q r h.1))

pub end_token : (m : Word → ℕ) (a q : ℕ) (d : Agent) (r : ℕ) → d.doom ≡ None → scans d.scan q ≡ true → KeptToken m a (CounterLoad q End) d r
end_token m a q d r nd h = grind arith

pub hand_token : (m : Word → ℕ) (a k : ℕ) (d : Agent) (r : ℕ) → r < 65535 → d.hand ≡ None → is_some d.scan ≡ true → KeptToken m a (Hand k) d r
hand_token m a k d r b nh h = grind arith

listed_named : (l : Listed) (n : Option ℕ) (r : ℕ) → listings (listed_name l n).items r ≡ listings l.items r + bit (names n r)
listed_named l None r = omega arith
listed_named l (Some q) r = listings_more l.items q r

hands_row-named : (w r : ℕ) → r < 65535 → hands_row w r ≡ bit (names (named w) r)
hands_row-named w r h = grind arith

hands_row-zero : (r : ℕ) → hands_row 0 r ≡ 0
hands_row-zero r = grind arith

pub take_in_token : (m : Word → ℕ) (a k : ℕ) (d : Agent) (r : ℕ) → r < 65535 → KeptToken m a (TakeIn k) d r
take_in_token m a k d r b = let e = hands_row-named (m (Handover a k)) r b in let l = listed_named d.list (named (m (Handover a k))) r in
    let z = hands_row-zero r in grind arith

pub inc_token : (m : Word → ℕ) (a q : ℕ) (d : Agent) (r : ℕ)
    → retired_bit ((m (Counter q) + 16777217) % 18446744073709551616) ≡ retired_bit (m (Counter q)) → KeptToken m a (Inc q) d r
inc_token m a q d r same = rw same

pub store_token : (m : Word → ℕ) (a q nr : ℕ) (l : RowLink) (d : Agent) (r : ℕ) → KeptToken m a (LinkStore q l nr) d r
store_token m a q zero l d r = grind arith
store_token m a q (suc k) l d r = grind arith

pub free_token : (m : Word → ℕ) (a q : ℕ) (d : Agent) (r : ℕ) → doom_bare d.doom q ≡ true → KeptToken m a (Free q) d r
free_token m a q d r h = grind arith

-- a scan ends, or a doom becomes bare, and the bit goes
pub unretire_scan_token : (m : Word → ℕ) (a q : ℕ) (d : Agent) (r : ℕ) → d.doom ≡ None → scans d.scan q ≡ true
    → retired_bit ((m (Counter q) + 18446744073701163008) % 18446744073709551616) + 1 ≡ retired_bit (m (Counter q)) → KeptToken m a (Unretire q) d r
unretire_scan_token m a q d r nd h less = grind arith

pub unretire_doom_token : (m : Word → ℕ) (links a q : ℕ) (d : Agent) (r : ℕ) → d.scan ≡ None → doom_cut links d.doom q ≡ true
    → retired_bit ((m (Counter q) + 18446744073701163008) % 18446744073709551616) + 1 ≡ retired_bit (m (Counter q)) → KeptToken m a (Unretire q) d r
unretire_doom_token m links a q d r ns h less = grind arith
