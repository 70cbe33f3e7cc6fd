-- Two lists of rules of which the walk over the words makes the same.
use Rattle.std.proofs.Common.{◌≡◌, ◌∙◌, Bool, true, false, cond, List, [], ◌∷◌, ℕ, zero, suc, Option, Some, None, refl, sym, ap, ap₂, length, drop, fold}
use Rattle.std.proofs.Common.{chars, is_some, slice_get, encode_utf8, bytes_eq, nat_lt}
use Rattle.std.specs.Option.{option_map_or}
use Rattle.clap.specs.Faults as faults
use Rattle.clap.specs.Kinds.{Kinds, or_else}
use Rattle.clap.specs.Lexer.{long_of, short_of}
use Rattle.clap.specs.Simple.{Shape}
use Rattle.clap.specs.declared.error.kind.ErrorKind.TheVariants as kind
use Rattle.clap.specs.Walk as walks
use Rattle.clap.specs.Walk.{Held, Outcome, Row, Rule, Step, Text, Waiting, Walk}

-- two rules of which the walk makes the same
pub record Alike (a b : Rule) : Type 0 where
  pub id : a.id ≡ b.id
  pub takes : walks.takes_values a ≡ walks.takes_values b
  pub most : walks.most_values a ≡ walks.most_values b
  pub used : (values : List Text) (rows : List Row) → walks.used a values rows ≡ walks.used b values rows
  pub fault : (again : Bool) (values : List Text) (rows : List Row) → faults.use_fault again a values rows ≡ faults.use_fault again b values rows

abbrev pub AlikeIfSome : Option Rule → Option Rule → Type 0
AlikeIfSome None None = Unit {0}
AlikeIfSome (Some a) (Some b) = Alike a b
AlikeIfSome _ _ = ⊥

pub alike : (a : Rule) → Alike a a
alike a = record { id = refl; takes = refl; most = refl; used = λ values rows. refl; fault = λ again values rows. refl }

pub alike_if_some : (o : Option Rule) → AlikeIfSome o o
alike_if_some None = tt
alike_if_some (Some a) = alike a

-- in place of the first rule of a list stands one that is like it, and so on in the rest
pub next_alike : (test : Bool) (a b : Rule) (o p : Option Rule) → Alike a b → AlikeIfSome o p → AlikeIfSome (cond test (Some a) o) (cond test (Some b) p)
next_alike true a b o p h k = h
next_alike false a b o p h k = k

module _ (s : Shape) (d : List Rule)
    (by_id : (id : Text) → AlikeIfSome (walks.arg_by_id s.rules id) (walks.arg_by_id d id))
    (by_long : (name : Text) → AlikeIfSome (walks.arg_by_long s.rules name) (walks.arg_by_long d name))
    (by_short : (x : ℕ) → AlikeIfSome (walks.arg_by_short s.rules x) (walks.arg_by_short d x))
    (no_positional : (i : ℕ) → walks.arg_by_index s.rules i ≡ None) (none_too : (i : ℕ) → walks.arg_by_index d i ≡ None)
  where
    -- ---- what is held

    used_by_id : (o p : Option Rule) (values : List Text) (rows : List Row) → AlikeIfSome o p → walks.used_by_id o values rows ≡ walks.used_by_id p values rows
    used_by_id None None values rows h = refl
    used_by_id None (Some b) values rows h = absurd h
    used_by_id (Some a) None values rows h = absurd h
    used_by_id (Some a) (Some b) values rows h = h.used values rows

    settled_rows : (p : Option (Text × List Text)) (rows : List Row) → walks.settled_rows s.rules p rows ≡ walks.settled_rows d p rows
    settled_rows None rows = refl
    settled_rows (Some p) rows = used_by_id _ _ p.1 rows (by_id p.0)

    pub settled : (h : Held) → walks.settled s.rules h ≡ walks.settled d h
    settled h = ap (λ rows. record h { rows = rows; pending = None }) (settled_rows h.pending h.rows)

    reacted : (a b : Rule) (values : List Text) (h : Held) → Alike a b → walks.reacted s.rules a values h ≡ walks.reacted d b values h
    reacted a b values h like = ap (λ rows. record h { rows = rows; pending = None })
        (like.used values (walks.settled s.rules h).rows ∙ ap (λ k. walks.used b values k.rows) (settled h))

    option_met : (a b : Rule) (v : Option Text) (h : Held) → Alike a b → walks.option_met s.rules a v h ≡ walks.option_met d b v h
    option_met a b (Some v) h like = ap (λ k. (k, walks.done)) (reacted a b (v ∷ []) h like)
    option_met a b None h like = ap₂ (λ k id. (record k { pending = Some (id, []) }, walks.waits id)) (settled h) like.id

    flag_met : (a b : Rule) (v : Option Text) (h : Held) → Alike a b → walks.flag_met s.rules a v h ≡ walks.flag_met d b v h
    flag_met a b (Some v) h like = refl
    flag_met a b None h like = ap (λ k. (k, walks.done)) (reacted a b [] h like)

    long_met : (o p : Option Rule) (v : Option Text) (h : Held) → AlikeIfSome o p → walks.long_met s.rules o v h ≡ walks.long_met d p v h
    long_met None None v h like = refl
    long_met None (Some b) v h like = absurd like
    long_met (Some a) None v h like = absurd like
    long_met (Some a) (Some b) v h like =
        ap (λ t. cond t (walks.option_met s.rules a v h) (walks.flag_met s.rules a v h)) like.takes
        ∙ ap₂ (λ x y. cond (walks.takes_values b) x y) (option_met a b v h like) (flag_met a b v h like)

    -- ---- bundles of short flags

    short_met : (o p : Option Rule) (rest : Text) (h : Held) (f g : Held → Held × Outcome) → ((k : Held) → f k ≡ g k) → AlikeIfSome o p
        → walks.short_met s.rules o rest h f ≡ walks.short_met d p rest h g
    short_met None None rest h f g same like = refl
    short_met None (Some b) rest h f g same like = absurd like
    short_met (Some a) None rest h f g same like = absurd like
    short_met (Some a) (Some b) rest h f g same like =
        ap (λ t. cond t (walks.option_met s.rules a (walks.attached_value rest) h) (f (walks.reacted s.rules a [] h))) like.takes
        ∙ ap₂ (λ x y. cond (walks.takes_values b) x y) (option_met a b (walks.attached_value rest) h like) (same _ ∙ ap g (reacted a b [] h like))

    bundle_step : (o : Option ℕ) (flags : Text) (skip : ℕ) (so_far : Outcome) (h : Held) (f g : Text → ℕ → Outcome → Held → Held × Outcome)
        → ((t : Text) (k : ℕ) (u : Outcome) (x : Held) → f t k u x ≡ g t k u x)
        → walks.bundle_step s.rules o flags skip so_far h f ≡ walks.bundle_step d o flags skip so_far h g
    bundle_step None flags skip so_far h f g same = refl
    bundle_step (Some x) flags zero so_far h f g same =
        short_met _ _ (drop (length (encode_utf8 x)) flags) h _ _ (λ k. same (drop (length (encode_utf8 x)) flags) 0 walks.done k) (by_short x)
    bundle_step (Some x) flags (suc skip) so_far h f g same = same (drop (length (encode_utf8 x)) flags) skip so_far h

    bundle_met : (k : ℕ) (flags : Text) (skip : ℕ) (so_far : Outcome) (h : Held)
        → walks.bundle_met s.rules k flags skip so_far h ≡ walks.bundle_met d k flags skip so_far h
    unfolding walks.bundle_met
    bundle_met zero flags skip so_far h = refl
    bundle_met (suc k) flags skip so_far h = bundle_step (slice_get (chars flags) 0) flags skip so_far h _ _ (bundle_met k)

    -- ---- one word

    option_word : (o p : Option Rule) (id word : Text) (h : Held) → AlikeIfSome o p → walks.option_word o id word h ≡ walks.option_word p id word h
    option_word None None id word h like = refl
    option_word None (Some b) id word h like = absurd like
    option_word (Some a) None id word h like = absurd like
    option_word (Some a) (Some b) id word h like = ap (λ w. (walks.pushed id word h, w))
        (ap₂ (λ x y. cond (nat_lt x y) (walks.option id) walks.idle) (pending_count a b (walks.pushed id word h).pending like) like.most)
      where
        pending_count : (a b : Rule) (p : Option (Text × List Text)) → Alike a b → walks.pending_count a p ≡ walks.pending_count b p
        pending_count a b None like = refl
        pending_count a b (Some p) like = ap (λ id. cond (bytes_eq p.0 id) (length p.1) 0) like.id

    plain_word : (waiting : Waiting) (word : Text) (h : Held) → walks.plain_word s.rules waiting word h ≡ walks.plain_word d waiting word h
    plain_word walks.idle word h = refl
    plain_word (walks.option id) word h = ap (λ z. (z.0, walks.next z.1)) (option_word _ _ id word h (by_id id))
    plain_word walks.positional word h = refl

    after_flag : (waiting : Waiting) (word : Text) (h : Held) (o : Outcome) → walks.after_flag s.rules waiting word h o ≡ walks.after_flag d waiting word h o
    after_flag waiting word h walks.done = refl
    after_flag waiting word h (walks.waits id) = refl
    after_flag waiting word h walks.plain = plain_word waiting word h
    after_flag waiting word h walks.refused = plain_word waiting word h

    long_or_other : (waiting : Waiting) (word : Text) (p : Option (Text × Option Text)) (h : Held)
        → walks.long_or_other s.rules waiting word p h ≡ walks.long_or_other d waiting word p h
    long_or_other waiting word (Some p) h =
        let z = walks.long_met s.rules (walks.arg_by_long s.rules p.0) p.1 h in
        after_flag waiting word z.0 z.1 ∙ ap (λ z. walks.after_flag d waiting word z.0 z.1)
        (long_met (walks.arg_by_long s.rules p.0) (walks.arg_by_long d p.0) p.1 h (by_long p.0))
    long_or_other waiting word None h = short_or_plain (short_of word)
      where
        short_or_plain : (o : Option Text) → walks.short_or_plain s.rules waiting word o h ≡ walks.short_or_plain d waiting word o h
        short_or_plain (Some flags) =
            let z = walks.bundle s.rules flags h in
            after_flag waiting word z.0 z.1 ∙ ap (λ z. walks.after_flag d waiting word z.0 z.1)
            (bundle_met (length flags) flags h.skip walks.plain (record h { skip = 0 }))
        short_or_plain None = plain_word waiting word h

    subcommand_or_other : (o : Option Text) (waiting : Waiting) (position : ℕ) (word : Text) (h : Held)
        → walks.subcommand_or_other s.rules o waiting position word h ≡ walks.subcommand_or_other d o waiting position word h
    subcommand_or_other (Some name) waiting position word h = refl
    subcommand_or_other None waiting position word h =
        ap (λ z. cond (bytes_eq word (45 ∷ 45 ∷ [])) (h, walks.trailing position) z) (long_or_other waiting word (long_of word) h)

    word_met : (names : walks.Names) (is_trailing : Bool) (waiting : Waiting) (position : ℕ) (word : Text) (h : Held)
        → walks.word_met s.rules names is_trailing waiting position word h ≡ walks.word_met d names is_trailing waiting position word h
    word_met names is_trailing waiting position word h =
        ap (λ z. cond is_trailing (h, walks.value) z) (subcommand_or_other (walks.subcommand_met names waiting word) waiting position word h)

    after_step : (word : Text) (w : Walk) (h : Held) (x : Step) → walks.after_step s.rules word w h x ≡ walks.after_step d word w h x
    after_step word w h (walks.next waiting) = refl
    after_step word w h (walks.trailing position) = refl
    after_step word w h (walks.subcommand name) = refl
    after_step word w h walks.value =
        ap (λ o. walks.to_positional s.rules o word w h) (no_positional w.position) ∙ sym (ap (λ o. walks.to_positional d o word w h) (none_too w.position))

    walked_from : (names : walks.Names) (o : Option (Text × List Text)) (w : Walk) (word : Text)
        → walks.walked_from s.rules names o w word ≡ walks.walked_from d names o w word
    walked_from names (Some p) w word = refl
    walked_from names None w word =
        let z = walks.word_met s.rules names w.is_trailing w.waiting w.position word w.held in
        after_step word w z.0 z.1 ∙ ap (λ z. walks.after_step d word w z.0 z.1) (word_met names w.is_trailing w.waiting w.position word w.held)

    walked : (names : walks.Names) (w : Walk) (word : Text) → walks.walked s.rules names w word ≡ walks.walked d names w word
    unfolding walks.walked
    walked names w word = walked_from names w.stopped w word

    pub walk : (names : walks.Names) (words : List Text) (h : Held) → walks.walk s.rules names h words ≡ walks.walk d names h words
    walk names words h = ap (λ f. fold f (walks.walk_from h) words) (λ i w word. walked names w word i)

    -- ---- faults

    settle_fault_of : (again : Bool) (p : Option (Text × List Text)) (rows : List Row)
        → option_map_or (λ p. option_map_or (λ a. faults.use_fault again a p.1 rows) (walks.arg_by_id s.rules p.0) []) p []
        ≡ option_map_or (λ p. option_map_or (λ a. faults.use_fault again a p.1 rows) (walks.arg_by_id d p.0) []) p []
    settle_fault_of again None rows = refl
    settle_fault_of again (Some p) rows = of_option _ _ (by_id p.0)
      where
        of_option : (o q : Option Rule) → AlikeIfSome o q
            → option_map_or (λ a. faults.use_fault again a p.1 rows) o [] ≡ option_map_or (λ a. faults.use_fault again a p.1 rows) q []
        of_option None None like = refl
        of_option None (Some b) like = absurd like
        of_option (Some a) None like = absurd like
        of_option (Some a) (Some b) like = like.fault again p.1 rows

    pub settle_fault : (again : Bool) (h : Held) → faults.settle_fault s.rules again h ≡ faults.settle_fault d again h
    settle_fault again h = settle_fault_of again h.pending h.rows

    react_fault : (again : Bool) (a b : Rule) (values : List Text) (h : Held) → Alike a b
        → faults.react_fault s.rules again a values h ≡ faults.react_fault d again b values h
    react_fault again a b values h like =
        ap₂ or_else (settle_fault again h)
        (like.fault again values (walks.settled s.rules h).rows ∙ ap (λ k. faults.use_fault again b values k.rows) (settled h))

    option_fault : (again : Bool) (a b : Rule) (v : Option Text) (h : Held) → Alike a b
        → faults.option_fault s.rules again a v h ≡ faults.option_fault d again b v h
    option_fault again a b (Some v) h like = react_fault again a b (v ∷ []) h like
    option_fault again a b None h like = settle_fault again h

    long_fault : (again : Bool) (o p : Option Rule) (v : Option Text) (h : Held) → AlikeIfSome o p
        → faults.long_fault s.rules again o v h ≡ faults.long_fault d again p v h
    long_fault again None None v h like = refl
    long_fault again None (Some b) v h like = absurd like
    long_fault again (Some a) None v h like = absurd like
    long_fault again (Some a) (Some b) v h like =
        ap (λ t. cond t (faults.option_fault s.rules again a v h)
        (cond (is_some v) (kind.TooManyValues ∷ []) (faults.react_fault s.rules again a [] h))) like.takes
        ∙ ap₂ (λ x y. cond (walks.takes_values b) x (cond (is_some v) (kind.TooManyValues ∷ []) y))
        (option_fault again a b v h like) (react_fault again a b [] h like)

    short_fault : (again : Bool) (o p : Option Rule) (rest : Text) (h : Held) (f g : Held → Kinds) → ((k : Held) → f k ≡ g k) → AlikeIfSome o p
        → faults.short_fault s.rules again o rest h f ≡ faults.short_fault d again p rest h g
    short_fault again None None rest h f g same like = refl
    short_fault again None (Some b) rest h f g same like = absurd like
    short_fault again (Some a) None rest h f g same like = absurd like
    short_fault again (Some a) (Some b) rest h f g same like =
        ap (λ t. cond t (faults.option_fault s.rules again a (walks.attached_value rest) h)
        (or_else (faults.react_fault s.rules again a [] h) (f (walks.reacted s.rules a [] h)))) like.takes
        ∙ ap₂ (λ x y. cond (walks.takes_values b) x y) (option_fault again a b (walks.attached_value rest) h like)
        (ap₂ or_else (react_fault again a b [] h like) (same _ ∙ ap g (reacted a b [] h like)))

    bundle_step_fault : (again : Bool) (o : Option ℕ) (flags : Text) (skip : ℕ) (h : Held) (f g : Text → ℕ → Held → Kinds)
        → ((t : Text) (k : ℕ) (x : Held) → f t k x ≡ g t k x)
        → faults.bundle_step_fault s.rules again o flags skip h f ≡ faults.bundle_step_fault d again o flags skip h g
    bundle_step_fault again None flags skip h f g same = refl
    bundle_step_fault again (Some x) flags zero h f g same =
        short_fault again _ _ (drop (length (encode_utf8 x)) flags) h _ _ (λ k. same (drop (length (encode_utf8 x)) flags) 0 k) (by_short x)
    bundle_step_fault again (Some x) flags (suc skip) h f g same = same (drop (length (encode_utf8 x)) flags) skip h

    flags_fault : (again : Bool) (k : ℕ) (flags : Text) (skip : ℕ) (h : Held)
        → faults.flags_fault s.rules again k flags skip h ≡ faults.flags_fault d again k flags skip h
    unfolding faults.flags_fault
    flags_fault again zero flags skip h = refl
    flags_fault again (suc k) flags skip h = bundle_step_fault again (slice_get (chars flags) 0) flags skip h _ _ (flags_fault again k)

    flag_word_fault : (again : Bool) (p : Option (Text × Option Text)) (word : Text) (h : Held)
        → faults.flag_word_fault s.rules again p word h ≡ faults.flag_word_fault d again p word h
    flag_word_fault again (Some p) word h = long_fault again _ _ p.1 h (by_long p.0)
    flag_word_fault again None word h =
        ap (λ f. option_map_or f (short_of word) []) (λ i flags. flags_fault again (length flags) flags h.skip (record h { skip = 0 }) i)

    abbrev other : Shape
    other = record s { rules = d }

    other_fault : (o : Option Text) (word : Text) (h : Held) → faults.other_fault s o word h ≡ faults.other_fault other o word h
    other_fault (Some name) word h = refl
    other_fault None word h =
        ap (λ z. cond (bytes_eq word (45 ∷ 45 ∷ [])) [] z) (flag_word_fault s.args_override_self (long_of word) word h)

    step_fault : (position : ℕ) (h : Held) (x : Step) → faults.step_fault s position h x ≡ faults.step_fault other position h x
    step_fault position h (walks.next waiting) = refl
    step_fault position h (walks.trailing p) = refl
    step_fault position h (walks.subcommand name) = refl
    step_fault position h walks.value =
        ap (λ o. option_map_or (λ a. faults.positional_fault s.rules s.args_override_self a h) o (faults.stray_fault s)) (no_positional position)
        ∙ sym (ap (λ o. option_map_or (λ a. faults.positional_fault d s.args_override_self a h) o (faults.stray_fault s)) (none_too position))

    turn_fault : (names : walks.Names) (w : Walk) (word : Text) → faults.turn_fault s names w word ≡ faults.turn_fault other names w word
    turn_fault names w word =
        let z = walks.word_met s.rules names w.is_trailing w.waiting w.position word w.held in
        ap (λ k. cond (is_some w.stopped) [] k)
        (ap₂ or_else
        (ap (λ k. cond w.is_trailing [] k) (other_fault (walks.subcommand_met names w.waiting word) word w.held))
        (step_fault w.position z.0 z.1 ∙ ap (λ z. faults.step_fault other w.position z.0 z.1) (word_met names w.is_trailing w.waiting w.position word w.held)))

    pub walk_fault : (names : walks.Names) (words : List Text) (w : Walk) → faults.walk_fault s names w words ≡ faults.walk_fault other names w words
    unfolding faults.walk_fault
    walk_fault names [] w = refl
    walk_fault names (word ∷ rest) w =
        ap₂ or_else (turn_fault names w word)
        (walk_fault names rest (walks.walked s.rules names w word) ∙ ap (λ v. faults.walk_fault other names v rest) (walked names w word))
