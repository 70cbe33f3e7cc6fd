-- How many desks, rooms and workers a team has, and one worker more at its desk.
use Rattle.std.proofs.Common.{◌≡◌, ℕ, suc, ◌+◌, ◌-◌, ◌≤◌, List, [], ◌∷◌, ◌++◌, Vec, length, map, refl, ap, sym, ◌∙◌, subst, arith, append_assoc, length-append, vec_capacity}
use Rattle.std.specs.List.{AllByRecursion, remove}
use Rattle.orc_team.specs.Seats.{AreNumbered, AreSeated, EachNumbered, all_of, seated}
use Rattle.orc_team.specs.declared.team.Worker.{Worker}
use Rattle.orc_team.proofs.Blocks.{all_of-snoc}
use Rattle.orc_team.proofs.Numbered.{EachFrom-rest, seated_all, seated_numbered}

-- of two lists of one length, all but the last of each
pub one_less_each : (a b fewer_a fewer_b x y : ℕ) → fewer_a + 1 ≡ a → fewer_b + 1 ≡ b → a ≡ b → fewer_a ≡ x → fewer_b ≡ y → x ≡ y
one_less_each a b fewer_a fewer_b x y e f same g h = omega (arith, e, f, same, g, h)

-- one worker more
seated-snoc : {D T : Type 0} (k : ℕ) (ds : List D) (rs : List T) (d : D) (r : T) → length rs ≡ length ds
    → seated k (ds ++ d ∷ []) (rs ++ r ∷ []) ≡ seated k ds rs ++ record { agent = k + length ds; desk = d; replies = r } ∷ []
seated-snoc {D} {T} k [] [] d r e =
    let here : k ≡ k + 0 = omega arith in
    let at : ℕ → Worker D T = λ n. record { agent = n; desk = d; replies = r } in
    ap (λ (n : ℕ). at n ∷ []) here
seated-snoc k [] (s ∷ rs) d r e = absurd (omega (arith, e))
seated-snoc k (f ∷ ds) [] d r e = absurd (omega (arith, e))
seated-snoc {D} {T} k (f ∷ ds) (s ∷ rs) d r e =
    let rest = seated-snoc (suc k) ds rs d r (omega (arith, e)) in
    let next : suc k + length ds ≡ k + suc (length ds) = omega arith in
    let at : ℕ → Worker D T = λ n. record { agent = n; desk = d; replies = r } in
    let first : Worker D T = record { agent = k; desk = f; replies = s } in
    ap (λ (ws : List (Worker D T)). first ∷ ws) (rest ∙ ap (λ (n : ℕ). seated (suc k) ds rs ++ at n ∷ []) next)

seated_length : {D T : Type 0} (k : ℕ) (ds : List D) (rs : List T) → length rs ≡ length ds → length (seated k ds rs) ≡ length ds
seated_length k [] rs e = refl
seated_length k (d ∷ ds) [] e = absurd (omega (arith, e))
seated_length k (d ∷ ds) (r ∷ rs) e = ap suc (seated_length (suc k) ds rs (omega (arith, e)))

pub seated_many : {D T : Type 0} (k : ℕ) (ds : List D) (rs : List T) (ws : List (Worker D T)) → ws ≡ seated k ds rs → length rs ≡ length ds
    → length ws ≡ length ds
seated_many k ds rs ws is same = ap length is ∙ seated_length k ds rs same

-- where one worker more sits at the last desk, all are seated
pub seated_more : {D T : Type 0} (k : ℕ) (ds all : List D) (rs every : List T) (d : D) (r : T) (ws now : List (Worker D T)) (agent : ℕ)
    → all ≡ ds ++ d ∷ [] → every ≡ rs ++ r ∷ [] → length rs ≡ length ds → ws ≡ seated k ds rs → agent ≡ k + length ds
    → now ≡ ws ++ record { agent = agent; desk = d; replies = r } ∷ [] → now ≡ seated k all every
seated_more {D} {T} k ds all rs every d r ws now agent all_is every_is same ws_is agent_is now_is =
    let at : ℕ → Worker D T = λ n. record { agent = n; desk = d; replies = r } in
    now_is
    ∙ (ap (λ (x : List (Worker D T)). x ++ at agent ∷ []) ws_is
    ∙ (ap (λ (n : ℕ). seated k ds rs ++ at n ∷ []) agent_is
    ∙ (sym (seated-snoc k ds rs d r same)
    ∙ (ap (λ (x : List D). seated k x (rs ++ r ∷ [])) (sym all_is) ∙ ap (λ (y : List T). seated k all y) (sym every_is)))))

-- one of them has left
one_fewer : {X : Type 0} (all rest : List X) (n : ℕ) → rest ≡ remove all 0 → length all ≡ 1 + n → length rest ≡ n
one_fewer [] rest n e h = absurd (omega (arith, h))
one_fewer (x ∷ xs) rest n e h = let many : length xs ≡ n = omega (arith, h) in ap length e ∙ many

-- where a worker sits at each desk but the first, with a room of its own, the team may begin
pub seats_ready : {D T Z : Type 0} (F : ℕ → D → Type 0) (M : ℕ → T → Type 0) (R N : Worker D T → Type 0) (n l : ℕ) (all rest : List D)
    (rooms : List T) (waiting done : Vec (Worker D T) Z)
    → ((k : ℕ) (d : D) (r : T) → 1 ≤ k → k ≤ n → F k d → M k r
    → R (record { agent = k; desk = d; replies = r }) × N (record { agent = k; desk = d; replies = r }))
    → EachNumbered F 0 all → rest ≡ remove all 0 → length all ≡ 1 + n → l ≡ 1 + n → EachNumbered M 1 rooms → length rooms ≡ l - 1
    → done.items ≡ [] → l - 1 ≤ vec_capacity done → waiting.items ≡ seated 1 rest rooms → AreSeated R N n waiting done
seats_ready {D} {T} F M R N n l all rest rooms waiting done f fresh is many len made few none room at =
    let desks : length rest ≡ n = one_fewer all rest n is many in
    let same : length rooms ≡ length rest = omega (arith, len, few, desks) in
    let workers : length waiting.items ≡ n = seated_many 1 rest rooms waiting.items at same ∙ desks in
    let high : 1 + length rest ≤ suc n = omega (arith, desks) in
    let left : EachNumbered F 1 rest = EachFrom-rest F 0 all rest is fresh in
    let ready : AllByRecursion R (seated 1 rest rooms) =
    seated_all F M R 1 (suc n) 1 rest rooms (λ k d r low less x y. (f k d r low (omega (arith, less)) x y).0) (omega arith) high left made in
    let new : AllByRecursion N (seated 1 rest rooms) =
    seated_all F M N 1 (suc n) 1 rest rooms (λ k d r low less x y. (f k d r low (omega (arith, less)) x y).1) (omega arith) high left made in
    let numbered : AreNumbered 1 (seated 1 rest rooms) = seated_numbered 1 rest rooms in
    record {
      ready = subst (λ (ws : List (Worker D T)). AllByRecursion R ws) (sym at) ready;
      new = subst (λ (ws : List (Worker D T)). AllByRecursion N ws) (sym at) new;
      numbered = subst (λ (ws : List (Worker D T)). AreNumbered 1 ws) (sym at) numbered;
      count = workers;
      nobody_is_done = none;
      room = omega (arith, done.ok.0, ap length none, waiting.ok.0, workers, len, room);
    }

-- all desks have room where the caller's and the others were
pub places_fit : (len cap cap_1 cap_2 cap_3 len_2 items_2 len_3 workers items_3 n : ℕ) → len ≤ cap → len ≡ 1 + n → cap_1 ≡ cap → cap_2 ≡ cap_1
    → cap_2 ≤ cap_3 → len_2 ≡ items_2 → items_2 ≡ 0 → len_3 ≡ len_2 + 1 → workers ≡ items_3 → items_3 ≡ n → len_3 + workers ≤ cap_3
places_fit len cap cap_1 cap_2 cap_3 len_2 items_2 len_3 workers items_3 n a b c d e f g h i j = omega (arith, a, b, c, d, e, f, g, h, i, j)

-- one worker more that hands back: its desk, its replies, and the room that they take
map_last : {W D : Type 0} (f : W → D) (ws : List W) (w : W) → map f (ws ++ w ∷ []) ≡ map f ws ++ f w ∷ []
map_last f [] w = refl
map_last {D = D} f (v ∷ ws) w = ap (λ (ds : List D). f v ∷ ds) (map_last f ws w)

pub desks_more : {W D : Type 0} (f : W → D) (ws all : List W) (w : W) (before now after : List D)
    → all ≡ ws ++ w ∷ [] → now ≡ before ++ map f ws → after ≡ now ++ f w ∷ [] → after ≡ before ++ map f all
desks_more {D = D} f ws all w before now after all_is now_is after_is =
    after_is
    ∙ (ap (λ (ds : List D). ds ++ f w ∷ []) now_is
    ∙ (append_assoc before (map f ws) (f w ∷ []) ∙ ap (λ (ds : List D). before ++ ds) (sym (map_last f ws w) ∙ ap (map f) (sym all_is))))

pub back_more : {W X : Type 0} (items : W → List X) (ws all : List W) (w : W) (before now after : List X)
    → all ≡ ws ++ w ∷ [] → now ≡ before ++ all_of items ws → after ≡ now ++ items w → after ≡ before ++ all_of items all
back_more items ws all w before now after all_is now_is after_is =
    after_is
    ∙ (ap (λ z. z ++ items w) now_is
    ∙ (append_assoc before (all_of items ws) (items w) ∙ ap (λ z. before ++ z) (sym (all_of-snoc items ws w) ∙ ap (all_of items) (sym all_is))))

pub one_desk_more : (after now before fewer workers : ℕ) → after ≡ now + 1 → now ≡ before + fewer → fewer + 1 ≡ workers → after ≡ before + workers
one_desk_more after now before fewer workers a b c = omega (arith, a, b, c)

pub no_smaller : (before now after : ℕ) → before ≤ now → now ≤ after → before ≤ after
no_smaller before now after a b = omega (arith, a, b)

all_length : {W X : Type 0} (items : W → List X) (ws all : List W) (w : W) → all ≡ ws ++ w ∷ []
    → length (all_of items all) ≡ length (all_of items ws) + length (items w)
all_length items ws all w is = ap (λ z. length (all_of items z)) is ∙ (ap length (all_of-snoc items ws w) ∙ length-append (all_of items ws) (items w))

pub room_left : {W X : Type 0} (items : W → List X) (ws all : List W) (w : W) (room left : ℕ) → all ≡ ws ++ w ∷ []
    → length (all_of items all) ≤ room → left + length (all_of items ws) ≡ room → length (items w) ≤ left
room_left items ws all w room left is fit rest = omega (arith, fit, rest, all_length items ws all w is)

pub room_after : {W X : Type 0} (items : W → List X) (ws all : List W) (w : W) (room left after : ℕ) → all ≡ ws ++ w ∷ []
    → left + length (all_of items ws) ≡ room → after + length (items w) ≡ left → after + length (all_of items all) ≡ room
room_after items ws all w room left after is rest taken = omega (arith, rest, taken, all_length items ws all w is)
