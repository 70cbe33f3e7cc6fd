-- What is reserved for a team, and the workers at their desks.
use denote.Param.Members.{Shared}
use Rattle.std.specs.Fn.{FnReturns}
use Rattle.std.specs.List.{AllByRecursion}
use Rattle.std.specs.Prelude.{◌≡◌, ℕ, suc, ◌+◌, ◌<◌, ◌≤◌, Bool, false, true, List, [], ◌∷◌, ◌++◌, length, Ok, Result, Vec, vec_capacity, vec_len}
use Rattle.orc_board.specs.declared.replies.PostReply.{PostReply}
use Rattle.orc_fault.specs.declared.NoMemory.{NoMemory}
use Rattle.orc_team.specs.declared.rooms.Reserved.{Reserved}
use Rattle.orc_team.specs.declared.rooms.Room.{Room}
use Rattle.orc_team.specs.declared.team.Worker.{Worker}

-- the fact holds of each number and the item at its place, in order from this number
abbrev pub EachNumbered : {X : Type 0} → (ℕ → X → Type 0) → ℕ → List X → Type 0
EachNumbered P k [] = Unit {0}
EachNumbered P k (x ∷ xs) = P k x × EachNumbered P (suc k) xs

-- workers of the agents in order from this one
abbrev pub AreNumbered : {D T : Type 0} → ℕ → List (Worker D T) → Type 0
AreNumbered {D = D} {T = T} agent ws = EachNumbered (λ a (w : Worker D T). w.agent ≡ a) agent ws

-- a worker at each desk with the room of its place, numbered from this agent
abbrev pub seated : {D T : Type 0} → ℕ → List D → List T → List (Worker D T)
seated agent [] rooms = []
seated agent (desk ∷ desks) [] = []
seated agent (desk ∷ desks) (room ∷ rooms) = record { agent = agent; desk = desk; replies = room } ∷ seated (suc agent) desks rooms

-- of a list, the items of each, one after another
abbrev pub all_of : {W X : Type 0} → (W → List X) → List W → List X
all_of items [] = []
all_of items (w ∷ ws) = items w ++ all_of items ws

-- a team of so many workers before its work: each is ready by the fact R and new by the fact N, they are numbered from agent 1, and there
-- is room for all of them once they are done
pub record AreSeated {D T Z : Type 0} (R N : Worker D T → Type 0) (many : ℕ) (waiting done : Vec (Worker D T) Z) : Type 0 where
  pub ready : AllByRecursion R waiting.items
  pub new : AllByRecursion N waiting.items
  pub numbered : AreNumbered 1 waiting.items
  pub count : length waiting.items ≡ many
  pub nobody_is_done : done.items ≡ []
  pub room : vec_len done + vec_len waiting ≤ vec_capacity done

-- room for a poster's replies to so many lines, or for so many of a worker that takes jobs, and no other
pub record IsEmptyRoom {X : Type 0} (posters lines jobs agent : ℕ) (room : Room X) : Type 0 where
  pub no_posts : room.posts.items ≡ []
  pub no_takes : room.takes.items ≡ []
  pub post_room : agent ≤ posters → room.posts.spare ≡ lines
  pub take_room : posters < agent → room.takes.spare ≡ jobs
  pub no_post_room : posters < agent → room.posts.spare ≡ 0
  pub no_take_room : agent ≤ posters → room.takes.spare ≡ 0

-- the lists of a room are its posts, at false, and its takes, at true; of each, a reply in it
abbrev pub reply_of : Type 0 → Bool → Type 0
reply_of X false = PostReply
reply_of X true = X

-- the replies in it
abbrev pub items_of : {X : Type 0} → (takes : Bool) → Room X → List (reply_of X takes)
items_of false room = room.posts.items
items_of true room = room.takes.items

-- for how many more it has room
abbrev pub spare_of : {X : Type 0} → Bool → Room X → ℕ
spare_of false room = room.posts.spare
spare_of true room = room.takes.spare

module _ {T F : Type 0} (g : Shared F (ℕ × Unit {0}) (Result T NoMemory)) (room : F) where
  -- a room that was made for this agent
  abbrev pub IsRoom : ℕ → T → Type 0
  IsRoom agent r = FnReturns g room (agent, tt) (Ok r)

  -- a room for each agent, in order from this one
  abbrev pub AreRooms : ℕ → List T → Type 0
  AreRooms agent rooms = EachNumbered IsRoom agent rooms

  -- room for so many workers
  pub record IsReserved {D : Type 0} (workers : ℕ) (r : Reserved D T) : Type 0 where
    pub rooms : AreRooms 1 r.rooms.items
    pub all : length r.rooms.items ≡ workers
    pub nobody_waits : r.waiting.items ≡ []
    pub waiting_room : workers ≤ vec_capacity r.waiting
    pub nobody_is_done : r.done.items ≡ []
    pub done_room : workers ≤ vec_capacity r.done
