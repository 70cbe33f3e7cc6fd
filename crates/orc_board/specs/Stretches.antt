-- Stretches of a container's journal, and what a worker adds in them.
use Rattle.std.specs.Prelude.{◌≡◌, ℕ, List, [], ◌∷◌, ◌++◌, length, Bool, true, false, filter, ◌==◌, ◌⊎◌, Option, Some, None}
use mathlib.Core.List.{IsPrefix}
use Rattle.orc_history.specs.Journals.{Within}
use Rattle.std.specs.List.{AllByRecursion}
use Rattle.orc_history.specs.declared.queue.QueueEntry.{QueueEntry}
use Rattle.orc_history.specs.declared.queue.QueueEntry.TheVariants.{Put, Took, Empty}
use Rattle.orc_history.specs.declared.queue.QueueRefused.{QueueRefused}
use Rattle.orc_history.specs.declared.queue.SharedQueue.{Ghosts as QueueOf}
use Rattle.orc_history.specs.declared.set.SetEntry.{SetEntry}
use Rattle.orc_history.specs.declared.set.ListRefused.{ListRefused}
use Rattle.orc_history.specs.declared.set.SharedSet.{Ghosts as SetOf}
use Rattle.orc_history.specs.QueueHistory.{agent_of_entry}
use Rattle.orc_history.specs.SetHistory.{agent_of_set_entry}

-- what the definitions see of a container with these steps, entries and refusals: the history of a journal, what licenses a
-- refusal of an agent at two places of a journal, and the agents whose entries may stand between those of another
pub record View (A E W : Type 0) : Type 1 where
  pub history : List A → List E
  pub licence : ℕ → W → List A → ℕ → ℕ → Type 0
  pub crowd : ℕ → Type 0

-- how many turns a worker gives each call of a container
abbrev pub turns : ℕ
turns = 64

-- the view of this queue, and of this set, whose calls have so many turns
abbrev pub queue_view : {Q P A : Type 0} → QueueOf Q P A → Q → View A QueueEntry QueueRefused
queue_view members queue =
    record { history = members.history queue; licence = λ agent why. members.licence queue agent turns why; crowd = members.crowd queue }

abbrev pub set_view : {S P A : Type 0} → SetOf S P A → S → View A SetEntry ListRefused
set_view members set =
    record { history = members.history set; licence = λ agent why. members.licence set agent turns why; crowd = members.crowd set }

-- the same container, with these agents beside the worker
abbrev pub beside : {A E W : Type 0} → View A E W → (ℕ → Type 0) → View A E W
beside x crowd = record { history = x.history; licence = x.licence; crowd = crowd }

-- whose an entry is, and whether it is a worker's own and counts
pub record Kind (E : Type 0) : Type 0 where
  pub agent_of : E → ℕ
  pub is_own : ℕ → E → Bool

-- the worker's Puts and Tooks count, its Empties don't
abbrev pub is_own_move : ℕ → QueueEntry → Bool
is_own_move worker (Put agent job at) = agent == worker
is_own_move worker (Took agent job at) = agent == worker
is_own_move worker (Empty agent) = false

-- all entries of the worker count
abbrev pub is_own_answer : ℕ → SetEntry → Bool
is_own_answer worker e = agent_of_set_entry e == worker

abbrev pub of_queue : Kind QueueEntry
of_queue = record { agent_of = agent_of_entry; is_own = is_own_move }

abbrev pub of_set : Kind SetEntry
of_set = record { agent_of = agent_of_set_entry; is_own = is_own_answer }

-- the entry is the worker's, or of an agent that may stand between
abbrev pub MayStand : {A E W : Type 0} → Kind E → View A E W → ℕ → E → Type 0
MayStand kind x worker e = (kind.agent_of e ≡ worker) ⊎ x.crowd (kind.agent_of e)

-- from the journal j to the longer journal k the worker's own entries that count are these, and all others are of the crowd
pub record Stretch {A E W : Type 0} (kind : Kind E) (x : View A E W) (worker : ℕ) (own : List E) (j k : List A) : Type 0 where
  pub later : IsPrefix j k
  pub part : List E
  pub is : x.history k ≡ x.history j ++ part
  pub own_is : filter (kind.is_own worker) part ≡ own
  pub others : AllByRecursion (MayStand kind x worker) part

-- what a reply says of one container: the worker's own entries, and a refusal
pub record Share (E W : Type 0) : Type 0 where
  pub own : List E
  pub refused : Option W

-- these entries and no refusal
abbrev pub just : {E W : Type 0} → List E → Share E W
just own = record { own = own; refused = None }

-- neither entry nor refusal
abbrev pub nothing : {E W : Type 0} → Share E W
nothing = record { own = []; refused = None }

-- this refusal and no entry
abbrev pub refusal : {E W : Type 0} → W → Share E W
refusal why = record { own = []; refused = Some why }

-- the refusal, if there is one, is licensed within the stretch
abbrev pub Licensed : {A E W : Type 0} → View A E W → ℕ → Option W → List A → List A → Type 0
Licensed x worker None j k = Unit {0}
Licensed x worker (Some why) j k = Within (length j) (length k) (x.licence worker why k)

-- the share is what the worker did between these journals
pub record Did {A E W : Type 0} (kind : Kind E) (x : View A E W) (worker : ℕ) (share : Share E W) (j k : List A) : Type 0 where
  pub stretch : Stretch kind x worker share.own j k
  pub licence : Licensed x worker share.refused j k

-- of these rows the shares of one container stand one after another in its journal, and then the worker does nothing there
abbrev pub DidAll : {A E W X : Type 0} → Kind E → View A E W → ℕ → (X → Share E W) → List X → List A → List A → Type 0
DidAll kind x worker share [] j k = Did kind x worker nothing j k
DidAll {A} kind x worker share (row ∷ rows) j k = (i : List A) × Did kind x worker (share row) j i × DidAll kind x worker share rows i k

-- what one reply says of the queue, at false, of the rush queue, at true, and of the set
pub record Row : Type 0 where
  pub queues : Bool → Share QueueEntry QueueRefused
  pub set : Share SetEntry ListRefused

-- a row of a worker that did nothing
abbrev pub empty_row : Row
empty_row = record { queues = λ rush. nothing; set = nothing }

-- of two things the first at false, and the second at true
abbrev pub pick : {X : Type 0} → X → X → Bool → X
pick x y false = x
pick x y true = y

-- the views of the queue, at false, and of the rush queue, at true
abbrev pub queue_views : {Q P A : Type 0} → QueueOf Q P A → Q → Q → Bool → View A QueueEntry QueueRefused
queue_views members queue rush b = queue_view members (pick queue rush b)

-- the same containers, with these agents beside the worker
abbrev pub all_beside : {A : Type 0} → (Bool → View A QueueEntry QueueRefused) → (ℕ → Type 0) → Bool → View A QueueEntry QueueRefused
all_beside qs crowd rush = beside (qs rush) crowd

-- the row is what the worker did, from the journals j of the queues and m of the set to k and n
pub record Stands {A B : Type 0} (qs : Bool → View A QueueEntry QueueRefused) (s : View B SetEntry ListRefused) (worker : ℕ) (row : Row)
    (j : Bool → List A) (m : List B) (k : Bool → List A) (n : List B) : Type 0 where
  pub queues : (rush : Bool) → Did of_queue (qs rush) worker (row.queues rush) (j rush) (k rush)
  pub set : Did of_set s worker row.set m n

-- one of these rows is what the worker did
pub record Replied {A B : Type 0} (qs : Bool → View A QueueEntry QueueRefused) (s : View B SetEntry ListRefused) (rows : Row → Type 0) (worker : ℕ)
    (j : Bool → List A) (m : List B) (k : Bool → List A) (n : List B) : Type 0 where
  pub row : Row
  pub is : rows row
  pub stands : Stands qs s worker row j m k n

-- these rows are all that the worker did
pub record Works {A B : Type 0} (qs : Bool → View A QueueEntry QueueRefused) (s : View B SetEntry ListRefused) (worker : ℕ) (rows : List Row)
    (j : Bool → List A) (m : List B) (k : Bool → List A) (n : List B) : Type 0 where
  pub queues : (rush : Bool) → DidAll of_queue (qs rush) worker (λ (row : Row). row.queues rush) rows (j rush) (k rush)
  pub set : DidAll of_set s worker (λ (row : Row). row.set) rows m n
