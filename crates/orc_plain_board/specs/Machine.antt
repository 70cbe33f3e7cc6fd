-- The machine of gates, values and links: its words, its steps, and the heap that the steps' events make. A row's
-- gate is taken once, and the row is a node from then on. After Michael and Scott 1996 and Harris 2001.
use Rattle.std.specs.Option.{ForSome}
use Rattle.std.specs.Prelude.{ℕ, zero, suc, ◌<◌, ◌==◌, List, [], ◌∷◌, ◌++◌, length, Bool, true, false, cond, Option, Some, None, if◌then◌else◌, slice_index, slice_set}
use Rattle.orc_words.specs.Bounds.{Bounds}
use Rattle.orc_words.specs.Packed.{link_word}
use Rattle.orc_words.specs.NewWords.{new_words}
use Rattle.orc_words.specs.Places.{link_at as link_word_at, place}
use Rattle.orc_words.specs.declared.packed.RowLink.{RowLink}
use Rattle.orc_words.specs.declared.place.Word.{Word}
use Rattle.orc_words.specs.declared.place.Word.TheVariants.{Root, Gate, First, Second, Next, Side}
use Rattle.orc_heap.specs.Acts.{aim_act}
use Rattle.orc_heap.specs.Heap.{Heap, new_heap, null, shown}
use Rattle.orc_heap.specs.Journals.{event_by, run_from as heap_from}
use Rattle.orc_heap.specs.declared.events.Act.TheVariants as act
use Rattle.orc_heap.specs.declared.events.Event.{Event}
use Rattle.orc_heap.specs.declared.events.Link.{Link}
use Rattle.orc_heap.specs.declared.events.Place.{Place}
use Rattle.orc_heap.specs.declared.events.Place.TheVariants.{Root as AtRoot, Next as AtNext, Side as AtSide}
use Rattle.orc_any_domain.specs.Rows.{index_of}
use Rattle.orc_plain_board.specs.declared.machine.PlainOp.{PlainOp}
use Rattle.orc_plain_board.specs.declared.machine.PlainOp.TheVariants.{GateLook, GateTake, Fill, Read, LinkLoad, LinkCas, LinkStore}
use Rattle.orc_plain_board.specs.declared.machine.PlainStep.{PlainStep}
-- the heap of a table has its roots, and nodes with as many links as its rows
pub use Rattle.orc_any_domain.specs.Domains.{heap_numbers as numbers}

-- the word of a row's first (0) or second (1) value
abbrev pub value_word : ℕ → ℕ → Word
value_word row zero = First row
value_word row (suc which) = Second row

-- the word that the operation reads or writes
abbrev pub word_of : PlainOp → Word
word_of (GateLook row) = Gate row
word_of (GateTake row) = Gate row
word_of (Fill row which value) = value_word row which
word_of (Read row which) = value_word row which
word_of (LinkLoad at want) = at
word_of (LinkCas at from to) = at
word_of (LinkStore row number to) = link_word_at number row

abbrev pub unmarked : Option ℕ → RowLink
unmarked to = record { to = to; mark = false }

-- the number that it writes, by the number found; 3 is the gate word of a row that is out, in its first life
abbrev pub written : PlainOp → ℕ → ℕ
written (GateLook row) n = n
written (GateTake row) n = cond (n == 0) 3 n
written (Fill row which value) n = value
written (Read row which) n = n
written (LinkLoad at want) n = n
written (LinkCas at from to) n = cond (n == link_word from) (link_word to) n
written (LinkStore row number to) n = link_word (unmarked to)

-- what it answers: the number found, and after a fill the number written
abbrev pub answer : PlainOp → ℕ → ℕ
answer (GateLook row) n = n
answer (GateTake row) n = n
answer (Fill row which value) n = value
answer (Read row which) n = n
answer (LinkLoad at want) n = n
answer (LinkCas at from to) n = n
answer (LinkStore row number to) n = n

-- the word of a root's link, or of a row's first or second one
abbrev pub IsLinkWord : Bounds → Word → Type 0
IsLinkWord b (Root r) = r < b.roots
IsLinkWord b (Next row) = row < b.rows
IsLinkWord b (Side row) = (row < b.rows) × (1 < b.links)
IsLinkWord b word = ⊥

-- null, or a link to a row of the table
abbrev pub IsRowLink : Bounds → Option ℕ → Type 0
IsRowLink b to = ForSome to (λ row. row < b.rows)

-- rows, roots, values and links are within the table
abbrev pub Allowed : Bounds → PlainOp → Type 0
Allowed b (GateLook row) = row < b.rows
Allowed b (GateTake row) = row < b.rows
Allowed b (Fill row which value) = (row < b.rows) × (which < 2)
Allowed b (Read row which) = (row < b.rows) × (which < 2)
Allowed b (LinkLoad at want) = IsLinkWord b at
Allowed b (LinkCas at from to) = IsLinkWord b at × IsRowLink b from.to × IsRowLink b to.to
Allowed b (LinkStore row number to) = (row < b.rows) × (number < b.links) × IsRowLink b to

-- the row that is given, if the operation gives one
abbrev pub taken : PlainOp → ℕ → List ℕ
taken (GateTake row) n = if n == 0 then row ∷ [] else []
taken op n = []

-- the id of a row's node, if there is a row
abbrev pub id_by : List ℕ → Option ℕ → Option ℕ
id_by g None = None
id_by g (Some row) = Some (index_of row g)

-- a link by the id of its row's node
abbrev pub link_by : List ℕ → RowLink → Link
link_by g l = record { to = id_by g l.to; mark = l.mark }

-- the place of a link word; another word stands for a node that isn't there
abbrev pub place_by : List ℕ → Word → Place
place_by g (Root r) = AtRoot r
place_by g (Next row) = AtNext (index_of row g)
place_by g (Side row) = AtSide (index_of row g)
place_by g word = AtNext (length g)

-- the link of a place that is there
abbrev pub link_at : Option Link → Link
link_at None = null
link_at (Some l) = l

-- the words, the rows that were given, in order, and the heap that the events made
pub record State : Type 0 where
  pub words : List ℕ
  pub given : List ℕ
  pub heap : Heap

-- the number that the operation finds
abbrev pub finds : Bounds → State → PlainOp → ℕ
finds b x op = slice_index x.words (place b (word_of op))

-- a new table
abbrev pub start : Bounds → State
start b = record { words = new_words b; given = []; heap = new_heap (numbers b) }

module _ {N : Type 0} where
  -- the event of an operation that wants a link: the done one, or a Miss of what the place shows
  abbrev pub tested : State → ℕ → Place → Link → Event N → Bool → Event N
  tested x a at want done true = done
  tested x a at want done false = event_by a (act.Miss at want (link_at (shown x.heap at))) None

  -- a load of the place, which finds the word n, as an event: with a wanted link a test of it
  abbrev pub load_event : State → ℕ → Place → Option RowLink → ℕ → Option N → Event N
  load_event x a at None n said = event_by a (act.Look at (link_at (shown x.heap at))) None
  load_event x a at (Some want) n said = tested x a at (link_by x.given want) (event_by a (act.Look at (link_by x.given want)) said) (n == link_word want)

  -- a compare-and-swap of the place, which finds the word n, as an event
  abbrev pub cas_event : State → ℕ → Place → RowLink → RowLink → ℕ → Option N → Event N
  cas_event x a at from to n said = tested x a at (link_by x.given from) (event_by a (act.Move at (link_by x.given from) (link_by x.given to)) said)
      (n == link_word from)

  -- the events of an operation of this agent, which found n: none or one
  abbrev pub events_of : State → ℕ → PlainOp → ℕ → Option N → List (Event N)
  events_of x a (GateLook row) n said = []
  events_of x a (GateTake row) n said = if n == 0 then event_by a act.Give None ∷ [] else []
  events_of x a (Fill row which value) n said = event_by a (act.Fill (index_of row x.given) which value) None ∷ []
  events_of x a (Read row which) n said = []
  events_of x a (LinkLoad at want) n said = load_event x a (place_by x.given at) want n said ∷ []
  events_of x a (LinkCas at from to) n said = cas_event x a (place_by x.given at) from to n said ∷ []
  events_of x a (LinkStore row number to) n said = event_by a (aim_act number (index_of row x.given) (id_by x.given to)) None ∷ []

  abbrev pub events_at : Bounds → State → PlainStep N → List (Event N)
  events_at b x s = events_of x s.agent s.op (finds b x s.op) s.note

  -- the state after a step
  abbrev pub next : Bounds → State → PlainStep N → State
  next b x s = record {
    words = slice_set x.words (place b (word_of s.op)) (written s.op (finds b x s.op));
    given = x.given ++ taken s.op (finds b x s.op);
    heap = heap_from x.heap (events_at b x s);
  }

  abbrev pub run_from : Bounds → State → List (PlainStep N) → State
  run_from b x [] = x
  run_from b x (s ∷ ss) = run_from b (next b x s) ss

  -- the state after a journal
  abbrev pub run : Bounds → List (PlainStep N) → State
  run b j = run_from b (start b) j

  abbrev pub project_from : Bounds → State → List (PlainStep N) → List (Event N)
  project_from b x [] = []
  project_from b x (s ∷ ss) = events_at b x s ++ project_from b (next b x s) ss

  -- the events of a journal
  abbrev pub project : Bounds → List (PlainStep N) → List (Event N)
  project b j = project_from b (start b) j

  -- each step's operation is within the table
  abbrev pub AllowedFrom : Bounds → List (PlainStep N) → Type 0
  AllowedFrom b [] = Unit {0}
  AllowedFrom b (s ∷ ss) = Allowed b s.op × AllowedFrom b ss
