-- What a run over any domains leaves, said of reclaiming ones and their sizes.
use Rattle.std.proofs.Common.{Bool, false, true, List, ap, subst, sym, ℕ, ◌≡◌}
use mathlib.Core.Path.{fun_ext}
use Rattle.orc_words.specs.Bounds.{Bounds}
use Rattle.orc_sound.specs.declared.steps.Step.{Step}
use Rattle.orc_heap.specs.Heap.{HeapNumbers}
use Rattle.orc_heap.specs.Journals.{run_heap}
use Rattle.orc_heap.specs.Seeds.{opening_events}
use Rattle.orc_heap.specs.declared.events.Event.{Event}
use Rattle.orc_heap.specs.declared.links.Links.{Ghosts as LinksOf}
use Rattle.orc_history.specs.declared.set.ListRefused.{ListRefused}
use Rattle.orc_history.specs.declared.set.SetEntry.{SetEntry}
use Rattle.orc_fifo_rule.specs.QueueDiscipline.{entries_of, position_of}
use Rattle.orc_fifo_rule.specs.declared.fifo.FifoNote.{FifoNote}
use Rattle.orc_jobs.specs.declared.line.Line.{Line}
use Rattle.orc_board.specs.declared.replies.PostReply.{PostReply}
use Rattle.orc_board.specs.declared.replies.TakeReply.{TakeReply}
use Rattle.orc_board.specs.Runs.{Ran}
use Rattle.orc_board.specs.Stretches.{View, pick}
use Rattle.orc_domain.specs.Rest.{GoesOnQuietly}
use Rattle.orc_at_rest.proofs.Silent.{Silent}
use Rattle.orc_at_rest.specs.Domains.{IsLeftOf, IsMadeSo, queue_seed}
use Rattle.orc_at_rest.specs.Queues.{queue_over}
use Rattle.orc_run.specs.Runs.{WorkedThrough}
use Rattle.orc_run.specs.declared.run.Finished.{Finished}
use Rattle.orc_run.specs.declared.set.SetChoice.{SetChoice}
use Rattle.orc_run.proofs.Growing.{ran_more}

-- what was left of both queues
pub left_both : {Q L D P S N R : Type 0} (links_of : Q → L) (members : LinksOf L D P S N) (rests : L → List P → R → Type 0) (seen : Bool → List S)
    (queue rush : Q) (r t : R) → IsLeftOf members rests (links_of queue) (seen false) r → IsLeftOf members rests (links_of rush) (seen true) t → (b : Bool)
    → IsLeftOf members rests (links_of (pick queue rush b)) (seen b) (pick r t b)
left_both links_of members rests seen queue rush r t x y false = x
left_both links_of members rests seen queue rush r t x y true = y

pub made_both : {Q L D P S N : Type 0} (links_of : Q → L) (members : LinksOf L D P S N) (bounds : L → Bounds) (b : Bounds) (queue rush : Q)
    (seed : _) → IsMadeSo members bounds b seed (links_of queue) → IsMadeSo members bounds b seed (links_of rush) → (rush_too : Bool)
    → IsMadeSo members bounds b seed (links_of (pick queue rush rush_too))
made_both links_of members bounds b queue rush seed x y false = x
made_both links_of members bounds b queue rush seed x y true = y

-- a run with the set that was chosen
pub of_choice : {lines : List Line} {posters takers rows : ℕ} (chosen set : SetChoice) (f : Finished) → chosen ≡ set
    → WorkedThrough lines posters takers rows set f → WorkedThrough lines posters takers rows chosen f
of_choice {lines} {posters} {takers} {rows} chosen set f is w = subst (λ (x : SetChoice). WorkedThrough lines posters takers rows x f) (sym is) w

-- a queue that begins with a dummy of position 0 gives that position first
pub first_is : (n : HeapNumbers) (opening : List (Event FifoNote)) → opening ≡ opening_events queue_seed → position_of (run_heap n opening) 0 ≡ 0
first_is n opening is = ap (λ es. position_of (run_heap n es) 0) is

-- replies that follow three journals follow them also where the domains come to rest
pub ran_at_rest : {B : Type 0} (s t : View B SetEntry ListRefused) (n m : List B) (lines : List Line) (posters takers : ℕ) (posts : List PostReply)
    (takes : List TakeReply) (k j : Bool → List (Step FifoNote)) (first : Bool → ℕ) (b : Bool → Bounds) (c : Bounds) → ((rush : Bool) → first rush ≡ 0)
    → ((rush : Bool) → b rush ≡ c) → ((rush : Bool) → GoesOnQuietly (b rush) (k rush) (j rush)) → s ≡ t → Silent s.history n m
    → Ran (λ rush. queue_over (first rush) (b rush)) s lines posters takers posts takes k n → Ran (λ rush. queue_over 0 c) t lines posters takers posts takes j m
ran_at_rest {B} s t n m lines posters takers posts takes k j first b c firsts sizes quiet same silent ran =
    let grown : Ran (λ rush. queue_over (first rush) (b rush)) s lines posters takers posts takes j m =
    ran_more (λ rush. queue_over (first rush) (b rush)) s lines posters takers posts takes k n j m
    (λ rush. record { later = (quiet rush).later; same = ap entries_of (quiet rush).quiet }) silent ran in
    subst (λ (x : View B SetEntry ListRefused). Ran (λ rush. queue_over 0 c) x lines posters takers posts takes j m) same
    (subst (λ (x : Bool → ℕ). Ran (λ rush. queue_over (x rush) c) s lines posters takers posts takes j m) (fun_ext firsts)
    (subst (λ (x : Bool → Bounds). Ran (λ rush. queue_over (first rush) (x rush)) s lines posters takers posts takes j m) (fun_ext sizes) grown))
