-- Workers with their passes and rooms.
use Rattle.std.proofs.Common.{◌≡◌, ◌+◌, ◌<◌, ◌≤◌, ℕ, suc, All, List, [], ◌∷◌, slice_index_or, arith, length, ◌∙◌}
use Rattle.std.proofs.lemmas.List.Elements.{All-head, All-tail}
use Rattle.orc_cell.specs.CellCalls.{IsUsable, history}
use Rattle.orc_heap.specs.Domains.{agent}
use Rattle.orc_board.proofs.PairLists.{records_fewer}
use Rattle.orc_board.specs.Follows.{own_records}
use Rattle.orc_board.specs.ListWithRoom.{ListWithRoom}
use Rattle.orc_heap.specs.declared.links.Links.{Ghosts as LinksOf}
use Rattle.orc_pairs_rule.specs.declared.pairs.PairsNote.{PairsNote}
use Rattle.orc_watch.specs.declared.line.WatchLine.{WatchLine}
use Rattle.orc_watch.specs.declared.reply.WatchReply.{WatchReply}
use Rattle.orc_watch_run.specs.CameBack.{IsNew}
use Rattle.orc_watch_run.specs.Passes.{AreFresh, IsFreshPass}
use Rattle.orc_watch_run.specs.Team.{IsReady, IsRoom}

-- one who has a fresh pass and room of its own stands ready
pub ready_at : {L D P S : Type 0} (m : LinksOf L D P S PairsNote) (links : L) (lines : List WatchLine) (workers many k : ℕ) (p : P) (r : ListWithRoom WatchReply)
    → length lines ≤ 65535 → many ≡ length lines → 1 ≤ k → k ≤ workers → IsFreshPass m links k p → IsRoom many r
    → IsReady m links lines workers (record { agent = k; desk = p; replies = r }) × IsNew m links (record { agent = k; desk = p; replies = r })
ready_at m links lines workers many k p r few is low high new room =
    let fewer : length (own_records workers k (length lines)) ≤ length lines = records_fewer workers k (length lines) in (
      record {
        few = few;
        no_caller = low;
        in_run = high;
        is_pass = new.is_pass;
        none = room.none;
        room = let spare : r.spare ≡ many = room.spare in omega (arith, fewer, spare, is);
      },
      new.new,
    )

-- passes that are usable and new, in the order of their agents
pub fresh_of : {L D P S : Type 0} (m : LinksOf L D P S PairsNote) (links : L) (k : ℕ) (ps : List P) → All (λ p. IsUsable m links p) ps
    → All (λ p. history m links p ≡ []) ps → ((i : ℕ) (p : P) → i < length ps → agent m links (slice_index_or ps i p) ≡ k + i) → AreFresh m links k ps
fresh_of m links k [] usable new order = tt
fresh_of m links k (p ∷ ps) usable new order = (
  record {
    is_pass = record { usable = All-head (λ q. IsUsable m links q) p ps usable; agent_is = order 0 p (omega arith) ∙ omega arith };
    new = All-head (λ q. history m links q ≡ []) p ps new;
  },
  fresh_of m links (suc k) ps (All-tail (λ q. IsUsable m links q) p ps usable) (All-tail (λ q. history m links q ≡ []) p ps new)
      (λ i q low. order (suc i) q (omega (arith, low)) ∙ omega arith),
)
