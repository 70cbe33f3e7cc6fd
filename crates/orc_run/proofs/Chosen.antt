-- What a run left of its set tells which was chosen.
use Rattle.std.proofs.Common.{List, refl, subst, sym, ℕ, ◌+◌, ◌≡◌}
use Rattle.orc_words.specs.Bounds.{Bounds}
use Rattle.orc_heap.specs.declared.links.Links.{Ghosts as LinksOf}
use Rattle.orc_fifo_rule.specs.declared.fifo.FifoNote.{FifoNote}
use Rattle.orc_chain_rule.specs.declared.chain.ChainNote.{ChainNote}
use Rattle.orc_split_rule.specs.declared.split.SplitNote.{SplitNote}
use Rattle.orc_jobs.specs.declared.line.Line.{Line}
use Rattle.orc_board.specs.declared.replies.Replies.{Replies}
use Rattle.orc_at_rest.specs.Domains.{empty_seed}
use Rattle.orc_run.specs.Containers.{set_on, split_on}
use Rattle.orc_run.specs.Over.{RanOver, RanWith}
use Rattle.orc_run.specs.Sets.{most_buckets}
use Rattle.orc_run.specs.declared.over.SetLeft.{SetLeft}
use Rattle.orc_run.specs.declared.over.SetLeft.TheVariants as left
use Rattle.orc_run.specs.declared.set.SetChoice.{SetChoice}
use Rattle.orc_run.specs.declared.set.SetChoice.TheVariants as choice

module _ {L D P S R M E Y T U K F Z V W : Type 0} (members : LinksOf L D P S FifoNote) (bounds : L → Bounds) (rests : L → List P → R → Type 0)
    (lists : LinksOf M E Y T ChainNote) (list_bounds : M → Bounds) (list_rests : M → List Y → U → Type 0)
    (splits : LinksOf K F Z V SplitNote) (split_bounds : K → Bounds) (split_rests : K → List Z → W → Type 0)
    (lines : List Line) (posters takers rows : ℕ) (queue rush : R) (replies : Replies)
  where
    abbrev pub Left : SetChoice → SetLeft U W → Type 0
    Left set what =
        RanWith members bounds rests lists list_bounds list_rests splits split_bounds split_rests lines posters takers rows set queue rush what replies

    -- so many lists were chosen, and the run left them so
    abbrev pub OfLists : SetChoice → U → Type 0
    OfLists set r = (buckets : ℕ) × (set ≡ choice.Lists buckets)
        × RanOver members bounds rests lists list_bounds list_rests empty_seed (set_on lists) lines posters takers rows buckets queue rush r replies

    pub as_lists : (set : SetChoice) (buckets : ℕ) (r : U) → set ≡ choice.Lists buckets
        → RanOver members bounds rests lists list_bounds list_rests empty_seed (set_on lists) lines posters takers rows buckets queue rush r replies
        → Left set (left.Lists r)
    as_lists set buckets r is w = subst (λ (x : SetChoice). Left x (left.Lists r)) (sym is) w

    chose_lists : (set : SetChoice) (r : U) → Left set (left.Lists r) → OfLists set r
    chose_lists (choice.Lists buckets) r w = (buckets, refl, w)
    chose_lists choice.Split r w = absurd w

    -- the split-ordered set was
    abbrev pub OfSplit : SetChoice → W → Type 0
    OfSplit set r = (set ≡ choice.Split)
        × RanOver members bounds rests splits split_bounds split_rests empty_seed (split_on splits) lines posters takers rows (most_buckets + 1) queue rush r replies

    pub as_split : (set : SetChoice) (r : W) → set ≡ choice.Split
        → RanOver members bounds rests splits split_bounds split_rests empty_seed (split_on splits) lines posters takers rows (most_buckets + 1) queue rush r replies
        → Left set (left.Split r)
    as_split set r is w = subst (λ (x : SetChoice). Left x (left.Split r)) (sym is) w

    chose_split : (set : SetChoice) (r : W) → Left set (left.Split r) → OfSplit set r
    chose_split (choice.Lists buckets) r w = absurd w
    chose_split choice.Split r w = (refl, w)

    -- what is left of lists was chosen so, and what is left of a split-ordered set
    pub of_lists : (set : SetChoice) (what : SetLeft U W) (r : U) → what ≡ left.Lists r → Left set what → OfLists set r
    of_lists set what r is w = chose_lists set r (subst (λ (x : SetLeft U W). Left set x) is w)

    pub of_split : (set : SetChoice) (what : SetLeft U W) (r : W) → what ≡ left.Split r → Left set what → OfSplit set r
    of_split set what r is w = chose_split set r (subst (λ (x : SetLeft U W). Left set x) is w)
