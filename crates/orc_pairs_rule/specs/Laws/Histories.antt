-- One entry more of a legal history.
use Rattle.std.proofs.Common.{List, Option, Some, None, [], append-nil, refl, ℕ, ◌++◌, ◌∷◌, ◌≡◌}
use Rattle.orc_pairs_rule.specs.declared.entry.CellEntry.{CellEntry}
use Rattle.orc_pairs_rule.specs.declared.entry.CellEntry.TheVariants.{Published, Seen}
use Rattle.orc_pairs_rule.specs.declared.pairs.PairsNote.{PairsNote}
use Rattle.orc_pairs_rule.specs.declared.pairs.PairsNote.TheVariants.{Entry, Stage, Unstage}
use Rattle.orc_pairs_rule.specs.CellHistory.{IsLegalCell, IsLegalFrom, Parts, parts_after, replaced}
use Rattle.orc_pairs_rule.specs.PairsDiscipline.{MayEnter, entries_in}

pub parts-append : (now : Parts) (es fs : List CellEntry) → parts_after now (es ++ fs) ≡ parts_after (parts_after now es) fs
parts-append now [] fs = refl
parts-append now (Published agent left right x y ∷ es) fs = parts-append (replaced left right now) es fs
parts-append now (Seen agent x y ∷ es) fs = parts-append now es fs

pub legal-join : (now : Parts) (es fs : List CellEntry) → IsLegalFrom now es → IsLegalFrom (parts_after now es) fs → IsLegalFrom now (es ++ fs)
legal-join now [] fs a b = b
legal-join now (Published agent left right x y ∷ es) fs a b = (a.0, legal-join (replaced left right now) es fs a.1 b)
legal-join now (Seen agent x y ∷ es) fs a b = (a.0, legal-join now es fs a.1 b)

pub legal-left : (now : Parts) (es fs : List CellEntry) → IsLegalFrom now (es ++ fs) → IsLegalFrom now es
legal-left now [] fs l = tt
legal-left now (Published agent left right x y ∷ es) fs l = (l.0, legal-left (replaced left right now) es fs l.1)
legal-left now (Seen agent x y ∷ es) fs l = (l.0, legal-left now es fs l.1)

pub legal-right : (now : Parts) (es fs : List CellEntry) → IsLegalFrom now (es ++ fs) → IsLegalFrom (parts_after now es) fs
legal-right now [] fs l = l
legal-right now (Published agent left right x y ∷ es) fs l = legal-right (replaced left right now) es fs l.1
legal-right now (Seen agent x y ∷ es) fs l = legal-right now es fs l.1

-- what an allowed note enters keeps the history legal
pub legal_more : (history : List CellEntry) (agent : ℕ) (noted : Option PairsNote) → IsLegalCell history → MayEnter history agent noted
    → IsLegalCell (history ++ entries_in noted)
legal_more history agent None legal may = rw append-nil legal
legal_more history agent (Some Stage) legal may = rw append-nil legal
legal_more history agent (Some Unstage) legal may = rw append-nil legal
legal_more history agent (Some (Entry entry)) legal may = may.1
