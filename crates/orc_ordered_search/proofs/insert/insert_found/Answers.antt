-- By what the search found.
use Rattle.std.proofs.Common.{[], ap, append-nil, arith, false, inl, subst, sym, true, ℕ, ◌*◌, ◌+◌, ◌∙◌, ◌≡◌}
use Rattle.orc_fault.specs.declared.Spent.{Spent as SpentRow}
use Rattle.orc_heap.specs.Moves.{gives_in}
use Rattle.orc_history.specs.declared.set.SetEntry.TheVariants.{Added}
use Rattle.orc_ordered_search.specs.Inserts.{AddsFound}
use Rattle.orc_ordered_search.specs.Reading.{ordering_of, reading_by}
use Rattle.orc_ordered_search.specs.Turns.{Enters, made_from}
use Rattle.orc_ordered_search.specs.declared.turn.InsertTurn.TheVariants.{Answered, NoNode, Over, Spent}
use Rattle.orc_ordered_search.specs.declared.walk.Searched.{Searched}
use Rattle.orc_ordered_search.proofs.Inserting.{keeps_answer, keeps_on, seen_holds}
use Rattle.orc_ordered_search.proofs.Making.{found_over}
use Rattle.orc_ordered_search.proofs.Seeking.{sought_at}
use Rattle.orc_ordered_search.proofs.Since.{few_made}
use Rattle.orc_ordered_search.proofs.insert.insert_found.Goals as goal

-- a turn that is over, or that answered no, ended in no other way

over_adds : (many : ℕ) → Over ≡ Answered true many → ⊥
over_adds many is = cc

over_lacks : Over ≡ NoNode → ⊥
over_lacks is = cc

over_wears : (why : SpentRow) → Over ≡ Spent why → ⊥
over_wears why is = cc

no_adds : (passed many : ℕ) → Answered false passed ≡ Answered true many → ⊥
no_adds passed many is = cc

no_lacks : (passed : ℕ) → Answered false passed ≡ NoNode → ⊥
no_lacks passed is = cc

no_wears : (passed : ℕ) (why : SpentRow) → Answered false passed ≡ Spent why → ⊥
no_wears passed why is = cc

pub returns-in-Over-clause-pass : goal.returns-in-Over-clause-pass
returns-in-Over-clause-pass g c = c.requires.pass

pub returns-in-Over-clause-later : goal.returns-in-Over-clause-later
returns-in-Over-clause-later g c = ([], append-nil _)

pub returns-in-Over-clause-inserted : goal.returns-in-Over-clause-inserted
returns-in-Over-clause-inserted g c = λ a.
    let x = ordering_of (g.met.K.Rank.ordered _) in
    let over = found_over x.reading a.begun _ (sought_at c.in-Over.is a).finds.0 in
    let all = g.met.L.Links.allowed _ _ c.requires.pass in
    keeps_on x c.args.key g.K.SetRank.key_kind c.args.node a.slots a.begun _ a.keeps over (seen_holds x a.begun _ over.own over.over.made.puts all) all

pub returns-in-Over-clause-few : goal.returns-in-Over-clause-few
returns-in-Over-clause-few g c = λ a.
    let (f, few) = (sought_at c.in-Over.is a).finds in
    let t = g.L.Links.seat _ c.args.p.now in
    few_made 4 (4 + 3 * gives_in (made_from a.begun t)) a.begun t f.own f.quiet.puts few (omega arith)

pub returns-in-Over-clause-added : goal.returns-in-Over-clause-added
returns-in-Over-clause-added g c = λ a many is. absurd (over_adds many is)

pub returns-in-Over-clause-absent : goal.returns-in-Over-clause-absent
returns-in-Over-clause-absent g c = λ a is. absurd (over_lacks is)

pub returns-in-Over-clause-lacking : goal.returns-in-Over-clause-lacking
returns-in-Over-clause-lacking g c = λ is. absurd (over_lacks is)

pub returns-in-Over-clause-worn : goal.returns-in-Over-clause-worn
returns-in-Over-clause-worn g c = λ why is. absurd (over_wears why is)

pub add_at-requires-clause-pass : goal.add_at-requires-clause-pass
add_at-requires-clause-pass g c = c.requires.pass

pub add_at-requires-clause-root : goal.add_at-requires-clause-root
add_at-requires-clause-root g c = c.requires.root

pub add_at-requires-clause-sought : goal.add_at-requires-clause-sought
add_at-requires-clause-sought g c = sought_at c.in-Absent.is c.requires.sought

pub returns-in-Absent-clause-pass : goal.returns-in-Absent-clause-pass
returns-in-Absent-clause-pass g c = c.add_at.ensures.pass

pub returns-in-Absent-clause-later : goal.returns-in-Absent-clause-later
returns-in-Absent-clause-later g c = c.add_at.ensures.later

pub returns-in-Absent-clause-inserted : goal.returns-in-Absent-clause-inserted
returns-in-Absent-clause-inserted g c = λ a.
    c.add_at.ensures.inserted (sought_at c.in-Absent.is a)

pub returns-in-Absent-clause-few : goal.returns-in-Absent-clause-few
returns-in-Absent-clause-few g c = λ a. c.add_at.ensures.few (sought_at c.in-Absent.is a)

pub returns-in-Absent-clause-added : goal.returns-in-Absent-clause-added
returns-in-Absent-clause-added g c = λ a many is.
    let d = c.args.links.now in
    let t = g.L.Links.seat d c.args.p.now in
    subst (λ (y : Searched). AddsFound (reading_by (g.L.Links.numbers d) g.K.Rank.manner) a.start (g.K.SetRank.key_rank c.args.key) c.args.key
    g.K.SetRank.key_kind (g.K.SetRank.noted (Added t.agent c.args.key true)) y many a.begun (g.L.Links.seat d c.add_at.new.p)) (sym c.in-Absent.is)
    (c.add_at.ensures.added (sought_at c.in-Absent.is a) many is)

pub returns-in-Absent-clause-absent : goal.returns-in-Absent-clause-absent
returns-in-Absent-clause-absent g c = λ a is. c.add_at.ensures.absent (sought_at c.in-Absent.is a) is

pub returns-in-Absent-clause-lacking : goal.returns-in-Absent-clause-lacking
returns-in-Absent-clause-lacking g c = c.add_at.ensures.lacking

pub returns-in-Absent-clause-worn : goal.returns-in-Absent-clause-worn
returns-in-Absent-clause-worn g c = c.add_at.ensures.worn

pub enter_present-requires-clause-pass : goal.enter_present-requires-clause-pass
enter_present-requires-clause-pass g c = c.requires.pass

pub enter_present-requires-clause-entry : goal.enter_present-requires-clause-entry
enter_present-requires-clause-entry g c = inl (ap (λ (i : ℕ). Added i c.args.key false) c.agent-agent.ensures)

pub enter_present-requires-clause-present : goal.enter_present-requires-clause-present
enter_present-requires-clause-present g c =
    let a = c.requires.sought in
    (a.start, c.in-Present.passed, a.begun, (sought_at c.in-Present.is a).finds)

pub returns-then-enter_present-clause-pass : goal.returns-then-enter_present-clause-pass
returns-then-enter_present-clause-pass g c = c.enter_present.ensures.pass

pub returns-then-enter_present-clause-later : goal.returns-then-enter_present-clause-later
returns-then-enter_present-clause-later g c = c.enter_present.ensures.later

pub returns-then-enter_present-clause-added : goal.returns-then-enter_present-clause-added
returns-then-enter_present-clause-added g c = λ a many is. absurd (no_adds c.in-Present.passed many is)

pub returns-then-enter_present-clause-absent : goal.returns-then-enter_present-clause-absent
returns-then-enter_present-clause-absent g c = λ a is. absurd (no_lacks c.in-Present.passed is)

pub returns-then-enter_present-clause-lacking : goal.returns-then-enter_present-clause-lacking
returns-then-enter_present-clause-lacking g c = λ is. absurd (no_lacks c.in-Present.passed is)

pub returns-then-enter_present-clause-worn : goal.returns-then-enter_present-clause-worn
returns-then-enter_present-clause-worn g c = λ why is. absurd (no_wears c.in-Present.passed why is)

pub returns-then-enter_present-clause-inserted : goal.returns-then-enter_present-clause-inserted
returns-then-enter_present-clause-inserted g c = λ a.
    let r = reading_by _ g.K.Rank.manner in
    let u = g.L.Links.seat _ c.enter_present.new.p in
    let f = (sought_at c.in-Present.is a).finds in
    let done = (c.if-enter_present.ensures.entered a.start c.in-Present.passed a.begun f).0 in
    keeps_answer r c.args.key g.K.SetRank.key_kind c.args.node a.slots (Added a.begun.agent c.args.key false) a.begun u a.keeps
    (subst (λ (i : ℕ). Enters r (Added i c.args.key false) a.begun true u) (c.agent-agent.ensures ∙ f.behind.quiet.puts.agent) done)

pub returns-then-enter_present-clause-few : goal.returns-then-enter_present-clause-few
returns-then-enter_present-clause-few g c = λ a.
    let f = (sought_at c.in-Present.is a).finds in
    let (done, few) = c.if-enter_present.ensures.entered a.start c.in-Present.passed a.begun f in
    let u = g.L.Links.seat _ c.enter_present.new.p in
    few_made 3 (4 + 3 * gives_in (made_from a.begun u)) a.begun u done.own done.made.puts few (omega arith)

pub returns-else-enter_present-clause-pass : goal.returns-else-enter_present-clause-pass
returns-else-enter_present-clause-pass g c = c.enter_present.ensures.pass

pub returns-else-enter_present-clause-later : goal.returns-else-enter_present-clause-later
returns-else-enter_present-clause-later g c = c.enter_present.ensures.later

pub returns-else-enter_present-clause-added : goal.returns-else-enter_present-clause-added
returns-else-enter_present-clause-added g c = λ a many is. absurd (over_adds many is)

pub returns-else-enter_present-clause-absent : goal.returns-else-enter_present-clause-absent
returns-else-enter_present-clause-absent g c = λ a is. absurd (over_lacks is)

pub returns-else-enter_present-clause-lacking : goal.returns-else-enter_present-clause-lacking
returns-else-enter_present-clause-lacking g c = λ is. absurd (over_lacks is)

pub returns-else-enter_present-clause-worn : goal.returns-else-enter_present-clause-worn
returns-else-enter_present-clause-worn g c = λ why is. absurd (over_wears why is)

pub returns-else-enter_present-clause-inserted : goal.returns-else-enter_present-clause-inserted
returns-else-enter_present-clause-inserted g c = λ a.
    let x = ordering_of (g.met.K.Rank.ordered _) in
    let f = (sought_at c.in-Present.is a).finds in
    let over = (c.if-enter_present.ensures.entered a.start c.in-Present.passed a.begun f).0 in
    let all = g.met.L.Links.allowed _ _ c.enter_present.ensures.pass in
    keeps_on x c.args.key g.K.SetRank.key_kind c.args.node a.slots a.begun _ a.keeps over (seen_holds x a.begun _ over.own over.over.made.puts all) all

pub returns-else-enter_present-clause-few : goal.returns-else-enter_present-clause-few
returns-else-enter_present-clause-few g c = λ a.
    let f = (sought_at c.in-Present.is a).finds in
    let (over, few) = c.if-enter_present.ensures.entered a.start c.in-Present.passed a.begun f in
    let u = g.L.Links.seat _ c.enter_present.new.p in
    few_made 3 (4 + 3 * gives_in (made_from a.begun u)) a.begun u over.own over.over.made.puts few (omega arith)
