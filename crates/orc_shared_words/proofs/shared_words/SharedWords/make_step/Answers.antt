use Rattle.std.proofs.Common.{ap, refl, rules, ◌<◌, ◌∙◌, subst, sym}
use Rattle.orc_shared_words.specs.Steps.{IsAllowedLater}
use Rattle.orc_words.specs.declared.operation.Operation.TheVariants.{Swap}
use Rattle.orc_shared_words.proofs.Steps.{makes, told, tries}
use Rattle.orc_shared_words.proofs.shared_words.SharedWords.make_step.Goals as goal

pub load-found-requires : goal.load-found-requires
load-found-requires g c = (
  search rules,
  subst (λ z. z < c.args.self.now.table.shared.table_id.words) (sym (c.operation-index.ensures.index _ c.requires.tied c.requires.allowed)) c.requires.inside,
  tries g.M.Machine.rules g.M.Machine.obeys c.args.self.now.shape (λ k. g.D.Discipline.holds (g.M.Machine.numbers k))
      (λ k. g.D.Discipline.may (g.M.Machine.numbers k)) (g.D.Discipline.keeps _) _ _ _ _ _ _ _ _ _ c.operation-index.result.index _
      c.args.self.now.shaped c.requires.picked (c.operation-index.ensures.index _ c.requires.tied c.requires.allowed)
      (c.operation-index.ensures.written _ c.requires.tied c.requires.allowed) (c.operation-index.ensures.answer _ c.requires.tied c.requires.allowed)
      (c.in-Swap-eq0.is ∙ ap (λ v. Swap v) (sym c.in-Swap-eq0.field-0-is ∙ c.in-Swap-eq0.field-0-test)) (c.requires.agent, refl) c.requires.allowed c.requires.licensed,
)

-- a load that found another number than 0 left the seat as it was
pub swap-requires : goal.swap-requires
swap-requires g c =
    let same = c.load-found.ensures.2.1 c.if-found-eq0.false in (
      search rules,
      subst (λ z. z < c.args.self.now.table.shared.table_id.words) (sym (c.operation-index.ensures.index _ c.requires.tied c.requires.allowed)) c.requires.inside,
      makes g.M.Machine.rules g.M.Machine.obeys c.args.self.now.shape (λ k. g.D.Discipline.holds (g.M.Machine.numbers k))
          (λ k. g.D.Discipline.may (g.M.Machine.numbers k)) (g.D.Discipline.keeps _) _ _ _ _ _ _ _ _ _ c.operation-index.result.index _ _ _ refl
          c.args.self.now.shaped c.requires.picked (c.operation-index.ensures.index _ c.requires.tied c.requires.allowed)
          (c.operation-index.ensures.written _ c.requires.tied c.requires.allowed) (c.operation-index.ensures.answer _ c.requires.tied c.requires.allowed)
          (c.in-Swap-eq0.is ∙ ap (λ v. Swap v) (sym c.in-Swap-eq0.field-0-is ∙ c.in-Swap-eq0.field-0-test)) (ap (λ z. z.0.agent) same ∙ c.requires.agent, ap (λ z. z.0.own) same) c.requires.allowed
          (subst (λ z. IsAllowedLater g.M.Machine.rules c.args.self.now.shape (g.D.Discipline.holds (g.M.Machine.numbers c.args.self.now.shape))
          (g.D.Discipline.may (g.M.Machine.numbers c.args.self.now.shape)) z.0 c.args.agent c.args.op.now c.args.note.now) (sym same) c.requires.licensed),
    )

pub operate-requires-clause-inside : goal.operate-requires-clause-inside
operate-requires-clause-inside g c =
    subst (λ z. z < c.args.self.now.table.shared.table_id.words) (sym (c.operation-index.ensures.index _ c.requires.tied c.requires.allowed)) c.requires.inside

pub operate-requires-clause-allowed : goal.operate-requires-clause-allowed
operate-requires-clause-allowed g c s =
    makes g.M.Machine.rules g.M.Machine.obeys c.args.self.now.shape (λ k. g.D.Discipline.holds (g.M.Machine.numbers k))
    (λ k. g.D.Discipline.may (g.M.Machine.numbers k)) (g.D.Discipline.keeps _) _ _ _ _ _ _ _ _ _ c.operation-index.result.index _ c.operation-index.result.operation _ refl
    c.args.self.now.shaped c.requires.picked (c.operation-index.ensures.index _ c.requires.tied c.requires.allowed)
    (c.operation-index.ensures.written _ c.requires.tied c.requires.allowed) (c.operation-index.ensures.answer _ c.requires.tied c.requires.allowed)
    refl (c.requires.agent, refl) c.requires.allowed c.requires.licensed

pub returns-in_default : goal.returns-in_default
returns-in_default g c =
    let did = told g.M.Machine.rules (λ k. g.D.Discipline.holds (g.M.Machine.numbers k)) (λ k. g.D.Discipline.may (g.M.Machine.numbers k))
    _ _ _ _ _ _ _ c.requires.picked c.operate.ensures.told.1 in
    record { table = c.operate.ensures.table; step = did.0; slots = did.1 }
