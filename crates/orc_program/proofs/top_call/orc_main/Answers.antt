use Rattle.std.proofs.Common.{rules, ◌≡◌, ◌∙◌, ◌⊎◌, [], ℕ, arith, inl, inr, refl, subst, sym}
use Rattle.std.proofs.KnownBytes.{Consumes-nil}
use Rattle.orc_options.proofs.NamesAnywhere.{never_both}
use Rattle.orc_options.specs.Settings.{RefusesWords}
use Rattle.orc_program.specs.Answers.{AnswersWords}
use Rattle.orc_program.specs.declared.ended.Ended.TheVariants as end
use Rattle.orc_program.specs.Refusals.{words_refused}
use Rattle.orc_program.proofs.OneAnswer.{no_failure, statuses}
use Rattle.orc_program.proofs.Rows.{of_answer, of_none}
use Rattle.orc_program.proofs.Whole.{IsAnswered, answered, reported, to_words}
use Rattle.orc_program.proofs.top_call.orc_main.Goals as goal

-- refused words end with 2 or 5 alone
not_read : (n : ℕ) → (n ≡ 2) ⊎ (n ≡ 5) → n ≡ 4 → ⊥
not_read n (inl two) four = omega (arith, two, four)
not_read n (inr five) four = omega (arith, five, four)

-- what was answered is written, or its writing fails: no failure of reading or of memory
not_failed : (status n : ℕ) → (status ≡ 0) ⊎ (status ≡ 3) ⊎ (status ≡ 6) ⊎ (status ≡ 8) → (n ≡ status) ⊎ (n ≡ 5) → (n ≡ 4) ⊎ (n ≡ 7) → ⊥
not_failed status n said (inl is) (inl four) = (no_failure status said).0 (sym is ∙ four)
not_failed status n said (inl is) (inr seven) = (no_failure status said).2 (sym is ∙ seven)
not_failed status n said (inr five) (inl four) = omega (arith, five, four)
not_failed status n said (inr five) (inr seven) = omega (arith, five, seven)

pub returns-in-Err-Words-clause-cut_short : goal.returns-in-Err-Words-clause-cut_short
returns-in-Err-Words-clause-cut_short g c five =
    let refuses : RefusesWords c.args.words.now = search rules in
    (2, words_refused, inl (refuses, c.requires, refl, refl), c.refuse_words.ensures.cut_short five)

pub returns-in-Err-Words-clause-complete : goal.returns-in-Err-Words-clause-complete
returns-in-Err-Words-clause-complete g c bytes lines told asks few file =
    let refuses : RefusesWords c.args.words.now = search rules in
    absurd (never_both _ asks.0 asks.1 refuses)

pub returns-in-Err-Words-clause-nothing_read : goal.returns-in-Err-Words-clause-nothing_read
returns-in-Err-Words-clause-nothing_read g c none = (refl, refl)

pub returns-in-Err-Words-clause-most_read : goal.returns-in-Err-Words-clause-most_read
returns-in-Err-Words-clause-most_read g c = ([], Consumes-nil _, omega arith)

pub returns-in-Err-Words-clause-no_read_fault : goal.returns-in-Err-Words-clause-no_read_fault
returns-in-Err-Words-clause-no_read_fault g c answered = refl

pub returns-in-Err-Words-clause-read_fault : goal.returns-in-Err-Words-clause-read_fault
returns-in-Err-Words-clause-read_fault g c four = absurd (not_read _ c.refuse_words.ensures.statuses four)

pub returns-in-Err-Failed-clause-nothing_read : goal.returns-in-Err-Failed-clause-nothing_read
returns-in-Err-Failed-clause-nothing_read g c none = c.read_input.ensures.nothing (λ is. none (c.in-Ok.settings, c.in-Ok.ensures.gives, is))

pub returns-in-Err-Failed-clause-read_fault : goal.returns-in-Err-Failed-clause-read_fault
returns-in-Err-Failed-clause-read_fault g c four =
    let (is, rose) = c.in-Err-Failed.ensures.failed c.in-Err-Failed.field-0-is in
    ((c.in-Ok.settings, c.in-Ok.ensures.gives, is), rose)

pub returns-in-Err-NoMemory-read_input-clause-nothing_read : goal.returns-in-Err-NoMemory-read_input-clause-nothing_read
returns-in-Err-NoMemory-read_input-clause-nothing_read g c none =
    c.read_input.ensures.nothing (λ is. none (c.in-Ok.settings, c.in-Ok.ensures.gives, is))

-- what was read was answered
whole : (g : _) → (c : goal.After-drop-bytes g) → IsAnswered c.args.words.now (g.S.Source.left c.args.source.now) (g.S.Source.left c.read_input.new.source)
    c.answer_of.new.ended c.in-Ok.settings c.in-Ok-read_input.bytes.items c.in-Ok-answer_of.answer.status c.bytes.result.now
whole g c = answered _ _ _ _ _ _ _ _ c.in-Ok.ensures.gives c.in-Ok-read_input.ensures.input _ _ c.as_slice.ensures.value c.bytes.ensures
    c.in-Ok-answer_of.ensures.answered

pub write_text-requires : goal.write_text-requires
write_text-requires g c = (no_failure _ (statuses _ _ _ _ _ c.in-Ok-answer_of.ensures.answered)).1

pub returns-in-Ok-answer_of-clause-answered : goal.returns-in-Ok-answer_of-clause-answered
returns-in-Ok-answer_of-clause-answered g c not_four not_five not_seven =
    let is : c.write_text.result ≡ c.in-Ok-answer_of.answer.status = elim c.write_text.ensures.statuses [ inl is ↦ is | inr five ↦ absurd (not_five five) ] in (
      c.bytes.result.now,
      subst (λ n. AnswersWords c.args.words.now (g.S.Source.left c.args.source.now) (g.S.Source.left c.read_input.new.source) c.answer_of.new.ended n c.bytes.result.now)
          (sym is) (to_words _ _ _ _ _ _ _ _ (whole g c)),
      c.write_text.ensures.written is,
    )

pub returns-in-Ok-answer_of-clause-cut_short : goal.returns-in-Ok-answer_of-clause-cut_short
returns-in-Ok-answer_of-clause-cut_short g c five =
    (c.in-Ok-answer_of.answer.status, c.bytes.result.now, to_words _ _ _ _ _ _ _ _ (whole g c), c.write_text.ensures.cut_short five)

pub returns-in-Ok-answer_of-clause-complete : goal.returns-in-Ok-answer_of-clause-complete
returns-in-Ok-answer_of-clause-complete g c bytes lines told asks few file = elim c.write_text.ensures.statuses [
  | inl is ↦ inl (is ∙ reported _ _ _ _ _ _ _ _ (whole g c) bytes told asks few lines file)
  | inr five ↦ inr (inr (inl five))
]

pub returns-in-Ok-answer_of-clause-safe : goal.returns-in-Ok-answer_of-clause-safe
returns-in-Ok-answer_of-clause-safe g c = of_answer _ _ _ _ _ c.in-Ok-answer_of.ensures.answered

pub returns-in-Err-Words-clause-safe : goal.returns-in-Err-Words-clause-safe
returns-in-Err-Words-clause-safe g c = of_none _ c.requires

pub returns-in-Err-NoMemory-clause-safe : goal.returns-in-Err-NoMemory-clause-safe
returns-in-Err-NoMemory-clause-safe g c = of_none _ c.requires

pub returns-in-Err-Failed-clause-safe : goal.returns-in-Err-Failed-clause-safe
returns-in-Err-Failed-clause-safe g c = of_none _ c.requires

pub returns-in-Err-NoMemory-read_input-clause-safe : goal.returns-in-Err-NoMemory-read_input-clause-safe
returns-in-Err-NoMemory-read_input-clause-safe g c = of_none _ c.requires

pub returns-clause-safe : goal.returns-clause-safe
returns-clause-safe g c =
    let none : c.answer_of.new.ended ≡ end.Nothing = search rules in
    of_none _ none

pub returns-in-Ok-answer_of-clause-nothing_read : goal.returns-in-Ok-answer_of-clause-nothing_read
returns-in-Ok-answer_of-clause-nothing_read g c none =
    c.read_input.ensures.nothing (λ is. none (c.in-Ok.settings, c.in-Ok.ensures.gives, is))

pub returns-in-Ok-answer_of-clause-read_fault : goal.returns-in-Ok-answer_of-clause-read_fault
returns-in-Ok-answer_of-clause-read_fault g c four =
    absurd (not_failed _ _ (statuses _ _ _ _ _ c.in-Ok-answer_of.ensures.answered) c.write_text.ensures.statuses (inl four))

pub returns-in-Ok-answer_of-clause-unanswered : goal.returns-in-Ok-answer_of-clause-unanswered
returns-in-Ok-answer_of-clause-unanswered g c failed =
    absurd (not_failed _ _ (statuses _ _ _ _ _ c.in-Ok-answer_of.ensures.answered) c.write_text.ensures.statuses failed)

pub returns-clause-nothing_read : goal.returns-clause-nothing_read
returns-clause-nothing_read g c none = c.read_input.ensures.nothing (λ is. none (c.in-Ok.settings, c.in-Ok.ensures.gives, is))
