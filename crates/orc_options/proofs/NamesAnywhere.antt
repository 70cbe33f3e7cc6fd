-- What `clap` makes of the words doesn't depend on where the program holds the words of its choices.
use Rattle.std.proofs.Common.{◌≡◌, ◌∙◌, false, cond, List, Some, [], ◌∷◌, ℕ, refl, sym, ap, ap₂, map, length, get_or, bytes_eq, is_some, ◌||◌, drop, fold}
use Rattle.std.specs.Borrow.{Bor}
use Rattle.std.specs.List.{list_any}
use Rattle.clap.specs.Facts.{unwrap_or_range}
use Rattle.clap.specs.Faults as faults
use Rattle.clap.specs.Faults.{fault_of}
use Rattle.clap.specs.Kinds.{Kinds, or_else, range_kinds, values_kinds}
use Rattle.clap.specs.Simple.{App, Shape, built, entered, matches_of, new_rule}
use Rattle.clap.specs.ValueTests.{accepts}
use Rattle.clap.specs.Walk as walks
use Rattle.clap.specs.Walk.{Held, Row, Rule, Text, Walk}
use Rattle.clap.specs.declared.builder.action.ArgAction.TheVariants.{Set}
use Rattle.clap.specs.declared.builder.value_parser.ValueParser.TheVariants as vp
use Rattle.clap.specs.declared.error.kind.ErrorKind.TheVariants as kind
use Rattle.orc_options.specs.Options.{IsCommand, command_app}
use Rattle.orc_options.specs.Settings.{GivesSettings, RefusesWords, settings_in}
use Rattle.orc_options.specs.declared.settings.Settings.{Settings}
use Rattle.orc_options.proofs.AlikeRules.{Alike, AlikeIfSome, alike_if_some, next_alike, settle_fault, settled, walk, walk_fault}

-- the words that the program holds for its choices
pub record Choices : Type 0 where
  pub modes : Bor (List (Bor Text))
  pub answers : Bor (List (Bor Text))
  pub sets : Bor (List (Bor Text))

-- the built command, and its rules of the mode, of the rest and of the set
abbrev app_with : Choices → App
app_with w = command_app w.modes w.answers w.sets

abbrev shape : Choices → Shape
shape w = (built (app_with w)).top

abbrev rule : ℕ → Choices → Rule
rule i w = get_or (shape w).rules i (new_rule [])

named : (names : List (Bor Text)) (text : Text)
    → list_any (λ name. bytes_eq name.now text) names ≡ list_any (λ name. bytes_eq name text) (map (λ n. n.now) names)
named [] text = refl
named (n ∷ ns) text = ap (λ b. bytes_eq n.now text || b) (named ns text)

module _ (m n : Bor (List (Bor Text))) (same : map (λ n. n.now) m.now ≡ map (λ n. n.now) n.now) where
  accepted : (text : Text) → accepts false (vp.Names m) text ≡ accepts false (vp.Names n) text
  accepted text = named m.now text ∙ (ap (list_any (λ name. bytes_eq name text)) same ∙ sym (named n.now text))

  values_same : (values : List Text) → values_kinds false (vp.Names m) values ≡ values_kinds false (vp.Names n) values
  values_same [] = refl
  values_same (v ∷ vs) = ap₂ or_else (ap (λ b. cond b [] (kind.InvalidValue ∷ [])) (accepted v)) (values_same vs)

  -- a rule that takes one of these words
  abbrev of_words : Rule → Bor (List (Bor Text)) → Rule
  of_words r words = record r { action = Some Set; parser = Some (vp.Names words); ignore_case = false }

  choice_alike : (r : Rule) → Alike (of_words r m) (of_words r n)
  choice_alike r = record {
    id = refl;
    takes = refl;
    most = refl;
    used = λ values rows. refl;
    fault = λ again values rows.
        ap (λ k. or_else (range_kinds (unwrap_or_range r.range).start_inclusive (walks.most_values r) (length values))
        (or_else (faults.repeat_fault again r.id rows) k)) (values_same (walks.values_or_missing r values));
  }

-- the same words
pub record AreSame (w x : Choices) : Type 0 where
  pub modes : map (λ n. n.now) w.modes.now ≡ map (λ n. n.now) x.modes.now
  pub answers : map (λ n. n.now) w.answers.now ≡ map (λ n. n.now) x.answers.now
  pub sets : map (λ n. n.now) w.sets.now ≡ map (λ n. n.now) x.sets.now

module _ (w x : Choices) (same : AreSame w x) where
  modes_alike : Alike (rule 0 w) (rule 0 x)
  modes_alike = choice_alike w.modes x.modes same.modes (rule 0 w)

  answers_alike : Alike (rule 1 w) (rule 1 x)
  answers_alike = choice_alike w.answers x.answers same.answers (rule 1 w)

  sets_alike : Alike (rule 2 w) (rule 2 x)
  sets_alike = choice_alike w.sets x.sets same.sets (rule 2 w)

  by_id : (id : Text) → AlikeIfSome (walks.arg_by_id (shape w).rules id) (walks.arg_by_id (shape x).rules id)
  by_id id = next_alike (bytes_eq (rule 0 w).id id) (rule 0 w) (rule 0 x) _ _ modes_alike
      (next_alike (bytes_eq (rule 1 w).id id) (rule 1 w) (rule 1 x) _ _ answers_alike
      (next_alike (bytes_eq (rule 2 w).id id) (rule 2 w) (rule 2 x) _ _ sets_alike (alike_if_some _)))

  by_long : (name : Text) → AlikeIfSome (walks.arg_by_long (shape w).rules name) (walks.arg_by_long (shape x).rules name)
  by_long name = next_alike (walks.has_long (rule 0 w) name) (rule 0 w) (rule 0 x) _ _ modes_alike
      (next_alike (walks.has_long (rule 1 w) name) (rule 1 w) (rule 1 x) _ _ answers_alike
      (next_alike (walks.has_long (rule 2 w) name) (rule 2 w) (rule 2 x) _ _ sets_alike (alike_if_some _)))

  by_short : (c : ℕ) → AlikeIfSome (walks.arg_by_short (shape w).rules c) (walks.arg_by_short (shape x).rules c)
  by_short c = alike_if_some (walks.arg_by_short (shape x).rules c)

  walks_same : (words : List Text) → walks.walk (shape w).rules [] walks.nothing_held words ≡ walks.walk (shape x).rules [] walks.nothing_held words
  walks_same words = walk (shape w) (shape x).rules by_id by_long by_short (λ i. refl) (λ i. refl) [] words walks.nothing_held

  defaults_same : (rows : List Row) → fold walks.with_default rows (shape w).rules ≡ fold walks.with_default rows (shape x).rules
  defaults_same rows = refl

  finished_same : (h : Held) → walks.finished (shape w).rules h ≡ walks.finished (shape x).rules h
  finished_same h = defaults_same (walks.settled (shape w).rules h).rows
      ∙ ap (λ k. fold walks.with_default k.rows (shape x).rules) (settled (shape w) (shape x).rules by_id by_long by_short (λ i. refl) (λ i. refl) h)

  pub same_matches : (words : List Text) → matches_of (app_with w) words ≡ matches_of (app_with x) words
  same_matches words = finished_same (walks.walk (shape w).rules [] walks.nothing_held words).held
      ∙ ap (λ z. walks.finished (shape x).rules z.held) (walks_same words)

  -- what is wrong with the default of a rule
  abbrev default_fault : Rule → List Row → Kinds → Kinds
  default_fault r rows k = cond (walks.has_row r.id rows || walks.is_empty r.defaults) [] k

  set_faults : (rows : List Row) → faults.defaults_fault rows (drop 2 (shape w).rules) ≡ faults.defaults_fault rows (drop 2 (shape x).rules)
  unfolding faults.defaults_fault
  set_faults rows = ap (λ k. or_else (default_fault (rule 2 w) rows k)
      (faults.defaults_fault (walks.with_default rows (rule 2 x)) (drop 3 (shape x).rules))) (values_same w.sets x.sets same.sets (rule 2 w).defaults)

  later_faults : (rows : List Row) → faults.defaults_fault rows (drop 1 (shape w).rules) ≡ faults.defaults_fault rows (drop 1 (shape x).rules)
  unfolding faults.defaults_fault
  later_faults rows = ap₂ or_else
      (ap (default_fault (rule 1 w) rows) (values_same w.answers x.answers same.answers (rule 1 w).defaults)) (set_faults (walks.with_default rows (rule 1 x)))

  default_faults : (rows : List Row) → faults.defaults_fault rows (shape w).rules ≡ faults.defaults_fault rows (shape x).rules
  unfolding faults.defaults_fault
  default_faults rows = ap₂ or_else
      (ap (default_fault (rule 0 w) rows) (values_same w.modes x.modes same.modes (rule 0 w).defaults)) (later_faults (walks.with_default rows (rule 0 x)))

  -- what is refused after the walk
  abbrev end_fault : Choices → Walk → Kinds
  end_fault choices z =
      let a = built (app_with choices) in
      or_else (faults.entered_fault a z.stopped)
      (or_else (faults.settle_fault a.top.rules a.top.args_override_self z.held)
      (or_else (faults.defaults_fault (walks.settled a.top.rules z.held).rows a.top.rules)
      (faults.check_fault a.top (walks.finished a.top.rules z.held) (is_some (entered a z.stopped)))))

  end_same : (z : Walk) → end_fault w z ≡ end_fault x z
  end_same z =
      let held = settled (shape w) (shape x).rules by_id by_long by_short (λ i. refl) (λ i. refl) z.held in
      ap (λ k. or_else (faults.entered_fault (built (app_with x)) z.stopped) k)
      (ap₂ or_else (settle_fault (shape w) (shape x).rules by_id by_long by_short (λ i. refl) (λ i. refl) (shape x).args_override_self z.held)
      (ap₂ or_else (default_faults (walks.settled (shape w).rules z.held).rows ∙ ap (λ k. faults.defaults_fault k.rows (shape x).rules) held)
      (ap (λ rows. faults.check_fault (shape x) rows (is_some (entered (built (app_with x)) z.stopped))) (finished_same z.held))))

  pub same_fault : (words : List Text) → fault_of (app_with w) words ≡ fault_of (app_with x) words
  same_fault words =
      ap₂ or_else (walk_fault (shape w) (shape x).rules by_id by_long by_short (λ i. refl) (λ i. refl) [] words (walks.walk_from walks.nothing_held))
      (end_same (walks.walk (shape w).rules [] walks.nothing_held words) ∙ ap (end_fault x) (walks_same words))

-- each command of the program gives the same matches, and refuses the same words
module _ (a b : App) (is : IsCommand a) (is_too : IsCommand b) where
  abbrev held : (c : App) → IsCommand c → Choices
  held c o = record { modes = o.modes; answers = o.answers; sets = o.sets }

  same_words : AreSame (held a is) (held b is_too)
  same_words = record {
    modes = is.mode_words ∙ sym is_too.mode_words;
    answers = is.answer_words ∙ sym is_too.answer_words;
    sets = is.set_words ∙ sym is_too.set_words;
  }

  pub one_fault : (words : List Text) → fault_of a words ≡ fault_of b words
  one_fault words =
      ap (λ x. fault_of x words) is.app
      ∙ (same_fault (held a is) (held b is_too) same_words words ∙ sym (ap (λ x. fault_of x words) is_too.app))

  pub same_rows : (words : List Text) → matches_of a words ≡ matches_of b words
  same_rows words =
      ap (λ x. matches_of x words) is.app
      ∙ (same_matches (held a is) (held b is_too) same_words words ∙ sym (ap (λ x. matches_of x words) is_too.app))

-- words give one answer
pub never_both : (words : List Text) (s : Settings) → GivesSettings words s → RefusesWords words → ⊥
never_both words s gives refuses = refuses.refused (one_fault refuses.app gives.app refuses.is_command gives.is_command words ∙ gives.taken)

pub one_settings : (words : List Text) (s t : Settings) → GivesSettings words s → GivesSettings words t → s ≡ t
one_settings words s t one two =
    one.settings ∙ (ap settings_in (same_rows one.app two.app one.is_command two.is_command words) ∙ sym two.settings)
