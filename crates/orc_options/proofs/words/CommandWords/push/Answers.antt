use Rattle.std.proofs.Common.{◌∙◌, ◌++◌, ◌∷◌, [], ap, ap₂, List, map, refl, string_bytes, ℕ}
use Rattle.std.proofs.lemmas.List.{map-append}
use Rattle.std.proofs.lemmas.Result.{err_from_is_err_and}
use Rattle.orc_options.proofs.words.CommandWords.push.Goals as goal

pub returns : goal.returns
returns c = record {
  ok = ap (map string_bytes) c.in_ok-push.ensures.items
      ∙ (map-append string_bytes c.self.inside.words.items (c.in_ok-word.word ∷ [])
      ∙ ap₂ (λ (ws : List (List ℕ)) (w : List ℕ). ws ++ w ∷ []) c.self.view_is c.in_ok-word.ensures.ok);
  err = tt;
}

pub returns-in_err-word : goal.returns-in_err-word
returns-in_err-word c =
    let r = err_from_is_err_and c.from_residual.result c.from_residual.ensures.1 in
    rw r.1 (record { ok = tt; err = refl })

pub returns-in_err-push : goal.returns-in_err-push
returns-in_err-push c =
    let r = err_from_is_err_and c.from_residual-in_err-push.result c.from_residual-in_err-push.ensures.1 in
    rw r.1 (record { ok = tt; err = ap (map string_bytes) c.in_err-push.ensures.items ∙ c.self.view_is })
