use Rattle.std.proofs.Common.{◌<◌, IsUtf8, [], below_more, length, refl, rules}
use Rattle.std.proofs.lemmas.List.Elements.{All-from_get_or}
use Rattle.csv.specs.Records.{fields_of}
use Rattle.orc_job_files.specs.RecordFiles.{field}
use Rattle.orc_job_files.proofs.record_fields.is_text.Goals as goal

pub returns-then-not-is_utf8 : goal.returns-then-not-is_utf8
returns-then-not-is_utf8 c =
    let fields = fields_of c.args.row.now in
    let inside : c.loop-place.place < length fields = search rules in
    let other : ¬ IsUtf8 (field fields c.loop-place.place) = search rules in
    (λ bad. absurd (cc bad), λ all. absurd (other (all c.loop-place.place [] inside)))

pub loop-place-preserved : goal.loop-place-preserved
loop-place-preserved c =
    let text : IsUtf8 (field (fields_of c.args.row.now) c.loop-place.place) = search rules in
    below_more _ _ c.loop-place.invariant text

pub returns : goal.returns
returns c =
    let fields = fields_of c.args.row.now in
    (λ _. All-from_get_or IsUtf8 fields [] (λ i inside. c.loop-place.invariant i (search rules)), λ _. refl)
