-- Each refusal has its cause, and the new places make new passes.
use Rattle.std.proofs.Common.{ap, arith, length, refl, sym, ◌∙◌, ◌≡◌}
use Rattle.orc_words.specs.Bounds.{Bounds, bounds_of}
use Rattle.mooringakee_c_passes.specs.Making.{IsNewSetSeat, sizes_of}
use Rattle.mooringakee_c_passes.specs.declared.answer.Answer.TheVariants.{Done, Live, NoMemory, Shape}
use Rattle.mooringakee_c_passes.proofs.NewPasses.{new_passes}
use Rattle.mooringakee_c_passes.proofs.Saying.{said}
use Rattle.mooringakee_c.proofs.mooringakee_proved_set_make.Goals as goal

pub returns-in_default : goal.returns-in_default
returns-in_default c = (Shape, said Shape c.code.result c.code.ensures, (c.shape_of.ensures.out_of_range c.in_default.is, refl))

pub returns-then-not-are_free : goal.returns-then-not-are_free
returns-then-not-are_free c = (
  Live,
  said Live c.code-then-not-are_free.result c.code-then-not-are_free.ensures,
  ((λ free. cc (c.if-not-are_free.ensures.1 free)), refl),
)

pub returns-in_default-set_seats : goal.returns-in_default-set_seats
returns-in_default-set_seats c = (
  NoMemory,
  said NoMemory c.code-in_default-set_seats.result c.code-in_default-set_seats.ensures,
  (c.in-Some.ensures.in_range, c.if-not-are_free.ensures.0 refl, refl),
)

pub returns : goal.returns
returns c =
    let sizes = c.in-Some.ensures.sizes in
    let agents : (bounds_of c.in-Some.shape).agents ≡ length c.args.passes.now = ap (λ (b : Bounds). b.agents) sizes in
    let same : length c.hand_out.new.places ≡ length c.args.passes.now = omega (arith, c.hand_out.auto.places) in (
      Done,
      said Done c.code-2.result c.code-2.ensures,
      (
        c.in-Some.ensures.in_range,
        c.if-not-are_free.ensures.0 refl,
        new_passes (λ domain agent seat. IsNewSetSeat domain c.args.turns agent seat) (bounds_of c.in-Some.shape)
            (sizes_of c.args.rows c.args.buckets (length c.hand_out.new.places)) c.hand_out.new.places c.in-Ok.seats.items
            (sizes ∙ (λ j. sizes_of c.args.rows c.args.buckets (sym same j))) (c.in-Ok.ensures.many ∙ (agents ∙ sym same)) c.hand_out.ensures
            c.in-Ok.ensures.places,
      ),
    )
