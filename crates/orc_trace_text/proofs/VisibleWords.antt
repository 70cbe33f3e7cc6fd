-- The words of a step and of a shape are visible.
use Rattle.std.proofs.Common.{ℕ, zero, suc, ◌*◌, ◌^◌, ◌<◌, ◌≤◌, Some, None, refl, arith}
use Rattle.std.specs.Fmt.{decimal}
use Rattle.orc_words.specs.Bounds.{Bounds, IsShape}
use Rattle.orc_core.specs.declared.ops.CounterUse.TheVariants as how
use Rattle.orc_core.specs.declared.ops.Op.{Op}
use Rattle.orc_core.specs.declared.ops.Op.TheVariants as op
use Rattle.orc_trace_text.specs.TraceText.{IsReadableOp, words_of}
use Rattle.orc_trace_text.proofs.Arguments.{visible-link, visible-place}
use Rattle.orc_trace_text.proofs.Visible.{AreVisible, IsVisible, visible-decimal}

below : (end n : ℕ) → end ≤ 2 ^ 64 → n < end → IsVisible (decimal n)
below end n wide h = visible-decimal n (omega arith)

row : (b : Bounds) (r : ℕ) → IsShape b → r < b.rows → IsVisible (decimal r)
row b r s h = let few = s.rows in below b.rows r (omega arith) h

slot : (k : ℕ) → k < 8 → IsVisible (decimal k)
slot k h = below 8 k (omega arith) h

scan : (b : Bounds) (k : ℕ) → IsShape b → k < 8 * b.agents → IsVisible (decimal k)
scan b k s h = let few = s.agents in below (8 * b.agents) k (omega arith) h

pub visible-words : (b : Bounds) (o : Op) → IsShape b → IsReadableOp b o → AreVisible (words_of o)
visible-words b op.Enroll s h = (refl, tt)
visible-words b (op.GateLook r) s h = (refl, (row b r s h, tt))
visible-words b (op.GateTake r) s h = (refl, (row b r s h, tt))
visible-words b (op.Fill r which v) s h = (refl, (row b r s h.0, (below 2 which (omega arith) h.1, (visible-decimal v h.2, tt))))
visible-words b (op.Read r which) s h = (refl, (row b r s h.0, (below 2 which (omega arith) h.1, tt)))
visible-words b (op.LinkLoad p None) s h = (refl, (visible-place b p s h, tt))
visible-words b (op.LinkLoad p (Some k)) s h = (refl, (visible-place b p s h.0, (slot k h.1, tt)))
visible-words b (op.Publish k r) s h = (refl, (slot k h.0, (row b r s h.1, tt)))
visible-words b (op.Clear k) s h = (refl, (slot k h, tt))
visible-words b (op.Arm r) s h = (refl, (row b r s h, tt))
visible-words b (op.LinkCas p f t) s h = (refl, (visible-place b p s h.0, (visible-link b f s h.1, (visible-link b t s h.2, tt))))
visible-words b (op.LinkStore r l zero) s h = (refl, (row b r s h.0, (visible-link b l s h.2, tt)))
visible-words b (op.LinkStore r l (suc n)) s h = (refl, (row b r s h.0, (visible-link b l s h.2, tt)))
visible-words b (op.Inc r) s h = (refl, (row b r s h, tt))
visible-words b (op.Dec r) s h = (refl, (row b r s h, tt))
visible-words b (op.SetRetired r q) s h = (refl, (row b r s h.0, (visible-decimal q h.1, tt)))
visible-words b (op.CounterLoad r how.Check) s h = (refl, (row b r s h, tt))
visible-words b (op.CounterLoad r how.Start) s h = (refl, (row b r s h, tt))
visible-words b (op.CounterLoad r how.End) s h = (refl, (row b r s h, tt))
visible-words b (op.Unretire r) s h = (refl, (row b r s h, tt))
visible-words b (op.SlotLook k) s h = (refl, (scan b k s h, tt))
visible-words b (op.Hand k) s h = (refl, (scan b k s h, tt))
visible-words b (op.TakeIn k) s h = (refl, (slot k h, tt))
visible-words b (op.Free r) s h = (refl, (row b r s h, tt))
visible-words b (op.MoveOn k r) s h = (refl, (slot k h.0, (row b r s h.1, tt)))
visible-words b (op.HandoverLook k) s h = (refl, (slot k h, tt))
visible-words b (op.DecHeld r) s h = (refl, (row b r s h, tt))
