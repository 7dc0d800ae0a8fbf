use Rattle.std.proofs.Common.{refl, rules}
use Rattle.cells.specs.Band.{in_band, band_slot}
use Rattle.cells.proofs.Slotted.{slotted_blank}
use Rattle.cells.proofs.band.Band.shape.Goals as goal

pub returns : goal.returns
returns c =
    let w = c.args.width in
    let last = c.args.last in
    (search rules, λ i. record { width = w; last = last; cell = slotted_blank (in_band w last) (band_slot last) _ _ _ refl (c.fill.ensures.items (λ y h. h)) i })
